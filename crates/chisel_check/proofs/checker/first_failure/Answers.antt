use Rattle.std.proofs.Common.{arith}
use Rattle.std.proofs.lemmas.Grind.{common_steps}
use Rattle.chisel_cert.specs.Node.{certificate_of}
use Rattle.chisel_check.specs.Failures.{FailsFirst}
use Rattle.chisel_check.proofs.Failing.{tree_fails}
use Rattle.chisel_check.proofs.checker.first_failure.Goals as goal

pub returns-in_err-check_tree-clause-err : goal.returns-in_err-check_tree-clause-err
returns-in_err-check_tree-clause-err c =
    let e = c.in_err-check_tree.field-0.0 in
    let bad : FailsFirst c.args.t.now (certificate_of c.args.c.now) e.line e.why =
    tree_fails c.args.t.now (certificate_of c.args.c.now) e c.in_ok-check_head.ensures.ok c.in_ok-check_rows.ensures.ok c.in_err-check_tree.ensures.err in
    grind (arith, common_steps, bad)
