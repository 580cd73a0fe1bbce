use Rattle.std.proofs.Common.{◌≡◌, ◌≤◌, length, sym, ap, subst, ◌∙◌, arith}
use Rattle.std.specs.List.{All}
use Rattle.rely_kernel.specs.Machine.{functions}
use Rattle.rely_machine.proofs.Ending.{rows_bounded}
use Rattle.rely_machine.proofs.tally.Tally.new.Goals as goal

pub invariant_of-result : goal.invariant_of-result
invariant_of-result c =
    let long : length c.in_ok-no_spares.field-0.items ≡ length c.in_ok-entries.entries.items =
    let o = c.in_ok-entries.entries.ok in omega (arith, o, c.in_ok-no_spares.ensures, c.len.ensures, c.len-2.ensures, c.in_ok-entries.ensures.len) in
    (omega (arith, c.if-limit-eq0.false), subst (All (All (λ n. n ≤ 0))) (sym c.in_ok-rows_of.ensures) (rows_bounded (functions c.args.l.now)), long ∙ ap length (sym c.from_vec.ensures))
