use Rattle.chisel_cert.specs.Node.{certificate_of}
use Rattle.chisel_check.specs.Failures.{AreTold}
use Rattle.chisel_check.proofs.checker.check_rows.Given as goal

abbrev pub invariant-loop-row : goal.invariant-loop-row
invariant-loop-row l = AreTold l.t (certificate_of l.c) l.row
