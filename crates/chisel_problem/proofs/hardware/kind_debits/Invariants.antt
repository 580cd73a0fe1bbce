use Rattle.std.proofs.Common.{◌≡◌, drop, find}
use Rattle.rely_num.specs.Ops.{is_op}
use Rattle.chisel_problem.proofs.hardware.kind_debits.Given as goal

abbrev pub invariant-loop-i : goal.invariant-loop-i
invariant-loop-i l =
    let operators = l.h.operators in find (λ o. is_op o.op l.op) (drop l.i operators) ≡ find (λ o. is_op o.op l.op) operators
