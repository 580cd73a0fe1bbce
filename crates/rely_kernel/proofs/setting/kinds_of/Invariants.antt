use Rattle.std.proofs.Common.{◌≡◌, drop, find}
use Rattle.rely_num.specs.Ops.{is_op}
use Rattle.rely_kernel.proofs.setting.kinds_of.Given as goal

abbrev pub invariant-loop-operator : goal.invariant-loop-operator
invariant-loop-operator l =
    let operators = l.h.operators in find (λ o. is_op o.op l.op) (drop l.operator-index operators) ≡ find (λ o. is_op o.op l.op) operators
