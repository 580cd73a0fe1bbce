use Rattle.std.proofs.Common.{◌≡◌, take}
use Rattle.chisel_debit.specs.Hardware.{operator_debits}
use Rattle.chisel_debit.proofs.hardware.operator_debits.Given as goal

abbrev pub invariant-loop-operator : goal.invariant-loop-operator
invariant-loop-operator l = l.debits.items ≡ operator_debits l.known.base (take l.operator-index l.operators)
