-- The debits of a hardware's reliabilities.
use Rattle.std.specs.Prelude.{ℕ, List, map}
use Rattle.rely_hard.specs.declared.hardware.Hardware.{Hardware}
use Rattle.rely_hard.specs.declared.hardware.KindSpec.{KindSpec}
use Rattle.rely_hard.specs.declared.hardware.OpSpec.{OpSpec}
use Rattle.chisel_debit.specs.Debits.{debit}
use Rattle.chisel_debit.specs.declared.hardware.DebitList.{DebitList}

abbrev pub kind_debits : ℕ → List KindSpec → List ℕ
kind_debits base kinds = map (λ k. debit base k.right) kinds

abbrev pub operator_debits : ℕ → List OpSpec → List (List ℕ)
operator_debits base operators = map (λ o. kind_debits base o.kinds) operators

-- for each operator those of its kinds, and those of the memories, in the hardware's order
abbrev pub debit_list : Hardware → DebitList
debit_list h = record {
  ops = operator_debits h.base h.operators;
  reads = map (λ m. debit h.base m.read) h.memories;
  writes = map (λ m. debit h.base m.write) h.memories;
}
