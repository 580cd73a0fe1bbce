-- What each option of a function's places spends of a budget, by the counts of a conjunct.
use Rattle.std.specs.Prelude.{ℕ, ◌+◌, ◌*◌, List, ◌++◌, map, slice_index}
use Rattle.rely_num.specs.declared.op.Op.{Op}
use Rattle.rely_hard.specs.declared.hardware.Hardware.{Hardware}
use Rattle.rely_kernel.specs.declared.kernel.Kernel.{Kernel}
use Rattle.rely_kernel.specs.declared.kernel.Site.{Site}
use Rattle.rely_kernel.specs.declared.kernel.Var.{Var}
use Rattle.rely_kernel.specs.declared.label.Label.TheVariants as label
use Rattle.rely_kernel.specs.Labels.{number}
use Rattle.rely_kernel.specs.Setting.{kinds_of}
use Rattle.rely_machine.specs.EnergySums.{sum_from}
use Rattle.chisel_debit.specs.Debits.{debit}
use Rattle.chisel_problem.specs.declared.places.Place.{Place}
use Rattle.chisel_problem.specs.Places.{numbered}

-- of an operator that is counted so often, with each kind
abbrev pub kind_spending : Hardware → Op → ℕ → List ℕ
kind_spending h op count = map (λ kind. count * debit h.base kind.right) (kinds_of h op)

-- of so many reads and writes, with each memory
abbrev pub memory_spending : Hardware → ℕ → ℕ → List ℕ
memory_spending h reads writes = map (λ m. reads * debit h.base m.read + writes * debit h.base m.write) h.memories

abbrev pub site_spending : Hardware → Kernel → List ℕ → ℕ → Site → Place
site_spending h k counts i site = record {
  slot = site.kind;
  prices = kind_spending h site.op (slice_index counts (number k (label.Op i)));
}

abbrev pub variable_spending : Hardware → Kernel → List ℕ → ℕ → Var → Place
variable_spending h k counts v var = record {
  slot = var.memory;
  prices = memory_spending h (slice_index counts (number k (label.Read v))) (slice_index counts (number k (label.Write v)));
}

abbrev pub spending_at_sites : Hardware → Kernel → List ℕ → List Place
spending_at_sites h k counts = numbered (site_spending h k counts) 0 k.sites

abbrev pub spending_at_variables : Hardware → Kernel → List ℕ → List Place
spending_at_variables h k counts = numbered (variable_spending h k counts) 0 k.vars

-- the sites, then the variables
abbrev pub spending : Hardware → Kernel → List ℕ → List Place
spending h k counts = spending_at_sites h k counts ++ spending_at_variables h k counts

-- what the call places spend: each count times the debit of the callee's bound
abbrev pub calls_spend : Hardware → Kernel → List ℕ → ℕ
calls_spend h k counts = sum_from (λ place site. slice_index counts (number k (label.Call place)) * debit h.base site.bound) 0 k.calls
