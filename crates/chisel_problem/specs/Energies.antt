-- What each option of a function's places costs in energy, over all runs.
use Rattle.std.specs.Prelude.{ℕ, ◌+◌, ◌*◌, List, ◌++◌, map}
use Rattle.rely_num.specs.declared.op.Op.{Op}
use Rattle.rely_hard.specs.declared.hardware.Hardware.{Hardware}
use Rattle.rely_kernel.specs.declared.kernel.Kernel.{Kernel}
use Rattle.rely_kernel.specs.declared.kernel.Site.{Site}
use Rattle.rely_kernel.specs.declared.kernel.Var.{Var}
use Rattle.rely_kernel.specs.declared.label.Label.TheVariants as label
use Rattle.rely_kernel.specs.Labels.{number}
use Rattle.rely_kernel.specs.Machine.{size}
use Rattle.rely_kernel.specs.Setting.{kinds_of}
use Rattle.rely_machine.specs.declared.outcome.Outcome.{Outcome}
use Rattle.chisel_problem.specs.declared.places.Place.{Place}
use Rattle.chisel_problem.specs.declared.uses.Whose.{Whose}
use Rattle.chisel_problem.specs.Places.{numbered}
use Rattle.chisel_problem.specs.Uses.{uses, holds}

-- of an operator that is used so often, with each kind
abbrev pub kind_energies : Hardware → Op → ℕ → List ℕ
kind_energies h op used = map (λ kind. used * kind.energy) (kinds_of h op)

-- of so many reads and writes, and so many numbers held, with each memory
abbrev pub memory_energies : Hardware → ℕ → ℕ → ℕ → List ℕ
memory_energies h reads writes held = map (λ m. reads * m.read_energy + writes * m.write_energy + held * m.hold) h.memories

abbrev pub site_energies : Hardware → Kernel → List Outcome → Whose → ℕ → Site → Place
site_energies h k runs whose i site = record {
  slot = site.kind;
  prices = kind_energies h site.op (uses runs whose (number k (label.Op i)));
}

abbrev pub variable_energies : Hardware → Kernel → List Outcome → Whose → ℕ → Var → Place
variable_energies h k runs whose v var = record {
  slot = var.memory;
  prices = memory_energies h (uses runs whose (number k (label.Read v))) (uses runs whose (number k (label.Write v))) (size var * holds runs whose);
}

abbrev pub energies_at_sites : Hardware → Kernel → List Outcome → Whose → List Place
energies_at_sites h k runs whose = numbered (site_energies h k runs whose) 0 k.sites

abbrev pub energies_at_variables : Hardware → Kernel → List Outcome → Whose → List Place
energies_at_variables h k runs whose = numbered (variable_energies h k runs whose) 0 k.vars

-- the sites of a function, then its variables
abbrev pub energies : Hardware → Kernel → List Outcome → Whose → List Place
energies h k runs whose = energies_at_sites h k runs whose ++ energies_at_variables h k runs whose
