-- The energy of runs by what was counted: uses times the energies of labels, entries times what is held.
use Rattle.std.specs.Prelude.{ℕ, suc, ◌+◌, ◌*◌, min, List, [], ◌∷◌, get_or, slice_get, slice_index, sum_by}
use Rattle.std.specs.Option.{option_map_or}
use Rattle.rely_hard.specs.declared.hardware.Hardware.{Hardware}
use Rattle.rely_kernel.specs.declared.kernel.Kernel.{Kernel}
use Rattle.rely_kernel.specs.declared.kernel.Linked.{Linked}
use Rattle.rely_kernel.specs.declared.label.Label.{Label}
use Rattle.rely_kernel.specs.declared.label.Label.TheVariants as label
use Rattle.rely_kernel.specs.declared.setting.Setting.{Setting}
use Rattle.rely_kernel.specs.Labels.{number}
use Rattle.rely_kernel.specs.Rates.{own}
use Rattle.rely_machine.specs.declared.outcome.Outcome.{Outcome}
use Rattle.rely_machine.specs.Cost.{energy_of, hold}

-- ---- sums

-- of a list whose items are numbered from a on
abbrev pub sum_from : {X : Type 0} → (ℕ → X → ℕ) → ℕ → List X → ℕ
sum_from f a [] = 0
sum_from f a (x ∷ xs) = f a x + sum_from f (suc a) xs

-- a number, or the greatest of 64 bits where it is less
abbrev pub capped : ℕ → ℕ
capped n = min n 18446744073709551615

-- ---- energies of memories

-- the energy of a read from the memory with that number
abbrev pub read_energy : Hardware → ℕ → ℕ
read_energy h memory = option_map_or (λ m. m.read_energy) (slice_get h.memories memory) 0

-- the energy of a write to it
abbrev pub write_energy : Hardware → ℕ → ℕ
write_energy h memory = option_map_or (λ m. m.write_energy) (slice_get h.memories memory) 0

-- ---- what a function uses under a setting, by the uses of its labels' numbers

-- the uses of a label, times its energy
abbrev pub of_label : Hardware → Kernel → Setting → (ℕ → ℕ) → Label → ℕ
of_label h k t uses l = uses (number k l) * energy_of h k t l

abbrev pub of_sites : Hardware → Kernel → Setting → (ℕ → ℕ) → ℕ
of_sites h k t uses = sum_from (λ site _. of_label h k t uses (label.Op site)) 0 k.sites

abbrev pub of_vars : Hardware → Kernel → Setting → (ℕ → ℕ) → ℕ
of_vars h k t uses = sum_from (λ v _. of_label h k t uses (label.Read v) + of_label h k t uses (label.Write v)) 0 k.vars

-- of all labels; a call has no energy of its own
abbrev pub used : Hardware → Kernel → Setting → (ℕ → ℕ) → ℕ
used h k t uses = of_sites h k t uses + of_vars h k t uses

-- ---- runs

-- of a function that is reached, under its own kinds: what it uses, and what each entry holds
abbrev pub of_callee : Hardware → Outcome → ℕ → Kernel → ℕ
of_callee h o f k = used h k (own k) (slice_index (get_or o.inner f [])) + slice_index o.entries f * hold h k (own k)

-- of one run, under a setting of the function that runs
abbrev pub of_run : Hardware → Linked → Setting → Outcome → ℕ
of_run h l t o = hold h l.kernel t + used h l.kernel t (slice_index o.uses) + sum_from (of_callee h o) 0 l.inner

-- of all
abbrev pub of_runs : Hardware → Linked → Setting → List Outcome → ℕ
of_runs h l t runs = sum_by (of_run h l t) runs
