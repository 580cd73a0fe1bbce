-- The table of a kernel: its open places are the decisions, and each conjunct of each claim is a row.
use Rattle.std.specs.Prelude.{ℕ, ◌≡◌, ◌+◌, ◌≤◌, ◌<◌, ◌^◌, List, flat_map, length, map, pos, ◌-ℤ◌, sum_by}
use Rattle.std.specs.List.{AllByRecursion, zip}
use Rattle.rely_num.specs.declared.conj.Conj.{Conj}
use Rattle.rely_hard.specs.Valid.{IsHardware}
use Rattle.rely_hard.specs.declared.hardware.Hardware.{Hardware}
use Rattle.rely_kernel.specs.declared.kernel.Kernel.{Kernel}
use Rattle.rely_kernel.specs.declared.kernel.Linked.{Linked}
use Rattle.rely_kernel.specs.Labels.{labels_of}
use Rattle.rely_kernel.specs.Machine.{functions}
use Rattle.rely_kernel.specs.Setting.{IsClosed, IsOn}
use Rattle.rely_kernel.specs.Valid.{IsLinked}
use Rattle.rely_machine.specs.declared.outcome.Outcome.{Outcome}
use Rattle.rely_machine.specs.EnergySums.{sum_from}
use Rattle.rely_machine.specs.Run.{AreRuns, most_runs, steps_limit}
use Rattle.rely_predicate.specs.Predicates.{Conjuncts}
use Rattle.chisel_debit.specs.Debits.{budget}
use Rattle.chisel_table.specs.declared.table.Row.{Row}
use Rattle.chisel_table.specs.declared.table.Table.{Table}
use Rattle.chisel_problem.specs.declared.uses.Whose.TheVariants.{Main, Inner}
use Rattle.chisel_problem.specs.Energies.{energies}
use Rattle.chisel_problem.specs.Places.{closed, opened}
use Rattle.chisel_problem.specs.Spending.{calls_spend, spending}

-- ---- energy

-- what the reached functions cost, under their own kinds
abbrev pub inner_energy : Hardware → List Kernel → List Outcome → ℕ
inner_energy h inner runs = sum_from (λ f k. closed (energies h k runs (Inner f))) 0 inner

-- what no choice changes
abbrev pub fixed_energy : Hardware → Linked → List Outcome → ℕ
fixed_energy h l runs = closed (energies h l.kernel runs Main) + inner_energy h l.inner runs

-- ---- rows

-- a budget, less what the named places and the calls spend, and what each option of the open places spends
abbrev pub row_within : Hardware → Kernel → ℕ → List ℕ → Row
row_within h k allowed counts = record {
  budget = pos allowed -ℤ pos (closed (spending h k counts) + calls_spend h k counts);
  spent = opened (spending h k counts);
}

-- one for each conjunct
abbrev pub rows_within : Hardware → Kernel → ℕ → List Conj → List Row
rows_within h k allowed cs = map (λ c. row_within h k allowed c.counts) cs

-- one for each conjunct of each claim
abbrev pub rows_of : Hardware → Kernel → List Conjuncts → List Row
rows_of h k preds = flat_map (λ x. rows_within h k (budget h.base x.0.bound) x.1.conjs) (zip k.claims preds)

-- ---- the table

unfoldable pub table_of : Hardware → Linked → List Conjuncts → List Outcome → Table
table_of h l preds runs = record {
  fixed = fixed_energy h l runs;
  energies = opened (energies h l.kernel runs Main);
  rows = rows_of h l.kernel preds;
}

-- ---- what it is made of

-- a claim's predicate: some conjuncts over the kernel's labels, with small counts
pub record IsForKernel (k : Kernel) (p : Conjuncts) : Type 0 where
  pub labels : p.labels ≡ labels_of k
  pub some : 0 < length p.conjs
  pub small : AllByRecursion (λ c. AllByRecursion (λ n. n < 2 ^ 36) c.counts) p.conjs

-- one for each claim
pub record ArePredicates (k : Kernel) (preds : List Conjuncts) : Type 0 where
  pub each : AllByRecursion (IsForKernel k) preds
  pub one_a_claim : length preds ≡ length k.claims

-- functions on a valid hardware, of which only the one that runs has open places
pub record AreReady (h : Hardware) (l : Linked) : Type 0 where
  pub hardware : IsHardware h
  pub linked : IsLinked l
  pub on : AllByRecursion (IsOn h) (functions l)
  pub closed : AllByRecursion IsClosed l.inner

-- some few and short runs of it
pub record AreSamples (l : Linked) (runs : List Outcome) : Type 0 where
  pub outcomes : AreRuns l runs
  pub some : 1 ≤ length runs
  pub few : length runs ≤ most_runs
  pub short : sum_by (λ o. o.steps) runs < steps_limit
