-- How often runs use the labels of a function together, and how often they hold its variables.
use Rattle.std.specs.Prelude.{ℕ, List, [], get_or, slice_index, sum_by}
use Rattle.rely_machine.specs.declared.outcome.Outcome.{Outcome}
use Rattle.chisel_problem.specs.declared.uses.Whose.{Whose}
use Rattle.chisel_problem.specs.declared.uses.Whose.TheVariants.{Main, Inner}

-- ---- one run

-- the uses of the labels of the function that runs, or of a function that it reaches
abbrev pub uses_of : Whose → Outcome → List ℕ
uses_of Main o = o.uses
uses_of (Inner f) o = get_or o.inner f []

-- a run holds its function's variables once, and those of a reached function at each entry
abbrev pub holds_of : Whose → Outcome → ℕ
holds_of Main o = 1
holds_of (Inner f) o = slice_index o.entries f

-- ---- all runs

-- the uses of the label with number i
abbrev pub uses : List Outcome → Whose → ℕ → ℕ
uses runs whose i = sum_by (λ o. slice_index (uses_of whose o) i) runs

abbrev pub holds : List Outcome → Whose → ℕ
holds runs whose = sum_by (holds_of whose) runs
