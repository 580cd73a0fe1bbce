-- The search machine, a branch and bound: a list of open partial choices, and the best choice so far.
use Rattle.std.specs.Prelude.{ℕ, zero, suc, Bool, true, false, ◌≡◌, ◌+◌, ◌*◌, ◌<◌, List, [], ◌∷◌, ◌++◌, length, map, slice_index_or, Option, Some, None, ◌⊎◌}
use Rattle.chisel_table.specs.declared.closing.Close.{Close}
use Rattle.chisel_table.specs.declared.partial.Partial.{Partial}
use Rattle.chisel_table.specs.declared.table.Table.{Table}
use Rattle.chisel_table.specs.Closings.{first_close}
use Rattle.chisel_table.specs.Lagrangian.{value}
use Rattle.chisel_table.specs.Partials.{slot, is_unfixed, with_option, nothing_fixed, IsPartial}
use Rattle.chisel_table.specs.Sums.{sum_to, list_to}
use Rattle.chisel_table.specs.Tables.{decision_count, option_count}
use Rattle.chisel_bound.specs.BoundsAt.{greatest}
use Rattle.chisel_search.specs.declared.part.Part.{Part}

-- 1 where a test holds, else 0
abbrev pub one_if : Bool → ℕ
one_if true = 1
one_if false = 0

-- the product of f over the numbers below n
unfoldable pub prod_to : ℕ → (ℕ → ℕ) → ℕ
prod_to zero f = 1
prod_to (suc n) f = prod_to n f * f n

-- how many decisions are unfixed
abbrev pub unfixed : Table → Partial → ℕ
unfixed t p = sum_to (decision_count t) (λ d. one_if (is_unfixed p d))

-- the options of a partial choice in which every decision is fixed
abbrev pub choice_of : Table → Partial → List ℕ
choice_of t p = list_to (decision_count t) (slot p)

-- one partial choice for each option of decision d, in order
abbrev pub children : Table → Partial → ℕ → List Partial
children t p d = list_to (option_count t d) (with_option p d)

-- ---- what a pick sees

-- a partial choice with the greatest of its values over a pool
abbrev pub part_of : Table → List (List ℕ) → Partial → Part
part_of t pool p = record { partial = p; value = greatest (map (λ l. value t l p) pool) }

abbrev pub parts_of : Table → List (List ℕ) → List Partial → List Part
parts_of t pool ps = map (part_of t pool) ps

-- ---- states

pub record Search : Type 0 where
  pub parts : List Partial
  pub best : Option (List ℕ)

-- nothing is fixed, and there is no best choice
abbrev pub start : Table → Search
start t = record { parts = nothing_fixed t ∷ []; best = None }

-- what is found: no part is open
abbrev pub end : Option (List ℕ) → Search
end best = record { parts = []; best = best }

-- the list with other parts in the place of one
unfoldable pub replaced : {A : Type 0} → List A → ℕ → List A → List A
replaced [] k new = []
replaced (p ∷ ps) zero new = new ++ ps
replaced (p ∷ ps) (suc k) new = p ∷ replaced ps k new

-- ---- steps

-- a part that is taken is closed, or complete, or has children
pub data Fate : Type 0 where
  closed : Fate
  complete : Fate
  divided : Fate

abbrev pub fate_by : Option Close → ℕ → Fate
fate_by (Some c) n = closed
fate_by None zero = complete
fate_by None (suc n) = divided

abbrev pub fate : Table → List (List ℕ) → Option (List ℕ) → Partial → Fate
fate t pool best p = fate_by (first_close t pool best p) (unfixed t p)

-- the machine after the part p at place k, with its decision d where it has children
abbrev pub after : Table → Search → ℕ → Partial → ℕ → Fate → Search
after t s k p d closed = record { parts = replaced s.parts k []; best = s.best }
after t s k p d complete = record { parts = replaced s.parts k []; best = Some (choice_of t p) }
after t s k p d divided = record { parts = replaced s.parts k (children t p d); best = s.best }

-- one step: a place that the pick answers, and a decision that the rule answers where the part has children
pub record Step (t : Table) (pool : List (List ℕ)) (Answers : Partial → ℕ → Type 0) (Picks : List Part → ℕ → Type 0) (s next : Search) : Type 0 where
  pub place : ℕ
  pub in_list : place < length s.parts
  pub picked : Picks (parts_of t pool s.parts) place
  pub part : Partial
  pub part_is : part ≡ slice_index_or s.parts place (nothing_fixed t)
  pub decision : ℕ
  pub answered : fate t pool s.best part ≡ divided → Answers part decision
  pub next_is : next ≡ after t s place part decision (fate t pool s.best part)

-- n steps, one after the other
abbrev pub Run : Table → List (List ℕ) → (Partial → ℕ → Type 0) → (List Part → ℕ → Type 0) → ℕ → Search → Search → Type 0
Run t pool Answers Picks zero s e = s ≡ e
Run t pool Answers Picks (suc n) s e = (next : Search) × Step t pool Answers Picks s next × Run t pool Answers Picks n next e

-- in the run, the part p had children by decision d
abbrev pub Divides : (t : Table) (pool : List (List ℕ)) (Answers : Partial → ℕ → Type 0) (Picks : List Part → ℕ → Type 0) (n : ℕ) (s e : Search) →
    Run t pool Answers Picks n s e → Partial → ℕ → Type 0
Divides t pool Answers Picks zero s e r p d = ⊥
Divides t pool Answers Picks (suc n) s e r p d =
    ((r.1.part ≡ p) × (r.1.decision ≡ d) × (fate t pool s.best p ≡ divided)) ⊎ Divides t pool Answers Picks n r.0 e r.2 p d

-- the product of options plus one over all decisions
abbrev pub most_steps : Table → ℕ
most_steps t = prod_to (decision_count t) (λ d. option_count t d + 1)

-- ---- rules

-- what is answered at a partial choice with an unfixed decision is such a decision
pub record IsLawful (t : Table) (Answers : Partial → ℕ → Type 0) : Type 0 where
  pub inside : (p : Partial) (d : ℕ) → IsPartial t p → 0 < unfixed t p → Answers p d → d < decision_count t
  pub free : (p : Partial) (d : ℕ) → IsPartial t p → 0 < unfixed t p → Answers p d → is_unfixed p d ≡ true

-- the rule that is a function of the partial choice
abbrev pub rule_of : (Partial → ℕ) → Partial → ℕ → Type 0
rule_of f p d = d ≡ f p
