-- Predicates: conjuncts that hold together.
use Rattle.std.specs.Prelude.{ℕ, ◌≡◌, ◌<◌, ◌≤◌, ◌^◌, List, length}
use Rattle.std.specs.List.{All}
use Rattle.rely_num.specs.declared.conj.Conj.{Conj}
use Rattle.rely_predicate.specs.Top.{top}
use Rattle.rely_predicate.specs.Shift.{times, raise}

-- conjuncts, and the number of labels that each counts
pub record Conjuncts : Type 0 where
  pub labels : ℕ
  pub conjs : List Conj

-- each has one count for each label, none covers another, they stand in order, and there are few
pub record IsPredicate (p : Conjuncts) : Type 0 where
  pub counted : All (λ c. length c.counts ≡ p.labels) p.conjs
  pub own_top : top p.conjs ≡ p.conjs
  pub short : length p.conjs ≤ 256

-- no count of the conjunct reaches 2^36 when it grows by n times the vector
abbrev pub StaysBelow : List ℕ → ℕ → Conj → Type 0
StaysBelow by n c = All (λ k. k < 2 ^ 36) (raise (times n by) c).counts
