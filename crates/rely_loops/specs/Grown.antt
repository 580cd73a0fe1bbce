-- A predicate that exceeds another by one vector, and counts that are too large.
use Rattle.std.specs.Prelude.{ℕ, ◌≡◌, ◌^◌, Bool, List, length, map, nat_le}
use Rattle.std.specs.List.{list_any}
use Rattle.rely_num.specs.declared.conj.Conj.{Conj}
use Rattle.rely_predicate.specs.Shift.{raise}
use Rattle.rely_predicate.specs.Predicates.{Conjuncts}

-- the vector has a number for each label, and the later conjuncts are the earlier ones with it added to each
pub record IsGrown (before after : Conjuncts) (by : List ℕ) : Type 0 where
  pub labelled : length by ≡ before.labels
  pub grown : after.conjs ≡ map (raise by) before.conjs

-- some count is 2^36 or more
abbrev pub too_many : List Conj → Bool
too_many cs = list_any (λ c. list_any (nat_le (2 ^ 36)) c.counts) cs
