-- The top of a list is its maximal conjuncts, and no other list is.
use Rattle.std.proofs.Common.{◌≡◌, ℕ, zero, suc, ◌<◌, List, [], ◌∷◌, length, arith, inl, inr}
use Rattle.std.specs.Prelude.{Contains, IsTrue, slice_index_or}
use Rattle.rely_num.specs.declared.conj.Conj.{Conj}
use Rattle.rely_predicate.specs.Top.{before, top}
use Rattle.rely_predicate.specs.Maximal.{IsAscending, TopIsMaximal, MaximalIsTop}
use Rattle.rely_predicate.proofs.Order.{covers_true, covers_from, before_true, before_from}
use Rattle.rely_predicate.proofs.Tops.{In, Sorted, top_is, top_only, all_in, all_at}

-- a member stands at a place
contains_in : (xs : List Conj) (c : Conj) → In c xs → Contains xs c
contains_in [] c h = absurd h
contains_in (x ∷ xs) c (inl e) = (0, omega arith, e)
contains_in (x ∷ xs) c (inr h) = let r = contains_in xs c h in (suc r.0, omega arith, r.2)

-- what stands at a place is a member
in_place : (xs : List Conj) (c : Conj) (k : ℕ) → k < length xs → slice_index_or xs k c ≡ c → In c xs
in_place [] c k below e = absurd (omega (arith, below))
in_place (x ∷ xs) c zero below e = inl e
in_place (x ∷ xs) c (suc k) below e = inr (in_place xs c k (omega (arith, below)) e)

-- so the two ways to say it are one
in_contains : (xs : List Conj) (c : Conj) → Contains xs c → In c xs
in_contains xs c h = in_place xs c h.0 h.1 h.2

-- a sorted list is ascending
ascending_from : (xs : List Conj) → Sorted xs → IsAscending xs
ascending_from [] s = tt
ascending_from (x ∷ xs) s = (all_in (λ d. IsTrue (before x d)) xs (λ d m. before_from x d (s.0 d m)), ascending_from xs s.1)

-- and the other way round
sorted_from : (xs : List Conj) → IsAscending xs → Sorted xs
sorted_from [] s = tt
sorted_from (x ∷ xs) s = (λ d m. before_true x d (all_at (λ e. IsTrue (before x e)) xs d s.0 m), sorted_from xs s.1)

-- the top of each list is its maximal conjuncts
pub top_is_maximal_lem : TopIsMaximal
top_is_maximal_lem cs =
    let t = top_is cs in
    record {
      member = λ c m. contains_in cs c (t.member c (in_contains (top cs) c m));
      maximal = λ c m d n o. t.uncovered c (in_contains (top cs) c m) d (in_contains cs d n) (covers_true d c o);
      complete = λ c m u. contains_in (top cs) c (t.each c (in_contains cs c m) (λ d n o. u d (contains_in cs d n) (covers_from d c o)));
      ascending = ascending_from (top cs) t.sorted;
    }

-- and no other list is
pub maximal_is_top : MaximalIsTop
maximal_is_top cs ts h = top_only cs ts (record {
  member = λ c m. in_contains cs c (h.member c (contains_in ts c m));
  uncovered = λ c m d n o. h.maximal c (contains_in ts c m) d (contains_in cs d n) (covers_from d c o);
  each = λ c m u. in_contains ts c (h.complete c (contains_in cs c m) (λ d n o. u d (in_contains cs d n) (covers_true d c o)));
  sorted = sorted_from ts h.ascending;
})
