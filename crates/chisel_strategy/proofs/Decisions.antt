-- The decision that a branching rule answers is the first of the largest.
use Rattle.std.proofs.Common.{◌≡◌, ℕ, zero, suc, Bool, true, false, ◌+◌, ◌≤◌, ◌<◌, ◌==◌, refl, sym, ap, ◌∙◌, arith, add-one, List, Option, Some, None}
use Rattle.std.specs.Prelude.{nat_lt, slice_index, unwrap_or}
use Rattle.std.proofs.lemmas.Bool.{eqb-true, ltb-true}
use Rattle.std.proofs.lemmas.Bool.Decides.{nat_tests}
use Rattle.chisel_table.specs.declared.partial.Partial.{Partial}
use Rattle.chisel_table.specs.declared.table.Table.{Table}
use Rattle.chisel_table.specs.Partials.{is_unfixed}
use Rattle.chisel_table.specs.Tables.{decision_count}
use Rattle.chisel_table.proofs.Sums.{by_test, differ}
use Rattle.chisel_table.specs.Sums.{list_to}
use Rattle.chisel_bound.proofs.Lists.{listed_at}
use Rattle.chisel_search.specs.Rules.{CanBranch}
use Rattle.chisel_search.proofs.Complete.{some_unfixed}
use Rattle.chisel_options.specs.declared.strategy.Branch.{Branch}
use Rattle.chisel_strategy.specs.Branching.{decision, larger, larger_if, largest_to, largest, size, IsLargest}

pub largest_none : (free : ℕ → Bool) (size : ℕ → ℕ) → largest_to 0 free size ≡ None
unfolding largest_to
largest_none free size = refl

pub largest_more : (n : ℕ) (free : ℕ → Bool) (size : ℕ → ℕ) → largest_to (n + 1) free size ≡ larger_if (free n) size (largest_to n free size) n
unfolding largest_to
largest_more n free size = rw (add-one n) refl

-- what is found among the numbers below n: none where none is free, else the first of the largest
abbrev IsFirstLargest : ℕ → (ℕ → Bool) → (ℕ → ℕ) → Option ℕ → Type 0
IsFirstLargest n free size None = (k : ℕ) → k < n → free k ≡ false
IsFirstLargest n free size (Some d) =
    (d < n) × (free d ≡ true) × ((k : ℕ) → k < n → free k ≡ true → size k ≤ size d) × ((k : ℕ) → k < d → free k ≡ true → size k < size d)

one_more : (n : ℕ) (free : ℕ → Bool) (size : ℕ → ℕ) (k : Option ℕ) → IsFirstLargest n free size k → IsFirstLargest (suc n) free size (larger_if (free n) size k n)
one_more n free size k h = go k h (free n) refl
  where
    go : (k : Option ℕ) → IsFirstLargest n free size k → (b : Bool) → free n ≡ b → IsFirstLargest (suc n) free size (larger_if b size k n)
    go None h false e = λ j l. by_test (j == n) (λ q. rw (eqb-true j n q) e) (λ q. let ne = differ j n q in h j (omega arith))
    go None h true e = (
      omega arith,
      e,
      λ j l f. by_test (j == n) (λ q. rw (eqb-true j n q) (omega arith)) (λ q. let ne = differ j n q in absurd (let a = sym (h j (omega arith)) ∙ f in cc)),
      λ j l f. absurd (let a = sym (h j l) ∙ f in cc),
    )
    go (Some d) h false e = (
      omega (arith, h.0),
      h.1,
      λ j l f. by_test (j == n)
          (λ q. absurd (let a : free n ≡ true = rw (eqb-true j n q) at f in let b = sym e ∙ a in cc))
          (λ q. let ne = differ j n q in h.2 j (omega arith) f),
      h.3,
    )
    go (Some d) h true e = by_test (nat_lt (size d) (size n))
        (λ t. rw t (let l = ltb-true (size d) (size n) t in (
          omega arith,
          e,
          λ j m f. by_test (j == n) (λ q. rw (eqb-true j n q) (omega arith)) (λ q. let ne = differ j n q in let a = h.2 j (omega arith) f in omega arith),
          λ j m f. let a = h.2 j m f in omega arith,
        )))
        (λ t. rw t (let l : size n ≤ size d = grind (arith, nat_tests) in (
          omega (arith, h.0),
          h.1,
          λ j m f. by_test (j == n) (λ q. rw (eqb-true j n q) l) (λ q. let ne = differ j n q in h.2 j (omega arith) f),
          h.3,
        )))

first_largest : (n : ℕ) (free : ℕ → Bool) (size : ℕ → ℕ) → IsFirstLargest n free size (largest_to n free size)
unfolding largest_to
first_largest zero free size = λ k l. absurd (omega arith)
first_largest (suc n) free size = one_more n free size (largest_to n free size) (first_largest n free size)

pub is_largest : (t : Table) (size : ℕ → ℕ) (p : Partial) → CanBranch t p → IsLargest t size p (largest t size p)
is_largest t size p c = go (largest_to (decision_count t) (is_unfixed p) size) (first_largest (decision_count t) (is_unfixed p) size)
  where
    go : (k : Option ℕ) → IsFirstLargest (decision_count t) (is_unfixed p) size k → IsLargest t size p (unwrap_or k 0)
    go None h =
        let a = some_unfixed (decision_count t) p c.some in
        absurd (let b = sym (h a.0 a.1) ∙ a.2 in cc)
    go (Some d) h = record {
      unfixed = record { inside = h.0; unfixed = h.1 };
      largest = λ k u. h.2 k u.inside u.unfixed;
      first = λ k u l. h.3 k l u.unfixed;
    }

-- sizes that are the same below n give the same
pub largest_same : (n m : ℕ) (free : ℕ → Bool) (f g : ℕ → ℕ) → n ≤ m → ((k : ℕ) → k < m → f k ≡ g k) → largest_to n free f ≡ largest_to n free g
unfolding largest_to
largest_same zero m free f g l h = refl
largest_same (suc n) m free f g l h =
    let e = largest_same n m free f g (omega arith) h in
    rw e (by_test (free n)
    (λ b. rw b (go (largest_to n free g) (first_largest n free g)))
    (λ b. rw b refl))
  where
    go : (k : Option ℕ) → IsFirstLargest n free g k → ◌≡◌ {A = Option ℕ} (Some (larger f k n)) (Some (larger g k n))
    go None i = refl
    go (Some k) i = rw (h n (omega arith), h k (omega (arith, i.0))) refl

-- the sizes in a list are those of the definition
pub decision_by : (t : Table) (branch : Branch) (sizes : List ℕ) (p : Partial) → sizes ≡ list_to (decision_count t) (size t branch)
    → largest t (slice_index sizes) p ≡ decision t branch p
decision_by t branch sizes p h =
    ap (λ k. unwrap_or k 0) (largest_same (decision_count t) (decision_count t) (is_unfixed p) (slice_index sizes) (size t branch) (omega arith)
    (λ k l. ap (λ (xs : List ℕ). slice_index xs k) h ∙ listed_at (decision_count t) (size t branch) k 0 l))
