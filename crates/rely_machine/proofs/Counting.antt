-- What one more step adds to what is counted.
use Rattle.std.proofs.Common.{◌≡◌, ◌≢◌, ℕ, zero, suc, ◌+◌, ◌<◌, ◌≤◌, Bool, true, false, List, [], ◌∷◌, ◌++◌, map, get_or, Option, Some, None, refl, sym, ap, ◌∙◌, arith}
use Rattle.std.specs.Prelude.{◌==◌, ◌&&◌, cond, slice_get, slice_set, count_by}
use Rattle.std.specs.List.{range_with_len}
use Rattle.std.specs.Option.{option_map_or}
use Rattle.std.proofs.lemmas.Bool.{eq-eqb, eqb-true}
use Rattle.std.proofs.lemmas.List.FromFn.{get_or-map-range_with_len}
use Rattle.std.proofs.lemmas.List.Sums.{sum_by-append}
use Rattle.rely_kernel.specs.declared.kernel.Kernel.{Kernel}
use Rattle.rely_kernel.specs.declared.label.Label.{Label}
use Rattle.rely_kernel.specs.Labels.{number, labels_of}
use Rattle.rely_machine.specs.Going.{one_more}
use Rattle.rely_machine.specs.Run.{taken, uses, uses_at}

-- ---- functions on a range

-- alike on it
pub same_range : {X : Type 0} (h k : ℕ → X) (a n : ℕ) → ((g : ℕ) → a ≤ g → h g ≡ k g) → map h (range_with_len a n) ≡ map k (range_with_len a n)
same_range h k a zero e = refl
same_range h k a (suc n) e = ap (λ x. x ∷ map h (range_with_len (a + 1) n)) (e a (omega arith)) ∙ ap (λ xs. k a ∷ xs) (same_range h k (a + 1) n (λ g b. e g (omega (arith, b))))

-- alike but at one place
set_range_from : {X : Type 0} (h k : ℕ → X) (x : X) (a n i : ℕ) → i < n → k (a + i) ≡ x → ((g : ℕ) → g ≢ a + i → k g ≡ h g) → map k (range_with_len a n) ≡ slice_set (map h (range_with_len a n)) i x
set_range_from h k x a zero i below here others = absurd (omega (arith, below))
set_range_from h k x a (suc n) zero below here others =
    ap (λ y. y ∷ map k (range_with_len (a + 1) n)) (ap k (omega arith) ∙ here)
    ∙ ap (λ ys. x ∷ ys) (same_range k h (a + 1) n (λ g b. others g (λ e. absurd (omega (arith, b, e)))))
set_range_from h k x a (suc n) (suc i) below here others =
    ap (λ y. y ∷ map k (range_with_len (a + 1) n)) (others a (λ e. absurd (omega (arith, e))))
    ∙ ap (λ ys. h a ∷ ys) (set_range_from h k x (a + 1) n i (omega (arith, below)) (ap k (omega arith) ∙ here) (λ g ne. others g (λ e. ne (omega (arith, e)))))

pub set_range : {X : Type 0} (h k : ℕ → X) (x : X) (n i : ℕ) → i < n → k i ≡ x → ((g : ℕ) → g ≢ i → k g ≡ h g) → map k (range_with_len 0 n) ≡ slice_set (map h (range_with_len 0 n)) i x
set_range h k x n i below here others = set_range_from h k x 0 n i below (ap k (omega arith) ∙ here) (λ g ne. others g (λ e. ne (e ∙ omega arith)))

-- one more at one place
pub more_range : (h k : ℕ → ℕ) (n i : ℕ) → i < n → k i ≡ h i + 1 → ((g : ℕ) → g ≢ i → k g ≡ h g) → map k (range_with_len 0 n) ≡ one_more (map h (range_with_len 0 n)) i
more_range h k n i below here others =
    set_range h k (h i + 1) n i below here others
    ∙ ap (λ x. slice_set (map h (range_with_len 0 n)) i (x + 1)) (sym (get_or-map-range_with_len h 0 n i i 0 below (omega arith)))

-- ---- counts

pub count_append : {X : Type 0} (p : X → Bool) (xs ys : List X) → count_by p (xs ++ ys) ≡ count_by p xs + count_by p ys
count_append p xs ys = sum_by-append (λ x. cond (p x) 1 0) xs ys

pub count_hit : {X : Type 0} (p : X → Bool) (xs : List X) (x : X) → p x ≡ true → count_by p (xs ++ x ∷ []) ≡ count_by p xs + 1
count_hit p xs x e = count_append p xs (x ∷ []) ∙ ap (λ b. count_by p xs + (0 + cond b 1 0)) e

pub count_miss : {X : Type 0} (p : X → Bool) (xs : List X) (x : X) → p x ≡ false → count_by p (xs ++ x ∷ []) ≡ count_by p xs
count_miss p xs x e = count_append p xs (x ∷ []) ∙ ap (λ b. count_by p xs + (0 + cond b 1 0)) e ∙ omega arith

pub differs : (a b : ℕ) → a ≢ b → (a == b) ≡ false
differs a b ne = by_test (a == b) refl
  where
    by_test : (t : Bool) → (a == b) ≡ t → (a == b) ≡ false
    by_test true e = absurd (ne (eqb-true a b e))
    by_test false e = e

pub agrees : (a : ℕ) → (a == a) ≡ true
agrees a = eq-eqb a a refl

-- ---- one more chance step

module _ (fs : List Kernel) (f : ℕ) (k : Kernel) (known : slice_get fs f ≡ Some k) (lab : Label) (i : ℕ) (is : number k lab ≡ i) (below : i < labels_of k) (trace : List (ℕ × Label)) where
  abbrev more : List (ℕ × Label)
  more = trace ++ (f, lab) ∷ []

  row_more : uses k f more ≡ one_more (uses k f trace) i
  row_more = more_range (taken k f trace) (taken k f more) (labels_of k) i below
      (count_hit (λ m. m.0 == f && number k m.1 == i) trace (f, lab) (rw (is, agrees f, agrees i) refl))
      (λ g ne. count_miss (λ m. m.0 == f && number k m.1 == g) trace (f, lab) (rw (is, agrees f, differs i g (λ e. ne (sym e))) refl))

  others_same : (g : ℕ) → g ≢ f → uses_at fs more g ≡ uses_at fs trace g
  others_same g ne = by_kernel (slice_get fs g)
    where
      by_kernel : (o : Option Kernel) → option_map_or (λ h. uses h g more) o [] ≡ option_map_or (λ h. uses h g trace) o []
      by_kernel None = refl
      by_kernel (Some h) = same_range (taken h g more) (taken h g trace) 0 (labels_of h)
          (λ j b. count_miss (λ m. m.0 == g && number h m.1 == j) trace (f, lab) (rw (differs f g (λ e. ne (sym e))) refl))

  pub uses_more : (n : ℕ) → f < n → map (uses_at fs more) (range_with_len 0 n)
      ≡ slice_set (map (uses_at fs trace) (range_with_len 0 n)) f (one_more (get_or (map (uses_at fs trace) (range_with_len 0 n)) f []) i)
  uses_more n at =
      set_range (uses_at fs trace) (uses_at fs more) (one_more (uses_at fs trace f) i) n f at (rw known row_more) others_same
      ∙ ap (λ row. slice_set (map (uses_at fs trace) (range_with_len 0 n)) f (one_more row i)) (sym (get_or-map-range_with_len (uses_at fs trace) 0 n f f [] at (omega arith)))
