-- The verdict, rule by rule, and what it says.
use Rattle.std.proofs.Common.{◌≡◌, ℕ, ◌≤◌, Bool, true, false, List, [], ◌∷◌, length, map, Some, None, Option, refl, sym, ap, subst, ◌∙◌}
use Rattle.std.specs.Prelude.{nat_lt, find, fold, min, option_map, if◌then◌else◌}
use Rattle.std.specs.List.{AllByRecursion}
use Rattle.std.specs.Option.{option_map_or}
use Rattle.std.proofs.lemmas.Bool.{ltb-true, ltb-false}
use Rattle.std.proofs.lemmas.List.Elements.{All-from_recursion, recursion_from_All}
use Rattle.rely_num.specs.Bounds.{S}
use Rattle.rely_num.specs.declared.conj.Conj.{Conj}
use Rattle.rely_num.proofs.Gaps.{gap_product}
use Rattle.rely_num.proofs.RoundedDown.{under_product}
use Rattle.rely_num.proofs.RoundedUp.{over_product}
use Rattle.rely_hard.specs.Valid.{IsHardware}
use Rattle.rely_hard.specs.declared.hardware.Hardware.{Hardware}
use Rattle.rely_kernel.specs.declared.kernel.Claim.{Claim}
use Rattle.rely_kernel.specs.declared.kernel.Kernel.{Kernel}
use Rattle.rely_kernel.specs.declared.setting.Setting.{Setting}
use Rattle.rely_kernel.specs.Labels.{labels_of}
use Rattle.rely_kernel.specs.Paths.{paths_of}
use Rattle.rely_kernel.specs.Rates.{rates}
use Rattle.rely_kernel.specs.Valid.{IsValid}
use Rattle.rely_kernel.proofs.Tally.{rates_long}
use Rattle.rely_predicate.specs.Top.{top}
use Rattle.rely_verdict.specs.Judged.{lo, hi, first_outside, verdict, AreCounted, IsEnclosed, IsNear, NeedsIsFirstOutside, ProductsEnclose}
use Rattle.rely_verdict.specs.Soundness.{Vouches}
use Rattle.rely_verdict.specs.declared.verdict.Verdict.{Verdict}
use Rattle.rely_verdict.specs.declared.verdict.Verdict.TheVariants.{Needs, Below, Undecided, Accepted}
use Rattle.rely_verdict.proofs.AcceptedLaw.{accepted_vouches}
use Rattle.rely_verdict.proofs.FirstOutside.{first_is, first_from}
use Rattle.rely_verdict.proofs.RatesFit.{AreRates, rates_fit}
use Rattle.rely_verdict.proofs.Steps.{none_found}

-- ---- the first rule that some conjunct meets

-- an image is what its element gives
image_is : (g : Conj → ℕ) (b : Option Conj) (x : ℕ) (d : Verdict) → option_map g b ≡ Some x → Below x ≡ option_map_or (λ c. Below (g c)) b d
image_is g None x d e = absurd (cc)
image_is g (Some c) x d e = let same : g c ≡ x = cc in ap Below (sym same)

-- so is a verdict
verdict_is : (g : Conj → Verdict) (b : Option Conj) (v d : Verdict) → option_map g b ≡ Some v → v ≡ option_map_or g b d
verdict_is g None v d e = absurd (cc)
verdict_is g (Some c) v d e = cc

-- no image, and the next rule decides
none_is : {X : Type 0} (g : Conj → X) (f : Conj → Verdict) (b : Option Conj) (d : Verdict) → option_map g b ≡ None → d ≡ option_map_or f b d
none_is g f None d e = refl
none_is g f (Some c) d e = absurd (cc)

-- the verdicts differ
not_below : (x v : ℕ) → Below x ≡ Needs v → ⊥
not_below x v e = cc

-- so do these
not_undecided : (x y v : ℕ) → Undecided x y ≡ Needs v → ⊥
not_undecided x y v e = cc

-- and these
not_accepted : (x v : ℕ) → Accepted x ≡ Needs v → ⊥
not_accepted x v e = cc

-- a variable outside the needs
pub needs_verdict : (rs : List ℕ) (needs bound : ℕ) (cs : List Conj) (v : ℕ) → first_outside needs cs ≡ Some v → Needs v ≡ verdict rs needs bound cs
unfolding verdict
needs_verdict rs needs bound cs v e = rw e refl

-- or a product below the bound
pub below_verdict : (rs : List ℕ) (needs bound : ℕ) (cs : List Conj) (x : ℕ) → first_outside needs cs ≡ None
    → option_map (hi rs) (find (λ c. nat_lt (hi rs c) bound) cs) ≡ Some x → Below x ≡ verdict rs needs bound cs
unfolding verdict
below_verdict rs needs bound cs x none e = rw none (image_is (hi rs) (find (λ c. nat_lt (hi rs c) bound) cs) x _ e)

-- or one that is left undecided
pub undecided_verdict : (rs : List ℕ) (needs bound : ℕ) (cs : List Conj) (v : Verdict) → first_outside needs cs ≡ None
    → option_map (hi rs) (find (λ c. nat_lt (hi rs c) bound) cs) ≡ None
    → option_map (λ c. Undecided (lo rs c) (hi rs c)) (find (λ c. nat_lt (lo rs c) bound) cs) ≡ Some v → v ≡ verdict rs needs bound cs
unfolding verdict
undecided_verdict rs needs bound cs v none above e =
    rw none
    (verdict_is (λ c. Undecided (lo rs c) (hi rs c)) (find (λ c. nat_lt (lo rs c) bound) cs) v (Accepted (fold min S (map (lo rs) cs))) e
    ∙ none_is (hi rs) (λ c. Below (hi rs c)) (find (λ c. nat_lt (hi rs c) bound) cs) _ above)

-- or none of these
pub accepted_verdict : (rs : List ℕ) (needs bound : ℕ) (cs : List Conj) (m : ℕ) → first_outside needs cs ≡ None
    → option_map (hi rs) (find (λ c. nat_lt (hi rs c) bound) cs) ≡ None
    → option_map (λ c. Undecided (lo rs c) (hi rs c)) (find (λ c. nat_lt (lo rs c) bound) cs) ≡ None → m ≡ fold min S (map (lo rs) cs) → Accepted m ≡ verdict rs needs bound cs
unfolding verdict
accepted_verdict rs needs bound cs m none above enough e =
    rw none
    (ap Accepted e
    ∙ none_is (λ c. Undecided (lo rs c) (hi rs c)) (λ c. Undecided (lo rs c) (hi rs c)) (find (λ c. nat_lt (lo rs c) bound) cs) (Accepted (fold min S (map (lo rs) cs))) enough
    ∙ none_is (hi rs) (λ c. Below (hi rs c)) (find (λ c. nat_lt (hi rs c) bound) cs) _ above)

-- only a variable outside the needs gives such a verdict
needs_first : (rs : List ℕ) (v m : ℕ) (o : Option ℕ) (b u : Option Conj)
    → option_map_or Needs o (option_map_or (λ c. Below (hi rs c)) b (option_map_or (λ c. Undecided (lo rs c) (hi rs c)) u (Accepted m))) ≡ Needs v → o ≡ Some v
needs_first rs v m (Some w) b u e = let same : w ≡ v = cc in ap Some same
needs_first rs v m None (Some c) u e = absurd (not_below (hi rs c) v e)
needs_first rs v m None None (Some c) e = absurd (not_undecided (lo rs c) (hi rs c) v e)
needs_first rs v m None None None e = absurd (not_accepted m v e)

-- which no rate and no bound changes
pub needs_is_first_outside : NeedsIsFirstOutside
unfolding verdict
needs_is_first_outside rs needs bound v cs = (
  λ e. first_is needs cs v
      (needs_first rs v (fold min S (map (lo rs) cs)) (first_outside needs cs) (find (λ c. nat_lt (hi rs c) bound) cs) (find (λ c. nat_lt (lo rs c) bound) cs) e),
  λ a. sym (needs_verdict rs needs bound cs v (first_from needs cs v a)),
)

-- ---- the products of each conjunct

-- with one count for each rate
enclosed : (rs : List ℕ) (c : Conj) → AreRates rs → length rs ≡ length c.counts → IsEnclosed rs c
enclosed rs c fit long = record {
  under = under_product rs c.counts long;
  over = over_product rs c.counts long;
  near = gap_product rs c.counts long (All-from_recursion (λ r. r ≤ S) rs fit);
}

pub products_enclose : ProductsEnclose
products_enclose h k t c hardware valid long = enclosed (rates h k t) c (rates_fit h k t hardware valid.call_bounds) (rates_long h k t ∙ sym long)

-- ---- an undecided verdict came near

-- what was found passes, and has what each has
found_has : (p : Conj → Bool) (P : Conj → Type 0) (cs : List Conj) (c : Conj) → find p cs ≡ Some c → AllByRecursion P cs → (p c ≡ true) × P c
found_has p P [] c e h = absurd (cc)
found_has p P (x ∷ cs) c e h = by_test (p x) refl e (λ k. found_has p P cs c k h.1)
  where
    by_test : (b : Bool) → p x ≡ b → (if b then Some x else find p cs) ≡ Some c → (find p cs ≡ Some c → (p c ≡ true) × P c) → (p c ≡ true) × P c
    by_test true is k more = let same : x ≡ c = cc in subst (λ d. (p d ≡ true) × P d) same (is, h.0)
    by_test false is k more = more k

-- the bound is between the two products of the reported conjunct
verdict_near : (rs : List ℕ) (needs bound : ℕ) (cs : List Conj) → AreRates rs → AllByRecursion (λ c. length rs ≡ length c.counts) cs → IsNear rs bound cs (verdict rs needs bound cs)
unfolding verdict
verdict_near rs needs bound cs fit long = by_outside (first_outside needs cs)
  where
    by_undecided : (u : Option Conj) → find (λ c. nat_lt (lo rs c) bound) cs ≡ u → AllByRecursion (λ c. nat_lt (hi rs c) bound ≡ false) cs
        → IsNear rs bound cs (option_map_or (λ c. Undecided (lo rs c) (hi rs c)) u (Accepted (fold min S (map (lo rs) cs))))
    by_undecided None e high = tt
    by_undecided (Some c) e high =
        let upper = found_has (λ d. nat_lt (lo rs d) bound) (λ d. nat_lt (hi rs d) bound ≡ false) cs c e high in
        let counted = found_has (λ d. nat_lt (lo rs d) bound) (λ d. length rs ≡ length d.counts) cs c e long in
        record {
          reported = c;
          first = e;
          least_is = refl;
          most_is = refl;
          below = ltb-true (lo rs c) bound upper.0;
          above = ltb-false (hi rs c) bound upper.1;
          near = (enclosed rs c fit counted.1).near;
        }

    by_below : (b : Option Conj) → find (λ c. nat_lt (hi rs c) bound) cs ≡ b
        → IsNear rs bound cs
        (option_map_or (λ c. Below (hi rs c)) b
        (option_map_or (λ c. Undecided (lo rs c) (hi rs c)) (find (λ c. nat_lt (lo rs c) bound) cs) (Accepted (fold min S (map (lo rs) cs)))))
    by_below (Some c) e = tt
    by_below None e = by_undecided (find (λ c. nat_lt (lo rs c) bound) cs) refl (none_found (λ c. nat_lt (hi rs c) bound) cs e)

    by_outside : (o : Option ℕ) → IsNear rs bound cs
        (option_map_or Needs o
        (option_map_or (λ c. Below (hi rs c)) (find (λ c. nat_lt (hi rs c) bound) cs)
        (option_map_or (λ c. Undecided (lo rs c) (hi rs c)) (find (λ c. nat_lt (lo rs c) bound) cs) (Accepted (fold min S (map (lo rs) cs))))))
    by_outside (Some v) = tt
    by_outside None = by_below (find (λ c. nat_lt (hi rs c) bound) cs) refl

-- the counts are as many as the rates
counted_long : (h : Hardware) (k : Kernel) (t : Setting) (cs : List Conj) → AreCounted k cs → AllByRecursion (λ c. length (rates h k t) ≡ length c.counts) cs
counted_long h k t cs counted = each cs (recursion_from_All (λ (c : Conj). length c.counts ≡ labels_of k) cs counted)
  where
    each : (ds : List Conj) → AllByRecursion (λ c. length c.counts ≡ labels_of k) ds → AllByRecursion (λ c. length (rates h k t) ≡ length c.counts) ds
    each [] e = tt
    each (d ∷ ds) e = (rates_long h k t ∙ sym e.0, each ds e.1)

-- so is the claim's verdict
pub judged_near : (h : Hardware) (k : Kernel) (t : Setting) (claim : Claim) (cs : List Conj) (v : Verdict) → IsHardware h → IsValid k → AreCounted k cs
    → v ≡ verdict (rates h k t) claim.needs.bits claim.bound cs → IsNear (rates h k t) claim.bound cs v
judged_near h k t claim cs v fit valid counted exact =
    subst (IsNear (rates h k t) claim.bound cs) (sym exact)
    (verdict_near (rates h k t) claim.needs.bits claim.bound cs (rates_fit h k t fit valid.call_bounds) (counted_long h k t cs counted))

-- and an accepted one on the top of the claim's paths vouches for the bound
pub judged_sound : (h : Hardware) (k : Kernel) (t : Setting) (claim : Claim) (cs : List Conj) (v : Verdict) → IsHardware h
    → v ≡ verdict (rates h k t) claim.needs.bits claim.bound cs → cs ≡ top (paths_of k claim.target) → (a : ℕ) → v ≡ Accepted a → Vouches h k t claim
judged_sound h k t claim cs v valid exact is a accepted =
    accepted_vouches h k t claim valid (a, subst (λ ds. verdict (rates h k t) claim.needs.bits claim.bound ds ≡ Accepted a) is (sym exact ∙ accepted))
