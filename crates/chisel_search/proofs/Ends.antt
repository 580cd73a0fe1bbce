-- Every run ends: it takes at most as many steps as the product of options plus one.
use Rattle.std.proofs.Common.{◌≡◌, ◌≢◌, ℕ, zero, suc, true, ◌+◌, ◌*◌, ◌≤◌, ◌<◌, List, [], length, refl, sym, ap, ◌∙◌, arith}
use Rattle.std.specs.Prelude.{slice_index_or, ◌==◌, nat_le, if◌then◌else◌}
use Rattle.std.proofs.lemmas.Bool.{eqb-true, leb-true}
use Rattle.std.proofs.lemmas.Bool.Decides.{nat_tests}
use Rattle.std.proofs.lemmas.Nat.{mul-le}
use Rattle.std.proofs.lemmas.List.{get_or-replicate}
use Rattle.std.proofs.Math.Nat.{mul-le-mul_left}
use Rattle.chisel_table.specs.declared.table.Table.{Table}
use Rattle.chisel_search.specs.declared.part.Part.{Part}
use Rattle.chisel_table.specs.declared.partial.Partial.{Partial}
use Rattle.chisel_table.specs.Sums.{sum_to}
use Rattle.chisel_search.specs.Search.{prod_to, children, Search, start, Fate, closed, complete, divided, fate, after, Run, IsLawful, most_steps}
use Rattle.chisel_table.specs.Tables.{decision_count, option_count}
use Rattle.chisel_table.specs.Valid.{IsTable}
use Rattle.chisel_table.specs.Partials.{IsPartial, is_unfixed, with_option, nothing_fixed}
use Rattle.chisel_table.proofs.Sums.{by_test, sum_scale, differ, sum_same}
use Rattle.chisel_table.proofs.Partials.{slot_fixed, slot_other, not_unfixed}
use Rattle.chisel_bound.specs.Pool.{BeginsWithZeros}
use Rattle.chisel_search.proofs.Lists.{total, total_replaced, total_listed, each_at}
use Rattle.chisel_search.proofs.Least.{fate_divided, Sound, sound_start, sound_step}

prod_same : (n : ℕ) (f g : ℕ → ℕ) → ((k : ℕ) → k < n → f k ≡ g k) → prod_to n f ≡ prod_to n g
unfolding prod_to
prod_same zero f g h = refl
prod_same (suc n) f g h =
    let a = prod_same n f g (λ k l. h k (omega arith)) in
    let b = h n (omega arith) in
    λ i. a i * b i

-- two products that differ at one place
prod_change : (n : ℕ) (f g : ℕ → ℕ) (d : ℕ) → d < n → ((k : ℕ) → k ≢ d → f k ≡ g k) → prod_to n f * g d ≡ prod_to n g * f d
unfolding prod_to
prod_change zero f g d l h = absurd (omega arith)
prod_change (suc n) f g d l h = by_test (d == n)
    (λ e. let q = eqb-true d n e in
    let a = ap (λ x. x * f n * g n) (prod_same n f g (λ k m. h k (omega arith))) in rw q (omega (arith, a)))
    (λ e. let ne = differ d n e in
    let m : d < n = let z : d ≢ n = ne in omega arith in
    let a = ap (λ x. x * g n) (prod_change n f g d m h) in
    let b = ap (λ x. prod_to n f * x * g d) (h n (λ z. ne (sym z))) in omega (arith, a, b))

prod_above : (n : ℕ) (f : ℕ → ℕ) → ((k : ℕ) → k < n → 1 ≤ f k) → 1 ≤ prod_to n f
unfolding prod_to
prod_above zero f h = omega arith
prod_above (suc n) f h =
    let a = mul-le 1 1 (prod_to n f) (f n) (prod_above n f (λ k l. h k (omega arith))) (h n (omega arith)) in omega (arith, a)

sum_const : (n w : ℕ) → sum_to n (λ k. w) ≡ n * w
unfolding sum_to
sum_const zero w = omega arith
sum_const (suc n) w = let a = sum_const n w in omega arith

-- how many parts can come of a part
factor : Table → Partial → ℕ → ℕ
factor t p d = if is_unfixed p d then option_count t d + 1 else 1

weight : Table → Partial → ℕ
weight t p = prod_to (decision_count t) (factor t p)

weight_above : (t : Table) (p : Partial) → 1 ≤ weight t p
unfolding weight factor
weight_above t p = prod_above (decision_count t) (factor t p) (λ k l. by_test (is_unfixed p k) (λ e. rw e (omega arith)) (λ e. rw e (omega arith)))

weight_fixed : (t : Table) (p : Partial) (d o : ℕ) → d < decision_count t → is_unfixed p d ≡ true → o < 255 →
    (option_count t d + 1) * weight t (with_option p d o) ≡ weight t p
unfolding weight factor
weight_fixed t p d o l u s =
    let q = with_option p d o in
    let a = prod_change (decision_count t) (factor t q) (factor t p) d l
    (λ k ne. ap (λ x. if x == 255 then option_count t k + 1 else 1) (slot_other p d o k ne)) in
    let b : factor t p d ≡ option_count t d + 1 = rw u refl in
    let c : factor t q d ≡ 1 = ap (λ x. if x == 255 then option_count t d + 1 else 1) (slot_fixed p d o u) ∙ rw (not_unfixed o s) refl in
    let e = ap (λ x. prod_to (decision_count t) (factor t q) * x) b in
    let f = ap (λ x. prod_to (decision_count t) (factor t p) * x) c in
    omega (arith, a, e, f)

-- the children together weigh less
children_less : (t : Table) (p : Partial) (d : ℕ) → IsTable t → d < decision_count t → is_unfixed p d ≡ true →
    total (weight t) (children t p d) < weight t p
children_less t p d h l u =
    let n = option_count t d in
    let few = h.few_options d l in
    let a = total_listed (weight t) n (with_option p d) in
    let b = sum_scale n (n + 1) (λ o. weight t (with_option p d o)) in
    let c = sum_same n (λ o. (n + 1) * weight t (with_option p d o)) (λ o. weight t p) (λ o m. weight_fixed t p d o l u (omega arith)) in
    let e = sum_const n (weight t p) in
    let w = weight_above t p in
    below n (sum_to n (λ o. weight t (with_option p d o))) (weight t p) (total (weight t) (children t p d)) (sym b ∙ c ∙ e) w a
  where
    below : (n s w z : ℕ) → (n + 1) * s ≡ n * w → 1 ≤ w → z ≡ s → z < w
    below n s w z h k e = by_test (nat_le w s)
        (λ x. absurd (let m = mul-le-mul_left (n + 1) (leb-true w s x) in omega (arith, m)))
        (λ x. let y : s < w = grind (arith, nat_tests) in omega arith)

module _ (t : Table) (pool : List (List ℕ)) (Answers : Partial → ℕ → Type 0) (Picks : List Part → ℕ → Type 0) (zs : BeginsWithZeros pool) (table : IsTable t) (lawful : IsLawful t Answers) where
  less_after : (s : Search) (k : ℕ) (p : Partial) (d : ℕ) (f : Fate) → fate t pool s.best p ≡ f → (f ≡ divided → Answers p d) → IsPartial t p →
      p ≡ slice_index_or s.parts k (nothing_fixed t) → k < length s.parts → total (weight t) (after t s k p d f).parts < total (weight t) s.parts
  less_after s k p d closed e a i is l =
      let b = total_replaced (weight t) s.parts k [] (nothing_fixed t) l in
      let w = weight_above t p in let q = ap (weight t) is in omega arith
  less_after s k p d complete e a i is l =
      let b = total_replaced (weight t) s.parts k [] (nothing_fixed t) l in
      let w = weight_above t p in let q = ap (weight t) is in omega arith
  less_after s k p d divided e a i is l =
      let z = (fate_divided _ _ e).1 in
      let b = total_replaced (weight t) s.parts k (children t p d) (nothing_fixed t) l in
      let c = children_less t p d table (lawful.inside p d i z (a refl)) (lawful.free p d i z (a refl)) in
      let q = ap (weight t) is in omega arith

  steps_bound : (n : ℕ) (s e : Search) → Sound t s → Run t pool Answers Picks n s e → n ≤ total (weight t) s.parts
  steps_bound zero s e h r = omega arith
  steps_bound (suc n) s e h r =
      let w = r.1 in
      let i = each_at (IsPartial t) s.parts w.place (nothing_fixed t) w.in_list h.partials in
      let a = steps_bound n r.0 e (sound_step t pool Answers Picks zs lawful s r.0 h w) r.2 in
      let b = less_after s w.place w.part w.decision (fate t pool s.best w.part) refl w.answered (rw w.part_is i) w.part_is w.in_list in
      let q = ap (λ x. total (weight t) x.parts) w.next_is in omega arith

  weight_nothing : weight t (nothing_fixed t) ≡ most_steps t
  unfolding weight factor
  weight_nothing = prod_same (decision_count t) (factor t (nothing_fixed t)) (λ d. option_count t d + 1)
      (λ k l. let few = table.few_decisions in ap (λ x. if x == 255 then option_count t k + 1 else 1) (get_or-replicate 256 k 255 0 (omega arith)))

  -- no run takes more steps than the product of options plus one
  pub run_bound : (n : ℕ) (e : Search) → Run t pool Answers Picks n (start t) e → n ≤ most_steps t
  run_bound n e r = let a = steps_bound n (start t) e (sound_start t table) r in let b = weight_nothing in omega arith
