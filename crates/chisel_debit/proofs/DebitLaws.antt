-- What debits and budgets are.
use Rattle.std.proofs.Common.{◌≡◌, ℕ, Bool, true, false, ◌+◌, ◌-◌, ◌*◌, ◌^◌, ◌≤◌, ◌<◌, refl, sym, ap, subst, ◌∙◌, arith, Option, Some, None}
use Rattle.std.specs.Prelude.{nat_le, nat_lt, unwrap_or}
use Rattle.std.proofs.Math.Nat.{mul-le-mul_right}
use Rattle.std.proofs.lemmas.Bool.{leb-true, le-leb, ltb-true}
use Rattle.std.proofs.lemmas.Bool.Decides.{nat_tests}
use Rattle.rely_num.specs.Bounds.{S}
use Rattle.rely_num.specs.Rounded.{mul_lo, mul_hi}
use Rattle.chisel_debit.specs.declared.reliability.TheConstants.{MAX_DEBIT, BEYOND}
use Rattle.chisel_debit.specs.Debits.{up, low, debit, budget, IsDebit, IsBudget, DebitIsLeast, BudgetIsGreatest}
use Rattle.chisel_debit.proofs.Powers.{up_power, up_stays, low_power, low_none, low_stays, low_falls, low_below}
use Rattle.chisel_debit.proofs.Searches.{by_test, IsFirst, IsLast, FindsFirst, FindsLast, finds_first, finds_last, first_one, last_one}

not_le : (a b : ℕ) → nat_le a b ≡ false → b < a
not_le a b h = grind (arith, nat_tests)

le_not : (a b : ℕ) → b < a → nat_le a b ≡ false
le_not a b h = grind (arith, nat_tests)

-- ---- debits

-- what the search for a debit answers
answer_is : (base p : ℕ) (r : Option ℕ) → FindsFirst MAX_DEBIT (λ d. nat_le (up base d) p) r → IsDebit base p (unwrap_or r BEYOND)
answer_is base p (Some d) h = record {
  covers = λ m. leb-true (up base d) p h.holds;
  least = λ k l m. not_le (up base k) p (h.none_before k l);
  beyond = λ m. absurd (let w = h.within in omega arith);
}
answer_is base p None h = record {
  covers = λ m. absurd (omega arith);
  least = λ k l m. not_le (up base k) p (h.none k m);
  beyond = λ m. refl;
}

pub debit_is : (base p : ℕ) → IsDebit base p (debit base p)
unfolding debit
debit_is base p = answer_is base p _ (finds_first MAX_DEBIT (λ d. nat_le (up base d) p))

-- there is one debit alone
pub debit_one : (base p d e : ℕ) → IsDebit base p d → IsDebit base p e → d ≡ e
debit_one base p d e h k = go (nat_le d MAX_DEBIT) refl (nat_le e MAX_DEBIT) refl
  where
    first : (x : ℕ) → IsDebit base p x → x ≤ MAX_DEBIT → IsFirst MAX_DEBIT (λ n. nat_le (up base n) p) x
    first x i m = record { within = m; holds = le-leb (up base x) p (i.covers m); none_before = λ n l. le_not (up base n) p (i.least n l (omega arith)) }

    go : (a : Bool) → nat_le d MAX_DEBIT ≡ a → (b : Bool) → nat_le e MAX_DEBIT ≡ b → d ≡ e
    go true x true y = first_one MAX_DEBIT _ d e (first d h (leb-true d MAX_DEBIT x)) (first e k (leb-true e MAX_DEBIT y))
    go true x false y = absurd (
        let m = leb-true d MAX_DEBIT x in
        let n : MAX_DEBIT < e = not_le e MAX_DEBIT y in
        let a = h.covers m in
        let b = k.least d (omega arith) m in omega arith)
    go false x true y = absurd (
        let m = leb-true e MAX_DEBIT y in
        let n : MAX_DEBIT < d = not_le d MAX_DEBIT x in
        let a = k.covers m in
        let b = h.least e (omega arith) m in omega arith)
    go false x false y = h.beyond (not_le d MAX_DEBIT x) ∙ sym (k.beyond (not_le e MAX_DEBIT y))

pub debit_is_least_lem : DebitIsLeast
debit_is_least_lem base p d =
    (λ e. subst (λ (x : ℕ). IsDebit base p x) (sym e) (debit_is base p), λ h. debit_one base p d (debit base p) h (debit_is base p))

-- a reliability is at least the base's power at its debit
pub debit_power : (base p : ℕ) → debit base p ≤ MAX_DEBIT → S * base ^ debit base p ≤ p * S ^ debit base p
debit_power base p h =
    let q = mul-le-mul_right (S ^ debit base p) ((debit_is base p).covers h) in
    let r = up_power base (debit base p) in
    omega (arith, q, r)

-- ---- budgets

budget_answer : (base bound : ℕ) → bound ≤ S → (r : Option ℕ) → FindsLast MAX_DEBIT (λ d. nat_le bound (low base d)) r → IsBudget base bound (unwrap_or r 0)
budget_answer base bound small (Some d) h = record {
  counted = h.within;
  keeps = leb-true bound (low base d) h.holds;
  greatest = λ k l m. not_le bound (low base k) (h.none_after k l m);
}
budget_answer base bound small None h = absurd (
    let a = not_le bound (low base 0) (h.none 0 (omega arith)) in
    let b = low_none base in omega arith)

pub budget_is : (base bound : ℕ) → bound ≤ S → IsBudget base bound (budget base bound)
unfolding budget
budget_is base bound small = budget_answer base bound small _ (finds_last MAX_DEBIT (λ d. nat_le bound (low base d)))

pub budget_one : (base bound d e : ℕ) → IsBudget base bound d → IsBudget base bound e → d ≡ e
budget_one base bound d e h k = last_one MAX_DEBIT (λ n. nat_le bound (low base n)) d e (last d h) (last e k)
  where
    last : (x : ℕ) → IsBudget base bound x → IsLast MAX_DEBIT (λ n. nat_le bound (low base n)) x
    last x i = record { within = i.counted; holds = le-leb bound (low base x) i.keeps; none_after = λ n l m. le_not bound (low base n) (i.greatest n l m) }

pub budget_is_greatest_lem : BudgetIsGreatest
budget_is_greatest_lem base bound d small =
    (λ e. subst (λ (x : ℕ). IsBudget base bound x) (sym e) (budget_is base bound small), λ h. budget_one base bound d (budget base bound) h (budget_is base bound small))

-- the base's power at a budget is at least the bound
pub budget_power : (base bound : ℕ) → bound ≤ S → bound * S ^ budget base bound ≤ S * base ^ budget base bound
budget_power base bound small =
    let q = mul-le-mul_right (S ^ budget base bound) ((budget_is base bound small).keeps) in
    let r = low_power base (budget base bound) in
    omega (arith, q, r)

-- whatever the bound, it is counted
pub budget_counted : (base bound : ℕ) → budget base bound ≤ MAX_DEBIT
unfolding budget
budget_counted base bound = counted _ (finds_last MAX_DEBIT (λ d. nat_le bound (low base d)))
  where
    counted : (r : Option ℕ) → FindsLast MAX_DEBIT (λ d. nat_le bound (low base d)) r → unwrap_or r 0 ≤ MAX_DEBIT
    counted (Some d) h = h.within
    counted None h = omega arith

-- what the search for a budget answers where all powers that are counted keep the bound
all_keep : (base bound : ℕ) → bound ≤ low base MAX_DEBIT → (r : Option ℕ) → FindsLast MAX_DEBIT (λ d. nat_le bound (low base d)) r → MAX_DEBIT ≡ unwrap_or r 0
all_keep base bound here (Some e) h = by_test (nat_lt e MAX_DEBIT)
    (λ x. absurd (let a = not_le bound (low base MAX_DEBIT) (h.none_after MAX_DEBIT (ltb-true e MAX_DEBIT x) (omega arith)) in omega arith))
    (λ x. let w = h.within in grind (arith, nat_tests))
all_keep base bound here None h = absurd (let a = not_le bound (low base MAX_DEBIT) (h.none MAX_DEBIT (omega arith)) in omega arith)

pub budget_past : (base bound : ℕ) → bound ≤ low base MAX_DEBIT → MAX_DEBIT ≡ budget base bound
unfolding budget
budget_past base bound here = all_keep base bound here _ (finds_last MAX_DEBIT (λ d. nat_le bound (low base d)))

-- one that doesn't fall any more keeps it
pub budget_stuck : (base bound d : ℕ) → d ≤ MAX_DEBIT → bound ≤ low base d → mul_lo (low base d) base ≡ low base d → MAX_DEBIT ≡ budget base bound
budget_stuck base bound d counted here stays =
    let e : d + (MAX_DEBIT - d) ≡ MAX_DEBIT = omega arith in
    let same = low_stays base d (MAX_DEBIT - d) stays in
    let there : bound ≤ low base (d + (MAX_DEBIT - d)) = omega arith in
    budget_past base bound (subst (λ (n : ℕ). bound ≤ low base n) e there)

-- the next power is the first below the bound
pub record IsBelow (base bound d : ℕ) : Type 0 where
  pub counted : d ≤ MAX_DEBIT
  pub keeps : 0 < d → bound ≤ low base d
  pub below : low base (d + 1) < bound
  pub small : low base (d + 1) ≤ S

module _ (base bound d : ℕ) (at : IsBelow base bound d) where
  falls : low base (d + 1) ≤ low base d
  falls = by_test (nat_lt 0 d)
      (λ x. let k = at.keeps (ltb-true 0 d x) in let b = at.below in omega arith)
      (λ x.
      let z : d ≡ 0 = grind (arith, nat_tests) in
      let e = ap (low base) z ∙ low_none base in
      let s = at.small in omega arith)

  later : (k : ℕ) → d < k → low base k < bound
  later k l =
      let e : (d + 1) + (k - (d + 1)) ≡ k = omega arith in
      let w = low_below base (d + 1) (k - (d + 1)) (low_falls base d 1 falls) in
      let b = at.below in
      let there : low base ((d + 1) + (k - (d + 1))) < bound = omega arith in
      subst (λ (n : ℕ). low base n < bound) e there

  reached : (r : Option ℕ) → FindsLast MAX_DEBIT (λ k. nat_le bound (low base k)) r → d ≡ unwrap_or r 0
  reached (Some e) h = by_test (nat_lt d e)
      (λ x. absurd (
      let a = leb-true bound (low base e) h.holds in
      let b = later e (ltb-true d e x) in omega arith))
      (λ x. by_test (nat_lt e d)
      (λ y. absurd (
      let l = ltb-true e d y in
      let a = not_le bound (low base d) (h.none_after d l at.counted) in
      let k = at.keeps (omega arith) in omega arith))
      (λ y. grind (arith, nat_tests)))
  reached None h = by_test (nat_lt 0 d)
      (λ x. absurd (
      let a = not_le bound (low base d) (h.none d at.counted) in
      let k = at.keeps (ltb-true 0 d x) in omega arith))
      (λ x. grind (arith, nat_tests))

  pub budget_reached : d ≡ budget base bound
  unfolding budget
  budget_reached = reached _ (finds_last MAX_DEBIT (λ k. nat_le bound (low base k)))

-- the first power that isn't above the reliability
pub debit_reached : (base p d : ℕ) → d ≤ MAX_DEBIT → ((k : ℕ) → k < d → p < up base k) → up base d ≤ p → d ≡ debit base p
debit_reached base p d counted passed here = debit_one base p d (debit base p) (record {
  covers = λ m. here;
  least = λ k l m. passed k l;
  beyond = λ m. absurd (omega arith);
}) (debit_is base p)

-- where all powers that are counted are above it
debit_missed : (base p : ℕ) → ((k : ℕ) → k ≤ MAX_DEBIT → p < up base k) → BEYOND ≡ debit base p
debit_missed base p above = debit_one base p BEYOND (debit base p) (record {
  covers = λ m. absurd (omega arith);
  least = λ k l m. above k m;
  beyond = λ m. refl;
}) (debit_is base p)

-- the last one, and all before it
pub debit_past : (base p d : ℕ) → d ≡ MAX_DEBIT → ((k : ℕ) → k < d → p < up base k) → p < up base d → BEYOND ≡ debit base p
debit_past base p d last passed here = debit_missed base p (λ k l. by_test (nat_lt k d)
    (λ x. passed k (ltb-true k d x))
    (λ x. let e : d ≡ k = grind (arith, nat_tests) in subst (λ (n : ℕ). p < up base n) e here))

-- one that doesn't fall any more, and all before it
pub debit_stuck : (base p d : ℕ) → ((k : ℕ) → k < d → p < up base k) → p < up base d → mul_hi (up base d) base ≡ up base d → BEYOND ≡ debit base p
debit_stuck base p d passed here stays = debit_missed base p (λ k l. by_test (nat_lt k d)
    (λ x. passed k (ltb-true k d x))
    (λ x.
    let more : d ≤ k = grind (arith, nat_tests) in
    let e : d + (k - d) ≡ k = omega arith in
    let same = up_stays base d (k - d) stays in
    let there : p < up base (d + (k - d)) = omega arith in
    subst (λ (n : ℕ). p < up base n) e there))
