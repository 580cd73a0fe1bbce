-- Debits that stay within a budget keep the product of the reliabilities at the bound.
use Rattle.std.proofs.Common.{◌≡◌, ℕ, zero, suc, ◌+◌, ◌-◌, ◌*◌, ◌^◌, ◌≤◌, ◌<◌, List, [], ◌∷◌, length, sym, ap, ◌∙◌, arith}
use Rattle.std.specs.Prelude.{sum}
use Rattle.std.proofs.Math.Nat.{pow-zero, pow-suc, pow-le-pow_left, mul-le-mul_left, mul-le-mul_right, le_of_mul-le-mul_right, one-le-pow}
use Rattle.std.proofs.lemmas.List.Sums.{sum_by-cons}
use Rattle.std.proofs.lemmas.Nat.{mul-le, pow-add, mul-pow}
use Rattle.rely_num.specs.Bounds.{S}
use Rattle.rely_num.specs.Products.{product}
use Rattle.chisel_debit.specs.declared.reliability.TheConstants.{MAX_DEBIT}
use Rattle.chisel_debit.specs.Budgets.{spent, BudgetsKeepBounds}
use Rattle.chisel_debit.specs.Debits.{debit, budget}
use Rattle.chisel_debit.proofs.DebitLaws.{debit_power, budget_is, budget_power}

-- a power of a power
pow-pow : (a d k : ℕ) → (a ^ d) ^ k ≡ a ^ (k * d)
pow-pow a d zero = pow-zero (a ^ d) ∙ sym (ap (λ n. a ^ n) (omega arith) ∙ pow-zero a)
pow-pow a d (suc k) =
    rw (pow-suc (a ^ d) k, pow-pow a d k) (sym (pow-add a (k * d) d) ∙ ap (λ n. a ^ n) (omega arith))

-- one label's reliability to the power of its count
label_power : (base k p : ℕ) → k * debit base p ≤ MAX_DEBIT →
    S ^ k * base ^ (k * debit base p) ≤ p ^ k * S ^ (k * debit base p)
label_power base zero p h = let e : 0 * debit base p ≡ 0 = omega arith in rw (e, pow-zero p, pow-zero base) (omega arith)
label_power base (suc k) p h =
    let d = debit base p in
    let small : debit base p ≤ MAX_DEBIT = omega arith in
    let q = pow-le-pow_left (debit_power base p small) (suc k) in
    rw (← pow-pow base d (suc k), ← pow-pow S d (suc k), ← mul-pow S (base ^ d) (suc k), ← mul-pow p (S ^ d) (suc k)) q

-- all labels' reliabilities to the powers of their counts
labels_power : (base : ℕ) (rs ns : List ℕ) → length rs ≡ length ns → spent base rs ns ≤ MAX_DEBIT →
    S ^ sum ns * base ^ spent base rs ns ≤ product rs ns * S ^ spent base rs ns
labels_power base [] [] long h = rw (pow-zero base) (omega arith)
labels_power base [] (n ∷ ns) long h = absurd (omega (arith, long))
labels_power base (r ∷ rs) [] long h = absurd (omega (arith, long))
labels_power base (r ∷ rs) (n ∷ ns) long h =
    let a = label_power base n r (omega arith) in
    let b = labels_power base rs ns (omega (arith, long)) (omega arith) in
    let m = mul-le _ _ _ _ a b in
    let s : sum (n ∷ ns) ≡ n + sum ns = sum_by-cons (λ c. c) n ns in
    rw (s, pow-add S n (sum ns), pow-add base (n * debit base r) (spent base rs ns), pow-add S (n * debit base r) (spent base rs ns)) (omega (arith, m))

-- one factor is cancelled
crossed : (s b n x y u v p : ℕ) → b * (u * v) ≤ s * (x * y) → n * x ≤ p * u → y ≤ v → 0 < u * v → b * n ≤ s * p
crossed s b n x y u v p h1 h2 h3 some =
    let k1 = mul-le-mul_right n h1 in
    let k2 = mul-le-mul_right (s * y) h2 in
    let k3 = mul-le-mul_left (p * u * s) h3 in
    le_of_mul-le-mul_right {k = u * v} (omega (arith, k1, k2, k3)) some

-- where the debits stay within the budget, the product of the reliabilities is at least the bound
pub budgets_keep : BudgetsKeepBounds
budgets_keep base bound rs ns hb hp long within =
    let D = budget base bound in
    let T = spent base rs ns in
    let counted = (budget_is base bound hp).counted in
    let e : T + (D - T) ≡ D = omega arith in
    let h1 = budget_power base bound hp in
    let h1' = rw (pow-add S T (D - T), pow-add base T (D - T)) at (rw (← e) at h1) in
    let k = crossed S bound (S ^ sum ns) (base ^ T) (base ^ (D - T)) (S ^ T) (S ^ (D - T)) (product rs ns)
    h1' (labels_power base rs ns long (omega arith)) (pow-le-pow_left hb (D - T))
    (rw (← pow-add S T (D - T)) (one-le-pow (T + (D - T)) S (omega arith))) in
    omega (arith, k)
