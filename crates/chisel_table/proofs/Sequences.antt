-- Sequences of numbers, and which is less where they first differ.
use Rattle.std.specs.Prelude.{nat_lt, ◌==◌, slice_index}
use Rattle.std.proofs.Common.{◌≡◌, ◌≢◌, ℕ, zero, suc, true, false, ◌≤◌, ◌<◌, refl, sym, ◌∙◌, arith, List, length, [], ◌∷◌}
use Rattle.std.proofs.Math.Bool.{or-true}
use Rattle.std.proofs.lemmas.Bool.{eqb-true, eq-eqb, ltb-true, lt-ltb}
use Rattle.std.proofs.lemmas.Bool.Decides.{nat_tests}
use mathlib.Core.Logic.{◌⊎◌, inl, inr}
use Rattle.chisel_table.specs.Sums.{agree_to, precedes_to}
use Rattle.chisel_table.proofs.Sums.{by_test, both}

agreed : (n : ℕ) (f g : ℕ → ℕ) → agree_to n f g ≡ true → (k : ℕ) → k < n → f k ≡ g k
unfolding agree_to
agreed zero f g h k l = absurd (omega arith)
agreed (suc n) f g h k l =
    let a = both _ _ h in
    by_test (k == n)
    (λ q. let e = eqb-true k n q in rw e (eqb-true _ _ a.1))
    (λ q. let ne : k ≢ n = λ z. absurd (let w = eq-eqb k n z in cc) in agreed n f g a.0 k (omega arith))

agrees : (n : ℕ) (f g : ℕ → ℕ) → ((k : ℕ) → k < n → f k ≡ g k) → agree_to n f g ≡ true
unfolding agree_to
agrees zero f g h = refl
agrees (suc n) f g h = rw (agrees n f g (λ k l. h k (omega arith))) (eq-eqb _ _ (h n (omega arith)))

-- f is less than g where they first differ
pub record Precedes (n : ℕ) (f g : ℕ → ℕ) : Type 0 where
  pub at : ℕ
  pub inside : at < n
  pub less : f at < g at
  pub same : (k : ℕ) → k < at → f k ≡ g k

pub precedes_at : (n : ℕ) (f g : ℕ → ℕ) → precedes_to n f g ≡ true → Precedes n f g
unfolding precedes_to
precedes_at zero f g h = cc
precedes_at (suc n) f g h = by_test (precedes_to n f g)
    (λ e. let p = precedes_at n f g e in record { at = p.at; inside = omega arith; less = p.less; same = p.same })
    (λ e. let a = both (agree_to n f g) _ (rw e at h) in
    record { at = n; inside = omega arith; less = ltb-true _ _ a.1; same = agreed n f g a.0 })

pub does_precede : (n : ℕ) (f g : ℕ → ℕ) → Precedes n f g → precedes_to n f g ≡ true
unfolding precedes_to
does_precede zero f g p = absurd (omega arith)
does_precede (suc n) f g p = by_test (p.at == n)
    (λ q. let e = eqb-true _ _ q in
    rw (agrees n f g (λ k l. p.same k (omega arith)), lt-ltb (f n) (g n) (rw e at p.less)) (or-true _))
    (λ q. let ne : p.at ≢ n = λ z. absurd (let w = eq-eqb _ _ z in cc) in
    rw (does_precede n f g (record { at = p.at; inside = omega arith; less = p.less; same = p.same })) refl)

pub precedes_not_itself : (n : ℕ) (f : ℕ → ℕ) → Precedes n f f → ⊥
precedes_not_itself n f p = let l = p.less in omega arith

pub precedes_trans : (n : ℕ) (f g h : ℕ → ℕ) → Precedes n f g → Precedes n g h → Precedes n f h
precedes_trans n f g h p q = by_test (nat_lt p.at q.at)
    (λ e. let l = ltb-true _ _ e in
    record { at = p.at; inside = p.inside; less = rw (← q.same p.at l) p.less; same = λ k m. p.same k m ∙ q.same k (omega arith) })
    (λ e. let l : q.at ≤ p.at = grind (arith, nat_tests) in by_test (p.at == q.at)
    (λ z. let w = eqb-true _ _ z in
    record { at = p.at; inside = p.inside; less = let u = p.less in let v : g p.at < h p.at = rw w q.less in omega arith; same = λ k m. p.same k m ∙ q.same k (omega arith) })
    (λ z. let ne : p.at ≢ q.at = λ y. absurd (let w = eq-eqb _ _ y in cc) in
    record { at = q.at; inside = q.inside; less = rw (p.same q.at (omega arith)) q.less; same = λ k m. p.same k (omega arith) ∙ q.same k m }))

-- one precedes the other, or they are equal
pub compared : (n : ℕ) (f g : ℕ → ℕ) → Precedes n f g ⊎ (Precedes n g f ⊎ ((k : ℕ) → k < n → f k ≡ g k))
compared zero f g = inr (inr (λ k l. absurd (omega arith)))
compared (suc n) f g = elim (compared n f g) [
  | inl p ↦ inl (record { at = p.at; inside = omega arith; less = p.less; same = p.same })
  | inr (inl p) ↦ inr (inl (record { at = p.at; inside = omega arith; less = p.less; same = p.same }))
  | inr (inr e) ↦ by_test (nat_lt (f n) (g n))
      (λ a. inl (record { at = n; inside = omega arith; less = ltb-true _ _ a; same = e }))
      (λ a. by_test (nat_lt (g n) (f n))
      (λ b. inr (inl (record { at = n; inside = omega arith; less = ltb-true _ _ b; same = λ k l. sym (e k l) })))
      (λ b. inr (inr (λ k l. by_test (k == n)
      (λ z. rw (eqb-true _ _ z) (grind (arith, nat_tests)))
      (λ z. let ne : k ≢ n = λ y. absurd (let w = eq-eqb _ _ y in cc) in e k (omega arith))))))
]

-- what is nowhere larger precedes all that the larger precedes
pub precedes_under : (n : ℕ) (z c b : ℕ → ℕ) → ((k : ℕ) → k < n → z k ≤ c k) → Precedes n c b → Precedes n z b
precedes_under n z c b h p = elim (compared p.at z b) [
  | inl q ↦ record { at = q.at; inside = omega arith; less = q.less; same = q.same }
  | inr (inl q) ↦ absurd (let u = h q.at (omega arith) in let v = p.same q.at q.inside in let w = q.less in omega arith)
  | inr (inr e) ↦ record { at = p.at; inside = p.inside; less = let u = h p.at p.inside in let w = p.less in omega arith; same = e }
]

-- what precedes a sequence precedes every later one
pub precedes_later : (n : ℕ) (z a b : ℕ → ℕ) → Precedes n z a → (Precedes n b a → ⊥) → Precedes n z b
precedes_later n z a b p h = elim (compared n a b) [
  | inl q ↦ precedes_trans n z a b p q
  | inr (inl q) ↦ absurd (h q)
  | inr (inr e) ↦ record { at = p.at; inside = p.inside; less = rw (← e p.at p.inside) p.less; same = λ k l. p.same k l ∙ e k (let i = p.inside in omega arith) }
]

-- where two sequences first differ decides
pub differs : (n : ℕ) (f g : ℕ → ℕ) (d : ℕ) → d < n → ((k : ℕ) → k < d → f k ≡ g k) → f d ≢ g d → nat_lt (f d) (g d) ≡ precedes_to n f g
differs n f g d l same ne = by_test (nat_lt (f d) (g d))
    (λ e. e ∙ sym (does_precede n f g (record { at = d; inside = l; less = ltb-true _ _ e; same = same })))
    (λ e. e ∙ sym (by_test (precedes_to n f g)
    (λ h. absurd (
    let p = precedes_at n f g h in
    let less = p.less in
    let m : g d < f d = grind (arith, nat_tests) in
    by_test (nat_lt p.at d)
    (λ x. let y = same p.at (ltb-true _ _ x) in omega arith)
    (λ x. by_test (p.at == d)
    (λ y. let z = eqb-true p.at d y in let w : f d < g d = rw z at less in omega arith)
    (λ y. let u : d < p.at = let v : p.at ≢ d = λ w. absurd (let q = eq-eqb p.at d w in cc) in let r : d ≤ p.at = grind (arith, nat_tests) in omega arith in
    let s = p.same d u in omega arith))))
    (λ h. h)))

pub differs_nowhere : (n : ℕ) (f g : ℕ → ℕ) → ((k : ℕ) → k < n → f k ≡ g k) → precedes_to n f g ≡ false
differs_nowhere n f g same = by_test (precedes_to n f g)
    (λ h. absurd (let p = precedes_at n f g h in let less = p.less in let e = same p.at p.inside in omega arith))
    (λ h. h)

-- lists of one length with the same numbers are equal
pub same_list : (n : ℕ) (a b : List ℕ) → length a ≡ n → length b ≡ n → ((k : ℕ) → k < n → slice_index a k ≡ slice_index b k) → a ≡ b
same_list n [] [] p q h = refl
same_list n [] (y ∷ ys) p q h = absurd (omega arith)
same_list n (x ∷ xs) [] p q h = absurd (omega arith)
same_list n (x ∷ xs) (y ∷ ys) p q h =
    let e = h 0 (omega arith) in
    let es = same_list (length xs) xs ys refl (omega arith) (λ k l. h (suc k) (omega arith)) in
    cc
