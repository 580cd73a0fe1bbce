-- Counts that rise by one, as code raises them, and that never fall.
use Rattle.std.proofs.Common.{◌≡◌, ℕ, zero, suc, ◌+◌, ◌-◌, ◌<◌, ◌≤◌, ◌^◌, Bool, true, false, List, [], ◌∷◌, length, get_or, set, drop, nat_le, eqb, refl, sym, ap, subst, ◌∙◌, inl, inr, arith, if◌then◌else◌}
use Rattle.std.specs.List.{list_any, AllByRecursion}
use Rattle.std.proofs.lemmas.Bool.{or_cases, or_left, or_right, leb-true, le-leb}
use Rattle.std.proofs.lemmas.List.{drop_more}
use Rattle.std.proofs.lemmas.Nat.Bits.{bit_at_above}
use Rattle.rely_num.specs.declared.conj.Conj.{Conj}
use Rattle.rely_num.specs.Sets.{has}
use Rattle.rely_kernel.specs.declared.kernel.Kernel.{Kernel}
use Rattle.rely_kernel.specs.declared.kernel.Ex.{Ex}
use Rattle.rely_kernel.specs.declared.kernel.Ex.TheVariants as ex
use Rattle.rely_kernel.specs.declared.label.Label.{Label}
use Rattle.rely_kernel.specs.declared.label.Label.TheVariants as label
use Rattle.rely_kernel.specs.Labels.{number}
use Rattle.rely_kernel.specs.Paths.{bump, count, name, forget, use_of, uses_of}
use Rattle.rely_kernel.specs.Text.{Expr, expr_of, exprs_of}
use Rattle.rely_kernel.proofs.TextLemmas.{text-Elem, text-Bin}
use Rattle.rely_precond.specs.Answers.{IsOver}
use Rattle.rely_precond.specs.InRange.{ExprInRange}

-- one more at a place
pub bump_set : (i : ℕ) (ns : List ℕ) → i < length ns → bump i ns ≡ set ns i (get_or ns i 0 + 1)
bump_set i [] h = absurd (omega (arith, h))
bump_set zero (n ∷ ns) h = let e : suc n ≡ n + 1 = omega arith in ap (λ m. m ∷ ns) e
bump_set (suc i) (n ∷ ns) h = ap (λ ms. n ∷ ms) (bump_set i ns (omega (arith, h)))

-- nothing behind the last
pub bump_beyond : (i : ℕ) (ns : List ℕ) → length ns ≤ i → bump i ns ≡ ns
bump_beyond i [] h = refl
bump_beyond zero (n ∷ ns) h = absurd (omega (arith, h))
bump_beyond (suc i) (n ∷ ns) h = ap (λ ms. n ∷ ms) (bump_beyond i ns (omega (arith, h)))

-- ---- counts that reach a number

module _ (m : ℕ) where
  -- where the one that rises reaches it
  pub bump_reaches : (i : ℕ) (ns : List ℕ) → i < length ns → m ≤ get_or ns i 0 + 1 → list_any (nat_le m) (bump i ns) ≡ true
  bump_reaches i [] h k = absurd (omega (arith, h))
  bump_reaches zero (n ∷ ns) h k = or_left (nat_le m (suc n)) (list_any (nat_le m) ns) (le-leb m (suc n) (omega (arith, k)))
  bump_reaches (suc i) (n ∷ ns) h k = or_right (nat_le m n) (list_any (nat_le m) (bump i ns)) (bump_reaches i ns (omega (arith, h)) k)

  -- and where one of them did already
  pub bump_keeps : (i : ℕ) (ns : List ℕ) → list_any (nat_le m) ns ≡ true → list_any (nat_le m) (bump i ns) ≡ true
  bump_keeps i [] h = absurd cc
  bump_keeps zero (n ∷ ns) h = elim (or_cases (nat_le m n) (list_any (nat_le m) ns) h) [
    | inl e ↦ or_left (nat_le m (suc n)) (list_any (nat_le m) ns) (le-leb m (suc n) (let l = leb-true m n e in omega arith))
    | inr e ↦ or_right (nat_le m (suc n)) (list_any (nat_le m) ns) e
  ]
  bump_keeps (suc i) (n ∷ ns) h = elim (or_cases (nat_le m n) (list_any (nat_le m) ns) h) [
    | inl e ↦ or_left (nat_le m n) (list_any (nat_le m) (bump i ns)) e
    | inr e ↦ or_right (nat_le m n) (list_any (nat_le m) (bump i ns)) (bump_keeps i ns e)
  ]

-- ---- conjuncts that are over the limit stay over it

module _ (k : Kernel) where
  pub over_count : (l : Label) (c : Conj) → IsOver c → IsOver (count k l c)
  over_count l c h = record { some = bump_keeps (2 ^ 36) (number k l) c.counts h.some }

  pub over_name : (v : ℕ) (c : Conj) → IsOver c → IsOver (name v c)
  over_name v c h = record { some = h.some }

  pub over_forget : (v : ℕ) (c : Conj) → IsOver c → IsOver (forget v c)
  over_forget v c h = record { some = h.some }

  pub over_use : (e : Expr) (c : Conj) → IsOver c → IsOver (use_of k e c)
  over_use (Expr.Num z) c h = h
  over_use (Expr.Read v) c h = over_count (label.Read v) (name v c) (over_name v c h)
  over_use (Expr.Elem a i) c h = over_use i (count k (label.Read a) (name a c)) (over_count (label.Read a) (name a c) (over_name a c h))
  over_use (Expr.Bin site x y) c h = over_use x (use_of k y (count k (label.Op site) c)) (over_use y (count k (label.Op site) c) (over_count (label.Op site) c h))

  over_argument : (b : Bool) (e : Expr) (c : Conj) → IsOver c → IsOver ((if b then use_of k e else (λ d. d)) c)
  over_argument true e c h = over_use e c h
  over_argument false e c h = h

  pub over_uses_all : (needs i : ℕ) (es : List Expr) (c : Conj) → IsOver c → IsOver (uses_of k needs i es c)
  over_uses_all needs i [] c h = h
  over_uses_all needs i (e ∷ es) c h = over_argument (has needs i) e (uses_of k needs (i + 1) es c) (over_uses_all needs (i + 1) es c h)

  -- the arguments before some of them
  pub over_uses : (needs j i : ℕ) (es : List Expr) (c : Conj) → IsOver (uses_of k needs (j + i) (drop i es) c) → IsOver (uses_of k needs j es c)
  over_uses needs j zero es c h = let e : j + 0 ≡ j = omega arith in subst (λ (n : ℕ). IsOver (uses_of k needs n es c)) e h
  over_uses needs j (suc i) [] c h = h
  over_uses needs j (suc i) (e ∷ es) c h =
      let n : j + suc i ≡ j + 1 + i = omega arith in
      over_argument (has needs j) e (uses_of k needs (j + 1) es c) (over_uses needs (j + 1) i es c (subst (λ (n : ℕ). IsOver (uses_of k needs n (drop i es) c)) n h))

-- ---- expressions, as code takes them apart

pub use-Elem : (k : Kernel) (a : ℕ) (i : Ex) (c : Conj) → use_of k (expr_of (ex.Elem a i)) c ≡ use_of k (expr_of i) (count k (label.Read a) (name a c))
use-Elem k a i c = ap (λ e. use_of k e c) (text-Elem a i)

pub use-Bin : (k : Kernel) (site : ℕ) (x y : Ex) (c : Conj) → use_of k (expr_of (ex.Bin site x y)) c ≡ use_of k (expr_of x) (use_of k (expr_of y) (count k (label.Op site) c))
use-Bin k site x y c = ap (λ e. use_of k e c) (text-Bin site x y)

pub range-Elem : (k : Kernel) (e : Ex) (a : ℕ) (i : Ex) → e ≡ ex.Elem a i → ExprInRange k (expr_of e) → (a < length k.vars) × ExprInRange k (expr_of i)
range-Elem k e a i is h = subst (λ (x : Expr). ExprInRange k x) (ap expr_of is ∙ text-Elem a i) h

pub range-Bin : (k : Kernel) (e : Ex) (site : ℕ) (x y : Ex) → e ≡ ex.Bin site x y → ExprInRange k (expr_of e) → ExprInRange k (expr_of x) × ExprInRange k (expr_of y)
range-Bin k e site x y is h = subst (λ (z : Expr). ExprInRange k z) (ap expr_of is ∙ text-Bin site x y) h

-- ---- from one step of the code to the next

pub elem_grown : (k : Kernel) (e : Ex) (a : ℕ) (i x : Ex) (c d : Conj) → e ≡ ex.Elem a i → x ≡ i → d ≡ count k (label.Read a) (name a c) → use_of k (expr_of x) d ≡ use_of k (expr_of e) c
elem_grown k e a i x c d is same grown = ap (λ y. use_of k (expr_of y) d) same ∙ ap (use_of k (expr_of i)) grown ∙ sym (ap (λ y. use_of k (expr_of y) c) is ∙ use-Elem k a i c)

pub elem_over : (k : Kernel) (e : Ex) (a : ℕ) (i : Ex) (c : Conj) → e ≡ ex.Elem a i → IsOver (count k (label.Read a) (name a c)) → IsOver (use_of k (expr_of e) c)
elem_over k e a i c is h = subst IsOver (sym (ap (λ y. use_of k (expr_of y) c) is ∙ use-Elem k a i c)) (over_use k (expr_of i) (count k (label.Read a) (name a c)) h)

pub bin_grown : (k : Kernel) (e : Ex) (site : ℕ) (x y v w : Ex) (c d q : Conj) → e ≡ ex.Bin site x y → w ≡ y → v ≡ x → d ≡ count k (label.Op site) c → q ≡ use_of k (expr_of w) d
    → use_of k (expr_of v) q ≡ use_of k (expr_of e) c
bin_grown k e site x y v w c d q is second first grown then_grown =
    ap (λ z. use_of k (expr_of z) q) first
    ∙ ap (use_of k (expr_of x)) (then_grown ∙ ap (λ z. use_of k (expr_of z) d) second ∙ ap (use_of k (expr_of y)) grown)
    ∙ sym (ap (λ z. use_of k (expr_of z) c) is ∙ use-Bin k site x y c)

pub bin_over : (k : Kernel) (e : Ex) (site : ℕ) (x y : Ex) (c : Conj) → e ≡ ex.Bin site x y → IsOver (use_of k (expr_of y) (count k (label.Op site) c)) → IsOver (use_of k (expr_of e) c)
bin_over k e site x y c is h =
    subst IsOver (sym (ap (λ z. use_of k (expr_of z) c) is ∙ use-Bin k site x y c)) (over_use k (expr_of x) (use_of k (expr_of y) (count k (label.Op site) c)) h)

pub bin_over_early : (k : Kernel) (e : Ex) (site : ℕ) (x y : Ex) (c : Conj) → e ≡ ex.Bin site x y → IsOver (count k (label.Op site) c) → IsOver (use_of k (expr_of e) c)
bin_over_early k e site x y c is h = bin_over k e site x y c is (over_use k (expr_of y) (count k (label.Op site) c) h)

-- ---- arguments, from the last to the first

exprs_of_drop : (es : List Ex) (i : ℕ) → drop i (exprs_of es) ≡ exprs_of (drop i es)
exprs_of_drop es zero = refl
exprs_of_drop [] (suc i) = refl
exprs_of_drop (e ∷ es) (suc i) = exprs_of_drop es i

argument_range : (k : Kernel) (es : List Ex) (i : ℕ) (e : Ex) → i < length es → AllByRecursion (ExprInRange k) (exprs_of es) → ExprInRange k (expr_of (get_or es i e))
argument_range k [] i e h r = absurd (omega (arith, h))
argument_range k (x ∷ es) zero e h r = r.0
argument_range k (x ∷ es) (suc i) e h r = argument_range k es i e (omega (arith, h)) r.1

pub argument_in_range : (k : Kernel) (es : List Ex) (i : ℕ) (e : Ex) → i < length es → e ≡ get_or es i e → AllByRecursion (ExprInRange k) (exprs_of es) → ExprInRange k (expr_of e)
argument_in_range k es i e h is r = subst (λ (x : Ex). ExprInRange k (expr_of x)) (sym is) (argument_range k es i e h r)

-- the last i of them
abbrev pub uses_from : Kernel → ℕ → ℕ → List Ex → Conj → Conj
uses_from k needs i es c = uses_of k needs i (exprs_of (drop i es)) c

one_argument : (k : Kernel) (needs i : ℕ) (es : List Ex) (e : Ex) (c : Conj) → i < length es → e ≡ get_or es i e
    → uses_from k needs i es c ≡ (if has needs i then use_of k (expr_of e) else (λ d. d)) (uses_from k needs (i + 1) es c)
one_argument k needs i es e c h is = ap (λ xs. uses_of k needs i (exprs_of xs) c) (drop_more es i e h ∙ ap (λ x. x ∷ drop (i + 1) es) (sym is))

pass_one : (k : Kernel) (needs j i : ℕ) (es : List Ex) (c : Conj) → i < length es → has needs j ≡ false → uses_of k needs j (exprs_of (drop i es)) c ≡ uses_of k needs (j + 1) (exprs_of (drop (suc i) es)) c
pass_one k needs j i [] c h p = absurd (omega (arith, h))
pass_one k needs j zero (e ∷ es) c h p = ap (λ b. (if b then use_of k (expr_of e) else (λ x. x)) (uses_of k needs (j + 1) (exprs_of es) c)) p
pass_one k needs j (suc i) (e ∷ es) c h p = pass_one k needs j i es c (omega (arith, h)) p

-- one that the callee doesn't need
pub argument_passed : (k : Kernel) (needs i : ℕ) (es : List Ex) (c d : Conj) → 0 < i → i ≤ length es → has needs (i - 1) ≡ false → d ≡ uses_from k needs i es c → d ≡ uses_from k needs (i - 1) es c
argument_passed k needs i es c d some within p so_far =
    let n : i - 1 + 1 ≡ i = omega arith in
    let m : suc (i - 1) ≡ i = omega arith in
    so_far ∙ sym (pass_one k needs (i - 1) (i - 1) es c (omega arith) p ∙ ap (λ a. uses_of k needs a (exprs_of (drop (suc (i - 1)) es)) c) n ∙ ap (λ a. uses_of k needs i (exprs_of (drop a es)) c) m)

module _ (k : Kernel) (needs i : ℕ) (es : List Ex) (e : Ex) (c d : Conj) (some : 0 < i) (within : i ≤ length es) (is : e ≡ get_or es (i - 1) e) (so_far : d ≡ uses_from k needs i es c) where
  before_is : uses_from k needs (i - 1) es c ≡ (if has needs (i - 1) then use_of k (expr_of e) else (λ x. x)) d
  before_is =
      let n : i - 1 + 1 ≡ i = omega arith in
      one_argument k needs (i - 1) es e c (omega arith) is ∙ ap (λ x. (if has needs (i - 1) then use_of k (expr_of e) else (λ x. x)) x) (ap (λ m. uses_from k needs m es c) n ∙ sym so_far)

  pub argument_used : has needs (i - 1) ≡ true → use_of k (expr_of e) d ≡ uses_from k needs (i - 1) es c
  argument_used h = sym (before_is ∙ ap (λ b. (if b then use_of k (expr_of e) else (λ x. x)) d) h)

  pub argument_over : has needs (i - 1) ≡ true → IsOver (use_of k (expr_of e) d) → IsOver (uses_of k needs 0 (exprs_of es) c)
  argument_over h o =
      let n : i - 1 ≡ 0 + (i - 1) = omega arith in
      over_uses k needs 0 (i - 1) (exprs_of es) c
      (subst (λ (m : ℕ). IsOver (uses_of k needs m (drop (i - 1) (exprs_of es)) c)) n
      (subst (λ (xs : List Expr). IsOver (uses_of k needs (i - 1) xs c)) (sym (exprs_of_drop es (i - 1))) (subst IsOver (argument_used h) o)))

-- no set has a number beyond its bits
pub has_beyond : (set v : ℕ) → set < 2 ^ 64 → 64 ≤ v → has set v ≡ false
has_beyond set v h w = ap (λ b. eqb b 1) (bit_at_above set 64 v h w)

-- ---- a count, as code raises it

pub get_any : (ns : List ℕ) (i m : ℕ) → i < length ns → get_or ns i m ≡ get_or ns i 0
get_any [] i m h = absurd (omega (arith, h))
get_any (n ∷ ns) zero m h = refl
get_any (n ∷ ns) (suc i) m h = get_any ns i m (omega (arith, h))

pub bump_from_vec : (l i : ℕ) (ns vs : List ℕ) (m : ℕ) → i ≡ l → vs ≡ ns → i < length vs → m ≡ get_or vs i m → set vs i (m + 1) ≡ bump l ns
bump_from_vec l i ns vs m at same h is =
    ap (λ a. set vs i (a + 1)) (is ∙ get_any vs i m h) ∙ sym (bump_set i vs h) ∙ ap (λ a. bump a vs) at ∙ ap (bump l) same

pub bump_stays : (l i : ℕ) (ns vs : List ℕ) → i ≡ l → vs ≡ ns → length vs ≤ i → vs ≡ bump l ns
bump_stays l i ns vs at same h = sym (bump_beyond i vs h) ∙ ap (λ a. bump a vs) at ∙ ap (bump l) same

pub bump_full : (l i : ℕ) (ns vs : List ℕ) (m : ℕ) → i ≡ l → vs ≡ ns → i < length vs → m ≡ get_or vs i m → 68719476735 ≤ m → list_any (nat_le (2 ^ 36)) (bump l ns) ≡ true
bump_full l i ns vs m at same h is full =
    let e : m ≡ get_or vs i 0 = is ∙ get_any vs i m h in
    ap (list_any (nat_le (2 ^ 36))) (sym (ap (λ a. bump a vs) at ∙ ap (bump l) same)) ∙ bump_reaches (2 ^ 36) i vs h (omega arith)
