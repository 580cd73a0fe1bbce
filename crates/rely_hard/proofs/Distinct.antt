-- Laws of texts that are read one after another, none of them twice.
use Rattle.std.proofs.Common.{◌≡◌, ℕ, ◌<◌, ◌≤◌, Bool, true, false, not, ◌&&◌, ◌||◌, ◌==◌, eqb, map, List, [], ◌∷◌, ◌++◌, length, IsTrue, refl, ap, sym, ◌∙◌, subst, arith}
use Rattle.std.specs.List.{AllByRecursion, list_any, IsDistinct}
use Rattle.std.proofs.lemmas.Bool.{false≢true}
use Rattle.std.proofs.lemmas.Cmp.{nat_list_eq_equiv}
use Rattle.std.proofs.lemmas.Bool.Decides.{Decides-eqb}
use Rattle.std.proofs.lemmas.List.{map-append, length-map}
use Rattle.std.proofs.lemmas.Map.Steps.{length-le_from_distinct_below}
use Rattle.rely_num.specs.Ops.{op_number, is_op}
use Rattle.rely_num.specs.Texts.{Bytes, same_text, is_among, AreDistinct}
use Rattle.rely_num.specs.declared.op.Op.{Op}
use Rattle.rely_num.specs.declared.op.Op.TheVariants.{Add, Sub, Mul, Div, Rem, Lt, Le, Gt, Ge, Eq, Ne, And, Or, Xor}
use Rattle.rely_hard.specs.declared.hardware.OpSpec.{OpSpec}
use Rattle.rely_hard.specs.Valid.{AreOnce}

-- each of a list and of one more
pub all_push : {X : Type 0} (P : X → Type 0) (xs : List X) (x : X) → AllByRecursion P xs → P x → AllByRecursion P (xs ++ x ∷ [])
all_push P [] x h p = (p, tt)
all_push P (y ∷ ys) x h p = (h.0, all_push P ys x h.1 p)

-- a text stands among texts and one more
among_push : (t u : Bytes) (us : List Bytes) → is_among t (us ++ u ∷ []) ≡ (is_among t us || same_text t u)
among_push t u [] = grind arith
among_push t u (v ∷ us) = ap (λ b. same_text t v || b) (among_push t u us) ∙ or_on (same_text t v) (is_among t us) (same_text t u)
  where
    or_on : (a b c : Bool) → (a || (b || c)) ≡ ((a || b) || c)
    or_on true b c = refl
    or_on false b c = refl

-- neither of two
neither : (a b : Bool) → IsTrue (not a) → IsTrue (not b) → IsTrue (not (a || b))
neither true b h j = h
neither false b h j = j

-- the first of two that aren't, and the second
first_not : (a b : Bool) → IsTrue (not (a || b)) → IsTrue (not a)
first_not true b h = h
first_not false b h = refl

second_not : (a b : Bool) → IsTrue (not (a || b)) → IsTrue (not b)
second_not true b h = absurd (false≢true h)
second_not false b h = h

-- one more text that isn't among them
pub distinct_push : (ts : List Bytes) (t : Bytes) → AreDistinct ts → IsTrue (not (is_among t ts)) → AreDistinct (ts ++ t ∷ [])
distinct_push [] t h j = (refl, tt)
distinct_push (u ∷ us) t h j =
    let other : IsTrue (not (same_text u t)) = subst (λ b. IsTrue (not b)) (nat_list_eq_equiv.symm t u) (first_not (same_text t u) (is_among t us) j) in
    let last : IsTrue (not (is_among u us || same_text u t)) = neither (is_among u us) (same_text u t) h.0 other in
    (subst (λ b. IsTrue (not b)) (sym (among_push u t us)) last, distinct_push us t h.1 (second_not (same_text t u) (is_among t us) j))

-- the same of what has a text
pub names_push : {X : Type 0} (f : X → Bytes) (xs : List X) (x : X) → AreDistinct (map f xs) → IsTrue (not (is_among (f x) (map f xs))) → AreDistinct (map f (xs ++ x ∷ []))
names_push f xs x h j = subst AreDistinct (sym (map-append f xs (x ∷ []))) (distinct_push (map f xs) (f x) h j)

-- an operator among operators
pub among_operators : (op : Op) (os : List OpSpec) → is_among (op_number op ∷ []) (map (λ o. op_number o.op ∷ []) os) ≡ list_any (λ o. is_op op o.op) os
among_operators op [] = refl
among_operators op (o ∷ os) = ap (λ b. same_text (op_number op ∷ []) (op_number o.op ∷ []) || b) (among_operators op os) ∙ ap (λ b. b || list_any (λ o. is_op op o.op) os) (one_byte (op_number op == op_number o.op))
  where
    one_byte : (b : Bool) → (b && true) ≡ b
    one_byte true = refl
    one_byte false = refl

-- one more operator
pub once_push : (os : List OpSpec) (o : OpSpec) → AreOnce os → list_any (λ p. is_op o.op p.op) os ≡ false → AreOnce (os ++ o ∷ [])
once_push os o h j = names_push (λ o. op_number o.op ∷ []) os o h (ap not (among_operators o.op os ∙ j))

-- there are fourteen
op_number-lt : (op : Op) → op_number op < 14
op_number-lt Add = omega arith
op_number-lt Sub = omega arith
op_number-lt Mul = omega arith
op_number-lt Div = omega arith
op_number-lt Rem = omega arith
op_number-lt Lt = omega arith
op_number-lt Le = omega arith
op_number-lt Gt = omega arith
op_number-lt Ge = omega arith
op_number-lt Eq = omega arith
op_number-lt Ne = omega arith
op_number-lt And = omega arith
op_number-lt Or = omega arith
op_number-lt Xor = omega arith

-- a number apart from each
apart : (n : ℕ) (os : List OpSpec) → IsTrue (not (is_among (n ∷ []) (map (λ o. op_number o.op ∷ []) os))) → AllByRecursion (λ m. eqb n m ≡ false) (map (λ o. op_number o.op) os)
apart n [] h = tt
apart n (o ∷ os) h =
    let here : IsTrue (not (eqb n (op_number o.op) && true)) = first_not (eqb n (op_number o.op) && true) (is_among (n ∷ []) (map (λ o. op_number o.op ∷ []) os)) h in
    (differs (eqb n (op_number o.op)) here, apart n os (second_not (eqb n (op_number o.op) && true) (is_among (n ∷ []) (map (λ o. op_number o.op ∷ []) os)) h))
  where
    differs : (b : Bool) → IsTrue (not (b && true)) → b ≡ false
    differs true h = sym h
    differs false h = refl

-- no number twice
numbers_distinct : (os : List OpSpec) → AreOnce os → IsDistinct eqb (map (λ o. op_number o.op) os)
unfolding IsDistinct
numbers_distinct [] h = tt
numbers_distinct (o ∷ os) h = (apart (op_number o.op) os h.0, numbers_distinct os h.1)

-- each number is below fourteen
numbers_below : (os : List OpSpec) (q : ℕ) → list_any (eqb q) (map (λ o. op_number o.op) os) ≡ true → q < 14
numbers_below [] q h = absurd (false≢true h)
numbers_below (o ∷ os) q h = go (eqb q (op_number o.op)) refl h (numbers_below os q)
  where
    go : (b : Bool) → eqb q (op_number o.op) ≡ b → (b || list_any (eqb q) (map (λ o. op_number o.op) os)) ≡ true → (list_any (eqb q) (map (λ o. op_number o.op) os) ≡ true → q < 14) → q < 14
    go true e k rest = let same : q ≡ op_number o.op = (Decides-eqb q (op_number o.op)).0 e in subst (λ n. n < 14) (sym same) (op_number-lt o.op)
    go false e k rest = rest k

-- fourteen operators at most are listed
pub few_operators : (os : List OpSpec) → AreOnce os → length os ≤ 14
few_operators os h =
    let few : length (map (λ o. op_number o.op) os) ≤ 14 = length-le_from_distinct_below (map (λ o. op_number o.op) os) 14 (numbers_distinct os h) (numbers_below os) in
    omega (arith, few, length-map os (λ (o : OpSpec). op_number o.op))
