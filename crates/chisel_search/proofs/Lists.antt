-- Lists in which one item is replaced, and lists made from a function.
use Rattle.std.proofs.Common.{◌≡◌, ℕ, zero, suc, ◌+◌, ◌-◌, ◌<◌, List, [], ◌∷◌, ◌++◌, length, map, refl, sym, ap, ◌∙◌, arith, append_assoc, length-append}
use Rattle.std.specs.Prelude.{slice_index_or, nat_lt}
use Rattle.std.specs.List.{insert, remove}
use Rattle.std.proofs.lemmas.List.{map-append}
use Rattle.std.proofs.lemmas.List.Edits.{insert-append_right}
use Rattle.std.proofs.lemmas.Bool.{ltb-true}
use Rattle.std.proofs.lemmas.Bool.Decides.{nat_tests}
use mathlib.Core.Logic.{◌⊎◌, inl, inr}
use Rattle.chisel_table.specs.Sums.{list_to, sum_to}
use Rattle.chisel_table.proofs.Sums.{by_test}
use Rattle.chisel_search.specs.Search.{replaced}

-- P holds of some item, of each item
abbrev pub SomeOf : {A : Type 0} → (A → Type 0) → List A → Type 0
SomeOf P [] = ⊥
SomeOf P (p ∷ ps) = P p ⊎ SomeOf P ps

abbrev pub EachOf : {A : Type 0} → (A → Type 0) → List A → Type 0
EachOf P [] = Unit {0}
EachOf P (p ∷ ps) = P p × EachOf P ps

-- the sum of f over the items
abbrev pub total : {A : Type 0} → (A → ℕ) → List A → ℕ
total f [] = 0
total f (p ∷ ps) = f p + total f ps

some_before : {A : Type 0} (P : A → Type 0) (xs ys : List A) → SomeOf P xs → SomeOf P (xs ++ ys)
some_before P [] ys h = absurd h
some_before P (x ∷ xs) ys (inl h) = inl h
some_before P (x ∷ xs) ys (inr h) = inr (some_before P xs ys h)

some_behind : {A : Type 0} (P : A → Type 0) (xs ys : List A) → SomeOf P ys → SomeOf P (xs ++ ys)
some_behind P [] ys h = h
some_behind P (x ∷ xs) ys h = inr (some_behind P xs ys h)

pub each_append : {A : Type 0} (P : A → Type 0) (xs ys : List A) → EachOf P xs → EachOf P ys → EachOf P (xs ++ ys)
each_append P [] ys h k = k
each_append P (x ∷ xs) ys h k = (h.0, each_append P xs ys h.1 k)

total_append : {A : Type 0} (f : A → ℕ) (xs ys : List A) → total f (xs ++ ys) ≡ total f xs + total f ys
total_append f [] ys = omega arith
total_append f (x ∷ xs) ys = let a = total_append f xs ys in omega arith

-- what is at the place goes, and the rest is kept
pub some_kept : {A : Type 0} (P : A → Type 0) (ps : List A) (k : ℕ) (new : List A) (e : A) → k < length ps → SomeOf P ps →
    P (slice_index_or ps k e) ⊎ SomeOf P (replaced ps k new)
unfolding replaced
some_kept P [] k new e l h = absurd h
some_kept P (p ∷ ps) zero new e l (inl h) = inl h
some_kept P (p ∷ ps) zero new e l (inr h) = inr (some_behind P new ps h)
some_kept P (p ∷ ps) (suc k) new e l (inl h) = inr (inl h)
some_kept P (p ∷ ps) (suc k) new e l (inr h) =
    elim (some_kept P ps k new e (omega arith) h) [ inl a ↦ inl a | inr a ↦ inr (inr a) ]

pub some_new : {A : Type 0} (P : A → Type 0) (ps : List A) (k : ℕ) (new : List A) → k < length ps → SomeOf P new → SomeOf P (replaced ps k new)
unfolding replaced
some_new P [] k new l h = absurd (omega arith)
some_new P (p ∷ ps) zero new l h = some_before P new ps h
some_new P (p ∷ ps) (suc k) new l h = inr (some_new P ps k new (omega arith) h)

pub each_replaced : {A : Type 0} (P : A → Type 0) (ps : List A) (k : ℕ) (new : List A) → EachOf P ps → EachOf P new → EachOf P (replaced ps k new)
unfolding replaced
each_replaced P [] k new h n = tt
each_replaced P (p ∷ ps) zero new h n = each_append P new ps n h.1
each_replaced P (p ∷ ps) (suc k) new h n = (h.0, each_replaced P ps k new h.1 n)

pub each_at : {A : Type 0} (P : A → Type 0) (ps : List A) (k : ℕ) (e : A) → k < length ps → EachOf P ps → P (slice_index_or ps k e)
each_at P [] k e l h = absurd (omega arith)
each_at P (p ∷ ps) zero e l h = h.0
each_at P (p ∷ ps) (suc k) e l h = each_at P ps k e (omega arith) h.1

pub total_replaced : {A : Type 0} (f : A → ℕ) (ps : List A) (k : ℕ) (new : List A) (e : A) → k < length ps →
    total f (replaced ps k new) + f (slice_index_or ps k e) ≡ total f ps + total f new
unfolding replaced
total_replaced f [] k new e l = absurd (omega arith)
total_replaced f (p ∷ ps) zero new e l = let a = total_append f new ps in omega arith
total_replaced f (p ∷ ps) (suc k) new e l = let a = total_replaced f ps k new e (omega arith) in omega arith

pub some_listed : {A : Type 0} (P : A → Type 0) (n : ℕ) (f : ℕ → A) (k : ℕ) → k < n → P (f k) → SomeOf P (list_to n f)
unfolding list_to
some_listed P zero f k l h = absurd (omega arith)
some_listed P (suc n) f k l h = by_test (nat_lt k n)
    (λ e. some_before P (list_to n f) (f n ∷ []) (some_listed P n f k (ltb-true k n e) h))
    (λ e. let q : k ≡ n = grind (arith, nat_tests) in some_behind P (list_to n f) (f n ∷ []) (inl (rw q at h)))

pub each_listed : {A : Type 0} (P : A → Type 0) (n : ℕ) (f : ℕ → A) → ((k : ℕ) → k < n → P (f k)) → EachOf P (list_to n f)
unfolding list_to
each_listed P zero f h = tt
each_listed P (suc n) f h = each_append P (list_to n f) (f n ∷ []) (each_listed P n f (λ k l. h k (omega arith))) (h n (omega arith), tt)

pub total_listed : {A : Type 0} (g : A → ℕ) (n : ℕ) (f : ℕ → A) → total g (list_to n f) ≡ sum_to n (λ k. g (f k))
unfolding list_to sum_to
total_listed g zero f = refl
total_listed g (suc n) f =
    let a = total_listed g n f in let b = total_append g (list_to n f) (f n ∷ []) in omega arith

pub each_weaker : {A : Type 0} (P Q : A → Type 0) (xs : List A) → ((x : A) → P x → Q x) → EachOf P xs → EachOf Q xs
each_weaker P Q [] f h = h
each_weaker P Q (x ∷ xs) f h = (f x h.0, each_weaker P Q xs f h.1)

pub total_same : {A : Type 0} (f g : A → ℕ) (Q : A → Type 0) (xs : List A) → ((x : A) → Q x → f x ≡ g x) → EachOf Q xs → total f xs ≡ total g xs
total_same f g Q [] h e = refl
total_same f g Q (x ∷ xs) h e = let a = h x e.0 in let b = total_same f g Q xs h e.1 in omega arith

pub length_replaced : {A : Type 0} (xs : List A) (k : ℕ) (new : List A) → k < length xs → length (replaced xs k new) + 1 ≡ length xs + length new
unfolding replaced
length_replaced [] k new l = absurd (omega arith)
length_replaced (x ∷ xs) zero new l = let a = length-append new xs in omega arith
length_replaced (x ∷ xs) (suc k) new l = let a = length_replaced xs k new (omega arith) in omega arith

pub map_replaced : {A B : Type 0} (f : A → B) (xs : List A) (k : ℕ) (new : List A) → map f (replaced xs k new) ≡ replaced (map f xs) k (map f new)
unfolding replaced
map_replaced f [] k new = refl
map_replaced f (x ∷ xs) zero new = map-append f new xs
map_replaced f (x ∷ xs) (suc k) new = ap (λ l. f x ∷ l) (map_replaced f xs k new)

-- an item that goes
pub replaced_none : {A : Type 0} (xs : List A) (k : ℕ) → k < length xs → remove xs k ≡ replaced xs k []
unfolding replaced
replaced_none [] k l = absurd (omega arith)
replaced_none (x ∷ xs) zero l = refl
replaced_none (x ∷ xs) (suc k) l = ap (λ l. x ∷ l) (replaced_none xs k (omega arith))

-- one item more in its place
pub replaced_more : {A : Type 0} (xs : List A) (k : ℕ) (new : List A) (n : ℕ) (y : A) → k < length xs → length new ≡ n →
    insert (replaced xs k new) (k + n) y ≡ replaced xs k (new ++ y ∷ [])
unfolding replaced
replaced_more [] k new n y l e = absurd (omega arith)
replaced_more (x ∷ xs) zero new n y l e =
    let z : 0 + n - n ≡ 0 = omega arith in
    insert-append_right new xs n (0 + n) y e (omega arith) ∙ ap (λ i. new ++ insert xs i y) z ∙ sym (append_assoc new (y ∷ []) xs)
replaced_more (x ∷ xs) (suc k) new n y l e =
    let z : suc k + n ≡ suc (k + n) = omega arith in
    ap (λ i. insert (x ∷ replaced xs k new) i y) z ∙ ap (λ l. x ∷ l) (replaced_more xs k new n y (omega arith) e)
