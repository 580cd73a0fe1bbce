-- Lists made from a function of the place.
use Rattle.std.proofs.Common.{◌≡◌, ℕ, zero, suc, ◌+◌, ◌-◌, ◌<◌, List, [], ◌∷◌, ◌++◌, length, get_or, refl, sym, ap, ◌∙◌, arith, length-append, add-one}
use Rattle.std.specs.Prelude.{nat_lt}
use Rattle.std.proofs.lemmas.Bool.{ltb-true}
use Rattle.std.proofs.lemmas.Bool.Decides.{nat_tests}
use Rattle.std.proofs.lemmas.List.{get_or_append_left, get_or-append_right, ext_get_or}
use Rattle.chisel_table.specs.Sums.{list_to}
use Rattle.chisel_table.proofs.Sums.{by_test}

pub listed_more : {A : Type 0} (n : ℕ) (f : ℕ → A) → list_to (n + 1) f ≡ list_to n f ++ f n ∷ []
unfolding list_to
listed_more n f = rw add-one refl

pub listed_none : {A : Type 0} (f : ℕ → A) → list_to 0 f ≡ []
unfolding list_to
listed_none f = refl

pub length_listed : {A : Type 0} (n : ℕ) (f : ℕ → A) → length (list_to n f) ≡ n
unfolding list_to
length_listed zero f = refl
length_listed (suc n) f = let a = length_listed n f in let b = length-append (list_to n f) (f n ∷ []) in omega arith

pub listed_at : {A : Type 0} (n : ℕ) (f : ℕ → A) (k : ℕ) (d : A) → k < n → get_or (list_to n f) k d ≡ f k
unfolding list_to
listed_at zero f k d l = absurd (omega arith)
listed_at (suc n) f k d l = by_test (nat_lt k n)
    (λ e. let m = ltb-true k n e in
    let i : k < length (list_to n f) = let a = length_listed n f in omega arith in
    get_or_append_left (list_to n f) (f n ∷ []) d k i ∙ listed_at n f k d m)
    (λ e. let q : k ≡ n = grind (arith, nat_tests) in
    get_or-append_right (list_to n f) (f n ∷ []) n k d (length_listed n f) (omega arith)
    ∙ ap (λ i. get_or (f n ∷ []) i d) (let z : k - n ≡ 0 = omega arith in z) ∙ ap f (sym q))

-- a list with these elements is that list
pub listed_same : {A : Type 0} (d : A) (n : ℕ) (f : ℕ → A) (xs : List A) → length xs ≡ n → ((k : ℕ) → k < n → get_or xs k d ≡ f k) → xs ≡ list_to n f
listed_same d n f xs e h =
    ext_get_or d xs (list_to n f) (e ∙ sym (length_listed n f))
    (λ k l. let m : k < n = omega arith in h k m ∙ sym (listed_at n f k d m))

-- of functions that agree
pub listed_agree : {A : Type 0} (d : A) (n : ℕ) (f g : ℕ → A) → ((k : ℕ) → k < n → f k ≡ g k) → list_to n f ≡ list_to n g
listed_agree d n f g h = listed_same d n g (list_to n f) (length_listed n f) (λ k l. listed_at n f k d l ∙ h k l)
