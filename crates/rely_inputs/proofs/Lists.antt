-- Laws of lists that are read one after another, and of the two sides of a kernel's variables.
use Rattle.std.proofs.Common.{◌≡◌, ℕ, ◌+◌, ◌-◌, ◌<◌, ◌||◌, List, [], ◌∷◌, ◌++◌, map, length, take, drop, get_or, Result, refl, ap, sym, ◌∙◌, arith, length-append}
use Rattle.std.specs.List.{list_any}
use Rattle.std.proofs.lemmas.List.{drop_more}
use Rattle.serde_json.specs.Data.{Data}
use Rattle.serde_json.specs.declared.value.Value.{Value}
use Rattle.serde_json.specs.View.{view, items_view}
use Rattle.rely_num.specs.Texts.{Bytes, same_text, is_among}
use Rattle.rely_kernel.specs.declared.kernel.Kernel.{Kernel}
use Rattle.rely_kernel.specs.Machine.{parameters, locals}
use Rattle.rely_kernel.specs.Valid.{IsValid}
use Rattle.rely_inputs.specs.declared.fault.InputFault.{InputFault}
use Rattle.rely_inputs.specs.Samples.{◌>>=◌, each_after, list_of}

-- the members of a list of values
pub list_of_view : (vs : List Value) → list_of (items_view vs) ≡ map view vs
list_of_view [] = refl
list_of_view (v ∷ vs) = ap (λ ds. view v ∷ ds) (list_of_view vs)

-- as many as there are values
pub count_of_view : (vs : List Value) → length (list_of (items_view vs)) ≡ length vs
count_of_view [] = refl
count_of_view (v ∷ vs) = omega (arith, count_of_view vs)

-- one member on
pub each-more : {A X : Type 0} (one : List A → X → Result A InputFault) (before : List A) (xs : List X) (i : ℕ) (x : X) → i < length xs → x ≡ get_or xs i x →
    each_after one before (drop i xs) ≡ (one before x >>= λ a. each_after one (before ++ a ∷ []) (drop (i + 1) xs))
each-more one before xs i x h e = ap (λ ys. each_after one before ys) (drop_more xs i x h ∙ ap (λ y. y ∷ drop (i + 1) xs) (sym e))

-- one value on
pub each_view-more : {A : Type 0} (one : List A → Data → Result A InputFault) (before : List A) (vs : List Value) (i : ℕ) (v : Value) → i < length vs → v ≡ get_or vs i v →
    each_after one before (map view (drop i vs)) ≡ (one before (view v) >>= λ a. each_after one (before ++ a ∷ []) (map view (drop (i + 1) vs)))
each_view-more one before vs i v h e =
    ap (λ ws. each_after one before (map view ws)) (drop_more vs i v h ∙ ap (λ w. w ∷ drop (i + 1) vs) (sym e))

pub ruleset lists = (list_of_view, count_of_view, each-more, each_view-more)

-- a text among texts that are read off a list
pub is_among_map : {X : Type 0} (text : Bytes) (f : X → Bytes) (xs : List X) → is_among text (map f xs) ≡ list_any (λ x. same_text text (f x)) xs
is_among_map text f [] = refl
is_among_map text f (x ∷ xs) = ap (λ b. same_text text (f x) || b) (is_among_map text f xs)

-- ---- the two sides of a list

take_front : {X : Type 0} (xs ys : List X) → take (length xs) (xs ++ ys) ≡ xs
take_front [] ys = refl
take_front (x ∷ xs) ys = ap (λ zs. x ∷ zs) (take_front xs ys)

drop_front : {X : Type 0} (xs ys : List X) → drop (length xs) (xs ++ ys) ≡ ys
drop_front [] ys = refl
drop_front (x ∷ xs) ys = drop_front xs ys

take_whole : {X : Type 0} (xs : List X) → take (length xs) xs ≡ xs
take_whole [] = refl
take_whole (x ∷ xs) = ap (λ zs. x ∷ zs) (take_whole xs)

-- as many variables as parameters and locals
pub sides_long : (k : Kernel) → IsValid k → length k.vars ≡ length (parameters k) + length (locals k)
sides_long k h = ap length h.in_order ∙ length-append (parameters k) (locals k)

-- the parameters come first
pub first_side : (k : Kernel) → IsValid k → take (length (parameters k)) k.vars ≡ parameters k
first_side k h = ap (λ vs. take (length (parameters k)) vs) h.in_order ∙ take_front (parameters k) (locals k)

-- and then the locals
pub last_side : (k : Kernel) → IsValid k → take (length k.vars - length (parameters k)) (drop (length (parameters k)) k.vars) ≡ locals k
last_side k h =
    let rest : length k.vars - length (parameters k) ≡ length (locals k) = omega (arith, sides_long k h) in
    let from : drop (length (parameters k)) k.vars ≡ locals k = ap (λ vs. drop (length (parameters k)) vs) h.in_order ∙ drop_front (parameters k) (locals k) in
    ap (λ n. take n (drop (length (parameters k)) k.vars)) rest ∙ ap (λ vs. take (length (locals k)) vs) from ∙ take_whole (locals k)
