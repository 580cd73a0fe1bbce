-- Laws of lists of values, read one after another.
use Rattle.std.proofs.Common.{◌≡◌, ℕ, ◌||◌, map, ◌+◌, ◌<◌, List, [], ◌∷◌, ◌++◌, Result, refl, ap, sym, ◌∙◌, drop, length, get_or, arith}
use Rattle.std.proofs.lemmas.List.{drop_more}
use Rattle.std.specs.List.{list_any}
use Rattle.rely_num.specs.Texts.{Bytes, same_text, is_among}
use Rattle.serde_json.specs.Data.{Data}
use Rattle.serde_json.specs.declared.value.Value.{Value}
use Rattle.serde_json.specs.View.{view, items_view}
use Rattle.rely_hard.specs.declared.fault.HardFault.{HardFault}
use Rattle.rely_hard.specs.Meaning.{count_of, each_after, ◌>>=◌}

-- a list of values is counted by its length
pub count_of_view : (vs : List Value) → count_of (items_view vs) ≡ length vs
count_of_view [] = refl
count_of_view (v ∷ vs) = omega (arith, count_of_view vs)

-- one value on
pub each_after-more : {A : Type 0} (one : List A → Data → Result A HardFault) (before : List A) (vs : List Value) (i : ℕ) (v : Value) → i < length vs → v ≡ get_or vs i v →
    each_after one before (items_view (drop i vs)) ≡ (one before (view v) >>= λ a. each_after one (before ++ a ∷ []) (items_view (drop (i + 1) vs)))
each_after-more one before vs i v h e =
    ap (λ ws. each_after one before (items_view ws)) (drop_more vs i v h ∙ ap (λ w. w ∷ drop (i + 1) vs) (sym e))

-- a text among texts that are read off a list
pub is_among_map : {X : Type 0} (text : Bytes) (f : X → Bytes) (xs : List X) → is_among text (map f xs) ≡ list_any (λ x. same_text text (f x)) xs
is_among_map text f [] = refl
is_among_map text f (x ∷ xs) = ap (λ b. same_text text (f x) || b) (is_among_map text f xs)

pub ruleset one_more = (each_after-more)
