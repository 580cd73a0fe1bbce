-- What a search finds passes its test.
use Rattle.std.proofs.Common.{◌≡◌, ℕ, ◌+◌, ◌<◌, ◌≤◌, Bool, true, false, ◌||◌, eqb, cond, List, [], ◌∷◌, map, drop, get_or, length, Option, Some, None, refl, ap, sym, ◌∙◌, arith, add-one, drop-cons}
use Rattle.std.proofs.lemmas.Bool.Decides.{nat_tests}
use Rattle.std.specs.List.{find}
use Rattle.std.proofs.lemmas.List.{drop_all}
use Rattle.std.proofs.lemmas.Slice.Eq.{bytes_eq-Decides}
use Rattle.std.specs.Option.{IfSome, is_some}
use Rattle.rely_num.specs.Ops.{ops, op_text, op_of}
use Rattle.rely_num.specs.Texts.{Bytes, same_text, is_among, reserved, words, word_text, word_of}
use Rattle.rely_num.specs.declared.op.Op.{Op}
use Rattle.rely_num.specs.declared.word.Word.{Word}

-- one element further
pub find_next : {X : Type 0} (p : X → Bool) (xs : List X) (i : ℕ) (d : X) → i < length xs → find p (drop i xs) ≡ cond (p (get_or xs i d)) (Some (get_or xs i d)) (find p (drop (i + 1) xs))
find_next p xs i d h = rw (add-one, drop-cons xs i d) refl

-- what is found passes
pub find_passes : {X : Type 0} (p : X → Bool) (xs : List X) → IfSome (find p xs) (λ x. p x ≡ true)
find_passes p [] = tt
find_passes p (x ∷ xs) = go (p x) refl (find_passes p xs)
  where
    go : (b : Bool) → p x ≡ b → IfSome (find p xs) (λ y. p y ≡ true) → IfSome (cond b (Some x) (find p xs)) (λ y. p y ≡ true)
    go true e h = e
    go false e h = h

-- what a text writes, from one place of a table on
unfoldable pub found_from : {X : Type 0} → (X → Bytes) → List X → Bytes → ℕ → Option X
found_from text_of all text i = find (λ x. same_text (text_of x) text) (drop i all)

-- past the table there is none
found_end : {X : Type 0} (text_of : X → Bytes) (all : List X) (text : Bytes) (i : ℕ) → length all ≤ i → found_from text_of all text i ≡ None
unfolding found_from
found_end text_of all text i h = ap (find (λ x. same_text (text_of x) text)) (drop_all i all h)

-- one place further, where it is not that one
found_next : {X : Type 0} (text_of : X → Bytes) (all : List X) (text : Bytes) (i : ℕ) (d : X) → i < length all
    → same_text (text_of (get_or all i d)) text ≡ false → found_from text_of all text i ≡ found_from text_of all text (i + 1)
unfolding found_from
found_next text_of all text i d h other = find_next (λ x. same_text (text_of x) text) all i d h ∙ rw other refl

-- the one at that place
found_here : {X : Type 0} (text_of : X → Bytes) (all : List X) (text : Bytes) (i : ℕ) (d : X) → i < length all
    → same_text (text_of (get_or all i d)) text ≡ true → found_from text_of all text i ≡ Some (get_or all i d)
unfolding found_from
found_here text_of all text i d h same = find_next (λ x. same_text (text_of x) text) all i d h ∙ rw same refl

-- the text is that of what is found
pub found_written : {X : Type 0} (text_of : X → Bytes) (all : List X) (text : Bytes) → IfSome (find (λ x. same_text (text_of x) text) all) (λ x. text ≡ text_of x)
found_written text_of all text = go (find (λ x. same_text (text_of x) text) all) (find_passes (λ x. same_text (text_of x) text) all)
  where
    go : (found : Option _) → IfSome found (λ x. same_text (text_of x) text ≡ true) → IfSome found (λ x. text ≡ text_of x)
    go None h = tt
    go (Some x) h = sym ((bytes_eq-Decides (text_of x) text).0 h)

-- ---- operators

-- the operator that the text writes, from one place of the table on
abbrev pub op_from : Bytes → ℕ → Option Op
op_from = found_from op_text ops

-- from the first place on it is the whole search
pub op_from_all : (text : Bytes) → op_of text ≡ op_from text 0
unfolding op_of found_from
op_from_all text = refl

pub op_from_end : (text : Bytes) (i : ℕ) → 14 ≤ i → op_from text i ≡ None
op_from_end = found_end op_text ops

pub op_from_next : (text : Bytes) (i : ℕ) (d : Op) → i < 14 → same_text (op_text (get_or ops i d)) text ≡ false → op_from text i ≡ op_from text (i + 1)
op_from_next = found_next op_text ops

pub op_from_here : (text : Bytes) (i : ℕ) (d : Op) → i < 14 → same_text (op_text (get_or ops i d)) text ≡ true → op_from text i ≡ Some (get_or ops i d)
op_from_here = found_here op_text ops

pub op_of_written : (text : Bytes) → IfSome (op_of text) (λ op. text ≡ op_text op)
unfolding op_of
op_of_written = found_written op_text ops

-- ---- reserved words

abbrev pub word_from : Bytes → ℕ → Option Word
word_from = found_from word_text words

pub word_from_all : (text : Bytes) → word_of text ≡ word_from text 0
unfolding word_of found_from
word_from_all text = refl

pub word_from_end : (text : Bytes) (i : ℕ) → 14 ≤ i → word_from text i ≡ None
word_from_end = found_end word_text words

pub word_from_next : (text : Bytes) (i : ℕ) (d : Word) → i < 14 → same_text (word_text (get_or words i d)) text ≡ false → word_from text i ≡ word_from text (i + 1)
word_from_next = found_next word_text words

pub word_from_here : (text : Bytes) (i : ℕ) (d : Word) → i < 14 → same_text (word_text (get_or words i d)) text ≡ true → word_from text i ≡ Some (get_or words i d)
word_from_here = found_here word_text words

pub word_of_written : (text : Bytes) → IfSome (word_of text) (λ w. text ≡ word_text w)
unfolding word_of
word_of_written = found_written word_text words

-- ---- texts of a table

same_swap : (x y : ℕ) → eqb x y ≡ eqb y x
same_swap x y = grind (arith, nat_tests)

same_text_swap : (a b : Bytes) → same_text a b ≡ same_text b a
same_text_swap [] [] = refl
same_text_swap [] (y ∷ b) = refl
same_text_swap (x ∷ a) [] = refl
same_text_swap (x ∷ a) (y ∷ b) = rw (same_swap x y, same_text_swap a b) refl

-- something is found exactly where the text is among those of the table
pub found_among : {X : Type 0} (text_of : X → Bytes) (all : List X) (text : Bytes) → is_among text (map text_of all) ≡ is_some (find (λ x. same_text (text_of x) text) all)
found_among text_of [] text = refl
found_among text_of (x ∷ all) text = rw (same_text_swap text (text_of x)) (go (same_text (text_of x) text) (found_among text_of all text))
  where
    go : (b : Bool) → is_among text (map text_of all) ≡ is_some (find (λ x. same_text (text_of x) text) all)
        → (b || is_among text (map text_of all)) ≡ is_some (cond b (Some x) (find (λ x. same_text (text_of x) text) all))
    go true same = refl
    go false same = same

pub word_among : (text : Bytes) → is_among text reserved ≡ is_some (word_of text)
unfolding word_of
word_among text = found_among word_text words text
