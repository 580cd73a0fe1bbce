-- Bytes have the form of one token at most.
use Rattle.std.proofs.Common.{◌≡◌, ℕ, ◌^◌, ◌<◌, ◌&&◌, ◌||◌, ◌==◌, nat_lt, Bool, true, false, not, cond, [], ◌∷◌, ◌++◌, codes, length, get_or, Some, refl, ap, sym, ◌∙◌, subst, arith, ⊎_elim}
use Rattle.std.specs.List.{list_all, list_any}
use Rattle.std.specs.Option.{is_some}
use Rattle.std.proofs.lemmas.Bool.{and_parts, both_ways, false≢true, eqb-true, or_cases, not-true, false_from_ne_true}
use Rattle.std.proofs.lemmas.Bool.Decides.{nat_tests}
use Rattle.rely_num.specs.Ops.{ops, op_text, op_of}
use Rattle.rely_num.specs.Texts.{Bytes, is_digit, is_letter, is_word, is_among, reserved, word_of}
use Rattle.rely_num.proofs.Searches.{word_among}
use Rattle.rely_num.specs.AttoTexts.{number_of}
use Rattle.rely_num.specs.declared.op.Op.{Op}
use Rattle.rely_num.specs.declared.word.Word.{Word}
use Rattle.rely_lexer.specs.declared.token.TokenKind.{TokenKind}
use Rattle.rely_lexer.specs.declared.token.TokenKind.TheVariants as kind
use Rattle.rely_lexer.specs.Forms.{is_mark}
use Rattle.rely_lexer.specs.Tokens.{is_blank}
use Rattle.rely_lexer.specs.Readings.{HasForm, AreDigits}
use Rattle.rely_lexer.proofs.LongestLaws.{found-passes, is_word-first, digits-first, letter-or-digit, first-of}

-- ---- how tokens begin

-- what is among some bytes passes as those do
any-passes : (p : ℕ → Bool) (byte : ℕ) (bytes : Bytes) → list_any (λ b. byte == b) bytes ≡ true → list_all p bytes ≡ true → p byte ≡ true
any-passes p byte [] is all = absurd (false≢true is)
any-passes p byte (b ∷ bytes) is all =
    let parts = and_parts (p b) (list_all p bytes) all in
    ⊎_elim (λ here. ap p (eqb-true byte b here) ∙ parts.0) (λ there. any-passes p byte bytes there parts.1) (or_cases (byte == b) (list_any (λ b. byte == b) bytes) is)

-- what a mark is not
is_symbol : ℕ → Bool
is_symbol byte = not (is_letter byte) && (not (is_digit byte) && not (is_blank byte))

mark-symbol : (byte : ℕ) → is_mark byte ≡ true → is_symbol byte ≡ true
unfolding is_symbol
mark-symbol byte is = any-passes is_symbol byte (codes "(){}[],;=.?") is refl

operator-symbol : (text : Bytes) (o : Op) → op_of text ≡ Some o → is_symbol (get_or text 0 0) ≡ true
unfolding op_of is_symbol
operator-symbol text o is = found-passes (λ t. is_symbol (get_or t 0 0)) op_text ops text o is refl

symbol-parts : (byte : ℕ) → is_symbol byte ≡ true → (is_letter byte ≡ false) × (is_digit byte ≡ false) × (is_blank byte ≡ false)
unfolding is_symbol
symbol-parts byte symbol =
    let first = and_parts (not (is_letter byte)) (not (is_digit byte) && not (is_blank byte)) symbol in
    let second = and_parts (not (is_digit byte)) (not (is_blank byte)) first.1 in
    (not-true (is_letter byte) first.0, not-true (is_digit byte) second.0, not-true (is_blank byte) second.1)

-- a letter, a digit, or neither
sort_of : ℕ → ℕ
sort_of byte = cond (is_letter byte) 0 (cond (is_digit byte) 1 2)

sort-letter : (byte : ℕ) → is_letter byte ≡ true → sort_of byte ≡ 0
unfolding sort_of
sort-letter byte letter = rw letter refl

sort-digit : (byte : ℕ) → is_digit byte ≡ true → sort_of byte ≡ 1
unfolding sort_of
sort-digit byte digit = let none = false_from_ne_true (is_letter byte) (λ letter. letter-or-digit byte letter digit) in rw (none, digit) refl

sort-symbol : (byte : ℕ) → is_symbol byte ≡ true → sort_of byte ≡ 2
unfolding sort_of
sort-symbol byte symbol = let (letter, digit, blank) = symbol-parts byte symbol in rw (letter, digit) refl

-- which of them a token begins with
abbrev sort : TokenKind → ℕ
sort kind.Name = 0
sort (kind.Word w) = 0
sort (kind.Number n) = 1
sort kind.Decimal = 1
sort (kind.Mark byte) = 2
sort (kind.Oper o) = 2

form-sort : (k : TokenKind) (text : Bytes) → HasForm k text → sort_of (get_or text 0 0) ≡ sort k
form-sort kind.Name text form = sort-letter _ (is_word-first text (first-of kind.Name text form))
form-sort (kind.Word w) text form = sort-letter _ (is_word-first text (first-of (kind.Word w) text form))
form-sort (kind.Number n) text form = sort-digit _ (first-of (kind.Number n) text form)
form-sort kind.Decimal text form = sort-digit _ (first-of kind.Decimal text form)
form-sort (kind.Mark byte) text form = ap (λ (t : Bytes). sort_of (get_or t 0 0)) form.0 ∙ sort-symbol byte (mark-symbol byte form.1)
form-sort (kind.Oper o) text form = sort-symbol _ (operator-symbol text o form)

letter-blank : (byte : ℕ) → is_letter byte ≡ true → is_blank byte ≡ false
letter-blank byte letter = grind (arith, nat_tests)

pub digit-blank : (byte : ℕ) → is_digit byte ≡ true → is_blank byte ≡ false
digit-blank byte digit = grind (arith, nat_tests)

-- no token begins with a blank
pub form-blank : (k : TokenKind) (text : Bytes) → HasForm k text → is_blank (get_or text 0 0) ≡ false
form-blank kind.Name text form = letter-blank (get_or text 0 0) (is_word-first text (first-of kind.Name text form))
form-blank (kind.Word w) text form = letter-blank (get_or text 0 0) (is_word-first text (first-of (kind.Word w) text form))
form-blank (kind.Number n) text form = digit-blank (get_or text 0 0) (first-of (kind.Number n) text form)
form-blank kind.Decimal text form = digit-blank (get_or text 0 0) (first-of kind.Decimal text form)
form-blank (kind.Mark byte) text form = ap (λ (t : Bytes). is_blank (get_or t 0 0)) form.0 ∙ (symbol-parts byte (mark-symbol byte form.1)).2
form-blank (kind.Oper o) text form = (symbol-parts (get_or text 0 0) (operator-symbol text o form)).2

-- ---- tokens that begin alike

-- no reserved word is a name
name-or-word : (text : Bytes) (w : Word) → HasForm kind.Name text → word_of text ≡ Some w → ⊥
name-or-word text w name word =
    both_ways (is_among text reserved) (not-true (is_among text reserved) (and_parts (is_word text) (not (is_among text reserved)) name).1) (word_among text ∙ ap is_some word)

-- no point is among digits
pub point-or-digits : (whole fraction : Bytes) → list_all is_digit (whole ++ 46 ∷ fraction) ≡ true → ⊥
point-or-digits [] fraction all = false≢true all
point-or-digits (byte ∷ whole) fraction all = point-or-digits whole fraction (and_parts (is_digit byte) (list_all is_digit (whole ++ 46 ∷ fraction)) all).1

-- a mark first, and something behind it
is_unmarked : Bytes → Bool
is_unmarked text = not (is_mark (get_or text 0 0)) || nat_lt 1 (length text)

-- no operator is a mark
mark-or-operator : (byte : ℕ) (text : Bytes) (o : Op) → text ≡ byte ∷ [] → is_mark byte ≡ true → op_of text ≡ Some o → ⊥
unfolding op_of is_unmarked
mark-or-operator byte text o alone mark is =
    let unmarked : is_unmarked (byte ∷ []) ≡ true = subst (λ (t : Bytes). is_unmarked t ≡ true) alone (found-passes is_unmarked op_text ops text o is refl) in
    ⊎_elim (λ none. both_ways (is_mark byte) (not-true (is_mark byte) none) mark) (λ more. false≢true more) (or_cases (not (is_mark byte)) false unmarked)

-- the same bytes as two tokens
kinds : (j k : TokenKind) (text : Bytes) → sort j ≡ sort k → HasForm j text → HasForm k text → j ≡ k
kinds kind.Name kind.Name text like a b = refl
kinds kind.Name (kind.Word w) text like a b = absurd (name-or-word text w a b)
kinds (kind.Word w) kind.Name text like a b = absurd (name-or-word text w b a)
kinds (kind.Word w) (kind.Word v) text like a b = let e : Some w ≡ Some v = sym a ∙ b in cc
kinds (kind.Number m) (kind.Number n) text like a b = ap kind.Number (sym a.1 ∙ b.1)
kinds (kind.Number n) kind.Decimal text like a b = absurd (point-or-digits b.0 b.1 (subst (λ (t : Bytes). list_all is_digit t ≡ true) b.2 a.0.1))
kinds kind.Decimal (kind.Number n) text like a b = absurd (point-or-digits a.0 a.1 (subst (λ (t : Bytes). list_all is_digit t ≡ true) a.2 b.0.1))
kinds kind.Decimal kind.Decimal text like a b = refl
kinds (kind.Mark x) (kind.Mark y) text like a b = let e : x ∷ [] ≡ y ∷ [] = sym a.0 ∙ b.0 in cc
kinds (kind.Mark byte) (kind.Oper o) text like a b = absurd (mark-or-operator byte text o a.0 a.1 b)
kinds (kind.Oper o) (kind.Mark byte) text like a b = absurd (mark-or-operator byte text o b.0 b.1 a)
kinds (kind.Oper o) (kind.Oper p) text like a b = let e : Some o ≡ Some p = sym a ∙ b in cc
kinds _ _ text like a b = absurd (omega (arith, like))

-- bytes have the form of one token at most
pub one-kind : (j k : TokenKind) (text : Bytes) → HasForm j text → HasForm k text → j ≡ k
one-kind j k text a b = kinds j k text (sym (form-sort j text a) ∙ form-sort k text b) a b

-- digits are a number, and nothing else
pub digits-kind : (k : TokenKind) (text : Bytes) → AreDigits text → HasForm k text → number_of text < 2 ^ 63
digits-kind kind.Name text digits form = absurd (letter-or-digit (get_or text 0 0) (is_word-first text (first-of kind.Name text form)) (digits-first text digits))
digits-kind (kind.Word w) text digits form = absurd (letter-or-digit (get_or text 0 0) (is_word-first text (first-of (kind.Word w) text form)) (digits-first text digits))
digits-kind (kind.Number n) text digits form = omega (arith, form.1, form.2)
digits-kind kind.Decimal text digits form = absurd (point-or-digits form.0 form.1 (subst (λ (t : Bytes). list_all is_digit t ≡ true) form.2 digits.1))
digits-kind (kind.Mark byte) text digits form = absurd (omega (arith, sym (sort-digit (get_or text 0 0) (digits-first text digits)) ∙ form-sort (kind.Mark byte) text form))
digits-kind (kind.Oper o) text digits form = absurd (omega (arith, sym (sort-digit (get_or text 0 0) (digits-first text digits)) ∙ form-sort (kind.Oper o) text form))
