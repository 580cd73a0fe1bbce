-- No longer bytes at the front of a text have the form of a token.
use Rattle.std.proofs.Common.{◌≡◌, ℕ, zero, suc, ◌+◌, ◌<◌, ◌≤◌, ◌&&◌, ◌==◌, nat_lt, nat_le, ◌^◌, ◌⊎◌, inl, inr, ⊎_elim, Bool, true, false, not, cond, List, [], ◌∷◌, ◌++◌, take, drop, length, get_or, Option, Some, None, refl, ap, sym, ◌∙◌, subst, arith, length-take, option_map, unwrap_or}
use Rattle.std.specs.Option.{option_or}
use Rattle.std.specs.List.{prefix_len, list_all, find}
use Rattle.std.proofs.lemmas.Bool.{cond_both, cond-true, and_parts, and_from, or_left, false≢true, both_ways, ltb-false, leb-true, not-true, eqb-true, false_from_ne_true}
use Rattle.std.proofs.lemmas.Bool.Decides.{nat_tests}
use Rattle.std.proofs.lemmas.Slice.Eq.{bytes_eq-Decides}
use Rattle.std.proofs.lemmas.List.{length-take-le}
use Rattle.std.proofs.lemmas.List.Folds.{length-prefix_len}
use Rattle.rely_num.specs.Ops.{ops, op_text, op_of}
use Rattle.rely_num.specs.Texts.{Bytes, is_digit, is_letter, is_name_byte, is_word, is_among, same_text, reserved, words, word_text, word_of}
use Rattle.rely_num.specs.AttoTexts.{number_of}
use Rattle.rely_num.specs.declared.op.Op.{Op}
use Rattle.rely_lexer.specs.declared.token.TokenKind.{TokenKind}
use Rattle.rely_lexer.specs.declared.token.TokenKind.TheVariants as kind
use Rattle.rely_lexer.specs.declared.piece.Piece.{Piece}
use Rattle.rely_lexer.specs.declared.piece.Piece.TheVariants.{Gap, Lexeme, Wide, Bad}
use Rattle.rely_lexer.specs.Forms.{alone, sign_kind}
use Rattle.rely_lexer.specs.Tokens.{is_blank, is_in_line, begins_comment, piece_of, token_piece, gap_length, name_piece, number_piece, fraction_length, whole_piece, sign_piece}
use Rattle.rely_lexer.specs.Readings.{HasForm, AreDigits}
use Rattle.rely_lexer.proofs.Pieces.{prefix_len-some}

-- what all texts of a table pass, a text passes that is found there
pub found-passes : {A : Type 0} (pred : Bytes → Bool) (text_of : A → Bytes) (all : List A) (text : Bytes) (value : A)
    → find (λ x. same_text (text_of x) text) all ≡ Some value → list_all (λ x. pred (text_of x)) all ≡ true → pred text ≡ true
found-passes pred text_of [] text value is passes = absurd (cc)
found-passes {A} pred text_of (x ∷ all) text value is passes =
    found (same_text (text_of x) text) refl is (λ rest. found-passes pred text_of all text value rest (and_parts (pred (text_of x)) (list_all (λ x. pred (text_of x)) all) passes).1)
  where
    found : (b : Bool) → same_text (text_of x) text ≡ b → cond b (Some x) (find (λ x. same_text (text_of x) text) all) ≡ Some value
        → (find (λ x. same_text (text_of x) text) all ≡ Some value → pred text ≡ true) → pred text ≡ true
    found true same has later = ap pred (sym ((bytes_eq-Decides (text_of x) text).0 same)) ∙ (and_parts (pred (text_of x)) (list_all (λ x. pred (text_of x)) all) passes).0
    found false differs has later = later has

-- what passes throughout is no longer than the front that passes
pub prefix-from-all : (p : ℕ → Bool) (text : Bytes) (n : ℕ) → n ≤ length text → list_all p (take n text) ≡ true → n ≤ prefix_len p text
prefix-from-all p [] n few all = few
prefix-from-all p (byte ∷ bytes) zero few all = omega arith
prefix-from-all p (byte ∷ bytes) (suc n) few all =
    let parts = and_parts (p byte) (list_all p (take n bytes)) all in
    omega (arith, cond-true (p byte) (1 + prefix_len p bytes) 0 parts.0, prefix-from-all p bytes n (omega arith) parts.1)

-- a front of the text begins as the text does
pub first-same : (text : Bytes) (n : ℕ) → get_or (take (suc n) text) 0 0 ≡ get_or text 0 0
first-same [] n = refl
first-same (byte ∷ bytes) n = refl

-- a word begins with a letter
pub is_word-first : (text : Bytes) → is_word text ≡ true → is_letter (get_or text 0 0) ≡ true
is_word-first [] word = absurd (false≢true word)
is_word-first (byte ∷ bytes) word = (and_parts (is_letter byte) (list_all is_name_byte bytes) word).0

-- a word has letters and digits throughout
is_word-all : (text : Bytes) → is_word text ≡ true → list_all is_name_byte text ≡ true
is_word-all [] word = refl
is_word-all (byte ∷ bytes) word =
    let parts = and_parts (is_letter byte) (list_all is_name_byte bytes) word in
    and_from (is_name_byte byte) (list_all is_name_byte bytes) (or_left (is_letter byte) (is_digit byte) parts.0) parts.1

-- digits begin with a digit
pub digits-first : (text : Bytes) → AreDigits text → is_digit (get_or text 0 0) ≡ true
digits-first [] digits = absurd (omega (arith, digits.0))
digits-first (byte ∷ bytes) digits = (and_parts (is_digit byte) (list_all is_digit bytes) digits.1).0

-- a decimal begins with a digit
decimal-first : (text whole fraction : Bytes) → text ≡ whole ++ 46 ∷ fraction → AreDigits whole → is_digit (get_or text 0 0) ≡ true
decimal-first text [] fraction is digits = absurd (omega (arith, digits.0))
decimal-first text (digit ∷ more) fraction is digits =
    ap (λ (t : Bytes). is_digit (get_or t 0 0)) is ∙ digits-first (digit ∷ more) digits

-- no byte is a letter and a digit
pub letter-or-digit : (byte : ℕ) → is_letter byte ≡ true → is_digit byte ≡ true → ⊥
letter-or-digit byte letter digit = grind (arith, nat_tests)

-- neither a letter nor a digit first, and two bytes at most
is_short_sign : Bytes → Bool
is_short_sign text = not (is_letter (get_or text 0 0)) && (not (is_digit (get_or text 0 0)) && nat_le (length text) 2)

-- what an operator begins with, and how long it is
operator-sign : (text : Bytes) (o : Op) → op_of text ≡ Some o → (is_letter (get_or text 0 0) ≡ false) × (is_digit (get_or text 0 0) ≡ false) × (length text ≤ 2)
unfolding op_of is_short_sign
operator-sign text o is =
    let all = found-passes is_short_sign op_text ops text o is refl in
    let first = and_parts (not (is_letter (get_or text 0 0))) (not (is_digit (get_or text 0 0)) && nat_le (length text) 2) all in
    let second = and_parts (not (is_digit (get_or text 0 0))) (nat_le (length text) 2) first.1 in
    (not-true (is_letter (get_or text 0 0)) first.0, not-true (is_digit (get_or text 0 0)) second.0, leb-true (length text) 2 second.1)

-- the first bytes of a form: a letter, a digit, or one or two bytes of which neither is first
abbrev pub FirstOf : TokenKind → Bytes → Type 0
FirstOf kind.Name text = is_word text ≡ true
FirstOf (kind.Word w) text = is_word text ≡ true
FirstOf (kind.Number n) text = is_digit (get_or text 0 0) ≡ true
FirstOf kind.Decimal text = is_digit (get_or text 0 0) ≡ true
FirstOf (kind.Mark byte) text = length text ≡ 1
FirstOf (kind.Oper o) text = (is_letter (get_or text 0 0) ≡ false) × (is_digit (get_or text 0 0) ≡ false) × (length text ≤ 2)

-- how a token begins
pub first-of : (k : TokenKind) (text : Bytes) → HasForm k text → FirstOf k text
unfolding word_of
first-of kind.Name text form = (and_parts (is_word text) (not (is_among text reserved)) form).0
first-of (kind.Word w) text form = found-passes is_word word_text words text w form refl
first-of (kind.Number n) text form = digits-first text form.0
first-of kind.Decimal text form = decimal-first text form.0 form.1 form.2 form.3
first-of (kind.Mark byte) text form = ap (length {A = ℕ}) form.0
first-of (kind.Oper o) text form = operator-sign text o form

-- no longer front of the text has the form of a token
abbrev pub IsLongestToken : Bytes → Piece → Type 0
IsLongestToken text (Gap n) = Unit {0}
IsLongestToken text (Lexeme k m) = (n : ℕ) (j : TokenKind) → n ≤ length text → HasForm j (take n text) → n ≤ m
IsLongestToken text Wide = Unit {0}
IsLongestToken text Bad = Unit {0}

-- where a letter is first, no token is longer than the longest name
named : (text : Bytes) (n : ℕ) (j : TokenKind) → is_letter (get_or text 0 0) ≡ true → 0 < length text → suc n ≤ length text → HasForm j (take (suc n) text) → suc n ≤ prefix_len is_name_byte text
named text n kind.Name letter some few form = prefix-from-all is_name_byte text (suc n) few (is_word-all (take (suc n) text) (first-of kind.Name (take (suc n) text) form))
named text n (kind.Word w) letter some few form = prefix-from-all is_name_byte text (suc n) few (is_word-all (take (suc n) text) (first-of (kind.Word w) (take (suc n) text) form))
named text n (kind.Number v) letter some few form = absurd (letter-or-digit (get_or text 0 0) letter (ap is_digit (sym (first-same text n)) ∙ first-of (kind.Number v) (take (suc n) text) form))
named text n kind.Decimal letter some few form = absurd (letter-or-digit (get_or text 0 0) letter (ap is_digit (sym (first-same text n)) ∙ first-of kind.Decimal (take (suc n) text) form))
named text n (kind.Mark byte) letter some few form =
    omega (arith, first-of (kind.Mark byte) (take (suc n) text) form, length-take-le (suc n) text few, prefix_len-some is_name_byte text some (or_left (is_letter (get_or text 0 0)) (is_digit (get_or text 0 0)) letter))
named text n (kind.Oper o) letter some few form =
    absurd (both_ways (is_letter (get_or text 0 0)) (ap is_letter (sym (first-same text n)) ∙ (first-of (kind.Oper o) (take (suc n) text) form).0) letter)

-- how far a fraction can reach
point-length : (bytes : Bytes) (n : ℕ) → n ≤ length bytes → AreDigits (take n bytes) → suc n ≤ 0 + fraction_length (46 ∷ bytes)
unfolding fraction_length
point-length bytes zero few digits = absurd (omega (arith, digits.0))
point-length bytes (suc n) few digits =
    let digit : is_digit (get_or bytes 0 0) ≡ true = ap is_digit (sym (first-same bytes n)) ∙ digits-first (take (suc n) bytes) digits in
    omega (arith, prefix-from-all is_digit bytes (suc n) few digits.1, cond-true (is_digit (get_or bytes 0 0)) (1 + prefix_len is_digit bytes) 0 digit)

-- one more digit before a decimal
digit-length : (byte : ℕ) (bytes : Bytes) (n : ℕ) → is_digit byte ≡ true → n ≤ prefix_len is_digit bytes + fraction_length (drop (prefix_len is_digit bytes) bytes) →
    suc n ≤ prefix_len is_digit (byte ∷ bytes) + fraction_length (drop (prefix_len is_digit (byte ∷ bytes)) (byte ∷ bytes))
digit-length byte bytes n passes few =
    let p = prefix_len is_digit bytes in
    let longer : prefix_len is_digit (byte ∷ bytes) ≡ suc p = cond-true (is_digit byte) (1 + p) 0 passes ∙ omega arith in
    subst (λ (k : ℕ). suc n ≤ k + fraction_length (drop k (byte ∷ bytes))) (sym longer) (omega arith)

-- how far a decimal can reach
decimal-length : (whole text fraction : Bytes) (n : ℕ) → n ≤ length text → take n text ≡ whole ++ 46 ∷ fraction → list_all is_digit whole ≡ true → AreDigits fraction →
    n ≤ prefix_len is_digit text + fraction_length (drop (prefix_len is_digit text) text)
decimal-length [] text fraction zero few is digits more = omega arith
decimal-length (digit ∷ whole) text fraction zero few is digits more = omega arith
decimal-length [] [] fraction (suc n) few is digits more = absurd (omega arith)
decimal-length (digit ∷ whole) [] fraction (suc n) few is digits more = absurd (omega arith)
decimal-length [] (byte ∷ bytes) fraction (suc n) few is digits more =
    let point : byte ≡ 46 = cc in
    let rest : take n bytes ≡ fraction = cc in
    subst (λ (b : ℕ). suc n ≤ prefix_len is_digit (b ∷ bytes) + fraction_length (drop (prefix_len is_digit (b ∷ bytes)) (b ∷ bytes))) (sym point)
    (point-length bytes n (omega arith) (subst AreDigits (sym rest) more))
decimal-length (digit ∷ whole) (byte ∷ bytes) fraction (suc n) few is digits more =
    let parts = and_parts (is_digit digit) (list_all is_digit whole) digits in
    let first : byte ≡ digit = cc in
    let rest : take n bytes ≡ whole ++ 46 ∷ fraction = cc in
    let passes : is_digit byte ≡ true = ap is_digit first ∙ parts.0 in
    digit-length byte bytes n passes (decimal-length whole bytes fraction n (omega arith) rest parts.1 more)

-- where a digit is first, no token is longer than the digits and the fraction behind them
numbered : (text : Bytes) (n : ℕ) (j : TokenKind) → is_digit (get_or text 0 0) ≡ true → 0 < length text → suc n ≤ length text → HasForm j (take (suc n) text) →
    suc n ≤ prefix_len is_digit text + fraction_length (drop (prefix_len is_digit text) text)
numbered text n kind.Name digit some few form =
    absurd (letter-or-digit (get_or text 0 0) (ap is_letter (sym (first-same text n)) ∙ is_word-first (take (suc n) text) (first-of kind.Name (take (suc n) text) form)) digit)
numbered text n (kind.Word w) digit some few form =
    absurd (letter-or-digit (get_or text 0 0) (ap is_letter (sym (first-same text n)) ∙ is_word-first (take (suc n) text) (first-of (kind.Word w) (take (suc n) text) form)) digit)
numbered text n (kind.Number v) digit some few form = omega (arith, prefix-from-all is_digit text (suc n) few form.0.1)
numbered text n kind.Decimal digit some few form = decimal-length form.0 text form.1 (suc n) few form.2 form.3.1 form.4
numbered text n (kind.Mark byte) digit some few form =
    omega (arith, first-of (kind.Mark byte) (take (suc n) text) form, length-take-le (suc n) text few, prefix_len-some is_digit text some digit)
numbered text n (kind.Oper o) digit some few form =
    absurd (both_ways (is_digit (get_or text 0 0)) (ap is_digit (sym (first-same text n)) ∙ (first-of (kind.Oper o) (take (suc n) text) form).1) digit)

-- the longest name is the longest token
name_piece-longest : (text : Bytes) → is_letter (get_or text 0 0) ≡ true → 0 < length text → IsLongestToken text (name_piece text)
unfolding name_piece
name_piece-longest text letter some zero j few form = omega arith
name_piece-longest text letter some (suc n) j few form = named text n j letter some few form

-- the same for any length
pub reached : (text : Bytes) → is_digit (get_or text 0 0) ≡ true → 0 < length text → (k : ℕ) (j : TokenKind) → k ≤ length text → HasForm j (take k text) →
    k ≤ prefix_len is_digit text + fraction_length (drop (prefix_len is_digit text) text)
reached text digit some zero j few form = omega arith
reached text digit some (suc k) j few form = numbered text k j digit some few form

-- a whole number with no fraction behind it is the longest token
whole_piece-longest : (text : Bytes) → is_digit (get_or text 0 0) ≡ true → 0 < length text → fraction_length (drop (prefix_len is_digit text) text) ≤ 0 →
    IsLongestToken text (whole_piece (take (prefix_len is_digit text) text))
unfolding whole_piece
whole_piece-longest text digit some none =
    let digits = take (prefix_len is_digit text) text in
    let v = number_of digits in
    cond_both (nat_lt v (2 ^ 63)) (Lexeme (kind.Number v) (length digits)) Wide (IsLongestToken text)
    (λ _ k j few form. omega (arith, reached text digit some k j few form, length-prefix_len is_digit text)) (λ _. tt)

-- the number at the front is the longest token
number_piece-longest : (text : Bytes) → is_digit (get_or text 0 0) ≡ true → 0 < length text → IsLongestToken text (number_piece text)
unfolding number_piece
number_piece-longest text digit some =
    let n = prefix_len is_digit text in
    let m = fraction_length (drop n text) in
    cond_both (nat_lt 0 m) (Lexeme kind.Decimal (n + m)) (whole_piece (take n text)) (IsLongestToken text) (λ _. reached text digit some)
    (λ none. whole_piece-longest text digit some (ltb-false 0 m none))

-- where neither a letter nor a digit is first, a form is one byte, or two that are an operator
symbol : (text : Bytes) (n : ℕ) (j : TokenKind) → is_letter (get_or text 0 0) ≡ false → is_digit (get_or text 0 0) ≡ false → suc n ≤ length text → HasForm j (take (suc n) text) →
    (suc n ≤ 1) ⊎ ((suc n ≡ 2) × (sign_kind (take 2 text) ≡ None → ⊥))
unfolding sign_kind
symbol text n kind.Name letter digit few form =
    absurd (both_ways (is_letter (get_or text 0 0)) letter (ap is_letter (sym (first-same text n)) ∙ is_word-first (take (suc n) text) (first-of kind.Name (take (suc n) text) form)))
symbol text n (kind.Word w) letter digit few form =
    absurd (both_ways (is_letter (get_or text 0 0)) letter (ap is_letter (sym (first-same text n)) ∙ is_word-first (take (suc n) text) (first-of (kind.Word w) (take (suc n) text) form)))
symbol text n (kind.Number v) letter digit few form =
    absurd (both_ways (is_digit (get_or text 0 0)) digit (ap is_digit (sym (first-same text n)) ∙ first-of (kind.Number v) (take (suc n) text) form))
symbol text n kind.Decimal letter digit few form =
    absurd (both_ways (is_digit (get_or text 0 0)) digit (ap is_digit (sym (first-same text n)) ∙ first-of kind.Decimal (take (suc n) text) form))
symbol text n (kind.Mark byte) letter digit few form = inl (omega (arith, first-of (kind.Mark byte) (take (suc n) text) form, length-take-le (suc n) text few))
symbol text zero (kind.Oper o) letter digit few form = inl (omega arith)
symbol text (suc zero) (kind.Oper o) letter digit few form = inr (refl, λ none. let e : op_of (take 2 text) ≡ Some o = form in absurd (lacks (op_of (take 2 text)) e none))
  where
    lacks : (found : Option Op) → found ≡ Some o → option_or (option_map kind.Oper found) (alone (take 2 text)) ≡ None → ⊥
    lacks None has none = cc
    lacks (Some p) has none = cc
symbol text (suc (suc n)) (kind.Oper o) letter digit few form =
    absurd (omega (arith, (first-of (kind.Oper o) (take (suc (suc (suc n))) text) form).2, length-take-le (suc (suc (suc n))) text few))

-- the same for any length
pub short : (text : Bytes) (n : ℕ) (j : TokenKind) → is_letter (get_or text 0 0) ≡ false → is_digit (get_or text 0 0) ≡ false → n ≤ length text → HasForm j (take n text) →
    (n ≤ 1) ⊎ ((n ≡ 2) × (sign_kind (take 2 text) ≡ None → ⊥))
short text zero j letter digit few form = inl (omega arith)
short text (suc n) j letter digit few form = symbol text n j letter digit few form

-- a sign is the longest token, by whether the first two bytes and the first byte are one
sign-longest : (text : Bytes) (two one : Option TokenKind) → sign_kind (take 2 text) ≡ two → is_letter (get_or text 0 0) ≡ false → is_digit (get_or text 0 0) ≡ false →
    IsLongestToken text (unwrap_or (option_or (option_map (λ k. Lexeme k (length (take 2 text))) two) (option_map (λ k. Lexeme k (length (take 1 text))) one)) Bad)
sign-longest text (Some k) one is letter digit = λ n j few form.
    ⊎_elim (λ small. omega (arith, length-take 2 text)) (λ two. omega (arith, two.0, length-take 2 text)) (short text n j letter digit few form)
sign-longest text None (Some k) is letter digit = λ n j few form.
    ⊎_elim (λ small. omega (arith, length-take 1 text)) (λ two. absurd (two.1 is)) (short text n j letter digit few form)
sign-longest text None None is letter digit = tt

-- the sign at the front is the longest token
sign_piece-longest : (text : Bytes) → is_letter (get_or text 0 0) ≡ false → is_digit (get_or text 0 0) ≡ false → IsLongestToken text (sign_piece text)
unfolding sign_piece
sign_piece-longest text letter digit = sign-longest text (sign_kind (take 2 text)) (sign_kind (take 1 text)) refl letter digit

-- the token at the front is the longest
token_piece-longest : (text : Bytes) → 0 < length text → IsLongestToken text (token_piece text)
unfolding token_piece
token_piece-longest text some =
    let first = get_or text 0 0 in
    cond_both (is_letter first) (name_piece text) (cond (is_digit first) (number_piece text) (sign_piece text)) (IsLongestToken text) (λ letter. name_piece-longest text letter some)
    (λ letter. cond_both (is_digit first) (number_piece text) (sign_piece text) (IsLongestToken text) (λ digit. number_piece-longest text digit some)
    (λ digit. sign_piece-longest text letter digit))

-- ---- digits and comments

-- no longer front of the text is digits
abbrev pub HoldsDigits : Bytes → Piece → Type 0
HoldsDigits text (Gap n) = Unit {0}
HoldsDigits text (Lexeme k m) = (n : ℕ) → n ≤ length text → AreDigits (take n text) → n ≤ m
HoldsDigits text Wide = Unit {0}
HoldsDigits text Bad = Unit {0}

-- a front of digits begins with one
digits-front : (text : Bytes) (n : ℕ) → AreDigits (take n text) → is_digit (get_or text 0 0) ≡ true
digits-front text zero digits = absurd (omega (arith, digits.0))
digits-front text (suc n) digits = ap is_digit (sym (first-same text n)) ∙ digits-first (take (suc n) text) digits

-- where no digit is first there are none
no-digits : (text : Bytes) (piece : Piece) → is_digit (get_or text 0 0) ≡ false → HoldsDigits text piece
no-digits text (Gap n) none = tt
no-digits text (Lexeme k m) none = λ n few digits. absurd (both_ways (is_digit (get_or text 0 0)) none (digits-front text n digits))
no-digits text Wide none = tt
no-digits text Bad none = tt

whole_piece-digits : (text : Bytes) → HoldsDigits text (whole_piece (take (prefix_len is_digit text) text))
unfolding whole_piece
whole_piece-digits text =
    let digits = take (prefix_len is_digit text) text in
    let v = number_of digits in
    cond_both (nat_lt v (2 ^ 63)) (Lexeme (kind.Number v) (length digits)) Wide (HoldsDigits text)
    (λ _ k few are. omega (arith, prefix-from-all is_digit text k few are.1, length-prefix_len is_digit text)) (λ _. tt)

number_piece-digits : (text : Bytes) → HoldsDigits text (number_piece text)
unfolding number_piece
number_piece-digits text =
    let n = prefix_len is_digit text in
    let m = fraction_length (drop n text) in
    cond_both (nat_lt 0 m) (Lexeme kind.Decimal (n + m)) (whole_piece (take n text)) (HoldsDigits text) (λ _ k few are. omega (arith, prefix-from-all is_digit text k few are.1))
    (λ _. whole_piece-digits text)

token_piece-digits : (text : Bytes) → HoldsDigits text (token_piece text)
unfolding token_piece
token_piece-digits text =
    let first = get_or text 0 0 in
    cond_both (is_letter first) (name_piece text) (cond (is_digit first) (number_piece text) (sign_piece text)) (HoldsDigits text)
    (λ letter. no-digits text (name_piece text) (false_from_ne_true (is_digit first) (letter-or-digit first letter)))
    (λ _. cond_both (is_digit first) (number_piece text) (sign_piece text) (HoldsDigits text) (λ _. number_piece-digits text) (λ none. no-digits text (sign_piece text) none))

-- where there is no gap, no comment begins
no-comment : (text : Bytes) → gap_length text ≤ 0 → begins_comment text ≡ false
unfolding gap_length
no-comment [] none = refl
no-comment (byte ∷ bytes) none =
    let text = byte ∷ bytes in
    without (is_blank byte) (begins_comment text) (prefix_len is_in_line text) none (λ slashes. prefix_len-some is_in_line text (omega arith) (in-line slashes))
  where
    in-line : begins_comment (byte ∷ bytes) ≡ true → is_in_line byte ≡ true
    in-line slashes = ap is_in_line (eqb-true byte 47 (and_parts (byte == 47) (get_or bytes 0 0 == 47) slashes).0)

    without : (blank comment : Bool) (n : ℕ) → cond blank 1 (cond comment n 0) ≤ 0 → (comment ≡ true → 0 < n) → comment ≡ false
    without true comment n few some = absurd (omega arith)
    without false true n few some = let more = some refl in absurd (omega arith)
    without false false n few some = refl

-- ---- the piece at the front

-- no more of the text's front is a token or digits, and it begins no comment
pub record IsLongestFront (text : Bytes) (m : ℕ) : Type 0 where
  pub token : (n : ℕ) (j : TokenKind) → n ≤ length text → HasForm j (take n text) → n ≤ m
  pub digits : (n : ℕ) → n ≤ length text → AreDigits (take n text) → n ≤ m
  pub comment : begins_comment text ≡ false

abbrev pub IsLongestPiece : Bytes → Piece → Type 0
IsLongestPiece text (Gap n) = Unit {0}
IsLongestPiece text (Lexeme k m) = IsLongestFront text m
IsLongestPiece text Wide = Unit {0}
IsLongestPiece text Bad = Unit {0}

longest-front : (text : Bytes) (piece : Piece) → IsLongestToken text piece → HoldsDigits text piece → begins_comment text ≡ false → IsLongestPiece text piece
longest-front text (Gap n) token digits comment = tt
longest-front text (Lexeme k m) token digits comment = record { token = token; digits = digits; comment = comment }
longest-front text Wide token digits comment = tt
longest-front text Bad token digits comment = tt

-- the piece at the front is the longest token
pub piece_of-longest : (text : Bytes) → 0 < length text → IsLongestPiece text (piece_of text)
unfolding piece_of
piece_of-longest text some =
    let n = gap_length text in
    cond_both (nat_lt 0 n) (Gap n) (token_piece text) (IsLongestPiece text) (λ _. tt)
    (λ none. longest-front text (token_piece text) (token_piece-longest text some) (token_piece-digits text) (no-comment text (ltb-false 0 n none)))
