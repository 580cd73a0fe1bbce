-- The token at the front of a text has its form.
use Rattle.std.proofs.Common.{◌≡◌, ◌≢◌, ℕ, suc, ◌+◌, ◌^◌, ◌<◌, ◌&&◌, ◌==◌, nat_lt, Bool, true, false, not, cond, [], ◌∷◌, ◌++◌, take, drop, length, get_or, Option, Some, None, refl, ap, sym, ◌∙◌, subst, arith, length-take, if◌then◌else◌, option_map, unwrap_or}
use Rattle.std.specs.Option.{option_or, is_some}
use Rattle.std.specs.List.{prefix_len, list_all}
use Rattle.std.proofs.lemmas.Bool.{ltb-true, cond_both, and_from, and_parts, false≢true, eqb-true, both_ways, or_left}
use Rattle.std.proofs.lemmas.List.{take_min}
use Rattle.rely_lexer.proofs.Pieces.{prefix_len-some}
use Rattle.std.proofs.lemmas.List.Folds.{length-prefix_len}
use Rattle.std.proofs.Math.Seq.{take-add}
use Rattle.rely_num.specs.Ops.{op_of}
use Rattle.rely_num.specs.Texts.{Bytes, is_digit, is_letter, is_name_byte, is_word, is_among, reserved, word_of}
use Rattle.rely_num.proofs.Searches.{word_among}
use Rattle.rely_num.specs.AttoTexts.{number_of}
use Rattle.rely_num.specs.declared.op.Op.{Op}
use Rattle.rely_num.specs.declared.word.Word.{Word}
use Rattle.rely_lexer.specs.declared.token.TokenKind.{TokenKind}
use Rattle.rely_lexer.specs.declared.token.TokenKind.TheVariants as kind
use Rattle.rely_lexer.specs.declared.piece.Piece.{Piece}
use Rattle.rely_lexer.specs.declared.piece.Piece.TheVariants.{Gap, Lexeme, Wide, Bad}
use Rattle.rely_lexer.specs.Forms.{name_kind, mark_kind, is_mark, alone, sign_kind}
use Rattle.rely_lexer.specs.Tokens.{piece_of, token_piece, gap_length, name_piece, number_piece, fraction_length, whole_piece, sign_piece, signed}
use Rattle.rely_lexer.specs.Readings.{HasForm, AreDigits}

-- one byte more from the front
pub take-one : (n : ℕ) (byte : ℕ) (bytes : Bytes) → take (1 + n) (byte ∷ bytes) ≡ byte ∷ take n bytes
take-one n byte bytes = let e : 1 + n ≡ suc n = omega arith in ap (λ k. take k (byte ∷ bytes)) e

-- what passes from the front on
list_all-prefix : (p : ℕ → Bool) (text : Bytes) → list_all p (take (prefix_len p text) text) ≡ true
list_all-prefix p [] = refl
list_all-prefix p (byte ∷ bytes) =
    let n = prefix_len p bytes in
    cond_both (p byte) (1 + n) 0 (λ k. list_all p (take k (byte ∷ bytes)) ≡ true)
    (λ passes. rw (take-one n byte bytes) (and_from (p byte) (list_all p (take n bytes)) passes (list_all-prefix p bytes))) (λ _. refl)

-- digits from the front on
pub AreDigits-prefix : (text : Bytes) → is_digit (get_or text 0 0) ≡ true → AreDigits (take (prefix_len is_digit text) text)
AreDigits-prefix [] digit = absurd (false≢true digit)
AreDigits-prefix (byte ∷ bytes) digit =
    let text = byte ∷ bytes in
    (omega (arith, length-prefix_len is_digit text, prefix_len-some is_digit text (omega arith) digit), list_all-prefix is_digit text)

-- a word that isn't reserved is a name
name-form : (text : Bytes) (found : Option Word) → is_word text ≡ true → word_of text ≡ found → HasForm (unwrap_or (option_map kind.Word found) kind.Name) text
name-form text (Some w) word is = is
name-form text None word is =
    let free : is_among text reserved ≡ false = word_among text ∙ ap is_some is in
    and_from (is_word text) (not (is_among text reserved)) word (ap not free)

-- the longest name is a letter, and then letters and digits
is_word-prefix : (text : Bytes) → is_letter (get_or text 0 0) ≡ true → is_word (take (prefix_len is_name_byte text) text) ≡ true
is_word-prefix [] letter = letter
is_word-prefix (byte ∷ bytes) letter =
    let n = prefix_len is_name_byte bytes in
    cond_both (is_name_byte byte) (1 + n) 0 (λ k. is_word (take k (byte ∷ bytes)) ≡ true)
    (λ _. rw (take-one n byte bytes) (and_from (is_letter byte) (list_all is_name_byte (take n bytes)) letter (list_all-prefix is_name_byte bytes)))
    (λ fails. absurd (both_ways (is_name_byte byte) fails (or_left (is_letter byte) (is_digit byte) letter)))

-- a fraction is a point and digits
fraction-form : (text : Bytes) → 0 < fraction_length text → (fraction : Bytes) × (take (fraction_length text) text ≡ 46 ∷ fraction) × AreDigits fraction
unfolding fraction_length
fraction-form [] some = absurd (omega arith)
fraction-form (byte ∷ bytes) some =
    let n = prefix_len is_digit bytes in
    let point = byte == 46 in
    let digit = is_digit (get_or bytes 0 0) in
    let P : ℕ → Type 0 = λ k. 0 < k → (fraction : Bytes) × (take k (byte ∷ bytes) ≡ 46 ∷ fraction) × AreDigits fraction in
    cond_both (point && digit) (1 + n) 0 P
    (λ both _. let parts = and_parts point digit both in (take n bytes, take-one n byte bytes ∙ ap (λ b. b ∷ take n bytes) (eqb-true byte 46 parts.0), AreDigits-prefix bytes parts.1))
    (λ _ none. absurd (omega arith)) some

-- a byte that is a mark
mark-form : (marked : Bool) (byte : ℕ) (k : TokenKind) → is_mark byte ≡ marked → cond marked (Some (kind.Mark byte)) None ≡ Some k → HasForm k (byte ∷ [])
mark-form true byte k is taken = let e : kind.Mark byte ≡ k = cc in subst (λ (j : TokenKind). HasForm j (byte ∷ [])) e (refl, is)
mark-form false byte k is taken = absurd (cc)

-- one byte alone is a mark, if it is a token
alone-form : (text : Bytes) (k : TokenKind) → alone text ≡ Some k → HasForm k text
unfolding mark_kind
alone-form [] k taken = absurd (cc)
alone-form (byte ∷ []) k taken = mark-form (is_mark byte) byte k refl taken
alone-form (byte ∷ next ∷ bytes) k taken = absurd (cc)

-- an operator or a mark
sign-form : (text : Bytes) (k : TokenKind) (found : Option Op) → op_of text ≡ found → option_or (option_map kind.Oper found) (alone text) ≡ Some k → HasForm k text
sign-form text k (Some o) is taken = let e : kind.Oper o ≡ k = cc in subst (λ (j : TokenKind). HasForm j text) e is
sign-form text k None is taken = alone-form text k taken

-- a gap is the one that the text begins with, and a token has its form
abbrev pub PieceFits : Bytes → Piece → Type 0
PieceFits text (Gap n) = n ≡ gap_length text
PieceFits text (Lexeme k n) = HasForm k (take n text)
PieceFits text Wide = Unit {0}
PieceFits text Bad = Unit {0}

-- the name at the front has its form
name_piece-fits : (text : Bytes) → is_letter (get_or text 0 0) ≡ true → PieceFits text (name_piece text)
unfolding name_piece name_kind
name_piece-fits text letter =
    let name = take (prefix_len is_name_byte text) text in
    name-form name (word_of name) (is_word-prefix text letter) refl

-- the whole number at the front has its form
whole_piece-fits : (text : Bytes) → is_digit (get_or text 0 0) ≡ true → PieceFits text (whole_piece (take (prefix_len is_digit text) text))
unfolding whole_piece
whole_piece-fits text digit =
    let digits = take (prefix_len is_digit text) text in
    let n = number_of digits in
    cond_both (nat_lt n (2 ^ 63)) (Lexeme (kind.Number n) (length digits)) Wide (PieceFits text)
    (λ few. let e : take (length digits) text ≡ digits = ap (λ k. take k text) (length-prefix_len is_digit text) in rw e (AreDigits-prefix text digit, refl, ltb-true n (2 ^ 63) few)) (λ _. tt)

-- the number at the front has its form
number_piece-fits : (text : Bytes) → is_digit (get_or text 0 0) ≡ true → PieceFits text (number_piece text)
unfolding number_piece
number_piece-fits text digit =
    let n = prefix_len is_digit text in
    let m = fraction_length (drop n text) in
    cond_both (nat_lt 0 m) (Lexeme kind.Decimal (n + m)) (whole_piece (take n text)) (PieceFits text)
    (λ some. let f = fraction-form (drop n text) (ltb-true 0 m some) in (take n text, f.0, take-add n m text ∙ ap (λ r. take n text ++ r) f.1, AreDigits-prefix text digit, f.2))
    (λ _. whole_piece-fits text digit)

-- nothing, or a piece that fits
abbrev IfFits : Bytes → Option Piece → Type 0
IfFits text None = Unit {0}
IfFits text (Some piece) = PieceFits text piece

-- an operator or a mark at the front has its form
signed-fits : (text sign : Bytes) (found : Option TokenKind) → sign_kind sign ≡ found → take (length sign) text ≡ sign → IfFits text (option_map (λ k. Lexeme k (length sign)) found)
unfolding sign_kind
signed-fits text sign None is front = tt
signed-fits text sign (Some k) is front = subst (HasForm k) (sym front) (sign-form sign k (op_of sign) refl is)

-- the first of two pieces that fit, or a bad byte
first-fits : (text : Bytes) (two one : Option Piece) → IfFits text two → IfFits text one → PieceFits text (unwrap_or (option_or two one) Bad)
first-fits text (Some piece) one fits others = fits
first-fits text None (Some piece) fits others = others
first-fits text None None fits others = tt

-- a front of the text by its own length
take_again : (n : ℕ) (text : Bytes) → take (length (take n text)) text ≡ take n text
take_again n text = ap (λ k. take k text) (length-take n text) ∙ take_min n text

-- the sign at the front has its form
sign_piece-fits : (text : Bytes) → PieceFits text (sign_piece text)
unfolding sign_piece
sign_piece-fits text =
    first-fits text (signed (take 2 text)) (signed (take 1 text)) (signed-fits text (take 2 text) (sign_kind (take 2 text)) refl (take_again 2 text))
    (signed-fits text (take 1 text) (sign_kind (take 1 text)) refl (take_again 1 text))

-- the token at the front has its form
token_piece-fits : (text : Bytes) → PieceFits text (token_piece text)
unfolding token_piece
token_piece-fits text =
    let first = get_or text 0 0 in
    cond_both (is_letter first) (name_piece text) (if is_digit first then number_piece text else sign_piece text) (PieceFits text) (name_piece-fits text)
    (λ _. cond_both (is_digit first) (number_piece text) (sign_piece text) (PieceFits text) (number_piece-fits text) (λ _. sign_piece-fits text))

-- the piece at the front fits
pub piece_of-fits : (text : Bytes) → PieceFits text (piece_of text)
unfolding piece_of
piece_of-fits text =
    let n = gap_length text in
    cond_both (nat_lt 0 n) (Gap n) (token_piece text) (PieceFits text) (λ _. refl) (λ _. token_piece-fits text)

-- no decimal begins with a newline
digits-first : (whole fraction bytes : Bytes) → 10 ∷ bytes ≡ whole ++ 46 ∷ fraction → AreDigits whole → ⊥
digits-first [] fraction bytes is digits = absurd (omega (arith, digits.0))
digits-first (digit ∷ more) fraction bytes is digits =
    let e : digit ≡ 10 = cc in
    false≢true (subst (λ (b : ℕ). (is_digit b && list_all is_digit more) ≡ true) e digits.1)

-- no token begins with a newline
not-newline : (k : TokenKind) (bytes : Bytes) → HasForm k (10 ∷ bytes) → ⊥
unfolding word_of op_of
not-newline kind.Name bytes form = false≢true form
not-newline (kind.Word w) bytes form = cc
not-newline (kind.Number n) bytes form = false≢true form.0.1
not-newline kind.Decimal bytes (whole, fraction, is, digits, more) = digits-first whole fraction bytes is digits
not-newline (kind.Mark byte) bytes form = let e : byte ≡ 10 = cc form.0 in false≢true (subst (λ (b : ℕ). is_mark b ≡ true) e form.1)
not-newline (kind.Oper o) bytes form = cc

-- the first byte of a token is no newline
pub HasForm-first : (k : TokenKind) (text : Bytes) → HasForm k text → get_or text 0 0 ≢ 10
HasForm-first k [] form = λ e. absurd (omega (arith, e))
HasForm-first k (byte ∷ bytes) form = λ e. not-newline k bytes (subst (λ (b : ℕ). HasForm k (b ∷ bytes)) e form)
