-- Each piece has a byte at least, and lies in its text.
use Rattle.std.proofs.Common.{◌≡◌, ℕ, ◌+◌, ◌^◌, ◌<◌, ◌≤◌, ◌&&◌, ◌==◌, nat_lt, Bool, true, [], ◌∷◌, take, drop, length, get_or, Option, Some, None, arith, length-take, length-drop, if◌then◌else◌, option_map, unwrap_or}
use Rattle.std.specs.Option.{option_or}
use Rattle.std.specs.List.{prefix_len}
use borrow.Author.Tests.{ltb-true}
use Rattle.std.proofs.lemmas.Bool.{cond_both}
use Rattle.std.proofs.lemmas.List.Sums.{prefix_len-le-length}
use Rattle.std.proofs.lemmas.List.{length-take-le}
use Rattle.rely_num.specs.Texts.{Bytes, is_digit, is_letter, is_name_byte}
use Rattle.rely_num.specs.AttoTexts.{number_of}
use Rattle.rely_lexer.specs.declared.token.TokenKind.{TokenKind}
use Rattle.rely_lexer.specs.declared.token.TokenKind.TheVariants.{Number, Decimal}
use Rattle.rely_lexer.specs.declared.piece.Piece.{Piece}
use Rattle.rely_lexer.specs.declared.piece.Piece.TheVariants.{Gap, Lexeme, Wide, Bad}
use Rattle.rely_lexer.specs.Forms.{sign_kind}
use Rattle.rely_lexer.specs.Tokens.{IsWithin, is_blank, is_in_line, begins_comment, piece_of, token_piece, gap_length, name_piece, number_piece, fraction_length, whole_piece, sign_piece, signed}

-- a gap lies in its text
pub gap_length-within : (text : Bytes) → 0 < length text → gap_length text ≤ length text
unfolding gap_length
gap_length-within text some =
    let P : ℕ → Type 0 = λ n. n ≤ length text in
    let line = prefix_len is_in_line text in
    cond_both (is_blank (get_or text 0 0)) 1 (if begins_comment text then line else 0) P (λ _. omega arith)
    (λ _. cond_both (begins_comment text) line 0 P (λ _. prefix_len-le-length is_in_line text) (λ _. omega arith))

-- a first byte that passes
pub prefix_len-some : (p : ℕ → Bool) (text : Bytes) → 0 < length text → p (get_or text 0 0) ≡ true → 0 < prefix_len p text
prefix_len-some p [] some passes = absurd (omega arith)
prefix_len-some p (byte ∷ bytes) some passes = grind arith

-- a name lies in its text
name_piece-within : (text : Bytes) → 0 < length text → is_letter (get_or text 0 0) ≡ true → IsWithin (length text) (name_piece text)
unfolding name_piece
name_piece-within text some letter = (prefix_len-some is_name_byte text some (grind arith), prefix_len-le-length is_name_byte text)

-- a fraction lies in its text
fraction_length-within : (text : Bytes) → fraction_length text ≤ length text
unfolding fraction_length
fraction_length-within [] = omega arith
fraction_length-within (byte ∷ bytes) =
    let P : ℕ → Type 0 = λ n. n ≤ length (byte ∷ bytes) in
    cond_both (byte == 46 && is_digit (get_or bytes 0 0)) (1 + prefix_len is_digit bytes) 0 P (λ _. omega (arith, prefix_len-le-length is_digit bytes)) (λ _. omega arith)

-- a whole number lies in its text
whole_piece-within : (most : ℕ) (digits : Bytes) → 0 < length digits → length digits ≤ most → IsWithin most (whole_piece digits)
unfolding whole_piece
whole_piece-within most digits some few =
    let n = number_of digits in
    cond_both (nat_lt n (2 ^ 63)) (Lexeme (Number n) (length digits)) Wide (IsWithin most) (λ _. (some, few)) (λ _. tt)

-- a number lies in its text
number_piece-within : (text : Bytes) → 0 < length text → is_digit (get_or text 0 0) ≡ true → IsWithin (length text) (number_piece text)
unfolding number_piece
number_piece-within text some digit =
    let n = prefix_len is_digit text in
    let first : 0 < n = prefix_len-some is_digit text some digit in
    let few : n ≤ length text = prefix_len-le-length is_digit text in
    let m = fraction_length (drop n text) in
    cond_both (nat_lt 0 m) (Lexeme Decimal (n + m)) (whole_piece (take n text)) (IsWithin (length text))
    (λ _. (omega arith, omega (arith, fraction_length-within (drop n text), length-drop n text)))
    (λ _. whole_piece-within (length text) (take n text) (omega (arith, length-take-le n text few)) (omega (arith, length-take-le n text few)))

-- nothing, or a piece that lies in the text
abbrev IfWithin : ℕ → Option Piece → Type 0
IfWithin most None = Unit {0}
IfWithin most (Some piece) = IsWithin most piece

-- a sign is as long as its bytes
signed-within : (most : ℕ) (text : Bytes) (found : Option TokenKind) → 0 < length text → length text ≤ most → IfWithin most (option_map (λ k. Lexeme k (length text)) found)
signed-within most text None some few = tt
signed-within most text (Some k) some few = (some, few)

-- the first of two, or a bad byte
first-within : (most : ℕ) (two one : Option Piece) → IfWithin most two → IfWithin most one → IsWithin most (unwrap_or (option_or two one) Bad)
first-within most (Some piece) one within others = within
first-within most None (Some piece) within others = others
first-within most None None within others = tt

-- a sign lies in its text
sign_piece-within : (text : Bytes) → 0 < length text → IsWithin (length text) (sign_piece text)
unfolding sign_piece
sign_piece-within text some =
    first-within (length text) (signed (take 2 text)) (signed (take 1 text))
    (signed-within (length text) (take 2 text) (sign_kind (take 2 text)) (omega (arith, length-take 2 text)) (omega (arith, length-take 2 text)))
    (signed-within (length text) (take 1 text) (sign_kind (take 1 text)) (omega (arith, length-take 1 text)) (omega (arith, length-take 1 text)))

-- a token lies in its text
pub token_piece-within : (text : Bytes) → 0 < length text → IsWithin (length text) (token_piece text)
unfolding token_piece
token_piece-within text some =
    let P : Piece → Type 0 = IsWithin (length text) in
    let first = get_or text 0 0 in
    cond_both (is_letter first) (name_piece text) (if is_digit first then number_piece text else sign_piece text) P (name_piece-within text some)
    (λ _. cond_both (is_digit first) (number_piece text) (sign_piece text) P (number_piece-within text some) (λ _. sign_piece-within text some))

-- a piece lies in its text
pub piece_of-within : (text : Bytes) → 0 < length text → IsWithin (length text) (piece_of text)
unfolding piece_of
piece_of-within text some =
    let n = gap_length text in
    cond_both (nat_lt 0 n) (Gap n) (token_piece text) (IsWithin (length text)) (λ e. (ltb-true 0 n e, gap_length-within text some)) (λ _. token_piece-within text some)
