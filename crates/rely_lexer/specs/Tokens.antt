-- The tokens of a text: what stands at its front, and the same again behind that.
use Rattle.std.specs.Prelude.{ℕ, zero, suc, ◌+◌, ◌-◌, ◌^◌, ◌<◌, ◌≤◌, Bool, not, ◌&&◌, ◌||◌, ◌==◌, nat_lt, List, [], ◌∷◌, length, take, drop, slice_index, Option, option_map, unwrap_or, Result, Ok, Err, if◌then◌else◌}
use Rattle.std.specs.List.{prefix_len}
use Rattle.std.specs.Option.{option_or}
use Rattle.rely_num.specs.Texts.{Bytes, is_digit, is_letter, is_name_byte}
use Rattle.rely_num.specs.AttoTexts.{number_of}
use Rattle.rely_lexer.specs.declared.token.Token.{Token}
use Rattle.rely_lexer.specs.declared.token.TokenKind.{TokenKind}
use Rattle.rely_lexer.specs.declared.token.TokenKind.TheVariants as kind
use Rattle.rely_lexer.specs.declared.token.LexFault.{LexFault}
use Rattle.rely_lexer.specs.declared.token.LexFault.TheVariants as fault
use Rattle.rely_lexer.specs.declared.piece.Piece.{Piece}
use Rattle.rely_lexer.specs.declared.piece.Piece.TheVariants.{Gap, Lexeme, Wide, Bad}
use Rattle.rely_lexer.specs.Forms.{name_kind, sign_kind}

-- ---- at the front of a text

-- a space, a tab, a newline or a carriage return
abbrev pub is_blank : ℕ → Bool
is_blank byte = byte == 32 || byte == 9 || byte == 10 || byte == 13

-- not a newline
abbrev pub is_in_line : ℕ → Bool
is_in_line byte = not (byte == 10)

-- two slashes
abbrev pub begins_comment : Bytes → Bool
begins_comment text = slice_index text 0 == 47 && slice_index text 1 == 47

-- a blank, or a comment up to its newline, or no gap
unfoldable pub gap_length : Bytes → ℕ
gap_length text = if is_blank (slice_index text 0) then 1 else (if begins_comment text then prefix_len is_in_line text else 0)

-- the longest name
unfoldable pub name_piece : Bytes → Piece
name_piece text = let n = prefix_len is_name_byte text in Lexeme (name_kind (take n text)) n

-- a point and the digits behind it, or no fraction
unfoldable pub fraction_length : Bytes → ℕ
fraction_length text = if slice_index text 0 == 46 && is_digit (slice_index text 1) then 1 + prefix_len is_digit (drop 1 text) else 0

-- a whole number, which is below 2^63
unfoldable pub whole_piece : Bytes → Piece
whole_piece digits = let n = number_of digits in if nat_lt n (2 ^ 63) then Lexeme (kind.Number n) (length digits) else Wide

-- a decimal where a fraction follows the digits, and else a whole number
unfoldable pub number_piece : Bytes → Piece
number_piece text =
    let n = prefix_len is_digit text in
    let m = fraction_length (drop n text) in
    if nat_lt 0 m then Lexeme kind.Decimal (n + m) else whole_piece (take n text)

abbrev pub signed : Bytes → Option Piece
signed text = option_map (λ k. Lexeme k (length text)) (sign_kind text)

-- an operator or a mark, of two bytes where those are one
unfoldable pub sign_piece : Bytes → Piece
sign_piece text = unwrap_or (option_or (signed (take 2 text)) (signed (take 1 text))) Bad

-- the token at the front of a text that begins with no gap
unfoldable pub token_piece : Bytes → Piece
token_piece text =
    if is_letter (slice_index text 0) then name_piece text else (if is_digit (slice_index text 0) then number_piece text else sign_piece text)

-- what stands at the front of a text
unfoldable pub piece_of : Bytes → Piece
piece_of text = let n = gap_length text in if nat_lt 0 n then Gap n else token_piece text

-- a piece has a byte at least, and at most so many
abbrev pub IsWithin : ℕ → Piece → Type 0
IsWithin most (Gap n) = (0 < n) × (n ≤ most)
IsWithin most (Lexeme k n) = (0 < n) × (n ≤ most)
IsWithin most Wide = Unit {0}
IsWithin most Bad = Unit {0}

-- ---- all along the text

-- a token, and those behind it
abbrev pub token_then : Token → Result (List Token) LexFault → Result (List Token) LexFault
token_then token (Ok tokens) = Ok (token ∷ tokens)
token_then token (Err e) = Err e

abbrev pub token_at : TokenKind → ℕ → ℕ → Token
token_at k from to = record { kind = k; span = record { from = from; to = to } }

-- a piece that stands at a place, and the tokens behind it, by how many more bytes it has
abbrev pub piece_then : Piece → ℕ → (ℕ → Result (List Token) LexFault) → Result (List Token) LexFault
piece_then (Gap n) place behind = behind (n - 1)
piece_then (Lexeme k n) place behind = token_then (token_at k place (place + n)) (behind (n - 1))
piece_then Wide place behind = Err (fault.NumberWide place)
piece_then Bad place behind = Err (fault.BadByte place)

-- the tokens of a text that begins at a place, behind its first bytes, which belong to a piece before
unfoldable pub tokens_behind : Bytes → ℕ → ℕ → Result (List Token) LexFault
tokens_behind [] n place = Ok []
tokens_behind (byte ∷ bytes) zero place = piece_then (piece_of (byte ∷ bytes)) place (λ n. tokens_behind bytes n (suc place))
tokens_behind (byte ∷ bytes) (suc n) place = tokens_behind bytes n (suc place)

-- the tokens of a text of at most 65,536 bytes, or the first place where there is none
unfoldable pub tokens_of : Bytes → Result (List Token) LexFault
tokens_of text = if nat_lt 65536 (length text) then Err fault.TooLong else tokens_behind text 0 0
