-- What the tokens of a text are, apart from how they are found: slices of the text in order, with gaps between them.
use Rattle.std.specs.Prelude.{◌≡◌, ℕ, ◌^◌, ◌<◌, ◌≤◌, Bool, true, false, not, ◌&&◌, ◌||◌, ◌==◌, List, [], ◌∷◌, ◌++◌, length, drop, Some, Result, Ok, Err, ◌↔◌, IsTrue, slice_index, if◌then◌else◌}
use Rattle.std.specs.List.{list_all, slice_range}
use Rattle.rely_num.specs.Ops.{op_of}
use Rattle.rely_num.specs.Texts.{Bytes, is_digit, is_name, word_of}
use Rattle.rely_num.specs.AttoTexts.{number_of}
use Rattle.rely_lexer.specs.declared.token.Token.{Token}
use Rattle.rely_lexer.specs.declared.token.TokenKind.{TokenKind}
use Rattle.rely_lexer.specs.declared.token.TokenKind.TheVariants as kind
use Rattle.rely_lexer.specs.declared.token.LexFault.{LexFault}
use Rattle.rely_lexer.specs.declared.token.LexFault.TheVariants as fault
use Rattle.rely_lexer.specs.Forms.{is_mark}
use Rattle.rely_lexer.specs.Tokens.{is_blank, begins_comment, tokens_of}

-- one digit or more
abbrev pub AreDigits : Bytes → Type 0
AreDigits text = (0 < length text) × IsTrue (list_all is_digit text)

-- the bytes have the form of a token
abbrev pub HasForm : TokenKind → Bytes → Type 0
HasForm kind.Name text = IsTrue (is_name text)
HasForm (kind.Word w) text = word_of text ≡ Some w
HasForm (kind.Number n) text = AreDigits text × (number_of text ≡ n) × (n < 2 ^ 63)
HasForm kind.Decimal text = (whole : Bytes) × (fraction : Bytes) × (text ≡ whole ++ 46 ∷ fraction) × AreDigits whole × AreDigits fraction
HasForm (kind.Mark byte) text = (text ≡ byte ∷ []) × IsTrue (is_mark byte)
HasForm (kind.Oper o) text = op_of text ≡ Some o

-- blanks and comments, where the text begins inside a comment or not; a comment ends before a newline, or where the whole text ends
abbrev pub is_gap : Bool → Bool → Bytes → Bool
is_gap ends inside [] = ends || not inside
is_gap ends true (byte ∷ bytes) = is_gap ends (not (byte == 10)) bytes
is_gap ends false (byte ∷ bytes) = if is_blank byte then is_gap ends false bytes else (begins_comment (byte ∷ bytes) && is_gap ends true bytes)

-- bytes from the one place that reach beyond the other are no token and no digits, and they begin no comment
pub record IsLongest (text : Bytes) (from to : ℕ) : Type 0 where
  pub token : (end : ℕ) (k : TokenKind) → end ≤ length text → HasForm k (slice_range text from end) → end ≤ to
  pub digits : (end : ℕ) → end ≤ length text → AreDigits (slice_range text from end) → end ≤ to
  pub comment : begins_comment (drop from text) ≡ false

-- from a place on, the tokens are slices of the text, none empty, each the longest from its place on and behind the one before, and what stands between them is blanks and comments
abbrev pub AreTokensFrom : Bytes → ℕ → List Token → Type 0
AreTokensFrom text place [] = IsTrue (is_gap true false (drop place text))
AreTokensFrom text place (token ∷ tokens) =
    (place ≤ token.span.from) × (token.span.from < token.span.to) × (token.span.to ≤ length text) × IsTrue (is_gap false false (slice_range text place token.span.from))
    × HasForm token.kind (slice_range text token.span.from token.span.to) × IsLongest text token.span.from token.span.to × AreTokensFrom text token.span.to tokens

-- from one place up to another the tokens stand so, and a gap behind them
abbrev pub AreTokensUpTo : Bytes → ℕ → List Token → ℕ → Type 0
AreTokensUpTo text place [] to = (place ≤ to) × IsTrue (is_gap false false (slice_range text place to))
AreTokensUpTo text place (token ∷ tokens) to =
    (place ≤ token.span.from) × (token.span.from < token.span.to) × (token.span.to ≤ length text) × IsTrue (is_gap false false (slice_range text place token.span.from))
    × HasForm token.kind (slice_range text token.span.from token.span.to) × IsLongest text token.span.from token.span.to × AreTokensUpTo text token.span.to tokens to

-- the text is read up to the place
abbrev pub IsReadUpTo : Bytes → ℕ → Type 0
IsReadUpTo text place = (tokens : List Token) × AreTokensUpTo text 0 tokens place

-- why a text is refused: it is too long; or, read up to the place, no token and no blank begins there; or digits begin there whose number is above 2^63 - 1, and no
-- longer token does
abbrev pub IsCause : Bytes → LexFault → Type 0
IsCause text fault.TooLong = 65536 < length text
IsCause text (fault.BadByte place) =
    (length text ≤ 65536) × IsReadUpTo text place × (place < length text) × (is_blank (slice_index text place) ≡ false)
    × ((end : ℕ) (k : TokenKind) → place < end → end ≤ length text → HasForm k (slice_range text place end) → ⊥)
IsCause text (fault.NumberWide place) =
    (length text ≤ 65536) × IsReadUpTo text place
    × ((end : ℕ) × (place < end) × (end ≤ length text) × AreDigits (slice_range text place end) × (2 ^ 63 ≤ number_of (slice_range text place end)) × IsLongest text place end)
IsCause text fault.Memory = Unit {0}

-- what a text is read as: its tokens, or why there are none
abbrev pub IsReading : Bytes → Result (List Token) LexFault → Type 0
IsReading text (Ok tokens) = (length text ≤ 65536) × AreTokensFrom text 0 tokens
IsReading text (Err fault.Memory) = ⊥
IsReading text (Err e) = IsCause text e

-- ---- laws

-- from a place on a text has one list of tokens at most
abbrev pub OneList : Type 0
OneList = (text : Bytes) (place : ℕ) (tokens others : List Token) → AreTokensFrom text place tokens → AreTokensFrom text place others → tokens ≡ others

-- a text is refused for one reason at most, at one place
abbrev pub OneRefusal : Type 0
OneRefusal = (text : Bytes) (d e : LexFault) → IsReading text (Err d) → IsReading text (Err e) → d ≡ e

-- a text has one reading, which is what the search from place to place finds
abbrev pub OneReading : Type 0
OneReading = (text : Bytes) (r : Result (List Token) LexFault) → IsReading text r ↔ (r ≡ tokens_of text)
