-- The numbers of a text are below 2^63.
use Rattle.std.proofs.Common.{ℕ, ◌^◌, ◌<◌, List, [], ◌∷◌}
use Rattle.rely_num.specs.Texts.{Bytes}
use Rattle.rely_lexer.specs.declared.token.Token.{Token}
use Rattle.rely_lexer.specs.declared.token.TokenKind.{TokenKind}
use Rattle.rely_lexer.specs.declared.token.TokenKind.TheVariants as kind
use Rattle.rely_lexer.specs.Readings.{HasForm, AreTokensFrom}

-- a number is below 2^63
abbrev pub IsSmall : TokenKind → Type 0
IsSmall (kind.Number n) = n < 2 ^ 63
IsSmall _ = Unit {0}

-- each number is
abbrev pub AreSmall : List Token → Type 0
AreSmall [] = Unit {0}
AreSmall (t ∷ ts) = IsSmall t.kind × AreSmall ts

form-small : (k : TokenKind) (text : Bytes) → HasForm k text → IsSmall k
form-small (kind.Number n) text h = h.2
form-small kind.Name text h = tt
form-small (kind.Word w) text h = tt
form-small kind.Decimal text h = tt
form-small (kind.Mark m) text h = tt
form-small (kind.Oper o) text h = tt

-- the numbers of the tokens of a text are
pub tokens-small : (text : Bytes) (place : ℕ) (toks : List Token) → AreTokensFrom text place toks → AreSmall toks
tokens-small text place [] h = tt
tokens-small text place (t ∷ ts) (after, full, fits, gap, form, longest, more) = (form-small t.kind _ form, tokens-small text t.span.to ts more)
