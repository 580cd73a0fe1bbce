-- Tokens behind a place.
use Rattle.std.proofs.Common.{◌≡◌, ℕ, zero, suc, ◌+◌, ◌-◌, ◌<◌, ◌≤◌, List, [], ◌∷◌, ◌++◌, drop, length, Result, Ok, Err, refl, ap, ◌∙◌, append_assoc, arith, length-drop}
use Rattle.std.proofs.lemmas.List.{drop-drop, drop_all}
use Rattle.rely_num.specs.Texts.{Bytes}
use Rattle.rely_lexer.specs.declared.token.Token.{Token}
use Rattle.rely_lexer.specs.declared.token.TokenKind.{TokenKind}
use Rattle.rely_lexer.specs.declared.token.LexFault.{LexFault}
use Rattle.rely_lexer.specs.declared.token.LexFault.TheVariants.{NumberWide, BadByte}
use Rattle.rely_lexer.specs.declared.piece.Piece.TheVariants.{Gap, Lexeme, Wide, Bad}
use Rattle.rely_lexer.specs.Tokens.{tokens_behind, token_then, token_at, piece_then, piece_of}

-- the tokens found so far, and those behind them
abbrev pub with_front : List Token → Result (List Token) LexFault → Result (List Token) LexFault
with_front front (Ok behind) = Ok (front ++ behind)
with_front front (Err e) = Err e

-- with nothing found so far
pub with_front-none : (r : Result (List Token) LexFault) → with_front [] r ≡ r
with_front-none (Ok behind) = refl
with_front-none (Err e) = refl

-- one token more found
pub with_front-push : (front : List Token) (token : Token) (r : Result (List Token) LexFault) → with_front (front ++ token ∷ []) r ≡ with_front front (token_then token r)
with_front-push front token (Ok behind) = ap Ok (append_assoc front (token ∷ []) behind)
with_front-push front token (Err e) = refl

-- the bytes of a piece before are passed over
pub tokens_behind-drop : (text : Bytes) (n place : ℕ) → tokens_behind text n place ≡ tokens_behind (drop n text) 0 (place + n)
unfolding tokens_behind
tokens_behind-drop [] zero place = refl
tokens_behind-drop [] (suc n) place = refl
tokens_behind-drop (byte ∷ bytes) zero place = ap (λ at. tokens_behind (byte ∷ bytes) 0 at) (omega arith)
tokens_behind-drop (byte ∷ bytes) (suc n) place = tokens_behind-drop bytes n (suc place) ∙ ap (λ at. tokens_behind (drop n bytes) 0 at) (omega arith)

-- the bytes of the piece at a place are passed over
passed : (text : Bytes) (at n : ℕ) → 0 < n → tokens_behind (drop 1 (drop at text)) (n - 1) (suc at) ≡ tokens_behind (drop (at + n) text) 0 (at + n)
passed text at n some =
    tokens_behind-drop (drop 1 (drop at text)) (n - 1) (suc at)
    ∙ ap (λ rest. tokens_behind rest 0 (suc at + (n - 1))) (drop-drop (n - 1) 1 (drop at text) ∙ drop-drop (1 + (n - 1)) at text)
    ∙ (let e : suc at + (n - 1) ≡ at + n = omega arith in let f : at + (1 + (n - 1)) ≡ at + n = omega arith in rw (e, f) refl)

-- the tokens of a text by the piece at its front
ahead : (text : Bytes) (at : ℕ) → 0 < length text → tokens_behind text 0 at ≡ piece_then (piece_of text) at (λ n. tokens_behind (drop 1 text) n (suc at))
unfolding tokens_behind piece_of
ahead [] at some = absurd (omega arith)
ahead (byte ∷ bytes) at some = refl

-- the tokens from a place on, by the piece that stands there
behind : (text : Bytes) (at : ℕ) → at < length text → tokens_behind (drop at text) 0 at ≡ piece_then (piece_of (drop at text)) at (λ n. tokens_behind (drop 1 (drop at text)) n (suc at))
behind text at inside = ahead (drop at text) at (omega (arith, length-drop at text))

-- a gap is passed over
pub behind-Gap : (text : Bytes) (at n : ℕ) → at < length text → Gap n ≡ piece_of (drop at text) → 0 < n → tokens_behind (drop at text) 0 at ≡ tokens_behind (drop (at + n) text) 0 (at + n)
behind-Gap text at n inside is some = rw (behind text at inside) (rw (← is) (passed text at n some))

-- a token comes first
pub behind-Lexeme : (text : Bytes) (at : ℕ) (k : TokenKind) (n : ℕ) → at < length text → Lexeme k n ≡ piece_of (drop at text) → 0 < n →
    tokens_behind (drop at text) 0 at ≡ token_then (token_at k at (at + n)) (tokens_behind (drop (at + n) text) 0 (at + n))
behind-Lexeme text at k n inside is some = rw (behind text at inside) (rw (← is) (ap (token_then (token_at k at (at + n))) (passed text at n some)))

-- a number that is too wide is the refusal
pub behind-Wide : (text : Bytes) (at : ℕ) → at < length text → Wide ≡ piece_of (drop at text) → tokens_behind (drop at text) 0 at ≡ Err (NumberWide at)
behind-Wide text at inside is = rw (behind text at inside) (rw (← is) refl)

-- a bad byte is the refusal
pub behind-Bad : (text : Bytes) (at : ℕ) → at < length text → Bad ≡ piece_of (drop at text) → tokens_behind (drop at text) 0 at ≡ Err (BadByte at)
behind-Bad text at inside is = rw (behind text at inside) (rw (← is) refl)

-- no token behind the end
pub behind-end : (text : Bytes) (at : ℕ) → length text ≤ at → tokens_behind (drop at text) 0 at ≡ Ok []
unfolding tokens_behind
behind-end text at past = rw (drop_all at text past) refl
