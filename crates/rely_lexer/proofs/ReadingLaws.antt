-- The tokens found are slices of the text in order, with gaps between them.
use Rattle.std.proofs.Common.{◌≡◌, ◌≢◌, ℕ, zero, suc, ◌+◌, ◌-◌, ◌<◌, ◌≤◌, ◌&&◌, ◌||◌, ◌==◌, nat_lt, ◌⊎◌, inl, inr, ⊎_elim, Bool, true, false, cond, List, [], ◌∷◌, take, drop, length, get_or, Result, Ok, Err, refl, ap, sym, ◌∙◌, subst, arith, length-drop}
use Rattle.std.specs.List.{prefix_len, slice_range}
use Rattle.std.proofs.lemmas.Bool.{cond_both, cond-true, and_parts, false≢true, eqb-true, not-false, cases_lt}
use Rattle.std.proofs.lemmas.List.{drop-drop, drop_all, take_all, get_or-take, get_or-drop}
use Rattle.rely_num.specs.Texts.{Bytes}
use Rattle.rely_lexer.specs.declared.token.Token.{Token}
use Rattle.rely_lexer.specs.declared.token.TokenKind.{TokenKind}
use Rattle.rely_lexer.specs.declared.token.LexFault.{LexFault}
use Rattle.rely_lexer.specs.declared.token.LexFault.TheVariants.{TooLong, NumberWide, BadByte}
use Rattle.rely_lexer.specs.declared.piece.Piece.{Piece}
use Rattle.rely_lexer.specs.declared.piece.Piece.TheVariants.{Gap, Lexeme, Wide, Bad}
use Rattle.rely_lexer.specs.Tokens.{IsWithin, is_blank, is_in_line, begins_comment, gap_length, piece_of, token_at, token_then, tokens_behind, tokens_of}
use Rattle.rely_lexer.specs.Readings.{HasForm, IsLongest, is_gap, AreTokensFrom}
use Rattle.rely_lexer.proofs.Pieces.{piece_of-within}
use Rattle.rely_lexer.proofs.LongestLaws.{IsLongestFront, IsLongestPiece, piece_of-longest}
use Rattle.rely_lexer.proofs.FormLemmas.{PieceFits, piece_of-fits, HasForm-first}
use Rattle.rely_lexer.proofs.Behind.{behind-Gap, behind-Lexeme, behind-Wide, behind-Bad, behind-end}

-- no bytes from none
take-nil : (n : ℕ) → take {A = ℕ} n [] ≡ []
take-nil zero = refl
take-nil (suc n) = refl

-- so many bytes are a gap up to so many more, from inside a comment or not: where the text goes on behind those, it does so with no newline
unfoldable pub Reaches : Bool → Bool → Bytes → ℕ → ℕ → Type 0
Reaches ends inside text m n =
    is_gap ends false (take m (drop n text)) ≡ true → (ends ≡ true) ⊎ ((n < length text) × (m ≡ 0 → get_or text n 0 ≢ 10)) → is_gap ends inside (take (n + m) text) ≡ true

-- a comment may end where the text does
ended : (ends : Bool) {P : Type 0} → (ends ≡ true) ⊎ P → (P → ⊥) → (ends || false) ≡ true
ended true end goes = refl
ended false (inl e) goes = absurd (false≢true e)
ended false (inr p) goes = absurd (goes p)

-- a newline ends a comment
newline-gap : (ends : Bool) (bytes : Bytes) (m : ℕ) → Reaches ends true (10 ∷ bytes) m 0
unfolding Reaches
newline-gap ends bytes zero gap end = ended ends end (λ p. p.1 refl refl)
newline-gap ends bytes (suc m) gap end = let e : 0 + suc m ≡ suc m = omega arith in rw e gap

-- where the text goes on behind one byte more
ahead : (ends : Bool) (byte : ℕ) (bytes : Bytes) (m n : ℕ) → (ends ≡ true) ⊎ ((suc n < length (byte ∷ bytes)) × (m ≡ 0 → get_or (byte ∷ bytes) (suc n) 0 ≢ 10)) →
    (ends ≡ true) ⊎ ((n < length bytes) × (m ≡ 0 → get_or bytes n 0 ≢ 10))
ahead ends byte bytes m n (inl e) = inl e
ahead ends byte bytes m n (inr p) = inr (omega (arith, p.0), p.1)

-- one more byte in the line
longer : (ends : Bool) (byte : ℕ) (bytes : Bytes) (m n : ℕ) → is_in_line byte ≡ true → Reaches ends true bytes m n → Reaches ends true (byte ∷ bytes) m (suc n)
unfolding Reaches
longer ends byte bytes m n inline reaches gap end =
    let e : suc n + m ≡ suc (n + m) = omega arith in
    rw e (subst (λ (b : Bool). is_gap ends b (take (n + m) bytes) ≡ true) (sym inline) (reaches gap (ahead ends byte bytes m n end)))

-- a comment reaches up to its newline
line-gap : (ends : Bool) (text : Bytes) (m : ℕ) → Reaches ends true text m (prefix_len is_in_line text)
unfolding Reaches
line-gap ends [] m = λ gap end. rw (take-nil (0 + m)) (ended ends end (λ p. absurd (omega (arith, p.0))))
line-gap ends (byte ∷ bytes) m =
    let n = prefix_len is_in_line bytes in
    cond_both (is_in_line byte) (1 + n) 0 (Reaches ends true (byte ∷ bytes) m)
    (λ inline. let e : suc n ≡ 1 + n = omega arith in subst (Reaches ends true (byte ∷ bytes) m) e (longer ends byte bytes m n inline (line-gap ends bytes m)))
    (λ newline. let e : byte ≡ 10 = eqb-true byte 10 (not-false (byte == 10) newline) in subst (λ (b : ℕ). Reaches ends true (b ∷ bytes) m 0) (sym e) (newline-gap ends bytes m))

-- two slashes before the rest of a comment
slashes : (ends : Bool) (bytes : Bytes) (m n : ℕ) → Reaches ends true bytes m n → Reaches ends false (47 ∷ 47 ∷ bytes) m (suc (suc n))
unfolding Reaches
slashes ends bytes m n reaches gap end =
    let e : suc (suc n) + m ≡ suc (suc (n + m)) = omega arith in
    rw e (reaches gap (ahead ends 47 bytes m n (ahead ends 47 (47 ∷ bytes) m (suc n) end)))

-- a comment with its slashes
comment-gap : (ends : Bool) (bytes : Bytes) (m : ℕ) → Reaches ends false (47 ∷ 47 ∷ bytes) m (prefix_len is_in_line (47 ∷ 47 ∷ bytes))
comment-gap ends bytes m =
    let n = prefix_len is_in_line bytes in
    let e : suc (suc n) ≡ 1 + (1 + n) = omega arith in
    subst (Reaches ends false (47 ∷ 47 ∷ bytes) m) e (slashes ends bytes m n (line-gap ends bytes m))

-- the same where the first two bytes are known to be slashes
two-slashes : (ends : Bool) (byte : ℕ) (bytes : Bytes) (m : ℕ) → byte ≡ 47 → get_or bytes 0 0 ≡ 47 → Reaches ends false (byte ∷ bytes) m (prefix_len is_in_line (byte ∷ bytes))
two-slashes ends byte [] m first second = absurd (omega (arith, second))
two-slashes ends byte (next ∷ bytes) m first second =
    subst (λ (b : ℕ). Reaches ends false (b ∷ next ∷ bytes) m (prefix_len is_in_line (b ∷ next ∷ bytes))) (sym first)
    (subst (λ (b : ℕ). Reaches ends false (47 ∷ b ∷ bytes) m (prefix_len is_in_line (47 ∷ b ∷ bytes))) (sym second) (comment-gap ends bytes m))

-- a blank is a gap
blank-gap : (ends : Bool) (byte : ℕ) (bytes : Bytes) (m : ℕ) → is_blank byte ≡ true → Reaches ends false (byte ∷ bytes) m 1
unfolding Reaches
blank-gap ends byte bytes m blank gap end =
    let e : 1 + m ≡ suc m = omega arith in
    rw e (cond-true (is_blank byte) (is_gap ends false (take m bytes)) (begins_comment (byte ∷ take m bytes) && is_gap ends true (take m bytes)) blank ∙ gap)

-- the gap at the front of a text
pub front-gap : (ends : Bool) (text : Bytes) (m : ℕ) → 0 < gap_length text → Reaches ends false text m (gap_length text)
unfolding gap_length
front-gap ends [] m some = absurd (omega arith)
front-gap ends (byte ∷ bytes) m some =
    let line = prefix_len is_in_line (byte ∷ bytes) in
    let first = byte == 47 in
    let second = get_or bytes 0 0 == 47 in
    let P : ℕ → Type 0 = λ n. 0 < n → Reaches ends false (byte ∷ bytes) m n in
    cond_both (is_blank byte) 1 (cond (first && second) line 0) P (λ blank _. blank-gap ends byte bytes m blank)
    (λ _. cond_both (first && second) line 0 P
    (λ both _. let parts = and_parts first second both in two-slashes ends byte bytes m (eqb-true byte 47 parts.0) (eqb-true (get_or bytes 0 0) 47 parts.1))
    (λ _ none. absurd (omega arith)))
    some

-- a token that stands right behind a gap
close-places : (at n from : ℕ) → from - (at + n) ≡ 0 → at + n ≤ from → from + 0 ≡ at + n
close-places at n from close after = omega arith

-- tokens behind a gap are tokens with the gap before them
gap-before : (text : Bytes) (at n : ℕ) (tokens : List Token) → n ≡ gap_length (drop at text) → 0 < n → at + n ≤ length text → AreTokensFrom text (at + n) tokens → AreTokensFrom text at tokens
unfolding Reaches
gap-before text at n [] is some inside more =
    let rest = drop at text in
    let m = length text in
    let reach : Reaches true false rest m n = subst (Reaches true false rest m) (sym is) (front-gap true rest m (omega (arith, is))) in
    let behind : is_gap true false (take m (drop n rest)) ≡ true = rw (drop-drop n at text, take_all m (drop (at + n) text) (omega (arith, length-drop (at + n) text))) more in
    subst (λ (r : Bytes). is_gap true false r ≡ true) (take_all (n + m) rest (omega (arith, length-drop at text))) (reach behind (inl refl))
gap-before text at n (token ∷ tokens) is some inside (after, full, fits, gap, form, longest, more) =
    let rest = drop at text in
    let from = token.span.from in
    let size = token.span.to - from in
    let m = from - (at + n) in
    let reach : Reaches false false rest m n = subst (Reaches false false rest m) (sym is) (front-gap false rest m (omega (arith, is))) in
    let behind : is_gap false false (take m (drop n rest)) ≡ true = rw (drop-drop n at text) gap in
    let same : n + m ≡ from - at = omega arith in
    let shorter : n < length rest = omega (arith, length-drop at text) in
    let first : m ≡ 0 → get_or rest n 0 ≢ 10 = λ close e.
    HasForm-first token.kind (take size (drop from text)) form
    (get_or-take size (drop from text) 0 0 (omega arith) ∙ get_or-drop from text 0 0 ∙ ap (λ i. get_or text i 0) (close-places at n from close after) ∙ sym (get_or-drop at text n 0) ∙ e) in
    (omega arith, full, fits, subst (λ (k : ℕ). is_gap false false (take k rest) ≡ true) same (reach behind (inr (shorter, first))), form, longest, more)

-- the longest front at a place is the longest from there on
pub IsLongest-from_front : (text : Bytes) (at n : ℕ) → IsLongestFront (drop at text) n → IsLongest text at (at + n)
IsLongest-from_front text at n longest = record {
  token = λ end j inside form. omega (arith, longest.token (end - at) j (omega (arith, length-drop at text)) form);
  digits = λ end inside digits. omega (arith, longest.digits (end - at) (omega (arith, length-drop at text)) digits);
  comment = longest.comment;
}

-- a token, and the tokens behind it
token-before : (text : Bytes) (at n : ℕ) (k : TokenKind) (tokens : List Token) (r : Result (List Token) LexFault) → 0 < n → at + n ≤ length text → HasForm k (take n (drop at text)) → IsLongestFront (drop at text) n →
    ((behind : List Token) → r ≡ Ok behind → AreTokensFrom text (at + n) behind) → token_then (token_at k at (at + n)) r ≡ Ok tokens → AreTokensFrom text at tokens
token-before text at n k tokens (Ok behind) some inside form longest more is =
    let e : token_at k at (at + n) ∷ behind ≡ tokens = cc in
    let none : at - at ≡ 0 = omega arith in
    let size : at + n - at ≡ n = omega arith in
    let gap : is_gap false false (slice_range text at at) ≡ true = rw none refl in
    let shape : HasForm k (slice_range text at (at + n)) = rw size form in
    subst (AreTokensFrom text at) e (omega arith, omega arith, inside, gap, shape, IsLongest-from_front text at n longest, more behind refl)
token-before text at n k tokens (Err e) some inside form longest more is = absurd (cc)

-- what stands at a place, and the tokens behind it
piece-before : (text : Bytes) (at : ℕ) (tokens : List Token) (piece : Piece) →
    ((to : ℕ) (behind : List Token) → at < to → to ≤ length text → tokens_behind (drop to text) 0 to ≡ Ok behind → AreTokensFrom text to behind) →
    at < length text → piece ≡ piece_of (drop at text) → tokens_behind (drop at text) 0 at ≡ Ok tokens → AreTokensFrom text at tokens
piece-before text at tokens (Gap n) more inside is read =
    let rest = drop at text in
    let within : IsWithin (length rest) (Gap n) = subst (IsWithin (length rest)) (sym is) (piece_of-within rest (omega (arith, length-drop at text))) in
    let fits : n ≡ gap_length rest = subst (PieceFits rest) (sym is) (piece_of-fits rest) in
    let few : at + n ≤ length text = omega (arith, within.1, length-drop at text) in
    gap-before text at n tokens fits within.0 few (more (at + n) tokens (omega (arith, within.0)) few (sym (behind-Gap text at n inside is within.0) ∙ read))
piece-before text at tokens (Lexeme k n) more inside is read =
    let rest = drop at text in
    let within : IsWithin (length rest) (Lexeme k n) = subst (IsWithin (length rest)) (sym is) (piece_of-within rest (omega (arith, length-drop at text))) in
    let form : HasForm k (take n rest) = subst (PieceFits rest) (sym is) (piece_of-fits rest) in
    let longest : IsLongestPiece rest (Lexeme k n) = subst (IsLongestPiece rest) (sym is) (piece_of-longest rest (omega (arith, length-drop at text))) in
    let few : at + n ≤ length text = omega (arith, within.1, length-drop at text) in
    token-before text at n k tokens (tokens_behind (drop (at + n) text) 0 (at + n)) within.0 few form longest (λ behind e. more (at + n) behind (omega (arith, within.0)) few e)
    (sym (behind-Lexeme text at k n inside is within.0) ∙ read)
piece-before text at tokens Wide more inside is read =
    let e : Err (NumberWide at) ≡ Ok tokens = sym (behind-Wide text at inside is) ∙ read in absurd (cc)
piece-before text at tokens Bad more inside is read =
    let e : Err (BadByte at) ≡ Ok tokens = sym (behind-Bad text at inside is) ∙ read in absurd (cc)

-- behind the end there are no tokens
at-end : (text : Bytes) (at : ℕ) (tokens : List Token) → length text ≤ at → tokens_behind (drop at text) 0 at ≡ Ok tokens → AreTokensFrom text at tokens
at-end text at [] past read = rw (drop_all at text past) refl
at-end text at (token ∷ tokens) past read = let e : Ok [] ≡ Ok (token ∷ tokens) = sym (behind-end text at past) ∙ read in absurd (cc)

-- from each place on, by how many bytes are left at most
tokens_behind-reads : (left : ℕ) (text : Bytes) (at : ℕ) (tokens : List Token) → length text ≤ at + left → tokens_behind (drop at text) 0 at ≡ Ok tokens → AreTokensFrom text at tokens
tokens_behind-reads zero text at tokens few read = at-end text at tokens (omega arith) read
tokens_behind-reads (suc left) text at tokens few read =
    ⊎_elim (λ inside. piece-before text at tokens (piece_of (drop at text)) (λ to behind later fits rest. tokens_behind-reads left text to behind (omega arith) rest) inside refl read)
    (λ past. at-end text at tokens past read) (cases_lt at (length text))

-- the tokens of a text are slices of it in order, with gaps between them
pub tokens_of-reads : (text : Bytes) (tokens : List Token) → tokens_of text ≡ Ok tokens → AreTokensFrom text 0 tokens
unfolding tokens_of
tokens_of-reads text tokens read =
    cond_both (nat_lt 65536 (length text)) (Err TooLong) (tokens_behind text 0 0) (λ r. r ≡ Ok tokens → AreTokensFrom text 0 tokens) (λ _ e. absurd (cc))
    (λ _ e. tokens_behind-reads (length text) text 0 tokens (omega arith) e) read

pub ruleset reads = (tokens_of-reads)
