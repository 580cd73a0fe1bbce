-- Up to where a text is refused it is tokens, with gaps between them.
use Rattle.std.proofs.Common.{◌≡◌, ◌≢◌, ℕ, ◌+◌, ◌-◌, ◌<◌, ◌≤◌, inr, true, false, List, [], ◌∷◌, take, drop, length, get_or, refl, ap, sym, ◌∙◌, subst, arith, length-drop}
use Rattle.std.specs.List.{slice_range}
use Rattle.std.proofs.lemmas.List.{drop-drop, get_or-take, get_or-drop}
use Rattle.rely_num.specs.Texts.{Bytes}
use Rattle.rely_lexer.specs.declared.token.Token.{Token}
use Rattle.rely_lexer.specs.declared.token.TokenKind.{TokenKind}
use Rattle.rely_lexer.specs.declared.token.LexFault.{LexFault}
use Rattle.rely_lexer.specs.declared.token.LexFault.TheVariants.{TooLong, NumberWide, BadByte, Memory}
use Rattle.rely_lexer.specs.Tokens.{is_blank, gap_length, token_at}
use Rattle.rely_lexer.specs.Readings.{HasForm, is_gap, AreTokensUpTo}
use Rattle.rely_lexer.proofs.LongestLaws.{IsLongestFront}
use Rattle.rely_lexer.proofs.FormLemmas.{HasForm-first}
use Rattle.rely_lexer.proofs.ReadingLaws.{Reaches, front-gap, IsLongest-from_front}

-- the place of a refusal
abbrev pub place_of : LexFault → ℕ
place_of (BadByte place) = place
place_of (NumberWide place) = place
place_of TooLong = 0
place_of Memory = 0

-- from a place up to another, where no blank stands, the text is tokens
pub record Fronts (text : Bytes) (at place : ℕ) : Type 0 where
  pub tokens : List Token
  pub are : AreTokensUpTo text at tokens place
  pub inside : place < length text
  pub first : is_blank (get_or text place 0) ≡ false

-- what is no blank is no newline
no-newline : (byte : ℕ) → is_blank byte ≡ false → byte ≢ 10
no-newline byte b e = let n = subst (λ (x : ℕ). is_blank x ≡ false) e b in absurd (cc)

-- tokens up to a place behind a gap, with the gap before them
gap-before : (text : Bytes) (at n place : ℕ) (tokens : List Token) → n ≡ gap_length (drop at text) → 0 < n → at + n ≤ length text → place < length text → is_blank (get_or text place 0) ≡ false →
    AreTokensUpTo text (at + n) tokens place → AreTokensUpTo text at tokens place
unfolding Reaches
gap-before text at n place [] is some few inside first (after, gap) =
    let rest = drop at text in
    let m = place - (at + n) in
    let reach : Reaches false false rest m n = subst (Reaches false false rest m) (sym is) (front-gap false rest m (omega (arith, is))) in
    let same : n + m ≡ place - at = omega arith in
    let shorter : n < length rest = omega (arith, length-drop at text) in
    let near : m ≡ 0 → get_or rest n 0 ≢ 10 = λ close e.
    let here : at + n ≡ place = omega (arith, close, after) in
    no-newline (get_or text place 0) first (ap (λ i. get_or text i 0) (sym here) ∙ sym (get_or-drop at text n 0) ∙ e) in
    let behind : is_gap false false (take m (drop n rest)) ≡ true = rw (drop-drop n at text) gap in
    (omega arith, subst (λ (k : ℕ). is_gap false false (take k rest) ≡ true) same (reach behind (inr (shorter, near))))
gap-before text at n place (token ∷ tokens) is some few inside first (after, full, fits, gap, form, longest, more) =
    let rest = drop at text in
    let from = token.span.from in
    let size = token.span.to - from in
    let m = from - (at + n) in
    let reach : Reaches false false rest m n = subst (Reaches false false rest m) (sym is) (front-gap false rest m (omega (arith, is))) in
    let behind : is_gap false false (take m (drop n rest)) ≡ true = rw (drop-drop n at text) gap in
    let same : n + m ≡ from - at = omega arith in
    let shorter : n < length rest = omega (arith, length-drop at text) in
    let near : m ≡ 0 → get_or rest n 0 ≢ 10 = λ close e.
    let here : from + 0 ≡ at + n = omega (arith, close, after) in
    HasForm-first token.kind (take size (drop from text)) form
    (get_or-take size (drop from text) 0 0 (omega arith) ∙ get_or-drop from text 0 0 ∙ ap (λ i. get_or text i 0) here ∙ sym (get_or-drop at text n 0) ∙ e) in
    (omega arith, full, fits, subst (λ (k : ℕ). is_gap false false (take k rest) ≡ true) same (reach behind (inr (shorter, near))), form, longest, more)

pub fronts-gap : (text : Bytes) (at n place : ℕ) → n ≡ gap_length (drop at text) → 0 < n → at + n ≤ length text → Fronts text (at + n) place → Fronts text at place
fronts-gap text at n place is some few f = record { tokens = f.tokens; are = gap-before text at n place f.tokens is some few f.inside f.first f.are; inside = f.inside; first = f.first }

pub fronts-token : (text : Bytes) (at n place : ℕ) (k : TokenKind) → 0 < n → at + n ≤ length text → HasForm k (take n (drop at text)) → IsLongestFront (drop at text) n → Fronts text (at + n) place → Fronts text at place
fronts-token text at n place k some few form longest f =
    let none : at - at ≡ 0 = omega arith in
    let size : at + n - at ≡ n = omega arith in
    let gap : is_gap false false (slice_range text at at) ≡ true = rw none refl in
    let shape : HasForm k (slice_range text at (at + n)) = rw size form in
    record {
      tokens = token_at k at (at + n) ∷ f.tokens;
      are = (omega arith, omega arith, few, gap, shape, IsLongest-from_front text at n longest, f.are);
      inside = f.inside;
      first = f.first;
    }

-- a refusal at the place itself
pub fronts-here : (text : Bytes) (at : ℕ) → at < length text → is_blank (get_or (drop at text) 0 0) ≡ false → Fronts text at at
fronts-here text at inside first =
    let none : at - at ≡ 0 = omega arith in
    let here : at ≡ at + 0 = omega arith in
    record {
      tokens = [];
      are = (omega arith, rw none refl);
      inside = inside;
      first = ap (λ i. is_blank (get_or text i 0)) here ∙ ap is_blank (sym (get_or-drop at text 0 0)) ∙ first;
    }
