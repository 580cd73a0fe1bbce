-- Each refusal has its cause.
use Rattle.std.proofs.Common.{◌≡◌, ℕ, zero, suc, ◌+◌, ◌-◌, ◌<◌, ◌≤◌, nat_lt, ◌==◌, ◌^◌, ◌⊎◌, inl, inr, ⊎_elim, Bool, true, false, cond, List, [], ◌∷◌, take, drop, length, get_or, Option, Some, None, Result, Ok, Err, refl, ap, sym, ◌∙◌, subst, arith, length-drop, option_map, unwrap_or}
use Rattle.std.specs.Option.{option_or}
use Rattle.std.specs.List.{prefix_len, slice_range}
use Rattle.std.proofs.lemmas.Bool.{cond_both, both_ways, ltb-true, ltb-false, cases_lt, and_left, ne_eqb, false≢true}
use Rattle.std.proofs.lemmas.List.{get_or-drop}
use Rattle.std.proofs.lemmas.List.Sums.{prefix_len-le-length}
use Rattle.rely_num.specs.Texts.{Bytes, is_digit, is_letter}
use Rattle.rely_num.specs.AttoTexts.{number_of}
use Rattle.rely_num.specs.declared.op.Op.{Op}
use Rattle.rely_lexer.specs.declared.token.Token.{Token}
use Rattle.rely_lexer.specs.declared.token.TokenKind.{TokenKind}
use Rattle.rely_lexer.specs.declared.token.TokenKind.TheVariants as kind
use Rattle.rely_lexer.specs.declared.token.LexFault.{LexFault}
use Rattle.rely_lexer.specs.declared.token.LexFault.TheVariants.{TooLong, NumberWide, BadByte, Memory}
use Rattle.rely_lexer.specs.declared.piece.Piece.{Piece}
use Rattle.rely_lexer.specs.declared.piece.Piece.TheVariants.{Gap, Lexeme, Wide, Bad}
use Rattle.rely_lexer.specs.Forms.{is_mark, mark_kind, alone, sign_kind}
use Rattle.rely_num.specs.Ops.{op_of}
use Rattle.rely_lexer.specs.Tokens.{IsWithin, is_blank, is_in_line, begins_comment, piece_of, token_piece, gap_length, name_piece, number_piece, fraction_length, whole_piece, sign_piece, token_at, token_then, tokens_behind, tokens_of}
use Rattle.rely_lexer.specs.Readings.{HasForm, AreDigits, IsLongest, IsCause, IsReading}
use Rattle.rely_lexer.proofs.Pieces.{prefix_len-some, piece_of-within}
use Rattle.rely_lexer.proofs.FormLemmas.{AreDigits-prefix, PieceFits, piece_of-fits}
use Rattle.rely_lexer.proofs.LongestLaws.{prefix-from-all, short, IsLongestFront, first-of, is_word-first, first-same, reached, IsLongestPiece, piece_of-longest}
use Rattle.rely_lexer.proofs.ReadingLaws.{IsLongest-from_front}
use Rattle.rely_lexer.proofs.FrontLaws.{place_of, Fronts, fronts-gap, fronts-token, fronts-here}
use Rattle.rely_lexer.proofs.Behind.{behind-Gap, behind-Lexeme, behind-Wide, behind-Bad, behind-end}

-- why a piece is refused
abbrev PieceCause : Bytes → Piece → Type 0
PieceCause text (Gap n) = Unit {0}
PieceCause text (Lexeme k n) = Unit {0}
PieceCause text Wide =
    (is_blank (get_or text 0 0) ≡ false)
    × ((n : ℕ) × (0 < n) × (n ≤ length text) × AreDigits (take n text) × (2 ^ 63 ≤ number_of (take n text)) × IsLongestFront text n)
PieceCause text Bad = (is_blank (get_or text 0 0) ≡ false) × ((n : ℕ) (k : TokenKind) → 0 < n → n ≤ length text → HasForm k (take n text) → ⊥)

-- an operator is a sign
operator-lacks : (sign : Bytes) (o : Op) (found : Option Op) → found ≡ Some o → option_or (option_map kind.Oper found) (alone sign) ≡ None → ⊥
operator-lacks sign o None has none = cc
operator-lacks sign o (Some p) has none = cc

-- a mark is a sign
mark-lacks : (byte : ℕ) (marked : Bool) (found : Option Op) → marked ≡ true → option_or (option_map kind.Oper found) (cond marked (Some (kind.Mark byte)) None) ≡ None → ⊥
mark-lacks byte true None has none = cc
mark-lacks byte true (Some p) has none = cc
mark-lacks byte false found has none = cc

-- one byte that is no sign has no form
single : (text : Bytes) (k : TokenKind) → is_letter (get_or text 0 0) ≡ false → is_digit (get_or text 0 0) ≡ false → HasForm k (take 1 text) → sign_kind (take 1 text) ≡ None → ⊥
unfolding sign_kind mark_kind
single text kind.Name letter digit form none =
    both_ways (is_letter (get_or text 0 0)) letter (ap is_letter (sym (first-same text 0)) ∙ is_word-first (take 1 text) (first-of kind.Name (take 1 text) form))
single text (kind.Word w) letter digit form none =
    both_ways (is_letter (get_or text 0 0)) letter (ap is_letter (sym (first-same text 0)) ∙ is_word-first (take 1 text) (first-of (kind.Word w) (take 1 text) form))
single text (kind.Number v) letter digit form none = both_ways (is_digit (get_or text 0 0)) digit (ap is_digit (sym (first-same text 0)) ∙ first-of (kind.Number v) (take 1 text) form)
single text kind.Decimal letter digit form none = both_ways (is_digit (get_or text 0 0)) digit (ap is_digit (sym (first-same text 0)) ∙ first-of kind.Decimal (take 1 text) form)
single text (kind.Mark byte) letter digit form none =
    mark-lacks byte (is_mark byte) (op_of (byte ∷ [])) form.1 (subst (λ (s : Bytes). option_or (option_map kind.Oper (op_of s)) (alone s) ≡ None) form.0 none)
single text (kind.Oper o) letter digit form none = operator-lacks (take 1 text) o (op_of (take 1 text)) form none

-- a sign is refused where neither the first two bytes nor the first one is one
sign-cause : (text : Bytes) (two one : Option TokenKind) → sign_kind (take 2 text) ≡ two → sign_kind (take 1 text) ≡ one → is_letter (get_or text 0 0) ≡ false → is_digit (get_or text 0 0) ≡ false →
    is_blank (get_or text 0 0) ≡ false → PieceCause text (unwrap_or (option_or (option_map (λ k. Lexeme k (length (take 2 text))) two) (option_map (λ k. Lexeme k (length (take 1 text))) one)) Bad)
sign-cause text (Some k) one is_two is_one letter digit blank = tt
sign-cause text None (Some k) is_two is_one letter digit blank = tt
sign-cause text None None is_two is_one letter digit blank = (
  blank,
  λ n k some few form. ⊎_elim (λ small. let e : n ≡ 1 = omega arith in single text k letter digit (subst (λ (m : ℕ). HasForm k (take m text)) e form) is_one) (λ two. two.1 is_two)
      (short text n k letter digit few form),
)

-- no comment begins with a digit
digit-no-comment : (text : Bytes) → is_digit (get_or text 0 0) ≡ true → begins_comment text ≡ false
digit-no-comment text digit =
    and_left (get_or text 0 0 == 47) (get_or text 1 0 == 47) (ne_eqb (get_or text 0 0) 47 (λ e. false≢true (subst (λ (b : ℕ). is_digit b ≡ true) e digit)))

whole-cause : (text : Bytes) → is_digit (get_or text 0 0) ≡ true → 0 < length text → is_blank (get_or text 0 0) ≡ false → fraction_length (drop (prefix_len is_digit text) text) ≤ 0 →
    PieceCause text (whole_piece (take (prefix_len is_digit text) text))
unfolding whole_piece
whole-cause text digit some blank none =
    let n = prefix_len is_digit text in
    let digits = take n text in
    let v = number_of digits in
    cond_both (nat_lt v (2 ^ 63)) (Lexeme (kind.Number v) (length digits)) Wide (PieceCause text) (λ _. tt)
    (λ wide. (
      blank,
      (
        n,
        prefix_len-some is_digit text some digit,
        prefix_len-le-length is_digit text,
        AreDigits-prefix text digit,
        ltb-false v (2 ^ 63) wide,
        record {
          token = λ m k few form. omega (arith, reached text digit some m k few form, none);
          digits = λ m few digits. prefix-from-all is_digit text m few digits.1;
          comment = digit-no-comment text digit;
        },
      ),
    ))

number-cause : (text : Bytes) → is_digit (get_or text 0 0) ≡ true → 0 < length text → is_blank (get_or text 0 0) ≡ false → PieceCause text (number_piece text)
unfolding number_piece
number-cause text digit some blank =
    let n = prefix_len is_digit text in
    let m = fraction_length (drop n text) in
    cond_both (nat_lt 0 m) (Lexeme kind.Decimal (n + m)) (whole_piece (take n text)) (PieceCause text) (λ _. tt) (λ none. whole-cause text digit some blank (ltb-false 0 m none))

token-cause : (text : Bytes) → 0 < length text → is_blank (get_or text 0 0) ≡ false → PieceCause text (token_piece text)
unfolding token_piece name_piece sign_piece
token-cause text some blank =
    let first = get_or text 0 0 in
    cond_both (is_letter first) (name_piece text) (cond (is_digit first) (number_piece text) (sign_piece text)) (PieceCause text) (λ _. tt)
    (λ letter. cond_both (is_digit first) (number_piece text) (sign_piece text) (PieceCause text) (λ digit. number-cause text digit some blank)
    (λ digit. sign-cause text (sign_kind (take 2 text)) (sign_kind (take 1 text)) refl refl letter digit blank))

-- where there is no gap, no blank is first
no-blank : (text : Bytes) → gap_length text ≤ 0 → is_blank (get_or text 0 0) ≡ false
unfolding gap_length
no-blank text none = none-first (is_blank (get_or text 0 0)) (cond (begins_comment text) (prefix_len is_in_line text) 0) none
  where
    none-first : (blank : Bool) (n : ℕ) → cond blank 1 n ≤ 0 → blank ≡ false
    none-first true n none = absurd (omega arith)
    none-first false n none = refl

piece-cause : (text : Bytes) → 0 < length text → PieceCause text (piece_of text)
unfolding piece_of
piece-cause text some =
    let n = gap_length text in
    cond_both (nat_lt 0 n) (Gap n) (token_piece text) (PieceCause text) (λ _. tt) (λ none. token-cause text some (no-blank text (ltb-false 0 n none)))

-- a token before a refusal
token-refused : (token : Token) (r : Result (List Token) LexFault) (e : LexFault) → token_then token r ≡ Err e → r ≡ Err e
token-refused token (Ok tokens) e is = absurd (cc)
token-refused token (Err d) e is = is

-- why a text is refused at a place, whatever stands before it
abbrev Here : Bytes → LexFault → Type 0
Here text TooLong = ⊥
Here text (BadByte place) = (place < length text) × (is_blank (get_or text place 0) ≡ false) × ((end : ℕ) (k : TokenKind) → place < end → end ≤ length text → HasForm k (slice_range text place end) → ⊥)
Here text (NumberWide place) =
    (end : ℕ) × (place < end) × (end ≤ length text) × AreDigits (slice_range text place end) × (2 ^ 63 ≤ number_of (slice_range text place end)) × IsLongest text place end
Here text Memory = ⊥

-- why, and what stands before it
record Caused (text : Bytes) (at : ℕ) (e : LexFault) : Type 0 where
  front : Fronts text at (place_of e)
  here : Here text e

wide-cause : (text : Bytes) (at : ℕ) → PieceCause (drop at text) Wide → at < length text → Here text (NumberWide at)
wide-cause text at (blank, (n, some, few, digits, wide, longest)) inside =
    let size : n ≡ at + n - at = omega arith in (
      at + n,
      omega arith,
      omega (arith, length-drop at text),
      subst (λ (k : ℕ). AreDigits (take k (drop at text))) size digits,
      subst (λ (k : ℕ). 2 ^ 63 ≤ number_of (take k (drop at text))) size wide,
      IsLongest-from_front text at n longest,
    )

bad-cause : (text : Bytes) (at : ℕ) → PieceCause (drop at text) Bad → at < length text → Here text (BadByte at)
bad-cause text at (blank, formless) inside =
    let here : at ≡ at + 0 = omega arith in (
      inside,
      ap (λ i. is_blank (get_or text i 0)) here ∙ ap is_blank (sym (get_or-drop at text 0 0)) ∙ blank,
      λ end k after few form. formless (end - at) k (omega arith) (omega (arith, length-drop at text)) form,
    )

-- what stands at a place, and a refusal there or behind it
piece-refused : (text : Bytes) (at : ℕ) (e : LexFault) (piece : Piece) →
    ((to : ℕ) (d : LexFault) → at < to → to ≤ length text → tokens_behind (drop to text) 0 to ≡ Err d → Caused text to d) →
    at < length text → piece ≡ piece_of (drop at text) → tokens_behind (drop at text) 0 at ≡ Err e → Caused text at e
piece-refused text at e (Gap n) more inside is read =
    let rest = drop at text in
    let within : IsWithin (length rest) (Gap n) = subst (IsWithin (length rest)) (sym is) (piece_of-within rest (omega (arith, length-drop at text))) in
    let fits : n ≡ gap_length rest = subst (PieceFits rest) (sym is) (piece_of-fits rest) in
    let few : at + n ≤ length text = omega (arith, within.1, length-drop at text) in
    let c = more (at + n) e (omega (arith, within.0)) few (sym (behind-Gap text at n inside is within.0) ∙ read) in
    record { front = fronts-gap text at n (place_of e) fits within.0 few c.front; here = c.here }
piece-refused text at e (Lexeme k n) more inside is read =
    let rest = drop at text in
    let within : IsWithin (length rest) (Lexeme k n) = subst (IsWithin (length rest)) (sym is) (piece_of-within rest (omega (arith, length-drop at text))) in
    let form : HasForm k (take n rest) = subst (PieceFits rest) (sym is) (piece_of-fits rest) in
    let longest : IsLongestPiece rest (Lexeme k n) = subst (IsLongestPiece rest) (sym is) (piece_of-longest rest (omega (arith, length-drop at text))) in
    let few : at + n ≤ length text = omega (arith, within.1, length-drop at text) in
    let c =
    more (at + n) e (omega (arith, within.0)) few (token-refused (token_at k at (at + n)) (tokens_behind (drop (at + n) text) 0 (at + n)) e (sym (behind-Lexeme text at k n inside is within.0) ∙ read)) in
    record { front = fronts-token text at n (place_of e) k within.0 few form longest c.front; here = c.here }
piece-refused text at e Wide more inside is read =
    let rest = drop at text in
    let found : Err (NumberWide at) ≡ Err e = sym (behind-Wide text at inside is) ∙ read in
    let same : NumberWide at ≡ e = cc in
    let cause : PieceCause rest Wide = subst (PieceCause rest) (sym is) (piece-cause rest (omega (arith, length-drop at text))) in
    subst (Caused text at) same (record { front = fronts-here text at inside cause.0; here = wide-cause text at cause inside })
piece-refused text at e Bad more inside is read =
    let rest = drop at text in
    let found : Err (BadByte at) ≡ Err e = sym (behind-Bad text at inside is) ∙ read in
    let same : BadByte at ≡ e = cc in
    let cause : PieceCause rest Bad = subst (PieceCause rest) (sym is) (piece-cause rest (omega (arith, length-drop at text))) in
    subst (Caused text at) same (record { front = fronts-here text at inside cause.0; here = bad-cause text at cause inside })

-- nothing is refused behind the end
end-accepted : (text : Bytes) (at : ℕ) (e : LexFault) → length text ≤ at → tokens_behind (drop at text) 0 at ≡ Err e → Caused text at e
end-accepted text at e past read = let f : Ok [] ≡ Err e = sym (behind-end text at past) ∙ read in absurd (cc)

-- from each place on, by how many bytes are left at most
tokens_behind-refused : (left : ℕ) (text : Bytes) (at : ℕ) (e : LexFault) → length text ≤ at + left → tokens_behind (drop at text) 0 at ≡ Err e → Caused text at e
tokens_behind-refused zero text at e few read = end-accepted text at e (omega arith) read
tokens_behind-refused (suc left) text at e few read =
    ⊎_elim (λ inside. piece-refused text at e (piece_of (drop at text)) (λ to d later fits rest. tokens_behind-refused left text to d (omega arith) rest) inside refl read)
    (λ past. end-accepted text at e past read) (cases_lt at (length text))

whole : (text : Bytes) (e : LexFault) → length text ≤ 65536 → Caused text 0 e → IsReading text (Err e)
whole text TooLong few c = absurd c.here
whole text (BadByte place) few c = let f = c.front in let h = c.here in (few, (f.tokens, f.are), h.0, h.1, h.2)
whole text (NumberWide place) few c = let f = c.front in (few, (f.tokens, f.are), c.here)
whole text Memory few c = c.here

-- a refusal has its cause
pub tokens_of-refused : (text : Bytes) (e : LexFault) → tokens_of text ≡ Err e → IsReading text (Err e)
unfolding tokens_of
tokens_of-refused text e read =
    cond_both (nat_lt 65536 (length text)) (Err TooLong) (tokens_behind text 0 0) (λ r. r ≡ Err e → IsReading text (Err e))
    (λ long is. let same : TooLong ≡ e = cc in subst (λ (d : LexFault). IsReading text (Err d)) same (ltb-true 65536 (length text) long))
    (λ short is. whole text e (ltb-false 65536 (length text) short) (tokens_behind-refused (length text) text 0 e (omega arith) is)) read

cause_from_reading : (text : Bytes) (e : LexFault) → IsReading text (Err e) → IsCause text e
cause_from_reading text TooLong is = is
cause_from_reading text (BadByte place) is = is
cause_from_reading text (NumberWide place) is = is
cause_from_reading text Memory is = tt

pub cause_of-refused : (text : Bytes) (e : LexFault) → tokens_of text ≡ Err e → IsCause text e
cause_of-refused text e read = cause_from_reading text e (tokens_of-refused text e read)

-- want of memory needs no cause
pub cause_from_refusal : (text : Bytes) (e : LexFault) → (e ≡ Memory) ⊎ (tokens_of text ≡ Err e) → IsCause text e
cause_from_refusal text e (inl memory) = subst (IsCause text) (sym memory) tt
cause_from_refusal text e (inr read) = cause_of-refused text e read

pub ruleset causes = (cause_of-refused, cause_from_refusal)
