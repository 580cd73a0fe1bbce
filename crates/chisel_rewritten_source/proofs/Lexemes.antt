-- What the tokens of a rewritten text say.
use Rattle.std.proofs.Common.{◌≡◌, ℕ, suc, ◌+◌, ◌-◌, ◌<◌, ◌≤◌, ◌==◌, inl, inr, Bool, true, false, cond, List, [], ◌∷◌, ◌++◌, take, drop, length, map, codes, refl, ap, sym, ◌∙◌, arith, append_assoc, length-append, length-drop, length-take}
use Rattle.std.specs.List.{AllByRecursion, slice_range}
use Rattle.std.proofs.lemmas.Bool.{both_ways, eqb-true, eq-eqb}
use Rattle.std.proofs.lemmas.List.{drop-drop, map-append, take-append-drop}
use Rattle.rely_num.specs.OpenMarks.{AreOpenMarksFrom}
use Rattle.rely_num.specs.Texts.{Bytes}
use Rattle.rely_hard.specs.declared.hardware.Hardware.{Hardware}
use Rattle.rely_lexer.specs.Readings.{AreTokensFrom}
use Rattle.rely_lexer.specs.declared.token.Token.{Token}
use Rattle.rely_lexer.specs.declared.token.TokenKind.TheVariants as kind
use Rattle.chisel_rewrite.specs.Namings.{mark_of, namings}
use Rattle.chisel_rewrite.specs.Texts.{name_of, named, text_of}
use Rattle.chisel_rewrite.specs.declared.naming.Naming.{Naming}
use Rattle.chisel_rewrite.specs.declared.naming.Naming.TheVariants.{Kind, Memory}
use Rattle.chisel_rewrite.proofs.Pieces.{mark_within}
use Rattle.chisel_rewritten_source.specs.Lexemes.{Lexeme, LexemesAsNamed, lexeme_of, lexemes, named_lexemes, naming_lexemes}
use Rattle.chisel_rewritten_source.specs.Tokens.{moved, named_tokens, naming_tokens}
use Rattle.chisel_rewritten_source.proofs.Cuts.{Begins}
use Rattle.chisel_rewritten_source.proofs.Fronts.{drop_within, take_within}
use Rattle.chisel_rewritten_source.proofs.Reread.{all_after, all_begin, text_some}

-- ---- slices

drop_past : (front rest : Bytes) (n : ℕ) → drop (length front + n) (front ++ rest) ≡ drop n rest
drop_past [] rest n = ap (λ m. drop m rest) (omega arith)
drop_past (x ∷ front) rest n = ap (λ m. drop m (x ∷ front ++ rest)) (suc_plus (length front) n) ∙ drop_past front rest n
  where
    suc_plus : (m n : ℕ) → suc m + n ≡ suc (m + n)
    suc_plus m n = omega arith

-- what stands between places behind a front
slice_past : (front rest : Bytes) (at to n m : ℕ) → at ≡ length front + n → to ≡ length front + m → slice_range (front ++ rest) at to ≡ slice_range rest n m
slice_past front rest at to n m from end =
    ap (λ i. take (to - at) (drop i (front ++ rest))) from ∙ (ap (take (to - at)) (drop_past front rest n) ∙ ap (λ i. take i (drop n rest)) (omega (arith, from, end)))

slice_dropped : (text : Bytes) (place from to : ℕ) → place ≤ from → slice_range (drop place text) (from - place) (to - place) ≡ slice_range text from to
slice_dropped text place from to behind =
    ap (take (to - place - (from - place))) (drop-drop (from - place) place text)
    ∙ (ap (λ i. take (to - place - (from - place)) (drop i text)) (omega (arith, behind)) ∙ ap (λ i. take i (drop from text)) (omega (arith, behind)))

-- between places before a front's end nothing behind it shows
slice_within : (front rest others : Bytes) (from to : ℕ) → from ≤ to → to ≤ length front → slice_range (front ++ rest) from to ≡ slice_range (front ++ others) from to
slice_within front rest others from to full within =
    ap (take (to - from)) (drop_within front rest from (omega (arith, full, within)))
    ∙ (take_within (drop from front) rest others (to - from) (omega (arith, within, length-drop from front))
    ∙ ap (take (to - from)) (sym (drop_within front others from (omega (arith, full, within)))))

slice_front : (text rest : Bytes) (front from to : ℕ) → from ≤ to → to ≤ front → front ≤ length text → slice_range (take front text ++ rest) from to ≡ slice_range text from to
slice_front text rest front from to full before within =
    slice_within (take front text) rest (drop front text) from to full (omega (arith, before, within, length-take front text))
    ∙ ap (λ (bs : Bytes). slice_range bs from to) (take-append-drop front text)

take_name : (name rest : Bytes) → take (length name) (name ++ rest) ≡ name
take_name [] rest = refl
take_name (x ∷ name) rest = ap (λ (bs : Bytes). x ∷ bs) (take_name name rest)

-- ---- the names

same_lexeme : (text : Bytes) (t : Token) (l : Lexeme) → t.kind ≡ l.kind → slice_range text t.span.from t.span.to ≡ l.bytes → lexeme_of text t ≡ l
same_lexeme text t l kinds bytes = ap (λ k. record { kind = k; bytes = slice_range text t.span.from t.span.to }) kinds ∙ ap (λ (bs : Bytes). record { kind = l.kind; bytes = bs }) bytes

naming_says : (h : Hardware) (front rest : Bytes) (at : ℕ) (n : Naming) → at ≡ length front → lexemes (front ++ (text_of h n ++ rest)) (naming_tokens h at n) ≡ naming_lexemes h n
naming_says h front rest at (Kind mark op option) here =
    let n = Kind mark op option in
    let name = name_of h n in
    let text = front ++ (text_of h n ++ rest) in
    let point : slice_range text at (at + 1) ≡ codes "." = slice_past front (text_of h n ++ rest) at (at + 1) 0 1 (omega (arith, here)) (omega (arith, here)) in
    let said : slice_range text (at + 1) (at + 1 + length name) ≡ name =
    slice_past front (text_of h n ++ rest) (at + 1) (at + 1 + length name) 1 (1 + length name) (omega (arith, here)) (omega (arith, here))
    ∙ (ap (λ i. take i (name ++ 32 ∷ [] ++ rest)) (omega arith) ∙ (ap (take (length name)) (append_assoc name (32 ∷ []) rest) ∙ take_name name (32 ∷ rest))) in
    ap (λ (bs : Bytes). record { kind = kind.Mark 46; bytes = bs } ∷ record { kind = kind.Name; bytes = slice_range text (at + 1) (at + 1 + length name) } ∷ []) point
    ∙ ap (λ (bs : Bytes). record { kind = kind.Mark 46; bytes = codes "." } ∷ record { kind = kind.Name; bytes = bs } ∷ []) said
naming_says h front rest at (Memory mark option) here =
    let n = Memory mark option in
    let name = name_of h n in
    let text = front ++ (text_of h n ++ rest) in
    let said : slice_range text (at + 1) (at + 1 + length name) ≡ name =
    slice_past front (text_of h n ++ rest) (at + 1) (at + 1 + length name) 1 (1 + length name) (omega (arith, here)) (omega (arith, here))
    ∙ (ap (λ i. take i (name ++ [] ++ rest)) (omega arith) ∙ (ap (take (length name)) (append_assoc name [] rest) ∙ take_name name rest)) in
    ap (λ (bs : Bytes). record { kind = kind.Name; bytes = bs } ∷ []) said

-- ---- tokens in order

begins_from : (text : Bytes) (place : ℕ) (ts : List Token) (at : ℕ) → AreTokensFrom text place ts → Begins ts at → place ≤ at
begins_from text place [] at are has = absurd has
begins_from text place (t ∷ ts) at (after, full, fits, gap, form, longest, more) (inl here) = omega (arith, after, here)
begins_from text place (t ∷ ts) at (after, full, fits, gap, form, longest, more) (inr there) =
    let later = begins_from text t.span.to ts at more there in omega (arith, after, full, later)

-- behind all marks
rest_says : (text new front : Bytes) (place by at : ℕ) (ts : List Token) → new ≡ front ++ drop place text → length front ≡ place + by → place ≤ at → AreTokensFrom text at ts
    → lexemes new (map (moved by) ts) ≡ lexemes text ts
rest_says text new front place by at [] is long behind are = refl
rest_says text new front place by at (t ∷ ts) is long behind (after, full, fits, gap, form, longest, more) =
    let said : slice_range new (t.span.from + by) (t.span.to + by) ≡ slice_range text t.span.from t.span.to =
    ap (λ (bs : Bytes). slice_range bs (t.span.from + by) (t.span.to + by)) is
    ∙ (slice_past front (drop place text) (t.span.from + by) (t.span.to + by) (t.span.from - place) (t.span.to - place) (omega (arith, long, behind, after)) (omega (arith, long, behind, after, full))
    ∙ slice_dropped text place t.span.from t.span.to (omega (arith, behind, after))) in
    ap (λ l. l ∷ lexemes new (map (moved by) ts)) (same_lexeme new (moved by t) (lexeme_of text t) refl said)
    ∙ ap (λ ls. lexeme_of text t ∷ ls) (rest_says text new front place by t.span.to ts is long (omega (arith, behind, after, full)) more)

-- a token before the next mark
before_says : (text new front rest : Bytes) (place by from : ℕ) (t : Token) → new ≡ front ++ (slice_range text place from ++ rest) → length front ≡ place + by → place ≤ t.span.from
    → t.span.from < t.span.to → t.span.to ≤ from → from ≤ length text → lexeme_of new (moved by t) ≡ lexeme_of text t
before_says text new front rest place by from t is long behind full before within =
    let said : slice_range new (t.span.from + by) (t.span.to + by) ≡ slice_range text t.span.from t.span.to =
    ap (λ (bs : Bytes). slice_range bs (t.span.from + by) (t.span.to + by)) is
    ∙ (slice_past front (slice_range text place from ++ rest) (t.span.from + by) (t.span.to + by) (t.span.from - place) (t.span.to - place) (omega (arith, long, behind)) (omega (arith, long, behind, full))
    ∙ (slice_front (drop place text) rest (from - place) (t.span.from - place) (t.span.to - place) (omega (arith, full)) (omega (arith, before)) (omega (arith, within, length-drop place text))
    ∙ slice_dropped text place t.span.from t.span.to behind)) in
    same_lexeme new (moved by t) (lexeme_of text t) refl said

-- ---- the law

module _ (h : Hardware) (text new : Bytes) where
  from_place : (ns : List Naming) (ts : List Token) (front : Bytes) (place by at : ℕ) → new ≡ front ++ named h text place ns → length front ≡ place + by → place ≤ at
      → AreOpenMarksFrom text place (map mark_of ns) → AllByRecursion (λ n. Begins ts (mark_of n).from) ns → AreTokensFrom text at ts
      → lexemes new (named_tokens h by ns ts) ≡ named_lexemes h text ns ts
  from_place [] ts front place by at is long behind marks begins are = rest_says text new front place by at ts is long behind are
  from_place (n ∷ ns) [] front place by at is long behind marks begins are = refl
  from_place (n ∷ ns) (t ∷ ts) front place by at is long behind marks begins are =
      let mark = mark_of n in
      let piece = slice_range text place mark.from in
      let more = length (text_of h n) - 1 in
      let one = marks.1.one_byte in
      let within = mark_within text mark.from mark.to marks.1.byte in
      let full = text_some h n in
      let pieces = length-append front piece in
      let names = length-append (front ++ piece) (text_of h n) in
      let taken : length piece ≡ mark.from - place = omega (arith, marks.0, within, length-take (mark.from - place) (drop place text), length-drop place text) in
      let here : new ≡ (front ++ piece) ++ (text_of h n ++ named h text mark.to ns) = is ∙ sym (append_assoc front piece (text_of h n ++ named h text mark.to ns)) in
      let past : new ≡ ((front ++ piece) ++ text_of h n) ++ named h text mark.to ns = here ∙ sym (append_assoc (front ++ piece) (text_of h n) (named h text mark.to ns)) in
      one_token (t.span.from == mark.from) refl
      (λ same.
      let e = eqb-true t.span.from mark.from same in
      let said = ap (λ (bs : Bytes). lexemes bs (naming_tokens h (t.span.from + by) n)) here
      ∙ naming_says h (front ++ piece) (named h text mark.to ns) (t.span.from + by) n (omega (arith, e, long, pieces, taken, marks.0)) in
      let later = from_place ns ts ((front ++ piece) ++ text_of h n) mark.to (by + more) t.span.to past (omega (arith, names, pieces, taken, long, one, full, marks.0)) (omega (arith, e, one, are.1)) marks.2
      (all_after text [] ts t t.span.from mark.to ns refl tt (omega (arith, e, one)) marks.2 begins.1) are.6 in
      map-append (lexeme_of new) (naming_tokens h (t.span.from + by) n) (named_tokens h (by + more) ns ts)
      ∙ (ap (λ ls. ls ++ lexemes new (named_tokens h (by + more) ns ts)) said ∙ ap (λ ls. naming_lexemes h n ++ ls) later))
      (λ differs.
      let there = next t ts mark.from differs begins.0 in
      let far = begins_from text t.span.to ts mark.from are.6 there in
      let said = before_says text new front (text_of h n ++ named h text mark.to ns) place by mark.from t is long (omega (arith, behind, are.0)) are.1 far (omega (arith, within)) in
      let later = from_place (n ∷ ns) ts front place by t.span.to is long (omega (arith, behind, are.0, are.1)) marks
      (there, all_after text [] ts t t.span.from mark.to ns refl tt (omega (arith, far, one, are.1)) marks.2 begins.1) are.6 in
      ap (λ l. l ∷ lexemes new (named_tokens h by (n ∷ ns) ts)) said ∙ ap (λ ls. lexeme_of text t ∷ ls) later)
    where
      one_token : (same : Bool) → (t.span.from == (mark_of n).from) ≡ same
          → ((t.span.from == (mark_of n).from) ≡ true → lexemes new (naming_tokens h (t.span.from + by) n ++ named_tokens h (by + (length (text_of h n) - 1)) ns ts) ≡ naming_lexemes h n ++ named_lexemes h text ns ts)
          → ((t.span.from == (mark_of n).from) ≡ false → lexeme_of new (moved by t) ∷ lexemes new (named_tokens h by (n ∷ ns) ts) ≡ lexeme_of text t ∷ named_lexemes h text (n ∷ ns) ts)
          → lexemes new (cond same (naming_tokens h (t.span.from + by) n ++ named_tokens h (by + (length (text_of h n) - 1)) ns ts) (moved by t ∷ named_tokens h by (n ∷ ns) ts))
          ≡ cond same (naming_lexemes h n ++ named_lexemes h text ns ts) (lexeme_of text t ∷ named_lexemes h text (n ∷ ns) ts)
      one_token true is equal differs = equal is
      one_token false is equal differs = differs is

      next : (t : Token) (ts : List Token) (at : ℕ) → (t.span.from == at) ≡ false → Begins (t ∷ ts) at → Begins ts at
      next t ts at differs (inl here) = absurd (both_ways (t.span.from == at) differs (eq-eqb t.span.from at here))
      next t ts at differs (inr there) = there

pub lexemes_as_named : LexemesAsNamed
lexemes_as_named text tokens k h choice is marks are =
    let ns = namings k choice in
    from_place h text (named h text 0 ns) ns tokens [] 0 0 0 refl (omega arith) (omega arith) marks.marks (all_begin tokens ns marks.are_tokens) are
