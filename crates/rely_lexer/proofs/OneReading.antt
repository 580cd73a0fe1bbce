-- A text has one reading: one list of tokens, or one refusal.
use Rattle.std.proofs.Common.{◌≡◌, ℕ, zero, suc, ◌+◌, ◌-◌, ◌*◌, ◌^◌, ◌<◌, ◌≤◌, ◌==◌, nat_lt, ⊎_elim, Bool, true, false, List, [], ◌∷◌, take, drop, length, get_or, Option, Some, None, Result, Ok, Err, refl, ap, sym, ◌∙◌, subst, arith, length-drop}
use Rattle.std.specs.List.{slice_range}
use Rattle.std.proofs.lemmas.Bool.{cond_both, and_parts, and_from, eqb-true, ltb-false, false_from_ne_true, false≢true, cases_lt}
use Rattle.std.proofs.lemmas.Bool.Decides.{nat_tests}
use Rattle.std.proofs.lemmas.List.{get_or-drop}
use Rattle.rely_num.specs.Texts.{Bytes, is_digit}
use Rattle.rely_num.specs.AttoTexts.{number_of}
use Rattle.rely_num.specs.declared.op.Op.TheVariants.{Div}
use Rattle.rely_lexer.specs.declared.token.Token.{Token}
use Rattle.rely_lexer.specs.declared.token.TokenKind.{TokenKind}
use Rattle.rely_lexer.specs.declared.token.TokenKind.TheVariants.{Number, Oper}
use Rattle.rely_lexer.specs.declared.token.LexFault.{LexFault}
use Rattle.rely_lexer.specs.declared.token.LexFault.TheVariants.{TooLong, BadByte, NumberWide, Memory}
use Rattle.rely_num.specs.Ops.{op_of}
use Rattle.rely_lexer.specs.Tokens.{is_blank, begins_comment, token_at, tokens_behind, tokens_of}
use Rattle.rely_lexer.specs.Readings.{HasForm, AreDigits, IsLongest, is_gap, AreTokensFrom, AreTokensUpTo, IsReading, OneList, OneRefusal, OneReading}
use Rattle.rely_lexer.proofs.LongestLaws.{digits-first, first-same}
use Rattle.rely_lexer.proofs.GapLaws.{Begins, gap-places, gap-whole}
use Rattle.rely_lexer.proofs.KindLaws.{digit-blank, form-blank, one-kind, digits-kind}
use Rattle.rely_lexer.proofs.ReadingLaws.{tokens_of-reads}
use Rattle.rely_lexer.proofs.RefusalLaws.{tokens_of-refused}

-- ---- the first token from a place on

-- the token stands behind the place, with a gap between them
record Stands (text : Bytes) (place : ℕ) (token : Token) : Type 0 where
  after : place ≤ token.span.from
  full : token.span.from < token.span.to
  fits : token.span.to ≤ length text
  gap : is_gap false false (slice_range text place token.span.from) ≡ true
  form : HasForm token.kind (slice_range text token.span.from token.span.to)
  longest : IsLongest text token.span.from token.span.to

-- bytes at the front that are no blank, and no comment
front-begins : (rest : Bytes) → 0 < length rest → is_blank (get_or rest 0 0) ≡ false → begins_comment rest ≡ false → Begins rest
front-begins [] some blank comment = absurd (omega (arith, some))
front-begins (byte ∷ bytes) some blank comment = (blank, comment)

-- the first byte of a front
front-first : (p : ℕ → Bool) (rest : Bytes) (n : ℕ) (b : Bool) → 0 < n → p (get_or (take n rest) 0 0) ≡ b → p (get_or rest 0 0) ≡ b
front-first p rest zero b some is = absurd (omega arith)
front-first p rest (suc n) b some is = ap p (sym (first-same rest n)) ∙ is

-- where bytes have the form of a token, something begins
form-begins : (text : Bytes) (from to : ℕ) (k : TokenKind) → from < to → to ≤ length text → HasForm k (slice_range text from to) → IsLongest text from to → Begins (drop from text)
form-begins text from to k full fits form longest =
    front-begins (drop from text) (omega (arith, length-drop from text))
    (front-first is_blank (drop from text) (to - from) false (omega arith) (form-blank k (slice_range text from to) form)) longest.comment

stands-begins : (text : Bytes) (place : ℕ) (t : Token) → Stands text place t → Begins (drop t.span.from text)
stands-begins text place t s = form-begins text t.span.from t.span.to t.kind s.full s.fits s.form s.longest

same-from : (text : Bytes) (place : ℕ) (t u : Token) → Stands text place t → Stands text place u → t.span.from ≡ u.span.from
same-from text place t u s r =
    let few = gap-places text place t.span.from u.span.from s.after s.gap (stands-begins text place t s) r.gap in
    let many = gap-places text place u.span.from t.span.from r.after r.gap (stands-begins text place u r) s.gap in
    omega arith

-- tokens of one kind between the same places
same-token : (j k : TokenKind) (a b c d : ℕ) → j ≡ k → a ≡ b → c ≡ d → token_at j a c ≡ token_at k b d
same-token j k a b c d kinds froms tos = ap (λ (i : TokenKind). token_at i a c) kinds ∙ ap (λ (n : ℕ). token_at k n c) froms ∙ ap (λ (n : ℕ). token_at k b n) tos

-- two tokens from one place on
same-at : (text : Bytes) (j k : TokenKind) (from a b : ℕ) → a ≤ length text → b ≤ length text → HasForm j (slice_range text from a) → HasForm k (slice_range text from b) → IsLongest text from a →
    IsLongest text from b → (j ≡ k) × (a ≡ b)
same-at text j k from a b fits fits' form form' longest longest' =
    let few = longest'.token a j fits form in
    let many = longest.token b k fits' form' in
    let same : a ≡ b = omega arith in
    (one-kind j k (slice_range text from b) (subst (λ (n : ℕ). HasForm j (slice_range text from n)) same form) form', same)

same-first : (text : Bytes) (place : ℕ) (t u : Token) → Stands text place t → Stands text place u → t ≡ u
same-first text place t u s r =
    let from = same-from text place t u s r in
    let form = subst (λ (n : ℕ). HasForm t.kind (slice_range text n t.span.to)) from s.form in
    let longest = subst (λ (n : ℕ). IsLongest text n t.span.to) from s.longest in
    let same = same-at text t.kind u.kind u.span.from t.span.to u.span.to s.fits r.fits form r.form longest r.longest in
    same-token t.kind u.kind t.span.from u.span.from t.span.to u.span.to same.0 from same.1

-- ---- tokens up to where the text ends, or to where it is refused

-- something begins at the place that is no token
record IsStop (text : Bytes) (place : ℕ) : Type 0 where
  begins : Begins (drop place text)
  none : (end : ℕ) (k : TokenKind) → place < end → end ≤ length text → HasForm k (slice_range text place end) → IsLongest text place end → ⊥

-- a gap, and then the end or a stop
abbrev Ends : Bytes → ℕ → Option ℕ → Type 0
Ends text place None = is_gap true false (drop place text) ≡ true
Ends text place (Some at) = (place ≤ at) × (is_gap false false (slice_range text place at) ≡ true) × IsStop text at

abbrev Runs : Bytes → ℕ → List Token → Option ℕ → Type 0
Runs text place [] stop = Ends text place stop
Runs text place (token ∷ tokens) stop = Stands text place token × Runs text token.span.to tokens stop

-- no token stands where there is none
no-token : (text : Bytes) (place : ℕ) (t : Token) (stop : Option ℕ) → Ends text place stop → Stands text place t → ⊥
no-token text place t None whole s = gap-whole text place t.span.from s.after s.gap (stands-begins text place t s) whole
no-token text place t (Some at) (after, gap, stop) s =
    let few = gap-places text place at t.span.from after gap stop.begins s.gap in
    let many = gap-places text place t.span.from at s.after s.gap (stands-begins text place t s) gap in
    let same : t.span.from ≡ at = omega arith in
    stop.none t.span.to t.kind (omega (arith, s.full)) s.fits (subst (λ (n : ℕ). HasForm t.kind (slice_range text n t.span.to)) same s.form)
    (subst (λ (n : ℕ). IsLongest text n t.span.to) same s.longest)

one-end : (text : Bytes) (place : ℕ) (s r : Option ℕ) → Ends text place s → Ends text place r → s ≡ r
one-end text place None None a b = refl
one-end text place None (Some at) a b = absurd (gap-whole text place at b.0 b.1 b.2.begins a)
one-end text place (Some at) None a b = absurd (gap-whole text place at a.0 a.1 a.2.begins b)
one-end text place (Some at) (Some to) a b =
    let few = gap-places text place at to a.0 a.1 a.2.begins b.1 in
    let many = gap-places text place to at b.0 b.1 b.2.begins a.1 in
    let same : at ≡ to = omega arith in ap (λ (n : ℕ). Some n) same

both-same : (t u : Token) (ts us : List Token) → t ≡ u → ts ≡ us → t ∷ ts ≡ u ∷ us
both-same t u ts us first behind = ap (λ (x : Token). x ∷ ts) first ∙ ap (λ (xs : List Token). u ∷ xs) behind

one-run : (text : Bytes) (place : ℕ) (ts us : List Token) (s r : Option ℕ) → Runs text place ts s → Runs text place us r → (ts ≡ us) × (s ≡ r)
one-run text place [] [] s r a b = (refl, one-end text place s r a b)
one-run text place [] (u ∷ us) s r a b = absurd (no-token text place u s a b.0)
one-run text place (t ∷ ts) [] s r a b = absurd (no-token text place t r b a.0)
one-run text place (t ∷ ts) (u ∷ us) s r a b =
    let first = same-first text place t u a.0 b.0 in
    let behind = one-run text t.span.to ts us s r a.1 (subst (λ (v : Token). Runs text v.span.to us r) (sym first) b.1) in
    (both-same t u ts us first behind.0, behind.1)

-- ---- the relations

run-of_all : (text : Bytes) (place : ℕ) (tokens : List Token) → AreTokensFrom text place tokens → Runs text place tokens None
run-of_all text place [] whole = whole
run-of_all text place (t ∷ ts) (after, full, fits, gap, form, longest, more) =
    (record { after = after; full = full; fits = fits; gap = gap; form = form; longest = longest }, run-of_all text t.span.to ts more)

run-of_front : (text : Bytes) (place to : ℕ) (tokens : List Token) → AreTokensUpTo text place tokens to → IsStop text to → Runs text place tokens (Some to)
run-of_front text place to [] (after, gap) stop = (after, gap, stop)
run-of_front text place to (t ∷ ts) (after, full, fits, gap, form, longest, more) stop =
    (record { after = after; full = full; fits = fits; gap = gap; form = form; longest = longest }, run-of_front text t.span.to to ts more stop)

pub one-list : OneList
one-list text place tokens others a b = (one-run text place tokens others None None (run-of_all text place tokens a) (run-of_all text place others b)).0

-- ---- refusals

-- one slash is an operator
slash-form : (rest : Bytes) → begins_comment rest ≡ true → HasForm (Oper Div) (take 1 rest)
unfolding op_of
slash-form [] comment = absurd (false≢true comment)
slash-form (byte ∷ bytes) comment =
    let e = eqb-true byte 47 (and_parts (byte == 47) (get_or bytes 0 0 == 47) comment).0 in
    subst (λ (b : ℕ). op_of (b ∷ []) ≡ Some Div) (sym e) refl

-- one digit is a number
digit-form : (rest : Bytes) → is_digit (get_or rest 0 0) ≡ true → HasForm (Number (number_of (take 1 rest))) (take 1 rest)
digit-form [] digit = absurd (false≢true digit)
digit-form (byte ∷ bytes) digit =
    let few : byte ≤ 57 = grind (arith, nat_tests) in
    let small : 10 * 0 + (byte - 48) < 2 ^ 63 = omega arith in
    ((omega arith, and_from (is_digit byte) true digit refl), refl, small)

-- a byte that begins no token
record IsBad (text : Bytes) (place : ℕ) : Type 0 where
  inside : place < length text
  blank : is_blank (get_or text place 0) ≡ false
  none : (end : ℕ) (k : TokenKind) → place < end → end ≤ length text → HasForm k (slice_range text place end) → ⊥

-- nor one byte alone
bad-one : (text : Bytes) (place : ℕ) (k : TokenKind) → IsBad text place → HasForm k (take 1 (drop place text)) → ⊥
bad-one text place k bad form =
    let one : place + 1 - place ≡ 1 = omega arith in
    let inside = bad.inside in
    bad.none (place + 1) k (omega arith) (omega arith) (subst (λ (n : ℕ). HasForm k (take n (drop place text))) (sym one) form)

-- a byte at a place is the first from there on
first-there : (p : ℕ → Bool) (text : Bytes) (place : ℕ) (b : Bool) → p (get_or text place 0) ≡ b → p (get_or (drop place text) 0 0) ≡ b
first-there p text place b is = let here : place + 0 ≡ place = omega arith in ap p (get_or-drop place text 0 0 ∙ ap (λ (i : ℕ). get_or text i 0) here) ∙ is

bad-stop : (text : Bytes) (place : ℕ) → IsBad text place → IsStop text place
bad-stop text place bad =
    let rest = drop place text in
    let inside = bad.inside in
    record {
      begins =
          front-begins rest (omega (arith, length-drop place text)) (first-there is_blank text place false bad.blank)
          (false_from_ne_true (begins_comment rest) (λ comment. bad-one text place (Oper Div) bad (slash-form rest comment)));
      none = λ end k after few form longest. bad.none end k after few form;
    }

-- digits of a number that is too wide
record IsWide (text : Bytes) (place : ℕ) : Type 0 where
  end : ℕ
  after : place < end
  fits : end ≤ length text
  digits : AreDigits (slice_range text place end)
  wide : 2 ^ 63 ≤ number_of (slice_range text place end)
  longest : IsLongest text place end

wide-first : (text : Bytes) (place : ℕ) → IsWide text place → is_digit (get_or (drop place text) 0 0) ≡ true
wide-first text place w =
    let after = w.after in
    front-first is_digit (drop place text) (w.end - place) true (omega arith) (digits-first (slice_range text place w.end) w.digits)

wide-stop : (text : Bytes) (place : ℕ) → IsWide text place → IsStop text place
wide-stop text place w =
    let after = w.after in
    let fits = w.fits in
    record {
      begins = front-begins (drop place text) (omega (arith, length-drop place text)) (digit-blank (get_or (drop place text) 0 0) (wide-first text place w)) w.longest.comment;
      none = λ end k from few form longest.
          let short = w.longest.token end k few form in
          let long = longest.digits w.end fits w.digits in
          let same : w.end ≡ end = omega arith in
          let small = digits-kind k (slice_range text place end) (subst (λ (n : ℕ). AreDigits (slice_range text place n)) same w.digits) form in
          let large = subst (λ (n : ℕ). 2 ^ 63 ≤ number_of (slice_range text place n)) same w.wide in
          absurd (omega (arith, small, large));
    }

-- digits are no byte that begins no token
bad-or-wide : (text : Bytes) (place : ℕ) → IsBad text place → IsWide text place → ⊥
bad-or-wide text place bad w = bad-one text place (Number (number_of (take 1 (drop place text)))) bad (digit-form (drop place text) (wide-first text place w))

-- ---- readings

-- a reading of a text that isn't too long: its tokens, and where it stops and why
abbrev Stop : Bytes → Result (List Token) LexFault → List Token → Option ℕ → Type 0
Stop text (Ok found) tokens stop = (found ≡ tokens) × (stop ≡ None)
Stop text (Err TooLong) tokens stop = ⊥
Stop text (Err (BadByte place)) tokens stop = (stop ≡ Some place) × IsBad text place
Stop text (Err (NumberWide place)) tokens stop = (stop ≡ Some place) × IsWide text place
Stop text (Err Memory) tokens stop = ⊥

record Read (text : Bytes) (r : Result (List Token) LexFault) : Type 0 where
  tokens : List Token
  stop : Option ℕ
  runs : Runs text 0 tokens stop
  stops : Stop text r tokens stop

read : (text : Bytes) (r : Result (List Token) LexFault) → length text ≤ 65536 → IsReading text r → Read text r
read text (Ok found) few (short, are) = record { tokens = found; stop = None; runs = run-of_all text 0 found are; stops = (refl, refl) }
read text (Err TooLong) few long = absurd (omega arith)
read text (Err (BadByte place)) few (short, (tokens, are), inside, blank, none) =
    let bad : IsBad text place = record { inside = inside; blank = blank; none = none } in
    record { tokens = tokens; stop = Some place; runs = run-of_front text 0 place tokens are (bad-stop text place bad); stops = (refl, bad) }
read text (Err (NumberWide place)) few (short, (tokens, are), (end, after, fits, digits, wide, longest)) =
    let w : IsWide text place = record { end = end; after = after; fits = fits; digits = digits; wide = wide; longest = longest } in
    record { tokens = tokens; stop = Some place; runs = run-of_front text 0 place tokens are (wide-stop text place w); stops = (refl, w) }
read text (Err Memory) few is = absurd is

-- readings with the same tokens and the same stop
same-stop : (text : Bytes) (r q : Result (List Token) LexFault) (ts us : List Token) (s p : Option ℕ) → ts ≡ us → s ≡ p → Stop text r ts s → Stop text q us p → r ≡ q
same-stop text (Ok a) (Ok b) ts us s p tokens stops x y = ap (λ (l : List Token). Ok l) (x.0 ∙ tokens ∙ sym y.0)
same-stop text (Ok a) (Err (BadByte n)) ts us s p tokens stops x y = let e : None ≡ Some n = sym x.1 ∙ stops ∙ y.0 in absurd (cc)
same-stop text (Ok a) (Err (NumberWide n)) ts us s p tokens stops x y = let e : None ≡ Some n = sym x.1 ∙ stops ∙ y.0 in absurd (cc)
same-stop text (Err (BadByte m)) (Ok b) ts us s p tokens stops x y = let e : Some m ≡ None = sym x.0 ∙ stops ∙ y.1 in absurd (cc)
same-stop text (Err (NumberWide m)) (Ok b) ts us s p tokens stops x y = let e : Some m ≡ None = sym x.0 ∙ stops ∙ y.1 in absurd (cc)
same-stop text (Err (BadByte m)) (Err (BadByte n)) ts us s p tokens stops x y =
    let e : Some m ≡ Some n = sym x.0 ∙ stops ∙ y.0 in let same : m ≡ n = cc in ap (λ (k : ℕ). Err (BadByte k)) same
same-stop text (Err (NumberWide m)) (Err (NumberWide n)) ts us s p tokens stops x y =
    let e : Some m ≡ Some n = sym x.0 ∙ stops ∙ y.0 in let same : m ≡ n = cc in ap (λ (k : ℕ). Err (NumberWide k)) same
same-stop text (Err (BadByte m)) (Err (NumberWide n)) ts us s p tokens stops x y =
    let e : Some m ≡ Some n = sym x.0 ∙ stops ∙ y.0 in let same : m ≡ n = cc in absurd (bad-or-wide text n (subst (IsBad text) same x.1) y.1)
same-stop text (Err (NumberWide m)) (Err (BadByte n)) ts us s p tokens stops x y =
    let e : Some m ≡ Some n = sym x.0 ∙ stops ∙ y.0 in let same : m ≡ n = cc in absurd (bad-or-wide text n y.1 (subst (IsWide text) same x.1))
same-stop text (Ok a) (Err TooLong) ts us s p tokens stops x y = absurd y
same-stop text (Ok a) (Err Memory) ts us s p tokens stops x y = absurd y
same-stop text (Err (BadByte m)) (Err TooLong) ts us s p tokens stops x y = absurd y
same-stop text (Err (BadByte m)) (Err Memory) ts us s p tokens stops x y = absurd y
same-stop text (Err (NumberWide m)) (Err TooLong) ts us s p tokens stops x y = absurd y
same-stop text (Err (NumberWide m)) (Err Memory) ts us s p tokens stops x y = absurd y
same-stop text (Err TooLong) q ts us s p tokens stops x y = absurd x
same-stop text (Err Memory) q ts us s p tokens stops x y = absurd x

one-short : (text : Bytes) (r q : Result (List Token) LexFault) → length text ≤ 65536 → IsReading text r → IsReading text q → r ≡ q
one-short text r q few a b =
    let x = read text r few a in
    let y = read text q few b in
    let same = one-run text 0 x.tokens y.tokens x.stop y.stop x.runs y.runs in
    same-stop text r q x.tokens y.tokens x.stop y.stop same.0 same.1 x.stops y.stops

-- a text that is too long is refused for that
one-long : (text : Bytes) (r : Result (List Token) LexFault) → 65536 < length text → IsReading text r → r ≡ Err TooLong
one-long text (Ok found) long is = absurd (omega (arith, is.0))
one-long text (Err TooLong) long is = refl
one-long text (Err (BadByte place)) long is = absurd (omega (arith, is.0))
one-long text (Err (NumberWide place)) long is = absurd (omega (arith, is.0))
one-long text (Err Memory) long is = absurd is

one-reading : (text : Bytes) (r q : Result (List Token) LexFault) → IsReading text r → IsReading text q → r ≡ q
one-reading text r q a b =
    ⊎_elim (λ long. one-long text r long a ∙ sym (one-long text q long b)) (λ few. one-short text r q few a b) (cases_lt 65536 (length text))

-- tokens are found in no text that is too long
short : (text : Bytes) (tokens : List Token) → tokens_of text ≡ Ok tokens → length text ≤ 65536
unfolding tokens_of
short text tokens found =
    cond_both (nat_lt 65536 (length text)) (Err TooLong) (tokens_behind text 0 0) (λ r. r ≡ Ok tokens → length text ≤ 65536) (λ _ e. absurd (cc)) (λ few _. ltb-false 65536 (length text) few) found

found-reading : (text : Bytes) (r : Result (List Token) LexFault) → tokens_of text ≡ r → IsReading text r
found-reading text (Ok tokens) found = (short text tokens found, tokens_of-reads text tokens found)
found-reading text (Err e) found = tokens_of-refused text e found

pub one-refusal : OneRefusal
one-refusal text d e a b = let same = one-reading text (Err d) (Err e) a b in cc

pub reading : OneReading
reading text r = (λ is. one-reading text r (tokens_of text) is (found-reading text (tokens_of text) refl), λ e. subst (IsReading text) (sym e) (found-reading text (tokens_of text) refl))

pub ruleset laws = (one-list, one-refusal, reading)
