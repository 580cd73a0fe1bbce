-- The tokens of the rewritten text one by one: what becomes of each, wherever the marks stand.
use Rattle.std.proofs.Common.{◌≡◌, ℕ, zero, suc, ◌+◌, ◌-◌, ◌<◌, ◌≤◌, ◌==◌, ◌||◌, ◌⊎◌, inl, inr, Bool, true, false, cond, List, [], ◌∷◌, ◌++◌, map, flat_map, drop, length, Some, None, refl, ap, sym, ◌∙◌, subst, arith, nat_lt}
use Rattle.std.specs.Prelude.{Contains}
use Rattle.std.specs.List.{AllByRecursion, slice_range}
use Rattle.std.specs.Option.{option_map_or}
use Rattle.std.proofs.lemmas.Bool.{both_ways, eqb-true, eq-eqb, false_from_ne_true, false≢true, le-ltb, lt-ltb}
use Rattle.rely_num.specs.OpenMarks.{AreOpenMarksFrom}
use Rattle.rely_num.specs.Texts.{Bytes}
use Rattle.rely_num.specs.declared.span.Span.{Span}
use Rattle.rely_num.specs.declared.word.Word.TheVariants as word
use Rattle.rely_hard.specs.declared.hardware.Hardware.{Hardware}
use Rattle.rely_lexer.specs.Readings.{AreTokensFrom}
use Rattle.rely_lexer.specs.Tokens.{token_at}
use Rattle.rely_lexer.specs.declared.token.Token.{Token}
use Rattle.rely_lexer.specs.declared.token.TokenKind.TheVariants as kind
use Rattle.rely_parser.specs.Counts.{Counts, IsWithin, AllWithin, with_token}
use Rattle.rely_parser.specs.Productions.{Agree}
use Rattle.rely_parser.specs.State.{word_at}
use Rattle.chisel_rewrite.specs.Namings.{mark_of}
use Rattle.chisel_rewrite.specs.Texts.{name_of, text_of}
use Rattle.chisel_rewrite.specs.declared.naming.Naming.{Naming}
use Rattle.chisel_rewrite.specs.declared.naming.Naming.TheVariants.{Kind, Memory}
use Rattle.chisel_rewritten_source.specs.Lexemes.{Lexeme, lexeme_of, lexemes, named_lexemes, naming_lexemes}
use Rattle.chisel_rewritten_source.specs.Tokens.{moved, named_tokens, naming_tokens, open_token}
use Rattle.chisel_rewritten_source.specs.Trees.{added_before, naming_at}
use Rattle.chisel_rewritten_source.proofs.Carried.{AllFates, Becomes, Fate, gives_way, is_kind, is_memory, kept, named_at, none, pass, point, point_at, stays, within}

-- ---- words

-- the word of a span inside the text
word_is : (text : Bytes) (s : Span) → s.from < s.to → s.to ≤ length text → word_at text s ≡ slice_range text s.from s.to
word_is text s full inside =
    ap (λ b. cond (b || nat_lt (length text) s.to) [] (slice_range text s.from s.to)) (le-ltb s.to s.from (omega (arith, full)))
    ∙ ap (λ b. cond b [] (slice_range text s.from s.to)) (le-ltb (length text) s.to inside)

-- ---- places

-- nothing is added at a place that no mark stands before, and nothing is named there but at a mark
lt_true : (m n : ℕ) → m < n → nat_lt m n ≡ true
lt_true m n less = lt-ltb m n less

lt_false : (m n : ℕ) → n ≤ m → nat_lt m n ≡ false
lt_false m n least = le-ltb m n least

unnamed_before : (text : Bytes) (ns : List Naming) (place at : ℕ) → AreOpenMarksFrom text at (map mark_of ns) → place < at → naming_at ns place ≡ None
unnamed_before text [] place at marks before = refl
unnamed_before text (n ∷ ns) place at marks before =
    let first = marks.0 in
    let one = marks.1.one_byte in
    let other : ((mark_of n).from == place) ≡ false = false_from_ne_true _ (λ same. let e = eqb-true (mark_of n).from place same in absurd (omega (arith, e, first, before))) in
    ap (λ b. cond b (Some n) (naming_at ns place)) other ∙ unnamed_before text ns place (mark_of n).to marks.2 (omega (arith, one, first, before))

added_none : (h : Hardware) (n : Naming) (ns : List Naming) (place : ℕ) → place ≤ (mark_of n).from → added_before h (n ∷ ns) place ≡ 0
added_none h n ns place before = ap (λ b. cond b (length (text_of h n) - 1 + added_before h ns place) 0) (lt_false (mark_of n).from place before)

-- the bytes of the first of some tokens, and of the second
abbrev first_bytes : List Lexeme → Bytes
first_bytes [] = []
first_bytes (l ∷ ls) = l.bytes

abbrev second_bytes : List Lexeme → Bytes
second_bytes [] = []
second_bytes (l ∷ ls) = first_bytes ls

-- ---- marks among tokens

-- a mark stands among the tokens at that place
abbrev Opens : List Token → ℕ → Type 0
Opens [] place = ⊥
Opens (t ∷ ts) place = ((t.kind ≡ kind.Mark 63) × (t.span.from ≡ place)) ⊎ Opens ts place

opens : (ts : List Token) (mark : Span) → Contains ts (open_token mark) → Opens ts mark.from
opens [] mark (i, inside, is) = absurd (omega (arith, inside))
opens (u ∷ ts) mark (zero, inside, is) = inl (ap (λ (t : Token). t.kind) is, ap (λ (t : Token). t.span.from) is)
opens (u ∷ ts) mark (suc i, inside, is) = inr (opens ts mark (i, omega (arith, inside), is))

pub all_open : (ts : List Token) (ns : List Naming) → AllByRecursion (λ n. Contains ts (open_token (mark_of n))) ns → AllByRecursion (λ n. Opens ts (mark_of n).from) ns
all_open ts [] all = tt
all_open ts (n ∷ ns) all = (opens ts (mark_of n) all.0, all_open ts ns all.1)

opens_behind : (text : Bytes) (place : ℕ) (ts : List Token) (at : ℕ) → AreTokensFrom text place ts → Opens ts at → place ≤ at
opens_behind text place [] at are has = absurd has
opens_behind text place (t ∷ ts) at (after, full, fits, gap, form, longest, more) (inl here) = let is = here.1 in omega (arith, after, is)
opens_behind text place (t ∷ ts) at (after, full, fits, gap, form, longest, more) (inr there) =
    let later = opens_behind text t.span.to ts at more there in omega (arith, after, full, later)

-- a mark where the first token begins is that token
mark_sort : (text : Bytes) (place : ℕ) (t : Token) (ts : List Token) (at : ℕ) → AreTokensFrom text place (t ∷ ts) → t.span.from ≡ at → Opens (t ∷ ts) at → t.kind ≡ kind.Mark 63
mark_sort text place t ts at are is (inl here) = here.0
mark_sort text place t ts at (after, full, fits, gap, form, longest, more) is (inr there) =
    let later = opens_behind text t.span.to ts at more there in absurd (omega (arith, is, full, later))

-- one elsewhere is behind it
opens_next : (t : Token) (ts : List Token) (at : ℕ) → (t.span.from ≡ at → ⊥) → Opens (t ∷ ts) at → Opens ts at
opens_next t ts at other (inl here) = absurd (other here.1)
opens_next t ts at other (inr there) = there

all_next : (text : Bytes) (t : Token) (ts : List Token) (ns : List Naming) (at : ℕ) → AreOpenMarksFrom text at (map mark_of ns) → t.span.from < at → AllByRecursion (λ n. Opens (t ∷ ts) (mark_of n).from) ns
    → AllByRecursion (λ n. Opens ts (mark_of n).from) ns
all_next text t ts [] at marks before all = tt
all_next text t ts (n ∷ ns) at marks before all =
    let first = marks.0 in
    let one = marks.1.one_byte in (
      opens_next t ts (mark_of n).from (λ same. absurd (omega (arith, same, first, before))) all.0,
      all_next text t ts ns (mark_of n).to marks.2 (omega (arith, first, before, one)) all.1,
    )

by_test : {P : Type 0} (b : Bool) → (b ≡ true → P) → (b ≡ false → P) → P
by_test true holds fails = holds refl
by_test false holds fails = fails refl

module _ (h : Hardware) (text new : Bytes) (all : List Naming) (old : Span → Bytes) where
  -- what a token becomes
  abbrev pub becoming : Token → List Token
  becoming t = option_map_or (λ n. naming_tokens h (t.span.from + added_before h all t.span.from) n) (naming_at all t.span.from) (kept h all t ∷ [])

  -- what is added before a token, and what it is named with, once so many bytes are added and these marks are left
  abbrev Fresh : ℕ → List Naming → Token → Type 0
  Fresh by ns t = (added_before h all t.span.from ≡ by + added_before h ns t.span.from) × (naming_at all t.span.from ≡ naming_at ns t.span.from)

  fresh_behind : (n : Naming) (ns : List Naming) (by at : ℕ) (ts : List Token) → (mark_of n).from < at → AreTokensFrom text at ts → AllByRecursion (Fresh by (n ∷ ns)) ts
      → AllByRecursion (Fresh (by + (length (text_of h n) - 1)) ns) ts
  fresh_behind n ns by at [] behind are fresh = tt
  fresh_behind n ns by at (t ∷ ts) behind (after, full, fits, gap, form, longest, more) fresh =
      let past : nat_lt (mark_of n).from t.span.from ≡ true = lt_true (mark_of n).from t.span.from (omega (arith, behind, after)) in
      let other : ((mark_of n).from == t.span.from) ≡ false = false_from_ne_true _ (λ same. let e = eqb-true (mark_of n).from t.span.from same in absurd (omega (arith, e, behind, after))) in
      let sum = fresh.0.0 ∙ ap (λ b. by + cond b (length (text_of h n) - 1 + added_before h ns t.span.from) 0) past in (
        (sum ∙ omega arith, fresh.0.1 ∙ ap (λ b. cond b (Some n) (naming_at ns t.span.from)) other),
        fresh_behind n ns by t.span.to ts (omega (arith, behind, after, full)) more fresh.1,
      )

  pub all_fresh : (ts : List Token) → AllByRecursion (Fresh 0 all) ts
  all_fresh [] = tt
  all_fresh (t ∷ ts) = ((omega arith, refl), all_fresh ts)

  pub record Passed (by : ℕ) (ns : List Naming) (ts : List Token) : Type 0 where
    pub fates : AllFates h all old (word_at new) ts
    pub tokens : named_tokens h by ns ts ≡ flat_map becoming ts

  -- a token that is kept
  stay : (t : Token) (by : ℕ) (ls ms : List Lexeme) → added_before h all t.span.from ≡ by → naming_at all t.span.from ≡ None → t.span.from < t.span.to → t.span.to ≤ length text
      → word_at text t.span ≡ old t.span → t.span.to + by ≤ length new → lexeme_of new (moved by t) ∷ ls ≡ lexeme_of text t ∷ ms → Fate h all old (word_at new) t
  stay t by ls ms added unnamed full fits agree inside same =
      stays unnamed
      (ap (λ n. word_at new (record { from = t.span.from + n; to = t.span.to + n })) added
      ∙ (word_is new (record { from = t.span.from + by; to = t.span.to + by }) (omega (arith, full)) inside
      ∙ (ap first_bytes same ∙ (sym (word_is text t.span full fits) ∙ agree))))

  kept_is : (t : Token) (by : ℕ) (us : List Token) (ts : List Token) → added_before h all t.span.from ≡ by → naming_at all t.span.from ≡ None → us ≡ flat_map becoming ts
      → moved by t ∷ us ≡ flat_map becoming (t ∷ ts)
  kept_is t by us ts added unnamed rest =
      ap (λ us. moved by t ∷ us) rest
      ∙ (ap (λ n. token_at t.kind (t.span.from + n) (t.span.to + n) ∷ flat_map becoming ts) (sym added)
      ∙ ap (λ o. option_map_or (λ n. naming_tokens h (t.span.from + added_before h all t.span.from) n) o (kept h all t ∷ []) ++ flat_map becoming ts) (sym unnamed))

  -- a mark that is named
  give : (t : Token) (n : Naming) (place : ℕ) (us : List Token) (ls : List Lexeme) (at : ℕ) → t.kind ≡ kind.Mark 63 → naming_at all t.span.from ≡ Some n → place ≡ t.span.from + added_before h all t.span.from
      → AreTokensFrom new at (naming_tokens h place n ++ us) → lexemes new (naming_tokens h place n ++ us) ≡ naming_lexemes h n ++ ls → Fate h all old (word_at new) t
  give t (Kind m op option) place us ls at sort named here are same =
      let n = Kind m op option in
      let point = are.6 in
      let said : slice_range new (place + 1) (place + 1 + length (name_of h n)) ≡ name_of h n =
      ap second_bytes same in
      gives_way n sort named
      (ap (λ p. word_at new (record { from = p + 1; to = p + 1 + length (name_of h n) })) (sym here)
      ∙ (word_is new (record { from = place + 1; to = place + 1 + length (name_of h n) }) point.1 point.2 ∙ said))
  give t (Memory m option) place us ls at sort named here are same =
      let n = Memory m option in
      let said : slice_range new (place + 1) (place + 1 + length (name_of h n)) ≡ name_of h n =
      ap first_bytes same in
      gives_way n sort named
      (ap (λ p. word_at new (record { from = p + 1; to = p + 1 + length (name_of h n) })) (sym here)
      ∙ (word_is new (record { from = place + 1; to = place + 1 + length (name_of h n) }) are.1 are.2 ∙ said))

  -- what is behind the tokens of a naming
  behind_naming : (n : Naming) (place at : ℕ) (us : List Token) → AreTokensFrom new at (naming_tokens h place n ++ us) → AreTokensFrom new (place + 1 + length (name_of h n)) us
  behind_naming (Kind m op option) place at us are = are.6.6
  behind_naming (Memory m option) place at us are = are.6

  lexemes_behind : (n : Naming) (place : ℕ) (us : List Token) (ls : List Lexeme) → lexemes new (naming_tokens h place n ++ us) ≡ naming_lexemes h n ++ ls → lexemes new us ≡ ls
  lexemes_behind (Kind m op option) place us ls same = ap (drop 2) same
  lexemes_behind (Memory m option) place us ls same = ap (drop 1) same

  pub from_place : (ns : List Naming) (by at place start : ℕ) (ts : List Token) → AreOpenMarksFrom text start (map mark_of ns) → AllByRecursion (λ n. Opens ts (mark_of n).from) ns
      → AreTokensFrom text at ts → Agree text old ts → AreTokensFrom new place (named_tokens h by ns ts) → lexemes new (named_tokens h by ns ts) ≡ named_lexemes h text ns ts
      → AllByRecursion (Fresh by ns) ts → Passed by ns ts
  from_place [] by at place start [] marks begins are agree news same fresh = record { fates = tt; tokens = refl }
  from_place [] by at place start (t ∷ ts) marks begins are agree news same fresh =
      let added : added_before h all t.span.from ≡ by = fresh.0.0 ∙ omega arith in
      let later = from_place [] by t.span.to (t.span.to + by) start ts tt tt are.6 agree.1 news.6 (ap (drop 1) same) fresh.1 in
      record {
        fates = (stay t by (lexemes new (map (moved by) ts)) (lexemes text ts) added fresh.0.1 are.1 are.2 agree.0 news.2 same, later.fates);
        tokens = kept_is t by (map (moved by) ts) ts added fresh.0.1 later.tokens;
      }
  from_place (n ∷ ns) by at place start [] marks begins are agree news same fresh = record { fates = tt; tokens = refl }
  from_place (n ∷ ns) by at place start (t ∷ ts) marks begins are agree news same fresh =
      let mark = mark_of n in
      let more = length (text_of h n) - 1 in
      let one = marks.1.one_byte in
      let names = naming_tokens h (t.span.from + by) n in
      let behind = named_tokens h (by + more) ns ts in
      let rest = named_tokens h by (n ∷ ns) ts in
      by_test (t.span.from == mark.from)
      (λ is.
      let e : t.span.from ≡ mark.from = eqb-true t.span.from mark.from is in
      let full = are.1 in
      let sort = mark_sort text at t ts mark.from are e begins.0 in
      let news : AreTokensFrom new place (names ++ behind) = subst (λ b. AreTokensFrom new place (cond b (names ++ behind) (moved by t ∷ rest))) is news in
      let same : lexemes new (names ++ behind) ≡ naming_lexemes h n ++ named_lexemes h text ns ts =
      subst (λ b. lexemes new (cond b (names ++ behind) (moved by t ∷ rest)) ≡ cond b (naming_lexemes h n ++ named_lexemes h text ns ts) (lexeme_of text t ∷ named_lexemes h text (n ∷ ns) ts)) is same in
      let added : added_before h all t.span.from ≡ by = fresh.0.0 ∙ (ap (λ m. by + m) (added_none h n ns t.span.from (omega (arith, e))) ∙ omega arith) in
      let named : naming_at all t.span.from ≡ Some n = fresh.0.1 ∙ ap (λ b. cond b (Some n) (naming_at ns t.span.from)) (eq-eqb mark.from t.span.from (sym e)) in
      let here : t.span.from + by ≡ t.span.from + added_before h all t.span.from = ap (λ m. t.span.from + m) (sym added) in
      let later = from_place ns (by + more) t.span.to (t.span.from + by + 1 + length (name_of h n)) mark.to ts marks.2
      (all_next text t ts ns mark.to marks.2 (omega (arith, e, one)) begins.1) are.6 agree.1
      (behind_naming n (t.span.from + by) place behind news) (lexemes_behind n (t.span.from + by) behind (named_lexemes h text ns ts) same)
      (fresh_behind n ns by t.span.to ts (omega (arith, e, full)) are.6 fresh.1) in
      record {
        fates = (give t n (t.span.from + by) behind (named_lexemes h text ns ts) place sort named here news same, later.fates);
        tokens = ap (λ b. cond b (names ++ behind) (moved by t ∷ rest)) is ∙ (ap (λ us. names ++ us) later.tokens
            ∙ (ap (λ p. naming_tokens h p n ++ flat_map becoming ts) here
            ∙ ap (λ o. option_map_or (λ n. naming_tokens h (t.span.from + added_before h all t.span.from) n) o (kept h all t ∷ []) ++ flat_map becoming ts) (sym named)));
      })
      (λ is.
      let other : t.span.from ≡ mark.from → ⊥ = λ e. both_ways (t.span.from == mark.from) is (eq-eqb t.span.from mark.from e) in
      let there = opens_next t ts mark.from other begins.0 in
      let full = are.1 in
      let far = opens_behind text t.span.to ts mark.from are.6 there in
      let news : AreTokensFrom new place (moved by t ∷ rest) = subst (λ b. AreTokensFrom new place (cond b (names ++ behind) (moved by t ∷ rest))) is news in
      let same : lexeme_of new (moved by t) ∷ lexemes new rest ≡ lexeme_of text t ∷ named_lexemes h text (n ∷ ns) ts =
      subst (λ b. lexemes new (cond b (names ++ behind) (moved by t ∷ rest)) ≡ cond b (naming_lexemes h n ++ named_lexemes h text ns ts) (lexeme_of text t ∷ named_lexemes h text (n ∷ ns) ts)) is same in
      let added : added_before h all t.span.from ≡ by = fresh.0.0 ∙ (ap (λ m. by + m) (added_none h n ns t.span.from (omega (arith, full, far))) ∙ omega arith) in
      let unnamed : naming_at all t.span.from ≡ None = fresh.0.1 ∙ unnamed_before text (n ∷ ns) t.span.from mark.from (omega arith, marks.1, marks.2) (omega (arith, full, far)) in
      let later = from_place (n ∷ ns) by t.span.to (t.span.to + by) start ts marks
      (there, all_next text t ts ns mark.to marks.2 (omega (arith, full, far, one)) begins.1) are.6 agree.1 news.6 (ap (drop 1) same) fresh.1 in
      record {
        fates = (stay t by (lexemes new rest) (named_lexemes h text (n ∷ ns) ts) added unnamed full are.2 agree.0 news.2 same, later.fates);
        tokens = ap (λ b. cond b (names ++ behind) (moved by t ∷ rest)) is ∙ kept_is t by rest ts added unnamed later.tokens;
      })

  -- ---- what becomes of all tokens

  pub becomes_all : {ts rest us more : List Token} → Becomes h all ts rest us more → more ≡ flat_map becoming rest → us ≡ flat_map becoming ts
  becomes_all none e = e
  becomes_all (pass {t = t} {ts = ts} unnamed i) e =
      ap (λ us. kept h all t ∷ us) (becomes_all i e)
      ∙ ap (λ o. option_map_or (λ n. naming_tokens h (t.span.from + added_before h all t.span.from) n) o (kept h all t ∷ []) ++ flat_map becoming ts) (sym unnamed)
  becomes_all (point {t = t} {n = n} {ts = ts} sort is named i) e =
      ap (λ us. point_at h all t ∷ named_at h all t n ∷ us) (becomes_all i e)
      ∙ (kind_tokens n is
      ∙ ap (λ o. option_map_or (λ n. naming_tokens h (t.span.from + added_before h all t.span.from) n) o (kept h all t ∷ []) ++ flat_map becoming ts) (sym named))
    where
      kind_tokens : (n : Naming) → is_kind n ≡ true
          → point_at h all t ∷ named_at h all t n ∷ flat_map becoming ts ≡ naming_tokens h (t.span.from + added_before h all t.span.from) n ++ flat_map becoming ts
      kind_tokens (Kind m op option) is = refl
      kind_tokens (Memory m option) is = absurd (false≢true is)
  becomes_all (within {w = w} {t = t} {n = n} {ts = ts} q unnamed sort is named i) e =
      ap (λ us. kept h all w ∷ named_at h all t n ∷ us) (becomes_all i e)
      ∙ (ap (λ us. kept h all w ∷ us) (memory_tokens n is
      ∙ ap (λ o. option_map_or (λ n. naming_tokens h (t.span.from + added_before h all t.span.from) n) o (kept h all t ∷ []) ++ flat_map becoming ts) (sym named))
      ∙ ap (λ o. option_map_or (λ n. naming_tokens h (w.span.from + added_before h all w.span.from) n) o (kept h all w ∷ []) ++ (becoming t ++ flat_map becoming ts)) (sym unnamed))
    where
      memory_tokens : (n : Naming) → is_memory n ≡ true → named_at h all t n ∷ flat_map becoming ts ≡ naming_tokens h (t.span.from + added_before h all t.span.from) n ++ flat_map becoming ts
      memory_tokens (Kind m op option) is = absurd (false≢true is)
      memory_tokens (Memory m option) is = refl

-- ---- limits

-- what the limits count stays the same
pub within_all : (h : Hardware) (ns : List Naming) {ts rest us more : List Token} → Becomes h ns ts rest us more → ((c : Counts) → AllWithin c rest → AllWithin c more) → (c : Counts) → AllWithin c ts → AllWithin c us
within_all h ns none k c all = k c all
within_all h ns (pass {t = t} unnamed i) k c all = (all.0, within_all h ns i k (with_token t.kind c) all.1)
within_all h ns (point {t = t} {n = n} {ts = ts} sort is named i) k c all =
    let same = subst (λ x. IsWithin (with_token x c) × AllWithin (with_token x c) ts) sort all in
    (same.0, (same.0, within_all h ns i k (with_token (kind.Mark 63) c) same.1))
within_all h ns (within {w = w} {t = t} {n = n} {ts = ts} {us = us} q unnamed sort is named i) k c all =
    let first = subst (λ x. IsWithin (with_token x c) × AllWithin (with_token x c) (t ∷ ts)) q all in
    let same = subst (λ x. IsWithin (with_token x (with_token (kind.Word word.In) c)) × AllWithin (with_token x (with_token (kind.Word word.In) c)) ts) sort first.1 in (
      all.0,
      subst (λ x. AllWithin (with_token x c) (named_at h ns t n ∷ us)) (sym q)
          (same.0, within_all h ns i k (with_token (kind.Mark 63) (with_token (kind.Word word.In) c)) same.1),
    )
