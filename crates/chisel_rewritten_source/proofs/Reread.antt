-- The tokens of a rewritten text.
use Rattle.std.proofs.Common.{◌≡◌, ℕ, zero, suc, ◌+◌, ◌-◌, ◌<◌, ◌≤◌, ◌==◌, inl, inr, Bool, true, false, cond, List, [], ◌∷◌, ◌++◌, Some, drop, length, map, Ok, Err, refl, ap, sym, ◌∙◌, subst, arith, length-drop, length-take}
use Rattle.std.specs.Prelude.{Contains, slice_get, find}
use Rattle.std.specs.List.{AllByRecursion, slice_range}
use Rattle.std.specs.Option.{option_map_or}
use Rattle.std.proofs.lemmas.Bool.{eqb-true, false_from_ne_true, cond-true, le-ltb}
use Rattle.rely_num.specs.OpenMarks.{AreOpenMarksFrom}
use Rattle.rely_num.specs.Texts.{Bytes, is_name}
use Rattle.rely_num.specs.Ops.{is_op}
use Rattle.rely_hard.specs.Valid.{IsHardware, KindFits, MemoryFits, OperatorFits}
use Rattle.rely_hard.specs.declared.hardware.Hardware.{Hardware}
use Rattle.rely_hard.specs.declared.hardware.OpSpec.{OpSpec}
use Rattle.rely_kernel.specs.Setting.{kinds_of}
use Rattle.rely_lexer.specs.Tokens.{token_at, tokens_behind, tokens_of}
use Rattle.rely_lexer.specs.declared.token.LexFault.TheVariants.{TooLong}
use Rattle.rely_lexer.specs.declared.token.Token.{Token}
use Rattle.rely_lexer.specs.declared.token.TokenKind.TheVariants as kind
use Rattle.rely_lexer.proofs.Behind.{with_front}
use Rattle.rely_lexer.proofs.OneReading.{reading}
use Rattle.chisel_rewrite.specs.Namings.{IsListed, mark_of, namings}
use Rattle.chisel_rewrite.specs.Texts.{name_of, named, rewritten, text_of}
use Rattle.chisel_rewrite.specs.declared.naming.Naming.{Naming}
use Rattle.chisel_rewrite.specs.declared.naming.Naming.TheVariants.{Kind, Memory}
use Rattle.chisel_rewrite.proofs.Pieces.{mark_within, split_at_mark}
use Rattle.chisel_rewrite.proofs.Places.{options_listed}
use Rattle.chisel_rewritten_source.specs.Tokens.{RereadAsNamed, StandsApart, moved, named_tokens, naming_tokens, open_token}
use Rattle.chisel_rewritten_source.proofs.Cuts.{Begins, all_moved, cut}
use Rattle.chisel_rewritten_source.proofs.Names.{naming_leads, naming_stops, named_follows}

-- ---- lists of tokens

-- tokens before a mark, the mark, and those behind it
named_parts : (h : Hardware) (by : ℕ) (n : Naming) (ns : List Naming) (before : List Token) (to : ℕ) (after : List Token) → AllByRecursion (λ t. t.span.from < (mark_of n).from) before
    → named_tokens h by (n ∷ ns) (before ++ token_at (kind.Mark 63) (mark_of n).from to ∷ after)
    ≡ map (moved by) before ++ (naming_tokens h ((mark_of n).from + by) n ++ named_tokens h (by + (length (text_of h n) - 1)) ns after)
named_parts h by n ns [] to after earlier =
    cond-true ((mark_of n).from == (mark_of n).from) _ _ (same (mark_of n).from)
  where
    same : (m : ℕ) → (m == m) ≡ true
    same m = grind arith
named_parts h by n ns (t ∷ before) to after earlier =
    let other : (t.span.from == (mark_of n).from) ≡ false = false_from_ne_true _ (λ same. let e = eqb-true t.span.from (mark_of n).from same in absurd (omega (arith, e, earlier.0))) in
    ap (λ b. cond b (naming_tokens h (t.span.from + by) n ++ named_tokens h (by + (length (text_of h n) - 1)) ns (before ++ token_at (kind.Mark 63) (mark_of n).from to ∷ after)) (moved by t ∷ named_tokens h by (n ∷ ns) (before ++ token_at (kind.Mark 63) (mark_of n).from to ∷ after))) other
    ∙ ap (λ ts. moved by t ∷ ts) (named_parts h by n ns before to after earlier.1)

-- what begins behind a token is among those behind it
begins_after : (before after : List Token) (t : Token) (from place : ℕ) → t.span.from ≡ from → AllByRecursion (λ t. t.span.from < from) before → from < place
    → Begins (before ++ t ∷ after) place → Begins after place
begins_after [] after t from place is earlier behind (inl here) = absurd (omega (arith, here, is, behind))
begins_after [] after t from place is earlier behind (inr there) = there
begins_after (u ∷ before) after t from place is earlier behind (inl here) = absurd (omega (arith, here, earlier.0, behind))
begins_after (u ∷ before) after t from place is earlier behind (inr there) = begins_after before after t from place is earlier.1 behind there

pub all_after : (text : Bytes) (before after : List Token) (t : Token) (from to : ℕ) (ns : List Naming) → t.span.from ≡ from → AllByRecursion (λ t. t.span.from < from) before → from < to
    → AreOpenMarksFrom text to (map mark_of ns) → AllByRecursion (λ n. Begins (before ++ t ∷ after) (mark_of n).from) ns → AllByRecursion (λ n. Begins after (mark_of n).from) ns
all_after text before after t from to [] is earlier behind marks all = tt
all_after text before after t from to (n ∷ ns) is earlier behind marks all =
    let one = marks.1.one_byte in (
      begins_after before after t from (mark_of n).from is earlier (omega (arith, behind, marks.0)) all.0,
      all_after text before after t from (mark_of n).to ns is earlier (omega (arith, one, behind, marks.0)) marks.2 all.1,
    )

-- a token of a list begins where it begins
begins : (ts : List Token) (t : Token) → Contains ts t → Begins ts t.span.from
begins [] t (i, inside, is) = absurd (omega (arith, inside))
begins (u ∷ ts) t (zero, inside, is) = inl (ap (λ (t : Token). t.span.from) is)
begins (u ∷ ts) t (suc i, inside, is) = inr (begins ts t (i, omega (arith, inside), is))

pub all_begin : (ts : List Token) (ns : List Naming) → AllByRecursion (λ n. Contains ts (open_token (mark_of n))) ns → AllByRecursion (λ n. Begins ts (mark_of n).from) ns
all_begin ts [] all = tt
all_begin ts (n ∷ ns) all = (begins ts (open_token (mark_of n)) all.0, all_begin ts ns all.1)

-- ---- names

abbrev AreNames : Hardware → List Naming → Type 0
AreNames h ns = AllByRecursion (λ n. is_name (name_of h n) ≡ true) ns

-- the hardware lists the operator's kinds with names
kinds_named : (test : OpSpec → Bool) (os : List OpSpec) → AllByRecursion OperatorFits os → AllByRecursion KindFits (option_map_or (λ o. o.kinds) (find test os) [])
kinds_named test [] fit = tt
kinds_named test (o ∷ os) fit = one (test o) (kinds_named test os fit.1)
  where
    one : (b : Bool) → AllByRecursion KindFits (option_map_or (λ o. o.kinds) (find test os) []) → AllByRecursion KindFits (option_map_or (λ o. o.kinds) (cond b (Some o) (find test os)) [])
    one true rest = fit.0.kinds
    one false rest = rest

named_at : {X : Type 0} (P : X → Type 0) (name : X → Bytes) → ((x : X) → P x → is_name (name x) ≡ true) → (xs : List X) (i : ℕ) → AllByRecursion P xs → i < length xs
    → is_name (option_map_or name (slice_get xs i) []) ≡ true
named_at P name is [] i all small = absurd (omega (arith, small))
named_at P name is (x ∷ xs) zero all small = is x all.0
named_at P name is (x ∷ xs) (suc i) all small = named_at P name is xs i all.1 (omega (arith, small))

are_names : (h : Hardware) → IsHardware h → (ns : List Naming) → AllByRecursion (IsListed h) ns → AreNames h ns
are_names h hard [] listed = tt
are_names h hard (n ∷ ns) listed = (one n listed.0, are_names h hard ns listed.1)
  where
    one : (n : Naming) → IsListed h n → is_name (name_of h n) ≡ true
    one (Kind mark op option) small =
        named_at KindFits (λ kind. kind.name) (λ kind fits. fits.name.form) (kinds_of h op) option (kinds_named (λ o. is_op o.op op) h.operators hard.operators) small
    one (Memory mark option) small = named_at MemoryFits (λ memory. memory.name) (λ memory fits. fits.name.form) h.memories option hard.memories small

-- ---- the law

-- something stands in the place of a mark
pub text_some : (h : Hardware) (n : Naming) → 1 ≤ length (text_of h n)
text_some h (Kind mark op option) = omega arith
text_some h (Memory mark option) = omega arith

module _ (h : Hardware) (text : Bytes) where
  from_place : (ns : List Naming) (place by at : ℕ) (ts : List Token) → AreNames h ns → AreOpenMarksFrom text place (map mark_of ns) → AllByRecursion (λ n. Begins ts (mark_of n).from) ns
      → AllByRecursion (StandsApart text) ns → tokens_behind (drop place text) 0 place ≡ Ok ts → at ≡ place + by
      → tokens_behind (named h text place ns) 0 at ≡ Ok (named_tokens h by ns ts)
  from_place [] place by at ts names marks begins apart is further = all_moved (drop place text) 0 place ts by at is further
  from_place (n ∷ ns) place by at ts names marks begins apart is further =
      let mark = mark_of n in
      let front = slice_range text place mark.from in
      let back = drop mark.to text in
      let rest = named h text mark.to ns in
      let one = marks.1.one_byte in
      let within = mark_within text mark.from mark.to marks.1.byte in
      let long : mark.from ≡ place + length front = omega (arith, marks.0, within, length-take (mark.from - place) (drop place text), length-drop place text) in
      let split = split_at_mark text place mark.from mark.to marks.0 one marks.1.byte in
      let c = cut front back 0 place mark.from ts (omega arith) long (ap (λ (bs : Bytes). tokens_behind bs 0 place) (sym split) ∙ is) begins.0 in
      let more = length (text_of h n) - 1 in
      let leads = naming_stops h n rest names.0 in
      let full = text_some h n in
      let first : tokens_behind (front ++ (text_of h n ++ rest)) 0 at ≡ with_front (map (moved by) c.before) (tokens_behind (text_of h n ++ rest) 0 (mark.from + by)) =
      ap (λ (bs : Bytes). tokens_behind (front ++ bs) 0 at) leads.is
      ∙ (c.same leads.byte leads.rest by at leads.stops further
      ∙ ap (λ (bs : Bytes). with_front (map (moved by) c.before) (tokens_behind bs 0 (mark.from + by))) (sym leads.is)) in
      let second = naming_leads h n rest (mark.from + by) names.0 (named_follows h text n ns apart.0) in
      let later = from_place ns mark.to (by + more) (mark.from + by + length (text_of h n)) c.after names.1 marks.2
      (all_after text c.before c.after (token_at (kind.Mark 63) mark.from (mark.from + 1)) mark.from mark.to ns refl c.earlier (omega (arith, one)) marks.2
      (subst (λ ts. AllByRecursion (λ n. Begins ts (mark_of n).from) ns) c.parts begins.1))
      apart.1 (ap (tokens_behind back 0) one ∙ c.behind) (omega (arith, one, full)) in
      first
      ∙ (ap (with_front (map (moved by) c.before)) (second ∙ ap (with_front (naming_tokens h (mark.from + by) n)) later)
      ∙ ap Ok (sym (ap (named_tokens h by (n ∷ ns)) c.parts ∙ named_parts h by n ns c.before (mark.from + 1) c.after c.earlier)))

short : (text : Bytes) → length text ≤ 65536 → tokens_of text ≡ tokens_behind text 0 0
unfolding tokens_of
short text few = ap (λ b. cond b (Err TooLong) (tokens_behind text 0 0)) (le-ltb 65536 (length text) few)

pub reread_as_named : RereadAsNamed
reread_as_named text tokens k h choice hard is marks few read =
    let ns = namings k choice in
    let found : tokens_behind text 0 0 ≡ Ok tokens = sym ((reading text (Ok tokens)).0 read ∙ short text read.0) in
    let named = from_place h text ns 0 0 0 tokens (are_names h hard ns (options_listed k h choice is)) marks.marks (all_begin tokens ns marks.are_tokens) marks.apart found (omega arith) in
    (reading (rewritten text k h choice) (Ok (named_tokens h 0 ns tokens))).1 (sym (short (rewritten text k h choice) few ∙ named))
