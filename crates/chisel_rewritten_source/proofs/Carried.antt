-- Tokens carried over into a text in which open marks are named.
use Rattle.std.proofs.Common.{◌≡◌, ◌+◌, ◌==◌, Bool, true, false, List, ◌∷◌, Some, None, refl, ap, sym, ◌∙◌}
use Rattle.std.specs.List.{AllByRecursion}
use Rattle.std.proofs.lemmas.Bool.{false≢true}
use Rattle.rely_num.specs.Texts.{Bytes}
use Rattle.rely_num.specs.declared.span.Span.{Span}
use Rattle.rely_num.specs.declared.word.Word.TheVariants as word
use Rattle.rely_hard.specs.declared.hardware.Hardware.{Hardware}
use Rattle.rely_lexer.specs.Tokens.{token_at}
use Rattle.rely_lexer.specs.declared.token.Token.{Token}
use Rattle.rely_lexer.specs.declared.token.TokenKind.{TokenKind}
use Rattle.rely_lexer.specs.declared.token.TokenKind.TheVariants as kind
use Rattle.rely_parser.specs.Productions.{ident_of}
use Rattle.rely_parser.proofs.Finds.{Behind, here, later}
use Rattle.chisel_rewrite.specs.Texts.{name_of}
use Rattle.chisel_rewrite.specs.declared.naming.Naming.{Naming}
use Rattle.chisel_rewrite.specs.declared.naming.Naming.TheVariants.{Kind, Memory}
use Rattle.chisel_rewritten_source.specs.Trees.{added_before, by_names, moved_span, name_at, naming_at, renamed_ident}

-- ---- kinds of tokens

-- a mark `?`
abbrev pub is_open : TokenKind → Bool
is_open (kind.Mark m) = m == 63
is_open _ = false

-- a naming of a kind, and one of a memory
abbrev pub is_kind : Naming → Bool
is_kind (Kind mark op option) = true
is_kind (Memory mark option) = false

abbrev pub is_memory : Naming → Bool
is_memory (Kind mark op option) = false
is_memory (Memory mark option) = true

-- a mark at a place that isn't named as a memory, and one that isn't named as a kind
abbrev pub AsKind : List Naming → Span → Type 0
AsKind ns mark = (n : Naming) → naming_at ns mark.from ≡ Some n → is_kind n ≡ true

abbrev pub AsMemory : List Naming → Span → Type 0
AsMemory ns mark = (n : Naming) → naming_at ns mark.from ≡ Some n → is_memory n ≡ true

module _ (h : Hardware) (ns : List Naming) where
  -- a token that is kept
  abbrev pub kept : Token → Token
  kept t = record { kind = t.kind; span = moved_span h ns t.span }

  -- the point before the name of a kind, and a name
  abbrev pub point_at : Token → Token
  point_at t = let place = t.span.from + added_before h ns t.span.from in token_at (kind.Mark 46) place (place + 1)

  abbrev pub named_at : Token → Naming → Token
  named_at t n = record { kind = kind.Name; span = (name_at h (t.span.from + added_before h ns t.span.from) n).span }

  -- tokens up to the rest, and those that they become before another rest
  pub data Becomes : List Token → List Token → List Token → List Token → Type 0 where
    none : {ts us : List Token} → Becomes ts ts us us
    pass : {t : Token} {ts rest us more : List Token} → naming_at ns t.span.from ≡ None → Becomes ts rest us more → Becomes (t ∷ ts) rest (kept t ∷ us) more
    point : {t : Token} {n : Naming} {ts rest us more : List Token} → t.kind ≡ kind.Mark 63 → is_kind n ≡ true → naming_at ns t.span.from ≡ Some n → Becomes ts rest us more
        → Becomes (t ∷ ts) rest (point_at t ∷ named_at t n ∷ us) more
    within : {w t : Token} {n : Naming} {ts rest us more : List Token} → w.kind ≡ kind.Word word.In → naming_at ns w.span.from ≡ None → t.kind ≡ kind.Mark 63 → is_memory n ≡ true
        → naming_at ns t.span.from ≡ Some n → Becomes ts rest us more → Becomes (w ∷ t ∷ ts) rest (kept w ∷ named_at t n ∷ us) more

  pub join : {ts mid rest us next more : List Token} → Becomes ts mid us next → Becomes mid rest next more → Becomes ts rest us more
  join none j = j
  join (pass e i) j = pass e (join i j)
  join (point p k e i) j = point p k e (join i j)
  join (within q d p k e i) j = within q d p k e (join i j)

  -- the tokens that a production spells in the new text, before another rest
  pub record Carried {A : Type 0} (E : List Token → List Token → A → Type 0) (ts rest more : List Token) (a : A) : Type 0 where
    pub new : List Token
    pub becomes : Becomes ts rest new more
    pub spells : E new more a

  module _ (old says : Span → Bytes) where
    -- what becomes of a token: it is kept and says the same, or it is a mark, and the name says what it is named with
    pub data Fate (t : Token) : Type 0 where
      stays : naming_at ns t.span.from ≡ None → says (moved_span h ns t.span) ≡ old t.span → Fate t
      gives_way : (n : Naming) → t.kind ≡ kind.Mark 63 → naming_at ns t.span.from ≡ Some n → says (named_at t n).span ≡ name_of h n → Fate t

    abbrev pub AllFates : List Token → Type 0
    AllFates = AllByRecursion Fate

    pub fates_behind : {ts rest : List Token} → Behind ts rest → AllFates ts → AllFates rest
    fates_behind here f = f
    fates_behind (later b) f = fates_behind b f.1

    -- a token of another kind stays
    pub unnamed : {t : Token} {k : TokenKind} → Fate t → t.kind ≡ k → is_open k ≡ false → naming_at ns t.span.from ≡ None
    unnamed (stays e s) p other = e
    unnamed (gives_way n q e s) p other = absurd (false≢true (sym other ∙ ap is_open (sym p ∙ q)))

    pub says_same : {t : Token} {k : TokenKind} → Fate t → t.kind ≡ k → is_open k ≡ false → says (moved_span h ns t.span) ≡ old t.span
    says_same (stays e s) p other = s
    says_same (gives_way n q e s) p other = absurd (false≢true (sym other ∙ ap is_open (sym p ∙ q)))

    pub ident_same : {t : Token} → Fate t → t.kind ≡ kind.Name → ident_of says (kept t) ≡ renamed_ident (by_names h ns) (ident_of old t)
    ident_same {t = t} f p = ap (λ (w : Bytes). record { text = w; span = moved_span h ns t.span }) (says_same f p refl)
