-- The tokens of a source in which open marks are named.
use Rattle.std.specs.Prelude.{◌≡◌, ℕ, ◌+◌, ◌-◌, ◌≤◌, ◌==◌, false, List, [], ◌∷◌, ◌++◌, length, map, slice_index, Ok, Contains, if◌then◌else◌}
use Rattle.std.specs.List.{AllByRecursion}
use Rattle.rely_num.specs.OpenMarks.{AreOpenMarks}
use Rattle.rely_num.specs.Texts.{Bytes, is_name_byte}
use Rattle.rely_num.specs.declared.span.Span.{Span}
use Rattle.rely_hard.specs.Valid.{IsHardware}
use Rattle.rely_hard.specs.declared.hardware.Hardware.{Hardware}
use Rattle.rely_kernel.specs.Choice.{IsChoice}
use Rattle.rely_kernel.specs.declared.kernel.Kernel.{Kernel}
use Rattle.rely_lexer.specs.Readings.{IsReading}
use Rattle.rely_lexer.specs.Tokens.{token_at}
use Rattle.rely_lexer.specs.declared.token.Token.{Token}
use Rattle.rely_lexer.specs.declared.token.TokenKind.TheVariants as kind
use Rattle.chisel_rewrite.specs.Namings.{mark_of, namings}
use Rattle.chisel_rewrite.specs.Texts.{name_of, rewritten, text_of}
use Rattle.chisel_rewrite.specs.declared.naming.Naming.{Naming}
use Rattle.chisel_rewrite.specs.declared.naming.Naming.TheVariants.{Kind, Memory}

-- ---- tokens

-- the point, a byte
abbrev pub POINT : ℕ
POINT = 46

-- the question mark, a byte
abbrev pub QUESTION : ℕ
QUESTION = 63

-- the token of an open mark
abbrev pub open_token : Span → Token
open_token mark = token_at (kind.Mark QUESTION) mark.from mark.to

-- a token so many bytes further on
abbrev pub moved : ℕ → Token → Token
moved by t = token_at t.kind (t.span.from + by) (t.span.to + by)

-- a name of so many bytes at a place
abbrev pub name_token : ℕ → Bytes → Token
name_token place name = token_at kind.Name place (place + length name)

-- what stands in the place of a mark, from that place on: a point and the kind's name, or the memory's name behind a blank
abbrev pub naming_tokens : Hardware → ℕ → Naming → List Token
naming_tokens h place (Kind mark op option) = token_at (kind.Mark POINT) place (place + 1) ∷ name_token (place + 1) (name_of h (Kind mark op option)) ∷ []
naming_tokens h place (Memory mark option) = name_token (place + 1) (name_of h (Memory mark option)) ∷ []

-- tokens with these marks named, so many bytes further on: each name moves what stands behind it
abbrev pub named_tokens : Hardware → ℕ → List Naming → List Token → List Token
named_tokens h by [] ts = map (moved by) ts
named_tokens h by (n ∷ ns) [] = []
named_tokens h by (n ∷ ns) (t ∷ ts) =
    if t.span.from == (mark_of n).from then naming_tokens h (t.span.from + by) n ++ named_tokens h (by + (length (text_of h n) - 1)) ns ts
    else moved by t ∷ named_tokens h by (n ∷ ns) ts

-- ---- the law

-- no byte of a name stands behind the mark of a memory, which would go on there
abbrev pub StandsApart : Bytes → Naming → Type 0
StandsApart text (Kind mark op option) = Unit {0}
StandsApart text (Memory mark option) = is_name_byte (slice_index text mark.to) ≡ false

-- marks in rising places, each of them a token
pub record AreMarksOf (text : Bytes) (tokens : List Token) (ns : List Naming) : Type 0 where
  pub marks : AreOpenMarks text (map mark_of ns)
  pub are_tokens : AllByRecursion (λ n. Contains tokens (open_token (mark_of n))) ns
  pub apart : AllByRecursion (StandsApart text) ns

abbrev pub RereadAsNamed : Type 0
RereadAsNamed =
    (text : Bytes) (tokens : List Token) (k : Kernel) (h : Hardware) (choice : List ℕ)
    → IsHardware h → IsChoice k h choice → AreMarksOf text tokens (namings k choice) → length (rewritten text k h choice) ≤ 65536
    → IsReading text (Ok tokens) → IsReading (rewritten text k h choice) (Ok (named_tokens h 0 (namings k choice) tokens))
