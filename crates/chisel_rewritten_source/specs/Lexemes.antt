-- Tokens apart from where they stand: what they are, and their bytes.
use Rattle.std.specs.Prelude.{◌≡◌, ℕ, ◌==◌, List, [], ◌∷◌, ◌++◌, map, codes, if◌then◌else◌}
use Rattle.std.specs.List.{slice_range}
use Rattle.rely_num.specs.Texts.{Bytes}
use Rattle.rely_hard.specs.declared.hardware.Hardware.{Hardware}
use Rattle.rely_kernel.specs.Choice.{IsChoice}
use Rattle.rely_kernel.specs.declared.kernel.Kernel.{Kernel}
use Rattle.rely_lexer.specs.Readings.{AreTokensFrom}
use Rattle.rely_lexer.specs.declared.token.Token.{Token}
use Rattle.rely_lexer.specs.declared.token.TokenKind.{TokenKind}
use Rattle.rely_lexer.specs.declared.token.TokenKind.TheVariants as kind
use Rattle.chisel_rewrite.specs.Namings.{mark_of, namings}
use Rattle.chisel_rewrite.specs.Texts.{name_of, rewritten}
use Rattle.chisel_rewrite.specs.declared.naming.Naming.{Naming}
use Rattle.chisel_rewrite.specs.declared.naming.Naming.TheVariants.{Kind, Memory}
use Rattle.chisel_rewritten_source.specs.Tokens.{AreMarksOf, POINT, named_tokens}

pub record Lexeme : Type 0 where
  pub kind : TokenKind
  pub bytes : Bytes

abbrev pub lexeme_of : Bytes → Token → Lexeme
lexeme_of text t = record { kind = t.kind; bytes = slice_range text t.span.from t.span.to }

abbrev pub lexemes : Bytes → List Token → List Lexeme
lexemes text = map (lexeme_of text)

abbrev pub name_lexeme : Bytes → Lexeme
name_lexeme name = record { kind = kind.Name; bytes = name }

-- a point and the kind's name, or the memory's name
abbrev pub naming_lexemes : Hardware → Naming → List Lexeme
naming_lexemes h (Kind mark op option) = record { kind = kind.Mark POINT; bytes = codes "." } ∷ name_lexeme (name_of h (Kind mark op option)) ∷ []
naming_lexemes h (Memory mark option) = name_lexeme (name_of h (Memory mark option)) ∷ []

-- those of the tokens of a text, with these marks named
abbrev pub named_lexemes : Hardware → Bytes → List Naming → List Token → List Lexeme
named_lexemes h text [] ts = lexemes text ts
named_lexemes h text (n ∷ ns) [] = []
named_lexemes h text (n ∷ ns) (t ∷ ts) =
    if t.span.from == (mark_of n).from then naming_lexemes h n ++ named_lexemes h text ns ts else lexeme_of text t ∷ named_lexemes h text (n ∷ ns) ts

-- ---- the law

-- the tokens of the rewritten text say what those of the source say, and the names
abbrev pub LexemesAsNamed : Type 0
LexemesAsNamed =
    (text : Bytes) (tokens : List Token) (k : Kernel) (h : Hardware) (choice : List ℕ)
    → IsChoice k h choice → AreMarksOf text tokens (namings k choice) → AreTokensFrom text 0 tokens
    → lexemes (rewritten text k h choice) (named_tokens h 0 (namings k choice) tokens) ≡ named_lexemes h text (namings k choice) tokens
