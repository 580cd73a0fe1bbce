-- The source of a kernel, with the kernel's own choice named in it.
use Rattle.std.specs.Prelude.{◌≡◌, ℕ, ◌≤◌, List, length, Ok}
use Rattle.rely_num.specs.Texts.{Bytes}
use Rattle.rely_hard.specs.Valid.{IsHardware}
use Rattle.rely_hard.specs.declared.hardware.Hardware.{Hardware}
use Rattle.rely_kernel.specs.Choice.{IsChoice}
use Rattle.rely_kernel.specs.declared.kernel.Linked.{Linked}
use Rattle.rely_lexer.specs.Readings.{AreTokensFrom, IsReading}
use Rattle.rely_lexer.specs.declared.token.Token.{Token}
use Rattle.rely_tree.specs.Tree.{UnitTree}
use Rattle.rely_parser.specs.Productions.{Spelled}
use Rattle.rely_resolve.specs.Reached.{IsLinkedBy}
use Rattle.chisel_rewrite.specs.Namings.{namings}
use Rattle.chisel_rewrite.specs.Texts.{rewritten}
use Rattle.chisel_rewritten_source.specs.Lexemes.{lexemes, named_lexemes}
use Rattle.chisel_rewritten_source.specs.Tokens.{AreMarksOf, named_tokens}

-- the marks of the kernel that a function means are tokens of its source, with nothing right behind those of memories
abbrev pub KernelMarksAreTokens : Type 0
KernelMarksAreTokens =
    (text : Bytes) (tokens : List Token) (u : UnitTree) (h : Hardware) (name : Bytes) (l : Linked) (choice : List ℕ)
    → AreTokensFrom text 0 tokens → Spelled text tokens u → IsLinkedBy h u name l → IsChoice l.kernel h choice
    → AreMarksOf text tokens (namings l.kernel choice)

-- what the rewritten text is read as: the tokens of the source with each mark named, which say what those say, and the names
pub record IsReread (text : Bytes) (tokens : List Token) (h : Hardware) (l : Linked) (choice : List ℕ) : Type 0 where
  pub reading : IsReading (rewritten text l.kernel h choice) (Ok (named_tokens h 0 (namings l.kernel choice) tokens))
  pub says :
      lexemes (rewritten text l.kernel h choice) (named_tokens h 0 (namings l.kernel choice) tokens)
      ≡ named_lexemes h text (namings l.kernel choice) tokens

abbrev pub KernelRereadAsNamed : Type 0
KernelRereadAsNamed =
    (text : Bytes) (tokens : List Token) (u : UnitTree) (h : Hardware) (name : Bytes) (l : Linked) (choice : List ℕ)
    → IsHardware h → IsReading text (Ok tokens) → Spelled text tokens u → IsLinkedBy h u name l → IsChoice l.kernel h choice
    → length (rewritten text l.kernel h choice) ≤ 65536 → IsReread text tokens h l choice
