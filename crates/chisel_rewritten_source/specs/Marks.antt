-- The open marks of a tree are tokens of the text that it was read from.
use Rattle.std.specs.Prelude.{◌≡◌, false, List, ◌++◌, slice_index, Contains}
use Rattle.std.specs.List.{AllByRecursion}
use Rattle.rely_num.specs.OpenMarks.{AreOpenMarks}
use Rattle.rely_num.specs.Texts.{Bytes, is_name_byte}
use Rattle.rely_lexer.specs.Readings.{AreTokensFrom}
use Rattle.rely_lexer.specs.declared.token.Token.{Token}
use Rattle.rely_tree.specs.Marks.{decls_marks, function_marks}
use Rattle.rely_tree.specs.Tree.{FuncTree, UnitTree}
use Rattle.rely_parser.specs.Productions.{Spelled}
use Rattle.chisel_rewritten_source.specs.Tokens.{open_token}

-- each open mark of a function is a token, and no byte of a name stands behind those of memories
pub record AreTokensOf (text : Bytes) (tokens : List Token) (f : FuncTree) : Type 0 where
  pub open_marks : AreOpenMarks text (function_marks f)
  pub are_tokens : AllByRecursion (λ mark. Contains tokens (open_token mark)) (function_marks f)
  pub apart : AllByRecursion (λ mark. is_name_byte (slice_index text mark.to) ≡ false) (decls_marks f.params ++ decls_marks f.locals)

-- those of each function of a tree that the tokens of a text spell
abbrev pub MarksAreTokens : Type 0
MarksAreTokens =
    (text : Bytes) (tokens : List Token) (u : UnitTree) → AreTokensFrom text 0 tokens → Spelled text tokens u
    → AllByRecursion (AreTokensOf text tokens) u.functions
