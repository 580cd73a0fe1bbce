-- The forms of tokens: which bytes are a reserved word, an operator or a mark.
use Rattle.std.specs.Prelude.{ℕ, Bool, ◌==◌, [], ◌∷◌, codes, Option, Some, None, option_map, unwrap_or, if◌then◌else◌}
use Rattle.std.specs.List.{list_any}
use Rattle.std.specs.Option.{option_or}
use Rattle.rely_num.specs.Ops.{op_of}
use Rattle.rely_num.specs.Texts.{Bytes, word_of}
use Rattle.rely_lexer.specs.declared.token.TokenKind.{TokenKind}
use Rattle.rely_lexer.specs.declared.token.TokenKind.TheVariants as kind

-- a byte that is a mark
abbrev pub is_mark : ℕ → Bool
is_mark byte = list_any (λ mark. byte == mark) (codes "(){}[],;=.?")

-- the token that a letter and the letters and digits behind it are
unfoldable pub name_kind : Bytes → TokenKind
name_kind text = unwrap_or (option_map kind.Word (word_of text)) kind.Name

-- the mark that a byte is
unfoldable pub mark_kind : ℕ → Option TokenKind
mark_kind byte = if is_mark byte then Some (kind.Mark byte) else None

abbrev pub alone : Bytes → Option TokenKind
alone [] = None
alone (byte ∷ []) = mark_kind byte
alone (byte ∷ next ∷ bytes) = None

-- the operator or the mark that the bytes are
unfoldable pub sign_kind : Bytes → Option TokenKind
sign_kind text = option_or (option_map kind.Oper (op_of text)) (alone text)
