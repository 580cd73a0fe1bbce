-- The declarations of variables that tokens spell.
use Rattle.std.specs.Prelude.{ℕ, ◌-◌, ◌||◌, ◌==◌, Option, Some, None, Ok, Err, nat_lt, if◌then◌else◌}
use Rattle.rely_num.specs.Texts.{Bytes}
use Rattle.rely_num.specs.declared.span.Span.{Span}
use Rattle.rely_lexer.specs.declared.token.TokenKind.{TokenKind}
use Rattle.rely_lexer.specs.declared.token.TokenKind.TheVariants as kind
use Rattle.rely_num.specs.declared.word.Word.TheVariants as word
use Rattle.rely_tree.specs.Tree.{KindTree, PlainTree, NamedTree, FreeTree, DeclTree}
use Rattle.rely_parser.specs.State.{State, Reading, Read, ◌>>=◌, choose, place, first_at, skip_at, skip_word_at, number_at, ident_at, name_at}
use Rattle.rely_parser.specs.declared.fault.ParseFault.TheVariants as fault

-- one variable less may stand; this one's name is at p
abbrev pub one_variable : ℕ → State → Reading State
one_variable p s =
    if s.variables == 0 then Err (fault.Many p)
    else Ok (record { toks = s.toks; variables = s.variables - 1; operators = s.operators; calls = s.calls; end = s.end })

-- an array's length, from 1 to 4096
abbrev pub length_at : Read ℕ
length_at s = number_at s >>= λ x. if x.0 == 0 || nat_lt 4096 x.0 then Err (fault.Expected (place s)) else Ok (x.0, x.1)

-- the length of an array in its brackets, none for a scalar
abbrev pub array_at : Read (Option ℕ)
array_at s = choose (skip_at 91 s) (λ a. length_at a >>= λ n. skip_at 93 n.1 >>= λ end. Ok (Some n.0, end)) (Ok (None, s))

abbrev pub chosen : Bytes → State → Span → TokenKind → Reading (KindTree × State)
chosen text after span kind.Name = Ok (NamedTree (ident_at text span), after)
chosen text after span (kind.Mark m) = if m == 63 then Ok (FreeTree span, after) else Err (fault.Expected span.from)
chosen text after span _ = Err (fault.Expected span.from)

-- a name or a question mark
abbrev pub choice_at : Bytes → Read KindTree
choice_at text s = first_at s >>= λ x. chosen text x.1 x.0.span x.0.kind

-- the memory that is written, the plain one for none
abbrev pub memory_at : Bytes → Read KindTree
memory_at text s = choose (skip_word_at word.In s) (choice_at text) (Ok (PlainTree, s))

-- a variable, which is counted
unfoldable pub decl_at : Bytes → Read DeclTree
decl_at text s =
    name_at text s >>= λ n. one_variable n.0.span.from n.1 >>= λ a. array_at a >>= λ l. memory_at text l.1 >>= λ m.
    Ok (record { name = n.0; length = l.0; memory = m.0 }, m.1)
