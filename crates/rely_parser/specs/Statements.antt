-- The statements that tokens spell.
use Rattle.std.specs.Prelude.{ℕ, zero, suc, ◌+◌, ◌-◌, ◌==◌, List, [], ◌∷◌, length, Ok, Err, if◌then◌else◌}
use Rattle.rely_num.specs.Texts.{Bytes}
use Rattle.rely_num.specs.declared.span.Span.{Span}
use Rattle.rely_lexer.specs.declared.token.TokenKind.{TokenKind}
use Rattle.rely_lexer.specs.declared.token.TokenKind.TheVariants as kind
use Rattle.rely_num.specs.declared.word.Word.{Word}
use Rattle.rely_num.specs.declared.word.Word.TheVariants as word
use Rattle.rely_tree.specs.Tree.{IdentTree, ExprTree, StmtTree, SetTree, SetElemTree, IfTree, WhileTree, RepeatTree, CallTree, Block, ended, also}
use Rattle.rely_parser.specs.State.{State, Reading, Read, ◌>>=◌, choose, place, first_at, skip_at, ident_at, name_at, skip_word_at, count_at}
use Rattle.rely_parser.specs.declared.fault.ParseFault.TheVariants as fault
use Rattle.rely_parser.specs.Grammar.{bracketed, expr_at}

-- one call less may stand; this one is at p
abbrev pub one_call : ℕ → State → Reading State
one_call p s =
    if s.calls == 0 then Err (fault.Many p)
    else Ok (record { toks = s.toks; variables = s.variables; operators = s.operators; calls = s.calls - 1; end = s.end })

-- what is behind a comma or the closing bracket of a list, at most so many more
unfoldable pub more_of : {A : Type 0} → Read A → ℕ → Read (List A)
more_of item zero s = Err (fault.Expected (place s))
more_of item (suc n) s =
    choose (skip_at 44 s) (λ after. item after >>= λ x. more_of item n x.1 >>= λ y. Ok (x.0 ∷ y.0, y.1))
    (skip_at 41 s >>= λ end. Ok ([], end))

-- a list with commas up to a closing bracket
unfoldable pub list_of : {A : Type 0} → Read A → Read (List A)
list_of item s =
    choose (skip_at 41 s) (λ end. Ok ([], end))
    (item s >>= λ x. more_of item (length x.1.toks + 1) x.1 >>= λ y. Ok (x.0 ∷ y.0, y.1))

-- the arguments of a call in a bracket at p, one of so many
unfoldable pub args_at : Bytes → ℕ → ℕ → Read (List ExprTree)
args_at text zero p s = Err (fault.Deep p)
args_at text (suc d) p s = list_of (expr_at text d) s

-- behind the word call
unfoldable pub call_at : Bytes → ℕ → IdentTree → Span → Read StmtTree
call_at text d target word s =
    one_call word.from s >>= λ a. name_at text a >>= λ callee. skip_at 40 callee.1 >>= λ b. args_at text d (place callee.1) b >>= λ x. skip_at 59 x.1 >>= λ end.
    Ok (CallTree target.span target word callee.0 x.0, end)

-- behind the sign of a scalar's assignment
unfoldable pub set_at : Bytes → ℕ → IdentTree → Read StmtTree
set_at text d target s =
    choose (skip_word_at word.Call s) (λ a. first_at s >>= λ x. call_at text d target x.0.span a)
    (expr_at text d s >>= λ x. skip_at 59 x.1 >>= λ end. Ok (SetTree target.span target x.0, end))

-- behind the name of an assignment
unfoldable pub assignment_at : Bytes → ℕ → IdentTree → Read StmtTree
assignment_at text d target s =
    choose (skip_at 61 s) (set_at text d target)
    (skip_at 91 s >>= λ a. bracketed text d (place s) a >>= λ i. skip_at 93 i.1 >>= λ b. skip_at 61 b >>= λ c. expr_at text d c >>= λ x. skip_at 59 x.1 >>= λ end.
    Ok (SetElemTree target.span target i.0 x.0, end))

-- a condition in its brackets
unfoldable pub condition_at : Bytes → ℕ → Read ExprTree
condition_at text d s = skip_at 40 s >>= λ a. bracketed text d (place s) a >>= λ x. skip_at 41 x.1 >>= λ end. Ok (x.0, end)

-- statements up to a closing brace, fewer than n
unfoldable pub items_at : Read StmtTree → ℕ → Read Block
items_at stmt zero s = Err (fault.Expected (place s))
items_at stmt (suc n) s =
    choose (skip_at 125 s) (λ end. Ok (ended, end))
    (stmt s >>= λ x. items_at stmt n x.1 >>= λ y. Ok (also x.0 y.0, y.1))

-- what stands behind an if's first block
unfoldable pub otherwise_at : Read Block → Read Block
otherwise_at block s = choose (skip_word_at word.Else s) block (Ok (ended, s))

unfoldable pub if_at : Bytes → ℕ → Read Block → Span → Read StmtTree
if_at text d block span s = condition_at text d s >>= λ c. block c.1 >>= λ held. otherwise_at block held.1 >>= λ other. Ok (IfTree span c.0 held.0 other.0, other.1)

unfoldable pub while_at : Bytes → ℕ → Read Block → Span → Read StmtTree
while_at text d block span s = condition_at text d s >>= λ c. skip_word_at word.Max c.1 >>= λ a. count_at a >>= λ n. block n.1 >>= λ b. Ok (WhileTree span c.0 n.0 b.0, b.1)

unfoldable pub repeat_at : Read Block → Span → Read StmtTree
repeat_at block span s = count_at s >>= λ n. block n.1 >>= λ b. Ok (RepeatTree span n.0 b.0, b.1)

abbrev pub word_stmt : Bytes → ℕ → Read Block → State → Span → Word → Reading (StmtTree × State)
word_stmt text d block after span word.If = if_at text d block span after
word_stmt text d block after span word.While = while_at text d block span after
word_stmt text d block after span word.Repeat = repeat_at block span after
word_stmt text d block after span _ = Err (fault.Expected span.from)

abbrev pub stmt_of : Bytes → ℕ → Read Block → State → Span → TokenKind → Reading (StmtTree × State)
stmt_of text d block after span kind.Name = assignment_at text d (ident_at text span) after
stmt_of text d block after span (kind.Word w) = word_stmt text d block after span w
stmt_of text d block after span _ = Err (fault.Expected span.from)

-- a statement with the reader of its blocks
unfoldable pub stmt_with : Bytes → ℕ → Read Block → Read StmtTree
stmt_with text d block s = first_at s >>= λ x. stmt_of text d block x.1 x.0.span x.0.kind

-- the statements in a brace at p, one of so many
unfoldable pub braces : Bytes → ℕ → ℕ → Read Block
braces text zero p s = Err (fault.Deep p)
braces text (suc d) p s = items_at (stmt_with text d (λ a. skip_at 123 a >>= braces text d (place a))) (length s.toks + 1) s

-- a block where so many brackets may still be opened
abbrev pub block_at : Bytes → ℕ → Read Block
block_at text d = λ a. skip_at 123 a >>= braces text d (place a)

-- a statement where so many brackets may still be opened
abbrev pub stmt_at : Bytes → ℕ → Read StmtTree
stmt_at text d s = stmt_with text d (block_at text d) s
