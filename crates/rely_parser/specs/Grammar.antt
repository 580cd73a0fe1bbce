-- The expressions that tokens spell: a level is operands of the next tighter level, folded from the left.
use Rattle.std.specs.Prelude.{ℕ, zero, suc, ◌==◌, length, Ok, Err, if◌then◌else◌}
use Rattle.rely_num.specs.Texts.{Bytes}
use Rattle.rely_num.specs.declared.span.Span.{Span}
use Rattle.rely_lexer.specs.declared.token.TokenKind.{TokenKind}
use Rattle.rely_lexer.specs.declared.token.TokenKind.TheVariants as kind
use Rattle.rely_tree.specs.Tree.{IdentTree, KindTree, ExprTree, NumTree, NameTree, ElemTree, BinTree}
use Rattle.rely_parser.specs.State.{State, Reading, Read, ◌>>=◌, choose, place, first_at, skip_at, ident_at, suffix_at, operator_at, one_operator}
use Rattle.rely_parser.specs.declared.fault.ParseFault.TheVariants as fault

-- an element or a scalar, behind its name; a bracket's inside is read by the reader at its place
abbrev pub variable_at : (ℕ → Read ExprTree) → IdentTree → Read ExprTree
variable_at inner name s =
    choose (skip_at 91 s) (λ after. inner (place s) after >>= λ i. skip_at 93 i.1 >>= λ end. Ok (ElemTree name i.0, end)) (Ok (NameTree name, s))

abbrev pub prim_of : Bytes → (ℕ → Read ExprTree) → State → Span → TokenKind → Reading (ExprTree × State)
prim_of text inner after span (kind.Number n) = Ok (NumTree n, after)
prim_of text inner after span kind.Name = variable_at inner (ident_at text span) after
prim_of text inner after span (kind.Mark m) =
    if m == 40 then (inner span.from after >>= λ i. skip_at 41 i.1 >>= λ end. Ok (i.0, end)) else Err (fault.Expected span.from)
prim_of text inner after span _ = Err (fault.Expected span.from)

-- an operand
unfoldable pub prim_at : Bytes → (ℕ → Read ExprTree) → Read ExprTree
prim_at text inner s = first_at s >>= λ x. prim_of text inner x.1 x.0.span x.0.kind

-- the kind of an operator at p, which is counted
unfoldable pub kind_at : Bytes → ℕ → Read KindTree
kind_at text p s = one_operator p s >>= suffix_at text

-- the operators of one level behind a left operand, at most n of them
unfoldable pub more_at : Bytes → ℕ → Read ExprTree → ℕ → ExprTree → Read ExprTree
more_at text h next zero left s = Ok (left, s)
more_at text h next (suc n) left s =
    choose (operator_at h s)
    (λ o. kind_at text o.0.1.from o.1 >>= λ k. next k.1 >>= λ r. more_at text h next n (BinTree o.0.0 o.0.1 k.0 left r.0) r.1)
    (Ok (left, s))

-- an expression whose operators outside brackets bind at most so loosely
unfoldable pub level_at : Bytes → (ℕ → Read ExprTree) → ℕ → Read ExprTree
level_at text inner zero s = prim_at text inner s
level_at text inner (suc h) s = level_at text inner h s >>= λ x. more_at text (suc h) (level_at text inner h) (length x.1.toks) x.0 x.1

-- the expression in a bracket at p, one of so many that may be opened
unfoldable pub bracketed : Bytes → ℕ → ℕ → Read ExprTree
bracketed text zero p s = Err (fault.Deep p)
bracketed text (suc d) p s = level_at text (bracketed text d) 7 s

-- a whole expression where so many brackets may still be opened
abbrev pub expr_at : Bytes → ℕ → Read ExprTree
expr_at text d s = level_at text (bracketed text d) 7 s
