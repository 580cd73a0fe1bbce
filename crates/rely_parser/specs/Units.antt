-- The claims, the functions and the sources that tokens spell.
use Rattle.std.specs.Prelude.{ℕ, zero, suc, ◌+◌, Bool, true, false, ◌==◌, List, [], ◌∷◌, length, Option, Some, None, Result, Ok, Err, if◌then◌else◌}
use Rattle.rely_num.specs.Texts.{Bytes}
use Rattle.rely_num.specs.AttoTexts.{atto_of}
use Rattle.rely_num.specs.declared.atto.NumFault.{NumFault}
use Rattle.rely_num.specs.declared.op.Op.{Op}
use Rattle.rely_num.specs.declared.op.Op.TheVariants as op
use Rattle.rely_num.specs.declared.span.Span.{Span}
use Rattle.rely_lexer.specs.declared.token.Token.{Token}
use Rattle.rely_lexer.specs.declared.token.TokenKind.{TokenKind}
use Rattle.rely_lexer.specs.declared.token.TokenKind.TheVariants as kind
use Rattle.rely_num.specs.declared.word.Word.{Word}
use Rattle.rely_num.specs.declared.word.Word.TheVariants as word
use Rattle.rely_tree.specs.Tree.{IdentTree, StmtTree, ReturnTree, Block, ended, also, DeclTree, SaidTree, FuncTree, UnitTree}
use Rattle.rely_parser.specs.State.{State, Reading, Read, end_of, ◌>>=◌, choose, place, first_at, skip_at, skip_word_at, word_at, name_at}
use Rattle.rely_parser.specs.declared.fault.ParseFault.TheVariants as fault
use Rattle.rely_parser.specs.Grammar.{expr_at}
use Rattle.rely_parser.specs.Statements.{list_of, stmt_at}
use Rattle.rely_parser.specs.Declarations.{decl_at}

-- a number or a decimal
abbrev pub is_amount : TokenKind → Bool
is_amount (kind.Number n) = true
is_amount kind.Decimal = true
is_amount _ = false

abbrev pub written : Span → Result ℕ NumFault → Reading ℕ
written span (Ok n) = Ok n
written span (Err _) = Err (fault.Expected span.from)

-- the probability that the first token writes, in attos
abbrev pub bound_at : Bytes → State → Reading ℕ
bound_at text s =
    first_at s >>= λ x. if is_amount x.0.kind then written x.0.span (atto_of (word_at text x.0.span)) else Err (fault.Expected x.0.span.from)

-- signs, told apart by their numbers
abbrev pub sign_number : Op → ℕ
sign_number op.Mul = 0
sign_number op.Div = 1
sign_number op.Rem = 2
sign_number op.Add = 3
sign_number op.Sub = 4
sign_number op.Lt = 5
sign_number op.Le = 6
sign_number op.Gt = 7
sign_number op.Ge = 8
sign_number op.Eq = 9
sign_number op.Ne = 10
sign_number op.And = 11
sign_number op.Xor = 12
sign_number op.Or = 13

abbrev pub with_sign : Op → State → Span → TokenKind → Reading State
with_sign o after span (kind.Oper p) = if sign_number p == sign_number o then Ok after else Err (fault.Expected span.from)
with_sign o after span _ = Err (fault.Expected span.from)

-- behind an operator's sign
abbrev pub skip_sign_at : Op → State → Reading State
skip_sign_at o s = first_at s >>= λ x. with_sign o x.1 x.0.span x.0.kind

-- what a claim speaks of: a variable, none for the result
abbrev pub target_at : Bytes → Read (Option IdentTree)
target_at text s = choose (skip_word_at word.Result s) (λ a. Ok (None, a)) (name_at text s >>= λ n. Ok (Some n.0, n.1))

-- behind a bound, up to behind the bracket that is opened
abbrev pub behind_bound_at : State → Reading State
behind_bound_at s = first_at s >>= λ x. skip_sign_at op.Mul x.1 >>= λ a. skip_word_at word.R a >>= λ b. skip_at 40 b

-- a claim behind its word
unfoldable pub claim_at : Bytes → Read SaidTree
claim_at text s =
    target_at text s >>= λ t. skip_sign_at op.Ge t.1 >>= λ a. bound_at text a >>= λ b. behind_bound_at a >>= λ c. list_of (name_at text) c >>= λ n.
    Ok (record { target = t.0; bound = b; needs = n.0 }, n.1)

-- all that stand each behind the same word, at most n
unfoldable pub each_behind : {A : Type 0} → Word → Read A → ℕ → Read (List A)
each_behind w item zero s = choose (skip_word_at w s) (λ a. Err (fault.Many (place s))) (Ok ([], s))
each_behind w item (suc n) s =
    choose (skip_word_at w s) (λ a. item a >>= λ x. each_behind w item n x.1 >>= λ y. Ok (x.0 ∷ y.0, y.1)) (Ok ([], s))

-- one or more that stand each behind the same word, at most n + 1
unfoldable pub some_behind : {A : Type 0} → Word → Read A → ℕ → Read (List A)
some_behind w item n s = skip_word_at w s >>= λ a. item a >>= λ x. each_behind w item n x.1 >>= λ y. Ok (x.0 ∷ y.0, y.1)

-- the claims of a function, from one to eight
abbrev pub claims_at : Bytes → Read (List SaidTree)
claims_at text s = some_behind word.Claim (claim_at text) 7 s

-- a local variable behind its word
unfoldable pub local_at : Bytes → Read DeclTree
local_at text s = decl_at text s >>= λ d. skip_at 59 d.1 >>= λ end. Ok (d.0, end)

-- the local variables at the front of a body
abbrev pub locals_at : Bytes → Read (List DeclTree)
locals_at text s = each_behind word.Var (local_at text) (length s.toks) s

-- what is behind the word return, up to the end of the body
unfoldable pub last_at : Bytes → Span → Read StmtTree
last_at text span s = expr_at text 63 s >>= λ x. skip_at 59 x.1 >>= λ a. skip_at 125 a >>= λ end. Ok (ReturnTree span x.0, end)

-- the last statement of a body, which begins at s; behind its word are the tokens of a
abbrev pub returned_at : Bytes → State → Read StmtTree
returned_at text s a = first_at s >>= λ x. last_at text x.0.span a

-- statements up to a return and the closing brace, at most n
unfoldable pub body_of : Bytes → ℕ → Read Block
body_of text zero s = Err (fault.Expected (place s))
body_of text (suc n) s =
    choose (skip_word_at word.Return s) (λ a. first_at s >>= λ x. last_at text x.0.span a >>= λ y. Ok (also y.0 ended, y.1))
    (stmt_at text 63 s >>= λ x. body_of text n x.1 >>= λ y. Ok (also x.0 y.0, y.1))

-- the statements of a body behind its variables
abbrev pub body_at : Bytes → Read Block
body_at text s = body_of text (length s.toks + 1) s

-- what a function may have: 63 variables, 256 operators and 256 calls
abbrev pub fresh : State → State
fresh s = record { toks = s.toks; variables = 63; operators = 256; calls = 256; end = s.end }

-- a function behind its word
unfoldable pub function_at : Bytes → Read FuncTree
function_at text s =
    name_at text (fresh s) >>= λ n. skip_at 40 n.1 >>= λ a. list_of (decl_at text) a >>= λ p. claims_at text p.1 >>= λ c.
    skip_at 123 c.1 >>= λ b. locals_at text b >>= λ l. body_at text l.1 >>= λ y.
    Ok (record { name = n.0; params = p.0; locals = l.0; claims = c.0; body = y.0 }, y.1)

-- the functions of a source, from one to 64
abbrev pub functions_at : Bytes → Read (List FuncTree)
functions_at text s = some_behind word.Fn (function_at text) 63 s

abbrev pub whole : List FuncTree → List Token → Reading UnitTree
whole fs [] = Ok (record { functions = fs })
whole fs (t ∷ ts) = Err (fault.Expected t.span.from)

-- a source: its functions, and nothing behind them
unfoldable pub unit_of : Bytes → List Token → Reading UnitTree
unit_of text toks = functions_at text (record { toks = toks; variables = 0; operators = 0; calls = 0; end = end_of text }) >>= λ y. whole y.0 y.1.toks
