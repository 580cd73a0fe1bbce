-- A unit that is read is within the limits.
use Rattle.std.proofs.Common.{◌≡◌, ℕ, zero, suc, ◌+◌, ◌≤◌, ◌==◌, List, [], ◌∷◌, length, Ok, refl, ap, arith, length-append}
use Rattle.std.specs.List.{AllByRecursion}
use Rattle.rely_num.specs.Texts.{Bytes}
use Rattle.rely_num.specs.declared.span.Span.{Span}
use Rattle.rely_lexer.specs.declared.token.Token.{Token}
use Rattle.rely_lexer.specs.declared.token.TokenKind.{TokenKind}
use Rattle.rely_lexer.specs.declared.token.TokenKind.TheVariants as kind
use Rattle.rely_num.specs.declared.word.Word.{Word}
use Rattle.rely_num.specs.declared.word.Word.TheVariants as word
use Rattle.rely_lexer.specs.Readings.{AreTokensFrom}
use Rattle.rely_tree.specs.Tree.{IdentTree, ExprTree, BinTree, StmtTree, SetTree, SetElemTree, IfTree, WhileTree, RepeatTree, ReturnTree, CallTree, Block, ended, also, FuncTree, UnitTree}
use Rattle.rely_parser.specs.State.{State, Read, end_of, place, first_at, skip_at, ident_at, name_at, operator_at, skip_word_at, count_at}
use Rattle.rely_parser.specs.Grammar.{variable_at, prim_of, prim_at, kind_at, more_at, level_at, bracketed, expr_at}
use Rattle.rely_parser.specs.Statements.{one_call, list_of, args_at, call_at, set_at, assignment_at, condition_at, items_at, otherwise_at, if_at, while_at, repeat_at, word_stmt, stmt_of, stmt_with, braces, block_at, stmt_at}
use Rattle.rely_parser.specs.Declarations.{decl_at}
use Rattle.rely_parser.specs.Units.{claims_at, each_behind, some_behind, locals_at, last_at, body_of, body_at, fresh, function_at, functions_at, whole, unit_of}
use Rattle.rely_parser.proofs.LimitsOn.{On, on-ok, on-err, on-then, on-choose, on-map, on-if}
use Rattle.rely_parser.proofs.LimitsTokens.{IsSmall, AreSmall, tokens-small}
use Rattle.rely_parser.proofs.LimitsState.{Costs, ◌⨾◌, costs-none, costs-as, first-costs, skip-costs, skip_word-costs, name-costs, operator-costs, kind-costs, count-costs, one_call-costs}
use Rattle.rely_parser.proofs.LimitsLists.{total, total-none, total-one, all-front, list-costs}
use Rattle.rely_parser.proofs.LimitsDecls.{HasLength, IsProbable, decl-reads, locals-costs, claims-costs}
use Rattle.rely_tree.specs.Counts.{expr_operators, exprs_operators, stmt_operators, block_operators, stmt_calls, block_calls}
use Rattle.rely_tree.specs.Limits.{IsExpr, IsStmt, AreStmts, IsBody, IsFunction, IsUnit}

-- ---- expressions

-- an expression that is read costs its operators
abbrev OfExpr : State → ExprTree × State → Type 0
OfExpr s y = Costs (expr_operators y.0) 0 0 (IsExpr y.0) s y.1

-- so does each that a reader reads
record ReadsExpr (r : Read ExprTree) : Type 0 where
  costs : (s : State) → On (r s) (OfExpr s)

variable-costs : (inner : ℕ → Read ExprTree) (name : IdentTree) → ((p : ℕ) → ReadsExpr (inner p)) → (s a : State) → Costs 0 0 0 (Unit {0}) s a →
    On (variable_at inner name a) (OfExpr s)
variable-costs inner name k s a p =
    on-choose (skip_at 91 a) _ _ _ (skip-costs 91 a)
    (λ b q. on-then (inner (place a) b) _ _ ((k (place a)).costs b) (λ i r. on-then (skip_at 93 i.1) _ _ (skip-costs 93 i.1) (λ e t.
    on-ok _ _ (costs-as (p ⨾ q ⨾ r ⨾ t) (omega arith) (omega arith) (omega arith) (λ h. h.0.1)))))
    (on-ok _ _ p)

prim_of-costs : (text : Bytes) (inner : ℕ → Read ExprTree) → ((p : ℕ) → ReadsExpr (inner p)) → (s after : State) (span : Span) (k : TokenKind) → Costs 0 0 0 (IsSmall k) s after →
    On (prim_of text inner after span k) (OfExpr s)
prim_of-costs text inner i s after span (kind.Number n) p = on-ok _ _ p
prim_of-costs text inner i s after span kind.Name p = variable-costs inner (ident_at text span) i s after p
prim_of-costs text inner i s after span (kind.Mark m) p =
    on-if (m == 40) _ _ _
    (λ _. on-then (inner span.from after) _ _ ((i span.from).costs after) (λ x q. on-then (skip_at 41 x.1) _ _ (skip-costs 41 x.1) (λ e r.
    on-ok _ _ (costs-as (p ⨾ q ⨾ r) (omega arith) (omega arith) (omega arith) (λ h. h.0.1)))))
    (λ _. on-err _ _)
prim_of-costs text inner i s after span _ p = on-err _ _

prim-reads : (text : Bytes) (inner : ℕ → Read ExprTree) → ((p : ℕ) → ReadsExpr (inner p)) → ReadsExpr (prim_at text inner)
unfolding prim_at
prim-reads text inner i = record { costs = λ s. on-then (first_at s) _ _ (first-costs s) (λ x p. prim_of-costs text inner i s x.1 x.0.span x.0.kind p) }

-- behind a left operand that was read from an earlier state
more-costs : (text : Bytes) (h : ℕ) (next : Read ExprTree) → ReadsExpr next → (n : ℕ) (left : ExprTree) (s a : State) → OfExpr s (left, a) →
    On (more_at text h next n left a) (OfExpr s)
unfolding more_at
more-costs text h next k zero left s a p = on-ok _ _ p
more-costs text h next k (suc n) left s a p =
    on-choose (operator_at h a) _ _ _ (operator-costs h a)
    (λ o q. on-then (kind_at text o.0.1.from o.1) _ _ (kind-costs text o.0.1.from o.1) (λ m r. on-then (next m.1) _ _ (k.costs m.1) (λ x t.
    more-costs text h next k n (BinTree o.0.0 o.0.1 m.0 left x.0) s x.1
    (costs-as (p ⨾ q ⨾ r ⨾ t) (omega arith) (omega arith) (omega arith) (λ h. (h.0.0.0, h.1))))))
    (on-ok _ _ p)

level-reads : (text : Bytes) (inner : ℕ → Read ExprTree) → ((p : ℕ) → ReadsExpr (inner p)) → (h : ℕ) → ReadsExpr (level_at text inner h)
unfolding level_at
level-reads text inner i zero = prim-reads text inner i
level-reads text inner i (suc h) = record {
  costs = λ s.
      on-then (level_at text inner h s) _ _ ((level-reads text inner i h).costs s) (λ x p.
      more-costs text (suc h) (level_at text inner h) (level-reads text inner i h) (length x.1.toks) x.0 s x.1 p);
}

bracketed-reads : (text : Bytes) (d p : ℕ) → ReadsExpr (bracketed text d p)
unfolding bracketed
bracketed-reads text zero p = record { costs = λ s. on-err _ _ }
bracketed-reads text (suc d) p = record { costs = (level-reads text (bracketed text d) (bracketed-reads text d) 7).costs }

expr-costs : (text : Bytes) (d : ℕ) (s : State) → On (expr_at text d s) (OfExpr s)
expr-costs text d = (level-reads text (bracketed text d) (bracketed-reads text d) 7).costs

-- ---- statements

-- a statement that is read costs its operators and calls
abbrev OfStmt : State → StmtTree × State → Type 0
OfStmt s y = Costs (stmt_operators y.0) (stmt_calls y.0) 0 (IsStmt y.0) s y.1

-- and a block those of its statements
abbrev OfBlock : State → Block × State → Type 0
OfBlock s y = Costs (block_operators y.0) (block_calls y.0) 0 (AreStmts y.0) s y.1

record ReadsBlock (r : Read Block) : Type 0 where
  costs : (s : State) → On (r s) (OfBlock s)

record ReadsStmt (r : Read StmtTree) : Type 0 where
  costs : (s : State) → On (r s) (OfStmt s)

total-exprs : (es : List ExprTree) → total expr_operators es ≡ exprs_operators es
total-exprs [] = refl
total-exprs (e ∷ es) = ap (λ n. expr_operators e + n) (total-exprs es)

args-costs : (text : Bytes) (d p : ℕ) (s : State) → On (args_at text d p s) (λ y. Costs (exprs_operators y.0) 0 0 (AllByRecursion IsExpr y.0) s y.1)
unfolding args_at
args-costs text zero p s = on-err _ _
args-costs text (suc d) p s =
    on-map (list_of (expr_at text d) s) _ (list-costs expr_operators (λ _. 0) IsExpr (expr_at text d) (record { costs = expr-costs text d }) s)
    (λ y q. costs-as q (total-exprs y.0) refl (total-none y.0) (λ h. h))

call-costs : (text : Bytes) (d : ℕ) (target : IdentTree) (word : Span) (s a : State) → Costs 0 0 0 (Unit {0}) s a → On (call_at text d target word a) (OfStmt s)
unfolding call_at
call-costs text d target word s a p =
    on-then (one_call word.from a) _ _ (one_call-costs word.from a) (λ b q. on-then (name_at text b) _ _ (name-costs text b) (λ n r.
    on-then (skip_at 40 n.1) _ _ (skip-costs 40 n.1) (λ c t. on-then (args_at text d (place n.1) c) _ _ (args-costs text d (place n.1) c) (λ x u.
    on-then (skip_at 59 x.1) _ _ (skip-costs 59 x.1) (λ e v.
    on-ok _ _ (costs-as (p ⨾ q ⨾ r ⨾ t ⨾ u ⨾ v) (omega arith) (omega arith) (omega arith) (λ h. h.0.1)))))))

set-costs : (text : Bytes) (d : ℕ) (target : IdentTree) (s a : State) → Costs 0 0 0 (Unit {0}) s a → On (set_at text d target a) (OfStmt s)
unfolding set_at
set-costs text d target s a p =
    on-choose (skip_word_at word.Call a) _ _ _ (skip_word-costs word.Call a)
    (λ b q. on-then (first_at a) _ _ (first-costs a) (λ x _. call-costs text d target x.0.span s b (costs-as (p ⨾ q) refl refl refl (λ h. tt))))
    (on-then (expr_at text d a) _ _ (expr-costs text d a) (λ x q. on-then (skip_at 59 x.1) _ _ (skip-costs 59 x.1) (λ e r.
    on-ok _ _ (costs-as (p ⨾ q ⨾ r) (omega arith) (omega arith) (omega arith) (λ h. h.0.1)))))

assignment-costs : (text : Bytes) (d : ℕ) (target : IdentTree) (s a : State) → Costs 0 0 0 (Unit {0}) s a → On (assignment_at text d target a) (OfStmt s)
unfolding assignment_at
assignment-costs text d target s a p =
    on-choose (skip_at 61 a) _ _ _ (skip-costs 61 a) (λ b q. set-costs text d target s b (costs-as (p ⨾ q) refl refl refl (λ h. tt)))
    (on-then (skip_at 91 a) _ _ (skip-costs 91 a) (λ b q. on-then (bracketed text d (place a) b) _ _ ((bracketed-reads text d (place a)).costs b) (λ i r.
    on-then (skip_at 93 i.1) _ _ (skip-costs 93 i.1) (λ c t. on-then (skip_at 61 c) _ _ (skip-costs 61 c) (λ f u.
    on-then (expr_at text d f) _ _ (expr-costs text d f) (λ x v. on-then (skip_at 59 x.1) _ _ (skip-costs 59 x.1) (λ e w.
    on-ok _ _ (costs-as (p ⨾ q ⨾ r ⨾ t ⨾ u ⨾ v ⨾ w) (omega arith) (omega arith) (omega arith) (λ h. (h.0.0.0.0.1, h.0.1))))))))))

condition-costs : (text : Bytes) (d : ℕ) (s : State) → On (condition_at text d s) (OfExpr s)
unfolding condition_at
condition-costs text d s =
    on-then (skip_at 40 s) _ _ (skip-costs 40 s) (λ a p. on-then (bracketed text d (place s) a) _ _ ((bracketed-reads text d (place s)).costs a) (λ x q.
    on-then (skip_at 41 x.1) _ _ (skip-costs 41 x.1) (λ e r.
    on-ok _ _ (costs-as (p ⨾ q ⨾ r) (omega arith) (omega arith) (omega arith) (λ h. h.0.1)))))

items-costs : (stmt : Read StmtTree) → ReadsStmt stmt → (n : ℕ) (s : State) → On (items_at stmt n s) (OfBlock s)
unfolding items_at
items-costs stmt k zero s = on-err _ _
items-costs stmt k (suc n) s =
    on-choose (skip_at 125 s) _ _ _ (skip-costs 125 s) (λ e p. on-ok _ _ p)
    (on-then (stmt s) _ _ (k.costs s) (λ x p. on-then (items_at stmt n x.1) _ _ (items-costs stmt k n x.1) (λ y q.
    on-ok _ _ (p ⨾ q))))

otherwise-costs : (block : Read Block) → ReadsBlock block → (s : State) → On (otherwise_at block s) (OfBlock s)
unfolding otherwise_at
otherwise-costs block k s =
    on-choose (skip_word_at word.Else s) _ _ _ (skip_word-costs word.Else s)
    (λ a p. on-map (block a) _ (k.costs a) (λ y q. costs-as (p ⨾ q) (omega arith) (omega arith) (omega arith) (λ h. h.1)))
    (on-ok _ _ (costs-none s))

if-costs : (text : Bytes) (d : ℕ) (block : Read Block) → ReadsBlock block → (span : Span) (s a : State) → Costs 0 0 0 (Unit {0}) s a → On (if_at text d block span a) (OfStmt s)
unfolding if_at
if-costs text d block k span s a p =
    on-then (condition_at text d a) _ _ (condition-costs text d a) (λ c q. on-then (block c.1) _ _ (k.costs c.1) (λ held r.
    on-then (otherwise_at block held.1) _ _ (otherwise-costs block k held.1) (λ other t.
    on-ok _ _ (costs-as (p ⨾ q ⨾ r ⨾ t) (omega arith) (omega arith) (omega arith) (λ h. (h.0.0.1, h.0.1, h.1))))))

while-costs : (text : Bytes) (d : ℕ) (block : Read Block) → ReadsBlock block → (span : Span) (s a : State) → Costs 0 0 0 (Unit {0}) s a → On (while_at text d block span a) (OfStmt s)
unfolding while_at
while-costs text d block k span s a p =
    on-then (condition_at text d a) _ _ (condition-costs text d a) (λ c q. on-then (skip_word_at word.Max c.1) _ _ (skip_word-costs word.Max c.1) (λ b r.
    on-then (count_at b) _ _ (count-costs b) (λ n t. on-then (block n.1) _ _ (k.costs n.1) (λ y u.
    on-ok _ _ (costs-as (p ⨾ q ⨾ r ⨾ t ⨾ u) (omega arith) (omega arith) (omega arith) (λ h. (h.0.0.0.1, h.1)))))))

repeat-costs : (block : Read Block) → ReadsBlock block → (span : Span) (s a : State) → Costs 0 0 0 (Unit {0}) s a → On (repeat_at block span a) (OfStmt s)
unfolding repeat_at
repeat-costs block k span s a p =
    on-then (count_at a) _ _ (count-costs a) (λ n q. on-then (block n.1) _ _ (k.costs n.1) (λ y r.
    on-ok _ _ (costs-as (p ⨾ q ⨾ r) (omega arith) (omega arith) (omega arith) (λ h. h.1))))

word_stmt-costs : (text : Bytes) (d : ℕ) (block : Read Block) → ReadsBlock block → (s a : State) (span : Span) (w : Word) → Costs 0 0 0 (Unit {0}) s a →
    On (word_stmt text d block a span w) (OfStmt s)
word_stmt-costs text d block k s a span word.If p = if-costs text d block k span s a p
word_stmt-costs text d block k s a span word.While p = while-costs text d block k span s a p
word_stmt-costs text d block k s a span word.Repeat p = repeat-costs block k span s a p
word_stmt-costs text d block k s a span _ p = on-err _ _

stmt_of-costs : (text : Bytes) (d : ℕ) (block : Read Block) → ReadsBlock block → (s a : State) (span : Span) (t : TokenKind) → Costs 0 0 0 (Unit {0}) s a →
    On (stmt_of text d block a span t) (OfStmt s)
stmt_of-costs text d block k s a span kind.Name p = assignment-costs text d (ident_at text span) s a p
stmt_of-costs text d block k s a span (kind.Word w) p = word_stmt-costs text d block k s a span w p
stmt_of-costs text d block k s a span _ p = on-err _ _

stmt_with-reads : (text : Bytes) (d : ℕ) (block : Read Block) → ReadsBlock block → ReadsStmt (stmt_with text d block)
unfolding stmt_with
stmt_with-reads text d block k = record {
  costs = λ s.
      on-then (first_at s) _ _ (first-costs s) (λ x p. stmt_of-costs text d block k s x.1 x.0.span x.0.kind (costs-as p refl refl refl (λ h. tt)));
}

-- the braces, by how many more may be opened inside
block-from : (text : Bytes) (d : ℕ) → ((p : ℕ) → ReadsBlock (braces text d p)) → ReadsBlock (block_at text d)
block-from text d k = record {
  costs = λ s. on-then (skip_at 123 s) _ _ (skip-costs 123 s) (λ a p.
      on-map (braces text d (place s) a) _ ((k (place s)).costs a) (λ y q. costs-as (p ⨾ q) (omega arith) (omega arith) (omega arith) (λ h. h.1)));
}

braces-reads : (text : Bytes) (d p : ℕ) → ReadsBlock (braces text d p)
unfolding braces
braces-reads text zero p = record { costs = λ s. on-err _ _ }
braces-reads text (suc d) p = record {
  costs = λ s.
      items-costs (stmt_with text d (block_at text d)) (stmt_with-reads text d (block_at text d) (block-from text d (braces-reads text d))) (length s.toks + 1) s;
}

stmt-reads : (text : Bytes) (d : ℕ) → ReadsStmt (stmt_at text d)
stmt-reads text d = record { costs = (stmt_with-reads text d (block_at text d) (block-from text d (braces-reads text d))).costs }

-- ---- bodies

abbrev OfBody : State → Block × State → Type 0
OfBody s y = Costs (block_operators y.0) (block_calls y.0) 0 (IsBody y.0) s y.1

last-costs : (text : Bytes) (span : Span) (s a : State) → Costs 0 0 0 (Unit {0}) s a → On (last_at text span a) (λ y. OfBody s (also y.0 ended, y.1))
unfolding last_at
last-costs text span s a p =
    on-then (expr_at text 63 a) _ _ (expr-costs text 63 a) (λ x q. on-then (skip_at 59 x.1) _ _ (skip-costs 59 x.1) (λ b r.
    on-then (skip_at 125 b) _ _ (skip-costs 125 b) (λ e t.
    on-ok _ _ (costs-as (p ⨾ q ⨾ r ⨾ t) (omega arith) (omega arith) (omega arith) (λ h. h.0.0.1)))))

-- a statement that is no return stands before a body
body-more : (s : StmtTree) (rest : Block) → IsStmt s → IsBody rest → IsBody (also s rest)
body-more (SetTree at i e) rest p q = (p, q)
body-more (SetElemTree at i x e) rest p q = (p, q)
body-more (IfTree at e s t) rest p q = (p, q)
body-more (WhileTree at e n s) rest p q = (p, q)
body-more (RepeatTree at n s) rest p q = (p, q)
body-more (ReturnTree at e) rest p q = absurd p
body-more (CallTree at i word callee es) rest p q = (p, q)

body_of-costs : (text : Bytes) (n : ℕ) (s : State) → On (body_of text n s) (OfBody s)
unfolding body_of
body_of-costs text zero s = on-err _ _
body_of-costs text (suc n) s =
    on-choose (skip_word_at word.Return s) _ _ _ (skip_word-costs word.Return s)
    (λ a p. on-then (first_at s) _ _ (first-costs s) (λ x _. on-then (last_at text x.0.span a) _ _ (last-costs text x.0.span s a p) (λ y q. on-ok _ _ q)))
    (on-then (stmt_at text 63 s) _ _ ((stmt-reads text 63).costs s) (λ x p. on-then (body_of text n x.1) _ _ (body_of-costs text n x.1) (λ y q.
    on-ok _ _ (costs-as (p ⨾ q) refl refl refl (λ h. body-more x.0 y.0 h.0 h.1)))))

-- ---- functions and units

-- where the numbers were small they still are, and what is said holds
record Says (P : Type 0) (s a : State) : Type 0 where
  small : AreSmall s.toks → AreSmall a.toks
  says : AreSmall s.toks → P

-- a function is counted anew, and leaves what may stand outside of it
function-within : (f : FuncTree) (s a : State) →
    Costs (block_operators f.body) (block_calls f.body) (length f.params + length f.locals)
    (AllByRecursion HasLength f.params × AllByRecursion HasLength f.locals × (AllByRecursion IsProbable f.claims × (1 ≤ length f.claims) × (length f.claims ≤ 7 + 1)) × IsBody f.body) (fresh s) a →
    Says (IsFunction f) s a
function-within f s a p = record {
  small = p.small;
  says = λ h. let q = p.says h in record {
    few_vars = omega (arith, length-append f.params f.locals, p.variables_left);
    lengths = all-front HasLength f.params f.locals q.0 q.1;
    few_claims = omega (arith, q.2.2);
    claimed = q.2.1;
    bounds = q.2.0;
    few_operators = omega (arith, p.operators_left);
    few_calls = omega (arith, p.calls_left);
    body = q.3;
  };
}

function-reads : (text : Bytes) (s : State) → On (function_at text s) (λ y. Says (IsFunction y.0) s y.1)
unfolding function_at
function-reads text s =
    on-then (name_at text (fresh s)) _ _ (name-costs text (fresh s)) (λ n p. on-then (skip_at 40 n.1) _ _ (skip-costs 40 n.1) (λ a q.
    on-then (list_of (decl_at text) a) _ _ (list-costs (λ _. 0) (λ _. 1) HasLength (decl_at text) (decl-reads text) a) (λ x r.
    on-then (claims_at text x.1) _ _ (claims-costs text x.1) (λ c t. on-then (skip_at 123 c.1) _ _ (skip-costs 123 c.1) (λ b u.
    on-then (locals_at text b) _ _ (locals-costs text b) (λ l v. on-then (body_at text l.1) _ _ (body_of-costs text (length l.1.toks + 1) l.1) (λ y w.
    on-ok _ _ (function-within (record { name = n.0; params = x.0; locals = l.0; claims = c.0; body = y.0 }) s y.1
    (costs-as (p ⨾ q ⨾ r ⨾ t ⨾ u ⨾ v ⨾ w) (omega (arith, total-none x.0, total-none c.0, total-none l.0)) (omega arith)
    (omega (arith, total-one x.0, total-none c.0, total-one l.0)) (λ h. (h.0.0.0.0.1, h.0.1.0, h.0.0.0.1, h.1)))))))))))

-- no more functions than so many
functions-each : (text : Bytes) (n : ℕ) (s : State) → On (each_behind word.Fn (function_at text) n s) (λ y. Says (AllByRecursion IsFunction y.0 × (length y.0 ≤ n)) s y.1)
unfolding each_behind
functions-each text zero s =
    on-choose (skip_word_at word.Fn s) _ _ _ (skip_word-costs word.Fn s) (λ a p. on-err _ _) (on-ok _ _ (record { small = λ h. h; says = λ h. (tt, omega arith) }))
functions-each text (suc n) s =
    on-choose (skip_word_at word.Fn s) _ _ _ (skip_word-costs word.Fn s)
    (λ a p. on-then (function_at text a) _ _ (function-reads text a) (λ x q. on-then (each_behind word.Fn (function_at text) n x.1) _ _ (functions-each text n x.1) (λ y r.
    on-ok _ _ (record {
      small = λ h. r.small (q.small (p.small h));
      says = λ h. ((q.says (p.small h), (r.says (q.small (p.small h))).0), omega (arith, (r.says (q.small (p.small h))).1));
    }))))
    (on-ok _ _ (record { small = λ h. h; says = λ h. (tt, omega arith) }))

functions-some : (text : Bytes) (n : ℕ) (s : State) → On (some_behind word.Fn (function_at text) n s) (λ y. Says (AllByRecursion IsFunction y.0 × (length y.0 ≤ n + 1)) s y.1)
unfolding some_behind
functions-some text n s =
    on-then (skip_word_at word.Fn s) _ _ (skip_word-costs word.Fn s)
    (λ a p. on-then (function_at text a) _ _ (function-reads text a) (λ x q. on-then (each_behind word.Fn (function_at text) n x.1) _ _ (functions-each text n x.1) (λ y r.
    on-ok _ _ (record {
      small = λ h. r.small (q.small (p.small h));
      says = λ h. ((q.says (p.small h), (r.says (q.small (p.small h))).0), omega (arith, (r.says (q.small (p.small h))).1));
    }))))

whole-on : (fs : List FuncTree) (ts : List Token) (Q : UnitTree → Type 0) → Q (record { functions = fs }) → On (whole fs ts) Q
whole-on fs [] Q q = on-ok Q _ q
whole-on fs (t ∷ ts) Q q = on-err Q _

unit-within : (text : Bytes) (toks : List Token) → On (unit_of text toks) (λ u. AreSmall toks → IsUnit u)
unfolding unit_of
unit-within text toks =
    let s : State = record { toks = toks; variables = 0; operators = 0; calls = 0; end = end_of text } in
    on-then (functions_at text s) _ _ (functions-some text 63 s) (λ y p.
    whole-on y.0 y.1.toks _ (λ h. record { few_functions = omega (arith, (p.says h).1); functions = (p.says h).0 }))

-- the tree that the tokens of a text spell is within the limits
pub parsed_unit : (text : Bytes) (toks : List Token) (u : UnitTree) → AreTokensFrom text 0 toks → unit_of text toks ≡ Ok u → IsUnit u
parsed_unit text toks u lexed read = (unit-within text toks).at u read (tokens-small text 0 toks lexed)
