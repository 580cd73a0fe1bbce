-- The shapes of statements, at the constructors that the program writes.
use Rattle.std.proofs.Common.{◌≡◌, ℕ, List, refl, ap, ◌∙◌, Bor, map}
use Rattle.rely_num.specs.declared.span.Span.{Span}
use Rattle.rely_tree.specs.declared.expr.Ident.{Ident}
use Rattle.rely_tree.specs.declared.expr.Expr.{Expr}
use Rattle.rely_tree.specs.declared.stmt.Stmt.{Stmt, Set, SetElem, If, While, Repeat, Return, Call, Row_of-Stmt, end_of-Stmt, more_of-Stmt, items-the_row-Stmt, items_hidden-the_row-Stmt-0}
use Rattle.rely_tree.specs.declared.stmt.Stmt.TheBlock.{hidden-the_row-Stmt-0}
use Rattle.rely_tree.specs.Tree.{SetTree, SetElemTree, IfTree, WhileTree, RepeatTree, ReturnTree, CallTree, also}
use Rattle.rely_tree.specs.Shape.{ident_shape, expr_shape, stmt_shape, row_shape, block_shape}

-- a row is its items
pub row_is : (n : _) (row : Row_of-Stmt n) → row_shape row ≡ block_shape (items-the_row-Stmt n row)
unfolding row_shape
row_is n end_of-Stmt = refl
row_is n (more_of-Stmt s row) = ap (also (stmt_shape s)) (row_is _ row)

-- the row of a list is the list
pub hidden_is : (ss : List Stmt) → row_shape (hidden-the_row-Stmt-0 ss) ≡ block_shape ss
hidden_is ss = row_is _ (hidden-the_row-Stmt-0 ss) ∙ ap block_shape (items_hidden-the_row-Stmt-0 ss)

pub stmt_shape-Set : (at : Span) (name : Ident) (e : Expr) → stmt_shape (Set at name e) ≡ SetTree at (ident_shape name) (expr_shape e)
unfolding stmt_shape
stmt_shape-Set at name e = refl

pub stmt_shape-SetElem : (at : Span) (name : Ident) (i e : Expr) → stmt_shape (SetElem at name i e) ≡ SetElemTree at (ident_shape name) (expr_shape i) (expr_shape e)
unfolding stmt_shape
stmt_shape-SetElem at name i e = refl

pub stmt_shape-If : (at : Span) (e : Expr) (held other : Bor (List Stmt)) → stmt_shape (If at e held other) ≡ IfTree at (expr_shape e) (block_shape held.now) (block_shape other.now)
unfolding stmt_shape row_shape
stmt_shape-If at e held other = ap (λ b. IfTree at (expr_shape e) b (row_shape (hidden-the_row-Stmt-0 other.now))) (hidden_is held.now) ∙ ap (IfTree at (expr_shape e) (block_shape held.now)) (hidden_is other.now)

pub stmt_shape-While : (at : Span) (e : Expr) (most : ℕ) (body : Bor (List Stmt)) → stmt_shape (While at e most body) ≡ WhileTree at (expr_shape e) most (block_shape body.now)
unfolding stmt_shape row_shape
stmt_shape-While at e most body = ap (WhileTree at (expr_shape e) most) (hidden_is body.now)

pub stmt_shape-Repeat : (at : Span) (turns : ℕ) (body : Bor (List Stmt)) → stmt_shape (Repeat at turns body) ≡ RepeatTree at turns (block_shape body.now)
unfolding stmt_shape row_shape
stmt_shape-Repeat at turns body = ap (RepeatTree at turns) (hidden_is body.now)

pub stmt_shape-Return : (at : Span) (e : Expr) → stmt_shape (Return at e) ≡ ReturnTree at (expr_shape e)
unfolding stmt_shape
stmt_shape-Return at e = refl

pub stmt_shape-Call : (at : Span) (name : Ident) (word : Span) (callee : Ident) (args : Bor (List Expr)) →
    stmt_shape (Call at name word callee args) ≡ CallTree at (ident_shape name) word (ident_shape callee) (map expr_shape args.now)
unfolding stmt_shape
stmt_shape-Call at name word callee args = refl

-- what a statement says, by how it is made
pub ruleset shapes = (stmt_shape-Set, stmt_shape-SetElem, stmt_shape-If, stmt_shape-While, stmt_shape-Repeat, stmt_shape-Return, stmt_shape-Call)
