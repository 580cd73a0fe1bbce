-- How many operators and calls a text has.
use Rattle.std.specs.Prelude.{ℕ, ◌+◌, List, [], ◌∷◌}
use Rattle.rely_tree.specs.Tree.{ExprTree, NumTree, NameTree, ElemTree, BinTree, StmtTree, SetTree, SetElemTree, IfTree, WhileTree, RepeatTree, ReturnTree, CallTree, Block, ended, also}

abbrev pub expr_operators : ExprTree → ℕ
expr_operators (NumTree n) = 0
expr_operators (NameTree i) = 0
expr_operators (ElemTree i e) = expr_operators e
expr_operators (BinTree op span kind l r) = expr_operators l + 1 + expr_operators r

abbrev pub exprs_operators : List ExprTree → ℕ
exprs_operators [] = 0
exprs_operators (e ∷ es) = expr_operators e + exprs_operators es

abbrev mutual
  pub stmt_operators : StmtTree → ℕ
  stmt_operators (SetTree at i e) = expr_operators e
  stmt_operators (SetElemTree at i x e) = expr_operators x + expr_operators e
  stmt_operators (IfTree at e s t) = expr_operators e + block_operators s + block_operators t
  stmt_operators (WhileTree at e n s) = expr_operators e + block_operators s
  stmt_operators (RepeatTree at n s) = block_operators s
  stmt_operators (ReturnTree at e) = expr_operators e
  stmt_operators (CallTree at i word callee es) = exprs_operators es

  pub block_operators : Block → ℕ
  block_operators ended = 0
  block_operators (also s rest) = stmt_operators s + block_operators rest

abbrev mutual
  pub stmt_calls : StmtTree → ℕ
  stmt_calls (SetTree at i e) = 0
  stmt_calls (SetElemTree at i x e) = 0
  stmt_calls (IfTree at e s t) = block_calls s + block_calls t
  stmt_calls (WhileTree at e n s) = block_calls s
  stmt_calls (RepeatTree at n s) = block_calls s
  stmt_calls (ReturnTree at e) = 0
  stmt_calls (CallTree at i word callee es) = 1

  pub block_calls : Block → ℕ
  block_calls ended = 0
  block_calls (also s rest) = stmt_calls s + block_calls rest
