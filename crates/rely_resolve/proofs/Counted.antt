-- A text has as many sites as operators, and as many call places as calls.
use Rattle.std.proofs.Common.{◌≡◌, ℕ, ◌+◌, List, [], ◌∷◌, ◌++◌, length, refl, arith, length-append, append_assoc}
use Rattle.std.proofs.lemmas.List.{append-nil, map-append}
use Rattle.rely_hard.specs.declared.hardware.Hardware.{Hardware}
use Rattle.rely_tree.specs.Tree.{ExprTree, NumTree, NameTree, ElemTree, BinTree, StmtTree, SetTree, SetElemTree, IfTree, WhileTree, RepeatTree, ReturnTree, CallTree, Block, ended, also}
use Rattle.rely_tree.specs.Counts.{expr_operators, exprs_operators, stmt_operators, block_operators, stmt_calls, block_calls}
use Rattle.rely_resolve.specs.Kernels.{Done, site_of, expr_sites, exprs_sites, stmt_sites, block_sites, stmt_sites_called, block_sites_called}

pub expr_sites_len : (h : Hardware) (e : ExprTree) → length (expr_sites h e) ≡ expr_operators e
expr_sites_len h (NumTree z) = refl
expr_sites_len h (NameTree i) = refl
expr_sites_len h (ElemTree i e) = expr_sites_len h e
expr_sites_len h (BinTree op span kind l r) =
    omega (arith, length-append (expr_sites h l) (site_of h op kind ∷ expr_sites h r), expr_sites_len h l, expr_sites_len h r)

pub exprs_sites_len : (h : Hardware) (es : List ExprTree) → length (exprs_sites h es) ≡ exprs_operators es
exprs_sites_len h [] = refl
exprs_sites_len h (e ∷ es) = omega (arith, length-append (expr_sites h e) (exprs_sites h es), expr_sites_len h e, exprs_sites_len h es)

mutual
  pub stmt_sites_len : (h : Hardware) (s : StmtTree) → length (stmt_sites h s) ≡ stmt_operators s
  stmt_sites_len h (SetTree at i e) = expr_sites_len h e
  stmt_sites_len h (SetElemTree at i x e) = omega (arith, length-append (expr_sites h x) (expr_sites h e), expr_sites_len h x, expr_sites_len h e)
  stmt_sites_len h (IfTree at e s t) =
      omega (arith, length-append (expr_sites h e ++ block_sites h s) (block_sites h t), length-append (expr_sites h e) (block_sites h s), expr_sites_len h e, block_sites_len h s, block_sites_len h t)
  stmt_sites_len h (WhileTree at e n s) = omega (arith, length-append (expr_sites h e) (block_sites h s), expr_sites_len h e, block_sites_len h s)
  stmt_sites_len h (RepeatTree at n s) = block_sites_len h s
  stmt_sites_len h (ReturnTree at e) = expr_sites_len h e
  stmt_sites_len h (CallTree at i word callee es) = exprs_sites_len h es

  pub block_sites_len : (h : Hardware) (b : Block) → length (block_sites h b) ≡ block_operators b
  block_sites_len h ended = refl
  block_sites_len h (also s rest) = omega (arith, length-append (stmt_sites h s) (block_sites h rest), stmt_sites_len h s, block_sites_len h rest)

mutual
  pub stmt_called_len : (done : Done) (s : StmtTree) → length (stmt_sites_called done s) ≡ stmt_calls s
  stmt_called_len done (SetTree at i e) = refl
  stmt_called_len done (SetElemTree at i x e) = refl
  stmt_called_len done (IfTree at e s t) =
      omega (arith, length-append (block_sites_called done s) (block_sites_called done t), block_called_len done s, block_called_len done t)
  stmt_called_len done (WhileTree at e n s) = block_called_len done s
  stmt_called_len done (RepeatTree at n s) = block_called_len done s
  stmt_called_len done (ReturnTree at e) = refl
  stmt_called_len done (CallTree at i word callee es) = refl

  pub block_called_len : (done : Done) (b : Block) → length (block_sites_called done b) ≡ block_calls b
  block_called_len done ended = refl
  block_called_len done (also s rest) = omega (arith, length-append (stmt_sites_called done s) (block_sites_called done rest), stmt_called_len done s, block_called_len done rest)

pub ruleset joins = (append_assoc, append-nil, map-append)
