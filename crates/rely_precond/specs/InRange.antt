-- Statements whose numbers are in range, wherever they stand in a valid function.
use Rattle.std.specs.Prelude.{◌<◌, Bool, true, false, length}
use Rattle.std.specs.List.{AllByRecursion}
use Rattle.rely_kernel.specs.declared.kernel.Kernel.{Kernel}
use Rattle.rely_kernel.specs.Text.{Expr, Stmt, Block, done, ◌then◌}

abbrev pub ExprInRange : Kernel → Expr → Type 0
ExprInRange k (Expr.Num z) = Unit {0}
ExprInRange k (Expr.Read v) = v < length k.vars
ExprInRange k (Expr.Elem a i) = (a < length k.vars) × ExprInRange k i
ExprInRange k (Expr.Bin site x y) = ExprInRange k x × ExprInRange k y

abbrev mutual
  pub StmtInRange : Kernel → Stmt → Type 0
  StmtInRange k (Stmt.Set v e) = (v < length k.vars) × ExprInRange k e
  StmtInRange k (Stmt.SetElem a i e) = (a < length k.vars) × ExprInRange k i × ExprInRange k e
  StmtInRange k (Stmt.If c s t) = ExprInRange k c × BlockInRange k s × BlockInRange k t
  StmtInRange k (Stmt.While c n s) = ExprInRange k c × BlockInRange k s
  StmtInRange k (Stmt.Repeat n s) = BlockInRange k s
  StmtInRange k (Stmt.Result e) = ExprInRange k e
  StmtInRange k (Stmt.Call v place es) = (v < length k.vars) × (place < length k.calls) × AllByRecursion (ExprInRange k) es
  StmtInRange k Stmt.Enter = ⊥

  pub BlockInRange : Kernel → Block → Type 0
  BlockInRange k done = Unit {0}
  BlockInRange k (s then rest) = StmtInRange k s × BlockInRange k rest

-- neither a choice nor a loop
abbrev pub is_plain : Stmt → Bool
is_plain (Stmt.Set v e) = true
is_plain (Stmt.SetElem a i e) = true
is_plain (Stmt.If c s t) = false
is_plain (Stmt.While c n s) = false
is_plain (Stmt.Repeat n s) = false
is_plain (Stmt.Result e) = true
is_plain (Stmt.Call v place es) = true
is_plain Stmt.Enter = false
