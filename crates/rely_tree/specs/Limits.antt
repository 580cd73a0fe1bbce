-- Which trees are those of a source: the limits that the parser keeps.
use Rattle.std.specs.Prelude.{◌^◌, ◌≤◌, ◌<◌, length, IfSome}
use Rattle.std.specs.List.{AllByRecursion}
use Rattle.rely_num.specs.Bounds.{S}
use Rattle.rely_tree.specs.Tree.{ExprTree, NumTree, NameTree, ElemTree, BinTree, StmtTree, SetTree, SetElemTree, IfTree, WhileTree, RepeatTree, ReturnTree, CallTree, Block, ended, also, FuncTree, UnitTree, variables}
use Rattle.rely_tree.specs.Counts.{block_operators, block_calls}

-- its numbers are below 2^63
abbrev pub IsExpr : ExprTree → Type 0
IsExpr (NumTree n) = n < 2 ^ 63
IsExpr (NameTree i) = Unit {0}
IsExpr (ElemTree i e) = IsExpr e
IsExpr (BinTree op span kind l r) = IsExpr l × IsExpr r

-- the same of statements
abbrev mutual
  pub HasNumbers : StmtTree → Type 0
  HasNumbers (SetTree at i e) = IsExpr e
  HasNumbers (SetElemTree at i x e) = IsExpr x × IsExpr e
  HasNumbers (IfTree at e s t) = IsExpr e × HaveNumbers s × HaveNumbers t
  HasNumbers (WhileTree at e n s) = IsExpr e × HaveNumbers s
  HasNumbers (RepeatTree at n s) = HaveNumbers s
  HasNumbers (ReturnTree at e) = IsExpr e
  HasNumbers (CallTree at i word callee es) = AllByRecursion IsExpr es

  pub HaveNumbers : Block → Type 0
  HaveNumbers ended = Unit {0}
  HaveNumbers (also s rest) = HasNumbers s × HaveNumbers rest

-- the same of a statement that is no return and has none inside
abbrev mutual
  pub IsStmt : StmtTree → Type 0
  IsStmt (SetTree at i e) = IsExpr e
  IsStmt (SetElemTree at i x e) = IsExpr x × IsExpr e
  IsStmt (IfTree at e s t) = IsExpr e × AreStmts s × AreStmts t
  IsStmt (WhileTree at e n s) = IsExpr e × AreStmts s
  IsStmt (RepeatTree at n s) = AreStmts s
  IsStmt (ReturnTree at e) = ⊥
  IsStmt (CallTree at i word callee es) = AllByRecursion IsExpr es

  pub AreStmts : Block → Type 0
  AreStmts ended = Unit {0}
  AreStmts (also s rest) = IsStmt s × AreStmts rest

-- such statements, and one return at the end
abbrev pub IsBody : Block → Type 0
IsBody ended = ⊥
IsBody (also (ReturnTree at e) ended) = IsExpr e
IsBody (also s rest) = IsStmt s × IsBody rest

pub record IsFunction (f : FuncTree) : Type 0 where
  pub few_vars : length (variables f) ≤ 63
  pub lengths : AllByRecursion (λ d. IfSome d.length (λ n. (1 ≤ n) × (n ≤ 4096))) (variables f)
  pub few_claims : length f.claims ≤ 8
  pub claimed : 1 ≤ length f.claims
  pub bounds : AllByRecursion (λ c. c.bound ≤ S) f.claims
  pub few_operators : block_operators f.body ≤ 256
  pub few_calls : block_calls f.body ≤ 256
  pub body : IsBody f.body

-- a source within the limits
pub record IsUnit (u : UnitTree) : Type 0 where
  pub few_functions : length u.functions ≤ 64
  pub functions : AllByRecursion IsFunction u.functions
