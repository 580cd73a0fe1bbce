-- Syntax trees as plain data: no place in an arena, no reference.
use Rattle.std.specs.Prelude.{ℕ, List, ◌++◌, Option}
use Rattle.rely_num.specs.Texts.{Bytes}
use Rattle.rely_num.specs.declared.op.Op.{Op}
use Rattle.rely_num.specs.declared.span.Span.{Span}

-- a name where the source writes it
pub record IdentTree : Type 0 where
  pub text : Bytes
  pub span : Span

-- the one named exact, the one of a name, or an open one
pub data KindTree : Type 0 where
  PlainTree : KindTree
  NamedTree : IdentTree → KindTree
  FreeTree : Span → KindTree

-- an expression
pub data ExprTree : Type 0 where
  NumTree : ℕ → ExprTree
  NameTree : IdentTree → ExprTree
  ElemTree : IdentTree → ExprTree → ExprTree
  BinTree : Op → Span → KindTree → ExprTree → ExprTree → ExprTree

mutual
  -- a statement
  pub data StmtTree : Type 0 where
    SetTree : Span → IdentTree → ExprTree → StmtTree
    SetElemTree : Span → IdentTree → ExprTree → ExprTree → StmtTree
    IfTree : Span → ExprTree → Block → Block → StmtTree
    WhileTree : Span → ExprTree → ℕ → Block → StmtTree
    RepeatTree : Span → ℕ → Block → StmtTree
    ReturnTree : Span → ExprTree → StmtTree
    CallTree : Span → IdentTree → Span → IdentTree → List ExprTree → StmtTree

  -- statements in order
  pub data Block : Type 0 where
    ended : Block
    also : StmtTree → Block → Block

-- a declaration of a variable
pub record DeclTree : Type 0 where
  pub name : IdentTree
  pub length : Option ℕ
  pub memory : KindTree

-- a claim; no target is the result
pub record SaidTree : Type 0 where
  pub target : Option IdentTree
  pub bound : ℕ
  pub needs : List IdentTree

-- a function
pub record FuncTree : Type 0 where
  pub name : IdentTree
  pub params : List DeclTree
  pub locals : List DeclTree
  pub claims : List SaidTree
  pub body : Block

-- parameters, then locals
abbrev pub variables : FuncTree → List DeclTree
variables f = f.params ++ f.locals

-- a whole source
pub record UnitTree : Type 0 where
  pub functions : List FuncTree
