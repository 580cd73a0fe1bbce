-- The open marks of a tree: where it leaves a kind or a memory open.
use Rattle.std.specs.Prelude.{List, [], ◌∷◌, ◌++◌}
use Rattle.std.specs.List.{AllByRecursion, flat_map}
use Rattle.rely_num.specs.OpenMarks.{AreOpenMarks}
use Rattle.rely_num.specs.Texts.{Bytes}
use Rattle.rely_num.specs.declared.span.Span.{Span}
use Rattle.rely_tree.specs.Tree.{KindTree, PlainTree, NamedTree, FreeTree, ExprTree, NumTree, NameTree, ElemTree, BinTree, StmtTree, SetTree, SetElemTree, IfTree, WhileTree, RepeatTree, ReturnTree, CallTree, Block, ended, also, DeclTree, FuncTree, UnitTree}

abbrev pub kind_marks : KindTree → List Span
kind_marks PlainTree = []
kind_marks (NamedTree i) = []
kind_marks (FreeTree span) = span ∷ []

-- those of its operators, in order of the text
abbrev pub expr_marks : ExprTree → List Span
expr_marks (NumTree n) = []
expr_marks (NameTree i) = []
expr_marks (ElemTree i e) = expr_marks e
expr_marks (BinTree op span kind l r) = expr_marks l ++ kind_marks kind ++ expr_marks r

abbrev mutual
  pub stmt_marks : StmtTree → List Span
  stmt_marks (SetTree at i e) = expr_marks e
  stmt_marks (SetElemTree at i x e) = expr_marks x ++ expr_marks e
  stmt_marks (IfTree at e s t) = expr_marks e ++ block_marks s ++ block_marks t
  stmt_marks (WhileTree at e n s) = expr_marks e ++ block_marks s
  stmt_marks (RepeatTree at n s) = block_marks s
  stmt_marks (ReturnTree at e) = expr_marks e
  stmt_marks (CallTree at i word callee es) = flat_map expr_marks es

  pub block_marks : Block → List Span
  block_marks ended = []
  block_marks (also s rest) = stmt_marks s ++ block_marks rest

-- those of the memories of variables
abbrev pub decls_marks : List DeclTree → List Span
decls_marks = flat_map (λ d. kind_marks d.memory)

-- those of the parameters, of the locals, and of the operators
abbrev pub function_marks : FuncTree → List Span
function_marks f = decls_marks f.params ++ decls_marks f.locals ++ block_marks f.body

-- the marks of each function are open marks of the text
abbrev pub IsMarked : Bytes → UnitTree → Type 0
IsMarked text u = AllByRecursion (λ f. AreOpenMarks text (function_marks f)) u.functions
