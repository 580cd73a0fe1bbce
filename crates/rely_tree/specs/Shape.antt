-- What a tree of the program says, wherever its parts stand.
use Rattle.std.specs.Prelude.{List, [], ◌∷◌, option_map, map}
use Rattle.rely_tree.specs.declared.expr.Ident.{Ident}
use Rattle.rely_tree.specs.declared.expr.Kind.{Kind}
use Rattle.rely_tree.specs.declared.expr.Kind.TheVariants.{Plain, Named, Free}
use Rattle.rely_tree.specs.declared.expr.Expr.{Expr, Num, Name, Elem', Bin'}
use Rattle.rely_tree.specs.declared.stmt.Stmt.{Stmt, Set, SetElem, If', While', Repeat', Return, Call, Row_of-Stmt, end_of-Stmt, more_of-Stmt}
use Rattle.rely_tree.specs.declared.unit.Decl.{Decl}
use Rattle.rely_tree.specs.declared.unit.Said.{Said}
use Rattle.rely_tree.specs.declared.unit.Func.{Func}
use Rattle.rely_tree.specs.declared.unit.Unit as declared
use Rattle.rely_tree.specs.Tree.{IdentTree, KindTree, PlainTree, NamedTree, FreeTree, ExprTree, NumTree, NameTree, ElemTree, BinTree, StmtTree, SetTree, SetElemTree, IfTree, WhileTree, RepeatTree, ReturnTree, CallTree, Block, ended, also, DeclTree, SaidTree, FuncTree, UnitTree}

abbrev pub ident_shape : Ident → IdentTree
ident_shape i = record { text = i.text.now; span = i.span }

abbrev pub kind_shape : Kind → KindTree
kind_shape Plain = PlainTree
kind_shape (Named i) = NamedTree (ident_shape i)
kind_shape (Free span) = FreeTree span

abbrev pub expr_shape : Expr → ExprTree
expr_shape (Num n) = NumTree n
expr_shape (Name i) = NameTree (ident_shape i)
expr_shape (Elem' i p e) = ElemTree (ident_shape i) (expr_shape e)
expr_shape (Bin' op span kind p l q r) = BinTree op span (kind_shape kind) (expr_shape l) (expr_shape r)

unfoldable mutual
  pub stmt_shape : Stmt → StmtTree
  stmt_shape (Set at name e) = SetTree at (ident_shape name) (expr_shape e)
  stmt_shape (SetElem at name i e) = SetElemTree at (ident_shape name) (expr_shape i) (expr_shape e)
  stmt_shape (If' at e p n held q m other) = IfTree at (expr_shape e) (row_shape held) (row_shape other)
  stmt_shape (While' at e most p n body) = WhileTree at (expr_shape e) most (row_shape body)
  stmt_shape (Repeat' at turns p n body) = RepeatTree at turns (row_shape body)
  stmt_shape (Return at e) = ReturnTree at (expr_shape e)
  stmt_shape (Call at name word callee args) = CallTree at (ident_shape name) word (ident_shape callee) (map expr_shape args.now)

  pub row_shape : {n : _} → Row_of-Stmt n → Block
  row_shape end_of-Stmt = ended
  row_shape (more_of-Stmt s row) = also (stmt_shape s) (row_shape row)

-- the statements of a list
abbrev pub block_shape : List Stmt → Block
block_shape [] = ended
block_shape (s ∷ ss) = also (stmt_shape s) (block_shape ss)

abbrev pub decl_shape : Decl → DeclTree
decl_shape d = record { name = ident_shape d.name; length = d.length; memory = kind_shape d.memory }

abbrev pub said_shape : Said → SaidTree
said_shape s = record { target = option_map ident_shape s.target; bound = s.bound; needs = map ident_shape s.needs.now }

abbrev pub func_shape : Func → FuncTree
func_shape f = record {
  name = ident_shape f.name;
  params = map decl_shape f.params.now;
  locals = map decl_shape f.locals.now;
  claims = map said_shape f.claims.now;
  body = block_shape f.body.now;
}

abbrev pub unit_shape : declared.Unit → UnitTree
unit_shape u = record { functions = map func_shape u.functions.now }
