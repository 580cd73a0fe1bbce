-- The numbers of a body.
use Rattle.rely_tree.specs.Tree.{StmtTree, SetTree, SetElemTree, IfTree, WhileTree, RepeatTree, ReturnTree, CallTree, Block, ended, also}
use Rattle.rely_tree.specs.Limits.{IsStmt, AreStmts, IsBody, HasNumbers, HaveNumbers}

-- statements without a return
mutual
  pub numbers_of_stmt : (s : StmtTree) → IsStmt s → HasNumbers s
  numbers_of_stmt (SetTree at i e) is = is
  numbers_of_stmt (SetElemTree at i x e) is = is
  numbers_of_stmt (IfTree at e s t) is = (is.0, numbers_of_block s is.1, numbers_of_block t is.2)
  numbers_of_stmt (WhileTree at e n s) is = (is.0, numbers_of_block s is.1)
  numbers_of_stmt (RepeatTree at n s) is = numbers_of_block s is
  numbers_of_stmt (ReturnTree at e) is = absurd is
  numbers_of_stmt (CallTree at i word callee es) is = is

  pub numbers_of_block : (b : Block) → AreStmts b → HaveNumbers b
  numbers_of_block ended is = tt
  numbers_of_block (also s rest) is = (numbers_of_stmt s is.0, numbers_of_block rest is.1)

-- a body
pub numbers_of_body : (b : Block) → IsBody b → HaveNumbers b
numbers_of_body ended is = absurd is
numbers_of_body (also (SetTree at i e) rest) is = (is.0, numbers_of_body rest is.1)
numbers_of_body (also (SetElemTree at i x e) rest) is = (is.0, numbers_of_body rest is.1)
numbers_of_body (also (IfTree at e s t) rest) is = (numbers_of_stmt (IfTree at e s t) is.0, numbers_of_body rest is.1)
numbers_of_body (also (WhileTree at e n s) rest) is = (numbers_of_stmt (WhileTree at e n s) is.0, numbers_of_body rest is.1)
numbers_of_body (also (RepeatTree at n s) rest) is = (numbers_of_block s is.0, numbers_of_body rest is.1)
numbers_of_body (also (ReturnTree at e) ended) is = (is, tt)
numbers_of_body (also (ReturnTree at e) (also s rest)) is = absurd is.0
numbers_of_body (also (CallTree at i word callee es) rest) is = (is.0, numbers_of_body rest is.1)
