-- The open marks of a kernel are those of the function that it is made of.
use Rattle.std.specs.Prelude.{◌≡◌, ℕ, List, slice_get, Some}
use Rattle.rely_num.specs.OpenMarks.{AreOpenMarks}
use Rattle.rely_num.specs.Texts.{Bytes}
use Rattle.rely_num.specs.declared.span.Span.{Span}
use Rattle.rely_tree.specs.Marks.{function_marks, IsMarked}
use Rattle.rely_tree.specs.Tree.{FuncTree, UnitTree}

-- they are the open marks of the function of that name in the unit
pub record AreMarkedAs (u : UnitTree) (name : Bytes) (marks : List Span) : Type 0 where
  pub place : ℕ
  pub function : FuncTree
  pub stands : slice_get u.functions place ≡ Some function
  pub named : function.name.text ≡ name
  pub same : marks ≡ function_marks function

-- in each text that has the open marks of the unit's functions where the unit has them, these are open marks
abbrev pub AreOpenWhereMarked : UnitTree → List Span → Type 0
AreOpenWhereMarked u marks = (text : Bytes) → IsMarked text u → AreOpenMarks text marks
