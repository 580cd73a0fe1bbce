-- What runs anywhere in the body of a linked function.
use Rattle.std.specs.Prelude.{ℕ, ℤ, List, [], ◌∷◌, length, FitsSigned, IsTrue}
use Rattle.std.specs.Int.{w64}
use Rattle.std.specs.List.{AllByRecursion}
use Rattle.rely_kernel.specs.declared.kernel.Kernel.{Kernel}
use Rattle.rely_kernel.specs.Text.{Stmt, Block, done, ◌then◌}
use Rattle.rely_kernel.specs.Valid.{is_scalar, is_array, ExprFits, AllFit, PlaceFits}

-- ---- numbers

-- each has 64 bits
abbrev pub All-fit : List ℤ → Type 0
All-fit = AllByRecursion (FitsSigned w64)

-- a stack with the numbers on it, the last one on top
abbrev pub pushed : List ℤ → List ℤ → List ℤ
pushed [] st = st
pushed (z ∷ zs) st = pushed zs (z ∷ st)

-- ---- statements

-- numbers in range, and calls of earlier functions; other than in a whole body, a result may stand anywhere
abbrev mutual
  pub Fine : List Kernel → ℕ → Kernel → Stmt → Type 0
  Fine fs f k (Stmt.Set v e) = IsTrue (is_scalar k v) × ExprFits k e
  Fine fs f k (Stmt.SetElem a i e) = IsTrue (is_array k a) × ExprFits k i × ExprFits k e
  Fine fs f k (Stmt.If c x y) = ExprFits k c × AllFine fs f k x × AllFine fs f k y
  Fine fs f k (Stmt.While c n x) = ExprFits k c × AllFine fs f k x
  Fine fs f k (Stmt.Repeat n x) = AllFine fs f k x
  Fine fs f k (Stmt.Result e) = ExprFits k e
  Fine fs f k (Stmt.Call v place es) = IsTrue (is_scalar k v) × PlaceFits fs f k (place, length es) × AllFit k es
  Fine fs f k Stmt.Enter = Unit {0}

  pub AllFine : List Kernel → ℕ → Kernel → Block → Type 0
  AllFine fs f k done = Unit {0}
  AllFine fs f k (x then rest) = Fine fs f k x × AllFine fs f k rest
