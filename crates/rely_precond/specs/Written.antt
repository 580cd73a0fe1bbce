-- What the statements of a text write, each behind those inside it.
use Rattle.std.specs.Prelude.{ℕ, List, [], ◌∷◌, ◌++◌, length}
use Rattle.rely_num.specs.Sets.{only}
use Rattle.rely_kernel.specs.Paths.{writes}
use Rattle.rely_kernel.specs.Text.{Stmt, Block, done, ◌then◌}
use Rattle.rely_precond.specs.declared.written.Written.{Written}

-- ---- the parts of a statement

abbrev pub first_block : Stmt → Block
first_block (Stmt.Set v e) = done
first_block (Stmt.SetElem a i e) = done
first_block (Stmt.If c s t) = s
first_block (Stmt.While c n s) = s
first_block (Stmt.Repeat n s) = s
first_block (Stmt.Result e) = done
first_block (Stmt.Call v place es) = done
first_block Stmt.Enter = done

abbrev pub second_block : Stmt → Block
second_block (Stmt.Set v e) = done
second_block (Stmt.SetElem a i e) = done
second_block (Stmt.If c s t) = t
second_block (Stmt.While c n s) = done
second_block (Stmt.Repeat n s) = done
second_block (Stmt.Result e) = done
second_block (Stmt.Call v place es) = done
second_block Stmt.Enter = done

-- what it assigns itself
abbrev pub assigns : Stmt → ℕ
assigns (Stmt.Set v e) = only v
assigns (Stmt.SetElem a i e) = only a
assigns (Stmt.If c s t) = 0
assigns (Stmt.While c n s) = 0
assigns (Stmt.Repeat n s) = 0
assigns (Stmt.Result e) = only 63
assigns (Stmt.Call v place es) = only v
assigns Stmt.Enter = 0

-- ---- the table

abbrev mutual
  pub first_sets : Stmt → List Written
  first_sets (Stmt.Set v e) = []
  first_sets (Stmt.SetElem a i e) = []
  first_sets (Stmt.If c s t) = all_sets s
  first_sets (Stmt.While c n s) = all_sets s
  first_sets (Stmt.Repeat n s) = all_sets s
  first_sets (Stmt.Result e) = []
  first_sets (Stmt.Call v place es) = []
  first_sets Stmt.Enter = []

  pub second_sets : Stmt → List Written
  second_sets (Stmt.Set v e) = []
  second_sets (Stmt.SetElem a i e) = []
  second_sets (Stmt.If c s t) = all_sets t
  second_sets (Stmt.While c n s) = []
  second_sets (Stmt.Repeat n s) = []
  second_sets (Stmt.Result e) = []
  second_sets (Stmt.Call v place es) = []
  second_sets Stmt.Enter = []

  -- of all statements of a block, those inside a statement before it
  pub all_sets : Block → List Written
  all_sets done = []
  all_sets (s then rest) =
      (first_sets s ++ second_sets s
      ++ record { set = record { bits = writes s }; first = length (first_sets s); second = length (second_sets s) } ∷ [])
      ++ all_sets rest

-- of a statement: what it writes, and how many statements are in its blocks
abbrev pub set_of : Stmt → Written
set_of s = record { set = record { bits = writes s }; first = length (first_sets s); second = length (second_sets s) }
