-- The table of a text: the statements that a run meets. One that takes no step and changes nothing, whatever the store, has no entry, and where a
-- number chooses a branch, the branch's statements stand in the place of the choice.
use Rattle.std.specs.Prelude.{◌≡◌, ℕ, zero, suc, pos, negsuc, ◌==◌, ◌||◌, Bool, true, false, if◌then◌else◌, List, [], ◌∷◌, ◌++◌, length, map}
use Rattle.rely_kernel.specs.declared.kernel.Kernel.{Kernel}
use Rattle.rely_kernel.specs.Text.{Expr, Stmt, Block, done, ◌then◌, block_of, stmt_of}
use Rattle.rely_machine.specs.declared.live.Live.{Live}
use Rattle.rely_machine.specs.declared.live.Part.{Part}
use Rattle.rely_machine.specs.declared.live.Text.{Text}

-- ---- entries

-- a statement, and how many entries its blocks have
pub record Entry : Type 0 where
  pub what : Stmt
  pub first : ℕ
  pub second : ℕ

-- a statement's entry, and behind it those of its blocks
abbrev pub with_blocks : Stmt → List Entry → List Entry → List Entry
with_blocks x first second = record { what = x; first = length first; second = length second } ∷ first ++ second

-- ---- numbers as conditions

-- the number 0
abbrev pub is_zero : Expr → Bool
is_zero (Expr.Num (pos zero)) = true
is_zero (Expr.Num (pos (suc n))) = false
is_zero (Expr.Num (negsuc n)) = false
is_zero (Expr.Read v) = false
is_zero (Expr.Elem a i) = false
is_zero (Expr.Bin site x y) = false

-- a number chooses one of two tables; what isn't a number is met, and has another
abbrev pub choice : Expr → List Entry → List Entry → List Entry → List Entry
choice (Expr.Num (pos zero)) first second met = second
choice (Expr.Num (pos (suc n))) first second met = first
choice (Expr.Num (negsuc n)) first second met = first
choice (Expr.Read v) first second met = met
choice (Expr.Elem a i) first second met = met
choice (Expr.Bin site x y) first second met = met

-- ---- tables

abbrev mutual
  pub table_of : Block → List Entry
  table_of done = []
  table_of (s then rest) = entries_of s ++ table_of rest

  pub entries_of : Stmt → List Entry
  entries_of (Stmt.Set v e) = with_blocks (Stmt.Set v e) [] []
  entries_of (Stmt.SetElem a i e) = with_blocks (Stmt.SetElem a i e) [] []
  entries_of (Stmt.If c s t) = choice c (table_of s) (table_of t) (with_blocks (Stmt.If c s t) (table_of s) (table_of t))
  entries_of (Stmt.While c n s) = if n == 0 || is_zero c then [] else with_blocks (Stmt.While c n s) (table_of s) []
  entries_of (Stmt.Repeat n s) = if n == 0 then [] else with_blocks (Stmt.Repeat n s) (table_of s) []
  entries_of (Stmt.Result e) = with_blocks (Stmt.Result e) [] []
  entries_of (Stmt.Call v place es) = with_blocks (Stmt.Call v place es) [] []
  entries_of Stmt.Enter = with_blocks Stmt.Enter [] []

-- of a statement's first block
abbrev pub first_of : Stmt → List Entry
first_of (Stmt.Set v e) = []
first_of (Stmt.SetElem a i e) = []
first_of (Stmt.If c s t) = table_of s
first_of (Stmt.While c n s) = table_of s
first_of (Stmt.Repeat n s) = table_of s
first_of (Stmt.Result e) = []
first_of (Stmt.Call v place es) = []
first_of Stmt.Enter = []

-- of its second
abbrev pub second_of : Stmt → List Entry
second_of (Stmt.Set v e) = []
second_of (Stmt.SetElem a i e) = []
second_of (Stmt.If c s t) = table_of t
second_of (Stmt.While c n s) = []
second_of (Stmt.Repeat n s) = []
second_of (Stmt.Result e) = []
second_of (Stmt.Call v place es) = []
second_of Stmt.Enter = []

abbrev pub body_table : Kernel → List Entry
body_table k = table_of (block_of k.body)

-- ---- what the code holds

abbrev pub entry_of : Live → Entry
entry_of l = record { what = stmt_of l.what.now; first = l.first; second = l.second }

abbrev pub entries : List Live → List Entry
entries live = map entry_of live

pub record HasTable (text : Text) : Type 0 where
  pub live : entries text.live.now ≡ table_of (block_of text.statements.now)

pub record HasTables (part : Part) : Type 0 where
  pub first : entries part.first.now ≡ first_of (stmt_of part.what.now)
  pub second : entries part.second.now ≡ second_of (stmt_of part.what.now)
