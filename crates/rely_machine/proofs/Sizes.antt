-- What the recursion over a text falls by: the functions before the running one with all their text, and the text that is left.
use Rattle.std.proofs.Common.{◌≡◌, ℕ, zero, suc, ◌+◌, ◌<◌, ◌≤◌, List, [], ◌∷◌, take, Some, subst, arith}
use Rattle.std.specs.Prelude.{slice_get, sum_by}
use Rattle.std.proofs.lemmas.List.Sums.{sum_by-cons}
use Rattle.rely_kernel.specs.declared.kernel.Kernel.{Kernel}
use Rattle.rely_kernel.specs.declared.kernel.St.{St}
use Rattle.rely_kernel.specs.Text.{Stmt, Block, done, ◌then◌, block_of, stmt_of}

abbrev mutual
  pub stmt_size : Stmt → ℕ
  stmt_size (Stmt.Set v e) = 1
  stmt_size (Stmt.SetElem a i e) = 1
  stmt_size (Stmt.If c s t) = 3 + block_size s + block_size t
  stmt_size (Stmt.While c n s) = 3 + block_size s
  stmt_size (Stmt.Repeat n s) = 3 + block_size s
  stmt_size (Stmt.Result e) = 1
  stmt_size (Stmt.Call v place es) = 1
  stmt_size Stmt.Enter = 1

  pub block_size : Block → ℕ
  block_size done = 1
  block_size (s then rest) = 1 + stmt_size s + block_size rest

abbrev pub body_size : Kernel → ℕ
body_size k = 1 + block_size (block_of k.body)

-- the text of the functions before one
abbrev pub before : List Kernel → ℕ → ℕ
before fs f = sum_by body_size (take f fs)

pub some_size : (b : Block) → 0 < block_size b
some_size done = omega arith
some_size (s then rest) = omega arith

-- a statement is smaller than its block
pub stmt_smaller : (ss : List St) (i : ℕ) (s : St) → slice_get ss i ≡ Some s → stmt_size (stmt_of s.what) < block_size (block_of ss)
stmt_smaller [] i s e = absurd (cc)
stmt_smaller (x ∷ ss) zero s e = subst (λ (y : St). stmt_size (stmt_of y.what) < 1 + stmt_size (stmt_of x.what) + block_size (block_of ss)) (same e) (omega arith)
  where
    same : Some x ≡ Some s → x ≡ s
    same h = cc
stmt_smaller (x ∷ ss) (suc i) s e = let h = stmt_smaller ss i s e in omega (arith, h)

-- a function's text stands before a later one
pub body_before : (fs : List Kernel) (g f : ℕ) (k : Kernel) → slice_get fs g ≡ Some k → g < f → before fs g + body_size k ≤ before fs f
body_before [] g f k e below = absurd (cc)
body_before (x ∷ fs) zero zero k e below = absurd (omega (arith, below))
body_before (x ∷ fs) zero (suc f) k e below =
    subst (λ y. 0 + body_size y ≤ sum_by body_size (x ∷ take f fs)) (same e) (let h = sum_by-cons body_size x (take f fs) in omega (arith, h))
  where
    same : Some x ≡ Some k → x ≡ k
    same h = cc
body_before (x ∷ fs) (suc g) zero k e below = absurd (omega (arith, below))
body_before (x ∷ fs) (suc g) (suc f) k e below =
    let h = body_before fs g f k e (omega (arith, below)) in
    let a = sum_by-cons body_size x (take g fs) in
    let b = sum_by-cons body_size x (take f fs) in
    omega (arith, h, a, b)
