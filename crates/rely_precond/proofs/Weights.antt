-- How much text a walk has before it: each call of the code has less.
use Rattle.std.proofs.Common.{◌≡◌, ℕ, suc, ◌+◌, List, ap, ◌∙◌}
use Rattle.rely_kernel.specs.declared.kernel.Ex.{Ex}
use Rattle.rely_kernel.specs.declared.kernel.St.{St}
use Rattle.rely_kernel.specs.declared.kernel.StKind.{StKind}
use Rattle.rely_kernel.specs.declared.kernel.StKind.TheVariants as st
use Rattle.rely_precond.specs.Places.{Line, Lines, end, line, line_of, lines_of}
use Rattle.rely_precond.proofs.LineLemmas.{lines-If, lines-While, lines-Repeat}

abbrev mutual
  pub weight : Line → ℕ
  weight (Line.Set v e) = 0
  weight (Line.SetElem a i e) = 0
  weight (Line.If c s t) = weights s + weights t
  weight (Line.While c n s) = weights s
  weight (Line.Repeat n s) = weights s
  weight (Line.Result e) = 0
  weight (Line.Call v place es) = 0

  pub weights : Lines → ℕ
  weights end = 0
  weights (line at s rest) = suc (weight s) + weights rest

pub weight-If : (what : StKind) (e : Ex) (s t : List St) → what ≡ st.If e s t → weight (line_of what) ≡ weights (lines_of s) + weights (lines_of t)
weight-If what e s t is = ap weight (ap line_of is ∙ lines-If e s t)

pub weight-While : (what : StKind) (e : Ex) (n : ℕ) (s : List St) → what ≡ st.While e n s → weight (line_of what) ≡ weights (lines_of s)
weight-While what e n s is = ap weight (ap line_of is ∙ lines-While e n s)

pub weight-Repeat : (what : StKind) (n : ℕ) (s : List St) → what ≡ st.Repeat n s → weight (line_of what) ≡ weights (lines_of s)
weight-Repeat what n s is = ap weight (ap line_of is ∙ lines-Repeat n s)
