-- The lines of each statement, as the code takes it apart.
use Rattle.std.proofs.Common.{◌≡◌, ℕ, List, [], ◌∷◌, refl, ap, ◌∙◌}
use Rattle.rely_kernel.specs.declared.kernel.Ex.{Ex}
use Rattle.rely_kernel.specs.declared.kernel.St.{St}
use Rattle.rely_kernel.specs.declared.kernel.StKind.{StKind, Row_of-St, end_of-St, more_of-St, items-the_row-St}
use Rattle.rely_kernel.specs.declared.kernel.StKind.TheVariants as st
use Rattle.rely_kernel.specs.declared.kernel.StKind.TheBlock.{hidden-the_row-St-0, items_hidden-the_row-St-0}
use Rattle.rely_kernel.specs.Text.{Stmt, ◌then◌, expr_of, stmt_of, row_of, block_of}
use Rattle.rely_precond.specs.Places.{Line, line, plain, all_plain, line_of, row_lines, lines_of}

row_line : {n : _} (k : Row_of-St n) → row_lines k ≡ lines_of (items-the_row-St n k)
row_line end_of-St = refl
row_line (more_of-St at what rest) = ap (λ b. line at (line_of what) b) (row_line rest)

pub hidden_lines : (ss : List St) → row_lines (hidden-the_row-St-0 ss) ≡ lines_of ss
hidden_lines ss = row_line (hidden-the_row-St-0 ss) ∙ ap lines_of (items_hidden-the_row-St-0 ss)

pub lines-If : (c : Ex) (s t : List St) → line_of (st.If c s t) ≡ Line.If (expr_of c) (lines_of s) (lines_of t)
lines-If c s t = rw (← hidden_lines s, ← hidden_lines t) refl

pub lines-While : (c : Ex) (n : ℕ) (s : List St) → line_of (st.While c n s) ≡ Line.While (expr_of c) n (lines_of s)
lines-While c n s = rw (← hidden_lines s) refl

pub lines-Repeat : (n : ℕ) (s : List St) → line_of (st.Repeat n s) ≡ Line.Repeat n (lines_of s)
lines-Repeat n s = rw (← hidden_lines s) refl

mutual
  pub line_plain : (s : StKind) → plain (line_of s) ≡ stmt_of s
  line_plain (st.Set v e) = refl
  line_plain (st.SetElem a i e) = refl
  line_plain (st.If' c _ s _ t) = λ i. Stmt.If (expr_of c) (row_plain s i) (row_plain t i)
  line_plain (st.While' c n _ s) = λ i. Stmt.While (expr_of c) n (row_plain s i)
  line_plain (st.Repeat' n _ s) = λ i. Stmt.Repeat n (row_plain s i)
  line_plain (st.Result e) = refl
  line_plain (st.Call v c es) = refl

  row_plain : {n : _} → (s : Row_of-St n) → all_plain (row_lines s) ≡ row_of s
  row_plain end_of-St = refl
  row_plain (more_of-St at s rest) = λ i. line_plain s i then row_plain rest i

-- the text with places is the text
pub lines_plain : (ss : List St) → all_plain (lines_of ss) ≡ block_of ss
lines_plain [] = refl
lines_plain (s ∷ ss) = λ i. line_plain s.what i then lines_plain ss i
