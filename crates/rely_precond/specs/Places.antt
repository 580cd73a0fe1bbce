-- The text of a kernel, each statement with the place of its first token.
use Rattle.std.specs.Prelude.{ℕ, List, [], ◌∷◌}
use Rattle.rely_num.specs.declared.span.Span.{Span}
use Rattle.rely_kernel.specs.declared.kernel.St.{St}
use Rattle.rely_kernel.specs.declared.kernel.StKind.{StKind, Row_of-St, end_of-St, more_of-St}
use Rattle.rely_kernel.specs.declared.kernel.StKind.TheVariants as st
use Rattle.rely_kernel.specs.Text.{Expr, Stmt, Block, done, ◌then◌, expr_of, exprs_of}

mutual
  pub data Line : Type 0 where
    Set : ℕ → Expr → Line
    SetElem : ℕ → Expr → Expr → Line
    If : Expr → Lines → Lines → Line
    While : Expr → ℕ → Lines → Line
    Repeat : ℕ → Lines → Line
    Result : Expr → Line
    Call : ℕ → ℕ → List Expr → Line

  pub data Lines : Type 0 where
    end : Lines
    line : Span → Line → Lines → Lines

-- without the places
abbrev mutual
  pub plain : Line → Stmt
  plain (Line.Set v e) = Stmt.Set v e
  plain (Line.SetElem a i e) = Stmt.SetElem a i e
  plain (Line.If c s t) = Stmt.If c (all_plain s) (all_plain t)
  plain (Line.While c n s) = Stmt.While c n (all_plain s)
  plain (Line.Repeat n s) = Stmt.Repeat n (all_plain s)
  plain (Line.Result e) = Stmt.Result e
  plain (Line.Call v place es) = Stmt.Call v place es

  pub all_plain : Lines → Block
  all_plain end = done
  all_plain (line at s rest) = plain s then all_plain rest

abbrev mutual
  pub line_of : StKind → Line
  line_of (st.Set v e) = Line.Set v (expr_of e)
  line_of (st.SetElem a i e) = Line.SetElem a (expr_of i) (expr_of e)
  line_of (st.If' c _ s _ t) = Line.If (expr_of c) (row_lines s) (row_lines t)
  line_of (st.While' c n _ s) = Line.While (expr_of c) n (row_lines s)
  line_of (st.Repeat' n _ s) = Line.Repeat n (row_lines s)
  line_of (st.Result e) = Line.Result (expr_of e)
  line_of (st.Call v c es) = Line.Call v c (exprs_of es)

  pub row_lines : {n : _} → Row_of-St n → Lines
  row_lines end_of-St = end
  row_lines (more_of-St at s rest) = line at (line_of s) (row_lines rest)

abbrev pub lines_of : List St → Lines
lines_of [] = end
lines_of (s ∷ ss) = line s.at (line_of s.what) (lines_of ss)
