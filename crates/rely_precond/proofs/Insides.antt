-- The walk through a choice or a loop, as code takes it apart.
use Rattle.std.proofs.Common.{◌≡◌, ℕ, zero, suc, ◌<◌, true, false, List, ◌++◌, length, refl, sym, ap, subst, ◌∙◌, true≢false}
use Rattle.rely_num.specs.declared.conj.Conj.{Conj}
use Rattle.rely_num.specs.declared.span.Span.{Span}
use Rattle.rely_kernel.specs.declared.kernel.Kernel.{Kernel}
use Rattle.rely_kernel.specs.declared.kernel.Ex.{Ex}
use Rattle.rely_kernel.specs.declared.kernel.St.{St}
use Rattle.rely_kernel.specs.declared.kernel.StKind.{StKind}
use Rattle.rely_kernel.specs.declared.kernel.StKind.TheVariants as st
use Rattle.rely_kernel.specs.Paths.{use_of}
use Rattle.rely_kernel.specs.Text.{Stmt, expr_of, stmt_of, block_of}
use Rattle.rely_kernel.proofs.TextLemmas.{text-If, text-While, text-Repeat}
use Rattle.rely_precond.specs.InRange.{ExprInRange, StmtInRange, BlockInRange, is_plain}
use Rattle.rely_precond.specs.Inside.{is_idle, inside, beside}
use Rattle.rely_precond.specs.Places.{Line, line_of, lines_of}
use Rattle.rely_precond.specs.Walk.{and_then, stand, repeats, whiles, untouched, touched, joined, walk, walk_all}
use Rattle.rely_precond.specs.Written.{all_sets, first_sets, second_sets}
use Rattle.rely_precond.proofs.LineLemmas.{lines-If, lines-While, lines-Repeat}
use Rattle.rely_precond.proofs.Turning.{joined_some, joined_none}

pub idle_is : (k : Kernel) (at : Span) (what : StKind) (ps : List Conj) (work : ℕ) → is_idle (stmt_of what) ≡ true → stand at ps work ≡ walk k at (line_of what) ps work
idle_is k at (st.Set v e) ps work h = absurd (true≢false (sym h))
idle_is k at (st.SetElem a i e) ps work h = absurd (true≢false (sym h))
idle_is k at (st.If' c _ s _ t) ps work h = absurd (true≢false (sym h))
idle_is k at (st.While' c zero _ s) ps work h = refl
idle_is k at (st.While' c (suc n) _ s) ps work h = absurd (true≢false (sym h))
idle_is k at (st.Repeat' n _ s) ps work h = absurd (true≢false (sym h))
idle_is k at (st.Result e) ps work h = absurd (true≢false (sym h))
idle_is k at (st.Call v c es) ps work h = absurd (true≢false (sym h))

inside_is : (k : Kernel) (at : Span) (what : StKind) (ps : List Conj) (work : ℕ) → is_plain (stmt_of what) ≡ false → is_idle (stmt_of what) ≡ false
    → walk k at (line_of what) ps work ≡ joined at (untouched (line_of what) ps) (touched (line_of what) ps) (λ ts w. inside k at (line_of what) ts w) work
inside_is k at (st.Set v e) ps work p h = absurd (true≢false p)
inside_is k at (st.SetElem a i e) ps work p h = absurd (true≢false p)
inside_is k at (st.If' c _ s _ t) ps work p h = refl
inside_is k at (st.While' c zero _ s) ps work p h = absurd (true≢false h)
inside_is k at (st.While' c (suc n) _ s) ps work p h = refl
inside_is k at (st.Repeat' n _ s) ps work p h = refl
inside_is k at (st.Result e) ps work p h = absurd (true≢false p)
inside_is k at (st.Call v c es) ps work p h = absurd (true≢false p)

module _ (k : Kernel) (at : Span) (what : StKind) (ps : List Conj) (work : ℕ) (plain : is_plain (stmt_of what) ≡ false) (busy : is_idle (stmt_of what) ≡ false)
    (us ts : List Conj) (others : us ≡ untouched (line_of what) ps) (own : ts ≡ touched (line_of what) ps) where
  split_is : walk k at (line_of what) ps work ≡ joined at us ts (λ qs w. inside k at (line_of what) qs w) work
  split_is =
      inside_is k at what ps work plain busy ∙ ap (λ xs. joined at xs (touched (line_of what) ps) (λ qs w. inside k at (line_of what) qs w) work) (sym others)
      ∙ ap (λ xs. joined at us xs (λ qs w. inside k at (line_of what) qs w) work) (sym own)

  pub walk_empty : length ts ≡ 0 → stand at us work ≡ walk k at (line_of what) ps work
  walk_empty none = sym (split_is ∙ joined_none at us ts (λ qs w. inside k at (line_of what) qs w) work none)

  pub walk_some : 0 < length ts → beside k at (line_of what) us ts work ≡ walk k at (line_of what) ps work
  walk_some some = sym (split_is ∙ joined_some at us ts (λ qs w. inside k at (line_of what) qs w) work some)

-- ---- numbers in range

module _ (k : Kernel) (what : StKind) (r : StmtInRange k (stmt_of what)) where
  pub if_range : (e : Ex) (s t : List St) → what ≡ st.If e s t → ExprInRange k (expr_of e) × BlockInRange k (block_of s) × BlockInRange k (block_of t)
  if_range e s t is = subst (λ (x : Stmt). StmtInRange k x) (ap stmt_of is ∙ text-If e s t) r

  pub while_range : (e : Ex) (n : ℕ) (s : List St) → what ≡ st.While e n s → ExprInRange k (expr_of e) × BlockInRange k (block_of s)
  while_range e n s is = subst (λ (x : Stmt). StmtInRange k x) (ap stmt_of is ∙ text-While e n s) r

  pub repeat_range : (n : ℕ) (s : List St) → what ≡ st.Repeat n s → BlockInRange k (block_of s)
  repeat_range n s is = subst (λ (x : Stmt). StmtInRange k x) (ap stmt_of is ∙ text-Repeat n s) r

-- ---- what stands beside the others

module _ (k : Kernel) (at : Span) (what : StKind) (us ts : List Conj) (work : ℕ) where
  pub if_beside : (e : Ex) (s t first second : List St) → what ≡ st.If e s t → first ≡ s → second ≡ t
      → beside k at (Line.If (expr_of e) (lines_of first) (lines_of second)) us ts work ≡ beside k at (line_of what) us ts work
  if_beside e s t first second is f g =
      ap (λ x. beside k at (Line.If (expr_of e) (lines_of x) (lines_of second)) us ts work) f ∙ ap (λ x. beside k at (Line.If (expr_of e) (lines_of s) (lines_of x)) us ts work) g
      ∙ sym (ap (λ l. beside k at l us ts work) (ap line_of is ∙ lines-If e s t))

  pub while_beside : (e : Ex) (n : ℕ) (s body : List St) (behind : List Conj) → what ≡ st.While e n s → body ≡ s → behind ≡ ts
      → and_then (whiles at (use_of k (expr_of e)) (λ q w. walk_all k (lines_of body) q w) behind n ts work) (λ q w. stand at (us ++ q) w) ≡ beside k at (line_of what) us ts work
  while_beside e n s body behind is f g =
      ap (λ xs. and_then (whiles at (use_of k (expr_of e)) (λ q w. walk_all k (lines_of body) q w) xs n ts work) (λ q w. stand at (us ++ q) w)) g
      ∙ ap (λ x. and_then (whiles at (use_of k (expr_of e)) (λ q w. walk_all k (lines_of x) q w) ts n ts work) (λ q w. stand at (us ++ q) w)) f
      ∙ sym (ap (λ l. beside k at l us ts work) (ap line_of is ∙ lines-While e n s))

  pub repeat_beside : (n : ℕ) (s body : List St) → what ≡ st.Repeat n s → body ≡ s
      → and_then (repeats at (λ q w. walk_all k (lines_of body) q w) n ts work) (λ q w. stand at (us ++ q) w) ≡ beside k at (line_of what) us ts work
  repeat_beside n s body is f =
      ap (λ x. and_then (repeats at (λ q w. walk_all k (lines_of x) q w) n ts work) (λ q w. stand at (us ++ q) w)) f
      ∙ sym (ap (λ l. beside k at l us ts work) (ap line_of is ∙ lines-Repeat n s))

-- ---- what is written inside

module _ (what : StKind) where
  pub if_first : (e : Ex) (s t : List St) → what ≡ st.If e s t → first_sets (stmt_of what) ≡ all_sets (block_of s)
  if_first e s t is = ap first_sets (ap stmt_of is ∙ text-If e s t)

  pub if_second : (e : Ex) (s t : List St) → what ≡ st.If e s t → second_sets (stmt_of what) ≡ all_sets (block_of t)
  if_second e s t is = ap second_sets (ap stmt_of is ∙ text-If e s t)

  pub while_first : (e : Ex) (n : ℕ) (s : List St) → what ≡ st.While e n s → first_sets (stmt_of what) ≡ all_sets (block_of s)
  while_first e n s is = ap first_sets (ap stmt_of is ∙ text-While e n s)

  pub repeat_first : (n : ℕ) (s : List St) → what ≡ st.Repeat n s → first_sets (stmt_of what) ≡ all_sets (block_of s)
  repeat_first n s is = ap first_sets (ap stmt_of is ∙ text-Repeat n s)
