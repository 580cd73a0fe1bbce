-- The walk through a statement that is neither a choice nor a loop.
use Rattle.std.proofs.Common.{◌≡◌, ℕ, List, IsTrue, refl, sym, subst, inl, inr, true≢false}
use Rattle.rely_num.specs.declared.conj.Conj.{Conj}
use Rattle.rely_num.specs.declared.span.Span.{Span}
use Rattle.rely_kernel.specs.declared.kernel.Kernel.{Kernel}
use Rattle.rely_kernel.specs.declared.kernel.StKind.{StKind}
use Rattle.rely_kernel.specs.declared.kernel.StKind.TheVariants as st
use Rattle.rely_kernel.specs.Text.{stmt_of}
use Rattle.rely_precond.specs.declared.fault.PreFault.{PreFault}
use Rattle.rely_precond.specs.Answers.{IsFull, IsStop}
use Rattle.rely_precond.specs.InRange.{is_plain}
use Rattle.rely_precond.specs.Places.{line_of}
use Rattle.rely_precond.specs.Walk.{stand, changed, walk}
use Rattle.rely_precond.proofs.Stops.{stand_full}

pub walk_plain_is : (k : Kernel) (at : Span) (what : StKind) (ps : List Conj) (work : ℕ) → IsTrue (is_plain (stmt_of what)) → stand at (changed k (line_of what) ps) work ≡ walk k at (line_of what) ps work
walk_plain_is k at (st.Set v e) ps work h = refl
walk_plain_is k at (st.SetElem a i e) ps work h = refl
walk_plain_is k at (st.If' c _ s _ t) ps work h = absurd (true≢false (sym h))
walk_plain_is k at (st.While' c n _ s) ps work h = absurd (true≢false (sym h))
walk_plain_is k at (st.Repeat' n _ s) ps work h = absurd (true≢false (sym h))
walk_plain_is k at (st.Result e) ps work h = refl
walk_plain_is k at (st.Call v c es) ps work h = refl

-- a list that isn't made stops the walk
pub full_stops : (at : Span) (ps : List Conj) (work : ℕ) (f : PreFault) → IsFull at ps f → IsStop (stand at ps work) f
full_stops at ps work f (inl e) = subst (IsStop (stand at ps work)) (sym e) tt
full_stops at ps work f (inr h) = subst (IsStop (stand at ps work)) (sym h.0) (stand_full at ps work h.1)
