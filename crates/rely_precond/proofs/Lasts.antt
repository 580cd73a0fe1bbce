-- The walk through a block, from its last statement on.
use Rattle.std.proofs.Common.{◌≡◌, ℕ, suc, ◌+◌, List, [], ◌∷◌, ◌++◌, length, refl, sym, ap, subst, ◌∙◌, arith}
use Rattle.rely_num.specs.declared.conj.Conj.{Conj}
use Rattle.rely_num.specs.declared.span.Span.{Span}
use Rattle.rely_kernel.specs.declared.kernel.Kernel.{Kernel}
use Rattle.rely_kernel.specs.declared.kernel.St.{St}
use Rattle.rely_kernel.specs.declared.kernel.StKind.{StKind}
use Rattle.rely_kernel.specs.Text.{stmt_of, block_of}
use Rattle.rely_precond.specs.declared.fault.PreFault.{PreFault}
use Rattle.rely_precond.specs.declared.written.Last.{Last}
use Rattle.rely_precond.specs.Answers.{IsStop}
use Rattle.rely_precond.specs.InRange.{StmtInRange, BlockInRange}
use Rattle.rely_precond.specs.Lasts.{IsLast}
use Rattle.rely_precond.specs.Places.{line_of, lines_of}
use Rattle.rely_precond.specs.Walk.{Walked, Stands, Stops, and_then, walk, walk_all}
use Rattle.rely_precond.proofs.Turning.{then_goes, then_stops, stop_as}
use Rattle.rely_precond.proofs.Weights.{weight, weights}

then_then : (x : Walked) (f g : List Conj → ℕ → Walked) → and_then (and_then x f) g ≡ and_then x (λ p w. and_then (f p w) g)
then_then (Stands p w) f g = refl
then_then (Stops limit at) f g = refl

last_walked : (k : Kernel) (before : List St) (s : St) (ps : List Conj) (work : ℕ)
    → walk_all k (lines_of (before ++ s ∷ [])) ps work ≡ and_then (walk k s.at (line_of s.what) ps work) (λ p w. walk_all k (lines_of before) p w)
last_walked k [] s ps work = sym (then_same (walk k s.at (line_of s.what) ps work))
  where
    then_same : (x : Walked) → and_then x (λ p w. Stands p w) ≡ x
    then_same (Stands p w) = refl
    then_same (Stops limit at) = refl
last_walked k (x ∷ before) s ps work =
    ap (λ y. and_then y (λ p w. walk k x.at (line_of x.what) p w)) (last_walked k before s ps work)
    ∙ then_then (walk k s.at (line_of s.what) ps work) (λ p w. walk_all k (lines_of before) p w) (λ p w. walk k x.at (line_of x.what) p w)

last_weighs : (before : List St) (s : St) → weights (lines_of (before ++ s ∷ [])) ≡ suc (weight (line_of s.what)) + weights (lines_of before)
last_weighs [] s = refl
last_weighs (x ∷ before) s = let e = last_weighs before s in omega arith

last_ranges : (k : Kernel) (before : List St) (s : St) → BlockInRange k (block_of (before ++ s ∷ [])) → StmtInRange k (stmt_of s.what) × BlockInRange k (block_of before)
last_ranges k [] s r = (r.0, tt)
last_ranges k (x ∷ before) s r = let q = last_ranges k before s r.1 in (q.0, (r.0, q.1))

-- nothing is left to walk of no statement
pub none_walked : (k : Kernel) (body : List St) (ps : List Conj) (work : ℕ) → length body ≡ 0 → walk_all k (lines_of body) ps work ≡ Stands ps work
none_walked k [] ps work h = refl
none_walked k (s ∷ body) ps work h = absurd (omega (arith, h))

module _ (body : List St) (last : Last) (is : IsLast body last) where
  abbrev before : List St
  before = last.before.body.now

  pub last_weight : weights (lines_of body) ≡ suc (weight (line_of last.statement.what.now)) + weights (lines_of before)
  last_weight =
      ap (λ xs. weights (lines_of xs)) is.split ∙ last_weighs before is.statement
      ∙ ap (λ (x : StKind). suc (weight (line_of x)) + weights (lines_of before)) (sym is.what)

  pub last_range : (k : Kernel) → BlockInRange k (block_of body) → StmtInRange k (stmt_of last.statement.what.now) × BlockInRange k (block_of before)
  last_range k r =
      let q = last_ranges k before is.statement (subst (λ (xs : List St). BlockInRange k (block_of xs)) is.split r) in
      (subst (λ (x : StKind). StmtInRange k (stmt_of x)) (sym is.what) q.0, q.1)

  module _ (k : Kernel) (ps : List Conj) (work : ℕ) where
    last_is : walk_all k (lines_of body) ps work
        ≡ and_then (walk k last.statement.at (line_of last.statement.what.now) ps work) (λ p w. walk_all k (lines_of before) p w)
    last_is =
        ap (λ xs. walk_all k (lines_of xs) ps work) is.split ∙ last_walked k before is.statement ps work
        ∙ ap (λ (a : Span). and_then (walk k a (line_of is.statement.what) ps work) (λ p w. walk_all k (lines_of before) p w)) (sym is.at)
        ∙ ap (λ (x : StKind). and_then (walk k last.statement.at (line_of x) ps work) (λ p w. walk_all k (lines_of before) p w)) (sym is.what)

    -- what is left to walk once the last statement is walked
    pub last_goes : (p : List Conj) (w : ℕ) → walk k last.statement.at (line_of last.statement.what.now) ps work ≡ Stands p w
        → walk_all k (lines_of before) p w ≡ walk_all k (lines_of body) ps work
    last_goes p w h = sym (last_is ∙ then_goes (walk k last.statement.at (line_of last.statement.what.now) ps work) p w (λ q v. walk_all k (lines_of before) q v) h)

    pub last_stops : (f : PreFault) → IsStop (walk k last.statement.at (line_of last.statement.what.now) ps work) f → IsStop (walk_all k (lines_of body) ps work) f
    last_stops f h =
        stop_as (and_then (walk k last.statement.at (line_of last.statement.what.now) ps work) (λ p w. walk_all k (lines_of before) p w)) (walk_all k (lines_of body) ps work) f (sym last_is)
        (then_stops (walk k last.statement.at (line_of last.statement.what.now) ps work) f (λ p w. walk_all k (lines_of before) p w) h)
