-- What is known of predicates that were read, by their type's invariant.
use Rattle.std.proofs.Common.{◌≡◌, ℕ, zero, suc, ◌+◌, ◌≤◌, List, [], ◌∷◌, take, get_or, length, sym, subst, arith, add-one}
use Rattle.std.specs.List.{AllByRecursion}
use Rattle.std.proofs.lemmas.List.Elements.{recursion_from_All}
use Rattle.rely_num.specs.declared.conj.Conj.{Conj}
use Rattle.rely_kernel.specs.declared.kernel.Kernel.{Kernel}
use Rattle.rely_kernel.specs.Labels.{labels_of}
use Rattle.rely_predicate.specs.Predicates.{Conjuncts, IsPredicate}
use Rattle.chisel_problem.specs.Problem.{IsForKernel}

-- ---- one after another

one_more : (ps : List Conjuncts) (i : ℕ) (d : Conjuncts) → AllByRecursion IsPredicate (take i ps) → IsPredicate (get_or ps i d) → AllByRecursion IsPredicate (take (suc i) ps)
one_more [] i d before here = tt
one_more (p ∷ ps) zero d before here = (here, tt)
one_more (p ∷ ps) (suc i) d before here = (before.0, one_more ps i d before.1 here)

pub read_more : (ps : List Conjuncts) (i : ℕ) (d : Conjuncts) → AllByRecursion IsPredicate (take i ps) → IsPredicate (get_or ps i d) → AllByRecursion IsPredicate (take (i + 1) ps)
read_more ps i d before here = subst (λ n. AllByRecursion IsPredicate (take n ps)) (sym (add-one i)) (one_more ps i d before here)

pub read_all : (ps : List Conjuncts) (i : ℕ) → length ps ≤ i → AllByRecursion IsPredicate (take i ps) → AllByRecursion IsPredicate ps
read_all [] i past all = tt
read_all (p ∷ ps) zero past all = absurd (omega (arith, past))
read_all (p ∷ ps) (suc i) past all = (all.0, read_all ps i (omega (arith, past)) all.1)

-- ---- all of them

module _ (k : Kernel) where
  -- one count for each label
  pub all_counted : (ps : List Conjuncts) → AllByRecursion (IsForKernel k) ps → AllByRecursion IsPredicate ps → AllByRecursion (λ p. AllByRecursion (λ c. length c.counts ≡ labels_of k) p.conjs) ps
  all_counted [] for valid = tt
  all_counted (p ∷ ps) for valid = (
    subst (λ n. AllByRecursion (λ (c : Conj). length c.counts ≡ n) p.conjs) for.0.labels (recursion_from_All (λ (c : Conj). length c.counts ≡ p.labels) p.conjs valid.0.counted),
    all_counted ps for.1 valid.1,
  )

-- and few conjuncts
pub all_short : (ps : List Conjuncts) → AllByRecursion IsPredicate ps → AllByRecursion (λ p. length p.conjs ≤ 256) ps
all_short [] valid = tt
all_short (p ∷ ps) valid = (valid.0.short, all_short ps valid.1)
