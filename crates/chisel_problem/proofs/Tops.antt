-- What is said of predicates that are the tops of the claims' paths is said of these tops.
use Rattle.std.proofs.Common.{◌≡◌, suc, List, [], ◌∷◌, length, ◌↔◌, refl, sym, ap, subst}
use Rattle.std.specs.List.{AllByRecursion, AllZip}
use Rattle.rely_num.specs.declared.conj.Conj.{Conj}
use Rattle.rely_kernel.specs.declared.kernel.Claim.{Claim}
use Rattle.rely_kernel.specs.declared.kernel.Kernel.{Kernel}
use Rattle.rely_kernel.specs.Labels.{labels_of}
use Rattle.rely_kernel.specs.Paths.{paths_of}
use Rattle.rely_predicate.specs.Predicates.{Conjuncts}
use Rattle.rely_predicate.specs.Top.{top}
use Rattle.rely_verdict.proofs.Counted.{top_long}

module _ (k : Kernel) where
  abbrev pub tops : Claim → List Conj
  tops claim = top (paths_of k claim.target)

  abbrev pub AreOf : List Claim → List Conjuncts → Type 0
  AreOf claims preds = AllZip (λ claim p. p.conjs ≡ tops claim) claims preds

  pub one_each : (claims : List Claim) (preds : List Conjuncts) → AreOf claims preds → length preds ≡ length claims
  one_each [] [] are = refl
  one_each [] (p ∷ ps) are = absurd are
  one_each (c ∷ cs) [] are = absurd are
  one_each (c ∷ cs) (p ∷ ps) are = ap suc (one_each cs ps are.1)

  pub each_counted : (claims : List Claim) (preds : List Conjuncts) → AreOf claims preds → AllByRecursion (λ p. AllByRecursion (λ c. length c.counts ≡ labels_of k) p.conjs) preds
  each_counted [] [] are = tt
  each_counted [] (p ∷ ps) are = absurd are
  each_counted (c ∷ cs) [] are = absurd are
  each_counted (c ∷ cs) (p ∷ ps) are = (
    subst (λ (conjs : List Conj). AllByRecursion (λ c. length c.counts ≡ labels_of k) conjs) (sym are.0) (top_long k c.target),
    each_counted cs ps are.1,
  )

  module _ (P : Claim → List Conj → Type 0) where
    of_tops : (claims : List Claim) (preds : List Conjuncts) → AreOf claims preds → AllZip (λ claim p. P claim p.conjs) claims preds → AllByRecursion (λ claim. P claim (tops claim)) claims
    of_tops [] [] are all = tt
    of_tops [] (p ∷ ps) are all = absurd are
    of_tops (c ∷ cs) [] are all = absurd are
    of_tops (c ∷ cs) (p ∷ ps) are all = (subst (P c) are.0 all.0, of_tops cs ps are.1 all.1)

    of_predicates : (claims : List Claim) (preds : List Conjuncts) → AreOf claims preds → AllByRecursion (λ claim. P claim (tops claim)) claims → AllZip (λ claim p. P claim p.conjs) claims preds
    of_predicates [] [] are all = tt
    of_predicates [] (p ∷ ps) are all = absurd are
    of_predicates (c ∷ cs) [] are all = absurd are
    of_predicates (c ∷ cs) (p ∷ ps) are all = (subst (P c) (sym are.0) all.0, of_predicates cs ps are.1 all.1)

    pub as_tops : (claims : List Claim) (preds : List Conjuncts) → AreOf claims preds
        → AllZip (λ claim p. P claim p.conjs) claims preds ↔ AllByRecursion (λ claim. P claim (tops claim)) claims
    as_tops claims preds are = (of_tops claims preds are, of_predicates claims preds are)
