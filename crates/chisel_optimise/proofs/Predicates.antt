-- The predicates of all claims, as they are made.
use Rattle.std.proofs.Common.{◌≡◌, ℕ, ◌<◌, ◌^◌, List, [], ◌∷◌, map, length, refl, arith}
use Rattle.std.specs.List.{AllByRecursion, AllZip}
use Rattle.std.proofs.lemmas.List.Elements.{All-weaker, recursion_from_All}
use Rattle.rely_kernel.specs.declared.kernel.Claim.{Claim}
use Rattle.rely_kernel.specs.declared.kernel.Kernel.{Kernel}
use Rattle.rely_kernel.specs.Labels.{labels_of}
use Rattle.rely_kernel.specs.Paths.{paths_of}
use Rattle.rely_predicate.specs.Predicates.{Conjuncts}
use Rattle.rely_predicate.specs.Top.{top}
use Rattle.rely_precond.specs.Answers.{AreCounts, IsPredicateOf}
use Rattle.chisel_problem.specs.Problem.{ArePredicates, IsForKernel}
use Rattle.chisel_optimise.specs.Tables.{predicates_of}

abbrev AreOf : Kernel → List Claim → List Conjuncts → Type 0
AreOf k cs ps = AllZip (λ c p. IsPredicateOf k c.target p) cs ps

tops_from : (k : Kernel) (cs : List Claim) (ps : List Conjuncts) → AreOf k cs ps → ps ≡ map (λ c. record { labels = labels_of k; conjs = top (paths_of k c.target) }) cs
tops_from k [] [] h = refl
tops_from k [] (p ∷ ps) h = absurd h
tops_from k (c ∷ cs) [] h = absurd h
tops_from k (c ∷ cs) (p ∷ ps) h =
    let labels = h.0.labels in let conjs = h.0.top in let rest = tops_from k cs ps h.1 in λ i. record { labels = labels i; conjs = conjs i } ∷ rest i

-- they are the tops of the claims' paths
pub tops_are : (k : Kernel) (ps : List Conjuncts) → AllZip (λ c p. IsPredicateOf k c.target p) k.claims ps → ps ≡ predicates_of k
tops_are k ps h = tops_from k k.claims ps h

for_kernel : (k : Kernel) (target : ℕ) (p : Conjuncts) → IsPredicateOf k target p → IsForKernel k p
for_kernel k target p h = record {
  labels = h.labels;
  some = h.some;
  small = recursion_from_All (λ c. AllByRecursion (λ n. n < 2 ^ 36) c.counts) p.conjs
      (All-weaker (AreCounts (labels_of k)) (λ c. AllByRecursion (λ n. n < 2 ^ 36) c.counts) (λ c a. recursion_from_All (λ n. n < 2 ^ 36) c.counts a.1) p.conjs h.counts);
}

each_for : (k : Kernel) (cs : List Claim) (ps : List Conjuncts) → AreOf k cs ps → AllByRecursion (IsForKernel k) ps
each_for k [] [] h = tt
each_for k [] (p ∷ ps) h = absurd h
each_for k (c ∷ cs) [] h = absurd h
each_for k (c ∷ cs) (p ∷ ps) h = (for_kernel k c.target p h.0, each_for k cs ps h.1)

as_many : (k : Kernel) (cs : List Claim) (ps : List Conjuncts) → AreOf k cs ps → length ps ≡ length cs
as_many k [] [] h = refl
as_many k [] (p ∷ ps) h = absurd h
as_many k (c ∷ cs) [] h = absurd h
as_many k (c ∷ cs) (p ∷ ps) h = let e = as_many k cs ps h.1 in omega arith

-- and fit the table
pub fit_table : (k : Kernel) (ps : List Conjuncts) → AllZip (λ c p. IsPredicateOf k c.target p) k.claims ps → ArePredicates k ps
fit_table k ps h = record { each = each_for k k.claims ps h; one_a_claim = as_many k k.claims ps h }

pub counted_claims : (k : Kernel) (ps : List Conjuncts) → AllZip (λ c p. IsPredicateOf k c.target p) k.claims ps → length ps ≡ length k.claims
counted_claims k ps h = as_many k k.claims ps h
