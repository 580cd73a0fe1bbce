-- The choice of a valid certificate is the least, and where it has none no choice meets every row.
use Rattle.std.proofs.Common.{◌≡◌, ℕ, ◌+◌, ◌≤◌, ◌<◌, List, true, arith, Option, Some, None}
use Rattle.std.specs.Prelude.{slice_index, ◌==◌}
use Rattle.std.proofs.lemmas.Bool.{eqb-true, eq-eqb}
use Rattle.chisel_table.specs.declared.partial.Partial.{Partial}
use Rattle.chisel_table.specs.declared.table.Table.{Table}
use Rattle.chisel_table.specs.Least.{IsLeast}
use Rattle.chisel_table.specs.Partials.{with_option, nothing_fixed}
use Rattle.chisel_table.specs.Soundness.{NoneBetter}
use Rattle.chisel_table.specs.Tables.{decision_count, option_count}
use Rattle.chisel_table.proofs.Sums.{by_test}
use Rattle.chisel_table.proofs.Closings.{vector_sound, rule_sound}
use Rattle.chisel_table.proofs.Partials.{completes_fixed, completes_nothing}
use Rattle.chisel_cert.specs.Tree.{Closing, pooled, own, Tree, leaf, branch, Trees, nil, cons, count}
use Rattle.chisel_cert.specs.Valid.{closing_holds, IsValid, AreValid, IsClaimed}
use Rattle.chisel_cert.specs.Laws.{ValidIsLeast}

closing_sound : (t : Table) (pool : List (List ℕ)) (choice : Option (List ℕ)) (p : Partial) (closing : Closing) →
    closing_holds t pool choice p closing ≡ true → NoneBetter t choice p
closing_sound t pool choice p (pooled close) h = rule_sound t pool choice p close.rule close.index h
closing_sound t pool choice p (own rule vector) h = vector_sound t choice p rule vector h

mutual
  unfolding IsValid AreValid count

  -- below a valid tree no completion that meets every row is better
  tree_sound : (tree : Tree) (t : Table) (pool : List (List ℕ)) (choice : Option (List ℕ)) (p : Partial) → IsValid t pool choice p tree → NoneBetter t choice p
  tree_sound (leaf closing) t pool choice p h = closing_sound t pool choice p closing h
  tree_sound (branch d children) t pool choice p h = λ c k m.
      let o : slice_index c d < option_count t d = k.choice.in_range d h.0 in
      trees_sound children t pool choice p d 0 h.3 (slice_index c d) (omega arith) (let e = h.2 in omega arith)
      c (completes_fixed t p c d h.1 k) m

  trees_sound : (trees : Trees) (t : Table) (pool : List (List ℕ)) (choice : Option (List ℕ)) (p : Partial) (d o : ℕ) → AreValid t pool choice p d o trees →
      (k : ℕ) → o ≤ k → k < o + count trees → NoneBetter t choice (with_option p d k)
  trees_sound nil t pool choice p d o h k l m = absurd (omega arith)
  trees_sound (cons tree rest) t pool choice p d o h k l m =
      by_test (k == o)
      (λ e. let q = eqb-true k o e in rw q (tree_sound tree t pool choice (with_option p d o) h.0))
      (λ e. let ne : (k ≡ o) → ⊥ = λ z. absurd (let w = eq-eqb k o z in cc) in
      trees_sound rest t pool choice p d (o + 1) h.1 k (omega arith) (omega arith))

-- where nothing is better than the claimed choice, it is the least
least_from : (t : Table) (choice : Option (List ℕ)) → decision_count t ≤ 256 → IsClaimed t choice → NoneBetter t choice (nothing_fixed t) → IsLeast t choice
least_from t (Some options) few h k = (h.0, h.1, λ c w m. k c (completes_nothing t c few w) m)
least_from t None few h k = λ c w m. k c (completes_nothing t c few w) m

pub valid_least : ValidIsLeast
valid_least t c h v = least_from t c.choice h.few_decisions v.choice_meets (tree_sound c.root t c.pool c.choice (nothing_fixed t) v.tree_is)
