-- The printed certificate is valid, and has at most as many nodes as the run has steps.
use Rattle.std.proofs.Common.{◌≡◌, ◌≢◌, ℕ, zero, suc, true, ◌+◌, ◌≤◌, ◌<◌, List, refl, sym, ap, ◌∙◌, arith, Option, Some, None}
use Rattle.std.specs.Prelude.{◌==◌}
use Rattle.std.proofs.lemmas.Bool.{eqb-true}
use Rattle.std.proofs.lemmas.List.{get_or-replicate}
use Rattle.chisel_table.specs.declared.table.Table.{Table}
use Rattle.chisel_table.specs.declared.partial.Partial.{Partial}
use Rattle.chisel_table.specs.declared.closing.Close.{Close}
use Rattle.chisel_search.specs.Search.{one_if, unfixed, choice_of, children, IsLawful, rule_of}
use Rattle.chisel_table.specs.Sums.{sum_to}
use Rattle.chisel_table.specs.Tables.{decision_count, option_count, row_count}
use Rattle.chisel_table.specs.Least.{IsLeast}
use Rattle.chisel_table.specs.Valid.{IsTable}
use Rattle.chisel_table.specs.Partials.{IsPartial, is_unfixed, with_option, nothing_fixed}
use Rattle.chisel_table.specs.Closings.{first_close}
use Rattle.chisel_table.proofs.Sums.{by_test, differ, sum_change}
use Rattle.chisel_table.proofs.Choices.{not_before}
use Rattle.chisel_table.proofs.Closings.{first_close_holds}
use Rattle.chisel_table.proofs.Partials.{slot_fixed, slot_other, fixed_partial, nothing_partial, not_unfixed}
use Rattle.chisel_cert.specs.Tree.{pooled, Tree, leaf, branch, Trees, nil, cons, count, nodes, nodes_of}
use lib.IntN.{pos}
use Rattle.chisel_cert.specs.Valid.{IsClaimed, IsValid, AreValid, IsValidFor, restated_row}
use Rattle.chisel_bound.specs.Pool.{BeginsWithZeros}
use Rattle.chisel_bound.proofs.Lists.{listed_at}
use Rattle.chisel_search.specs.Printed.{IsPrinted, ArePrinted, trees_to, tree, certified, certificate}
use Rattle.chisel_search.proofs.Complete.{is_choice, unclosed_meets, unclosed_before}

-- fixing a decision leaves one less
pub unfixed_fixed : (t : Table) (p : Partial) (d o : ℕ) → d < decision_count t → is_unfixed p d ≡ true → o < 255 →
    unfixed t (with_option p d o) + 1 ≡ unfixed t p
unfixed_fixed t p d o l u s =
    let a = sum_change (decision_count t) (λ k. one_if (is_unfixed (with_option p d o) k)) (λ k. one_if (is_unfixed p k)) d l
    (λ k ne. ap (λ x. one_if (x == 255)) (slot_other p d o k ne)) in
    let b : one_if (is_unfixed p d) ≡ 1 = ap one_if u in
    let c : one_if (is_unfixed (with_option p d o) d) ≡ 0 = ap (λ x. one_if (x == 255)) (slot_fixed p d o u) ∙ ap one_if (not_unfixed o s) in
    omega arith

sum_ones : (n : ℕ) (f : ℕ → ℕ) → ((k : ℕ) → k < n → f k ≡ 1) → sum_to n f ≡ n
unfolding sum_to
sum_ones zero f h = refl
sum_ones (suc n) f h = let a = sum_ones n f (λ k l. h k (omega arith)) in let b = h n (omega arith) in omega arith

unfixed_nothing : (t : Table) → decision_count t ≤ 256 → unfixed t (nothing_fixed t) ≡ decision_count t
unfixed_nothing t few = sum_ones (decision_count t) _ (λ k l. ap (λ x. one_if (x == 255)) (get_or-replicate 256 k 255 0 (omega arith)))

count_to : (n : ℕ) (f : ℕ → Tree) → count (trees_to n f) ≡ n
unfolding trees_to count
count_to zero f = refl
count_to (suc n) f = let a = count_to n (λ o. f (suc o)) in omega arith

pub sum_first : (n : ℕ) (f : ℕ → ℕ) → sum_to (suc n) f ≡ f 0 + sum_to n (λ k. f (suc k))
unfolding sum_to
sum_first zero f = omega arith
sum_first (suc n) f = let a = sum_first n f in omega arith

pub nodes_to : (n : ℕ) (f : ℕ → Tree) → nodes_of (trees_to n f) ≡ sum_to n (λ o. nodes (f o))
unfolding trees_to nodes_of
nodes_to zero f = sum_zero_to
  where
    sum_zero_to : 0 ≡ sum_to 0 (λ o. nodes (f o))
    sum_zero_to = sym (sum_ones 0 (λ o. nodes (f o)) (λ k l. absurd (omega arith)))
nodes_to (suc n) f = let a = nodes_to n (λ o. f (suc o)) in let b = sum_first n (λ o. nodes (f o)) in omega arith

printed_to : (t : Table) (pool : List (List ℕ)) (Answers : Partial → ℕ → Type 0) (best : Option (List ℕ)) (p : Partial) (d n k : ℕ) (f : ℕ → Tree) →
    ((o : ℕ) → o < n → IsPrinted t pool Answers best (with_option p d (k + o)) (f o)) → ArePrinted t pool Answers best p d k (trees_to n f)
unfolding trees_to ArePrinted
printed_to t pool Answers best p d zero k f h = tt
printed_to t pool Answers best p d (suc n) k f h = (
  let e : k + 0 ≡ k = omega arith in rw e at (h 0 (omega arith)),
  printed_to t pool Answers best p d n (k + 1) (λ o. f (suc o)) (λ o l. let e : k + suc o ≡ k + 1 + o = omega arith in rw e at (h (suc o) (omega arith))),
)

pub printed_branch : (t : Table) (pool : List (List ℕ)) (Answers : Partial → ℕ → Type 0) (best : Option (List ℕ)) (p : Partial) (d : ℕ) (f : ℕ → Tree) →
    first_close t pool best p ≡ None → Answers p d → ((o : ℕ) → o < option_count t d → IsPrinted t pool Answers best (with_option p d o) (f o)) →
    IsPrinted t pool Answers best p (branch d (trees_to (option_count t d) f))
unfolding IsPrinted
printed_branch t pool Answers best p d f e a h =
    (e, a, count_to (option_count t d) f, printed_to t pool Answers best p d (option_count t d) 0 f (λ o l. let z : 0 + o ≡ o = omega arith in rw z (h o l)))

pub printed_leaf : (t : Table) (pool : List (List ℕ)) (Answers : Partial → ℕ → Type 0) (best : Option (List ℕ)) (p : Partial) (c : Close) →
    first_close t pool best p ≡ Some c → IsPrinted t pool Answers best p (leaf (pooled c))
unfolding IsPrinted
printed_leaf t pool Answers best p c e = (c, e, refl)

-- what is printed by one rule is printed by each that answers as much
mutual
  unfolding IsPrinted ArePrinted

  pub printed_weaker : (x : Tree) (t : Table) (pool : List (List ℕ)) (A B : Partial → ℕ → Type 0) (best : Option (List ℕ)) (p : Partial) →
      ((q : Partial) (d : ℕ) → A q d → B q d) → IsPrinted t pool A best p x → IsPrinted t pool B best p x
  printed_weaker (leaf m) t pool A B best p f h = h
  printed_weaker (branch d xs) t pool A B best p f h = (h.0, f p d h.1, h.2, all_weaker xs t pool A B best p d 0 f h.3)

  all_weaker : (xs : Trees) (t : Table) (pool : List (List ℕ)) (A B : Partial → ℕ → Type 0) (best : Option (List ℕ)) (p : Partial) (d o : ℕ) →
      ((q : Partial) (e : ℕ) → A q e → B q e) → ArePrinted t pool A best p d o xs → ArePrinted t pool B best p d o xs
  all_weaker nil t pool A B best p d o f h = tt
  all_weaker (cons x xs) t pool A B best p d o f h =
      (printed_weaker x t pool A B best (with_option p d o) f h.0, all_weaker xs t pool A B best p d (o + 1) f h.1)

-- a partial choice in which all is fixed closes with the least choice
least_closes : (t : Table) (pool : List (List ℕ)) (best : Option (List ℕ)) (p : Partial) → BeginsWithZeros pool → IsLeast t best →
    IsPartial t p → unfixed t p ≡ 0 → first_close t pool best p ≡ None → ⊥
least_closes t pool (Some b) p zs h i z e =
    not_before t (choice_of t p) b (h.2 (choice_of t p) (is_choice t p i z) (unclosed_meets t pool (Some b) p z e)) (unclosed_before t pool b p zs z e)
least_closes t pool None p zs h i z e = h (choice_of t p) (is_choice t p i z) (unclosed_meets t pool None p z e)

-- of a rule that is a function, one tree is printed
mutual
  unfolding IsPrinted ArePrinted count

  pub printed_one : (x : Tree) (t : Table) (pool : List (List ℕ)) (rule : Partial → ℕ) (best : Option (List ℕ)) (p : Partial) (y : Tree) →
      IsPrinted t pool (rule_of rule) best p x → IsPrinted t pool (rule_of rule) best p y → x ≡ y
  printed_one (leaf m) t pool rule best p (leaf n) h k = let e = sym h.1 ∙ k.1 in let q : h.0 ≡ k.0 = cc in ap leaf (h.2 ∙ ap pooled q ∙ sym k.2)
  printed_one (leaf m) t pool rule best p (branch e ys) h k = absurd (let z = sym h.1 ∙ k.0 in cc)
  printed_one (branch d xs) t pool rule best p (leaf n) h k = absurd (let z = sym k.1 ∙ h.0 in cc)
  printed_one (branch d xs) t pool rule best p (branch e ys) h k =
      let q : d ≡ e = h.1 ∙ sym k.1 in
      let w = printed_all xs t pool rule best p d 0 ys h.3 (rw (← q) at k.3) (h.2 ∙ ap (option_count t) q ∙ sym k.2) in
      λ i. branch (q i) (w i)

  pub printed_all : (xs : Trees) (t : Table) (pool : List (List ℕ)) (rule : Partial → ℕ) (best : Option (List ℕ)) (p : Partial) (d o : ℕ) (ys : Trees) →
      ArePrinted t pool (rule_of rule) best p d o xs → ArePrinted t pool (rule_of rule) best p d o ys → count xs ≡ count ys → xs ≡ ys
  printed_all nil t pool rule best p d o nil h k c = refl
  printed_all nil t pool rule best p d o (cons y ys) h k c = absurd (omega arith)
  printed_all (cons x xs) t pool rule best p d o nil h k c = absurd (omega arith)
  printed_all (cons x xs) t pool rule best p d o (cons y ys) h k c =
      let a = printed_one x t pool rule best (with_option p d o) y h.0 k.0 in
      let b = printed_all xs t pool rule best p d (o + 1) ys h.1 k.1 (omega arith) in
      λ i. cons (a i) (b i)

claimed : (t : Table) (best : Option (List ℕ)) → IsLeast t best → IsClaimed t best
claimed t (Some b) h = (h.0, h.1)
claimed t None h = tt

module _ (t : Table) (pool : List (List ℕ)) (Answers : Partial → ℕ → Type 0) (zs : BeginsWithZeros pool) (table : IsTable t) (lawful : IsLawful t Answers) where
  some_free : (best : Option (List ℕ)) (p : Partial) → IsLeast t best → IsPartial t p → first_close t pool best p ≡ None → 0 < unfixed t p
  some_free best p h i e = by_test (unfixed t p == 0)
      (λ q. absurd (least_closes t pool best p zs h i (eqb-true _ _ q) e))
      (λ q. let ne = differ _ _ q in let z : unfixed t p ≢ 0 = ne in omega arith)

  mutual
    unfolding IsPrinted ArePrinted IsValid AreValid count

    -- a printed tree is valid for the least choice
    pub printed_valid : (x : Tree) (best : Option (List ℕ)) (p : Partial) → IsLeast t best → IsPartial t p →
        IsPrinted t pool Answers best p x → IsValid t pool best p x
    printed_valid (leaf m) best p h i k = rw k.2 (first_close_holds t pool best p k.0 k.1)
    printed_valid (branch d children) best p h i k =
        let f = some_free best p h i k.0 in
        let u = lawful.free p d i f k.1 in
        (lawful.inside p d i f k.1, u, k.2, all_valid children best p d 0 h i u (omega arith) k.3)

    all_valid : (xs : Trees) (best : Option (List ℕ)) (p : Partial) (d o : ℕ) → IsLeast t best → IsPartial t p → is_unfixed p d ≡ true →
        o + count xs ≤ option_count t d → ArePrinted t pool Answers best p d o xs → AreValid t pool best p d o xs
    all_valid nil best p d o h i u l k = tt
    all_valid (cons x xs) best p d o h i u l k = (
      printed_valid x best (with_option p d o) h (fixed_partial t p d o u (omega arith) i) k.0,
      all_valid xs best p d (o + 1) h i u (omega arith) k.1,
    )

  -- a certificate whose tree is printed is valid
  pub certified_valid : (best : Option (List ℕ)) (x : Tree) → IsLeast t best → IsPrinted t pool Answers best (nothing_fixed t) x → IsValidFor t (certified t pool best x)
  certified_valid best x h k = record {
    decisions_are = refl;
    rows_are = refl;
    choice_meets = claimed t best h;
    energy_is = refl;
    restated_are = λ v i l. listed_at (row_count t) (restated_row t best) i (record { budget = pos 0; spent = None }) l;
    tree_is = printed_valid x best (nothing_fixed t) h (nothing_partial t table.few_decisions) k;
  }

module _ (t : Table) (pool : List (List ℕ)) (rule : Partial → ℕ) (zs : BeginsWithZeros pool) (table : IsTable t) (lawful : IsLawful t (rule_of rule)) where
  -- the tree of the printed certificate is printed by the rule
  tree_printed : (best : Option (List ℕ)) → IsLeast t best → (n : ℕ) (p : Partial) → IsPartial t p → unfixed t p ≡ n →
      IsPrinted t pool (rule_of rule) best p (tree t pool rule best n p)
  unfolding tree
  tree_printed best h zero p i z = go (first_close t pool best p) refl
    where
      go : (r : Option Close) → first_close t pool best p ≡ r →
          IsPrinted t pool (rule_of rule) best p (elim r [ Some c ↦ leaf (pooled c) | None ↦ branch (rule p) nil ])
      go (Some c) e = printed_leaf t pool (rule_of rule) best p c e
      go None e = absurd (least_closes t pool best p zs h i z e)
  tree_printed best h (suc n) p i z =
      go (first_close t pool best p) refl
      (λ o l. let d = lawful.inside p (rule p) i (omega arith) refl in
      let u = lawful.free p (rule p) i (omega arith) refl in
      tree_printed best h n (with_option p (rule p) o) (fixed_partial t p (rule p) o u l i)
      (let q = unfixed_fixed t p (rule p) o d u (let m = table.few_options (rule p) d in omega arith) in omega arith))
    where
      go : (r : Option Close) → first_close t pool best p ≡ r →
          ((o : ℕ) → o < option_count t (rule p) → IsPrinted t pool (rule_of rule) best (with_option p (rule p) o) (tree t pool rule best n (with_option p (rule p) o))) →
          IsPrinted t pool (rule_of rule) best p (elim r [ Some c ↦ leaf (pooled c) | None ↦ branch (rule p) (trees_to (option_count t (rule p)) (λ o. tree t pool rule best n (with_option p (rule p) o))) ])
      go (Some c) e ih = printed_leaf t pool (rule_of rule) best p c e
      go None e ih = printed_branch t pool (rule_of rule) best p (rule p) (λ o. tree t pool rule best n (with_option p (rule p) o)) e refl ih

  pub root_printed : (best : Option (List ℕ)) → IsLeast t best →
      IsPrinted t pool (rule_of rule) best (nothing_fixed t) (tree t pool rule best (decision_count t) (nothing_fixed t))
  root_printed best h = tree_printed best h (decision_count t) (nothing_fixed t) (nothing_partial t table.few_decisions) (unfixed_nothing t table.few_decisions)

  -- the printed certificate is valid for the least choice
  pub certificate_valid : (best : Option (List ℕ)) → IsLeast t best → IsValidFor t (certificate t pool rule best)
  certificate_valid best h =
      certified_valid t pool (rule_of rule) zs table lawful best (tree t pool rule best (decision_count t) (nothing_fixed t)) h (root_printed best h)
