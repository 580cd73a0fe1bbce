-- Every order of the search ends with the least choice and prints a tree with at most as many nodes as it takes steps.
use Rattle.std.proofs.Common.{◌≡◌, ◌≢◌, ℕ, zero, suc, Bool, true, false, ◌+◌, ◌≤◌, ◌<◌, List, [], ◌∷◌, ◌++◌, length, refl, ap, subst, arith, Option, Some, None}
use Rattle.std.specs.Prelude.{slice_index_or, ◌==◌}
use Rattle.std.proofs.lemmas.Bool.{eqb-true, eq-eqb}
use mathlib.Core.Logic.{inl, inr}
use Rattle.chisel_table.specs.declared.table.Table.{Table}
use Rattle.chisel_search.specs.declared.part.Part.{Part}
use Rattle.chisel_table.specs.declared.partial.Partial.{Partial}
use Rattle.chisel_table.specs.declared.closing.Close.{Close}
use Rattle.chisel_table.specs.Sums.{sum_to, list_to}
use Rattle.chisel_table.specs.Tables.{option_count}
use Rattle.chisel_table.specs.Valid.{IsTable}
use Rattle.chisel_table.specs.Partials.{with_option, nothing_fixed}
use Rattle.chisel_table.specs.Closings.{first_close}
use Rattle.chisel_table.proofs.Sums.{by_test, differ, sum_same}
use Rattle.chisel_table.proofs.Choices.{not_before, least_unique, as_good_trans, as_good_itself, before_as_good}
use Rattle.chisel_table.specs.Soundness.{IsAsGood, Closes}
use Rattle.chisel_table.proofs.Closings.{closes_better, first_close_holds, first_close_none}
use Rattle.chisel_cert.specs.Tree.{pooled, Tree, leaf, branch, nil, nodes}
use Rattle.chisel_cert.specs.Valid.{IsValidFor}
use Rattle.chisel_search.specs.Search.{unfixed, choice_of, children, Search, start, end, replaced, Fate, closed, complete, divided, fate, after, Step, Run, Divides, IsLawful, rule_of}
use Rattle.chisel_bound.specs.Pool.{BeginsWithZeros}
use Rattle.chisel_search.specs.Printed.{IsPrinted, trees_to, certified, certificate}
use Rattle.chisel_search.proofs.Complete.{unclosed_before}
use Rattle.chisel_search.proofs.Least.{fate_closed, fate_complete, run_least}
use Rattle.chisel_search.proofs.Printed.{nodes_to, printed_branch, printed_leaf, printed_one, printed_weaker, certified_valid, root_printed}

pick : Bool → Tree → Tree → Tree
pick true x y = x
pick false x y = y

other : (o n : ℕ) → o < n → (o == n) ≡ false
other o n l = by_test (o == n) (λ e. absurd (let q = eqb-true o n e in omega arith)) (λ e. e)

module _ (t : Table) (pool : List (List ℕ)) (Answers : Partial → ℕ → Type 0) (Picks : List Part → ℕ → Type 0) (zs : BeginsWithZeros pool) where
  -- a step leaves a best choice that is as good
  pub good_after : (s : Search) (k : ℕ) (p : Partial) (d : ℕ) (f : Fate) → fate t pool s.best p ≡ f → IsAsGood t (after t s k p d f).best s.best
  good_after s k p d closed e = as_good_itself t s.best
  good_after s k p d complete e = let w = fate_complete _ _ e in go s.best w.0
    where
      go : (best : Option (List ℕ)) → first_close t pool best p ≡ None → IsAsGood t (Some (choice_of t p)) best
      go None e' = tt
      go (Some b) e' = before_as_good t (choice_of t p) b (unclosed_before t pool b p zs ((fate_complete _ _ e).1) e')
  good_after s k p d divided e = as_good_itself t s.best

  good_step : (s next : Search) → Step t pool Answers Picks s next → IsAsGood t next.best s.best
  good_step s next w = rw w.next_is (good_after s w.place w.part w.decision (fate t pool s.best w.part) refl)

  good_run : (n : ℕ) (s e : Search) → Run t pool Answers Picks n s e → IsAsGood t e.best s.best
  good_run zero s e r = rw r (as_good_itself t e.best)
  good_run (suc n) s e r = as_good_trans t e.best r.0.best s.best (good_run n r.0 e r.2) (good_step s r.0 r.1)

  module _ (best : Option (List ℕ)) (A : Partial → ℕ → Type 0) where
    -- a printed tree of at most m nodes
    record Built (p : Partial) (m : ℕ) : Type 0 where
      tree : Tree
      printed : IsPrinted t pool A best p tree
      few : nodes tree ≤ m

    -- printed trees of the parts, of at most m nodes together
    abbrev AllBuilt : List Partial → ℕ → Type 0
    AllBuilt [] m = Unit {0}
    AllBuilt (p ∷ ps) m = (x y : ℕ) × Built p x × AllBuilt ps y × (x + y ≤ m)

    built_split : (xs ys : List Partial) (m : ℕ) → AllBuilt (xs ++ ys) m → (x y : ℕ) × AllBuilt xs x × AllBuilt ys y × (x + y ≤ m)
    built_split [] ys m h = (0, m, tt, h, omega arith)
    built_split (p ∷ ps) ys m h =
        let w = built_split ps ys h.1 h.3 in
        let l = h.4 in let v = w.4 in
        (h.0 + w.0, w.1, (h.0, w.0, h.2, w.2, omega arith), w.3, omega arith)

    -- the parts before a step, from those after it
    built_before : (ps : List Partial) (k : ℕ) (new : List Partial) (e : Partial) (m : ℕ) → k < length ps → AllBuilt (replaced ps k new) m →
        ((y : ℕ) → AllBuilt new y → Built (slice_index_or ps k e) (y + 1)) → AllBuilt ps (m + 1)
    unfolding replaced
    built_before [] k new e m l h f = absurd (omega arith)
    built_before (p ∷ ps) zero new e m l h f =
        let w = built_split new ps m h in let v = w.4 in (w.0 + 1, w.1, f w.0 w.2, w.3, omega arith)
    built_before (p ∷ ps) (suc k) new e m l h f =
        let w = h.4 in (h.0, h.1 + 1, h.2, built_before ps k new e h.1 (omega arith) h.3 f, omega arith)

    -- the trees of the children, by their options
    record Chosen (n : ℕ) (f : ℕ → Partial) (m : ℕ) : Type 0 where
      trees : ℕ → Tree
      printed : (o : ℕ) → o < n → IsPrinted t pool A best (f o) (trees o)
      few : sum_to n (λ o. nodes (trees o)) ≤ m

    chosen : (n : ℕ) (f : ℕ → Partial) (m : ℕ) → AllBuilt (list_to n f) m → Chosen n f m
    unfolding list_to sum_to pick
    chosen zero f m h = record { trees = λ o. branch 0 nil; printed = λ o l. absurd (omega arith); few = omega arith }
    chosen (suc n) f m h =
        let w = built_split (list_to n f) (f n ∷ []) m h in
        let a = chosen n f w.0 w.2 in
        let b = w.3.2 in
        let g = λ (o : ℕ). pick (o == n) b.tree (a.trees o) in
        let same : (o : ℕ) → o < n → g o ≡ a.trees o = λ o l. ap (λ x. pick x b.tree (a.trees o)) (other o n l) in
        let last : g n ≡ b.tree = ap (λ x. pick x b.tree (a.trees n)) (eq-eqb n n refl) in
        record {
          trees = g;
          printed = λ o l. by_test (o == n)
              (λ e. let q = eqb-true o n e in rw (q, last) b.printed)
              (λ e. let ne = differ o n e in let z : o < n = let u : o ≢ n = ne in omega arith in rw (same o z) (a.printed o z));
          few =
              let s = sum_same n (λ o. nodes (g o)) (λ o. nodes (a.trees o)) (λ o l. ap nodes (same o l)) in
              let z = ap nodes last in
              let u = a.few in let v = b.few in let x = w.4 in let y = w.3.4 in omega arith;
        }

    -- the branch on an answered decision
    built_branch : (p : Partial) (d m : ℕ) → first_close t pool best p ≡ None → A p d → Chosen (option_count t d) (with_option p d) m → Built p (m + 1)
    unfolding nodes
    built_branch p d m e a h = record {
      tree = branch d (trees_to (option_count t d) h.trees);
      printed = printed_branch t pool A best p d h.trees e a h.printed;
      few = let q = nodes_to (option_count t d) h.trees in let v = h.few in omega arith;
    }

    built_leaf : (p : Partial) (c : Close) (m : ℕ) → first_close t pool best p ≡ Some c → Built p (m + 1)
    unfolding nodes
    built_leaf p c m e = record { tree = leaf (pooled c); printed = printed_leaf t pool A best p c e; few = omega arith }

    -- what closes has a leaf
    built_closed : (p : Partial) (m : ℕ) → Closes t pool best p → Built p (m + 1)
    built_closed p m h = go (first_close t pool best p) refl
      where
        go : (r : Option Close) → first_close t pool best p ≡ r → Built p (m + 1)
        go (Some c) e = built_leaf p c m e
        go None e = absurd (let w = h.holds in let v = first_close_none t pool best p e h.rule h.index in cc)

    -- what was the best choice once closes with the last one
    pub once_best : (p : Partial) → unfixed t p ≡ 0 → IsAsGood t best (Some (choice_of t p)) → first_close t pool best p ≡ None → ⊥
    once_best p z g e = go best g e
      where
        go : (b : Option (List ℕ)) → IsAsGood t b (Some (choice_of t p)) → first_close t pool b p ≡ None → ⊥
        go (Some b) g' e' = not_before t (choice_of t p) b g' (unclosed_before t pool b p zs z e')
        go None g' e' = g'

    built_complete : (p : Partial) (m : ℕ) → unfixed t p ≡ 0 → IsAsGood t best (Some (choice_of t p)) → Built p (m + 1)
    built_complete p m z g = go (first_close t pool best p) refl
      where
        go : (r : Option Close) → first_close t pool best p ≡ r → Built p (m + 1)
        go (Some c) e = built_leaf p c m e
        go None e = absurd (once_best p z g e)

    built_divided : (p : Partial) (d m : ℕ) → A p d → AllBuilt (children t p d) m → Built p (m + 1)
    built_divided p d m a h = go (first_close t pool best p) refl
      where
        go : (r : Option Close) → first_close t pool best p ≡ r → Built p (m + 1)
        go (Some c) e = built_leaf p c m e
        go None e = built_branch p d m e a (chosen (option_count t d) (with_option p d) m h)

    -- a tree of the part that is taken, from those of its children
    built_after : (s : Search) (k : ℕ) (p : Partial) (d m : ℕ) (f : Fate) → fate t pool s.best p ≡ f → (f ≡ divided → A p d) →
        p ≡ slice_index_or s.parts k (nothing_fixed t) → k < length s.parts → IsAsGood t best (after t s k p d f).best →
        AllBuilt (after t s k p d f).parts m → AllBuilt s.parts (m + 1)
    built_after s k p d m closed e a is l g h =
        let w = fate_closed _ _ e in
        built_before s.parts k [] (nothing_fixed t) m l h (λ y b. rw (← is) (built_closed p y (closes_better t pool s.best best p g
        (record { rule = w.0.rule; index = w.0.index; holds = first_close_holds t pool s.best p w.0 w.1 }))))
    built_after s k p d m complete e a is l g h =
        built_before s.parts k [] (nothing_fixed t) m l h (λ y b. rw (← is) (built_complete p y ((fate_complete _ _ e).1) g))
    built_after s k p d m divided e a is l g h =
        built_before s.parts k (children t p d) (nothing_fixed t) m l h (λ y b. rw (← is) (built_divided p d y (a refl) b))

  built_weaker : (best : Option (List ℕ)) (A B : Partial → ℕ → Type 0) (ps : List Partial) (m : ℕ) → ((p : Partial) (d : ℕ) → A p d → B p d) →
      AllBuilt best A ps m → AllBuilt best B ps m
  built_weaker best A B [] m f h = h
  built_weaker best A B (p ∷ ps) m f h =
      (h.0, h.1, record { tree = h.2.tree; printed = printed_weaker h.2.tree t pool A B best p f h.2.printed; few = h.2.few }, built_weaker best A B ps h.1 f h.3, h.4)

  built_none : (best : Option (List ℕ)) (A : Partial → ℕ → Type 0) (ps : List Partial) → ps ≡ [] → AllBuilt best A ps 0
  built_none best A [] h = tt
  built_none best A (p ∷ ps) h = absurd (cc)

  -- trees of the parts of a state, whose branches stand on the decisions of the run from there
  built_run : (n : ℕ) (s : Search) (best : Option (List ℕ)) (r : Run t pool Answers Picks n s (end best)) →
      AllBuilt best (Divides t pool Answers Picks n s (end best) r) s.parts n
  built_run zero s best r = built_none best (Divides t pool Answers Picks zero s (end best) r) s.parts (ap (λ (x : Search). x.parts) r)
  built_run (suc n) s best r =
      let w = r.1 in
      let A = Divides t pool Answers Picks (suc n) s (end best) r in
      let g = good_run n r.0 (end best) r.2 in
      let i = built_weaker best (Divides t pool Answers Picks n r.0 (end best) r.2) A r.0.parts n (λ p d h. inr h) (built_run n r.0 best r.2) in
      let j : AllBuilt best A s.parts (n + 1) =
      built_after best A s w.place w.part w.decision n (fate t pool s.best w.part) refl (λ e. inl (refl, refl, e)) w.part_is w.in_list
      (let Q : Option (List ℕ) → Type 0 = λ b. IsAsGood t best b in subst Q (ap (λ (x : Search). x.best) w.next_is) g)
      (let Q : List Partial → Type 0 = λ ps. AllBuilt best A ps n in subst Q (ap (λ (x : Search). x.parts) w.next_is) i) in
      let e : n + 1 ≡ suc n = omega arith in rw e at j

  -- what divided a part in the run was answered there
  pub divides_answered : (n : ℕ) (s e : Search) (r : Run t pool Answers Picks n s e) (p : Partial) (d : ℕ) → Divides t pool Answers Picks n s e r p d → Answers p d
  divides_answered zero s e r p d h = absurd h
  divides_answered (suc n) s e r p d (inl h) = rw (h.0, h.1) at (r.1.answered (rw (← h.0) at h.2))
  divides_answered (suc n) s e r p d (inr h) = divides_answered n r.0 e r.2 p d h

  -- a run that ends prints a tree of at most as many nodes as it takes steps, whose branches stand on the decisions of the run
  pub run_prints : (n : ℕ) (best : Option (List ℕ)) (r : Run t pool Answers Picks n (start t) (end best)) →
      (x : Tree) × IsPrinted t pool (Divides t pool Answers Picks n (start t) (end best) r) best (nothing_fixed t) x × (nodes x ≤ n)
  run_prints n best r =
      let h = built_run n (start t) best r in
      let b = h.2 in let l = h.4 in let f = b.few in (b.tree, b.printed, omega arith)

module _ (t : Table) (pool : List (List ℕ)) (zs : BeginsWithZeros pool) (table : IsTable t) where
  -- all rules and all picks find one choice
  pub one_choice : (A B : Partial → ℕ → Type 0) (P Q : List Part → ℕ → Type 0) (m n : ℕ) (x y : Option (List ℕ)) → IsLawful t A → IsLawful t B →
      Run t pool A P m (start t) (end x) → Run t pool B Q n (start t) (end y) → x ≡ y
  one_choice A B P Q m n x y f g r q = least_unique t x y (run_least t pool A P zs f table m x r) (run_least t pool B Q zs g table n y q)

  -- for a rule that is a function, what a run prints is the certificate of the rule, whatever the pick
  pub one_tree : (rule : Partial → ℕ) (P : List Part → ℕ → Type 0) → IsLawful t (rule_of rule) → (n : ℕ) (best : Option (List ℕ)) →
      (r : Run t pool (rule_of rule) P n (start t) (end best)) (x : Tree) →
      IsPrinted t pool (Divides t pool (rule_of rule) P n (start t) (end best) r) best (nothing_fixed t) x → certified t pool best x ≡ certificate t pool rule best
  one_tree rule P lawful n best r x h =
      let l = run_least t pool (rule_of rule) P zs lawful table n best r in
      let k = printed_weaker x t pool _ (rule_of rule) best (nothing_fixed t) (divides_answered t pool (rule_of rule) P zs n (start t) (end best) r) h in
      ap (certified t pool best) (printed_one x t pool rule best (nothing_fixed t) _ k (root_printed t pool rule zs table lawful best l))

  -- it has at most as many nodes as each run has steps
  pub certificate_nodes : (rule : Partial → ℕ) (P : List Part → ℕ → Type 0) → IsLawful t (rule_of rule) → (n : ℕ) (best : Option (List ℕ)) →
      Run t pool (rule_of rule) P n (start t) (end best) → nodes (certificate t pool rule best).root ≤ n
  certificate_nodes rule P lawful n best r =
      let w = run_prints t pool (rule_of rule) P zs n best r in
      let e = ap (λ c. nodes c.root) (one_tree rule P lawful n best r w.0 w.1) in
      let l = w.2 in omega arith

module _ (t : Table) (pool : List (List ℕ)) (Answers : Partial → ℕ → Type 0) (Picks : List Part → ℕ → Type 0) (zs : BeginsWithZeros pool) (table : IsTable t) (lawful : IsLawful t Answers) where
  -- whatever the rule and the pick: a certificate whose tree is printed by the run is valid
  pub run_valid : (n : ℕ) (best : Option (List ℕ)) (r : Run t pool Answers Picks n (start t) (end best)) (x : Tree) →
      IsPrinted t pool (Divides t pool Answers Picks n (start t) (end best) r) best (nothing_fixed t) x → IsValidFor t (certified t pool best x)
  run_valid n best r x h =
      certified_valid t pool Answers zs table lawful best x (run_least t pool Answers Picks zs lawful table n best r)
      (printed_weaker x t pool _ Answers best (nothing_fixed t) (divides_answered t pool Answers Picks zs n (start t) (end best) r) h)
