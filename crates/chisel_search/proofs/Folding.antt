-- The fold of a log, one visit back.
use Rattle.std.proofs.Common.{◌≡◌, ◌≢◌, ℕ, zero, suc, ◌+◌, ◌-◌, ◌≤◌, ◌<◌, List, [], ◌∷◌, length, take, drop, set, get_or, refl, sym, ap, subst, ◌∙◌, arith, Option, Some, None}
use Rattle.std.specs.Prelude.{slice_index, slice_index_or, sum}
use Rattle.std.proofs.lemmas.List.{drop_more, nil_from_length, get_or_read, length-set, get_or-set_same, get_or-set_other}
use Rattle.std.proofs.lemmas.List.Sums.{sum_by-cons}
use Rattle.chisel_table.specs.declared.closing.Close.{Close}
use Rattle.chisel_table.specs.declared.partial.Partial.{Partial}
use Rattle.chisel_table.specs.declared.table.Table.{Table}
use Rattle.chisel_table.specs.Closings.{first_close}
use Rattle.chisel_table.specs.Partials.{nothing_fixed, with_option}
use Rattle.chisel_table.specs.Soundness.{IsAsGood}
use Rattle.chisel_table.specs.Sums.{sum_to}
use Rattle.chisel_table.specs.Tables.{option_count}
use Rattle.chisel_table.proofs.Choices.{as_good_trans, as_good_itself}
use Rattle.chisel_table.proofs.Closings.{closes_better, first_close_holds, first_close_none}
use Rattle.chisel_table.proofs.Sums.{sum_same}
use Rattle.chisel_bound.specs.Pool.{BeginsWithZeros}
use Rattle.chisel_bound.proofs.Lists.{length_listed, listed_at}
use Rattle.chisel_cert.specs.declared.cert.Node.{Node}
use Rattle.chisel_cert.specs.Node.{tree_of, trees_of}
use Rattle.chisel_cert.specs.Tree.{pooled, leaf, branch, cons, nodes}
use Rattle.chisel_bound.specs.declared.differences.Differences.{Differences}
use Rattle.chisel_search.specs.declared.machine.Machine.{Machine}
use Rattle.chisel_search.specs.declared.visit.Visit.{Visit}
use Rattle.chisel_search.specs.Fold.{AnyDecision, AnyPlace, InLog, IsBuilt, IsOver, IsPut, HasPlaces, child_count, children_in, closed_or, size_or, node_at, tree_at}
use Rattle.chisel_search.specs.Logs.{State, Leads, Logged, first_state, state_after, visit_at, fate_of, decision_of, children_by, count_by, numbers_from}
use Rattle.chisel_search.specs.Machine.{EachNumbered, KeepsAll, best_after, held_options, pool_of, table_of}
use Rattle.chisel_search.specs.Printed.{IsPrinted, trees_to}
use Rattle.chisel_search.specs.Search.{Fate, closed, complete, divided, fate, children, replaced}
use Rattle.chisel_search.proofs.Every.{good_after, once_best}
use Rattle.chisel_search.proofs.Least.{fate_closed, fate_complete}
use Rattle.chisel_search.proofs.Lists.{EachOf, total, total_listed, total_replaced, total_same}
use Rattle.chisel_search.proofs.Logs as logs
use Rattle.chisel_search.proofs.Logs.{after_parts, after_best, AreInOrder, logged_in_order}
use Rattle.chisel_search.proofs.Numbered.{numbered_at, numbered_before, numbered_new, numbered_weaker, numbers_absent, new_absent, number_below}
use Rattle.chisel_search.proofs.Printed.{nodes_to, printed_branch, printed_leaf, sum_first}

-- ---- children at consecutive numbers

sum_more : (n : ℕ) (ns : List ℕ) → sum (n ∷ ns) ≡ n + sum ns
sum_more n ns = sum_by-cons (λ x. x) n ns

-- the trees of nodes that stand one behind the other
trees_in : (ns : List Node) (c a : ℕ) → a + c ≤ length ns → trees_of (take c (drop a ns)) ≡ trees_to c (λ o. tree_at ns (a + o))
unfolding trees_to
trees_in ns zero a l = refl
trees_in ns (suc c) a l =
    let more = drop_more ns a (node_at [] 0) (let m : a < length ns = omega arith in m) in
    let next : (o : ℕ) → a + 1 + o ≡ a + suc o = λ o. omega arith in
    let here : a ≡ a + 0 = omega arith in
    ap (λ l. trees_of (take (suc c) l)) more
    ∙ ap (cons (tree_at ns a)) (trees_in ns c (a + 1) (omega arith))
    ∙ (λ i. cons (tree_at ns (here i)) (trees_to c (λ o. tree_at ns (next o i))))

sum_in : (ss : List ℕ) (c a : ℕ) → a + c ≤ length ss → sum (take c (drop a ss)) ≡ sum_to c (λ o. slice_index ss (a + o))
unfolding sum_to
sum_in ss zero a l = refl
sum_in ss (suc c) a l =
    let more = drop_more ss a 0 (let m : a < length ss = omega arith in m) in
    let next : (o : ℕ) → a + 1 + o ≡ a + suc o = λ o. omega arith in
    let here : a + 0 ≡ a = omega arith in
    let x : sum (take (suc c) (drop a ss)) ≡ slice_index ss a + sum (take c (drop (a + 1) ss)) =
    ap (λ l. sum (take (suc c) l)) more ∙ sum_more (slice_index ss a) (take c (drop (a + 1) ss)) in
    let y = sum_in ss c (a + 1) (omega arith) in
    let z : sum_to c (λ o. slice_index ss (a + 1 + o)) ≡ sum_to c (λ o. slice_index ss (a + suc o)) = λ i. sum_to c (λ o. slice_index ss (next o i)) in
    let u = sum_first c (λ o. slice_index ss (a + o)) in
    let v = ap (slice_index ss) here in
    omega (arith, x, y, z, u, v)

-- ---- what the fold keeps

-- the nodes of the parts that were open after the first n visits, with at most one for each later visit
pub record IsFolded (t : Table) (pool : List (List ℕ)) (log : List Visit) (best : Option (List ℕ)) (made n : ℕ) (ns : List Node) (ss : List ℕ) : Type 0 where
  pub state : State
  pub logged : Logged t pool AnyDecision AnyPlace log n state
  pub room : state.made ≤ made
  pub all_nodes : length ns ≡ made
  pub all_sizes : length ss ≡ made
  pub good : IsAsGood t best state.search.best
  pub built : EachNumbered (IsBuilt t pool log best ns ss) state.search.parts state.numbers
  pub few : total (slice_index ss) state.numbers + n ≤ length log

-- the same, told of the state before the last of these visits
pub record IsBack (t : Table) (pool : List (List ℕ)) (log : List Visit) (best : Option (List ℕ)) (made n : ℕ) (v : Visit) (ns : List Node) (ss : List ℕ) (s : State) (place : ℕ) : Type 0 where
  pub logged : Logged t pool AnyDecision AnyPlace log n s
  pub inside : n < length log
  pub visit_is : v ≡ visit_at t log n
  pub in_list : place < length s.search.parts
  pub part_is : v.partial ≡ slice_index_or s.search.parts place (nothing_fixed t)
  pub number_is : v.number ≡ slice_index s.numbers place
  pub first_is : v.first ≡ s.made
  pub fate_is : fate_of v.fate ≡ fate t pool s.search.best v.partial
  pub order : AreInOrder t pool AnyDecision AnyPlace s
  pub room : s.made + child_count t v ≤ made
  pub all_nodes : length ns ≡ made
  pub all_sizes : length ss ≡ made
  pub good : IsAsGood t best (best_after t s.search.best v.partial (fate_of v.fate))
  pub built : EachNumbered (IsBuilt t pool log best ns ss)
      (replaced s.search.parts place (children_by t v.partial (decision_of v.fate) (fate_of v.fate))) (replaced s.numbers place (numbers_from s.made (child_count t v)))
  pub few : total (slice_index ss) (replaced s.numbers place (numbers_from s.made (child_count t v))) + n + 1 ≤ length log

module _ (t : Table) (pool : List (List ℕ)) (log : List Visit) (best : Option (List ℕ)) (zs : BeginsWithZeros pool) (made : ℕ) where
  -- at the end no part is open
  pub folded_end : (n : ℕ) (s : State) (ns : List Node) (ss : List ℕ) → Logged t pool AnyDecision AnyPlace log n s → n ≡ length log → s.search.parts ≡ [] →
      s.made ≡ made → best ≡ s.search.best → length ns ≡ made → length ss ≡ made → IsFolded t pool log best made n ns ss
  folded_end n s ns ss h e none m b ln ls =
      let order = logged_in_order t pool AnyDecision AnyPlace log n s h in
      let none' : s.numbers ≡ [] = nil_from_length s.numbers (let a = order.size in let c = ap length none in omega arith) in
      record {
        state = s;
        logged = h;
        room = omega arith;
        all_nodes = ln;
        all_sizes = ls;
        good = subst (λ b. IsAsGood t best b) b (as_good_itself t best);
        built =
            subst (λ ps. EachNumbered (IsBuilt t pool log best ns ss) ps s.numbers) (sym none)
            (subst (λ ks. EachNumbered (IsBuilt t pool log best ns ss) [] ks) (sym none') tt);
        few = let a = ap (total (slice_index ss)) none' in omega (arith, a);
      }

  -- the state before a visit
  pub back_of : (n : ℕ) (v : Visit) (ns : List Node) (ss : List ℕ) → v ≡ visit_at t log n → IsFolded t pool log best made (suc n) ns ss →
      (s : State) × (place : ℕ) × IsBack t pool log best made n v ns ss s place
  back_of n v ns ss e h =
      let s = h.logged.0 in
      let w = subst (λ x. Leads t pool AnyDecision AnyPlace s x h.state) (sym e) h.logged.2 in
      let k = w.place in
      let d = decision_of v.fate in
      let f = fate_of v.fate in
      let good : IsAsGood t best (state_after t s k v).search.best = subst (λ (x : State). IsAsGood t best x.search.best) w.next_is h.good in
      let built : EachNumbered (IsBuilt t pool log best ns ss) (state_after t s k v).search.parts (state_after t s k v).numbers =
      subst (λ (x : State). EachNumbered (IsBuilt t pool log best ns ss) x.search.parts x.numbers) w.next_is h.built in
      let numbers = ap (λ (x : State). x.numbers) w.next_is in
      let m = ap (λ (x : State). x.made) w.next_is in
      let room = h.room in
      let few = h.few in
      let sums = ap (total (slice_index ss)) numbers in (
        s,
        k,
        record {
          logged = h.logged.1;
          inside = omega arith;
          visit_is = e;
          in_list = w.in_list;
          part_is = w.part_is;
          number_is = w.number_is;
          first_is = w.first_is;
          fate_is = w.fate_is;
          order = logged_in_order t pool AnyDecision AnyPlace log n s h.logged.1;
          room = omega (arith, m);
          all_nodes = h.all_nodes;
          all_sizes = h.all_sizes;
          good = subst (λ b. IsAsGood t best b) (after_best t s.search k v.partial d f) good;
          built = subst (λ ps. EachNumbered (IsBuilt t pool log best ns ss) ps (replaced s.numbers k (numbers_from s.made (child_count t v)))) (after_parts t s.search k v.partial d f) built;
          few = omega (arith, sums, few);
        },
      )

  -- what closes with no rule and the last best choice was divided
  fate_divided : (b : Option (List ℕ)) (p : Partial) (f : Fate) → f ≡ fate t pool b p → IsAsGood t best (best_after t b p f) → IsAsGood t (best_after t b p f) b →
      first_close t pool best p ≡ None → f ≡ divided
  fate_divided b p closed e g h n =
      let w = fate_closed _ _ (sym e) in
      let c = closes_better t pool b best p g (record { rule = w.0.rule; index = w.0.index; holds = first_close_holds t pool b p w.0 w.1 }) in
      absurd (let x = c.holds in let y = first_close_none t pool best p n c.rule c.index in cc)
  fate_divided b p complete e g h n =
      absurd (once_best t pool AnyDecision AnyPlace zs best AnyDecision p ((fate_complete _ _ (sym e)).1) g n)
  fate_divided b p divided e g h n = refl

  module _ (n : ℕ) (v : Visit) (ns : List Node) (ss : List ℕ) (s : State) (place : ℕ) (h : IsBack t pool log best made n v ns ss s place) where
    in_numbers : place < length s.numbers
    in_numbers = let a = h.order.size in let b = h.in_list in omega arith

    best_kept : IsAsGood t (best_after t s.search.best v.partial (fate_of v.fate)) s.search.best
    best_kept =
        subst (λ b. IsAsGood t b s.search.best) (after_best t s.search place v.partial (decision_of v.fate) (fate_of v.fate))
        (good_after t pool AnyDecision AnyPlace zs s.search place v.partial (decision_of v.fate) (fate_of v.fate) (sym h.fate_is))

    pub was_divided : first_close t pool best v.partial ≡ None → fate_of v.fate ≡ divided
    was_divided = fate_divided s.search.best v.partial (fate_of v.fate) h.fate_is h.good best_kept

    number_made : v.number < s.made
    number_made = let a = number_below s.numbers place s.made in_numbers h.order.numbers in let b = h.number_is in omega arith

    pub has_places : (m : ℕ) → m ≡ made → HasPlaces t v m
    has_places m e = record {
      own = let a = number_made in let b = h.room in omega arith;
      children = λ f. let a = h.room in let b = h.first_is in omega arith;
    }

    first_to : v.first + child_count t v - v.first ≡ child_count t v
    first_to = omega arith

    sum_is : sum (children_in t v ss) ≡ total (slice_index ss) (numbers_from s.made (child_count t v))
    sum_is =
        let r = h.room in
        let l = h.all_sizes in
        let f = h.first_is in
        ap (λ k. sum (take k (drop v.first ss))) first_to
        ∙ sum_in ss (child_count t v) v.first (omega arith)
        ∙ ap (λ k. sum_to (child_count t v) (λ o. slice_index ss (k + o))) f
        ∙ sym (total_listed (slice_index ss) (child_count t v) (λ o. s.made + o))

    sum_within : total (slice_index ss) (numbers_from s.made (child_count t v)) + slice_index ss v.number ≤ total (slice_index ss) (replaced s.numbers place (numbers_from s.made (child_count t v))) + slice_index ss v.number
    sum_within =
        let a = total_replaced (slice_index ss) s.numbers place (numbers_from s.made (child_count t v)) 0 in_numbers in
        let b = ap (slice_index ss) h.number_is in
        let g = total_at (slice_index ss) s.numbers place in_numbers in omega arith
      where
        total_at : (f : ℕ → ℕ) (xs : List ℕ) (k : ℕ) → k < length xs → f (slice_index xs k) ≤ total f xs
        total_at f [] k l = absurd (omega arith)
        total_at f (x ∷ xs) zero l = omega arith
        total_at f (x ∷ xs) (suc k) l = let r = total_at f xs k (omega arith) in omega arith

    pub few_nodes : sum (children_in t v ss) + 1 ≤ length log
    few_nodes = let a = sum_is in let b = sum_within in let g = h.few in omega arith

    children_built : EachNumbered (IsBuilt t pool log best ns ss) (children_by t v.partial (decision_of v.fate) (fate_of v.fate)) (numbers_from s.made (child_count t v))
    children_built =
        numbered_new (IsBuilt t pool log best ns ss) s.search.parts s.numbers place
        (children_by t v.partial (decision_of v.fate) (fate_of v.fate)) (numbers_from s.made (child_count t v)) h.in_list h.order.size
        (logs.child_count t v.partial (decision_of v.fate) (fate_of v.fate) ∙ sym (length_listed (child_count t v) (λ o. s.made + o))) h.built

    child_built : fate_of v.fate ≡ divided → (o : ℕ) → o < option_count t (decision_of v.fate) →
        IsBuilt t pool log best ns ss (with_option v.partial (decision_of v.fate) o) (s.made + o)
    child_built e o l =
        let d = decision_of v.fate in
        let all : EachNumbered (IsBuilt t pool log best ns ss) (children t v.partial d) (numbers_from s.made (option_count t d)) =
        subst (λ f. EachNumbered (IsBuilt t pool log best ns ss) (children_by t v.partial d f) (numbers_from s.made (count_by t d f))) e children_built in
        let size = length_listed (option_count t d) (with_option v.partial d) in
        let b = numbered_at (IsBuilt t pool log best ns ss) (children t v.partial d) (numbers_from s.made (option_count t d)) o (nothing_fixed t) (omega arith) all in
        subst (λ k. IsBuilt t pool log best ns ss (with_option v.partial d o) k) (listed_at (option_count t d) (λ o. s.made + o) o 0 l)
        (subst (λ p. IsBuilt t pool log best ns ss p (slice_index (numbers_from s.made (option_count t d)) o)) (listed_at (option_count t d) (with_option v.partial d) o (nothing_fixed t) l) b)

    -- ---- after the node of the visit is written
    module _ (ns' : List Node) (ss' : List ℕ) (put : IsPut t v (first_close t pool best v.partial) ns ss ns' ss') where
      built_leaf : (r : Close) → first_close t pool best v.partial ≡ Some r → IsBuilt t pool log best ns' ss' v.partial v.number
      unfolding nodes
      built_leaf r e =
          let tree : tree_at ns' v.number ≡ leaf (pooled r) = put.tree ∙ ap (λ x. closed_or x (branch (decision_of v.fate) (trees_of (children_in t v ns)))) e in
          let size : slice_index ss' v.number ≡ 1 = put.size ∙ ap (λ x. size_or x (sum (children_in t v ss) + 1)) e in
          record {
            printed = subst (λ x. IsPrinted t pool (InLog t log) best v.partial x) (sym tree) (printed_leaf t pool (InLog t log) best v.partial r e);
            size = size ∙ ap nodes (sym tree);
          }

      in_log : fate_of v.fate ≡ divided → InLog t log v.partial (decision_of v.fate)
      in_log e = record {
        place = n;
        inside = h.inside;
        part = ap (λ (x : Visit). x.partial) (sym h.visit_is);
        divides = ap (λ (x : Visit). fate_of x.fate) (sym h.visit_is) ∙ e;
        decision = ap (λ (x : Visit). decision_of x.fate) (sym h.visit_is);
      }

      built_branch : first_close t pool best v.partial ≡ None → IsBuilt t pool log best ns' ss' v.partial v.number
      unfolding nodes
      built_branch e =
          let d = decision_of v.fate in
          let f = was_divided e in
          let count : child_count t v ≡ option_count t d = ap (count_by t d) f in
          let g = λ (o : ℕ). tree_at ns (s.made + o) in
          let room = h.room in
          let first = h.first_is in
          let all_nodes = h.all_nodes in
          let trees : trees_of (children_in t v ns) ≡ trees_to (option_count t d) g =
          ap (λ k. trees_of (take k (drop v.first ns))) first_to
          ∙ trees_in ns (child_count t v) v.first (omega arith)
          ∙ (λ i. trees_to (count i) (λ o. tree_at ns (first i + o))) in
          let tree : tree_at ns' v.number ≡ branch d (trees_to (option_count t d) g) =
          put.tree ∙ ap (λ x. closed_or x (branch d (trees_of (children_in t v ns)))) e ∙ ap (branch d) trees in
          let size : slice_index ss' v.number ≡ sum (children_in t v ss) + 1 = put.size ∙ ap (λ x. size_or x (sum (children_in t v ss) + 1)) e in
          let sums : total (slice_index ss) (numbers_from s.made (child_count t v)) ≡ sum_to (option_count t d) (λ o. slice_index ss (s.made + o)) =
          total_listed (slice_index ss) (child_count t v) (λ o. s.made + o) ∙ ap (λ k. sum_to k (λ o. slice_index ss (s.made + o))) count in
          let each = sum_same (option_count t d) (λ o. slice_index ss (s.made + o)) (λ o. nodes (g o)) (λ o l. (child_built f o l).size) in
          let all = nodes_to (option_count t d) g in
          let given = sum_is in
          record {
            printed = subst (λ x. IsPrinted t pool (InLog t log) best v.partial x) (sym tree)
                (printed_branch t pool (InLog t log) best v.partial d g e (in_log f) (λ o l. (child_built f o l).printed));
            size = size ∙ (let z : sum (children_in t v ss) + 1 ≡ nodes (branch d (trees_to (option_count t d) g)) = omega (arith, given, sums, each, all) in z) ∙ ap nodes (sym tree);
          }

      built_here : IsBuilt t pool log best ns' ss' v.partial v.number
      built_here = go (first_close t pool best v.partial) refl
        where
          go : (r : Option Close) → first_close t pool best v.partial ≡ r → IsBuilt t pool log best ns' ss' v.partial v.number
          go (Some r) e = built_leaf r e
          go None e = built_branch e

      built_others : EachNumbered (IsBuilt t pool log best ns' ss')
          (replaced s.search.parts place (children_by t v.partial (decision_of v.fate) (fate_of v.fate))) (replaced s.numbers place (numbers_from s.made (child_count t v)))
      built_others =
          numbered_weaker (IsBuilt t pool log best ns ss) (IsBuilt t pool log best ns' ss') (λ m. m ≢ slice_index s.numbers place)
          (replaced s.search.parts place (children_by t v.partial (decision_of v.fate) (fate_of v.fate))) (replaced s.numbers place (numbers_from s.made (child_count t v)))
          (λ p m ne b.
          let other : m ≢ v.number = λ q. ne (q ∙ h.number_is) in
          let tree = put.other_nodes m other in
          let size = put.other_sizes m other in
          record {
            printed = subst (λ x. IsPrinted t pool (InLog t log) best p x) (sym tree) b.printed;
            size = size ∙ b.size ∙ ap nodes (sym tree);
          })
          (numbers_absent s.numbers place s.made (child_count t v) in_numbers h.order.numbers) h.built

      -- no more nodes than before, and one for the visit
      size_within : slice_index ss' v.number ≤ total (slice_index ss) (numbers_from s.made (child_count t v)) + 1
      size_within = go (first_close t pool best v.partial) refl
        where
          go : (r : Option Close) → first_close t pool best v.partial ≡ r → slice_index ss' v.number ≤ total (slice_index ss) (numbers_from s.made (child_count t v)) + 1
          go (Some r) e =
              let z : slice_index ss' v.number ≡ 1 = put.size ∙ ap (λ x. size_or x (sum (children_in t v ss) + 1)) e in omega arith
          go None e =
              let z : slice_index ss' v.number ≡ sum (children_in t v ss) + 1 = put.size ∙ ap (λ x. size_or x (sum (children_in t v ss) + 1)) e in
              let given = sum_is in omega arith

      sizes_kept : (xs : List ℕ) → EachOf (λ m. m ≢ slice_index s.numbers place) xs → total (slice_index ss') xs ≡ total (slice_index ss) xs
      sizes_kept xs e =
          total_same (slice_index ss') (slice_index ss) (λ m. m ≢ slice_index s.numbers place) xs
          (λ m ne. put.other_sizes m (λ q. ne (q ∙ h.number_is))) e

      pub folded_before : IsFolded t pool log best made n ns' ss'
      folded_before = record {
        state = s;
        logged = h.logged;
        room = let a = h.room in omega arith;
        all_nodes = put.all_nodes ∙ h.all_nodes;
        all_sizes = put.all_sizes ∙ h.all_sizes;
        good = as_good_trans t best (best_after t s.search.best v.partial (fate_of v.fate)) s.search.best h.good best_kept;
        built = numbered_before (IsBuilt t pool log best ns' ss') s.search.parts s.numbers place
            (children_by t v.partial (decision_of v.fate) (fate_of v.fate)) (numbers_from s.made (child_count t v)) (nothing_fixed t) h.in_list h.order.size
            (logs.child_count t v.partial (decision_of v.fate) (fate_of v.fate) ∙ sym (length_listed (child_count t v) (λ o. s.made + o))) built_others
            (subst (λ p. IsBuilt t pool log best ns' ss' p (slice_index s.numbers place)) h.part_is
            (subst (λ m. IsBuilt t pool log best ns' ss' v.partial m) h.number_is built_here));
        few =
            let new = numbers_from s.made (child_count t v) in
            let a = total_replaced (slice_index ss') s.numbers place new 0 in_numbers in
            let b = sizes_kept (replaced s.numbers place new) (numbers_absent s.numbers place s.made (child_count t v) in_numbers h.order.numbers) in
            let g = sizes_kept new (new_absent s.numbers place s.made (child_count t v) in_numbers h.order.numbers) in
            let z = size_within in
            let q = ap (slice_index ss') h.number_is in
            let w = h.few in omega arith;
      }

-- ---- the writes

-- a node that is written with its size
pub put_is : (t : Table) (v : Visit) (close : Option Close) (ns : List Node) (ss : List ℕ) (ns' : List Node) (ss' : List ℕ) (node : Node) (size : ℕ) →
    ns' ≡ set ns v.number node → ss' ≡ set ss v.number size → v.number < length ns → v.number < length ss →
    tree_of node ≡ closed_or close (branch (decision_of v.fate) (trees_of (children_in t v ns))) → size ≡ size_or close (sum (children_in t v ss) + 1) →
    IsPut t v close ns ss ns' ss'
put_is t v close ns ss ns' ss' node size a b l m tree sum = record {
  all_nodes = ap length a ∙ length-set ns v.number node;
  all_sizes = ap length b ∙ length-set ss v.number size;
  other_nodes = λ k ne. ap (λ l. tree_at l k) a ∙ ap tree_of (get_or-set_other ns v.number k node _ ne);
  other_sizes = λ k ne. ap (λ l. slice_index l k) b ∙ get_or-set_other ss v.number k size 0 ne;
  tree = ap (λ l. tree_at l v.number) a ∙ ap tree_of (get_or-set_same ns v.number node _ l) ∙ tree;
  size = ap (λ l. slice_index l v.number) b ∙ get_or-set_same ss v.number size 0 m ∙ sum;
}

-- ---- the end

-- before all visits there is the part in which nothing is fixed
pub folded_root : (t : Table) (pool : List (List ℕ)) (log : List Visit) (best : Option (List ℕ)) (made : ℕ) (ns : List Node) (ss : List ℕ) →
    IsFolded t pool log best made 0 ns ss → (0 < length ns) × (0 < length ss) × IsBuilt t pool log best ns ss (nothing_fixed t) 0 × (slice_index ss 0 ≤ length log)
folded_root t pool log best made ns ss h =
    let e : h.state ≡ first_state t = h.logged in
    let m = ap (λ (x : State). x.made) e in
    let r = h.room in
    let a = h.all_nodes in
    let b = h.all_sizes in
    let w : EachNumbered (IsBuilt t pool log best ns ss) (nothing_fixed t ∷ []) (0 ∷ []) = subst (λ (x : State). EachNumbered (IsBuilt t pool log best ns ss) x.search.parts x.numbers) e h.built in
    let f = h.few in
    let s = ap (λ (x : State). total (slice_index ss) x.numbers) e in
    (omega arith, omega arith, w.0, omega arith)

-- the state before the visit that is folded next
pub fold_back : (d : Differences) (m now : Machine) (left : ℕ) (v : Visit) (ns : List Node) (ss : List ℕ) → IsOver d m → KeepsAll m now → 0 < left →
    v ≡ get_or now.log.items (left - 1) v →
    IsFolded (table_of d) (pool_of d) m.log.items (held_options m.best) m.made left ns ss →
    (s : State) × (place : ℕ) × IsBack (table_of d) (pool_of d) m.log.items (held_options m.best) m.made (left - 1) v ns ss s place
fold_back d m now left v ns ss over keeps l read h =
    let t = table_of d in
    let few = h.few in
    let size = ap (λ x. length x.items) keeps.log in
    let n : left ≡ suc (left - 1) = omega arith in
    let is : v ≡ visit_at t m.log.items (left - 1) =
    get_or_read now.log.items (left - 1) v (omega arith) read _ ∙ ap (λ x. visit_at t x.items (left - 1)) keeps.log in
    back_of t (pool_of d) m.log.items (held_options m.best) over.zeros m.made (left - 1) v ns ss is
    (subst (λ k. IsFolded t (pool_of d) m.log.items (held_options m.best) m.made k ns ss) n h)

pub keeps_trans : (a b c : Machine) → KeepsAll a b → KeepsAll b c → KeepsAll a c
keeps_trans a b c h k = record { made = k.made ∙ h.made; bounds = k.bounds ∙ h.bounds; best = k.best ∙ h.best; log = k.log ∙ h.log }
