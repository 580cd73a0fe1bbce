-- The parts of a frontier while the log grows.
use Rattle.std.proofs.Common.{◌≡◌, ◌≢◌, ℕ, ◌+◌, ◌-◌, ◌<◌, ◌==◌, List, [], ◌∷◌, ◌++◌, length, map, replicate, refl, sym, ap, subst, ◌∙◌, arith}
use Rattle.std.specs.Prelude.{slice_index, slice_index_or, nat_lt}
use Rattle.std.proofs.lemmas.Bool.{eqb-true, ltb-true, ltb-false}
use Rattle.std.proofs.lemmas.List.{get_or-map, get_or-replicate, get_or_append_left, get_or-append-add, get_or_push, length-append, length-replicate}
use lib.IntN.{pos}
use Rattle.chisel_table.specs.declared.table.Table.{Table}
use Rattle.chisel_table.specs.Partials.{nothing_fixed, with_option}
use Rattle.chisel_table.specs.Sums.{list_to}
use Rattle.chisel_table.specs.Tables.{decision_count, option_count}
use Rattle.chisel_table.proofs.Sums.{by_test, differ}
use Rattle.chisel_bound.proofs.Lists.{length_listed, listed_at}
use Rattle.chisel_search.specs.declared.frontier.Frontier.{Frontier}
use Rattle.chisel_search.specs.declared.part.Part.{Part}
use Rattle.chisel_search.specs.declared.visit.Visit.{Visit}
use Rattle.chisel_search.specs.Frontier.{child_of, partial_from, part_from, parts_in, HasOrigins, IsChild}
use Rattle.chisel_search.specs.Logs.{visit_at, fate_of, decision_of, children_by, count_by}
use Rattle.chisel_search.specs.Search.{Fate, closed, complete, divided, part_of, parts_of, replaced}
use Rattle.chisel_search.specs.Tournament.{value_of, numbers_in, IsOpen, IsShaped, Replaces, StandsAt}
use Rattle.chisel_search.proofs.Climbing.{values_of}
use Rattle.chisel_search.proofs.Grown.{each_open, told_grown}
use Rattle.chisel_search.proofs.Lists.{EachOf, each_weaker}

partial_of_child : (t : Table) (log : List Visit) (i n : ℕ) → 0 < n → partial_from t log i n ≡ child_of (visit_at t log i) n
partial_of_child t log i n l = by_test (n == 0) (λ e. absurd (let z = eqb-true n 0 e in omega arith)) (λ e. rw e refl)

-- ---- a part was visited, and its children came

module _ (t : Table) (pool : List (List ℕ)) (log : List Visit) (v : Visit) (old new : Frontier) (children : List Part)
    (h : HasOrigins t log old) (shaped : IsShaped old.tournament) (r : Replaces old.tournament v.number children new.tournament)
    (origins : new.origins.items ≡ old.origins.items ++ replicate (length children) (length log))
    (first : v.first ≡ length old.tournament.knots.items)
    (count : length children ≡ count_by t (decision_of v.fate) (fate_of v.fate))
    (parts : children ≡ parts_of t pool (children_by t v.partial (decision_of v.fate) (fate_of v.fate)))
    (decision : fate_of v.fate ≡ divided → decision_of v.fate < decision_count t) where
  visit_kept : (i : ℕ) → i < length log → visit_at t (log ++ v ∷ []) i ≡ visit_at t log i
  visit_kept i l = get_or_append_left log (v ∷ []) _ i l

  visit_new : visit_at t (log ++ v ∷ []) (length log) ≡ v
  visit_new = get_or_push log v _ (length log) refl

  origin_kept : (n : ℕ) → n < length old.tournament.knots.items → slice_index new.origins.items n ≡ slice_index old.origins.items n
  origin_kept n l =
      ap (λ os. slice_index os n) origins
      ∙ get_or_append_left old.origins.items (replicate (length children) (length log)) 0 n (let s = h.size in omega arith)

  origin_new : (o : ℕ) → o < length children → slice_index new.origins.items (length old.tournament.knots.items + o) ≡ length log
  origin_new o l =
      ap (λ os. slice_index os (length old.tournament.knots.items + o)) origins
      ∙ ap (λ k. slice_index (old.origins.items ++ replicate (length children) (length log)) (k + o)) (sym h.size)
      ∙ get_or-append-add old.origins.items (replicate (length children) (length log)) o 0
      ∙ get_or-replicate (length children) o (length log) 0 l

  -- ---- the parts that there were

  partial_kept : (n : ℕ) → n < length old.tournament.knots.items →
      partial_from t (log ++ v ∷ []) (slice_index new.origins.items n) n ≡ partial_from t log (slice_index old.origins.items n) n
  partial_kept n l =
      by_test (n == 0)
      (λ e. rw e refl)
      (λ e. let ne : n ≢ 0 = differ n 0 e in
      let some : 0 < n = omega arith in
      partial_of_child t (log ++ v ∷ []) (slice_index new.origins.items n) n some
      ∙ ap (λ w. child_of w n) (ap (visit_at t (log ++ v ∷ [])) (origin_kept n l) ∙ visit_kept (slice_index old.origins.items n) (h.inside n some (let s = h.size in omega arith)))
      ∙ sym (partial_of_child t log (slice_index old.origins.items n) n some))

  value_kept : (n : ℕ) → n < length old.tournament.knots.items → value_of new.tournament.values.items n ≡ value_of old.tournament.values.items n
  value_kept n l =
      ap (λ vs. value_of vs n) r.values
      ∙ get_or_append_left old.tournament.values.items (values_of children) (pos 0) n (let s = shaped.values in omega arith)

  part_kept : (n : ℕ) → n < length old.tournament.knots.items → part_from t (log ++ v ∷ []) new n ≡ part_from t log old n
  part_kept n l = λ i. record { partial = partial_kept n l i; value = value_kept n l i }

  -- ---- its children

  divides : (o : ℕ) → o < length children → fate_of v.fate ≡ divided
  divides o l = go (fate_of v.fate) count
    where
      go : (f : Fate) → length children ≡ count_by t (decision_of v.fate) f → f ≡ divided
      go closed e = absurd (omega arith)
      go complete e = absurd (omega arith)
      go divided e = refl

  is_child : (o : ℕ) → o < length children → IsChild t v (length old.tournament.knots.items + o)
  is_child o l =
      let f = divides o l in
      let n : length children ≡ option_count t (decision_of v.fate) = count ∙ ap (count_by t (decision_of v.fate)) f in
      record {
        divides = f;
        decision = decision f;
        first = omega arith;
        last = omega arith;
      }

  child_partial : (o : ℕ) → o < length children → child_of v (length old.tournament.knots.items + o) ≡ (slice_index_or children o (part_of t pool (nothing_fixed t))).partial
  child_partial o l =
      let f = divides o l in
      let d = decision_of v.fate in
      let n : length children ≡ option_count t d = count ∙ ap (count_by t d) f in
      let z : length old.tournament.knots.items + o - v.first ≡ o = omega arith in
      ap (with_option v.partial d) z
      ∙ sym (ap (λ ps. (slice_index_or ps o (part_of t pool (nothing_fixed t))).partial) (parts ∙ ap (λ x. parts_of t pool (children_by t v.partial d x)) f)
      ∙ ap (λ (p : Part). p.partial) (get_or-map (part_of t pool) (list_to (option_count t d) (with_option v.partial d)) o (nothing_fixed t) (part_of t pool (nothing_fixed t)) (let e = length_listed (option_count t d) (with_option v.partial d) in omega arith))
      ∙ listed_at (option_count t d) (with_option v.partial d) o (nothing_fixed t) (omega arith))

  partial_new : (o : ℕ) → o < length children →
      partial_from t (log ++ v ∷ []) (slice_index new.origins.items (length old.tournament.knots.items + o)) (length old.tournament.knots.items + o)
      ≡ (slice_index_or children o (part_of t pool (nothing_fixed t))).partial
  partial_new o l =
      let n = length old.tournament.knots.items + o in
      let some = shaped.tree.some in
      partial_of_child t (log ++ v ∷ []) (slice_index new.origins.items n) n (omega arith)
      ∙ ap (λ w. child_of w n) (ap (visit_at t (log ++ v ∷ [])) (origin_new o l) ∙ visit_new)
      ∙ child_partial o l

  value_new : (o : ℕ) → o < length children → value_of new.tournament.values.items (length old.tournament.knots.items + o) ≡ (slice_index_or children o (part_of t pool (nothing_fixed t))).value
  value_new o l =
      ap (λ vs. value_of vs (length old.tournament.knots.items + o)) r.values
      ∙ ap (λ k. value_of (old.tournament.values.items ++ values_of children) (k + o)) (sym shaped.values)
      ∙ get_or-append-add old.tournament.values.items (values_of children) o (pos 0)
      ∙ get_or-map (λ (p : Part). p.value) children o (part_of t pool (nothing_fixed t)) (pos 0) l

  part_new : (o : ℕ) → o < length children → part_from t (log ++ v ∷ []) new (length old.tournament.knots.items + o) ≡ slice_index_or children o (part_of t pool (nothing_fixed t))
  part_new o l = λ i. record { partial = partial_new o l i; value = value_new o l i }

  -- ---- all of them

  each_inside : EachOf (λ n. n < length old.tournament.knots.items) (numbers_in old.tournament)
  each_inside =
      each_weaker (IsOpen old.tournament.knots.items) (λ n. n < length old.tournament.knots.items) (numbers_in old.tournament) (λ n o. o.inside)
      (each_open old.tournament.knots.items shaped.tree (length old.tournament.knots.items) 0 shaped.tree.some)

  pub parts_grown : (k : ℕ) → StandsAt (numbers_in old.tournament) k v.number → parts_in t (log ++ v ∷ []) new ≡ replaced (parts_in t log old) k children
  parts_grown k s =
      ap (map (part_from t (log ++ v ∷ []) new)) (r.numbers k s)
      ∙ told_grown (part_from t log old) (part_from t (log ++ v ∷ []) new) (part_of t pool (nothing_fixed t)) (length old.tournament.knots.items) children
      (numbers_in old.tournament) k part_kept part_new each_inside

  new_size : length new.origins.items ≡ length old.origins.items + length children
  new_size =
      ap length origins ∙ length-append old.origins.items (replicate (length children) (length log))
      ∙ ap (λ k. length old.origins.items + k) (length-replicate (length children) (length log))

  pub origins_grown : HasOrigins t (log ++ v ∷ []) new
  origins_grown =
      let s = h.size in
      let m = new_size in
      let longer = length-append log (v ∷ []) in
      record {
        size = let a = r.size in omega arith;
        inside = λ n z l. by_test (nat_lt n (length old.tournament.knots.items))
            (λ e. let k = ltb-true n (length old.tournament.knots.items) e in
            let a = origin_kept n k in let b = h.inside n z (omega arith) in omega arith)
            (λ e. let k = ltb-false n (length old.tournament.knots.items) e in
            let o : ℕ = n - length old.tournament.knots.items in
            let q : length old.tournament.knots.items + o ≡ n = omega arith in
            subst (λ j. slice_index new.origins.items j < length (log ++ v ∷ [])) q (let a = origin_new o (omega arith) in omega arith));
        children = λ n z l. by_test (nat_lt n (length old.tournament.knots.items))
            (λ e. let k = ltb-true n (length old.tournament.knots.items) e in
            subst (λ w. IsChild t w n)
            (sym (ap (visit_at t (log ++ v ∷ [])) (origin_kept n k) ∙ visit_kept (slice_index old.origins.items n) (h.inside n z (omega arith))))
            (h.children n z (omega arith)))
            (λ e. let k = ltb-false n (length old.tournament.knots.items) e in
            let o : ℕ = n - length old.tournament.knots.items in
            let q : length old.tournament.knots.items + o ≡ n = omega arith in
            subst (λ j. IsChild t (visit_at t (log ++ v ∷ []) (slice_index new.origins.items j)) j) q
            (subst (λ w. IsChild t w (length old.tournament.knots.items + o)) (sym (ap (visit_at t (log ++ v ∷ [])) (origin_new o (omega arith)) ∙ visit_new)) (is_child o (omega arith))));
      }
