-- The search as a whole: what a step keeps, and what is found where no part is open.
use Rattle.std.proofs.Common.{◌≡◌, ◌≢◌, Bool, true, false, ℕ, ◌+◌, ◌≤◌, ◌<◌, ◌^◌, List, [], ◌∷◌, length, refl, sym, ap, subst, ◌∙◌, arith, Option}
use Rattle.std.specs.Prelude.{slice_index, slice_index_or, ◌==◌}
use Rattle.std.proofs.lemmas.Bool.{eqb-true}
use Rattle.chisel_table.proofs.Sums.{differ}
use Rattle.std.specs.Borrow.{Bor}
use Rattle.std.proofs.lemmas.List.{get_or-map, length-map, nil_from_length}
use Rattle.chisel_table.specs.declared.partial.Partial.{Partial}
use Rattle.chisel_table.specs.declared.table.Table.{Table}
use Rattle.chisel_table.specs.Least.{IsLeast}
use Rattle.chisel_table.specs.Partials.{IsPartial, nothing_fixed}
use Rattle.chisel_table.specs.Valid.{IsTable}
use Rattle.chisel_bound.specs.declared.differences.Differences.{Differences}
use Rattle.chisel_bound.specs.Pool.{BeginsWithZeros}
use Rattle.chisel_cert.specs.Node.{certificate_of}
use Rattle.chisel_cert.specs.Tree.{Tree, nodes}
use Rattle.chisel_cert.specs.Valid.{IsValidFor}
use Rattle.chisel_search.specs.declared.found.Found.{Found}
use Rattle.chisel_search.specs.declared.machine.Machine.{Machine}
use Rattle.chisel_search.specs.declared.part.Part.{Part}
use Rattle.chisel_search.specs.declared.visit.Visit.{Visit}
use Rattle.chisel_search.specs.Fold.{InLog, IsOver, IsCertified}
use Rattle.chisel_search.specs.Found.{GoesOn, IsFound, options_in}
use Rattle.chisel_search.specs.Logs.{Leads, Logged, first_state, state_after, fate_of, decision_of, children_by, count_by, numbers_from}
use Rattle.chisel_search.specs.Machine.{EachNumbered, IsBegun, IsEnded, IsKnown, IsMachine, IsSearching, IsVisited, best_after, held_options, pool_of, table_of}
use Rattle.chisel_search.specs.Printed.{IsPrinted, certified}
use Rattle.chisel_search.specs.Rules.{Answered, CanBranch, IsRule, IsUnfixed}
use Rattle.chisel_search.specs.Search.{start, end, fate, replaced, part_of, parts_of, Run, Divides, IsLawful, rule_of, unfixed}
use Rattle.chisel_search.proofs.Every.{divides_answered, run_valid}
use Rattle.chisel_search.proofs.Least.{run_least}
use Rattle.chisel_search.proofs.Lists.{map_replaced}
use Rattle.chisel_search.proofs.Logs.{after_parts, after_best, log_runs, logged_any, logged_push, run_behind}
use Rattle.chisel_search.proofs.Numbered.{each_any, numbered_at, numbered_length, numbered_replaced, numbered_weaker}
use Rattle.chisel_search.proofs.Printed.{printed_one, printed_weaker, root_printed}

-- ---- the rule

-- what a closure answers that keeps to the rules
pub lawful : {F : Type 0} (pre : F → Bor Table → Bor Partial → Type 0) (post : F → Bor Table → Bor Partial → ℕ → Type 0) (f : F) (t : Table) → IsTable t →
    IsRule pre post f → IsLawful t (Answered post f t)
lawful pre post f t table h =
    let unfixed_at : (p : Partial) (d : ℕ) → IsPartial t p → 0 < unfixed t p → Answered post f t p d → IsUnfixed t p d =
    λ p d i l a.
    let can : CanBranch t p = record { table = table; partial = i; some = l } in
    let can' : CanBranch a.table.now a.partial.now = subst (λ x. CanBranch x a.partial.now) (sym a.table_is) (subst (λ x. CanBranch t x) (sym a.partial_is) can) in
    subst (λ x. IsUnfixed x p d) a.table_is (subst (λ x. IsUnfixed a.table.now x d) a.partial_is (h.answers a.table a.partial d can' a.post_holds)) in
    record {
      inside = λ p d i l a. (unfixed_at p d i l a).inside;
      free = λ p d i l a. (unfixed_at p d i l a).unfixed;
    }

module _ (d : Differences) (Answers : Partial → ℕ → Type 0) (Picks : List Part → ℕ → Type 0) where
  -- ---- the start

  pub begun : (m : Machine) (ps : List Part) (ns : List ℕ) → IsMachine d m → IsBegun d m → IsKnown d m.bounds.items (nothing_fixed (table_of d)) 0 →
      ps ≡ part_of (table_of d) (pool_of d) (nothing_fixed (table_of d)) ∷ [] → ns ≡ 0 ∷ [] → IsSearching d Answers Picks m ps ns
  begun m ps ns h b k p n = record {
    machine = h;
    state = first_state (table_of d);
    logged = subst (λ log. Logged (table_of d) (pool_of d) Answers Picks log (length log) (first_state (table_of d))) (sym b.log) refl;
    parts = p;
    numbers = n;
    made = b.made;
    best = ap held_options b.best;
    known = (k, tt);
  }

  -- ---- a step

  module _ (m : Machine) (ps : List Part) (ns : List ℕ) (h : IsSearching d Answers Picks m ps ns) (place : ℕ) (inside : place < length ps) (e : Part) where
    in_list : place < length h.state.search.parts
    in_list = let a = ap length h.parts in let b = length-map h.state.search.parts (part_of (table_of d) (pool_of d)) in omega arith

    pub part_taken : (slice_index_or ps place e).partial ≡ slice_index_or h.state.search.parts place (nothing_fixed (table_of d))
    part_taken =
        ap (λ l. (slice_index_or l place e).partial) h.parts
        ∙ ap (λ (x : Part). x.partial) (get_or-map (part_of (table_of d) (pool_of d)) h.state.search.parts place (nothing_fixed (table_of d)) e in_list)

    pub has_number : place < length ns
    has_number = let a = numbered_length (IsKnown d m.bounds.items) h.state.search.parts h.state.numbers h.known in let b = ap length h.numbers in let c = in_list in omega arith

    pub known_taken : IsKnown d m.bounds.items (slice_index_or ps place e).partial (slice_index ns place)
    known_taken =
        subst (λ p. IsKnown d m.bounds.items p (slice_index ns place)) (sym part_taken)
        (subst (λ ns. IsKnown d m.bounds.items (slice_index_or h.state.search.parts place (nothing_fixed (table_of d))) (slice_index ns place)) (sym h.numbers)
        (numbered_at (IsKnown d m.bounds.items) h.state.search.parts h.state.numbers place (nothing_fixed (table_of d)) in_list h.known))

    pub known_here : (p : Partial) (n : ℕ) → p ≡ (slice_index_or ps place e).partial → n ≡ slice_index ns place → IsKnown d m.bounds.items p n
    known_here p n part number =
        subst (λ q. IsKnown d m.bounds.items q n) (sym part)
        (subst (λ k. IsKnown d m.bounds.items (slice_index_or ps place e).partial k) (sym number) known_taken)

    module _ (p : Partial) (n : ℕ) (new : Machine) (after_ps : List Part) (after_ns : List ℕ) (children : List Part) (part_is : p ≡ (slice_index_or ps place e).partial)
        (number_is : n ≡ slice_index ns place) (picked : Picks ps place) (machine : IsMachine d new)
        (w : IsVisited d Answers m p n new children) (parts : after_ps ≡ replaced ps place children)
        (numbers : after_ns ≡ replaced ns place (numbers_from m.made (length children))) where
      visited : Visit
      visited = record { number = n; partial = p; first = m.made; fate = w.became }

      leads : Leads (table_of d) (pool_of d) Answers Picks h.state visited (state_after (table_of d) h.state place visited)
      unfolding visited
      leads = record {
        place = place;
        in_list = in_list;
        picked = subst (λ l. Picks l place) h.parts picked;
        part_is = part_is ∙ part_taken;
        number_is = number_is ∙ ap (λ l. slice_index l place) h.numbers;
        first_is = h.made;
        fate_is = w.fate_is ∙ ap (λ b. fate (table_of d) (pool_of d) b p) h.best;
        answered = w.answered;
        next_is = refl;
      }

      pub stepped : IsSearching d Answers Picks new after_ps after_ns
      unfolding visited
      stepped =
          let became = fate_of w.became in
          let decision = decision_of w.became in
          let count = count_by (table_of d) decision became in
          let s = h.state in
          record {
            machine = machine;
            state = state_after (table_of d) s place visited;
            logged = subst (λ log. Logged (table_of d) (pool_of d) Answers Picks log (length log) (state_after (table_of d) s place visited)) (sym w.logged)
                (logged_push (table_of d) (pool_of d) Answers Picks m.log.items visited s (state_after (table_of d) s place visited) h.logged leads);
            parts =
                parts ∙ (λ i. replaced (h.parts i) place (w.parts i))
                ∙ sym (map_replaced (part_of (table_of d) (pool_of d)) s.search.parts place (children_by (table_of d) p decision became))
                ∙ ap (parts_of (table_of d) (pool_of d)) (sym (after_parts (table_of d) s.search place p decision became));
            numbers = numbers ∙ (λ i. replaced (h.numbers i) place (numbers_from (h.made i) (w.count i)));
            made = w.made ∙ ap (λ k. k + count) h.made;
            best = w.best ∙ ap (λ b. best_after (table_of d) b p became) h.best ∙ sym (after_best (table_of d) s.search place p decision became);
            known =
                subst (λ ps. EachNumbered (IsKnown d new.bounds.items) ps (replaced s.numbers place (numbers_from s.made count))) (sym (after_parts (table_of d) s.search place p decision became))
                (numbered_replaced (IsKnown d new.bounds.items) s.search.parts s.numbers place (children_by (table_of d) p decision became) (numbers_from s.made count)
                (numbered_weaker (IsKnown d m.bounds.items) (IsKnown d new.bounds.items) (λ k. Unit {0}) s.search.parts s.numbers (λ q k u x. w.grown q k x) (each_any s.numbers) h.known)
                (subst (λ first. EachNumbered (IsKnown d new.bounds.items) (children_by (table_of d) p decision became) (numbers_from first count)) h.made w.known));
          }

  -- ---- the end

  pub goes_on : (m : Machine) (ps : List Part) (ns : List ℕ) (n : ℕ) → IsSearching d Answers Picks m ps ns → 0 < length ps → n ≡ length m.log.items →
      GoesOn (table_of d) (pool_of d) Answers Picks n
  goes_on m ps ns n h l e = record {
    state = h.state.search;
    run =
        let z : length m.log.items + 0 ≡ n = omega arith in
        subst (λ k. Run (table_of d) (pool_of d) Answers Picks k (start (table_of d)) h.state.search) z
        (run_behind (table_of d) (pool_of d) Answers Picks m.log.items (length m.log.items) 0 h.state h.state.search h.logged refl);
    open_part = let a = ap length h.parts in let b = length-map h.state.search.parts (part_of (table_of d) (pool_of d)) in omega arith;
  }

  module _ (m : Machine) (ps : List Part) (ns : List ℕ) (zs : BeginsWithZeros (pool_of d)) (table : IsTable (table_of d)) (law : IsLawful (table_of d) Answers)
      (h : IsSearching d Answers Picks m ps ns) (none : length ps ≡ 0) where
    no_parts : h.state.search.parts ≡ []
    no_parts = nil_from_length h.state.search.parts (let a = ap length h.parts in let b = length-map h.state.search.parts (part_of (table_of d) (pool_of d)) in omega arith)

    ended : h.state.search ≡ end (held_options m.best)
    ended = λ i. record { parts = no_parts i; best = sym h.best i }

    all_runs : (k : ℕ) → k ≡ length m.log.items → (run : Run (table_of d) (pool_of d) Answers Picks k (start (table_of d)) (end (held_options m.best)))
        × ((p : Partial) (x : ℕ) → InLog (table_of d) m.log.items p x → Divides (table_of d) (pool_of d) Answers Picks k (start (table_of d)) (end (held_options m.best)) run p x)
    all_runs k e =
        subst (λ s. (run : Run (table_of d) (pool_of d) Answers Picks k (start (table_of d)) s)
        × ((p : Partial) (x : ℕ) → InLog (table_of d) m.log.items p x → Divides (table_of d) (pool_of d) Answers Picks k (start (table_of d)) s run p x)) ended
        (log_runs (table_of d) (pool_of d) Answers Picks m.log.items h.state k h.logged e)

    least : IsLeast (table_of d) (held_options m.best)
    least = run_least (table_of d) (pool_of d) Answers Picks zs law table (length m.log.items) (held_options m.best) ((all_runs (length m.log.items) refl).0)

    pub is_over : length m.log.items < 2 ^ 32 → IsOver d m
    is_over few = record {
      machine = h.machine;
      zeros = zs;
      few = few;
      state = h.state;
      logged = logged_any (table_of d) (pool_of d) Answers Picks m.log.items (length m.log.items) h.state h.logged;
      ended = no_parts;
      made = h.made;
      best = h.best;
      least = least;
    }

    found_at : (f : Found) (best : Option (List ℕ)) → options_in f.best ≡ best → IsLeast (table_of d) best →
        (run : Run (table_of d) (pool_of d) Answers Picks f.visits (start (table_of d)) (end best)) → (root : Tree) →
        certificate_of f.cert ≡ certified (table_of d) (pool_of d) best root →
        IsPrinted (table_of d) (pool_of d) (Divides (table_of d) (pool_of d) Answers Picks f.visits (start (table_of d)) (end best) run) best (nothing_fixed (table_of d)) root →
        nodes root ≤ f.visits → IsFound (table_of d) (pool_of d) Answers Picks f
    found_at f best e =
        let P : Option (List ℕ) → Type 0 = λ b. IsLeast (table_of d) b →
        (run : Run (table_of d) (pool_of d) Answers Picks f.visits (start (table_of d)) (end b)) → (root : Tree) →
        certificate_of f.cert ≡ certified (table_of d) (pool_of d) b root →
        IsPrinted (table_of d) (pool_of d) (Divides (table_of d) (pool_of d) Answers Picks f.visits (start (table_of d)) (end b) run) b (nothing_fixed (table_of d)) root →
        nodes root ≤ f.visits → IsFound (table_of d) (pool_of d) Answers Picks f in
        let here : P (options_in f.best) = λ l run root c q few. record {
          run = run;
          least = l;
          root = root;
          certificate = c;
          printed = q;
          few = few;
          valid = subst (λ x. IsValidFor (table_of d) x) (sym c) (run_valid (table_of d) (pool_of d) Answers Picks zs table law f.visits (options_in f.best) run root q);
          of_rule = λ rule lawful_rule one.
              let by_rule = printed_weaker root (table_of d) (pool_of d) _ (rule_of rule) (options_in f.best) (nothing_fixed (table_of d))
              (λ p x divides. one p x (divides_answered (table_of d) (pool_of d) Answers Picks zs f.visits (start (table_of d)) (end (options_in f.best)) run p x divides)) q in
              c ∙ ap (certified (table_of d) (pool_of d) (options_in f.best))
              (printed_one root (table_of d) (pool_of d) rule (options_in f.best) (nothing_fixed (table_of d)) _ by_rule
              (root_printed (table_of d) (pool_of d) rule zs table lawful_rule (options_in f.best) l));
        } in
        subst P e here

    pub found : (f : Found) → IsCertified d m f → IsFound (table_of d) (pool_of d) Answers Picks f
    found f c =
        let r = all_runs f.visits c.visits in
        found_at f (held_options m.best) c.best least r.0 c.root c.certificate
        (printed_weaker c.root (table_of d) (pool_of d) (InLog (table_of d) m.log.items) _ (held_options m.best) (nothing_fixed (table_of d)) r.1 c.printed)
        (let a = c.few in let b = c.visits in omega arith)

-- ---- told of a table and a pool that the differences have

pub not_empty : (n : ℕ) (b : Bool) → b ≡ (n == 0) → b ≡ false → 0 < n
not_empty n b e f = let ne = differ n 0 (sym e ∙ f) in let z : n ≢ 0 = ne in omega arith

pub empty : (n : ℕ) (b : Bool) → b ≡ (n == 0) → b ≡ true → n ≡ 0
empty n b e f = eqb-true n 0 (sym e ∙ f)

module _ {F : Type 0} (post : F → Bor Table → Bor Partial → ℕ → Type 0) (f : F) (Picks : List Part → ℕ → Type 0)
    (d : Differences) (t : Table) (pool : List (List ℕ)) (table_is : table_of d ≡ t) (pool_is : pool_of d ≡ pool) where
  pub goes_on_in : (n : ℕ) → GoesOn (table_of d) (pool_of d) (Answered post f (table_of d)) Picks n → GoesOn t pool (Answered post f t) Picks n
  goes_on_in n h =
      subst (λ x. GoesOn x pool (Answered post f x) Picks n) table_is
      (subst (λ x. GoesOn (table_of d) x (Answered post f (table_of d)) Picks n) pool_is h)

  module _ (m : Machine) (h : IsEnded d (Answered post f (table_of d)) Picks m)
      (pre : F → Bor Table → Bor Partial → Type 0) (table : IsTable t) (zs : BeginsWithZeros pool) (rule : IsRule pre post f) where
    table_of_it : IsTable (table_of d)
    table_of_it = subst IsTable (sym table_is) table

    zeros_of_it : BeginsWithZeros (pool_of d)
    zeros_of_it = subst BeginsWithZeros (sym pool_is) zs

    pub over_in : length m.log.items < 2 ^ 32 → IsOver d m
    over_in = is_over d (Answered post f (table_of d)) Picks m h.parts h.numbers zeros_of_it table_of_it (lawful pre post f (table_of d) table_of_it rule) h.searching h.none

    pub found_in : (found : Found) → IsCertified d m found → IsFound t pool (Answered post f t) Picks found
    found_in x c =
        subst (λ y. IsFound y pool (Answered post f y) Picks x) table_is
        (subst (λ y. IsFound (table_of d) y (Answered post f (table_of d)) Picks x) pool_is
        (found d (Answered post f (table_of d)) Picks m h.parts h.numbers zeros_of_it table_of_it (lawful pre post f (table_of d) table_of_it rule) h.searching h.none x c))
