-- The search that takes the first part of the least value: what a step keeps.
use Rattle.std.proofs.Common.{◌≡◌, ◌≢◌, ℕ, zero, suc, ◌+◌, ◌<◌, List, [], ◌∷◌, ◌++◌, length, map, replicate, refl, sym, ap, subst, ◌∙◌, arith, Some, None}
use Rattle.std.specs.Prelude.{slice_index, slice_index_or}
use Rattle.std.proofs.lemmas.List.{get_or-map, get_or_push, length-append, length-map}
use Rattle.chisel_table.specs.declared.partial.Partial.{Partial}
use Rattle.chisel_table.specs.Partials.{nothing_fixed}
use Rattle.chisel_table.specs.Tables.{decision_count}
use Rattle.chisel_bound.specs.declared.differences.Differences.{Differences}
use Rattle.chisel_search.specs.declared.frontier.Frontier.{Frontier}
use Rattle.chisel_search.specs.declared.machine.Machine.{Machine}
use Rattle.chisel_search.specs.declared.part.Part.{Part}
use Rattle.chisel_search.specs.declared.visit.Visit.{Visit}
use Rattle.chisel_search.specs.BestFirst.{IsBestFirst}
use Rattle.chisel_search.specs.Frontier.{partial_from, part_from, parts_in, HasOrigins}
use Rattle.chisel_search.specs.Logs.{visit_at, fate_of, decision_of, numbers_from}
use Rattle.chisel_search.specs.Machine.{IsBegun, IsKnown, IsMachine, IsVisited, pool_of, table_of}
use Rattle.chisel_search.specs.Rules.{IsFirstLeast}
use Rattle.chisel_search.specs.Search.{divided, part_of, replaced}
use Rattle.chisel_search.specs.Tournament.{value_of, entrant, entrant_of, winning_number, numbers_in, IsOpen, IsTournament, Replaces, StandsAt}
use Rattle.chisel_search.proofs.Climbing.{winner_of_all}
use Rattle.chisel_search.proofs.Finding.{begun, known_here, stepped}
use Rattle.chisel_search.proofs.Origins.{origins_grown, parts_grown}
use Rattle.chisel_search.proofs.Grown.{each_open}
use Rattle.chisel_search.proofs.Lists.{each_at}
use Rattle.chisel_search.proofs.Logs.{logged_in_order}
use Rattle.chisel_search.proofs.Numbered.{Apart}
use Rattle.chisel_search.proofs.Winners.{IsFirst, first_of, is_first_least, no_winner}

-- ---- a number stands at one place

apart_alone : (xs : List ℕ) (j k : ℕ) → j < length xs → k < length xs → Apart xs → slice_index xs j ≡ slice_index xs k → j ≡ k
apart_alone [] j k l m a e = absurd (omega arith)
apart_alone (x ∷ xs) zero zero l m a e = refl
apart_alone (x ∷ xs) zero (suc k) l m a e = absurd (each_at (λ y. y ≢ x) xs k 0 (omega arith) a.0 (sym e))
apart_alone (x ∷ xs) (suc j) zero l m a e = absurd (each_at (λ y. y ≢ x) xs j 0 (omega arith) a.0 e)
apart_alone (x ∷ xs) (suc j) (suc k) l m a e = ap suc (apart_alone xs j k (omega arith) (omega arith) a.1 e)

pub best_begun : (d : Differences) (Answers : Partial → ℕ → Type 0) (m : Machine) (f : Frontier) → IsMachine d m → IsBegun d m →
    IsKnown d m.bounds.items (nothing_fixed (table_of d)) 0 → IsTournament f.tournament →
    f.tournament.values.items ≡ (part_of (table_of d) (pool_of d) (nothing_fixed (table_of d))).value ∷ [] →
    numbers_in f.tournament ≡ 0 ∷ [] → length f.tournament.knots.items ≡ 1 → f.origins.items ≡ 0 ∷ [] → IsBestFirst d Answers m f
best_begun d Answers m f machine b known tournament values numbers one origins =
    let size = ap length origins in
    let parts : parts_in (table_of d) m.log.items f ≡ part_of (table_of d) (pool_of d) (nothing_fixed (table_of d)) ∷ [] =
    ap (map (part_from (table_of d) m.log.items f)) numbers
    ∙ (λ i. record { partial = nothing_fixed (table_of d); value = value_of (values i) 0 } ∷ []) in
    record {
      tournament = tournament;
      origins = record {
        size = omega arith;
        inside = λ n z l. absurd (omega arith);
        children = λ n z l. absurd (omega arith);
      };
      searching = begun d Answers IsFirstLeast m (parts_in (table_of d) m.log.items f) (numbers_in f.tournament) machine b known parts numbers;
      made = b.made ∙ sym one;
    }

module _ (d : Differences) (Answers : Partial → ℕ → Type 0) (m : Machine) (f : Frontier) (h : IsBestFirst d Answers m f) where
  apart : Apart (numbers_in f.tournament)
  apart =
      let s = h.searching in
      subst Apart (sym s.numbers) (logged_in_order (table_of d) (pool_of d) Answers IsFirstLeast m.log.items (length m.log.items) s.state s.logged).numbers.apart

  -- no part is open where none wins
  pub none_open : winning_number f.tournament ≡ None → length (parts_in (table_of d) m.log.items f) ≡ 0
  none_open e =
      length-map (numbers_in f.tournament) (part_from (table_of d) m.log.items f)
      ∙ no_winner f.tournament.values.items (numbers_in f.tournament) (sym (winner_of_all f.tournament h.tournament) ∙ ap (entrant_of f.tournament.values.items) e)

  -- the place of the part that wins
  pub record IsTaken (n k : ℕ) : Type 0 where
    pub stands : StandsAt (numbers_in f.tournament) k n
    pub picked : IsFirstLeast (parts_in (table_of d) m.log.items f) k
    pub open_part : IsOpen f.tournament.knots.items n

  pub taken : (n : ℕ) → winning_number f.tournament ≡ Some n → (k : ℕ) × IsTaken n k
  taken n e =
      let t = f.tournament in
      let w = entrant t.values.items n in
      let i = first_of t.values.items (numbers_in t) w (sym (winner_of_all t h.tournament) ∙ ap (entrant_of t.values.items) e) in
      let k = i.0 in
      let first : IsFirst t.values.items (numbers_in t) w k = i.1 in
      let here : slice_index (numbers_in t) k ≡ n = ap (λ x. x.number) first.entrant_is in (
        k,
        record {
          stands = record {
            inside = first.inside;
            here = here;
            alone = λ j l q. apart_alone (numbers_in t) j k l first.inside apart (q ∙ sym here);
          };
          picked = is_first_least t.values.items (numbers_in t) w k (part_from (table_of d) m.log.items f) (λ n. refl) first;
          open_part = subst (IsOpen t.knots.items) here
              (each_at (IsOpen t.knots.items) (numbers_in t) k 0 first.inside (each_open t.knots.items h.tournament.shaped.tree (length t.knots.items) 0 h.tournament.shaped.tree.some));
        },
      )

  module _ (n : ℕ) (e : winning_number f.tournament ≡ Some n) where
    place : ℕ
    place = (taken n e).0

    is_taken : IsTaken n place
    unfolding place
    is_taken = (taken n e).1

    pub open_winner : IsOpen f.tournament.knots.items n
    open_winner = is_taken.open_part

    inside : place < length (parts_in (table_of d) m.log.items f)
    inside = let a = is_taken.stands.inside in let b = length-map (numbers_in f.tournament) (part_from (table_of d) m.log.items f) in omega arith

    pub some_open : 0 < length (parts_in (table_of d) m.log.items f)
    some_open = let a = inside in omega arith

    -- the part of that number is the one in the list
    listed : slice_index_or (parts_in (table_of d) m.log.items f) place (part_from (table_of d) m.log.items f 0) ≡ part_from (table_of d) m.log.items f n
    listed =
        get_or-map (part_from (table_of d) m.log.items f) (numbers_in f.tournament) place 0 (part_from (table_of d) m.log.items f 0) is_taken.stands.inside
        ∙ ap (part_from (table_of d) m.log.items f) is_taken.stands.here

    pub number_inside : n < length f.origins.items
    number_inside = let a = open_winner.inside in let b = h.origins.size in omega arith

    pub known_winner : IsKnown d m.bounds.items (partial_from (table_of d) m.log.items (slice_index f.origins.items n) n) n
    known_winner =
        known_here d Answers IsFirstLeast m (parts_in (table_of d) m.log.items f) (numbers_in f.tournament) h.searching place inside
        (part_from (table_of d) m.log.items f 0) (partial_from (table_of d) m.log.items (slice_index f.origins.items n) n) n
        (ap (λ (p : Part). p.partial) (sym listed)) (sym is_taken.stands.here)

    pub best_stepped : (p : Partial) (new : Machine) (after : Frontier) (children : List Part) →
        p ≡ partial_from (table_of d) m.log.items (slice_index f.origins.items n) n → IsMachine d new → IsVisited d Answers m p n new children →
        IsTournament after.tournament → Replaces f.tournament n children after.tournament →
        after.origins.items ≡ f.origins.items ++ replicate (length children) (length m.log.items) → IsBestFirst d Answers new after
    best_stepped p new after children part machine w tournament r origins =
        let t = table_of d in
        let log = m.log.items in
        let v : Visit = record { number = n; partial = p; first = m.made; fate = w.became } in
        let logged : new.log.items ≡ log ++ v ∷ [] = w.logged in
        let decision : fate_of w.became ≡ divided → decision_of w.became < decision_count t =
        λ q. let last : visit_at t new.log.items (length log) ≡ v = ap (λ l. visit_at t l (length log)) logged ∙ get_or_push log v _ (length log) refl in
        let size : length new.log.items ≡ length log + 1 = ap length logged ∙ length-append log (v ∷ []) in
        subst (λ (x : Visit). fate_of x.fate ≡ divided → decision_of x.fate < decision_count t) last (machine.visits (length log) (omega arith)).decision q in
        record {
          tournament = tournament;
          origins = subst (λ l. HasOrigins t l after) (sym logged)
              (origins_grown t (pool_of d) log v f after children h.origins h.tournament.shaped r origins h.made w.count w.parts decision);
          searching =
              stepped d Answers IsFirstLeast m (parts_in t log f) (numbers_in f.tournament) h.searching place inside (part_from t log f 0) p n
              new (parts_in t new.log.items after) (numbers_in after.tournament) children
              (part ∙ ap (λ (q : Part). q.partial) (sym listed)) (sym is_taken.stands.here) is_taken.picked machine w
              (ap (λ l. parts_in t l after) logged
              ∙ parts_grown t (pool_of d) log v f after children h.origins h.tournament.shaped r origins h.made w.count w.parts decision place is_taken.stands)
              (r.numbers place is_taken.stands ∙ ap (λ k. replaced (numbers_in f.tournament) place (numbers_from k (length children))) (sym h.made));
          made = let a = w.made in let b = w.count in let c = h.made in let z = r.size in omega arith;
        }
