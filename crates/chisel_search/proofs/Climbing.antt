-- Who wins is said anew where something changed, and in what stands above it.
use Rattle.std.proofs.Common.{◌≡◌, ◌≢◌, ℕ, zero, suc, ◌+◌, ◌-◌, ◌≤◌, ◌<◌, ◌==◌, List, [], ◌∷◌, ◌++◌, length, map, take, refl, sym, ap, subst, ◌∙◌, arith, append_assoc, Option, Some, None}
use Rattle.std.specs.Prelude.{slice_set, nat_lt}
use Rattle.std.proofs.lemmas.Bool.{eqb-true, ltb-true, ltb-false}
use Rattle.std.proofs.Math.Seq.{take-length}
use Rattle.std.proofs.lemmas.List.{append-nil, get_or_append_left, get_or-append-add, get_or-set_same, get_or-set_other, length-append, length-map, length-take-le, take_more}
use lib.IntN.{ℤ, pos}
use Rattle.chisel_table.specs.Sums.{list_to}
use Rattle.chisel_table.proofs.Sums.{by_test, differ}
use Rattle.chisel_bound.proofs.Lists.{length_listed, listed_agree, listed_at, listed_more}
use Rattle.chisel_search.specs.declared.part.Part.{Part}
use Rattle.chisel_search.specs.declared.tournament.Family.{Family}
use Rattle.chisel_search.specs.declared.tournament.Knot.{Knot}
use Rattle.chisel_search.specs.declared.tournament.Tournament.{Tournament}
use Rattle.chisel_search.specs.Logs.{numbers_from}
use Rattle.chisel_search.specs.Search.{replaced}
use Rattle.chisel_search.specs.Tournament.{knot_at, value_of, number_at, winner_at, entrant, entrant_of, best, IsNumber, due, due_by, open_below, open_by, numbers_in, IsFamily, IsTree, IsOpen, IsShaped, IsJudgedBut, IsTournament, IsGrafted, IsGrown, HasAdded, KeepsTree, JudgesOne, Replaces, StandsAt}
use Rattle.chisel_search.proofs.Grown.{grown_is, numbers_grown, tree_grown}
use Rattle.chisel_search.proofs.Winners.{entrants, best_gathered, best_is_entrant, entrant_kept, found_again, is_entrant, number_append, number_inside, number_listed, number_of, number_one, number_set, number_weaker, IsEntrant}

abbrev value : Part → ℤ
value p = p.value

abbrev pub values_of : List Part → List ℤ
values_of ps = map (λ p. p.value) ps

-- ---- the winners are the first of the least value

pub wins : (t : Tournament) → IsTournament t → (deep n : ℕ) → n < length t.knots.items → length t.knots.items ≤ deep + n →
    winner_at t n ≡ best (entrants t.values.items (open_below t.knots.items deep n))
unfolding open_below
wins t h zero n l m = absurd (omega arith)
wins t h (suc deep) n l m = h.judged n l ∙ go (knot_at t.knots.items n).family refl (wins t h deep)
  where
    go : (f : Option Family) → (knot_at t.knots.items n).family ≡ f →
        ((k : ℕ) → k < length t.knots.items → length t.knots.items ≤ deep + k → winner_at t k ≡ best (entrants t.values.items (open_below t.knots.items deep k))) →
        due_by t n f ≡ best (entrants t.values.items (open_by n (λ k. open_below t.knots.items deep k) f))
    go None e rest = refl
    go (Some f) e rest =
        let w = h.shaped.tree.families n f l e in
        best_gathered t.values.items f.count (λ o. open_below t.knots.items deep (f.first + o)) (λ o. winner_at t (f.first + o))
        (λ o u. let a = w.above in let b = w.inside in rest (f.first + o) (omega arith) (omega arith))

pub winner_of_all : (t : Tournament) → IsTournament t → winner_at t 0 ≡ best (entrants t.values.items (numbers_in t))
winner_of_all t h = wins t h (length t.knots.items) 0 h.shaped.tree.some (omega arith)

-- ---- one is judged

due_is_entrant : (t : Tournament) (n : ℕ) → IsShaped t → n < length t.knots.items → IsEntrant t.values.items (due t n)
due_is_entrant t n h l = go (knot_at t.knots.items n).family
  where
    go : (f : Option Family) → IsEntrant t.values.items (due_by t n f)
    go None = (let a = h.values in omega arith, refl)
    go (Some f) = best_is_entrant t.values.items f.count (λ o. winner_at t (f.first + o)) (λ o u. is_entrant t.values.items (number_at t.winners.items (f.first + o)) (h.numbers.inside (f.first + o)))

pub judges_one : (old new : Tournament) (n : ℕ) → IsShaped old → n < length old.knots.items → new.values ≡ old.values →
    new.winners.items ≡ slice_set old.winners.items n (number_of (due old n)) → JudgesOne old n new
judges_one old new n h l values winners =
    let w = number_of (due old n) in
    let e = due_is_entrant old n h l in
    let inside : n < length old.winners.items = let a = h.winners in omega arith in
    record {
      one =
          (λ i. entrant_of (values i).items (number_at (winners i) n))
          ∙ ap (entrant_of old.values.items) (get_or-set_same old.winners.items n w None inside)
          ∙ found_again old.values.items (due old n) e;
      others = λ k ne.
          (λ i. entrant_of (values i).items (number_at (winners i) k))
          ∙ ap (entrant_of old.values.items) (get_or-set_other old.winners.items n k w None ne);
      numbers = record {
        inside = λ k.
            subst (λ vs. IsNumber (length vs.items) (number_at new.winners.items k)) (sym values)
            (subst (λ ws. IsNumber (length old.values.items) (number_at ws k)) (sym winners)
            (number_set (length old.values.items) old.winners.items n w inside h.numbers.inside (number_inside old.values.items (due old n) e) k));
      };
    }

-- what a part should know is the same, where it has the same children with the same winners
due_same : (old new : Tournament) (n : ℕ) → (knot_at new.knots.items n).family ≡ (knot_at old.knots.items n).family →
    entrant new.values.items n ≡ entrant old.values.items n →
    ((f : Family) → (knot_at old.knots.items n).family ≡ Some f → (o : ℕ) → o < f.count → winner_at new (f.first + o) ≡ winner_at old (f.first + o)) →
    due new n ≡ due old n
due_same old new n family part winners =
    ap (due_by new n) family ∙ go (knot_at old.knots.items n).family winners
  where
    go : (f : Option Family) → ((x : Family) → f ≡ Some x → (o : ℕ) → o < x.count → winner_at new (x.first + o) ≡ winner_at old (x.first + o)) →
        due_by new n f ≡ due_by old n f
    go None w = ap (λ x. Some x) part
    go (Some f) w = ap best (listed_agree None f.count (λ o. winner_at new (f.first + o)) (λ o. winner_at old (f.first + o)) (w f refl))

module _ (old new : Tournament) (n : ℕ) (shaped : IsShaped old) (keeps : KeepsTree old new) (one : JudgesOne old n new) where
  pub still_shaped : IsShaped new
  still_shaped = record {
    tree = subst (λ ks. IsTree ks.items) (sym keeps.knots) shaped.tree;
    values = (λ i. length (keeps.values i).items) ∙ shaped.values ∙ (λ i. length (sym keeps.knots i).items);
    winners = keeps.winners ∙ shaped.winners ∙ (λ i. length (sym keeps.knots i).items);
    numbers = one.numbers;
  }

  -- a part that isn't the parent of the one that was judged
  still_judged : (k : ℕ) → k < length old.knots.items → (0 < n → k ≢ (knot_at old.knots.items n).parent) → (k ≢ n → winner_at old k ≡ due old k) →
      winner_at new k ≡ due new k
  still_judged k l above judged =
      let same = due_same old new k (ap (λ ks. (knot_at ks.items k).family) keeps.knots) (ap (λ vs. entrant vs.items k) keeps.values)
      (λ f e o u. let w = shaped.tree.families k f l e in
      one.others (f.first + o) (λ q. let a = w.above in let b = w.inside in
      above (omega arith) (sym (w.children o u) ∙ ap (λ z. (knot_at old.knots.items z).parent) q))) in
      by_test (k == n)
      (λ e. let q = eqb-true k n e in ap (winner_at new) q ∙ one.one ∙ ap (due old) (sym q) ∙ sym same)
      (λ e. let ne = differ k n e in one.others k ne ∙ judged ne ∙ sym same)

  size : length new.knots.items ≡ length old.knots.items
  size = λ i. length (keeps.knots i).items

  pub judged_above : 0 < n → IsJudgedBut old n → IsJudgedBut new (knot_at old.knots.items n).parent
  judged_above z h = record {
    judged = λ k l ne. still_judged k (let s = size in omega arith) (λ u. ne) (λ d. h.judged k (let s = size in omega arith) d);
  }

  pub judged_all : n ≡ 0 → IsJudgedBut old n → IsTournament new
  judged_all z h = record {
    shaped = still_shaped;
    judged = λ k l. still_judged k (let s = size in omega arith) (λ u. absurd (omega arith)) (λ d. h.judged k (let s = size in omega arith) d);
  }

-- ---- after a graft all are judged but the part that has children now

module _ (old new : Tournament) (n : ℕ) (children : List Part) (h : IsTournament old) (at : IsOpen old.knots.items n) (g : IsGrafted old n children new) where
  pub grafted_shape : IsShaped new
  grafted_shape = record {
    tree = tree_grown old.knots.items new.knots.items n (length children) h.shaped.tree at g.knots;
    values = ap length g.values ∙ (let a = length-append old.values.items (values_of children) in let s = length-map children value in let b = h.shaped.values in let c = g.knots.size in omega arith);
    winners = g.winners;
    numbers = g.numbers;
  }

  old_judged : (k : ℕ) → k < length old.knots.items → k ≢ n → winner_at new k ≡ due new k
  old_judged k l ne =
      let inside : k < length old.values.items = let a = h.shaped.values in omega arith in
      g.kept k l ∙ h.judged k l
      ∙ sym (due_same old new k (ap (λ (x : Knot). x.family) (g.knots.others k l ne))
      (ap (λ vs. entrant vs k) g.values ∙ ap (λ v. record { number = k; value = v }) (get_or_append_left old.values.items (values_of children) (pos 0) k inside))
      (λ f e o u. let w = h.shaped.tree.families k f l e in g.kept (f.first + o) (let a = w.inside in omega arith)))

  new_judged : (k : ℕ) → length old.knots.items ≤ k → k < length new.knots.items → winner_at new k ≡ due new k
  new_judged k l m =
      let size = g.knots.size in
      let o : ℕ = k - length old.knots.items in
      let z : length old.knots.items + o ≡ k = omega arith in
      subst (λ j. winner_at new j ≡ due new j) z
      (g.fresh o (omega arith) ∙ sym (ap (λ (x : Knot). due_by new (length old.knots.items + o) x.family) (g.knots.fresh o (omega arith))))

  pub grafted_judged : IsJudgedBut new n
  grafted_judged = record {
    judged = λ k l ne. by_test (nat_lt k (length old.knots.items))
        (λ e. old_judged k (ltb-true k (length old.knots.items) e) ne)
        (λ e. new_judged k (ltb-false k (length old.knots.items) e) l);
  }

  -- the children stand in the list where the part stood, whoever wins
  pub grafted_replaces : (last : Tournament) → KeepsTree new last → Replaces old n children last
  grafted_replaces last keeps =
      let knots = g.knots in
      let tree = h.shaped.tree in
      let size : length last.knots.items ≡ length old.knots.items + length children = ap (λ ks. length ks.items) keeps.knots ∙ knots.size in
      let numbers : (k : ℕ) → StandsAt (numbers_in old) k n → numbers_in last ≡ replaced (numbers_in old) k (numbers_from (length old.knots.items) (length children)) =
      λ k s. ap (λ ks. open_below ks.items (length ks.items) 0) keeps.knots ∙ numbers_grown old.knots.items new.knots.items n (length children) tree at knots k s in
      record {
        size = size;
        numbers = numbers;
        values = ap (λ vs. vs.items) keeps.values ∙ g.values;
      }

-- ---- one part alone

module _ (none t : Tournament) (v : ℤ) (a : HasAdded none v 0 t) (no_values : none.values.items ≡ []) (no_knots : none.knots.items ≡ []) (no_winners : none.winners.items ≡ []) where
  pub first_values : t.values.items ≡ v ∷ []
  first_values = a.values ∙ ap (λ l. l ++ v ∷ []) no_values

  knots : t.knots.items ≡ record { parent = 0; family = None } ∷ []
  knots = a.knots ∙ ap (λ l. l ++ record { parent = 0; family = None } ∷ []) no_knots

  winners : t.winners.items ≡ Some 0 ∷ []
  winners = a.winners ∙ (λ i. no_winners i ++ Some (length (no_values i)) ∷ [])

  pub first_numbers : numbers_in t ≡ 0 ∷ []
  unfolding open_below
  first_numbers = ap (λ ks. open_below ks (length ks) 0) knots

  no_family : (n : ℕ) (f : Family) → n ≡ 0 → (knot_at t.knots.items n).family ≡ Some f → IsFamily t.knots.items n f
  no_family n f z e =
      absurd (let a : ◌≡◌ {A = Option Family} None (Some f) = sym ((λ i. (knot_at (knots i) (z i)).family)) ∙ e in cc)

  pub first_tournament : IsTournament t
  first_tournament =
      let a = ap length knots in
      let b = ap length first_values in
      let c = ap length winners in
      record {
        shaped = record {
          tree = record {
            some = omega arith;
            parents = λ n l z. absurd (omega arith);
            families = λ n f l e. no_family n f (omega arith) e;
          };
          values = omega arith;
          winners = omega arith;
          numbers = record {
            inside = λ k. subst (λ ws. IsNumber (length t.values.items) (number_at ws k)) (sym winners) (number_one (length t.values.items) 0 (omega arith) k);
          };
        };
        judged = λ k l.
            let z : k ≡ 0 = omega arith in
            subst (λ j. winner_at t j ≡ due t j) (sym z)
            (ap (λ ws. entrant_of t.values.items (number_at ws 0)) winners ∙ sym (ap (λ ks. due_by t 0 (knot_at ks 0).family) knots));
      }

-- ---- some children are added

pub record HasFresh (old : Tournament) (n : ℕ) (children : List Part) (o : ℕ) (new : Tournament) : Type 0 where
  pub values : new.values.items ≡ old.values.items ++ take o (values_of children)
  pub knots : new.knots.items ≡ old.knots.items ++ list_to o (λ k. record { parent = n; family = None })
  pub winners : new.winners.items ≡ old.winners.items ++ list_to o (λ k. Some (length old.values.items + k))

pub fresh_none : (t : Tournament) (n : ℕ) (children : List Part) → HasFresh t n children 0 t
unfolding list_to
fresh_none t n children = record {
  values = sym (append-nil t.values.items);
  knots = sym (append-nil t.knots.items);
  winners = sym (append-nil t.winners.items);
}

pub fresh_more : (old : Tournament) (n : ℕ) (children : List Part) (o : ℕ) (t new : Tournament) → o < length children → HasFresh old n children o t →
    HasAdded t (value_of (values_of children) o) n new → HasFresh old n children (o + 1) new
fresh_more old n children o t new l h a =
    let count = length-map children value in
    let size : length t.values.items ≡ length old.values.items + o =
    ap length h.values ∙ length-append old.values.items (take o (values_of children)) ∙ ap (λ k. length old.values.items + k) (length-take-le o (values_of children) (omega arith)) in
    record {
      values =
          a.values ∙ ap (λ l. l ++ value_of (values_of children) o ∷ []) h.values ∙ append_assoc old.values.items (take o (values_of children)) (value_of (values_of children) o ∷ [])
          ∙ ap (λ l. old.values.items ++ l) (sym (take_more (values_of children) o (pos 0) (omega arith)));
      knots =
          a.knots ∙ ap (λ l. l ++ record { parent = n; family = None } ∷ []) h.knots
          ∙ append_assoc old.knots.items (list_to o (λ k. record { parent = n; family = None })) (record { parent = n; family = None } ∷ [])
          ∙ ap (λ l. old.knots.items ++ l) (sym (listed_more o (λ k. record { parent = n; family = None })));
      winners =
          a.winners
          ∙ (λ i. h.winners i ++ Some (size i) ∷ [])
          ∙ append_assoc old.winners.items (list_to o (λ k. Some (length old.values.items + k))) (Some (length old.values.items + o) ∷ [])
          ∙ ap (λ l. old.winners.items ++ l) (sym (listed_more o (λ k. Some (length old.values.items + k))));
    }

pub grafted : (old : Tournament) (n : ℕ) (children : List Part) (t new : Tournament) → IsShaped old → n < length old.knots.items →
    HasFresh old n children (length children) t → new.values.items ≡ t.values.items → new.winners.items ≡ t.winners.items →
    new.knots.items ≡ slice_set t.knots.items n (record { parent = (knot_at t.knots.items n).parent; family = Some (record { first = length old.values.items; count = length children }) }) →
    IsGrafted old n children new
grafted old n children t new shaped l h values winners knots =
    let c = length children in
    let winner : ℕ → Option ℕ = λ k. Some (length old.values.items + k) in
    let fresh : List Knot = list_to c (λ k. record { parent = n; family = None }) in
    let parent : (knot_at t.knots.items n).parent ≡ (knot_at old.knots.items n).parent =
    ap (λ ks. (knot_at ks n).parent) h.knots ∙ ap (λ (k : Knot). k.parent) (get_or_append_left old.knots.items fresh (knot_at [] 0) n l) in
    let grown : IsGrown old.knots.items n c new.knots.items =
    grown_is old.knots.items new.knots.items n c l
    (knots ∙ (λ i. slice_set (h.knots i) n (record { parent = parent i; family = Some (record { first = shaped.values i; count = c }) }))) in
    let count = length-map children value in
    let all_values : new.values.items ≡ old.values.items ++ values_of children =
    values ∙ h.values ∙ ap (λ l. old.values.items ++ l) (ap (λ k. take k (values_of children)) (sym count) ∙ take-length (values_of children)) in
    let all_winners : new.winners.items ≡ old.winners.items ++ list_to c winner = winners ∙ h.winners in
    let values_size : length new.values.items ≡ length old.values.items + c = ap length all_values ∙ length-append old.values.items (values_of children) ∙ ap (λ k. length old.values.items + k) count in
    record {
      knots = grown;
      values = all_values;
      winners =
          ap length all_winners ∙ length-append old.winners.items (list_to c winner)
          ∙ (let a = length_listed c winner in let b = shaped.winners in let e = grown.size in omega arith);
      numbers = record {
        inside = λ k.
            subst (λ ws. IsNumber (length new.values.items) (number_at ws k)) (sym all_winners)
            (number_append (length new.values.items) old.winners.items (list_to c winner)
            (λ j. number_weaker (length old.values.items) (length new.values.items) (number_at old.winners.items j) (omega arith) (shaped.numbers.inside j))
            (number_listed (length new.values.items) c (λ k. length old.values.items + k) (λ o m. omega arith)) k);
      };
      kept = λ k m.
          (λ i. entrant_of (all_values i) (number_at (all_winners i) k))
          ∙ ap (entrant_of (old.values.items ++ values_of children)) (get_or_append_left old.winners.items (list_to c winner) None k (let b = shaped.winners in omega arith))
          ∙ entrant_kept old.values.items (values_of children) (number_at old.winners.items k) (shaped.numbers.inside k);
      fresh = λ o m.
          ap (entrant_of new.values.items)
          (ap (λ ws. number_at ws (length old.knots.items + o)) all_winners
          ∙ ap (λ k. number_at (old.winners.items ++ list_to c winner) (k + o)) (sym shaped.winners)
          ∙ get_or-append-add old.winners.items (list_to c winner) o None
          ∙ listed_at c winner o None m
          ∙ (λ i. Some (shaped.values i + o)));
    }
