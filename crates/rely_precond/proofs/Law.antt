-- The law of the walk: where it answers a list, that is the top of all paths.
use Rattle.std.proofs.Common.{◌≡◌, ℕ, zero, suc, ◌+◌, ◌-◌, ◌*◌, ◌^◌, Bool, true, false, not, ◌||◌, List, [], ◌∷◌, ◌++◌, map, flat_map, length, nat_lt, Option, Some, None, refl, sym, ap, subst, ◌∙◌, ◌⊎◌, inl, inr, arith, append-nil, append_assoc}
use Rattle.std.specs.List.{list_any}
use Rattle.std.proofs.lemmas.Bool.{ltb-false, and_parts, or_parts, or_cases, not-true, cases_Bool}
use Rattle.std.proofs.lemmas.Nat.Bits.{bit_at_and}
use Rattle.rely_num.specs.declared.conj.Conj.{Conj}
use Rattle.rely_num.specs.declared.span.Span.{Span}
use Rattle.rely_kernel.specs.declared.kernel.Kernel.{Kernel}
use Rattle.rely_kernel.specs.Machine.{parameters}
use Rattle.rely_kernel.specs.Paths.{skips, use_of, turns, rounds, past, paths, all_paths, claimed, at_start, paths_of}
use Rattle.rely_kernel.specs.Text.{Expr, Stmt, Block, block_of}
use Rattle.rely_predicate.specs.Top.{covers, top, with_one}
use Rattle.rely_predicate.specs.Shift.{plus, raise, times, shift}
use Rattle.rely_predicate.proofs.Order.{Covers, covers_true}
use Rattle.rely_predicate.proofs.Tops.{In, in_left, in_right, in_append, in_filter, filter_in, either_if, Under, Under-trans}
use Rattle.rely_predicate.proofs.Laws.{top_again, top_members, top_append, Under-refl, Under-append, Under-map, Under-flat, Keeps, Carries, in_map, map_in, in_flat, flat_in, with_one_is, some_passes}
use Rattle.rely_predicate.proofs.Shifts.{shift_is, top_raise}
use Rattle.rely_precond.specs.Places.{Line, Lines, end, line, plain, all_plain, lines_of}
use Rattle.rely_loops.specs.Grown.{too_many}
use Rattle.rely_precond.specs.Walk.{Walked, Stands, Stops, and_then, added, unless, worked, stand, multiply, go_on, repeats, all_covered, settled, whiles, untouched, touched, joined, changed, walk, walk_all, walk_claim}
use Rattle.rely_precond.proofs.Carried.{through, through_carries, paths_carry, all_carry}
use Rattle.rely_precond.proofs.LineLemmas.{lines_plain}
use Rattle.rely_precond.proofs.Grown.{use_keeps, use_raise}
use Rattle.rely_precond.proofs.Raised.{Shifts, flat_shift, all_shift}
use Rattle.rely_precond.proofs.Iterated.{under_tops, Lifts, top_lift, iter, iter_first, top_iter, flat_flat, flat_own, turns_iter, round, round_lifts, rounds_iter, settled_repeat, settled_still, settled_while}

-- ---- what holds of the list, where one is answered

abbrev pub On : Walked → (List Conj → Type 0) → Type 0
On (Stands p work) P = P p
On (Stops limit at) P = Unit {0}

pub on_then : (x : Walked) (next : List Conj → ℕ → Walked) (P Q : List Conj → Type 0) → On x P → ((p : List Conj) (work : ℕ) → P p → On (next p work) Q) → On (and_then x next) Q
on_then (Stands p work) next P Q h k = k p work h
on_then (Stops limit at) next P Q h k = tt

pub on_less : (x : Walked) (P Q : List Conj → Type 0) → On x P → ((p : List Conj) → P p → Q p) → On x Q
on_less (Stands p work) P Q h k = k p h
on_less (Stops limit at) P Q h k = tt

-- ---- a new list

worked_on : (at : Span) (p : List Conj) (work : ℕ) → On (worked at (Some p) work) (λ q. q ≡ p)
worked_on at p work = either_if (λ x. On x (λ q. q ≡ p)) (nat_lt (2 ^ 24) (work + length p * length p)) _ _ (λ e. tt) (λ e. refl)

added_on : (at : Span) (p cs : List Conj) (work : ℕ) → top p ≡ p → On (worked at (added p cs) work) (λ q. q ≡ top (p ++ cs))
added_on at p [] work own = on_less (worked at (Some p) work) (λ q. q ≡ p) (λ q. q ≡ top (p ++ [])) (worked_on at p work) (λ q e. e ∙ sym own ∙ ap top (sym (append-nil p)))
added_on at p (c ∷ cs) work own =
    unless_on (nat_lt 256 (length (with_one c p))) (with_one c p) (on_less (worked at (added (with_one c p) cs) work) (λ q. q ≡ top (with_one c p ++ cs)) (λ q. q ≡ top (p ++ c ∷ cs))
    (added_on at (with_one c p) cs work (ap top step ∙ top_again (p ++ c ∷ []) ∙ sym step))
    (λ q e. e ∙ ap (λ r. top (r ++ cs)) step ∙ top_append (p ++ c ∷ []) cs ∙ ap top (append_assoc p (c ∷ []) cs)))
  where
    step : with_one c p ≡ top (p ++ c ∷ [])
    step = with_one_is c p own

    unless_on : (b : Bool) (q : List Conj) → On (worked at (added q cs) work) (λ r. r ≡ top (p ++ c ∷ cs)) → On (worked at (unless b (λ r. added r cs) q) work) (λ r. r ≡ top (p ++ c ∷ cs))
    unless_on true q h = tt
    unless_on false q h = h

pub no_top : top [] ≡ []
unfolding top
no_top = refl

-- a list that is walked stands as its top
pub stand_on : (at : Span) (ps : List Conj) (work : ℕ) → On (stand at ps work) (λ q. q ≡ top ps)
stand_on at ps work = either_if (λ x. On x (λ q. q ≡ top ps)) (too_many ps) _ (worked at (added [] ps) work) (λ e. tt) (λ e. added_on at [] ps work no_top)

multiply_on : (at : Span) (n : ℕ) (by : List ℕ) (p : List Conj) (work : ℕ) → On (multiply at n by p work) (λ q. q ≡ map (raise (times n by)) p)
multiply_on at n by p work =
    either_if (λ x. On x (λ q. q ≡ map (raise (times n by)) p)) (too_many (map (raise (times n by)) p)) _ (worked at (Some (map (raise (times n by)) p)) work) (λ e. tt) (λ e. worked_on at (map (raise (times n by)) p) work)

-- ---- loops

go_on_on : (at : Span) (left : ℕ) (o : Option (List ℕ)) (next : List Conj → ℕ → Walked) (r : List Conj) (work : ℕ) (Q : List Conj → Type 0)
    → On (next r work) Q → ((by : List ℕ) → o ≡ Some by → Q (map (raise (times left by)) r)) → On (go_on at left o next r work) Q
go_on_on at zero o next r work Q h k = h
go_on_on at (suc left) None next r work Q h k = h
go_on_on at (suc left) (Some by) next r work Q h k =
    on_less (multiply at (suc left) by r work) (λ q. q ≡ map (raise (times (suc left) by)) r) Q (multiply_on at (suc left) by r work) (λ q e. subst Q (sym e) (k by refl))

-- the turns that are left after a turn from q to r, walked or multiplied
module _ (F : List Conj → List Conj) (lifts : Lifts F) (q r : List Conj) (e : r ≡ top (F q)) where
  after_turn : (left : ℕ) (s : List Conj) → top s ≡ top (iter F left r) → top s ≡ top (iter F (suc left) q)
  after_turn left s h = h ∙ top_iter F lifts left r (F q) (ap top e ∙ top_again (F q)) ∙ ap top (sym (iter_first F left q))

  after_shift : (left : ℕ) (by : List ℕ) → map (raise by) q ≡ r → (map (raise by) q ≡ top (F q) → top (iter F left (map (raise by) q)) ≡ map (raise (times left by)) (map (raise by) q))
      → top (map (raise (times left by)) r) ≡ top (iter F (suc left) q)
  after_shift left by f settles =
      let g : top (iter F left r) ≡ map (raise (times left by)) r = subst (λ (p : List Conj). top (iter F left p) ≡ map (raise (times left by)) p) f (settles (f ∙ e)) in
      after_turn left (map (raise (times left by)) r) (ap top (sym g) ∙ top_again (iter F left r))

module _ (at : Span) (f : Conj → List Conj) (carries : Carries f) (shifts : (by : List ℕ) → Shifts by f) (body : List Conj → ℕ → Walked)
    (law : (q : List Conj) (work : ℕ) → On (body q work) (λ b. top b ≡ top (flat_map f q))) where
  repeats_on : (n : ℕ) (q : List Conj) (work : ℕ) → On (repeats at body n q work) (λ r. top r ≡ top (iter (flat_map f) n q))
  unfolding iter
  repeats_on zero q work = refl
  repeats_on (suc left) q work =
      on_then (body q work) _ (λ b. top b ≡ top (flat_map f q)) (λ s. top s ≡ top (iter (flat_map f) (suc left) q)) (law q work) (λ b w e.
      on_then (stand at b w) _ (λ r. r ≡ top b) (λ s. top s ≡ top (iter (flat_map f) (suc left) q)) (stand_on at b w) (λ r v g.
      go_on_on at left (shift q r) (λ p u. repeats at body left p u) r v (λ s. top s ≡ top (iter (flat_map f) (suc left) q))
      (on_less (repeats at body left r v) (λ s. top s ≡ top (iter (flat_map f) left r)) (λ s. top s ≡ top (iter (flat_map f) (suc left) q)) (repeats_on left r v)
      (after_turn (flat_map f) (Under-flat f carries) q r (g ∙ e) left))
      (λ by o. after_shift (flat_map f) (Under-flat f carries) q r (g ∙ e) left by (shift_is q r by o) (settled_repeat f carries by (shifts by) left q))))

-- ---- when a turn of `while` is settled

none_some : (by : List ℕ) → None ≡ Some by → ⊥
none_some by e = cc

settled_is : (cs ds : List Conj) (o : Option (List ℕ)) (by : List ℕ) → settled (all_covered cs ds) o ≡ Some by → (o ≡ Some by) × ((list_any (nat_lt 0) by ≡ false) ⊎ (all_covered cs ds ≡ true))
settled_is cs ds None by h = absurd (none_some by h)
settled_is cs ds (Some v) by h =
    either_if (λ o. o ≡ Some by → (Some v ≡ Some by) × ((list_any (nat_lt 0) by ≡ false) ⊎ (all_covered cs ds ≡ true))) (not (list_any (nat_lt 0) v) || all_covered cs ds) (Some v) None
    (λ e o. (
      o,
      elim (or_cases (not (list_any (nat_lt 0) v)) (all_covered cs ds) e) [
        | inl z ↦ inl (subst (λ (w : List ℕ). list_any (nat_lt 0) w ≡ false) (some_same v by o) (not-true (list_any (nat_lt 0) v) z))
        | inr c ↦ inr c
      ],
    )) (λ e o. absurd (none_some by o)) h
  where
    some_same : (v w : List ℕ) → Some v ≡ Some w → v ≡ w
    some_same v w e = cc

zeros : (by ns : List ℕ) → list_any (nat_lt 0) by ≡ false → plus by ns ≡ ns
zeros by [] h = refl
zeros [] (n ∷ ns) h = refl
zeros (v ∷ by) (n ∷ ns) h =
    let p = or_parts (nat_lt 0 v) (list_any (nat_lt 0) by) h in
    let z = ltb-false 0 v p.0 in
    let e : v + n ≡ n = omega arith in
    λ i. e i ∷ zeros by ns p.1 i

raise_zeros : (by : List ℕ) → list_any (nat_lt 0) by ≡ false → (xs : List Conj) → map (raise by) xs ≡ xs
raise_zeros by h [] = refl
raise_zeros by h (x ∷ xs) = λ i. record x { counts = zeros by x.counts h i } ∷ raise_zeros by h xs i

pub covered_under : (cs ds : List Conj) → all_covered cs ds ≡ true → Under ds cs
covered_under [] ds h c m = absurd m
covered_under (x ∷ cs) ds h c m =
    let p = and_parts (list_any (λ d. covers d x) ds) (all_covered cs ds) h in
    elim m [
      | inl e ↦
          let r = some_passes (λ d. covers d x) ds p.0 in
          record { by = r.0; member = r.1; covers = subst (λ (y : Conj). Covers r.0 y) e (covers_true r.0 x r.2) }
      | inr k ↦ covered_under cs ds p.1 c k
    ]

module _ (at : Span) (test : Conj → Conj) (keeps : Keeps test) (same : (by : List ℕ) (c : Conj) → test (raise by c) ≡ raise by (test c))
    (f : Conj → List Conj) (carries : Carries f) (shifts : (by : List ℕ) → Shifts by f) (body : List Conj → ℕ → Walked)
    (law : (q : List Conj) (work : ℕ) → On (body q work) (λ b. top b ≡ top (flat_map f q))) (ts : List Conj) where
  -- Q(m) of what the body gives
  tested : (b q : List Conj) → top b ≡ top (flat_map f q) → top (map test (b ++ ts)) ≡ top (round test f ts q)
  tested b q e = top_lift (λ xs. map test (xs ++ ts)) (λ xs ys h. Under-map test keeps (xs ++ ts) (ys ++ ts) (Under-append xs ts ys ts h (Under-refl ts))) b (flat_map f q) e

  settles : (b q r : List Conj) → top b ≡ top (flat_map f q) → (left : ℕ) (by : List ℕ) → settled (all_covered (map test ts) (map test b)) (shift q r) ≡ Some by
      → map (raise by) q ≡ top (round test f ts q) → top (iter (round test f ts) left (map (raise by) q)) ≡ map (raise (times left by)) (map (raise by) q)
  settles b q r e left by h = elim (settled_is (map test ts) (map test b) (shift q r) by h).1 [
    | inl z ↦ settled_still (round test f ts) (round_lifts test keeps f carries ts) by (raise_zeros by z) left q
    | inr c ↦ settled_while test keeps f carries ts by (same by) (shifts by) left q
        (Under-trans (map test (flat_map f q)) (map test b) (map test ts) (Under-map test keeps (flat_map f q) b (under_tops (flat_map f q) b (sym e))) (covered_under (map test ts) (map test b) c))
  ]

  whiles_on : (n : ℕ) (q : List Conj) (work : ℕ) → On (whiles at test body ts n q work) (λ r. top r ≡ top (iter (round test f ts) n q))
  unfolding iter
  whiles_on zero q work = refl
  whiles_on (suc left) q work =
      on_then (body q work) _ (λ b. top b ≡ top (flat_map f q)) (λ s. top s ≡ top (iter (round test f ts) (suc left) q)) (law q work) (λ b w e.
      on_then (stand at (map test (b ++ ts)) w) _ (λ r. r ≡ top (map test (b ++ ts))) (λ s. top s ≡ top (iter (round test f ts) (suc left) q)) (stand_on at (map test (b ++ ts)) w) (λ r v g.
      go_on_on at left (settled (all_covered (map test ts) (map test b)) (shift q r)) (λ p u. whiles at test body ts left p u) r v (λ s. top s ≡ top (iter (round test f ts) (suc left) q))
      (on_less (whiles at test body ts left r v) (λ s. top s ≡ top (iter (round test f ts) left r)) (λ s. top s ≡ top (iter (round test f ts) (suc left) q)) (whiles_on left r v)
      (after_turn (round test f ts) (round_lifts test keeps f carries ts) q r (g ∙ tested b q e) left))
      (λ by o. after_shift (round test f ts) (round_lifts test keeps f carries ts) q r (g ∙ tested b q e) left by
      (shift_is q r by (settled_is (map test ts) (map test b) (shift q r) by o).0) (settles b q r e left by o))))

-- ---- statements

-- through the conjuncts that it touches, beside those that it doesn't
joined_on : (at : Span) (us ts : List Conj) (become : List Conj → ℕ → Walked) (work : ℕ) (f : Conj → List Conj)
    → On (become ts work) (λ q. top q ≡ top (flat_map f ts)) → On (joined at us ts become work) (λ q. q ≡ top (us ++ flat_map f ts))
joined_on at us [] become work f h = on_less (stand at us work) (λ q. q ≡ top us) (λ q. q ≡ top (us ++ [])) (stand_on at us work) (λ q e. e ∙ ap top (sym (append-nil us)))
joined_on at us (t ∷ ts) become work f h =
    on_then (become (t ∷ ts) work) _ (λ q. top q ≡ top (flat_map f (t ∷ ts))) (λ q. q ≡ top (us ++ flat_map f (t ∷ ts))) h (λ p w e.
    on_less (stand at (us ++ p) w) (λ q. q ≡ top (us ++ p)) (λ q. q ≡ top (us ++ flat_map f (t ∷ ts))) (stand_on at (us ++ p) w)
    (λ q g. g ∙ top_lift (λ xs. us ++ xs) (λ xs ys h. Under-append us xs us ys (Under-refl us) h) p (flat_map f (t ∷ ts)) e))

module _ (k : Kernel) where
  -- each conjunct goes through or past
  split : (s : Line) (ps : List Conj) → top (untouched s ps ++ flat_map (paths k (plain s)) (touched s ps)) ≡ top (changed k s ps)
  split s ps = top_members (untouched s ps ++ flat_map (paths k (plain s)) (touched s ps)) (changed k s ps) (λ c m. to c (in_append (untouched s ps) (flat_map (paths k (plain s)) (touched s ps)) c m)) from
    where
      go : Conj → List Conj
      go = through k (plain s)

      skipped : (c : Conj) → skips (plain s) c ≡ true → go c ≡ c ∷ []
      skipped c e = ap (λ b. past b (paths k (plain s)) c) e

      gone : (c : Conj) → skips (plain s) c ≡ false → go c ≡ paths k (plain s) c
      gone c e = ap (λ b. past b (paths k (plain s)) c) e

      to : (c : Conj) → In c (untouched s ps) ⊎ In c (flat_map (paths k (plain s)) (touched s ps)) → In c (changed k s ps)
      to c (inl m) =
          let r = in_filter (skips (plain s)) ps c m in
          flat_in go ps c c r.0 (subst (λ (xs : List Conj). In c xs) (sym (skipped c r.1)) (inl refl))
      to c (inr m) =
          let d = in_flat (paths k (plain s)) (touched s ps) c m in
          let r = in_filter (λ x. not (skips (plain s) x)) ps d.from d.member in
          flat_in go ps d.from c r.0 (subst (λ (xs : List Conj). In c xs) (sym (gone d.from (not-true (skips (plain s) d.from) r.1))) d.to)

      from : (c : Conj) → In c (changed k s ps) → In c (untouched s ps ++ flat_map (paths k (plain s)) (touched s ps))
      from c m =
          let d = in_flat go ps c m in
          elim (cases_Bool (skips (plain s) d.from)) [
            | inl e ↦ elim (subst (λ (xs : List Conj). In c xs) (skipped d.from e) d.to) [
              | inl f ↦ in_left (untouched s ps) (flat_map (paths k (plain s)) (touched s ps)) c (subst (λ (x : Conj). In x (untouched s ps)) f (filter_in (skips (plain s)) ps d.from d.member e))
              | inr n ↦ absurd n
            ]
            | inr e ↦ in_right (untouched s ps) (flat_map (paths k (plain s)) (touched s ps)) c
                (flat_in (paths k (plain s)) (touched s ps) d.from c (filter_in (λ x. not (skips (plain s) x)) ps d.from d.member (ap not e)) (subst (λ (xs : List Conj). In c xs) (gone d.from e) d.to))
          ]

  -- two branches of a whole list
  branches : (test : Conj → Conj) → Keeps test → (f g : Conj → List Conj) (a b ts : List Conj) → top a ≡ top (flat_map f ts) → top b ≡ top (flat_map g ts)
      → top (map test (a ++ b)) ≡ top (flat_map (λ c. map test (f c ++ g c)) ts)
  branches test keeps f g a b ts e h =
      top_lift (λ xs. map test (xs ++ b)) (λ xs ys o. Under-map test keeps (xs ++ b) (ys ++ b) (Under-append xs b ys b o (Under-refl b))) a (flat_map f ts) e
      ∙ top_lift (λ xs. map test (flat_map f ts ++ xs)) (λ xs ys o. Under-map test keeps (flat_map f ts ++ xs) (flat_map f ts ++ ys) (Under-append (flat_map f ts) xs (flat_map f ts) ys (Under-refl (flat_map f ts)) o)) b (flat_map g ts) h
      ∙ top_members (map test (flat_map f ts ++ flat_map g ts)) (flat_map both ts) to from
    where
      both : Conj → List Conj
      both c = map test (f c ++ g c)

      to : (c : Conj) → In c (map test (flat_map f ts ++ flat_map g ts)) → In c (flat_map both ts)
      to c m =
          let x = in_map test (flat_map f ts ++ flat_map g ts) c m in
          subst (λ (y : Conj). In y (flat_map both ts)) x.to (elim (in_append (flat_map f ts) (flat_map g ts) x.from x.member) [
            | inl p ↦ let d = in_flat f ts x.from p in flat_in both ts d.from (test x.from) d.member (map_in test (f d.from ++ g d.from) x.from (in_left (f d.from) (g d.from) x.from d.to))
            | inr p ↦ let d = in_flat g ts x.from p in flat_in both ts d.from (test x.from) d.member (map_in test (f d.from ++ g d.from) x.from (in_right (f d.from) (g d.from) x.from d.to))
          ])

      from : (c : Conj) → In c (flat_map both ts) → In c (map test (flat_map f ts ++ flat_map g ts))
      from c m =
          let d = in_flat both ts c m in
          let x = in_map test (f d.from ++ g d.from) c d.to in
          subst (λ (y : Conj). In y (map test (flat_map f ts ++ flat_map g ts))) x.to (map_in test (flat_map f ts ++ flat_map g ts) x.from (elim (in_append (f d.from) (g d.from) x.from x.member) [
            | inl p ↦ in_left (flat_map f ts) (flat_map g ts) x.from (flat_in f ts d.from x.from d.member p)
            | inr p ↦ in_right (flat_map f ts) (flat_map g ts) x.from (flat_in g ts d.from x.from d.member p)
          ]))

  -- no turn changes nothing
  no_turn : (e : Expr) (x : Block) (ps : List Conj) → flat_map (through k (Stmt.While e zero x)) ps ≡ ps
  no_turn e x [] = refl
  no_turn e x (p ∷ ps) = ap (λ qs. qs ++ flat_map (through k (Stmt.While e zero x)) ps) (either (skips (Stmt.While e zero x) p)) ∙ ap (λ qs. p ∷ qs) (no_turn e x ps)
    where
      either : (b : Bool) → past b (λ c. c ∷ []) p ≡ p ∷ []
      either true = refl
      either false = refl

  abbrev Walks : Line → Type 0
  Walks s = (at : Span) (ps : List Conj) (work : ℕ) → On (walk k at s ps work) (λ q. q ≡ top (changed k s ps))

  abbrev AllWalk : Lines → Type 0
  AllWalk x = (ps : List Conj) (work : ℕ) → On (walk_all k x ps work) (λ q. top q ≡ top (flat_map (all_paths k (all_plain x)) ps))

  joined_walk : (s : Line) (at : Span) (ps : List Conj) (work : ℕ) (become : List Conj → ℕ → Walked) → On (become (touched s ps) work) (λ q. top q ≡ top (flat_map (paths k (plain s)) (touched s ps)))
      → On (joined at (untouched s ps) (touched s ps) become work) (λ q. q ≡ top (changed k s ps))
  joined_walk s at ps work become h =
      on_less (joined at (untouched s ps) (touched s ps) become work) (λ q. q ≡ top (untouched s ps ++ flat_map (paths k (plain s)) (touched s ps))) (λ q. q ≡ top (changed k s ps))
      (joined_on at (untouched s ps) (touched s ps) become work (paths k (plain s)) h) (λ q e. e ∙ split s ps)

  if_walk : (e : Expr) (s t : Lines) → AllWalk s → AllWalk t → Walks (Line.If e s t)
  if_walk e s t first second at ps work =
      let ts : List Conj = touched (Line.If e s t) ps in
      joined_walk (Line.If e s t) at ps work _ (
      on_then (walk_all k s ts work) _ (λ a. top a ≡ top (flat_map (all_paths k (all_plain s)) ts)) (λ q. top q ≡ top (flat_map (paths k (plain (Line.If e s t))) ts)) (first ts work) (λ a v x.
      on_then (walk_all k t ts v) _ (λ b. top b ≡ top (flat_map (all_paths k (all_plain t)) ts)) (λ q. top q ≡ top (flat_map (paths k (plain (Line.If e s t))) ts)) (second ts v) (λ b u y.
      branches (use_of k e) (use_keeps k e) (all_paths k (all_plain s)) (all_paths k (all_plain t)) a b ts x y)))

  repeat_walk : (n : ℕ) (s : Lines) → AllWalk s → Walks (Line.Repeat n s)
  repeat_walk n s body at ps work =
      let ts : List Conj = touched (Line.Repeat n s) ps in
      let f : Conj → List Conj = all_paths k (all_plain s) in
      joined_walk (Line.Repeat n s) at ps work _ (
      on_less (repeats at (λ q w. walk_all k s q w) n ts work) (λ r. top r ≡ top (iter (flat_map f) n ts)) (λ q. top q ≡ top (flat_map (turns n f) ts))
      (repeats_on at f (all_carry k (all_plain s)) (λ by. all_shift by k (all_plain s)) (λ q w. walk_all k s q w) body n ts work) (λ q e. e ∙ ap top (sym (turns_iter f n ts))))

  while_walk : (e : Expr) (n : ℕ) (s : Lines) → AllWalk s → Walks (Line.While e n s)
  while_walk e zero s body at ps work =
      on_less (stand at ps work) (λ q. q ≡ top ps) (λ q. q ≡ top (changed k (Line.While e zero s) ps)) (stand_on at ps work) (λ q g. g ∙ ap top (sym (no_turn e (all_plain s) ps)))
  while_walk e (suc n) s body at ps work =
      let ts : List Conj = touched (Line.While e (suc n) s) ps in
      let f : Conj → List Conj = all_paths k (all_plain s) in
      joined_walk (Line.While e (suc n) s) at ps work _ (
      on_less (whiles at (use_of k e) (λ q w. walk_all k s q w) ts (suc n) ts work) (λ r. top r ≡ top (iter (round (use_of k e) f ts) (suc n) ts)) (λ q. top q ≡ top (flat_map (rounds (suc n) (use_of k e) f) ts))
      (whiles_on at (use_of k e) (use_keeps k e) (use_raise k e) f (all_carry k (all_plain s)) (λ by. all_shift by k (all_plain s)) (λ q w. walk_all k s q w) body ts (suc n) ts work)
      (λ q g. g ∙ sym (rounds_iter (use_of k e) (use_keeps k e) f (all_carry k (all_plain s)) (suc n) ts)))

  then_walk : (at : Span) (s : Line) (rest : Lines) → Walks s → AllWalk rest → AllWalk (line at s rest)
  then_walk at s rest first later ps work =
      let f : Conj → List Conj = through k (plain s) in
      let g : Conj → List Conj = all_paths k (all_plain rest) in
      on_then (walk_all k rest ps work) _ (λ p. top p ≡ top (flat_map g ps)) (λ q. top q ≡ top (flat_map (λ c. flat_map f (g c)) ps)) (later ps work) (λ p w e.
      on_less (walk k at s p w) (λ q. q ≡ top (changed k s p)) (λ q. top q ≡ top (flat_map (λ c. flat_map f (g c)) ps)) (first at p w) (λ q h.
      ap top h ∙ top_again (changed k s p) ∙ top_lift (flat_map f) (Under-flat f (through_carries k (plain s) (paths_carry k (plain s)))) p (flat_map g ps) e ∙ ap top (flat_flat f g ps)))

  mutual
    -- a statement that is walked gives the top of the paths through it
    pub walk_on : (s : Line) → Walks s
    walk_on (Line.Set v e) at ps work = stand_on at (changed k (Line.Set v e) ps) work
    walk_on (Line.SetElem v i e) at ps work = stand_on at (changed k (Line.SetElem v i e) ps) work
    walk_on (Line.If e s t) at ps work = if_walk e s t (walk_all_on s) (walk_all_on t) at ps work
    walk_on (Line.While e n s) at ps work = while_walk e n s (walk_all_on s) at ps work
    walk_on (Line.Repeat n s) at ps work = repeat_walk n s (walk_all_on s) at ps work
    walk_on (Line.Result e) at ps work = stand_on at (changed k (Line.Result e) ps) work
    walk_on (Line.Call v place es) at ps work = stand_on at (changed k (Line.Call v place es) ps) work

    -- so does a text
    pub walk_all_on : (x : Lines) → AllWalk x
    walk_all_on end ps work = ap top (sym (flat_own ps))
    walk_all_on (line at s rest) ps work = then_walk at s rest (walk_on s) (walk_all_on rest) ps work

-- ---- the walk of a claim

start_keeps : (k : Kernel) → Keeps (at_start k)
start_keeps k a b h = record {
  counts = h.counts;
  vars = λ v.
      let m : ℕ = 2 ^ length (parameters k) - 1 in
      let x = bit_at_and a.vars.bits m v in
      let y = bit_at_and b.vars.bits m v in
      let z = h.vars v in
      omega arith;
}

-- where the walk of a claim answers a list, it is the top of the claim's paths
pub walk_claim_on : (k : Kernel) (target : ℕ) → On (walk_claim k target) (λ q. q ≡ top (paths_of k target))
unfolding walk_claim paths_of
walk_claim_on k target =
    on_then (walk_all k (lines_of k.body) (claimed k target ∷ []) 0) _ (λ p. top p ≡ top (flat_map (all_paths k (all_plain (lines_of k.body))) (claimed k target ∷ []))) (λ q. q ≡ top (map (at_start k) (all_paths k (block_of k.body) (claimed k target))))
    (walk_all_on k (lines_of k.body) (claimed k target ∷ []) 0) (λ p w e.
    top_lift (map (at_start k)) (Under-map (at_start k) (start_keeps k)) p (all_paths k (block_of k.body) (claimed k target))
    (e ∙ ap top (append-nil (all_paths k (all_plain (lines_of k.body)) (claimed k target))) ∙ ap (λ x. top (all_paths k x (claimed k target))) (lines_plain k.body)))

-- the same, said of the list
pub walk_claim_is : (k : Kernel) (target : ℕ) (q : List Conj) (work : ℕ) → walk_claim k target ≡ Stands q work → q ≡ top (paths_of k target)
walk_claim_is k target q work e = subst (λ (x : Walked). On x (λ p. p ≡ top (paths_of k target))) e (walk_claim_on k target)

-- walking commutes with a shift
pub shift_law : (k : Kernel) (x : Block) (by : List ℕ) (ps : List Conj) → top (flat_map (all_paths k x) (map (raise by) ps)) ≡ map (raise by) (top (flat_map (all_paths k x) ps))
shift_law k x by ps = ap top (flat_shift by (all_paths k x) (all_shift by k x) ps) ∙ top_raise by (flat_map (all_paths k x) ps)
