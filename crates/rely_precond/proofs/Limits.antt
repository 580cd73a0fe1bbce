-- What else holds of a list that stands, and where exactly Wide comes.
use Rattle.std.proofs.Common.{◌≡◌, ℕ, zero, suc, ◌+◌, ◌*◌, ◌^◌, ◌≤◌, Bool, true, false, not, List, [], ◌∷◌, ◌++◌, map, filter, cond, length, replicate, nat_lt, nat_le, Option, Some, None, refl, sym, ap, subst, ◌∙◌, ◌⊎◌, ◌||◌, ◌↔◌, inl, inr, arith, if◌then◌else◌, append-nil, append_assoc}
use Rattle.std.specs.List.{list_any}
use Rattle.std.proofs.lemmas.Bool.{ltb-true, ltb-false, cases_Bool}
use Rattle.std.proofs.lemmas.List.{length-replicate}
use Rattle.rely_num.specs.declared.conj.Conj.{Conj}
use Rattle.rely_num.specs.declared.span.Span.{Span}
use Rattle.rely_kernel.specs.declared.kernel.Kernel.{Kernel}
use Rattle.rely_kernel.specs.Labels.{labels_of}
use Rattle.rely_kernel.specs.Paths.{use_of, all_paths, claimed, at_start, paths_of}
use Rattle.rely_kernel.specs.Text.{block_of}
use Rattle.rely_predicate.specs.Top.{covers, same, before, put, top, with_one}
use Rattle.rely_predicate.proofs.Tops.{In, either_if, none_passes, none_from, top_is, top_covers}
use Rattle.rely_predicate.proofs.Laws.{top_again, top_append, with_one_is, in_map, map_in}
use Rattle.rely_precond.specs.Prefixes.{IsWide}
use Rattle.rely_precond.specs.Places.{Line, Lines, end, line}
use Rattle.rely_loops.specs.Grown.{too_many}
use Rattle.rely_precond.specs.Walk.{Limit, Walked, Stands, Stops, and_then, added, unless, worked, stand, untouched, touched, changed, repeats, whiles, joined, walk, walk_all}
use Rattle.rely_precond.proofs.Law.{no_top, On, on_then, on_less, stand_on, walk_on}
use Rattle.rely_precond.proofs.Shape.{all_long, some_path}

-- ---- lists that stand

on_any : (x : Walked) → On x (λ p. Unit {0})
on_any (Stands p work) = tt
on_any (Stops limit at) = tt

on_both : (x : Walked) (P Q : List Conj → Type 0) → On x P → On x Q → On x (λ p. P p × Q p)
on_both (Stands p work) P Q h k = (h, k)
on_both (Stops limit at) P Q h k = tt

worked_few : (at : Span) (p cs : List Conj) (work : ℕ) → length p ≤ 256 → On (worked at (added p cs) work) (λ q. length q ≤ 256)
worked_few at p [] work h = either_if (λ x. On x (λ q. length q ≤ 256)) (nat_lt (2 ^ 24) (work + length p * length p)) _ _ (λ e. tt) (λ e. h)
worked_few at p (c ∷ cs) work h = go (nat_lt 256 (length (with_one c p))) refl (λ few. worked_few at (with_one c p) cs work few)
  where
    go : (b : Bool) → nat_lt 256 (length (with_one c p)) ≡ b → (length (with_one c p) ≤ 256 → On (worked at (added (with_one c p) cs) work) (λ q. length q ≤ 256)) → On (worked at (unless b (λ r. added r cs) (with_one c p)) work) (λ q. length q ≤ 256)
    go true e k = tt
    go false e k = k (ltb-false 256 (length (with_one c p)) e)

-- at most 256 conjuncts, whose counts are below 2^36
pub record Fits (q : List Conj) : Type 0 where
  pub few : length q ≤ 256
  pub small : too_many q ≡ false

pub small_top : (ps : List Conj) → too_many ps ≡ false → too_many (top ps) ≡ false
small_top ps h = none_from (λ c. list_any (nat_le (2 ^ 36)) c.counts) (top ps) (λ d m. none_passes (λ c. list_any (nat_le (2 ^ 36)) c.counts) ps h d ((top_is ps).member d m))

stand_small : (at : Span) (ps : List Conj) (work : ℕ) → On (stand at ps work) (λ q. too_many q ≡ false)
stand_small at ps work = go (cases_Bool (too_many ps))
  where
    go : (too_many ps ≡ true) ⊎ (too_many ps ≡ false) → On (stand at ps work) (λ q. too_many q ≡ false)
    go (inl e) = either_if (λ x. On x (λ q. too_many q ≡ false)) (too_many ps) _ (worked at (added [] ps) work) (λ f. tt) (λ f. absurd (cc))
    go (inr e) = on_less (stand at ps work) (λ q. q ≡ top ps) (λ q. too_many q ≡ false) (stand_on at ps work) (λ q f. ap too_many f ∙ small_top ps e)

stand_few : (at : Span) (ps : List Conj) (work : ℕ) → On (stand at ps work) (λ q. length q ≤ 256)
stand_few at ps work = either_if (λ x. On x (λ q. length q ≤ 256)) (too_many ps) _ (worked at (added [] ps) work) (λ e. tt) (λ e. worked_few at [] ps work (omega arith))

stand_fits : (at : Span) (ps : List Conj) (work : ℕ) → On (stand at ps work) Fits
stand_fits at ps work =
    on_less (stand at ps work) (λ q. (length q ≤ 256) × (too_many q ≡ false)) Fits (on_both (stand at ps work) (λ q. length q ≤ 256) (λ q. too_many q ≡ false) (stand_few at ps work) (stand_small at ps work)) (λ q h. record { few = h.0; small = h.1 })

-- whatever holds of each list that stands and of each stop holds of the walk of a statement
module _ (P : Walked → Type 0) (stands : (at : Span) (ps : List Conj) (work : ℕ) → P (stand at ps work)) (stops : (limit : Limit) (at : Span) → P (Stops limit at)) where
  then_ends : (x : Walked) (next : List Conj → ℕ → Walked) → ((p : List Conj) (work : ℕ) → P (next p work)) → P (and_then x next)
  then_ends (Stands p work) next h = h p work
  then_ends (Stops limit at) next h = stops limit at

  joined_ends : (at : Span) (us ts : List Conj) (become : List Conj → ℕ → Walked) (work : ℕ) → P (joined at us ts become work)
  joined_ends at us [] become work = stands at us work
  joined_ends at us (t ∷ ts) become work = then_ends (become (t ∷ ts) work) (λ q w. stand at (us ++ q) w) (λ q w. stands at (us ++ q) w)

  walk_ends : (k : Kernel) (s : Line) (at : Span) (ps : List Conj) (work : ℕ) → P (walk k at s ps work)
  walk_ends k (Line.Set v e) at ps work = stands at (changed k (Line.Set v e) ps) work
  walk_ends k (Line.SetElem v i e) at ps work = stands at (changed k (Line.SetElem v i e) ps) work
  walk_ends k (Line.If e s t) at ps work = joined_ends at (untouched (Line.If e s t) ps) (touched (Line.If e s t) ps) (λ ts w.
      and_then (walk_all k s ts w) (λ a v.
      and_then (walk_all k t ts v) (λ b u.
      Stands (map (use_of k e) (a ++ b)) u))) work
  walk_ends k (Line.While e zero s) at ps work = stands at ps work
  walk_ends k (Line.While e (suc n) s) at ps work =
      joined_ends at (untouched (Line.While e (suc n) s) ps) (touched (Line.While e (suc n) s) ps) (λ ts. whiles at (use_of k e) (λ q w. walk_all k s q w) ts (suc n) ts) work
  walk_ends k (Line.Repeat n s) at ps work = joined_ends at (untouched (Line.Repeat n s) ps) (touched (Line.Repeat n s) ps) (λ ts. repeats at (λ q w. walk_all k s q w) n ts) work
  walk_ends k (Line.Result e) at ps work = stands at (changed k (Line.Result e) ps) work
  walk_ends k (Line.Call v place es) at ps work = stands at (changed k (Line.Call v place es) ps) work

module _ (k : Kernel) where
  pub walk_fits : (s : Line) (at : Span) (ps : List Conj) (work : ℕ) → On (walk k at s ps work) Fits
  walk_fits s at ps work = walk_ends (λ x. On x Fits) stand_fits (λ limit place. tt) k s at ps work

  pub walk_all_fits : (x : Lines) (ps : List Conj) (work : ℕ) → Fits ps → On (walk_all k x ps work) Fits
  walk_all_fits end ps work h = h
  walk_all_fits (line at s rest) ps work h = on_then (walk_all k rest ps work) _ (λ p. Unit {0}) Fits (on_any (walk_all k rest ps work)) (λ p w f. walk_fits s at p w)

  -- a top stays a top
  pub walk_all_tops : (x : Lines) (ps : List Conj) (work : ℕ) → top ps ≡ ps → On (walk_all k x ps work) (λ q. top q ≡ q)
  walk_all_tops end ps work h = h
  walk_all_tops (line at s rest) ps work h = on_then (walk_all k rest ps work) _ (λ p. Unit {0}) (λ q. top q ≡ q) (on_any (walk_all k rest ps work)) (λ p w f.
      on_less (walk k at s p w) (λ q. q ≡ top (changed k s p)) (λ q. top q ≡ q) (walk_on k s at p w) (λ q e. ap top e ∙ top_again (changed k s p) ∙ sym e))

-- ---- the work

-- the work is within its limit
abbrev pub Worked : Walked → Type 0
Worked (Stands p work) = work ≤ 2 ^ 24
Worked (Stops limit at) = Unit {0}

added_worked : (at : Span) (o : Option (List Conj)) (work : ℕ) → Worked (worked at o work)
added_worked at None work = tt
added_worked at (Some p) work = either_if Worked (nat_lt (2 ^ 24) (work + length p * length p)) _ _ (λ e. tt) (λ e. ltb-false (2 ^ 24) (work + length p * length p) e)

stand_worked : (at : Span) (ps : List Conj) (work : ℕ) → Worked (stand at ps work)
stand_worked at ps work = either_if Worked (too_many ps) _ (worked at (added [] ps) work) (λ e. tt) (λ e. added_worked at (added [] ps) work)

module _ (k : Kernel) where
  pub walk_worked : (s : Line) (at : Span) (ps : List Conj) (work : ℕ) → Worked (walk k at s ps work)
  walk_worked s at ps work = walk_ends Worked stand_worked (λ limit place. tt) k s at ps work

  pub walk_all_worked : (x : Lines) (ps : List Conj) (work : ℕ) → work ≤ 2 ^ 24 → Worked (walk_all k x ps work)
  walk_all_worked end ps work h = h
  walk_all_worked (line at s rest) ps work h = then_ends Worked stand_worked (λ limit place. tt) (walk_all k rest ps work) (λ p w. walk k at s p w) (λ p w. walk_worked s at p w)

-- ---- the predicate of a claim

-- each of its conjuncts has one count for each label
pub top_paths_long : (k : Kernel) (target : ℕ) (q : Conj) → In q (top (paths_of k target)) → length q.counts ≡ labels_of k
unfolding paths_of
top_paths_long k target q m =
    let all : List Conj = all_paths k (block_of k.body) (claimed k target) in
    let r = in_map (at_start k) all q ((top_is (map (at_start k) all)).member q m) in
    ap (λ c. length c.counts) (sym r.to) ∙ all_long k (block_of k.body) (claimed k target) r.from r.member ∙ length-replicate (labels_of k) 0

-- there is one
pub top_paths_some : (k : Kernel) (target : ℕ) → (q : Conj) × In q (top (paths_of k target))
unfolding paths_of
top_paths_some k target =
    let all : List Conj = all_paths k (block_of k.body) (claimed k target) in
    let p = some_path k (block_of k.body) (claimed k target) in
    let r = top_covers (map (at_start k) all) (at_start k p.0) (map_in (at_start k) all p.0 p.1) in
    (r.by, r.member)

no_counts : (n : ℕ) → list_any (nat_le (2 ^ 36)) (replicate n 0) ≡ false
no_counts zero = refl
no_counts (suc n) = no_counts n

pub claimed_fits : (k : Kernel) (target : ℕ) → Fits (claimed k target ∷ [])
claimed_fits k target = record { few = omega arith; small = ap (λ b. b || false) (no_counts (labels_of k)) }

-- ---- where Wide comes

pub filter_length : (p : Conj → Bool) (xs : List Conj) → length (filter p xs) ≤ length xs
filter_length p [] = omega arith
filter_length p (x ∷ xs) = go (p x) (filter_length p xs)
  where
    go : (b : Bool) → length (filter p xs) ≤ length xs → length (cond b (x ∷ filter p xs) (filter p xs)) ≤ suc (length xs)
    go true h = omega arith
    go false h = omega arith

pub put_length : (c : Conj) (ds : List Conj) → length (put c ds) ≤ suc (length ds)
put_length c [] = omega arith
put_length c (d ∷ ds) =
    either_if (λ xs. length xs ≤ suc (suc (length ds))) (same c d) (d ∷ ds) (if before c d then c ∷ d ∷ ds else d ∷ put c ds) (λ e. omega arith)
    (λ e. either_if (λ xs. length xs ≤ suc (suc (length ds))) (before c d) (c ∷ d ∷ ds) (d ∷ put c ds) (λ f. omega arith) (λ f. let r = put_length c ds in omega arith))

pub with_one_length : (c : Conj) (cs : List Conj) → length (with_one c cs) ≤ suc (length cs)
unfolding with_one
with_one_length c cs =
    let kept : List Conj = filter (λ d. not (covers c d)) cs in
    either_if (λ xs. length xs ≤ suc (length cs)) (list_any (λ d. covers d c) cs) cs (put c kept) (λ e. omega arith)
    (λ e. let p = put_length c kept in let f = filter_length (λ d. not (covers c d)) cs in omega arith)

wide_true : (p cs : List Conj) → top p ≡ p → length p ≤ 256 → added p cs ≡ None → IsWide p cs
wide_true p [] own few h = absurd cc
wide_true p (c ∷ cs) own few h = go (nat_lt 256 (length (with_one c p))) refl (λ f. wide_true (with_one c p) cs (ap top step ∙ top_again (p ++ c ∷ []) ∙ sym step) f) h
  where
    step : with_one c p ≡ top (p ++ c ∷ [])
    step = with_one_is c p own

    go : (b : Bool) → nat_lt 256 (length (with_one c p)) ≡ b → (length (with_one c p) ≤ 256 → added (with_one c p) cs ≡ None → IsWide (with_one c p) cs) → unless b (λ r. added r cs) (with_one c p) ≡ None → IsWide p (c ∷ cs)
    go true e later n = record {
      first = c ∷ [];
      rest = cs;
      cut = refl;
      wide =
          let l = ltb-true 256 (length (with_one c p)) e in
          let m = with_one_length c p in
          let s : length (with_one c p) ≡ length (top (p ++ c ∷ [])) = ap length step in
          omega arith;
    }
    go false e later n =
        let r = later (ltb-false 256 (length (with_one c p)) e) n in
        record {
          first = c ∷ r.first;
          rest = r.rest;
          cut = ap (λ xs. c ∷ xs) r.cut;
          wide = ap length (ap top (sym (append_assoc p (c ∷ []) r.first)) ∙ sym (top_append (p ++ c ∷ []) r.first) ∙ ap (λ xs. top (xs ++ r.first)) (sym step)) ∙ r.wide;
        }

wide_from : (p first rest : List Conj) → top p ≡ p → length p ≤ 256 → length (top (p ++ first)) ≡ 257 → added p (first ++ rest) ≡ None
wide_from p [] rest own few h =
    let e : length (top (p ++ [])) ≡ length p = ap length (ap top (append-nil p) ∙ own) in
    absurd (omega arith)
wide_from p (c ∷ cs) rest own few h = go (nat_lt 256 (length (with_one c p))) refl (λ f. wide_from (with_one c p) cs rest (ap top step ∙ top_again (p ++ c ∷ []) ∙ sym step) f
    (ap length (ap (λ xs. top (xs ++ cs)) step ∙ top_append (p ++ c ∷ []) cs ∙ ap top (append_assoc p (c ∷ []) cs)) ∙ h))
  where
    step : with_one c p ≡ top (p ++ c ∷ [])
    step = with_one_is c p own

    go : (b : Bool) → nat_lt 256 (length (with_one c p)) ≡ b → (length (with_one c p) ≤ 256 → added (with_one c p) (cs ++ rest) ≡ None) → unless b (λ r. added r (cs ++ rest)) (with_one c p) ≡ None
    go true e later = refl
    go false e later = later (ltb-false 256 (length (with_one c p)) e)

-- a list is too wide exactly where the top of one of its prefixes has 257 conjuncts
pub added_wide : (ps : List Conj) → (added [] ps ≡ None) ↔ IsWide [] ps
added_wide ps = (wide_true [] ps no_top (omega arith), λ h. subst (λ (xs : List Conj). added [] xs ≡ None) h.cut (wide_from [] h.first h.rest no_top (omega arith) h.wide))
