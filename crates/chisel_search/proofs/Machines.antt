-- What a machine keeps, as its list of bounds grows.
use Rattle.std.proofs.Common.{◌≡◌, ℕ, zero, suc, true, false, ◌+◌, ◌-◌, ◌*◌, ◌≤◌, ◌<◌, List, [], ◌∷◌, ◌++◌, length, map, take, drop, refl, sym, ap, subst, ◌∙◌, arith, add-one, length-append}
use Rattle.std.specs.Prelude.{slice_range, ◌==◌}
use Rattle.std.proofs.Math.Nat.{mul-le-mul_left}
use Rattle.std.proofs.lemmas.Bool.{eq-eqb, eqb-true}
use Rattle.std.proofs.lemmas.List.{drop-append-le, take-append-le, drop_at, take_at, length-drop, length-map, get_or_append_left, get_or_push, length_push, get_or-take, length-take-le, append-nil, drop-drop}
use Rattle.chisel_table.specs.declared.partial.Partial.{Partial}
use Rattle.chisel_table.specs.declared.table.Table.{Table}
use Rattle.chisel_table.specs.Lagrangian.{value}
use Rattle.chisel_table.specs.Partials.{IsPartial, is_unfixed, nothing_fixed, slot, with_option}
use Rattle.chisel_table.specs.Sums.{list_to}
use Rattle.chisel_table.specs.Tables.{decision_count, option_count}
use Rattle.chisel_table.proofs.Partials.{fixed_partial}
use Rattle.chisel_table.proofs.Sums.{by_test, differ, sum_bound}
use Rattle.chisel_bound.specs.declared.bounds.Bounds.{Bounds}
use Rattle.chisel_bound.specs.declared.bounds.Kept.{Kept}
use Rattle.chisel_bound.specs.declared.differences.Differences.{Differences}
use Rattle.chisel_bound.specs.BoundsAt.{greatest, values}
use Rattle.chisel_bound.specs.Kept.{IsKept, all_bounds, bounds_of, bounds_with}
use Rattle.chisel_bound.proofs.Lists.{listed_same}
use Rattle.chisel_search.specs.declared.visit.Visit.{Visit}
use Rattle.chisel_search.specs.Logs.{visit_at, children_by, count_by, numbers_from}
use Rattle.chisel_search.specs.Machine.{table_of, pool_of, IsKnown, IsVisit, EachNumbered, bounds_to}
use Rattle.chisel_search.specs.Rules.{IsUnfixed}
use Rattle.chisel_search.specs.Search.{Fate, closed, complete, divided, children, choice_of, one_if, part_of, unfixed}
use Rattle.std.specs.Prelude.{nat_lt}
use Rattle.std.proofs.lemmas.Bool.{ltb-true}
use Rattle.std.proofs.lemmas.Bool.Decides.{nat_tests}
use Rattle.chisel_search.proofs.Complete.{all_fixed}
use Rattle.chisel_search.proofs.Numbered.{numbered_listed}

-- ---- bounds

-- what lies within a list is there when it has grown
pub range_grown : {A : Type 0} (xs ys : List A) (a b : ℕ) → a ≤ b → b ≤ length xs → slice_range (xs ++ ys) a b ≡ slice_range xs a b
range_grown xs ys a b l m =
    let n = length-drop a xs in
    ap (take (b - a)) (drop-append-le a xs ys (omega arith)) ∙ take-append-le (b - a) (drop a xs) ys (omega arith)

-- what is put behind a list is there
pub range_behind : {A : Type 0} (xs ys : List A) (a b : ℕ) → a ≡ length xs → b ≡ a + length ys → slice_range (xs ++ ys) a b ≡ ys
range_behind xs ys a b e f =
    let n : b - a ≡ length ys = omega arith in
    let w : take (length ys) ys ≡ ys = ap (take (length ys)) (sym (append-nil ys)) ∙ take_at ys [] (length ys) refl in
    ap (take (b - a)) (drop_at xs ys a (sym e)) ∙ ap (λ k. take k ys) n ∙ w

pub kept_grown : (t : Table) (pool : List (List ℕ)) (bounds more : List Bounds) (k : Kept) → IsKept t pool bounds k → IsKept t pool (bounds ++ more) k
kept_grown t pool bounds more k h = record {
  inside = let a = h.inside in let b = length-append bounds more in omega arith;
  part = range_grown bounds more k.from (k.from + length pool) (omega arith) h.inside ∙ h.part;
}

pub known_grown : (d : Differences) (bounds more : List Bounds) (p : Partial) (n : ℕ) → IsKnown d bounds p n → IsKnown d (bounds ++ more) p n
known_grown d bounds more p n h = record { partial = h.partial; kept = kept_grown (table_of d) (pool_of d) bounds more _ h.kept }

-- the greatest value of the bounds of a part is its value
values_are : (t : Table) (pool : List (List ℕ)) (p : Partial) → values (bounds_of t pool p) ≡ map (λ l. value t l p) pool
values_are t [] p = refl
values_are t (l ∷ ls) p = ap (λ vs. value t l p ∷ vs) (values_are t ls p)

pub greatest_is : (t : Table) (pool : List (List ℕ)) (p : Partial) → greatest (values (bounds_of t pool p)) ≡ (part_of t pool p).value
greatest_is t pool p = ap greatest (values_are t pool p)

pub bounds_length : (d : Differences) (p : Partial) (decision n : ℕ) → length (bounds_to d p decision n) ≡ length (pool_of d) * n
bounds_length d p decision zero = omega arith
bounds_length d p decision (suc n) =
    let a = bounds_length d p decision n in
    let b = length-append (bounds_to d p decision n) (all_bounds d (with_option p decision n)) in
    let c = length-map (pool_of d) (bounds_with (table_of d) (with_option p decision n)) in omega arith

-- the bounds of child o
child_part : (d : Differences) (p : Partial) (decision n o : ℕ) → o < n →
    slice_range (bounds_to d p decision n) (length (pool_of d) * o) (length (pool_of d) * o + length (pool_of d)) ≡ all_bounds d (with_option p decision o)
child_part d p decision zero o l = absurd (omega arith)
child_part d p decision (suc n) o l =
    let v = length (pool_of d) in
    let size = bounds_length d p decision n in
    by_test (o == n)
    (λ e. let q = eqb-true o n e in
    let all = length-map (pool_of d) (bounds_with (table_of d) (with_option p decision n)) in
    rw q (range_behind (bounds_to d p decision n) (all_bounds d (with_option p decision n)) (v * n) (v * n + v) (omega arith) (omega arith)))
    (λ e. let ne = differ o n e in
    let m : o + 1 ≤ n = omega arith in
    let w : v * (o + 1) ≤ v * n = mul-le-mul_left v m in
    range_grown (bounds_to d p decision n) (all_bounds d (with_option p decision n)) (v * o) (v * o + v) (omega arith) (omega arith)
    ∙ child_part d p decision n o (omega arith))

range_front : {A : Type 0} (xs ys : List A) (a b i n : ℕ) → a ≡ length xs + i → b ≡ a + n → slice_range (xs ++ ys) a b ≡ slice_range ys i (i + n)
range_front xs ys a b i n e f =
    let x : b - a ≡ n = omega arith in
    let y : i + n - i ≡ n = omega arith in
    let z : drop a (xs ++ ys) ≡ drop i ys = ap (λ k. drop k (xs ++ ys)) e ∙ sym (drop-drop i (length xs) (xs ++ ys)) ∙ ap (drop i) (drop_at xs ys (length xs) refl) in
    ap (λ k. take k (drop a (xs ++ ys))) x ∙ ap (take n) z ∙ ap (λ k. take k (drop i ys)) (sym y)

-- the children are known by the numbers from the first that is free
pub children_known : (d : Differences) (bounds : List Bounds) (made : ℕ) (p : Partial) (decision : ℕ) → length bounds ≡ length (pool_of d) * made →
    IsPartial (table_of d) p → IsUnfixed (table_of d) p decision →
    EachNumbered (IsKnown d (bounds ++ bounds_to d p decision (option_count (table_of d) decision))) (children (table_of d) p decision) (numbers_from made (option_count (table_of d) decision))
children_known d bounds made p decision e part u =
    let t = table_of d in
    let v = length (pool_of d) in
    let n = option_count t decision in
    let more = bounds_to d p decision n in
    numbered_listed (IsKnown d (bounds ++ more)) n (with_option p decision) (λ o. made + o)
    (λ o l.
    let size = bounds_length d p decision n in
    let all = length-append bounds more in
    let w : v * (o + 1) ≤ v * n = mul-le-mul_left v (let m : o + 1 ≤ n = omega arith in m) in
    record {
      partial = fixed_partial t p decision o u.unfixed l part;
      kept = record {
        inside = omega (arith, size, all, w, e);
        part = range_front bounds more (v * (made + o)) (v * (made + o) + v) (v * o) v (omega (arith, e)) refl ∙ child_part d p decision n o l;
      };
    })

-- where nothing is fixed
pub start_known : (d : Differences) (bounds : List Bounds) → bounds ≡ all_bounds d (nothing_fixed (table_of d)) → IsPartial (table_of d) (nothing_fixed (table_of d)) →
    IsKnown d bounds (nothing_fixed (table_of d)) 0
start_known d bounds e part =
    let v = length (pool_of d) in
    let size = ap length e ∙ length-map (pool_of d) (bounds_with (table_of d) (nothing_fixed (table_of d))) in
    let z : v * 0 ≡ 0 = omega arith in
    record {
      partial = part;
      kept = record {
        inside = omega (arith, size, z);
        part = range_behind [] bounds (v * 0) (v * 0 + v) (omega (arith, z)) (omega (arith, size)) ∙ e;
      };
    }

-- ---- visits

-- the visits of a longer log
pub visits_more : (d : Differences) (old new : List Bounds) (log : List Visit) (v : Visit) → ((p : Partial) (n : ℕ) → IsKnown d old p n → IsKnown d new p n) →
    ((i : ℕ) → i < length log → IsVisit d old (visit_at (table_of d) log i)) → IsVisit d new v → (i : ℕ) → i < length (log ++ v ∷ []) →
    IsVisit d new (visit_at (table_of d) (log ++ v ∷ []) i)
visits_more d old new log v f h w i l =
    let size = length_push log v in
    by_test (nat_lt i (length log))
    (λ b. let m = ltb-true i (length log) b in
    let e : visit_at (table_of d) (log ++ v ∷ []) i ≡ visit_at (table_of d) log i = get_or_append_left log (v ∷ []) _ i m in
    let x = h i m in
    subst (IsVisit d new) (sym e) (record { known = f _ _ x.known; decision = x.decision }))
    (λ b. let q : i ≡ length log = grind (arith, nat_tests) in
    let e : visit_at (table_of d) (log ++ v ∷ []) i ≡ v = get_or_push log v _ i (sym q) in
    subst (IsVisit d new) (sym e) w)

-- ---- complete parts

pub some_left : (t : Table) (p : Partial) (d : ℕ) → d < decision_count t → is_unfixed p d ≡ true → false ≡ (unfixed t p == 0)
some_left t p d l u = by_test (unfixed t p == 0)
    (λ e. absurd (let a = all_fixed t p (eqb-true _ _ e) d l in cc))
    (λ e. sym e)

pub none_left : (t : Table) (p : Partial) → ((d : ℕ) → d < decision_count t → is_unfixed p d ≡ false) → true ≡ (unfixed t p == 0)
none_left t p h =
    let a = sum_bound (decision_count t) 0 (λ d. one_if (is_unfixed p d)) (λ k l. let e = ap one_if (h k l) in omega arith) in
    sym (eq-eqb (unfixed t p) 0 (omega arith))

-- the options at the front of the slots
pub options_are : (t : Table) (p : Partial) → decision_count t ≤ length p.slots → take (decision_count t) p.slots ≡ choice_of t p
options_are t p l =
    listed_same 0 (decision_count t) (slot p) (take (decision_count t) p.slots) (length-take-le (decision_count t) p.slots l)
    (λ k m. get_or-take (decision_count t) p.slots k 0 m)

-- the children that come of a part, whatever becomes of it
pub known_by : (d : Differences) (bounds : List Bounds) (made : ℕ) (p : Partial) (decision : ℕ) (f : Fate) → length bounds ≡ length (pool_of d) * made →
    IsPartial (table_of d) p → (f ≡ divided → IsUnfixed (table_of d) p decision) →
    EachNumbered (IsKnown d (bounds ++ bounds_to d p decision (count_by (table_of d) decision f))) (children_by (table_of d) p decision f) (numbers_from made (count_by (table_of d) decision f))
unfolding list_to
known_by d bounds made p decision closed e part u = tt
known_by d bounds made p decision complete e part u = tt
known_by d bounds made p decision divided e part u = children_known d bounds made p decision e part (u refl)

pub bounds_more : (d : Differences) (p : Partial) (decision n : ℕ) → bounds_to d p decision (n + 1) ≡ bounds_to d p decision n ++ all_bounds d (with_option p decision n)
bounds_more d p decision n = rw add-one refl

-- the value of a part whose bounds were put behind a list
pub child_value : (d : Differences) (old now : List Bounds) (p : Partial) (from : ℕ) → now ≡ old ++ all_bounds d p → from ≡ length old →
    greatest (values (take (length now - from) (drop from now))) ≡ (part_of (table_of d) (pool_of d) p).value
child_value d old now p from e f =
    ap (λ l. greatest (values (take (length l - from) (drop from l)))) e
    ∙ ap (λ l. greatest (values l)) (range_behind old (all_bounds d p) from (length (old ++ all_bounds d p)) f (let a = length-append old (all_bounds d p) in omega arith))
    ∙ greatest_is (table_of d) (pool_of d) p
