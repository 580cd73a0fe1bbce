-- What fixing an option adds to bounds, and the lists in which that stands.
use Rattle.std.proofs.Common.{◌≡◌, ◌≢◌, ℕ, zero, suc, true, ◌+◌, ◌*◌, ◌≤◌, ◌<◌, List, [], ◌∷◌, ◌++◌, length, get_or, set, take, map, min, refl, sym, ap, ◌∙◌, arith}
use Rattle.std.specs.Prelude.{slice_index, slice_index_or, ◌==◌}
use Rattle.std.proofs.lemmas.Bool.{eqb-true}
use Rattle.std.proofs.lemmas.Int.{ints, to_z-of_z}
use mir.Syntax.{w128}
use mir.Val.{to_z, of_z, SFits}
use Rattle.std.proofs.lemmas.List.{get_or-set_same, get_or-set_other, length-set, get_or_append_left, get_or-map, get_or_read, take_more, map_more, append_assoc, length-append, length-map}
use Rattle.std.proofs.lemmas.List.Edits.{get_or-between}
use lib.IntN.{ℤ, pos, ◌+ℤ◌, ◌-ℤ◌}
use Rattle.chisel_table.specs.declared.lagrangian.TheConstants.{ENERGY_WEIGHT}
use Rattle.chisel_table.specs.declared.partial.Partial.{Partial}
use Rattle.chisel_table.specs.declared.table.Table.{Table}
use Rattle.chisel_table.specs.declared.table.TheConstants.{MAX_OPTIONS}
use Rattle.chisel_table.specs.Closings.{vector_at}
use Rattle.chisel_table.specs.Lagrangian.{penalty, price, value, excess}
use Rattle.chisel_table.specs.Partials.{is_unfixed, with_option, IsPartial}
use Rattle.chisel_table.specs.Sums.{least_to}
use Rattle.chisel_table.specs.Tables.{decision_count, option_count, energy_at}
use Rattle.chisel_table.specs.Valid.{IsTable}
use Rattle.chisel_table.proofs.Partials.{fixed_partial}
use Rattle.chisel_table.proofs.Relaxation.{value_fixed, excess_fixed}
use Rattle.chisel_table.proofs.Sums.{by_test, differ}
use Rattle.chisel_bound.specs.declared.bounds.Bounds.{Bounds}
use Rattle.chisel_bound.specs.declared.bounds.Kept.{Kept}
use Rattle.chisel_bound.specs.declared.bounds.TheConstants.{MAX_VECTORS}
use Rattle.chisel_bound.specs.BoundsAt.{bounds_at}
use Rattle.chisel_table.specs.Grid.{place, Holds}
use Rattle.chisel_bound.specs.Weights.{weighed}
use Rattle.chisel_bound.specs.Kept.{bounds_with, bounds_of, added_by, spot, AreAdded, IsKept}
use Rattle.chisel_bound.specs.Pool.{IsPool}
use Rattle.chisel_bound.specs.Written.{above, above_in, WritesOptions, WritesVector}
use Rattle.chisel_bound.proofs.Ranges.{IsSmall, value_small, excess_small}

-- of functions that agree
pub least_agree : (n : ℕ) (f g : ℕ → ℕ) → ((k : ℕ) → k < n → f k ≡ g k) → least_to n f ≡ least_to n g
unfolding least_to
least_agree zero f g h = refl
least_agree (suc zero) f g h = h 0 (omega arith)
least_agree (suc (suc n)) f g h =
    let a = least_agree (suc n) f g (λ k l. h k (omega arith)) in
    let b = h (suc n) (omega arith) in
    λ i. min (a i) (b i)

-- ---- the list of what options add

-- one option more
pub options_more : (energies penalties : List ℕ) (from n : ℕ) (old new : List Bounds) (b : Bounds) → from + MAX_VECTORS * n < length new →
    b ≡ above energies penalties n → WritesOptions energies penalties from n old new →
    WritesOptions energies penalties from (n + 1) old (set new (from + MAX_VECTORS * n) b)
options_more energies penalties from n old new b l e h =
    let other : (k : ℕ) → k ≢ from + MAX_VECTORS * n → bounds_at (set new (from + MAX_VECTORS * n) b) k ≡ bounds_at new k =
    λ k ne. get_or-set_other new (from + MAX_VECTORS * n) k b (record { value = pos 0; excess = pos 0 }) ne in
    record {
      size = length-set new (from + MAX_VECTORS * n) b ∙ h.size;
      written = λ o m. by_test (o == n)
          (λ q. let w = eqb-true o n q in
          rw w (get_or-set_same new (from + MAX_VECTORS * n) b (record { value = pos 0; excess = pos 0 }) l ∙ e))
          (λ q. let ne : o ≢ n = differ o n q in
          let under : o < n = omega arith in
          other (from + MAX_VECTORS * o) (omega arith) ∙ h.written o under);
      others = λ k f. other k (f n (omega arith)) ∙ h.others k (λ o m. f o (omega arith));
    }

-- one decision more
pub vector_more : (t : Table) (grid energies penalties : List ℕ) (j d : ℕ) (old now new : List Bounds) → IsTable t → j < MAX_VECTORS → d < decision_count t →
    energies ≡ slice_index_or t.energies d [] →
    ((o : ℕ) → o < option_count t d → slice_index penalties o ≡ slice_index grid (place d o)) →
    WritesOptions energies penalties (MAX_VECTORS * (MAX_OPTIONS * d) + j) (length energies) now new → WritesVector t grid j d old now → WritesVector t grid j (d + 1) old new
vector_more t grid energies penalties j d old now new table v k is same w h = record {
  size = w.size ∙ h.size;
  written = λ e o m n q. by_test (e == d)
      (λ z. let x = eqb-true e d z in
      rw x (
      let q' : o < option_count t d = rw x at q in
      let at : MAX_VECTORS * place d o + j ≡ MAX_VECTORS * (MAX_OPTIONS * d) + j + MAX_VECTORS * o = omega arith in
      ap (bounds_at new) at ∙ w.written o (let y = ap length is in omega arith) ∙ the_same o q'))
      (λ z. let ne : e ≢ d = differ e d z in
      let few = table.few_options e n in
      let few' = table.few_options d k in
      let size = ap length is in
      w.others (MAX_VECTORS * place e o + j) (λ o' m'. (λ c. absurd (omega arith))) ∙ h.written e o (omega arith) n q);
  others = λ k' i m ne.
      w.others (MAX_VECTORS * k' + i) (λ o' m'. (λ c. absurd (ne (omega arith)))) ∙ h.others k' i m ne;
}
  where
    price_same : (o : ℕ) → o < option_count t d → weighed ENERGY_WEIGHT energies penalties o ≡ ENERGY_WEIGHT * energy_at t d o + slice_index grid (place d o)
    price_same o m = λ i. ENERGY_WEIGHT * slice_index (is i) o + same o m i

    the_same : (o : ℕ) → o < option_count t d → above energies penalties o ≡ above_in t grid d o
    the_same o m =
        let n = ap length is in
        let a = price_same o m in
        let b = ap (λ x. least_to x (weighed ENERGY_WEIGHT energies penalties)) n ∙ least_agree (option_count t d) (weighed ENERGY_WEIGHT energies penalties) (λ o. ENERGY_WEIGHT * energy_at t d o + slice_index grid (place d o)) price_same in
        let c = same o m in
        let e = ap (λ x. least_to x (slice_index penalties)) n ∙ least_agree (option_count t d) (slice_index penalties) (λ o. slice_index grid (place d o)) same in
        λ i. record { value = pos (a i) -ℤ pos (b i); excess = pos (c i) -ℤ pos (e i) }

-- by a grid of penalties these are what options add
pub above_added : (t : Table) (l grid : List ℕ) (d o : ℕ) → Holds t (penalty t l) grid → d < decision_count t → o < option_count t d → above_in t grid d o ≡ added_by t d o l
above_added t l grid d o h k m =
    let g = h.each d o k m in
    let a = ap (λ x. ENERGY_WEIGHT * energy_at t d o + x) g in
    let b = least_agree (option_count t d) (λ o. ENERGY_WEIGHT * energy_at t d o + slice_index grid (place d o)) (price t l d) (λ o n. ap (λ x. ENERGY_WEIGHT * energy_at t d o + x) (h.each d o k n)) in
    let e = least_agree (option_count t d) (λ o. slice_index grid (place d o)) (penalty t l d) (λ o n. h.each d o k n) in
    λ i. record { value = pos (a i) -ℤ pos (b i); excess = pos (g i) -ℤ pos (e i) }

-- what each option adds with the first n vectors
pub record AddedTo (t : Table) (pool : List (List ℕ)) (n : ℕ) (added : List Bounds) : Type 0 where
  pub size : length added ≡ MAX_VECTORS * (MAX_OPTIONS * decision_count t)
  pub each : (d o j : ℕ) → d < decision_count t → o < option_count t d → j < n → bounds_at added (spot d o j) ≡ added_by t d o (vector_at pool j)

pub added_more : (t : Table) (pool : List (List ℕ)) (grid : List ℕ) (n : ℕ) (old new : List Bounds) → n < MAX_VECTORS → Holds t (penalty t (vector_at pool n)) grid →
    WritesVector t grid n (decision_count t) old new → AddedTo t pool n old → AddedTo t pool (n + 1) new
added_more t pool grid n old new l g w h = record {
  size = w.size ∙ h.size;
  each = λ d o j k m q. by_test (j == n)
      (λ e. let x = eqb-true j n e in rw x (w.written d o k k m ∙ above_added t (vector_at pool n) grid d o g k m))
      (λ e. let ne : j ≢ n = differ j n e in
      w.others (place d o) j (omega arith) ne ∙ h.each d o j k m (omega arith));
}

pub added_all : (t : Table) (pool : List (List ℕ)) (n : ℕ) (added : List Bounds) → n ≡ length pool → AddedTo t pool n added → AreAdded t pool added
added_all t pool n added e h = record { size = h.size; each = λ d o j k m l. h.each d o j k m (omega arith) }

-- ---- bounds of a list

pub bounds_at_of : (t : Table) (pool : List (List ℕ)) (p : Partial) (j : ℕ) → j < length pool → bounds_at (bounds_of t pool p) j ≡ bounds_with t p (vector_at pool j)
bounds_at_of t pool p j l = get_or-map (bounds_with t p) pool j [] (record { value = pos 0; excess = pos 0 }) l

-- those of a kept partial choice, in a list that has grown
pub kept_at : (t : Table) (pool : List (List ℕ)) (bounds more : List Bounds) (k : Kept) (j : ℕ) → j < length pool → IsKept t pool bounds k →
    bounds_at (bounds ++ more) (k.from + j) ≡ bounds_with t k.partial (vector_at pool j)
kept_at t pool bounds more k j l h =
    let i = h.inside in
    get_or_append_left bounds more (record { value = pos 0; excess = pos 0 }) (k.from + j) (omega arith)
    ∙ sym (get_or-between bounds k.from (k.from + length pool) j (record { value = pos 0; excess = pos 0 }) (omega arith))
    ∙ ap (λ bs. bounds_at bs j) h.part
    ∙ bounds_at_of t pool k.partial j l

pub grown : {A : Type 0} (old xs : List A) (j : ℕ) (b d : A) → j < length xs → b ≡ get_or xs j d → (old ++ take j xs) ++ b ∷ [] ≡ old ++ take (j + 1) xs
grown old xs j b d l e =
    append_assoc old (take j xs) (b ∷ []) ∙ ap (λ ys. old ++ ys) (ap (λ x. take j xs ++ x ∷ []) e ∙ sym (take_more xs j d l))

-- ---- fixing

pub value_added : (t : Table) (l : List ℕ) (p : Partial) (d o : ℕ) → d < decision_count t → is_unfixed p d ≡ true → o < 255 →
    value t l p +ℤ (added_by t d o l).value ≡ value t l (with_option p d o)
value_added t l p d o k u m = let a = value_fixed t l p d o k u m in omega (arith, ints, a)

pub excess_added : (t : Table) (l : List ℕ) (p : Partial) (d o : ℕ) → d < decision_count t → is_unfixed p d ≡ true → o < 255 →
    excess t l p +ℤ (added_by t d o l).excess ≡ excess t l (with_option p d o)
excess_added t l p d o k u m = let a = excess_fixed t l p d o k u m in omega (arith, ints, a)

-- an unfixed decision, and one of its options
pub record CanTake (t : Table) (p : Partial) (d o : ℕ) : Type 0 where
  pub decision : d < decision_count t
  pub unfixed : is_unfixed p d ≡ true
  pub option : o < option_count t d

-- ---- the next bounds of a list

-- two stored numbers that sum to a small one
module _ (a b z : ℤ) (f : SFits w128 a) (g : SFits w128 b) (e : a +ℤ b ≡ z) (small : IsSmall z) where
  sum_same_of : to_z w128 (of_z w128 a) +ℤ to_z w128 (of_z w128 b) ≡ z
  sum_same_of = (λ i. to_z-of_z w128 a f i +ℤ to_z-of_z w128 b g i) ∙ e

  pub sum_fits : SFits w128 (to_z w128 (of_z w128 a) +ℤ to_z w128 (of_z w128 b))
  sum_fits = rw sum_same_of (let h = small.above in let l = small.below in omega (arith, ints, h, l))

  pub sum_stored : to_z w128 (of_z w128 (to_z w128 (of_z w128 a) +ℤ to_z w128 (of_z w128 b))) ≡ z
  sum_stored = to_z-of_z w128 (to_z w128 (of_z w128 a) +ℤ to_z w128 (of_z w128 b)) sum_fits ∙ sum_same_of

-- what x and y sum to are the bounds of p with the multipliers l
pub record SumsTo (t : Table) (l : List ℕ) (p : Partial) (x y : Bounds) : Type 0 where
  pub value_is : x.value +ℤ y.value ≡ value t l p
  pub excess_is : x.excess +ℤ y.excess ≡ excess t l p
  pub value_stays : IsSmall (value t l p)
  pub excess_stays : IsSmall (excess t l p)

pub next_sums : (t : Table) (pool : List (List ℕ)) (before bounds added : List Bounds) (k : Kept) (d o j : ℕ) (x y : Bounds) →
    IsTable t → IsPool t pool → IsPartial t k.partial → AreAdded t pool added → length pool ≤ MAX_VECTORS → IsKept t pool before k →
    j < length pool → CanTake t k.partial d o → bounds ≡ before ++ take j (bounds_of t pool (with_option k.partial d o)) →
    x ≡ get_or bounds (k.from + j) x → y ≡ get_or added (spot d o j) y → SumsTo t (vector_at pool j) (with_option k.partial d o) x y
next_sums t pool before bounds added k d o j x y table pools part adds few kept l fix is e g =
    let child = with_option k.partial d o in
    let v = vector_at pool j in
    let none : Bounds = record { value = pos 0; excess = pos 0 } in
    let inside = kept.inside in
    let long : k.from + j < length bounds =
    let a = ap length is in let b = length-append before (take j (bounds_of t pool child)) in omega arith in
    let x_is : x ≡ bounds_with t k.partial v =
    get_or_read bounds (k.from + j) x long e none ∙ ap (λ bs. bounds_at bs (k.from + j)) is ∙ kept_at t pool before (take j (bounds_of t pool child)) k j l kept in
    let few_options = table.few_options d fix.decision in
    let room : spot d o j < length added = let a = adds.size in let b = fix.option in let c = fix.decision in omega arith in
    let y_is : y ≡ added_by t d o v = get_or_read added (spot d o j) y room g none ∙ adds.each d o j fix.decision fix.option l in
    let vector = pools.vectors j l in
    let partial = fixed_partial t k.partial d o fix.unfixed fix.option part in
    let small : o < 255 = let b = fix.option in omega arith in
    record {
      value_is = (λ i. (x_is i).value +ℤ (y_is i).value) ∙ value_added t v k.partial d o fix.decision fix.unfixed small;
      excess_is = (λ i. (x_is i).excess +ℤ (y_is i).excess) ∙ excess_added t v k.partial d o fix.decision fix.unfixed small;
      value_stays = value_small t v child table vector partial;
      excess_stays = excess_small t v child table vector partial;
    }

-- the next bounds
pub next_grown : (t : Table) (pool : List (List ℕ)) (p : Partial) (before bounds new : List Bounds) (j : ℕ) (b : Bounds) → j < length pool →
    bounds ≡ before ++ take j (bounds_of t pool p) → new ≡ bounds ++ b ∷ [] → b ≡ bounds_with t p (vector_at pool j) →
    new ≡ before ++ take (j + 1) (bounds_of t pool p)
next_grown t pool p before bounds new j b l is e x =
    let none : Bounds = record { value = pos 0; excess = pos 0 } in
    let m : j < length (bounds_of t pool p) = let a = length-map pool (bounds_with t p) in omega arith in
    e ∙ ap (λ bs. bs ++ b ∷ []) is ∙ grown before (bounds_of t pool p) j b none m (x ∙ sym (bounds_at_of t pool p j l))

-- a vector that is read from a pool
pub vector_read : (pool items : List (List ℕ)) (i : ℕ) (x : List ℕ) → items ≡ pool → i < length items → x ≡ get_or items i x → x ≡ vector_at pool i
vector_read pool items i x e l h = get_or_read items i x l h [] ∙ ap (λ xs. get_or xs i []) e

-- bounds of one vector more
pub bounds_more : (t : Table) (p : Partial) (items : List (List ℕ)) (before bounds new : List Bounds) (i : ℕ) (x : List ℕ) (b : Bounds) → i < length items →
    x ≡ get_or items i x → bounds ≡ before ++ map (bounds_with t p) (take i items) → new ≡ bounds ++ b ∷ [] → b ≡ bounds_with t p x →
    new ≡ before ++ map (bounds_with t p) (take (i + 1) items)
bounds_more t p items before bounds new i x b l h is e y =
    e
    ∙ (λ k. is k ++ (y ∙ ap (bounds_with t p) h) k ∷ [])
    ∙ append_assoc before (map (bounds_with t p) (take i items)) (bounds_with t p (get_or items i x) ∷ [])
    ∙ ap (λ z. before ++ z) (sym (map_more (bounds_with t p) items i x l))
