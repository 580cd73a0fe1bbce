-- The open parts of a tree that grows.
use Rattle.std.proofs.Common.{◌≡◌, ◌≢◌, true, ℕ, zero, suc, ◌+◌, ◌≤◌, ◌<◌, ◌==◌, List, [], ◌∷◌, ◌++◌, length, map, refl, sym, ap, subst, ◌∙◌, arith, append_assoc, length-append, ◌-◌, Option, Some, None}
use Rattle.std.specs.Prelude.{slice_index, slice_index_or, slice_set, nat_lt, if◌then◌else◌}
use Rattle.std.proofs.lemmas.Bool.{eqb-true, ltb-true, ltb-false}
use Rattle.std.proofs.lemmas.List.{append-nil, map-append, get_or_append_left, get_or-append-add, get_or-set_same, get_or-set_other}
use Rattle.std.proofs.Math.ListN.{length-set}
use Rattle.chisel_table.specs.Sums.{list_to}
use Rattle.chisel_table.proofs.Sums.{by_test, differ}
use Rattle.chisel_bound.proofs.Lists.{length_listed, listed_same, listed_at}
use Rattle.chisel_search.specs.declared.tournament.Family.{Family}
use Rattle.chisel_search.specs.declared.tournament.Knot.{Knot}
use Rattle.chisel_search.specs.Logs.{numbers_from}
use Rattle.chisel_search.specs.Search.{replaced}
use Rattle.chisel_search.specs.Tournament.{knot_at, gathered, open_below, open_by, IsFamily, IsTree, IsOpen, IsGrown, StandsAt}
use Rattle.chisel_search.proofs.Lists.{EachOf, each_append, map_replaced}

-- ---- one behind the other

gathered_same : (n : ℕ) (f g : ℕ → List ℕ) → ((o : ℕ) → o < n → f o ≡ g o) → gathered n f ≡ gathered n g
gathered_same zero f g h = refl
gathered_same (suc n) f g h = λ i. gathered_same n f g (λ o l. h o (omega arith)) i ++ h n (omega arith) i

gathered_ones : (n : ℕ) (f : ℕ → List ℕ) (h : ℕ → ℕ) → ((o : ℕ) → o < n → f o ≡ h o ∷ []) → gathered n f ≡ list_to n h
unfolding list_to
gathered_ones zero f h e = refl
gathered_ones (suc n) f h e = λ i. gathered_ones n f h (λ o l. e o (omega arith)) i ++ e n (omega arith) i

each_gathered : (P : ℕ → Type 0) (n : ℕ) (f : ℕ → List ℕ) → ((o : ℕ) → o < n → EachOf P (f o)) → EachOf P (gathered n f)
each_gathered P zero f h = tt
each_gathered P (suc n) f h = each_append P (gathered n f) (f n) (each_gathered P n f (λ o l. h o (omega arith))) (h n (omega arith))

-- ---- other numbers in the place of one

abbrev spliced : ℕ → List ℕ → List ℕ → List ℕ
spliced x new [] = []
spliced x new (y ∷ ys) = (if y == x then new else (y ∷ [])) ++ spliced x new ys

spliced_append : (x : ℕ) (new xs ys : List ℕ) → spliced x new (xs ++ ys) ≡ spliced x new xs ++ spliced x new ys
spliced_append x new [] ys = refl
spliced_append x new (y ∷ xs) ys =
    ap (λ l. (if y == x then new else (y ∷ [])) ++ l) (spliced_append x new xs ys)
    ∙ sym (append_assoc (if y == x then new else (y ∷ [])) (spliced x new xs) (spliced x new ys))

spliced_gathered : (x : ℕ) (new : List ℕ) (n : ℕ) (f g : ℕ → List ℕ) → ((o : ℕ) → o < n → g o ≡ spliced x new (f o)) →
    gathered n g ≡ spliced x new (gathered n f)
spliced_gathered x new zero f g h = refl
spliced_gathered x new (suc n) f g h =
    (λ i. spliced_gathered x new n f g (λ o l. h o (omega arith)) i ++ h n (omega arith) i)
    ∙ sym (spliced_append x new (gathered n f) (f n))

spliced_one : (x y : ℕ) (new : List ℕ) → y ≢ x → spliced x new (y ∷ []) ≡ y ∷ []
spliced_one x y new ne = by_test (y == x) (λ e. absurd (ne (eqb-true y x e))) (λ e. rw e refl)

same_number : (x : ℕ) → (x == x) ≡ true
same_number x = by_test (x == x) (λ e. e) (λ e. absurd (differ x x e refl))

spliced_here : (x : ℕ) (new ys : List ℕ) → spliced x new (x ∷ ys) ≡ new ++ spliced x new ys
spliced_here x new ys = ap (λ b. (if b then new else (x ∷ [])) ++ spliced x new ys) (same_number x)

spliced_there : (x y : ℕ) (new ys : List ℕ) → y ≢ x → spliced x new (y ∷ ys) ≡ y ∷ spliced x new ys
spliced_there x y new ys ne = by_test (y == x) (λ e. absurd (ne (eqb-true y x e))) (λ e. rw e refl)

spliced_none : (x : ℕ) (new ys : List ℕ) → ((j : ℕ) → j < length ys → slice_index ys j ≢ x) → spliced x new ys ≡ ys
spliced_none x new [] h = refl
spliced_none x new (y ∷ ys) h =
    spliced_there x y new ys (h 0 (omega arith)) ∙ ap (λ l. y ∷ l) (spliced_none x new ys (λ j l. h (suc j) (omega arith)))

pub spliced_stands : (x : ℕ) (new xs : List ℕ) (k : ℕ) → StandsAt xs k x → spliced x new xs ≡ replaced xs k new
unfolding replaced
spliced_stands x new [] k h = absurd (let i = h.inside in omega arith)
spliced_stands x new (y ∷ ys) zero h =
    let none : (j : ℕ) → j < length ys → slice_index ys j ≢ x = λ j l e. absurd (let z = h.alone (suc j) (omega arith) e in omega arith) in
    subst (λ z. spliced z new (y ∷ ys) ≡ new ++ ys) h.here
    (spliced_here y new ys ∙ ap (λ l. new ++ l) (subst (λ z. spliced z new ys ≡ ys) (sym h.here) (spliced_none x new ys none)))
spliced_stands x new (y ∷ ys) (suc k) h =
    let ne : y ≢ x = λ e. absurd (let z = h.alone 0 (omega arith) e in omega arith) in
    let rest : StandsAt ys k x = record {
      inside = let i = h.inside in omega arith;
      here = h.here;
      alone = λ j l e. let z = h.alone (suc j) (omega arith) e in omega arith;
    } in
    spliced_there x y new ys ne ∙ ap (λ l. y ∷ l) (spliced_stands x new ys k rest)

-- ---- how deep

pub deep_more : (ks : List Knot) → IsTree ks → (more deep n : ℕ) → n < length ks → length ks ≤ deep + n → open_below ks (deep + more) n ≡ open_below ks deep n
unfolding open_below
deep_more ks h more zero n l m = absurd (omega arith)
deep_more ks h more (suc deep) n l m =
    let one : suc deep + more ≡ suc (deep + more) = omega arith in
    ap (λ d. open_below ks d n) one ∙ go (knot_at ks n).family refl (deep_more ks h more deep)
  where
    go : (f : Option Family) → (knot_at ks n).family ≡ f → ((k : ℕ) → k < length ks → length ks ≤ deep + k → open_below ks (deep + more) k ≡ open_below ks deep k) →
        open_by n (λ k. open_below ks (deep + more) k) f ≡ open_by n (λ k. open_below ks deep k) f
    go None e same = refl
    go (Some f) e same =
        let w = h.families n f l e in
        gathered_same f.count (λ o. open_below ks (deep + more) (f.first + o)) (λ o. open_below ks deep (f.first + o))
        (λ o u. let a = w.above in let b = w.inside in same (f.first + o) (omega arith) (omega arith))

-- ---- each is open

pub each_open : (ks : List Knot) → IsTree ks → (deep n : ℕ) → n < length ks → EachOf (IsOpen ks) (open_below ks deep n)
unfolding open_below
each_open ks h zero n l = tt
each_open ks h (suc deep) n l = go (knot_at ks n).family refl (each_open ks h deep)
  where
    go : (f : Option Family) → (knot_at ks n).family ≡ f → ((k : ℕ) → k < length ks → EachOf (IsOpen ks) (open_below ks deep k)) →
        EachOf (IsOpen ks) (open_by n (λ k. open_below ks deep k) f)
    go None e rest = (record { inside = l; none = e }, tt)
    go (Some f) e rest =
        let w = h.families n f l e in
        each_gathered (IsOpen ks) f.count (λ o. open_below ks deep (f.first + o)) (λ o u. let b = w.inside in rest (f.first + o) (omega arith))

-- ---- a part gets children

module _ (old new : List Knot) (x count : ℕ) (h : IsTree old) (at : IsOpen old x) (g : IsGrown old x count new) where
  opened : (deep : ℕ) → length new ≤ suc deep + x → gathered count (λ o. open_below new deep (length old + o)) ≡ numbers_from (length old) count
  unfolding open_below
  opened zero l = gathered_ones count (λ o. open_below new zero (length old + o)) (λ o. length old + o)
      (λ o m. absurd (let a = g.size in let b = at.inside in omega arith))
  opened (suc deep) l = gathered_ones count (λ o. open_below new (suc deep) (length old + o)) (λ o. length old + o)
      (λ o m. ap (λ (k : Knot). open_by (length old + o) (λ j. open_below new deep j) k.family) (g.fresh o m))

  pub grown_below : (deep n : ℕ) → n < length old → length new ≤ deep + n → open_below new deep n ≡ spliced x (numbers_from (length old) count) (open_below old deep n)
  unfolding open_below
  grown_below zero n l m = absurd (let a = g.size in omega arith)
  grown_below (suc deep) n l m = by_test (n == x)
      (λ e. let q = eqb-true n x e in here q)
      (λ e. let ne = differ n x e in
      ap (λ (k : Knot). open_by n (λ j. open_below new deep j) k.family) (g.others n l ne) ∙ there ne (knot_at old n).family refl (grown_below deep))
    where
      here : n ≡ x → open_by n (λ j. open_below new deep j) (knot_at new n).family ≡ spliced x (numbers_from (length old) count) (open_by n (λ j. open_below old deep j) (knot_at old n).family)
      here q =
          let a : (knot_at new n).family ≡ Some (record { first = length old; count = count }) = ap (λ z. (knot_at new z).family) q ∙ g.family in
          let b : (knot_at old n).family ≡ None = ap (λ z. (knot_at old z).family) q ∙ at.none in
          ap (open_by n (λ j. open_below new deep j)) a
          ∙ opened deep (omega arith)
          ∙ sym (append-nil (numbers_from (length old) count))
          ∙ sym (spliced_here x (numbers_from (length old) count) [])
          ∙ ap (λ z. spliced x (numbers_from (length old) count) (z ∷ [])) (sym q)
          ∙ ap (λ z. spliced x (numbers_from (length old) count) (open_by n (λ j. open_below old deep j) z)) (sym b)

      there : n ≢ x → (f : Option Family) → (knot_at old n).family ≡ f →
          ((k : ℕ) → k < length old → length new ≤ deep + k → open_below new deep k ≡ spliced x (numbers_from (length old) count) (open_below old deep k)) →
          open_by n (λ j. open_below new deep j) f ≡ spliced x (numbers_from (length old) count) (open_by n (λ j. open_below old deep j) f)
      there ne None e rest = sym (spliced_one x n (numbers_from (length old) count) ne)
      there ne (Some f) e rest =
          let w = h.families n f l e in
          spliced_gathered x (numbers_from (length old) count) f.count (λ o. open_below old deep (f.first + o)) (λ o. open_below new deep (f.first + o))
          (λ o u. let a = w.above in let b = w.inside in rest (f.first + o) (omega arith) (omega arith))

  -- the list of all open parts, with the children where the part stood
  pub numbers_grown : (k : ℕ) → StandsAt (open_below old (length old) 0) k x →
      open_below new (length new) 0 ≡ replaced (open_below old (length old) 0) k (numbers_from (length old) count)
  numbers_grown k s =
      let some = h.some in
      let size = g.size in
      grown_below (length new) 0 some (omega arith)
      ∙ ap (λ d. spliced x (numbers_from (length old) count) (open_below old d 0)) size
      ∙ ap (spliced x (numbers_from (length old) count)) (deep_more old h count (length old) 0 some (omega arith))
      ∙ spliced_stands x (numbers_from (length old) count) (open_below old (length old) 0) k s

  -- ---- it stays a tree

  beside : (n : ℕ) → n < length old → (knot_at new n).parent ≡ (knot_at old n).parent
  beside n l = by_test (n == x)
      (λ e. ap (λ z. (knot_at new z).parent) (eqb-true n x e) ∙ g.parent ∙ ap (λ z. (knot_at old z).parent) (sym (eqb-true n x e)))
      (λ e. ap (λ (k : Knot). k.parent) (g.others n l (differ n x e)))

  behind : (n : ℕ) → length old ≤ n → n < length new → knot_at new n ≡ record { parent = x; family = None }
  behind n l m =
      let size = g.size in
      let o : ℕ = n - length old in
      let z : length old + o ≡ n = omega arith in
      ap (knot_at new) (sym z) ∙ g.fresh o (omega arith)

  still_family : (n : ℕ) (f : Family) → IsFamily old n f → IsFamily new n f
  still_family n f w = record {
    above = w.above;
    inside = let a = w.inside in let b = g.size in omega arith;
    children = λ o l. beside (f.first + o) (let a = w.inside in omega arith) ∙ w.children o l;
  }

  new_family : IsFamily new x (record { first = length old; count = count })
  new_family = record {
    above = at.inside;
    inside = let a = g.size in omega arith;
    children = λ o l. ap (λ (k : Knot). k.parent) (g.fresh o l);
  }

  pub tree_grown : IsTree new
  tree_grown = record {
    some = let a = h.some in let b = g.size in omega arith;
    parents = λ n l z. by_test (nat_lt n (length old))
        (λ e. let m = ltb-true n (length old) e in let a = h.parents n m z in let b = beside n m in omega arith)
        (λ e. let m = ltb-false n (length old) e in let a = ap (λ (k : Knot). k.parent) (behind n m l) in let b = at.inside in omega arith);
    families = λ n f l q. by_test (nat_lt n (length old))
        (λ e. let m = ltb-true n (length old) e in by_test (n == x)
        (λ t. let same = eqb-true n x t in
        let a : ◌≡◌ {A = Option Family} (Some (record { first = length old; count = count })) (Some f) = sym g.family ∙ ap (λ z. (knot_at new z).family) (sym same) ∙ q in
        let b : record { first = length old; count = count } ≡ f = cc in
        subst (λ z. IsFamily new z f) (sym same) (subst (IsFamily new x) b new_family))
        (λ t. still_family n f (h.families n f m (sym (ap (λ (k : Knot). k.family) (g.others n m (differ n x t))) ∙ q))))
        (λ e. let m = ltb-false n (length old) e in
        absurd (let a : ◌≡◌ {A = Option Family} None (Some f) = sym (ap (λ (k : Knot). k.family) (behind n m l)) ∙ q in cc));
  }

-- ---- the parts beside their numbers

map_listed : {A : Type 0} (f : ℕ → A) (n : ℕ) (g : ℕ → ℕ) → map f (list_to n g) ≡ list_to n (λ o. f (g o))
unfolding list_to
map_listed f zero g = refl
map_listed f (suc n) g = map-append f (list_to n g) (g n ∷ []) ∙ ap (λ l. l ++ f (g n) ∷ []) (map_listed f n g)

map_each : {A : Type 0} (f g : ℕ → A) (P : ℕ → Type 0) (ns : List ℕ) → ((n : ℕ) → P n → f n ≡ g n) → EachOf P ns → map f ns ≡ map g ns
map_each f g P [] h e = refl
map_each f g P (n ∷ ns) h e = λ i. h n e.0 i ∷ map_each f g P ns h e.1 i

-- what f says of the numbers of the list that grew: what it said, and of the children what the list says that stands in the place of one
pub told_grown : {A : Type 0} (f g : ℕ → A) (none : A) (size : ℕ) (children : List A) (ns : List ℕ) (k : ℕ) →
    ((n : ℕ) → n < size → g n ≡ f n) → ((o : ℕ) → o < length children → g (size + o) ≡ slice_index_or children o none) →
    EachOf (λ n. n < size) ns → map g (replaced ns k (numbers_from size (length children))) ≡ replaced (map f ns) k children
told_grown f g none size children ns k old new each =
    let same = map_each g f (λ n. n < size) ns old each in
    let added : map g (numbers_from size (length children)) ≡ children =
    map_listed g (length children) (λ o. size + o)
    ∙ sym (listed_same none (length children) (λ o. g (size + o)) children refl (λ o l. sym (new o l))) in
    map_replaced g ns k (numbers_from size (length children)) ∙ (λ i. replaced (same i) k (added i))

-- ---- the lists of a tree that grew

pub grown_is : (ks new : List Knot) (x count : ℕ) → x < length ks →
    new ≡ slice_set (ks ++ list_to count (λ o. record { parent = x; family = None })) x (record { parent = (knot_at ks x).parent; family = Some (record { first = length ks; count = count }) }) →
    IsGrown ks x count new
grown_is ks new x count l e =
    let none : Knot = record { parent = 0; family = Some (record { first = 0; count = 0 }) } in
    let fresh : List Knot = list_to count (λ o. record { parent = x; family = None }) in
    let parent : Knot = record { parent = (knot_at ks x).parent; family = Some (record { first = length ks; count = count }) } in
    let all : length (ks ++ fresh) ≡ length ks + count = length-append ks fresh ∙ ap (λ n. length ks + n) (length_listed count (λ o. record { parent = x; family = None })) in
    let here : knot_at new x ≡ parent = ap (λ z. knot_at z x) e ∙ get_or-set_same (ks ++ fresh) x parent none (omega arith) in
    record {
      size = ap length e ∙ length-set (ks ++ fresh) x parent ∙ all;
      others = λ k m ne. ap (λ z. knot_at z k) e ∙ get_or-set_other (ks ++ fresh) x k parent none ne ∙ get_or_append_left ks fresh none k m;
      parent = ap (λ (k : Knot). k.parent) here;
      family = ap (λ (k : Knot). k.family) here;
      fresh = λ o m.
          ap (λ z. knot_at z (length ks + o)) e
          ∙ get_or-set_other (ks ++ fresh) x (length ks + o) parent none (λ q. absurd (omega arith))
          ∙ get_or-append-add ks fresh o none
          ∙ listed_at count (λ o. record { parent = x; family = None }) o none m;
    }
