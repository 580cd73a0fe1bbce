-- Lists that grow by what a step makes of one conjunct.
use Rattle.std.proofs.Common.{◌≡◌, ℕ, zero, suc, ◌+◌, ◌<◌, ◌≤◌, ◌^◌, ◌||◌, List, [], ◌∷◌, ◌++◌, map, flat_map, length, get_or, set, take, drop, nat_le, IsTrue, refl, sym, ap, subst, ◌∙◌, arith, add-one, append-nil, append_assoc, length-append}
use Rattle.std.specs.List.{list_any}
use Rattle.std.proofs.lemmas.Bool.{or_left, or_right}
use Rattle.std.proofs.lemmas.List.Folds.{list_any-append}
use Rattle.rely_num.specs.declared.conj.Conj.{Conj}
use Rattle.rely_kernel.specs.declared.kernel.Kernel.{Kernel}
use Rattle.rely_kernel.specs.declared.kernel.StKind.{StKind}
use Rattle.rely_kernel.specs.Paths.{skips, past, paths}
use Rattle.rely_kernel.specs.Text.{stmt_of}
use Rattle.rely_loops.specs.Grown.{too_many}
use Rattle.rely_precond.specs.Answers.{IsOver}
use Rattle.rely_precond.specs.Places.{line_of}
use Rattle.rely_precond.specs.Walk.{changed}
use Rattle.rely_precond.proofs.LineLemmas.{line_plain}

-- ---- what is too many in a part is too many in the whole

pub too_many_append : (xs ys : List Conj) → too_many (xs ++ ys) ≡ (too_many xs || too_many ys)
too_many_append xs ys = list_any-append (λ c. list_any (nat_le (2 ^ 36)) c.counts) xs ys

pub too_many_left : (xs ys : List Conj) → IsTrue (too_many xs) → IsTrue (too_many (xs ++ ys))
too_many_left xs ys h = too_many_append xs ys ∙ or_left (too_many xs) (too_many ys) h

pub too_many_right : (xs ys : List Conj) → IsTrue (too_many ys) → IsTrue (too_many (xs ++ ys))
too_many_right xs ys h = too_many_append xs ys ∙ or_right (too_many xs) (too_many ys) h

-- ---- one conjunct more, in its place

pub through_is : (k : Kernel) (what : StKind) (cs : List Conj) → changed k (line_of what) cs ≡ flat_map (λ c. past (skips (stmt_of what) c) (paths k (stmt_of what)) c) cs
through_is k what cs = ap (λ s. flat_map (λ c. past (skips s c) (paths k s) c) cs) (line_plain what)

-- the place of a list up to which all is done
at_place : {X : Type 0} (done xs : List X) (i : ℕ) (d : X) → length done ≡ i → i < length xs → get_or (done ++ drop i xs) i d ≡ get_or xs i d
at_place done [] i d l h = absurd (omega (arith, h))
at_place [] (x ∷ xs) zero d l h = refl
at_place [] (x ∷ xs) (suc i) d l h = absurd (omega (arith, l))
at_place (y ∷ ys) (x ∷ xs) zero d l h = absurd (omega (arith, l))
at_place (y ∷ ys) (x ∷ xs) (suc i) d l h = at_place ys xs i d (omega (arith, l)) (omega (arith, h))

place_done : {X : Type 0} (done xs : List X) (i : ℕ) (next : X) → length done ≡ i → i < length xs → set (done ++ drop i xs) i next ≡ (done ++ next ∷ []) ++ drop (suc i) xs
place_done done [] i next l h = absurd (omega (arith, h))
place_done [] (x ∷ xs) zero next l h = refl
place_done [] (x ∷ xs) (suc i) next l h = absurd (omega (arith, l))
place_done (y ∷ ys) (x ∷ xs) zero next l h = absurd (omega (arith, l))
place_done (y ∷ ys) (x ∷ xs) (suc i) next l h = ap (λ zs. y ∷ zs) (place_done ys xs i next (omega (arith, l)) (omega (arith, h)))

pub set_twice : {X : Type 0} (xs : List X) (i : ℕ) (between next : X) → set (set xs i between) i next ≡ set xs i next
set_twice [] i between next = refl
set_twice (x ∷ xs) zero between next = refl
set_twice (x ∷ xs) (suc i) between next = ap (λ ys. x ∷ ys) (set_twice xs i between next)

pub set_long : {X : Type 0} (xs : List X) (i : ℕ) (next : X) → length (set xs i next) ≡ length xs
set_long [] i next = refl
set_long (x ∷ xs) zero next = refl
set_long (x ∷ xs) (suc i) next = ap suc (set_long xs i next)

drop_long : {X : Type 0} (xs : List X) (i : ℕ) → i ≤ length xs → length (drop i xs) + i ≡ length xs
drop_long xs zero h = omega arith
drop_long [] (suc i) h = absurd (omega (arith, h))
drop_long (x ∷ xs) (suc i) h = let r = drop_long xs i (omega (arith, h)) in omega (arith, r)

done_long : {X : Type 0} (done xs : List X) (i : ℕ) → i < length xs → length (done ++ drop i xs) ≡ length xs → length done ≡ i
done_long done xs i h l = let r = drop_long xs i (omega (arith, h)) in let a = length-append done (drop i xs) in omega (arith, l, r, a)

flat_next : (f : Conj → List Conj) (xs : List Conj) (i : ℕ) (d : Conj) → i < length xs → flat_map f (take (suc i) xs) ≡ flat_map f (take i xs) ++ f (get_or xs i d)
flat_next f [] i d h = absurd (omega (arith, h))
flat_next f (x ∷ xs) zero d h = append-nil (f x)
flat_next f (x ∷ xs) (suc i) d h = ap (λ ys. f x ++ ys) (flat_next f xs i d (omega (arith, h))) ∙ sym (append_assoc (f x) (flat_map f (take i xs)) (f (get_or xs i d)))

flat_full : (f : Conj → List Conj) (xs : List Conj) (i : ℕ) (d : Conj) → i < length xs → IsTrue (too_many (f (get_or xs i d))) → IsTrue (too_many (flat_map f xs))
flat_full f [] i d h t = absurd (omega (arith, h))
flat_full f (x ∷ xs) zero d h t = too_many_left (f x) (flat_map f xs) t
flat_full f (x ∷ xs) (suc i) d h t = too_many_right (f x) (flat_map f xs) (flat_full f xs i d (omega (arith, h)) t)

module _ (k : Kernel) (what : StKind) (xs list : List Conj) (i : ℕ) (c : Conj) (h : i < length xs)
    (long : length list ≡ length xs) (so_far : list ≡ changed k (line_of what) (take i xs) ++ drop i xs) (is : c ≡ get_or list i c) where
  abbrev goes : Conj → List Conj
  goes x = past (skips (stmt_of what) x) (paths k (stmt_of what)) x

  done_is : length (changed k (line_of what) (take i xs)) ≡ i
  done_is = done_long (changed k (line_of what) (take i xs)) xs i h (sym (ap length so_far) ∙ long)

  old_is : c ≡ get_or xs i c
  old_is = is ∙ ap (λ (ys : List Conj). get_or ys i c) so_far ∙ at_place (changed k (line_of what) (take i xs)) xs i c done_is h

  more_is : (next : Conj) → goes c ≡ next ∷ [] → changed k (line_of what) (take i xs) ++ next ∷ [] ≡ changed k (line_of what) (take (suc i) xs)
  more_is next one =
      ap (λ ys. changed k (line_of what) (take i xs) ++ ys) (sym one ∙ ap goes old_is) ∙ ap (λ ys. ys ++ goes (get_or xs i c)) (through_is k what (take i xs))
      ∙ sym (flat_next goes xs i c h) ∙ sym (through_is k what (take (suc i) xs))

  pub changed_more : (between next : Conj) → goes c ≡ next ∷ [] → set (set list i between) i next ≡ changed k (line_of what) (take (i + 1) xs) ++ drop (i + 1) xs
  changed_more between next one = rw add-one
      (set_twice list i between next ∙ ap (λ (ys : List Conj). set ys i next) so_far
      ∙ place_done (changed k (line_of what) (take i xs)) xs i next done_is h ∙ ap (λ ys. ys ++ drop (suc i) xs) (more_is next one))

  pub changed_full : IsTrue (too_many (goes c)) → IsTrue (too_many (changed k (line_of what) xs))
  changed_full t =
      subst (λ (ys : List Conj). IsTrue (too_many ys)) (sym (through_is k what xs))
      (flat_full goes xs i c h (subst (λ (x : Conj). IsTrue (too_many (goes x))) old_is t))

-- ---- a condition added

map_too_many : (f : Conj → Conj) (cs : List Conj) (i : ℕ) (c : Conj) → i < length cs → IsOver (f (get_or cs i c)) → IsTrue (too_many (map f cs))
map_too_many f [] i c h t = absurd (omega (arith, h))
map_too_many f (x ∷ cs) zero c h t = or_left (list_any (nat_le (2 ^ 36)) (f x).counts) (too_many (map f cs)) t.some
map_too_many f (x ∷ cs) (suc i) c h t = or_right (list_any (nat_le (2 ^ 36)) (f x).counts) (too_many (map f cs)) (map_too_many f cs i c (omega (arith, h)) t)

pub mapped_full : (f : Conj → Conj) (cs : List Conj) (i : ℕ) (c : Conj) → i < length cs → c ≡ get_or cs i c → IsOver (f c) → IsTrue (too_many (map f cs))
mapped_full f cs i c h is t = map_too_many f cs i c h (subst (λ (x : Conj). IsOver (f x)) is t)
