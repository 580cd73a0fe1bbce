-- What it says that a list of faults is empty, and where names stand.
use Rattle.std.specs.Prelude.{is_none, is_some, unwrap_or, ◌||◌, find}
use Rattle.std.specs.List.{AllByRecursion, position_from, list_any}
use Rattle.std.proofs.Common.{◌≡◌, ℕ, suc, ◌+◌, ◌<◌, Bool, true, false, cond, List, [], ◌∷◌, ◌++◌, length, Option, Some, None, refl, sym, ap, subst, ◌∙◌, arith}
use Rattle.std.proofs.lemmas.Option.{same_Some}
use Rattle.rely_num.specs.Texts.{Bytes, same_text}
use Rattle.rely_resolve.specs.Faults.{first_of, when}
use Rattle.rely_resolve.specs.Names.{place_of, number_of}
use Rattle.rely_resolve.specs.declared.fault.NameFault.{NameFault}
use Rattle.rely_resolve.proofs.Least.{answered}
use Rattle.rely_resolve.proofs.Places.{place_from}

-- ---- no fault

-- where none is answered there is none
pub none_first : (fs : List NameFault) → first_of fs ≡ None → fs ≡ []
none_first fs e = (answered fs).0.0 (ap is_some e)

pub both_empty : {A : Type 0} (xs ys : List A) → xs ++ ys ≡ [] → (xs ≡ []) × (ys ≡ [])
both_empty [] ys e = (refl, e)
both_empty (x ∷ xs) ys e = absurd (cc)

pub when_off : (b : Bool) (f : NameFault) → when b f ≡ [] → b ≡ false
when_off true f e = absurd (cc)
when_off false f e = refl

-- ---- what holds of each item of two lists

pub both_hold : {A : Type 0} (P : A → Type 0) (xs ys : List A) → AllByRecursion P xs → AllByRecursion P ys → AllByRecursion P (xs ++ ys)
both_hold P [] ys p q = q
both_hold P (x ∷ xs) ys p q = (p.0, both_hold P xs ys p.1 q)

pub each_holds : {A : Type 0} (P : A → Type 0) (xs ys : List A) → AllByRecursion P (xs ++ ys) → AllByRecursion P xs × AllByRecursion P ys
each_holds P [] ys p = (tt, p)
each_holds P (x ∷ xs) ys p = let (a, b) = each_holds P xs ys p.1 in ((p.0, a), b)

-- ---- places

pub either : {A : Type 0} (P : A → Type 0) (b : Bool) (x y : A) → (b ≡ true → P x) → (b ≡ false → P y) → P (cond b x y)
either P true x y h k = h refl
either P false x y h k = k refl

-- a place counted from i on
module _ {A : Type 0} (p : A → Bool) where
  from_within : (xs : List A) (i v : ℕ) → position_from p i xs ≡ Some v → v < i + length xs
  from_within [] i v e = absurd (cc)
  from_within (x ∷ xs) i v e =
      either (λ o. o ≡ Some v → v < i + suc (length xs)) (p x) (Some i) (position_from p (i + 1) xs)
      (λ q f. let s : i ≡ v = cc in omega arith) (λ q f. let s = from_within xs (i + 1) v f in omega arith) e

  from_more : (xs ys : List A) (i v : ℕ) → position_from p i xs ≡ Some v → position_from p i (xs ++ ys) ≡ Some v
  from_more [] ys i v e = absurd (cc)
  from_more (x ∷ xs) ys i v e = go (p x) (from_more xs ys (i + 1) v) e
    where
      go : (b : Bool) → (position_from p (i + 1) xs ≡ Some v → position_from p (i + 1) (xs ++ ys) ≡ Some v) → cond b (Some i) (position_from p (i + 1) xs) ≡ Some v → cond b (Some i) (position_from p (i + 1) (xs ++ ys)) ≡ Some v
      go true k f = f
      go false k f = k f

  from_last : (xs : List A) (y : A) (i : ℕ) → position_from p i xs ≡ None → p y ≡ true → position_from p i (xs ++ y ∷ []) ≡ Some (i + length xs)
  from_last [] y i e t = (λ j. cond (t j) (Some i) None) ∙ (let s : i ≡ i + 0 = omega arith in ap (λ n. Some n) s)
  from_last (x ∷ xs) y i e t = go (p x) (λ f. from_last xs y (i + 1) f t) e
    where
      go : (b : Bool) → (position_from p (i + 1) xs ≡ None → position_from p (i + 1) (xs ++ y ∷ []) ≡ Some (i + 1 + length xs)) → cond b (Some i) (position_from p (i + 1) xs) ≡ None → cond b (Some i) (position_from p (i + 1) (xs ++ y ∷ [])) ≡ Some (i + suc (length xs))
      go true k f = absurd (cc)
      go false k f = k f ∙ (let s : i + 1 + length xs ≡ i + suc (length xs) = omega arith in ap (λ n. Some n) s)

  from_none : (xs : List A) (y : A) (i : ℕ) → position_from p i xs ≡ None → p y ≡ false → position_from p i (xs ++ y ∷ []) ≡ None
  from_none [] y i e t = λ j. cond (t j) (Some i) None
  from_none (x ∷ xs) y i e t = go (p x) (λ f. from_none xs y (i + 1) f t) e
    where
      go : (b : Bool) → (position_from p (i + 1) xs ≡ None → position_from p (i + 1) (xs ++ y ∷ []) ≡ None) → cond b (Some i) (position_from p (i + 1) xs) ≡ None → cond b (Some i) (position_from p (i + 1) (xs ++ y ∷ [])) ≡ None
      go true k f = absurd (cc)
      go false k f = k f

  from_any : (xs : List A) (i : ℕ) → list_any p xs ≡ true → is_none (position_from p i xs) ≡ false
  from_any [] i e = absurd (cc)
  from_any (x ∷ xs) i e = go (p x) (from_any xs (i + 1)) e
    where
      go : (b : Bool) → (list_any p xs ≡ true → is_none (position_from p (i + 1) xs) ≡ false) → (b || list_any p xs) ≡ true → is_none (cond b (Some i) (position_from p (i + 1) xs)) ≡ false
      go true k f = refl
      go false k f = k f

-- a name that stands in the list
pub place_within : (t : Bytes) (ns : List Bytes) (v : ℕ) → place_of t ns ≡ Some v → v < length ns
place_within t ns v e = let s = from_within (λ n. same_text n t) ns 0 v (sym (place_from t ns) ∙ e) in omega (arith, s)

pub number_within : (t : Bytes) (ns : List Bytes) → is_none (place_of t ns) ≡ false → number_of t ns < length ns
number_within t ns = go (place_of t ns) (place_within t ns)
  where
    go : (o : Option ℕ) → ((v : ℕ) → o ≡ Some v → v < length ns) → is_none o ≡ false → unwrap_or o 0 < length ns
    go None k e = absurd (cc)
    go (Some v) k e = k v refl

-- it stays at its place
pub place_more : (t : Bytes) (ns ms : List Bytes) (v : ℕ) → place_of t ns ≡ Some v → place_of t (ns ++ ms) ≡ Some v
place_more t ns ms v e = place_from t (ns ++ ms) ∙ from_more (λ n. same_text n t) ns ms 0 v (sym (place_from t ns) ∙ e)

-- a new name comes behind the others
pub place_last : (t : Bytes) (ns : List Bytes) (n : Bytes) → place_of t ns ≡ None → same_text n t ≡ true → place_of t (ns ++ n ∷ []) ≡ Some (length ns)
place_last t ns n e s = place_from t (ns ++ n ∷ []) ∙ from_last (λ m. same_text m t) ns n 0 (sym (place_from t ns) ∙ e) s ∙ (let z : 0 + length ns ≡ length ns = omega arith in ap (λ m. Some m) z)

pub place_other : (t : Bytes) (ns : List Bytes) (n : Bytes) → place_of t ns ≡ None → same_text n t ≡ false → place_of t (ns ++ n ∷ []) ≡ None
place_other t ns n e s = place_from t (ns ++ n ∷ []) ∙ from_none (λ m. same_text m t) ns n 0 (sym (place_from t ns) ∙ e) s

pub place_any : (t : Bytes) (ns : List Bytes) → list_any (λ n. same_text n t) ns ≡ true → is_none (place_of t ns) ≡ false
place_any t ns e = ap is_none (place_from t ns) ∙ from_any (λ n. same_text n t) ns 0 e

-- ---- what is found

module _ {A : Type 0} (p : A → Bool) where
  -- what holds of each holds of the one that is found
  pub of_found : (P : A → Type 0) (xs : List A) (y : A) → AllByRecursion P xs → find p xs ≡ Some y → P y
  of_found P [] y q e = absurd (cc)
  of_found P (x ∷ xs) y q e = go (p x) (of_found P xs y q.1) e
    where
      go : (b : Bool) → (find p xs ≡ Some y → P y) → cond b (Some x) (find p xs) ≡ Some y → P y
      go true r f = subst P (same_Some x y f) q.0
      go false r f = r f

  pub any_found : (xs : List A) (y : A) → find p xs ≡ Some y → list_any p xs ≡ true
  any_found [] y e = absurd (cc)
  any_found (x ∷ xs) y e = go (p x) (any_found xs y) e
    where
      go : (b : Bool) → (find p xs ≡ Some y → list_any p xs ≡ true) → cond b (Some x) (find p xs) ≡ Some y → (b || list_any p xs) ≡ true
      go true r f = refl
      go false r f = r f
