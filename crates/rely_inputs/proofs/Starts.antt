-- What is read of a file of sample inputs starts the kernel.
use Rattle.std.proofs.Common.{◌≡◌, ◌≢◌, ℕ, zero, suc, ◌+◌, ◌≤◌, Bool, true, false, not, ◌||◌, ◌==◌, nat_lt, pos, map, replicate, List, [], ◌∷◌, ◌++◌, length, codes, Option, Some, None, Result, Ok, Err, if◌then◌else◌, refl, ap, sym, ◌∙◌, subst, arith, append_assoc, append-nil}
use Rattle.std.specs.Prelude.{IfOk, option_and_then}
use Rattle.std.specs.List.{All, AllByRecursion, AllZip}
use Rattle.std.specs.Option.{option_map_or}
use Rattle.std.specs.Str.{is_utf8}
use Rattle.std.proofs.lemmas.Bool.{ltb-false, eqb-true, eqb-false, false≢true}
use Rattle.std.proofs.lemmas.List.Elements.{All-from_recursion}
use Rattle.serde_json.specs.Data.{Data, Members}
use Rattle.serde_json.specs.Find.{get, get_member, as_number, as_i64, as_object, as_array}
use Rattle.serde_json.specs.Read.{read}
use Rattle.rely_num.specs.Texts.{Bytes}
use Rattle.rely_kernel.specs.declared.kernel.Kernel.{Kernel}
use Rattle.rely_kernel.specs.declared.kernel.Var.{Var}
use Rattle.rely_kernel.specs.declared.setting.Store.{Store}
use Rattle.rely_kernel.specs.Bound.{IsStart}
use Rattle.rely_kernel.specs.Machine.{size, zeros, parameters, locals}
use Rattle.rely_kernel.specs.Running.{All-fit}
use Rattle.rely_kernel.specs.Valid.{IsValid}
use Rattle.rely_kernel.proofs.Numbers.{Fits, fits_zero}
use Rattle.rely_kernel.proofs.Same.{Numbers}
use Rattle.rely_kernel.proofs.Shape.{IsCell, IsFirst, all_param}
use Rattle.rely_inputs.specs.declared.fault.InputFault.{InputFault}
use Rattle.rely_inputs.specs.declared.fault.InputWhy.{InputWhy}
use Rattle.rely_inputs.specs.declared.fault.InputWhy.TheVariants.{Json, Shape, Count, Missing, Length, Number, Extra}
use Rattle.rely_inputs.specs.declared.place.Place.{Place}
use Rattle.rely_inputs.specs.Samples.{◌>>=◌, reading, place, must, unless, each_after, list_of, number_at, list_at, cell_at, parameter_at, has_other, sample_at, numbered_sample, list_of_samples, samples_from, samples_of}
use Rattle.rely_inputs.proofs.Read64.{On, AllSmall, ItemsSmall, MembersSmall, small_read, small_member, small_get, small_object, small_array, small_list, fits_whole}

-- ---- steps

-- what a step gives goes on to the next
pub bind_ok : {A B : Type 0} (Q : A → Type 0) (P : B → Type 0) (r : Result A InputFault) (f : A → Result B InputFault) → IfOk r Q → ((a : A) → Q a → IfOk (f a) P) → IfOk (r >>= f) P
bind_ok Q P (Ok a) f h j = j a h
bind_ok Q P (Err e) f h j = tt

-- what is there
must_ok : {A : Type 0} (P : A → Type 0) (why : InputWhy) (p : Place) (o : Option A) → On P o → IfOk (must why p o) P
must_ok P why p None h = tt
must_ok P why p (Some a) h = h

-- what passes
pub unless_ok : {A : Type 0} (P : A → Type 0) (bad : Bool) (why : InputWhy) (p : Place) (a : A) → (bad ≡ false → P a) → IfOk (unless bad why p a) P
unless_ok P true why p a h = tt
unless_ok P false why p a h = h refl

-- one for each, by a relation, after what was read before
pub record Zipped {A X : Type 0} (R : X → A → Type 0) (before : List A) (xs : List X) (ys : List A) : Type 0 where
  pub more : List A
  pub is : ys ≡ before ++ more
  pub zip : AllZip R xs more

module _ {A X : Type 0} (Q : X → Type 0) (R : X → A → Type 0) (one : List A → X → Result A InputFault) (step : (before : List A) (x : X) → Q x → IfOk (one before x) (R x)) where
  zip_more : (before : List A) (x : X) (xs : List X) (a : A) → R x a → (r : Result (List A) InputFault) → IfOk r (Zipped R (before ++ a ∷ []) xs) → IfOk r (Zipped R before (x ∷ xs))
  zip_more before x xs a h (Err e) k = tt
  zip_more before x xs a h (Ok ys) k = record { more = a ∷ k.more; is = k.is ∙ append_assoc before (a ∷ []) k.more; zip = (h, k.zip) }

  -- each keeps the relation
  pub each_zips : (xs : List X) (before : List A) → AllByRecursion Q xs → IfOk (each_after one before xs) (Zipped R before xs)
  each_zips [] before h = record { more = []; is = sym (append-nil before); zip = tt }
  each_zips (x ∷ xs) before h = bind_ok (R x) (Zipped R before (x ∷ xs)) (one before x) _ (step before x h.0) (λ a k. zip_more before x xs a k (each_after one (before ++ a ∷ []) xs) (each_zips xs (before ++ a ∷ []) h.1))

-- as many, each with what the relation says of it
zip_all : {A X : Type 0} (P : A → Type 0) (xs : List X) (ys : List A) → AllZip (λ x a. P a) xs ys → (length ys ≡ length xs) × AllByRecursion P ys
zip_all P [] [] h = (refl, tt)
zip_all P [] (a ∷ ys) h = absurd h
zip_all P (x ∷ xs) [] h = absurd h
zip_all P (x ∷ xs) (a ∷ ys) h = let r = zip_all P xs ys h.1 in (ap suc r.0, (h.0, r.1))

-- ---- what a parameter holds

number_ok : (p : Place) (d : Data) → AllSmall d → IfOk (number_at p d) Fits
unfolding number_at
number_ok p d h = must_ok Fits Number p (option_and_then as_i64 (as_number d)) (fits_whole d h)

-- not different
pub same_from : (a b : ℕ) → not (a == b) ≡ false → a ≡ b
same_from a b h = eqb-true a b (true_from (a == b) h)
  where
    true_from : (c : Bool) → not c ≡ false → c ≡ true
    true_from true k = refl
    true_from false k = sym k

abbrev IsListOf : ℕ → List Data → Type 0
IsListOf n ds = (length ds ≡ n) × AllByRecursion AllSmall ds

list_ok : (p : Place) (n : ℕ) (d : Data) → AllSmall d → IfOk (list_at p n d) (IsListOf n)
unfolding list_at
list_ok p n d h =
    bind_ok ItemsSmall (IsListOf n) (must Length p (as_array d)) _ (must_ok ItemsSmall Length p (as_array d) (small_array d h)) (λ ds k.
    unless_ok (IsListOf n) (not (length (list_of ds) == n)) Length p (list_of ds) (λ e. (same_from (length (list_of ds)) n e, small_list ds k)))

-- as many numbers of 64 bits as the length says
abbrev IsCellOf : Option ℕ → Numbers → Type 0
IsCellOf n zs = (length zs ≡ option_map_or (λ n. n) n 1) × All-fit zs

numbers_ok : (p : Place) (n : ℕ) (ds : List Data) → IsListOf n ds → IfOk (each_after (λ _ d. number_at p d) [] ds) (IsCellOf (Some n))
numbers_ok p n ds h = go (each_after (λ _ d. number_at p d) [] ds) (each_zips AllSmall (λ d z. Fits z) (λ _ d. number_at p d) (λ before d k. number_ok p d k) ds [] h.1)
  where
    go : (r : Result Numbers InputFault) → IfOk r (Zipped {X = Data} (λ d z. Fits z) [] ds) → IfOk r (IsCellOf (Some n))
    go (Err e) k = tt
    go (Ok zs) k = let r = zip_all Fits ds k.more k.zip in subst (λ (zs : Numbers). IsCellOf (Some n) zs) (sym k.is) (r.0 ∙ h.0, r.1)

cell_ok : (p : Place) (n : Option ℕ) (v : Option Data) → On AllSmall v → IfOk (cell_at p n v) (IsCellOf n)
unfolding cell_at
cell_ok p None v h =
    bind_ok AllSmall (IsCellOf None) (must Missing p v) _ (must_ok AllSmall Missing p v h) (λ d k.
    bind_ok Fits (IsCellOf None) (number_at p d) _ (number_ok p d k) (λ z fits. (refl, (fits, tt))))
cell_ok p (Some n) v h =
    bind_ok AllSmall (IsCellOf (Some n)) (must Missing p v) _ (must_ok AllSmall Missing p v h) (λ d k.
    bind_ok (IsListOf n) (IsCellOf (Some n)) (list_at p n d) _ (list_ok p n d k) (numbers_ok p n))

parameter_ok : (sample : ℕ) (ms : Members) → MembersSmall ms → (before : List Numbers) (v : Var) → v.param ≡ true → IfOk (parameter_at sample ms before v) (λ zs. IsCell v zs × IsFirst v zs)
unfolding parameter_at
parameter_ok sample ms h before v param = go (cell_at (place sample (length before + 1)) v.length (get_member v.name ms)) (cell_ok (place sample (length before + 1)) v.length (get_member v.name ms) (small_member v.name ms h))
  where
    go : (r : Result Numbers InputFault) → IfOk r (IsCellOf v.length) → IfOk r (λ zs. IsCell v zs × IsFirst v zs)
    go (Err e) k = tt
    go (Ok zs) k = (k, λ local. absurd (false≢true (sym local ∙ param)))

-- ---- starts

zeros_long : (n : ℕ) → length (replicate n (pos 0)) ≡ n
zeros_long zero = refl
zeros_long (suc n) = ap suc (zeros_long n)

zeros_fit : (n : ℕ) → All-fit (replicate n (pos 0))
zeros_fit zero = tt
zeros_fit (suc n) = (fits_zero, zeros_fit n)

-- what a start's cell is
abbrev IsBegun : Var → Numbers → Type 0
IsBegun v zs = IsCell v zs × IsFirst v zs

zeros_begun : (vs : List Var) → AllZip IsBegun vs (map zeros vs)
zeros_begun [] = tt
zeros_begun (v ∷ vs) = (((zeros_long (size v), zeros_fit (size v)), λ local. refl), zeros_begun vs)

zip_append : (vs ws : List Var) (xs ys : List Numbers) → AllZip IsBegun vs xs → AllZip IsBegun ws ys → AllZip IsBegun (vs ++ ws) (xs ++ ys)
zip_append [] ws [] ys h k = k
zip_append [] ws (x ∷ xs) ys h k = absurd h
zip_append (v ∷ vs) ws [] ys h k = absurd h
zip_append (v ∷ vs) ws (x ∷ xs) ys h k = (h.0, zip_append vs ws xs ys h.1 k)

zip_cells : (vs : List Var) (xs : List Numbers) → AllZip IsBegun vs xs → AllZip IsCell vs xs
zip_cells [] [] h = tt
zip_cells [] (x ∷ xs) h = absurd h
zip_cells (v ∷ vs) [] h = absurd h
zip_cells (v ∷ vs) (x ∷ xs) h = (h.0.0, zip_cells vs xs h.1)

zip_firsts : (vs : List Var) (xs : List Numbers) → AllZip IsBegun vs xs → AllZip IsFirst vs xs
zip_firsts [] [] h = tt
zip_firsts [] (x ∷ xs) h = absurd h
zip_firsts (v ∷ vs) [] h = absurd h
zip_firsts (v ∷ vs) (x ∷ xs) h = (h.0.1, zip_firsts vs xs h.1)

begun : (k : Kernel) → IsValid k → (cells : List Numbers) → AllZip IsBegun (parameters k) cells → IsStart k (record { cells = cells ++ map zeros (locals k); result = pos 0 })
begun k valid cells h =
    let all : AllZip IsBegun k.vars (cells ++ map zeros (locals k)) =
    subst (λ (vs : List Var). AllZip IsBegun vs (cells ++ map zeros (locals k))) (sym valid.in_order) (zip_append (parameters k) (locals k) cells (map zeros (locals k)) h (zeros_begun (locals k))) in
    record {
      shape = record { cells = zip_cells k.vars (cells ++ map zeros (locals k)) all; result = fits_zero };
      locals = zip_firsts k.vars (cells ++ map zeros (locals k)) all;
      result = refl;
    }

sample_ok : (k : Kernel) → IsValid k → (sample : ℕ) (d : Data) → AllSmall d → IfOk (sample_at k sample d) (IsStart k)
unfolding sample_at
sample_ok k valid sample d h =
    bind_ok MembersSmall (IsStart k) (must Shape (place sample 0) (as_object d)) _ (must_ok MembersSmall Shape (place sample 0) (as_object d) (small_object d h)) (λ ms small.
    bind_ok (Zipped IsBegun [] (parameters k)) (IsStart k) (each_after (parameter_at sample ms) [] (parameters k)) _
    (each_zips (λ v. v.param ≡ true) IsBegun (parameter_at sample ms) (parameter_ok sample ms small) (parameters k) [] (all_param k.vars)) (λ cells zipped.
    unless_ok (IsStart k) (has_other (map (λ v. v.name) (parameters k)) ms) Extra (place sample 0) (record { cells = cells ++ map zeros (locals k); result = pos 0 })
    (λ e. begun k valid cells (subst (λ (cs : List Numbers). AllZip IsBegun (parameters k) cs) (sym zipped.is) zipped.zip))))

-- ---- files

-- some, and at most 64
abbrev IsFew : List Data → Type 0
IsFew ds = (1 ≤ length ds) × (length ds ≤ 64) × AllByRecursion AllSmall ds

few_from : (n : ℕ) → (n == 0 || nat_lt 64 n) ≡ false → (1 ≤ n) × (n ≤ 64)
few_from n h = go (n == 0) refl h
  where
    go : (b : Bool) → (n == 0) ≡ b → (b || nat_lt 64 n) ≡ false → (1 ≤ n) × (n ≤ 64)
    go true e k = absurd (false≢true (sym k))
    go false e k = let other : n ≢ 0 = eqb-false n 0 e in (omega (arith, other), ltb-false 64 n k)

samples_ok : (d : Data) → AllSmall d → IfOk (list_of_samples d) IsFew
unfolding list_of_samples
samples_ok d h =
    bind_ok ItemsSmall IsFew (must Shape (place 0 0) (option_and_then as_array (get (codes "samples") d))) _
    (must_ok ItemsSmall Shape (place 0 0) (option_and_then as_array (get (codes "samples") d)) (list_in (get (codes "samples") d) (small_get (codes "samples") d h))) (λ ds small.
    unless_ok IsFew (length (list_of ds) == 0 || nat_lt 64 (length (list_of ds))) Count (place 0 0) (list_of ds)
    (λ e. let few = few_from (length (list_of ds)) e in (few.0, few.1, small_list ds small)))
  where
    list_in : (o : Option Data) → On AllSmall o → On ItemsSmall (option_and_then as_array o)
    list_in None k = tt
    list_in (Some d) k = small_array d k

-- 1 to 64 starts
pub record AreStarts (k : Kernel) (ss : List Store) : Type 0 where
  pub starts : All (IsStart k) ss
  pub some : 1 ≤ length ss
  pub few : length ss ≤ 64

stores_ok : (k : Kernel) → IsValid k → (ds : List Data) → IsFew ds → IfOk (each_after (numbered_sample k) [] ds) (AreStarts k)
stores_ok k valid ds h = go (each_after (numbered_sample k) [] ds) (each_zips AllSmall (λ d s. IsStart k s) (numbered_sample k) (λ before d small. sample_ok k valid (length before + 1) d small) ds [] h.2)
  where
    go : (r : Result (List Store) InputFault) → IfOk r (Zipped {X = Data} (λ d s. IsStart k s) [] ds) → IfOk r (AreStarts k)
    go (Err e) z = tt
    go (Ok ss) z = let r = zip_all (IsStart k) ds z.more z.zip in
        subst (λ (ss : List Store). AreStarts k ss) (sym z.is) (record { starts = All-from_recursion (IsStart k) z.more r.1; some = omega (arith, r.0, h.0); few = omega (arith, r.0, h.1) })

from_value : (k : Kernel) → IsValid k → (d : Data) → AllSmall d → IfOk (samples_from k d) (AreStarts k)
unfolding samples_from
from_value k valid d h = bind_ok IsFew (AreStarts k) (list_of_samples d) _ (samples_ok d h) (stores_ok k valid)

read_small : (bytes : Bytes) → On AllSmall (reading bytes)
read_small bytes = go (is_utf8 bytes)
  where
    go : (b : Bool) → On AllSmall (if b then read bytes else None)
    go true = small_read bytes
    go false = tt

from_bytes : (k : Kernel) → IsValid k → (bytes : Bytes) → IfOk (samples_of k bytes) (AreStarts k)
from_bytes k valid bytes = bind_ok AllSmall (AreStarts k) (must Json (place 0 0) (reading bytes)) (samples_from k) (must_ok AllSmall Json (place 0 0) (reading bytes) (read_small bytes)) (from_value k valid)

-- the samples that bytes name start the kernel, and there are 1 to 64
pub samples_start : (k : Kernel) → IsValid k → (bytes : Bytes) (ss : List Store) → samples_of k bytes ≡ Ok ss → AreStarts k ss
samples_start k valid bytes ss e = subst (λ (r : Result (List Store) InputFault). IfOk r (AreStarts k)) e (from_bytes k valid bytes)

-- what was read of a value starts the kernel
pub starts_from_value : (k : Kernel) → IsValid k → (bytes : Bytes) (d : Data) (r : Result (List Store) InputFault) → reading bytes ≡ Some d → IfOk r (λ ss. samples_from k d ≡ Ok ss) → IfOk r (λ ss. All (IsStart k) ss)
starts_from_value k valid bytes d (Ok ss) e h = (samples_start k valid bytes ss (ap (λ o. must Json (place 0 0) o >>= samples_from k) e ∙ h)).starts
starts_from_value k valid bytes d (Err f) e h = tt

-- and so many
pub count_from_value : (k : Kernel) → IsValid k → (bytes : Bytes) (d : Data) (r : Result (List Store) InputFault) → reading bytes ≡ Some d → IfOk r (λ ss. samples_from k d ≡ Ok ss) → IfOk r (λ ss. (1 ≤ length ss) × (length ss ≤ 64))
count_from_value k valid bytes d (Ok ss) e h = let few = samples_start k valid bytes ss (ap (λ o. must Json (place 0 0) o >>= samples_from k) e ∙ h) in (few.some, few.few)
count_from_value k valid bytes d (Err f) e h = tt
