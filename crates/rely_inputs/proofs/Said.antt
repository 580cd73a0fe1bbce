-- Each cell that is read is the value of the member of the parameter's name.
use Rattle.std.proofs.Common.{◌≡◌, ℕ, zero, suc, Bool, true, false, not, ◌||◌, ◌==◌, nat_lt, pos, map, List, [], ◌∷◌, ◌++◌, length, codes, get_or, Option, Some, None, Result, Ok, Err, refl, ap, sym, ◌∙◌, subst, ◌+◌}
use Rattle.std.specs.Prelude.{IfOk, cond, filter, option_and_then, slice_get}
use Rattle.std.specs.List.{AllByRecursion, AllZip}
use Rattle.serde_json.specs.Data.{Data, Items, Members}
use Rattle.serde_json.specs.Find.{get, get_member, as_number, as_i64, as_object, as_array}
use Rattle.rely_num.specs.Texts.{Bytes}
use Rattle.rely_kernel.specs.declared.kernel.Kernel.{Kernel}
use Rattle.rely_kernel.specs.declared.kernel.Var.{Var}
use Rattle.rely_kernel.specs.declared.setting.Store.{Store}
use Rattle.rely_kernel.specs.Machine.{locals, parameters, zeros}
use Rattle.rely_kernel.specs.Valid.{IsValid}
use Rattle.rely_kernel.proofs.Same.{Numbers}
use Rattle.rely_inputs.specs.declared.fault.InputFault.{InputFault}
use Rattle.rely_inputs.specs.declared.fault.InputWhy.{InputWhy}
use Rattle.rely_inputs.specs.declared.fault.InputWhy.TheVariants.{Json, Shape, Count, Missing, Length, Number, Extra}
use Rattle.rely_inputs.specs.declared.place.Place.{Place}
use Rattle.rely_inputs.specs.Said.{EachIsSaid, FileSays, IsCell, IsMember, IsNumber, SampleSays}
use Rattle.rely_inputs.specs.Samples.{reading, place, must, each_after, list_of, number_at, list_at, cell_at, parameter_at, has_other, sample_at, numbered_sample, list_of_samples, samples_from}
use Rattle.rely_inputs.proofs.Starts.{Zipped, bind_ok, each_zips, same_from, unless_ok}

must_be : {A : Type 0} (why : InputWhy) (p : Place) (o : Option A) → IfOk (must why p o) (λ a. o ≡ Some a)
must_be why p None = tt
must_be why p (Some a) = refl

-- ---- what a parameter holds

number_says : (p : Place) (d : Data) → IfOk (number_at p d) (IsNumber d)
unfolding number_at
number_says p d = must_be Number p (option_and_then as_i64 (as_number d))

-- the list of a value, of that length
abbrev IsListOf : ℕ → Data → List Data → Type 0
IsListOf n d ds = (items : Items) × (as_array d ≡ Some items) × (ds ≡ list_of items) × (length ds ≡ n)

list_says : (p : Place) (n : ℕ) (d : Data) → IfOk (list_at p n d) (IsListOf n d)
unfolding list_at
list_says p n d =
    bind_ok (λ items. as_array d ≡ Some items) (IsListOf n d) (must Length p (as_array d)) _ (must_be Length p (as_array d)) (λ items e.
    unless_ok (IsListOf n d) (not (length (list_of items) == n)) Length p (list_of items) (λ f. (items, e, refl, same_from (length (list_of items)) n f)))

as_long : {A B : Type 0} (R : A → B → Type 0) (xs : List A) (ys : List B) → AllZip R xs ys → length ys ≡ length xs
as_long R [] [] h = refl
as_long R [] (y ∷ ys) h = absurd h
as_long R (x ∷ xs) [] h = absurd h
as_long R (x ∷ xs) (y ∷ ys) h = ap suc (as_long R xs ys h.1)

-- there is no more to require of a member
anything : {X : Type 0} (xs : List X) → AllByRecursion (λ _. Unit {0}) xs
anything [] = tt
anything (x ∷ xs) = (tt, anything xs)

array_says : (p : Place) (n : ℕ) (d : Data) (ds : List Data) → IsListOf n d ds → IfOk (each_after (λ _ e. number_at p e) [] ds) (IsCell (Some n) d)
array_says p n d ds h = go (each_after (λ _ e. number_at p e) [] ds) (each_zips (λ _. Unit {0}) IsNumber (λ _ e. number_at p e) (λ before e _. number_says p e) ds [] (anything ds))
  where
    go : (r : Result Numbers InputFault) → IfOk r (Zipped IsNumber [] ds) → IfOk r (IsCell (Some n) d)
    go (Err e) z = tt
    go (Ok zs) z =
        let zip : AllZip IsNumber ds zs = subst (λ (ys : Numbers). AllZip IsNumber ds ys) (sym z.is) z.zip in
        (h.0, h.1, as_long IsNumber ds zs zip ∙ h.3, subst (λ (es : List Data). AllZip IsNumber es zs) h.2 zip)

-- what a parameter of that length holds by a value, where there is one
abbrev IsHeld : Option ℕ → Option Data → Numbers → Type 0
IsHeld n v zs = (d : Data) × (v ≡ Some d) × IsCell n d zs

held : (n : ℕ) (v : Option Data) (d : Data) → v ≡ Some d → (r : Result Numbers InputFault) → IfOk r (IsCell (Some n) d) → IfOk r (IsHeld (Some n) v)
held n v d e (Err f) h = tt
held n v d e (Ok zs) h = (d, e, h)

cell_says : (p : Place) (n : Option ℕ) (v : Option Data) → IfOk (cell_at p n v) (IsHeld n v)
unfolding cell_at
cell_says p None v =
    bind_ok (λ d. v ≡ Some d) (IsHeld None v) (must Missing p v) _ (must_be Missing p v) (λ d e.
    bind_ok (IsNumber d) (IsHeld None v) (number_at p d) _ (number_says p d) (λ z is. (d, e, (z, is, refl))))
cell_says p (Some n) v =
    bind_ok (λ d. v ≡ Some d) (IsHeld (Some n) v) (must Missing p v) _ (must_be Missing p v) (λ d e.
    bind_ok (IsListOf n d) (IsHeld (Some n) v) (list_at p n d) _ (list_says p n d) (λ ds is.
    held n v d e (each_after (λ _ f. number_at p f) [] ds) (array_says p n d ds is)))

-- ---- samples

-- a variable holds what the member of its name says
abbrev IsNamed : Members → Var → Numbers → Type 0
IsNamed ms v zs = IsHeld v.length (get_member v.name ms) zs

parameter_says : (sample : ℕ) (ms : Members) (before : List Numbers) (v : Var) → IfOk (parameter_at sample ms before v) (IsNamed ms v)
unfolding parameter_at
parameter_says sample ms before v = cell_says (place sample (length before + 1)) v.length (get_member v.name ms)

-- the cell of a variable among the first
found_cell : (ms : Members) (vs : List Var) (cells more : List Numbers) → AllZip (IsNamed ms) vs cells → (i : ℕ) (v : Var) → slice_get vs i ≡ Some v → IsNamed ms v (get_or (cells ++ more) i [])
found_cell ms [] [] more h i v e = absurd (cc)
found_cell ms [] (c ∷ cells) more h i v e = absurd h
found_cell ms (w ∷ vs) [] more h i v e = absurd h
found_cell ms (w ∷ vs) (c ∷ cells) more h zero v e = subst (λ (u : Var). IsNamed ms u c) (same e) h.0
  where
    same : Some w ≡ Some v → w ≡ v
    same f = cc
found_cell ms (w ∷ vs) (c ∷ cells) more h (suc i) v e = found_cell ms vs cells more h.1 i v e

abbrev IsLocal : Var → Type 0
IsLocal v = v.param ≡ false

are_local : (vs : List Var) → AllByRecursion IsLocal (filter (λ v. not v.param) vs)
are_local [] = tt
are_local (v ∷ vs) = by_test (are_local vs) v.param refl
  where
    by_test : AllByRecursion IsLocal (filter (λ w. not w.param) vs) → (b : Bool) → v.param ≡ b
        → AllByRecursion IsLocal (cond (not b) (v ∷ filter (λ w. not w.param) vs) (filter (λ w. not w.param) vs))
    by_test rest true e = rest
    by_test rest false e = (e, rest)

no_parameter : (ls : List Var) → AllByRecursion IsLocal ls → (i : ℕ) (v : Var) → slice_get ls i ≡ Some v → v.param ≡ true → ⊥
no_parameter [] h i v e param = absurd (cc)
no_parameter (w ∷ ls) h zero v e param = clash (sym param ∙ (sym (ap (λ (u : Var). u.param) (same e)) ∙ h.0))
  where
    same : Some w ≡ Some v → w ≡ v
    same f = cc

    clash : true ≡ false → ⊥
    clash f = absurd (cc)
no_parameter (w ∷ ls) h (suc i) v e param = no_parameter ls h.1 i v e param

-- a parameter stands among the first
among_first : (ps ls : List Var) → AllByRecursion IsLocal ls → (i : ℕ) (v : Var) → slice_get (ps ++ ls) i ≡ Some v → v.param ≡ true → slice_get ps i ≡ Some v
among_first [] ls h i v e param = absurd (no_parameter ls h i v e param)
among_first (p ∷ ps) ls h zero v e param = e
among_first (p ∷ ps) ls h (suc i) v e param = among_first ps ls h i v e param

member_of : (k : Kernel) (ms : Members) (cells : List Numbers) → IsValid k → AllZip (IsNamed ms) (parameters k) cells → (i : ℕ) (v : Var) → slice_get k.vars i ≡ Some v → v.param ≡ true
    → IsMember ms (record { cells = cells ++ map zeros (locals k); result = pos 0 }) i v
member_of k ms cells valid zip i v e param =
    let at : slice_get (parameters k) i ≡ Some v =
    among_first (parameters k) (locals k) (are_local k.vars) i v (subst (λ (vs : List Var). slice_get vs i ≡ Some v) valid.in_order e) param in
    let h = found_cell ms (parameters k) cells (map zeros (locals k)) zip i v at in
    record { value = h.0; named = h.1; holds = h.2 }

sample_says : (k : Kernel) → IsValid k → (sample : ℕ) (d : Data) → IfOk (sample_at k sample d) (SampleSays k d)
unfolding sample_at
sample_says k valid sample d =
    bind_ok (λ ms. as_object d ≡ Some ms) (SampleSays k d) (must Shape (place sample 0) (as_object d)) _ (must_be Shape (place sample 0) (as_object d)) (λ ms object.
    bind_ok (Zipped (IsNamed ms) [] (parameters k)) (SampleSays k d) (each_after (parameter_at sample ms) [] (parameters k)) _
    (each_zips (λ _. Unit {0}) (IsNamed ms) (parameter_at sample ms) (λ before v _. parameter_says sample ms before v) (parameters k) [] (anything (parameters k))) (λ cells zipped.
    unless_ok (SampleSays k d) (has_other (map (λ v. v.name) (parameters k)) ms) Extra (place sample 0) (record { cells = cells ++ map zeros (locals k); result = pos 0 })
    (λ _. record {
      members = ms;
      object = object;
      parameters = member_of k ms cells valid (subst (λ (cs : List Numbers). AllZip (IsNamed ms) (parameters k) cs) (sym zipped.is) zipped.zip);
    })))

-- ---- files

abbrev AreSamples : Data → List Data → Type 0
AreSamples d ds = (items : Items) × (option_and_then as_array (get (codes "samples") d) ≡ Some items) × (ds ≡ list_of items)

samples_say : (d : Data) → IfOk (list_of_samples d) (AreSamples d)
unfolding list_of_samples
samples_say d =
    bind_ok (λ items. option_and_then as_array (get (codes "samples") d) ≡ Some items) (AreSamples d) (must Shape (place 0 0) (option_and_then as_array (get (codes "samples") d))) _
    (must_be Shape (place 0 0) (option_and_then as_array (get (codes "samples") d))) (λ items e.
    unless_ok (AreSamples d) (length (list_of items) == 0 || nat_lt 64 (length (list_of items))) Count (place 0 0) (list_of items) (λ _. (items, e, refl)))

stores_say : (k : Kernel) → IsValid k → (ds : List Data) → IfOk (each_after (numbered_sample k) [] ds) (AllZip (SampleSays k) ds)
stores_say k valid ds =
    go (each_after (numbered_sample k) [] ds)
    (each_zips (λ _. Unit {0}) (SampleSays k) (numbered_sample k) (λ before d _. sample_says k valid (length before + 1) d) ds [] (anything ds))
  where
    go : (r : Result (List Store) InputFault) → IfOk r (Zipped (SampleSays k) [] ds) → IfOk r (AllZip (SampleSays k) ds)
    go (Err e) z = tt
    go (Ok ss) z = subst (λ (ts : List Store). AllZip (SampleSays k) ds ts) (sym z.is) z.zip

file_says : (k : Kernel) → IsValid k → (bytes : Bytes) (d : Data) → reading bytes ≡ Some d → IfOk (samples_from k d) (FileSays k bytes)
unfolding samples_from
file_says k valid bytes d is =
    bind_ok (AreSamples d) (FileSays k bytes) (list_of_samples d) _ (samples_say d) (λ ds listed.
    go ds listed (each_after (numbered_sample k) [] ds) (stores_say k valid ds))
  where
    go : (ds : List Data) → AreSamples d ds → (r : Result (List Store) InputFault) → IfOk r (AllZip (SampleSays k) ds) → IfOk r (FileSays k bytes)
    go ds listed (Err e) h = tt
    go ds listed (Ok ss) h = record {
      value = d;
      is = is;
      samples = listed.0;
      listed = listed.1;
      each = subst (λ (es : List Data). AllZip (SampleSays k) es ss) listed.2 h;
    }

pub members : EachIsSaid
members k bytes ss valid e =
    subst (λ (r : Result (List Store) InputFault). IfOk r (FileSays k bytes)) e
    (bind_ok (λ d. reading bytes ≡ Some d) (FileSays k bytes) (must Json (place 0 0) (reading bytes)) (samples_from k) (must_be Json (place 0 0) (reading bytes)) (λ d is. file_says k valid bytes d is))
