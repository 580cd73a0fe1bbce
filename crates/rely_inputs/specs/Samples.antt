-- What the bytes of a file of sample inputs say, by the value that serde_json reads; the first refusal stands.
use Rattle.std.specs.Prelude.{ℕ, ◌+◌, ℤ, pos, Bool, false, not, ◌||◌, ◌==◌, nat_lt, List, [], ◌∷◌, ◌++◌, map, length, codes, Option, Some, None, option_and_then, Result, Ok, Err, if◌then◌else◌}
use Rattle.std.specs.Str.{is_utf8}
use Rattle.serde_json.specs.Data.{Data, Items, no_items, item, Members, no_members, member}
use Rattle.serde_json.specs.Read.{read}
use Rattle.serde_json.specs.Find.{get, get_member, as_number, as_i64, as_object, as_array}
use Rattle.rely_num.specs.Texts.{Bytes, is_among}
use Rattle.rely_kernel.specs.declared.kernel.Kernel.{Kernel}
use Rattle.rely_kernel.specs.declared.kernel.Var.{Var}
use Rattle.rely_kernel.specs.declared.setting.Store.{Store}
use Rattle.rely_kernel.specs.Machine.{zeros, parameters, locals}
use Rattle.rely_inputs.specs.declared.fault.InputFault.{InputFault}
use Rattle.rely_inputs.specs.declared.fault.InputFault.TheVariants.{At}
use Rattle.rely_inputs.specs.declared.fault.InputWhy.{InputWhy}
use Rattle.rely_inputs.specs.declared.fault.InputWhy.TheVariants.{Json, Shape, Count, Missing, Length, Number, Extra}
use Rattle.rely_inputs.specs.declared.place.Place.{Place}

-- the value of the bytes; what isn't UTF-8 has none
abbrev pub reading : Bytes → Option Data
reading bytes = if is_utf8 bytes then read bytes else None

-- ---- steps that may refuse

-- what was read goes on to the next step
infixl 10 ◌>>=◌
abbrev pub ◌>>=◌ : {A B : Type 0} → Result A InputFault → (A → Result B InputFault) → Result B InputFault
Ok a >>= f = f a
Err e >>= f = Err e

-- the number of the sample and that of the parameter, from 1, with 0 for none
abbrev pub place : ℕ → ℕ → Place
place sample var = record { sample = sample; var = var }

-- the refusal at a place
abbrev pub fault : InputWhy → Place → InputFault
fault why p = At why p.sample p.var

-- what must be there
abbrev pub must : {A : Type 0} → InputWhy → Place → Option A → Result A InputFault
must why p None = Err (fault why p)
must why p (Some a) = Ok a

-- what was read, unless it is bad
abbrev pub unless : {A : Type 0} → Bool → InputWhy → Place → A → Result A InputFault
unless bad why p a = if bad then Err (fault why p) else Ok a

-- one after another, each read after those before it
abbrev pub each_after : {A X : Type 0} → (List A → X → Result A InputFault) → List A → List X → Result (List A) InputFault
each_after one before [] = Ok before
each_after one before (x ∷ xs) = one before x >>= λ a. each_after one (before ++ a ∷ []) xs

-- the members of a list
abbrev pub list_of : Items → List Data
list_of no_items = []
list_of (item d ds) = d ∷ list_of ds

-- ---- what a parameter holds

-- a whole number of 64 bits, with its sign
unfoldable pub number_at : Place → Data → Result ℤ InputFault
number_at p d = must Number p (option_and_then as_i64 (as_number d))

-- a list of that length
unfoldable pub list_at : Place → ℕ → Data → Result (List Data) InputFault
list_at p n d = do
  ds ← must Length p (as_array d)
  unless (not (length (list_of ds) == n)) Length p (list_of ds)

-- one number for a scalar, as many as its length for an array
unfoldable pub cell_at : Place → Option ℕ → Option Data → Result (List ℤ) InputFault
cell_at p None v = do
  d ← must Missing p v
  z ← number_at p d
  Ok (z ∷ [])
cell_at p (Some n) v = do
  d ← must Missing p v
  ds ← list_at p n d
  each_after (λ _ d. number_at p d) [] ds

-- ---- samples

-- what a parameter holds by the members of a sample, numbered by the parameters before it
unfoldable pub parameter_at : ℕ → Members → List (List ℤ) → Var → Result (List ℤ) InputFault
parameter_at sample ms before v = cell_at (place sample (length before + 1)) v.length (get_member v.name ms)

-- some member has none of the names
abbrev pub has_other : List Bytes → Members → Bool
has_other names no_members = false
has_other names (member name d ms) = not (is_among name names) || has_other names ms

-- the store of the sample of that number
unfoldable pub sample_at : Kernel → ℕ → Data → Result Store InputFault
sample_at k sample d = do
  ms ← must Shape (place sample 0) (as_object d)
  cells ← each_after (parameter_at sample ms) [] (parameters k)
  unless (has_other (map (λ v. v.name) (parameters k)) ms) Extra (place sample 0) (record { cells = cells ++ map zeros (locals k); result = pos 0 })

-- the same, numbered by the samples before it
abbrev pub numbered_sample : Kernel → List Store → Data → Result Store InputFault
numbered_sample k before d = sample_at k (length before + 1) d

-- the list of 1 to 64 samples
unfoldable pub list_of_samples : Data → Result (List Data) InputFault
list_of_samples d = do
  ds ← must Shape (place 0 0) (option_and_then as_array (get (codes "samples") d))
  unless (length (list_of ds) == 0 || nat_lt 64 (length (list_of ds))) Count (place 0 0) (list_of ds)

-- the stores of a value
unfoldable pub samples_from : Kernel → Data → Result (List Store) InputFault
samples_from k d = do
  ds ← list_of_samples d
  each_after (numbered_sample k) [] ds

-- the stores of the bytes of a file
abbrev pub samples_of : Kernel → Bytes → Result (List Store) InputFault
samples_of k bytes = must Json (place 0 0) (reading bytes) >>= samples_from k
