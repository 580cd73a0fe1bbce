-- What a file of samples says, in words of its own: each parameter holds the value of the member of its name.
use Rattle.std.specs.Prelude.{◌≡◌, ℕ, ℤ, true, List, [], ◌∷◌, length, codes, slice_get, Option, Some, None, Ok, option_and_then}
use Rattle.std.specs.List.{AllZip}
use Rattle.serde_json.specs.Data.{Data, Items, Members}
use Rattle.serde_json.specs.Find.{get, get_member, as_number, as_i64, as_object, as_array}
use Rattle.rely_num.specs.Texts.{Bytes}
use Rattle.rely_kernel.specs.declared.kernel.Kernel.{Kernel}
use Rattle.rely_kernel.specs.declared.kernel.Var.{Var}
use Rattle.rely_kernel.specs.declared.setting.Store.{Store}
use Rattle.rely_kernel.specs.Machine.{cell}
use Rattle.rely_kernel.specs.Valid.{IsValid}
use Rattle.rely_inputs.specs.Samples.{list_of, reading, samples_of}

-- a whole number of 64 bits
abbrev pub IsNumber : Data → ℤ → Type 0
IsNumber d z = option_and_then as_i64 (as_number d) ≡ Some z

-- for a scalar one number, for an array of n a list of n numbers
abbrev pub IsCell : Option ℕ → Data → List ℤ → Type 0
IsCell None d zs = (z : ℤ) × IsNumber d z × (zs ≡ z ∷ [])
IsCell (Some n) d zs = (ds : Items) × (as_array d ≡ Some ds) × (length zs ≡ n) × AllZip IsNumber (list_of ds) zs

-- the variable of number i holds the value of the member of its name
pub record IsMember (members : Members) (s : Store) (i : ℕ) (v : Var) : Type 0 where
  pub value : Data
  pub named : get_member v.name members ≡ Some value
  pub holds : IsCell v.length value (cell s i)

-- so does each parameter in the store of a sample
pub record SampleSays (k : Kernel) (d : Data) (s : Store) : Type 0 where
  pub members : Members
  pub object : as_object d ≡ Some members
  pub parameters : (i : ℕ) (v : Var) → slice_get k.vars i ≡ Some v → v.param ≡ true → IsMember members s i v

-- the value of the file lists the samples, in the order of the stores
pub record FileSays (k : Kernel) (bytes : Bytes) (ss : List Store) : Type 0 where
  pub value : Data
  pub is : reading bytes ≡ Some value
  pub samples : Items
  pub listed : option_and_then as_array (get (codes "samples") value) ≡ Some samples
  pub each : AllZip (SampleSays k) (list_of samples) ss

-- what is read of a file for a valid kernel, the file says
abbrev pub EachIsSaid : Type 0
EachIsSaid = (k : Kernel) (bytes : Bytes) (ss : List Store) → IsValid k → samples_of k bytes ≡ Ok ss → FileSays k bytes ss
