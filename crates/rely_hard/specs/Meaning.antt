-- What the bytes of a hardware file say, by the value that serde_json reads; the first refusal stands.
use Rattle.std.specs.Prelude.{ℕ, ◌+◌, Bool, not, ◌&&◌, ◌||◌, ◌==◌, nat_lt, List, [], ◌∷◌, ◌++◌, map, length, codes, Option, Some, None, option_and_then, is_none, ⊤, Result, Ok, Err, if◌then◌else◌}
use Rattle.std.specs.List.{list_any}
use Rattle.std.specs.Result.{result_ok}
use Rattle.std.specs.Str.{is_utf8}
use Rattle.serde_json.specs.Data.{Data, Items, no_items, item}
use Rattle.serde_json.specs.Read.{read}
use Rattle.serde_json.specs.Find.{get, as_number, as_u64, as_str, as_object, as_array}
use Rattle.rely_num.specs.AttoTexts.{atto_of}
use Rattle.rely_num.specs.Bounds.{S}
use Rattle.rely_num.specs.Ops.{is_op, op_of}
use Rattle.rely_num.specs.Texts.{Bytes, same_text, is_among, is_name}
use Rattle.rely_num.specs.declared.op.Op.{Op as Operator}
use Rattle.rely_hard.specs.Valid.{exact}
use Rattle.rely_hard.specs.declared.fault.HardFault.{HardFault}
use Rattle.rely_hard.specs.declared.fault.HardFault.TheVariants.{At}
use Rattle.rely_hard.specs.declared.fault.HardWhy.{HardWhy}
use Rattle.rely_hard.specs.declared.fault.HardWhy.TheVariants.{Json, Missing, Kind, Range, Repeated, NoExact, Many}
use Rattle.rely_hard.specs.declared.fault.Key.{Key}
use Rattle.rely_hard.specs.declared.fault.Key.TheVariants.{Root, Base, Operators, Op, Kinds, Memories, Name, Right, Energy, Read, Write, ReadEnergy, WriteEnergy, Hold}
use Rattle.rely_hard.specs.declared.hardware.Hardware.{Hardware}
use Rattle.rely_hard.specs.declared.hardware.KindSpec.{KindSpec}
use Rattle.rely_hard.specs.declared.hardware.MemSpec.{MemSpec}
use Rattle.rely_hard.specs.declared.hardware.OpSpec.{OpSpec}
use Rattle.rely_hard.specs.declared.place.Place.{Place}

-- the value of the bytes; what isn't UTF-8 has none
abbrev pub reading : Bytes → Option Data
reading bytes = if is_utf8 bytes then read bytes else None

-- ---- steps that may refuse

-- what was read goes on to the next step
infixl 10 ◌>>=◌
abbrev pub ◌>>=◌ : {A B : Type 0} → Result A HardFault → (A → Result B HardFault) → Result B HardFault
Ok a >>= f = f a
Err e >>= f = Err e

-- a key, the number of the operator or the memory, the number of the kind
abbrev pub place : Key → ℕ → ℕ → Place
place k outer inner = record { key = k; outer = outer; inner = inner }

-- the refusal at a place
abbrev pub fault : HardWhy → Place → HardFault
fault why p = At why p.key p.outer p.inner

-- what must be there
abbrev pub must : {A : Type 0} → HardWhy → Place → Option A → Result A HardFault
must why p None = Err (fault why p)
must why p (Some a) = Ok a

-- what was read, unless it is bad
abbrev pub unless : {A : Type 0} → Bool → HardWhy → Place → A → Result A HardFault
unless bad why p a = if bad then Err (fault why p) else Ok a

-- ---- fields

-- an object, whose members the next steps read
unfoldable pub object_at : Place → Data → Result ⊤ HardFault
object_at p d = unless (is_none (as_object d)) Kind p tt

-- a text
unfoldable pub text_at : Place → Option Data → Result Bytes HardFault
text_at p v = do
  d ← must Missing p v
  must Kind p (as_str d)

-- a probability
unfoldable pub atto_at : Place → Option Data → Result ℕ HardFault
atto_at p v = do
  text ← text_at p v
  must Range p (result_ok (atto_of text))

-- the base, from a half to a billionth below one
unfoldable pub base_at : Place → Option Data → Result ℕ HardFault
base_at p v = do
  base ← atto_at p v
  unless (nat_lt base 500000000000000000 || nat_lt 999999999000000000 base) Range p base

-- a whole number of at most a million
unfoldable pub energy_at : Place → Option Data → Result ℕ HardFault
energy_at p v = do
  d ← must Missing p v
  n ← must Kind p (option_and_then as_u64 (as_number d))
  unless (nat_lt 1000000 n) Range p n

-- a name of at most 32 bytes
unfoldable pub named_at : Place → Option Data → Result Bytes HardFault
named_at p v = do
  text ← text_at p v
  unless (not (is_name text) || nat_lt 32 (length text)) Range p text

-- a name that none before has
unfoldable pub name_at : List Bytes → Place → Option Data → Result Bytes HardFault
name_at before p v = do
  name ← named_at p v
  unless (is_among name before) Repeated p name

-- an operator that none before has
unfoldable pub op_at : List OpSpec → Place → Option Data → Result Operator HardFault
op_at before p v = do
  text ← text_at p v
  op ← must Range p (op_of text)
  unless (list_any (λ o. is_op op o.op) before) Repeated p op

-- ---- lists

-- how many members a list has
abbrev pub count_of : Items → ℕ
count_of no_items = 0
count_of (item d ds) = 1 + count_of ds

-- a list
unfoldable pub list_at : Place → Option Data → Result Items HardFault
list_at p v = do
  d ← must Missing p v
  must Kind p (as_array d)

-- a list of at most 32 members
unfoldable pub few_at : Place → Option Data → Result Items HardFault
few_at p v = do
  ds ← list_at p v
  unless (nat_lt 32 (count_of ds)) Many p ds

-- the members one after another, each read after those before it
abbrev pub each_after : {A : Type 0} → (List A → Data → Result A HardFault) → List A → Items → Result (List A) HardFault
each_after one before no_items = Ok before
each_after one before (item d ds) = one before d >>= λ a. each_after one (before ++ a ∷ []) ds

-- ---- the hardware

-- a kind of the operator of that number, numbered by those before it
unfoldable pub kind_at : ℕ → List KindSpec → Data → Result KindSpec HardFault
kind_at outer before d = do
  let inner = length before + 1
  _ ← object_at (place Kinds outer inner) d
  name ← name_at (map (λ k. k.name) before) (place Name outer inner) (get (codes "name") d)
  right ← atto_at (place Right outer inner) (get (codes "right") d)
  energy ← energy_at (place Energy outer inner) (get (codes "energy") d)
  Ok (record { name = name; right = right; energy = energy })

-- some kind is exact and always right
unfoldable pub has_exact_kind : List KindSpec → Bool
has_exact_kind ks = list_any (λ k. same_text k.name exact && k.right == S) ks

-- the kinds of the operator of that number, one of them exact and always right
unfoldable pub kinds_at : ℕ → Option Data → Result (List KindSpec) HardFault
kinds_at outer v = do
  ds ← few_at (place Kinds outer 0) v
  ks ← each_after (kind_at outer) [] ds
  unless (not (has_exact_kind ks)) NoExact (place Kinds outer 0) ks

-- an operator, numbered by those before it
unfoldable pub operator_at : List OpSpec → Data → Result OpSpec HardFault
operator_at before d = do
  let outer = length before + 1
  _ ← object_at (place Operators outer 0) d
  op ← op_at before (place Op outer 0) (get (codes "op") d)
  kinds ← kinds_at outer (get (codes "kinds") d)
  Ok (record { op = op; kinds = kinds })

-- the operators
unfoldable pub operators_at : Option Data → Result (List OpSpec) HardFault
operators_at v = do
  ds ← list_at (place Operators 0 0) v
  each_after operator_at [] ds

-- a memory, numbered by those before it
unfoldable pub memory_at : List MemSpec → Data → Result MemSpec HardFault
memory_at before d = do
  let outer = length before + 1
  _ ← object_at (place Memories outer 0) d
  name ← name_at (map (λ m. m.name) before) (place Name outer 0) (get (codes "name") d)
  read ← atto_at (place Read outer 0) (get (codes "read") d)
  write ← atto_at (place Write outer 0) (get (codes "write") d)
  read_energy ← energy_at (place ReadEnergy outer 0) (get (codes "read_energy") d)
  write_energy ← energy_at (place WriteEnergy outer 0) (get (codes "write_energy") d)
  hold ← energy_at (place Hold outer 0) (get (codes "hold") d)
  Ok (record { name = name; read = read; write = write; read_energy = read_energy; write_energy = write_energy; hold = hold })

-- some memory is exact and always right
unfoldable pub has_exact_memory : List MemSpec → Bool
has_exact_memory ms = list_any (λ m. same_text m.name exact && (m.read == S && m.write == S)) ms

-- the memories, one of them exact and always right
unfoldable pub memories_at : Option Data → Result (List MemSpec) HardFault
memories_at v = do
  ds ← few_at (place Memories 0 0) v
  ms ← each_after memory_at [] ds
  unless (not (has_exact_memory ms)) NoExact (place Memories 0 0) ms

-- the hardware of a value
unfoldable pub hardware_from : Data → Result Hardware HardFault
hardware_from d = do
  _ ← object_at (place Root 0 0) d
  base ← base_at (place Base 0 0) (get (codes "base") d)
  operators ← operators_at (get (codes "operators") d)
  memories ← memories_at (get (codes "memories") d)
  Ok (record { base = base; operators = operators; memories = memories })

-- the hardware of the bytes of a file
abbrev pub hardware_of : Bytes → Result Hardware HardFault
hardware_of bytes = must Json (place Root 0 0) (reading bytes) >>= hardware_from
