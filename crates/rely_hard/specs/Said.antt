-- What a hardware file says, in words of its own: each field is that of the member with its key.
use Rattle.std.specs.Prelude.{◌≡◌, ℕ, List, [], ◌∷◌, codes, Option, Some, Ok, option_and_then}
use Rattle.std.specs.List.{AllZip}
use Rattle.serde_json.specs.Data.{Data, Items, no_items, item}
use Rattle.serde_json.specs.Find.{get, as_number, as_u64, as_str, as_array}
use Rattle.rely_num.specs.AttoTexts.{atto_of}
use Rattle.rely_num.specs.Ops.{op_of}
use Rattle.rely_num.specs.Texts.{Bytes}
use Rattle.rely_num.specs.declared.op.Op.{Op}
use Rattle.rely_hard.specs.declared.hardware.Hardware.{Hardware}
use Rattle.rely_hard.specs.declared.hardware.KindSpec.{KindSpec}
use Rattle.rely_hard.specs.declared.hardware.MemSpec.{MemSpec}
use Rattle.rely_hard.specs.declared.hardware.OpSpec.{OpSpec}
use Rattle.rely_hard.specs.Meaning.{hardware_of, reading}

-- ---- values

-- a text
abbrev pub IsText : Option Data → Bytes → Type 0
IsText v text = option_and_then as_str v ≡ Some text

-- a text that writes a probability
abbrev pub IsProbability : Option Data → ℕ → Type 0
IsProbability v n = (text : Bytes) × IsText v text × (atto_of text ≡ Ok n)

-- a text that writes an operator
abbrev pub IsOperator : Option Data → Op → Type 0
IsOperator v op = (text : Bytes) × IsText v text × (op_of text ≡ Some op)

-- a whole number
abbrev pub IsEnergy : Option Data → ℕ → Type 0
IsEnergy v n = option_and_then (λ d. option_and_then as_u64 (as_number d)) v ≡ Some n

abbrev pub list_of : Items → List Data
list_of no_items = []
list_of (item d ds) = d ∷ list_of ds

-- a list, of which each member says one of these, in order
abbrev pub AreListed : {A : Type 0} → (Data → A → Type 0) → Option Data → List A → Type 0
AreListed Says v xs = (ds : Items) × (option_and_then as_array v ≡ Some ds) × AllZip Says (list_of ds) xs

-- ---- members

pub record KindSays (d : Data) (k : KindSpec) : Type 0 where
  pub name : IsText (get (codes "name") d) k.name
  pub right : IsProbability (get (codes "right") d) k.right
  pub energy : IsEnergy (get (codes "energy") d) k.energy

pub record OperatorSays (d : Data) (o : OpSpec) : Type 0 where
  pub op : IsOperator (get (codes "op") d) o.op
  pub kinds : AreListed KindSays (get (codes "kinds") d) o.kinds

pub record MemorySays (d : Data) (m : MemSpec) : Type 0 where
  pub name : IsText (get (codes "name") d) m.name
  pub read : IsProbability (get (codes "read") d) m.read
  pub write : IsProbability (get (codes "write") d) m.write
  pub read_energy : IsEnergy (get (codes "read_energy") d) m.read_energy
  pub write_energy : IsEnergy (get (codes "write_energy") d) m.write_energy
  pub hold : IsEnergy (get (codes "hold") d) m.hold

pub record HardwareSays (d : Data) (h : Hardware) : Type 0 where
  pub base : IsProbability (get (codes "base") d) h.base
  pub operators : AreListed OperatorSays (get (codes "operators") d) h.operators
  pub memories : AreListed MemorySays (get (codes "memories") d) h.memories

-- the value of the file says it
abbrev pub FileSays : Bytes → Hardware → Type 0
FileSays bytes h = (d : Data) × (reading bytes ≡ Some d) × HardwareSays d h

-- what is read of a file, the file says
abbrev pub EachIsSaid : Type 0
EachIsSaid = (bytes : Bytes) (h : Hardware) → hardware_of bytes ≡ Ok h → FileSays bytes h
