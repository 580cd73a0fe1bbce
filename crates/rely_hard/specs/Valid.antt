-- Which hardware is valid.
use Rattle.std.specs.Prelude.{◌≤◌, ◌&&◌, ◌==◌, List, [], ◌∷◌, map, length, codes, IsTrue}
use Rattle.std.specs.List.{AllByRecursion, list_any}
use Rattle.rely_num.specs.Bounds.{S}
use Rattle.rely_num.specs.Ops.{op_number}
use Rattle.rely_num.specs.Texts.{Bytes, same_text, is_name, AreDistinct}
use Rattle.rely_hard.specs.declared.hardware.Hardware.{Hardware}
use Rattle.rely_hard.specs.declared.hardware.KindSpec.{KindSpec}
use Rattle.rely_hard.specs.declared.hardware.MemSpec.{MemSpec}
use Rattle.rely_hard.specs.declared.hardware.OpSpec.{OpSpec}

-- the name of what is always right
abbrev pub exact : Bytes
exact = codes "exact"

-- a name of at most 32 bytes
pub record IsLabel (name : Bytes) : Type 0 where
  pub form : IsTrue (is_name name)
  pub short : length name ≤ 32

-- a name, a probability, an energy
pub record KindFits (k : KindSpec) : Type 0 where
  pub name : IsLabel k.name
  pub right : k.right ≤ S
  pub energy : k.energy ≤ 1000000

-- few kinds with names of their own, one of them exact and always right
pub record OperatorFits (o : OpSpec) : Type 0 where
  pub few : length o.kinds ≤ 32
  pub kinds : AllByRecursion KindFits o.kinds
  pub names : AreDistinct (map (λ k. k.name) o.kinds)
  pub exact : IsTrue (list_any (λ k. same_text k.name exact && k.right == S) o.kinds)

-- a name, two probabilities, three energies
pub record MemoryFits (m : MemSpec) : Type 0 where
  pub name : IsLabel m.name
  pub read : m.read ≤ S
  pub write : m.write ≤ S
  pub read_energy : m.read_energy ≤ 1000000
  pub write_energy : m.write_energy ≤ 1000000
  pub hold : m.hold ≤ 1000000

-- no operator is listed twice
abbrev pub AreOnce : List OpSpec → Type 0
AreOnce os = AreDistinct (map (λ o. op_number o.op ∷ []) os)

-- a base in its range, operators, and few memories with names of their own, one of them exact and always right
pub record IsHardware (h : Hardware) : Type 0 where
  pub least : 500000000000000000 ≤ h.base
  pub most : h.base ≤ 999999999000000000
  pub operators : AllByRecursion OperatorFits h.operators
  pub once : AreOnce h.operators
  pub few : length h.memories ≤ 32
  pub memories : AllByRecursion MemoryFits h.memories
  pub names : AreDistinct (map (λ m. m.name) h.memories)
  pub exact : IsTrue (list_any (λ m. same_text m.name exact && (m.read == S && m.write == S)) h.memories)
