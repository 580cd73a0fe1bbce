-- What a log gains, and contents that agree with what a shelf tells.
use Rattle.std.specs.Prelude.{◌≡◌, Bool, true, false, List, [], ◌∷◌, ◌++◌, map, Option}
use Rattle.std.specs.List.{AllZip, list_any}
use Rattle.rely_num.specs.Texts.{Bytes}
use Rattle.chisel_outside.specs.Outside.{Log, Told}
use Rattle.chisel_files.specs.Works.{Content}

-- one content for each of these names, which is the shelf's where it tells
abbrev pub Agree : (Bytes → Option Content) → List Bytes → List Content → Type 0
Agree held names got = AllZip (λ name c. Told (held name) (λ h. h ≡ c)) names got

-- a first part of a list
abbrev pub FirstOf : List Bytes → List Bytes → Type 0
FirstOf first names = (rest : List Bytes) × (first ++ rest ≡ names)

-- the names of pairs
abbrev pub names_of : Log → List Bytes
names_of pairs = map (λ pair. pair.0) pairs

abbrev pub is_marked : Log → Bool
is_marked pairs = list_any (λ pair. pair.1) pairs

-- the pairs name the first of these files in their order, and at most the last pair is marked
abbrev pub Gained : List Bytes → Log → Type 0
Gained names [] = Unit {0}
Gained [] (pair ∷ pairs) = ⊥
Gained (name ∷ names) ((fetched, true) ∷ pairs) = (fetched ≡ name) × (pairs ≡ [])
Gained (name ∷ names) ((fetched, false) ∷ pairs) = (fetched ≡ name) × Gained names pairs
