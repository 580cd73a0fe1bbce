-- The order of work over files: which name is opened next, by what the ones before contain.
use Rattle.std.specs.Prelude.{◌≡◌, true, false, List, [], ◌∷◌, ◌++◌, Option, Some, None, Result, Ok, Err, ◌⊎◌}
use Rattle.std.specs.Borrow.{Bor}
use Rattle.rely_num.specs.Texts.{Bytes}
use Rattle.chisel_outside.specs.Outside.{Log, Told}
use Rattle.chisel_lines.specs.declared.fault.Fault.{Fault}
use Rattle.chisel_lines.specs.declared.fault.Fault.TheVariants as fault
use Rattle.chisel_lines.specs.Faults.{Stop, NoForm, TooLong, Refused}

-- a file's bytes, or none where there is no such file
abbrev pub Content : Type 0
Content = Option Bytes

-- work that is done, or that opens the file of that name and goes on by its content
pub data Work (A : Type 0) : Type 0 where
  Done : Result A Stop → Work A
  Open : Bytes → (Content → Work A) → Work A

-- ---- over contents

-- what the work comes to, over the contents of the files that it opens, in order
abbrev pub found : {A : Type 0} → Work A → List Content → Result A Stop
found (Done x) got = x
found (Open name next) [] = found (next None) []
found (Open name next) (c ∷ cs) = found (next c) cs

-- the names that it opens for that
abbrev pub opened : {A : Type 0} → Work A → List Content → List Bytes
opened (Done x) got = []
opened (Open name next) [] = name ∷ opened (next None) []
opened (Open name next) (c ∷ cs) = name ∷ opened (next c) cs

-- it opens a first part of these names
abbrev pub OpensOf : {A : Type 0} → List Bytes → Work A → Type 0
OpensOf names (Done x) = Unit {0}
OpensOf [] (Open name next) = ⊥
OpensOf (n ∷ names) (Open name next) = (name ≡ n) × ((c : Content) → OpensOf names (next c))

-- ---- one work after another

-- what follows a step that is done
abbrev pub follow : {A B : Type 0} → Result A Stop → (A → Work B) → Work B
follow (Ok a) next = next a
follow (Err stop) next = Done (Err stop)

infixl 10 ◌then◌
abbrev pub ◌then◌ : {A B : Type 0} → Work A → (A → Work B) → Work B
Done x then f = follow x f
Open name next then f = Open name (λ c. next c then f)

-- ---- over a shelf

-- a fault of a step that fetches nothing, where memory may be wanting
abbrev pub Comes : {A : Type 0} → Result A Stop → Result A Fault → Type 0
Comes x (Ok a) = x ≡ Ok a
Comes x (Err fault.Words) = x ≡ Err NoForm
Comes x (Err (fault.Read name)) = ⊥
Comes x (Err (fault.Length name limit)) = x ≡ Err (TooLong name.now limit)
Comes x (Err (fault.Refused r)) = x ≡ Err (Refused (Some r))
Comes x (Err fault.Memory) = Unit {0}

-- a failed fetch of that name
abbrev pub FailsAt : {A : Type 0} → Bytes → Result A Fault → Type 0
FailsAt {A = A} name r = (word : Bor Bytes) × (word.now ≡ name) × (r ≡ Err (fault.Read word))

-- The work was done over a shelf that holds this: its log gained these pairs, and it came to that.
-- A fetch wants memory, or it fails, or it goes on by the file's bytes.
abbrev pub Did : {A : Type 0} → (Bytes → Option Content) → Work A → Log → Result A Fault → Type 0
Did held (Done x) pairs r = (pairs ≡ []) × Comes x r
Did held (Open name next) pairs r =
    ((pairs ≡ []) × (r ≡ Err fault.Memory))
    ⊎ (((pairs ≡ (name, true) ∷ []) × FailsAt name r)
    ⊎ ((bytes : Bytes) × (rest : Log) × (pairs ≡ (name, false) ∷ rest) × Told (held name) (λ h. h ≡ Some bytes) × Did held (next (Some bytes)) rest r))

-- so from one log to another
pub record Works {A : Type 0} (held : Bytes → Option Content) (old new : Log) (work : Work A) (r : Result A Fault) : Type 0 where
  pub pairs : Log
  pub grew : new ≡ old ++ pairs
  pub did : Did held work pairs r
