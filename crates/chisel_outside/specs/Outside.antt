-- What a fetch and a put do.
use Rattle.std.specs.Prelude.{ℕ, ◌≡◌, ◌+◌, ◌-◌, ◌<◌, ◌≤◌, ◌^◌, Bool, true, false, List, [], ◌∷◌, ◌++◌, length, take, min, Option, Some, None, option_map}
use Rattle.chisel_outside.specs.declared.shelf.Fetched.{Fetched}
use Rattle.chisel_outside.specs.declared.shelf.Fetched.TheVariants as fetched
use Rattle.chisel_outside.specs.declared.sink.Put.{Put}
use Rattle.chisel_outside.specs.declared.sink.Put.TheVariants as put
pub use Rattle.rely_num.specs.Texts.{Bytes}

-- the names that were asked for, each with a mark where the fetch failed
abbrev pub Log : Type 0
Log = List (Bytes × Bool)

-- how many pairs are marked
abbrev pub faults_of : Log → ℕ
faults_of [] = 0
faults_of ((name, true) ∷ log) = faults_of log + 1
faults_of ((name, false) ∷ log) = faults_of log

-- where the shelf tells what it holds, P holds of it
abbrev pub Told : Option (Option Bytes) → (Option Bytes → Type 0) → Type 0
Told None P = Unit {0}
Told (Some held) P = P held

-- what a fetch of the name gives and logs, by its answer
abbrev pub Fetches : Option (Option Bytes) → Bytes → ℕ → Log → Log → Fetched → Type 0
Fetches held name limit old new (fetched.Whole bytes) =
    (length bytes ≤ limit) × Told held (λ h. h ≡ Some bytes) × (new ≡ old ++ (name, false) ∷ [])
Fetches held name limit old new fetched.Longer =
    Told held (λ h. (bytes : Bytes) × (h ≡ Some bytes) × (limit < length bytes)) × (new ≡ old ++ (name, false) ∷ [])
Fetches held name limit old new fetched.Failed = new ≡ old ++ (name, true) ∷ []
Fetches held name limit old new fetched.Memory = new ≡ old

-- one for a fetch that failed, else none
abbrev pub failures : Fetched → ℕ
failures fetched.Failed = 1
failures _ = 0

-- the count rose, where one that stands at its top is taken as one that rose
abbrev pub Rose : ℕ → ℕ → Type 0
Rose old new = min (old + 1) (2 ^ 64 - 1) ≤ new

-- what a put of the piece appends and counts, by its answer
abbrev pub Puts : Option Bytes → Option Bytes → Bytes → ℕ → ℕ → Put → Type 0
Puts old new piece before after put.All = (new ≡ option_map (λ w. w ++ piece) old) × (after ≡ before)
Puts old new piece before after put.Failed =
    ((n : ℕ) × (new ≡ option_map (λ w. w ++ take n piece) old)) × (before ≤ after) × Rose before after
