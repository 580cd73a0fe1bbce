-- A shelf and a sink in memory.
use Rattle.std.specs.Prelude.{ℕ, ◌+◌, ◌-◌, ◌^◌, ◌==◌, ◌||◌, Bool, true, false, nat_lt, min, List, [], ◌∷◌, ◌++◌, length, take, Option, Some, None, if◌then◌else◌}
use Rattle.std.specs.List.{list_any}
use Rattle.rely_num.specs.Texts.{same_text}
use Rattle.chisel_outside.specs.declared.shelf.Fetched.{Fetched}
use Rattle.chisel_outside.specs.declared.shelf.Fetched.TheVariants as fetched
use Rattle.chisel_outside.specs.declared.sink.Put.{Put}
use Rattle.chisel_outside.specs.declared.sink.Put.TheVariants as put
use Rattle.chisel_outside.specs.Outside.{Bytes, Log}

-- a shelf: its files by name, the numbers of the fetches that fail, and the log
pub record Shelved : Type 0 where
  pub files : List (Bytes × Bytes)
  pub failing : List ℕ
  pub log : Log

-- the first file of the name
abbrev pub lookup : Bytes → List (Bytes × Bytes) → Option Bytes
lookup name [] = None
lookup name (file ∷ files) = if same_text file.0 name then Some file.1 else lookup name files

-- the next fetch is one of those that fail
abbrev pub fails_next : Shelved → Bool
fails_next s = list_any (λ n. n == length s.log + 1) s.failing

-- what is found under the name, none where this fetch fails
abbrev pub found : Shelved → Bytes → Option Bytes
found s name = if fails_next s then None else lookup name s.files

-- the answer on what is found, memory aside
abbrev pub given : Option Bytes → ℕ → Fetched
given None limit = fetched.Failed
given (Some bytes) limit = if nat_lt limit (length bytes) then fetched.Longer else fetched.Whole bytes

-- the answer of the next fetch, memory aside
abbrev pub gives : Shelved → Bytes → ℕ → Fetched
gives s name limit = given (found s name) limit

-- the mark of the pair that is logged, none where nothing is
abbrev pub mark_for : Fetched → Option Bool
mark_for fetched.Memory = None
mark_for fetched.Failed = Some true
mark_for _ = Some false

-- a sink: what stands in it, its counts, the puts that fail with the bytes that each still takes, and the room left
pub record Sunk : Type 0 where
  pub written : Bytes
  pub faults : ℕ
  pub late : Bool
  pub puts : ℕ
  pub failing : List (ℕ × ℕ)
  pub room : ℕ

-- a count that stays at its top
abbrev pub up : ℕ → ℕ
up n = min (n + 1) (2 ^ 64 - 1)

-- how many bytes put n is to take before it fails, by the first pair of its number
abbrev pub cut_at : ℕ → List (ℕ × ℕ) → Option ℕ
cut_at n [] = None
cut_at n (pair ∷ pairs) = if pair.0 == n then Some pair.1 else cut_at n pairs

-- the cut of the next put
abbrev pub next_cut : Sunk → Option ℕ
next_cut s = cut_at (up s.puts) s.failing

-- how many bytes a put of so many takes into the room
abbrev pub taken_of : Option ℕ → ℕ → ℕ → ℕ
taken_of None room n = min n room
taken_of (Some cut) room n = min (min n room) cut

-- a put that is listed fails, and one that goes beyond the room
abbrev pub fails_of : Option ℕ → ℕ → ℕ → Bool
fails_of None room n = nat_lt room n
fails_of (Some cut) room n = true

-- how many bytes the next put takes
abbrev pub taken : Sunk → Bytes → ℕ
taken s piece = taken_of (next_cut s) s.room (length piece)

-- the next put fails
abbrev pub fails : Sunk → Bytes → Bool
fails s piece = fails_of (next_cut s) s.room (length piece)

-- the answer of the next put
abbrev pub answer_to : Sunk → Bytes → Put
answer_to s piece = if fails s piece then put.Failed else put.All

-- the sink after its next put
abbrev pub after_put : Sunk → Bytes → Sunk
after_put s piece = record {
  written = s.written ++ take (taken s piece) piece;
  faults = if fails s piece then up s.faults else s.faults;
  late = s.late || nat_lt 0 s.faults;
  puts = up s.puts;
  failing = s.failing;
  room = s.room - taken s piece;
}
