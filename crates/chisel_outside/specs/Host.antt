-- What the loops over a reader and a writer do, where their bytes and their answers are told.
use Rattle.std.specs.Prelude.{ℕ, ◌≡◌, ◌≢◌, ◌+◌, ◌<◌, ◌≤◌, ◌⊎◌, ◌++◌, List, length, Option, Ok, Err, IfSome}
use Rattle.std.specs.Io.KnownBytes.{Consumes, Appends, IsAtEnd}
use Rattle.std.specs.declared.io.ErrorKind.{ErrorKind}
use Rattle.std.specs.declared.io.ErrorKind.TheVariants.{OutOfMemory}
use Rattle.chisel_outside.specs.Outside.{Bytes}
use Rattle.chisel_outside.specs.Device.{Answer, GoOn, EndIn, MovesNone}
use Rattle.chisel_outside.specs.declared.shelf.Fetched.{Fetched}
use Rattle.chisel_outside.specs.declared.shelf.Fetched.TheVariants as fetched
use Rattle.chisel_outside.specs.declared.sink.Put.{Put}
use Rattle.chisel_outside.specs.declared.sink.Put.TheVariants as put

-- ---- a reader

-- bytes that were read, at most so many
pub record ReadsPart (most : ℕ) (old new : Option Bytes) : Type 0 where
  pub bytes : Bytes
  pub few : length bytes ≤ most
  pub consumed : Consumes old new bytes

-- what is whole is all that was left, within the limit; what is longer was read to one byte beyond it
abbrev pub Reads : ℕ → Option Bytes → Option Bytes → Fetched → Type 0
Reads limit old new (fetched.Whole bytes) = (length bytes ≤ limit) × Consumes old new bytes × IsAtEnd new
Reads limit old new fetched.Longer = (bytes : Bytes) × (length bytes ≡ limit + 1) × Consumes old new bytes
Reads limit old new fetched.Failed = ReadsPart limit old new
Reads limit old new fetched.Memory = ReadsPart (limit + 1) old new

-- what the reader answered: the end is told by a read of no byte, a failure by an error, and want of memory by an error too, unless it's that of the shelf itself
abbrev pub ReadsBy : Fetched → List Answer → Type 0
ReadsBy (fetched.Whole bytes) answers = EndIn (Ok 0) answers
ReadsBy fetched.Longer answers = GoOn answers
ReadsBy fetched.Failed answers = (kind : ErrorKind) × (kind ≢ OutOfMemory) × EndIn (Err kind) answers
ReadsBy fetched.Memory answers = GoOn answers ⊎ EndIn (Err OutOfMemory) answers

-- what is fetched from a reader is what it tells that it has
abbrev pub Holds : ℕ → Option Bytes → Fetched → Type 0
Holds limit left (fetched.Whole bytes) = (length bytes ≤ limit) × IfSome left (λ xs. xs ≡ bytes)
Holds limit left fetched.Longer = IfSome left (λ xs. limit < length xs)
Holds limit left _ = Unit {0}

-- what is whole is within the limit
abbrev pub IsWithin : ℕ → Fetched → Type 0
IsWithin limit (fetched.Whole bytes) = length bytes ≤ limit
IsWithin limit _ = Unit {0}

-- nothing was fetched, and for want of memory only where the error says so
abbrev pub IsFault : ErrorKind → Fetched → Type 0
IsFault kind (fetched.Whole bytes) = ⊥
IsFault kind fetched.Longer = ⊥
IsFault kind fetched.Failed = kind ≢ OutOfMemory
IsFault kind fetched.Memory = kind ≡ OutOfMemory

-- ---- a writer

-- the whole piece was appended, or a front that lacks a byte of it at least
abbrev pub Writes : Option Bytes → Option Bytes → Bytes → Put → Type 0
Writes old new piece put.All = Appends old new piece
Writes old new piece put.Failed = (front : Bytes) × (rest : Bytes) × (piece ≡ front ++ rest) × (0 < length rest) × Appends old new front

-- what the writer answered: only a write that took nothing, or an error, ends the calls before the whole piece is taken
abbrev pub WritesBy : Put → List Answer → Type 0
WritesBy put.All answers = GoOn answers
WritesBy put.Failed answers = (last : Answer) × MovesNone last × EndIn last answers
