-- What the lines promise of runs on unreliable hardware.
use Rattle.std.specs.Prelude.{◌≡◌, Ok}
use Rattle.std.specs.List.{AllByRecursion}
use Rattle.chisel_claims.specs.Promises.{IsNearly, Keeps}
use Rattle.chisel_source.specs.Meaning.{AreClosed, IsReady}
use Rattle.chisel_verify.specs.Answer.{Input}
use Rattle.chisel_verify.specs.Lines.{Said, lines_of}

-- a source that means functions on a hardware, of which no place is open
pub record IsInput (i : Input) : Type 0 where
  pub ready : IsReady i.ready
  pub closed : AreClosed i.ready.linked

-- Of the lines: in every forest of runs the bound of each claim that is accepted holds, each function under its own kinds and
-- memories, and the bound of each that is undecided is between two products near each other.
pub record LinesHold (i : Input) (lines : Said) : Type 0 where
  pub callees : AllByRecursion (Keeps i.ready.hardware i.ready.linked) lines.callees
  pub own : AllByRecursion (Keeps i.ready.hardware i.ready.linked) lines.own
  pub callees_near : AllByRecursion (IsNearly i.ready.hardware) lines.callees
  pub own_near : AllByRecursion (IsNearly i.ready.hardware) lines.own

-- so it is with the lines of the answer
abbrev pub Promise : Input → Type 0
Promise i = (lines : Said) → lines_of i.ready i.callees ≡ Ok lines → LinesHold i lines

abbrev pub KeepsPromise : Type 0
KeepsPromise = (i : Input) → IsInput i → Promise i
