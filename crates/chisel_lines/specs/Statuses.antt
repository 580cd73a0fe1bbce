-- The statuses with which a command ends.
use Rattle.std.specs.Prelude.{ℕ}
use Rattle.chisel_lines.specs.declared.status.Grade.{Grade}
use Rattle.chisel_lines.specs.declared.status.Grade.TheVariants as grade
use Rattle.chisel_lines.specs.declared.status.Status.{Status}
use Rattle.chisel_lines.specs.declared.status.Status.TheVariants.{Done, Refused, Undecided, Words, Text, Limit, ReadFault, WriteFault, Memory}

abbrev pub code_of : Status → ℕ
code_of Done = 0
code_of Refused = 1
code_of Undecided = 2
code_of Words = 3
code_of Text = 4
code_of Limit = 5
code_of ReadFault = 6
code_of WriteFault = 7
code_of Memory = 8

-- that of an answer
abbrev pub status_of : Grade → Status
status_of grade.Good = Done
status_of grade.Failing = Refused
status_of grade.Undecided = Undecided

-- the statuses that a device or memory gives
abbrev pub IsFree : Status → Type 0
IsFree ReadFault = Unit {0}
IsFree WriteFault = Unit {0}
IsFree Memory = Unit {0}
IsFree _ = ⊥
