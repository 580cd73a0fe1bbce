-- The line and the status of each fault: of the words and the files, of a device, and of memory.
use Rattle.std.specs.Prelude.{ℕ, ◌≡◌, ◌++◌, codes, decimal, Option, Some, None}
use Rattle.rely_num.specs.Texts.{Bytes}
use Rattle.chisel_lines.specs.declared.fault.Fault.{Fault}
use Rattle.chisel_lines.specs.declared.fault.Fault.TheVariants as fault
use Rattle.chisel_lines.specs.declared.refusal.Refusal.{Refusal}
use Rattle.chisel_lines.specs.declared.status.Status.{Status}
use Rattle.chisel_lines.specs.declared.status.Status.TheVariants as status
use Rattle.chisel_lines.specs.Refusals.{refusal_line, refusal_status}

-- why words and files have no answer; a refusal that the manual doesn't name has no line
pub data Stop : Type 0 where
  -- the words are in no form
  NoForm : Stop
  -- there is no file of that name
  Unread : Bytes → Stop
  -- the file of that name is longer than its limit
  TooLong : Bytes → ℕ → Stop
  -- the files are refused
  Refused : Option Refusal → Stop

abbrev pub words_line : Bytes
words_line = codes "fault words\n"

abbrev pub read_line : Bytes → Bytes
read_line word = codes "fault read " ++ word ++ codes "\n"

abbrev pub length_line : Bytes → ℕ → Bytes
length_line word limit = codes "fault limit length " ++ word ++ codes " " ++ decimal limit ++ codes "\n"

abbrev pub memory_line : Bytes
memory_line = codes "fault memory\n"

-- the text and the status
abbrev pub Both : Bytes → Status → Bytes → Status → Type 0
Both text s text' s' = (text ≡ text') × (s ≡ s')

-- those of each stop
abbrev pub IsStop : Stop → Bytes → Status → Type 0
IsStop NoForm text s = Both text s words_line status.Words
IsStop (Unread name) text s = Both text s (read_line name) status.ReadFault
IsStop (TooLong name limit) text s = Both text s (length_line name limit) status.Limit
IsStop (Refused None) text s = ⊥
IsStop (Refused (Some r)) text s = Both text s (refusal_line r) (refusal_status r)

-- the text of each fault
abbrev pub fault_line : Fault → Bytes
fault_line fault.Words = words_line
fault_line (fault.Read word) = read_line word.now
fault_line (fault.Length word limit) = length_line word.now limit
fault_line (fault.Refused r) = refusal_line r
fault_line fault.Memory = memory_line

-- its status
abbrev pub fault_status : Fault → Status
fault_status fault.Words = status.Words
fault_status (fault.Read word) = status.ReadFault
fault_status (fault.Length word limit) = status.Limit
fault_status (fault.Refused r) = refusal_status r
fault_status fault.Memory = status.Memory
