-- The file of a name, within its limit.
use Rattle.std.specs.Prelude.{ℕ, nat_lt, length, Some, None, Result, Ok, Err, if◌then◌else◌}
use Rattle.std.specs.Borrow.{Bor}
use Rattle.rely_num.specs.Texts.{Bytes}
use Rattle.chisel_outside.specs.declared.shelf.Fetched.{Fetched}
use Rattle.chisel_outside.specs.declared.shelf.Fetched.TheVariants as fetched
use Rattle.chisel_lines.specs.declared.fault.Fault.{Fault}
use Rattle.chisel_lines.specs.declared.fault.Fault.TheVariants as fault
use Rattle.chisel_lines.specs.Faults.{Stop, TooLong, Unread}
use Rattle.chisel_files.specs.Works.{Content, Done, Open, Work}

-- the last length of a source and of a hardware file, in bytes
abbrev pub longest : ℕ
longest = 65536

-- and that of sample inputs
abbrev pub longest_inputs : ℕ
longest_inputs = 1048576

-- the bytes of the file of that name
abbrev pub within : Bytes → ℕ → Content → Result Bytes Stop
within name limit None = Err (Unread name)
within name limit (Some bytes) = if nat_lt limit (length bytes) then Err (TooLong name limit) else Ok bytes

abbrev pub file : Bytes → ℕ → Work Bytes
file name limit = Open name (λ c. Done (within name limit c))

-- the bytes of a fetch of that name, or the fault that ends the command
abbrev pub bytes_of : Bor Bytes → ℕ → Fetched → Result Bytes Fault
bytes_of name limit (fetched.Whole bytes) = Ok bytes
bytes_of name limit fetched.Longer = Err (fault.Length name limit)
bytes_of name limit fetched.Failed = Err (fault.Read name)
bytes_of name limit fetched.Memory = Err fault.Memory
