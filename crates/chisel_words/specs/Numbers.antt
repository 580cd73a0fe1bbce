-- Numbers that are words of a command line.
use Rattle.std.specs.Prelude.{ℕ, ◌&&◌, nat_le, Option, Some, None, decimal, if◌then◌else◌}
use Rattle.std.specs.Str.Parse.{digits_value}
use Rattle.rely_num.specs.Texts.{Bytes, same_text}

-- the number that the digits write, at most the last one; no other digits write it, so no zero stands before it
abbrev pub number_up_to : ℕ → Bytes → Option ℕ
number_up_to last text =
    if nat_le (digits_value 10 text) last && same_text text (decimal (digits_value 10 text)) then Some (digits_value 10 text) else None

abbrev pub at_least : ℕ → Option ℕ → Option ℕ
at_least first None = None
at_least first (Some n) = if nat_le first n then Some n else None

-- the same, and at least the first one
abbrev pub number_between : ℕ → ℕ → Bytes → Option ℕ
number_between first last text = at_least first (number_up_to last text)
