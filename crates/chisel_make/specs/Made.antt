-- The source, the hardware file and the sample inputs of a made problem.
use Rattle.std.specs.Prelude.{ℕ, zero, suc, ◌+◌, ◌/◌, ◌%◌, ◌≡◌, [], ◌++◌, codes, decimal}
use Rattle.rely_num.specs.Texts.{Bytes}
use Rattle.chisel_make.specs.declared.made.Made.{Made}
use Rattle.chisel_make.specs.Draws.{after, draw, next}

-- ---- the source

-- the statement of a form, with the number of an element, a bound or a number of turns less one
abbrev pub statement_of : ℕ → ℕ → Bytes
statement_of zero c = codes "  s = s +? a[" ++ decimal c ++ codes "];\n"
statement_of (suc zero) c = codes "  s = s *? b;\n"
statement_of (suc (suc zero)) c = codes "  if (s <? " ++ decimal c ++ codes ") { s = s + b; }\n"
statement_of _ c = codes "  repeat " ++ decimal (c + 1) ++ codes " { s = s +? b; }\n"

-- the statement of a draw: two bits for its form, and four for its number
abbrev pub statement : ℕ → Bytes
statement q = statement_of (q % 4) (q / 4 % 16)

-- so many statements, each of one draw
unfoldable pub statements : ℕ → ℕ → Bytes
statements zero g = []
statements (suc n) g = statement (draw g) ++ statements n (next g)

abbrev pub source : ℕ → ℕ → Bytes
source size number =
    codes "fn made(a[16] in ?, b)\nclaim result >= 0.5 * R(a, b)\n{\n  var s;\n" ++ statements size number ++ codes "  return s;\n}\n"

-- ---- the hardware file

abbrev pub hardware : Bytes
hardware =
    codes "{\"base\":\"0.99999\",\"operators\":[\n{\"op\":\"+\",\"kinds\":[{\"name\":\"exact\",\"right\":\"1\",\"energy\":100},\n{\"name\":\"mild\",\"right\":\"0.9999\",\"energy\":60},\n{\"name\":\"wild\",\"right\":\"0.999\",\"energy\":20}]},\n"
    ++ codes "{\"op\":\"*\",\"kinds\":[{\"name\":\"exact\",\"right\":\"1\",\"energy\":300},\n{\"name\":\"mild\",\"right\":\"0.9999\",\"energy\":150},\n{\"name\":\"wild\",\"right\":\"0.999\",\"energy\":60}]},\n"
    ++ codes "{\"op\":\"<\",\"kinds\":[{\"name\":\"exact\",\"right\":\"1\",\"energy\":50},\n{\"name\":\"mild\",\"right\":\"0.9999\",\"energy\":30}]}],\n"
    ++ codes "\"memories\":[{\"name\":\"exact\",\"read\":\"1\",\"write\":\"1\",\n\"read_energy\":4,\"write_energy\":6,\"hold\":3},\n{\"name\":\"ram\",\"read\":\"0.99999\",\"write\":\"0.99999\",\n\"read_energy\":2,\"write_energy\":3,\"hold\":1}]}\n"

-- ---- the sample inputs

-- the number of a draw
abbrev pub byte : ℕ → Bytes
byte q = decimal (q % 256)

-- so many more numbers of a list
unfoldable pub bytes : ℕ → ℕ → Bytes
bytes zero g = []
bytes (suc n) g = codes "," ++ byte (draw g) ++ bytes n (next g)

-- one sample: sixteen numbers of the array, and one of the scalar
abbrev pub inputs : ℕ → Bytes
inputs g =
    codes "{\"samples\":[{\"a\":[" ++ byte (draw g) ++ bytes 15 (next g) ++ codes "],\"b\":" ++ byte (draw (after 16 g)) ++ codes "}]}\n"

-- ---- the whole

-- the source takes a draw for each statement, and the inputs the draws behind these
pub record IsMade (size number : ℕ) (m : Made) : Type 0 where
  pub source : m.source ≡ source size number
  pub hardware : m.hardware ≡ hardware
  pub inputs : m.inputs ≡ inputs (after size number)
