-- The line of the program's name and version.
use Rattle.std.specs.Prelude.{codes}
use Rattle.rely_num.specs.Texts.{Bytes}

abbrev pub version_line : Bytes
version_line = codes "chisel 0.1.0\n"
