use Rattle.std.proofs.Common.{◌≡◌, drop}
use Rattle.chisel_outside.specs.Memory.{lookup}
use Rattle.chisel_outside.proofs.mem_shelf.find.Given as goal

abbrev pub invariant-loop-file : goal.invariant-loop-file
invariant-loop-file l = lookup l.name (drop l.file-index l.files) ≡ lookup l.name l.files
