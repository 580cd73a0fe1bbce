use Rattle.std.proofs.Common.{◌≡◌, take}
use Rattle.chisel_search.specs.Search.{replaced}
use Rattle.chisel_search.proofs.open.replace_parts.Given as goal

abbrev pub invariant-loop-o : goal.invariant-loop-o
invariant-loop-o l = l.parts.items ≡ replaced l.fn.parts.items l.place (take l.o l.children)
