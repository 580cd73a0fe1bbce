use Rattle.std.proofs.Common.{◌≡◌}
use Rattle.chisel_search.specs.Logs.{numbers_from}
use Rattle.chisel_search.specs.Search.{replaced}
use Rattle.chisel_search.proofs.open.replace_numbers.Given as goal

abbrev pub invariant-loop-o : goal.invariant-loop-o
invariant-loop-o l = l.numbers.items ≡ replaced l.fn.numbers.items l.place (numbers_from l.first l.o)
