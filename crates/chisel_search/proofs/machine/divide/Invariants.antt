use Rattle.std.proofs.Common.{◌≡◌, ◌++◌}
use Rattle.chisel_table.specs.Partials.{with_option}
use Rattle.chisel_table.specs.Sums.{list_to}
use Rattle.chisel_search.specs.Machine.{bounds_to, pool_of, table_of}
use Rattle.chisel_search.specs.Search.{parts_of}
use Rattle.chisel_search.proofs.machine.divide.Given as goal

abbrev pub invariant-loop-option : goal.invariant-loop-option
invariant-loop-option l = record {
  parts : l.parts.items ≡ parts_of (table_of l.differences) (pool_of l.differences) (list_to l.option (with_option l.taken.partial l.decision));
  bounds : l.bounds.items ≡ l.fn.bounds.items ++ bounds_to l.differences l.taken.partial l.decision l.option;
}
