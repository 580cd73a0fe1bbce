use Rattle.std.proofs.Common.{◌-◌, ◌≤◌, length}
use Rattle.chisel_search.specs.Machine.{IsSearching, table_of}
use Rattle.chisel_search.specs.Rules.{Answered, Picked}
use Rattle.chisel_search.proofs.run.searched.Given as goal

abbrev pub invariant-loop-machine : goal.invariant-loop-machine
invariant-loop-machine g l = record {
  searching : IsSearching l.differences (Answered (goal.F-post g) l.rule (table_of l.differences)) (Picked (goal.G-post g) l.pick) l.machine l.open.parts.items l.open.numbers.items;
  few : length l.machine.log.items ≤ l.nodes;
}

abbrev pub decreases-loop-machine : goal.decreases-loop-machine
decreases-loop-machine g l = l.nodes - length l.machine.log.items
