use Rattle.std.proofs.Common.{◌-◌, ◌≤◌, length}
use Rattle.chisel_search.specs.BestFirst.{IsBestFirst}
use Rattle.chisel_search.specs.Machine.{table_of}
use Rattle.chisel_search.specs.Rules.{Answered}
use Rattle.chisel_search.proofs.best_first.searched.Given as goal

abbrev pub invariant-loop-number : goal.invariant-loop-number
invariant-loop-number g l = record {
  searching : IsBestFirst l.differences (Answered (goal.F-post g) l.rule (table_of l.differences)) l.machine l.frontier;
  few : length l.machine.log.items ≤ l.nodes;
}

abbrev pub decreases-loop-number : goal.decreases-loop-number
decreases-loop-number g l = l.nodes - length l.machine.log.items
