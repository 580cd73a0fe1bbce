use Rattle.std.proofs.Common.{◌≡◌, ℕ, ◌<◌}
use Rattle.chisel_table.specs.Partials.{slot}
use Rattle.chisel_bound.specs.Kept.{AreRowSums}
use Rattle.chisel_bound.proofs.rows.RowSums.move_to.Given as goal

abbrev pub invariant-loop-d : goal.invariant-loop-d
invariant-loop-d l = record {
  sums : AreRowSums l.differences.table.now l.self;
  same : (k : ℕ) → k < l.d → slot l.self.partial k ≡ slot l.p k;
}
