use Rattle.std.proofs.Common.{ℕ, ◌<◌}
use Rattle.std.specs.Prelude.{slice_index}
use Rattle.chisel_table.specs.Tables.{option_count}
use Rattle.chisel_table.proofs.choice.is_choice.Given as goal

abbrev pub invariant-loop-d : goal.invariant-loop-d
invariant-loop-d l = (k : ℕ) → k < l.d → slice_index l.options k < option_count l.t k
