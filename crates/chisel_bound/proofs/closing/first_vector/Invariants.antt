use Rattle.std.proofs.Common.{◌≡◌, ℕ, ◌<◌, false}
use Rattle.std.specs.Prelude.{option_copied}
use Rattle.chisel_table.specs.Closings.{vector_closes, vector_at}
use Rattle.chisel_bound.proofs.closing.first_vector.Given as goal

abbrev pub invariant-loop-j : goal.invariant-loop-j
invariant-loop-j l = (k : ℕ) → k < l.j → vector_closes l.t (option_copied l.best) l.p l.rule (vector_at l.pool.vectors k) ≡ false
