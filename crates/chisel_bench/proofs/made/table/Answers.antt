use Rattle.std.proofs.Common.{arith, refl, ◌≡◌}
use Rattle.chisel_bench.proofs.Blocks.{table_valid}
use Rattle.chisel_bench.proofs.made.table.Goals as goal

pub returns : goal.returns
returns c =
    let n : c.loop-i.i ≡ c.args.shape.now.rows = omega arith in
    table_valid c.args.shape.now _ c.requires refl c.in_ok-energies.ensures (rw c.from_vec.ensures (rw n at c.loop-i.invariant))
