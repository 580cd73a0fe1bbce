use Rattle.std.proofs.Common.{arith, ◌+◌, ◌*◌, length, ap}
use Rattle.std.specs.Prelude.{slice_range}
use Rattle.chisel_table.specs.declared.table.TheConstants.{MAX_OPTIONS}
use Rattle.chisel_bound.proofs.Adding.{vector_more}
use Rattle.chisel_bound.proofs.Ascents.{part_at}
use Rattle.chisel_bound.proofs.differences.write_vector.Goals as goal

pub loop-d-preserved : goal.loop-d-preserved
loop-d-preserved c =
    let d = c.loop-d.d in
    let es = c.energies_of-energies.result.now in
    let n = ap length c.energies_of-energies.ensures in
    let from = MAX_OPTIONS * d in
    vector_more c.args.t.now c.args.grid.now es (slice_range c.args.grid.now from (from + length es)) c.args.j d c.args.added.now c.loop-d.added c.write_options.new.added
    c.requires.table c.requires.vector (omega arith) c.energies_of-energies.ensures
    (λ o m. part_at c.args.grid.now from (length es) o (omega (arith, n)))
    c.write_options.ensures c.loop-d.invariant
