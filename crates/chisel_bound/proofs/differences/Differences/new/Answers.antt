use Rattle.std.proofs.Common.{arith, ap, ◌∙◌, length, drop}
use Rattle.std.proofs.lemmas.List.{take_at}
use Rattle.chisel_bound.proofs.Adding.{vector_read, added_more}
use Rattle.chisel_bound.proofs.Ascents.{penalty_grid}
use Rattle.chisel_bound.proofs.differences.Differences.new.Goals as goal

pub write_vector-requires-clause-grid : goal.write_vector-requires-clause-grid
write_vector-requires-clause-grid c =
    let t = c.args.table.now in
    let pool = c.args.pool.now.vectors in
    let l = ap length c.as_slice.ensures in
    let e = c.as_slice-in-loop-j.ensures ∙ vector_read pool c.as_slice.result.now c.loop-j.j c.index-as_slice-j.result c.as_slice.ensures (omega arith) c.index-as_slice-j.is in
    let g = c.deref.ensures.value ∙ take_at c.write_penalties.new.grid _ _ (omega (arith, c.write_penalties.auto.grid, c.deref_mut.ensures.len)) in
    rw g (penalty_grid t c.as_slice-in-loop-j.result.now c.write_penalties.new.grid c.requires.table (rw e (c.requires.pool.vectors c.loop-j.j (omega arith))) c.write_penalties.ensures)

pub loop-j-preserved : goal.loop-j-preserved
loop-j-preserved c =
    let t = c.args.table.now in
    let pool = c.args.pool.now.vectors in
    let l = ap length c.as_slice.ensures in
    let e = c.as_slice-in-loop-j.ensures ∙ vector_read pool c.as_slice.result.now c.loop-j.j c.index-as_slice-j.result c.as_slice.ensures (omega arith) c.index-as_slice-j.is in
    let g = c.deref.ensures.value ∙ take_at c.write_penalties.new.grid (drop (length c.write_penalties.new.grid) c.loop-j.grid.items) c.loop-j.grid.len (omega (arith, c.write_penalties.auto.grid, c.deref_mut.ensures.len)) in
    record {
      grid = omega (arith, ap length (take_at c.write_penalties.new.grid (drop (length c.write_penalties.new.grid) c.loop-j.grid.items) c.loop-j.grid.len (omega (arith, c.write_penalties.auto.grid, c.deref_mut.ensures.len))), c.write_penalties.ensures.size);
      added =
          rw (take_at c.write_vector.new.added (drop (length c.write_vector.new.added) c.loop-j.added.items) c.loop-j.added.len (omega (arith, c.write_vector.auto.added, c.deref_mut-in-loop-j.ensures.len)))
          (added_more t pool c.deref.result.now c.loop-j.j c.deref_mut-in-loop-j.result.now c.write_vector.new.added (omega (arith, c.requires.few))
          (rw (g, ← e) c.write_penalties.ensures) c.write_vector.ensures (rw c.deref_mut-in-loop-j.ensures.value c.loop-j.invariant.added));
    }
