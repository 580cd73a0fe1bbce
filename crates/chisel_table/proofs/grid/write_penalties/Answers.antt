use Rattle.std.proofs.Common.{arith, rules, ap, ◌∙◌, length}
use Rattle.std.specs.Prelude.{slice_index}
use Rattle.chisel_table.proofs.Grids.{zeros, grid_zeros, row_without}
use Rattle.chisel_table.proofs.grid.write_penalties.Goals as goal
use Rattle.chisel_table.proofs.grid.write_penalties.Goals.{then-l-i-gt0, else-l-i-gt0}

pub loop-i-init : goal.loop-i-init
loop-i-init c =
    let e = c.fill.ensures.after (λ y h. search rules) in
    grid_zeros c.args.t.now c.args.l.now c.fill.new.self (let a = c.fill.ensures.len in let b = c.requires.size in omega arith)
    (λ k. ap (λ xs. slice_index xs k) e ∙ zeros (length c.args.grid.now) k)

pub loop-i-preserved : goal.loop-i-preserved
loop-i-preserved c =
    elim c.if-l-i-gt0.branch [
      | then-l-i-gt0 w ↦ rw w.grid-is w.add_row.ensures
      | else-l-i-gt0 w ↦ rw w.grid-is (row_without c.args.t.now c.args.l.now c.loop-i.i c.loop-i.grid (omega arith) c.loop-i.invariant)
    ]
