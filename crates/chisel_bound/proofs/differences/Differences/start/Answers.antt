use Rattle.std.proofs.Common.{arith, rules, ◌∙◌, ap, sym, subst, length, drop}
use mir.Syntax.{w128}
use mir.Val.{SFits}
use Rattle.std.proofs.lemmas.Int.{to_z-of_z}
use Rattle.std.proofs.lemmas.List.{take_at}
use Rattle.chisel_table.specs.Grid.{Holds}
use Rattle.chisel_table.specs.Lagrangian.{penalty, value, excess}
use Rattle.chisel_table.specs.Partials.{nothing_fixed}
use Rattle.chisel_bound.proofs.Adding.{vector_read, bounds_more}
use Rattle.chisel_bound.proofs.differences.Differences.start.Goals as goal

pub write_penalties-requires-clause-vector : goal.write_penalties-requires-clause-vector
write_penalties-requires-clause-vector c =
    let e = c.as_slice.ensures ∙ vector_read c.args.self.now.pool.now.vectors c.as_slice-vector-items.result.now c.loop-vector.vector-index c.vector-item.result
    c.as_slice-vector-items.ensures (omega arith) c.vector-item.is in
    rw e (c.requires.pool.vectors c.loop-vector.vector-index (let n = ap length c.as_slice-vector-items.ensures in omega arith))

pub write_penalties-requires-clause-size : goal.write_penalties-requires-clause-size
write_penalties-requires-clause-size c = let e = ap length c.deref_mut.ensures.value in omega (arith, e, c.loop-vector.invariant.grid)

pub first_value-value-requires-clause-vector : goal.first_value-value-requires-clause-vector
first_value-value-requires-clause-vector c =
    let e = c.as_slice-in-loop-vector.ensures ∙ vector_read c.args.self.now.pool.now.vectors c.as_slice-vector-items.result.now c.loop-vector.vector-index c.vector-item.result
    c.as_slice-vector-items.ensures (omega arith) c.vector-item.is in
    rw e (c.requires.pool.vectors c.loop-vector.vector-index (let n = ap length c.as_slice-vector-items.ensures in omega arith))

pub first_value-value-requires-clause-grid : goal.first_value-value-requires-clause-grid
first_value-value-requires-clause-grid c =
    let t = c.args.self.now.table.now in
    let g = c.deref.ensures.value ∙ take_at c.write_penalties.new.grid _ _ (omega (arith, c.write_penalties.auto.grid, c.deref_mut.ensures.len)) in
    subst (λ l. Holds t (penalty t l) c.deref.result.now) (c.as_slice.ensures ∙ sym c.as_slice-in-loop-vector.ensures)
    (subst (λ x. Holds t (penalty t c.as_slice.result.now) x) (sym g) c.write_penalties.ensures)

pub first_excess-excess-requires-clause-vector : goal.first_excess-excess-requires-clause-vector
first_excess-excess-requires-clause-vector c =
    let e = c.as_slice-in-loop-vector-2.ensures ∙ vector_read c.args.self.now.pool.now.vectors c.as_slice-vector-items.result.now c.loop-vector.vector-index c.vector-item.result
    c.as_slice-vector-items.ensures (omega arith) c.vector-item.is in
    rw e (c.requires.pool.vectors c.loop-vector.vector-index (let n = ap length c.as_slice-vector-items.ensures in omega arith))

pub first_excess-excess-requires-clause-grid : goal.first_excess-excess-requires-clause-grid
first_excess-excess-requires-clause-grid c =
    let t = c.args.self.now.table.now in
    let g = c.deref-in-loop-vector.ensures.value ∙ take_at c.write_penalties.new.grid _ _ (omega (arith, c.write_penalties.auto.grid, c.deref_mut.ensures.len)) in
    subst (λ l. Holds t (penalty t l) c.deref-in-loop-vector.result.now) (c.as_slice.ensures ∙ sym c.as_slice-in-loop-vector-2.ensures)
    (subst (λ x. Holds t (penalty t c.as_slice.result.now) x) (sym g) c.write_penalties.ensures)

pub loop-vector-preserved : goal.loop-vector-preserved
loop-vector-preserved c =
    let t = c.args.self.now.table.now in
    let x = c.vector-item.result in
    let f : SFits w128 c.first_value-value.result = search rules in
    let g : SFits w128 c.first_excess-excess.result = search rules in
    let a = to_z-of_z w128 c.first_value-value.result f ∙ c.first_value-value.ensures ∙ (λ i. value t (c.as_slice-in-loop-vector.ensures i) (nothing_fixed t)) in
    let b = to_z-of_z w128 c.first_excess-excess.result g ∙ c.first_excess-excess.ensures ∙ (λ i. excess t (c.as_slice-in-loop-vector-2.ensures i) (nothing_fixed t)) in
    record {
      grid = omega (arith, ap length (take_at c.write_penalties.new.grid (drop (length c.write_penalties.new.grid) c.loop-vector.grid.items) c.loop-vector.grid.len (omega (arith, c.write_penalties.auto.grid, c.deref_mut.ensures.len))), c.write_penalties.ensures.size);
      bounds =
          bounds_more t (nothing_fixed t) c.as_slice-vector-items.result.now c.args.bounds.now.items c.loop-vector.bounds.items c.push.new.self.items c.loop-vector.vector-index x _
          (omega arith) c.vector-item.is c.loop-vector.invariant.bounds c.in_ok-push.ensures.items (λ i. record { value = a i; excess = b i });
    }
