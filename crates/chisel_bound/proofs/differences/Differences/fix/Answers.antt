use Rattle.std.proofs.Common.{arith, rules}
use mir.Syntax.{w128}
use mir.Val.{SFits}
use Rattle.chisel_table.specs.Lagrangian.{value, excess}
use Rattle.chisel_table.specs.Closings.{vector_at}
use Rattle.chisel_table.specs.Partials.{with_option}
use Rattle.chisel_bound.proofs.Adding.{next_sums, next_grown, sum_fits, sum_stored}
use Rattle.chisel_bound.proofs.differences.Differences.fix.Goals as goal

pub overflow_add-old : goal.overflow_add-old
overflow_add-old c =
    let r = c.requires in
    let t = c.args.self.now.table.now in
    let pool = c.args.self.now.pool.now.vectors in
    let x = c.index-old.result.now in
    let y = c.index-more.result.now in
    let f : SFits w128 x.value = search rules in
    let g : SFits w128 y.value = search rules in
    let s = next_sums t pool c.args.bounds.now.items c.loop-j.bounds.items c.args.self.now.added.items c.args.taken.now c.args.decision c.args.option c.loop-j.j x y
    r.differences.table r.differences.pool r.partial r.differences.added r.differences.few r.kept (omega arith)
    (record { decision = r.decision; unfixed = r.unfixed; option = r.option }) c.loop-j.invariant c.index-old.ensures c.index-more.ensures in
    sum_fits x.value y.value (value t (vector_at pool c.loop-j.j) (with_option c.args.taken.now.partial c.args.decision c.args.option)) f g s.value_is s.value_stays

pub overflow_add-old-in-loop-j : goal.overflow_add-old-in-loop-j
overflow_add-old-in-loop-j c =
    let r = c.requires in
    let t = c.args.self.now.table.now in
    let pool = c.args.self.now.pool.now.vectors in
    let x = c.index-old.result.now in
    let y = c.index-more.result.now in
    let f : SFits w128 x.excess = search rules in
    let g : SFits w128 y.excess = search rules in
    let s = next_sums t pool c.args.bounds.now.items c.loop-j.bounds.items c.args.self.now.added.items c.args.taken.now c.args.decision c.args.option c.loop-j.j x y
    r.differences.table r.differences.pool r.partial r.differences.added r.differences.few r.kept (omega arith)
    (record { decision = r.decision; unfixed = r.unfixed; option = r.option }) c.loop-j.invariant c.index-old.ensures c.index-more.ensures in
    sum_fits x.excess y.excess (excess t (vector_at pool c.loop-j.j) (with_option c.args.taken.now.partial c.args.decision c.args.option)) f g s.excess_is s.excess_stays

pub loop-j-preserved : goal.loop-j-preserved
loop-j-preserved c =
    let r = c.requires in
    let t = c.args.self.now.table.now in
    let pool = c.args.self.now.pool.now.vectors in
    let x = c.index-old.result.now in
    let y = c.index-more.result.now in
    let child = with_option c.args.taken.now.partial c.args.decision c.args.option in
    let v = vector_at pool c.loop-j.j in
    let f : SFits w128 x.value = search rules in
    let g : SFits w128 y.value = search rules in
    let h : SFits w128 x.excess = search rules in
    let k : SFits w128 y.excess = search rules in
    let s = next_sums t pool c.args.bounds.now.items c.loop-j.bounds.items c.args.self.now.added.items c.args.taken.now c.args.decision c.args.option c.loop-j.j x y
    r.differences.table r.differences.pool r.partial r.differences.added r.differences.few r.kept (omega arith)
    (record { decision = r.decision; unfixed = r.unfixed; option = r.option }) c.loop-j.invariant c.index-old.ensures c.index-more.ensures in
    let a = sum_stored x.value y.value (value t v child) f g s.value_is s.value_stays in
    let b = sum_stored x.excess y.excess (excess t v child) h k s.excess_is s.excess_stays in
    next_grown t pool child c.args.bounds.now.items c.loop-j.bounds.items c.push.new.self.items c.loop-j.j _ (omega arith) c.loop-j.invariant
    c.in_ok-push.ensures.items (λ i. record { value = a i; excess = b i })
