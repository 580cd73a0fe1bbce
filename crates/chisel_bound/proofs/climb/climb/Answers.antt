use Rattle.std.proofs.Common.{◌+◌, ap, sym, ◌∙◌}
use Rattle.chisel_bound.specs.Ascent.{next_vector}
use Rattle.chisel_bound.proofs.Ascents.{after_more, after_is_vector}
use Rattle.chisel_bound.proofs.climb.climb.Goals as goal

pub round-requires-clause-vector : goal.round-requires-clause-vector
round-requires-clause-vector c = rw c.loop-done.invariant (after_is_vector c.args.t.now c.loop-done.done)

pub loop-done-preserved : goal.loop-done-preserved
loop-done-preserved c =
    c.round.ensures
    ∙ ap (next_vector c.args.t.now (c.loop-done.done + 1)) c.loop-done.invariant
    ∙ sym (after_more c.args.t.now c.loop-done.done)
