use Rattle.std.proofs.Common.{sym, ap, ◌∙◌}
use Rattle.rely_machine.specs.Going.{Counts, with_steps}
use Rattle.rely_machine.proofs.Bounds.{take_bounded}
use Rattle.rely_machine.proofs.tally.Tally.take.Goals as goal

pub invariant_of-self : goal.invariant_of-self
invariant_of-self c =
    let walked = c.self-2.view_is ∙ (c.in_ok-walk.ensures.ok ∙ ap (λ (t : Counts). with_steps t 1) (sym c.self.view_is)) in (
      c.self-2.invariant.0,
      take_bounded c.self.inside.uses.items c.self-2.inside.uses.items c.self.inside.steps c.self-2.inside.steps c.args.function c.args.label
          c.index.result.now c.index_mut.result.now c.as_slice.result.now c.set.new.self (ap (λ (t : Counts). t.uses) walked) (ap (λ (t : Counts). t.steps) walked) c.self.invariant.1
          (rw (ap (λ (t : Counts). t.uses) c.self.view_is) c.requires) c.index.ensures c.as_slice.ensures c.index_mut.ensures.value c.set.ensures,
      c.self-2.invariant.2,
    )
