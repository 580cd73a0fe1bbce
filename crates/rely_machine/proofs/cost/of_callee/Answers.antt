use Rattle.rely_machine.proofs.EnergyCaps.{capped_sum, capped_times}
use Rattle.rely_machine.proofs.cost.of_callee.Goals as goal

pub returns : goal.returns
returns c =
    rw (c.saturating_add.ensures, c.used-uses.ensures, c.uses_of.ensures, c.as_slice.ensures, c.saturating_mul-held.ensures, c.number_at.ensures, c.as_slice-2.ensures, c.held.ensures, capped_times)
    (capped_sum _ _)
