use Rattle.rely_machine.proofs.EnergyCaps.{capped_sum}
use Rattle.rely_machine.proofs.cost.used.Goals as goal

pub returns : goal.returns
returns c = rw (c.saturating_add.ensures, c.of_sites.ensures, c.of_vars.ensures) (capped_sum _ _)
