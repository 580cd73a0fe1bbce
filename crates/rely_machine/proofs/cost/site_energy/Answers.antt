use Rattle.std.proofs.Common.{ap, ◌∙◌}
use Rattle.std.specs.Prelude.{slice_get}
use Rattle.std.specs.Option.{option_map_or}
use Rattle.rely_machine.specs.Cost.{kind_energy}
use Rattle.rely_machine.proofs.EnergyOwn.{listed_energy}
use Rattle.rely_machine.proofs.cost.site_energy.Goals as goal

pub returns : goal.returns
returns c =
    c.kind_energy.ensures
    ∙ ap (λ ks. option_map_or (λ s. s.energy) (slice_get ks c.number.result) 0) c.kinds_of.ensures
    ∙ listed_energy c.args.h.now c.number.result c.args.site.now
    ∙ ap (λ n. kind_energy c.args.h.now n c.args.site.now) c.number.ensures
