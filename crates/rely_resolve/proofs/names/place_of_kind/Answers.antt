use Rattle.rely_resolve.proofs.Places.{place_from}
use Rattle.rely_resolve.specs.Names.{kind_names}
use Rattle.rely_resolve.proofs.names.place_of_kind.Goals as goal

pub loop-i-init : goal.loop-i-init
loop-i-init c = place_from c.args.name.now (kind_names c.args.kinds.now)
