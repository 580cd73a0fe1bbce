use Rattle.rely_resolve.proofs.Places.{place_from}
use Rattle.rely_resolve.specs.Names.{memory_names}
use Rattle.rely_resolve.proofs.names.place_of_memory.Goals as goal

pub loop-i-init : goal.loop-i-init
loop-i-init c = place_from c.args.name.now (memory_names c.args.memories.now)
