use Rattle.std.proofs.Common.{map}
use Rattle.rely_tree.specs.Shape.{func_shape}
use Rattle.rely_resolve.proofs.Places.{place_from}
use Rattle.rely_resolve.specs.Names.{function_names}
use Rattle.rely_resolve.proofs.names.place_of_function.Goals as goal

pub loop-i-init : goal.loop-i-init
loop-i-init c = place_from c.args.name.now (function_names (map func_shape c.args.functions.now))
