use Rattle.std.proofs.Common.{sym}
use Rattle.chisel_source.proofs.Opening.{open_place_is}
use Rattle.chisel_source.proofs.open.open_place.Goals as goal

pub returns-in-Some : goal.returns-in-Some
returns-in-Some c = sym (open_place_is c.args.k.now c.in-Some.mark c.in-Some.ensures.first)
