use Rattle.std.proofs.Common.{ap, length, sym}
use Rattle.rely_inputs.proofs.Lists.{first_side}
use Rattle.rely_inputs.proofs.sample.parameters.Goals as goal

pub slice_bounds-result-end : goal.slice_bounds-result-end
slice_bounds-result-end c = rw (c.first_local.ensures, c.as_slice.ensures) (ap length (sym (first_side c.args.k.now c.requires)))

pub returns : goal.returns
returns c = rw (c.first_local.ensures, c.as_slice.ensures) (first_side c.args.k.now c.requires)
