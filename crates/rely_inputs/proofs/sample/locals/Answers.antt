use Rattle.std.proofs.Common.{◌≤◌, length, arith}
use Rattle.rely_kernel.specs.Machine.{parameters}
use Rattle.rely_inputs.proofs.Lists.{last_side, sides_long}
use Rattle.rely_inputs.proofs.sample.locals.Goals as goal

pub slice_bounds-result-count : goal.slice_bounds-result-count
slice_bounds-result-count c =
    let k = c.args.k.now in
    let few : length (parameters k) ≤ length k.vars = omega (arith, sides_long k c.requires) in
    rw (c.first_local.ensures, c.as_slice.ensures) few

pub returns : goal.returns
returns c = rw (c.first_local.ensures, c.as_slice.ensures) (last_side c.args.k.now c.requires)
