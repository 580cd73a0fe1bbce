use Rattle.std.proofs.Common.{rules, ◌∙◌, ◌≤◌, length}
use Rattle.chisel_source.proofs.Opening.{all_closed, none_behind}
use Rattle.chisel_source.proofs.open.open_place_in.Goals as goal

pub returns-clause-closed : goal.returns-clause-closed
returns-clause-closed c = λ _.
    let past : length c.args.kernels.now ≤ c.loop-k.k-index = search rules in
    all_closed c.args.kernels.now (c.loop-k.invariant ∙ none_behind c.args.kernels.now c.loop-k.k-index past)
