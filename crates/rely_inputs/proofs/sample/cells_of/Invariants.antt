use Rattle.std.proofs.Common.{◌≡◌, [], length, drop}
use Rattle.serde_json.specs.View.{members_view}
use Rattle.rely_inputs.specs.Samples.{parameter_at, each_after}
use Rattle.rely_inputs.proofs.sample.cells_of.Given as goal

abbrev pub invariant-loop-var : goal.invariant-loop-var
invariant-loop-var l =
    (length l.cells.items ≡ l.var-index)
    × (each_after (parameter_at l.sample (members_view l.members.entries)) l.cells.items (drop l.var-index l.parameters)
    ≡ each_after (parameter_at l.sample (members_view l.members.entries)) [] l.parameters)
