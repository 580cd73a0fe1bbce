use Rattle.std.proofs.Common.{◌≡◌, map}
use Rattle.serde_json.specs.View.{members_view}
use Rattle.rely_inputs.specs.Samples.{has_other}
use Rattle.rely_inputs.proofs.sample.has_other.Given as goal

abbrev pub invariant-loop-key : goal.invariant-loop-key
invariant-loop-key l = has_other (map (λ v. v.name) l.parameters) (members_view l.fn.members.entries) ≡ has_other (map (λ v. v.name) l.parameters) (members_view l.key-iterator)
