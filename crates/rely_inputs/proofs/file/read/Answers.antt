use Rattle.serde_json.specs.View.{view}
use Rattle.rely_inputs.proofs.Starts.{starts_from_value, count_from_value}
use Rattle.rely_inputs.proofs.file.read.Goals as goal

pub returns-clause-starts : goal.returns-clause-starts
returns-clause-starts c = starts_from_value c.args.k.now c.requires c.args.text.now (view c.in_ok-v.v) c.samples_from.result c.in_ok-v.ensures.ok c.samples_from.ensures.ok

pub returns-clause-count : goal.returns-clause-count
returns-clause-count c = count_from_value c.args.k.now c.requires c.args.text.now (view c.in_ok-v.v) c.samples_from.result c.in_ok-v.ensures.ok c.samples_from.ensures.ok
