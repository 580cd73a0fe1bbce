use Rattle.std.proofs.Common.{rules, tests}
use Rattle.std.proofs.lemmas.Iterator.{YieldsList-from_slice}
use Rattle.std.proofs.lemmas.Iterator.Search.{any_from_yields_List}
use Rattle.rely_num.specs.Ops.{is_op}
use Rattle.rely_hard.specs.declared.hardware.OpSpec.{OpSpec}
use Rattle.rely_hard.proofs.operators.has_operator.Goals as goal

pub returns : goal.returns
returns c =
    any_from_yields_List (λ (operator : OpSpec). is_op c.args.op operator.op) _ _ _ c.any.ensures.ran (YieldsList-from_slice c.args.operators.now cc) (λ x b q k. search (rules, tests))
