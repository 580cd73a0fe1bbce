use Rattle.std.proofs.Common.{refl, ◌∙◌}
use Rattle.chisel_tests.proofs.Tested.{ready_parts}
use Rattle.chisel_tests.proofs.trial.kernel.Goals as goal

pub returns-clause-valid : goal.returns-clause-valid
returns-clause-valid c =
    (ready_parts _ c.parameter.result c.parameter-2.result _ _ _ _ _ _ _ c.parameter.ensures.scalar c.parameter-2.ensures.scalar c.parameter.ensures.param c.parameter-2.ensures.param refl refl refl
    c.in_ok-body.ensures c.in_ok-vars.ensures c.in_ok-sites.ensures (c.from_vec.ensures ∙ c.new.ensures.items) c.in_ok-claims.ensures).0

pub returns-clause-starts : goal.returns-clause-starts
returns-clause-starts c =
    (ready_parts _ c.parameter.result c.parameter-2.result _ _ _ _ _ _ _ c.parameter.ensures.scalar c.parameter-2.ensures.scalar c.parameter.ensures.param c.parameter-2.ensures.param refl refl refl
    c.in_ok-body.ensures c.in_ok-vars.ensures c.in_ok-sites.ensures (c.from_vec.ensures ∙ c.new.ensures.items) c.in_ok-claims.ensures).1
