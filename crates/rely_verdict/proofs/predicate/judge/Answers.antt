use Rattle.std.proofs.Common.{◌∙◌}
use Rattle.rely_verdict.proofs.predicate.judge.Goals as goal

pub returns-clause-sound : goal.returns-clause-sound
returns-clause-sound c = λ e lo r. c.judge_conjuncts.ensures.sound (c.conjs.ensures.value ∙ e) lo r
