use Rattle.rely_verdict.proofs.FirstOutside.{found_is_first_outside, none_is_within}
use Rattle.rely_verdict.proofs.JudgedLaw.{needs_is_first_outside}
use Rattle.rely_verdict.proofs.law.needs_without_setting.Goals as goal

pub returns-clause-verdict : goal.returns-clause-verdict
returns-clause-verdict c = needs_is_first_outside

pub returns-clause-found : goal.returns-clause-found
returns-clause-found c = found_is_first_outside

pub returns-clause-none : goal.returns-clause-none
returns-clause-none c = none_is_within
