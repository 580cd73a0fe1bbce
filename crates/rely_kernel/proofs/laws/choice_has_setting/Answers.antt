use Rattle.rely_kernel.proofs.Choice.{choice_has_setting}
use Rattle.rely_kernel.proofs.laws.choice_has_setting.Goals as goal

pub returns : goal.returns
returns c = choice_has_setting
