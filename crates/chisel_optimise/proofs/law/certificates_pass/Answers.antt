use Rattle.chisel_optimise.proofs.Passing.{migrated_passes, printed_passes}
use Rattle.chisel_optimise.proofs.law.certificates_pass.Goals as goal

pub returns-clause-printed : goal.returns-clause-printed
returns-clause-printed c = printed_passes

pub returns-clause-migrated : goal.returns-clause-migrated
returns-clause-migrated c = migrated_passes
