use Rattle.chisel_optimise.proofs.Migrated.{migrated_within}
use Rattle.chisel_optimise.proofs.law.migrated_stays_valid.Goals as goal

pub returns-clause-within : goal.returns-clause-within
returns-clause-within c = migrated_within
