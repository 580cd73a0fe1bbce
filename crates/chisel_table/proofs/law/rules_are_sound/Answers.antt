use Rattle.chisel_table.proofs.Closings.{rule_sound, vector_sound}
use Rattle.chisel_table.proofs.law.rules_are_sound.Goals as goal

pub returns-clause-pooled : goal.returns-clause-pooled
returns-clause-pooled c = rule_sound

pub returns-clause-own : goal.returns-clause-own
returns-clause-own c = vector_sound
