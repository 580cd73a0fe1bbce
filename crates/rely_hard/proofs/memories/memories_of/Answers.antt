use Rattle.std.proofs.Common.{arith}
use Rattle.std.proofs.lemmas.Grind.{common_steps}
use Rattle.rely_hard.proofs.Lists.{each_after-more}
use Rattle.rely_hard.proofs.memories.memories_of.Goals as goal

pub loop-v-preserved : goal.loop-v-preserved
loop-v-preserved c = (grind (arith, common_steps), grind (arith, common_steps, each_after-more))
