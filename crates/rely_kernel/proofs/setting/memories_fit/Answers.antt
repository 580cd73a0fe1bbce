use Rattle.rely_kernel.proofs.Zips.{zip_long}
use Rattle.rely_kernel.proofs.setting.memories_fit.Goals as goal

pub returns-then-vars-memories : goal.returns-then-vars-memories
returns-then-vars-memories c = (λ h. absurd (cc), λ h. absurd (c.if-vars-memories.true (zip_long _ c.args.vars.now c.args.memories.now h)))
