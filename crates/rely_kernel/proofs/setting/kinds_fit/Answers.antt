use Rattle.rely_kernel.proofs.Zips.{zip_long}
use Rattle.rely_kernel.proofs.setting.kinds_fit.Goals as goal

pub returns-then-sites-kinds : goal.returns-then-sites-kinds
returns-then-sites-kinds c = (λ h. absurd (cc), λ h. absurd (c.if-sites-kinds.true (zip_long _ c.args.sites.now c.args.kinds.now h)))
