use Rattle.chisel_problem.proofs.Opens.{wide_site, wide_variable}
use Rattle.chisel_problem.proofs.refusals.has_many_options.Goals as goal

pub returns-then-has_wide_site : goal.returns-then-has_wide_site
returns-then-has_wide_site c =
    wide_site c.args.h.now c.args.k.now c.has_wide_site.result c.has_wide_site.ensures c.if-has_wide_site.true

pub returns-else-has_wide_site : goal.returns-else-has_wide_site
returns-else-has_wide_site c =
    wide_variable c.args.h.now c.args.k.now c.has_wide_site.result c.has_wide_variable.result c.has_wide_site.ensures c.if-has_wide_site.false c.has_wide_variable.ensures
