use Rattle.std.proofs.Common.{◌≡◌, drop, filter_map, fold}
use Rattle.rely_kernel.specs.Setting.{earlier, open_mark}
use Rattle.rely_kernel.proofs.marks.first_of_sites.Given as goal

abbrev pub invariant-loop-site : goal.invariant-loop-site
invariant-loop-site l = fold earlier l.first (filter_map (λ s. open_mark s.kind s.mark) (drop l.site-index l.sites)) ≡ fold earlier l.fn.before (filter_map (λ s. open_mark s.kind s.mark) l.sites)
