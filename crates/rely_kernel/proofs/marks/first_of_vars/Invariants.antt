use Rattle.std.proofs.Common.{◌≡◌, drop, filter_map, fold, None}
use Rattle.rely_kernel.specs.Setting.{earlier, open_mark}
use Rattle.rely_kernel.proofs.marks.first_of_vars.Given as goal

abbrev pub invariant-loop-var : goal.invariant-loop-var
invariant-loop-var l = fold earlier l.first (filter_map (λ v. open_mark v.memory v.mark) (drop l.var-index l.vars)) ≡ fold earlier None (filter_map (λ v. open_mark v.memory v.mark) l.vars)
