use Rattle.std.proofs.Common.{◌≡◌, map, drop}
use Rattle.rely_num.specs.Texts.{is_among}
use Rattle.rely_resolve.proofs.reach.is_among.Given as goal

abbrev pub invariant-loop-one : goal.invariant-loop-one
invariant-loop-one l = is_among l.name (map (λ n. n.now) l.names) ≡ is_among l.name (map (λ n. n.now) (drop l.one-index l.names))
