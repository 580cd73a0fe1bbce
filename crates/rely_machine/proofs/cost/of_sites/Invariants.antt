use Rattle.std.proofs.Common.{◌≡◌, ◌+◌, ◌≤◌, drop}
use Rattle.std.specs.Prelude.{slice_index}
use Rattle.rely_kernel.specs.Rates.{own}
use Rattle.rely_machine.specs.EnergySums.{capped, of_sites, sum_from}
use Rattle.rely_machine.proofs.EnergyOwn.{site_uses}
use Rattle.rely_machine.proofs.cost.of_sites.Given as goal

abbrev pub invariant-loop-i : goal.invariant-loop-i
invariant-loop-i l = record {
  fits : l.total ≤ 18446744073709551615;
  rest : capped (l.total + sum_from (site_uses l.h l.k (slice_index l.uses)) l.i (drop l.i l.sites)) ≡ capped (of_sites l.h l.k (own l.k) (slice_index l.uses));
}
