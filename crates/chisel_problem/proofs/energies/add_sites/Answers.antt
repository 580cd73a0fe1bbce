use Rattle.std.proofs.Common.{◌≡◌, ◌+◌, ◌++◌, drop, get_or, map, subst, sym}
use Rattle.chisel_problem.specs.Capped.{capped_place}
use Rattle.chisel_problem.specs.Energies.{site_energies}
use Rattle.chisel_problem.specs.Places.{numbered}
use Rattle.chisel_problem.proofs.Capped.{site_place}
use Rattle.chisel_problem.proofs.Numbered.{numbered_pushed}
use Rattle.chisel_problem.proofs.energies.add_sites.Goals as goal

pub loop-i-preserved : goal.loop-i-preserved
loop-i-preserved c =
    let k = c.args.k.now in
    let runs = c.args.runs.now in
    let i = c.loop-i.i in
    let before = c.loop-i.places.items in
    let after = c.push.new.self.items in
    let items = c.as_slice-site-items.result.now in
    let sites = c.as_slice-site-items.ensures in
    let of = site_energies c.args.h.now k runs c.args.whose in
    let all = c.args.places.now.items ++ map capped_place (numbered of 0 k.sites) in
    subst (λ xs. after ++ map capped_place (numbered of (i + 1) (drop (i + 1) xs)) ≡ all) sites
    (numbered_pushed of capped_place items i _ before after all _ c.loop-i-test.true c.in_ok-push.ensures.items
    (site_place c.args.h.now k runs c.args.whose i (get_or items i _) c.uses.result c.in_ok-prices.prices c.in_ok-prices.ensures c.uses.ensures)
    (subst (λ xs. before ++ map capped_place (numbered of i (drop i xs)) ≡ all) (sym sites) c.loop-i.invariant))
