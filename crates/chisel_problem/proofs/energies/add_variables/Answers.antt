use Rattle.std.proofs.Common.{◌≡◌, ◌+◌, ◌*◌, ◌++◌, ◌∙◌, ap, drop, length, map, subst, sym}
use Rattle.rely_kernel.specs.Machine.{size}
use Rattle.rely_machine.specs.EnergySums.{capped}
use Rattle.chisel_problem.specs.Capped.{capped_place}
use Rattle.chisel_problem.specs.Energies.{variable_energies}
use Rattle.chisel_problem.specs.Places.{numbered}
use Rattle.chisel_problem.specs.Uses.{holds, uses}
use Rattle.chisel_problem.proofs.Capped.{held_capped, variable_place}
use Rattle.chisel_problem.proofs.Numbered.{numbered_pushed}
use Rattle.chisel_problem.proofs.energies.add_variables.Goals as goal

pub loop-v-preserved : goal.loop-v-preserved
loop-v-preserved c =
    let k = c.args.k.now in
    let runs = c.args.runs.now in
    let whose = c.args.whose in
    let v = c.loop-v.v in
    let var = c.var-item.result in
    let before = c.loop-v.places.items in
    let after = c.push.new.self.items in
    let items = c.as_slice-var-items.result.now in
    let vars = c.as_slice-var-items.ensures in
    let of = variable_energies c.args.h.now k runs whose in
    let all = c.args.places.now.items ++ map capped_place (numbered of 0 k.vars) in
    let reads = subst (λ xs. c.uses-reads.result ≡ capped (uses runs whose (length xs + 2 * v))) c.as_slice-sites.ensures c.uses-reads.ensures in
    let writes = subst (λ xs. c.uses-writes.result ≡ capped (uses runs whose (length xs + 2 * v + 1))) c.as_slice-sites.ensures c.uses-writes.ensures in
    let held : c.saturating_mul-held.result ≡ capped (size var * holds runs whose) =
    rw (c.saturating_mul-held.ensures, c.size.ensures) (held_capped (size var) c.holds.result (holds runs whose) c.holds.ensures) in
    subst (λ xs. after ++ map capped_place (numbered of (v + 1) (drop (v + 1) xs)) ≡ all) vars
    (numbered_pushed of capped_place items v var before after all _ c.loop-v-test.true c.in_ok-push.ensures.items
    (variable_place c.args.h.now k runs whose v var c.uses-reads.result c.uses-writes.result c.saturating_mul-held.result c.in_ok-prices.prices c.in_ok-prices.ensures reads writes held
    ∙ ap (λ x. capped_place (of v x)) c.var-item.is)
    (subst (λ xs. before ++ map capped_place (numbered of v (drop v xs)) ≡ all) (sym vars) c.loop-v.invariant))
