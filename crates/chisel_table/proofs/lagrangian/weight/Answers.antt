use Rattle.std.proofs.Common.{◌≡◌, ◌∙◌, ◌*◌, arith, rules, Fits, w64}
use Rattle.chisel_table.specs.Tables.{energy_at}
use Rattle.chisel_table.proofs.Steps.{energy_bound}
use Rattle.chisel_table.proofs.lagrangian.weight.Goals as goal

pub overflow_add-result : goal.overflow_add-result
overflow_add-result c =
    let f : Fits w64 c.energy_at.result = search rules in
    let e : c.from.result * c.from-2.result ≡ c.args.scale * c.energy_at.result = λ i. c.from.ensures i * c.from-2.ensures i in
    let g = energy_bound c.args.scale c.energy_at.result c.requires.scale (omega arith) in
    omega (arith, e, g, c.penalty.ensures.bound)

pub returns-clause-value : goal.returns-clause-value
returns-clause-value c =
    let e : c.from.result * c.from-2.result ≡ c.args.scale * energy_at c.args.t.now c.args.decision c.args.option = λ i. c.from.ensures i * (c.from-2.ensures ∙ c.energy_at.ensures) i in
    omega (arith, e, c.penalty.ensures.value)

pub returns-clause-bound : goal.returns-clause-bound
returns-clause-bound c =
    let f : Fits w64 c.energy_at.result = search rules in
    let e : c.from.result * c.from-2.result ≡ c.args.scale * c.energy_at.result = λ i. c.from.ensures i * c.from-2.ensures i in
    let g = energy_bound c.args.scale c.energy_at.result c.requires.scale (omega arith) in
    omega (arith, e, g, c.penalty.ensures.bound)
