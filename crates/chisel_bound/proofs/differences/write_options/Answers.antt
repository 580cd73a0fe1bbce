use Rattle.std.proofs.Common.{arith, ◌≡◌, ◌-◌, ◌<◌, length}
use Rattle.std.specs.Prelude.{slice_index}
use Rattle.std.proofs.lemmas.Int.{ints}
use lib.IntN.{pos, ◌-ℤ◌}
use mir.Syntax.{w128}
use mir.Val.{to_z}
use Rattle.chisel_table.specs.declared.lagrangian.TheConstants.{ENERGY_WEIGHT}
use Rattle.chisel_table.specs.Sums.{least_to}
use Rattle.chisel_bound.specs.Weights.{weighed}
use Rattle.chisel_bound.proofs.Adding.{least_agree, options_more}
use Rattle.chisel_bound.proofs.LeastPlaces.{least_value}
use Rattle.chisel_bound.proofs.differences.write_options.Goals as goal

pub loop-o-preserved : goal.loop-o-preserved
loop-o-preserved c =
    let es = c.args.energies.now in
    let ps = c.args.penalties.now in
    let o = c.loop-o.o in
    let l : o < length es = omega arith in
    let n = length es in
    let price = weighed ENERGY_WEIGHT es ps in
    let p = c.weight-price.ensures in
    let q = c.weight-least_price.ensures in
    let least_price = least_value n price c.least_option-cheapest.result c.least_option-cheapest.ensures in
    let under = c.least_option-cheapest.ensures.least o l in
    let least_penalty = least_value n (weighed 0 es ps) c.least_option-lightest.result c.least_option-lightest.ensures in
    let lighter = c.least_option-lightest.ensures.least o l in
    let plain = least_agree n (weighed 0 es ps) (slice_index ps) (λ k m. omega arith) in
    let fits = c.requires.below o l in
    let v : to_z w128 (c.weight-price.result - c.weight-least_price.result) ≡ pos (price o) -ℤ pos (least_to n price) =
    omega (arith, ints, p.value, p.bound, q.value, least_price, under) in
    let x : to_z w128 (slice_index ps o - slice_index ps c.least_option-lightest.result) ≡ pos (slice_index ps o) -ℤ pos (least_to n (slice_index ps)) =
    omega (arith, ints, least_penalty, lighter, plain, fits) in
    options_more es ps c.args.from o c.args.added.now c.loop-o.added _ (omega (arith, c.requires.room, c.loop-o.auto.added))
    (λ i. record { value = v i; excess = x i }) c.loop-o.invariant
