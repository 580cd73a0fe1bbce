use Rattle.chisel_bound.specs.Weights.{weighed}
use Rattle.chisel_bound.proofs.LeastPlaces.{least_place_one}
use Rattle.chisel_bound.proofs.weights.least_option.Goals as goal

pub loop-o-init : goal.loop-o-init
loop-o-init c = least_place_one (weighed c.args.scale c.args.energies.now c.args.penalties.now)
