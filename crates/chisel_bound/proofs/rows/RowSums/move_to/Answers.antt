use Rattle.std.proofs.Common.{arith, rules, refl, ◌≡◌, length}
use Rattle.chisel_bound.proofs.Putting.{same_sums}
use Rattle.chisel_bound.proofs.rows.RowSums.move_to.Goals as goal

pub returns-clause-sums : goal.returns-clause-sums
returns-clause-sums c =
    let room : length c.args.p.now.slots ≡ 256 = search rules in
    same_sums c.args.differences.now.table.now c.loop-d.self (record { partial = c.args.p.now; excesses = c.loop-d.self.excesses }) c.loop-d.invariant.sums refl c.requires.partial room
    (λ d k. c.loop-d.invariant.same d (omega arith))
