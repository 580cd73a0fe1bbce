use Rattle.std.proofs.Common.{ap, arith, length}
use Rattle.chisel_search.proofs.Finding.{begun, empty, goes_on, not_empty}
use Rattle.chisel_search.proofs.run.searched.Goals as goal

pub loop-machine-init : goal.loop-machine-init
loop-machine-init g c =
    let w = c.in_ok-machine.ensures in
    let o = c.in_ok-open.ensures in
    record {
      searching = begun c.args.differences.now _ _ c.in_ok-machine.machine c.in_ok-open.open.parts.items c.in_ok-open.open.numbers.items w.machine w.begun w.known o.parts o.numbers;
      few = let e = ap length w.begun.log in omega arith;
    }

pub returns-then-len-nodes-clause-nodes : goal.returns-then-len-nodes-clause-nodes
returns-then-len-nodes-clause-nodes g c =
    let few = c.loop-machine.invariant.few in
    let o = c.loop-machine.machine.log.ok in
    let n = c.len.ensures in
    let l = c.if-len-nodes.true in
    λ _. goes_on c.args.differences.now _ _ c.loop-machine.machine c.loop-machine.open.parts.items c.loop-machine.open.numbers.items c.args.nodes
    c.loop-machine.invariant.searching (not_empty _ _ c.is_empty.ensures c.loop-machine-test.true) (omega arith)

pub returns-clause-ended : goal.returns-clause-ended
returns-clause-ended g c = record {
  parts = c.loop-machine.open.parts.items;
  numbers = c.loop-machine.open.numbers.items;
  searching = c.loop-machine.invariant.searching;
  none = empty _ _ c.is_empty.ensures c.loop-machine-test.false;
}
