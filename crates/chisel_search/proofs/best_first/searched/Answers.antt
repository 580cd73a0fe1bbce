use Rattle.std.proofs.Common.{◌≡◌, ap, sym, ◌∙◌, arith, length, Some, None}
use Rattle.chisel_search.specs.Frontier.{parts_in}
use Rattle.chisel_search.specs.Machine.{table_of}
use Rattle.chisel_search.specs.Tournament.{numbers_in, winning_number}
use Rattle.chisel_search.proofs.BestFirst.{best_begun, none_open, some_open}
use Rattle.chisel_search.proofs.Finding.{goes_on}
use Rattle.chisel_search.proofs.best_first.searched.Goals as goal

pub loop-number-init : goal.loop-number-init
loop-number-init g c =
    let w = c.in_ok-machine.ensures in
    let o = c.in_ok-frontier.ensures in
    record {
      searching = best_begun c.args.differences.now _ c.in_ok-machine.machine c.in_ok-frontier.frontier w.machine w.begun w.known o.tournament o.values o.numbers o.one o.origins;
      few = let e = ap length w.begun.log in omega arith;
    }

pub returns-then-len-nodes-clause-nodes : goal.returns-then-len-nodes-clause-nodes
returns-then-len-nodes-clause-nodes g c =
    let i = c.loop-number.invariant in
    let few = i.few in
    let o = c.loop-number.machine.log.ok in
    let n = c.len.ensures in
    let l = c.if-len-nodes.true in
    let f = c.loop-number.frontier in
    let log = c.loop-number.machine.log.items in
    let e : winning_number f.tournament ≡ Some c.in-Some.number = sym c.winner.ensures ∙ c.in-Some.is in
    λ _. goes_on c.args.differences.now _ _ c.loop-number.machine (parts_in (table_of c.args.differences.now) log f) (numbers_in f.tournament) c.args.nodes
    i.searching.searching (some_open _ _ _ _ i.searching c.in-Some.number e) (omega arith)

pub returns-clause-ended : goal.returns-clause-ended
returns-clause-ended g c =
    let i = c.loop-number.invariant in
    let f = c.loop-number.frontier in
    let log = c.loop-number.machine.log.items in
    let e : winning_number f.tournament ≡ None = sym c.winner.ensures ∙ c.in_default.is in
    record {
      parts = parts_in (table_of c.args.differences.now) log f;
      numbers = numbers_in f.tournament;
      searching = i.searching.searching;
      none = none_open _ _ _ _ i.searching e;
    }
