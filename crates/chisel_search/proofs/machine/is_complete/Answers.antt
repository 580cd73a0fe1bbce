use Rattle.std.proofs.Common.{arith}
use Rattle.std.proofs.lemmas.Bool.{eq-eqb}
use Rattle.chisel_search.proofs.Machines.{none_left, some_left}
use Rattle.chisel_search.proofs.machine.is_complete.Goals as goal

pub returns-then-p-d : goal.returns-then-p-d
returns-then-p-d c = some_left c.args.t.now c.args.p.now c.loop-d.d (omega arith) (eq-eqb _ _ c.if-p-d.true)

pub returns : goal.returns
returns c = none_left c.args.t.now c.args.p.now (λ d l. c.loop-d.invariant d (omega arith))
