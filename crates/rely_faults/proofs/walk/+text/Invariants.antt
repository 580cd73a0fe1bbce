use Rattle.std.proofs.Common.{◌+◌, ◌-◌, ◌∷◌, drop, length}
use Rattle.rely_kernel.specs.Machine.{Repeat, While}
use Rattle.rely_kernel.specs.Text.{block_of, expr_of, stmt_of}
use Rattle.rely_machine.proofs.Sizes.{block_size, stmt_size}
use Rattle.rely_faults.specs.Going.{here}
use Rattle.rely_faults.proofs.Idling.{Walks}
use Rattle.rely_faults.proofs.Looping.{Leads}
use Rattle.rely_faults.proofs.walk.+text.Given as goal

abbrev pub decreases-block : goal.decreases-block
decreases-block l = block_size (block_of l.text.statements.now)

abbrev pub decreases-statement : goal.decreases-statement
decreases-statement l = stmt_size (stmt_of l.part.what.now)

abbrev pub decreases-choose : goal.decreases-choose
decreases-choose l = 2 + block_size (block_of l.s.statements.now) + block_size (block_of l.t.statements.now)

abbrev pub decreases-turns : goal.decreases-turns
decreases-turns l = 1 + block_size (block_of l.text.statements.now)

abbrev pub decreases-rounds : goal.decreases-rounds
decreases-rounds l = 1 + block_size (block_of l.text.statements.now)

abbrev pub invariant-block-loop-at : goal.invariant-block-loop-at
invariant-block-loop-at l = Walks l.r (block_of l.text.statements.now) (drop l.at l.text.live.now) (here l.fn.held l.fn.tally l.fn.words) (here l.held l.tally l.words)

abbrev pub decreases-block-loop-at : goal.decreases-block-loop-at
decreases-block-loop-at l = length l.text.live.now - l.at

abbrev pub invariant-rounds-loop : goal.invariant-rounds-loop
invariant-rounds-loop l =
    Leads l.r (λ is. While (expr_of l.e) l.n (block_of l.text.statements.now) ∷ is) (λ is. While (expr_of l.e) (l.n - l.counter) (block_of l.text.statements.now) ∷ is) (here l.fn.held l.fn.tally l.fn.words) (here l.held l.tally l.words)

abbrev pub invariant-turns-loop : goal.invariant-turns-loop
invariant-turns-loop l =
    Leads l.r (λ is. Repeat l.n (block_of l.text.statements.now) ∷ is) (λ is. Repeat (l.n - l.counter) (block_of l.text.statements.now) ∷ is) (here l.fn.held l.fn.tally l.fn.words) (here l.held l.tally l.words)
