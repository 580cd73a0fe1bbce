use Rattle.std.proofs.Common.{◌≡◌, length}
use Rattle.rely_machine.proofs.tally.no_spares.Given as goal

abbrev pub invariant-loop : goal.invariant-loop
invariant-loop l = length l.spares.items ≡ l.counter
