use Rattle.std.proofs.Common.{◌≡◌, ◌+◌}
use Rattle.chisel_table.specs.Sums.{list_to}
use Rattle.chisel_search.specs.Tournament.{best, winner_at}
use Rattle.chisel_search.proofs.tournament.Tournament.best_of.Given as goal

abbrev pub invariant-loop-o : goal.invariant-loop-o
invariant-loop-o l = l.best ≡ best (list_to l.o (λ o. winner_at l.self (l.fn.family.first + o)))
