use Rattle.chisel_search.proofs.Climbing.{HasFresh}
use Rattle.chisel_search.proofs.tournament.Tournament.graft.Given as goal

abbrev pub invariant-loop-o : goal.invariant-loop-o
invariant-loop-o l = HasFresh l.fn.self l.number l.children l.o l.self
