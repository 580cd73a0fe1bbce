use Rattle.std.proofs.Common.{◌≡◌, ◌+◌, ◌*◌, ◌++◌, drop, map}
use Rattle.rely_machine.specs.EnergySums.{capped}
use Rattle.chisel_problem.specs.Energies.{memory_energies}
use Rattle.chisel_problem.proofs.energies.memory_energies.Given as goal

abbrev pub invariant-loop-memory : goal.invariant-loop-memory
invariant-loop-memory l =
    l.energies.items ++ map (λ m. capped (l.reads * m.read_energy + l.writes * m.write_energy + l.held * m.hold)) (drop l.memory-index l.h.memories)
    ≡ map capped (memory_energies l.h l.reads l.writes l.held)
