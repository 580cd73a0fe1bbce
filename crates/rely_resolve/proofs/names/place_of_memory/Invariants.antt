use Rattle.std.proofs.Common.{◌≡◌, drop}
use Rattle.std.specs.List.{position_from}
use Rattle.rely_num.specs.Texts.{same_text}
use Rattle.rely_resolve.specs.Names.{place_of, memory_names}
use Rattle.rely_resolve.proofs.names.place_of_memory.Given as goal

abbrev pub invariant-loop-i : goal.invariant-loop-i
invariant-loop-i l = place_of l.name (memory_names l.memories) ≡ position_from (λ n. same_text n l.name) l.i (memory_names (drop l.i l.memories))
