-- Covering is kept by each step of the walk.
use Rattle.std.specs.Prelude.{List, flat_map, IsTrue}
use Rattle.rely_num.specs.declared.conj.Conj.{Conj}
use Rattle.rely_kernel.specs.declared.kernel.Kernel.{Kernel}
use Rattle.rely_kernel.specs.Paths.{all_paths, past, paths, skips}
use Rattle.rely_kernel.specs.Text.{Stmt, Block}
use Rattle.rely_precond.specs.Walk.{all_covered}

-- the paths of a conjunct through a statement, or past it where it writes nothing of the conjunct
abbrev pub through : Kernel → Stmt → Conj → List Conj
through k s c = past (skips s c) (paths k s) c

-- where each of the first list is covered by one of the second, each of what a step makes of the first is covered by one of
-- what it makes of the second
abbrev pub Keeps : (Conj → List Conj) → Type 0
Keeps step = (cs ds : List Conj) → IsTrue (all_covered cs ds) → IsTrue (all_covered (flat_map step cs) (flat_map step ds))

-- so do a statement and a text
abbrev pub CoveringIsKept : Type 0
CoveringIsKept = (k : Kernel) → ((s : Stmt) → Keeps (through k s)) × ((x : Block) → Keeps (all_paths k x))
