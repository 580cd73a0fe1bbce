-- What the walk's definition means in other words.
use Rattle.std.specs.Prelude.{◌≡◌, ◌↔◌, ℕ, List, [], ◌++◌, length, map, flat_map, None}
use Rattle.rely_num.specs.declared.conj.Conj.{Conj}
use Rattle.rely_kernel.specs.declared.kernel.Kernel.{Kernel}
use Rattle.rely_kernel.specs.Paths.{all_paths}
use Rattle.rely_kernel.specs.Text.{Block}
use Rattle.rely_predicate.specs.Shift.{raise}
use Rattle.rely_predicate.specs.Top.{top}
use Rattle.rely_precond.specs.Walk.{added}

-- a prefix with which the top has 257 conjuncts
pub record IsWide (p cs : List Conj) : Type 0 where
  pub first : List Conj
  pub rest : List Conj
  pub cut : first ++ rest ≡ cs
  pub wide : length (top (p ++ first)) ≡ 257

-- a list is too wide exactly where the top of one of its prefixes has 257 conjuncts
abbrev pub WideAtAPrefix : Type 0
WideAtAPrefix = (ps : List Conj) → (added [] ps ≡ None) ↔ IsWide [] ps

-- where every conjunct grows by one vector, the top of the paths through a text grows by that vector
abbrev pub CommutesWithShift : Type 0
CommutesWithShift = (k : Kernel) (x : Block) (by : List ℕ) (ps : List Conj) → top (flat_map (all_paths k x) (map (raise by) ps)) ≡ map (raise by) (top (flat_map (all_paths k x) ps))
