-- What the answers to a claim say of its walk.
use Rattle.std.specs.Prelude.{◌≡◌, ℕ, ◌<◌, ◌^◌, ◌⊎◌, true, false, List, length, IsTrue, nat_le}
use Rattle.std.specs.List.{All, list_any}
use Rattle.rely_num.specs.declared.conj.Conj.{Conj}
use Rattle.rely_kernel.specs.declared.kernel.Kernel.{Kernel}
use Rattle.rely_kernel.specs.Labels.{labels_of}
use Rattle.rely_kernel.specs.Paths.{paths_of}
use Rattle.rely_num.specs.declared.span.Span.{Span}
use Rattle.rely_loops.specs.Grown.{too_many}
use Rattle.rely_predicate.specs.Predicates.{Conjuncts}
use Rattle.rely_predicate.specs.Top.{top}
use Rattle.rely_precond.specs.declared.fault.PreFault.{PreFault}
use Rattle.rely_precond.specs.declared.fault.PreFault.TheVariants as fault
use Rattle.rely_precond.specs.Walk.{Walked, Stands, Stops, Wide, Count, Work, walk_claim}

-- the walk stands with these conjuncts
abbrev pub StandsWith : Walked → List Conj → Type 0
StandsWith w cs = (work : ℕ) × (w ≡ Stands cs work)

-- the limit at which the walk stops; want of memory says nothing of it
abbrev pub IsStop : Walked → PreFault → Type 0
IsStop w (fault.Wide at) = w ≡ Stops Wide at
IsStop w (fault.Count at) = w ≡ Stops Count at
IsStop w (fault.Work at) = w ≡ Stops Work at
IsStop w fault.Memory = Unit {0}

-- no count reaches 2^36
abbrev pub AreFew : List ℕ → Type 0
AreFew counts = list_any (nat_le (2 ^ 36)) counts ≡ false

-- a count of the conjunct reaches 2^36
pub record IsOver (c : Conj) : Type 0 where
  pub some : list_any (nat_le (2 ^ 36)) c.counts ≡ true

-- why a list isn't made: one of its counts reaches 2^36, or want of memory
abbrev pub IsFull : Span → List Conj → PreFault → Type 0
IsFull at cs f = (f ≡ fault.Memory) ⊎ ((f ≡ fault.Count at) × IsTrue (too_many cs))

-- each count is one of a label, and none reaches 2^36
abbrev pub AreCounts : ℕ → Conj → Type 0
AreCounts labels c = (length c.counts ≡ labels) × All (λ n. n < 2 ^ 36) c.counts

-- the predicate of a claim with that target
pub record IsPredicateOf (k : Kernel) (target : ℕ) (p : Conjuncts) : Type 0 where
  pub walked : StandsWith (walk_claim k target) p.conjs
  pub top : p.conjs ≡ top (paths_of k target)
  pub labels : p.labels ≡ labels_of k
  pub some : 0 < length p.conjs
  pub counts : All (AreCounts (labels_of k)) p.conjs
