-- The limits of the walks of all claims, and the first claim that doesn't need a variable that it should.
use Rattle.std.specs.Prelude.{ℕ, ◌≡◌, ◌+◌, List, [], ◌∷◌, Option, Some, None, ◌⊎◌}
use Rattle.std.specs.Option.{option_or}
use Rattle.rely_num.specs.declared.conj.Conj.{Conj}
use Rattle.rely_num.specs.declared.span.Span.{Span}
use Rattle.rely_kernel.specs.declared.kernel.Claim.{Claim}
use Rattle.rely_kernel.specs.declared.kernel.Kernel.{Kernel}
use Rattle.rely_precond.specs.Walk.{Limit, walk_claim}
use Rattle.rely_precond.specs.declared.fault.PreFault.{PreFault}
use Rattle.rely_precond.specs.declared.fault.PreFault.TheVariants as walk
use Rattle.rely_verdict.specs.Judged.{first_outside}
use Rattle.chisel_claims.specs.Verdicts.{fault_at, limit_of}

-- the first limit that the walk of one of these claims reaches, claim by claim
abbrev pub first_limit : Kernel → List Claim → Option (Limit × Span)
first_limit k [] = None
first_limit k (c ∷ cs) = option_or (limit_of (walk_claim k c.target)) (first_limit k cs)

-- the fault is that limit, or want of memory
abbrev pub IsFirstLimit : Kernel → List Claim → PreFault → Type 0
IsFirstLimit k cs f = (f ≡ walk.Memory) ⊎ ((limit : Limit × Span) × (f ≡ fault_at limit) × (first_limit k cs ≡ Some limit))

-- the number of the claim, and the variable of its verdict; the rest where it needs all that it should
abbrev pub needs_or : ℕ → Option ℕ → Option (ℕ × ℕ) → Option (ℕ × ℕ)
needs_or i (Some var) rest = Some (i, var)
needs_or i None rest = rest

-- the first claim, by its number, of which a conjunct has a variable outside the needs, and that variable
abbrev pub first_needs : ℕ → List Claim → List (List Conj) → Option (ℕ × ℕ)
first_needs i [] css = None
first_needs i (c ∷ cs) [] = None
first_needs i (c ∷ cs) (conjuncts ∷ css) = needs_or i (first_outside c.needs.bits conjuncts) (first_needs (i + 1) cs css)
