-- What the top of a list of conjuncts is: its maximal conjuncts in ascending order.
use Rattle.std.specs.Prelude.{◌≡◌, List, [], ◌∷◌, Contains, IsTrue}
use Rattle.std.specs.List.{AllByRecursion}
use Rattle.rely_num.specs.declared.conj.Conj.{Conj}
use Rattle.rely_predicate.specs.Top.{covers, before, top}

-- no different conjunct of the list covers it
abbrev pub IsMaximal : List Conj → Conj → Type 0
IsMaximal cs c = (d : Conj) → Contains cs d → IsTrue (covers d c) → d ≡ c

-- each stands before all that follow it, so that none stands twice
abbrev pub IsAscending : List Conj → Type 0
IsAscending [] = Unit {0}
IsAscending (c ∷ cs) = AllByRecursion (λ d. IsTrue (before c d)) cs × IsAscending cs

-- the maximal conjuncts of a list, each once and in order
pub record AreMaximal (cs ts : List Conj) : Type 0 where
  pub member : (c : Conj) → Contains ts c → Contains cs c
  pub maximal : (c : Conj) → Contains ts c → IsMaximal cs c
  pub complete : (c : Conj) → Contains cs c → IsMaximal cs c → Contains ts c
  pub ascending : IsAscending ts

-- the top of each list is its maximal conjuncts
abbrev pub TopIsMaximal : Type 0
TopIsMaximal = (cs : List Conj) → AreMaximal cs (top cs)

-- and no other list is
abbrev pub MaximalIsTop : Type 0
MaximalIsTop = (cs ts : List Conj) → AreMaximal cs ts → ts ≡ top cs
