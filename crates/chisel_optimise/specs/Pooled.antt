-- Trees that close their parts with rows and vectors of the pool alone.
use Rattle.chisel_cert.specs.Tree.{Closing, pooled, own, Tree, leaf, branch, Trees, nil, cons}

-- the closing has no vector of its own
abbrev pub IsShared : Closing → Type 0
IsShared (pooled close) = Unit {0}
IsShared (own rule vector) = ⊥

-- no leaf has
unfoldable mutual
  pub IsPooled : Tree → Type 0
  IsPooled (leaf closing) = IsShared closing
  IsPooled (branch decision children) = ArePooled children

  pub ArePooled : Trees → Type 0
  ArePooled nil = Unit {0}
  ArePooled (cons tree rest) = IsPooled tree × ArePooled rest
