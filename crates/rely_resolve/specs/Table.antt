-- Tables of names.
use Rattle.std.specs.Prelude.{◌≡◌, ℕ, List}
use Rattle.std.specs.Borrow.{Bor}
use Rattle.indexmap.specs.IndexMap.{IndexMap, get_by}
use Rattle.rely_num.specs.Texts.{Bytes, same_text}
use Rattle.rely_resolve.specs.Names.{place_of}

-- each name has its first place in the list
pub record Finds {S : Type 0} (table : IndexMap (Bor Bytes) ℕ S) (names : List Bytes) : Type 0 where
  pub places : (name : Bytes) → get_by (λ k. same_text name k.now) table ≡ place_of name names
