-- The last statement of a block.
use Rattle.std.specs.Prelude.{◌≡◌, List, [], ◌∷◌, ◌++◌}
use Rattle.rely_kernel.specs.declared.kernel.St.{St}
use Rattle.rely_precond.specs.declared.written.Last.{Last}

-- it stands behind the others, at its place
pub record IsLast (body : List St) (last : Last) : Type 0 where
  pub statement : St
  pub split : body ≡ last.before.body.now ++ statement ∷ []
  pub at : last.statement.at ≡ statement.at
  pub what : last.statement.what.now ≡ statement.what
