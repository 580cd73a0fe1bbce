-- What a callee starts with.
use Rattle.std.specs.Prelude.{ℤ, List, [], ◌∷◌}
use Rattle.rely_kernel.specs.declared.kernel.Var.{Var}
use Rattle.rely_kernel.specs.Machine.{zeros}

-- an argument for each variable, and zeros for the others
abbrev pub started : List Var → List ℤ → List (List ℤ)
started [] zs = []
started (x ∷ xs) [] = zeros x ∷ started xs []
started (x ∷ xs) (z ∷ zs) = (z ∷ []) ∷ started xs zs
