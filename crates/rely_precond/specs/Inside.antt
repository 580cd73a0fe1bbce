-- What becomes of the conjuncts that a choice or a loop writes.
use Rattle.std.specs.Prelude.{ℕ, zero, suc, Bool, true, false, ◌||◌, List, ◌++◌, map}
use Rattle.std.specs.List.{list_all}
use Rattle.rely_num.specs.declared.conj.Conj.{Conj}
use Rattle.rely_num.specs.declared.span.Span.{Span}
use Rattle.rely_kernel.specs.declared.kernel.Kernel.{Kernel}
use Rattle.rely_kernel.specs.Paths.{skips, use_of}
use Rattle.rely_kernel.specs.Text.{Stmt}
use Rattle.rely_precond.specs.Places.{Line}
use Rattle.rely_precond.specs.Walk.{Walked, Stands, and_then, stand, repeats, whiles, walk_all}

-- a `while` of no turn
abbrev pub is_idle : Stmt → Bool
is_idle (Stmt.Set v e) = false
is_idle (Stmt.SetElem a i e) = false
is_idle (Stmt.If c s t) = false
is_idle (Stmt.While c zero s) = true
is_idle (Stmt.While c (suc n) s) = false
is_idle (Stmt.Repeat n s) = false
is_idle (Stmt.Result e) = false
is_idle (Stmt.Call v place es) = false
is_idle Stmt.Enter = false

-- nothing changes: at a `while` of no turn, and where the statement writes nothing of any conjunct
abbrev pub stands_still : Stmt → List Conj → Bool
stands_still s ps = is_idle s || list_all (skips s) ps

abbrev pub inside : Kernel → Span → Line → List Conj → ℕ → Walked
inside k at (Line.Set v e) ts w = Stands ts w
inside k at (Line.SetElem a i e) ts w = Stands ts w
inside k at (Line.Result e) ts w = Stands ts w
inside k at (Line.Call v place es) ts w = Stands ts w
inside k at (Line.If e s t) ts w =
    and_then (walk_all k s ts w) (λ a v.
    and_then (walk_all k t ts v) (λ b u.
    Stands (map (use_of k e) (a ++ b)) u))
inside k at (Line.Repeat n s) ts w = repeats at (λ q w. walk_all k s q w) n ts w
inside k at (Line.While e n s) ts w = whiles at (use_of k e) (λ q w. walk_all k s q w) ts n ts w

-- they stand behind those that it doesn't write
abbrev pub beside : Kernel → Span → Line → List Conj → List Conj → ℕ → Walked
beside k at s us ts work = and_then (inside k at s ts work) (λ q w. stand at (us ++ q) w)
