-- Stores that change in place.
use Rattle.std.proofs.Common.{◌≡◌, ℕ, zero, suc, ◌<◌, ℤ, pos, List, [], ◌∷◌, ◌++◌, length, map, get_or, refl, sym, ap, subst, ◌∙◌, arith}
use Rattle.std.specs.Prelude.{slice_get, slice_set}
use Rattle.std.specs.Option.{option_map_or}
use Rattle.rely_kernel.specs.declared.kernel.Kernel.{Kernel}
use Rattle.rely_kernel.specs.declared.kernel.Var.{Var}
use Rattle.rely_kernel.specs.declared.setting.Store.{Store}
use Rattle.rely_kernel.specs.Machine.{cell, with_cell, fresh, zeros, parameters, locals}
use Rattle.rely_kernel.specs.Valid.{IsValid}
use Rattle.rely_machine.specs.Starts.{started}

-- a row of one number
one_set : (xs : List ℤ) (z : ℤ) → length xs ≡ 1 → slice_set xs 0 z ≡ z ∷ []
one_set [] z e = absurd (omega (arith, e))
one_set (x ∷ []) z e = refl
one_set (x ∷ y ∷ ys) z e = absurd (omega (arith, e))

-- a row that is there, whatever the default
there : (rows : List (List ℤ)) (v : ℕ) (row : List ℤ) → length (get_or rows v []) ≡ 1 → row ≡ get_or rows v row → length row ≡ 1
there [] v row h e = absurd (omega (arith, h))
there (r ∷ rs) zero row h e = ap length e ∙ h
there (r ∷ rs) (suc v) row h e = there rs v row h e

pub write_is : (cells : List (List ℤ)) (result : ℤ) (s : Store) (v : ℕ) (z : ℤ) (w : ℤ) (row new : List ℤ) → record { cells = cells; result = result } ≡ s → length (cell s v) ≡ 1 → row ≡ get_or cells v row → new ≡ slice_set row 0 w → w ≡ z
    → record { cells = slice_set cells v new; result = result } ≡ with_cell s v (z ∷ [])
write_is cells result s v z w row new same long is wrote number =
    let cells_same : s.cells ≡ cells = ap (λ (t : Store). t.cells) (sym same) in
    let one : length row ≡ 1 = there cells v row (subst (λ (rows : List (List ℤ)). length (get_or rows v []) ≡ 1) cells_same long) is in
    ap (λ (n : List ℤ). record { cells = slice_set cells v n; result = result }) (wrote ∙ (ap (slice_set row 0) number ∙ one_set row z one)) ∙ ap (λ (t : Store). with_cell t v (z ∷ [])) same

-- ---- where a callee starts

zeros_started : (xs : List Var) → started xs [] ≡ map zeros xs
zeros_started [] = refl
zeros_started (x ∷ xs) = ap (λ cs. zeros x ∷ cs) (zeros_started xs)

both_started : (ps ls : List Var) (zs : List ℤ) → length zs ≡ length ps → started (ps ++ ls) zs ≡ map (λ z. z ∷ []) zs ++ map zeros ls
both_started [] ls [] e = zeros_started ls
both_started [] ls (z ∷ zs) e = absurd (omega (arith, e))
both_started (p ∷ ps) ls [] e = absurd (omega (arith, e))
both_started (p ∷ ps) ls (z ∷ zs) e = ap (λ cs. (z ∷ []) ∷ cs) (both_started ps ls zs (omega (arith, e)))

pub started_long : (xs : List Var) (zs : List ℤ) → length (started xs zs) ≡ length xs
started_long [] zs = refl
started_long (x ∷ xs) [] = ap suc (started_long xs [])
started_long (x ∷ xs) (z ∷ zs) = ap suc (started_long xs zs)

pub started_at : (xs : List Var) (zs : List ℤ) (i : ℕ) (x : Var) → x ≡ get_or xs i x → i < length xs → get_or (started xs zs) i [] ≡ option_map_or (λ z. z ∷ []) (slice_get zs i) (zeros x)
started_at [] zs i x e below = absurd (omega (arith, below))
started_at (y ∷ ys) [] zero x e below = ap zeros (sym e)
started_at (y ∷ ys) (z ∷ zs) zero x e below = refl
started_at (y ∷ ys) [] (suc i) x e below = started_at ys [] i x e (omega (arith, below))
started_at (y ∷ ys) (z ∷ zs) (suc i) x e below = started_at ys zs i x e (omega (arith, below))

-- these are a callee's
pub fresh_is : (k : Kernel) (vars : List Var) (zs : List ℤ) (cells : List (List ℤ)) → cells ≡ started vars zs → IsValid k → k.vars ≡ vars → length zs ≡ length (parameters k) → record { cells = cells; result = pos 0 } ≡ fresh k zs
fresh_is k vars zs cells is valid same long =
    ap (λ (cs : List (List ℤ)). record { cells = cs; result = pos 0 })
    (is ∙ ap (λ xs. started xs zs) (sym same ∙ valid.in_order) ∙ both_started (parameters k) (locals k) zs long)
