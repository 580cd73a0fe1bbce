-- The paths of a raised conjunct are the raised paths.
use Rattle.std.proofs.Common.{◌≡◌, ℕ, zero, suc, Bool, true, false, List, [], ◌∷◌, ◌++◌, map, flat_map, slice_get, refl, sym, ap, ap₂, ◌∙◌}
use Rattle.std.specs.Option.{option_map_or}
use Rattle.std.proofs.lemmas.List.{map-append}
use Rattle.rely_num.specs.declared.conj.Conj.{Conj}
use Rattle.rely_kernel.specs.declared.kernel.Kernel.{Kernel}
use Rattle.rely_kernel.specs.declared.label.Label.TheVariants as label
use Rattle.rely_kernel.specs.Paths.{skips, count, forget, use_of, uses_of, turns, rounds, past, paths, all_paths}
use Rattle.rely_kernel.specs.Text.{Stmt, Block, done, ◌then◌}
use Rattle.rely_predicate.specs.Shift.{raise}
use Rattle.rely_precond.proofs.Grown.{count_raise, use_raise, uses_raise}

module _ (by : List ℕ) where
  abbrev pub Shifts : (Conj → List Conj) → Type 0
  Shifts f = (c : Conj) → f (raise by c) ≡ map (raise by) (f c)

  pub flat_shift : (f : Conj → List Conj) → Shifts f → (xs : List Conj) → flat_map f (map (raise by) xs) ≡ map (raise by) (flat_map f xs)
  flat_shift f shifts [] = refl
  flat_shift f shifts (x ∷ xs) = ap₂ ◌++◌ (shifts x) (flat_shift f shifts xs) ∙ sym (map-append (raise by) (f x) (flat_map f xs))

  pub map_shift : (g : Conj → Conj) → ((c : Conj) → g (raise by c) ≡ raise by (g c)) → (xs : List Conj) → map g (map (raise by) xs) ≡ map (raise by) (map g xs)
  map_shift g shifts [] = refl
  map_shift g shifts (x ∷ xs) = λ i. shifts x i ∷ map_shift g shifts xs i

  turns_shift : (f : Conj → List Conj) → Shifts f → (n : ℕ) → Shifts (turns n f)
  turns_shift f shifts zero c = refl
  turns_shift f shifts (suc n) c = ap (flat_map f) (turns_shift f shifts n c) ∙ flat_shift f shifts (turns n f c)

  rounds_shift : (test : Conj → Conj) → ((c : Conj) → test (raise by c) ≡ raise by (test c)) → (f : Conj → List Conj) → Shifts f → (n : ℕ) → Shifts (rounds n test f)
  rounds_shift test same f shifts zero c = refl
  rounds_shift test same f shifts (suc n) c =
      ap (λ xs. map test (xs ++ raise by c ∷ [])) (ap (flat_map f) (rounds_shift test same f shifts n c) ∙ flat_shift f shifts (rounds n test f c))
      ∙ ap (map test) (sym (map-append (raise by) (flat_map f (rounds n test f c)) (c ∷ []))) ∙ map_shift test same (flat_map f (rounds n test f c) ++ c ∷ [])

  module _ (k : Kernel) where
    past_shift : (f : Conj → List Conj) → Shifts f → (t : Bool) → Shifts (past t f)
    past_shift f shifts true c = refl
    past_shift f shifts false c = shifts c

    mutual
      pub paths_shift : (s : Stmt) → Shifts (paths k s)
      paths_shift (Stmt.Set v e) c =
          ap (λ d. d ∷ []) (ap (use_of k e) (count_raise k (label.Write v) by (forget v c)) ∙ use_raise k e by (count k (label.Write v) (forget v c)))
      paths_shift (Stmt.SetElem v i e) c =
          let d : Conj = count k (label.Write v) c in
          ap (λ x. x ∷ []) (ap (λ x. use_of k i (use_of k e x)) (count_raise k (label.Write v) by c) ∙ ap (use_of k i) (use_raise k e by d) ∙ use_raise k i by (use_of k e d))
      paths_shift (Stmt.If e s t) c =
          ap (map (use_of k e)) (ap₂ ◌++◌ (all_shift s c) (all_shift t c) ∙ sym (map-append (raise by) (all_paths k s c) (all_paths k t c)))
          ∙ map_shift (use_of k e) (use_raise k e by) (all_paths k s c ++ all_paths k t c)
      paths_shift (Stmt.While e n s) c = rounds_shift (use_of k e) (use_raise k e by) (all_paths k s) (all_shift s) n c
      paths_shift (Stmt.Repeat n s) c = turns_shift (all_paths k s) (all_shift s) n c
      paths_shift (Stmt.Result e) c = ap (λ d. d ∷ []) (use_raise k e by (forget 63 c))
      paths_shift (Stmt.Call v place es) c =
          let x : Conj = count k (label.Write v) (forget v c) in
          let needs : ℕ = option_map_or (λ site. site.needs.bits) (slice_get k.calls place) 0 in
          ap (λ d. d ∷ []) (ap (λ y. uses_of k needs 0 es (count k (label.Call place) y)) (count_raise k (label.Write v) by (forget v c))
          ∙ ap (uses_of k needs 0 es) (count_raise k (label.Call place) by x) ∙ uses_raise k needs 0 es by (count k (label.Call place) x))
      paths_shift Stmt.Enter c = refl

      pub all_shift : (x : Block) → Shifts (all_paths k x)
      all_shift done c = refl
      all_shift (s then rest) c =
          ap (flat_map (λ d. past (skips s d) (paths k s) d)) (all_shift rest c)
          ∙ flat_shift (λ d. past (skips s d) (paths k s) d) (λ d. past_shift (paths k s) (paths_shift s) (skips s d) d) (all_paths k rest c)
