-- What a renamed source means.
use Rattle.std.proofs.Common.{◌≡◌, ℕ, zero, suc, Bool, true, false, cond, List, [], ◌∷◌, ◌++◌, map, take, Option, Some, None, Ok, Err, refl, ap, sym, ◌∙◌, subst, if◌then◌else◌}
use Rattle.std.specs.Prelude.{Result, slice_get}
use Rattle.std.specs.List.{AllByRecursion}
use Rattle.std.specs.Option.{option_map_or}
use Rattle.std.proofs.lemmas.List.{map-append}
use Rattle.rely_num.specs.Texts.{Bytes, is_among}
use Rattle.rely_hard.specs.declared.hardware.Hardware.{Hardware}
use Rattle.rely_kernel.specs.declared.kernel.Kernel.{Kernel}
use Rattle.rely_kernel.specs.declared.kernel.Linked.{Linked}
use Rattle.rely_tree.specs.Tree.{FuncTree, UnitTree}
use Rattle.rely_resolve.specs.Faults.{first_of, function_faults}
use Rattle.rely_resolve.specs.Kernels.{Done, kernel_of}
use Rattle.rely_resolve.specs.Linked.{block_callees, called_from, fault_of, is_reached, linked_at, linked_from, linked_of, nothing_done, twice_among, unless, with_function}
use Rattle.rely_resolve.specs.Names.{function_names, place_of}
use Rattle.rely_resolve.specs.declared.fault.NameFault.{NameFault}
use Rattle.rely_resolve.specs.declared.fault.NameFault.TheVariants.{Function, Twice}
use Rattle.rely_resolve.proofs.ValidLinked.{unless_ok}
use Rattle.rely_resolve.proofs.ValidNames.{none_first}
use Rattle.chisel_rewritten_source.specs.Trees.{Renaming, renamed_block, renamed_func, renamed_unit}
use Rattle.chisel_rewritten_source.proofs.NoFaults.{Opens, function_none}
use Rattle.chisel_rewritten_source.proofs.SameKernel.{AreRenamed, IsDone, IsRenamed, kernel_renamed, more, none}
use Rattle.chisel_rewritten_source.proofs.SameText.{same_callees}

-- kernels that are linked, and the renamed ones
pub record IsRelinked (h : Hardware) (r : Renaming) (l other : Linked) : Type 0 where
  pub kernel : IsRenamed h r l.kernel other.kernel
  pub inner : AreRenamed h r l.inner other.inner

-- that is what a renamed source means
pub record Relinked (h : Hardware) (r : Renaming) (l : Linked) (means : Result Linked NameFault) : Type 0 where
  pub other : Linked
  pub answer : means ≡ Ok other
  pub is : IsRelinked h r l other

module _ (h : Hardware) (r : Renaming) where
  -- ---- which functions are reached

  called_same : (f : FuncTree) (gs : List FuncTree) → called_from (renamed_func r f) (map (renamed_func r) gs) ≡ called_from f gs
  called_same f [] = same_callees r f.body
  called_same f (g ∷ gs) =
      ap (λ later. later ++ (if is_among g.name.text later then block_callees (renamed_block r g.body) else [])) (called_same f gs)
      ∙ ap (λ mine. called_from f gs ++ (if is_among g.name.text (called_from f gs) then mine else [])) (same_callees r g.body)

  reached_same : (f : FuncTree) (gs : List FuncTree) (g : FuncTree) → is_reached (renamed_func r f) (map (renamed_func r) gs) (renamed_func r g) ≡ is_reached f gs g
  reached_same f gs g = ap (is_among g.name.text) (called_same f gs)

  -- ---- faults

  fault_none : (earlier : List FuncTree) (f : FuncTree) → Opens h r f → fault_of h earlier f ≡ None → fault_of h (map (renamed_func r) earlier) (renamed_func r f) ≡ None
  fault_none earlier f opens e = ap first_of (function_none h r earlier f opens (none_first (function_faults h earlier f) e))

  -- ---- kernel by kernel

  more_renamed : (ks others : List Kernel) (k other : Kernel) → AreRenamed h r ks others → IsRenamed h r k other → AreRenamed h r (ks ++ k ∷ []) (others ++ other ∷ [])
  more_renamed [] [] k other none is = more is none
  more_renamed [] (y ∷ others) k other all is = elim all [ ]
  more_renamed (x ∷ ks) [] k other all is = elim all [ ]
  more_renamed (x ∷ ks) (y ∷ others) k other (more i all) is = more i (more_renamed ks others k other all is)

  done_more : (done other : Done) (g : FuncTree) → IsDone h r done other → IsDone h r (with_function h done g) (with_function h other (renamed_func r g))
  done_more done other g is = record {
    names = ap (λ ns. ns ++ g.name.text ∷ []) is.names;
    kernels = more_renamed done.kernels other.kernels (kernel_of h done g) (kernel_of h other (renamed_func r g)) is.kernels (kernel_renamed h r done other is g);
  }

  done_if : (b : Bool) (done other : Done) (g : FuncTree) → IsDone h r done other → IsDone h r (cond b (with_function h done g) done) (cond b (with_function h other (renamed_func r g)) other)
  done_if true done other g is = done_more done other g is
  done_if false done other g is = is

  fault_if : (b : Bool) (earlier : List FuncTree) (g : FuncTree) → Opens h r g → cond b (fault_of h earlier g) None ≡ None
      → cond b (fault_of h (map (renamed_func r) earlier) (renamed_func r g)) None ≡ None
  fault_if true earlier g opens e = fault_none earlier g opens e
  fault_if false earlier g opens e = refl

  same_Ok : (l other : Linked) → (let x : Result Linked NameFault = Ok l in x) ≡ Ok other → l ≡ other
  same_Ok l other e = ap (λ (x : Result Linked NameFault). got x) e
    where
      got : Result Linked NameFault → Linked
      got (Ok x) = x
      got (Err f) = l

  from_renamed : (f : FuncTree) (gs earlier : List FuncTree) (done other : Done) (l : Linked) → Opens h r f → AllByRecursion (Opens h r) gs → IsDone h r done other
      → linked_from h f earlier done gs ≡ Ok l → Relinked h r l (linked_from h (renamed_func r f) (map (renamed_func r) earlier) other (map (renamed_func r) gs))
  from_renamed f [] earlier done other l opens all is e =
      let (fault, found) = unless_ok (fault_of h earlier f) (Ok (record { kernel = kernel_of h done f; inner = done.kernels })) l e in
      let l_is = same_Ok (record { kernel = kernel_of h done f; inner = done.kernels }) l found in
      let new : Linked = record { kernel = kernel_of h other (renamed_func r f); inner = other.kernels } in
      record {
        other = new;
        answer = ap (λ o. unless o (Ok new)) (fault_none earlier f opens fault);
        is = subst (λ l. IsRelinked h r l new) l_is (record { kernel = kernel_renamed h r done other is f; inner = is.kernels });
      }
  from_renamed f (g ∷ gs) earlier done other l opens all is e =
      let b = is_reached f gs g in
      let old = cond b (with_function h done g) done in
      let new = cond b (with_function h other (renamed_func r g)) other in
      let (fault, found) = unless_ok (cond b (fault_of h earlier g) None) (linked_from h f (earlier ++ g ∷ []) old gs) l e in
      let rest = from_renamed f gs (earlier ++ g ∷ []) old new l opens all.1 (done_if b done other g is) found in
      record {
        other = rest.other;
        answer =
            ap (λ b. unless (cond b (fault_of h (map (renamed_func r) earlier) (renamed_func r g)) None)
            (linked_from h (renamed_func r f) (map (renamed_func r) earlier ++ renamed_func r g ∷ []) (cond b (with_function h other (renamed_func r g)) other) (map (renamed_func r) gs)))
            (reached_same f gs g)
            ∙ (ap (λ o. unless o (linked_from h (renamed_func r f) (map (renamed_func r) earlier ++ renamed_func r g ∷ []) new (map (renamed_func r) gs))) (fault_if b earlier g (all.0) fault)
            ∙ (ap (λ fs. linked_from h (renamed_func r f) fs new (map (renamed_func r) gs)) (sym (map-append (renamed_func r) earlier (g ∷ []))) ∙ rest.answer));
        is = rest.is;
      }

  -- ---- the whole

  twice_same : (seen : List Bytes) (fs : List FuncTree) → twice_among seen fs ≡ None → twice_among seen (map (renamed_func r) fs) ≡ None
  twice_same seen [] e = refl
  twice_same seen (f ∷ fs) e = one (is_among f.name.text seen) (twice_same (seen ++ f.name.text ∷ []) fs) e
    where
      one : (b : Bool) → (twice_among (seen ++ f.name.text ∷ []) fs ≡ None → twice_among (seen ++ f.name.text ∷ []) (map (renamed_func r) fs) ≡ None)
          → cond b (Some (Twice f.name.span)) (twice_among (seen ++ f.name.text ∷ []) fs) ≡ None
          → cond b (Some (Twice (r.at f.name.span))) (twice_among (seen ++ f.name.text ∷ []) (map (renamed_func r) fs)) ≡ None
      one true rest e = absurd (cc)
      one false rest e = rest e

  names_same : (fs : List FuncTree) → function_names (map (renamed_func r) fs) ≡ function_names fs
  names_same [] = refl
  names_same (f ∷ fs) = ap (λ ns. f.name.text ∷ ns) (names_same fs)

  take_same : (m : ℕ) (fs : List FuncTree) → take m (map (renamed_func r) fs) ≡ map (renamed_func r) (take m fs)
  take_same zero fs = refl
  take_same (suc m) [] = refl
  take_same (suc m) (f ∷ fs) = ap (λ gs. renamed_func r f ∷ gs) (take_same m fs)

  all_taken : (P : FuncTree → Type 0) (m : ℕ) (fs : List FuncTree) → AllByRecursion P fs → AllByRecursion P (take m fs)
  all_taken P zero fs all = tt
  all_taken P (suc m) [] all = tt
  all_taken P (suc m) (f ∷ fs) all = (all.0, all_taken P m fs all.1)

  at_renamed : (fs : List FuncTree) (m : ℕ) (l : Linked) → AllByRecursion (Opens h r) fs → linked_at h fs m ≡ Ok l → Relinked h r l (linked_at h (map (renamed_func r) fs) m)
  at_renamed fs m l all e = go fs m (take m fs) all (all_taken (Opens h r) m fs all) (take_same m fs) e
    where
      -- the function at the place
      go : (gs : List FuncTree) (i : ℕ) (before : List FuncTree) → AllByRecursion (Opens h r) gs → AllByRecursion (Opens h r) before → take m (map (renamed_func r) fs) ≡ map (renamed_func r) before
          → option_map_or (λ f. linked_from h f [] nothing_done before) (slice_get gs i) (Err Function) ≡ Ok l
          → Relinked h r l (option_map_or (λ f. linked_from h f [] nothing_done (take m (map (renamed_func r) fs))) (slice_get (map (renamed_func r) gs) i) (Err Function))
      go [] i before all opens same e = absurd (cc)
      go (f ∷ gs) zero before all opens same e =
          let found = from_renamed f before [] nothing_done nothing_done l all.0 opens (record { names = refl; kernels = none }) e in
          record { other = found.other; answer = ap (λ fs. linked_from h (renamed_func r f) [] nothing_done fs) same ∙ found.answer; is = found.is }
      go (f ∷ gs) (suc i) before all opens same e = go gs i before all.1 opens same e

  pub unit_renamed : (u : UnitTree) (name : Bytes) (l : Linked) → AllByRecursion (Opens h r) u.functions → linked_of u name h ≡ Ok l → Relinked h r l (linked_of (renamed_unit r u) name h)
  unit_renamed u name l all e =
      let (twice, found) = unless_ok (twice_among [] u.functions) (option_map_or (linked_at h u.functions) (place_of name (function_names u.functions)) (Err Function)) l e in
      let rest = one (place_of name (function_names u.functions)) found in
      record {
        other = rest.other;
        answer = ap (λ o. unless o (linked_at' (place_of name (function_names (map (renamed_func r) u.functions))))) (twice_same [] u.functions twice)
            ∙ (ap (λ ns. linked_at' (place_of name ns)) (names_same u.functions) ∙ rest.answer);
        is = rest.is;
      }
    where
      linked_at' : Option ℕ → Result Linked NameFault
      linked_at' o = option_map_or (linked_at h (map (renamed_func r) u.functions)) o (Err Function)

      one : (o : Option ℕ) → option_map_or (linked_at h u.functions) o (Err Function) ≡ Ok l → Relinked h r l (option_map_or (linked_at h (map (renamed_func r) u.functions)) o (Err Function))
      one None e = absurd (cc)
      one (Some m) e = at_renamed u.functions m l all e
