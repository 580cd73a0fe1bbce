-- Functions by their places.
use Rattle.std.proofs.Common.{◌≡◌, ℕ, zero, suc, ◌<◌, Bool, List, [], ◌∷◌, ◌++◌, ◌⊎◌, inl, inr, None, Result, Err, if◌then◌else◌, length, map, take, get_or, arith, refl, ap, sym, subst, ◌∙◌, Some}
use Rattle.std.specs.List.{AllByRecursion, take-map}
use Rattle.std.proofs.lemmas.Option.{slice_get-map, slice_get_read}
use Rattle.rely_hard.specs.declared.hardware.Hardware.{Hardware}
use Rattle.rely_tree.specs.Shape.{func_shape}
use Rattle.rely_tree.specs.Tree.{FuncTree}
use Rattle.rely_tree.specs.declared.unit.Func.{Func}
use Rattle.rely_tree.specs.Limits.{IsFunction}
use Rattle.rely_kernel.specs.declared.kernel.Linked.{Linked}
use Rattle.rely_resolve.specs.Kernels.{Done}
use Rattle.rely_resolve.specs.Linked.{fault_of, is_reached, linked_at, linked_from, nothing_done, unless, with_function}
use Rattle.rely_resolve.specs.declared.fault.NameFault.{NameFault}
use Rattle.rely_resolve.specs.declared.fault.NameFault.TheVariants.{Memory}

-- linking at a place goes over the functions before it
pub linked_at_is :
    (h : Hardware) (fs : List Func) (m : ℕ) (f : Func) → m < length fs → f ≡ get_or fs m f
    → linked_at h (map func_shape fs) m ≡ linked_from h (func_shape f) [] nothing_done (map func_shape (take m fs))
linked_at_is h fs m f within is = rw (slice_get-map func_shape fs m, slice_get_read fs (length fs) m f refl within is, take-map func_shape m fs) refl

-- what holds of each holds of the first ones
pub all_before : (fs : List Func) (m : ℕ) → AllByRecursion IsFunction (map func_shape fs) → AllByRecursion IsFunction (map func_shape (take m fs))
all_before fs zero all = tt
all_before [] (suc m) all = tt
all_before (f ∷ fs) (suc m) all = (all.0, all_before fs m all.1)

-- and of the one at a place
pub one_at : (fs : List Func) (m : ℕ) (f : Func) → m < length fs → f ≡ get_or fs m f → AllByRecursion IsFunction (map func_shape fs) → IsFunction (func_shape f)
one_at [] m f within is all = absurd (omega arith)
one_at (x ∷ xs) zero f within is all = subst (λ g. IsFunction (func_shape g)) (sym is) all.0
one_at (x ∷ xs) (suc m) f within is all = one_at xs m f (omega arith) is all.1

-- a fault of a reached function ends it
pub stops :
    (h : Hardware) (f : FuncTree) (earlier : List FuncTree) (done : Done) (g : FuncTree) (gs : List FuncTree) (fault : NameFault) (mark : Bool) (r : Result Linked NameFault)
    → mark ≡ is_reached f gs g → (fault ≡ Memory) ⊎ ((if mark then fault_of h earlier g else None) ≡ Some fault)
    → linked_from h f earlier done (g ∷ gs) ≡ r → (fault ≡ Memory) ⊎ (r ≡ Err fault)
stops h f earlier done g gs fault mark r same (inl memory) is = inl memory
stops h f earlier done g gs fault mark r same (inr found) is =
    inr (sym is ∙ ap (λ o. unless o (linked_from h f (earlier ++ g ∷ []) (if is_reached f gs g then with_function h done g else done) gs))
    (ap (λ b. if b then fault_of h earlier g else None) (sym same) ∙ found))

pub ruleset linking = (linked_at_is, all_before, one_at)
