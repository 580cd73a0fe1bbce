-- What is found in rows and cells, and what a fault that is handed on says of the call that it comes from.
use Rattle.std.proofs.Common.{◌≡◌, ℕ, zero, suc, ◌+◌, ◌*◌, ◌<◌, ◌≤◌, ℤ, pos, false, of_z, to_z, List, [], ◌∷◌, ◌++◌, length, map, get_or, Some, Result, Ok, Err, refl, sym, ap, ◌∙◌, arith, IsTrue, IsErrAnd}
use Rattle.std.specs.Prelude.{is_none, slice_get, FitsSigned}
use Rattle.std.proofs.lemmas.Int.{to_z-of_z}
use Rattle.std.specs.List.{AllZip}
use Rattle.std.specs.Option.{option_map_or}
use Rattle.std.specs.Int.{w64}
use Rattle.std.proofs.lemmas.Bool.{false≢true}
use Rattle.std.proofs.lemmas.Option.{slice_get_read}
use Rattle.rely_kernel.specs.declared.kernel.Kernel.{Kernel}
use Rattle.rely_kernel.specs.declared.kernel.Linked.{Linked}
use Rattle.rely_kernel.specs.declared.kernel.Var.{Var}
use Rattle.rely_kernel.specs.declared.setting.Store.{Store}
use Rattle.rely_kernel.specs.Bound.{HasShape}
use Rattle.rely_kernel.specs.Labels.{labels_of}
use Rattle.rely_kernel.specs.Machine.{cell, size, functions}
use Rattle.rely_kernel.specs.Valid.{IsLinked, IsValid, is_scalar, is_array}
use Rattle.rely_kernel.specs.Running.{All-fit}
use Rattle.rely_kernel.proofs.Shape.{size_scalar, array_below, shape_long}
use Rattle.rely_machine.specs.declared.fault.RunFault.{RunFault}
use Rattle.rely_machine.specs.declared.fault.RunFault.TheVariants as fault
use Rattle.rely_machine.specs.declared.function.Function.{Function}
use Rattle.rely_machine.specs.Going.{Counts, IsRunning}

fault_in : {A : Type 0} → Result A RunFault → RunFault
fault_in (Ok a) = fault.Memory
fault_in (Err f) = f

-- the fault of a call that was handed on
pub steps_from : {A B : Type 0} (x : Result B RunFault) (y : Result A RunFault) (f : RunFault) → IsErrAnd y (λ e. e ≡ f) → x ≡ Err f → y ≡ Err fault.Steps → x ≡ Err fault.Steps
unfolding fault_in
steps_from x (Ok a) f h e is = absurd h
steps_from x (Err g) f h e is = e ∙ ap Err (sym h ∙ ap fault_in is)

-- a number that a list gives of what is found
pub found_map : {X : Type 0} (f : X → ℕ) (xs : List X) (i : ℕ) (x : X) → slice_get xs i ≡ Some x → get_or (map f xs) i 0 ≡ f x
found_map f [] i x e = absurd (cc)
found_map f (y ∷ ys) zero x e = cc
found_map f (y ∷ ys) (suc i) x e = found_map f ys i x e

-- the function's row has its labels
pub label_below : (r : Function) (s : Store) (t : Counts) → IsRunning r s t → (i : ℕ) → i < labels_of r.kernel.now → i < get_or (map length t.uses) r.at 0
label_below r s t h i below = rw (h.rows.rows, found_map labels_of (functions r.linked.now) r.at r.kernel.now h.known) below

scalar_in : (vs : List Var) (cs : List (List ℤ)) (v : ℕ) → AllZip (λ x xs. (length xs ≡ size x) × All-fit xs) vs cs → IsTrue (option_map_or (λ x. is_none x.length) (slice_get vs v) false) → length (get_or cs v []) ≡ 1
scalar_in [] [] v z h = absurd (false≢true h)
scalar_in [] (c ∷ cs) v z h = absurd z
scalar_in (x ∷ vs) [] v z h = absurd z
scalar_in (x ∷ vs) (c ∷ cs) zero z h = z.0.0 ∙ size_scalar x h
scalar_in (x ∷ vs) (c ∷ cs) (suc v) z h = scalar_in vs cs v z.1 h

-- a scalar has one number
pub scalar_long : (k : Kernel) (s : Store) (v : ℕ) → HasShape k s → IsTrue (is_scalar k v) → length (cell s v) ≡ 1
scalar_long k s v h fits = scalar_in k.vars s.cells v h.cells fits

-- an array is there
pub array_there : (k : Kernel) (s : Store) (a : ℕ) → HasShape k s → IsTrue (is_array k a) → a < length s.cells
array_there k s a h fits = rw (shape_long k s h) (array_below k a fits)

-- so a label of a variable has its place there
pub variable_label : (r : Function) (s : Store) (t : Counts) → IsRunning r s t → (v i : ℕ) → v < length r.kernel.now.vars → i ≤ 1 → length r.kernel.now.sites + 2 * v + i < get_or (map length t.uses) r.at 0
variable_label r s t h v i below few = label_below r s t h (length r.kernel.now.sites + 2 * v + i) (omega (arith, below, few))

-- ---- functions of a linked list

found_left : {X : Type 0} (xs ys : List X) (i : ℕ) (x : X) → slice_get xs i ≡ Some x → slice_get (xs ++ ys) i ≡ Some x
found_left [] ys i x e = absurd (cc)
found_left (y ∷ xs) ys zero x e = e
found_left (y ∷ xs) ys (suc i) x e = found_left xs ys i x e

pub found_last : {X : Type 0} (xs : List X) (x : X) → slice_get (xs ++ x ∷ []) (length xs) ≡ Some x
found_last [] x = refl
found_last (y ∷ xs) x = found_last xs x

-- one that is reached
pub inner_found : (l : Linked) (i : ℕ) (k : Kernel) → k ≡ get_or l.inner i k → i < length l.inner → slice_get (functions l) i ≡ Some k
inner_found l i k is below = found_left l.inner (l.kernel ∷ []) i k (slice_get_read l.inner (length l.inner) i k refl below is)

pub inner_valid : (l : Linked) (i : ℕ) (k : Kernel) → IsLinked l → k ≡ get_or l.inner i k → i < length l.inner → IsValid k
inner_valid l i k linked is below = linked.valid i k (inner_found l i k is below)

-- the last
pub kernel_valid : (l : Linked) → IsLinked l → IsValid l.kernel
kernel_valid l linked = linked.valid (length l.inner) l.kernel (found_last l.inner l.kernel)

-- ---- conditions

-- a number whose word is 0
pub zero_of : (z : ℤ) → FitsSigned w64 z → of_z w64 z ≡ 0 → z ≡ pos 0
zero_of z h e = sym (to_z-of_z w64 z h) ∙ ap (to_z w64) e

pub zero_in : (z : ℤ) → z ≡ pos 0 → of_z w64 z ≡ 0
zero_in z e = ap (of_z w64) e
