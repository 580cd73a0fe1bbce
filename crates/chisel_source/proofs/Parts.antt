-- What is ready, function by function: the kernels are valid, on the hardware, and closed.
use Rattle.std.proofs.Common.{◌≡◌, ℕ, suc, List, [], ◌∷◌, ◌++◌, Some, refl}
use Rattle.std.specs.Prelude.{slice_get}
use Rattle.std.specs.List.{AllByRecursion}
use Rattle.rely_kernel.specs.declared.kernel.Linked.{Linked}
use Rattle.rely_kernel.specs.Machine.{functions}
use Rattle.rely_kernel.specs.Setting.{IsClosed, IsOn}
use Rattle.rely_kernel.specs.Valid.{IsValid}
use Rattle.chisel_source.specs.declared.ready.Ready.{Ready}
use Rattle.chisel_source.specs.Meaning.{AreClosed, IsReady}

all_but_last : {X : Type 0} (P : X → Type 0) (xs : List X) (x : X) → AllByRecursion P (xs ++ x ∷ []) → AllByRecursion P xs
all_but_last P [] x h = tt
all_but_last P (y ∷ ys) x h = (h.0, all_but_last P ys x h.1)

last_of : {X : Type 0} (P : X → Type 0) (xs : List X) (x : X) → AllByRecursion P (xs ++ x ∷ []) → P x
last_of P [] x h = h.0
last_of P (y ∷ ys) x h = last_of P ys x h.1

each_at : {X : Type 0} (P : X → Type 0) (xs : List X) → ((i : ℕ) (x : X) → slice_get xs i ≡ Some x → P x) → AllByRecursion P xs
each_at P [] h = tt
each_at P (x ∷ xs) h = (h 0 x refl, each_at P xs (λ i y e. h (suc i) y e))

module _ (r : Ready) (ready : IsReady r) where
  all_valid : AllByRecursion IsValid (functions r.linked)
  all_valid = each_at IsValid (functions r.linked) (λ i k e. ready.linked.valid i k e)

  pub inner_valid : AllByRecursion IsValid r.linked.inner
  inner_valid = all_but_last IsValid r.linked.inner r.linked.kernel all_valid

  pub own_valid : IsValid r.linked.kernel
  own_valid = last_of IsValid r.linked.inner r.linked.kernel all_valid

  pub inner_on : AllByRecursion (IsOn r.hardware) r.linked.inner
  inner_on = all_but_last (IsOn r.hardware) r.linked.inner r.linked.kernel ready.on

  pub own_on : IsOn r.hardware r.linked.kernel
  own_on = last_of (IsOn r.hardware) r.linked.inner r.linked.kernel ready.on

module _ (l : Linked) (closed : AreClosed l) where
  pub inner_closed : AllByRecursion IsClosed l.inner
  inner_closed = all_but_last IsClosed l.inner l.kernel closed

  pub own_closed : IsClosed l.kernel
  own_closed = last_of IsClosed l.inner l.kernel closed
