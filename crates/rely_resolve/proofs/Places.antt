-- Places in lists of names.
use Rattle.std.proofs.Common.{◌≡◌, ◌≤◌, Bool, true, false, List, [], ◌∷◌, find, cond, length, Option, Some, None, refl, subst, arith}
use Rattle.std.specs.List.{AllByRecursion, position_from}
use Rattle.std.proofs.lemmas.Iterator.Adapters.{position_from-zero}
use Rattle.std.specs.Option.{option_map_or}
use Rattle.rely_num.specs.Ops.{is_op}
use Rattle.rely_num.specs.Texts.{Bytes, same_text}
use Rattle.rely_num.specs.declared.op.Op.{Op}
use Rattle.rely_hard.specs.declared.hardware.Hardware.{Hardware}
use Rattle.rely_hard.specs.declared.hardware.OpSpec.{OpSpec}
use Rattle.rely_hard.specs.Valid.{IsHardware, OperatorFits}
use Rattle.rely_kernel.specs.Setting.{kinds_of}
use Rattle.rely_resolve.specs.Names.{place_of}

-- a place, as a loop that counts finds it
pub place_from : (name : Bytes) (ns : List Bytes) → place_of name ns ≡ position_from (λ n. same_text n name) 0 ns
place_from name ns = position_from-zero (λ n. same_text n name) ns

-- one of two is found
by_test : {A : Type 0} (P : A → Type 0) (b : Bool) (y x : A) (rest : Option A) → P y → (rest ≡ Some x → P x) → cond b (Some y) rest ≡ Some x → P x
by_test P true y x rest here later e = let same : y ≡ x = cc in subst P same here
by_test P false y x rest here later e = later e

-- what is found is one of the list
pub found : {A : Type 0} (P : A → Type 0) (p : A → Bool) (xs : List A) (x : A) → AllByRecursion P xs → find p xs ≡ Some x → P x
found P p [] x all e = cc
found P p (y ∷ ys) x all e = by_test P (p y) y x (find p ys) all.0 (found P p ys x all.1) e

-- a hardware lists few kinds for an operator
pub few_kinds : (h : Hardware) (op : Op) → IsHardware h → length (kinds_of h op) ≤ 32
few_kinds h op valid = by_case (find (λ o. is_op o.op op) h.operators) refl
  where
    by_case : (o : Option OpSpec) → find (λ o. is_op o.op op) h.operators ≡ o → length (option_map_or (λ o. o.kinds) o []) ≤ 32
    by_case None e = omega arith
    by_case (Some o) e = (found OperatorFits (λ o. is_op o.op op) h.operators o valid.operators e).few
