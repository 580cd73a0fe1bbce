-- Which functions a function reaches, and that their kernels are linked with its own.
use Rattle.std.specs.Prelude.{◌≡◌, ℕ, suc, ◌<◌, List, [], ◌∷◌, slice_get, Some, IsTrue}
use Rattle.rely_num.specs.Texts.{Bytes, is_among}
use Rattle.rely_hard.specs.declared.hardware.Hardware.{Hardware}
use Rattle.rely_kernel.specs.declared.kernel.Linked.{Linked}
use Rattle.rely_tree.specs.Tree.{FuncTree, UnitTree}
use Rattle.rely_resolve.specs.Kernels.{Done, kernel_of}
use Rattle.rely_resolve.specs.Linked.{block_callees, nothing_done, with_function}

-- the function at one place calls the one at another, behind which it stands
pub record Calls (functions : List FuncTree) (from to : ℕ) : Type 0 where
  pub behind : to < from
  pub caller : FuncTree
  pub callee : FuncTree
  pub at_caller : slice_get functions from ≡ Some caller
  pub at_callee : slice_get functions to ≡ Some callee
  pub called : IsTrue (is_among callee.name.text (block_callees caller.body))

-- the function at the place main, or a reached one, calls it
pub data IsReached (functions : List FuncTree) (main : ℕ) : ℕ → Type 0 where
  by_main : {place : ℕ} → Calls functions main place → IsReached functions main place
  by_reached : {from place : ℕ} → IsReached functions main from → Calls functions from place → IsReached functions main place

-- the latter are those of the former that stand at a place with the property, in order; the first place has this number
pub data Those (P : ℕ → Type 0) : ℕ → List FuncTree → List FuncTree → Type 0 where
  ended : {place : ℕ} → Those P place [] []
  kept : {place : ℕ} {f : FuncTree} {fs gs : List FuncTree} → P place → Those P (suc place) fs gs → Those P place (f ∷ fs) (f ∷ gs)
  passed : {place : ℕ} {f : FuncTree} {fs gs : List FuncTree} → (P place → ⊥) → Those P (suc place) fs gs → Those P place (f ∷ fs) gs

-- the kernels of these functions, one after the other, behind those that are done
abbrev pub done_with : Hardware → Done → List FuncTree → Done
done_with h done [] = done
done_with h done (g ∷ gs) = done_with h (with_function h done g) gs

-- the kernel of a function with the kernels of these
abbrev pub linked_by : Hardware → FuncTree → List FuncTree → Linked
linked_by h f gs = let done = done_with h nothing_done gs in record { kernel = kernel_of h done f; inner = done.kernels }

-- the kernel is that of the function of the name, and the inner ones are those of the functions that it reaches, in order
pub record IsLinkedBy (h : Hardware) (u : UnitTree) (name : Bytes) (l : Linked) : Type 0 where
  pub place : ℕ
  pub function : FuncTree
  pub stands : slice_get u.functions place ≡ Some function
  pub named : function.name.text ≡ name
  pub reached : List FuncTree
  pub in_order : Those (IsReached u.functions place) 0 u.functions reached
  pub linked : l ≡ linked_by h function reached
