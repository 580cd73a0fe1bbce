-- Each decision has an option, and few where the kernel isn't refused.
use Rattle.std.proofs.Common.{◌≡◌, ℕ, zero, suc, ◌+◌, ◌<◌, ◌≤◌, Bool, true, false, List, [], ◌∷◌, map, length, find, Option, Some, refl, sym, ap, ◌∙◌, subst, arith}
use Rattle.std.specs.Prelude.{nat_lt, slice_get, slice_index_or, ◌||◌, if◌then◌else◌, IsTrue}
use Rattle.std.specs.List.{AllByRecursion, cons_option, list_any}
use Rattle.std.specs.Option.{option_map_or}
use Rattle.std.proofs.lemmas.Bool.Decides.{nat_tests}
use Rattle.rely_num.specs.Ops.{is_op}
use Rattle.rely_num.specs.declared.op.Op.{Op}
use Rattle.rely_hard.specs.Valid.{IsHardware, OperatorFits}
use Rattle.rely_hard.specs.declared.hardware.Hardware.{Hardware}
use Rattle.rely_hard.specs.declared.hardware.OpSpec.{OpSpec}
use Rattle.rely_kernel.specs.declared.kernel.Kernel.{Kernel}
use Rattle.rely_kernel.specs.declared.kernel.Site.{Site}
use Rattle.rely_kernel.specs.declared.kernel.Slot.{Slot}
use Rattle.rely_kernel.specs.declared.kernel.Slot.TheVariants.{Named, Free}
use Rattle.rely_kernel.specs.Choice.{Decision, KindOf, MemoryOf, decision_at, decisions, open_sites, open_vars, options}
use Rattle.rely_kernel.specs.Setting.{IsOn, SiteIsOn, kinds_of}
use Rattle.chisel_problem.proofs.Lists.{joined, known}
use Rattle.chisel_problem.proofs.Opens.{some_item}
use Rattle.chisel_problem.proofs.PlaceLaws.{open_from}

-- a listed operator has a kind
found_kinds : (op : Op) (os : List OpSpec) → AllByRecursion OperatorFits os → IsTrue (list_any (λ o. is_op o.op op) os)
    → 1 ≤ length (option_map_or (λ o. o.kinds) (find (λ o. is_op o.op op) os) [])
found_kinds op [] fits h = absurd (cc)
found_kinds op (o ∷ os) fits h = one (is_op o.op op) h (found_kinds op os fits.1)
  where
    one : (b : Bool) → IsTrue (b || list_any (λ o. is_op o.op op) os)
        → (IsTrue (list_any (λ o. is_op o.op op) os) → 1 ≤ length (option_map_or (λ o. o.kinds) (find (λ o. is_op o.op op) os) []))
        → 1 ≤ length (option_map_or (λ o. o.kinds) (if b then Some o else find (λ o. is_op o.op op) os) [])
    one true t rest = some_item _ o.kinds (fits.0.exact)
    one false t rest = rest t

module _ {X : Type 0} (P : Decision → Type 0) (slot : X → Slot) (place : ℕ → Decision) where
  each_open : (a : ℕ) (xs : List X) → ((i j : ℕ) (x : X) → slice_get xs j ≡ Some x → i ≡ a + j → P (place i)) → AllByRecursion P (open_from slot place a xs)
  each_open a [] h = tt
  each_open a (x ∷ xs) h = one (slot x) (h a 0 x refl (omega arith)) (each_open (a + 1) xs (λ i j y at e. h i (suc j) y at (omega (arith, e))))
    where
      one : (s : Slot) → P (place a) → AllByRecursion P (open_from slot place (a + 1) xs) → AllByRecursion P (cons_option (decision_at s (place a)) (open_from slot place (a + 1) xs))
      one (Named n) here rest = rest
      one Free here rest = (here, rest)

pub each_has_option : (h : Hardware) (k : Kernel) → IsHardware h → IsOn h k → AllByRecursion (λ d. 1 ≤ options k h d) (decisions k)
each_has_option h k hardware on =
    joined (λ d. 1 ≤ options k h d) (open_sites k) (open_vars k)
    (each_open (λ d. 1 ≤ options k h d) (λ s. s.kind) KindOf 0 k.sites
    (λ i j s at e.
    subst (λ (o : Option Site). 1 ≤ option_map_or (λ s. length (kinds_of h s.op)) o 0) (sym (ap (slice_get k.sites) (omega (arith, e)) ∙ at))
    (found_kinds s.op h.operators hardware.operators (known (SiteIsOn h) k.sites j s on.sites at).0)))
    (each_open (λ d. 1 ≤ options k h d) (λ v. v.memory) MemoryOf 0 k.vars (λ i j v at e. some_item _ h.memories hardware.exact))

-- where none has more than so many, each has at most so many
pub each_has_few : {X : Type 0} (f : X → ℕ) (most : ℕ) (xs : List X) → list_any (λ x. nat_lt most (f x)) xs ≡ false → AllByRecursion (λ x. f x ≤ most) xs
each_has_few f most [] h = tt
each_has_few f most (x ∷ xs) h = one (nat_lt most (f x)) refl h (each_has_few f most xs)
  where
    one : (b : Bool) → nat_lt most (f x) ≡ b → (b || list_any (λ x. nat_lt most (f x)) xs) ≡ false
        → (list_any (λ x. nat_lt most (f x)) xs ≡ false → AllByRecursion (λ x. f x ≤ most) xs) → (f x ≤ most) × AllByRecursion (λ x. f x ≤ most) xs
    one true e t rest = absurd (cc)
    one false e t rest = (grind (arith, nat_tests), rest t)

-- ---- by the lengths of rows

-- what holds of the options of all decisions holds of the lengths of their rows
pub by_rows : {X : Type 0} (Q : ℕ → Type 0) (f : X → ℕ) (rows : List (List ℕ)) (xs : List X) → map length rows ≡ map f xs → AllByRecursion (λ x. Q (f x)) xs
    → (d : ℕ) → d < length rows → Q (length (slice_index_or rows d []))
by_rows Q f [] xs e all d l = absurd (omega (arith, l))
by_rows Q f (r ∷ rs) [] e all d l = absurd (cc)
by_rows Q f (r ∷ rs) (x ∷ xs) e all zero l =
    let first : length r ≡ f x = cc in subst Q (sym first) all.0
by_rows Q f (r ∷ rs) (x ∷ xs) e all (suc d) l =
    let rest : map length rs ≡ map f xs = cc in by_rows Q f rs xs rest all.1 d (omega (arith, l))
