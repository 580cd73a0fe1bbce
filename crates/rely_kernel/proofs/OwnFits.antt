-- A closed kernel's own setting fits the hardware whose operators and numbers it has.
use Rattle.std.proofs.Common.{◌≡◌, ℕ, ◌<◌, List, [], ◌∷◌, ◌++◌, map, length, filter_map, refl}
use Rattle.std.specs.List.{AllByRecursion, AllZip, cons_option}
use Rattle.rely_num.specs.declared.span.Span.{Span}
use Rattle.rely_hard.specs.declared.hardware.Hardware.{Hardware}
use Rattle.rely_kernel.specs.declared.kernel.Kernel.{Kernel}
use Rattle.rely_kernel.specs.declared.kernel.Site.{Site}
use Rattle.rely_kernel.specs.declared.kernel.Slot.{Slot}
use Rattle.rely_kernel.specs.declared.kernel.Slot.TheVariants.{Named, Free}
use Rattle.rely_kernel.specs.Rates.{named, own}
use Rattle.rely_kernel.specs.Setting.{Fits, IsClosed, IsOn, SiteIsOn, SlotFits, kinds_of, open_mark}

-- a list with nothing in both parts
pub left_none : {X : Type 0} (xs ys : List X) → xs ++ ys ≡ [] → xs ≡ []
left_none [] ys e = refl
left_none (x ∷ xs) ys e = absurd (cc)

pub right_none : {X : Type 0} (xs ys : List X) → xs ++ ys ≡ [] → ys ≡ []
right_none [] ys e = e
right_none (x ∷ xs) ys e = absurd (cc)

module _ {X : Type 0} (slot : X → Slot) (mark : X → Span) (count : X → ℕ) where
  -- where no place is open, each number is in range
  all_named : (xs : List X) → AllByRecursion (λ x. SlotFits (count x) (slot x)) xs → filter_map (λ x. open_mark (slot x) (mark x)) xs ≡ [] → AllZip (λ x n. n < count x) xs (map (λ x. named (slot x)) xs)
  all_named [] h e = tt
  all_named (x ∷ xs) h e = one (slot x) h.0 (all_named xs h.1) e
    where
      one : (s : Slot) → SlotFits (count x) s
          → (filter_map (λ x. open_mark (slot x) (mark x)) xs ≡ [] → AllZip (λ x n. n < count x) xs (map (λ x. named (slot x)) xs))
          → cons_option (open_mark s (mark x)) (filter_map (λ x. open_mark (slot x) (mark x)) xs) ≡ []
          → (named s < count x) × AllZip (λ x n. n < count x) xs (map (λ x. named (slot x)) xs)
      one (Named n) small rest e = (small, rest e)
      one Free small rest e = absurd (cc)

-- a part of what holds of each
pub each_slot : (h : Hardware) (sites : List Site) → AllByRecursion (SiteIsOn h) sites → AllByRecursion (λ site. SlotFits (length (kinds_of h site.op)) site.kind) sites
each_slot h [] on = tt
each_slot h (site ∷ sites) on = (on.0.1, each_slot h sites on.1)

pub own_fits : (h : Hardware) (k : Kernel) → IsOn h k → IsClosed k → Fits k h (own k)
own_fits h k on closed =
    let of_vars = filter_map (λ v. open_mark v.memory v.mark) k.vars in
    let of_sites = filter_map (λ site. open_mark site.kind site.mark) k.sites in
    record {
      sites = all_named (λ site. site.kind) (λ site. site.mark) (λ site. length (kinds_of h site.op)) k.sites (each_slot h k.sites on.sites) (right_none of_vars of_sites closed);
      memories = all_named (λ v. v.memory) (λ v. v.mark) (λ v. length h.memories) k.vars on.memories (left_none of_vars of_sites closed);
    }
