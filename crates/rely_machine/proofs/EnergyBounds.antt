-- What a run costs is at most a million for each step and each number held.
use Rattle.std.proofs.Common.{◌≡◌, ℕ, zero, suc, ◌+◌, ◌*◌, ◌≤◌, Bool, true, false, List, [], ◌∷◌, Some, None, Option, arith}
use Rattle.std.specs.Prelude.{filter_map, find, option_and_then, slice_get, slice_index, sum_by, if◌then◌else◌}
use Rattle.std.specs.List.{AllByRecursion, cons_option, zip}
use Rattle.std.specs.Option.{option_map_or}
use Rattle.std.proofs.lemmas.List.Sums.{sum_by-cons}
use Rattle.rely_num.specs.Ops.{is_op}
use Rattle.rely_hard.specs.declared.hardware.Hardware.{Hardware}
use Rattle.rely_hard.specs.Valid.{IsHardware, KindFits, MemoryFits, OperatorFits}
use Rattle.rely_kernel.specs.declared.kernel.Kernel.{Kernel}
use Rattle.rely_kernel.specs.declared.kernel.Site.{Site}
use Rattle.rely_kernel.specs.declared.kernel.Var.{Var}
use Rattle.rely_kernel.specs.declared.label.Label.{Label}
use Rattle.rely_kernel.specs.declared.label.Label.TheVariants as label
use Rattle.rely_kernel.specs.Machine.{Config, Item, Push, Read, Elem, Op, Write, WriteElem, Result, Choose, While, Repeat, Enter, Call, Leave, callee, cost_of, label_of, moment, moment_of, numbers_in, size}
use Rattle.rely_kernel.specs.declared.setting.Setting.{Setting}
use Rattle.rely_machine.specs.Cost.{call_energy, energy_of, held, hold, hold_at, kind_energy, step_energy}
use Rattle.rely_machine.specs.Run.{called}

-- ---- what is found in a list

module _ {X : Type 0} (P : X → Type 0) (g : X → ℕ) (most : ℕ) (each : (x : X) → P x → g x ≤ most) where
  found_most : (test : X → Bool) (xs : List X) → AllByRecursion P xs → option_map_or g (find test xs) 0 ≤ most
  found_most test [] h = omega arith
  found_most test (x ∷ xs) h = one (test x) (found_most test xs h.1)
    where
      one : (b : Bool) → option_map_or g (find test xs) 0 ≤ most → option_map_or g (if b then Some x else find test xs) 0 ≤ most
      one true r = each x h.0
      one false r = r

  place_most : (xs : List X) (i : ℕ) → AllByRecursion P xs → option_map_or g (slice_get xs i) 0 ≤ most
  place_most [] i h = omega arith
  place_most (x ∷ xs) zero h = each x h.0
  place_most (x ∷ xs) (suc i) h = place_most xs i h.1

option_most : {X : Type 0} (g : X → ℕ) (most : ℕ) (o : Option X) → ((x : X) → g x ≤ most) → option_map_or g o 0 ≤ most
option_most g most None h = omega arith
option_most g most (Some x) h = h x

-- ---- one step, and what is held

times_most : (a b : ℕ) → b ≤ 1000000 → a * b ≤ 1000000 * a
times_most zero b h = omega arith
times_most (suc a) b h = let r = times_most a b h in grind (arith, r)

module _ (h : Hardware) (valid : IsHardware h) where
  kind_most : (kind : ℕ) (site : Site) → kind_energy h kind site ≤ 1000000
  kind_most kind site =
      found_most OperatorFits (λ o. option_map_or (λ s. s.energy) (slice_get o.kinds kind) 0) 1000000
      (λ o fits. place_most KindFits (λ s. s.energy) 1000000 (λ s f. f.energy) o.kinds kind fits.kinds)
      (λ o. is_op o.op site.op) h.operators valid.operators

  label_most : (k : Kernel) (t : Setting) (l : Label) → energy_of h k t l ≤ 1000000
  label_most k t (label.Op site) = option_most (kind_energy h (slice_index t.sites site)) 1000000 (slice_get k.sites site) (kind_most (slice_index t.sites site))
  label_most k t (label.Read v) = place_most MemoryFits (λ m. m.read_energy) 1000000 (λ m f. f.read_energy) h.memories (slice_index t.memories v) valid.memories
  label_most k t (label.Write v) = place_most MemoryFits (λ m. m.write_energy) 1000000 (λ m f. f.write_energy) h.memories (slice_index t.memories v) valid.memories
  label_most k t (label.Call place) = omega arith

  held_most : (memory : ℕ) → held h memory ≤ 1000000
  held_most memory = place_most MemoryFits (λ m. m.hold) 1000000 (λ m f. f.hold) h.memories memory valid.memories

  holding_most : (vars : List Var) (memories : List ℕ) → sum_by (λ (x : Var × ℕ). size x.0 * held h x.1) (zip vars memories) ≤ 1000000 * sum_by size vars
  holding_most [] ms = omega arith
  holding_most (v ∷ vars) [] = omega arith
  holding_most (v ∷ vars) (m ∷ ms) =
      let here = times_most (size v) (held h m) (held_most m) in
      omega (arith, here, holding_most vars ms, sum_by-cons (λ (x : Var × ℕ). size x.0 * held h x.1) (v, m) (zip vars ms), sum_by-cons size v vars)

  -- a function's variables are as many numbers as a call costs
  pub hold_most : (k : Kernel) (t : Setting) → hold h k t ≤ 1000000 * sum_by size k.vars
  hold_most k t = holding_most k.vars t.memories

  module _ (fs : List Kernel) (ts : List Setting) where
    step_most : (m : ℕ × Label) → step_energy h fs ts m ≤ 1000000
    step_most m =
        option_most (λ k. option_map_or (λ t. energy_of h k t m.1) (slice_get ts m.0) 0) 1000000 (slice_get fs m.0)
        (λ k. option_most (λ t. energy_of h k t m.1) 1000000 (slice_get ts m.0) (λ t. label_most k t m.1))

    kernel_most : (o : Option Kernel) (t : Option Setting) → option_map_or (λ k. option_map_or (hold h k) t 0) o 0 ≤ 1000000 * numbers_in o
    kernel_most None t = omega arith
    kernel_most (Some k) None = omega arith
    kernel_most (Some k) (Some t) = hold_most k t

    callee_most : (o : Option ℕ) → option_map_or (hold_at h fs ts) o 0 ≤ 1000000 * numbers_in (option_and_then (slice_get fs) o)
    callee_most None = omega arith
    callee_most (Some g) = kernel_most (slice_get fs g) (slice_get ts g)

    -- an item costs at most a million for each of its steps
    item_most : (f : ℕ) (is : List Item) → option_map_or (step_energy h fs ts) (label_of (moment_of f is)) 0 + option_map_or (hold_at h fs ts) (called fs f is) 0 ≤ 1000000 * cost_of fs f is
    item_most f [] = omega arith
    item_most f (Push z ∷ is) = omega arith
    item_most f (Read v ∷ is) = omega (arith, step_most (f, label.Read v))
    item_most f (Elem a ∷ is) = omega (arith, step_most (f, label.Read a))
    item_most f (Op site ∷ is) = omega (arith, step_most (f, label.Op site))
    item_most f (Write v ∷ is) = omega (arith, step_most (f, label.Write v))
    item_most f (WriteElem a ∷ is) = omega (arith, step_most (f, label.Write a))
    item_most f (Result ∷ is) = omega arith
    item_most f (Choose x y ∷ is) = omega arith
    item_most f (While c n s ∷ is) = omega arith
    item_most f (Repeat n s ∷ is) = omega arith
    item_most f (Enter ∷ is) = omega arith
    item_most f (Call place ∷ is) = omega (arith, callee_most (callee fs f place))
    item_most f (Leave ∷ is) = omega arith

    with_option : (o : Option (ℕ × Label)) (ms : List (ℕ × Label)) → sum_by (step_energy h fs ts) (cons_option o ms) ≡ option_map_or (step_energy h fs ts) o 0 + sum_by (step_energy h fs ts) ms
    with_option None ms = omega arith
    with_option (Some m) ms = sum_by-cons (step_energy h fs ts) m ms

    -- and so does a run
    pub all_most : (cs : List Config) → sum_by (step_energy h fs ts) (filter_map (λ d. label_of (moment d)) cs) + sum_by (call_energy h fs ts) cs ≤ 1000000 * sum_by (λ d. cost_of fs d.function d.items) cs
    all_most [] = omega arith
    all_most (c ∷ cs) =
        let ms = filter_map (λ d. label_of (moment d)) cs in
        let o = label_of (moment c) in
        let sum : sum_by (step_energy h fs ts) (cons_option o ms) ≡ option_map_or (step_energy h fs ts) o 0 + sum_by (step_energy h fs ts) ms = with_option o ms in
        omega (arith, sum, item_most c.function c.items, all_most cs, sum_by-cons (call_energy h fs ts) c cs, sum_by-cons (λ d. cost_of fs d.function d.items) c cs)
