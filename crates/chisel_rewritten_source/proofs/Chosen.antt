-- What stands at the open places of a kernel whose own choice is named.
use Rattle.std.proofs.Common.{◌≡◌, ℕ, zero, suc, ◌+◌, ◌<◌, ◌≤◌, ◌||◌, Bool, true, false, cond, List, [], ◌∷◌, map, filter, filter_map, length, find, Option, Some, None, refl, ap, sym, ◌∙◌, arith, if◌then◌else◌}
use Rattle.std.specs.Prelude.{is_none, slice_get, unwrap_or}
use Rattle.std.specs.List.{AllByRecursion, cons_option, list_any, position_from, zip}
use Rattle.std.specs.Option.{option_map_or}
use Rattle.std.proofs.lemmas.Bool.{not-true}
use Rattle.rely_num.specs.Texts.{AreDistinct, Bytes, is_among, same_text}
use Rattle.rely_num.specs.Ops.{is_op}
use Rattle.rely_num.specs.declared.op.Op.{Op}
use Rattle.rely_num.specs.declared.span.Span.{Span}
use Rattle.rely_hard.specs.Valid.{IsHardware, OperatorFits}
use Rattle.rely_hard.specs.declared.hardware.Hardware.{Hardware}
use Rattle.rely_hard.specs.declared.hardware.OpSpec.{OpSpec}
use Rattle.rely_kernel.specs.Choice.{filled}
use Rattle.rely_kernel.specs.Setting.{kinds_of, open_mark}
use Rattle.rely_kernel.specs.declared.kernel.Slot.{Slot}
use Rattle.rely_kernel.specs.declared.kernel.Slot.TheVariants.{Named, Free}
use Rattle.rely_tree.specs.Tree.{IdentTree, KindTree, NamedTree, FreeTree}
use Rattle.rely_resolve.specs.Kernels.{slot_of}
use Rattle.rely_resolve.specs.Names.{kind_names, memory_names, place_of}
use Rattle.rely_resolve.specs.declared.fault.NameFault.{NameFault}
use Rattle.rely_resolve.proofs.Places.{place_from as place_of_name}
use Rattle.rely_resolve.proofs.ValidLinked.{same_self}
use Rattle.chisel_rewrite.specs.Namings.{IsListed, is_open, mark_of}
use Rattle.chisel_rewrite.specs.Texts.{name_of}
use Rattle.chisel_rewrite.specs.declared.naming.Naming.{Naming}
use Rattle.chisel_rewrite.specs.declared.naming.Naming.TheVariants.{Kind, Memory}
use Rattle.chisel_rewritten_source.specs.Trees.{added_before, by_names, moved_span, name_at, named_mark, naming_at}
use Rattle.chisel_rewritten_source.proofs.CarriedExprs.{mark_is}
use Rattle.chisel_rewritten_source.proofs.Fitting.{Away, found}
use Rattle.chisel_rewritten_source.proofs.NoFaults.{SlotOpens}
use Rattle.chisel_rewritten_source.proofs.SameKernel.{renamed_slot}

-- ---- names that are listed

-- a name that is not among others is none of them
other_name : {X : Type 0} (f : X → Bytes) (t : Bytes) (xs : List X) (i : ℕ) → i < length xs → is_among t (map f xs) ≡ false → same_text t (option_map_or f (slice_get xs i) []) ≡ false
other_name f t [] i small e = absurd (omega (arith, small))
other_name f t (x ∷ xs) zero small e = one (same_text t (f x)) e
  where
    one : (b : Bool) → (b || list_any (same_text t) (map f xs)) ≡ false → b ≡ false
    one true e = e
    one false e = refl
other_name f t (x ∷ xs) (suc i) small e = other_name f t xs i (omega (arith, small)) (one (same_text t (f x)) e)
  where
    one : (b : Bool) → (b || list_any (same_text t) (map f xs)) ≡ false → list_any (same_text t) (map f xs) ≡ false
    one true e = absurd (cc)
    one false e = e

-- where no name stands twice, each stands first at its own place
place_from : {X : Type 0} (f : X → Bytes) (xs : List X) (i start : ℕ) → AreDistinct (map f xs) → i < length xs
    → position_from (λ n. same_text n (option_map_or f (slice_get xs i) [])) start (map f xs) ≡ Some (start + i)
place_from f [] i start distinct small = absurd (omega (arith, small))
place_from f (x ∷ xs) zero start distinct small =
    ap (λ b. cond b (Some start) (position_from (λ n. same_text n (f x)) (start + 1) (map f xs))) (same_self (f x)) ∙ ap (λ n. Some n) (omega arith)
place_from f (x ∷ xs) (suc i) start distinct small =
    let name = option_map_or f (slice_get xs i) [] in
    ap (λ b. cond b (Some start) (position_from (λ n. same_text n name) (start + 1) (map f xs)))
    (other_name f (f x) xs i (omega (arith, small)) (not-true (is_among (f x) (map f xs)) distinct.0))
    ∙ (place_from f xs i (start + 1) distinct.1 (omega (arith, small)) ∙ ap (λ n. Some n) (omega arith))

kinds_distinct : (test : OpSpec → Bool) (os : List OpSpec) → AllByRecursion OperatorFits os → AreDistinct (kind_names (option_map_or (λ o. o.kinds) (find test os) []))
kinds_distinct test [] fit = tt
kinds_distinct test (o ∷ os) fit = one (test o) (kinds_distinct test os fit.1)
  where
    one : (b : Bool) → AreDistinct (kind_names (option_map_or (λ o. o.kinds) (find test os) [])) → AreDistinct (kind_names (option_map_or (λ o. o.kinds) (cond b (Some o) (find test os)) []))
    one true rest = fit.0.names
    one false rest = rest

pub kind_place : (h : Hardware) → IsHardware h → (mark : Span) (op : Op) (option : ℕ) → IsListed h (Kind mark op option) → place_of (name_of h (Kind mark op option)) (kind_names (kinds_of h op)) ≡ Some option
kind_place h hard mark op option small =
    place_of_name (name_of h (Kind mark op option)) (kind_names (kinds_of h op))
    ∙ (place_from (λ k. k.name) (kinds_of h op) option 0 (kinds_distinct (λ o. is_op o.op op) h.operators hard.operators) small ∙ ap (λ n. Some n) (omega arith))

pub memory_place : (h : Hardware) → IsHardware h → (mark : Span) (option : ℕ) → IsListed h (Memory mark option) → place_of (name_of h (Memory mark option)) (memory_names h.memories) ≡ Some option
memory_place h hard mark option small =
    place_of_name (name_of h (Memory mark option)) (memory_names h.memories) ∙ (place_from (λ m. m.name) h.memories option 0 hard.names small ∙ ap (λ n. Some n) (omega arith))

-- ---- open places of one sort

-- the naming that is found is the one that is listed
abbrev pub IsFound : Hardware → List Naming → Naming → Type 0
IsFound h ns n = (naming_at ns (mark_of n).from ≡ Some n) × IsListed h n

module _ (h : Hardware) (ns : List Naming) {X : Type 0} (slot : X → Slot) (mark : X → Span) (naming : X → ℕ → Naming) (listed : X → List Bytes) (faults : X → KindTree → List NameFault)
    (marked : (x : X) (o : ℕ) → mark_of (naming x o) ≡ mark x) (place : (x : X) (o : ℕ) → IsListed h (naming x o) → place_of (name_of h (naming x o)) (listed x) ≡ Some o)
    (kept : (x : X) (span : Span) → faults x (FreeTree span) ≡ []) (named : (x : X) (i : IdentTree) → is_none (place_of i.text (listed x)) ≡ false → faults x (NamedTree i) ≡ []) where
  -- the mark gives way to the option's name
  mark_named : (x : X) (o : ℕ) → IsFound h ns (naming x o) → named_mark h ns (mark x) ≡ NamedTree (name_at h ((mark x).from + added_before h ns (mark x).from) (naming x o))
  mark_named x o is = mark_is h ns (mark x) (Some (naming x o)) (ap (λ (m : Span). naming_at ns m.from) (sym (marked x o)) ∙ is.0)

  slot_named : (x : X) (o : ℕ) → IsFound h ns (naming x o) → slot_of (listed x) (named_mark h ns (mark x)) ≡ Named o
  slot_named x o is = ap (slot_of (listed x)) (mark_named x o is) ∙ ap (λ p. Named (unwrap_or p 0)) (place x o is.1)

  opens_named : (x : X) (o : ℕ) → IsFound h ns (naming x o) → faults x (named_mark h ns (mark x)) ≡ []
  opens_named x o is =
      ap (faults x) (mark_named x o is) ∙ named x (name_at h ((mark x).from + added_before h ns (mark x).from) (naming x o)) (ap is_none (place x o is.1))

  abbrev open_ones : List X → List X
  open_ones xs = filter (λ x. is_open (slot x)) xs

  -- slots with what stands at the marks are those of the options in their order
  pub slots_filled : (xs : List X) (os : List ℕ) → length (open_ones xs) ≤ length os → AllByRecursion (IsFound h ns) (map (λ p. naming p.0 p.1) (zip (open_ones xs) os))
      → map (λ x. renamed_slot (by_names h ns) (listed x) (slot x) (mark x)) xs ≡ map Named (filled (map slot xs) os)
  slots_filled [] os long all = refl
  slots_filled (x ∷ xs) os long all = one (slot x) os (slots_filled xs) long all
    where
      one : (s : Slot) (os : List ℕ)
          → ((os : List ℕ) → length (open_ones xs) ≤ length os → AllByRecursion (IsFound h ns) (map (λ p. naming p.0 p.1) (zip (open_ones xs) os))
          → map (λ x. renamed_slot (by_names h ns) (listed x) (slot x) (mark x)) xs ≡ map Named (filled (map slot xs) os))
          → length (if is_open s then x ∷ open_ones xs else open_ones xs) ≤ length os
          → AllByRecursion (IsFound h ns) (map (λ p. naming p.0 p.1) (zip (if is_open s then x ∷ open_ones xs else open_ones xs) os))
          → renamed_slot (by_names h ns) (listed x) s (mark x) ∷ map (λ x. renamed_slot (by_names h ns) (listed x) (slot x) (mark x)) xs ≡ map Named (filled (s ∷ map slot xs) os)
      one (Named n) os rest long all = ap (λ l. Named n ∷ l) (rest os long all)
      one Free [] rest long all = absurd (omega (arith, long))
      one Free (o ∷ os) rest long all =
          ap (λ s. s ∷ map (λ x. renamed_slot (by_names h ns) (listed x) (slot x) (mark x)) xs) (slot_named x o all.0) ∙ ap (λ l. Named o ∷ l) (rest os (omega (arith, long)) all.1)

  -- and no name there is unknown
  pub all_open : (xs : List X) (os : List ℕ) → length (open_ones xs) ≤ length os → AllByRecursion (IsFound h ns) (map (λ p. naming p.0 p.1) (zip (open_ones xs) os))
      → AllByRecursion (λ x. SlotOpens (faults x) (by_names h ns) (slot x) (mark x)) xs
  all_open [] os long all = tt
  all_open (x ∷ xs) os long all = one (slot x) os (all_open xs) long all
    where
      one : (s : Slot) (os : List ℕ)
          → ((os : List ℕ) → length (open_ones xs) ≤ length os → AllByRecursion (IsFound h ns) (map (λ p. naming p.0 p.1) (zip (open_ones xs) os))
          → AllByRecursion (λ x. SlotOpens (faults x) (by_names h ns) (slot x) (mark x)) xs)
          → length (if is_open s then x ∷ open_ones xs else open_ones xs) ≤ length os
          → AllByRecursion (IsFound h ns) (map (λ p. naming p.0 p.1) (zip (if is_open s then x ∷ open_ones xs else open_ones xs) os))
          → SlotOpens (faults x) (by_names h ns) s (mark x) × AllByRecursion (λ x. SlotOpens (faults x) (by_names h ns) (slot x) (mark x)) xs
      one (Named n) os rest long all = (tt, rest os long all)
      one Free [] rest long all = absurd (omega (arith, long))
      one Free (o ∷ os) rest long all = (opens_named x o all.0, rest os (omega (arith, long)) all.1)

  -- nor is any where no mark is named
  pub away_open : (xs : List X) → AllByRecursion (Away ns) (filter_map (λ x. open_mark (slot x) (mark x)) xs) → AllByRecursion (λ x. SlotOpens (faults x) (by_names h ns) (slot x) (mark x)) xs
  away_open [] all = tt
  away_open (x ∷ xs) all = one (slot x) (away_open xs) all
    where
      one : (s : Slot) → (AllByRecursion (Away ns) (filter_map (λ x. open_mark (slot x) (mark x)) xs) → AllByRecursion (λ x. SlotOpens (faults x) (by_names h ns) (slot x) (mark x)) xs)
          → AllByRecursion (Away ns) (cons_option (open_mark s (mark x)) (filter_map (λ x. open_mark (slot x) (mark x)) xs))
          → SlotOpens (faults x) (by_names h ns) s (mark x) × AllByRecursion (λ x. SlotOpens (faults x) (by_names h ns) (slot x) (mark x)) xs
      one (Named n) rest all = (tt, rest all)
      one Free rest all = (unnamed, rest all.1)
        where
          nothing : (o : Option Naming) → naming_at ns (mark x).from ≡ o → o ≡ None
          nothing None e = refl
          nothing (Some n) e = absurd (found (λ n. ⊥) ns (mark x).from all.0 n e)

          unnamed : faults x (named_mark h ns (mark x)) ≡ []
          unnamed = ap (faults x) (mark_is h ns (mark x) None (nothing (naming_at ns (mark x).from) refl)) ∙ kept x (moved_span h ns (mark x))

-- ---- closed places

-- each is as it is where no mark is open
pub slots_closed : {X : Type 0} (h : Hardware) (ns : List Naming) (slot : X → Slot) (mark : X → Span) (listed : X → List Bytes) (xs : List X)
    → filter_map (λ x. open_mark (slot x) (mark x)) xs ≡ [] → map (λ x. renamed_slot (by_names h ns) (listed x) (slot x) (mark x)) xs ≡ map slot xs
slots_closed h ns slot mark listed [] e = refl
slots_closed h ns slot mark listed (x ∷ xs) e = one (slot x) (slots_closed h ns slot mark listed xs) e
  where
    one : (s : Slot) → (filter_map (λ x. open_mark (slot x) (mark x)) xs ≡ [] → map (λ x. renamed_slot (by_names h ns) (listed x) (slot x) (mark x)) xs ≡ map slot xs)
        → cons_option (open_mark s (mark x)) (filter_map (λ x. open_mark (slot x) (mark x)) xs) ≡ []
        → renamed_slot (by_names h ns) (listed x) s (mark x) ∷ map (λ x. renamed_slot (by_names h ns) (listed x) (slot x) (mark x)) xs ≡ s ∷ map slot xs
    one (Named n) rest e = ap (λ l. Named n ∷ l) (rest e)
    one Free rest e = absurd (cc)
