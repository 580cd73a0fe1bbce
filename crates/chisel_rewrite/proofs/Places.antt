-- The open places of a kernel: as many as its decisions, with its marks, each with an option that the hardware lists.
use Rattle.std.proofs.Common.{◌≡◌, ℕ, suc, ◌+◌, ◌<◌, ◌≤◌, List, [], ◌∷◌, ◌++◌, map, length, drop, filter, filter_map, Option, Some, refl, sym, ap, ◌∙◌, subst, arith, append-nil, length-append, length-drop, if◌then◌else◌}
use Rattle.std.specs.Prelude.{slice_get}
use Rattle.std.specs.List.{AllByRecursion, AllZip, cons_option, enumerate_from, zip}
use Rattle.std.specs.Option.{option_map_or}
use Rattle.std.proofs.lemmas.List.{map-append}
use Rattle.rely_num.specs.OpenMarks.{AreOpenMarks}
use Rattle.rely_num.specs.Texts.{Bytes}
use Rattle.rely_num.specs.declared.span.Span.{Span}
use Rattle.rely_hard.specs.declared.hardware.Hardware.{Hardware}
use Rattle.rely_kernel.specs.declared.kernel.Kernel.{Kernel}
use Rattle.rely_kernel.specs.declared.kernel.Site.{Site}
use Rattle.rely_kernel.specs.declared.kernel.Slot.{Slot}
use Rattle.rely_kernel.specs.declared.kernel.Slot.TheVariants.{Named, Free}
use Rattle.rely_kernel.specs.Choice as choice
use Rattle.rely_kernel.specs.Choice.{Decision, KindOf, MemoryOf, IsChoice, decision_at, options}
use Rattle.rely_kernel.specs.Setting.{kinds_of, marks_of, open_mark}
use Rattle.chisel_rewrite.specs.declared.naming.Naming.{Naming}
use Rattle.chisel_rewrite.specs.declared.naming.Naming.TheVariants.{Kind, Memory}
use Rattle.chisel_rewrite.specs.Namings.{IsListed, is_open, kind_namings, mark_of, memory_namings, namings, open_sites, open_vars}

all_append : {X : Type 0} (P : X → Type 0) (xs ys : List X) → AllByRecursion P xs → AllByRecursion P ys → AllByRecursion P (xs ++ ys)
all_append P [] ys a b = b
all_append P (x ∷ xs) ys a b = (a.0, all_append P xs ys a.1 b)

-- ---- places of one kind, numbered from a on

module _ {X : Type 0} (slot : X → Slot) (mark : X → Span) (naming : X → ℕ → Naming) where
  abbrev open_ones : List X → List X
  open_ones xs = filter (λ x. is_open (slot x)) xs

  abbrev named_ones : List X → List ℕ → List Naming
  named_ones xs os = map (λ p. naming p.0 p.1) (zip (open_ones xs) os)

  -- their marks are those of the open places
  marks_are : ((x : X) (o : ℕ) → mark_of (naming x o) ≡ mark x) → (xs : List X) (os : List ℕ) → length (open_ones xs) ≤ length os
      → map mark_of (named_ones xs os) ≡ filter_map (λ x. open_mark (slot x) (mark x)) xs
  marks_are same [] os long = refl
  marks_are same (x ∷ xs) os long = one (slot x) os (marks_are same xs) long
    where
      one : (s : Slot) (os : List ℕ)
          → ((os : List ℕ) → length (open_ones xs) ≤ length os → map mark_of (named_ones xs os) ≡ filter_map (λ x. open_mark (slot x) (mark x)) xs)
          → length (if is_open s then x ∷ open_ones xs else open_ones xs) ≤ length os
          → map mark_of (map (λ p. naming p.0 p.1) (zip (if is_open s then x ∷ open_ones xs else open_ones xs) os))
          ≡ cons_option (open_mark s (mark x)) (filter_map (λ x. open_mark (slot x) (mark x)) xs)
      one (Named n) os rest long = rest os long
      one Free [] rest long = absurd (omega (arith, long))
      one Free (o ∷ os) rest long = ap (λ m. m ∷ map mark_of (named_ones xs os)) (same x o) ∙ ap (λ ms. mark x ∷ ms) (rest os (omega (arith, long)))

  module _ (place : ℕ → Decision) where
    abbrev opened : ℕ → List X → List Decision
    opened a xs = filter_map (λ x. decision_at (slot x.1) (place x.0)) (enumerate_from a xs)

    -- there are as many as decisions
    count_is : (xs : List X) (a : ℕ) → length (open_ones xs) ≡ length (opened a xs)
    count_is [] a = refl
    count_is (x ∷ xs) a = one (slot x) (count_is xs (a + 1))
      where
        one : (s : Slot) → length (open_ones xs) ≡ length (opened (a + 1) xs)
            → length (if is_open s then x ∷ open_ones xs else open_ones xs) ≡ length (cons_option (decision_at s (place a)) (opened (a + 1) xs))
        one (Named n) rest = rest
        one Free rest = ap suc rest

    -- options in range are listed
    all_listed : (h : Hardware) (count : X → ℕ) (many : Decision → ℕ) (more : List Decision)
        → ((x : X) (o : ℕ) → o < count x → IsListed h (naming x o)) → (xs : List X) (a : ℕ) (os : List ℕ)
        → ((i j : ℕ) (x : X) → slice_get xs j ≡ Some x → i ≡ a + j → many (place i) ≡ count x)
        → AllZip (λ d o. o < many d) (opened a xs ++ more) os
        → AllByRecursion (IsListed h) (named_ones xs os) × AllZip (λ d o. o < many d) more (drop (length (open_ones xs)) os)
    all_listed h count many more lists [] a os same each = (tt, each)
    all_listed h count many more lists (x ∷ xs) a os same each =
        one (slot x) os (λ os. all_listed h count many more lists xs (a + 1) os (λ i j y at p. same i (suc j) y at (omega (arith, p)))) each
      where
        one : (s : Slot) (os : List ℕ)
            → ((os : List ℕ) → AllZip (λ d o. o < many d) (opened (a + 1) xs ++ more) os
            → AllByRecursion (IsListed h) (named_ones xs os) × AllZip (λ d o. o < many d) more (drop (length (open_ones xs)) os))
            → AllZip (λ d o. o < many d) (cons_option (decision_at s (place a)) (opened (a + 1) xs) ++ more) os
            → AllByRecursion (IsListed h) (map (λ p. naming p.0 p.1) (zip (if is_open s then x ∷ open_ones xs else open_ones xs) os))
            × AllZip (λ d o. o < many d) more (drop (length (if is_open s then x ∷ open_ones xs else open_ones xs)) os)
        one (Named n) os rest each = rest os each
        one Free [] rest each = absurd each
        one Free (o ∷ os) rest each =
            let r = rest os each.1 in
            let many_is : many (place a) ≡ count x = same a 0 x refl (omega arith) in
            ((lists x o (omega (arith, each.0, many_is)), r.0), r.1)

-- ---- those of a kernel

length_zipped : {X Y : Type 0} (R : X → Y → Type 0) (xs : List X) (ys : List Y) → AllZip R xs ys → length xs ≡ length ys
length_zipped R [] [] each = refl
length_zipped R [] (y ∷ ys) each = absurd each
length_zipped R (x ∷ xs) [] each = absurd each
length_zipped R (x ∷ xs) (y ∷ ys) each = ap suc (length_zipped R xs ys each.1)

pub sites_counted : (k : Kernel) → length (open_sites k.sites) ≡ length (choice.open_sites k)
sites_counted k = count_is (λ s. s.kind) (λ s. s.mark) (λ s o. Kind s.mark s.op o) KindOf k.sites 0

module _ (k : Kernel) (h : Hardware) (options : List ℕ) (is : IsChoice k h options) where
  -- a choice has an option for each open place
  pub all_chosen : length (open_sites k.sites) + length (open_vars k.vars) ≡ length options
  all_chosen =
      let sites = sites_counted k in
      let vars = count_is (λ v. v.memory) (λ v. v.mark) (λ v o. Memory v.mark o) MemoryOf k.vars 0 in
      let both = length-append (choice.open_sites k) (choice.open_vars k) in
      let each = length_zipped (λ d o. o < choice.options k h d) (choice.decisions k) options is in
      omega (arith, sites, vars, both, each)

  pub sites_chosen : length (open_sites k.sites) ≤ length options
  sites_chosen = let all = all_chosen in omega arith

  -- the marks that are named are the open ones
  pub marks_named : map mark_of (namings k options) ≡ marks_of k
  marks_named =
      let behind = drop (length (open_sites k.sites)) options in
      let many = all_chosen in
      let left = length-drop (length (open_sites k.sites)) options in
      let sites = marks_are (λ s. s.kind) (λ s. s.mark) (λ s o. Kind s.mark s.op o) (λ s o. refl) k.sites options (omega (arith, many)) in
      let vars = marks_are (λ v. v.memory) (λ v. v.mark) (λ v o. Memory v.mark o) (λ v o. refl) k.vars behind (omega (arith, many, left)) in
      map-append mark_of (memory_namings k.vars behind) (kind_namings k.sites options)
      ∙ (ap (λ ms. ms ++ map mark_of (kind_namings k.sites options)) vars ∙ ap (λ ms. filter_map (λ v. open_mark v.memory v.mark) k.vars ++ ms) sites)

  -- the hardware lists each option
  pub options_listed : AllByRecursion (IsListed h) (namings k options)
  options_listed =
      let behind = drop (length (open_sites k.sites)) options in
      let at_site : (i j : ℕ) (x : Site) → slice_get k.sites j ≡ Some x → i ≡ 0 + j → choice.options k h (KindOf i) ≡ length (kinds_of h x.op) =
      λ i j x at p. ap (λ n. option_map_or (λ (s : Site). length (kinds_of h s.op)) (slice_get k.sites n) 0) (omega (arith, p))
      ∙ ap (λ (o : Option Site). option_map_or (λ s. length (kinds_of h s.op)) o 0) at in
      let sites = all_listed (λ s. s.kind) (λ s. s.mark) (λ s o. Kind s.mark s.op o) KindOf h (λ s. length (kinds_of h s.op)) (choice.options k h) (choice.open_vars k)
      (λ s o small. small) k.sites 0 options at_site is in
      let vars = all_listed (λ v. v.memory) (λ v. v.mark) (λ v o. Memory v.mark o) MemoryOf h (λ v. length h.memories) (choice.options k h) []
      (λ v o small. small) k.vars 0 behind (λ i j x at p. refl)
      (subst (λ ds. AllZip (λ d o. o < choice.options k h d) ds behind) (sym (append-nil (choice.open_vars k))) sites.1) in
      all_append (IsListed h) (memory_namings k.vars behind) (kind_namings k.sites options) vars.0 sites.0

  pub marks_ready : (text : Bytes) → AreOpenMarks text (marks_of k) → AreOpenMarks text (map mark_of (namings k options))
  marks_ready text marks = subst (AreOpenMarks text) (sym marks_named) marks
