-- The setting of a choice: what it has at each place, that it is the only such setting, and that it fits.
use Rattle.std.proofs.Common.{◌≡◌, ℕ, suc, ◌+◌, ◌<◌, ◌≤◌, ◌↔◌, List, [], ◌∷◌, ◌++◌, map, length, drop, filter_map, Option, Some, refl, sym, ap, ◌∙◌, subst, arith, append-nil, length-append, length-drop, drop_of_length-le}
use Rattle.std.specs.Prelude.{slice_get, slice_index}
use Rattle.std.specs.List.{AllByRecursion, AllZip, cons_option, enumerate_from}
use Rattle.std.specs.Option.{option_map_or}
use Rattle.std.proofs.lemmas.List.{map-append}
use Rattle.rely_num.specs.declared.span.Span.{Span}
use Rattle.rely_kernel.specs.declared.kernel.Kernel.{Kernel}
use Rattle.rely_kernel.specs.declared.kernel.Site.{Site}
use Rattle.rely_kernel.specs.declared.kernel.Slot.{Slot}
use Rattle.rely_kernel.specs.declared.kernel.Slot.TheVariants.{Named, Free}
use Rattle.rely_kernel.specs.declared.setting.Setting.{Setting}
use Rattle.rely_kernel.specs.Choice.{ChoiceFits, ChoiceHasSetting, ClosedHasOwn, Decision, KindOf, MemoryOf, IsSettingOf, Keeps, decision_at, decisions, filled, number_at, open_sites, open_vars, options, setting_of}
use Rattle.rely_kernel.specs.Rates.{named}
use Rattle.rely_kernel.specs.Setting.{SlotFits, kinds_of, open_mark}
use Rattle.rely_kernel.proofs.OwnFits.{each_slot, left_none, right_none}

slots_keep : (slots : List Slot) (choice : List ℕ) → AllZip Keeps slots (filled slots choice)
slots_keep [] choice = tt
slots_keep (Named n ∷ slots) choice = (refl, slots_keep slots choice)
slots_keep (Free ∷ slots) choice = (tt, slots_keep slots (drop 1 choice))

-- ---- places of one kind, numbered from a on

module _ {X : Type 0} (slot : X → Slot) (place : ℕ → Decision) where
  abbrev opened : ℕ → List X → List Decision
  opened a xs = filter_map (λ x. decision_at (slot x.1) (place x.0)) (enumerate_from a xs)

  -- options in range make numbers in range
  all_fit : (count : X → ℕ) (many : Decision → ℕ) (more : List Decision) (xs : List X) (a : ℕ) (choice : List ℕ)
      → AllByRecursion (λ x. SlotFits (count x) (slot x)) xs
      → ((i j : ℕ) (x : X) → slice_get xs j ≡ Some x → i ≡ a + j → many (place i) ≡ count x)
      → AllZip (λ d option. option < many d) (opened a xs ++ more) choice
      → AllZip (λ x n. n < count x) xs (filled (map slot xs) choice) × AllZip (λ d option. option < many d) more (drop (length (opened a xs)) choice)
  all_fit count many more [] a choice on same each = (tt, each)
  all_fit count many more (x ∷ xs) a choice on same each =
      one (slot x) choice on.0 (λ os. all_fit count many more xs (a + 1) os on.1 (λ i j y at p. same i (suc j) y at (omega (arith, p)))) each
    where
      one : (s : Slot) (os : List ℕ) → SlotFits (count x) s
          → ((os : List ℕ) → AllZip (λ d option. option < many d) (opened (a + 1) xs ++ more) os
          → AllZip (λ x n. n < count x) xs (filled (map slot xs) os) × AllZip (λ d option. option < many d) more (drop (length (opened (a + 1) xs)) os))
          → AllZip (λ d option. option < many d) (cons_option (decision_at s (place a)) (opened (a + 1) xs) ++ more) os
          → AllZip (λ x n. n < count x) (x ∷ xs) (filled (s ∷ map slot xs) os)
          × AllZip (λ d option. option < many d) more (drop (length (cons_option (decision_at s (place a)) (opened (a + 1) xs))) os)
      one (Named n) os small rest h = let r = rest os h in ((small, r.0), r.1)
      one Free [] small rest h = absurd h
      one Free (o ∷ os) small rest h =
          let r = rest os h.1 in
          let many_is : many (place a) ≡ count x = same a 0 x refl (omega arith) in
          ((omega (arith, h.0, many_is), r.0), r.1)

  -- each named place keeps its number
  all_keep : (xs : List X) (choice : List ℕ) → AllZip (λ x n. Keeps (slot x) n) xs (filled (map slot xs) choice)
  all_keep xs choice = by_items xs (filled (map slot xs) choice) (slots_keep (map slot xs) choice)
    where
      by_items : (ys : List X) (ns : List ℕ) → AllZip Keeps (map slot ys) ns → AllZip (λ x n. Keeps (slot x) n) ys ns
      by_items [] [] h = tt
      by_items [] (n ∷ ns) h = absurd h
      by_items (y ∷ ys) [] h = absurd h
      by_items (y ∷ ys) (n ∷ ns) h = (h.0, by_items ys ns h.1)

  -- each open place has its option
  all_taken : (at : Decision → ℕ) (xs : List X) (a : ℕ) (choice : List ℕ)
      → ((i j : ℕ) → i ≡ a + j → at (place i) ≡ slice_index (filled (map slot xs) choice) j)
      → length (opened a xs) ≤ length choice → map at (opened a xs) ++ drop (length (opened a xs)) choice ≡ choice
  all_taken at [] a choice same long = refl
  all_taken at (x ∷ xs) a choice same long = one (slot x) choice (all_taken at xs (a + 1)) same long
    where
      one : (s : Slot) (os : List ℕ)
          → ((os : List ℕ) → ((i j : ℕ) → i ≡ a + 1 + j → at (place i) ≡ slice_index (filled (map slot xs) os) j)
          → length (opened (a + 1) xs) ≤ length os → map at (opened (a + 1) xs) ++ drop (length (opened (a + 1) xs)) os ≡ os)
          → ((i j : ℕ) → i ≡ a + j → at (place i) ≡ slice_index (filled (s ∷ map slot xs) os) j)
          → length (cons_option (decision_at s (place a)) (opened (a + 1) xs)) ≤ length os
          → map at (cons_option (decision_at s (place a)) (opened (a + 1) xs)) ++ drop (length (cons_option (decision_at s (place a)) (opened (a + 1) xs))) os ≡ os
      one (Named n) os rest same long = rest os (λ i j p. same i (suc j) (omega (arith, p))) long
      one Free [] rest same long = absurd (omega (arith, long))
      one Free (o ∷ os) rest same long =
          let here : at (place a) ≡ o = same a 0 (omega arith) in
          let later = rest os (λ i j p. same i (suc j) (omega (arith, p))) (omega (arith, long)) in
          ap (λ n. n ∷ (map at (opened (a + 1) xs) ++ drop (length (opened (a + 1) xs)) os)) here ∙ ap (λ ns. o ∷ ns) later

  -- and there is no other way
  only_so : (at : Decision → ℕ) (rest : List ℕ) (xs : List X) (ns : List ℕ) (a : ℕ) → AllZip (λ x n. Keeps (slot x) n) xs ns
      → ((i j : ℕ) → i ≡ a + j → at (place i) ≡ slice_index ns j) → ns ≡ filled (map slot xs) (map at (opened a xs) ++ rest)
  only_so at rest [] [] a keeps same = refl
  only_so at rest [] (n ∷ ns) a keeps same = absurd keeps
  only_so at rest (x ∷ xs) [] a keeps same = absurd keeps
  only_so at rest (x ∷ xs) (n ∷ ns) a keeps same = one (slot x) keeps.0 (only_so at rest xs ns (a + 1) keeps.1 (λ i j p. same i (suc j) (omega (arith, p))))
    where
      one : (s : Slot) → Keeps s n → ns ≡ filled (map slot xs) (map at (opened (a + 1) xs) ++ rest)
          → n ∷ ns ≡ filled (s ∷ map slot xs) (map at (cons_option (decision_at s (place a)) (opened (a + 1) xs)) ++ rest)
      one (Named m) kept later = ap (λ i. i ∷ ns) kept ∙ ap (λ is. m ∷ is) later
      one Free kept later =
          let here : n ≡ at (place a) = sym (same a 0 (omega arith)) in
          ap (λ i. i ∷ ns) here ∙ ap (λ is. at (place a) ∷ is) later

  -- nothing is open exactly where no mark is
  none_open : (mark : X → Span) (xs : List X) (a : ℕ) → (filter_map (λ x. open_mark (slot x) (mark x)) xs ≡ []) ↔ (opened a xs ≡ [])
  none_open mark [] a = (λ e. refl, λ e. refl)
  none_open mark (x ∷ xs) a = one (slot x) (none_open mark xs (a + 1))
    where
      one : (s : Slot) → (filter_map (λ x. open_mark (slot x) (mark x)) xs ≡ []) ↔ (opened (a + 1) xs ≡ [])
          → (cons_option (open_mark s (mark x)) (filter_map (λ x. open_mark (slot x) (mark x)) xs) ≡ []) ↔ (cons_option (decision_at s (place a)) (opened (a + 1) xs) ≡ [])
      one (Named n) rest = rest
      one Free rest = (λ e. absurd (cc), λ e. absurd (cc))

-- with no options an open place has the first
filled_none : (slots : List Slot) → filled slots [] ≡ map named slots
filled_none [] = refl
filled_none (Named n ∷ slots) = ap (λ ns. n ∷ ns) (filled_none slots)
filled_none (Free ∷ slots) = ap (λ ns. 0 ∷ ns) (filled_none slots)

map_twice : {X : Type 0} (slot : X → Slot) (xs : List X) → map named (map slot xs) ≡ map (λ x. named (slot x)) xs
map_twice slot [] = refl
map_twice slot (x ∷ xs) = ap (λ ns. named (slot x) ∷ ns) (map_twice slot xs)

-- a list behind another
drop_mapped : {X Y : Type 0} (f : X → Y) (xs : List X) (ys : List Y) → drop (length xs) (map f xs ++ ys) ≡ ys
drop_mapped f [] ys = refl
drop_mapped f (x ∷ xs) ys = drop_mapped f xs ys

-- ---- kernels

module _ (k : Kernel) (choice : List ℕ) where
  abbrev behind : List ℕ
  behind = drop (length (open_sites k)) choice

  is_setting : length choice ≡ length (decisions k) → IsSettingOf k choice (setting_of k choice)
  is_setting long =
      let at : Decision → ℕ = number_at (setting_of k choice) in
      let sum = length-append (open_sites k) (open_vars k) in
      let left = length-drop (length (open_sites k)) choice in
      let over : drop (length (open_vars k)) behind ≡ [] = drop_of_length-le behind (omega (arith, long, sum, left)) in
      let sites : map at (open_sites k) ++ behind ≡ choice =
      all_taken (λ s. s.kind) KindOf at k.sites 0 choice (λ i j p. ap (slice_index (filled (map (λ s. s.kind) k.sites) choice)) (omega (arith, p))) (omega (arith, long, sum)) in
      let vars : map at (open_vars k) ++ drop (length (open_vars k)) behind ≡ behind =
      all_taken (λ v. v.memory) MemoryOf at k.vars 0 behind (λ i j p. ap (slice_index (filled (map (λ v. v.memory) k.vars) behind)) (omega (arith, p))) (omega (arith, long, sum, left)) in
      let all : map at (open_vars k) ≡ behind = sym (append-nil (map at (open_vars k))) ∙ (ap (λ ns. map at (open_vars k) ++ ns) (sym over) ∙ vars) in
      record {
        options = map-append at (open_sites k) (open_vars k) ∙ (ap (λ ns. map at (open_sites k) ++ ns) all ∙ sites);
        kinds = all_keep (λ s. s.kind) KindOf k.sites choice;
        memories = all_keep (λ v. v.memory) MemoryOf k.vars behind;
      }

  only_setting : (t : Setting) → IsSettingOf k choice t → t ≡ setting_of k choice
  only_setting t is =
      let at : Decision → ℕ = number_at t in
      let parts : map at (open_sites k) ++ map at (open_vars k) ≡ choice = sym (map-append at (open_sites k) (open_vars k)) ∙ is.options in
      let last : map at (open_vars k) ++ [] ≡ behind =
      append-nil (map at (open_vars k)) ∙ (sym (drop_mapped at (open_sites k) (map at (open_vars k))) ∙ ap (drop (length (open_sites k))) parts) in
      let sites : t.sites ≡ filled (map (λ s. s.kind) k.sites) choice =
      only_so (λ s. s.kind) KindOf at (map at (open_vars k)) k.sites t.sites 0 is.kinds (λ i j p. ap (slice_index t.sites) (omega (arith, p)))
      ∙ ap (filled (map (λ s. s.kind) k.sites)) parts in
      let memories : t.memories ≡ filled (map (λ v. v.memory) k.vars) behind =
      only_so (λ v. v.memory) MemoryOf at [] k.vars t.memories 0 is.memories (λ i j p. ap (slice_index t.memories) (omega (arith, p)))
      ∙ ap (filled (map (λ v. v.memory) k.vars)) last in
      ap (λ (ns : List ℕ). record { sites = ns; memories = t.memories }) sites ∙ ap (λ (ns : List ℕ). record { sites = filled (map (λ s. s.kind) k.sites) choice; memories = ns }) memories

pub choice_has_setting : ChoiceHasSetting
choice_has_setting k choice t long = (only_setting k choice t, λ e. subst (λ (u : Setting). IsSettingOf k choice u) (sym e) (is_setting k choice long))

pub choice_fits : ChoiceFits
choice_fits h k choice on each =
    let at_site : (i j : ℕ) (x : Site) → slice_get k.sites j ≡ Some x → i ≡ 0 + j → options k h (KindOf i) ≡ length (kinds_of h x.op) =
    λ i j x at p. ap (λ n. option_map_or (λ (s : Site). length (kinds_of h s.op)) (slice_get k.sites n) 0) (omega (arith, p)) ∙ ap (λ (o : Option Site). option_map_or (λ s. length (kinds_of h s.op)) o 0) at in
    let sites = all_fit (λ s. s.kind) KindOf (λ s. length (kinds_of h s.op)) (options k h) (open_vars k) k.sites 0 choice (each_slot h k.sites on.sites) at_site each in
    let vars = all_fit (λ v. v.memory) MemoryOf (λ v. length h.memories) (options k h) [] k.vars 0 (drop (length (open_sites k)) choice) on.memories (λ i j x at p. refl)
    (subst (λ ds. AllZip (λ d option. option < options k h d) ds (drop (length (open_sites k)) choice)) (sym (append-nil (open_vars k))) sites.1) in
    record { sites = sites.0; memories = vars.0 }

pub closed_has_own : ClosedHasOwn
closed_has_own k =
    let mark_sites = filter_map (λ site. open_mark site.kind site.mark) k.sites in
    let mark_vars = filter_map (λ v. open_mark v.memory v.mark) k.vars in
    let of_sites = none_open (λ s. s.kind) KindOf (λ s. s.mark) k.sites 0 in
    let of_vars = none_open (λ v. v.memory) MemoryOf (λ v. v.mark) k.vars 0 in
    let one : filled (map (λ s. s.kind) k.sites) [] ≡ map (λ s. named s.kind) k.sites = filled_none (map (λ s. s.kind) k.sites) ∙ map_twice (λ s. s.kind) k.sites in
    let other : filled (map (λ v. v.memory) k.vars) (drop (length (open_sites k)) []) ≡ map (λ v. named v.memory) k.vars =
    ap (filled (map (λ v. v.memory) k.vars)) (drop_of_length-le [] (omega arith)) ∙ (filled_none (map (λ v. v.memory) k.vars) ∙ map_twice (λ v. v.memory) k.vars) in (
      (
        λ closed. ap (λ ds. ds ++ open_vars k) (of_sites.0 (right_none mark_vars mark_sites closed)) ∙ of_vars.0 (left_none mark_vars mark_sites closed),
        λ none. ap (λ ms. ms ++ mark_sites) (of_vars.1 (right_none (open_sites k) (open_vars k) none)) ∙ of_sites.1 (left_none (open_sites k) (open_vars k) none),
      ),
      λ closed. ap (λ (ns : List ℕ). record { sites = ns; memories = filled (map (λ v. v.memory) k.vars) (drop (length (open_sites k)) []) }) one
          ∙ ap (λ (ns : List ℕ). record { sites = map (λ s. named s.kind) k.sites; memories = ns }) other,
    )
