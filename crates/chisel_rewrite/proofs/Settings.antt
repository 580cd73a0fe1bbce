-- The names of a choice are listed, and are those of its setting.
use Rattle.std.proofs.Common.{◌≡◌, ℕ, zero, suc, ◌<◌, ◌≤◌, List, [], ◌∷◌, ◌++◌, map, length, drop, filter, refl, ap, ◌∙◌, subst, arith, length-drop, if◌then◌else◌}
use Rattle.std.specs.Prelude.{Contains, slice_get}
use Rattle.std.specs.List.{AllByRecursion, zip}
use Rattle.std.specs.Option.{option_map_or}
use Rattle.rely_num.specs.Texts.{Bytes}
use Rattle.rely_hard.specs.declared.hardware.Hardware.{Hardware}
use Rattle.rely_kernel.specs.declared.kernel.Slot.{Slot}
use Rattle.rely_kernel.specs.declared.kernel.Slot.TheVariants.{Named, Free}
use Rattle.rely_kernel.specs.Choice.{filled, setting_of}
use Rattle.rely_kernel.specs.Choice as choice
use Rattle.rely_kernel.specs.Setting.{kinds_of}
use Rattle.chisel_rewrite.specs.declared.naming.Naming.{Naming}
use Rattle.chisel_rewrite.specs.declared.naming.Naming.TheVariants.{Kind, Memory}
use Rattle.chisel_rewrite.specs.Laws.{ClosedStays, NamesAreListed, NamesTheSetting, names_for}
use Rattle.chisel_rewrite.specs.Namings.{IsListed, is_open, mark_of, namings, open_sites}
use Rattle.chisel_rewrite.specs.Texts.{name_of, named}
use Rattle.chisel_rewrite.proofs.Places.{all_chosen, marks_named, options_listed, sites_counted}

-- ---- nothing to name

none_left : (ns : List Naming) → map mark_of ns ≡ [] → ns ≡ []
none_left [] none = refl
none_left (n ∷ ns) none = absurd (cc)

pub closed_stays : ClosedStays
closed_stays text k h options closed is =
    ap (named h text 0) (none_left (namings k options) (marks_named k h options is ∙ closed))

-- ---- names

-- what stands at a place of a list stands in the list of what it maps to
name_contained : {X : Type 0} (name : X → Bytes) (xs : List X) (i : ℕ) → i < length xs → Contains (map name xs) (option_map_or name (slice_get xs i) [])
name_contained name [] i small = absurd (omega (arith, small))
name_contained name (x ∷ xs) zero small = (0, omega arith, refl)
name_contained name (x ∷ xs) (suc i) small =
    let (k, inside, is) = name_contained name xs i (omega (arith, small)) in (suc k, omega (arith, inside), is)

is_contained : (h : Hardware) (n : Naming) → IsListed h n → Contains (names_for h n) (name_of h n)
is_contained h (Kind mark op option) small = name_contained (λ kind. kind.name) (kinds_of h op) option small
is_contained h (Memory mark option) small = name_contained (λ memory. memory.name) h.memories option small

all_contained : (h : Hardware) (ns : List Naming) → AllByRecursion (IsListed h) ns → AllByRecursion (λ n. Contains (names_for h n) (name_of h n)) ns
all_contained h [] all = tt
all_contained h (n ∷ ns) all = (is_contained h n all.0, all_contained h ns all.1)

pub names_are_listed : NamesAreListed
names_are_listed k h options is = all_contained h (namings k options) (options_listed k h options is)

-- ---- the setting

-- open places beside their options are the open ones beside what fills them
module _ {X : Type 0} (slot : X → Slot) where
  zip_filled : (xs : List X) (os : List ℕ) → length (filter (λ x. is_open (slot x)) xs) ≤ length os
      → zip (filter (λ x. is_open (slot x)) xs) os ≡ filter (λ p. is_open (slot p.0)) (zip xs (filled (map slot xs) os))
  zip_filled [] os long = refl
  zip_filled (x ∷ xs) os long = one (slot x) refl os (zip_filled xs) long
    where
      one : (s : Slot) → s ≡ slot x → (os : List ℕ)
          → ((os : List ℕ) → length (filter (λ x. is_open (slot x)) xs) ≤ length os
          → zip (filter (λ x. is_open (slot x)) xs) os ≡ filter (λ p. is_open (slot p.0)) (zip xs (filled (map slot xs) os)))
          → length (if is_open s then x ∷ filter (λ x. is_open (slot x)) xs else filter (λ x. is_open (slot x)) xs) ≤ length os
          → zip (if is_open s then x ∷ filter (λ x. is_open (slot x)) xs else filter (λ x. is_open (slot x)) xs) os
          ≡ filter (λ p. is_open (slot p.0)) (zip (x ∷ xs) (filled (s ∷ map slot xs) os))
      one (Named n) same os rest long = rest os long ∙ subst (λ s. filter (λ p. is_open (slot p.0)) (zip xs (filled (map slot xs) os)) ≡ (if is_open s then (x, n) ∷ filter (λ p. is_open (slot p.0)) (zip xs (filled (map slot xs) os)) else filter (λ p. is_open (slot p.0)) (zip xs (filled (map slot xs) os)))) same refl
      one Free same [] rest long = absurd (omega (arith, long))
      one Free same (o ∷ os) rest long = ap (λ ps. (x, o) ∷ ps) (rest os (omega (arith, long))) ∙ subst (λ s. (x, o) ∷ filter (λ p. is_open (slot p.0)) (zip xs (filled (map slot xs) os)) ≡ (if is_open s then (x, o) ∷ filter (λ p. is_open (slot p.0)) (zip xs (filled (map slot xs) os)) else filter (λ p. is_open (slot p.0)) (zip xs (filled (map slot xs) os)))) same refl

pub names_the_setting : NamesTheSetting
names_the_setting k h options is =
    let all = all_chosen k h options is in
    let many : length (open_sites k.sites) ≡ length (choice.open_sites k) = sites_counted k in
    let left = length-drop (length (open_sites k.sites)) options in
    let vars = zip_filled (λ v. v.memory) k.vars (drop (length (open_sites k.sites)) options) (omega (arith, all, left)) in
    let sites = zip_filled (λ s. s.kind) k.sites options (omega (arith, all)) in
    let same = ap (λ n. filter (λ p. is_open p.0.memory) (zip k.vars (filled (map (λ v. v.memory) k.vars) (drop n options)))) many in
    ap (λ ps. map (λ p. Memory p.0.mark p.1) ps ++ map (λ p. Kind p.0.mark p.0.op p.1) (zip (open_sites k.sites) options)) (vars ∙ same)
    ∙ ap (λ ps. map (λ p. Memory p.0.mark p.1) (filter (λ p. is_open p.0.memory) (zip k.vars (setting_of k options).memories)) ++ map (λ p. Kind p.0.mark p.0.op p.1) ps) sites
