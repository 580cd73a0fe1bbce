-- The decisions of a kernel are its open places.
use Rattle.std.proofs.Common.{◌≡◌, ℕ, suc, ◌+◌, ◌<◌, ◌≤◌, Bool, true, false, List, [], ◌∷◌, length, filter, Some, refl, sym, ap, ◌∙◌, arith, length-append}
use Rattle.std.specs.Prelude.{nat_lt, slice_get, ◌&&◌, ◌||◌, if◌then◌else◌, IsTrue}
use Rattle.std.specs.List.{cons_option, list_any}
use Rattle.std.specs.Option.{option_map_or}
use Rattle.std.proofs.lemmas.Bool.{ltb-true}
use Rattle.std.proofs.lemmas.Bool.Decides.{nat_tests}
use Rattle.std.proofs.lemmas.List.Folds.{list_any-append}
use Rattle.rely_hard.specs.declared.hardware.Hardware.{Hardware}
use Rattle.rely_kernel.specs.declared.kernel.Kernel.{Kernel}
use Rattle.rely_kernel.specs.declared.kernel.Site.{Site}
use Rattle.rely_kernel.specs.declared.kernel.Slot.{Slot}
use Rattle.rely_kernel.specs.declared.kernel.Slot.TheVariants.{Named, Free}
use Rattle.rely_kernel.specs.Choice.{Decision, KindOf, MemoryOf, decision_at, decisions, open_sites, open_vars, options}
use Rattle.rely_kernel.specs.Setting.{kinds_of}
use Rattle.rely_kernel.specs.Valid.{IsValid}
use Rattle.chisel_table.specs.declared.table.TheConstants.{MAX_OPTIONS}
use Rattle.chisel_table.proofs.Sums.{by_test}
use Rattle.chisel_problem.specs.Refusals.{HasManyDecisions, HasManyOptions, NothingIsOpen, has_wide_decision, has_wide_site, has_wide_variable, is_open}
use Rattle.chisel_problem.proofs.PlaceLaws.{open_from}

module _ {X : Type 0} (slot : X → Slot) (place : ℕ → Decision) where
  -- as many as there are open places
  pub open_count : (a : ℕ) (xs : List X) → length (open_from slot place a xs) ≡ length (filter (λ x. is_open (slot x)) xs)
  open_count a [] = refl
  open_count a (x ∷ xs) = one (slot x) (open_count (a + 1) xs)
    where
      one : (s : Slot) → length (open_from slot place (a + 1) xs) ≡ length (filter (λ x. is_open (slot x)) xs)
          → length (cons_option (decision_at s (place a)) (open_from slot place (a + 1) xs))
          ≡ length (if is_open s then x ∷ filter (λ x. is_open (slot x)) xs else filter (λ x. is_open (slot x)) xs)
      one (Named n) rest = rest
      one Free rest = ap suc rest

  -- some decision passes a test where some open place does
  pub open_any : (test : Decision → Bool) (check : X → Bool) (a : ℕ) (xs : List X)
      → ((i j : ℕ) (x : X) → slice_get xs j ≡ Some x → i ≡ a + j → test (place i) ≡ check x)
      → list_any test (open_from slot place a xs) ≡ list_any (λ x. is_open (slot x) && check x) xs
  open_any test check a [] same = refl
  open_any test check a (x ∷ xs) same =
      one (slot x) (same a 0 x refl (omega arith)) (open_any test check (a + 1) xs (λ i j y at e. same i (suc j) y at (omega (arith, e))))
    where
      one : (s : Slot) → test (place a) ≡ check x → list_any test (open_from slot place (a + 1) xs) ≡ list_any (λ x. is_open (slot x) && check x) xs
          → list_any test (cons_option (decision_at s (place a)) (open_from slot place (a + 1) xs)) ≡ ((is_open s && check x) || list_any (λ x. is_open (slot x) && check x) xs)
      one (Named n) here rest = rest
      one Free here rest = ap (λ b. b || list_any test (open_from slot place (a + 1) xs)) here ∙ ap (λ b. check x || b) rest

pub decision_count : (k : Kernel) → length (decisions k) ≡ length (filter (λ s. is_open s.kind) k.sites) + length (filter (λ v. is_open v.memory) k.vars)
decision_count k =
    length-append (open_sites k) (open_vars k)
    ∙ omega (arith, open_count (λ s. s.kind) KindOf 0 k.sites, open_count (λ v. v.memory) MemoryOf 0 k.vars)

-- ---- more options than so many

some_wide : (h : Hardware) (k : Kernel) → has_wide_decision h k ≡ (has_wide_site h k || has_wide_variable h k)
some_wide h k =
    list_any-append (λ d. nat_lt MAX_OPTIONS (options k h d)) (open_sites k) (open_vars k)
    ∙ (ap (λ b. b || list_any (λ d. nat_lt MAX_OPTIONS (options k h d)) (open_vars k)) of_sites
    ∙ ap (λ b. has_wide_site h k || b) of_vars)
  where
    of_sites : list_any (λ d. nat_lt MAX_OPTIONS (options k h d)) (open_sites k) ≡ has_wide_site h k
    of_sites =
        open_any (λ s. s.kind) KindOf (λ d. nat_lt MAX_OPTIONS (options k h d)) (λ s. nat_lt MAX_OPTIONS (length (kinds_of h s.op))) 0 k.sites
        (λ i j s at e. ap (λ o. nat_lt MAX_OPTIONS (option_map_or (λ (s : Site). length (kinds_of h s.op)) o 0)) (ap (slice_get k.sites) (omega (arith, e)) ∙ at))

    of_vars : list_any (λ d. nat_lt MAX_OPTIONS (options k h d)) (open_vars k) ≡ has_wide_variable h k
    of_vars = open_any (λ v. v.memory) MemoryOf (λ d. nat_lt MAX_OPTIONS (options k h d)) (λ v. nat_lt MAX_OPTIONS (length h.memories)) 0 k.vars (λ i j v at e. refl)

-- it's a site
pub wide_site : (h : Hardware) (k : Kernel) (site : Bool) → site ≡ has_wide_site h k → site ≡ true → site ≡ has_wide_decision h k
wide_site h k site is there =
    let one : has_wide_site h k ≡ true = sym is ∙ there in
    there ∙ sym (some_wide h k ∙ ap (λ b. b || has_wide_variable h k) one)

-- or it's a variable, if any
pub wide_variable : (h : Hardware) (k : Kernel) (site variable : Bool) → site ≡ has_wide_site h k → site ≡ false → variable ≡ has_wide_variable h k
    → variable ≡ has_wide_decision h k
wide_variable h k site variable is nowhere other =
    let none : has_wide_site h k ≡ false = sym is ∙ nowhere in
    other ∙ sym (some_wide h k ∙ ap (λ b. b || has_wide_variable h k) none)

-- ---- counts in range

open_short : {X : Type 0} (p : X → Bool) (xs : List X) → length (filter p xs) ≤ length xs
open_short p [] = omega arith
open_short p (x ∷ xs) = one (p x) (open_short p xs)
  where
    one : (b : Bool) → length (filter p xs) ≤ length xs → length (if b then x ∷ filter p xs else filter p xs) ≤ suc (length xs)
    one true rest = omega (arith, rest)
    one false rest = omega (arith, rest)

pub few_sites : (k : Kernel) → IsValid k → length (filter (λ s. is_open s.kind) k.sites) ≤ 256
few_sites k valid = omega (arith, open_short (λ s. is_open s.kind) k.sites, valid.few_sites)

pub few_variables : (k : Kernel) → IsValid k → length (filter (λ v. is_open v.memory) k.vars) ≤ 63
few_variables k valid = omega (arith, open_short (λ v. is_open v.memory) k.vars, valid.few_vars)

-- ---- what isn't refused

-- where some item passes a test there is an item
pub some_item : {X : Type 0} (f : X → Bool) (xs : List X) → IsTrue (list_any f xs) → 1 ≤ length xs
some_item f [] h = absurd (cc)
some_item f (x ∷ xs) h = omega arith

pub wide_is_open : (h : Hardware) (k : Kernel) → IsTrue (has_wide_decision h k) → 1 ≤ length (decisions k)
wide_is_open h k wide = some_item (λ d. nat_lt MAX_OPTIONS (options k h d)) (decisions k) wide

not_less : (a b : ℕ) → (a < b → ⊥) → b ≤ a
not_less a b h = by_test (nat_lt a b) (λ e. absurd (h (ltb-true a b e))) (λ e. grind (arith, nat_tests))

some_there : {X : Type 0} (xs : List X) → (xs ≡ [] → ⊥) → 1 ≤ length xs
some_there [] h = absurd (h refl)
some_there (x ∷ xs) h = omega arith

-- a kernel with some, few and narrow decisions
pub record HasDecisions (h : Hardware) (k : Kernel) : Type 0 where
  pub some : 1 ≤ length (decisions k)
  pub few : length (decisions k) ≤ 256
  pub narrow : has_wide_decision h k ≡ false

pub not_refused : (h : Hardware) (k : Kernel) → (NothingIsOpen k → ⊥) → (HasManyDecisions k → ⊥) → (HasManyOptions h k → ⊥) → HasDecisions h k
not_refused h k some few narrow =
    let most = not_less 256 (length (decisions k)) few in record {
      some = some_there (decisions k) some;
      few = most;
      narrow = by_test (has_wide_decision h k) (λ e. absurd (narrow (record { few_decisions = most; wide = e }))) (λ e. e);
    }
