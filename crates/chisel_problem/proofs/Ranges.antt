-- What rows spend, and what is taken off their budgets, is in the range of tables.
use Rattle.std.proofs.Common.{◌≡◌, ℕ, zero, suc, ◌+◌, ◌*◌, ◌^◌, ◌<◌, ◌≤◌, List, [], ◌∷◌, map, length, ap, ◌∙◌, arith, length-append}
use Rattle.std.specs.Prelude.{slice_index, slice_index_or}
use Rattle.std.specs.List.{AllByRecursion, cons_option}
use Rattle.std.proofs.lemmas.List.Sums.{sum_by-cons}
use Rattle.rely_hard.specs.declared.hardware.Hardware.{Hardware}
use Rattle.rely_hard.specs.declared.hardware.KindSpec.{KindSpec}
use Rattle.rely_hard.specs.declared.hardware.MemSpec.{MemSpec}
use Rattle.rely_kernel.specs.declared.kernel.CallSite.{CallSite}
use Rattle.rely_kernel.specs.declared.kernel.Kernel.{Kernel}
use Rattle.rely_kernel.specs.declared.kernel.Slot.{Slot}
use Rattle.rely_kernel.specs.declared.kernel.Slot.TheVariants.{Named, Free}
use Rattle.rely_kernel.specs.declared.label.Label.TheVariants as label
use Rattle.rely_kernel.specs.Labels.{number}
use Rattle.rely_kernel.specs.Setting.{kinds_of}
use Rattle.rely_machine.specs.EnergySums.{sum_from}
use Rattle.chisel_debit.specs.Debits.{debit}
use Rattle.chisel_problem.specs.declared.places.Place.{Place}
use Rattle.chisel_problem.specs.Places.{closed, numbered, opened, price_if_named, prices_if_open}
use Rattle.chisel_problem.specs.Spending.{calls_spend, site_spending, spending, variable_spending}
use Rattle.chisel_problem.proofs.Lists.{joined}
use Rattle.chisel_problem.proofs.PlaceLaws.{numbered_long}
use Rattle.chisel_problem.proofs.SpendingLaws.{count_most, spent_most}

-- no option costs more
pub record IsUpTo (most : ℕ) (p : Place) : Type 0 where
  pub each : (n : ℕ) → slice_index p.prices n ≤ most

module _ (most : ℕ) where
  mapped_most : {X : Type 0} (g : X → ℕ) (xs : List X) → ((x : X) → g x ≤ most) → (n : ℕ) → slice_index (map g xs) n ≤ most
  mapped_most g [] h n = omega arith
  mapped_most g (x ∷ xs) h zero = h x
  mapped_most g (x ∷ xs) h (suc n) = mapped_most g xs h n

  numbered_most : {X : Type 0} (f : ℕ → X → Place) (a : ℕ) (xs : List X) → ((i : ℕ) (x : X) → IsUpTo most (f i x)) → AllByRecursion (IsUpTo most) (numbered f a xs)
  numbered_most f a [] h = tt
  numbered_most f a (x ∷ xs) h = (h a x, numbered_most f (suc a) xs h)

  closed_most : (ps : List Place) → AllByRecursion (IsUpTo most) ps → closed ps ≤ most * length ps
  closed_most [] all = omega arith
  closed_most (p ∷ ps) all =
      let sum = sum_by-cons (λ (q : Place). price_if_named q.slot q.prices) p ps in
      let more : most * suc (length ps) ≡ most + most * length ps = omega arith in
      omega (arith, sum, more, one p.slot, closed_most ps all.1)
    where
      one : (s : Slot) → price_if_named s p.prices ≤ most
      one (Named n) = all.0.each n
      one Free = omega arith

  pub opened_most : (ps : List Place) → AllByRecursion (IsUpTo most) ps → (d o : ℕ) → slice_index (slice_index_or (opened ps) d []) o ≤ most
  opened_most [] all d o = omega arith
  opened_most (p ∷ ps) all d o = one p.slot d (λ e. opened_most ps all.1 e o)
    where
      one : (s : Slot) (d : ℕ) → ((e : ℕ) → slice_index (slice_index_or (opened ps) e []) o ≤ most)
          → slice_index (slice_index_or (cons_option (prices_if_open s p.prices) (opened ps)) d []) o ≤ most
      one (Named n) d rest = rest d
      one Free zero rest = all.0.each o
      one Free (suc d) rest = rest d

-- ---- what is spent

module _ (h : Hardware) (k : Kernel) (counts : List ℕ) (small : AllByRecursion (λ n. n < 2 ^ 36) counts) where
  at_most : (i base p : ℕ) → slice_index counts i * debit base p ≤ 2305843009180139520
  at_most i base p = spent_most (slice_index counts i) base p (count_most counts i small)

  -- of one place
  pub spending_most : AllByRecursion (IsUpTo 4611686018427387904) (spending h k counts)
  spending_most =
      joined (IsUpTo 4611686018427387904) (numbered (site_spending h k counts) 0 k.sites) (numbered (variable_spending h k counts) 0 k.vars)
      (numbered_most 4611686018427387904 (site_spending h k counts) 0 k.sites
      (λ i s. record { each = mapped_most 4611686018427387904 (λ (kind : KindSpec). slice_index counts i * debit h.base kind.right) (kinds_of h s.op) (λ kind. omega (arith, at_most i h.base kind.right)) }))
      (numbered_most 4611686018427387904 (variable_spending h k counts) 0 k.vars
      (λ v x. record {
        each = mapped_most 4611686018427387904
            (λ (m : MemSpec). slice_index counts (number k (label.Read v)) * debit h.base m.read + slice_index counts (number k (label.Write v)) * debit h.base m.write) h.memories
            (λ m. omega (arith, at_most (number k (label.Read v)) h.base m.read, at_most (number k (label.Write v)) h.base m.write));
      }))

  -- of all places
  pub closed_spends : closed (spending h k counts) ≤ 4611686018427387904 * (length k.sites + length k.vars)
  closed_spends =
      let long : length (spending h k counts) ≡ length k.sites + length k.vars =
      length-append (numbered (site_spending h k counts) 0 k.sites) (numbered (variable_spending h k counts) 0 k.vars)
      ∙ omega (arith, numbered_long (site_spending h k counts) 0 k.sites, numbered_long (variable_spending h k counts) 0 k.vars) in
      omega (arith, closed_most 4611686018427387904 (spending h k counts) spending_most, ap (λ n. 4611686018427387904 * n) long)

  -- of all calls
  pub calls_most : calls_spend h k counts ≤ 2305843009180139520 * length k.calls
  calls_most = each 0 k.calls
    where
      each : (a : ℕ) (xs : List CallSite) → sum_from (λ place site. slice_index counts (number k (label.Call place)) * debit h.base site.bound) a xs ≤ 2305843009180139520 * length xs
      each a [] = omega arith
      each a (x ∷ xs) = omega (arith, at_most (number k (label.Call a)) h.base x.bound, each (suc a) xs)
