-- What places spend under a setting: small numbers, and with the calls what the counts of all labels spend.
use Rattle.std.proofs.Common.{◌≡◌, ℕ, zero, suc, ◌+◌, ◌*◌, ◌^◌, ◌<◌, ◌≤◌, true, false, Bool, List, [], ◌∷◌, ◌++◌, map, refl, sym, ap, ◌∙◌, arith}
use Rattle.std.specs.Prelude.{nat_le, slice_index}
use Rattle.std.specs.List.{AllByRecursion}
use Rattle.std.proofs.lemmas.Bool.{leb-true}
use Rattle.std.proofs.lemmas.Bool.Decides.{nat_tests}
use Rattle.std.proofs.lemmas.List.{map-append}
use Rattle.std.proofs.lemmas.Nat.{mul-le}
use Rattle.rely_num.specs.declared.op.Op.{Op}
use Rattle.rely_hard.specs.declared.hardware.Hardware.{Hardware}
use Rattle.rely_hard.specs.declared.hardware.KindSpec.{KindSpec}
use Rattle.rely_hard.specs.declared.hardware.MemSpec.{MemSpec}
use Rattle.rely_kernel.specs.declared.kernel.Kernel.{Kernel}
use Rattle.rely_kernel.specs.declared.label.Label.TheVariants as label
use Rattle.rely_kernel.specs.Labels.{number}
use Rattle.rely_kernel.specs.Setting.{kinds_of}
use Rattle.rely_machine.specs.EnergySums.{capped}
use Rattle.chisel_debit.specs.Debits.{debit}
use Rattle.chisel_debit.specs.Hardware.{kind_debits}
use Rattle.chisel_debit.specs.declared.reliability.TheConstants.{MAX_DEBIT}
use Rattle.chisel_debit.proofs.DebitLaws.{debit_is}
use Rattle.chisel_problem.specs.Capped.{capped_place}
use Rattle.chisel_problem.specs.Places.{numbered}
use Rattle.chisel_problem.specs.Spending.{kind_spending, site_spending, spending, variable_spending}
use Rattle.chisel_problem.proofs.Capped.{mapped_capped, mapped_stay, numbered_stay}
use Rattle.chisel_problem.proofs.Lists.{mapped_twice}

-- ---- debits are small

not_le : (a b : ℕ) → nat_le a b ≡ false → b < a
not_le a b h = grind (arith, nat_tests)

pub debit_most : (base p : ℕ) → debit base p ≤ 33554432
debit_most base p = go (nat_le (debit base p) MAX_DEBIT) refl
  where
    go : (b : Bool) → nat_le (debit base p) MAX_DEBIT ≡ b → debit base p ≤ 33554432
    go true e = let m = leb-true (debit base p) MAX_DEBIT e in omega arith
    go false e = let b = (debit_is base p).beyond (not_le (debit base p) MAX_DEBIT e) in omega (arith, b)

-- one label's
pub spent_most : (count base p : ℕ) → count ≤ 68719476735 → count * debit base p ≤ 2305843009180139520
spent_most count base p h = let m = mul-le count (debit base p) 68719476735 33554432 h (debit_most base p) in omega (arith, m)

pub count_most : (counts : List ℕ) (i : ℕ) → AllByRecursion (λ n. n < 2 ^ 36) counts → slice_index counts i ≤ 68719476735
count_most [] i h = omega arith
count_most (n ∷ ns) zero h = omega (arith, h.0)
count_most (n ∷ ns) (suc i) h = count_most ns i h.1

-- ---- so 64 bits hold what places spend

pub spending_stays : (h : Hardware) (k : Kernel) (counts : List ℕ) → AllByRecursion (λ n. n < 2 ^ 36) counts → map capped_place (spending h k counts) ≡ spending h k counts
spending_stays h k counts small =
    let most : (i : ℕ) → slice_index counts i ≤ 68719476735 = λ i. count_most counts i small in
    let sites = numbered_stay (site_spending h k counts) 0 k.sites
    (λ i site. ap (λ (ns : List ℕ). record { slot = site.kind; prices = ns })
    (mapped_stay (λ (kind : KindSpec). slice_index counts i * debit h.base kind.right) (kinds_of h site.op)
    (λ kind. omega (arith, spent_most (slice_index counts i) h.base kind.right (most i))))) in
    let vars = numbered_stay (variable_spending h k counts) 0 k.vars
    (λ v var.
    let r = slice_index counts (number k (label.Read v)) in
    let w = slice_index counts (number k (label.Write v)) in
    ap (λ (ns : List ℕ). record { slot = var.memory; prices = ns })
    (mapped_stay (λ (m : MemSpec). r * debit h.base m.read + w * debit h.base m.write) h.memories
    (λ m. omega (arith, spent_most r h.base m.read (most (number k (label.Read v))), spent_most w h.base m.write (most (number k (label.Write v))))))) in
    map-append capped_place (numbered (site_spending h k counts) 0 k.sites) (numbered (variable_spending h k counts) 0 k.vars)
    ∙ (ap (λ ps. ps ++ map capped_place (numbered (variable_spending h k counts) 0 k.vars)) sites
    ∙ ap (λ ps. numbered (site_spending h k counts) 0 k.sites ++ ps) vars)

-- ---- loops

-- capped products with the debits of an operator's kinds
pub kind_spent : (h : Hardware) (op : Op) (count : ℕ) → map (λ d. capped (count * d)) (kind_debits h.base (kinds_of h op)) ≡ map capped (kind_spending h op count)
kind_spent h op count =
    mapped_twice (λ d. capped (count * d)) (λ (kind : KindSpec). debit h.base kind.right) (kinds_of h op)
    ∙ sym (mapped_capped (λ (kind : KindSpec). count * debit h.base kind.right) (kinds_of h op))

-- a product of 64 and 32 bits
pub call_most : (n d : ℕ) → n < 18446744073709551616 → d < 4294967296 → n * d ≤ 2 ^ 96
call_most n d p q = let m = mul-le n d 18446744073709551615 4294967295 (omega (arith, p)) (omega (arith, q)) in omega (arith, m)
