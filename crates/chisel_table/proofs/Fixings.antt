-- What fixing a decision changes, and what it leaves.
use Rattle.std.specs.Prelude.{◌==◌, slice_index}
use Rattle.std.proofs.Common.{◌≡◌, ℕ, true, ◌<◌, sym, ap, ◌∙◌, arith, List}
use Rattle.std.proofs.lemmas.Bool.{eqb-true}
use Rattle.chisel_table.specs.declared.partial.Partial.{Partial}
use Rattle.chisel_table.specs.declared.table.Table.{Table}
use Rattle.chisel_table.specs.Fixing.{FixingGrowsBounds, FixingDivides, NothingFixedIsAll}
use Rattle.chisel_table.specs.Partials.{slot, is_unfixed, with_option, Completes}
use Rattle.chisel_table.specs.Tables.{decision_count}
use Rattle.chisel_table.proofs.Partials.{slot_fixed, slot_other, completes_fixed, completes_nothing, fixed_partial}
use Rattle.chisel_table.proofs.Relaxation.{value_fixed, excess_fixed, row_excess_fixed}
use Rattle.chisel_table.proofs.Sums.{by_test, differ}

-- each bound grows by what the option has above the least option of its decision
pub bounds_grow : FixingGrowsBounds
bounds_grow t p d o h = record {
  value_grows = λ l. value_fixed t l p d o h.decision h.unfixed h.option;
  excess_grows = λ l. excess_fixed t l p d o h.decision h.unfixed h.option;
  row_excess_grows = λ i. row_excess_fixed t i p d o h.decision h.unfixed h.option;
}

-- a completion of a partial choice with an option fixed is one without it, and takes the option
fixed_within : (t : Table) (p : Partial) (d o : ℕ) (c : List ℕ) → is_unfixed p d ≡ true → Completes t (with_option p d o) c → Completes t p c
fixed_within t p d o c u h = record {
  choice = h.choice;
  fixed = λ e l ne. by_test (e == d)
      (λ q. absurd (let w = eqb-true e d q in let z = eqb-true (slot p d) 255 u in ne (ap (slot p) w ∙ z)))
      (λ q. let w = slot_other p d o e (differ e d q) in h.fixed e l (λ z. ne (sym w ∙ z)) ∙ w);
}

fixed_taken : (t : Table) (p : Partial) (d o : ℕ) (c : List ℕ) → d < decision_count t → is_unfixed p d ≡ true → o < 255 →
    Completes t (with_option p d o) c → slice_index c d ≡ o
fixed_taken t p d o c l u s h =
    let w = slot_fixed p d o u in
    h.fixed d l (λ z. let q : o ≡ 255 = sym w ∙ z in omega arith) ∙ w

pub divides : FixingDivides
divides t p d table h l u = record {
  partial = λ o k. fixed_partial t p d o u k h;
  within = λ o c k m. fixed_within t p d o c u m;
  taken = λ o c k m. let few = table.few_options d l in fixed_taken t p d o c l u (omega arith) m;
  all = λ c m. completes_fixed t p c d u m;
}

pub nothing_is_all : NothingFixedIsAll
nothing_is_all t c table h = completes_nothing t c table.few_decisions h
