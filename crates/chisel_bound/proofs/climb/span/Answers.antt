use Rattle.std.proofs.Common.{arith, sym, ap, ◌∙◌, List, ℕ, length}
use Rattle.std.specs.Prelude.{slice_index}
use Rattle.chisel_table.specs.Tables.{option_count, energy_at}
use Rattle.chisel_table.proofs.Sums.{sum_none, sum_more}
use Rattle.chisel_bound.specs.Ascent.{spread}
use Rattle.chisel_bound.proofs.climb.span.Goals as goal

pub loop-d-init : goal.loop-d-init
loop-d-init c = record { value = sym (sum_none _); bound = omega arith }

pub loop-d-preserved : goal.loop-d-preserved
loop-d-preserved c =
    let m = sum_more c.loop-d.d (λ d. spread (option_count c.args.t.now d) (energy_at c.args.t.now d)) in
    let e = c.spread.ensures ∙ ap (λ (es : List ℕ). spread (length es) (slice_index es)) c.energies_of.ensures in
    record {
      value = omega (arith, m, e, c.loop-d.invariant.value);
      bound = omega (arith, c.loop-d.invariant.bound);
    }
