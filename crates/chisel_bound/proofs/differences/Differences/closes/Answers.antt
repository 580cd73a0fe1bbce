use Rattle.std.proofs.Common.{◌*◌, arith, rules, sym, ap, ◌∙◌, ◌≡◌, None, Some, length}
use Rattle.std.specs.Prelude.{slice_index}
use Rattle.std.proofs.lemmas.Int.{to_z-of_z}
use lib.IntN.{pos, ◌-ℤ◌}
use mir.Syntax.{w128}
use mir.Val.{to_z, of_z, SFits}
use Rattle.chisel_table.specs.declared.lagrangian.TheConstants.{ENERGY_WEIGHT}
use Rattle.chisel_table.specs.Choices.{energy, precedes}
use Rattle.chisel_table.specs.Partials.{first_option}
use Rattle.chisel_table.specs.Closings.{first_close}
use Rattle.chisel_table.specs.Lagrangian.{row_excess}
use Rattle.chisel_table.specs.Tables.{row_count}
use Rattle.chisel_bound.specs.Kept.{IsBestKept, best_options}
use Rattle.chisel_bound.proofs.Keeps.{rows_found, excess_found, value_found, without_best, close_c, close_i, close_d, close_t, tie_closes, tie_stays, tie_none}
use Rattle.chisel_bound.proofs.Lists.{length_listed}
use Rattle.chisel_bound.proofs.differences.Differences.closes.Goals as goal

pub first_row_above-requires : goal.first_row_above-requires
first_row_above-requires c =
    let t = c.args.self.now.table.now in
    let a = ap length c.requires.rows.excesses in
    let b = length_listed (row_count t) (λ i. row_excess t i c.args.rows.now.partial) in
    let e = ap length c.deref.ensures.value in
    let f = c.requires.differences.table.few_rows in
    omega (arith, a, b, e, f)

pub returns-in-Some : goal.returns-in-Some
returns-in-Some c =
    let t = c.args.self.now.table.now in
    let pool = c.args.self.now.pool.now.vectors in
    let best = best_options c.args.best in
    let r = c.args.rows.now in
    let row = rows_found t pool best r c.deref.result.now c.first_row_above.result c.requires.rows c.deref.ensures.value c.first_row_above.ensures in
    close_c t pool best r.partial c.in-Some.index (row ∙ c.in-Some.is)

pub returns-in-Some-first_excess_above : goal.returns-in-Some-first_excess_above
returns-in-Some-first_excess_above c =
    let t = c.args.self.now.table.now in
    let pool = c.args.self.now.pool.now.vectors in
    let best = best_options c.args.best in
    let r = c.args.rows.now in
    let row = rows_found t pool best r c.deref.result.now c.first_row_above.result c.requires.rows c.deref.ensures.value c.first_row_above.ensures in
    let exc = excess_found t pool best r.partial c.args.bounds.now c.first_excess_above.result c.requires.bounds c.first_excess_above.ensures in
    close_i t pool best r.partial c.in-Some-first_excess_above.index (row ∙ c.in_default.is) (exc ∙ c.in-Some-first_excess_above.is)

pub returns-in_default-best : goal.returns-in_default-best
returns-in_default-best c =
    let t = c.args.self.now.table.now in
    let pool = c.args.self.now.pool.now.vectors in
    let r = c.args.rows.now in
    let row = rows_found t pool None r c.deref.result.now c.first_row_above.result c.requires.rows c.deref.ensures.value c.first_row_above.ensures in
    let exc = excess_found t pool None r.partial c.args.bounds.now c.first_excess_above.result c.requires.bounds c.first_excess_above.ensures in
    without_best t pool r.partial (row ∙ c.in_default.is) (exc ∙ c.in_default-first_excess_above.is)
    ∙ ap (λ b. first_close t pool (best_options b) r.partial) (sym c.in_default-best.is)

pub returns-in-Some-first_value_above : goal.returns-in-Some-first_value_above
returns-in-Some-first_value_above c =
    let t = c.args.self.now.table.now in
    let pool = c.args.self.now.pool.now.vectors in
    let r = c.args.rows.now in
    let bs = c.args.bounds.now in
    let s = c.in-Some-best.is in
    let b = c.in-Some-best.best.now.options in
    let kept : IsBestKept t c.in-Some-best.best.now = rw s at c.requires.best in
    let is = c.requires.bounds in
    let row = rows_found t pool (Some b) r c.deref.result.now c.first_row_above.result c.requires.rows c.deref.ensures.value c.first_row_above.ensures ∙ c.in_default.is in
    let exc = excess_found t pool (Some b) r.partial bs c.first_excess_above.result is c.first_excess_above.ensures ∙ c.in_default-first_excess_above.is in
    let to_best = ap (λ x. first_close t pool (best_options x) r.partial) (sym s) in
    let f : SFits w128 c.weighted_energy.result = search rules in
    let limit : to_z w128 (of_z w128 c.weighted_energy.result) ≡ pos (ENERGY_WEIGHT * energy t b) =
    to_z-of_z w128 c.weighted_energy.result f ∙ c.weighted_energy.ensures ∙ ap (λ e. pos (ENERGY_WEIGHT * e)) kept.energy in
    let val = value_found t pool b r.partial bs (to_z w128 (of_z w128 c.weighted_energy.result)) c.first_value_above.result is c.first_value_above.ensures limit in
    close_d t pool (Some b) r.partial c.in-Some-first_value_above.index row exc (val ∙ c.in-Some-first_value_above.is) ∙ to_best

pub returns-in_default-first_value_above-2 : goal.returns-in_default-first_value_above-2
returns-in_default-first_value_above-2 c =
    let t = c.args.self.now.table.now in
    let pool = c.args.self.now.pool.now.vectors in
    let r = c.args.rows.now in
    let bs = c.args.bounds.now in
    let s = c.in-Some-best.is in
    let b = c.in-Some-best.best.now.options in
    let kept : IsBestKept t c.in-Some-best.best.now = rw s at c.requires.best in
    let is = c.requires.bounds in
    let row = rows_found t pool (Some b) r c.deref.result.now c.first_row_above.result c.requires.rows c.deref.ensures.value c.first_row_above.ensures ∙ c.in_default.is in
    let exc = excess_found t pool (Some b) r.partial bs c.first_excess_above.result is c.first_excess_above.ensures ∙ c.in_default-first_excess_above.is in
    let to_best = ap (λ x. first_close t pool (best_options x) r.partial) (sym s) in
    let f : SFits w128 c.weighted_energy.result = search rules in
    let limit : to_z w128 (of_z w128 c.weighted_energy.result) ≡ pos (ENERGY_WEIGHT * energy t b) =
    to_z-of_z w128 c.weighted_energy.result f ∙ c.weighted_energy.ensures ∙ ap (λ e. pos (ENERGY_WEIGHT * e)) kept.energy in
    let val = value_found t pool b r.partial bs (to_z w128 (of_z w128 c.weighted_energy.result)) c.first_value_above.result is c.first_value_above.ensures limit in
    let g : SFits w128 c.tied_energy.result = search rules in
    let tie : to_z w128 (of_z w128 c.tied_energy.result) ≡ pos (ENERGY_WEIGHT * energy t b) -ℤ pos ENERGY_WEIGHT =
    to_z-of_z w128 c.tied_energy.result g ∙ c.tied_energy.ensures ∙ ap (λ e. pos (ENERGY_WEIGHT * e) -ℤ pos ENERGY_WEIGHT) kept.energy in
    let none = val ∙ c.in_default-first_value_above.is in
    let last = tie_none t pool r.partial bs is b (to_z w128 (of_z w128 c.tied_energy.result)) tie (sym c.first_value_above-2.ensures ∙ c.in_default-first_value_above-2.is) in
    close_t t pool (Some b) r.partial None row exc none last ∙ to_best

pub returns-then-first_precedes : goal.returns-then-first_precedes
returns-then-first_precedes c =
    let t = c.args.self.now.table.now in
    let pool = c.args.self.now.pool.now.vectors in
    let r = c.args.rows.now in
    let bs = c.args.bounds.now in
    let s = c.in-Some-best.is in
    let b = c.in-Some-best.best.now.options in
    let kept : IsBestKept t c.in-Some-best.best.now = rw s at c.requires.best in
    let is = c.requires.bounds in
    let row = rows_found t pool (Some b) r c.deref.result.now c.first_row_above.result c.requires.rows c.deref.ensures.value c.first_row_above.ensures ∙ c.in_default.is in
    let exc = excess_found t pool (Some b) r.partial bs c.first_excess_above.result is c.first_excess_above.ensures ∙ c.in_default-first_excess_above.is in
    let to_best = ap (λ x. first_close t pool (best_options x) r.partial) (sym s) in
    let f : SFits w128 c.weighted_energy.result = search rules in
    let limit : to_z w128 (of_z w128 c.weighted_energy.result) ≡ pos (ENERGY_WEIGHT * energy t b) =
    to_z-of_z w128 c.weighted_energy.result f ∙ c.weighted_energy.ensures ∙ ap (λ e. pos (ENERGY_WEIGHT * e)) kept.energy in
    let val = value_found t pool b r.partial bs (to_z w128 (of_z w128 c.weighted_energy.result)) c.first_value_above.result is c.first_value_above.ensures limit in
    let g : SFits w128 c.tied_energy.result = search rules in
    let tie : to_z w128 (of_z w128 c.tied_energy.result) ≡ pos (ENERGY_WEIGHT * energy t b) -ℤ pos ENERGY_WEIGHT =
    to_z-of_z w128 c.tied_energy.result g ∙ c.tied_energy.ensures ∙ ap (λ e. pos (ENERGY_WEIGHT * e) -ℤ pos ENERGY_WEIGHT) kept.energy in
    let none = val ∙ c.in_default-first_value_above.is in
    let before = sym (c.first_precedes.ensures ∙ ap (λ os. precedes t (first_option r.partial) (slice_index os)) c.as_slice.ensures) ∙ c.if-first_precedes.true in
    close_t t pool (Some b) r.partial None row exc none (tie_stays t pool r.partial bs is b before) ∙ to_best

pub returns : goal.returns
returns c =
    let t = c.args.self.now.table.now in
    let pool = c.args.self.now.pool.now.vectors in
    let r = c.args.rows.now in
    let bs = c.args.bounds.now in
    let s = c.in-Some-best.is in
    let b = c.in-Some-best.best.now.options in
    let kept : IsBestKept t c.in-Some-best.best.now = rw s at c.requires.best in
    let is = c.requires.bounds in
    let row = rows_found t pool (Some b) r c.deref.result.now c.first_row_above.result c.requires.rows c.deref.ensures.value c.first_row_above.ensures ∙ c.in_default.is in
    let exc = excess_found t pool (Some b) r.partial bs c.first_excess_above.result is c.first_excess_above.ensures ∙ c.in_default-first_excess_above.is in
    let to_best = ap (λ x. first_close t pool (best_options x) r.partial) (sym s) in
    let f : SFits w128 c.weighted_energy.result = search rules in
    let limit : to_z w128 (of_z w128 c.weighted_energy.result) ≡ pos (ENERGY_WEIGHT * energy t b) =
    to_z-of_z w128 c.weighted_energy.result f ∙ c.weighted_energy.ensures ∙ ap (λ e. pos (ENERGY_WEIGHT * e)) kept.energy in
    let val = value_found t pool b r.partial bs (to_z w128 (of_z w128 c.weighted_energy.result)) c.first_value_above.result is c.first_value_above.ensures limit in
    let g : SFits w128 c.tied_energy.result = search rules in
    let tie : to_z w128 (of_z w128 c.tied_energy.result) ≡ pos (ENERGY_WEIGHT * energy t b) -ℤ pos ENERGY_WEIGHT =
    to_z-of_z w128 c.tied_energy.result g ∙ c.tied_energy.ensures ∙ ap (λ e. pos (ENERGY_WEIGHT * e) -ℤ pos ENERGY_WEIGHT) kept.energy in
    let none = val ∙ c.in_default-first_value_above.is in
    let after = sym (c.first_precedes.ensures ∙ ap (λ os. precedes t (first_option r.partial) (slice_index os)) c.as_slice.ensures) ∙ c.if-first_precedes.false in
    let last = sym (tie_closes t pool r.partial bs is b (to_z w128 (of_z w128 c.tied_energy.result)) tie after) ∙ sym c.first_value_above-2.ensures ∙ c.in-Some-first_value_above-2.is in
    close_t t pool (Some b) r.partial (Some c.in-Some-first_value_above-2.index) row exc none last ∙ to_best
