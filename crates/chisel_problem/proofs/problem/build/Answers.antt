use Rattle.std.proofs.Common.{◌+◌, ◌∙◌, ap, subst, sym}
use Rattle.std.specs.Prelude.{min}
use Rattle.rely_machine.specs.EnergySums.{capped}
use Rattle.chisel_table.specs.Valid.{IsTable}
use Rattle.rely_kernel.specs.Valid.{IsValid}
use Rattle.chisel_problem.specs.Places.{closed, opened}
use Rattle.chisel_problem.specs.Problem.{inner_energy, rows_of}
use Rattle.chisel_problem.specs.Promises.{ChoicesAreKernels, EnergyIsCost, MeetingKeepsBounds, RowsAreBudgets}
use Rattle.chisel_problem.proofs.Bounds.{main_valid}
use Rattle.chisel_problem.proofs.Opens.{not_refused}
use Rattle.chisel_problem.proofs.Predicates.{all_counted, all_short}
use Rattle.chisel_problem.proofs.Small.{table_is}
use Rattle.chisel_problem.proofs.Table.{bounds_hold, choices_are, energy_is_cost, rows_are}
use Rattle.chisel_problem.proofs.Valid.{table_is_valid}
use Rattle.chisel_problem.proofs.problem.build.Goals as goal

pub check-requires : goal.check-requires
check-requires c = main_valid c.args.k.now c.requires.ready.linked

pub rows-requires-clause-valid : goal.rows-requires-clause-valid
rows-requires-clause-valid c = subst IsValid (sym c.in_ok-debits.ensures.1) (main_valid c.args.k.now c.requires.ready.linked)

pub returns-clause-exact : goal.returns-clause-exact
returns-clause-exact c =
    let h = c.args.h.now in
    let l = c.args.k.now in
    let preds = c.args.preds.now in
    let runs = c.args.runs.now in
    let spent = c.in_ok-debits.debits in
    table_is h l c.requires.ready runs c.requires.samples preds c.saturating_add.result c.in_ok-inner.inner c.in_ok-places.places.items c.in_ok-opened.field-0 c.from_vec.result
    c.in_ok-places.ensures
    (c.in_ok-inner.ensures ∙ ap (λ ks. capped (inner_energy h ks runs)) c.as_slice.ensures)
    (c.saturating_add.ensures
    ∙ ap (λ e. min (e + c.in_ok-inner.inner) 18446744073709551615) (c.closed_energy.ensures ∙ ap (λ ps. capped (closed ps)) c.deref.ensures.value))
    (c.in_ok-opened.ensures ∙ ap opened c.deref-2.ensures.value)
    (c.from_vec.ensures
    ∙ (c.in_ok-rows.ensures.rows ∙ (ap (λ g. rows_of g spent.k.now preds) c.in_ok-debits.ensures.0 ∙ ap (λ k. rows_of h k preds) c.in_ok-debits.ensures.1)))

pub returns-clause-valid : goal.returns-clause-valid
returns-clause-valid c =
    let l = c.args.k.now in
    let h = c.args.h.now in
    let passed = c.in_ok-check.ensures in
    let fine = not_refused h l.kernel (λ n. absurd (let e = passed.no_open.1 n in cc)) (λ n. absurd (let e = passed.decisions.1 n in cc)) (λ n. absurd (let e = passed.options.1 n in cc)) in
    subst IsTable (sym (returns-clause-exact c))
    (table_is_valid h l c.requires.ready c.args.preds.now c.args.runs.now c.requires.samples (main_valid l c.requires.ready.linked) c.requires.predicates (all_short c.args.preds.now c.in_ok-rows.ensures.read) fine.some fine.few fine.narrow)

pub returns-clause-choices : goal.returns-clause-choices
returns-clause-choices c =
    subst (ChoicesAreKernels c.args.h.now c.args.k.now.kernel) (sym (returns-clause-exact c)) (choices_are c.args.h.now c.args.k.now c.requires.ready c.args.preds.now c.args.runs.now)

pub returns-clause-energy : goal.returns-clause-energy
returns-clause-energy c =
    subst (EnergyIsCost c.args.h.now c.args.k.now c.args.runs.now) (sym (returns-clause-exact c)) (energy_is_cost c.args.h.now c.args.k.now c.requires.ready c.args.preds.now c.args.runs.now)

pub returns-clause-rows : goal.returns-clause-rows
returns-clause-rows c =
    subst (RowsAreBudgets c.args.h.now c.args.k.now.kernel c.args.preds.now) (sym (returns-clause-exact c))
    (rows_are c.args.h.now c.args.k.now c.requires.ready c.args.preds.now c.args.runs.now c.requires.predicates.one_a_claim
    (all_counted c.args.k.now.kernel c.args.preds.now c.requires.predicates.each c.in_ok-rows.ensures.read))

pub returns-clause-bounds : goal.returns-clause-bounds
returns-clause-bounds c =
    subst (MeetingKeepsBounds c.args.h.now c.args.k.now c.args.preds.now) (sym (returns-clause-exact c))
    (bounds_hold c.args.h.now c.args.k.now c.requires.ready c.args.preds.now c.args.runs.now c.requires.predicates.one_a_claim
    (all_counted c.args.k.now.kernel c.args.preds.now c.requires.predicates.each c.in_ok-rows.ensures.read))
