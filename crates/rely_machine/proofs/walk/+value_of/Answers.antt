use Rattle.std.proofs.Common.{rules, ◌∷◌, ap, subst, ◌∙◌}
use Rattle.rely_kernel.specs.declared.kernel.Ex.{the_lemmas}
use Rattle.rely_kernel.specs.Machine.{expr_items}
use Rattle.rely_kernel.specs.Text.{expr_of}
use Rattle.rely_machine.specs.Going.{Runs, Exceeds}
use Rattle.rely_kernel.specs.Valid.{ExprFits}
use Rattle.rely_kernel.proofs.TextLemmas.{text-Elem, text-Bin}
use Rattle.rely_machine.proofs.Reading.{steps_from, scalar_long, array_there}
use Rattle.rely_machine.proofs.Values.{num_goes, read_goes, read_stops, elem_fits, elem_fits_array, elem_label, elem_goes, elem_stops_first, elem_stops, bin_fits, bin_label, bin_goes, bin_stops_first, bin_stops_then, bin_stops}
use Rattle.rely_machine.proofs.walk.+value_of.Goals as goal

pub returns-in_err-take-in-Read-clause-exceeds : goal.returns-in_err-take-in-Read-clause-exceeds
returns-in_err-take-in-Read-clause-exceeds t c = λ is.
    read_stops c.args.r.now c.args.held.now c.args.tally.now c.requires.running (expr_of c.args.e.now) c.requires.fits c.in-Read.v (ap expr_of c.in-Read.is)
    (c.take.ensures.steps (steps_from c.take.result c.from_residual.result c.in_err-take-in-Read.field-0.0 c.from_residual.ensures.1 c.in_err-take-in-Read.was is))

pub read-requires : goal.read-requires
read-requires t c = scalar_long c.args.r.now.kernel.now c.args.held.now c.in-Read.v c.requires.running.shape (subst (λ e. ExprFits c.args.r.now.kernel.now (expr_of e)) c.in-Read.is c.requires.fits)

pub value_of-requires : goal.value_of-requires
value_of-requires t c = (search (rules, the_lemmas), (c.requires.running, rw c.get.ensures (elem_fits c.args.r.now c.args.held.now c.args.tally.now c.requires.running (expr_of c.args.e.now) c.requires.fits c.in-Elem.a (expr_of c.in-Elem.index) (ap expr_of c.in-Elem.is ∙ text-Elem c.in-Elem.a c.in-Elem.index))))

pub returns-in_err-i-in-Elem-clause-exceeds : goal.returns-in_err-i-in-Elem-clause-exceeds
returns-in_err-i-in-Elem-clause-exceeds t c = λ is.
    elem_stops_first c.args.r.now c.args.held.now c.args.tally.now c.requires.running (expr_of c.args.e.now) c.requires.fits c.in-Elem.a (expr_of c.in-Elem.index) (ap expr_of c.in-Elem.is ∙ text-Elem c.in-Elem.a c.in-Elem.index)
    (subst (λ e. Exceeds c.args.r.now (expr_items (expr_of e)) (λ st. st) c.args.held.now c.args.tally.now) c.get.ensures (c.value_of.ensures.exceeds (steps_from c.value_of.result c.from_residual-in_err-i-in-Elem.result c.in_err-i-in-Elem.field-0.0 c.from_residual-in_err-i-in-Elem.ensures.1 c.in_err-i-in-Elem.was is)))

pub take-requires-in-Elem : goal.take-requires-in-Elem
take-requires-in-Elem t c = elem_label c.args.r.now c.args.held.now c.args.tally.now c.requires.running (expr_of c.args.e.now) c.requires.fits c.in-Elem.a (expr_of c.in-Elem.index) (ap expr_of c.in-Elem.is ∙ text-Elem c.in-Elem.a c.in-Elem.index) c.value_of.new.tally c.at-in-Elem.result c.read_label-in-Elem.result c.in_ok-i-in-Elem.ensures.runs.running c.at-in-Elem.ensures c.read_label-in-Elem.ensures

pub returns-in_err-take-in-Elem-clause-exceeds : goal.returns-in_err-take-in-Elem-clause-exceeds
returns-in_err-take-in-Elem-clause-exceeds t c = λ is.
    elem_stops c.args.r.now c.args.held.now c.args.tally.now c.requires.running (expr_of c.args.e.now) c.requires.fits c.in-Elem.a (expr_of c.in-Elem.index) (ap expr_of c.in-Elem.is ∙ text-Elem c.in-Elem.a c.in-Elem.index) c.in_ok-i-in-Elem.i
    (subst (λ e. Runs c.args.r.now (expr_items (expr_of e)) (λ st. st) (λ st. c.in_ok-i-in-Elem.i ∷ st) c.args.held.now c.args.tally.now c.args.held.now c.value_of.new.tally) c.get.ensures c.in_ok-i-in-Elem.ensures.runs)
    (c.take-in-Elem.ensures.steps (steps_from c.take-in-Elem.result c.from_residual-in_err-take-in-Elem.result c.in_err-take-in-Elem.field-0.0 c.from_residual-in_err-take-in-Elem.ensures.1 c.in_err-take-in-Elem.was is))

pub read_at-requires : goal.read_at-requires
read_at-requires t c = array_there c.args.r.now.kernel.now c.args.held.now c.in-Elem.a c.requires.running.shape (elem_fits_array c.args.r.now c.args.held.now c.args.tally.now c.requires.running (expr_of c.args.e.now) c.requires.fits c.in-Elem.a (expr_of c.in-Elem.index) (ap expr_of c.in-Elem.is ∙ text-Elem c.in-Elem.a c.in-Elem.index))

pub value_of-requires-in-Bin : goal.value_of-requires-in-Bin
value_of-requires-in-Bin t c = (search (rules, the_lemmas), (c.requires.running, rw c.get-in-Bin.ensures (bin_fits c.args.r.now c.args.held.now c.args.tally.now c.requires.running (expr_of c.args.e.now) c.requires.fits c.in-Bin.site (expr_of c.in-Bin.left) (expr_of c.in-Bin.right) (ap expr_of c.in-Bin.is ∙ text-Bin c.in-Bin.site c.in-Bin.left c.in-Bin.right)).1))

pub returns-in_err-x-in-Bin-clause-exceeds : goal.returns-in_err-x-in-Bin-clause-exceeds
returns-in_err-x-in-Bin-clause-exceeds t c = λ is.
    bin_stops_first c.args.r.now c.args.held.now c.args.tally.now c.requires.running (expr_of c.args.e.now) c.requires.fits c.in-Bin.site (expr_of c.in-Bin.left) (expr_of c.in-Bin.right) (ap expr_of c.in-Bin.is ∙ text-Bin c.in-Bin.site c.in-Bin.left c.in-Bin.right)
    (subst (λ e. Exceeds c.args.r.now (expr_items (expr_of e)) (λ st. st) c.args.held.now c.args.tally.now) c.get-in-Bin.ensures (c.value_of-in-Bin.ensures.exceeds (steps_from c.value_of-in-Bin.result c.from_residual-in_err-x-in-Bin.result c.in_err-x-in-Bin.field-0.0 c.from_residual-in_err-x-in-Bin.ensures.1 c.in_err-x-in-Bin.was is)))

pub value_of-requires-in-Bin-2 : goal.value_of-requires-in-Bin-2
value_of-requires-in-Bin-2 t c = (search (rules, the_lemmas), (c.in_ok-x-in-Bin.ensures.runs.running, rw c.get-in-Bin-2.ensures (bin_fits c.args.r.now c.args.held.now c.args.tally.now c.requires.running (expr_of c.args.e.now) c.requires.fits c.in-Bin.site (expr_of c.in-Bin.left) (expr_of c.in-Bin.right) (ap expr_of c.in-Bin.is ∙ text-Bin c.in-Bin.site c.in-Bin.left c.in-Bin.right)).2))

pub returns-in_err-y-in-Bin-clause-exceeds : goal.returns-in_err-y-in-Bin-clause-exceeds
returns-in_err-y-in-Bin-clause-exceeds t c = λ is.
    bin_stops_then c.args.r.now c.args.held.now c.args.tally.now c.requires.running (expr_of c.args.e.now) c.requires.fits c.in-Bin.site (expr_of c.in-Bin.left) (expr_of c.in-Bin.right) (ap expr_of c.in-Bin.is ∙ text-Bin c.in-Bin.site c.in-Bin.left c.in-Bin.right) c.in_ok-x-in-Bin.x
    (subst (λ e. Runs c.args.r.now (expr_items (expr_of e)) (λ st. st) (λ st. c.in_ok-x-in-Bin.x ∷ st) c.args.held.now c.args.tally.now c.args.held.now c.value_of-in-Bin.new.tally) c.get-in-Bin.ensures c.in_ok-x-in-Bin.ensures.runs)
    (subst (λ e. Exceeds c.args.r.now (expr_items (expr_of e)) (λ st. st) c.args.held.now c.value_of-in-Bin.new.tally) c.get-in-Bin-2.ensures (c.value_of-in-Bin-2.ensures.exceeds (steps_from c.value_of-in-Bin-2.result c.from_residual-in_err-y-in-Bin.result c.in_err-y-in-Bin.field-0.0 c.from_residual-in_err-y-in-Bin.ensures.1 c.in_err-y-in-Bin.was is)))

pub take-requires-in-Bin : goal.take-requires-in-Bin
take-requires-in-Bin t c = bin_label c.args.r.now c.args.held.now c.args.tally.now c.requires.running (expr_of c.args.e.now) c.requires.fits c.in-Bin.site (expr_of c.in-Bin.left) (expr_of c.in-Bin.right) (ap expr_of c.in-Bin.is ∙ text-Bin c.in-Bin.site c.in-Bin.left c.in-Bin.right) c.value_of-in-Bin-2.new.tally c.at-in-Bin.result c.in_ok-y-in-Bin.ensures.runs.running c.at-in-Bin.ensures

pub returns-in_err-take-in-Bin-clause-exceeds : goal.returns-in_err-take-in-Bin-clause-exceeds
returns-in_err-take-in-Bin-clause-exceeds t c = λ is.
    bin_stops c.args.r.now c.args.held.now c.args.tally.now c.requires.running (expr_of c.args.e.now) c.requires.fits c.in-Bin.site (expr_of c.in-Bin.left) (expr_of c.in-Bin.right) (ap expr_of c.in-Bin.is ∙ text-Bin c.in-Bin.site c.in-Bin.left c.in-Bin.right) c.in_ok-x-in-Bin.x c.in_ok-y-in-Bin.y
    (subst (λ e. Runs c.args.r.now (expr_items (expr_of e)) (λ st. st) (λ st. c.in_ok-x-in-Bin.x ∷ st) c.args.held.now c.args.tally.now c.args.held.now c.value_of-in-Bin.new.tally) c.get-in-Bin.ensures c.in_ok-x-in-Bin.ensures.runs)
    (subst (λ e. Runs c.args.r.now (expr_items (expr_of e)) (λ st. st) (λ st. c.in_ok-y-in-Bin.y ∷ st) c.args.held.now c.value_of-in-Bin.new.tally c.args.held.now c.value_of-in-Bin-2.new.tally) c.get-in-Bin-2.ensures c.in_ok-y-in-Bin.ensures.runs)
    (c.take-in-Bin.ensures.steps (steps_from c.take-in-Bin.result c.from_residual-in_err-take-in-Bin.result c.in_err-take-in-Bin.field-0.0 c.from_residual-in_err-take-in-Bin.ensures.1 c.in_err-take-in-Bin.was is))

pub operator-requires : goal.operator-requires
operator-requires t c = (bin_fits c.args.r.now c.args.held.now c.args.tally.now c.requires.running (expr_of c.args.e.now) c.requires.fits c.in-Bin.site (expr_of c.in-Bin.left) (expr_of c.in-Bin.right) (ap expr_of c.in-Bin.is ∙ text-Bin c.in-Bin.site c.in-Bin.left c.in-Bin.right)).0

pub returns-in-Num-clause-runs : goal.returns-in-Num-clause-runs
returns-in-Num-clause-runs t c = num_goes c.args.r.now c.args.held.now c.args.tally.now c.requires.running (expr_of c.args.e.now) c.requires.fits c.in-Num.z (ap expr_of c.in-Num.is) (search rules)

pub returns-in_ok-take-in-Read-clause-runs : goal.returns-in_ok-take-in-Read-clause-runs
returns-in_ok-take-in-Read-clause-runs t c = read_goes c.args.r.now c.args.held.now c.args.tally.now c.requires.running (expr_of c.args.e.now) c.requires.fits c.in-Read.v c.at.result c.read_label.result (ap expr_of c.in-Read.is) (search rules) c.in_ok-take-in-Read.ensures.ok c.at.ensures c.read_label.ensures

pub returns-in_ok-take-in-Elem-clause-runs : goal.returns-in_ok-take-in-Elem-clause-runs
returns-in_ok-take-in-Elem-clause-runs t c = elem_goes c.args.r.now c.args.held.now c.args.tally.now c.requires.running (expr_of c.args.e.now) c.requires.fits c.in-Elem.a (expr_of c.in-Elem.index) (ap expr_of c.in-Elem.is ∙ text-Elem c.in-Elem.a c.in-Elem.index) c.in_ok-i-in-Elem.i c.at-in-Elem.result c.read_label-in-Elem.result
    (subst (λ e. Runs c.args.r.now (expr_items (expr_of e)) (λ st. st) (λ st. c.in_ok-i-in-Elem.i ∷ st) c.args.held.now c.args.tally.now c.args.held.now c.value_of.new.tally) c.get.ensures c.in_ok-i-in-Elem.ensures.runs)
    (search rules) c.in_ok-take-in-Elem.ensures.ok c.at-in-Elem.ensures c.read_label-in-Elem.ensures

pub returns-in_ok-take-in-Bin-clause-runs : goal.returns-in_ok-take-in-Bin-clause-runs
returns-in_ok-take-in-Bin-clause-runs t c = bin_goes c.args.r.now c.args.held.now c.args.tally.now c.requires.running (expr_of c.args.e.now) c.requires.fits c.in-Bin.site (expr_of c.in-Bin.left) (expr_of c.in-Bin.right) (ap expr_of c.in-Bin.is ∙ text-Bin c.in-Bin.site c.in-Bin.left c.in-Bin.right) c.in_ok-x-in-Bin.x c.in_ok-y-in-Bin.y c.operator.result c.at-in-Bin.result
    (subst (λ e. Runs c.args.r.now (expr_items (expr_of e)) (λ st. st) (λ st. c.in_ok-x-in-Bin.x ∷ st) c.args.held.now c.args.tally.now c.args.held.now c.value_of-in-Bin.new.tally) c.get-in-Bin.ensures c.in_ok-x-in-Bin.ensures.runs)
    (subst (λ e. Runs c.args.r.now (expr_items (expr_of e)) (λ st. st) (λ st. c.in_ok-y-in-Bin.y ∷ st) c.args.held.now c.value_of-in-Bin.new.tally c.args.held.now c.value_of-in-Bin-2.new.tally) c.get-in-Bin-2.ensures c.in_ok-y-in-Bin.ensures.runs)
    c.operator.ensures (search rules) c.in_ok-take-in-Bin.ensures.ok c.at-in-Bin.ensures
