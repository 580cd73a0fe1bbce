use Rattle.std.proofs.Common.{rules, ◌∷◌, ap, subst, ◌∙◌}
use Rattle.std.proofs.lemmas.Result.{IfOk-weaker}
use Rattle.rely_kernel.specs.declared.kernel.Ex.{the_lemmas}
use Rattle.rely_kernel.specs.Machine.{expr_items}
use Rattle.rely_kernel.specs.Text.{expr_of}
use Rattle.rely_kernel.proofs.TextLemmas.{text-Elem, text-Bin}
use Rattle.rely_faults.specs.Going.{Runs, Exceeds, here}
use Rattle.rely_faults.proofs.Values.{num_goes, read_long, read_goes, read_stops, elem_fits, elem_known, elem_there, elem_goes, elem_stops_first, elem_stops, bin_fits, bin_goes, bin_stops_first, bin_stops_then, bin_stops}
use Rattle.rely_faults.proofs.Walking.{both_err, on_err}
use Rattle.rely_faults.proofs.walk.+value_of.Goals as goal

pub read-requires : goal.read-requires
read-requires t c = read_long c.args.r.now c.args.held.now c.args.tally.now c.args.words.now c.requires.running (expr_of c.args.e.now) c.requires.fits c.in-Read.v (ap expr_of c.in-Read.is)

pub value_of-requires : goal.value_of-requires
value_of-requires t c = (search (rules, the_lemmas), (c.requires.running, rw c.get.ensures (elem_fits c.args.r.now c.args.held.now c.args.tally.now c.args.words.now c.requires.running (expr_of c.args.e.now) c.requires.fits c.in-Elem.a (expr_of c.in-Elem.index) (ap expr_of c.in-Elem.is ∙ text-Elem c.in-Elem.a c.in-Elem.index)).1))

pub returns-in_err-i-in-Elem-clause-exceeds : goal.returns-in_err-i-in-Elem-clause-exceeds
returns-in_err-i-in-Elem-clause-exceeds t c = on_err c.from_residual.result (elem_stops_first c.args.r.now c.args.held.now c.args.tally.now c.args.words.now c.requires.running (expr_of c.args.e.now) c.requires.fits c.in-Elem.a (expr_of c.in-Elem.index) (ap expr_of c.in-Elem.is ∙ text-Elem c.in-Elem.a c.in-Elem.index)
    (subst (λ e. Exceeds c.args.r.now (expr_items (expr_of e)) (λ st. st) (here c.args.held.now c.args.tally.now c.args.words.now) c.value_of.new.words) c.get.ensures c.in_err-i-in-Elem.ensures.exceeds))

pub read_rate-requires-in-Elem-clause-known : goal.read_rate-requires-in-Elem-clause-known
read_rate-requires-in-Elem-clause-known t c = elem_known c.args.r.now c.args.held.now c.args.tally.now c.args.words.now c.requires.running (expr_of c.args.e.now) c.requires.fits c.in-Elem.a (expr_of c.in-Elem.index) (ap expr_of c.in-Elem.is ∙ text-Elem c.in-Elem.a c.in-Elem.index)

pub read_at-requires : goal.read_at-requires
read_at-requires t c = elem_there c.args.r.now c.args.held.now c.args.tally.now c.args.words.now c.requires.running (expr_of c.args.e.now) c.requires.fits c.in-Elem.a (expr_of c.in-Elem.index) (ap expr_of c.in-Elem.is ∙ text-Elem c.in-Elem.a c.in-Elem.index)

pub value_of-requires-in-Bin : goal.value_of-requires-in-Bin
value_of-requires-in-Bin t c = (search (rules, the_lemmas), (c.requires.running, rw c.get-in-Bin.ensures (bin_fits c.args.r.now c.args.held.now c.args.tally.now c.args.words.now c.requires.running (expr_of c.args.e.now) c.requires.fits c.in-Bin.site (expr_of c.in-Bin.left) (expr_of c.in-Bin.right) (ap expr_of c.in-Bin.is ∙ text-Bin c.in-Bin.site c.in-Bin.left c.in-Bin.right)).1))

pub returns-in_err-x-in-Bin-clause-exceeds : goal.returns-in_err-x-in-Bin-clause-exceeds
returns-in_err-x-in-Bin-clause-exceeds t c = on_err c.from_residual-in_err-x-in-Bin.result (bin_stops_first c.args.r.now c.args.held.now c.args.tally.now c.args.words.now c.requires.running (expr_of c.args.e.now) c.requires.fits c.in-Bin.site (expr_of c.in-Bin.left) (expr_of c.in-Bin.right) (ap expr_of c.in-Bin.is ∙ text-Bin c.in-Bin.site c.in-Bin.left c.in-Bin.right)
    (subst (λ e. Exceeds c.args.r.now (expr_items (expr_of e)) (λ st. st) (here c.args.held.now c.args.tally.now c.args.words.now) c.value_of-in-Bin.new.words) c.get-in-Bin.ensures c.in_err-x-in-Bin.ensures.exceeds))

pub value_of-requires-in-Bin-2 : goal.value_of-requires-in-Bin-2
value_of-requires-in-Bin-2 t c = (search (rules, the_lemmas), (c.in_ok-x-in-Bin.ensures.runs.running, rw c.get-in-Bin-2.ensures (bin_fits c.args.r.now c.args.held.now c.args.tally.now c.args.words.now c.requires.running (expr_of c.args.e.now) c.requires.fits c.in-Bin.site (expr_of c.in-Bin.left) (expr_of c.in-Bin.right) (ap expr_of c.in-Bin.is ∙ text-Bin c.in-Bin.site c.in-Bin.left c.in-Bin.right)).2))

pub returns-in_err-y-in-Bin-clause-exceeds : goal.returns-in_err-y-in-Bin-clause-exceeds
returns-in_err-y-in-Bin-clause-exceeds t c = on_err c.from_residual-in_err-y-in-Bin.result (bin_stops_then c.args.r.now c.args.held.now c.args.tally.now c.args.words.now c.requires.running (expr_of c.args.e.now) c.requires.fits c.in-Bin.site (expr_of c.in-Bin.left) (expr_of c.in-Bin.right) (ap expr_of c.in-Bin.is ∙ text-Bin c.in-Bin.site c.in-Bin.left c.in-Bin.right) c.in_ok-x-in-Bin.x
    (subst (λ e. Runs c.args.r.now (expr_items (expr_of e)) (λ st. st) (λ st. c.in_ok-x-in-Bin.x ∷ st) (here c.args.held.now c.args.tally.now c.args.words.now) (here c.args.held.now c.value_of-in-Bin.new.tally c.value_of-in-Bin.new.words)) c.get-in-Bin.ensures c.in_ok-x-in-Bin.ensures.runs)
    (subst (λ e. Exceeds c.args.r.now (expr_items (expr_of e)) (λ st. st) (here c.args.held.now c.value_of-in-Bin.new.tally c.value_of-in-Bin.new.words) c.value_of-in-Bin-2.new.words) c.get-in-Bin-2.ensures c.in_err-y-in-Bin.ensures.exceeds))

pub operator-requires : goal.operator-requires
operator-requires t c = (bin_fits c.args.r.now c.args.held.now c.args.tally.now c.args.words.now c.requires.running (expr_of c.args.e.now) c.requires.fits c.in-Bin.site (expr_of c.in-Bin.left) (expr_of c.in-Bin.right) (ap expr_of c.in-Bin.is ∙ text-Bin c.in-Bin.site c.in-Bin.left c.in-Bin.right)).0

pub operator_rate-requires-clause-known : goal.operator_rate-requires-clause-known
operator_rate-requires-clause-known t c = (bin_fits c.args.r.now c.args.held.now c.args.tally.now c.args.words.now c.requires.running (expr_of c.args.e.now) c.requires.fits c.in-Bin.site (expr_of c.in-Bin.left) (expr_of c.in-Bin.right) (ap expr_of c.in-Bin.is ∙ text-Bin c.in-Bin.site c.in-Bin.left c.in-Bin.right)).0

pub returns-in-Num-clause-runs : goal.returns-in-Num-clause-runs
returns-in-Num-clause-runs t c = num_goes c.args.r.now c.args.held.now c.args.tally.now c.args.words.now c.requires.running (expr_of c.args.e.now) c.requires.fits c.in-Num.z (ap expr_of c.in-Num.is) (search rules)

pub returns-in-Read-clause-runs : goal.returns-in-Read-clause-runs
returns-in-Read-clause-runs t c = IfOk-weaker c.step.result _ _ (λ z h. read_goes c.args.r.now c.args.held.now c.args.tally.now c.args.words.now c.requires.running (expr_of c.args.e.now) c.requires.fits c.in-Read.v (ap expr_of c.in-Read.is) c.read_rate.ensures (search rules) h) c.step.ensures.ok

pub returns-in-Read-clause-exceeds : goal.returns-in-Read-clause-exceeds
returns-in-Read-clause-exceeds t c = both_err c.step.result (λ full same. read_stops c.args.r.now c.args.held.now c.args.tally.now c.args.words.now c.requires.running (expr_of c.args.e.now) c.requires.fits c.in-Read.v (ap expr_of c.in-Read.is) full same) c.step.ensures.full c.step.ensures.untaken

pub returns-in_ok-i-in-Elem-clause-runs : goal.returns-in_ok-i-in-Elem-clause-runs
returns-in_ok-i-in-Elem-clause-runs t c = IfOk-weaker c.step-in-Elem.result _ _ (λ z h. elem_goes c.args.r.now c.args.held.now c.args.tally.now c.args.words.now c.requires.running (expr_of c.args.e.now) c.requires.fits c.in-Elem.a (expr_of c.in-Elem.index) (ap expr_of c.in-Elem.is ∙ text-Elem c.in-Elem.a c.in-Elem.index) c.in_ok-i-in-Elem.i
    (subst (λ e. Runs c.args.r.now (expr_items (expr_of e)) (λ st. st) (λ st. c.in_ok-i-in-Elem.i ∷ st) (here c.args.held.now c.args.tally.now c.args.words.now) (here c.args.held.now c.value_of.new.tally c.value_of.new.words)) c.get.ensures c.in_ok-i-in-Elem.ensures.runs)
    c.read_rate-in-Elem.ensures (search rules) h) c.step-in-Elem.ensures.ok

pub returns-in_ok-i-in-Elem-clause-exceeds : goal.returns-in_ok-i-in-Elem-clause-exceeds
returns-in_ok-i-in-Elem-clause-exceeds t c = both_err c.step-in-Elem.result (λ full same. elem_stops c.args.r.now c.args.held.now c.args.tally.now c.args.words.now c.requires.running (expr_of c.args.e.now) c.requires.fits c.in-Elem.a (expr_of c.in-Elem.index) (ap expr_of c.in-Elem.is ∙ text-Elem c.in-Elem.a c.in-Elem.index) c.in_ok-i-in-Elem.i
    (subst (λ e. Runs c.args.r.now (expr_items (expr_of e)) (λ st. st) (λ st. c.in_ok-i-in-Elem.i ∷ st) (here c.args.held.now c.args.tally.now c.args.words.now) (here c.args.held.now c.value_of.new.tally c.value_of.new.words)) c.get.ensures c.in_ok-i-in-Elem.ensures.runs) full same) c.step-in-Elem.ensures.full c.step-in-Elem.ensures.untaken

pub returns-in_ok-y-in-Bin-clause-runs : goal.returns-in_ok-y-in-Bin-clause-runs
returns-in_ok-y-in-Bin-clause-runs t c = IfOk-weaker c.step-in-Bin.result _ _ (λ z h. bin_goes c.args.r.now c.args.held.now c.args.tally.now c.args.words.now c.requires.running (expr_of c.args.e.now) c.requires.fits c.in-Bin.site (expr_of c.in-Bin.left) (expr_of c.in-Bin.right) (ap expr_of c.in-Bin.is ∙ text-Bin c.in-Bin.site c.in-Bin.left c.in-Bin.right) c.in_ok-x-in-Bin.x c.in_ok-y-in-Bin.y c.operator.result
    (subst (λ e. Runs c.args.r.now (expr_items (expr_of e)) (λ st. st) (λ st. c.in_ok-x-in-Bin.x ∷ st) (here c.args.held.now c.args.tally.now c.args.words.now) (here c.args.held.now c.value_of-in-Bin.new.tally c.value_of-in-Bin.new.words)) c.get-in-Bin.ensures c.in_ok-x-in-Bin.ensures.runs)
    (subst (λ e. Runs c.args.r.now (expr_items (expr_of e)) (λ st. st) (λ st. c.in_ok-y-in-Bin.y ∷ st) (here c.args.held.now c.value_of-in-Bin.new.tally c.value_of-in-Bin.new.words) (here c.args.held.now c.value_of-in-Bin-2.new.tally c.value_of-in-Bin-2.new.words)) c.get-in-Bin-2.ensures c.in_ok-y-in-Bin.ensures.runs)
    c.operator.ensures c.operator_rate.ensures (search rules) h) c.step-in-Bin.ensures.ok

pub returns-in_ok-y-in-Bin-clause-exceeds : goal.returns-in_ok-y-in-Bin-clause-exceeds
returns-in_ok-y-in-Bin-clause-exceeds t c = both_err c.step-in-Bin.result (λ full same. bin_stops c.args.r.now c.args.held.now c.args.tally.now c.args.words.now c.requires.running (expr_of c.args.e.now) c.requires.fits c.in-Bin.site (expr_of c.in-Bin.left) (expr_of c.in-Bin.right) (ap expr_of c.in-Bin.is ∙ text-Bin c.in-Bin.site c.in-Bin.left c.in-Bin.right) c.in_ok-x-in-Bin.x c.in_ok-y-in-Bin.y
    (subst (λ e. Runs c.args.r.now (expr_items (expr_of e)) (λ st. st) (λ st. c.in_ok-x-in-Bin.x ∷ st) (here c.args.held.now c.args.tally.now c.args.words.now) (here c.args.held.now c.value_of-in-Bin.new.tally c.value_of-in-Bin.new.words)) c.get-in-Bin.ensures c.in_ok-x-in-Bin.ensures.runs)
    (subst (λ e. Runs c.args.r.now (expr_items (expr_of e)) (λ st. st) (λ st. c.in_ok-y-in-Bin.y ∷ st) (here c.args.held.now c.value_of-in-Bin.new.tally c.value_of-in-Bin.new.words) (here c.args.held.now c.value_of-in-Bin-2.new.tally c.value_of-in-Bin-2.new.words)) c.get-in-Bin-2.ensures c.in_ok-y-in-Bin.ensures.runs) full same) c.step-in-Bin.ensures.full c.step-in-Bin.ensures.untaken
