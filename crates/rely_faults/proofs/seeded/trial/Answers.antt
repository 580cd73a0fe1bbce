use Rattle.std.proofs.Common.{subst}
use Rattle.rely_faults.specs.Going.{outcome_of}
use Rattle.rely_faults.specs.Trial.{IsTried, StopsAt}
use Rattle.rely_faults.proofs.Ending.{leaves_at_end, leaves_by, passes_by, tried_as, untouched}
use Rattle.rely_faults.proofs.Walking.{on_err}
use Rattle.rely_faults.proofs.seeded.trial.Goals as goal

pub returns-in_err-held-clause-refused : goal.returns-in_err-held-clause-refused
returns-in_err-held-clause-refused c = on_err c.from_residual.result (untouched c.args.k.now c.args.h.now c.args.t.now c.args.start.now c.args.words.now)

pub returns-in_err-live-clause-refused : goal.returns-in_err-live-clause-refused
returns-in_err-live-clause-refused c = on_err c.from_residual-in_err-live.result (untouched c.args.k.now c.args.h.now c.args.t.now c.args.start.now c.args.words.now)

pub returns-in_err-tally-clause-steps : goal.returns-in_err-tally-clause-steps
returns-in_err-tally-clause-steps c = λ is.
    passes_by c.args.k.now c.args.h.now c.args.t.now c.args.start.now c.args.words.now c.args.limit c.finish.new.words
    (subst (λ s. StopsAt c.args.k.now c.args.h.now c.args.t.now s c.args.words.now c.args.limit c.finish.new.words) c.in_ok-held.ensures c.in_err-tally.ensures.stopped)

pub returns-in_err-tally-clause-stopped : goal.returns-in_err-tally-clause-stopped
returns-in_err-tally-clause-stopped c = λ is.
    subst (λ s. StopsAt c.args.k.now c.args.h.now c.args.t.now s c.args.words.now c.args.limit c.finish.new.words) c.in_ok-held.ensures c.in_err-tally.ensures.stopped

pub returns-in_err-tally-clause-refused : goal.returns-in_err-tally-clause-refused
returns-in_err-tally-clause-refused c = on_err c.from_residual-in_err-tally.result
    (leaves_by c.args.k.now c.args.h.now c.args.t.now c.args.start.now c.args.words.now c.args.limit c.finish.new.words
    (subst (λ s. StopsAt c.args.k.now c.args.h.now c.args.t.now s c.args.words.now c.args.limit c.finish.new.words) c.in_ok-held.ensures c.in_err-tally.ensures.stopped))

pub returns-in_err-into_store-clause-refused : goal.returns-in_err-into_store-clause-refused
returns-in_err-into_store-clause-refused c = on_err c.from_residual-in_err-into_store.result
    (leaves_at_end c.args.k.now c.args.h.now c.args.t.now c.args.start.now c.args.words.now c.finish.new.words (outcome_of c.finish.new.held c.in_ok-tally.tally)
    (subst (λ s. IsTried c.args.k.now c.args.h.now c.args.t.now s c.args.words.now (outcome_of c.finish.new.held c.in_ok-tally.tally) c.finish.new.words) c.in_ok-held.ensures c.in_ok-tally.ensures.ok))

pub returns-clause-ok : goal.returns-clause-ok
returns-clause-ok c =
    tried_as c.args.k.now c.args.h.now c.args.t.now c.args.start.now c.args.words.now c.finish.new.words (outcome_of c.finish.new.held c.in_ok-tally.tally)
    (subst (λ s. IsTried c.args.k.now c.args.h.now c.args.t.now s c.args.words.now (outcome_of c.finish.new.held c.in_ok-tally.tally) c.finish.new.words) c.in_ok-held.ensures c.in_ok-tally.ensures.ok)
    (record { store = c.in_ok-into_store.field-0; steps = c.steps.result; words = c.words.result }) c.in_ok-into_store.ensures c.steps.ensures.is c.words.ensures
