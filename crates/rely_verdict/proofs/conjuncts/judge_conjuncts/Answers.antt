use Rattle.rely_kernel.specs.Rates.{rates}
use Rattle.rely_verdict.proofs.JudgedLaw.{needs_verdict, below_verdict, undecided_verdict, accepted_verdict, judged_near, judged_sound}
use Rattle.rely_verdict.proofs.conjuncts.judge_conjuncts.Goals as goal

pub returns-in-Some-clause-exact : goal.returns-in-Some-clause-exact
returns-in-Some-clause-exact c =
    let rs = rates c.args.h.now c.args.k.now c.args.t.now in
    let claim = c.args.c.now in
    needs_verdict rs claim.needs.bits claim.bound c.args.conjuncts.now c.in-Some.var cc

pub returns-in-Some-first_below-clause-exact : goal.returns-in-Some-first_below-clause-exact
returns-in-Some-first_below-clause-exact c =
    let rs = rates c.args.h.now c.args.k.now c.args.t.now in
    let claim = c.args.c.now in
    below_verdict rs claim.needs.bits claim.bound c.args.conjuncts.now c.in-Some-first_below.hi (cc) (cc)

pub returns-in-Some-first_undecided-clause-exact : goal.returns-in-Some-first_undecided-clause-exact
returns-in-Some-first_undecided-clause-exact c =
    let rs = rates c.args.h.now c.args.k.now c.args.t.now in
    let claim = c.args.c.now in
    undecided_verdict rs claim.needs.bits claim.bound c.args.conjuncts.now c.in-Some-first_undecided.verdict (cc) (cc) (cc)

pub returns-in-Some-first_undecided-clause-gap : goal.returns-in-Some-first_undecided-clause-gap
returns-in-Some-first_undecided-clause-gap c =
    judged_near c.args.h.now c.args.k.now c.args.t.now c.args.c.now c.args.conjuncts.now c.in-Some-first_undecided.verdict
    c.requires.hardware c.requires.valid c.requires.counted (returns-in-Some-first_undecided-clause-exact c)

pub returns-in-Some-first_undecided-clause-sound : goal.returns-in-Some-first_undecided-clause-sound
returns-in-Some-first_undecided-clause-sound c =
    judged_sound c.args.h.now c.args.k.now c.args.t.now c.args.c.now c.args.conjuncts.now c.in-Some-first_undecided.verdict
    c.requires.hardware (returns-in-Some-first_undecided-clause-exact c)

pub returns-clause-exact : goal.returns-clause-exact
returns-clause-exact c =
    let rs = rates c.args.h.now c.args.k.now c.args.t.now in
    let claim = c.args.c.now in
    accepted_verdict rs claim.needs.bits claim.bound c.args.conjuncts.now c.least.result (cc) (cc) (cc) c.least.ensures

pub returns-clause-sound : goal.returns-clause-sound
returns-clause-sound c =
    judged_sound c.args.h.now c.args.k.now c.args.t.now c.args.c.now c.args.conjuncts.now _
    c.requires.hardware (returns-clause-exact c)
