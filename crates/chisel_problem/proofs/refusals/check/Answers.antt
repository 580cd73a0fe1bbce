use Rattle.std.proofs.Common.{ap, arith, length, refl}
use Rattle.std.proofs.lemmas.List.{nil_from_length}
use Rattle.rely_kernel.specs.Choice.{decisions}
use Rattle.chisel_problem.proofs.Opens.{wide_is_open}
use Rattle.chisel_problem.proofs.refusals.check.Goals as goal

pub returns-then-open-eq0-clause-no_open : goal.returns-then-open-eq0-clause-no_open
returns-then-open-eq0-clause-no_open c =
    (λ e. nil_from_length (decisions c.args.k.now) (omega (arith, c.decision_count-open.ensures, c.if-open-eq0.true)), λ n. refl)

pub returns-then-open-eq0-clause-options : goal.returns-then-open-eq0-clause-options
returns-then-open-eq0-clause-options c =
    (λ e. absurd (cc), λ m. absurd (omega (arith, wide_is_open c.args.h.now c.args.k.now m.wide, c.decision_count-open.ensures, c.if-open-eq0.true)))

pub returns-then-open-gt-MAX_DECISIONS-clause-no_open : goal.returns-then-open-gt-MAX_DECISIONS-clause-no_open
returns-then-open-gt-MAX_DECISIONS-clause-no_open c =
    (λ e. absurd (cc), λ n. absurd (omega (arith, ap length n, c.decision_count-open.ensures, c.if-open-eq0.false)))

pub returns-clause-no_open : goal.returns-clause-no_open
returns-clause-no_open c =
    (λ e. absurd (cc), λ n. absurd (omega (arith, ap length n, c.decision_count-open.ensures, c.if-open-eq0.false)))
