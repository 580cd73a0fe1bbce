-- The table of a function's choices over some samples, and the limits that end a command before it is there.
use Rattle.std.specs.Prelude.{◌≡◌, ◌+◌, ◌<◌, ◌≤◌, List, map, sum_by, None, ◌⊎◌}
use Rattle.std.specs.List.{AllZip}
use Rattle.rely_kernel.specs.declared.kernel.Kernel.{Kernel}
use Rattle.rely_kernel.specs.declared.kernel.Linked.{Linked}
use Rattle.rely_kernel.specs.declared.setting.Store.{Store}
use Rattle.rely_kernel.specs.Labels.{labels_of}
use Rattle.rely_hard.specs.declared.hardware.Hardware.{Hardware}
use Rattle.rely_machine.specs.declared.outcome.Outcome.{Outcome}
use Rattle.rely_machine.specs.Run.{IsOutcome, steps_limit}
use Rattle.rely_kernel.specs.Paths.{paths_of}
use Rattle.rely_predicate.specs.Predicates.{Conjuncts}
use Rattle.rely_predicate.specs.Top.{top}
use Rattle.chisel_table.specs.declared.table.Table.{Table}
use Rattle.chisel_table.specs.declared.table.TheConstants.{MAX_DECISIONS, MAX_OPTIONS}
use Rattle.chisel_table.specs.Valid.{IsTable}
use Rattle.chisel_problem.specs.Problem.{table_of}
use Rattle.chisel_problem.specs.Refusals.{HasManyDecisions, HasManyOptions}
use Rattle.chisel_lines.specs.declared.answer.Answer.{Answer}
use Rattle.chisel_lines.specs.declared.answer.Answer.TheVariants.{Refused}
use Rattle.chisel_lines.specs.declared.refusal.Limit.TheVariants.{Steps, Decisions, Options}
use Rattle.chisel_lines.specs.declared.refusal.Refusal.TheVariants.{Limit}
use Rattle.chisel_source.specs.declared.ready.Ready.{Ready}
use Rattle.chisel_optimise.specs.Claims.{EndsEarly, early_answer}

-- ---- samples

-- the outcomes of the samples, which stay together below the limit on steps
pub record AreOutcomes (l : Linked) (starts : List Store) (runs : List Outcome) : Type 0 where
  pub each : AllZip (IsOutcome l) starts runs
  pub short : sum_by (λ o. o.steps) runs < steps_limit

-- the samples take as many steps together as the limit, or more
pub record TakeTooLong (l : Linked) (starts : List Store) : Type 0 where
  pub runs : List Outcome
  pub each : AllZip (IsOutcome l) starts runs
  pub long : steps_limit ≤ sum_by (λ o. o.steps) runs

-- ---- the table

-- the predicate of each claim: the top of its paths, over the kernel's labels
abbrev pub predicates_of : Kernel → List Conjuncts
predicates_of k = map (λ c. record { labels = labels_of k; conjs = top (paths_of k c.target) }) k.claims

-- there are too many decisions, or options of one
abbrev pub IsTooLarge : Hardware → Kernel → Answer → Type 0
IsTooLarge h k a =
    (HasManyDecisions k × (a ≡ Refused (Limit Decisions (MAX_DECISIONS + 1))))
    ⊎ (HasManyOptions h k × (a ≡ Refused (Limit Options (MAX_OPTIONS + 1))))

-- the limit on steps is reached
abbrev pub too_long : Answer
too_long = Refused (Limit Steps steps_limit)

abbrev pub IsTooLong : Linked → List Store → Answer → Type 0
IsTooLong l starts a = TakeTooLong l starts × (a ≡ too_long)

-- ---- what comes first

-- the command ends before the table is there: by a claim, by the limit on steps, or by one of the table
abbrev pub Ends : Ready → List Store → Answer → Type 0
Ends r starts a =
    EndsEarly r a
    ⊎ ((early_answer r ≡ None) × IsTooLong r.linked starts a)
    ⊎ ((runs : List Outcome) × (early_answer r ≡ None) × AreOutcomes r.linked starts runs × IsTooLarge r.hardware r.linked.kernel a)

-- the command comes to this table
pub record ComesTo (r : Ready) (starts : List Store) (t : Table) : Type 0 where
  pub runs : List Outcome
  pub goes_on : early_answer r ≡ None
  pub outcomes : AreOutcomes r.linked starts runs
  pub few_decisions : HasManyDecisions r.linked.kernel → ⊥
  pub few_options : HasManyOptions r.hardware r.linked.kernel → ⊥
  pub table : t ≡ table_of r.hardware r.linked (predicates_of r.linked.kernel) runs
  pub valid : IsTable t
