-- What ends a command before its work is done, from its parts.
use Rattle.std.proofs.Common.{◌≡◌, List, [], ◌∷◌, length, None, inl, inr, refl, arith}
use Rattle.std.specs.List.{AllZip}
use Rattle.rely_kernel.specs.declared.kernel.Linked.{Linked}
use Rattle.rely_kernel.specs.declared.setting.Store.{Store}
use Rattle.rely_kernel.proofs.Choice.{closed_has_own}
use Rattle.rely_machine.specs.declared.outcome.Outcome.{Outcome}
use Rattle.rely_machine.specs.Run.{IsOutcome}
use Rattle.chisel_table.specs.declared.table.Table.{Table}
use Rattle.chisel_table.specs.Valid.{IsTable}
use Rattle.chisel_lines.specs.declared.answer.Answer.{Answer}
use Rattle.chisel_problem.specs.Problem.{AreReady, AreSamples, table_of}
use Rattle.chisel_problem.specs.Refusals.{HasManyDecisions, HasManyOptions, NothingIsOpen}
use Rattle.chisel_problem.specs.declared.fault.ProblemFault.{ProblemFault}
use Rattle.chisel_problem.specs.declared.fault.ProblemFault.TheVariants as problem
use Rattle.chisel_source.specs.declared.ready.Ready.{Ready}
use Rattle.chisel_optimise.specs.declared.halt.Halt.{Halt}
use Rattle.chisel_optimise.specs.declared.halt.Halt.TheVariants as halt
use Rattle.chisel_optimise.specs.Claims.{EndsEarly, early_answer}
use Rattle.chisel_optimise.specs.Halts.{HaltsBy, problem_halt}
use Rattle.chisel_optimise.specs.Sound.{IsSound}
use Rattle.chisel_optimise.specs.Tables.{AreOutcomes, ComesTo, Ends, IsTooLong, predicates_of}

-- a clause on what ends a command, made weaker
pub halts_weaker : (P Q : Answer → Type 0) (h : Halt) → ((a : Answer) → P a → Q a) → HaltsBy P h → HaltsBy Q h
halts_weaker P Q halt.Memory f h = tt
halts_weaker P Q (halt.Answer a) f h = f a h

-- ---- before the table

pub early_ends : (r : Ready) (starts : List Store) (h : Halt) → HaltsBy (EndsEarly r) h → HaltsBy (Ends r starts) h
early_ends r starts h ends = halts_weaker (EndsEarly r) (Ends r starts) h (λ a e. inl e) ends

pub long_ends : (r : Ready) (starts : List Store) (h : Halt) → early_answer r ≡ None → HaltsBy (IsTooLong r.linked starts) h → HaltsBy (Ends r starts) h
long_ends r starts h on ends = halts_weaker (IsTooLong r.linked starts) (Ends r starts) h (λ a e. inr (inl (on, e))) ends

-- too many decisions or options, as the fault says
pub large_ends : (r : Ready) (starts : List Store) (runs : List Outcome) (f : ProblemFault) → early_answer r ≡ None → AreOutcomes r.linked starts runs
    → (f ≡ problem.Decisions → HasManyDecisions r.linked.kernel) → (f ≡ problem.Options → HasManyOptions r.hardware r.linked.kernel) → HaltsBy (Ends r starts) (problem_halt f)
large_ends r starts runs problem.NoOpen on outcomes decisions options = tt
large_ends r starts runs problem.Decisions on outcomes decisions options = inr (inr (runs, on, outcomes, inl (decisions refl, refl)))
large_ends r starts runs problem.Options on outcomes decisions options = inr (inr (runs, on, outcomes, inr (options refl, refl)))
large_ends r starts runs problem.Memory on outcomes decisions options = tt

-- ---- what the table wants

-- some place is open
pub some_open : (r : Ready) (starts : List Store) → IsSound r starts → NothingIsOpen r.linked.kernel → ⊥
some_open r starts s none = s.open_place ((closed_has_own r.linked.kernel).0.1 none)

pub ready_for_table : (r : Ready) (starts : List Store) → IsSound r starts → AreReady r.hardware r.linked
ready_for_table r starts s = record { hardware = s.ready.hardware; linked = s.ready.linked; on = s.ready.on; closed = s.inner }

as_many : (l : Linked) (starts : List Store) (runs : List Outcome) → AllZip (IsOutcome l) starts runs → length runs ≡ length starts
as_many l [] [] h = refl
as_many l [] (o ∷ runs) h = absurd h
as_many l (s ∷ starts) [] h = absurd h
as_many l (s ∷ starts) (o ∷ runs) h = let e = as_many l starts runs h.1 in omega arith

pub samples_for_table : (r : Ready) (starts : List Store) (runs : List Outcome) → IsSound r starts → AreOutcomes r.linked starts runs → AreSamples r.linked runs
samples_for_table r starts runs s h =
    let e = as_many r.linked starts runs h.each in
    let some = s.some in
    let few = s.few in
    record { outcomes = record { starts = starts; are_starts = s.are_starts; outcomes = h.each }; some = omega arith; few = omega arith; short = h.short }

-- a table that is made is the one that the command comes to
pub comes_to_table : (r : Ready) (starts : List Store) (runs : List Outcome) (t : Table) → early_answer r ≡ None → AreOutcomes r.linked starts runs
    → (HasManyDecisions r.linked.kernel → ⊥) → (HasManyOptions r.hardware r.linked.kernel → ⊥) → t ≡ table_of r.hardware r.linked (predicates_of r.linked.kernel) runs → IsTable t → ComesTo r starts t
comes_to_table r starts runs t on outcomes decisions options is valid = record {
  runs = runs;
  goes_on = on;
  outcomes = outcomes;
  few_decisions = decisions;
  few_options = options;
  table = is;
  valid = valid;
}
