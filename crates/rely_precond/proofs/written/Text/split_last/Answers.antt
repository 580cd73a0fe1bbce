use Rattle.std.proofs.Common.{refl, ◌∙◌}
use Rattle.rely_precond.proofs.Marks.{some_sets, written_is, second_within, second_is, first_within, first_is, before_is}
use Rattle.rely_precond.proofs.written.Text.split_last.Goals as goal

pub returns-in_err-own-clause-none : goal.returns-in_err-own-clause-none
returns-in_err-own-clause-none c none = absurd (some_sets _ _ _ _ c.args.self.exact c.in_ok-statement.ensures.cases.0 c.in_err-own.ensures.cases)

pub overflow_sub-sets : goal.overflow_sub-sets
overflow_sub-sets c = second_within _ _ _ _ c.args.self.exact c.in_ok-statement.ensures.cases.0 _ _ c.in_ok-own.ensures.cases.0

pub overflow_sub-sets-2 : goal.overflow_sub-sets-2
overflow_sub-sets-2 c = first_within _ _ _ _ c.args.self.exact c.in_ok-statement.ensures.cases.0 _ _ c.in_ok-own.ensures.cases.0 _ c.split_at.ensures.front

pub invariant_of-result : goal.invariant_of-result
invariant_of-result c = record {
  exact = c.split_at-2.ensures.front ∙ before_is _ _ _ _ c.args.self.exact c.in_ok-statement.ensures.cases.0 _ _ c.in_ok-own.ensures.cases.0 _ c.split_at.ensures.front;
}

pub invariant_of-result-2 : goal.invariant_of-result-2
invariant_of-result-2 c = record {
  written_is = written_is _ _ _ _ c.args.self.exact c.in_ok-statement.ensures.cases.0 _ _ c.in_ok-own.ensures.cases.0;
  first_is = c.split_at-2.ensures.back ∙ first_is _ _ _ _ c.args.self.exact c.in_ok-statement.ensures.cases.0 _ _ c.in_ok-own.ensures.cases.0 _ c.split_at.ensures.front;
  second_is = c.split_at.ensures.back ∙ second_is _ _ _ _ c.args.self.exact c.in_ok-statement.ensures.cases.0 _ _ c.in_ok-own.ensures.cases.0;
}

pub returns-clause-some : goal.returns-clause-some
returns-clause-some c = record { statement = c.in_ok-statement.statement.now; split = c.in_ok-statement.ensures.cases.0; at = refl; what = refl }
