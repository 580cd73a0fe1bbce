use Rattle.std.proofs.Common.{◌≡◌, Bool, false, List, filter, not, bit_and, ◌==◌, refl, sym, ap, subst, ◌∙◌}
use Rattle.rely_num.specs.declared.conj.Conj.{Conj}
use Rattle.rely_loops.specs.Grown.{too_many}
use Rattle.rely_precond.proofs.Fewer.{few_filter}
use Rattle.rely_precond.proofs.Joining.{untouched_is, touched_is}
use Rattle.rely_precond.proofs.Parts.{part_counted, part_short, part_top}
use Rattle.rely_precond.proofs.split.split.Goals as goal

pub of_few-requires-clause-counted : goal.of_few-requires-clause-counted
of_few-requires-clause-counted c =
    part_counted c.args.listed.list c.into_conjs.ensures.valid (λ d. not (bit_and c.args.statement.now.written.bits d.vars.bits == 0)) c.into_conjs.result.items c.in_ok-others.own.items c.into_conjs.ensures.value c.in_ok-others.ensures.own
    c.shape-labels.result c.shape-labels.ensures

pub of_few-requires-clause-few : goal.of_few-requires-clause-few
of_few-requires-clause-few c =
    part_short c.args.listed.list c.into_conjs.ensures.valid (λ d. not (bit_and c.args.statement.now.written.bits d.vars.bits == 0)) c.into_conjs.result.items c.in_ok-others.own.items c.into_conjs.ensures.value c.in_ok-others.ensures.own

-- what is written is in its predicate as it was
pub invariant_of-own : goal.invariant_of-own
invariant_of-own c =
    let meets : Conj → Bool = λ d. not (bit_and c.args.statement.now.written.bits d.vars.bits == 0) in
    record {
      few = subst (λ (xs : List Conj). too_many xs ≡ false) (sym (c.in_ok-list.ensures.ok
          ∙ part_top c.args.listed.list c.into_conjs.ensures.valid meets c.into_conjs.result.items c.in_ok-others.own.items c.into_conjs.ensures.value c.in_ok-others.ensures.own))
          (few_filter meets c.args.listed.list.conjs c.args.listed.few);
    }

pub returns-clause-others : goal.returns-clause-others
returns-clause-others c =
    c.in_ok-others.ensures.others ∙ untouched_is c.args.statement.now.what.now c.args.statement.now.written.bits c.into_conjs.result.items c.args.listed.list.conjs c.args.statement.now.written_is c.into_conjs.ensures.value

pub returns-clause-own : goal.returns-clause-own
returns-clause-own c =
    let meets : Conj → Bool = λ d. not (bit_and c.args.statement.now.written.bits d.vars.bits == 0) in
    c.in_ok-list.ensures.ok ∙ part_top c.args.listed.list c.into_conjs.ensures.valid meets c.into_conjs.result.items c.in_ok-others.own.items c.into_conjs.ensures.value c.in_ok-others.ensures.own
    ∙ touched_is c.args.statement.now.what.now c.args.statement.now.written.bits c.args.listed.list.conjs c.args.statement.now.written_is

pub returns-clause-counted : goal.returns-clause-counted
returns-clause-counted c =
    part_counted c.args.listed.list c.into_conjs.ensures.valid (λ d. bit_and c.args.statement.now.written.bits d.vars.bits == 0) c.into_conjs.result.items c.in_ok-others.others.items c.into_conjs.ensures.value c.in_ok-others.ensures.others
    c.args.listed.list.labels refl

pub returns-clause-few : goal.returns-clause-few
returns-clause-few c =
    let skips : Conj → Bool = λ d. bit_and c.args.statement.now.written.bits d.vars.bits == 0 in
    subst (λ (xs : List Conj). too_many xs ≡ false) (sym (c.in_ok-others.ensures.others ∙ ap (filter skips) c.into_conjs.ensures.value)) (few_filter skips c.args.listed.list.conjs c.args.listed.few)
