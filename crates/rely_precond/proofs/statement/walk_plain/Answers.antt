use Rattle.std.proofs.Common.{◌≡◌, List, sym, ap, subst, ◌∙◌}
use Rattle.std.specs.Result.{IfOk, IfErr}
use Rattle.std.proofs.lemmas.Result.{err_from_is_err_and}
use Rattle.rely_num.specs.declared.conj.Conj.{Conj}
use Rattle.rely_precond.specs.Answers.{IsFull, IsStop}
use Rattle.rely_precond.specs.Places.{line_of}
use Rattle.rely_precond.specs.Walk.{Walked, Stands, changed, stand, walk}
use Rattle.rely_precond.proofs.Parts.{Counted, counted_changed}
use Rattle.rely_precond.proofs.Plain.{walk_plain_is, full_stops}
use Rattle.rely_precond.proofs.Stops.{stop_err}
use Rattle.rely_precond.proofs.statement.walk_plain.Goals as goal

pub returns-in_err-list-clause-refused : goal.returns-in_err-list-clause-refused
returns-in_err-list-clause-refused c =
    let k = c.args.k.now in
    let p = err_from_is_err_and c.from_residual.result c.from_residual.ensures.1 in
    stop_err c.from_residual.result p.0 c.in_err-list.field-0.0 (walk k c.args.statement.now.at (line_of c.args.statement.now.what.now) c.args.listed.list.conjs c.args.listed.work) p.1 p.2
    (subst (λ (w : Walked). IsStop w c.in_err-list.field-0.0) (walk_plain_is k c.args.statement.now.at c.args.statement.now.what.now c.args.listed.list.conjs c.args.listed.work c.requires.plain)
    (full_stops c.args.statement.now.at (changed k (line_of c.args.statement.now.what.now) c.args.listed.list.conjs) c.args.listed.work c.in_err-list.field-0.0
    (subst (λ (cs : List Conj). IsFull c.args.statement.now.at (changed k (line_of c.args.statement.now.what.now) cs) c.in_err-list.field-0.0) c.into_conjs.ensures.value c.in_err-list.ensures.err)))

pub stand-requires : goal.stand-requires
stand-requires c =
    let k = c.args.k.now in
    record {
      counted =
          subst (Counted c.shape-labels.result) (sym (c.in_ok-list.ensures.ok ∙ ap (changed k (line_of c.args.statement.now.what.now)) c.into_conjs.ensures.value))
          (counted_changed k c.args.statement.now.what.now c.shape-labels.result c.args.listed.list.conjs (rw c.shape-labels.ensures c.into_conjs.ensures.valid.counted));
      few = c.in_ok-list.ensures.few;
    }

pub returns-clause-ok : goal.returns-clause-ok
returns-clause-ok c =
    let k = c.args.k.now in
    subst (λ (w : Walked). IfOk c.stand.result (λ l. w ≡ Stands l.list.conjs l.work))
    (ap (λ ps. stand c.args.statement.now.at ps c.args.listed.work) (c.in_ok-list.ensures.ok ∙ ap (changed k (line_of c.args.statement.now.what.now)) c.into_conjs.ensures.value)
    ∙ walk_plain_is k c.args.statement.now.at c.args.statement.now.what.now c.args.listed.list.conjs c.args.listed.work c.requires.plain) c.stand.ensures.ok

pub returns-clause-refused : goal.returns-clause-refused
returns-clause-refused c =
    let k = c.args.k.now in
    subst (λ (w : Walked). IfErr c.stand.result (λ f. IsStop w f))
    (ap (λ ps. stand c.args.statement.now.at ps c.args.listed.work) (c.in_ok-list.ensures.ok ∙ ap (changed k (line_of c.args.statement.now.what.now)) c.into_conjs.ensures.value)
    ∙ walk_plain_is k c.args.statement.now.at c.args.statement.now.what.now c.args.listed.list.conjs c.args.listed.work c.requires.plain) c.stand.ensures.refused
