use Rattle.std.proofs.Common.{◌≡◌, List, ◌++◌, map, sym, subst}
use Rattle.std.specs.Result.{IfOk, IfErr}
use Rattle.std.proofs.lemmas.Result.{err_from_is_err_and}
use Rattle.rely_num.specs.declared.conj.Conj.{Conj}
use Rattle.rely_kernel.specs.Paths.{use_of}
use Rattle.rely_kernel.specs.Text.{expr_of}
use Rattle.rely_precond.specs.Answers.{IsStop}
use Rattle.rely_precond.specs.Walk.{Stands, stand}
use Rattle.rely_precond.proofs.Joining.{first_stops, second_stops, branches_are}
use Rattle.rely_precond.proofs.Parts.{Counted, counted_test, counted_append}
use Rattle.rely_precond.proofs.Stops.{stop_err}
use Rattle.rely_precond.proofs.split.stand_branches.Goals as goal

pub returns-in_err-list-clause-refused : goal.returns-in_err-list-clause-refused
returns-in_err-list-clause-refused c =
    let test : Conj → Conj = use_of c.args.k.now (expr_of c.args.e.now) in
    let p = err_from_is_err_and c.from_residual.result c.from_residual.ensures.1 in
    stop_err c.from_residual.result p.0 c.in_err-list.field-0.0 (stand c.args.at (c.args.others.items ++ map test (c.args.first.list.conjs ++ c.args.second.list.conjs)) c.args.second.work) p.1 p.2
    (first_stops c.args.at test c.args.others.items c.args.first.list.conjs c.args.second.list.conjs c.args.second.work c.into_conjs.result.items c.in_err-list.field-0.0 c.into_conjs.ensures.value c.in_err-list.ensures.err)

pub returns-in_err-list-2-clause-refused : goal.returns-in_err-list-2-clause-refused
returns-in_err-list-2-clause-refused c =
    let test : Conj → Conj = use_of c.args.k.now (expr_of c.args.e.now) in
    let p = err_from_is_err_and c.from_residual-in_err-list-2.result c.from_residual-in_err-list-2.ensures.1 in
    stop_err c.from_residual-in_err-list-2.result p.0 c.in_err-list-2.field-0.0 (stand c.args.at (c.args.others.items ++ map test (c.args.first.list.conjs ++ c.args.second.list.conjs)) c.args.second.work) p.1 p.2
    (second_stops c.args.at test c.args.others.items c.args.first.list.conjs c.args.second.list.conjs c.args.second.work c.into_conjs-2.result.items c.in_err-list-2.field-0.0 c.into_conjs-2.ensures.value c.in_err-list-2.ensures.err)

pub stand-requires-clause-counted : goal.stand-requires-clause-counted
stand-requires-clause-counted c =
    let test : Conj → Conj = use_of c.args.k.now (expr_of c.args.e.now) in
    let labels = c.args.second.list.labels in
    let first : Counted labels c.args.first.list.conjs = subst (λ n. Counted n c.args.first.list.conjs) c.requires.labels c.into_conjs.ensures.valid.counted in
    let is : c.in_ok-list-2.list.items ≡ c.args.others.items ++ map test (c.args.first.list.conjs ++ c.args.second.list.conjs) =
    branches_are c.args.at test c.args.others.items c.args.first.list.conjs c.args.second.list.conjs c.args.second.work c.in_ok-list.list.items c.in_ok-list-2.list.items c.into_conjs.result.items c.into_conjs-2.result.items
    c.in_ok-list.ensures.ok c.into_conjs.ensures.value c.in_ok-list-2.ensures.ok c.into_conjs-2.ensures.value in
    subst (λ n. Counted n c.in_ok-list-2.list.items) (sym c.shape-labels.ensures)
    (subst (Counted labels) (sym is)
    (counted_append labels c.args.others.items (map test (c.args.first.list.conjs ++ c.args.second.list.conjs)) c.requires.others
    (counted_test c.args.k.now (expr_of c.args.e.now) labels (c.args.first.list.conjs ++ c.args.second.list.conjs)
    (counted_append labels c.args.first.list.conjs c.args.second.list.conjs first c.into_conjs-2.ensures.valid.counted))))

pub returns-clause-ok : goal.returns-clause-ok
returns-clause-ok c =
    let test : Conj → Conj = use_of c.args.k.now (expr_of c.args.e.now) in
    subst (λ (ps : List Conj). IfOk c.stand.result (λ l. stand c.args.at ps c.args.second.work ≡ Stands l.list.conjs l.work))
    (branches_are c.args.at test c.args.others.items c.args.first.list.conjs c.args.second.list.conjs c.args.second.work c.in_ok-list.list.items c.in_ok-list-2.list.items c.into_conjs.result.items c.into_conjs-2.result.items
    c.in_ok-list.ensures.ok c.into_conjs.ensures.value c.in_ok-list-2.ensures.ok c.into_conjs-2.ensures.value) c.stand.ensures.ok

pub returns-clause-refused : goal.returns-clause-refused
returns-clause-refused c =
    let test : Conj → Conj = use_of c.args.k.now (expr_of c.args.e.now) in
    subst (λ (ps : List Conj). IfErr c.stand.result (λ f. IsStop (stand c.args.at ps c.args.second.work) f))
    (branches_are c.args.at test c.args.others.items c.args.first.list.conjs c.args.second.list.conjs c.args.second.work c.in_ok-list.list.items c.in_ok-list-2.list.items c.into_conjs.result.items c.into_conjs-2.result.items
    c.in_ok-list.ensures.ok c.into_conjs.ensures.value c.in_ok-list-2.ensures.ok c.into_conjs-2.ensures.value) c.stand.ensures.refused
