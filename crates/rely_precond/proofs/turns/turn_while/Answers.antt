use Rattle.std.proofs.Common.{◌≡◌, List, ◌++◌, map, refl, sym, ap, subst, ◌∙◌}
use Rattle.std.proofs.lemmas.Result.{err_from_is_err_and}
use Rattle.rely_num.specs.declared.conj.Conj.{Conj}
use Rattle.rely_kernel.specs.Paths.{use_of}
use Rattle.rely_kernel.specs.Text.{expr_of}
use Rattle.rely_precond.specs.Answers.{IsFull, IsStop}
use Rattle.rely_precond.specs.Walk.{stand}
use Rattle.rely_precond.proofs.Joining.{through_stops, joining_stops, list_is}
use Rattle.rely_precond.proofs.Parts.{Counted, counted_test, counted_append, each_counted}
use Rattle.rely_precond.proofs.Stops.{stop_err}
use Rattle.rely_precond.proofs.turns.turn_while.Goals as goal

pub returns-in_err-again-clause-refused : goal.returns-in_err-again-clause-refused
returns-in_err-again-clause-refused c =
    let test : Conj → Conj = use_of c.args.k.now (expr_of c.args.e.now) in
    let p = err_from_is_err_and c.from_residual.result c.from_residual.ensures.1 in
    stop_err c.from_residual.result p.0 c.in_err-again.field-0.0 (stand c.args.at (map test (c.args.through.list.conjs ++ c.args.behind.now)) c.args.through.work) p.1 p.2
    (through_stops c.args.at test c.args.through.list.conjs c.args.behind.now c.args.through.work c.into_conjs.result.items c.in_err-again.field-0.0 c.into_conjs.ensures.value c.in_err-again.ensures.err)

pub returns-in_err-joining-clause-refused : goal.returns-in_err-joining-clause-refused
returns-in_err-joining-clause-refused c =
    let test : Conj → Conj = use_of c.args.k.now (expr_of c.args.e.now) in
    let p = err_from_is_err_and c.from_residual-in_err-joining.result c.from_residual-in_err-joining.ensures.1 in
    stop_err c.from_residual-in_err-joining.result p.0 c.in_err-joining.field-0.0 (stand c.args.at (map test (c.args.through.list.conjs ++ c.args.behind.now)) c.args.through.work) p.1 p.2
    (joining_stops c.args.at test c.args.through.list.conjs c.args.behind.now c.args.through.work c.in_err-joining.field-0.0
    (subst (λ (xs : List Conj). IsFull c.args.at (map test xs) c.in_err-joining.field-0.0) (c.in_ok-behind.ensures.ok ∙ ap (λ xs. xs ++ c.args.behind.now) c.new-2.ensures.items) c.in_err-joining.ensures.err))

pub all_covered-is_covered-requires : goal.all_covered-is_covered-requires
all_covered-is_covered-requires c =
    let test : Conj → Conj = use_of c.args.k.now (expr_of c.args.e.now) in
    let labels = c.args.through.list.labels in
    let again : c.deref-2.result.now ≡ map test c.args.through.list.conjs = c.deref-2.ensures.value ∙ c.in_ok-again.ensures.ok ∙ ap (λ xs. xs ++ map test c.into_conjs.result.items) c.new.ensures.items ∙ ap (map test) c.into_conjs.ensures.value in
    let joining : c.deref.result.now ≡ map test c.args.behind.now = c.deref.ensures.value ∙ c.in_ok-joining.ensures.ok ∙ ap (λ xs. xs ++ map test c.in_ok-behind.behind.items) c.new-3.ensures.items ∙ ap (map test) (c.in_ok-behind.ensures.ok ∙ ap (λ xs. xs ++ c.args.behind.now) c.new-2.ensures.items) in
    each_counted labels c.deref.result.now c.deref-2.result.now
    (subst (Counted labels) (sym joining) (counted_test c.args.k.now (expr_of c.args.e.now) labels c.args.behind.now c.requires.behind))
    (subst (Counted labels) (sym again) (counted_test c.args.k.now (expr_of c.args.e.now) labels c.args.through.list.conjs c.into_conjs.ensures.valid.counted))

pub stand-requires-clause-counted : goal.stand-requires-clause-counted
stand-requires-clause-counted c =
    let test : Conj → Conj = use_of c.args.k.now (expr_of c.args.e.now) in
    let labels = c.args.through.list.labels in
    let again : c.in_ok-again.again.items ≡ map test c.args.through.list.conjs = c.in_ok-again.ensures.ok ∙ ap (λ xs. xs ++ map test c.into_conjs.result.items) c.new.ensures.items ∙ ap (map test) c.into_conjs.ensures.value in
    let joining : c.in_ok-joining.joining.items ≡ map test c.args.behind.now = c.in_ok-joining.ensures.ok ∙ ap (λ xs. xs ++ map test c.in_ok-behind.behind.items) c.new-3.ensures.items ∙ ap (map test) (c.in_ok-behind.ensures.ok ∙ ap (λ xs. xs ++ c.args.behind.now) c.new-2.ensures.items) in
    let is : c.in_ok-list.list.items ≡ map test (c.args.through.list.conjs ++ c.args.behind.now) =
    list_is c.args.at test c.args.through.list.conjs c.args.behind.now c.args.through.work c.in_ok-again.again.items c.in_ok-joining.joining.items c.in_ok-joining.joining.items c.in_ok-list.list.items again
    refl joining c.in_ok-list.ensures.ok in
    subst (λ n. Counted n c.in_ok-list.list.items) (sym c.shape-labels.ensures)
    (subst (Counted labels) (sym is)
    (counted_test c.args.k.now (expr_of c.args.e.now) labels (c.args.through.list.conjs ++ c.args.behind.now) (counted_append labels c.args.through.list.conjs c.args.behind.now c.into_conjs.ensures.valid.counted c.requires.behind)))

pub returns-in_err-listed-clause-refused : goal.returns-in_err-listed-clause-refused
returns-in_err-listed-clause-refused c =
    let test : Conj → Conj = use_of c.args.k.now (expr_of c.args.e.now) in
    let again : c.in_ok-again.again.items ≡ map test c.args.through.list.conjs = c.in_ok-again.ensures.ok ∙ ap (λ xs. xs ++ map test c.into_conjs.result.items) c.new.ensures.items ∙ ap (map test) c.into_conjs.ensures.value in
    let joining : c.in_ok-joining.joining.items ≡ map test c.args.behind.now = c.in_ok-joining.ensures.ok ∙ ap (λ xs. xs ++ map test c.in_ok-behind.behind.items) c.new-3.ensures.items ∙ ap (map test) (c.in_ok-behind.ensures.ok ∙ ap (λ xs. xs ++ c.args.behind.now) c.new-2.ensures.items) in
    let is : c.in_ok-list.list.items ≡ map test (c.args.through.list.conjs ++ c.args.behind.now) =
    list_is c.args.at test c.args.through.list.conjs c.args.behind.now c.args.through.work c.in_ok-again.again.items c.in_ok-joining.joining.items c.in_ok-joining.joining.items c.in_ok-list.list.items again
    refl joining c.in_ok-list.ensures.ok in
    let p = err_from_is_err_and c.from_residual-in_err-listed.result c.from_residual-in_err-listed.ensures.1 in
    stop_err c.from_residual-in_err-listed.result p.0 c.in_err-listed.field-0.0 (stand c.args.at (map test (c.args.through.list.conjs ++ c.args.behind.now)) c.args.through.work) p.1 p.2
    (subst (λ (xs : List Conj). IsStop (stand c.args.at xs c.args.through.work) c.in_err-listed.field-0.0) is c.in_err-listed.ensures.refused)
