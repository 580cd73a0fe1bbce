use Rattle.std.proofs.Common.{◌≡◌, List, [], ◌∷◌, ◌++◌, length, sym, ap, subst, ◌∙◌, None, Some, Err, arith, tests}
use Rattle.std.specs.List.{All}
use Rattle.std.specs.Vec.Iter.{into_iter_items}
use Rattle.std.proofs.lemmas.List.Elements.{All-tail}
use Rattle.std.proofs.lemmas.Result.{err_from_is_err_and}
use Rattle.rely_num.specs.declared.conj.Conj.{Conj}
use Rattle.rely_predicate.specs.declared.predicate.PredFault.TheVariants.{Wide}
use Rattle.rely_predicate.specs.Top.{top}
use Rattle.rely_predicate.proofs.Laws.{top_again}
use Rattle.rely_precond.specs.Walk.{added}
use Rattle.rely_precond.proofs.Stops.{added_goes, added_stops, short_is, short_added, if_err, ok_err, few_from}
use Rattle.rely_precond.proofs.standing.gathered.Goals as goal

pub of-requires : goal.of-requires
of-requires c = short_is c.args.labels c.args.list.items (let o = c.args.list.ok in omega (arith, tests)) c.requires

pub returns-then-len-le1-clause-ok : goal.returns-then-len-le1-clause-ok
returns-then-len-le1-clause-ok c =
    short_added c.args.list.items (let o = c.args.list.ok in omega (arith, tests)) ∙ ap (λ p. Some p.conjs) (sym c.of.ensures)

pub loop-c-preserved : goal.loop-c-preserved
loop-c-preserved c =
    let old = c.loop-c.gathered.conjs in
    let d = c.in-Some.c in
    let rest = into_iter_items c.next.new.self in
    let ok = c.in_ok-add.ensures.ok in
    let is : c.add.new.self.conjs ≡ top (old ++ d ∷ []) = ap (λ p. p.conjs) ok in
    let next : into_iter_items c.loop-c.c-iterator ≡ d ∷ rest = c.in-Some.ensures.steps.0 in
    record {
      labels = ap (λ p. p.labels) ok ∙ c.loop-c.invariant.labels;
      own = ap top is ∙ top_again (old ++ d ∷ []) ∙ sym is;
      counted = All-tail (λ (x : Conj). length x.counts ≡ c.args.labels) d rest (subst (λ (xs : List Conj). All (λ x. length x.counts ≡ c.args.labels) xs) next c.loop-c.invariant.counted);
      left =
          ap (λ p. added p rest) is ∙ added_goes old d rest c.loop-c.invariant.own (few_from (length (top (old ++ d ∷ []))) (λ l. absurd (ok_err c.in_ok-add.field-0 Wide (c.in_ok-add.ensures.wide.1 l))))
          ∙ ap (added old) (sym next) ∙ c.loop-c.invariant.left;
    }

pub returns-in_err-add-clause-wide : goal.returns-in_err-add-clause-wide
returns-in_err-add-clause-wide c =
    let old = c.loop-c.gathered.conjs in
    let d = c.in-Some.c in
    let rest = into_iter_items c.next.new.self in
    let next : into_iter_items c.loop-c.c-iterator ≡ d ∷ rest = c.in-Some.ensures.steps.0 in
    let p = err_from_is_err_and c.from_residual.result c.from_residual.ensures.1 in
    if_err c.from_residual.result p.0 (λ f. f ≡ Wide → added [] c.args.list.items ≡ None) p.1
    (λ f. sym c.loop-c.invariant.left ∙ ap (added old) next ∙ added_stops old d rest c.loop-c.invariant.own (c.in_err-add.ensures.wide.0 (ap (λ y. Err y) (sym p.2 ∙ f))))
