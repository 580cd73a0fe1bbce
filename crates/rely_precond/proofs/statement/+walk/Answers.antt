use Rattle.std.proofs.Common.{◌≡◌, false, refl, List, ◌++◌, sym, ap, subst, ◌∙◌, arith}
use Rattle.std.specs.Result.{IfOk, IfErr}
use Rattle.std.proofs.lemmas.Result.{err_from_is_err_and}
use Rattle.rely_num.specs.declared.conj.Conj.{Conj}
use Rattle.rely_kernel.specs.declared.kernel.St.{St}
use Rattle.rely_kernel.specs.Paths.{use_of}
use Rattle.rely_kernel.specs.Text.{expr_of, block_of}
use Rattle.rely_loops.specs.Grown.{too_many}
use Rattle.rely_precond.specs.Answers.{IsStop}
use Rattle.rely_precond.specs.InRange.{BlockInRange}
use Rattle.rely_precond.specs.Inside.{beside}
use Rattle.rely_precond.specs.Places.{line_of, lines_of}
use Rattle.rely_precond.specs.Walk.{Walked, Stands, and_then, stand, repeats, whiles, walk_all}
use Rattle.rely_precond.specs.Written.{all_sets}
use Rattle.rely_precond.proofs.Insides.{walk_some, if_first, if_second, while_first, repeat_first, if_range, while_range, repeat_range, if_beside, while_beside, repeat_beside}
use Rattle.rely_precond.proofs.Lasts.{none_walked, last_weight, last_range, last_goes, last_stops}
use Rattle.rely_precond.proofs.Parts.{Counted}
use Rattle.rely_precond.proofs.Still.{is_busy, some_own, still_is}
use Rattle.rely_precond.proofs.Stops.{stop_err}
use Rattle.rely_precond.proofs.Turning.{then_stops, then_goes, stop_as, repeat_body, repeat_stand, while_body, repeat_settled, repeat_on, while_stand, while_settled, while_on}
use Rattle.rely_precond.proofs.Weights.{weights, weight-If, weight-While, weight-Repeat}
use Rattle.rely_precond.proofs.statement.+walk.Goals as goal

pub repeat-returns-in-Some-clause-ok : goal.repeat-returns-in-Some-clause-ok
repeat-returns-in-Some-clause-ok t c =
    subst (λ (w : Walked). IfOk c.multiply.result (λ l. w ≡ Stands l.list.conjs l.work))
    (repeat_settled c.args.at (λ q w. walk_all c.args.k.now (lines_of c.args.text.body.now) q w) c.loop-left.left c.loop-left-test.true c.loop-left.turned.list.conjs c.loop-left.turned.work
    c.in_ok-through.through.list.conjs c.in_ok-through.through.work c.in_ok-turned.turned.list.conjs c.in_ok-turned.turned.work c.in_ok-through.ensures.ok c.in_ok-turned.ensures.ok
    c.in_ok-before.before.conjs c.in_ok-by.field-0 c.in-Some.by c.as_slice.result.now c.if-left-gt0.true (ap (λ p. p.conjs) c.in_ok-before.ensures) c.in_ok-by.ensures.ok c.in-Some.is c.as_slice.ensures
    ∙ c.loop-left.invariant.so_far) c.multiply.ensures.ok

pub repeat-returns-in-Some-clause-refused : goal.repeat-returns-in-Some-clause-refused
repeat-returns-in-Some-clause-refused t c =
    subst (λ (w : Walked). IfErr c.multiply.result (λ f. IsStop w f))
    (repeat_settled c.args.at (λ q w. walk_all c.args.k.now (lines_of c.args.text.body.now) q w) c.loop-left.left c.loop-left-test.true c.loop-left.turned.list.conjs c.loop-left.turned.work
    c.in_ok-through.through.list.conjs c.in_ok-through.through.work c.in_ok-turned.turned.list.conjs c.in_ok-turned.turned.work c.in_ok-through.ensures.ok c.in_ok-turned.ensures.ok
    c.in_ok-before.before.conjs c.in_ok-by.field-0 c.in-Some.by c.as_slice.result.now c.if-left-gt0.true (ap (λ p. p.conjs) c.in_ok-before.ensures) c.in_ok-by.ensures.ok c.in-Some.is c.as_slice.ensures
    ∙ c.loop-left.invariant.so_far) c.multiply.ensures.refused

pub repeat_while-walk_all-requires : goal.repeat_while-walk_all-requires
repeat_while-walk_all-requires t c = ((let d = c.decreases in omega arith), (c.requires.valid, c.requires.in_range))

pub repeat_while-returns-in_err-turn-clause-refused : goal.repeat_while-returns-in_err-turn-clause-refused
repeat_while-returns-in_err-turn-clause-refused t c =
    let test : Conj → Conj = use_of c.args.k.now (expr_of c.args.e.now) in
    let p = err_from_is_err_and c.from_residual-in_err-turn.result c.from_residual-in_err-turn.ensures.1 in
    stop_err c.from_residual-in_err-turn.result p.0 c.in_err-turn.field-0.0 (whiles c.args.at test (λ q w. walk_all c.args.k.now (lines_of c.args.text.body.now) q w) c.args.behind.now c.args.n c.args.own.list.conjs c.args.own.work) p.1 p.2
    (subst (λ (w : Walked). IsStop w c.in_err-turn.field-0.0) c.loop-left.invariant.so_far
    (while_stand c.args.at test (λ q w. walk_all c.args.k.now (lines_of c.args.text.body.now) q w) c.args.behind.now c.loop-left.left c.loop-left-test.true c.loop-left.turned.list.conjs c.loop-left.turned.work
    c.in_ok-through.through.list.conjs c.in_ok-through.through.work c.in_err-turn.field-0.0 c.in_ok-through.ensures.ok c.in_err-turn.ensures.refused))

pub repeat_while-returns-in-Some-clause-ok : goal.repeat_while-returns-in-Some-clause-ok
repeat_while-returns-in-Some-clause-ok t c =
    subst (λ (w : Walked). IfOk c.multiply.result (λ l. w ≡ Stands l.list.conjs l.work))
    (while_settled c.args.at (use_of c.args.k.now (expr_of c.args.e.now)) (λ q w. walk_all c.args.k.now (lines_of c.args.text.body.now) q w) c.args.behind.now c.loop-left.left c.loop-left-test.true
    c.loop-left.turned.list.conjs c.loop-left.turned.work c.in_ok-through.through.list.conjs c.in_ok-through.through.work c.in_ok-turn.turn.listed.list.conjs c.in_ok-turn.turn.listed.work
    c.in_ok-through.ensures.ok c.in_ok-turn.ensures.ok c.in_ok-before.before.conjs c.in_ok-growth.field-0 c.settled.result c.in_ok-turn.turn.is_covered c.in-Some.by c.as_slice.result.now c.if-left-gt0.true
    (ap (λ p. p.conjs) c.in_ok-before.ensures) c.in_ok-growth.ensures.ok c.in_ok-turn.ensures.covered c.settled.ensures.exact c.in-Some.is c.as_slice.ensures
    ∙ c.loop-left.invariant.so_far) c.multiply.ensures.ok

pub repeat_while-returns-in-Some-clause-refused : goal.repeat_while-returns-in-Some-clause-refused
repeat_while-returns-in-Some-clause-refused t c =
    subst (λ (w : Walked). IfErr c.multiply.result (λ f. IsStop w f))
    (while_settled c.args.at (use_of c.args.k.now (expr_of c.args.e.now)) (λ q w. walk_all c.args.k.now (lines_of c.args.text.body.now) q w) c.args.behind.now c.loop-left.left c.loop-left-test.true
    c.loop-left.turned.list.conjs c.loop-left.turned.work c.in_ok-through.through.list.conjs c.in_ok-through.through.work c.in_ok-turn.turn.listed.list.conjs c.in_ok-turn.turn.listed.work
    c.in_ok-through.ensures.ok c.in_ok-turn.ensures.ok c.in_ok-before.before.conjs c.in_ok-growth.field-0 c.settled.result c.in_ok-turn.turn.is_covered c.in-Some.by c.as_slice.result.now c.if-left-gt0.true
    (ap (λ p. p.conjs) c.in_ok-before.ensures) c.in_ok-growth.ensures.ok c.in_ok-turn.ensures.covered c.settled.ensures.exact c.in-Some.is c.as_slice.ensures
    ∙ c.loop-left.invariant.so_far) c.multiply.ensures.refused

pub walk-returns-then-stands_still-clause-ok : goal.walk-returns-then-stands_still-clause-ok
walk-returns-then-stands_still-clause-ok t c =
    subst (λ (w : Walked). IfOk c.stand_again.result (λ l. w ≡ Stands l.list.conjs l.work))
    (still_is c.args.k.now c.args.statement.now.at c.args.statement.now.what.now c.args.listed.list.conjs c.args.listed.work (sym c.stands_still.ensures ∙ c.if-stands_still.true)) c.stand_again.ensures.ok

pub walk-returns-then-stands_still-clause-refused : goal.walk-returns-then-stands_still-clause-refused
walk-returns-then-stands_still-clause-refused t c =
    subst (λ (w : Walked). IfErr c.stand_again.result (λ f. IsStop w f))
    (still_is c.args.k.now c.args.statement.now.at c.args.statement.now.what.now c.args.listed.list.conjs c.args.listed.work (sym c.stands_still.ensures ∙ c.if-stands_still.true)) c.stand_again.ensures.refused

pub walk-returns-clause-ok : goal.walk-returns-clause-ok
walk-returns-clause-ok t c =
    let moves = sym c.stands_still.ensures ∙ c.if-stands_still.false in
    subst (λ (w : Walked). IfOk c.walk_inside.result (λ l. w ≡ Stands l.list.conjs l.work))
    (ap (λ n. beside c.args.k.now c.args.statement.now.at (line_of c.args.statement.now.what.now) c.in_ok-parts.parts.others.items c.in_ok-parts.parts.own.list.conjs n) c.in_ok-parts.ensures.work ∙ walk_some c.args.k.now c.args.statement.now.at c.args.statement.now.what.now c.args.listed.list.conjs c.args.listed.work (sym c.is_plain.ensures ∙ c.if-is_plain.false)
    (is_busy c.args.k.now c.args.statement.now.at c.args.statement.now.what.now c.args.listed.list.conjs c.args.listed.work moves)
    c.in_ok-parts.parts.others.items c.in_ok-parts.parts.own.list.conjs c.in_ok-parts.ensures.others c.in_ok-parts.ensures.own
    (some_own c.args.k.now c.args.statement.now.at c.args.statement.now.what.now c.args.listed.list.conjs c.args.listed.work c.in_ok-parts.parts.own.list.conjs moves c.in_ok-parts.ensures.own)) c.walk_inside.ensures.ok

pub walk-returns-clause-refused : goal.walk-returns-clause-refused
walk-returns-clause-refused t c =
    let moves = sym c.stands_still.ensures ∙ c.if-stands_still.false in
    subst (λ (w : Walked). IfErr c.walk_inside.result (λ f. IsStop w f))
    (ap (λ n. beside c.args.k.now c.args.statement.now.at (line_of c.args.statement.now.what.now) c.in_ok-parts.parts.others.items c.in_ok-parts.parts.own.list.conjs n) c.in_ok-parts.ensures.work ∙ walk_some c.args.k.now c.args.statement.now.at c.args.statement.now.what.now c.args.listed.list.conjs c.args.listed.work (sym c.is_plain.ensures ∙ c.if-is_plain.false)
    (is_busy c.args.k.now c.args.statement.now.at c.args.statement.now.what.now c.args.listed.list.conjs c.args.listed.work moves)
    c.in_ok-parts.parts.others.items c.in_ok-parts.parts.own.list.conjs c.in_ok-parts.ensures.others c.in_ok-parts.ensures.own
    (some_own c.args.k.now c.args.statement.now.at c.args.statement.now.what.now c.args.listed.list.conjs c.args.listed.work c.in_ok-parts.parts.own.list.conjs moves c.in_ok-parts.ensures.own)) c.walk_inside.ensures.refused

pub walk_all-walk-requires : goal.walk_all-walk-requires
walk_all-walk-requires t c =
    let is = c.in-Some.ensures.some in
    let w = last_weight c.loop-last.left.body.now c.in-Some.last is in (
      (let d = c.decreases in let l = c.loop-last.invariant.less in omega arith),
      (c.requires.valid, (last_range c.loop-last.left.body.now c.in-Some.last is c.args.k.now c.loop-last.invariant.in_range).0),
    )

pub walk_all-returns-in_err-walked-clause-refused : goal.walk_all-returns-in_err-walked-clause-refused
walk_all-returns-in_err-walked-clause-refused t c =
    let p = err_from_is_err_and c.from_residual.result c.from_residual.ensures.1 in
    stop_err c.from_residual.result p.0 c.in_err-walked.field-0.0 (walk_all c.args.k.now (lines_of c.args.text.body.now) c.args.listed.list.conjs c.args.listed.work) p.1 p.2
    (subst (λ (w : Walked). IsStop w c.in_err-walked.field-0.0) c.loop-last.invariant.to_walk
    (last_stops c.loop-last.left.body.now c.in-Some.last c.in-Some.ensures.some c.args.k.now c.loop-last.walked.list.conjs c.loop-last.walked.work c.in_err-walked.field-0.0 c.in_err-walked.ensures.refused))

pub walk_all-loop-last-preserved : goal.walk_all-loop-last-preserved
walk_all-loop-last-preserved t c =
    let is = c.in-Some.ensures.some in
    record {
      in_range = (last_range c.loop-last.left.body.now c.in-Some.last is c.args.k.now c.loop-last.invariant.in_range).1;
      less = let w = last_weight c.loop-last.left.body.now c.in-Some.last is in let l = c.loop-last.invariant.less in omega arith;
      labels = c.in_ok-walked.ensures.labels ∙ c.loop-last.invariant.labels;
      to_walk =
          last_goes c.loop-last.left.body.now c.in-Some.last is c.args.k.now c.loop-last.walked.list.conjs c.loop-last.walked.work c.in_ok-walked.walked.list.conjs c.in_ok-walked.walked.work c.in_ok-walked.ensures.ok
          ∙ c.loop-last.invariant.to_walk;
    }

pub walk_branches-walk_all-requires : goal.walk_branches-walk_all-requires
walk_branches-walk_all-requires t c = ((let d = c.decreases in omega arith), (c.requires.valid, c.requires.first))

pub walk_branches-walk_all-requires-2 : goal.walk_branches-walk_all-requires-2
walk_branches-walk_all-requires-2 t c = ((let d = c.decreases in omega arith), (c.requires.valid, c.requires.second))

pub walk_inside-walk_branches-requires : goal.walk_inside-walk_branches-requires
walk_inside-walk_branches-requires t c =
    let r = if_range c.args.k.now c.args.statement.now.what.now c.requires.in_range c.in-If.e c.in-If.s c.in-If.t c.in-If.is in (
      (let d = c.decreases in let w = weight-If c.args.statement.now.what.now c.in-If.e c.in-If.s c.in-If.t c.in-If.is in let a = ap (λ ss. weights (lines_of ss)) c.as_slice-body.ensures in let b = ap (λ ss. weights (lines_of ss)) c.as_slice-body-in-If.ensures in omega arith),
      (
        c.requires.valid,
        (
          r.0,
          (
            subst (λ (ss : List St). BlockInRange c.args.k.now (block_of ss)) (sym c.as_slice-body.ensures) r.1,
            (subst (λ (ss : List St). BlockInRange c.args.k.now (block_of ss)) (sym c.as_slice-body-in-If.ensures) r.2, (c.requires.others, c.requires.few)),
          ),
        ),
      ),
    )

pub walk_inside-repeat_while-requires : goal.walk_inside-repeat_while-requires
walk_inside-repeat_while-requires t c =
    let r = while_range c.args.k.now c.args.statement.now.what.now c.requires.in_range c.in-While.e c.in-While.n c.in-While.s c.in-While.is in
    let behind : c.deref.result.now ≡ c.args.own.list.conjs = c.deref.ensures.value ∙ c.in_ok-behind-in-While.ensures.ok ∙ ap (λ xs. xs ++ c.conjs.result.now) c.new.ensures.items ∙ c.conjs.ensures.value in (
      (let d = c.decreases in let w = weight-While c.args.statement.now.what.now c.in-While.e c.in-While.n c.in-While.s c.in-While.is in let a = ap (λ ss. weights (lines_of ss)) c.as_slice-body-in-While.ensures in omega arith),
      (
        c.requires.valid,
        (
          r.0,
          (
            subst (λ (ss : List St). BlockInRange c.args.k.now (block_of ss)) (sym c.as_slice-body-in-While.ensures) r.1,
            (
              subst (Counted c.args.own.list.labels) (sym behind) c.conjs.ensures.valid.counted,
              subst (λ (xs : List Conj). too_many xs ≡ false) (sym behind) c.args.own.few,
            ),
          ),
        ),
      ),
    )

pub walk_inside-returns-in_err-turned-in-While-clause-refused : goal.walk_inside-returns-in_err-turned-in-While-clause-refused
walk_inside-returns-in_err-turned-in-While-clause-refused t c =
    let k = c.args.k.now in
    let behind : c.deref.result.now ≡ c.args.own.list.conjs = c.deref.ensures.value ∙ c.in_ok-behind-in-While.ensures.ok ∙ ap (λ xs. xs ++ c.conjs.result.now) c.new.ensures.items ∙ c.conjs.ensures.value in
    let f = c.in_err-turned-in-While.field-0.0 in
    let p = err_from_is_err_and c.from_residual-in_err-turned-in-While.result c.from_residual-in_err-turned-in-While.ensures.1 in
    let x : Walked = whiles c.args.statement.now.at (use_of k (expr_of c.in-While.e)) (λ q w. walk_all k (lines_of c.as_slice-body-in-While.result.now) q w) c.deref.result.now c.in-While.n c.args.own.list.conjs c.args.own.work in
    stop_err c.from_residual-in_err-turned-in-While.result p.0 f (beside k c.args.statement.now.at (line_of c.args.statement.now.what.now) c.args.others.items c.args.own.list.conjs c.args.own.work) p.1 p.2
    (stop_as (and_then x (λ q w. stand c.args.statement.now.at (c.args.others.items ++ q) w)) (beside k c.args.statement.now.at (line_of c.args.statement.now.what.now) c.args.others.items c.args.own.list.conjs c.args.own.work) f
    (while_beside k c.args.statement.now.at c.args.statement.now.what.now c.args.others.items c.args.own.list.conjs c.args.own.work c.in-While.e c.in-While.n c.in-While.s c.as_slice-body-in-While.result.now c.deref.result.now c.in-While.is
    c.as_slice-body-in-While.ensures behind) (then_stops x f (λ q w. stand c.args.statement.now.at (c.args.others.items ++ q) w) c.in_err-turned-in-While.ensures.refused))

pub walk_inside-repeat-requires : goal.walk_inside-repeat-requires
walk_inside-repeat-requires t c = (
  (let d = c.decreases in let w = weight-Repeat c.args.statement.now.what.now c.in-Repeat.n c.in-Repeat.s c.in-Repeat.is in let a = ap (λ ss. weights (lines_of ss)) c.as_slice-body-in-Repeat.ensures in omega arith),
  (
    c.requires.valid,
    subst (λ (ss : List St). BlockInRange c.args.k.now (block_of ss)) (sym c.as_slice-body-in-Repeat.ensures)
        (repeat_range c.args.k.now c.args.statement.now.what.now c.requires.in_range c.in-Repeat.n c.in-Repeat.s c.in-Repeat.is),
  ),
)

pub walk_inside-returns-in_err-turned-in-Repeat-clause-refused : goal.walk_inside-returns-in_err-turned-in-Repeat-clause-refused
walk_inside-returns-in_err-turned-in-Repeat-clause-refused t c =
    let k = c.args.k.now in
    let f = c.in_err-turned-in-Repeat.field-0.0 in
    let p = err_from_is_err_and c.from_residual-in_err-turned-in-Repeat.result c.from_residual-in_err-turned-in-Repeat.ensures.1 in
    let x : Walked = repeats c.args.statement.now.at (λ q w. walk_all k (lines_of c.as_slice-body-in-Repeat.result.now) q w) c.in-Repeat.n c.args.own.list.conjs c.args.own.work in
    stop_err c.from_residual-in_err-turned-in-Repeat.result p.0 f (beside k c.args.statement.now.at (line_of c.args.statement.now.what.now) c.args.others.items c.args.own.list.conjs c.args.own.work) p.1 p.2
    (stop_as (and_then x (λ q w. stand c.args.statement.now.at (c.args.others.items ++ q) w)) (beside k c.args.statement.now.at (line_of c.args.statement.now.what.now) c.args.others.items c.args.own.list.conjs c.args.own.work) f
    (repeat_beside k c.args.statement.now.at c.args.statement.now.what.now c.args.others.items c.args.own.list.conjs c.args.own.work c.in-Repeat.n c.in-Repeat.s c.as_slice-body-in-Repeat.result.now c.in-Repeat.is
    c.as_slice-body-in-Repeat.ensures) (then_stops x f (λ q w. stand c.args.statement.now.at (c.args.others.items ++ q) w) c.in_err-turned-in-Repeat.ensures.refused))

pub walk_inside-returns-in-If-clause-ok : goal.walk_inside-returns-in-If-clause-ok
walk_inside-returns-in-If-clause-ok t c =
    subst (λ (w : Walked). IfOk c.walk_branches.result (λ l. w ≡ Stands l.list.conjs l.work))
    (if_beside c.args.k.now c.args.statement.now.at c.args.statement.now.what.now c.args.others.items c.args.own.list.conjs c.args.own.work c.in-If.e c.in-If.s c.in-If.t c.as_slice-body.result.now c.as_slice-body-in-If.result.now c.in-If.is
    c.as_slice-body.ensures c.as_slice-body-in-If.ensures) c.walk_branches.ensures.ok

pub walk_inside-returns-in-If-clause-refused : goal.walk_inside-returns-in-If-clause-refused
walk_inside-returns-in-If-clause-refused t c =
    subst (λ (w : Walked). IfErr c.walk_branches.result (λ f. IsStop w f))
    (if_beside c.args.k.now c.args.statement.now.at c.args.statement.now.what.now c.args.others.items c.args.own.list.conjs c.args.own.work c.in-If.e c.in-If.s c.in-If.t c.as_slice-body.result.now c.as_slice-body-in-If.result.now c.in-If.is
    c.as_slice-body.ensures c.as_slice-body-in-If.ensures) c.walk_branches.ensures.refused

pub walk_inside-returns-in_ok-turned-in-While-clause-ok : goal.walk_inside-returns-in_ok-turned-in-While-clause-ok
walk_inside-returns-in_ok-turned-in-While-clause-ok t c =
    let k = c.args.k.now in
    let behind : c.deref.result.now ≡ c.args.own.list.conjs = c.deref.ensures.value ∙ c.in_ok-behind-in-While.ensures.ok ∙ ap (λ xs. xs ++ c.conjs.result.now) c.new.ensures.items ∙ c.conjs.ensures.value in
    let x : Walked = whiles c.args.statement.now.at (use_of k (expr_of c.in-While.e)) (λ q w. walk_all k (lines_of c.as_slice-body-in-While.result.now) q w) c.deref.result.now c.in-While.n c.args.own.list.conjs c.args.own.work in
    subst (λ (w : Walked). IfOk c.stand_turned.result (λ l. w ≡ Stands l.list.conjs l.work))
    (sym (then_goes x c.in_ok-turned-in-While.turned.list.conjs c.in_ok-turned-in-While.turned.work (λ q w. stand c.args.statement.now.at (c.args.others.items ++ q) w) c.in_ok-turned-in-While.ensures.ok)
    ∙ while_beside k c.args.statement.now.at c.args.statement.now.what.now c.args.others.items c.args.own.list.conjs c.args.own.work c.in-While.e c.in-While.n c.in-While.s c.as_slice-body-in-While.result.now c.deref.result.now c.in-While.is
    c.as_slice-body-in-While.ensures behind) c.stand_turned.ensures.ok

pub walk_inside-returns-in_ok-turned-in-While-clause-refused : goal.walk_inside-returns-in_ok-turned-in-While-clause-refused
walk_inside-returns-in_ok-turned-in-While-clause-refused t c =
    let k = c.args.k.now in
    let behind : c.deref.result.now ≡ c.args.own.list.conjs = c.deref.ensures.value ∙ c.in_ok-behind-in-While.ensures.ok ∙ ap (λ xs. xs ++ c.conjs.result.now) c.new.ensures.items ∙ c.conjs.ensures.value in
    let x : Walked = whiles c.args.statement.now.at (use_of k (expr_of c.in-While.e)) (λ q w. walk_all k (lines_of c.as_slice-body-in-While.result.now) q w) c.deref.result.now c.in-While.n c.args.own.list.conjs c.args.own.work in
    subst (λ (w : Walked). IfErr c.stand_turned.result (λ f. IsStop w f))
    (sym (then_goes x c.in_ok-turned-in-While.turned.list.conjs c.in_ok-turned-in-While.turned.work (λ q w. stand c.args.statement.now.at (c.args.others.items ++ q) w) c.in_ok-turned-in-While.ensures.ok)
    ∙ while_beside k c.args.statement.now.at c.args.statement.now.what.now c.args.others.items c.args.own.list.conjs c.args.own.work c.in-While.e c.in-While.n c.in-While.s c.as_slice-body-in-While.result.now c.deref.result.now c.in-While.is
    c.as_slice-body-in-While.ensures behind) c.stand_turned.ensures.refused

pub walk_inside-returns-in_ok-turned-in-Repeat-clause-ok : goal.walk_inside-returns-in_ok-turned-in-Repeat-clause-ok
walk_inside-returns-in_ok-turned-in-Repeat-clause-ok t c =
    let k = c.args.k.now in
    let x : Walked = repeats c.args.statement.now.at (λ q w. walk_all k (lines_of c.as_slice-body-in-Repeat.result.now) q w) c.in-Repeat.n c.args.own.list.conjs c.args.own.work in
    subst (λ (w : Walked). IfOk c.stand_turned-in-Repeat.result (λ l. w ≡ Stands l.list.conjs l.work))
    (sym (then_goes x c.in_ok-turned-in-Repeat.turned.list.conjs c.in_ok-turned-in-Repeat.turned.work (λ q w. stand c.args.statement.now.at (c.args.others.items ++ q) w) c.in_ok-turned-in-Repeat.ensures.ok)
    ∙ repeat_beside k c.args.statement.now.at c.args.statement.now.what.now c.args.others.items c.args.own.list.conjs c.args.own.work c.in-Repeat.n c.in-Repeat.s c.as_slice-body-in-Repeat.result.now c.in-Repeat.is c.as_slice-body-in-Repeat.ensures)
    c.stand_turned-in-Repeat.ensures.ok

pub walk_inside-returns-in_ok-turned-in-Repeat-clause-refused : goal.walk_inside-returns-in_ok-turned-in-Repeat-clause-refused
walk_inside-returns-in_ok-turned-in-Repeat-clause-refused t c =
    let k = c.args.k.now in
    let x : Walked = repeats c.args.statement.now.at (λ q w. walk_all k (lines_of c.as_slice-body-in-Repeat.result.now) q w) c.in-Repeat.n c.args.own.list.conjs c.args.own.work in
    subst (λ (w : Walked). IfErr c.stand_turned-in-Repeat.result (λ f. IsStop w f))
    (sym (then_goes x c.in_ok-turned-in-Repeat.turned.list.conjs c.in_ok-turned-in-Repeat.turned.work (λ q w. stand c.args.statement.now.at (c.args.others.items ++ q) w) c.in_ok-turned-in-Repeat.ensures.ok)
    ∙ repeat_beside k c.args.statement.now.at c.args.statement.now.what.now c.args.others.items c.args.own.list.conjs c.args.own.work c.in-Repeat.n c.in-Repeat.s c.as_slice-body-in-Repeat.result.now c.in-Repeat.is c.as_slice-body-in-Repeat.ensures)
    c.stand_turned-in-Repeat.ensures.refused

pub repeat-returns-in_err-through-clause-refused : goal.repeat-returns-in_err-through-clause-refused
repeat-returns-in_err-through-clause-refused t c =
    let p = err_from_is_err_and c.from_residual-in_err-through.result c.from_residual-in_err-through.ensures.1 in
    stop_err c.from_residual-in_err-through.result p.0 c.in_err-through.field-0.0 (repeats c.args.at (λ q w. walk_all c.args.k.now (lines_of c.args.text.body.now) q w) c.args.n c.args.own.list.conjs c.args.own.work) p.1 p.2
    (subst (λ (w : Walked). IsStop w c.in_err-through.field-0.0) c.loop-left.invariant.so_far
    (repeat_body c.args.at (λ q w. walk_all c.args.k.now (lines_of c.args.text.body.now) q w) c.loop-left.left c.loop-left-test.true c.loop-left.turned.list.conjs c.loop-left.turned.work c.in_err-through.field-0.0 c.in_err-through.ensures.refused))

pub repeat-returns-in_err-turned-clause-refused : goal.repeat-returns-in_err-turned-clause-refused
repeat-returns-in_err-turned-clause-refused t c =
    let p = err_from_is_err_and c.from_residual-in_err-turned.result c.from_residual-in_err-turned.ensures.1 in
    stop_err c.from_residual-in_err-turned.result p.0 c.in_err-turned.field-0.0 (repeats c.args.at (λ q w. walk_all c.args.k.now (lines_of c.args.text.body.now) q w) c.args.n c.args.own.list.conjs c.args.own.work) p.1 p.2
    (subst (λ (w : Walked). IsStop w c.in_err-turned.field-0.0) c.loop-left.invariant.so_far
    (repeat_stand c.args.at (λ q w. walk_all c.args.k.now (lines_of c.args.text.body.now) q w) c.loop-left.left c.loop-left-test.true c.loop-left.turned.list.conjs c.loop-left.turned.work
    c.in_ok-through.through.list.conjs c.in_ok-through.through.work c.in_err-turned.field-0.0 c.in_ok-through.ensures.ok c.in_err-turned.ensures.refused))

pub repeat-loop-left-preserved-in_default : goal.repeat-loop-left-preserved-in_default
repeat-loop-left-preserved-in_default t c = record {
  labels = c.in_ok-turned.ensures.labels ∙ c.in_ok-through.ensures.labels ∙ c.loop-left.invariant.labels;
  so_far =
      repeat_on c.args.at (λ q w. walk_all c.args.k.now (lines_of c.args.text.body.now) q w) c.loop-left.left c.loop-left-test.true c.loop-left.turned.list.conjs c.loop-left.turned.work
      c.in_ok-through.through.list.conjs c.in_ok-through.through.work c.in_ok-turned.turned.list.conjs c.in_ok-turned.turned.work c.in_ok-through.ensures.ok c.in_ok-turned.ensures.ok
      c.in_ok-before.before.conjs c.in_ok-by.field-0 (ap (λ p. p.conjs) c.in_ok-before.ensures) c.in_ok-by.ensures.ok c.in_default.is
      ∙ c.loop-left.invariant.so_far;
}

pub repeat_while-returns-in_err-through-clause-refused : goal.repeat_while-returns-in_err-through-clause-refused
repeat_while-returns-in_err-through-clause-refused t c =
    let p = err_from_is_err_and c.from_residual-in_err-through.result c.from_residual-in_err-through.ensures.1 in
    stop_err c.from_residual-in_err-through.result p.0 c.in_err-through.field-0.0 (whiles c.args.at (use_of c.args.k.now (expr_of c.args.e.now)) (λ q w. walk_all c.args.k.now (lines_of c.args.text.body.now) q w) c.args.behind.now c.args.n c.args.own.list.conjs c.args.own.work) p.1 p.2
    (subst (λ (w : Walked). IsStop w c.in_err-through.field-0.0) c.loop-left.invariant.so_far
    (while_body c.args.at (use_of c.args.k.now (expr_of c.args.e.now)) (λ q w. walk_all c.args.k.now (lines_of c.args.text.body.now) q w) c.args.behind.now c.loop-left.left c.loop-left-test.true c.loop-left.turned.list.conjs c.loop-left.turned.work c.in_err-through.field-0.0 c.in_err-through.ensures.refused))

pub repeat_while-loop-left-preserved-in_default : goal.repeat_while-loop-left-preserved-in_default
repeat_while-loop-left-preserved-in_default t c = record {
  labels = c.in_ok-turn.ensures.labels ∙ c.in_ok-through.ensures.labels ∙ c.loop-left.invariant.labels;
  so_far =
      while_on c.args.at (use_of c.args.k.now (expr_of c.args.e.now)) (λ q w. walk_all c.args.k.now (lines_of c.args.text.body.now) q w) c.args.behind.now c.loop-left.left c.loop-left-test.true
      c.loop-left.turned.list.conjs c.loop-left.turned.work c.in_ok-through.through.list.conjs c.in_ok-through.through.work c.in_ok-turn.turn.listed.list.conjs c.in_ok-turn.turn.listed.work
      c.in_ok-through.ensures.ok c.in_ok-turn.ensures.ok c.in_ok-before.before.conjs c.in_ok-growth.field-0 c.settled.result c.in_ok-turn.turn.is_covered
      (ap (λ p. p.conjs) c.in_ok-before.ensures) c.in_ok-growth.ensures.ok c.in_ok-turn.ensures.covered c.settled.ensures.exact c.in_default.is
      ∙ c.loop-left.invariant.so_far;
}

pub walk_all-loop-last-smaller : goal.walk_all-loop-last-smaller
walk_all-loop-last-smaller t c = let w = last_weight c.loop-last.left.body.now c.in-Some.last c.in-Some.ensures.some in omega arith

pub walk_all-returns-clause-ok : goal.walk_all-returns-clause-ok
walk_all-returns-clause-ok t c =
    sym c.loop-last.invariant.to_walk ∙ none_walked c.args.k.now c.loop-last.left.body.now c.loop-last.walked.list.conjs c.loop-last.walked.work (c.in_default.ensures.none refl)

pub walk_inside-invariant_of-first : goal.walk_inside-invariant_of-first
walk_inside-invariant_of-first t c = record {
  exact = c.args.statement.now.first_is ∙ if_first c.args.statement.now.what.now c.in-If.e c.in-If.s c.in-If.t c.in-If.is ∙ ap (λ ss. all_sets (block_of ss)) (sym c.as_slice-body.ensures);
}

pub walk_inside-invariant_of-second : goal.walk_inside-invariant_of-second
walk_inside-invariant_of-second t c = record {
  exact = c.args.statement.now.second_is ∙ if_second c.args.statement.now.what.now c.in-If.e c.in-If.s c.in-If.t c.in-If.is ∙ ap (λ ss. all_sets (block_of ss)) (sym c.as_slice-body-in-If.ensures);
}

pub walk_inside-invariant_of-text : goal.walk_inside-invariant_of-text
walk_inside-invariant_of-text t c = record {
  exact =
      c.args.statement.now.first_is ∙ while_first c.args.statement.now.what.now c.in-While.e c.in-While.n c.in-While.s c.in-While.is
      ∙ ap (λ ss. all_sets (block_of ss)) (sym c.as_slice-body-in-While.ensures);
}

pub walk_inside-invariant_of-text-in-Repeat : goal.walk_inside-invariant_of-text-in-Repeat
walk_inside-invariant_of-text-in-Repeat t c = record {
  exact =
      c.args.statement.now.first_is ∙ repeat_first c.args.statement.now.what.now c.in-Repeat.n c.in-Repeat.s c.in-Repeat.is
      ∙ ap (λ ss. all_sets (block_of ss)) (sym c.as_slice-body-in-Repeat.ensures);
}
