use Rattle.std.proofs.Common.{◌≡◌, ℕ, ◌-◌, ◌<◌, List, ◌++◌, append_assoc, ap, sym, ◌∙◌, rules, arith}
use Rattle.chisel_make.specs.Draws.{after, draw, next}
use Rattle.chisel_make.specs.Made.{statement, statements}
use Rattle.chisel_make.proofs.Steps.{statements_none, statements_step, after_none, after_step}
use Rattle.chisel_make.proofs.made.statements.Goals as goal

pub loop-left-preserved : goal.loop-left-preserved
loop-left-preserved c =
    let some : 0 < c.loop-left.left = omega (arith, c.loop-left-test.true) in
    let step = statements_step c.loop-left.left c.loop-left.draws.state some in
    let later = after_step c.loop-left.left c.loop-left.draws.state some in
    let text = c.loop-left.text.items in
    let rest = statements (c.loop-left.left - 1) (next c.loop-left.draws.state) in
    let pushed : c.extend_from_slice.new.self.items ≡ text ++ (statement (draw c.loop-left.draws.state)) = search (rules, append_assoc) in
    let joined = c.loop-left.invariant.0 ∙ (ap (λ (r : List ℕ). text ++ r) step ∙ sym (append_assoc text (statement (draw c.loop-left.draws.state)) rest)) in
    (rw (pushed, c.draw.ensures.state) joined, c.loop-left.invariant.1 ∙ (later ∙ ap (after (c.loop-left.left - 1)) (sym c.draw.ensures.state)))

pub returns-clause-text : goal.returns-clause-text
returns-clause-text c =
    let none : c.loop-left.left ≡ 0 = omega (arith, c.loop-left-test.false) in
    search (rules, none, statements_none c.loop-left.draws.state)

pub returns-clause-draws : goal.returns-clause-draws
returns-clause-draws c =
    let none : c.loop-left.left ≡ 0 = omega (arith, c.loop-left-test.false) in
    search (rules, none, after_none c.loop-left.draws.state)
