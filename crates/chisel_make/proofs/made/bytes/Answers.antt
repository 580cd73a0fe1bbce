use Rattle.std.proofs.Common.{◌≡◌, ℕ, ◌-◌, ◌<◌, List, ◌++◌, codes, append_assoc, ap, sym, ◌∙◌, rules, arith}
use Rattle.chisel_make.specs.Draws.{after, draw, next}
use Rattle.chisel_make.specs.Made.{byte, bytes}
use Rattle.chisel_make.proofs.Steps.{bytes_none, bytes_step, after_none, after_step}
use Rattle.chisel_make.proofs.made.bytes.Goals as goal

pub loop-left-preserved : goal.loop-left-preserved
loop-left-preserved c =
    let some : 0 < c.loop-left.left = omega (arith, c.loop-left-test.true) in
    let step = bytes_step c.loop-left.left c.loop-left.draws.state some in
    let later = after_step c.loop-left.left c.loop-left.draws.state some in
    let text = c.loop-left.text.items in
    let rest = bytes (c.loop-left.left - 1) (next c.loop-left.draws.state) in
    let pushed : c.push_byte.new.text.items ≡ text ++ (codes "," ++ byte (draw c.loop-left.draws.state)) = search (rules, append_assoc) in
    let joined = c.loop-left.invariant.0 ∙ (ap (λ (r : List ℕ). text ++ r) step ∙ sym (append_assoc text ((codes "," ++ byte (draw c.loop-left.draws.state))) rest)) in
    (rw (pushed, c.draw.ensures.state) joined, c.loop-left.invariant.1 ∙ (later ∙ ap (after (c.loop-left.left - 1)) (sym c.draw.ensures.state)))

pub returns-clause-text : goal.returns-clause-text
returns-clause-text c =
    let none : c.loop-left.left ≡ 0 = omega (arith, c.loop-left-test.false) in
    search (rules, none, bytes_none c.loop-left.draws.state)

pub returns-clause-draws : goal.returns-clause-draws
returns-clause-draws c =
    let none : c.loop-left.left ≡ 0 = omega (arith, c.loop-left-test.false) in
    search (rules, none, after_none c.loop-left.draws.state)
