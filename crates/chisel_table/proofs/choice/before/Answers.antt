use Rattle.std.proofs.Common.{arith, ap, sym, ◌∙◌, ◌≡◌, ◌≢◌}
use Rattle.std.specs.Prelude.{slice_index, nat_lt}
use Rattle.chisel_table.specs.Choices.{energy}
use Rattle.chisel_table.proofs.Choices.{decided, undecided}
use Rattle.chisel_table.proofs.choice.before.Goals as goal

pub returns-then-xs-d : goal.returns-then-xs-d
returns-then-xs-d c =
    let p = c.as_slice-xs.ensures in
    let q = c.as_slice-ys.ensures in
    let even : energy c.args.t.now c.args.a.now.options ≡ energy c.args.t.now c.args.b.now.options = cc in
    let ne : slice_index c.args.a.now.options c.loop-d.d ≢ slice_index c.args.b.now.options c.loop-d.d = λ z. c.if-xs-d.true (ap (λ os. slice_index os c.loop-d.d) p ∙ z ∙ sym (ap (λ os. slice_index os c.loop-d.d) q)) in
    (λ i. nat_lt (slice_index (p i) c.loop-d.d) (slice_index (q i) c.loop-d.d))
    ∙ decided c.args.t.now c.args.a.now.options c.args.b.now.options c.loop-d.d even (omega arith) c.loop-d.invariant ne

pub returns : goal.returns
returns c =
    let even : energy c.args.t.now c.args.a.now.options ≡ energy c.args.t.now c.args.b.now.options = cc in
    sym (undecided c.args.t.now c.args.a.now.options c.args.b.now.options even (λ k l. c.loop-d.invariant k (omega arith)))
