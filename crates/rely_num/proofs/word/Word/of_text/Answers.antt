use Rattle.std.proofs.Common.{◌∙◌, sym, ap}
use Rattle.rely_num.specs.Texts.{same_text}
use Rattle.rely_num.proofs.Searches.{word_from_next, word_from_end, word_from_here}
use Rattle.rely_num.proofs.word.Word.of_text.Goals as goal

pub loop-word-preserved : goal.loop-word-preserved
loop-word-preserved c = c.loop-word.invariant ∙ word_from_next c.args.text.now c.loop-word.word-index _ c.loop-word-test.true (ap (λ t. same_text t c.args.text.now) (sym c.text.ensures.text) ∙ sym c.eq.ensures ∙ c.if-eq.false)

pub returns-clause-value : goal.returns-clause-value
returns-clause-value c = sym (c.loop-word.invariant ∙ word_from_end c.args.text.now c.loop-word.word-index c.loop-word-test.false)

pub returns-then-eq-clause-value : goal.returns-then-eq-clause-value
returns-then-eq-clause-value c = sym (c.loop-word.invariant ∙ word_from_here c.args.text.now c.loop-word.word-index _ c.loop-word-test.true (ap (λ t. same_text t c.args.text.now) (sym c.text.ensures.text) ∙ sym c.eq.ensures ∙ c.if-eq.true))
