use Rattle.std.proofs.Common.{ap, ◌∙◌}
use Rattle.rely_kernel.specs.Text.{block_of}
use Rattle.chisel_tests.proofs.Tested.{if_more, sum_text}
use Rattle.chisel_tests.proofs.trial.body.Goals as goal

pub returns : goal.returns
returns c =
    if_more c.one.result _ _ c.one.ensures (λ ss e. ap block_of e ∙ sum_text (record { from = 0; to = 0 }) c.in_ok-x.x c.in_ok-y.y c.in_ok-x.ensures c.in_ok-y.ensures)
