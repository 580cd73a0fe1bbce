use Rattle.std.proofs.Common.{sym, ap, ◌∙◌}
use Rattle.rely_kernel.specs.Text.{stmt_of, block_of}
use Rattle.rely_kernel.proofs.TextLemmas.{text-If}
use Rattle.rely_precond.specs.Written.{second_block}
use Rattle.rely_precond.proofs.written.second_block.Goals as goal

pub returns-in-If : goal.returns-in-If
returns-in-If c = ap block_of c.as_slice.ensures ∙ sym (ap (λ w. second_block (stmt_of w)) c.in-If.is ∙ ap second_block (text-If c.in-If.field-0 c.in-If.field-1 c.in-If.t))
