use Rattle.chisel_rewritten_source.proofs.Sources.{kernel_marks_are_tokens}
use Rattle.chisel_rewritten_source.proofs.law.kernel_marks_are_tokens.Goals as goal

pub returns : goal.returns
returns c = kernel_marks_are_tokens
