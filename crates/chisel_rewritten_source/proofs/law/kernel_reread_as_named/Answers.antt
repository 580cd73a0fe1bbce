use Rattle.chisel_rewritten_source.proofs.Sources.{kernel_reread_as_named}
use Rattle.chisel_rewritten_source.proofs.law.kernel_reread_as_named.Goals as goal

pub returns : goal.returns
returns c = kernel_reread_as_named
