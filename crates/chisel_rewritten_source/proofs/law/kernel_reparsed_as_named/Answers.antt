use Rattle.chisel_rewritten_source.proofs.Reparsed.{kernel_reparsed_as_named}
use Rattle.chisel_rewritten_source.proofs.law.kernel_reparsed_as_named.Goals as goal

pub returns : goal.returns
returns c = kernel_reparsed_as_named
