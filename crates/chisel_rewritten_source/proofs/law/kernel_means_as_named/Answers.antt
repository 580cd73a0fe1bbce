use Rattle.chisel_rewritten_source.proofs.Meant.{kernel_means_as_named}
use Rattle.chisel_rewritten_source.proofs.law.kernel_means_as_named.Goals as goal

pub returns : goal.returns
returns c = kernel_means_as_named
