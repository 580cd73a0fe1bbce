use Rattle.std.proofs.Common.{◌+◌, ◌*◌}
use Rattle.rely_kernel.specs.Text.{stmt_of, block_of}
use Rattle.rely_precond.proofs.Sets.{SoFar}
use Rattle.rely_precond.proofs.Marks.{Added, size, sizes}
use Rattle.rely_precond.proofs.written.+written.Given as goal

abbrev pub invariant-add_block-loop-statement : goal.invariant-add_block-loop-statement
invariant-add_block-loop-statement l = record {
  set : SoFar l.body l.statement-index l.set.bits;
  sets : Added l.body l.statement-index l.fn.sets.items l.sets.items;
}

abbrev pub decreases-add_block : goal.decreases-add_block
decreases-add_block l = 2 * sizes (block_of l.body.now)

abbrev pub decreases-add_statement : goal.decreases-add_statement
decreases-add_statement l = 2 * size (stmt_of l.what.now) + 1
