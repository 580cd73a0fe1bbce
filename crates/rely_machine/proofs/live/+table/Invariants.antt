use Rattle.std.proofs.Common.{◌≡◌, ◌+◌, ◌-◌, ◌*◌, ◌++◌, drop}
use Rattle.rely_kernel.specs.Text.{block_of, stmt_of}
use Rattle.rely_machine.specs.Table.{entries, table_of}
use Rattle.rely_machine.proofs.Sizes.{block_size, stmt_size}
use Rattle.rely_machine.proofs.live.+table.Given as goal

abbrev pub decreases-put_block : goal.decreases-put_block
decreases-put_block l = 3 * block_size (block_of l.text.now)

abbrev pub decreases-put : goal.decreases-put
decreases-put l = 3 * stmt_size (stmt_of l.what.now) + 2

abbrev pub decreases-put_choice : goal.decreases-put_choice
decreases-put_choice l = 3 * block_size (block_of l.s.now) + 3 * block_size (block_of l.t.now) + 1

abbrev pub decreases-put_loop : goal.decreases-put_loop
decreases-put_loop l = 3 * block_size (block_of l.s.now) + 2

abbrev pub decreases-put_entry : goal.decreases-put_entry
decreases-put_entry l = 3 * block_size (block_of l.s.now) + 3 * block_size (block_of l.t.now) - 2

abbrev pub invariant-put_block-loop-s : goal.invariant-put_block-loop-s
invariant-put_block-loop-s l = entries l.live.items ++ table_of (block_of (drop l.s-index l.text)) ≡ entries l.fn.live.items ++ table_of (block_of l.text)
