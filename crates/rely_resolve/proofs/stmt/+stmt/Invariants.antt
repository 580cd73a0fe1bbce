use Rattle.std.proofs.Common.{◌≡◌, ◌+◌, ◌++◌, map, drop, length}
use Rattle.rely_tree.specs.Shape.{decl_shape, func_shape, block_shape}
use Rattle.rely_tree.specs.Counts.{block_operators, block_calls}
use Rattle.rely_resolve.specs.Kernels.{sts_of, block_sites, block_sites_called, done_of}
use Rattle.rely_tree.specs.Limits.{HaveNumbers}
use Rattle.rely_resolve.specs.Names.{names}
use Rattle.rely_resolve.proofs.stmt.+stmt.Given as goal

abbrev pub invariant-block-loop-s : goal.invariant-block-loop-s
invariant-block-loop-s l = record {
  numbers : HaveNumbers (block_shape (drop l.s-index l.ss));
  sites_len : length l.made.sites.items + block_operators (block_shape (drop l.s-index l.ss)) ≡ length l.fn.made.sites.items + block_operators (block_shape l.ss);
  calls_len : length l.made.calls.items + block_calls (block_shape (drop l.s-index l.ss)) ≡ length l.fn.made.calls.items + block_calls (block_shape l.ss);
  sites : l.made.sites.items ++ block_sites l.means.h.now (block_shape (drop l.s-index l.ss)) ≡ l.fn.made.sites.items ++ block_sites l.means.h.now (block_shape l.ss);
  calls :
      l.made.calls.items ++ block_sites_called (done_of (map func_shape l.means.done.now) l.means.kernels.now) (block_shape (drop l.s-index l.ss))
      ≡ l.fn.made.calls.items ++ block_sites_called (done_of (map func_shape l.means.done.now) l.means.kernels.now) (block_shape l.ss);
  same :
      l.all.items ++ sts_of (names (map decl_shape l.means.vars.now.list.items)) (length l.made.sites.items) (length l.made.calls.items) (block_shape (drop l.s-index l.ss))
      ≡ sts_of (names (map decl_shape l.means.vars.now.list.items)) (length l.fn.made.sites.items) (length l.fn.made.calls.items) (block_shape l.ss);
}
