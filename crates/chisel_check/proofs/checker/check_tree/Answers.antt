use Rattle.std.proofs.Common.{sym, arith}
use Rattle.std.proofs.lemmas.List.{length-map}
use Rattle.std.specs.Prelude.{option_copied}
use Rattle.chisel_table.specs.Partials.{nothing_fixed}
use Rattle.chisel_table.proofs.Partials.{nothing_partial}
use Rattle.chisel_cert.specs.Node.{tree_of, vectors_of}
use Rattle.chisel_check.proofs.Walks.{valid_if_ok}
use Rattle.chisel_check.proofs.Fits.{pool_fits, tree_fits, claimed_best}
use Rattle.chisel_check.proofs.checker.check_tree.Goals as goal

pub kept_pool-requires-clause-pool : goal.kept_pool-requires-clause-pool
kept_pool-requires-clause-pool c = pool_fits c.args.t.now c.args.c.now.rows _ c.requires.head.sized.1 c.requires.within.pool

pub kept_pool-requires-clause-few : goal.kept_pool-requires-clause-few
kept_pool-requires-clause-few c = omega (arith, length-map c.args.c.now.pool.now (λ v. v.now), c.requires.within.vectors.1)

pub check_node-requires-clause-cert : goal.check_node-requires-clause-cert
check_node-requires-clause-cert c = record {
  fits = record {
    pool = pool_fits c.args.t.now c.args.c.now.rows _ c.requires.head.sized.1 c.requires.within.pool;
    choice = claimed_best c.args.t.now _ c.requires.head.claimed;
  };
  few = omega (arith, length-map c.args.c.now.pool.now (λ v. v.now), c.requires.within.vectors.1);
  kept = c.kept_pool.ensures;
}

pub check_node-requires-clause-fits : goal.check_node-requires-clause-fits
check_node-requires-clause-fits c = tree_fits c.args.t.now c.args.c.now.version c.args.c.now.rows _ _ c.requires.head.sized.1 c.requires.within.root

pub check_node-requires-clause-partial : goal.check_node-requires-clause-partial
check_node-requires-clause-partial c = rw c.nothing_fixed-p.ensures (nothing_partial c.args.t.now c.requires.table.few_decisions)

pub returns-in-Ok-clause-ok : goal.returns-in-Ok-clause-ok
returns-in-Ok-clause-ok c =
    valid_if_ok (tree_of c.args.c.now.root) c.args.t.now (vectors_of c.args.c.now.pool.now) (option_copied c.args.c.now.choice) (nothing_fixed c.args.t.now) _ c.in-Ok.field-0
    (sym (rw c.nothing_fixed-p.ensures at c.in-Ok.ensures.walk))
