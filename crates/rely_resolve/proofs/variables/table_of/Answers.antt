use Rattle.std.proofs.Common.{[], None}
use Rattle.rely_tree.specs.declared.expr.Kind.TheVariants.{Plain}
use Rattle.rely_tree.specs.declared.unit.Decl.{Decl}
use Rattle.rely_resolve.proofs.Tables.{finds_more}
use Rattle.rely_resolve.proofs.variables.table_of.Goals as goal

-- a variable without a name
nothing : Decl
nothing = record { name = record { text = record { ref_ptr = (0, 0); now = [] }; span = record { from = 0; to = 0 } }; length = None; memory = Plain }

pub loop-i-preserved : goal.loop-i-preserved
unfolding nothing
loop-i-preserved c = finds_more c.loop-i.table c.put.new.table c.args.vars.now c.loop-i.i nothing c.loop-i-test.true c.loop-i.invariant c.in_ok-put.ensures
