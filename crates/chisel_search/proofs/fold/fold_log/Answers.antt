use Rattle.std.proofs.Common.{◌≡◌, ◌-◌, ◌∙◌, ap, sym, subst, arith, length, refl}
use Rattle.chisel_table.specs.Closings.{first_close}
use Rattle.chisel_search.specs.Fold.{AnyDecision, AnyPlace, IsPut}
use Rattle.chisel_search.specs.Logs.{Logged}
use Rattle.chisel_search.specs.Machine.{held_options, pool_of, table_of}
use Rattle.chisel_search.proofs.Folding.{few_nodes, fold_back, folded_before, folded_end, has_places, keeps_trans, was_divided}
use Rattle.chisel_search.proofs.fold.fold_log.Goals as goal

pub loop-left-init : goal.loop-left-init
loop-left-init c =
    let d = c.args.differences.now in
    let m = c.args.machine.now in
    let r = c.requires in
    let o = m.log.ok in
    let n = c.len-left.ensures in
    let e : length m.log.items ≡ c.len-left.result = omega arith in
    record {
      folded = folded_end (table_of d) (pool_of d) m.log.items (held_options m.best) r.zeros m.made c.len-left.result r.state c.in_ok-built.built.nodes.items c.in_ok-built.built.sizes.items
          (subst (λ k. Logged (table_of d) (pool_of d) AnyDecision AnyPlace m.log.items k r.state) e r.logged) (sym e) r.ended (sym r.made) r.best c.in_ok-built.ensures.nodes c.in_ok-built.ensures.sizes;
      machine = r.machine;
      keeps = record { made = refl; bounds = refl; best = refl; log = refl };
    }

pub put-requires-clause-nodes : goal.put-requires-clause-nodes
put-requires-clause-nodes c =
    let d = c.args.differences.now in
    let m = c.args.machine.now in
    let i = c.loop-left.invariant in
    let ns = c.loop-left.built.nodes.items in
    let ss = c.loop-left.built.sizes.items in
    let b = fold_back d m c.loop-left.machine c.loop-left.left c.index.result.now ns ss c.requires i.keeps c.loop-left-test.true c.index.ensures i.folded in
    has_places (table_of d) (pool_of d) m.log.items (held_options m.best) c.requires.zeros m.made (c.loop-left.left - 1) c.index.result.now ns ss b.0 b.1 b.2 (length ns) i.folded.all_nodes

pub put-requires-clause-sizes : goal.put-requires-clause-sizes
put-requires-clause-sizes c =
    let d = c.args.differences.now in
    let m = c.args.machine.now in
    let i = c.loop-left.invariant in
    let ns = c.loop-left.built.nodes.items in
    let ss = c.loop-left.built.sizes.items in
    let b = fold_back d m c.loop-left.machine c.loop-left.left c.index.result.now ns ss c.requires i.keeps c.loop-left-test.true c.index.ensures i.folded in
    has_places (table_of d) (pool_of d) m.log.items (held_options m.best) c.requires.zeros m.made (c.loop-left.left - 1) c.index.result.now ns ss b.0 b.1 b.2 (length ss) i.folded.all_sizes

pub put-requires-clause-divided : goal.put-requires-clause-divided
put-requires-clause-divided c =
    let d = c.args.differences.now in
    let m = c.args.machine.now in
    let i = c.loop-left.invariant in
    let ns = c.loop-left.built.nodes.items in
    let ss = c.loop-left.built.sizes.items in
    let v = c.index.result.now in
    let b = fold_back d m c.loop-left.machine c.loop-left.left v ns ss c.requires i.keeps c.loop-left-test.true c.index.ensures i.folded in
    λ e. was_divided (table_of d) (pool_of d) m.log.items (held_options m.best) c.requires.zeros m.made (c.loop-left.left - 1) v ns ss b.0 b.1 b.2
    (ap (λ x. first_close (table_of d) (pool_of d) (held_options x) v.partial) (sym i.keeps.best) ∙ sym c.close-close.ensures.rule ∙ e)

pub put-requires-clause-few : goal.put-requires-clause-few
put-requires-clause-few c =
    let d = c.args.differences.now in
    let m = c.args.machine.now in
    let i = c.loop-left.invariant in
    let ns = c.loop-left.built.nodes.items in
    let ss = c.loop-left.built.sizes.items in
    let v = c.index.result.now in
    let b = fold_back d m c.loop-left.machine c.loop-left.left v ns ss c.requires i.keeps c.loop-left-test.true c.index.ensures i.folded in
    let few = few_nodes (table_of d) (pool_of d) m.log.items (held_options m.best) c.requires.zeros m.made (c.loop-left.left - 1) v ns ss b.0 b.1 b.2 in
    let all = c.requires.few in
    omega arith

pub loop-left-preserved : goal.loop-left-preserved
loop-left-preserved c =
    let d = c.args.differences.now in
    let m = c.args.machine.now in
    let i = c.loop-left.invariant in
    let ns = c.loop-left.built.nodes.items in
    let ss = c.loop-left.built.sizes.items in
    let v = c.index.result.now in
    let b = fold_back d m c.loop-left.machine c.loop-left.left v ns ss c.requires i.keeps c.loop-left-test.true c.index.ensures i.folded in
    let rule = c.close-close.ensures.rule ∙ ap (λ x. first_close (table_of d) (pool_of d) (held_options x) v.partial) i.keeps.best in
    record {
      folded = folded_before (table_of d) (pool_of d) m.log.items (held_options m.best) c.requires.zeros m.made (c.loop-left.left - 1) v ns ss b.0 b.1 b.2
          c.put.new.self.nodes.items c.put.new.self.sizes.items
          (subst (λ x. IsPut (table_of d) v x ns ss c.put.new.self.nodes.items c.put.new.self.sizes.items) rule c.in_ok-put.ensures);
      machine = c.close-close.ensures.machine;
      keeps = keeps_trans m c.loop-left.machine c.close-close.new.self i.keeps c.close-close.ensures.keeps;
    }
