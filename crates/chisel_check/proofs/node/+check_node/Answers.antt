use Rattle.std.proofs.Common.{◌≡◌, ◌+◌, ◌∷◌, ◌<◌, Ok, Err, true, drop, length, arith, rules, refl, ap, sym, ◌∙◌, ◌&&◌, nat_lt}
use Rattle.std.proofs.lemmas.List.{drop_more, drop_all}
use Rattle.std.proofs.lemmas.Grind.{common_steps}
use Rattle.chisel_cert.specs.declared.cert.Node.{the_lemmas}
use Rattle.chisel_table.specs.Tables.{decision_count, option_count}
use Rattle.std.specs.Prelude.{option_copied}
use Rattle.chisel_table.specs.Partials.{is_unfixed}
use Rattle.chisel_table.proofs.Sums.{both}
use Rattle.chisel_table.proofs.Partials.{fixed_partial}
use Rattle.chisel_cert.specs.Tree.{nodes, nodes_of}
use Rattle.chisel_cert.specs.Node.{tree_of, trees_of, vectors_of}
use Rattle.chisel_check.specs.Walk.{walk, walk_all, ◌>>=◌}
use Rattle.chisel_check.proofs.Walks.{fits-Leaf, fits-Branch, nodes-Branch, walk-Branch, branch_opened, walk_next, walk_none, nodes_none, nodes_first, first_fits, alike_with_option, alike_after}
use Rattle.chisel_check.proofs.node.+check_node.Goals as goal

pub mark_holds-requires-clause-mark : goal.mark_holds-requires-clause-mark
mark_holds-requires-clause-mark t c = fits-Leaf c.args.t.now c.in-Leaf.mark (rw c.in-Leaf.is at c.requires.fits)

pub loop-k-init : goal.loop-k-init
loop-k-init t c =
    let table = c.args.t.now in
    let d = c.in-Branch.decision in
    let kids = c.in-Branch.children in
    let pool = vectors_of c.args.c.now.cert.now.pool.now in
    let choice = option_copied c.args.c.now.cert.now.choice in
    let start = c.args.p.now in
    let free : (nat_lt d (decision_count table) && is_unfixed start d) ≡ true = sym c.is_open.ensures ∙ c.if-not-is_open.false in
    let many : length kids.now ≡ option_count table d = c.if-children-option_count.false ∙ c.option_count.ensures in
    let n = ap (λ x. nodes (tree_of x)) c.in-Branch.is ∙ nodes-Branch d kids in
    record {
      alike = record { size = refl; slots = λ x. refl };
      fits = fits-Branch table d kids (rw c.in-Branch.is at c.requires.fits);
      lines = omega (arith, n);
      same = sym (ap (λ x. walk table pool choice start (tree_of x) c.args.line) c.in-Branch.is ∙ walk-Branch table pool choice start d kids c.args.line
          ∙ branch_opened table pool choice start d kids.now c.args.line free many);
    }

pub check_node-requires : goal.check_node-requires
check_node-requires t c =
    let table = c.args.t.now in
    let d = c.in-Branch.decision in
    let kids = c.in-Branch.children.now in
    let start = c.args.p.now in
    let free : (nat_lt d (decision_count table) && is_unfixed start d) ≡ true = sym c.is_open.ensures ∙ c.if-not-is_open.false in
    let many : length kids ≡ option_count table d = c.if-children-option_count.false ∙ c.option_count.ensures in
    let cut = drop_more kids c.loop-k.k c.child-item.result c.loop-k-test.true ∙ ap (λ n. n ∷ drop (c.loop-k.k + 1) kids) (sym c.child-item.is) in
    let fits = first_fits table c.child-item.result (drop (c.loop-k.k + 1) kids) (rw cut at c.loop-k.invariant.fits) in
    let few : c.loop-k.k < option_count table d = omega arith in (
      search (rules, the_lemmas),
      (
        c.requires.table,
        (
          c.requires.cert,
          (
            rw (alike_with_option c.loop-k.p start d c.loop-k.k c.loop-k.invariant.alike)
                (fixed_partial table start d c.loop-k.k (both (nat_lt d (decision_count table)) (is_unfixed start d) free).1 few c.requires.partial),
            (
              fits.0,
              omega (arith, ap (λ ns. nodes_of (trees_of ns)) cut, nodes_first c.child-item.result (drop (c.loop-k.k + 1) kids), c.loop-k.invariant.lines, c.requires.lines),
            ),
          ),
        ),
      ),
    )

pub loop-k-preserved : goal.loop-k-preserved
loop-k-preserved t c =
    let table = c.args.t.now in
    let d = c.in-Branch.decision in
    let kids = c.in-Branch.children.now in
    let start = c.args.p.now in
    let rest = drop (c.loop-k.k + 1) kids in
    let child = c.child-item.result in
    let pool = vectors_of c.args.c.now.cert.now.pool.now in
    let choice = option_copied c.args.c.now.cert.now.choice in
    let cut = drop_more kids c.loop-k.k child c.loop-k-test.true ∙ ap (λ n. n ∷ rest) (sym c.child-item.is) in
    record {
      alike = rw c.in_ok-next-in-Branch.ensures.restored (alike_after c.loop-k.p start d c.loop-k.k c.loop-k.invariant.alike);
      fits = (first_fits table child rest (rw cut at c.loop-k.invariant.fits)).1;
      lines = omega (arith, ap (λ ns. nodes_of (trees_of ns)) cut, nodes_first child rest, c.in_ok-next-in-Branch.ensures.counted, c.loop-k.invariant.lines);
      same = sym (walk_next table pool choice start c.loop-k.p d c.loop-k.k c.loop-k.next child (drop c.loop-k.k kids) rest (Ok c.in_ok-next-in-Branch.next) cut c.loop-k.invariant.alike c.in_ok-next-in-Branch.ensures.walk)
          ∙ c.loop-k.invariant.same;
    }

pub returns-in_err-next-in-Branch-clause-walk : goal.returns-in_err-next-in-Branch-clause-walk
returns-in_err-next-in-Branch-clause-walk t c =
    let table = c.args.t.now in
    let d = c.in-Branch.decision in
    let kids = c.in-Branch.children.now in
    let start = c.args.p.now in
    let rest = drop (c.loop-k.k + 1) kids in
    let child = c.child-item.result in
    let pool = vectors_of c.args.c.now.cert.now.pool.now in
    let choice = option_copied c.args.c.now.cert.now.choice in
    let cut = drop_more kids c.loop-k.k child c.loop-k-test.true ∙ ap (λ n. n ∷ rest) (sym c.child-item.is) in
    let w = walk_next table pool choice start c.loop-k.p d c.loop-k.k c.loop-k.next child (drop c.loop-k.k kids) rest _ cut c.loop-k.invariant.alike c.check_node.ensures.walk in
    let v : c.check_node.result ≡ Err c.in_err-next-in-Branch.field-0.0 = c.in_err-next-in-Branch.was in
    let q : walk table pool choice start (tree_of c.args.node.now) c.args.line ≡ Err c.in_err-next-in-Branch.field-0.0 =
    sym c.loop-k.invariant.same ∙ w ∙ ap (λ r. r >>= λ after. walk_all table pool choice start d (c.loop-k.k + 1) (trees_of rest) after) v in
    rw q (grind (arith, common_steps))

pub returns-after-loop-k-clause-walk : goal.returns-after-loop-k-clause-walk
returns-after-loop-k-clause-walk t c =
    let kids = c.in-Branch.children.now in
    let none = drop_all c.loop-k.k kids (omega arith) in
    let pool = vectors_of c.args.c.now.cert.now.pool.now in
    let choice = option_copied c.args.c.now.cert.now.choice in
    sym (walk_none c.args.t.now pool choice c.args.p.now c.in-Branch.decision c.loop-k.k c.loop-k.next)
    ∙ sym (ap (λ ns. walk_all c.args.t.now pool choice c.args.p.now c.in-Branch.decision c.loop-k.k (trees_of ns) c.loop-k.next) none)
    ∙ c.loop-k.invariant.same

pub returns-after-loop-k-clause-counted : goal.returns-after-loop-k-clause-counted
returns-after-loop-k-clause-counted t c =
    let kids = c.in-Branch.children.now in
    let none = drop_all c.loop-k.k kids (omega arith) in
    omega (arith, ap (λ ns. nodes_of (trees_of ns)) none, nodes_none, c.loop-k.invariant.lines)
