use Rattle.std.proofs.Common.{◌≡◌, map, take, drop, ap, ◌∙◌, sym, ◌+◌, ◌∷◌}
use Rattle.rely_tree.specs.Shape.{func_shape}
use Rattle.rely_resolve.specs.Kernels.{done_of}
use Rattle.rely_resolve.specs.Linked.{is_reached, linked_from, marks}
use Rattle.rely_resolve.proofs.Firsts.{item_and_rest}
use Rattle.rely_resolve.proofs.Linking.{stops}
use Rattle.rely_resolve.proofs.link.link.Goals as goal

pub returns-in-Err-clause-err : goal.returns-in-Err-clause-err
returns-in-Err-clause-err c =
    let h = c.args.h.now in
    let f = func_shape c.args.f.now in
    let before = c.args.before.now in
    let i = c.loop-i.i in
    let g = c.index-before-i.result in
    let earlier = map func_shape (take i before) in
    let done = done_of (map func_shape c.loop-i.done.functions.items) c.loop-i.done.kernels.items in
    let gs = map func_shape (drop (i + 1) before) in
    let here : drop i before ≡ g ∷ drop (i + 1) before = item_and_rest before i g c.loop-i-test.true c.index-before-i.is in
    let mark : c.take_mark-is_reached.result ≡ is_reached f gs (func_shape g) =
    (c.take_mark-is_reached.ensures (marks f gs) (is_reached f gs (func_shape g)) (c.loop-i.invariant.marks ∙ ap (λ gs. marks f (map func_shape gs)) here)).0 in
    stops h f earlier done (func_shape g) gs c.in-Err.fault c.take_mark-is_reached.result _ mark c.in-Err.ensures.err
    (sym (ap (λ gs. linked_from h f earlier done (map func_shape gs)) here) ∙ c.loop-i.invariant.same)
