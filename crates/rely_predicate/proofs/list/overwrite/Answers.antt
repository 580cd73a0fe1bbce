use Rattle.std.proofs.Common.{◌<◌, length, get_or, slice_set, List, ap, ◌∙◌, arith}
use Rattle.rely_num.specs.declared.conj.Conj.{Conj}
use Rattle.rely_predicate.proofs.Copies.{over_step}
use Rattle.rely_predicate.proofs.list.overwrite.Goals as goal

pub loop-i-preserved : goal.loop-i-preserved
loop-i-preserved c =
    let xs = c.args.conjs.now in
    let ys = c.args.list.now in
    let i = c.loop-i.i in
    let d = c.index-conjs-i.result in
    let l : i < length ys = omega (arith, c.loop-i-test.true) in
    ap (λ v. slice_set c.loop-i.list i v) (c.in_ok-overwrite_one.ensures ∙ c.index-conjs-i.is)
    ∙ ap (λ (zs : List Conj). slice_set zs i (get_or xs i d)) c.loop-i.invariant
    ∙ over_step xs ys i d (omega (arith, l, c.requires)) l
