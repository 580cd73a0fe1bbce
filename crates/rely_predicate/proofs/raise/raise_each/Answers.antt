use Rattle.std.proofs.Common.{◌≡◌, ◌<◌, List, length, get_or, set, sym, ap, ◌∙◌, arith}
use Rattle.rely_num.specs.declared.conj.Conj.{Conj}
use Rattle.rely_predicate.specs.Shift.{times, raise}
use Rattle.rely_predicate.proofs.Raises.{rest_at, map_step}
use Rattle.rely_predicate.proofs.raise.raise_each.Goals as goal

pub loop-c-preserved : goal.loop-c-preserved
loop-c-preserved c =
    let f : Conj → Conj = raise (times c.args.n c.args.by.now) in
    let xs = c.args.conjs.now in
    let i = c.loop-c.c-index in
    let d = c.c-item.result in
    let l : i < length xs = omega (arith, c.loop-c-test.true) in
    let v : c.raise.new.c ≡ f (get_or xs i d) =
    c.raise.ensures ∙ ap f (ap (λ (ys : List Conj). get_or ys i d) c.loop-c.invariant ∙ rest_at f xs i d l) in
    (λ k. set (c.loop-c.invariant k) i (v k)) ∙ sym (map_step f xs i d l)
