use Rattle.std.proofs.Common.{length, arith, ap, sym, ◌+◌, ◌∙◌}
use Rattle.std.specs.List.{insert}
use Rattle.chisel_bound.proofs.Lists.{length_listed, listed_more, listed_none}
use Rattle.chisel_search.specs.Logs.{numbers_from}
use Rattle.chisel_search.specs.Search.{replaced}
use Rattle.chisel_search.proofs.Lists.{length_replaced, replaced_more, replaced_none}
use Rattle.chisel_search.proofs.open.replace_numbers.Goals as goal

pub loop-o-init : goal.loop-o-init
loop-o-init c =
    c.remove.ensures.items ∙ replaced_none c.args.numbers.now.items c.args.place c.requires.inside
    ∙ ap (replaced c.args.numbers.now.items c.args.place) (sym (listed_none (λ o. c.args.first + o)))

pub insert-requires : goal.insert-requires
insert-requires c =
    let e = ap length c.loop-o.invariant in
    let l = length_replaced c.args.numbers.now.items c.args.place (numbers_from c.args.first c.loop-o.o) c.requires.inside in
    let k = length_listed c.loop-o.o (λ o. c.args.first + o) in
    let ok = c.loop-o.numbers.ok in
    omega arith

pub loop-o-preserved : goal.loop-o-preserved
loop-o-preserved c =
    let o = c.loop-o.o in
    let n = length_listed o (λ o. c.args.first + o) in
    c.in_ok-insert.ensures.items
    ∙ ap (λ l. insert l (c.args.place + o) (c.args.first + o)) c.loop-o.invariant
    ∙ replaced_more c.args.numbers.now.items c.args.place (numbers_from c.args.first o) o (c.args.first + o) c.requires.inside n
    ∙ ap (replaced c.args.numbers.now.items c.args.place) (sym (listed_more o (λ o. c.args.first + o)))
