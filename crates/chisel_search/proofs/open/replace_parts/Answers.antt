use Rattle.std.proofs.Common.{length, take, get_or, pos, [], arith, ap, sym, ◌+◌, ◌∙◌}
use Rattle.std.specs.List.{insert}
use Rattle.std.proofs.lemmas.List.{length-take-le, take_more}
use Rattle.chisel_search.specs.declared.part.Part.{Part}
use Rattle.chisel_search.specs.Search.{replaced}
use Rattle.chisel_search.proofs.Lists.{length_replaced, replaced_more, replaced_none}
use Rattle.chisel_search.proofs.open.replace_parts.Goals as goal

pub loop-o-init : goal.loop-o-init
loop-o-init c = c.remove.ensures.items ∙ replaced_none c.args.parts.now.items c.args.place c.requires

pub insert-requires : goal.insert-requires
insert-requires c =
    let e = ap length c.loop-o.invariant in
    let l = length_replaced c.args.parts.now.items c.args.place (take c.loop-o.o c.args.children.now) c.requires in
    let k = length-take-le c.loop-o.o c.args.children.now (omega arith) in
    let ok = c.loop-o.parts.ok in
    omega arith

pub loop-o-preserved : goal.loop-o-preserved
loop-o-preserved c =
    let none : Part = record { partial = record { size = 0; slots = [] }; value = pos 0 } in
    let children = c.args.children.now in
    let o = c.loop-o.o in
    let n = length-take-le o children (omega arith) in
    c.in_ok-insert.ensures.items
    ∙ ap (λ l. insert l (c.args.place + o) (get_or children o none)) c.loop-o.invariant
    ∙ replaced_more c.args.parts.now.items c.args.place (take o children) o (get_or children o none) c.requires n
    ∙ ap (replaced c.args.parts.now.items c.args.place) (sym (take_more children o none (omega arith)))
