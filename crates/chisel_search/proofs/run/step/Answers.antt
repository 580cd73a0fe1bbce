use Rattle.std.proofs.Common.{◌<◌, ◌∙◌, ap, arith, length}
use Rattle.std.proofs.lemmas.List.{get_or_read}
use Rattle.chisel_search.specs.Logs.{numbers_from}
use Rattle.chisel_search.specs.Search.{replaced}
use Rattle.chisel_search.proofs.Finding.{has_number, known_here, stepped}
use Rattle.chisel_search.proofs.run.step.Goals as goal

pub index-requires-2 : goal.index-requires-2
index-requires-2 g c =
    let e = ap length c.deref.ensures.value in
    let i = c.place-place.ensures.inside in
    let inside : c.place-place.result < length c.args.open_parts.now.parts.items = omega arith in
    let n = has_number _ _ _ _ _ _ c.requires.searching c.place-place.result inside c.index.result.now in
    let o = c.args.open_parts.now.numbers.ok in
    omega arith

pub visit-requires-clause-known : goal.visit-requires-clause-known
visit-requires-clause-known g c =
    let e = ap length c.deref.ensures.value in
    let i = c.place-place.ensures.inside in
    let inside : c.place-place.result < length c.args.open_parts.now.parts.items = omega arith in
    let n = has_number _ _ _ _ _ _ c.requires.searching c.place-place.result inside c.index.result.now in
    known_here _ _ _ _ _ _ c.requires.searching c.place-place.result inside c.index.result.now c.index.result.now.partial c.index-2.result.now
    (ap (λ x. x.partial) c.index.ensures) (get_or_read c.args.open_parts.now.numbers.items c.place-place.result c.index-2.result.now n c.index-2.ensures 0)

pub replace-requires-clause-number : goal.replace-requires-clause-number
replace-requires-clause-number g c =
    let e = ap length c.deref.ensures.value in
    let i = c.place-place.ensures.inside in
    let inside : c.place-place.result < length c.args.open_parts.now.parts.items = omega arith in
    has_number _ _ _ _ _ _ c.requires.searching c.place-place.result inside c.index.result.now

pub returns-clause-searching : goal.returns-clause-searching
returns-clause-searching g c =
    let e = ap length c.deref.ensures.value in
    let i = c.place-place.ensures.inside in
    let inside : c.place-place.result < length c.args.open_parts.now.parts.items = omega arith in
    let n = has_number _ _ _ _ _ _ c.requires.searching c.place-place.result inside c.index.result.now in
    let p = c.place-place.ensures.picked in
    let o = c.args.open_parts.now in
    stepped _ _ _ _ _ _ c.requires.searching c.place-place.result inside c.index.result.now c.index.result.now.partial c.index-2.result.now
    c.visit.new.self c.replace.new.self.parts.items c.replace.new.self.numbers.items c.in_ok-children.children.items
    (ap (λ x. x.partial) c.index.ensures) (get_or_read o.numbers.items c.place-place.result c.index-2.result.now n c.index-2.ensures 0)
    (record { list = p.list; list_is = p.list_is ∙ c.deref.ensures.value; post_holds = p.post_holds })
    c.in_ok-children.ensures.machine c.in_ok-children.ensures.visited
    (c.in_ok-replace.ensures.parts ∙ ap (replaced o.parts.items c.place-place.result) c.deref-2.ensures.value)
    (c.in_ok-replace.ensures.numbers ∙ ap (λ l. replaced o.numbers.items c.place-place.result (numbers_from c.args.machine.now.made (length l))) c.deref-2.ensures.value)
