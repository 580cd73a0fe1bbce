use Rattle.std.proofs.Common.{arith, refl, ap, rules, subst, sym, ◌∙◌, ◌≡◌, ◌<◌, [], length, Some, None}
use Rattle.std.specs.Prelude.{slice_index_or, slice_set}
use lib.IntN.{pos}
use mir.Syntax.{w128}
use mir.Val.{SFits, of_z, to_z}
use Rattle.std.proofs.lemmas.Int.{to_z-of_z}
use Rattle.std.proofs.lemmas.List.{get_or-map, get_or_read, length-append}
use Rattle.chisel_table.specs.Sums.{list_to}
use Rattle.chisel_search.specs.declared.part.Part.{Part}
use Rattle.chisel_search.specs.declared.tournament.Knot.{Knot}
use Rattle.chisel_search.specs.Tournament.{knot_at, value_of, HasAdded}
use Rattle.chisel_search.proofs.Climbing.{HasFresh, fresh_more, fresh_none, grafted, values_of}
use Rattle.chisel_search.proofs.tournament.Tournament.graft.Goals as goal

pub loop-o-init : goal.loop-o-init
loop-o-init c = fresh_none c.args.self.now c.args.number c.args.children.now

pub loop-o-preserved : goal.loop-o-preserved
loop-o-preserved c =
    let children = c.args.children.now in
    let o = c.loop-o.o in
    let none : Part = record { partial = record { size = 0; slots = [] }; value = pos 0 } in
    let fits : SFits w128 (slice_index_or children o none).value = search rules in
    let value : to_z w128 (of_z w128 (slice_index_or children o none).value) ≡ value_of (values_of children) o =
    to_z-of_z w128 (slice_index_or children o none).value fits
    ∙ sym (get_or-map (λ (p : Part). p.value) children o none (pos 0) (omega arith)) in
    fresh_more c.args.self.now c.args.number children o c.loop-o.self c.add.new.self (omega arith) c.loop-o.invariant
    (subst (λ v. HasAdded c.loop-o.self v c.args.number c.add.new.self) value c.in_ok-add.ensures)

pub returns : goal.returns
returns c =
    let o : c.loop-o.o ≡ length c.args.children.now = omega arith in
    let here : c.args.number < length c.loop-o.self.knots.items =
    let e = ap length c.loop-o.invariant.knots in
    let a = length-append c.args.self.now.knots.items (list_to c.loop-o.o (λ k. record { parent = c.args.number; family = None })) in
    let i = c.requires.number.inside in omega arith in
    let first : c.in_ok-first.first ≡ length c.args.self.now.values.items = let o = c.args.self.now.values.ok in let n = c.in_ok-first.ensures in let l = c.len.ensures in omega arith in
    let count : c.in_ok-count.count ≡ length c.args.children.now = let n = c.in_ok-count.ensures in omega arith in
    let parent = ap (λ (k : Knot). k.parent) (get_or_read c.loop-o.self.knots.items c.args.number c.index_mut.result.now here c.index_mut.ensures.value (knot_at [] 0)) in
    grafted c.args.self.now c.args.number c.args.children.now c.loop-o.self _ c.requires.tournament.shaped c.requires.number.inside
    (subst (λ o. HasFresh c.args.self.now c.args.number c.args.children.now o c.loop-o.self) o c.loop-o.invariant) refl refl
    (λ i. slice_set c.loop-o.self.knots.items c.args.number (record { parent = parent i; family = Some (record { first = first i; count = count i }) }))
