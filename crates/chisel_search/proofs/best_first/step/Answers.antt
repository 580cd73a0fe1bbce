use Rattle.std.proofs.Common.{◌≡◌, ◌∙◌, ◌++◌, ap, arith, length, replicate, slice_index, subst, sym}
use Rattle.chisel_search.specs.Frontier.{partial_from}
use Rattle.chisel_search.specs.Machine.{IsKnown, table_of}
use Rattle.chisel_search.specs.Tournament.{Replaces}
use Rattle.chisel_search.proofs.BestFirst.{best_stepped, known_winner, open_winner}
use Rattle.chisel_search.proofs.best_first.step.Goals as goal

pub visit-requires-clause-known : goal.visit-requires-clause-known
visit-requires-clause-known g c =
    let e = c.partial-partial.ensures ∙ ap (λ log. partial_from (table_of c.args.differences.now) log (slice_index c.args.frontier.now.origins.items c.args.number) c.args.number) c.deref.ensures.value in
    subst (λ p. IsKnown c.args.differences.now c.args.machine.now.bounds.items p c.args.number) (sym e)
    (known_winner _ _ _ _ c.requires.searching c.args.number c.requires.winner)

pub replace-requires-clause-number : goal.replace-requires-clause-number
replace-requires-clause-number g c = open_winner _ _ _ _ c.requires.searching c.args.number c.requires.winner

pub returns-clause-searching : goal.returns-clause-searching
returns-clause-searching g c =
    let f = c.args.frontier.now in
    let e = c.partial-partial.ensures ∙ ap (λ log. partial_from (table_of c.args.differences.now) log (slice_index f.origins.items c.args.number) c.args.number) c.deref.ensures.value in
    let visit : c.len-visit.result ≡ length c.args.machine.now.log.items = let o = c.args.machine.now.log.ok in let n = c.len-visit.ensures in omega arith in
    let children = c.deref-2.ensures.value in
    let origins : c.replace.new.self.origins.items ≡ f.origins.items ++ replicate (length c.in_ok-children.children.items) (length c.args.machine.now.log.items) =
    c.in_ok-replace.ensures.origins ∙ (λ i. f.origins.items ++ replicate (length (children i)) (visit i)) in
    best_stepped _ _ _ _ c.requires.searching c.args.number c.requires.winner c.partial-partial.result c.visit.new.self c.replace.new.self c.in_ok-children.children.items
    e c.in_ok-children.ensures.machine c.in_ok-children.ensures.visited c.in_ok-replace.ensures.tournament
    (subst (λ l. Replaces f.tournament c.args.number l c.replace.new.self.tournament) children c.in_ok-replace.ensures.replaces)
    origins
