use Rattle.std.proofs.Common.{arith, ap, sym, ◌≡◌, ◌∙◌, [], Some}
use Rattle.std.proofs.lemmas.List.{get_or_read}
use Rattle.chisel_search.specs.declared.tournament.Knot.{Knot}
use Rattle.chisel_search.specs.Tournament.{knot_at}
use Rattle.chisel_search.proofs.tournament.Tournament.due.Goals as goal

pub best_of-requires-clause-inside : goal.best_of-requires-clause-inside
best_of-requires-clause-inside c =
    let t = c.args.self.now in
    let family : (knot_at t.knots.items c.args.number).family ≡ Some c.in-Some.family =
    ap (λ (k : Knot). k.family) (sym (get_or_read t.knots.items c.args.number c.index.result.now c.requires.number c.index.ensures (knot_at [] 0))) ∙ c.in-Some.is in
    let f = c.requires.shaped.tree.families c.args.number c.in-Some.family c.requires.number family in
    let i = f.inside in
    let w = c.requires.shaped.winners in
    omega arith
