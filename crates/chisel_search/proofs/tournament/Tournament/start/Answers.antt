use Rattle.std.proofs.Common.{rules, ap, ◌∙◌, ◌∷◌, []}
use mir.Syntax.{w128}
use mir.Val.{SFits}
use Rattle.std.proofs.lemmas.Int.{to_z-of_z}
use Rattle.chisel_table.specs.Partials.{nothing_fixed}
use Rattle.chisel_bound.specs.BoundsAt.{greatest, values}
use Rattle.chisel_search.proofs.Climbing.{first_numbers, first_values, first_tournament}
use Rattle.chisel_search.proofs.Machines.{greatest_is}
use Rattle.chisel_search.proofs.tournament.Tournament.start.Goals as goal

pub returns-clause-tournament : goal.returns-clause-tournament
returns-clause-tournament c = first_tournament _ _ _ c.in_ok-add.ensures c.new.ensures.items c.new-2.ensures.items c.new-3.ensures.items

pub returns-clause-numbers : goal.returns-clause-numbers
returns-clause-numbers c = first_numbers _ _ _ c.in_ok-add.ensures c.new.ensures.items c.new-2.ensures.items c.new-3.ensures.items

pub returns-clause-values : goal.returns-clause-values
returns-clause-values c =
    let t = c.args.differences.now.table.now in
    let pool = c.args.differences.now.pool.now.vectors in
    let f : SFits w128 c.greatest_value.result = search rules in
    let a =
    to_z-of_z w128 c.greatest_value.result f ∙ c.greatest_value.ensures
    ∙ ap (λ l. greatest (values l)) c.requires.bounds ∙ greatest_is t pool (nothing_fixed t) in
    first_values _ _ _ c.in_ok-add.ensures c.new.ensures.items c.new-2.ensures.items c.new-3.ensures.items
    ∙ ap (λ v. v ∷ []) a
