use Rattle.std.proofs.Common.{sym, ◌∙◌}
use Rattle.rely_resolve.proofs.Tables.{place_within}
use Rattle.rely_resolve.proofs.variables.Variables.place.Goals as goal

pub returns-in-Some-clause-within : goal.returns-in-Some-clause-within
returns-in-Some-clause-within c =
    place_within c.args.name.now c.args.self.now.list.items c.in-Some.number.now (sym (c.args.self.now.finds.places c.args.name.now) ∙ sym c.in-Some.ensures.value)
