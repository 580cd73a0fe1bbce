use Rattle.std.proofs.Common.{◌≡◌, ◌∙◌, ap, refl, rules}
use Rattle.std.specs.Prelude.{slice_set}
use Rattle.chisel_search.proofs.Climbing.{judges_one}
use Rattle.chisel_search.proofs.Winners.{number_of}
use Rattle.chisel_search.proofs.tournament.Tournament.judge.Goals as goal

pub returns-clause-judged : goal.returns-clause-judged
returns-clause-judged c =
    let number : c.map.result ≡ number_of c.due-winner.result = search rules in
    judges_one c.args.self.now _ c.args.number c.requires.shaped c.requires.number refl
    (ap (λ w. slice_set c.args.self.now.winners.items c.args.number w) (number ∙ ap number_of c.due-winner.ensures))
