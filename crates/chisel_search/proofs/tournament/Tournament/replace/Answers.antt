use Rattle.chisel_search.proofs.Climbing.{grafted_judged, grafted_replaces, grafted_shape}
use Rattle.chisel_search.proofs.tournament.Tournament.replace.Goals as goal

pub climb-requires-clause-shaped : goal.climb-requires-clause-shaped
climb-requires-clause-shaped c = grafted_shape c.args.self.now c.graft.new.self c.args.number c.args.children.now c.requires.tournament c.requires.number c.in_ok-graft.ensures

pub climb-requires-clause-judged : goal.climb-requires-clause-judged
climb-requires-clause-judged c = grafted_judged c.args.self.now c.graft.new.self c.args.number c.args.children.now c.requires.tournament c.requires.number c.in_ok-graft.ensures

pub returns-clause-replaces : goal.returns-clause-replaces
returns-clause-replaces c =
    grafted_replaces c.args.self.now c.graft.new.self c.args.number c.args.children.now c.requires.tournament c.requires.number c.in_ok-graft.ensures
    c.climb.new.self c.climb.ensures.tree
