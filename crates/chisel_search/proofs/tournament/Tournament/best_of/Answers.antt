use Rattle.std.proofs.Common.{ℕ, ◌+◌, ◌∙◌, ap, sym}
use Rattle.chisel_table.specs.Sums.{list_to}
use Rattle.chisel_bound.proofs.Lists.{listed_more, listed_none}
use Rattle.chisel_search.specs.Tournament.{best, better, winner_at}
use Rattle.chisel_search.proofs.Winners.{best_push}
use Rattle.chisel_search.proofs.tournament.Tournament.best_of.Goals as goal

pub loop-o-init : goal.loop-o-init
loop-o-init c = sym (ap best (listed_none (λ o. winner_at c.args.self.now (c.args.family.first + o))))

pub loop-o-preserved : goal.loop-o-preserved
loop-o-preserved c =
    let f = λ (o : ℕ). winner_at c.args.self.now (c.args.family.first + o) in
    c.better-best.ensures
    ∙ (λ i. better (c.loop-o.invariant i) (c.winner_at.ensures i))
    ∙ sym (ap best (listed_more c.loop-o.o f) ∙ best_push (list_to c.loop-o.o f) (f c.loop-o.o))
