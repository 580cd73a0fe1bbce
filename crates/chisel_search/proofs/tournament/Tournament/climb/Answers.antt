use Rattle.std.proofs.Common.{arith, ap, refl, ◌∙◌, ◌≡◌, [], length}
use Rattle.std.proofs.lemmas.List.{get_or_read}
use Rattle.chisel_search.specs.declared.tournament.Knot.{Knot}
use Rattle.chisel_search.specs.Tournament.{knot_at}
use Rattle.chisel_search.proofs.Climbing.{judged_above, judged_all, still_shaped}
use Rattle.chisel_search.proofs.tournament.Tournament.climb.Goals as goal

pub loop-place-preserved : goal.loop-place-preserved
loop-place-preserved c =
    let i = c.loop-place.invariant in
    let old = c.loop-place.self in
    let new = c.judge.new.self in
    let parent : c.index.result.now.parent ≡ (knot_at old.knots.items c.loop-place.place).parent =
    ap (λ (k : Knot). k.parent) (get_or_read new.knots.items c.loop-place.place c.index.result.now (let i = i.inside in let e = ap (λ ks. length ks.items) c.judge.ensures.tree.knots in omega arith) c.index.ensures (knot_at [] 0))
    ∙ ap (λ ks. (knot_at ks.items c.loop-place.place).parent) c.judge.ensures.tree.knots in
    let below = i.shaped.tree.parents c.loop-place.place i.inside (omega arith) in
    let size : length new.knots.items ≡ length old.knots.items = ap (λ ks. length ks.items) c.judge.ensures.tree.knots in
    record {
      inside = let a = i.inside in omega arith;
      keeps = record {
        values = c.judge.ensures.tree.values ∙ i.keeps.values;
        knots = c.judge.ensures.tree.knots ∙ i.keeps.knots;
        winners = c.judge.ensures.tree.winners ∙ i.keeps.winners;
      };
      shaped = still_shaped old new c.loop-place.place i.shaped c.judge.ensures.tree c.judge.ensures.judged;
      judged = rw parent (judged_above old new c.loop-place.place i.shaped c.judge.ensures.tree c.judge.ensures.judged (omega arith) i.judged);
    }

pub returns-clause-tournament : goal.returns-clause-tournament
returns-clause-tournament c =
    let i = c.loop-place.invariant in
    let z : c.loop-place.place ≡ 0 = omega arith in
    judged_all c.loop-place.self c.judge-2.new.self 0 i.shaped c.judge-2.ensures.tree c.judge-2.ensures.judged refl (rw z at i.judged)
