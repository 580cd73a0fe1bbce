use Rattle.std.proofs.Common.{map, drop, ap, refl, ◌∙◌, ◌+◌}
use Rattle.rely_tree.specs.Shape.{decl_shape, said_shape}
use Rattle.rely_resolve.specs.Faults.{first_with, claim_faults, claims_faults}
use Rattle.rely_resolve.proofs.Firsts.{first_step}
use Rattle.rely_resolve.proofs.declarations.claims.Goals as goal

pub loop-one-preserved : goal.loop-one-preserved
loop-one-preserved c =
    let params = map decl_shape c.args.params.now.list.items in
    ap (λ o. first_with o (claims_faults params (map said_shape (drop (c.loop-one.one-index + 1) c.args.claims.now)))) c.claim-first.ensures
    ∙ first_step (λ s. claim_faults params (said_shape s)) (λ ss. claims_faults params (map said_shape ss)) (λ x xs. refl)
    c.args.claims.now c.loop-one.one-index c.one-item.result c.loop-one-test.true c.one-item.is c.loop-one.first
    ∙ c.loop-one.invariant
