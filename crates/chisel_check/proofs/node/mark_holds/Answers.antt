use Rattle.std.proofs.Common.{arith}
use Rattle.std.proofs.lemmas.List.{length-map}
use Rattle.chisel_check.proofs.node.mark_holds.Goals as goal

pub kept_closes-requires-clause-kept : goal.kept_closes-requires-clause-kept
kept_closes-requires-clause-kept c =
    let size = length-map c.args.c.now.cert.now.pool.now (λ v. v.now) in
    c.requires.cert.kept.kept c.in-Pool.close.index (omega (arith, size)) _

pub kept_closes-requires-clause-choice : goal.kept_closes-requires-clause-choice
kept_closes-requires-clause-choice c = c.requires.cert.fits.choice
