use Rattle.std.proofs.Common.{subst}
use Rattle.chisel_optimise.specs.Answers.{Certify, given}
use Rattle.chisel_top.specs.Findings.{Choosing}
use Rattle.chisel_top.specs.Outcomes.{Final}
use Rattle.std.specs.Prelude.{Ok}
use Rattle.chisel_top.proofs.Reaching.{certificate_answers, certificate_stops}
use Rattle.chisel_top.proofs.commands.certified.Goals as goal

pub returns-in-Err-clause-reaches : goal.returns-in-Err-clause-reaches
returns-in-Err-clause-reaches g c =
    certificate_stops (g.F.Shelf.held c.args.shelf.now) (g.F.Shelf.log c.args.shelf.now) (g.F.Shelf.log c.certificate.new.shelf) c.args.asked c.args.certificate_name.now c.args.problem.now c.in-Err.fault
    c.in-Err.ensures.works

pub returns-clause-reaches : goal.returns-clause-reaches
returns-clause-reaches g c =
    certificate_answers (g.F.Shelf.held c.args.shelf.now) (g.F.Shelf.log c.args.shelf.now) (g.F.Shelf.log c.certificate.new.shelf) c.args.asked c.args.certificate_name.now c.args.problem.now c.in-Ok.text c.chosen.result
    c.in-Ok.ensures.works
    (subst (λ text. Final (Ok (Choosing (given c.args.problem.now.ready c.args.problem.now.starts (Certify c.args.asked text)))) c.chosen.result) c.as_slice.ensures c.chosen.ensures.answered)
