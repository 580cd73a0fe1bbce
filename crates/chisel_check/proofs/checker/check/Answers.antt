use Rattle.chisel_cert.specs.Node.{certificate_of}
use Rattle.chisel_cert.proofs.Sound.{valid_least}
use Rattle.chisel_check.proofs.Failing.{fails_invalid}
use Rattle.chisel_check.proofs.checker.check.Goals as goal

pub returns-in-Ok-clause-least : goal.returns-in-Ok-clause-least
returns-in-Ok-clause-least c = λ _. valid_least c.args.t.now (certificate_of c.args.c.now) c.requires.table c.in-Ok.ensures.ok

pub returns-in-Err-clause-yes : goal.returns-in-Err-clause-yes
returns-in-Err-clause-yes c =
    (λ e. absurd (cc), λ v. absurd (fails_invalid c.args.t.now (certificate_of c.args.c.now) c.in-Err.field-0.line c.in-Err.field-0.why c.requires.within c.in-Err.ensures.err v))
