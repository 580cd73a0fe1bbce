use Rattle.std.proofs.Common.{◌≡◌, ◌/◌, ◌%◌, ◌∙◌, ap, arith}
use Rattle.rely_num.specs.AttoTexts.{atto_of}
use Rattle.rely_num.specs.Bounds.{S}
use Rattle.rely_num.proofs.Digits.{written, atto_of_text}
use Rattle.rely_num.proofs.atto.Atto.print.Goals as goal

pub returns-clause-text : goal.returns-clause-text
returns-clause-text c =
    let whole : c.get-attos.result / c.get.result ≡ c.args.self / S = cc in
    let rest : c.get-attos.result % c.get-2.result ≡ c.args.self % S = cc in
    written c.args.self (c.get-attos.result / c.get.result) (c.get-attos.result % c.get-2.result) c.args.out.now c.write_digits.new.out c.told-out whole rest c.write_digits.ensures

pub returns-clause-read : goal.returns-clause-read
returns-clause-read c = ap atto_of (returns-clause-text c) ∙ atto_of_text c.args.self (omega (arith, c.get-attos.ensures.value, c.get-attos.ensures.bound))
