use Rattle.chisel_source.proofs.Parts.{own_valid}
use Rattle.chisel_verify.proofs.LineByLine.{prints_behind, prints_one}
use Rattle.chisel_verify.proofs.answer.printed.Goals as goal

pub own_lines-requires-clause-valid : goal.own_lines-requires-clause-valid
own_lines-requires-clause-valid c = own_valid c.args.ready.now c.requires.ready

pub returns-in_ok-behind-in-AllAccepted-clause-ok : goal.returns-in_ok-behind-in-AllAccepted-clause-ok
returns-in_ok-behind-in-AllAccepted-clause-ok c =
    prints_behind c.args.ready.now c.args.wanted c.as_slice.result.now c.as_slice-2.result.now c.in-Ok.called c.as_slice.ensures c.as_slice-2.ensures c.in-Ok.ensures.ok
    c.in-AllAccepted.before c.in-Ok-own_lines.own c.in_ok-behind-in-AllAccepted.field-0 c.in-AllAccepted.is c.in-Ok-own_lines.ensures.ok c.in_ok-behind-in-AllAccepted.ensures

pub returns-in_ok-one_line-in-OneFails-clause-ok : goal.returns-in_ok-one_line-in-OneFails-clause-ok
returns-in_ok-one_line-in-OneFails-clause-ok c =
    prints_one c.args.ready.now c.args.wanted c.as_slice.result.now c.as_slice-2.result.now c.in-Ok.called c.as_slice.ensures c.as_slice-2.ensures c.in-Ok.ensures.ok
    c.in-OneFails.line c.in-OneFails.verdict c.in_ok-one_line-in-OneFails.field-0 c.in-OneFails.is c.in_ok-one_line-in-OneFails.ensures
