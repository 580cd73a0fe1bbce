use Rattle.std.proofs.Common.{◌∷◌, ◌++◌, [], ◌∙◌, arith}
use Rattle.chisel_claims.proofs.Claiming.{given_fits}
use Rattle.chisel_verify.proofs.LineByLine.{next_claim, own_counted, own_line, own_more, own_stops, own_verdict}
use Rattle.chisel_verify.proofs.own.own_lines.Goals as goal

pub judgement-requires-clause-fits : goal.judgement-requires-clause-fits
judgement-requires-clause-fits c = given_fits _ _ _ c.in_ok-setting.ensures c.requires.on c.requires.closed

pub returns-in-Err-clause-err : goal.returns-in-Err-clause-err
returns-in-Err-clause-err c =
    own_stops c.args.h.now c.args.l.now c.as_slice-claim-items.result.now c.loop-claim.claim-index _ c.claim-item.result c.in_ok-setting.setting c.loop-claim.invariant.so_far c.in_ok-setting.ensures
    c.as_slice-claim-items.ensures c.loop-claim-test.true c.claim-item.is c.loop-claim.invariant.same c.in-Err.fault c.in-Err.ensures.err

pub loop-claim-preserved : goal.loop-claim-preserved
loop-claim-preserved c =
    record {
      so_far = c.loop-claim.invariant.so_far ++ next_claim c.args.l.now c.loop-claim.invariant.so_far c.claim-item.result c.in-Ok.verdict ∷ [];
      counted = own_counted c.args.h.now c.args.l.now c.as_slice-claim-items.result.now c.loop-claim.claim-index _ c.claim-item.result c.in_ok-setting.setting c.loop-claim.invariant.so_far c.in_ok-setting.ensures
          c.as_slice-claim-items.ensures c.loop-claim-test.true c.claim-item.is c.loop-claim.invariant.same c.in-Ok.verdict c.loop-claim.invariant.counted;
      same = own_more c.args.h.now c.args.l.now c.as_slice-claim-items.result.now c.loop-claim.claim-index _ c.claim-item.result c.in_ok-setting.setting c.loop-claim.invariant.so_far c.in_ok-setting.ensures
          c.as_slice-claim-items.ensures c.loop-claim-test.true c.claim-item.is c.loop-claim.invariant.same c.in-Ok.verdict c.in-Ok.ensures.ok;
      text = c.in_ok-extend_from_slice.ensures.items
          ∙ own_line c.args.h.now c.args.l.now c.as_slice-claim-items.result.now c.loop-claim.claim-index _ c.claim-item.result c.in_ok-setting.setting c.loop-claim.invariant.so_far c.in_ok-setting.ensures
          c.as_slice-claim-items.ensures c.loop-claim-test.true c.claim-item.is c.loop-claim.invariant.same c.in-Ok.verdict c.loop-claim.text.items c.as_slice.result.now c.loop-claim.verdicts.items c.len.result
          c.loop-claim.invariant.text c.loop-claim.invariant.verdicts (let o = c.loop-claim.verdicts.ok in omega (arith, o, c.len.ensures)) (c.as_slice.ensures.value ∙ c.in_ok-line.ensures);
      verdicts = c.in_ok-push.ensures.items
          ∙ own_verdict c.args.h.now c.args.l.now c.as_slice-claim-items.result.now c.loop-claim.claim-index _ c.claim-item.result c.in_ok-setting.setting c.loop-claim.invariant.so_far c.in_ok-setting.ensures
          c.as_slice-claim-items.ensures c.loop-claim-test.true c.claim-item.is c.loop-claim.invariant.same c.in-Ok.verdict c.loop-claim.verdicts.items c.loop-claim.invariant.verdicts;
    }
