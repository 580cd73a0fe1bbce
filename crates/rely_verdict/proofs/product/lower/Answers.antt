use Rattle.std.proofs.Common.{◌≡◌, ◌<◌, ◌≤◌, length, slice_index_or, ap, arith}
use Rattle.std.proofs.lemmas.Option.{slice_get-get_or}
use Rattle.rely_num.specs.Rounded.{mul_lo, lo_pow}
use Rattle.rely_kernel.specs.Rates.{rates}
use Rattle.rely_verdict.proofs.Steps.{rest_more, rest_none}
use Rattle.rely_verdict.proofs.product.lower.Goals as goal

pub loop-label-preserved : goal.loop-label-preserved
loop-label-preserved c =
    let rs = rates c.args.h.now c.args.k.now c.args.t.now in
    let ns = c.args.conjunct.now.counts in
    let i = c.loop-label.label in
    let same : c.as_slice-count-items.result.now ≡ ns = c.as_slice-count-items.ensures in
    let within : i < length ns = omega (arith, ap length same) in
    let more = rest_more (λ a q. mul_lo a (lo_pow q.0 q.1)) rs ns c.loop-label.product i c.right_of-right.result (slice_index_or ns i 0) c.right_of-right.ensures (slice_get-get_or ns i 0 within) in
    cc

pub returns : goal.returns
returns c =
    let rs = rates c.args.h.now c.args.k.now c.args.t.now in
    let ns = c.args.conjunct.now.counts in
    let same : c.as_slice-count-items.result.now ≡ ns = c.as_slice-count-items.ensures in
    let past : length ns ≤ c.loop-label.label = omega (arith, ap length same) in
    let none = rest_none (λ a q. mul_lo a (lo_pow q.0 q.1)) rs ns c.loop-label.product c.loop-label.label past in
    cc
