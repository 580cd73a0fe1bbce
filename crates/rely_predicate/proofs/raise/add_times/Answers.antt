use Rattle.std.proofs.Common.{◌≡◌, ◌<◌, ◌+◌, ◌*◌, ◌^◌, length, get_or, set, sym, ap, ◌∙◌, arith}
use Rattle.rely_predicate.proofs.Raises.{plus_nil, plus_step, plus_beyond, sum_below}
use Rattle.rely_predicate.proofs.raise.add_times.Goals as goal

pub loop-i-init : goal.loop-i-init
loop-i-init c = sym (plus_nil c.args.counts.now)

pub overflow_mul-counts : goal.overflow_mul-counts
overflow_mul-counts c =
    let ns = c.args.counts.now in
    let by = c.args.by.now in
    let i = c.loop-i.i in
    let k : i < length ns = omega (arith, c.loop-i-test.true) in
    let h : i < length by = omega (arith, k, c.requires.counted) in
    let b : c.args.n * get_or by i 0 + get_or ns i 0 < 2 ^ 36 = sum_below c.args.n by ns i h k c.requires.below in
    omega (arith, b)

pub overflow_add-counts : goal.overflow_add-counts
overflow_add-counts c =
    let ns = c.args.counts.now in
    let by = c.args.by.now in
    let i = c.loop-i.i in
    let k : i < length ns = omega (arith, c.loop-i-test.true) in
    let h : i < length by = omega (arith, k, c.requires.counted) in
    let b : c.args.n * get_or by i 0 + get_or ns i 0 < 2 ^ 36 = sum_below c.args.n by ns i h k c.requires.below in
    let e : get_or c.loop-i.counts i 0 ≡ get_or ns i 0 = ap (λ ys. get_or ys i 0) c.loop-i.invariant ∙ plus_beyond c.args.n by ns i 0 h k in
    omega (arith, b, e)

pub loop-i-preserved : goal.loop-i-preserved
loop-i-preserved c =
    let ns = c.args.counts.now in
    let by = c.args.by.now in
    let i = c.loop-i.i in
    let k : i < length ns = omega (arith, c.loop-i-test.true) in
    let h : i < length by = omega (arith, k, c.requires.counted) in
    ap (λ ys. set ys i (get_or ys i 0 + c.args.n * get_or by i 0)) c.loop-i.invariant ∙ sym (plus_step c.args.n by ns i h k)
