use Rattle.std.proofs.Common.{Some, sym, ap, ◌∙◌, arith}
use Rattle.std.proofs.lemmas.Option.{slice_get-get_or}
use Rattle.rely_kernel.specs.Rates.{rates}
use Rattle.rely_kernel.proofs.Tally.{rates_at, rates_long}
use Rattle.rely_kernel.proofs.rate.right_of.Goals as goal

pub returns : goal.returns
returns c =
    let k = c.args.k.now in
    let h = c.args.h.now in
    let t = c.args.t.now in
    let l = c.label_at.result in
    slice_get-get_or (rates h k t) c.args.label 0 (omega (arith, rates_long h k t, c.requires.in_range))
    ∙ ap (λ n. Some n) (rw (sym c.label_at.ensures.is) (rates_at h k t l c.label_at.ensures.of_kernel) ∙ sym c.rate_of.ensures)
