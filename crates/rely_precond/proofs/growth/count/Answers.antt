use Rattle.std.proofs.Common.{◌≡◌, ◌<◌, ◌≤◌, length, get_or, refl, sym, ap, subst, ◌∙◌, arith}
use Rattle.rely_kernel.specs.Labels.{number}
use Rattle.rely_kernel.specs.Paths.{bump}
use Rattle.rely_precond.specs.Answers.{AreFew}
use Rattle.rely_precond.proofs.Bumps.{bump_from_vec, bump_stays, bump_full, get_any}
use Rattle.rely_precond.proofs.Fewer.{bump_few}
use Rattle.rely_precond.proofs.growth.count.Goals.{then-i-len+else-index-ge-MOST_COUNT, else-i-len}
use Rattle.rely_precond.proofs.growth.count.Goals as goal

pub returns-then-index-ge-MOST_COUNT-clause-full : goal.returns-then-index-ge-MOST_COUNT-clause-full
returns-then-index-ge-MOST_COUNT-clause-full c =
    let v = c.into_vec-counts.result in
    let o = v.ok in
    let within : c.number-i.result < length v.items = omega (arith, c.if-i-len.true, c.len.ensures, o) in
    λ _. record { some = bump_full (number c.args.k.now c.args.label) c.number-i.result c.args.c.counts v.items c.index.result.now c.number-i.ensures c.into_vec-counts.ensures within c.index.ensures c.if-index-ge-MOST_COUNT.true }

pub returns-clause-counted : goal.returns-clause-counted
returns-clause-counted c =
    let v = c.into_vec-counts.result in
    let o = v.ok in
    let n = c.number-i.ensures in
    let e : c.from_vec.result ≡ bump (number c.args.k.now c.args.label) c.args.c.counts = elim c.if-i-len.branch [
      | then-i-len+else-index-ge-MOST_COUNT w ↦
          let within : c.number-i.result < length v.items = omega (arith, w.if-i-len.true, c.len.ensures, o) in
          c.from_vec.ensures ∙ ap (λ u. u.items) w.counts-is ∙ bump_from_vec (number c.args.k.now c.args.label) c.number-i.result c.args.c.counts v.items w.index_mut.result.now n c.into_vec-counts.ensures within w.index_mut.ensures.value
      | else-i-len w ↦
          let past : length v.items ≤ c.number-i.result = omega (arith, w.if-i-len.false, c.len.ensures, o) in
          c.from_vec.ensures ∙ ap (λ u. u.items) w.counts-is ∙ bump_stays (number c.args.k.now c.args.label) c.number-i.result c.args.c.counts v.items n c.into_vec-counts.ensures past
    ] in
    λ i. record { counts = e i; vars = c.args.c.vars }

pub returns-clause-few : goal.returns-clause-few
returns-clause-few c =
    let v = c.into_vec-counts.result in
    let o = v.ok in
    let n = c.number-i.ensures in
    let few : AreFew v.items = subst AreFew (sym c.into_vec-counts.ensures) c.requires.few in
    subst AreFew (sym c.from_vec.ensures) (elim c.if-i-len.branch [
      | then-i-len+else-index-ge-MOST_COUNT w ↦
          let within : c.number-i.result < length v.items = omega (arith, w.if-i-len.true, c.len.ensures, o) in
          let m = w.index.result.now in
          let is : m ≡ get_or v.items c.number-i.result 0 = w.index.ensures ∙ get_any v.items c.number-i.result m within in
          let grown = bump_from_vec c.number-i.result c.number-i.result v.items v.items w.index_mut.result.now refl refl within w.index_mut.ensures.value in
          subst AreFew (sym (ap (λ u. u.items) w.counts-is ∙ grown)) (bump_few c.number-i.result v.items few (λ _. omega (arith, is, w.if-index-ge-MOST_COUNT.false)))
      | else-i-len w ↦ subst AreFew (sym (ap (λ u. u.items) w.counts-is)) few
    ])
