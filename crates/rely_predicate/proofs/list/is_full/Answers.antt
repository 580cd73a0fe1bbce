use Rattle.std.proofs.Common.{◌≡◌, ◌≤◌, ◌<◌, ℕ, not, nat_eq, false, inl, inr, sym, ap, ◌∙◌, true≢false, arith}
use Rattle.std.proofs.lemmas.Bool.{cases_order}
use Rattle.rely_predicate.specs.Top.{covers}
use Rattle.rely_predicate.proofs.Placing.{kept_short}
use Rattle.rely_predicate.proofs.list.is_full.Goals as goal

fewer : (n : ℕ) → nat_eq n 256 ≡ false → n ≤ 256 → n < 256
fewer n h l = elim (cases_order n 256) [
  | inl e ↦ absurd (true≢false (sym (ap (λ m. nat_eq m 256) e) ∙ h))
  | inr (inl k) ↦ k
  | inr (inr k) ↦ absurd (omega (arith, k, l))
]

pub returns-then-conjs-ge-MOST-clause-room : goal.returns-then-conjs-ge-MOST-clause-room
returns-then-conjs-ge-MOST-clause-room c = λ room few.
    let k = kept_short (λ d. not (covers c.args.c.now d)) c.args.conjs.now in
    let e = c.kept.ensures in
    let f = fewer c.kept.result room (omega (arith, few, k, e)) in
    omega (arith, e, f)

pub returns-else-conjs-ge-MOST-clause-room : goal.returns-else-conjs-ge-MOST-clause-room
returns-else-conjs-ge-MOST-clause-room c = λ _ _.
    let k = kept_short (λ d. not (covers c.args.c.now d)) c.args.conjs.now in
    omega (arith, k, c.if-conjs-ge-MOST.false)
