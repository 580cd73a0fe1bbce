use Rattle.std.proofs.Common.{◌≡◌, ◌<◌, true, false, ◌++◌, length, get_or, take, sym, ap, ◌∙◌, arith}
use Rattle.std.proofs.lemmas.Bool.{not-true}
use Rattle.rely_num.specs.declared.conj.Conj.{Conj}
use Rattle.rely_predicate.specs.Top.{covers, before}
use Rattle.rely_predicate.proofs.Placing.{put_at, put_past}
use Rattle.rely_predicate.proofs.list.place.Goals as goal

pub returns-then-not-is_before-clause-within : goal.returns-then-not-is_before-clause-within
returns-then-not-is_before-clause-within c = let e = c.loop-d.invariant.at in let l = c.loop-d-test.true in omega arith

pub returns-then-not-is_before-clause-put : goal.returns-then-not-is_before-clause-put
returns-then-not-is_before-clause-put c =
    let x = c.args.c.now in
    let xs = c.args.conjs.now in
    let i = c.loop-d.d-index in
    let d = c.d-item.result in
    let l : i < length xs = omega (arith, c.loop-d-test.true) in
    let late : c.is_before.result ≡ false = grind arith in
    let b : before (get_or xs i d) x ≡ false = ap (λ (y : Conj). before y x) (sym c.d-item.is) ∙ sym c.is_before.ensures ∙ late in
    let k : covers x (get_or xs i d) ≡ false = not-true (covers x (get_or xs i d)) (c.requires i d l) in
    rw c.loop-d.invariant.at (ap (λ ys. take i xs ++ ys) (sym (put_at x xs i d l b k)) ∙ c.loop-d.invariant.put)

pub loop-d-preserved : goal.loop-d-preserved
loop-d-preserved c =
    let x = c.args.c.now in
    let xs = c.args.conjs.now in
    let i = c.loop-d.d-index in
    let d = c.d-item.result in
    let l : i < length xs = omega (arith, c.loop-d-test.true) in
    let b : before (get_or xs i d) x ≡ true = ap (λ (y : Conj). before y x) (sym c.d-item.is) ∙ sym c.is_before.ensures ∙ c.if-not-is_before.false in
    let e = c.loop-d.invariant.at in
    record { at = omega (arith, e); put = put_past x xs i d l b ∙ c.loop-d.invariant.put }
