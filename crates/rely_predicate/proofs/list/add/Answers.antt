use Rattle.std.specs.Prelude.{◌≡◌, ◌<◌, ◌≤◌, true, false, not, List, length, filter, Ok, Err}
use Rattle.std.proofs.Common.{refl, sym, ap, subst, ◌∙◌, arith}
use Rattle.std.specs.List.{list_any, insert, AllPass}
use Rattle.std.proofs.lemmas.List.Elements.{filter_passes}
use Rattle.std.proofs.lemmas.Result.{err_from_is_err_and}
use Rattle.rely_num.specs.declared.conj.Conj.{Conj}
use Rattle.rely_predicate.specs.Top.{covers, put, with_one}
use Rattle.rely_predicate.proofs.Placing.{with_one_stays, with_one_goes, with_one_length}
use Rattle.rely_predicate.proofs.Predicates.{is_wide, narrow}
use Rattle.rely_predicate.proofs.list.add.Goals as goal

pub returns-then-is_covered-clause-ok : goal.returns-then-is_covered-clause-ok
returns-then-is_covered-clause-ok c =
    let x = c.args.c in
    let xs = c.args.conjs.now.items in
    let covered : list_any (λ d. covers d x) xs ≡ true = ap (list_any (λ d. covers d x)) (sym c.deref.ensures.value) ∙ sym c.is_covered.ensures ∙ c.if-is_covered.true in
    sym (with_one_stays x xs covered)

pub returns-then-is_covered-clause-wide : goal.returns-then-is_covered-clause-wide
returns-then-is_covered-clause-wide c =
    let x = c.args.c in
    let xs = c.args.conjs.now.items in
    let covered : list_any (λ d. covers d x) xs ≡ true = ap (list_any (λ d. covers d x)) (sym c.deref.ensures.value) ∙ sym c.is_covered.ensures ∙ c.if-is_covered.true in
    let e : length (with_one x xs) ≡ length xs = ap length (with_one_stays x xs covered) in
    narrow (Ok tt) (length (with_one x xs)) refl (omega (arith, e, c.requires))

pub returns-then-is_full-clause-wide : goal.returns-then-is_full-clause-wide
returns-then-is_full-clause-wide c =
    let x = c.args.c in
    let xs = c.args.conjs.now.items in
    let alone : list_any (λ d. covers d x) xs ≡ false = ap (list_any (λ d. covers d x)) (sym c.deref.ensures.value) ∙ sym c.is_covered.ensures ∙ c.if-is_covered.false in
    let stay : length (filter (λ d. not (covers x d)) xs) ≡ length (filter (λ d. not (covers x d)) c.deref-2.result.now) = ap (λ ys. length (filter (λ d. not (covers x d)) ys)) (sym c.deref-2.ensures.value) in
    let e = with_one_length x xs alone in
    let many : 256 < length (with_one x xs) = omega (arith, e, stay, c.is_full.ensures.full c.if-is_full.true) in
    (λ _. many, λ _. refl)

pub returns-in_err-try_reserve-clause-wide : goal.returns-in_err-try_reserve-clause-wide
returns-in_err-try_reserve-clause-wide c =
    let x = c.args.c in
    let xs = c.args.conjs.now.items in
    let alone : list_any (λ d. covers d x) xs ≡ false = ap (list_any (λ d. covers d x)) (sym c.deref.ensures.value) ∙ sym c.is_covered.ensures ∙ c.if-is_covered.false in
    let stay : length (filter (λ d. not (covers x d)) xs) ≡ length (filter (λ d. not (covers x d)) c.deref-2.result.now) = ap (λ ys. length (filter (λ d. not (covers x d)) ys)) (sym c.deref-2.ensures.value) in
    let e = with_one_length x xs alone in
    let few : length (with_one x xs) ≤ 256 = omega (arith, e, stay, c.is_full.ensures.room c.if-is_full.false (subst (λ (ys : List Conj). length ys ≤ 256) (sym c.deref-2.ensures.value) c.requires)) in
    let p = err_from_is_err_and c.from_residual.result c.from_residual.ensures.1 in
    narrow c.from_residual.result (length (with_one x xs)) (ap is_wide p.1 ∙ ap (λ f. is_wide (Err f)) p.2) few

pub place-at-requires : goal.place-at-requires
place-at-requires c =
    let x = c.args.c in
    let xs = c.args.conjs.now.items in
    let left : c.drop_covered.new.conjs.items ≡ filter (λ d. not (covers x d)) xs = c.drop_covered.ensures.left ∙ ap (filter (λ d. not (covers x d))) c.try_reserve.ensures.items in
    subst (λ (ys : List Conj). AllPass (λ d. not (covers x d)) ys) (sym (c.deref-3.ensures.value ∙ left)) (filter_passes (λ d. not (covers x d)) xs)

pub returns-in_err-insert-clause-refused : goal.returns-in_err-insert-clause-refused
returns-in_err-insert-clause-refused c =
    absurd (omega (arith, c.in_err-insert.ensures.full, c.drop_covered.ensures.room, c.drop_covered.ensures.bound, c.in_ok-try_reserve.ensures.ok))

pub returns-in_err-insert-clause-wide : goal.returns-in_err-insert-clause-wide
returns-in_err-insert-clause-wide c =
    absurd (omega (arith, c.in_err-insert.ensures.full, c.drop_covered.ensures.room, c.drop_covered.ensures.bound, c.in_ok-try_reserve.ensures.ok))

pub returns-clause-ok : goal.returns-clause-ok
returns-clause-ok c =
    let x = c.args.c in
    let xs = c.args.conjs.now.items in
    let alone : list_any (λ d. covers d x) xs ≡ false = ap (list_any (λ d. covers d x)) (sym c.deref.ensures.value) ∙ sym c.is_covered.ensures ∙ c.if-is_covered.false in
    let left : c.drop_covered.new.conjs.items ≡ filter (λ d. not (covers x d)) xs = c.drop_covered.ensures.left ∙ ap (filter (λ d. not (covers x d))) c.try_reserve.ensures.items in
    c.in_ok-insert.ensures.items ∙ ap (λ (ys : List Conj). insert ys c.place-at.result x) (sym c.deref-3.ensures.value) ∙ c.place-at.ensures.put
    ∙ ap (put x) (c.deref-3.ensures.value ∙ left) ∙ sym (with_one_goes x xs alone)

pub returns-clause-wide : goal.returns-clause-wide
returns-clause-wide c =
    let x = c.args.c in
    let xs = c.args.conjs.now.items in
    let alone : list_any (λ d. covers d x) xs ≡ false = ap (list_any (λ d. covers d x)) (sym c.deref.ensures.value) ∙ sym c.is_covered.ensures ∙ c.if-is_covered.false in
    let stay : length (filter (λ d. not (covers x d)) xs) ≡ length (filter (λ d. not (covers x d)) c.deref-2.result.now) = ap (λ ys. length (filter (λ d. not (covers x d)) ys)) (sym c.deref-2.ensures.value) in
    let e = with_one_length x xs alone in
    narrow (Ok tt) (length (with_one x xs)) refl (omega (arith, e, stay, c.is_full.ensures.room c.if-is_full.false (subst (λ (ys : List Conj). length ys ≤ 256) (sym c.deref-2.ensures.value) c.requires)))
