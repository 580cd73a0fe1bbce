use Rattle.std.proofs.Common.{◌≡◌, List, [], ◌∷◌, get_or, refl, sym, ap, subst, ◌∙◌}
use Rattle.rely_kernel.specs.declared.kernel.CallSite.{CallSite}
use Rattle.rely_kernel.specs.declared.label.Label.TheVariants as label
use Rattle.rely_precond.specs.Answers.{IsOver}
use Rattle.rely_kernel.specs.Paths.{count, forget, use_of, uses_of, paths}
use Rattle.rely_kernel.specs.Text.{expr_of, exprs_of, stmt_of}
use Rattle.rely_precond.proofs.OnePath.{set_full, elem_full, elem_late, call_full, call_late, call_path, path_found, path_over}
use Rattle.rely_precond.proofs.growth.through.Goals as goal

pub returns-in_err-c-in-Set-clause-full : goal.returns-in_err-c-in-Set-clause-full
returns-in_err-c-in-Set-clause-full c = λ _. set_full c.args.k.now c.args.what.now c.args.c c.in-Set.v c.in-Set.e c.in-Set.is (c.in_err-c-in-Set.ensures.full refl)

pub returns-in_err-c-in-SetElem-clause-full : goal.returns-in_err-c-in-SetElem-clause-full
returns-in_err-c-in-SetElem-clause-full c = λ _. elem_full c.args.k.now c.args.what.now c.args.c c.in-SetElem.a c.in-SetElem.i c.in-SetElem.e c.in-SetElem.is (c.in_err-c-in-SetElem.ensures.full refl)

pub returns-in_err-c-in-SetElem-2-clause-full : goal.returns-in_err-c-in-SetElem-2-clause-full
returns-in_err-c-in-SetElem-2-clause-full c =
    let k = c.args.k.now in
    λ _. elem_late k c.args.what.now c.args.c c.in-SetElem.a c.in-SetElem.i c.in-SetElem.e c.in-SetElem.is
    (subst IsOver (ap (use_of k (expr_of c.in-SetElem.e)) c.in_ok-c-in-SetElem.ensures.counted) (c.in_err-c-in-SetElem-2.ensures.full refl))

pub returns-in_err-c-in-Call-clause-full : goal.returns-in_err-c-in-Call-clause-full
returns-in_err-c-in-Call-clause-full c = λ _. call_full c.args.k.now c.args.what.now c.args.c c.in-Call.v c.in-Call.place c.in-Call.es c.in-Call.is (c.in_err-c-in-Call.ensures.full refl)

pub returns-in_err-c-in-Call-2-clause-full : goal.returns-in_err-c-in-Call-2-clause-full
returns-in_err-c-in-Call-2-clause-full c =
    let k = c.args.k.now in
    λ _. call_late k c.args.what.now c.args.c c.in-Call.v c.in-Call.place c.in-Call.es c.in-Call.is
    (subst IsOver (ap (λ d. count k (label.Call c.in-Call.place) d) c.in_ok-c-in-Call.ensures.counted) (c.in_err-c-in-Call-2.ensures.full refl))

pub returns-in_ok-c-in-Call-2-clause-path : goal.returns-in_ok-c-in-Call-2-clause-path
returns-in_ok-c-in-Call-2-clause-path c =
    let k = c.args.k.now in
    let site : CallSite = get_or c.as_slice.result.now c.in-Call.place c.index-as_slice-place.result in
    let at : site ≡ get_or k.calls c.in-Call.place site =
    ap (λ (x : CallSite). get_or c.as_slice.result.now c.in-Call.place x) c.index-as_slice-place.is ∙ ap (λ (xs : List CallSite). get_or xs c.in-Call.place site) c.as_slice.ensures in
    let grown : c.in_ok-c-in-Call-2.c ≡ count k (label.Call c.in-Call.place) (count k (label.Write c.in-Call.v) (forget c.in-Call.v c.args.c)) =
    c.in_ok-c-in-Call-2.ensures.counted ∙ ap (λ d. count k (label.Call c.in-Call.place) d) c.in_ok-c-in-Call.ensures.counted in
    path_found c.uses_of.result (uses_of k site.needs.bits 0 (exprs_of c.as_slice-in-Call.result.now) c.in_ok-c-in-Call-2.c) (paths k (stmt_of c.args.what.now) c.args.c)
    (call_path k c.args.what.now c.args.c c.in-Call.v c.in-Call.place c.in-Call.es site c.in_ok-c-in-Call-2.c c.in-Call.is c.requires.in_range at grown
    ∙ ap (λ es. uses_of k site.needs.bits 0 (exprs_of es) c.in_ok-c-in-Call-2.c ∷ []) (sym c.as_slice-in-Call.ensures)) c.uses_of.ensures.counted

pub returns-in_ok-c-in-Call-2-clause-full : goal.returns-in_ok-c-in-Call-2-clause-full
returns-in_ok-c-in-Call-2-clause-full c =
    let k = c.args.k.now in
    let site : CallSite = get_or c.as_slice.result.now c.in-Call.place c.index-as_slice-place.result in
    let at : site ≡ get_or k.calls c.in-Call.place site =
    ap (λ (x : CallSite). get_or c.as_slice.result.now c.in-Call.place x) c.index-as_slice-place.is ∙ ap (λ (xs : List CallSite). get_or xs c.in-Call.place site) c.as_slice.ensures in
    let grown : c.in_ok-c-in-Call-2.c ≡ count k (label.Call c.in-Call.place) (count k (label.Write c.in-Call.v) (forget c.in-Call.v c.args.c)) =
    c.in_ok-c-in-Call-2.ensures.counted ∙ ap (λ d. count k (label.Call c.in-Call.place) d) c.in_ok-c-in-Call.ensures.counted in
    λ none. path_over (uses_of k site.needs.bits 0 (exprs_of c.as_slice-in-Call.result.now) c.in_ok-c-in-Call-2.c) (paths k (stmt_of c.args.what.now) c.args.c)
    (call_path k c.args.what.now c.args.c c.in-Call.v c.in-Call.place c.in-Call.es site c.in_ok-c-in-Call-2.c c.in-Call.is c.requires.in_range at grown
    ∙ ap (λ es. uses_of k site.needs.bits 0 (exprs_of es) c.in_ok-c-in-Call-2.c ∷ []) (sym c.as_slice-in-Call.ensures)) (c.uses_of.ensures.full none)
