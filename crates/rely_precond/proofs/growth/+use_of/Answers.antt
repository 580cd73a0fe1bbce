use Rattle.std.proofs.Common.{◌≡◌, rules, refl, sym, ap, subst, ◌∙◌}
use Rattle.std.specs.Option.{IfSome}
use Rattle.rely_num.specs.declared.conj.Conj.{Conj}
use Rattle.rely_kernel.specs.declared.kernel.Ex.{the_lemmas}
use Rattle.rely_kernel.specs.declared.kernel.Ex.TheVariants as ex
use Rattle.rely_kernel.specs.Paths.{use_of}
use Rattle.rely_kernel.specs.Text.{expr_of}
use Rattle.rely_precond.specs.Answers.{IsOver}
use Rattle.rely_precond.proofs.Bumps.{range-Elem, range-Bin, elem_grown, elem_over, bin_grown, bin_over, bin_over_early}
use Rattle.rely_precond.proofs.growth.+use_of.Goals as goal

pub read-requires-in-Elem-clause-in_range : goal.read-requires-in-Elem-clause-in_range
read-requires-in-Elem-clause-in_range t c = (range-Elem c.args.k.now c.args.e.now c.in-Elem.a c.in-Elem.i c.in-Elem.is c.requires.in_range).0

pub returns-in_err-c-in-Elem-clause-full : goal.returns-in_err-c-in-Elem-clause-full
returns-in_err-c-in-Elem-clause-full t c = λ _. elem_over c.args.k.now c.args.e.now c.in-Elem.a c.in-Elem.i c.args.c c.in-Elem.is (c.in_err-c-in-Elem.ensures.full refl)

pub use_of-requires : goal.use_of-requires
use_of-requires t c = (
  search (rules, the_lemmas),
  (c.requires.valid, ((range-Elem c.args.k.now c.args.e.now c.in-Elem.a c.get.result.now (c.in-Elem.is ∙ ap (λ i. ex.Elem c.in-Elem.a i) (sym c.get.ensures)) c.requires.in_range).1, c.in_ok-c-in-Elem.ensures.few)),
)

pub returns-in_err-c-in-Bin-clause-full : goal.returns-in_err-c-in-Bin-clause-full
returns-in_err-c-in-Bin-clause-full t c = λ _. bin_over_early c.args.k.now c.args.e.now c.in-Bin.site c.in-Bin.x c.in-Bin.y c.args.c c.in-Bin.is (c.in_err-c-in-Bin.ensures.full refl)

pub use_of-requires-in-Bin : goal.use_of-requires-in-Bin
use_of-requires-in-Bin t c = (
  search (rules, the_lemmas),
  (c.requires.valid, ((range-Bin c.args.k.now c.args.e.now c.in-Bin.site c.in-Bin.x c.get-in-Bin.result.now (c.in-Bin.is ∙ ap (λ y. ex.Bin c.in-Bin.site c.in-Bin.x y) (sym c.get-in-Bin.ensures)) c.requires.in_range).1, c.in_ok-c-in-Bin.ensures.few)),
)

pub returns-in_err-c-in-Bin-2-clause-full : goal.returns-in_err-c-in-Bin-2-clause-full
returns-in_err-c-in-Bin-2-clause-full t c =
    λ _. bin_over c.args.k.now c.args.e.now c.in-Bin.site c.in-Bin.x c.in-Bin.y c.args.c c.in-Bin.is
    (subst IsOver (ap (λ y. use_of c.args.k.now (expr_of y) c.in_ok-c-in-Bin.c) c.get-in-Bin.ensures ∙ ap (use_of c.args.k.now (expr_of c.in-Bin.y)) c.in_ok-c-in-Bin.ensures.counted)
    (c.in_err-c-in-Bin-2.ensures.full refl))

pub use_of-requires-in-Bin-2 : goal.use_of-requires-in-Bin-2
use_of-requires-in-Bin-2 t c = (
  search (rules, the_lemmas),
  (c.requires.valid, ((range-Bin c.args.k.now c.args.e.now c.in-Bin.site c.get-in-Bin-2.result.now c.in-Bin.y (c.in-Bin.is ∙ ap (λ x. ex.Bin c.in-Bin.site x c.in-Bin.y) (sym c.get-in-Bin-2.ensures)) c.requires.in_range).0, c.in_ok-c-in-Bin-2.ensures.few)),
)

pub returns-in_ok-c-in-Elem-clause-counted : goal.returns-in_ok-c-in-Elem-clause-counted
returns-in_ok-c-in-Elem-clause-counted t c =
    subst (λ (x : Conj). IfSome c.use_of.result (λ d. d ≡ x))
    (elem_grown c.args.k.now c.args.e.now c.in-Elem.a c.in-Elem.i c.get.result.now c.args.c c.in_ok-c-in-Elem.c c.in-Elem.is c.get.ensures c.in_ok-c-in-Elem.ensures.counted) c.use_of.ensures.counted

pub returns-in_ok-c-in-Elem-clause-full : goal.returns-in_ok-c-in-Elem-clause-full
returns-in_ok-c-in-Elem-clause-full t c =
    λ none. subst IsOver (elem_grown c.args.k.now c.args.e.now c.in-Elem.a c.in-Elem.i c.get.result.now c.args.c c.in_ok-c-in-Elem.c c.in-Elem.is c.get.ensures c.in_ok-c-in-Elem.ensures.counted)
    (c.use_of.ensures.full none)

pub returns-in_ok-c-in-Bin-2-clause-counted : goal.returns-in_ok-c-in-Bin-2-clause-counted
returns-in_ok-c-in-Bin-2-clause-counted t c =
    subst (λ (x : Conj). IfSome c.use_of-in-Bin-2.result (λ d. d ≡ x))
    (bin_grown c.args.k.now c.args.e.now c.in-Bin.site c.in-Bin.x c.in-Bin.y c.get-in-Bin-2.result.now c.get-in-Bin.result.now c.args.c c.in_ok-c-in-Bin.c c.in_ok-c-in-Bin-2.c c.in-Bin.is
    c.get-in-Bin.ensures c.get-in-Bin-2.ensures c.in_ok-c-in-Bin.ensures.counted c.in_ok-c-in-Bin-2.ensures.counted) c.use_of-in-Bin-2.ensures.counted

pub returns-in_ok-c-in-Bin-2-clause-full : goal.returns-in_ok-c-in-Bin-2-clause-full
returns-in_ok-c-in-Bin-2-clause-full t c =
    λ none. subst IsOver
    (bin_grown c.args.k.now c.args.e.now c.in-Bin.site c.in-Bin.x c.in-Bin.y c.get-in-Bin-2.result.now c.get-in-Bin.result.now c.args.c c.in_ok-c-in-Bin.c c.in_ok-c-in-Bin-2.c c.in-Bin.is
    c.get-in-Bin.ensures c.get-in-Bin-2.ensures c.in_ok-c-in-Bin.ensures.counted c.in_ok-c-in-Bin-2.ensures.counted) (c.use_of-in-Bin-2.ensures.full none)
