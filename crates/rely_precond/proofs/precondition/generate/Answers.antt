use Rattle.std.proofs.Common.{◌≡◌, ℕ, zero, suc, ◌<◌, ◌^◌, List, [], ◌∷◌, map, replicate, refl, sym, ap, subst, ◌∙◌}
use Rattle.std.proofs.lemmas.Result.{err_from_is_err_and}
use Rattle.rely_kernel.specs.declared.kernel.St.{St}
use Rattle.rely_kernel.specs.Labels.{labels_of}
use Rattle.rely_kernel.specs.Paths.{claimed, at_start, all_writes}
use Rattle.rely_kernel.specs.Text.{block_of}
use Rattle.rely_loops.specs.Grown.{too_many}
use Rattle.rely_predicate.specs.Top.{top}
use Rattle.rely_precond.specs.Answers.{AreFew, IsStop, IsPredicateOf}
use Rattle.rely_precond.specs.InRange.{BlockInRange}
use Rattle.rely_precond.specs.Places.{lines_of}
use Rattle.rely_precond.specs.Walk.{Walked, Stands, walk_all, walk_claim}
use Rattle.rely_precond.proofs.Claims.{body_range, start_is, claim_stops, found, ok_both}
use Rattle.rely_precond.proofs.Fewer.{few_one}
use Rattle.rely_precond.proofs.Parts.{Counted, counted_start}
use Rattle.rely_precond.proofs.Sets.{all_writes_fit}
use Rattle.rely_precond.proofs.Stops.{stop_err}
use Rattle.rely_precond.proofs.precondition.generate.Goals as goal

zeros_few : (n : ℕ) → AreFew (replicate n 0)
zeros_few zero = refl
zeros_few (suc n) = zeros_few n

pub invariant_of-listed : goal.invariant_of-listed
invariant_of-listed c =
    let k = c.args.k.now in
    let target = c.args.c.now.target in
    let start : c.in_ok-of_few.field-0.conjs ≡ claimed k target ∷ [] = start_is k target c.in_ok-claimed.claimed.items c.in_ok-of_few.field-0.conjs c.in_ok-claimed.ensures.ok c.in_ok-of_few.ensures.ok in
    record {
      few = ap too_many start ∙ few_one (claimed k target) (zeros_few (labels_of k));
    }

pub sets_of-requires : goal.sets_of-requires
sets_of-requires c =
    let k = c.args.k.now in
    subst (λ (ss : List St). all_writes (block_of ss) < 2 ^ 64) (sym c.as_slice.ensures) (all_writes_fit k c.requires.valid.few_vars (block_of k.body) (body_range k (block_of k.body) c.requires.valid.body))

pub walk_all-requires-clause-in_range : goal.walk_all-requires-clause-in_range
walk_all-requires-clause-in_range c =
    subst (λ (ss : List St). BlockInRange c.args.k.now (block_of ss)) (sym c.as_slice-2.ensures) (body_range c.args.k.now (block_of c.args.k.now.body) c.requires.valid.body)

pub returns-in_err-walked-clause-refused : goal.returns-in_err-walked-clause-refused
returns-in_err-walked-clause-refused c =
    let k = c.args.k.now in
    let target = c.args.c.now.target in
    let f = c.in_err-walked.field-0.0 in
    let start : c.in_ok-of_few.field-0.conjs ≡ claimed k target ∷ [] = start_is k target c.in_ok-claimed.claimed.items c.in_ok-of_few.field-0.conjs c.in_ok-claimed.ensures.ok c.in_ok-of_few.ensures.ok in
    let p = err_from_is_err_and c.from_residual-in_err-walked.result c.from_residual-in_err-walked.ensures.1 in
    stop_err c.from_residual-in_err-walked.result p.0 f (walk_claim k target) p.1 p.2
    (claim_stops k target f (subst (λ (w : Walked). IsStop w f) (ap (λ ss. walk_all k (lines_of ss) c.in_ok-of_few.field-0.conjs 0) c.as_slice-2.ensures ∙ ap (λ ps. walk_all k (lines_of k.body) ps 0) start)
    c.in_err-walked.ensures.refused))

pub of_few-requires-2-clause-counted : goal.of_few-requires-2-clause-counted
of_few-requires-2-clause-counted c =
    let k = c.args.k.now in
    let labels : c.in_ok-walked.walked.list.labels ≡ c.labels-2.result = c.in_ok-walked.ensures.labels ∙ c.in_ok-of_few.ensures.labels ∙ c.labels.ensures ∙ sym c.labels-2.ensures in
    subst (λ n. Counted n c.in_ok-list.list.items) labels
    (counted_start k c.in_ok-walked.walked.list.labels c.conjs.result.now c.in_ok-list.list.items c.in_ok-list.ensures.ok
    (subst (Counted c.in_ok-walked.walked.list.labels) (sym c.conjs.ensures.value) c.conjs.ensures.valid.counted))

pub returns-clause-ok : goal.returns-clause-ok
returns-clause-ok c =
    let k = c.args.k.now in
    let target = c.args.c.now.target in
    let start : c.in_ok-of_few.field-0.conjs ≡ claimed k target ∷ [] = start_is k target c.in_ok-claimed.claimed.items c.in_ok-of_few.field-0.conjs c.in_ok-claimed.ensures.ok c.in_ok-of_few.ensures.ok in
    let stands : walk_all k (lines_of k.body) (claimed k target ∷ []) 0 ≡ Stands c.in_ok-walked.walked.list.conjs c.in_ok-walked.walked.work =
    sym (ap (λ ss. walk_all k (lines_of ss) c.in_ok-of_few.field-0.conjs 0) c.as_slice-2.ensures ∙ ap (λ ps. walk_all k (lines_of k.body) ps 0) start) ∙ c.in_ok-walked.ensures.ok in
    ok_both c.of_few-2.result (λ p. p.conjs ≡ top c.in_ok-list.list.items) (λ p. p.labels ≡ c.labels-2.result) (λ p. IsPredicateOf k target p) c.of_few-2.ensures.ok c.of_few-2.ensures.labels (λ p conjs labels.
    found k target c.in_ok-walked.walked.list.conjs c.in_ok-walked.walked.work stands c.in_ok-list.list.items (c.in_ok-list.ensures.ok ∙ ap (map (at_start k)) c.conjs.ensures.value) p conjs (labels ∙ c.labels-2.ensures))
