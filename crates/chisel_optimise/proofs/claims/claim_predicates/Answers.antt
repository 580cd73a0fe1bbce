use Rattle.std.proofs.Common.{ap, subst, sym, ◌∙◌, length, ◌≤◌, map}
use Rattle.chisel_source.proofs.Parts.{own_valid}
use Rattle.chisel_claims.specs.Needs.{first_needs}
use Rattle.chisel_optimise.specs.Claims.{EndsEarly}
use Rattle.chisel_optimise.proofs.Early.{claim_needs, goes_on}
use Rattle.chisel_optimise.proofs.Predicates.{counted_claims, tops_are}
use Rattle.chisel_optimise.proofs.claims.claim_predicates.Goals as goal

pub predicates-requires : goal.predicates-requires
predicates-requires c = own_valid c.args.ready.now c.requires.sound

pub first_needs-requires-clause-few : goal.first_needs-requires-clause-few
first_needs-requires-clause-few c = subst (λ cs. length cs ≤ 8) (sym c.as_slice.ensures) (own_valid c.args.ready.now c.requires.sound).few_claims

pub first_needs-requires-clause-each : goal.first_needs-requires-clause-each
first_needs-requires-clause-each c =
    ap length c.as_slice-2.ensures.value ∙ counted_claims c.args.ready.now.linked.kernel c.in-Ok-predicates.predicates.items c.in-Ok-predicates.ensures.ok ∙ ap length (sym c.as_slice.ensures)

pub returns-in_ok-needing-in-Some-clause-err : goal.returns-in_ok-needing-in-Some-clause-err
returns-in_ok-needing-in-Some-clause-err c =
    let ps = c.in-Ok-predicates.predicates.items in
    let k = c.args.ready.now.linked.kernel in
    subst (EndsEarly c.args.ready.now) (sym c.in_ok-needing-in-Some.ensures)
    (claim_needs c.args.ready.now ps (c.in-Some.number, c.in-Some.var) c.in-Ok.ensures.ok c.in-Ok-predicates.ensures.unlimited (tops_are k ps c.in-Ok-predicates.ensures.ok)
    (sym c.in-Some.is ∙ c.first_needs.ensures ∙ (λ i. first_needs 1 (c.as_slice.ensures i) (map (λ p. p.conjs) (c.as_slice-2.ensures.value i)))))

pub returns-in-None-clause-tops : goal.returns-in-None-clause-tops
returns-in-None-clause-tops c = tops_are c.args.ready.now.linked.kernel c.in-Ok-predicates.predicates.items c.in-Ok-predicates.ensures.ok

pub returns-in-None-clause-goes_on : goal.returns-in-None-clause-goes_on
returns-in-None-clause-goes_on c =
    let ps = c.in-Ok-predicates.predicates.items in
    let k = c.args.ready.now.linked.kernel in
    goes_on c.args.ready.now ps c.in-Ok.ensures.ok c.in-Ok-predicates.ensures.unlimited (tops_are k ps c.in-Ok-predicates.ensures.ok)
    (sym c.in-None.is ∙ c.first_needs.ensures ∙ (λ i. first_needs 1 (c.as_slice.ensures i) (map (λ p. p.conjs) (c.as_slice-2.ensures.value i))))
