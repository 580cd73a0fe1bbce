use Rattle.std.proofs.Common.{◌≡◌, string_bytes, sym, ap, ◌∙◌, true≢false}
use Rattle.std.proofs.lemmas.Bool.Decides.{Decides-eqb}
use Rattle.std.proofs.lemmas.Slice.Eq.{slice_eq-Decides}
use Rattle.serde_json.specs.Find.{get_member}
use Rattle.serde_json.specs.View.{members_view}
use Rattle.serde_json.proofs.Views.{Entry, member_here, member_later}
use Rattle.rely_inputs.proofs.sample.member_of.Goals as goal

pub returns-then-eq : goal.returns-then-eq
returns-then-eq c =
    let name = c.args.name.now in
    let e : Entry = (c.in-Some.key.now, c.in-Some.value.now) in
    let here = c.loop-key.invariant ∙ ap (λ es. get_member name (members_view es)) c.in-Some.ensures.steps in
    let key : c.as_bytes.result.now ≡ string_bytes e.0 = c.as_bytes.ensures.value in
    let same : c.as_bytes.result.now ≡ name = (slice_eq-Decides Decides-eqb _ _ _ c.eq.ensures).0 c.if-eq.true in
    sym (here ∙ member_here name e _ (sym same ∙ key))

pub loop-key-preserved : goal.loop-key-preserved
loop-key-preserved c =
    let name = c.args.name.now in
    let e : Entry = (c.in-Some.key.now, c.in-Some.value.now) in
    let here = c.loop-key.invariant ∙ ap (λ es. get_member name (members_view es)) c.in-Some.ensures.steps in
    let key : c.as_bytes.result.now ≡ string_bytes e.0 = c.as_bytes.ensures.value in
    here ∙ member_later name e _ (λ same. true≢false (sym ((slice_eq-Decides Decides-eqb _ _ _ c.eq.ensures).1 (key ∙ sym same)) ∙ c.if-eq.false))
