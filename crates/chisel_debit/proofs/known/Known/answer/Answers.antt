use Rattle.std.proofs.Common.{◌≡◌, ◌<◌, length, sym, ap, ◌∙◌, arith}
use Rattle.std.specs.Prelude.{slice_index}
use Rattle.std.proofs.lemmas.List.{get_or_read, length-map}
use Rattle.chisel_debit.proofs.Mapped.{map_at}
use Rattle.chisel_debit.proofs.Searches.{equal_is}
use Rattle.chisel_debit.proofs.known.Known.answer.Goals as goal

pub returns-in-Ok : goal.returns-in-Ok
returns-in-Ok g c =
    let known = c.args.self.now in
    let answer = g.W.Walk.answer_of known.base in
    let numbers = known.numbers.items in
    let i = c.in-Ok.i in
    let whole : c.deref.result.now ≡ numbers = c.deref.ensures.value in
    let inside : i < length numbers = omega (arith, c.in-Ok.ensures.bound, ap length whole) in
    let long : length known.answers.items ≡ length numbers = ap length known.walked ∙ length-map numbers answer in
    let read : c.index.result.now ≡ slice_index known.answers.items i = get_or_read known.answers.items i c.index.result.now (omega arith) c.index.ensures 0 in
    let found : slice_index numbers i ≡ c.args.number = ap (λ xs. slice_index xs i) (sym whole) ∙ equal_is _ _ (c.in-Ok.ensures.ok 0) ∙ c.get.ensures.value in
    read ∙ ap (λ xs. slice_index xs i) known.walked ∙ map_at answer numbers i inside ∙ ap answer found
