use Rattle.std.proofs.Common.{◌≡◌, ◌≢◌, ◌<◌, ◌-◌, ℕ, length, sym, ap, ◌∙◌, arith}
use Rattle.std.specs.Prelude.{slice_index, ◌==◌}
use Rattle.std.proofs.lemmas.Bool.{eqb-true, eq-eqb}
use Rattle.std.proofs.lemmas.List.{get_or_read, get_or-set_same, get_or-set_other}
use Rattle.std.proofs.lemmas.List.Sorted.{IsNonDecreasingBy-from_sort}
use Rattle.std.proofs.Math.ListN.{length-set}
use Rattle.chisel_debit.proofs.Mapped.{mapped}
use Rattle.chisel_debit.proofs.Searches.{by_test}
use Rattle.chisel_debit.proofs.known.Known.new.Goals as goal

pub invariant_of-result : goal.invariant_of-result
invariant_of-result g c = record {
  walked = mapped (g.W.Walk.answer_of c.args.base) c.sort_unstable.new.self.items c.loop-i.answers.items c.loop-i.invariant.sized
      (λ k l. c.loop-i.invariant.walked k (omega arith) l);
}

pub loop-i-preserved : goal.loop-i-preserved
loop-i-preserved g c =
    let answer = g.W.Walk.answer_of in
    let numbers = c.sort_unstable.new.self.items in
    let at = c.loop-i.i - 1 in
    let inside : at < length numbers = omega (arith, c.loop-i.invariant.inside) in
    let item : c.index.result.now ≡ slice_index numbers at = get_or_read numbers at c.index.result.now inside c.index.ensures 0 in
    let walked : c.answer.result ≡ answer c.args.base (slice_index numbers at) = c.answer.ensures.exact ∙ (λ i. answer (c.loop-i.invariant.base i) (item i)) in
    record {
      base = c.answer.ensures.base ∙ c.loop-i.invariant.base;
      inside = omega (arith, c.loop-i.invariant.inside);
      sized = omega (arith, length-set {A = ℕ}, c.loop-i.invariant.sized);
      walked = λ k from l. by_test (k == at)
          (λ e.
          let same : k ≡ at = eqb-true k at e in
          ap (slice_index _) same ∙ get_or-set_same c.loop-i.answers.items at c.answer.result 0 (omega (arith, c.loop-i.invariant.sized)) ∙ walked ∙ ap (λ n. answer c.args.base (slice_index numbers n)) (sym same))
          (λ e.
          let other : k ≢ at = λ q. absurd (let w = eq-eqb k at q in cc) in
          get_or-set_other c.loop-i.answers.items at k c.answer.result 0 other ∙ c.loop-i.invariant.walked k (omega arith) l);
      ahead = λ j before.
          let rises = IsNonDecreasingBy-from_sort (λ x. x) numbers c.sort_unstable.ensures.sorted j at 0 (omega arith) inside in
          c.answer.ensures.ahead (slice_index numbers j) (omega (arith, rises, item));
    }
