use Rattle.std.proofs.Common.{◌≡◌, ℕ, List, ◌+◌, ◌*◌, ◌<◌, ◌∙◌, add-one, ap, arith, drop, get_or, length, map, refl, subst, suc}
use Rattle.std.specs.Prelude.{slice_index}
use Rattle.std.proofs.lemmas.List.{length-map}
use Rattle.rely_kernel.specs.declared.kernel.CallSite.{CallSite}
use Rattle.rely_kernel.specs.declared.label.Label.TheVariants as label
use Rattle.rely_kernel.specs.Labels.{number}
use Rattle.rely_machine.specs.EnergySums.{sum_from}
use Rattle.chisel_debit.specs.Debits.{debit}
use Rattle.chisel_problem.proofs.Lists.{from_front}
use Rattle.chisel_problem.proofs.SpendingLaws.{call_most}
use Rattle.chisel_problem.proofs.spending.Debits.calls_spend.Goals as goal

pub overflow_add-total : goal.overflow_add-total
overflow_add-total c =
    let small = call_most c.from.result c.from-in-loop-place.result (omega (arith, c.number_at.type_inv, c.from.ensures)) (omega (arith, c.type_inv.debits c.loop-place.place, c.from-in-loop-place.ensures)) in
    let many : length c.as_slice-debits.result.now ≡ length c.args.self.now.k.now.calls =
    ap length (c.as_slice-debits.ensures ∙ c.args.self.now.calls) ∙ length-map c.args.self.now.k.now.calls (λ site. debit c.args.self.now.h.now.base site.bound) in
    omega (arith, small, many, c.loop-place-test.true, c.loop-place.invariant.bound, c.requires.few_calls)

pub loop-place-preserved : goal.loop-place-preserved
loop-place-preserved c =
    let h = c.args.self.now.h.now in
    let k = c.args.self.now.k.now in
    let counts = c.args.counts.now in
    let place = c.loop-place.place in
    let owed : CallSite → ℕ = λ site. debit h.base site.bound in
    let spends : ℕ → ℕ → ℕ = λ j d. slice_index counts (number k (label.Call j)) * d in
    let debits : c.as_slice-debits.result.now ≡ map owed k.calls = c.as_slice-debits.ensures ∙ c.args.self.now.calls in
    let small = call_most c.from.result c.from-in-loop-place.result (omega (arith, c.number_at.type_inv, c.from.ensures)) (omega (arith, c.type_inv.debits c.loop-place.place, c.from-in-loop-place.ensures)) in
    let at : length c.as_slice.result.now + 2 * length c.as_slice-2.result.now + place ≡ number k (label.Call place) =
    omega (arith, ap length c.as_slice.ensures, ap length c.as_slice-2.ensures) in
    let count : c.from.result ≡ slice_index counts (number k (label.Call place)) = c.from.ensures ∙ (c.number_at.ensures ∙ ap (slice_index counts) at) in
    let owes : c.from-in-loop-place.result ≡ get_or (map owed k.calls) place 0 = c.from-in-loop-place.ensures ∙ ap (λ ds. get_or ds place 0) debits in
    let one : c.from.result * c.from-in-loop-place.result ≡ spends place (get_or (map owed k.calls) place 0) = rw (count, owes) refl in
    let front = from_front owed spends place k.calls place 0 (subst (λ (ds : List ℕ). place < length ds) debits c.loop-place-test.true) in
    let next : sum_from (λ j site. spends j (owed site)) (place + 1) (drop (place + 1) k.calls) ≡ sum_from (λ j site. spends j (owed site)) (suc place) (drop (suc place) k.calls) =
    ap (λ b. sum_from (λ j site. spends j (owed site)) b (drop b k.calls)) (add-one place) in record {
      bound = omega (arith, small, c.loop-place.invariant.bound);
      rest = omega (arith, one, front, next, c.loop-place.invariant.rest);
    }
