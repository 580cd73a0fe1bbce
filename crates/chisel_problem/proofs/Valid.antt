-- The table of a kernel that isn't refused is valid.
use Rattle.std.proofs.Common.{◌≡◌, ℕ, zero, suc, ◌*◌, ◌^◌, ◌<◌, ◌≤◌, false, List, [], ◌∷◌, map, length, refl, sym, ap, ◌∙◌, arith, length-append}
use Rattle.std.specs.Prelude.{flat_map, nat_lt, slice_index, slice_index_or, pos, neg_ℤ, ◌-ℤ◌, ◌≤ℤ◌}
use Rattle.std.specs.List.{AllByRecursion, list_any, zip}
use Rattle.std.proofs.lemmas.Int.{ints}
use Rattle.std.proofs.lemmas.List.{length-map}
use Rattle.rely_num.specs.Bounds.{S}
use Rattle.rely_num.specs.declared.conj.Conj.{Conj}
use Rattle.rely_hard.specs.declared.hardware.Hardware.{Hardware}
use Rattle.rely_kernel.specs.declared.kernel.Claim.{Claim}
use Rattle.rely_kernel.specs.declared.kernel.Kernel.{Kernel}
use Rattle.rely_kernel.specs.declared.kernel.Linked.{Linked}
use Rattle.rely_kernel.specs.Choice.{decisions, options, setting_of}
use Rattle.rely_kernel.specs.Valid.{IsValid}
use Rattle.rely_machine.specs.declared.outcome.Outcome.{Outcome}
use Rattle.rely_predicate.specs.Predicates.{Conjuncts}
use Rattle.chisel_debit.specs.Debits.{budget}
use Rattle.chisel_debit.proofs.DebitLaws.{budget_is}
use Rattle.chisel_table.specs.declared.table.Row.{Row}
use Rattle.chisel_table.specs.Valid.{IsTable}
use Rattle.chisel_problem.specs.Problem.{ArePredicates, AreReady, AreSamples, IsForKernel, row_within, rows_of, table_of}
use Rattle.chisel_problem.proofs.Cost.{spending_widths}
use Rattle.chisel_problem.proofs.Lists.{by_place, joined}
use Rattle.chisel_problem.proofs.Options.{by_rows, each_has_few, each_has_option}
use Rattle.chisel_problem.proofs.Ranges.{calls_most, closed_spends, opened_most, spending_most}
use Rattle.chisel_problem.proofs.Small.{cost_small}
use Rattle.chisel_problem.proofs.Table.{energy_is, long, main_on, wide}

least_of : (a y most : ℕ) → y ≤ most → neg_ℤ (pos most) ≤ℤ (pos a -ℤ pos y)
least_of a y most h = grind (arith, ints)

greatest_of : (a y most : ℕ) → a ≤ most → (pos a -ℤ pos y) ≤ℤ pos most
greatest_of a y most h = grind (arith, ints)

-- a row as a table wants it
pub record RowFits (h : Hardware) (k : Kernel) (r : Row) : Type 0 where
  pub widths : map length r.spent ≡ map (options k h) (decisions k)
  pub debits : (d o : ℕ) → slice_index (slice_index_or r.spent d []) o ≤ 2 ^ 62
  pub least : neg_ℤ (pos (2 ^ 71)) ≤ℤ r.budget
  pub greatest : r.budget ≤ℤ pos (2 ^ 24)

module _ (h : Hardware) (k : Kernel) (valid : IsValid k) where
  row_fits : (allowed : ℕ) (counts : List ℕ) → allowed ≤ 2 ^ 24 → AllByRecursion (λ n. n < 2 ^ 36) counts → RowFits h k (row_within h k allowed counts)
  row_fits allowed counts few small = record {
    widths = spending_widths h k counts;
    debits = λ d o. omega (arith, opened_most 4611686018427387904 _ (spending_most h k counts small) d o);
    least = least_of allowed _ (2 ^ 71) (omega (arith, closed_spends h k counts small, calls_most h k counts small, valid.few_vars, valid.few_sites, valid.few_calls));
    greatest = greatest_of allowed _ (2 ^ 24) few;
  }

  conjuncts_fit : (allowed : ℕ) → allowed ≤ 2 ^ 24 → (cs : List Conj) → AllByRecursion (λ c. AllByRecursion (λ n. n < 2 ^ 36) c.counts) cs
      → AllByRecursion (RowFits h k) (map (λ c. row_within h k allowed c.counts) cs)
  conjuncts_fit allowed few [] small = tt
  conjuncts_fit allowed few (c ∷ cs) small = (row_fits allowed c.counts few small.0, conjuncts_fit allowed few cs small.1)

  rows_fit : (claims : List Claim) (preds : List Conjuncts) → AllByRecursion (λ c. c.bound ≤ S) claims → AllByRecursion (IsForKernel k) preds
      → AllByRecursion (RowFits h k) (flat_map (λ x. map (λ c. row_within h k (budget h.base x.0.bound) c.counts) x.1.conjs) (zip claims preds))
  rows_fit [] preds small each = tt
  rows_fit (c ∷ cs) [] small each = tt
  rows_fit (c ∷ cs) (p ∷ ps) small each =
      let allowed = budget h.base c.bound in
      let counted = (budget_is h.base c.bound small.0).counted in
      joined (RowFits h k) (map (λ c. row_within h k allowed c.counts) p.conjs) _
      (conjuncts_fit allowed (omega (arith, counted)) p.conjs each.0.small) (rows_fit cs ps small.1 each.1)

-- ---- how many rows there are

rows_count : (h : Hardware) (k : Kernel) (claims : List Claim) (preds : List Conjuncts) → AllByRecursion (λ p. length p.conjs ≤ 256) preds
    → length (flat_map (λ x. map (λ c. row_within h k (budget h.base x.0.bound) c.counts) x.1.conjs) (zip claims preds)) ≤ 256 * length claims
rows_count h k [] preds short = omega arith
rows_count h k (c ∷ cs) [] short = omega arith
rows_count h k (c ∷ cs) (p ∷ ps) short =
    let first : List Row = map (λ d. row_within h k (budget h.base c.bound) d.counts) p.conjs in
    let rest : List Row = flat_map (λ x. map (λ d. row_within h k (budget h.base x.0.bound) d.counts) x.1.conjs) (zip cs ps) in
    omega (arith, length-append first rest, length-map p.conjs (λ d. row_within h k (budget h.base c.bound) d.counts), short.0, rows_count h k cs ps short.1)

one_row : (h : Hardware) (k : Kernel) (claims : List Claim) (preds : List Conjuncts) → 1 ≤ length claims → length preds ≡ length claims → AllByRecursion (IsForKernel k) preds
    → 1 ≤ length (flat_map (λ x. map (λ c. row_within h k (budget h.base x.0.bound) c.counts) x.1.conjs) (zip claims preds))
one_row h k [] preds some same each = absurd (omega (arith, some))
one_row h k (c ∷ cs) [] some same each = absurd (omega (arith, same))
one_row h k (c ∷ cs) (p ∷ ps) some same each =
    let first : List Row = map (λ d. row_within h k (budget h.base c.bound) d.counts) p.conjs in
    let rest : List Row = flat_map (λ x. map (λ d. row_within h k (budget h.base x.0.bound) d.counts) x.1.conjs) (zip cs ps) in
    omega (arith, length-append first rest, length-map p.conjs (λ d. row_within h k (budget h.base c.bound) d.counts), each.0.some)

-- ---- the table

same_lengths : (rows others : List (List ℕ)) → map length rows ≡ map length others → (d : ℕ) → length (slice_index_or rows d []) ≡ length (slice_index_or others d [])
same_lengths [] [] e d = refl
same_lengths [] (o ∷ os) e d = absurd (cc)
same_lengths (r ∷ rs) [] e d = absurd (cc)
same_lengths (r ∷ rs) (o ∷ os) e zero = let first : length r ≡ length o = cc in first
same_lengths (r ∷ rs) (o ∷ os) e (suc d) = let rest : map length rs ≡ map length os = cc in same_lengths rs os rest d

module _ (h : Hardware) (l : Linked) (ready : AreReady h l) (preds : List Conjuncts) (runs : List Outcome) (samples : AreSamples l runs) (valid : IsValid l.kernel)
    (are : ArePredicates l.kernel preds) (short : AllByRecursion (λ p. length p.conjs ≤ 256) preds) where
  abbrev none : Row
  none = record { budget = pos 0; spent = [] }

  fits : (i : ℕ) → i < length (rows_of h l.kernel preds) → RowFits h l.kernel (slice_index_or (rows_of h l.kernel preds) i none)
  fits i below = by_place (RowFits h l.kernel) none (rows_of h l.kernel preds) (rows_fit h l.kernel valid l.kernel.claims preds valid.bounds are.each) i below

  pub table_is_valid : 1 ≤ length (decisions l.kernel) → length (decisions l.kernel) ≤ 256 → list_any (λ d. nat_lt 16 (options l.kernel h d)) (decisions l.kernel) ≡ false
      → IsTable (table_of h l preds runs)
  unfolding table_of
  table_is_valid some few narrow =
      let many = long h l ready preds runs in
      let same = wide h l ready preds runs in record {
        some_decisions = omega (arith, many, some);
        few_decisions = omega (arith, many, few);
        some_options = by_rows (λ n. 1 ≤ n) (options l.kernel h) _ (decisions l.kernel) same (each_has_option h l.kernel ready.hardware (main_on h l ready preds runs));
        few_options = by_rows (λ n. n ≤ 16) (options l.kernel h) _ (decisions l.kernel) same (each_has_few (options l.kernel h) 16 (decisions l.kernel) narrow);
        some_rows = one_row h l.kernel l.kernel.claims preds valid.claimed are.one_a_claim are.each;
        few_rows = omega (arith, rows_count h l.kernel l.kernel.claims preds short, valid.few_claims);
        widths = λ i below.
            let r = slice_index_or (rows_of h l.kernel preds) i none in
            sym (length-map r.spent length) ∙ (ap length ((fits i below).widths) ∙ (length-map (decisions l.kernel) (options l.kernel h) ∙ sym many));
        shapes = λ i d below inside. same_lengths _ _ ((fits i below).widths ∙ sym same) d;
        energies = λ c is. omega (arith, energy_is h l ready preds runs c, cost_small h l ready runs samples (setting_of l.kernel c));
        debits = λ i d o below inside option. (fits i below).debits d o;
        least_budgets = λ i below. (fits i below).least;
        greatest_budgets = λ i below. (fits i below).greatest;
      }
