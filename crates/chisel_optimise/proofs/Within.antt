-- The certificate of a least choice is within the limits of the text.
use Rattle.std.proofs.Common.{◌≡◌, ℕ, zero, suc, true, false, Bool, ◌+◌, ◌-◌, ◌≤◌, ◌<◌, List, [], ◌∷◌, length, get_or, refl, arith, Option, Some, None}
use Rattle.std.specs.Prelude.{◌&&◌, is_some}
use Rattle.std.specs.List.{AllByRecursion}
use Rattle.std.proofs.lemmas.Bool.{ltb-true}
use Rattle.chisel_table.specs.declared.closing.CloseRule.{CloseRule}
use Rattle.chisel_table.specs.declared.closing.CloseRule.TheVariants.{C, I, D, T}
use Rattle.chisel_table.specs.declared.partial.Partial.{Partial}
use Rattle.chisel_table.specs.declared.table.Table.{Table}
use Rattle.chisel_table.specs.Closings.{rule_closes}
use Rattle.chisel_table.specs.Partials.{is_unfixed, nothing_fixed, with_option}
use Rattle.chisel_table.specs.Sums.{list_to, sum_to}
use Rattle.chisel_table.specs.Tables.{decision_count, option_count, row_count}
use Rattle.chisel_table.specs.Valid.{IsTable}
use Rattle.chisel_bound.specs.Pool.{IsPool}
use Rattle.chisel_bound.proofs.Lists.{length_listed, listed_at}
use Rattle.chisel_cert.specs.Ranges.{AreNodes, IsChosen, IsGiven, IsMultipliers, IsNode, IsRestated}
use Rattle.chisel_cert.specs.Tree.{pooled, own, Tree, leaf, branch, Trees, nil, cons, count}
use Rattle.chisel_cert.specs.Valid.{AreValid, IsClaimed, IsValid, energy_of, restated_row, spent_by}
use Rattle.chisel_search.specs.Printed.{ArePrinted, IsPrinted, restated_rows, tree}
use Rattle.chisel_search.specs.Search.{one_if, rule_of, unfixed}
use Rattle.chisel_search.proofs.Printed.{certificate_valid, root_printed, unfixed_fixed}
use Rattle.chisel_optimise.specs.Printing.{PrintedIsPooled, PrintedIsWithin}
use Rattle.chisel_optimise.specs.Pooled.{ArePooled, IsPooled}
use Rattle.chisel_optimise.proofs.Spending.{spent_small}
use lib.IntN.{pos}

-- ---- lists

-- what holds at each place holds of all
all_placed : {A : Type 0} (P : A → Type 0) (d : A) (xs : List A) → ((i : ℕ) → i < length xs → P (get_or xs i d)) → AllByRecursion P xs
all_placed P d [] h = tt
all_placed P d (x ∷ xs) h = (h 0 (omega arith), all_placed P d xs (λ i l. h (suc i) (omega arith)))

all_listed : {A : Type 0} (P : A → Type 0) (d : A) (n : ℕ) (f : ℕ → A) → ((i : ℕ) → i < n → P (f i)) → AllByRecursion P (list_to n f)
all_listed P d n f h =
    all_placed P d (list_to n f) (λ i l. let m : i < n = let e = length_listed n f in omega arith in rw (listed_at n f i d m) (h i m))

-- ---- the lines before the tree

chosen : (t : Table) (best : Option (List ℕ)) → IsTable t → IsClaimed t best → IsChosen (decision_count t) best
chosen t None table h = tt
chosen t (Some options) table h = (
  h.0.size,
  all_placed (λ n. n ≤ 15) 0 options (λ i l.
      let size : length options ≡ decision_count t = h.0.size in
      let d : i < decision_count t = omega arith in
      let a = h.0.in_range i d in
      let b = table.few_options i d in omega arith),
)

energy_given : (t : Table) (best : Option (List ℕ)) → IsTable t → IsClaimed t best → IsGiven 18446744073709551615 (is_some best) (energy_of t best)
energy_given t None table h = tt
energy_given t (Some options) table h = let e = table.energies options h.0 in omega arith

spent_given : (t : Table) (best : Option (List ℕ)) (i : ℕ) → IsTable t → IsClaimed t best → i < row_count t → IsGiven 16777216 (is_some best) (spent_by t i best)
spent_given t None i table h l = tt
spent_given t (Some options) i table h l = spent_small t options i table h l

pub rows_restated : (t : Table) (best : Option (List ℕ)) → IsTable t → IsClaimed t best → AllByRecursion (IsRestated (is_some best)) (restated_rows t best)
rows_restated t best table h =
    all_listed (IsRestated (is_some best)) (record { budget = pos 0; spent = None }) (row_count t) (restated_row t best) (λ i l. record {
      least = table.least_budgets i l;
      greatest = table.greatest_budgets i l;
      spent = spent_given t best i table h l;
    })

multipliers : (t : Table) (pool : List (List ℕ)) → IsPool t pool → AllByRecursion (IsMultipliers (row_count t)) pool
multipliers t pool h =
    all_placed (IsMultipliers (row_count t)) [] pool (λ j l.
    let v = h.vectors j l in
    (v.size, all_placed (λ n. n ≤ 1099511627776) 0 (get_or pool j []) (λ i m. v.in_range i (let e = v.size in omega arith))))

-- ---- the tree

and_left : (a b : Bool) → (a && b) ≡ true → a ≡ true
and_left true b e = refl
and_left false b e = absurd (cc)

-- the number of a rule that holds is that of a row or of a vector
index_small : (t : Table) (pool : List (List ℕ)) (best : Option (List ℕ)) (p : Partial) (rule : CloseRule) (n : ℕ) → row_count t ≤ 2048 → length pool ≤ 16
    → rule_closes t pool best p rule n ≡ true → n ≤ 4294967295
index_small t pool best p C n rows few h = let l = ltb-true n (row_count t) (and_left _ _ h) in omega arith
index_small t pool best p I n rows few h = let l = ltb-true n (length pool) (and_left _ _ h) in omega arith
index_small t pool best p D n rows few h = let l = ltb-true n (length pool) (and_left _ _ h) in omega arith
index_small t pool best p T n rows few h = let l = ltb-true n (length pool) (and_left _ _ h) in omega arith

ones_few : (n : ℕ) (f : ℕ → Bool) → sum_to n (λ k. one_if (f k)) ≤ n
unfolding sum_to
ones_few zero f = omega arith
ones_few (suc n) f = let a = ones_few n f in let b = one_small (f n) in omega arith
  where
    one_small : (b : Bool) → one_if b ≤ 1
    one_small true = omega arith
    one_small false = omega arith

module _ (t : Table) (table : IsTable t) (pool : List (List ℕ)) (few : length pool ≤ 16) (best : Option (List ℕ)) where
  mutual
    unfolding IsNode AreNodes IsValid AreValid IsPooled ArePooled count

    -- a branch fixes an unfixed decision, so at most as many stand one under another as are unfixed
    pub node_within : (x : Tree) (p : Partial) (depth : ℕ) → IsPooled x → unfixed t p ≤ depth → IsValid t pool best p x → IsNode 2 (row_count t) depth x
    node_within (leaf (pooled c)) p depth shared u v = index_small t pool best p c.rule c.index table.few_rows few v
    node_within (leaf (own rule vector)) p depth shared u v = absurd shared
    node_within (branch d children) p depth shared u v =
        let some = table.some_options d v.0 in
        let most = table.few_options d v.0 in
        let decisions = table.few_decisions in
        let left = unfixed_fixed t p d 0 v.0 v.1 (omega arith) in
        let many : count children ≡ option_count t d = v.2 in
        let inside : d < decision_count t = v.0 in
        (omega arith, omega arith, (omega arith, omega arith), nodes_within children p d 0 (depth - 1) shared inside v.1 (omega arith) (omega arith) v.3)

    nodes_within : (xs : Trees) (p : Partial) (d o depth : ℕ) → ArePooled xs → d < decision_count t → is_unfixed p d ≡ true → o + count xs ≤ option_count t d
        → unfixed t p ≤ depth + 1 → AreValid t pool best p d o xs → AreNodes 2 (row_count t) depth xs
    nodes_within nil p d o depth shared inside free l u v = tt
    nodes_within (cons x xs) p d o depth shared inside free l u v =
        let most = table.few_options d inside in
        let left = unfixed_fixed t p d o inside free (omega arith) in
        (node_within x (with_option p d o) depth shared.0 (omega arith) v.0, nodes_within xs p d (o + 1) depth shared.1 inside free (omega arith) u v.1)

-- ---- what is printed

mutual
  unfolding IsPrinted ArePrinted IsPooled ArePooled

  pooled_of : (x : Tree) (t : Table) (pool : List (List ℕ)) (Answers : Partial → ℕ → Type 0) (best : Option (List ℕ)) (p : Partial) → IsPrinted t pool Answers best p x → IsPooled x
  pooled_of (leaf (pooled c)) t pool Answers best p h = tt
  pooled_of (leaf (own rule vector)) t pool Answers best p h = absurd (let e = h.2 in cc)
  pooled_of (branch d children) t pool Answers best p h = all_pooled children t pool Answers best p d 0 h.3

  all_pooled : (xs : Trees) (t : Table) (pool : List (List ℕ)) (Answers : Partial → ℕ → Type 0) (best : Option (List ℕ)) (p : Partial) (d o : ℕ) → ArePrinted t pool Answers best p d o xs
      → ArePooled xs
  all_pooled nil t pool Answers best p d o h = tt
  all_pooled (cons x xs) t pool Answers best p d o h = (pooled_of x t pool Answers best (with_option p d o) h.0, all_pooled xs t pool Answers best p d (o + 1) h.1)

pub printed_pooled : PrintedIsPooled
printed_pooled t pool rule best h least =
    pooled_of (tree t pool rule best (decision_count t) (nothing_fixed t)) t pool (rule_of rule) best (nothing_fixed t)
    (root_printed t pool rule h.zeros h.table h.lawful best least)

pub printed_within : PrintedIsWithin
printed_within t pool rule best h least few =
    let valid = certificate_valid t pool rule h.zeros h.table h.lawful best least in
    let claimed = valid.choice_meets in
    let many = h.table.few_decisions in
    record {
      version = (omega arith, omega arith);
      decisions = (h.table.some_decisions, h.table.few_decisions);
      rows = (h.table.some_rows, h.table.few_rows);
      choice = chosen t best h.table claimed;
      energy = energy_given t best h.table claimed;
      restated_rows = length_listed (row_count t) (restated_row t best);
      restated = rows_restated t best h.table claimed;
      vectors = (h.zeros.some, h.few);
      pool = multipliers t pool h.in_range;
      most_nodes = few;
      nodes = refl;
      root = node_within t h.table pool h.few best (tree t pool rule best (decision_count t) (nothing_fixed t)) (nothing_fixed t) 256
          (printed_pooled t pool rule best h least) (let ones = ones_few (decision_count t) (is_unfixed (nothing_fixed t)) in omega arith) valid.tree_is;
    }
