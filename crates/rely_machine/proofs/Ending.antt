-- How a run begins and ends, and that its outcome is determined.
use Rattle.std.proofs.Common.{◌≡◌, ℕ, zero, suc, ◌+◌, ◌<◌, ◌≤◌, List, [], ◌∷◌, ◌++◌, length, map, replicate, get_or, Option, Some, refl, sym, ap, subst, ◌∙◌, arith}
use Rattle.std.specs.Prelude.{option_map, slice_get}
use Rattle.std.proofs.lemmas.List.Sums.{sum_by-cons}
use Rattle.std.specs.List.{All, range_with_len}
use Rattle.std.specs.Option.{option_map_or}
use Rattle.std.proofs.lemmas.List.{length-replicate, length-append, get_or-replicate}
use Rattle.std.proofs.lemmas.List.FromFn.{map-range_with_len_more, length-map-range_with_len}
use Rattle.rely_kernel.specs.declared.kernel.Kernel.{Kernel}
use Rattle.rely_kernel.specs.declared.kernel.Linked.{Linked}
use Rattle.rely_kernel.specs.declared.setting.Store.{Store}
use Rattle.rely_kernel.specs.Bound.{IsStart}
use Rattle.rely_kernel.specs.Labels.{labels_of}
use Rattle.rely_kernel.specs.Machine.{Config, Item, functions, main, after, passed, trace, steps, items, IsFinished, right, cost_of}
use Rattle.rely_kernel.specs.Text.{block_of}
use Rattle.rely_kernel.specs.Valid.{IsLinked}
use Rattle.rely_kernel.specs.Running.{AllFine}
use Rattle.rely_kernel.proofs.Callees.{fine}
use Rattle.rely_kernel.proofs.Reach.{each_run_ends}
use Rattle.rely_machine.specs.declared.function.Function.{Function}
use Rattle.rely_machine.specs.declared.outcome.Outcome.{Outcome}
use Rattle.rely_machine.specs.Going.{Counts, Exceeds, IsRunning, Runs, Stands, Takes, standing}
use Rattle.rely_machine.specs.Run.{IsOutcome, IsRun, ReachesLimit, entered, first, taken, uses, uses_at}
use Rattle.rely_machine.specs.Table.{body_table, entries}
use Rattle.rely_machine.proofs.Reading.{found_last}
use Rattle.rely_machine.proofs.Tables.{table_known}

-- lists with one item more
snoc_same : {X : Type 0} (xs ys : List X) (x y : X) → xs ++ x ∷ [] ≡ ys ++ y ∷ [] → (xs ≡ ys) × (x ≡ y)
snoc_same [] [] x y e = (refl, cc)
snoc_same [] (b ∷ []) x y e = absurd (cc)
snoc_same [] (b ∷ c ∷ ys) x y e = absurd (cc)
snoc_same (a ∷ []) [] x y e = absurd (cc)
snoc_same (a ∷ c ∷ xs) [] x y e = absurd (cc)
snoc_same (a ∷ xs) (b ∷ ys) x y e =
    let h = snoc_same xs ys x y (tails e) in (ap (λ z. z ∷ xs) (heads e) ∙ ap (λ zs. b ∷ zs) h.0, h.1)
  where
    tails : a ∷ (xs ++ x ∷ []) ≡ b ∷ (ys ++ y ∷ []) → xs ++ x ∷ [] ≡ ys ++ y ∷ []
    tails q = cc

    heads : a ∷ (xs ++ x ∷ []) ≡ b ∷ (ys ++ y ∷ []) → a ≡ b
    heads q = cc

-- ---- nothing counted

none_from : (h : ℕ → ℕ) (a n : ℕ) → ((g : ℕ) → h g ≡ 0) → map h (range_with_len a n) ≡ replicate n 0
none_from h a zero e = refl
none_from h a (suc n) e = ap (λ x. x ∷ map h (range_with_len (a + 1) n)) (e a) ∙ ap (λ xs. 0 ∷ xs) (none_from h (a + 1) n e)

row_none : (k : Kernel) (f : ℕ) → replicate (labels_of k) 0 ≡ uses k f []
row_none k f = sym (none_from (taken k f []) 0 (labels_of k) (λ g. refl))

-- each row of some functions, which stand after others
rows_from : (before fs : List Kernel) (a : ℕ) → a ≡ length before → map (λ k. replicate (labels_of k) 0) fs ≡ map (uses_at (before ++ fs) []) (range_with_len a (length fs))
rows_from before [] a e = refl
rows_from before (k ∷ fs) a e =
    ap (λ x. x ∷ map (λ j. replicate (labels_of j) 0) fs) (row_none k a ∙ ap (λ o. option_map_or (λ j. uses j a []) o []) (sym (found before k fs a e)))
    ∙ ap (λ xs. uses_at (before ++ k ∷ fs) [] a ∷ xs)
    (rows_from (before ++ k ∷ []) fs (a + 1) (long before k a e) ∙ ap (λ (gs : List Kernel). map (uses_at gs []) (range_with_len (a + 1) (length fs))) (joined before k fs))
  where
    found : (xs : List Kernel) (x : Kernel) (ys : List Kernel) (i : ℕ) → i ≡ length xs → slice_get (xs ++ x ∷ ys) i ≡ Some x
    found [] x ys zero e = refl
    found [] x ys (suc i) e = absurd (omega (arith, e))
    found (z ∷ xs) x ys zero e = absurd (omega (arith, e))
    found (z ∷ xs) x ys (suc i) e = found xs x ys i (omega (arith, e))

    long : (xs : List Kernel) (x : Kernel) (i : ℕ) → i ≡ length xs → i + 1 ≡ length (xs ++ x ∷ [])
    long [] x i e = omega (arith, e)
    long (z ∷ xs) x zero e = absurd (omega (arith, e))
    long (z ∷ xs) x (suc i) e = let h = long xs x i (omega (arith, e)) in omega (arith, h)

    joined : (xs : List Kernel) (x : Kernel) (ys : List Kernel) → (xs ++ x ∷ []) ++ ys ≡ xs ++ x ∷ ys
    joined [] x ys = refl
    joined (z ∷ xs) x ys = ap (λ zs. z ∷ zs) (joined xs x ys)

rows_none : (fs : List Kernel) → map (λ k. replicate (labels_of k) 0) fs ≡ map (uses_at fs []) (range_with_len 0 (length fs))
rows_none fs = rows_from [] fs 0 refl

abbrev zero_row : Kernel → List ℕ
zero_row k = replicate (labels_of k) 0

rows_long : (fs : List Kernel) → map length (map zero_row fs) ≡ map labels_of fs
rows_long [] = refl
rows_long (k ∷ fs) = ap (λ n. n ∷ map length (map zero_row fs)) (length-replicate (labels_of k) 0) ∙ ap (λ ns. labels_of k ∷ ns) (rows_long fs)

-- none is above 0
pub rows_bounded : (fs : List Kernel) → All (All (λ n. n ≤ 0)) (map zero_row fs)
rows_bounded [] k d below = absurd (omega (arith, below))
rows_bounded (x ∷ fs) zero d below = λ j e b. let h = length-replicate {A = ℕ} (labels_of x) 0 in let z = get_or-replicate {A = ℕ} (labels_of x) j 0 e (omega (arith, h, b)) in omega (arith, z)
rows_bounded (x ∷ fs) (suc k) d below = rows_bounded fs k d (omega (arith, below))

zero_at : (n g : ℕ) → get_or {A = ℕ} (replicate n 0) g 0 ≡ 0
zero_at zero g = refl
zero_at (suc n) zero = refl
zero_at (suc n) (suc g) = zero_at n g

-- ---- what is counted up to an end

module _ (fs : List Kernel) where
  stopped_by : (is : List Item) (c : Config) → c.items ≡ is → is ≡ [] → right fs c ≡ c
  stopped_by is c e over = rw (e, over) refl

  -- a finished configuration stays
  stopped : (c : Config) → IsFinished c → right fs c ≡ c
  stopped c over = stopped_by [] c over refl

  -- what adds up over the configurations, and gains nothing from a finished one, is the same at each end
  module _ {X : Type 0} (F : List Config → X) (G : Config → X) (op : X → X → X) (each : (c : Config) (cs : List Config) → F (c ∷ cs) ≡ op (G c) (F cs)) (neutral : (c : Config) (x : X) → IsFinished c → op (G c) x ≡ x) where
    gains_nothing : (n : ℕ) (c : Config) → IsFinished c → F (passed fs n c) ≡ F []
    unfolding passed
    gains_nothing zero c over = refl
    gains_nothing (suc n) c over = each c (passed fs n (right fs c)) ∙ (neutral c (F (passed fs n (right fs c))) over ∙ (ap (λ d. F (passed fs n d)) (stopped c over) ∙ gains_nothing n c over))

    pub same_at_end : (m n : ℕ) (c : Config) → IsFinished (after fs m c) → IsFinished (after fs n c) → F (passed fs m c) ≡ F (passed fs n c)
    unfolding passed after
    same_at_end zero n c over also = sym (gains_nothing n c over)
    same_at_end (suc m) zero c over also = gains_nothing (suc m) c also
    same_at_end (suc m) (suc n) c over also =
        each c (passed fs m (right fs c)) ∙ (ap (op (G c)) (same_at_end m n (right fs c) over also) ∙ sym (each c (passed fs n (right fs c))))

  costless_by : (is : List Item) (f : ℕ) → is ≡ [] → cost_of fs f is ≡ 0
  costless_by is f over = rw over refl

  costless : (c : Config) → IsFinished c → cost_of fs c.function c.items ≡ 0
  costless c over = costless_by c.items c.function over

  steps_each : (n : ℕ) (c : Config) → steps fs (suc n) c ≡ cost_of fs c.function c.items + steps fs n (right fs c)
  unfolding passed
  steps_each n c = sum_by-cons (λ (d : Config). cost_of fs d.function d.items) c (passed fs n (right fs c))

  no_steps : (n : ℕ) (c : Config) → IsFinished c → steps fs n c ≡ 0
  unfolding passed
  no_steps zero c over = refl
  no_steps (suc n) c over = steps_each n c ∙ (ap (λ x. x + steps fs n (right fs c)) (costless c over) ∙ (ap (λ d. 0 + steps fs n d) (stopped c over) ∙ (let h = no_steps n c over in omega (arith, h))))

  -- no part of a run takes more steps than it takes to its end
  pub steps_within : (m n : ℕ) (c : Config) → IsFinished (after fs n c) → steps fs m c ≤ steps fs n c
  unfolding passed after
  steps_within zero n c over = omega arith
  steps_within (suc m) zero c over = let h = no_steps (suc m) c over in omega (arith, h)
  steps_within (suc m) (suc n) c over =
      let a = steps_each m c in
      let b = steps_each n c in
      let h = steps_within m n (right fs c) over in
      omega (arith, a, b, h)

-- ---- where a run begins

-- nothing is counted
abbrev pub no_counts : Linked → ℕ → Counts
no_counts l limit = record { uses = map (λ k. replicate (labels_of k) 0) (functions l); entries = replicate (length l.inner) 0; steps = 0; limit = limit }

module _ (l : Linked) (start : Store) (linked : IsLinked l) (begins : IsStart l.kernel start) (limit : ℕ) where
  -- the run has an end
  ends : (n : ℕ) × (end : Config) × IsRun l start n end
  ends = let h = each_run_ends (functions l) (main l) l.kernel start linked (found_last l.inner l.kernel) begins in (h.1.0, h.0, record { leads = h.1.1; over = h.1.2 })

  pub at_once : limit ≡ 0 → ReachesLimit l start limit
  at_once e = record { n = ends.0; end = ends.1; run = ends.2; steps = omega (arith, e) }

  pub in_time : Takes l (first l start) limit → ReachesLimit l start limit
  in_time h = record {
    n = ends.0;
    end = ends.1;
    run = ends.2;
    steps = let a = steps_within (functions l) h.n ends.0 (first l start) (subst IsFinished (sym ends.2.leads) ends.2.over) in let b = h.steps in omega (arith, a, b);
  }

module _ (l : Linked) (start : Store) (linked : IsLinked l) (begins : IsStart l.kernel start) (limit : ℕ)
    (r : Function) (same : r.linked.now ≡ l) (at : r.at ≡ main l) (kernel : r.kernel.now ≡ l.kernel) where
  known : slice_get (functions r.linked.now) r.at ≡ Some r.kernel.now
  known = rw (same, at, kernel) (found_last l.inner l.kernel)

  pub main_fine : AllFine (functions r.linked.now) r.at r.kernel.now (block_of r.kernel.now.body)
  main_fine = fine (functions r.linked.now) (subst IsLinked (sym same) linked) r.at r.kernel.now known

  main_tables : map entries r.tables.now ≡ map body_table (functions l) → map entries r.tables.now ≡ map body_table (functions r.linked.now)
  main_tables are = are ∙ ap (λ (k : Linked). map body_table (functions k)) (sym same)

  pub main_table : map entries r.tables.now ≡ map body_table (functions l) → option_map entries (slice_get r.tables.now r.at) ≡ Some (body_table r.kernel.now)
  main_table are = table_known r (main_tables are) known

  pub main_running : map entries r.tables.now ≡ map body_table (functions l) → (t : Counts) → t ≡ no_counts l limit → IsRunning r start t
  main_running are t e = rw e (record {
    linked = subst IsLinked (sym same) linked;
    known = known;
    tables = main_tables are;
    shape = rw kernel begins.shape;
    rows = rw same (record { rows = rows_long (functions l); entries = length-replicate (length l.inner) 0 });
    entries = λ g b. let z = zero_at (length l.inner) g in omega (arith, z);
  })

  -- the run stands at its start
  begins_at : (t : Counts) → t ≡ no_counts l limit → Stands r.linked.now (first l start) (standing r (items (block_of r.kernel.now.body) []) [] start []) t
  unfolding passed after
  begins_at t e = rw (e, same, at, kernel) (record {
    n = 0;
    leads = refl;
    uses = rows_none (functions l);
    entries = sym (none_from (entered (functions l) []) 0 (length l.inner) (λ g. refl));
    steps = refl;
  })

  -- ---- and ends

  pub exceeds_limit : (t : Counts) → t ≡ no_counts l limit → Exceeds r (items (block_of r.kernel.now.body)) (λ st. st) start t → ReachesLimit l start limit
  exceeds_limit t e h =
      in_time l start linked begins limit (subst (λ (m : Linked). Takes m (first l start) limit) same (subst (λ n. Takes r.linked.now (first l start) n) (ap (λ (u : Counts). u.limit) e) (h.takes (first l start) [] [] [] (begins_at t e))))

  module _ (t : Counts) (t_is : t ≡ no_counts l limit) (s : Store) (u : Counts) (h : Runs r (items (block_of r.kernel.now.body)) (λ st. st) (λ st. st) start t s u) where
    at_end : Stands l (first l start) (standing r [] [] s []) u
    at_end = subst (λ (m : Linked). Stands m (first l start) (standing r [] [] s []) u) same (h.goes (first l start) [] [] [] (begins_at t t_is))

    pub rows_there : 0 < length u.uses
    rows_there =
        let a = ap length at_end.uses in
        let b = length-map-range_with_len (uses_at (functions l) (trace (functions l) at_end.n (first l start))) 0 (length (functions l)) in
        let d = length-append l.inner (l.kernel ∷ []) in
        omega (arith, a, b, d)

    -- the last row is the function's own
    split_rows : u.uses ≡ map (uses_at (functions l) (trace (functions l) at_end.n (first l start))) (range_with_len 0 (length l.inner)) ++ uses l.kernel (main l) (trace (functions l) at_end.n (first l start)) ∷ []
    split_rows =
        at_end.uses
        ∙ (ap (λ n. map (uses_at (functions l) (trace (functions l) at_end.n (first l start))) (range_with_len 0 n)) (length-append l.inner (l.kernel ∷ []))
        ∙ (map-range_with_len_more (uses_at (functions l) (trace (functions l) at_end.n (first l start))) 0 (length l.inner) (length l.inner) (omega arith)
        ∙ ap (λ (o : Option Kernel). map (uses_at (functions l) (trace (functions l) at_end.n (first l start))) (range_with_len 0 (length l.inner)) ++ option_map_or (λ k. uses k (length l.inner) (trace (functions l) at_end.n (first l start))) o [] ∷ []) (found_last l.inner l.kernel)))

    pub outcome_is : (o : Outcome) → o.store ≡ s → u.uses ≡ o.inner ++ o.uses ∷ [] → o.entries ≡ u.entries → o.steps ≡ u.steps → IsOutcome l start o
    outcome_is o store rows entries steps_is = let parts = snoc_same o.inner (map (uses_at (functions l) (trace (functions l) at_end.n (first l start))) (range_with_len 0 (length l.inner))) o.uses (uses l.kernel (main l) (trace (functions l) at_end.n (first l start))) (sym rows ∙ split_rows) in record {
      n = at_end.n;
      end = standing r [] [] s [];
      run = record { leads = at_end.leads; over = refl };
      store = store;
      uses = parts.1;
      inner = parts.0;
      entries = entries ∙ at_end.entries;
      steps = steps_is ∙ at_end.steps;
    }

    pub limit_stays : u.limit ≡ limit
    limit_stays = h.keeps.limit ∙ ap (λ (v : Counts). v.limit) t_is
