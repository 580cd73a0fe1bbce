-- The outcome of a run is determined by its start, and so is what it costs under a setting.
use Rattle.std.proofs.Common.{◌≡◌, ℕ, ◌+◌, List, [], ◌∷◌, ◌++◌, length, map, None, refl, sym, ap, subst, ◌∙◌, arith}
use Rattle.std.specs.Prelude.{cond, count_by, filter_map, sum, sum_by}
use Rattle.std.specs.List.{AllZip, range_with_len}
use Rattle.std.specs.Option.{option_map_or}
use Rattle.std.proofs.lemmas.List.Elements.{filter_map-append}
use Rattle.std.proofs.lemmas.List.Sums.{sum_by-cons}
use Rattle.rely_hard.specs.declared.hardware.Hardware.{Hardware}
use Rattle.rely_kernel.specs.declared.kernel.Kernel.{Kernel}
use Rattle.rely_kernel.specs.declared.kernel.Linked.{Linked}
use Rattle.rely_kernel.specs.declared.label.Label.{Label}
use Rattle.rely_kernel.specs.declared.setting.Setting.{Setting}
use Rattle.rely_kernel.specs.declared.setting.Store.{Store}
use Rattle.rely_kernel.specs.Machine.{Config, Item, IsFinished, after, functions, label_of, main, moment, moment_of, passed, steps, trace}
use Rattle.rely_kernel.specs.Rates.{settings}
use Rattle.rely_kernel.proofs.Reach.{each_run_ends, one_end}
use Rattle.rely_machine.specs.declared.outcome.Outcome.{Outcome}
use Rattle.rely_machine.specs.Cost.{IsRunCost, call_energy, hold, hold_at, step_energy}
use Rattle.rely_machine.specs.Laws.{HasOutcome, OneCost, ReachesByOutcome}
use Rattle.rely_machine.specs.Run.{IsOutcome, IsRun, called, calls, entered, first, uses, uses_at}
use Rattle.rely_machine.proofs.Counting.{same_range}
use Rattle.rely_machine.proofs.Ending.{same_at_end, steps_within}
use Rattle.rely_machine.proofs.Reading.{found_last}

module _ (fs : List Kernel) where
  -- ---- what a finished configuration adds

  unlabelled_by : (is : List Item) (f : ℕ) → is ≡ [] → label_of (moment_of f is) ≡ None
  unlabelled_by is f over = rw over refl

  no_call_by : (is : List Item) (f : ℕ) → is ≡ [] → called fs f is ≡ None
  no_call_by is f over = rw over refl

  adds_no_label : (c : Config) (ms : List (ℕ × Label)) → IsFinished c → filter_map (λ d. label_of (moment d)) (c ∷ []) ++ ms ≡ ms
  adds_no_label c ms over = rw (unlabelled_by c.items c.function over) refl

  adds_no_call : (g : ℕ) (c : Config) (n : ℕ) → IsFinished c → cond (calls fs g c) 1 0 + n ≡ n
  adds_no_call g c n over = rw (no_call_by c.items c.function over) (omega arith)

  -- ---- so each end has the same counts

  pub same_trace : (m n : ℕ) (c : Config) → IsFinished (after fs m c) → IsFinished (after fs n c) → trace fs m c ≡ trace fs n c
  same_trace m n c =
      same_at_end fs (filter_map (λ d. label_of (moment d))) (λ c. filter_map (λ d. label_of (moment d)) (c ∷ [])) (λ xs ys. xs ++ ys)
      (λ c cs. filter_map-append (λ d. label_of (moment d)) (c ∷ []) cs) adds_no_label m n c

  pub same_entered : (g m n : ℕ) (c : Config) → IsFinished (after fs m c) → IsFinished (after fs n c) → entered fs (passed fs m c) g ≡ entered fs (passed fs n c) g
  same_entered g m n c =
      same_at_end fs (count_by (calls fs g)) (λ c. cond (calls fs g c) 1 0) (λ x y. x + y) (λ c cs. sum_by-cons (λ d. cond (calls fs g d) 1 0) c cs) (adds_no_call g) m n c

  pub same_steps : (m n : ℕ) (c : Config) → IsFinished (after fs m c) → IsFinished (after fs n c) → steps fs m c ≡ steps fs n c
  same_steps m n c over also = let a = steps_within fs m n c also in let b = steps_within fs n m c over in omega (arith, a, b)

-- outcomes that agree in each field
same_fields : (o p : Outcome) → o.store ≡ p.store → o.uses ≡ p.uses → o.inner ≡ p.inner → o.entries ≡ p.entries → o.steps ≡ p.steps → o ≡ p
same_fields o p store uses inner entries steps =
    ap (λ (s : Store). record { store = s; uses = o.uses; inner = o.inner; entries = o.entries; steps = o.steps }) store
    ∙ (ap (λ (us : List ℕ). record { store = p.store; uses = us; inner = o.inner; entries = o.entries; steps = o.steps }) uses
    ∙ (ap (λ (rows : List (List ℕ)). record { store = p.store; uses = p.uses; inner = rows; entries = o.entries; steps = o.steps }) inner
    ∙ (ap (λ (es : List ℕ). record { store = p.store; uses = p.uses; inner = p.inner; entries = es; steps = o.steps }) entries
    ∙ ap (λ n. record { store = p.store; uses = p.uses; inner = p.inner; entries = p.entries; steps = n }) steps)))

module _ (l : Linked) (start : Store) where
  finished : (n : ℕ) (end : Config) → IsRun l start n end → IsFinished (after (functions l) n (first l start))
  finished n end run = subst IsFinished (sym run.leads) run.over

  -- two outcomes of one start are the same
  pub one_outcome : (o p : Outcome) → IsOutcome l start o → IsOutcome l start p → o ≡ p
  one_outcome o p h j =
      let over : IsFinished (after (functions l) h.n (first l start)) = finished h.n h.end h.run in
      let also : IsFinished (after (functions l) j.n (first l start)) = finished j.n j.end j.run in
      let traces : trace (functions l) h.n (first l start) ≡ trace (functions l) j.n (first l start) = same_trace (functions l) h.n j.n (first l start) over also in
      let ends : h.end ≡ j.end = one_end (functions l) (first l start) h.end j.end (h.n, h.run.leads, h.run.over) (j.n, j.run.leads, j.run.over) in
      same_fields o p
      (h.store ∙ (ap (λ (c : Config). c.store) ends ∙ sym j.store))
      (h.uses ∙ (ap (uses l.kernel (main l)) traces ∙ sym j.uses))
      (h.inner ∙ (ap (λ tr. map (uses_at (functions l) tr) (range_with_len 0 (length l.inner))) traces ∙ sym j.inner))
      (h.entries ∙ (same_range (entered (functions l) (passed (functions l) h.n (first l start))) (entered (functions l) (passed (functions l) j.n (first l start))) 0 (length l.inner)
      (λ g b. same_entered (functions l) g h.n j.n (first l start) over also) ∙ sym j.entries))
      (h.steps ∙ (same_steps (functions l) h.n j.n (first l start) over also ∙ sym j.steps))

-- and each start has one
pub has_outcome : HasOutcome
has_outcome l start linked begins =
    let fs : List Kernel = functions l in
    let ends = each_run_ends fs (main l) l.kernel start linked (found_last l.inner l.kernel) begins in
    let n : ℕ = ends.1.0 in
    let tr : List (ℕ × Label) = trace fs n (first l start) in
    let o : Outcome = record {
      store = ends.0.store;
      uses = uses l.kernel (main l) tr;
      inner = map (uses_at fs tr) (range_with_len 0 (length l.inner));
      entries = map (entered fs (passed fs n (first l start))) (range_with_len 0 (length l.inner));
      steps = steps fs n (first l start);
    } in
    (o, record { n = n; end = ends.0; run = record { leads = ends.1.1; over = ends.1.2 }; store = refl; uses = refl; inner = refl; entries = refl; steps = refl })

-- a limit is reached by the steps of the outcome
pub reaches_by_outcome : ReachesByOutcome
reaches_by_outcome l start o limit is = (
  λ reached.
      let same = same_steps (functions l) is.n reached.n (first l start) (finished l start is.n is.end is.run) (finished l start reached.n reached.end reached.run) in
      omega (arith, same, is.steps, reached.steps),
  λ many. record { n = is.n; end = is.end; run = is.run; steps = omega (arith, many, is.steps) },
)

-- ---- costs

module _ (h : Hardware) (fs : List Kernel) (ts : List Setting) where
  -- a finished configuration calls nothing
  free_by : (is : List Item) (f : ℕ) → is ≡ [] → option_map_or (hold_at h fs ts) (called fs f is) 0 ≡ 0
  free_by is f over = rw over refl

  adds_nothing : (c : Config) (n : ℕ) → IsFinished c → call_energy h fs ts c + n ≡ n
  adds_nothing c n over = rw (free_by c.items c.function over) (omega arith)

  same_calls : (m n : ℕ) (c : Config) → IsFinished (after fs m c) → IsFinished (after fs n c) → sum_by (call_energy h fs ts) (passed fs m c) ≡ sum_by (call_energy h fs ts) (passed fs n c)
  same_calls m n c = same_at_end fs (sum_by (call_energy h fs ts)) (call_energy h fs ts) (λ x y. x + y) (λ c cs. sum_by-cons (call_energy h fs ts) c cs) adds_nothing m n c

module _ (h : Hardware) (l : Linked) (t : Setting) where
  one_run_cost : (s : Store) (a b : ℕ) → IsRunCost h l t s a → IsRunCost h l t s b → a ≡ b
  one_run_cost s a b x y =
      let fs : List Kernel = functions l in
      let over : IsFinished (after fs x.n (first l s)) = finished l s x.n x.end x.run in
      let also : IsFinished (after fs y.n (first l s)) = finished l s y.n y.end y.run in
      let steps : sum_by (step_energy h fs (settings l t)) (trace fs x.n (first l s)) ≡ sum_by (step_energy h fs (settings l t)) (trace fs y.n (first l s)) =
      ap (sum_by (step_energy h fs (settings l t))) (same_trace fs x.n y.n (first l s) over also) in
      let calls = same_calls h fs (settings l t) x.n y.n (first l s) over also in
      x.is ∙ same_sum (hold h l.kernel t) _ _ _ _ steps calls ∙ sym y.is
    where
      same_sum : (c a b d e : ℕ) → a ≡ b → d ≡ e → c + a + d ≡ c + b + e
      same_sum c a b d e p q = omega (arith, p, q)

  one_list : (ss : List Store) (cs bs : List ℕ) → AllZip (IsRunCost h l t) ss cs → AllZip (IsRunCost h l t) ss bs → cs ≡ bs
  one_list [] [] [] x y = refl
  one_list [] [] (b ∷ bs) x y = absurd y
  one_list [] (a ∷ cs) bs x y = absurd x
  one_list (s ∷ ss) [] bs x y = absurd x
  one_list (s ∷ ss) (a ∷ cs) [] x y = absurd y
  one_list (s ∷ ss) (a ∷ cs) (b ∷ bs) x y = ap (λ n. n ∷ cs) (one_run_cost s a b x.0 y.0) ∙ ap (λ ns. b ∷ ns) (one_list ss cs bs x.1 y.1)

pub one_cost : OneCost
one_cost h l t ss a b x y = x.is ∙ ap sum (one_list h l t ss x.costs y.costs x.each y.each) ∙ sym y.is
