-- A run that stands somewhere, and one step more.
use Rattle.std.proofs.Common.{◌≡◌, ℕ, zero, suc, ◌+◌, ◌<◌, ◌≤◌, false, List, [], ◌∷◌, ◌++◌, length, map, get_or, Some, None, refl, sym, ap, ◌∙◌, arith}
use Rattle.std.specs.Prelude.{◌==◌, slice_get, slice_set, filter_map, sum_by}
use Rattle.std.specs.List.{range_with_len}
use Rattle.std.specs.Option.{option_map_or}
use Rattle.std.proofs.lemmas.List.{append-nil}
use Rattle.std.proofs.lemmas.List.Elements.{filter_map-append}
use Rattle.std.proofs.lemmas.List.Sums.{sum_by-append}
use Rattle.rely_kernel.specs.declared.kernel.Kernel.{Kernel}
use Rattle.rely_kernel.specs.declared.kernel.Linked.{Linked}
use Rattle.rely_kernel.specs.declared.label.Label.{Label}
use Rattle.rely_kernel.specs.Labels.{number, labels_of}
use Rattle.rely_kernel.specs.Machine.{Config, functions, right, after, passed, trace, steps, steps as steps_of, moment, label_of, cost_of}
use Rattle.rely_machine.specs.Going.{Counts, Stands, Takes, one_more, with_use, with_steps, with_entry}
use Rattle.rely_machine.specs.Run.{uses_at, entered, called, calls}
use Rattle.rely_machine.proofs.Counting.{same_range, count_miss, count_hit, agrees, differs, more_range, uses_more}

-- nothing more
add-left_zero : (m : ℕ) → 0 + m ≡ m
add-left_zero m = omega arith

add-right_zero : (m : ℕ) → m + 0 ≡ m
add-right_zero m = omega arith

-- what is found is below the length
pub found_below : {X : Type 0} (xs : List X) (i : ℕ) (x : X) → slice_get xs i ≡ Some x → i < length xs
found_below [] i x e = absurd (cc)
found_below (y ∷ ys) zero x e = omega arith
found_below (y ∷ ys) (suc i) x e = let h = found_below ys i x e in omega (arith, h)

module _ (fs : List Kernel) where
  pub after_more : (n : ℕ) (c : Config) → after fs (suc n) c ≡ right fs (after fs n c)
  unfolding after
  after_more zero c = refl
  after_more (suc n) c = after_more n (right fs c)

  pub passed_more : (n : ℕ) (c : Config) → passed fs (suc n) c ≡ passed fs n c ++ after fs n c ∷ []
  unfolding passed after
  passed_more zero c = refl
  passed_more (suc n) c = ap (λ ds. c ∷ ds) (passed_more n (right fs c))

  abbrev pub label_here : Config → List (ℕ × Label)
  label_here d = filter_map (λ x. label_of (moment x)) (d ∷ [])

  pub trace_more : (n : ℕ) (c : Config) → trace fs (suc n) c ≡ trace fs n c ++ label_here (after fs n c)
  trace_more n c = ap (filter_map (λ d. label_of (moment d))) (passed_more n c) ∙ filter_map-append (λ d. label_of (moment d)) (passed fs n c) (after fs n c ∷ [])

  pub steps_more : (n : ℕ) (c : Config) → steps fs (suc n) c ≡ steps fs n c + cost_of fs (after fs n c).function (after fs n c).items
  steps_more n c =
      ap (sum_by (λ d. cost_of fs d.function d.items)) (passed_more n c)
      ∙ sum_by-append (λ d. cost_of fs d.function d.items) (passed fs n c) (after fs n c ∷ [])
      ∙ ap (λ m. steps fs n c + m) (add-left_zero (cost_of fs (after fs n c).function (after fs n c).items))

-- ---- where the run stands

module _ (l : Linked) (c d : Config) (t : Counts) (h : Stands l c d t) where
  -- one right step, by what it adds
  pub next : (u : Counts) → u.uses ≡ map (uses_at (functions l) (trace (functions l) h.n c ++ label_here (functions l) d)) (range_with_len 0 (length (functions l)))
      → u.entries ≡ map (entered (functions l) (passed (functions l) h.n c ++ d ∷ [])) (range_with_len 0 (length l.inner))
      → u.steps ≡ t.steps + cost_of (functions l) d.function d.items → Stands l c (right (functions l) d) u
  next u uses entries steps = record {
    n = suc h.n;
    leads = after_more (functions l) h.n c ∙ ap (right (functions l)) h.leads;
    uses = uses ∙ ap (λ tr. map (uses_at (functions l) tr) (range_with_len 0 (length (functions l)))) (sym (trace_more (functions l) h.n c ∙ ap (λ e. trace (functions l) h.n c ++ label_here (functions l) e) h.leads));
    entries = entries ∙ ap (λ ps. map (entered (functions l) ps) (range_with_len 0 (length l.inner))) (sym (passed_more (functions l) h.n c ∙ ap (λ e. passed (functions l) h.n c ++ e ∷ []) h.leads));
    steps = steps ∙ ap (λ m. m + cost_of (functions l) d.function d.items) h.steps ∙ sym (steps_more (functions l) h.n c ∙ ap (λ (e : Config). steps_of (functions l) h.n c + cost_of (functions l) e.function e.items) h.leads);
  }

  same_uses : label_here (functions l) d ≡ [] → t.uses ≡ map (uses_at (functions l) (trace (functions l) h.n c ++ label_here (functions l) d)) (range_with_len 0 (length (functions l)))
  same_uses none = h.uses ∙ ap (λ tr. map (uses_at (functions l) tr) (range_with_len 0 (length (functions l)))) (sym (ap (λ m. trace (functions l) h.n c ++ m) none ∙ append-nil (trace (functions l) h.n c)))

  same_entries : called (functions l) d.function d.items ≡ None → t.entries ≡ map (entered (functions l) (passed (functions l) h.n c ++ d ∷ [])) (range_with_len 0 (length l.inner))
  same_entries none = h.entries ∙ same_range (entered (functions l) (passed (functions l) h.n c)) (entered (functions l) (passed (functions l) h.n c ++ d ∷ [])) 0 (length l.inner)
      (λ g b. sym (count_miss (calls (functions l) g) (passed (functions l) h.n c) d (ap (λ o. option_map_or (λ e. e == g) o false) none)))

  -- a step that no label has, and no call
  pub plain : (n : ℕ) → label_here (functions l) d ≡ [] → called (functions l) d.function d.items ≡ None → cost_of (functions l) d.function d.items ≡ n → Stands l c (right (functions l) d) (with_steps t n)
  plain n label call cost = next (with_steps t n) (same_uses label) (same_entries call) (ap (λ m. t.steps + m) (sym cost))

  -- a step that counts nothing
  pub free : label_here (functions l) d ≡ [] → called (functions l) d.function d.items ≡ None → cost_of (functions l) d.function d.items ≡ 0 → Stands l c (right (functions l) d) t
  free label call cost = next t (same_uses label) (same_entries call) (sym (ap (λ m. t.steps + m) cost ∙ add-right_zero t.steps))

  -- a chance step
  pub chance : (k : Kernel) (lab : Label) (i : ℕ) → slice_get (functions l) d.function ≡ Some k → label_here (functions l) d ≡ (d.function, lab) ∷ [] → number k lab ≡ i → i < labels_of k
      → called (functions l) d.function d.items ≡ None → cost_of (functions l) d.function d.items ≡ 1 → Stands l c (right (functions l) d) (with_use t d.function i)
  chance k lab i known label is below call cost =
      next (with_use t d.function i)
      (ap (λ us. slice_set us d.function (one_more (get_or us d.function []) i)) h.uses
      ∙ sym (ap (λ m. map (uses_at (functions l) (trace (functions l) h.n c ++ m)) (range_with_len 0 (length (functions l)))) label
      ∙ uses_more (functions l) d.function k known lab i is below (trace (functions l) h.n c) (length (functions l)) (found_below (functions l) d.function k known)))
      (same_entries call) (ap (λ m. t.steps + m) (sym cost))

  -- a call
  pub entering : (g n : ℕ) → label_here (functions l) d ≡ [] → called (functions l) d.function d.items ≡ Some g → g < length l.inner → cost_of (functions l) d.function d.items ≡ n
      → Stands l c (right (functions l) d) (with_entry t g n)
  entering g n label call below cost =
      next (with_entry t g n) (same_uses label)
      (ap (λ es. one_more es g) h.entries
      ∙ sym (more_range (entered (functions l) (passed (functions l) h.n c)) (entered (functions l) (passed (functions l) h.n c ++ d ∷ [])) (length l.inner) g below
      (count_hit (calls (functions l) g) (passed (functions l) h.n c) d (ap (λ o. option_map_or (λ e. e == g) o false) call ∙ agrees g))
      (λ j ne. count_miss (calls (functions l) j) (passed (functions l) h.n c) d (ap (λ o. option_map_or (λ e. e == j) o false) call ∙ differs g j (λ e. ne (sym e))))))
      (ap (λ m. t.steps + m) (sym cost))

  -- where the next step would take as many steps as that
  pub too_many : (limit n : ℕ) → cost_of (functions l) d.function d.items ≡ n → limit ≤ t.steps + n → Takes l c limit
  too_many limit n cost over = record {
    n = suc h.n;
    steps = rw (steps_more (functions l) h.n c, h.leads, ← h.steps, cost) over;
  }
