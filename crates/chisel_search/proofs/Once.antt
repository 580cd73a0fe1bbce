-- A rule and a pick that are functions have one run.
use Rattle.std.proofs.Common.{◌≡◌, ℕ, zero, suc, ◌≤◌, ◌<◌, List, [], length, refl, sym, ap, ◌∙◌, arith, Option}
use Rattle.std.specs.Prelude.{slice_index_or}
use Rattle.chisel_table.specs.declared.partial.Partial.{Partial}
use Rattle.chisel_table.specs.declared.table.Table.{Table}
use Rattle.chisel_table.specs.Partials.{nothing_fixed}
use Rattle.chisel_search.specs.declared.part.Part.{Part}
use Rattle.chisel_search.specs.Laws.{pick_of}
use Rattle.chisel_search.specs.Search.{Search, end, Fate, closed, complete, divided, fate, after, Step, Run, rule_of}

module _ (t : Table) (pool : List (List ℕ)) (rule : Partial → ℕ) (pick : List Part → ℕ) where
  after_one : (s : Search) (k : ℕ) (p : Partial) (d e : ℕ) (f : Fate) → (f ≡ divided → d ≡ e) → after t s k p d f ≡ after t s k p e f
  after_one s k p d e closed h = refl
  after_one s k p d e complete h = refl
  after_one s k p d e divided h = ap (λ x. after t s k p x divided) (h refl)

  step_one : (s a b : Search) → Step t pool (rule_of rule) (pick_of pick) s a → Step t pool (rule_of rule) (pick_of pick) s b → a ≡ b
  step_one s a b x y =
      let k : x.place ≡ y.place = x.picked ∙ sym y.picked in
      let p : x.part ≡ y.part = x.part_is ∙ ap (λ i. slice_index_or s.parts i (nothing_fixed t)) k ∙ sym y.part_is in
      let d : fate t pool s.best y.part ≡ divided → x.decision ≡ y.decision =
      λ e. x.answered (ap (fate t pool s.best) p ∙ e) ∙ ap rule p ∙ sym (y.answered e) in
      x.next_is
      ∙ (λ i. after t s (k i) (p i) x.decision (fate t pool s.best (p i)))
      ∙ after_one s y.place y.part x.decision y.decision (fate t pool s.best y.part) d
      ∙ sym y.next_is

  pub run_one : (m n : ℕ) (s e : Search) (best : Option (List ℕ)) → Run t pool (rule_of rule) (pick_of pick) m s (end best) →
      Run t pool (rule_of rule) (pick_of pick) n s e → (n ≤ m) × (0 < length e.parts → n < m)
  run_one zero zero s e best r q = (omega arith, λ l. absurd (let z : e.parts ≡ [] = ap (λ (x : Search). x.parts) (sym q ∙ r) in let y = ap length z in omega arith))
  run_one (suc m) zero s e best r q = (omega arith, λ l. omega arith)
  run_one zero (suc n) s e best r q = absurd (let z = ap (λ (x : Search). length x.parts) r in let l = q.1.in_list in omega arith)
  run_one (suc m) (suc n) s e best r q =
      let same = step_one s q.0 r.0 q.1 r.1 in
      let a = run_one m n r.0 e best r.2 (rw same at q.2) in
      (let l = a.0 in omega arith, λ l. let b = a.1 l in omega arith)
