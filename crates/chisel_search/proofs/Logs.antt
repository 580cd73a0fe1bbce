-- The runs of logs.
use Rattle.std.proofs.Common.{◌≡◌, ℕ, zero, suc, ◌+◌, ◌≤◌, ◌<◌, List, [], ◌∷◌, ◌++◌, length, refl, sym, ap, subst, ◌∙◌, arith}
use Rattle.std.proofs.lemmas.List.{get_or_append_left, get_or_push, length_push}
use Rattle.std.specs.Prelude.{nat_lt}
use Rattle.std.proofs.lemmas.Bool.{ltb-true}
use Rattle.std.proofs.lemmas.Bool.Decides.{nat_tests}
use mathlib.Core.Logic.{inl, inr}
use Rattle.chisel_table.specs.declared.partial.Partial.{Partial}
use Rattle.chisel_table.specs.declared.table.Table.{Table}
use Rattle.chisel_table.specs.Partials.{with_option}
use Rattle.chisel_table.specs.Tables.{option_count}
use Rattle.chisel_table.proofs.Sums.{by_test}
use Rattle.chisel_bound.proofs.Lists.{length_listed}
use Rattle.chisel_search.specs.declared.part.Part.{Part}
use Rattle.chisel_search.specs.declared.visit.Visit.{Visit}
use Rattle.chisel_search.specs.Fold.{AnyDecision, AnyPlace, InLog}
use Rattle.chisel_search.specs.Logs.{State, Leads, Logged, first_state, state_after, visit_at, fate_of, decision_of, children_by, count_by, numbers_from}
use Rattle.chisel_search.specs.Machine.{best_after}
use Rattle.chisel_search.specs.Search.{Search, start, Fate, closed, complete, divided, fate, after, replaced, Step, Run, Divides}
use Rattle.chisel_search.proofs.Lists.{length_replaced}
use Rattle.chisel_search.proofs.Numbered.{AreNumbers, numbers_replaced}

-- ---- the state after a visit

pub after_parts : (t : Table) (s : Search) (k : ℕ) (p : Partial) (d : ℕ) (f : Fate) → (after t s k p d f).parts ≡ replaced s.parts k (children_by t p d f)
after_parts t s k p d closed = refl
after_parts t s k p d complete = refl
after_parts t s k p d divided = refl

pub after_best : (t : Table) (s : Search) (k : ℕ) (p : Partial) (d : ℕ) (f : Fate) → (after t s k p d f).best ≡ best_after t s.best p f
after_best t s k p d closed = refl
after_best t s k p d complete = refl
after_best t s k p d divided = refl

pub child_count : (t : Table) (p : Partial) (d : ℕ) (f : Fate) → length (children_by t p d f) ≡ count_by t d f
child_count t p d closed = refl
child_count t p d complete = refl
child_count t p d divided = length_listed (option_count t d) (with_option p d)

module _ (t : Table) (pool : List (List ℕ)) (Answers : Partial → ℕ → Type 0) (Picks : List Part → ℕ → Type 0) where
  -- a visit is a step
  pub step_of : (s : State) (v : Visit) (next : State) → Leads t pool Answers Picks s v next → Step t pool Answers Picks s.search next.search
  step_of s v next h = record {
    place = h.place;
    in_list = h.in_list;
    picked = h.picked;
    part = v.partial;
    part_is = h.part_is;
    decision = decision_of v.fate;
    answered = λ e. h.answered (h.fate_is ∙ e);
    next_is = ap (λ (x : State). x.search) h.next_is ∙ ap (after t s.search h.place v.partial (decision_of v.fate)) h.fate_is;
  }

  -- a visit more
  logged_front : (log : List Visit) (v : Visit) (n : ℕ) (s : State) → n ≤ length log → Logged t pool Answers Picks log n s → Logged t pool Answers Picks (log ++ v ∷ []) n s
  logged_front log v zero s l h = h
  logged_front log v (suc n) s l h =
      let same : visit_at t (log ++ v ∷ []) n ≡ visit_at t log n = get_or_append_left log (v ∷ []) _ n (omega arith) in
      (h.0, logged_front log v n h.0 (omega arith) h.1, subst (λ x. Leads t pool Answers Picks h.0 x s) (sym same) h.2)

  pub logged_push : (log : List Visit) (v : Visit) (s next : State) → Logged t pool Answers Picks log (length log) s → Leads t pool Answers Picks s v next →
      Logged t pool Answers Picks (log ++ v ∷ []) (length (log ++ v ∷ [])) next
  logged_push log v s next h w =
      let last : visit_at t (log ++ v ∷ []) (length log) ≡ v = get_or_push log v _ (length log) refl in
      let n : length (log ++ v ∷ []) ≡ suc (length log) = let a = length_push log v in omega arith in
      let all : Logged t pool Answers Picks (log ++ v ∷ []) (suc (length log)) next =
      (s, logged_front log v (length log) s (omega arith) h, subst (λ x. Leads t pool Answers Picks s x next) (sym last) w) in
      subst (λ k. Logged t pool Answers Picks (log ++ v ∷ []) k next) (sym n) all

  -- the run of a log, and behind it another run
  pub run_behind : (log : List Visit) (n m : ℕ) (s : State) (e : Search) → Logged t pool Answers Picks log n s → Run t pool Answers Picks m s.search e →
      Run t pool Answers Picks (n + m) (start t) e
  run_behind log zero m s e h r =
      let z : m ≡ 0 + m = omega arith in
      subst (λ k. Run t pool Answers Picks k (start t) e) z (subst (λ (x : State). Run t pool Answers Picks m x.search e) h r)
  run_behind log (suc n) m s e h r =
      let z : n + suc m ≡ suc n + m = omega arith in
      subst (λ k. Run t pool Answers Picks k (start t) e) z
      (run_behind log n (suc m) h.0 e h.1 (s.search, step_of h.0 (visit_at t log n) s h.2, r))

  -- a run of so many steps that divides the parts that the log divides
  pub record RunsAs (log : List Visit) (n k : ℕ) (e : Search) (Others : Partial → ℕ → Type 0) : Type 0 where
    pub run : Run t pool Answers Picks k (start t) e
    pub logged : (p : Partial) (d : ℕ) (i : InLog t log p d) → i.place < n → Divides t pool Answers Picks k (start t) e run p d
    pub others : (p : Partial) (d : ℕ) → Others p d → Divides t pool Answers Picks k (start t) e run p d

  first_runs : (log : List Visit) (m : ℕ) (s : State) (e : Search) → s ≡ first_state t → (r : Run t pool Answers Picks m s.search e) →
      RunsAs log zero m e (Divides t pool Answers Picks m s.search e r)
  first_runs log m s e h =
      let P : State → Type 0 = λ x. (r : Run t pool Answers Picks m x.search e) → RunsAs log zero m e (Divides t pool Answers Picks m x.search e r) in
      let first : P (first_state t) = λ r. record { run = r; logged = λ p d i l. absurd (omega arith); others = λ p d o. o } in
      subst P (sym h) first

  runs_as : (log : List Visit) (n m : ℕ) (s : State) (e : Search) → Logged t pool Answers Picks log n s → (r : Run t pool Answers Picks m s.search e) →
      (k : ℕ) × (k ≡ n + m) × RunsAs log n k e (Divides t pool Answers Picks m s.search e r)
  unfolding step_of
  runs_as log zero m s e h r = (m, omega arith, first_runs log m s e h r)
  runs_as log (suc n) m s e h r =
      let v = visit_at t log n in
      let q : Run t pool Answers Picks (suc m) h.0.search e = (s.search, step_of h.0 v s h.2, r) in
      let w = runs_as log n (suc m) h.0 e h.1 q in
      let same = w.1 in (
        w.0,
        omega arith,
        record {
          run = w.2.run;
          logged = λ p d i l. by_test (nat_lt i.place n)
              (λ b. w.2.logged p d i (ltb-true i.place n b))
              (λ b. let last : i.place ≡ n = grind (arith, nat_tests) in
              w.2.others p d (inl (
                ap (λ j. (visit_at t log j).partial) (sym last) ∙ i.part,
                ap (λ j. decision_of (visit_at t log j).fate) (sym last) ∙ i.decision,
                ap (fate t pool h.0.search.best) (sym (ap (λ j. (visit_at t log j).partial) (sym last) ∙ i.part))
                    ∙ sym h.2.fate_is ∙ ap (λ j. fate_of (visit_at t log j).fate) (sym last) ∙ i.divides,
              )));
          others = λ p d o. w.2.others p d (inr o);
        },
      )

  -- a log that has ended is a run that divides what the log divides
  pub log_runs : (log : List Visit) (s : State) (k : ℕ) → Logged t pool Answers Picks log (length log) s → k ≡ length log →
      (run : Run t pool Answers Picks k (start t) s.search) × ((p : Partial) (d : ℕ) → InLog t log p d → Divides t pool Answers Picks k (start t) s.search run p d)
  log_runs log s k h e =
      let w = runs_as log (length log) zero s s.search h refl in
      let F : ℕ → Type 0 = λ j. (run : Run t pool Answers Picks j (start t) s.search) × ((p : Partial) (d : ℕ) → InLog t log p d → Divides t pool Answers Picks j (start t) s.search run p d) in
      let x : F w.0 = (w.2.run, λ p d i. w.2.logged p d i i.inside) in
      let same = w.1 in
      subst F (let z : w.0 ≡ k = omega arith in z) x

  -- ---- what doesn't depend on the rule and the pick

  leads_any : (s : State) (v : Visit) (next : State) → Leads t pool Answers Picks s v next → Leads t pool AnyDecision AnyPlace s v next
  leads_any s v next h = record {
    place = h.place;
    in_list = h.in_list;
    picked = tt;
    part_is = h.part_is;
    number_is = h.number_is;
    first_is = h.first_is;
    fate_is = h.fate_is;
    answered = λ e. tt;
    next_is = h.next_is;
  }

  pub logged_any : (log : List Visit) (n : ℕ) (s : State) → Logged t pool Answers Picks log n s → Logged t pool AnyDecision AnyPlace log n s
  logged_any log zero s h = h
  logged_any log (suc n) s h = (h.0, logged_any log n h.0 h.1, leads_any h.0 (visit_at t log n) s h.2)

  -- the numbers of the open parts are apart, and as many as the parts
  pub record AreInOrder (s : State) : Type 0 where
    pub numbers : AreNumbers s.numbers s.made
    pub size : length s.search.parts ≡ length s.numbers

  first_in_order : AreInOrder (first_state t)
  first_in_order = record { numbers = record { below = (omega arith, tt); apart = (tt, tt) }; size = refl }

  after_in_order : (s : State) (k : ℕ) (v : Visit) → k < length s.search.parts → AreInOrder s → AreInOrder (state_after t s k v)
  after_in_order s k v l h =
      let d = decision_of v.fate in
      let f = fate_of v.fate in
      let n = count_by t d f in
      let m : k < length s.numbers = let z = h.size in omega arith in
      record {
        numbers = numbers_replaced s.numbers k s.made n h.numbers;
        size =
            let a = ap length (after_parts t s.search k v.partial d f) in
            let b = length_replaced s.search.parts k (children_by t v.partial d f) l in
            let c = length_replaced s.numbers k (numbers_from s.made n) m in
            let e = child_count t v.partial d f in
            let g = length_listed n (λ o. s.made + o) in
            let z = h.size in omega arith;
      }

  pub logged_in_order : (log : List Visit) (n : ℕ) (s : State) → Logged t pool Answers Picks log n s → AreInOrder s
  logged_in_order log zero s h = subst AreInOrder (sym h) first_in_order
  logged_in_order log (suc n) s h =
      let w = h.2 in
      subst AreInOrder (sym w.next_is) (after_in_order h.0 w.place (visit_at t log n) w.in_list (logged_in_order log n h.0 h.1))
