-- Each task has at most one answer.
use Rattle.std.proofs.Common.{◌≡◌, ℕ, false, ◌+◌, ◌<◌, List, [], ◌∷◌, length, Option, Ok, Err, Result, inl, inr, ◌⊎◌, refl, sym, ap, ◌∙◌, subst, arith}
use Rattle.std.specs.Prelude.{nat_lt, sum_by}
use Rattle.std.specs.List.{AllZip}
use Rattle.std.proofs.lemmas.Bool.{ltb-true}
use Rattle.std.proofs.lemmas.Bool.Decides.{nat_tests}
use Rattle.rely_num.specs.Texts.{Bytes}
use Rattle.rely_kernel.specs.declared.kernel.Linked.{Linked}
use Rattle.rely_kernel.specs.declared.setting.Store.{Store}
use Rattle.rely_machine.specs.declared.outcome.Outcome.{Outcome}
use Rattle.rely_machine.specs.Run.{IsOutcome}
use Rattle.rely_machine.proofs.Determined.{one_outcome}
use Rattle.chisel_table.specs.declared.table.Table.{Table}
use Rattle.chisel_table.proofs.Choices.{least_unique}
use Rattle.chisel_table.proofs.Sums.{by_test}
use Rattle.chisel_cert.specs.declared.fault.CertFault.{CertFault}
use Rattle.chisel_cert.specs.declared.fault.CertFault.TheVariants as fault
use Rattle.chisel_cert.specs.Ranges.{IsWithin}
use Rattle.chisel_cert.specs.Reading.{certificate_at}
use Rattle.chisel_cert.specs.Tree.{Certificate}
use Rattle.chisel_cert.specs.Valid.{IsClaimed, energy_of}
use Rattle.chisel_cert.proofs.Texts.{read_within}
use Rattle.chisel_check.specs.declared.node.CheckWhy.{CheckWhy}
use Rattle.chisel_check.specs.declared.node.CheckWhy.TheVariants as why
use Rattle.chisel_check.specs.Failures.{AreTold, FailsFirst, IsHeaded, IsSized, IsTold, root_line}
use Rattle.chisel_check.specs.Walk.{walk}
use Rattle.chisel_check.proofs.Failing.{fails_invalid}
use Rattle.chisel_table.specs.Partials.{nothing_fixed}
use Rattle.chisel_lines.specs.Answers.{answer_status, answer_text}
use Rattle.chisel_lines.specs.declared.answer.Answer.{Answer}
use Rattle.chisel_lines.specs.declared.answer.Answer.TheVariants.{Text}
use Rattle.chisel_problem.specs.Problem.{table_of}
use Rattle.chisel_source.specs.declared.ready.Ready.{Ready}
use Rattle.chisel_optimise.specs.declared.certified.Asked.{Asked}
use Rattle.chisel_optimise.specs.Answers.{AnswersBy, Certify, IsInvalid, IsMeasured, Job, Judges, Measure, OneAnswer, Optimise, Optimises, behind_text, grade_of_best, measures_of}
use Rattle.chisel_optimise.specs.Lines.{invalid, measure_lines}
use Rattle.chisel_optimise.specs.Searches.{Finds, Passes, measured, printed}
use Rattle.chisel_optimise.specs.Tables.{AreOutcomes, ComesTo, Ends, IsTooLarge, TakeTooLong, predicates_of}
use Rattle.chisel_bound.specs.Ascent.{ascended}
use Rattle.chisel_cert.specs.Text.{text_of}
use Rattle.chisel_strategy.specs.Branching.{decision}
use Rattle.chisel_strategy.specs.Picking.{place}
use Rattle.chisel_search.specs.Search.{end, start}
use Rattle.chisel_search.proofs.Once.{run_one}
use Rattle.chisel_options.specs.declared.strategy.Strategy.{Strategy}

-- ---- certificates

-- which part of a certificate fails first: its sizes, its choice, its energy, a row or a node
abbrev Failing : Table → Certificate → ℕ → CheckWhy → Type 0
Failing t c line reason =
    ((reason ≡ why.Size) × (line ≡ 2) × (IsSized t c → ⊥))
    ⊎ (((reason ≡ why.Choice) × (line ≡ 3) × IsSized t c × (IsClaimed t c.choice → ⊥))
    ⊎ (((reason ≡ why.Energy) × (line ≡ 4) × IsSized t c × IsClaimed t c.choice × (c.energy ≡ energy_of t c.choice → ⊥))
    ⊎ (((reason ≡ why.Row) × IsHeaded t c × ((i : ℕ) × (line ≡ i + 5) × (i < length c.restated) × AreTold t c i × (IsTold t c i → ⊥)))
    ⊎ (IsHeaded t c × AreTold t c (length c.restated) × (walk t c.pool c.choice (nothing_fixed t) c.root (root_line c) ≡ Err (record { line = line; why = reason }))))))

failing : (t : Table) (c : Certificate) (line : ℕ) (reason : CheckWhy) → FailsFirst t c line reason → Failing t c line reason
failing t c line why.Size h = inl (refl, h.0, h.1)
failing t c line why.Choice h = inr (inl (refl, h.0, h.1, h.2))
failing t c line why.Energy h = inr (inr (inl (refl, h.0, h.1, h.2, h.3)))
failing t c line why.Row h = inr (inr (inr (inl (refl, h.0, h.1))))
failing t c line why.Branch h = inr (inr (inr (inr h)))
failing t c line why.Children h = inr (inr (inr (inr h)))
failing t c line why.Leaf h = inr (inr (inr (inr h)))

-- of two rows that fail first neither is before the other
one_row : (t : Table) (c : Certificate) (i j : ℕ) → i < length c.restated → AreTold t c i → (IsTold t c i → ⊥) → j < length c.restated → AreTold t c j → (IsTold t c j → ⊥) → i ≡ j
one_row t c i j il itold ifails jl jtold jfails =
    by_test (nat_lt i j)
    (λ e. absurd (ifails (jtold i (ltb-true i j e))))
    (λ e. by_test (nat_lt j i)
    (λ f. absurd (jfails (itold j (ltb-true j i f))))
    (λ f. search_equal e f))
  where
    search_equal : nat_lt i j ≡ false → nat_lt j i ≡ false → i ≡ j
    search_equal e f = grind (arith, nat_tests, e, f)

same_error : {A E : Type 0} (e f : E) → ◌≡◌ {A = Result A E} (Err e) (Err f) → e ≡ f
same_error e f same = cc

one_failure : (t : Table) (c : Certificate) (l m : ℕ) (v w : CheckWhy) → Failing t c l v → Failing t c m w → (l ≡ m) × (v ≡ w)
one_failure t c l m v w (inl a) (inl b) = (a.1 ∙ sym b.1, a.0 ∙ sym b.0)
one_failure t c l m v w (inl a) (inr (inl b)) = absurd (a.2 b.2)
one_failure t c l m v w (inl a) (inr (inr (inl b))) = absurd (a.2 b.2)
one_failure t c l m v w (inl a) (inr (inr (inr (inl b)))) = absurd (a.2 b.1.sized)
one_failure t c l m v w (inl a) (inr (inr (inr (inr b)))) = absurd (a.2 b.0.sized)
one_failure t c l m v w (inr (inl a)) (inl b) = absurd (b.2 a.2)
one_failure t c l m v w (inr (inl a)) (inr (inl b)) = (a.1 ∙ sym b.1, a.0 ∙ sym b.0)
one_failure t c l m v w (inr (inl a)) (inr (inr (inl b))) = absurd (a.3 b.3)
one_failure t c l m v w (inr (inl a)) (inr (inr (inr (inl b)))) = absurd (a.3 b.1.claimed)
one_failure t c l m v w (inr (inl a)) (inr (inr (inr (inr b)))) = absurd (a.3 b.0.claimed)
one_failure t c l m v w (inr (inr (inl a))) (inl b) = absurd (b.2 a.2)
one_failure t c l m v w (inr (inr (inl a))) (inr (inl b)) = absurd (b.3 a.3)
one_failure t c l m v w (inr (inr (inl a))) (inr (inr (inl b))) = (a.1 ∙ sym b.1, a.0 ∙ sym b.0)
one_failure t c l m v w (inr (inr (inl a))) (inr (inr (inr (inl b)))) = absurd (a.4 b.1.energy)
one_failure t c l m v w (inr (inr (inl a))) (inr (inr (inr (inr b)))) = absurd (a.4 b.0.energy)
one_failure t c l m v w (inr (inr (inr (inl a)))) (inl b) = absurd (b.2 a.1.sized)
one_failure t c l m v w (inr (inr (inr (inl a)))) (inr (inl b)) = absurd (b.3 a.1.claimed)
one_failure t c l m v w (inr (inr (inr (inl a)))) (inr (inr (inl b))) = absurd (b.4 a.1.energy)
one_failure t c l m v w (inr (inr (inr (inl (p, h, (i, line, il, told, fails)))))) (inr (inr (inr (inl (q, k, (j, line', jl, told', fails')))))) =
    let same = one_row t c i j il told fails jl told' fails' in (omega arith, p ∙ sym q)
one_failure t c l m v w (inr (inr (inr (inl (p, h, (i, line, il, told, fails)))))) (inr (inr (inr (inr b)))) = absurd (fails (b.1 i il))
one_failure t c l m v w (inr (inr (inr (inr a)))) (inl b) = absurd (b.2 a.0.sized)
one_failure t c l m v w (inr (inr (inr (inr a)))) (inr (inl b)) = absurd (b.3 a.0.claimed)
one_failure t c l m v w (inr (inr (inr (inr a)))) (inr (inr (inl b))) = absurd (b.4 a.0.energy)
one_failure t c l m v w (inr (inr (inr (inr a)))) (inr (inr (inr (inl (q, k, (j, line, jl, told, fails)))))) = absurd (fails (a.1 j jl))
one_failure t c l m v w (inr (inr (inr (inr a)))) (inr (inr (inr (inr b)))) = let same = same_error _ _ (sym a.2 ∙ b.2) in (λ i. (same i).line, λ i. (same i).why)

one_invalid : (t : Table) (c : Certificate) (a b : Answer) → IsInvalid t c a → IsInvalid t c b → a ≡ b
one_invalid t c a b h k =
    let same = one_failure t c h.line k.line h.why k.why (failing t c h.line h.why h.fails) (failing t c k.line k.why k.fails) in
    h.answer ∙ ((λ i. invalid (same.0 i) (same.1 i)) ∙ sym k.answer)

one_judgement : (r : Ready) (t : Table) (c : Certificate) (what : Asked) (a b : Answer) → IsWithin c → Judges r t c what a → Judges r t c what b → a ≡ b
one_judgement r t c what a b within (inl x) (inl y) = x.1 ∙ sym y.1
one_judgement r t c what a b within (inl x) (inr y) = absurd (fails_invalid t c y.line y.why within y.fails x.0)
one_judgement r t c what a b within (inr x) (inl y) = absurd (fails_invalid t c x.line x.why within x.fails y.0)
one_judgement r t c what a b within (inr x) (inr y) = one_invalid t c a b x y

-- ---- tables

same_outcomes : (l : Linked) (starts : List Store) (xs ys : List Outcome) → AllZip (IsOutcome l) starts xs → AllZip (IsOutcome l) starts ys → xs ≡ ys
same_outcomes l [] [] [] h k = refl
same_outcomes l [] [] (y ∷ ys) h k = absurd k
same_outcomes l [] (x ∷ xs) ys h k = absurd h
same_outcomes l (s ∷ starts) [] ys h k = absurd h
same_outcomes l (s ∷ starts) (x ∷ xs) [] h k = absurd k
same_outcomes l (s ∷ starts) (x ∷ xs) (y ∷ ys) h k =
    let first = one_outcome l s x y h.0 k.0 in let rest = same_outcomes l starts xs ys h.1 k.1 in λ i. first i ∷ rest i

-- the samples don't both reach the limit and stay below it
long_or_short : (l : Linked) (starts : List Store) (runs : List Outcome) → TakeTooLong l starts → AreOutcomes l starts runs → ⊥
long_or_short l starts runs h k =
    let same = ap (λ os. sum_by (λ o. o.steps) os) (same_outcomes l starts h.runs runs h.each k.each) in
    let long = h.long in
    let short = k.short in omega arith

one_too_large : (r : Ready) (a b : Answer) → IsTooLarge r.hardware r.linked.kernel a → IsTooLarge r.hardware r.linked.kernel b → a ≡ b
one_too_large r a b (inl x) (inl y) = x.1 ∙ sym y.1
one_too_large r a b (inl x) (inr y) = absurd (let many = x.0 in let few = y.0.few_decisions in omega arith)
one_too_large r a b (inr x) (inl y) = absurd (let many = y.0 in let few = x.0.few_decisions in omega arith)
one_too_large r a b (inr x) (inr y) = x.1 ∙ sym y.1

one_end : (r : Ready) (starts : List Store) (a b : Answer) → Ends r starts a → Ends r starts b → a ≡ b
one_end r starts a b (inl x) (inl y) = let same = sym x ∙ y in cc
one_end r starts a b (inl x) (inr (inl y)) = absurd (let clash = sym x ∙ y.0 in cc)
one_end r starts a b (inl x) (inr (inr y)) = absurd (let clash = sym x ∙ y.1 in cc)
one_end r starts a b (inr (inl x)) (inl y) = absurd (let clash = sym y ∙ x.0 in cc)
one_end r starts a b (inr (inl x)) (inr (inl y)) = x.1.1 ∙ sym y.1.1
one_end r starts a b (inr (inl x)) (inr (inr y)) = absurd (long_or_short r.linked starts y.0 x.1.0 y.2)
one_end r starts a b (inr (inr x)) (inl y) = absurd (let clash = sym y ∙ x.1 in cc)
one_end r starts a b (inr (inr x)) (inr (inl y)) = absurd (long_or_short r.linked starts x.0 y.1.0 x.2)
one_end r starts a b (inr (inr x)) (inr (inr y)) = one_too_large r a b x.3 y.3

-- a command that ends before its table comes to none
ends_or_goes_on : (r : Ready) (starts : List Store) (a : Answer) (t : Table) → Ends r starts a → ComesTo r starts t → ⊥
ends_or_goes_on r starts a t (inl x) c = let clash = sym x ∙ c.goes_on in cc
ends_or_goes_on r starts a t (inr (inl x)) c = long_or_short r.linked starts c.runs x.1.0 c.outcomes
ends_or_goes_on r starts a t (inr (inr (runs, on, outcomes, inl x))) c = c.few_decisions x.0
ends_or_goes_on r starts a t (inr (inr (runs, on, outcomes, inr x))) c = c.few_options x.0

one_table : (r : Ready) (starts : List Store) (t u : Table) → ComesTo r starts t → ComesTo r starts u → t ≡ u
one_table r starts t u c d =
    c.table ∙ (ap (table_of r.hardware r.linked (predicates_of r.linked.kernel)) (same_outcomes r.linked starts c.runs d.runs c.outcomes.each d.outcomes.each) ∙ sym d.table)

-- so is what follows the table, where it has one answer for each
one_behind_table : (r : Ready) (starts : List Store) (P : Table → Answer → Type 0) → ((t : Table) (a b : Answer) → P t a → P t b → a ≡ b) → (a b : Answer)
    → Ends r starts a ⊎ ((t : Table) × ComesTo r starts t × P t a) → Ends r starts b ⊎ ((t : Table) × ComesTo r starts t × P t b) → a ≡ b
one_behind_table r starts P one a b (inl x) (inl y) = one_end r starts a b x y
one_behind_table r starts P one a b (inl x) (inr (u, d, q)) = absurd (ends_or_goes_on r starts a u x d)
one_behind_table r starts P one a b (inr (t, c, p)) (inl y) = absurd (ends_or_goes_on r starts b t y c)
one_behind_table r starts P one a b (inr (t, c, p)) (inr (u, d, q)) = one t a b p (subst (λ v. P v b) (sym (one_table r starts t u c d)) q)

-- ---- searches

-- a search takes so many visits
same_visits : (t : Table) (s : Strategy) (m n : ℕ) (x y : Option (List ℕ)) → Finds t s m x → Finds t s n y → m ≡ n
same_visits t s m n x y h k =
    let a = run_one t (ascended t) (decision t s.branch) (place s.order) m n (start t) (end y) x h.run k.run in
    let b = run_one t (ascended t) (decision t s.branch) (place s.order) n m (start t) (end x) y k.run h.run in
    let up = a.0 in
    let down = b.0 in omega arith

finds_or_passes : (t : Table) (s : Strategy) (m : ℕ) (x : Option (List ℕ)) → Finds t s m x → Passes t s → ⊥
finds_or_passes t s m x h p =
    let a = run_one t (ascended t) (decision t s.branch) (place s.order) m s.nodes (start t) p.state x h.run p.run in
    let more = a.1 p.open_part in
    let few = h.few in omega arith

one_optimum : (s : Strategy) (t : Table) (a b : Answer) → Optimises t s a → Optimises t s b → a ≡ b
one_optimum s t a b (inl x) (inl y) =
    let best = least_unique t x.best y.best x.finds.least y.finds.least in
    x.answer ∙ ((λ i. Text (text_of (printed t s (best i))) (grade_of_best (best i))) ∙ sym y.answer)
one_optimum s t a b (inl x) (inr y) = absurd (finds_or_passes t s x.visits x.best x.finds y.0)
one_optimum s t a b (inr x) (inl y) = absurd (finds_or_passes t s y.visits y.best y.finds x.0)
one_optimum s t a b (inr x) (inr y) = x.1 ∙ sym y.1

one_measure : (source : ℕ) (t : Table) (a b : Answer) → IsMeasured source t a → IsMeasured source t b → a ≡ b
one_measure source t a b (inl x) (inl y) =
    let best = least_unique t x.best y.best x.finds.least y.finds.least in
    let visits = same_visits t measured x.visits y.visits x.best y.best x.finds y.finds in
    x.answer ∙ ((λ i. Text (measure_lines (measures_of source t (visits i) (printed t measured (best i)))) (grade_of_best (best i))) ∙ sym y.answer)
one_measure source t a b (inl x) (inr y) = absurd (finds_or_passes t measured x.visits x.best x.finds y.0)
one_measure source t a b (inr x) (inl y) = absurd (finds_or_passes t measured y.visits y.best y.finds x.0)
one_measure source t a b (inr x) (inr y) = x.1 ∙ sym y.1

-- ---- tasks

one_certified : (r : Ready) (starts : List Store) (text : Bytes) (what : Asked) (a b : Answer) → behind_text r starts what (certificate_at text) a → behind_text r starts what (certificate_at text) b → a ≡ b
one_certified r starts text what a b = go (certificate_at text) refl
  where
    go : (x : Result Certificate CertFault) → certificate_at text ≡ x → behind_text r starts what x a → behind_text r starts what x b → a ≡ b
    go (Err (fault.At line reason)) e p q = p ∙ sym q
    go (Err fault.Memory) e p q = absurd p
    go (Ok c) e p q = one_behind_table r starts (λ t x. Judges r t c what x) (λ t x y. one_judgement r t c what x y (read_within text c e)) a b p q

one_by : (r : Ready) (starts : List Store) (job : Job) (a b : Answer) → AnswersBy r starts job a → AnswersBy r starts job b → a ≡ b
one_by r starts (Optimise s) a b p q = one_behind_table r starts (λ t x. Optimises t s x) (one_optimum s) a b p q
one_by r starts (Certify what text) a b p q = one_certified r starts text what a b p q
one_by r starts Measure a b p q = one_behind_table r starts (λ t x. IsMeasured (length r.text) t x) (one_measure (length r.text)) a b p q

pub one_answer : OneAnswer
one_answer i text text' s s' (a, p, both) (b, q, both') =
    let same = one_by i.ready i.starts i.job a b p q in
    (both.0 ∙ (ap answer_text same ∙ sym both'.0), both.1 ∙ (ap answer_status same ∙ sym both'.1))
