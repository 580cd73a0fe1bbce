-- What the readers of lists cost.
use Rattle.std.proofs.Common.{◌≡◌, ℕ, zero, suc, ◌+◌, ◌≤◌, List, [], ◌∷◌, ◌++◌, length, refl, arith}
use Rattle.std.specs.List.{AllByRecursion}
use Rattle.rely_num.specs.declared.word.Word.{Word}
use Rattle.rely_parser.specs.State.{State, Read, skip_at, skip_word_at}
use Rattle.rely_parser.specs.Statements.{more_of, list_of}
use Rattle.rely_parser.specs.Units.{each_behind, some_behind}
use Rattle.rely_parser.proofs.LimitsOn.{On, on-ok, on-err, on-then, on-choose}
use Rattle.rely_parser.proofs.LimitsState.{Costs, ◌⨾◌, costs-none, costs-as, skip-costs, skip_word-costs}

-- the sum over a list
abbrev pub total : {A : Type 0} → (A → ℕ) → List A → ℕ
total f [] = 0
total f (x ∷ xs) = f x + total f xs

pub total-none : {A : Type 0} (xs : List A) → total (λ _. 0) xs ≡ 0
total-none [] = refl
total-none (x ∷ xs) = omega (arith, total-none xs)

pub total-one : {A : Type 0} (xs : List A) → total (λ _. 1) xs ≡ length xs
total-one [] = refl
total-one (x ∷ xs) = omega (arith, total-one xs)

pub all-front : {A : Type 0} (P : A → Type 0) (xs ys : List A) → AllByRecursion P xs → AllByRecursion P ys → AllByRecursion P (xs ++ ys)
all-front P [] ys p q = q
all-front P (x ∷ xs) ys p q = (p.0, all-front P xs ys p.1 q)

-- a reader costs so many operators and variables, and what it reads is such
pub record Reads {A : Type 0} (o v : A → ℕ) (P : A → Type 0) (item : Read A) : Type 0 where
  pub costs : (s : State) → On (item s) (λ y. Costs (o y.0) 0 (v y.0) (P y.0) s y.1)

pub more-costs : {A : Type 0} (o v : A → ℕ) (P : A → Type 0) (item : Read A) → Reads o v P item → (n : ℕ) (s : State) →
    On (more_of item n s) (λ y. Costs (total o y.0) 0 (total v y.0) (AllByRecursion P y.0) s y.1)
unfolding more_of
more-costs o v P item k zero s = on-err _ _
more-costs o v P item k (suc n) s =
    on-choose (skip_at 44 s) _ _ _ (skip-costs 44 s)
    (λ a p. on-then (item a) _ _ (k.costs a) (λ x q. on-then (more_of item n x.1) _ _ (more-costs o v P item k n x.1) (λ y r.
    on-ok _ _ (costs-as (p ⨾ q ⨾ r) (omega arith) (omega arith) (omega arith) (λ h. (h.0.1, h.1))))))
    (on-then (skip_at 41 s) _ _ (skip-costs 41 s) (λ e p. on-ok _ _ p))

pub list-costs : {A : Type 0} (o v : A → ℕ) (P : A → Type 0) (item : Read A) → Reads o v P item → (s : State) →
    On (list_of item s) (λ y. Costs (total o y.0) 0 (total v y.0) (AllByRecursion P y.0) s y.1)
unfolding list_of
list-costs o v P item k s =
    on-choose (skip_at 41 s) _ _ _ (skip-costs 41 s) (λ e p. on-ok _ _ p)
    (on-then (item s) _ _ (k.costs s) (λ x q. on-then (more_of item (length x.1.toks + 1) x.1) _ _ (more-costs o v P item k (length x.1.toks + 1) x.1) (λ y r.
    on-ok _ _ (q ⨾ r))))

-- no more than so many
pub each-costs : {A : Type 0} (w : Word) (o v : A → ℕ) (P : A → Type 0) (item : Read A) → Reads o v P item → (n : ℕ) (s : State) →
    On (each_behind w item n s) (λ y. Costs (total o y.0) 0 (total v y.0) (AllByRecursion P y.0 × (length y.0 ≤ n)) s y.1)
unfolding each_behind
each-costs w o v P item k zero s =
    on-choose (skip_word_at w s) _ _ _ (skip_word-costs w s) (λ a p. on-err _ _) (on-ok _ _ (costs-as (costs-none s) refl refl refl (λ h. (tt, omega arith))))
each-costs w o v P item k (suc n) s =
    on-choose (skip_word_at w s) _ _ _ (skip_word-costs w s)
    (λ a p. on-then (item a) _ _ (k.costs a) (λ x q. on-then (each_behind w item n x.1) _ _ (each-costs w o v P item k n x.1) (λ y r.
    on-ok _ _ (costs-as (p ⨾ q ⨾ r) (omega arith) (omega arith) (omega arith) (λ h. ((h.0.1, h.1.0), omega (arith, h.1.1)))))))
    (on-ok _ _ (costs-as (costs-none s) refl refl refl (λ h. (tt, omega arith))))

-- one at least, and no more than so many beside it
pub some-costs : {A : Type 0} (w : Word) (o v : A → ℕ) (P : A → Type 0) (item : Read A) → Reads o v P item → (n : ℕ) (s : State) →
    On (some_behind w item n s) (λ y. Costs (total o y.0) 0 (total v y.0) (AllByRecursion P y.0 × (1 ≤ length y.0) × (length y.0 ≤ n + 1)) s y.1)
unfolding some_behind
some-costs w o v P item k n s =
    on-then (skip_word_at w s) _ _ (skip_word-costs w s)
    (λ a p. on-then (item a) _ _ (k.costs a) (λ x q. on-then (each_behind w item n x.1) _ _ (each-costs w o v P item k n x.1) (λ y r.
    on-ok _ _ (costs-as (p ⨾ q ⨾ r) (omega arith) (omega arith) (omega arith) (λ h. ((h.0.1, h.1.0), omega arith, omega (arith, h.1.1)))))))
