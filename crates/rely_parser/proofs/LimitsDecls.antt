-- What the readers of declarations and claims cost, and which lengths and bounds they let through.
use Rattle.std.proofs.Common.{◌≡◌, ℕ, zero, suc, ◌+◌, ◌≤◌, ◌||◌, ◌==◌, nat_lt, Bool, true, false, [], ◌∷◌, take, length, Option, Some, None, Result, Ok, Err, if◌then◌else◌, refl, arith}
use Rattle.std.specs.Prelude.{IfSome}
use Rattle.std.specs.List.{AllByRecursion}
use Rattle.std.proofs.lemmas.Bool.{ltb-false, or_parts, true≢false}
use Rattle.rely_num.specs.Bounds.{S}
use Rattle.rely_num.specs.Texts.{Bytes}
use Rattle.rely_num.specs.AttoTexts.{atto_of, formed, within_one, attos_of, leaves_at}
use Rattle.rely_num.specs.declared.atto.NumFault.{NumFault}
use Rattle.rely_num.specs.declared.atto.NumFault.TheVariants as num
use Rattle.rely_num.specs.declared.op.Op.TheVariants as op
use Rattle.rely_num.specs.declared.span.Span.{Span}
use Rattle.rely_num.specs.declared.word.Word.TheVariants as word
use Rattle.rely_tree.specs.Tree.{DeclTree, SaidTree}
use Rattle.rely_parser.specs.State.{State, skip_at, number_at, name_at, word_at, first_at, skip_word_at}
use Rattle.rely_parser.specs.Statements.{list_of}
use Rattle.rely_parser.specs.Declarations.{length_at, array_at, memory_at, one_variable, decl_at}
use Rattle.rely_parser.specs.Units.{written, bound_at, is_amount, skip_sign_at, target_at, behind_bound_at, claim_at, local_at, claims_at, locals_at}
use Rattle.rely_parser.proofs.LimitsOn.{On, on-ok, on-err, on-then, on-choose, on-map, on-if}
use Rattle.rely_parser.proofs.LimitsState.{Costs, ◌⨾◌, costs-none, costs-as, first-costs, skip-costs, skip_word-costs, skip_sign-costs, name-costs, number-costs, memory-costs, one_variable-costs}
use Rattle.rely_parser.proofs.LimitsLists.{Reads, total, total-none, list-costs, each-costs, some-costs}

-- ---- declarations

one-least : (n : ℕ) → (n == 0) ≡ false → 1 ≤ n
one-least zero e = absurd (true≢false e)
one-least (suc n) e = omega arith

length-costs : (s : State) → On (length_at s) (λ y. Costs 0 0 0 ((1 ≤ y.0) × (y.0 ≤ 4096)) s y.1)
length-costs s = on-then (number_at s) _ _ (number-costs s) (λ x p. on-if (x.0 == 0 || nat_lt 4096 x.0) _ _ _ (λ _. on-err _ _)
    (λ e. let parts = or_parts (x.0 == 0) (nat_lt 4096 x.0) e in
    on-ok _ _ (costs-as p refl refl refl (λ h. (one-least x.0 parts.0, ltb-false 4096 x.0 parts.1)))))

array-costs : (s : State) → On (array_at s) (λ y. Costs 0 0 0 (IfSome y.0 (λ n. (1 ≤ n) × (n ≤ 4096))) s y.1)
array-costs s =
    on-choose (skip_at 91 s) _ _ _ (skip-costs 91 s)
    (λ a p. on-then (length_at a) _ _ (length-costs a) (λ n q. on-then (skip_at 93 n.1) _ _ (skip-costs 93 n.1) (λ e r.
    on-ok _ _ (costs-as (p ⨾ q ⨾ r) refl refl refl (λ h. h.0.1)))))
    (on-ok _ _ (costs-none s))

-- an array has from 1 to 4096 elements
abbrev pub HasLength : DeclTree → Type 0
HasLength d = IfSome d.length (λ n. (1 ≤ n) × (n ≤ 4096))

pub decl-costs : (text : Bytes) (s : State) → On (decl_at text s) (λ y. Costs 0 0 1 (HasLength y.0) s y.1)
unfolding decl_at
decl-costs text s =
    on-then (name_at text s) _ _ (name-costs text s) (λ n p. on-then (one_variable n.0.span.from n.1) _ _ (one_variable-costs n.0.span.from n.1) (λ a q.
    on-then (array_at a) _ _ (array-costs a) (λ l r. on-then (memory_at text l.1) _ _ (memory-costs text l.1) (λ m t.
    on-ok _ _ (costs-as (p ⨾ q ⨾ r ⨾ t) refl refl refl (λ h. h.0.1))))))

pub decl-reads : (text : Bytes) → Reads (λ _. 0) (λ _. 1) HasLength (decl_at text)
decl-reads text = record { costs = decl-costs text }

local-reads : (text : Bytes) → Reads (λ _. 0) (λ _. 1) HasLength (local_at text)
unfolding local_at
local-reads text = record {
  costs = λ s. on-then (decl_at text s) _ _ (decl-costs text s) (λ d p. on-then (skip_at 59 d.1) _ _ (skip-costs 59 d.1) (λ e q.
      on-ok _ _ (costs-as (p ⨾ q) refl refl refl (λ h. h.0))));
}

pub locals-costs : (text : Bytes) (s : State) →
    On (locals_at text s) (λ y. Costs (total (λ _. 0) y.0) 0 (total (λ _. 1) y.0) (AllByRecursion HasLength y.0 × (length y.0 ≤ length s.toks)) s y.1)
locals-costs text s = each-costs word.Var (λ _. 0) (λ _. 1) HasLength (local_at text) (local-reads text) (length s.toks) s

-- ---- claims

-- a bound that is written, by how its text is read
abbrev IsBound : Result ℕ NumFault → Type 0
IsBound (Ok n) = n ≤ S
IsBound (Err e) = Unit {0}

within-bound : (n : ℕ) → IsBound (within_one n)
within-bound n = go (nat_lt S n) refl
  where
    go : (b : Bool) → nat_lt S n ≡ b → IsBound (if b then Err num.Above else Ok n)
    go true e = tt
    go false e = ltb-false S n e

formed-bound : (text : Bytes) (o : Option ℕ) → IsBound (formed text o)
formed-bound text (Some n) = tt
formed-bound text None = go (nat_lt 20 (length text))
  where
    go : (b : Bool) → IsBound (if b then Err (num.Decimals 20) else within_one (attos_of text))
    go true = tt
    go false = within-bound (attos_of text)

atto-bound : (text : Bytes) → IsBound (atto_of text)
atto-bound [] = tt
atto-bound (b ∷ bs) = go (b == 43 || b == 45)
  where
    go : (sign : Bool) → IsBound (if sign then Err num.Sign else formed (b ∷ bs) (leaves_at 0 (take 20 (b ∷ bs))))
    go true = tt
    go false = formed-bound (b ∷ bs) (leaves_at 0 (take 20 (b ∷ bs)))

written-bound : (span : Span) (r : Result ℕ NumFault) → IsBound r → On (written span r) (λ n. n ≤ S)
written-bound span (Ok n) h = on-ok _ _ h
written-bound span (Err e) h = on-err _ _

bound-bound : (text : Bytes) (s : State) → On (bound_at text s) (λ n. n ≤ S)
bound-bound text s = on-then (first_at s) _ _ (first-costs s) (λ x p. on-if (is_amount x.0.kind) _ _ _
    (λ _. written-bound x.0.span (atto_of (word_at text x.0.span)) (atto-bound (word_at text x.0.span))) (λ _. on-err _ _))

target-costs : (text : Bytes) (s : State) → On (target_at text s) (λ y. Costs 0 0 0 (Unit {0}) s y.1)
target-costs text s = on-choose (skip_word_at word.Result s) _ _ _ (skip_word-costs word.Result s) (λ a p. on-ok _ _ p)
    (on-then (name_at text s) _ _ (name-costs text s) (λ n p. on-ok _ _ p))

behind_bound-costs : (s : State) → On (behind_bound_at s) (λ a. Costs 0 0 0 (Unit {0}) s a)
behind_bound-costs s =
    on-then (first_at s) _ _ (first-costs s) (λ x p. on-then (skip_sign_at op.Mul x.1) _ _ (skip_sign-costs op.Mul x.1) (λ a q.
    on-then (skip_word_at word.R a) _ _ (skip_word-costs word.R a) (λ b r. on-map (skip_at 40 b) _ (skip-costs 40 b) (λ c t.
    costs-as (p ⨾ q ⨾ r ⨾ t) refl refl refl (λ h. tt)))))

name-reads : (text : Bytes) → Reads (λ _. 0) (λ _. 0) (λ _. Unit {0}) (name_at text)
name-reads text = record { costs = name-costs text }

-- a bound is at most one
abbrev pub IsProbable : SaidTree → Type 0
IsProbable c = c.bound ≤ S

claim-reads : (text : Bytes) → Reads (λ _. 0) (λ _. 0) IsProbable (claim_at text)
unfolding claim_at
claim-reads text = record {
  costs = λ s.
      on-then (target_at text s) _ _ (target-costs text s) (λ t p. on-then (skip_sign_at op.Ge t.1) _ _ (skip_sign-costs op.Ge t.1) (λ a q.
      on-then (bound_at text a) _ _ (bound-bound text a) (λ b few. on-then (behind_bound_at a) _ _ (behind_bound-costs a) (λ c r.
      on-then (list_of (name_at text) c) _ _ (list-costs (λ _. 0) (λ _. 0) (λ _. Unit {0}) (name_at text) (name-reads text) c) (λ n u.
      on-ok _ _ (costs-as (p ⨾ q ⨾ r ⨾ u) (omega (arith, total-none n.0)) refl (omega (arith, total-none n.0)) (λ h. few)))))));
}

pub claims-costs : (text : Bytes) (s : State) →
    On (claims_at text s) (λ y. Costs (total (λ _. 0) y.0) 0 (total (λ _. 0) y.0) (AllByRecursion IsProbable y.0 × (1 ≤ length y.0) × (length y.0 ≤ 7 + 1)) s y.1)
claims-costs text s = some-costs word.Claim (λ _. 0) (λ _. 0) IsProbable (claim_at text) (claim-reads text) 7 s
