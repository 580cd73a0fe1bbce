-- What the readers of one token cost, and that they leave the numbers of the text below 2^63.
use Rattle.std.proofs.Common.{◌≡◌, ℕ, zero, suc, ◌+◌, ◌-◌, ◌==◌, false, List, [], ◌∷◌, refl, subst, arith}
use Rattle.std.proofs.lemmas.Bool.{true≢false}
use Rattle.rely_num.specs.Texts.{Bytes}
use Rattle.rely_num.specs.declared.op.Op.{Op}
use Rattle.rely_num.specs.declared.span.Span.{Span}
use Rattle.rely_lexer.specs.declared.token.Token.{Token}
use Rattle.rely_lexer.specs.declared.token.TokenKind.{TokenKind}
use Rattle.rely_lexer.specs.declared.token.TokenKind.TheVariants as kind
use Rattle.rely_num.specs.declared.word.Word.{Word}
use Rattle.rely_num.specs.declared.word.Word.TheVariants as word
use Rattle.rely_parser.specs.State.{State, first_from, first_at, marked, skip_at, named, name_at, suffix_at, signed, operator_at, one_operator, worded, skip_word_at, numbered, number_at, count_at}
use Rattle.rely_parser.specs.Grammar.{kind_at}
use Rattle.rely_parser.specs.Statements.{one_call}
use Rattle.rely_parser.specs.Declarations.{one_variable, chosen, choice_at, memory_at}
use Rattle.rely_parser.specs.Units.{with_sign, skip_sign_at}
use Rattle.rely_parser.proofs.LimitsOn.{On, on-ok, on-err, on-then, on-choose, on-map, on-if}
use Rattle.rely_parser.proofs.LimitsTokens.{IsSmall, AreSmall}

-- from one state to another: so many operators, calls and variables less may stand, and where the numbers were small they still are, and what is said holds
pub record Costs (operators calls variables : ℕ) (P : Type 0) (s a : State) : Type 0 where
  pub small : AreSmall s.toks → AreSmall a.toks
  pub says : AreSmall s.toks → P
  pub operators_left : s.operators ≡ operators + a.operators
  pub calls_left : s.calls ≡ calls + a.calls
  pub variables_left : s.variables ≡ variables + a.variables

-- nothing is read
pub costs-none : (s : State) → Costs 0 0 0 (Unit {0}) s s
costs-none s = record { small = λ h. h; says = λ h. tt; operators_left = omega arith; calls_left = omega arith; variables_left = omega arith }

-- one after the other
infixl 10 ◌⨾◌
pub ◌⨾◌ : {o c v o' c' v' : ℕ} {P P' : Type 0} {s a b : State} → Costs o c v P s a → Costs o' c' v' P' a b → Costs (o + o') (c + c') (v + v') (P × P') s b
p ⨾ q = record {
  small = λ h. q.small (p.small h);
  says = λ h. (p.says h, q.says (p.small h));
  operators_left = omega (arith, p.operators_left, q.operators_left);
  calls_left = omega (arith, p.calls_left, q.calls_left);
  variables_left = omega (arith, p.variables_left, q.variables_left);
}

-- the same said otherwise
pub costs-as : {o c v o' c' v' : ℕ} {P P' : Type 0} {s a : State} → Costs o c v P s a → o ≡ o' → c ≡ c' → v ≡ v' → (P → P') → Costs o' c' v' P' s a
costs-as p l m n f = record {
  small = p.small;
  says = λ h. f (p.says h);
  operators_left = omega (arith, p.operators_left, l);
  calls_left = omega (arith, p.calls_left, m);
  variables_left = omega (arith, p.variables_left, n);
}

-- and no longer said
pub costs-plain : {o c v : ℕ} {P : Type 0} {s a : State} → Costs o c v P s a → Costs o c v (Unit {0}) s a
costs-plain p = costs-as p refl refl refl (λ h. tt)

first-from : (s : State) (toks : List Token) → s.toks ≡ toks → On (first_from s toks) (λ x. Costs 0 0 0 (IsSmall x.0.kind) s x.1)
first-from s [] e = on-err _ _
first-from s (t ∷ ts) e = on-ok _ _ (record {
  small = λ h. (subst AreSmall e h).1;
  says = λ h. (subst AreSmall e h).0;
  operators_left = omega arith;
  calls_left = omega arith;
  variables_left = omega arith;
})

pub first-costs : (s : State) → On (first_at s) (λ x. Costs 0 0 0 (IsSmall x.0.kind) s x.1)
first-costs s = first-from s s.toks refl

-- ---- readers of one token: what holds of the state behind the token holds of what is read

marked-on : (m : ℕ) (after : State) (span : Span) (k : TokenKind) (Q : State → Type 0) → Q after → On (marked m after span k) Q
marked-on m after span (kind.Mark n) Q q = on-if (n == m) _ _ Q (λ _. on-ok Q after q) (λ _. on-err Q _)
marked-on m after span _ Q q = on-err Q _

pub skip-costs : (m : ℕ) (s : State) → On (skip_at m s) (λ a. Costs 0 0 0 (Unit {0}) s a)
skip-costs m s = on-then (first_at s) _ _ (first-costs s) (λ x p. marked-on m x.1 x.0.span x.0.kind _ (costs-plain p))

worded-on : (w : Word) (after : State) (span : Span) (k : TokenKind) (Q : State → Type 0) → Q after → On (worded w after span k) Q
worded-on w after span (kind.Word v) Q q = on-if _ _ _ Q (λ _. on-ok Q after q) (λ _. on-err Q _)
worded-on w after span _ Q q = on-err Q _

pub skip_word-costs : (w : Word) (s : State) → On (skip_word_at w s) (λ a. Costs 0 0 0 (Unit {0}) s a)
skip_word-costs w s = on-then (first_at s) _ _ (first-costs s) (λ x p. worded-on w x.1 x.0.span x.0.kind _ (costs-plain p))

with_sign-on : (o : Op) (after : State) (span : Span) (k : TokenKind) (Q : State → Type 0) → Q after → On (with_sign o after span k) Q
with_sign-on o after span (kind.Oper p) Q q = on-if _ _ _ Q (λ _. on-ok Q after q) (λ _. on-err Q _)
with_sign-on o after span _ Q q = on-err Q _

pub skip_sign-costs : (o : Op) (s : State) → On (skip_sign_at o s) (λ a. Costs 0 0 0 (Unit {0}) s a)
skip_sign-costs o s = on-then (first_at s) _ _ (first-costs s) (λ x p. with_sign-on o x.1 x.0.span x.0.kind _ (costs-plain p))

named-on : (text : Bytes) (after : State) (span : Span) (k : TokenKind) (Q : State → Type 0) → Q after → On (named text after span k) (λ y. Q y.1)
named-on text after span kind.Name Q q = on-ok (λ y. Q y.1) _ q
named-on text after span _ Q q = on-err (λ y. Q y.1) _

pub name-costs : (text : Bytes) (s : State) → On (name_at text s) (λ y. Costs 0 0 0 (Unit {0}) s y.1)
name-costs text s = on-then (first_at s) _ _ (first-costs s) (λ x p. named-on text x.1 x.0.span x.0.kind _ (costs-plain p))

signed-on : (h : ℕ) (after : State) (span : Span) (k : TokenKind) (Q : State → Type 0) → Q after → On (signed h after span k) (λ y. Q y.1)
signed-on h after span (kind.Oper o) Q q = on-if _ _ _ (λ y. Q y.1) (λ _. on-ok (λ y. Q y.1) _ q) (λ _. on-err (λ y. Q y.1) _)
signed-on h after span _ Q q = on-err (λ y. Q y.1) _

pub operator-costs : (h : ℕ) (s : State) → On (operator_at h s) (λ y. Costs 0 0 0 (Unit {0}) s y.1)
operator-costs h s = on-then (first_at s) _ _ (first-costs s) (λ x p. signed-on h x.1 x.0.span x.0.kind _ (costs-plain p))

chosen-on : (text : Bytes) (after : State) (span : Span) (k : TokenKind) (Q : State → Type 0) → Q after → On (chosen text after span k) (λ y. Q y.1)
chosen-on text after span kind.Name Q q = on-ok (λ y. Q y.1) _ q
chosen-on text after span (kind.Mark m) Q q = on-if _ _ _ (λ y. Q y.1) (λ _. on-ok (λ y. Q y.1) _ q) (λ _. on-err (λ y. Q y.1) _)
chosen-on text after span _ Q q = on-err (λ y. Q y.1) _

choice-costs : (text : Bytes) (s : State) → On (choice_at text s) (λ y. Costs 0 0 0 (Unit {0}) s y.1)
choice-costs text s = on-then (first_at s) _ _ (first-costs s) (λ x p. chosen-on text x.1 x.0.span x.0.kind _ (costs-plain p))

pub memory-costs : (text : Bytes) (s : State) → On (memory_at text s) (λ y. Costs 0 0 0 (Unit {0}) s y.1)
memory-costs text s = on-choose (skip_word_at word.In s) _ _ _ (skip_word-costs word.In s)
    (λ a p. on-map _ _ (choice-costs text a) (λ y q. costs-as (p ⨾ q) refl refl refl (λ h. tt)))
    (on-ok _ _ (costs-none s))

numbered-on : (after : State) (span : Span) (k : TokenKind) (s : State) → Costs 0 0 0 (IsSmall k) s after → On (numbered after span k) (λ y. Costs 0 0 0 (IsSmall (kind.Number y.0)) s y.1)
numbered-on after span (kind.Number n) s p = on-ok _ _ p
numbered-on after span _ s p = on-err _ _

pub number-costs : (s : State) → On (number_at s) (λ y. Costs 0 0 0 (IsSmall (kind.Number y.0)) s y.1)
number-costs s = on-then (first_at s) _ _ (first-costs s) (λ x p. numbered-on x.1 x.0.span x.0.kind s p)

pub count-costs : (s : State) → On (count_at s) (λ y. Costs 0 0 0 (Unit {0}) s y.1)
count-costs s = on-then (number_at s) _ _ (number-costs s) (λ x p. on-if _ _ _ _ (λ _. on-err _ _) (λ _. on-ok _ _ (costs-plain p)))

pub suffix-costs : (text : Bytes) (s : State) → On (suffix_at text s) (λ y. Costs 0 0 0 (Unit {0}) s y.1)
suffix-costs text s =
    on-choose (skip_at 46 s) _ _ _ (skip-costs 46 s) (λ a p. on-then (name_at text a) _ _ (name-costs text a) (λ n q. on-ok _ _ (costs-as (p ⨾ q) refl refl refl (λ h. tt))))
    (on-choose (skip_at 63 s) _ _ _ (skip-costs 63 s) (λ a p. on-then (first_at s) _ _ (first-costs s) (λ x q. on-ok _ _ p)) (on-ok _ _ (costs-none s)))

-- ---- what is counted

-- there is one
above : (n : ℕ) → (n == 0) ≡ false → n ≡ 1 + (n - 1)
above zero e = absurd (true≢false e)
above (suc n) e = omega arith

-- an operator costs one
one_operator-costs : (p : ℕ) (s : State) → On (one_operator p s) (λ a. Costs 1 0 0 (Unit {0}) s a)
one_operator-costs p s = on-if (s.operators == 0) _ _ _ (λ _. on-err _ _)
    (λ e. on-ok _ _ (record { small = λ h. h; says = λ h. tt; operators_left = above s.operators e; calls_left = omega arith; variables_left = omega arith }))

-- a call costs one
pub one_call-costs : (p : ℕ) (s : State) → On (one_call p s) (λ a. Costs 0 1 0 (Unit {0}) s a)
one_call-costs p s = on-if (s.calls == 0) _ _ _ (λ _. on-err _ _)
    (λ e. on-ok _ _ (record { small = λ h. h; says = λ h. tt; operators_left = omega arith; calls_left = above s.calls e; variables_left = omega arith }))

-- a variable costs one
pub one_variable-costs : (p : ℕ) (s : State) → On (one_variable p s) (λ a. Costs 0 0 1 (Unit {0}) s a)
one_variable-costs p s = on-if (s.variables == 0) _ _ _ (λ _. on-err _ _)
    (λ e. on-ok _ _ (record { small = λ h. h; says = λ h. tt; operators_left = omega arith; calls_left = omega arith; variables_left = above s.variables e }))

-- the kind of an operator, with the operator
pub kind-costs : (text : Bytes) (p : ℕ) (s : State) → On (kind_at text p s) (λ y. Costs 1 0 0 (Unit {0}) s y.1)
unfolding kind_at
kind-costs text p s = on-then (one_operator p s) _ _ (one_operator-costs p s) (λ a q. on-map _ _ (suffix-costs text a) (λ y r. costs-as (q ⨾ r) refl refl refl (λ h. tt)))
