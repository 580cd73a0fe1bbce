-- Readings of one token against the grammar.
use Rattle.std.proofs.Common.{◌≡◌, ℕ, Bool, true, false, ◌==◌, List, [], ◌∷◌, ◌⊎◌, inl, inr, Ok, Err, refl, ap, sym, ◌∙◌, if◌then◌else◌}
use Rattle.std.proofs.lemmas.Bool.{eqb-true}
use Rattle.rely_num.specs.Texts.{Bytes}
use Rattle.rely_num.specs.declared.op.Op.{Op}
use Rattle.rely_num.specs.declared.op.Op.TheVariants as op
use Rattle.rely_num.specs.declared.span.Span.{Span}
use Rattle.rely_lexer.specs.declared.token.Token.{Token}
use Rattle.rely_lexer.specs.declared.token.TokenKind.{TokenKind}
use Rattle.rely_lexer.specs.declared.token.TokenKind.TheVariants as kind
use Rattle.rely_num.specs.declared.word.Word.{Word}
use Rattle.rely_num.specs.declared.word.Word.TheVariants as word
use Rattle.rely_tree.specs.Tree.{IdentTree}
use Rattle.rely_parser.specs.declared.fault.ParseFault.TheVariants as fault
use Rattle.rely_parser.specs.State.{State, Reading, behind, place, ◌>>=◌, marked, skip_at, word_number, worded, skip_word_at, named, name_at, word_at}
use Rattle.rely_parser.specs.Units.{sign_number, with_sign, skip_sign_at}
use Rattle.rely_parser.specs.Productions.{ident_of, seq, Spells, Done, done, One, one, Then, Agree, Mark, Reserved, Sign, Name}
use Rattle.rely_parser.proofs.Laws.{on-map, Can, On, At, at, at-token, can-then, on-done, on-none, on-token, on-same}

-- a token of a kind
abbrev pub token_of : TokenKind → Token
token_of k = record { kind = k; span = record { from = 0; to = 0 } }

pub can-one : {Sort : Token → Type 0} (k : TokenKind) → Sort (token_of k) → Can (One Sort)
can-one k p = record { word = token_of k ∷ []; tree = token_of k; spells = λ tail. one p }

pub can-done : {A : Type 0} (a : A) → Can (Done a)
can-done a = record { word = []; tree = a; spells = λ tail. done }

pub can-mark : {B : Type 0} {E : Token → Spells B} (m : ℕ) → ((t : Token) → Can (E t)) → Can (Then (Mark m) E)
can-mark m c = can-then (can-one (kind.Mark m) refl) c

pub can-reserved : {B : Type 0} {E : Token → Spells B} (w : Word) → ((t : Token) → Can (E t)) → Can (Then (Reserved w) E)
can-reserved w c = can-then (can-one (kind.Word w) refl) c

pub can-sign : {B : Type 0} {E : Token → Spells B} (o : Op) → ((t : Token) → Can (E t)) → Can (Then (Sign o) E)
can-sign o c = can-then (can-one (kind.Oper o) refl) c

pub can-name : (says : Span → Bytes) → Can (Name says)
can-name says = can-then (can-one kind.Name refl) (λ t. can-done _)

-- a test of a token: it is of the sort, and the reading goes on behind it, or it is refused
abbrev pub Tests : Type 0 → TokenKind → Span → State → Reading State → Type 0
Tests P k span after r = (P × (r ≡ Ok after)) ⊎ (r ≡ Err (fault.Expected span.from))

pub marked-if : (m n : ℕ) (after : State) (span : Span) (b : Bool) → (n == m) ≡ b → Tests (kind.Mark n ≡ kind.Mark m) (kind.Mark n) span after (if b then Ok after else Err (fault.Expected span.from))
marked-if m n after span true e = inl (ap (λ i. kind.Mark i) (eqb-true n m e), refl)
marked-if m n after span false e = inr refl

pub marked-tests : (m : ℕ) (after : State) (span : Span) (k : TokenKind) → Tests (k ≡ kind.Mark m) k span after (marked m after span k)
marked-tests m after span (kind.Mark n) = marked-if m n after span (n == m) refl
marked-tests m after span _ = inr refl

-- the word of a number
abbrev pub word_back : ℕ → Word
word_back n =
    if n == 0 then word.Fn else if n == 1 then word.Claim else if n == 2 then word.Result else if n == 3 then word.R else if n == 4 then word.Var else if n == 5 then word.In else
    if n == 6 then word.If else if n == 7 then word.Else else if n == 8 then word.While else if n == 9 then word.Max else if n == 10 then word.Repeat else
    if n == 11 then word.Return else if n == 12 then word.Call else word.Within

pub word-back : (w : Word) → word_back (word_number w) ≡ w
word-back word.Fn = refl
word-back word.Claim = refl
word-back word.Result = refl
word-back word.R = refl
word-back word.Var = refl
word-back word.In = refl
word-back word.If = refl
word-back word.Else = refl
word-back word.While = refl
word-back word.Max = refl
word-back word.Repeat = refl
word-back word.Return = refl
word-back word.Call = refl
word-back word.Within = refl

pub word-one : (v w : Word) → word_number v ≡ word_number w → v ≡ w
word-one v w e = sym (word-back v) ∙ ap word_back e ∙ word-back w

pub worded-if : (w v : Word) (after : State) (span : Span) (b : Bool) → (word_number v == word_number w) ≡ b →
    Tests (kind.Word v ≡ kind.Word w) (kind.Word v) span after (if b then Ok after else Err (fault.Expected span.from))
worded-if w v after span true e = inl (ap (λ i. kind.Word i) (word-one v w (eqb-true (word_number v) (word_number w) e)), refl)
worded-if w v after span false e = inr refl

pub worded-tests : (w : Word) (after : State) (span : Span) (k : TokenKind) → Tests (k ≡ kind.Word w) k span after (worded w after span k)
worded-tests w after span (kind.Word v) = worded-if w v after span (word_number v == word_number w) refl
worded-tests w after span _ = inr refl

abbrev pub sign_back : ℕ → Op
sign_back n =
    if n == 0 then op.Mul else if n == 1 then op.Div else if n == 2 then op.Rem else if n == 3 then op.Add else if n == 4 then op.Sub else if n == 5 then op.Lt else
    if n == 6 then op.Le else if n == 7 then op.Gt else if n == 8 then op.Ge else if n == 9 then op.Eq else if n == 10 then op.Ne else if n == 11 then op.And else if n == 12 then op.Xor else op.Or

pub sign-back : (o : Op) → sign_back (sign_number o) ≡ o
sign-back op.Mul = refl
sign-back op.Div = refl
sign-back op.Rem = refl
sign-back op.Add = refl
sign-back op.Sub = refl
sign-back op.Lt = refl
sign-back op.Le = refl
sign-back op.Gt = refl
sign-back op.Ge = refl
sign-back op.Eq = refl
sign-back op.Ne = refl
sign-back op.And = refl
sign-back op.Xor = refl
sign-back op.Or = refl

pub sign-one : (o p : Op) → sign_number o ≡ sign_number p → o ≡ p
sign-one o p e = sym (sign-back o) ∙ ap sign_back e ∙ sign-back p

pub signed-if : (o p : Op) (after : State) (span : Span) (b : Bool) → (sign_number p == sign_number o) ≡ b →
    Tests (kind.Oper p ≡ kind.Oper o) (kind.Oper p) span after (if b then Ok after else Err (fault.Expected span.from))
signed-if o p after span true e = inl (ap (λ i. kind.Oper i) (sign-one p o (eqb-true (sign_number p) (sign_number o) e)), refl)
signed-if o p after span false e = inr refl

pub signed-tests : (o : Op) (after : State) (span : Span) (k : TokenKind) → Tests (k ≡ kind.Oper o) k span after (with_sign o after span k)
signed-tests o after span (kind.Oper p) = signed-if o p after span (sign_number p == sign_number o) refl
signed-tests o after span _ = inr refl

-- a tested token, and what is behind it
pub tested : {B : Type 0} {P : Token → Type 0} {E : Token → Spells B} (s : State) (t : Token) (rest : List Token) (r : Reading State) (k : State → Reading (B × State)) →
    Tests (P t) t.kind t.span (behind s rest) r → Can (Then (One P) E) → At t.span.from (E t) (behind s rest) (k (behind s rest)) → On (Then (One P) E) (behind s (t ∷ rest)) (r >>= k)
tested s t rest r k (inl y) c h = on-same (ap (λ x. x >>= k) y.1) (at-token s y.0 h)
tested s t rest r k (inr n) c h = on-same (ap (λ x. x >>= k) n) (on-none c)

pub mark-from : {B : Type 0} {E : Token → Spells B} (text : Bytes) (says : Span → Bytes) (m : ℕ) (s : State) (k : ℕ → State → Reading (B × State)) → ((t : Token) → Can (E t)) →
    ((t : Token) (a : State) → Agree text says a.toks → At t.span.from (E t) a (k t.span.from a)) → (ts : List Token) → Agree text says ts →
    On (Then (Mark m) E) (behind s ts) (skip_at m (behind s ts) >>= k (place (behind s ts)))
mark-from text says m s k c h [] g = on-none (can-mark m c)
mark-from text says m s k c h (t ∷ ts) g =
    tested s t ts (marked m (behind s ts) t.span t.kind) (k t.span.from) (marked-tests m (behind s ts) t.span t.kind) (can-mark m c) (h t (behind s ts) g.1)

-- behind a mark, where its place is used
pub on-mark-at : {B : Type 0} {E : Token → Spells B} (text : Bytes) (says : Span → Bytes) (m : ℕ) (s : State) (k : ℕ → State → Reading (B × State)) → Agree text says s.toks → ((t : Token) → Can (E t)) →
    ((t : Token) (a : State) → Agree text says a.toks → At t.span.from (E t) a (k t.span.from a)) → On (Then (Mark m) E) s (skip_at m s >>= k (place s))
on-mark-at text says m s k g c h = mark-from text says m s k c h s.toks g

-- behind a mark
pub on-mark : {B : Type 0} {E : Token → Spells B} (text : Bytes) (says : Span → Bytes) (m : ℕ) (s : State) {k : State → Reading (B × State)} → Agree text says s.toks → ((t : Token) → Can (E t)) →
    ((t : Token) (a : State) → Agree text says a.toks → On (E t) a (k a)) → On (Then (Mark m) E) s (skip_at m s >>= k)
on-mark text says m s {k = k} g c h = on-mark-at text says m s (λ _. k) g c (λ t a i. at (h t a i))

pub reserved-from : {B : Type 0} {E : Token → Spells B} (text : Bytes) (says : Span → Bytes) (w : Word) (s : State) (k : State → Reading (B × State)) → ((t : Token) → Can (E t)) →
    ((t : Token) (a : State) → Agree text says a.toks → On (E t) a (k a)) → (ts : List Token) → Agree text says ts →
    On (Then (Reserved w) E) (behind s ts) (skip_word_at w (behind s ts) >>= k)
reserved-from text says w s k c h [] g = on-none (can-reserved w c)
reserved-from text says w s k c h (t ∷ ts) g =
    tested s t ts (worded w (behind s ts) t.span t.kind) k (worded-tests w (behind s ts) t.span t.kind) (can-reserved w c) (at (h t (behind s ts) g.1))

-- behind a reserved word
pub on-reserved : {B : Type 0} {E : Token → Spells B} (text : Bytes) (says : Span → Bytes) (w : Word) (s : State) {k : State → Reading (B × State)} → Agree text says s.toks → ((t : Token) → Can (E t)) →
    ((t : Token) (a : State) → Agree text says a.toks → On (E t) a (k a)) → On (Then (Reserved w) E) s (skip_word_at w s >>= k)
on-reserved text says w s {k = k} g c h = reserved-from text says w s k c h s.toks g

pub sign-from : {B : Type 0} {E : Token → Spells B} (text : Bytes) (says : Span → Bytes) (o : Op) (s : State) (k : State → Reading (B × State)) → ((t : Token) → Can (E t)) →
    ((t : Token) (a : State) → Agree text says a.toks → On (E t) a (k a)) → (ts : List Token) → Agree text says ts →
    On (Then (Sign o) E) (behind s ts) (skip_sign_at o (behind s ts) >>= k)
sign-from text says o s k c h [] g = on-none (can-sign o c)
sign-from text says o s k c h (t ∷ ts) g =
    tested s t ts (with_sign o (behind s ts) t.span t.kind) k (signed-tests o (behind s ts) t.span t.kind) (can-sign o c) (at (h t (behind s ts) g.1))

-- behind an operator's sign
pub on-sign : {B : Type 0} {E : Token → Spells B} (text : Bytes) (says : Span → Bytes) (o : Op) (s : State) {k : State → Reading (B × State)} → Agree text says s.toks → ((t : Token) → Can (E t)) →
    ((t : Token) (a : State) → Agree text says a.toks → On (E t) a (k a)) → On (Then (Sign o) E) s (skip_sign_at o s >>= k)
on-sign text says o s {k = k} g c h = sign-from text says o s k c h s.toks g

pub name-kind : (text : Bytes) (says : Span → Bytes) (s : State) (t : Token) (ts : List Token) → word_at text t.span ≡ says t.span → (k : TokenKind) → t.kind ≡ k →
    On (Name says) (behind s (t ∷ ts)) (named text (behind s ts) t.span k)
name-kind text says s t ts w kind.Name e = on-same (ap (λ x. Ok (record { text = x; span = t.span }, behind s ts)) w) (on-token s e on-done)
name-kind text says s t ts w _ e = on-none (can-name says)

pub name-from : (text : Bytes) (says : Span → Bytes) (s : State) (ts : List Token) → Agree text says ts → On (Name says) (behind s ts) (name_at text (behind s ts))
name-from text says s [] g = on-none (can-name says)
name-from text says s (t ∷ ts) g = name-kind text says s t ts g.0 t.kind refl

-- a name
pub on-name : (text : Bytes) (says : Span → Bytes) (s : State) → Agree text says s.toks → On (Name says) s (name_at text s)
on-name text says s g = name-from text says s s.toks g

pub to-name-then : {B : Type 0} (says : Span → Bytes) (E : IdentTree → Spells B) (ts rest : List Token) (a : B) → Then (One (λ t. t.kind ≡ kind.Name)) (λ t. E (ident_of says t)) ts rest a → Then (Name says) E ts rest a
to-name-then says E ts rest a (seq (one p) d) = seq (seq (one p) done) d

name-then-kind : {B : Type 0} (text : Bytes) (says : Span → Bytes) (E : IdentTree → Spells B) (s : State) (t : Token) (ts : List Token) (f : IdentTree × State → Reading (B × State)) → ((n : IdentTree) → Can (E n)) →
    ((n : IdentTree × State) → Agree text says n.1.toks → At n.0.span.from (E n.0) n.1 (f n)) → word_at text t.span ≡ says t.span → Agree text says ts → (k : TokenKind) → t.kind ≡ k →
    On (Then (Name says) E) (behind s (t ∷ ts)) (named text (behind s ts) t.span k >>= f)
name-then-kind text says E s t ts f c h w g kind.Name e =
    on-same (ap (λ x. f (record { text = x; span = t.span }, behind s ts)) w) (on-map (to-name-then says E) (at-token s e (h (ident_of says t, behind s ts) g)))
name-then-kind text says E s t ts f c h w g _ e = on-none (can-then (can-name says) c)

name-then-from : {B : Type 0} (text : Bytes) (says : Span → Bytes) (E : IdentTree → Spells B) (s : State) (f : IdentTree × State → Reading (B × State)) → ((n : IdentTree) → Can (E n)) →
    ((n : IdentTree × State) → Agree text says n.1.toks → At n.0.span.from (E n.0) n.1 (f n)) → (ts : List Token) → Agree text says ts → On (Then (Name says) E) (behind s ts) (name_at text (behind s ts) >>= f)
name-then-from text says E s f c h [] g = on-none (can-then (can-name says) c)
name-then-from text says E s f c h (t ∷ ts) g = name-then-kind text says E s t ts f c h g.0 g.1 t.kind refl

-- behind a name, where its place is used
pub on-name-at : {B : Type 0} {E : IdentTree → Spells B} (text : Bytes) (says : Span → Bytes) (s : State) (f : IdentTree × State → Reading (B × State)) → Agree text says s.toks → ((n : IdentTree) → Can (E n)) →
    ((n : IdentTree × State) → Agree text says n.1.toks → At n.0.span.from (E n.0) n.1 (f n)) → On (Then (Name says) E) s (name_at text s >>= f)
on-name-at {E = E} text says s f g c h = name-then-from text says E s f c h s.toks g
