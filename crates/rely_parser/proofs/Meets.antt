-- Readings of tokens whose beginning spells something with other tokens behind: they get beyond it, or meet a limit.
use Rattle.std.proofs.Common.{◌≡◌, ℕ, ◌<◌, Bool, true, false, ◌⊎◌, inl, inr, List, [], ◌∷◌, ◌++◌, length, Ok, Err, refl, ap, sym, subst, ◌∙◌, arith, if◌then◌else◌}
use Rattle.std.proofs.lemmas.Bool.{eq-eqb}
use Rattle.rely_num.specs.Texts.{Bytes}
use Rattle.rely_num.specs.declared.op.Op.{Op}
use Rattle.rely_num.specs.declared.span.Span.{Span}
use Rattle.rely_lexer.specs.declared.token.Token.{Token}
use Rattle.rely_lexer.specs.declared.token.TokenKind.{TokenKind}
use Rattle.rely_lexer.specs.declared.token.TokenKind.TheVariants as kind
use Rattle.rely_num.specs.declared.word.Word.{Word}
use Rattle.rely_parser.specs.declared.fault.ParseFault.TheVariants as fault
use Rattle.rely_parser.specs.State.{State, Reading, behind, place_from, ◌>>=◌, choose, first_at, marked, skip_at, word_number, worded, skip_word_at, word_at, height, operator_at}
use Rattle.rely_parser.specs.Units.{sign_number, with_sign, skip_sign_at}
use Rattle.rely_parser.specs.Productions.{Spells, Agree}
use Rattle.rely_parser.proofs.Laws.{On, At, Answer, Reached}
use Rattle.rely_parser.proofs.Marks.{Tests, marked-tests, worded-tests, signed-tests}
use Rattle.rely_parser.proofs.Finds.{Behind, here, later, trans, NotMark, Stops, skip-other, skip-mark, skip-word, no-operator, an-operator}
use Rattle.rely_parser.proofs.Completes.{NotWord, word-other}
use Rattle.rely_parser.proofs.Sources.{Spare, says_within, top, agree-within, spare-within}

-- a text, what spans say, the tokens behind the last that is shared, and the place behind the text
pub record Run : Type 0 where
  pub text : Bytes
  pub says : Span → Bytes
  pub tail : List Token
  pub stop : ℕ

-- tokens that are read and tokens that spell something begin alike, up to the last one before the tail
pub data Share (w : Run) : List Token → List Token → Type 0 where
  at_last : {t : Token} {ts : List Token} → word_at w.text t.span ≡ w.says t.span → Share w (t ∷ w.tail) (t ∷ ts)
  before : {t : Token} {ss ts : List Token} → word_at w.text t.span ≡ w.says t.span → Share w ss ts → Share w (t ∷ ss) (t ∷ ts)

-- the tokens left begin like those, or are beyond
pub record Along (w : Run) (ts : List Token) (s : State) : Type 0 where
  pub end : s.end ≡ w.stop
  pub is : Share w s.toks ts ⊎ Behind w.tail s.toks

-- a refusal beyond
pub record Stopped (w : Run) (p : ℕ) : Type 0 where
  pub bad : List Token
  pub beyond : Behind w.tail bad
  pub stands : place_from w.stop bad ≡ p

abbrev pub Goes : {A : Type 0} → Run → List Token → Reading (A × State) → Type 0
Goes w rest (Ok x) = Along w rest x.1
Goes w rest (Err (fault.Expected p)) = Stopped w p
Goes w rest (Err _) = Unit {0}

-- the reading goes on to the rest, or gets beyond, or meets a limit
pub record Go {A : Type 0} (w : Run) (rest : List Token) (r : Reading (A × State)) : Type 0 where
  pub goes : Goes w rest r

pub go-done : {A : Type 0} {w : Run} {rest : List Token} {a : A} {s : State} → Along w rest s → Go w rest (Ok (a, s))
go-done c = record { goes = c }

pub go-same : {A : Type 0} {w : Run} {rest : List Token} {q r : Reading (A × State)} → q ≡ r → Go w rest r → Go w rest q
go-same {w = w} {rest = rest} e h = subst (Go w rest) (sym e) h

then-goes : {A B : Type 0} (w : Run) (mid rest : List Token) (r : Reading (A × State)) (k : A × State → Reading (B × State)) → Goes w mid r → ((x : A × State) → Along w mid x.1 → Go w rest (k x)) → Go w rest (r >>= k)
then-goes w mid rest (Ok x) k h f = f x h
then-goes w mid rest (Err (fault.Expected p)) k h f = record { goes = h }
then-goes w mid rest (Err (fault.Deep p)) k h f = record { goes = h }
then-goes w mid rest (Err (fault.Many p)) k h f = record { goes = h }
then-goes w mid rest (Err fault.Memory) k h f = record { goes = h }

pub go-then : {A B : Type 0} {w : Run} {mid rest : List Token} {r : Reading (A × State)} {k : A × State → Reading (B × State)} → Go w mid r → ((x : A × State) → Along w mid x.1 → Go w rest (k x)) → Go w rest (r >>= k)
go-then {w = w} {mid = mid} {rest = rest} {r = r} {k = k} h f = then-goes w mid rest r k h.goes f

pub behind-front : (front ts : List Token) → Behind (front ++ ts) ts
behind-front [] ts = here
behind-front (x ∷ xs) ts = later (behind-front xs ts)

pub behind-split : (toks front ts : List Token) → toks ≡ front ++ ts → Behind toks ts
behind-split toks front ts e = subst (λ l. Behind l ts) (sym e) (behind-front front ts)

then-on : {A B : Type 0} (q : ℕ) (w : Run) (D : Spells A) (s : State) (mid rest : List Token) (r : Reading (A × State)) (k : A × State → Reading (B × State)) → Answer q D s r → Goes w mid r →
    ((x : A × State) → Behind s.toks x.1.toks → Along w mid x.1 → Go w rest (k x)) → Go w rest (r >>= k)
then-on q w D s mid rest (Ok x) k o h f = f x (behind-split s.toks o.front x.1.toks o.split) h
then-on q w D s mid rest (Err (fault.Expected p)) k o h f = record { goes = h }
then-on q w D s mid rest (Err (fault.Deep p)) k o h f = record { goes = h }
then-on q w D s mid rest (Err (fault.Many p)) k o h f = record { goes = h }
then-on q w D s mid rest (Err fault.Memory) k o h f = record { goes = h }

-- one behind the other, where it is of use that the tokens get fewer
pub go-then-on : {A B : Type 0} {q : ℕ} {w : Run} {D : Spells A} {s : State} {mid rest : List Token} {r : Reading (A × State)} {k : A × State → Reading (B × State)} → At q D s r → Go w mid r →
    ((x : A × State) → Behind s.toks x.1.toks → Along w mid x.1 → Go w rest (k x)) → Go w rest (r >>= k)
go-then-on {q = q} {w = w} {D = D} {s = s} {mid = mid} {rest = rest} {r = r} {k = k} o h f = then-on q w D s mid rest r k o.holds h.goes f

then-reached : {A B : Type 0} (q : ℕ) (w : Run) (D : Spells A) (s : State) (mid rest : List Token) (r : Reading (A × State)) (k : A × State → Reading (B × State)) → Answer q D s r → Goes w mid r →
    ((x : A × State) → Reached D s.toks s.end x.0 x.1 → Along w mid x.1 → Go w rest (k x)) → Go w rest (r >>= k)
then-reached q w D s mid rest (Ok x) k o h f = f x o h
then-reached q w D s mid rest (Err (fault.Expected p)) k o h f = record { goes = h }
then-reached q w D s mid rest (Err (fault.Deep p)) k o h f = record { goes = h }
then-reached q w D s mid rest (Err (fault.Many p)) k o h f = record { goes = h }
then-reached q w D s mid rest (Err fault.Memory) k o h f = record { goes = h }

-- one behind the other, where it is of use what the first one spells
pub go-then-reached : {A B : Type 0} {q : ℕ} {w : Run} {D : Spells A} {s : State} {mid rest : List Token} {r : Reading (A × State)} {k : A × State → Reading (B × State)} → At q D s r → Go w mid r →
    ((x : A × State) → Reached D s.toks s.end x.0 x.1 → Along w mid x.1 → Go w rest (k x)) → Go w rest (r >>= k)
go-then-reached {q = q} {w = w} {D = D} {s = s} {mid = mid} {rest = rest} {r = r} {k = k} o h f = then-reached q w D s mid rest r k o.holds h.goes f

off-answer : {A : Type 0} (q : ℕ) (w : Run) (D : Spells A) (s : State) (rest : List Token) (r : Reading (A × State)) → s.end ≡ w.stop → Behind w.tail s.toks → Answer q D s r → Goes w rest r
off-answer q w D s rest (Ok x) e b h = record { end = h.end ∙ e; is = inr (trans b (behind-split s.toks h.front x.1.toks h.split)) }
off-answer q w D s rest (Err (fault.Expected p)) e b h = record { bad = h.bad; beyond = trans b (behind-split s.toks h.front h.bad h.split); stands = ap (λ n. place_from n h.bad) (sym e) ∙ h.stands }
off-answer q w D s rest (Err (fault.Deep p)) e b h = tt {0}
off-answer q w D s rest (Err (fault.Many p)) e b h = tt {0}
off-answer q w D s rest (Err fault.Memory) e b h = tt {0}

case-from : {A : Type 0} (w : Run) (D : Spells A) (s : State) (ts rest : List Token) (r : Reading (A × State)) → s.end ≡ w.stop → Share w s.toks ts ⊎ Behind w.tail s.toks → On D s r → (Share w s.toks ts → Go w rest r) → Go w rest r
case-from w D s ts rest r e (inl sh) o f = f sh
case-from w D s ts rest r e (inr b) o f = record { goes = off-answer 0 w D s rest r e b (o.each 0) }

-- beyond, every reading stays beyond
pub go-case : {A : Type 0} {w : Run} {D : Spells A} {s : State} {ts rest : List Token} {r : Reading (A × State)} → Along w ts s → On D s r → (Share w s.toks ts → Go w rest r) → Go w rest r
go-case {w = w} {D = D} {s = s} {ts = ts} {rest = rest} {r = r} c o f = case-from w D s ts rest r c.end c.is o f

pub go-counted : {A : Type 0} {w : Run} {rest : List Token} (p : ℕ) (s : State) (b : Bool) (k : State → Reading (A × State)) → Go w rest (k s) → Go w rest ((if b then Err (fault.Many p) else Ok s) >>= k)
go-counted p s true k h = record { goes = tt {0} }
go-counted p s false k h = h

-- what is left behind a shared token
pub record Shared (w : Run) (t : Token) (ts : List Token) (s : State) : Type 0 where
  pub left : List Token
  pub split : s.toks ≡ t ∷ left
  pub along : Along w ts (behind s left)

shared-from : (w : Run) (t : Token) (ts ss : List Token) (s : State) → s.end ≡ w.stop → Share w ss (t ∷ ts) → Shared w t ts (behind s ss)
shared-from w t ts ss s e (at_last a) = record { left = w.tail; split = refl; along = record { end = e; is = inr here } }
shared-from w t ts ss s e (before {ss = l} a sh) = record { left = l; split = refl; along = record { end = e; is = inl sh } }

pub shared : {w : Run} {t : Token} {ts : List Token} {s : State} → s.end ≡ w.stop → Share w s.toks (t ∷ ts) → Shared w t ts s
shared {w = w} {t = t} {ts = ts} {s = s} e sh = shared-from w t ts s.toks s e sh

said-from : (w : Run) (t : Token) (ts ss : List Token) → Share w ss (t ∷ ts) → word_at w.text t.span ≡ w.says t.span
said-from w t ts ss (at_last a) = a
said-from w t ts ss (before a sh) = a

pub said : {w : Run} {t : Token} {ts ss : List Token} → Share w ss (t ∷ ts) → word_at w.text t.span ≡ w.says t.span
said {w = w} {t = t} {ts = ts} {ss = ss} sh = said-from w t ts ss sh

pub share-mark : (w : Run) (m : ℕ) (ss ts : List Token) → Share w ss ts → NotMark m ts → NotMark m ss
share-mark w m ss ts (at_last a) n = n
share-mark w m ss ts (before a sh) n = n

pub share-word : (w : Run) (v : Word) (ss ts : List Token) → Share w ss ts → NotWord v ts → NotWord v ss
share-word w v ss ts (at_last a) n = n
share-word w v ss ts (before a sh) n = n

pub share-stops : (w : Run) (h : ℕ) (ss ts : List Token) → Share w ss ts → Stops h ts → Stops h ss
share-stops w h ss ts (at_last a) n = n
share-stops w h ss ts (before a sh) n = n

pub share-some : (w : Run) (ss ts : List Token) → Share w ss ts → 0 < length ss
share-some w ss ts (at_last a) = omega arith
share-some w ss ts (before a sh) = omega arith

-- the first token, by its kind
pub go-first : {A : Type 0} {w : Run} {t : Token} {ts rest : List Token} (s : State) {j : TokenKind} (K : State → Span → TokenKind → Reading (A × State)) → s.end ≡ w.stop → Share w s.toks (t ∷ ts) → t.kind ≡ j →
    ((a : State) → Along w ts a → Go w rest (K a t.span j)) → Go w rest (first_at s >>= λ x. K x.1 x.0.span x.0.kind)
go-first {w = w} {t = t} {ts = ts} s K e sh p f =
    let o = shared {w = w} {t = t} {ts = ts} {s = s} e sh in
    go-same (ap (λ l. first_at (behind s l) >>= λ x. K x.1 x.0.span x.0.kind) o.split ∙ ap (K (behind s o.left) t.span) p) (f (behind s o.left) o.along)

pub go-peek : {A : Type 0} {w : Run} {t : Token} {ts rest : List Token} (s : State) (k : Token × State → Reading (A × State)) → s.end ≡ w.stop → Share w s.toks (t ∷ ts) → ((a : State) → Go w rest (k (t, a))) → Go w rest (first_at s >>= k)
go-peek {w = w} {t = t} {ts = ts} s k e sh f =
    let o = shared {w = w} {t = t} {ts = ts} {s = s} e sh in
    go-same (ap (λ l. first_at (behind s l) >>= k) o.split) (f (behind s o.left))

-- a mark that decides
pub go-mark : {A : Type 0} {w : Run} {t : Token} {ts rest : List Token} (s : State) (m : ℕ) (f : State → Reading (A × State)) (g : Reading (A × State)) → s.end ≡ w.stop → Share w s.toks (t ∷ ts) → t.kind ≡ kind.Mark m →
    ((a : State) → length a.toks < length s.toks → Along w ts a → Go w rest (f a)) → Go w rest (choose (skip_at m s) f g)
go-mark {w = w} {t = t} {ts = ts} s m f g e sh p h =
    let o = shared {w = w} {t = t} {ts = ts} {s = s} e sh in
    let less : length o.left < length s.toks = subst (λ l. length o.left < length l) (sym o.split) (omega arith) in
    go-same (ap (λ l. choose (skip_at m (behind s l)) f g) o.split ∙ ap (λ r. choose r f g) (skip-mark m s t o.left p)) (h (behind s o.left) less o.along)

pub go-no-mark : {A : Type 0} {w : Run} {ts rest : List Token} (s : State) (m : ℕ) (f : State → Reading (A × State)) (g : Reading (A × State)) → Share w s.toks ts → NotMark m ts → Go w rest g → Go w rest (choose (skip_at m s) f g)
go-no-mark {w = w} {ts = ts} s m f g sh n h = go-same (skip-other m s s.toks (share-mark w m s.toks ts sh n) f g) h

pub go-the-word : {A : Type 0} {w : Run} {t : Token} {ts rest : List Token} (s : State) (v : Word) (f : State → Reading (A × State)) (g : Reading (A × State)) → s.end ≡ w.stop → Share w s.toks (t ∷ ts) → t.kind ≡ kind.Word v →
    ((a : State) → length a.toks < length s.toks → Along w ts a → Go w rest (f a)) → Go w rest (choose (skip_word_at v s) f g)
go-the-word {w = w} {t = t} {ts = ts} s v f g e sh p h =
    let o = shared {w = w} {t = t} {ts = ts} {s = s} e sh in
    let less : length o.left < length s.toks = subst (λ l. length o.left < length l) (sym o.split) (omega arith) in
    go-same (ap (λ l. choose (skip_word_at v (behind s l)) f g) o.split ∙ ap (λ r. choose r f g) (skip-word v s t o.left p)) (h (behind s o.left) less o.along)

pub go-no-word : {A : Type 0} {w : Run} {ts rest : List Token} (s : State) (v : Word) (f : State → Reading (A × State)) (g : Reading (A × State)) → Share w s.toks ts → NotWord v ts → Go w rest g → Go w rest (choose (skip_word_at v s) f g)
go-no-word {w = w} {ts = ts} s v f g sh n h = go-same (word-other v s s.toks (share-word w v s.toks ts sh n) f g) h

pub go-oper : {A : Type 0} {w : Run} {t : Token} {ts rest : List Token} (s : State) (h : ℕ) (o : Op) (f : ((Op × Span) × State) → Reading (A × State)) (g : Reading (A × State)) → s.end ≡ w.stop → Share w s.toks (t ∷ ts) → t.kind ≡ kind.Oper o → height o ≡ h →
    ((a : State) → length a.toks < length s.toks → Along w ts a → Go w rest (f ((o, t.span), a))) → Go w rest (choose (operator_at h s) f g)
go-oper {w = w} {t = t} {ts = ts} s h x f g e sh p q y =
    let o = shared {w = w} {t = t} {ts = ts} {s = s} e sh in
    let less : length o.left < length s.toks = subst (λ l. length o.left < length l) (sym o.split) (omega arith) in
    go-same (ap (λ l. choose (operator_at h (behind s l)) f g) o.split ∙ ap (λ r. choose r f g) (an-operator h s t o.left x p q)) (y (behind s o.left) less o.along)

pub go-no-oper : {A : Type 0} {w : Run} {ts rest : List Token} (s : State) (h : ℕ) (f : ((Op × Span) × State) → Reading (A × State)) (g : Reading (A × State)) → Share w s.toks ts → Stops h ts → Go w rest g → Go w rest (choose (operator_at h s) f g)
go-no-oper {w = w} {ts = ts} s h f g sh n y = go-same (no-operator h s s.toks (share-stops w h s.toks ts sh n) f g) y

-- a token that is passed, in a test that refuses every other
test-off : {A : Type 0} (w : Run) (rest : List Token) (s : State) (F : State → Span → TokenKind → Reading State) → ((a : State) (sp : Span) (j : TokenKind) → (F a sp j ≡ Ok a) ⊎ (F a sp j ≡ Err (fault.Expected sp.from))) →
    (k : State → Reading (A × State)) → s.end ≡ w.stop → (ss : List Token) → Behind w.tail ss → ((a : State) → a.end ≡ w.stop → Behind w.tail a.toks → Go w rest (k a)) → Go w rest ((first_at (behind s ss) >>= λ x. F x.1 x.0.span x.0.kind) >>= k)
test-off w rest s F d k e [] b f = record { goes = record { bad = []; beyond = b; stands = sym e } }
test-off w rest s F d k e (y ∷ ys) b f = turn (F (behind s ys) y.span y.kind) (d (behind s ys) y.span y.kind)
  where
    turn : (r : Reading State) → (r ≡ Ok (behind s ys)) ⊎ (r ≡ Err (fault.Expected y.span.from)) → Go w rest (r >>= k)
    turn r (inl q) = go-same (ap (λ r. r >>= k) q) (f (behind s ys) e (trans b (later here)))
    turn r (inr q) = go-same (ap (λ r. r >>= k) q) (record { goes = record { bad = y ∷ ys; beyond = b; stands = refl } })

test-go : {A : Type 0} (w : Run) (t : Token) (ts rest : List Token) (s : State) (F : State → Span → TokenKind → Reading State) → ((a : State) (sp : Span) (j : TokenKind) → (F a sp j ≡ Ok a) ⊎ (F a sp j ≡ Err (fault.Expected sp.from))) →
    (j : TokenKind) → ((a : State) (sp : Span) → F a sp j ≡ Ok a) → (k : State → Reading (A × State)) → s.end ≡ w.stop → Share w s.toks (t ∷ ts) ⊎ Behind w.tail s.toks → t.kind ≡ j → ((a : State) → Along w ts a → Go w rest (k a)) →
    Go w rest ((first_at s >>= λ x. F x.1 x.0.span x.0.kind) >>= k)
test-go w t ts rest s F d j hit k e (inl sh) p f =
    let o = shared {w = w} {t = t} {ts = ts} {s = s} e sh in
    go-same (ap (λ l. (first_at (behind s l) >>= λ x. F x.1 x.0.span x.0.kind) >>= k) o.split ∙ ap (λ i. F (behind s o.left) t.span i >>= k) p ∙ ap (λ r. r >>= k) (hit (behind s o.left) t.span)) (f (behind s o.left) o.along)
test-go w t ts rest s F d j hit k e (inr b) p f = test-off w rest s F d k e s.toks b (λ a i c. f a (record { end = i; is = inr c }))

tests-two : (P : Type 0) (j : TokenKind) (sp : Span) (a : State) (r : Reading State) → Tests P j sp a r → (r ≡ Ok a) ⊎ (r ≡ Err (fault.Expected sp.from))
tests-two P j sp a r (inl y) = inl y.1
tests-two P j sp a r (inr n) = inr n

pub go-skip : {A : Type 0} {w : Run} {t : Token} {ts rest : List Token} {s : State} {k : State → Reading (A × State)} (m : ℕ) → Along w (t ∷ ts) s → t.kind ≡ kind.Mark m → ((a : State) → Along w ts a → Go w rest (k a)) → Go w rest (skip_at m s >>= k)
go-skip {w = w} {t = t} {ts = ts} {rest = rest} {s = s} {k = k} m c p f =
    test-go w t ts rest s (marked m) (λ a sp j. tests-two _ j sp a (marked m a sp j) (marked-tests m a sp j)) (kind.Mark m) (λ a sp. ap (λ b. if b then Ok a else Err (fault.Expected sp.from)) (eq-eqb m m refl)) k c.end c.is p f

pub go-word : {A : Type 0} {w : Run} {t : Token} {ts rest : List Token} {s : State} {k : State → Reading (A × State)} (v : Word) → Along w (t ∷ ts) s → t.kind ≡ kind.Word v → ((a : State) → Along w ts a → Go w rest (k a)) → Go w rest (skip_word_at v s >>= k)
go-word {w = w} {t = t} {ts = ts} {rest = rest} {s = s} {k = k} v c p f =
    test-go w t ts rest s (worded v) (λ a sp j. tests-two _ j sp a (worded v a sp j) (worded-tests v a sp j)) (kind.Word v) (λ a sp. ap (λ b. if b then Ok a else Err (fault.Expected sp.from)) (eq-eqb (word_number v) (word_number v) refl)) k c.end c.is p f

pub go-sign : {A : Type 0} {w : Run} {t : Token} {ts rest : List Token} {s : State} {k : State → Reading (A × State)} (o : Op) → Along w (t ∷ ts) s → t.kind ≡ kind.Oper o → ((a : State) → Along w ts a → Go w rest (k a)) → Go w rest (skip_sign_at o s >>= k)
go-sign {w = w} {t = t} {ts = ts} {rest = rest} {s = s} {k = k} o c p f =
    test-go w t ts rest s (with_sign o) (λ a sp j. tests-two _ j sp a (with_sign o a sp j) (signed-tests o a sp j)) (kind.Oper o) (λ a sp. ap (λ b. if b then Ok a else Err (fault.Expected sp.from)) (eq-eqb (sign_number o) (sign_number o) refl)) k c.end c.is p f

-- words for the tokens left, with a spare one
abbrev pub words_of : Bytes → State → Span → Bytes
words_of text s = says_within (top s.toks) text

pub agreeing : (text : Bytes) (s : State) → Agree text (words_of text s) s.toks
agreeing text s = agree-within (top s.toks) text s.toks (omega arith)

pub sparing : (text : Bytes) (s : State) → Spare (words_of text s)
sparing text s = spare-within (top s.toks) text
