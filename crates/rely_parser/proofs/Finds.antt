-- What is spelled is found: a reading of tokens that spell a tree gives the tree, or meets a limit.
use Rattle.std.proofs.Common.{◌≡◌, ℕ, zero, suc, ◌-◌, ◌≤◌, ◌<◌, Bool, true, false, ◌==◌, List, [], ◌∷◌, length, Ok, Err, refl, ap, sym, subst, ◌∙◌, arith, if◌then◌else◌}
use Rattle.std.proofs.lemmas.Bool.{eqb-true, eq-eqb}
use Rattle.rely_num.specs.Texts.{Bytes}
use Rattle.rely_num.specs.declared.op.Op.{Op}
use Rattle.rely_num.specs.declared.span.Span.{Span}
use Rattle.rely_lexer.specs.declared.token.Token.{Token}
use Rattle.rely_lexer.specs.declared.token.TokenKind.{TokenKind}
use Rattle.rely_lexer.specs.declared.token.TokenKind.TheVariants as kind
use Rattle.rely_num.specs.declared.word.Word.{Word}
use Rattle.rely_tree.specs.Tree.{KindTree, NamedTree, ExprTree, NameTree, ElemTree, BinTree}
use Rattle.rely_parser.specs.declared.fault.ParseFault.TheVariants as fault
use Rattle.rely_parser.specs.State.{State, Reading, Read, behind, ◌>>=◌, choose, marked, skip_at, word_number, worded, skip_word_at, named, name_at, suffix_at, word_at, height, signed, operator_at}
use Rattle.rely_parser.specs.Grammar.{prim_of, prim_at, kind_at, more_at, level_at, bracketed, expr_at}
use Rattle.rely_parser.specs.Productions as grammar
use Rattle.rely_parser.specs.Productions.{done, one, seq, either, other, Agree, Name, ident_of, Suffix, Step, joined_left, Prim, Level, Operands, Expr}

abbrev pub Finds : {A : Type 0} → List Token → A → Reading (A × State) → Type 0
Finds rest a (Ok x) = (x.0 ≡ a) × (x.1.toks ≡ rest)
Finds rest a (Err (fault.Expected p)) = ⊥
Finds rest a (Err _) = Unit {0}

-- the reading gives a, with the rest left, or meets a limit
pub record Found {A : Type 0} (rest : List Token) (a : A) (r : Reading (A × State)) : Type 0 where
  pub finds : Finds rest a r

pub found-ok : {A : Type 0} {a b : A} {u : State} → b ≡ a → Found u.toks a (Ok (b, u))
found-ok e = record { finds = (e, refl) }

pub found-done : {A : Type 0} {a : A} {u : State} → Found u.toks a (Ok (a, u))
found-done = record { finds = (refl, refl) }

pub then-from : {A B : Type 0} (mid rest : List Token) (a : A) (b : B) (r : Reading (A × State)) (k : A × State → Reading (B × State)) → Finds mid a r → ((u : State) → Finds rest b (k (a, behind u mid))) → Finds rest b (r >>= k)
then-from mid rest a b (Ok x) k e h = subst (λ y. Finds rest b (k y)) (sym (ap (λ y. (y, x.1)) e.0 ∙ ap (λ l. (a, behind x.1 l)) e.1)) (h x.1)
then-from mid rest a b (Err (fault.Expected p)) k e h = e
then-from mid rest a b (Err (fault.Deep p)) k e h = e
then-from mid rest a b (Err (fault.Many p)) k e h = e
then-from mid rest a b (Err fault.Memory) k e h = e

pub found-then : {A B : Type 0} {mid rest : List Token} {a : A} {b : B} (r : Reading (A × State)) (k : A × State → Reading (B × State)) → Found mid a r → ((u : State) → Found rest b (k (a, behind u mid))) → Found rest b (r >>= k)
found-then {mid = mid} {rest = rest} {a = a} {b = b} r k f h = record { finds = then-from mid rest a b r k f.finds (λ u. let o = h u in o.finds) }

pub found-step : {A C : Type 0} {rest : List Token} {a : A} (r : Reading C) (x : C) (k : C → Reading (A × State)) → r ≡ Ok x → Found rest a (k x) → Found rest a (r >>= k)
found-step {rest = rest} {a = a} r x k e h = subst (λ q. Found rest a (q >>= k)) (sym e) h

pub found-same : {A : Type 0} {rest : List Token} {a : A} {q r : Reading (A × State)} → q ≡ r → Found rest a r → Found rest a q
found-same {rest = rest} {a = a} e h = subst (Found rest a) (sym e) h

pub found-kind : {A : Type 0} {rest : List Token} {a : A} {j k : TokenKind} (f : TokenKind → Reading (A × State)) → j ≡ k → Found rest a (f k) → Found rest a (f j)
found-kind f e h = found-same (ap f e) h

pub found-counted : {A : Type 0} {rest : List Token} {a : A} (p : ℕ) (s : State) (b : Bool) (k : State → Reading (A × State)) → Found rest a (k s) → Found rest a ((if b then Err (fault.Many p) else Ok s) >>= k)
found-counted p s true k h = record { finds = tt {0} }
found-counted p s false k h = h

-- the rest is behind
pub data Behind : List Token → List Token → Type 0 where
  here : {ts : List Token} → Behind ts ts
  later : {t : Token} {ts rest : List Token} → Behind ts rest → Behind (t ∷ ts) rest

pub trans : {a b c : List Token} → Behind a b → Behind b c → Behind a c
trans here j = j
trans (later i) j = later (trans i j)

pub agree-behind : (text : Bytes) (says : Span → Bytes) {ts rest : List Token} → Behind ts rest → Agree text says ts → Agree text says rest
agree-behind text says here g = g
agree-behind text says (later b) g = agree-behind text says b g.1

pub shorter-behind : {ts rest : List Token} → Behind ts rest → length rest ≤ length ts
shorter-behind here = omega arith
shorter-behind (later b) = let o = shorter-behind b in omega (arith, o)

-- no mark m comes first
abbrev pub NotKind : ℕ → TokenKind → Type 0
NotKind m (kind.Mark n) = n ≡ m → ⊥
NotKind m _ = Unit {0}

abbrev pub NotMark : ℕ → List Token → Type 0
NotMark m [] = Unit {0}
NotMark m (t ∷ ts) = NotKind m t.kind

pub other-if : {A C : Type 0} (m n : ℕ) (after : C) (p : ℕ) (b : Bool) → (n == m) ≡ b → (n ≡ m → ⊥) → (f : C → A) (g : A) → choose (if b then Ok after else Err (fault.Expected p)) f g ≡ g
other-if m n after p true e h f g = absurd (h (eqb-true n m e))
other-if m n after p false e h f g = refl

pub other-kind : {A : Type 0} (m : ℕ) (after : State) (span : Span) (k : TokenKind) → NotKind m k → (f : State → A) (g : A) → choose (marked m after span k) f g ≡ g
other-kind m after span (kind.Mark n) h f g = other-if m n after span.from (n == m) refl h f g
other-kind m after span _ h f g = refl

pub skip-other : {A : Type 0} (m : ℕ) (u : State) (ts : List Token) → NotMark m ts → (f : State → A) (g : A) → choose (skip_at m (behind u ts)) f g ≡ g
skip-other m u [] h f g = refl
skip-other m u (t ∷ ts) h f g = other-kind m (behind u ts) t.span t.kind h f g

pub skip-mark : (m : ℕ) (u : State) (t : Token) (ts : List Token) → t.kind ≡ kind.Mark m → skip_at m (behind u (t ∷ ts)) ≡ Ok (behind u ts)
skip-mark m u t ts p = ap (λ k. marked m (behind u ts) t.span k) p ∙ ap (λ b. if b then Ok (behind u ts) else Err (fault.Expected t.span.from)) (eq-eqb m m refl)

pub skip-word : (w : Word) (u : State) (t : Token) (ts : List Token) → t.kind ≡ kind.Word w → skip_word_at w (behind u (t ∷ ts)) ≡ Ok (behind u ts)
skip-word w u t ts p = ap (λ k. worded w (behind u ts) t.span k) p ∙ ap (λ b. if b then Ok (behind u ts) else Err (fault.Expected t.span.from)) (eq-eqb (word_number w) (word_number w) refl)

pub found-skip : {A : Type 0} {rest : List Token} {a : A} (m : ℕ) (u : State) (t : Token) (ts : List Token) (k : State → Reading (A × State)) → t.kind ≡ kind.Mark m → Found rest a (k (behind u ts)) → Found rest a (skip_at m (behind u (t ∷ ts)) >>= k)
found-skip m u t ts k p h = found-same (ap (λ r. r >>= k) (skip-mark m u t ts p)) h

pub found-word : {A : Type 0} {rest : List Token} {a : A} (w : Word) (u : State) (t : Token) (ts : List Token) (k : State → Reading (A × State)) → t.kind ≡ kind.Word w → Found rest a (k (behind u ts)) → Found rest a (skip_word_at w (behind u (t ∷ ts)) >>= k)
found-word w u t ts k p h = found-same (ap (λ r. r >>= k) (skip-word w u t ts p)) h

pub found-chosen : {A C : Type 0} {rest : List Token} {a : A} (r : Reading C) (x : C) (f : C → Reading (A × State)) (g : Reading (A × State)) → r ≡ Ok x → Found rest a (f x) → Found rest a (choose r f g)
found-chosen r x f g e h = found-same (ap (λ r. choose r f g) e) h

pub found-mark : {A : Type 0} {rest : List Token} {a : A} (m : ℕ) (u : State) (t : Token) (ts : List Token) (f : State → Reading (A × State)) (g : Reading (A × State)) → t.kind ≡ kind.Mark m → Found rest a (f (behind u ts)) →
    Found rest a (choose (skip_at m (behind u (t ∷ ts))) f g)
found-mark m u t ts f g p h = found-same (ap (λ r. choose r f g) (skip-mark m u t ts p)) h

pub found-no-mark : {A : Type 0} {rest : List Token} {a : A} (m : ℕ) (u : State) (ts : List Token) (f : State → Reading (A × State)) (g : Reading (A × State)) → NotMark m ts → Found rest a g → Found rest a (choose (skip_at m (behind u ts)) f g)
found-no-mark m u ts f g n h = found-same (skip-other m u ts n f g) h

pub find-name : (text : Bytes) (says : Span → Bytes) (u : State) (t : Token) (ts : List Token) → t.kind ≡ kind.Name → word_at text t.span ≡ says t.span → Found ts (ident_of says t) (name_at text (behind u (t ∷ ts)))
find-name text says u t ts p w = found-kind (λ k. named text (behind u ts) t.span k) p (found-ok (ap (λ x. record { text = x; span = t.span }) w))

-- a suffix
abbrev pub NoSuffix : List Token → Type 0
NoSuffix ts = NotMark 46 ts × NotMark 63 ts

pub find-suffix : (text : Bytes) (says : Span → Bytes) (u : State) (ts rest : List Token) (k : KindTree) → Suffix says ts rest k → NoSuffix rest → Agree text says ts → Found rest k (suffix_at text (behind u ts))
find-suffix text says u ts rest k (either (seq (one {t = t} {rest = r} p) (seq (seq (one {t = n} q) done) done))) m g =
    found-mark 46 u t r (λ after. name_at text after >>= λ n. Ok (NamedTree n.0, n.1)) _ p (found-then _ _ (find-name text says u n _ q g.1.0) (λ v. found-done))
find-suffix text says u ts rest k (other (either (seq (one {t = t} {rest = r} p) done))) m g =
    found-no-mark 46 u ts _ _ (subst (NotKind 46) (sym p) (λ e. absurd (omega (arith, e)))) (found-mark 63 u t r _ _ p found-done)
find-suffix text says u ts rest k (other (other done)) m g = found-no-mark 46 u ts _ _ m.0 (found-no-mark 63 u ts _ _ m.1 found-done)

pub behind-suffix : (says : Span → Bytes) {ts rest : List Token} {k : KindTree} → Suffix says ts rest k → Behind ts rest
behind-suffix says (either (seq (one p) (seq (seq (one q) done) done))) = later (later here)
behind-suffix says (other (either (seq (one p) done))) = later here
behind-suffix says (other (other done)) = here

mutual
  pub behind-prim : {says : Span → Bytes} {ts rest : List Token} {e : ExprTree} → Prim says ts rest e → Behind ts rest
  behind-prim (grammar.number p) = later here
  behind-prim (grammar.scalar p) = later here
  behind-prim (grammar.element p q l r) = later (later (trans (behind-level l) (later here)))
  behind-prim (grammar.inside p l r) = later (trans (behind-level l) (later here))

  pub behind-level : {says : Span → Bytes} {h : ℕ} {ts rest : List Token} {e : ExprTree} → Level says h ts rest e → Behind ts rest
  behind-level (grammar.operand p) = behind-prim p
  behind-level (grammar.joined l o e) = trans (behind-level l) (behind-operands o)

  pub behind-operands : {says : Span → Bytes} {h : ℕ} {ts rest : List Token} {steps : List Step} → Operands says h ts rest steps → Behind ts rest
  behind-operands grammar.last = here
  behind-operands {says = says} (grammar.operator p q s l o) = later (trans (behind-suffix says s) (trans (behind-level l) (behind-operands o)))

-- no operator of a level up to h, and no bracket of an index, comes first
abbrev pub Halts : ℕ → TokenKind → Type 0
Halts h (kind.Oper o) = h < height o
Halts h (kind.Mark n) = n ≡ 91 → ⊥
Halts h _ = Unit {0}

abbrev pub Stops : ℕ → List Token → Type 0
Stops h [] = Unit {0}
Stops h (t ∷ ts) = Halts h t.kind

pub stops-mark : (m h : ℕ) (t : Token) → t.kind ≡ kind.Mark m → (m ≡ 91 → ⊥) → Halts h t.kind
stops-mark m h t p n = subst (Halts h) (sym p) n

pub halts-less : (h : ℕ) (k : TokenKind) → Halts (suc h) k → Halts h k
halts-less h (kind.Oper o) l = omega (arith, l)
halts-less h (kind.Mark n) l = l
halts-less h kind.Name l = l
halts-less h (kind.Word w) l = l
halts-less h (kind.Number n) l = l
halts-less h kind.Decimal l = l

pub stops-less : (h : ℕ) (ts : List Token) → Stops (suc h) ts → Stops h ts
stops-less h [] l = l
stops-less h (t ∷ ts) l = halts-less h t.kind l

pub stops-operands : {says : Span → Bytes} {h : ℕ} {ts rest : List Token} {steps : List Step} → Operands says h ts rest steps → Stops (suc h) rest → Stops h ts
stops-operands {h = h} {ts = ts} grammar.last s = stops-less h ts s
stops-operands {h = h} (grammar.operator p q k l o) s = subst (Halts h) (sym p) (omega (arith, q))

pub halts-index : (k : TokenKind) → Halts 0 k → NotKind 91 k
halts-index (kind.Oper o) l = tt {0}
halts-index (kind.Mark n) l = l
halts-index kind.Name l = l
halts-index (kind.Word w) l = l
halts-index (kind.Number n) l = l
halts-index kind.Decimal l = l

pub stops-index : (ts : List Token) → Stops 0 ts → NotMark 91 ts
stops-index [] s = s
stops-index (t ∷ ts) s = halts-index t.kind s

-- an operand begins with no suffix
pub prim-suffix : {says : Span → Bytes} {ts rest : List Token} {e : ExprTree} → Prim says ts rest e → NoSuffix ts
prim-suffix (grammar.number p) = (subst (NotKind 46) (sym p) (tt {0}), subst (NotKind 63) (sym p) (tt {0}))
prim-suffix (grammar.scalar p) = (subst (NotKind 46) (sym p) (tt {0}), subst (NotKind 63) (sym p) (tt {0}))
prim-suffix (grammar.element p q l r) = (subst (NotKind 46) (sym p) (tt {0}), subst (NotKind 63) (sym p) (tt {0}))
prim-suffix (grammar.inside p l r) = (subst (NotKind 46) (sym p) (λ e. absurd (omega (arith, e))), subst (NotKind 63) (sym p) (λ e. absurd (omega (arith, e))))

pub level-suffix : {says : Span → Bytes} {h : ℕ} {ts rest : List Token} {e : ExprTree} → Level says h ts rest e → NoSuffix ts
level-suffix (grammar.operand p) = prim-suffix p
level-suffix (grammar.joined l o e) = level-suffix l

-- readings that find what is in brackets
abbrev pub Finder : Bytes → (Span → Bytes) → (ℕ → Read ExprTree) → Type 0
Finder text says inner = (p : ℕ) (u : State) (ts rest : List Token) (e : ExprTree) → Expr says ts rest e → Stops 7 rest → Agree text says ts → Found rest e (inner p (behind u ts))

-- readings that find operands
abbrev pub Seeks : Bytes → (Span → Bytes) → ℕ → Read ExprTree → Type 0
Seeks text says h next = (u : State) (ts rest : List Token) (e : ExprTree) → Level says h ts rest e → Stops h rest → Agree text says ts → Found rest e (next (behind u ts))

pub find-prim : (text : Bytes) (says : Span → Bytes) (inner : ℕ → Read ExprTree) → Finder text says inner → (u : State) (ts rest : List Token) (e : ExprTree) → Prim says ts rest e → Stops 0 rest → Agree text says ts →
    Found rest e (prim_at text inner (behind u ts))
unfolding prim_at
find-prim text says inner f u ts rest e (grammar.number {t = t} {rest = r} p) s g = found-kind (λ k. prim_of text inner (behind u r) t.span k) p found-done
find-prim text says inner f u ts rest e (grammar.scalar {t = t} {rest = r} p) s g =
    found-kind (λ k. prim_of text inner (behind u r) t.span k) p
    (found-no-mark 91 u r _ _ (stops-index r s) (found-ok (ap (λ x. NameTree (record { text = x; span = t.span })) g.0)))
find-prim text says inner f u ts rest e (grammar.element {t = t} {b = b} {c = c} {ts = l} {rest = r} {i = i} p q d z) s g =
    found-kind (λ k. prim_of text inner (behind u (b ∷ l)) t.span k) p
    (found-mark 91 u b l _ _ q
    (found-then _ _ (f b.span.from u l (c ∷ r) i d (stops-mark 93 7 c z (λ y. absurd (omega (arith, y)))) g.1.1)
    (λ v. found-skip 93 v c r _ z (found-ok (ap (λ x. ElemTree (record { text = x; span = t.span }) i) g.0)))))
find-prim text says inner f u ts rest e (grammar.inside {b = b} {c = c} {ts = l} {rest = r} {e = i} p d z) s g =
    found-kind (λ k. prim_of text inner (behind u l) b.span k) p
    (found-then _ _ (f b.span.from u l (c ∷ r) i d (stops-mark 41 7 c z (λ y. absurd (omega (arith, y)))) g.1) (λ v. found-skip 41 v c r _ z found-done))

-- no operator of this level comes first
pub no-oper : {A : Type 0} (h : ℕ) (after : State) (span : Span) (k : TokenKind) → Halts h k → (f : ((Op × Span) × State) → A) (y : A) → choose (signed h after span k) f y ≡ y
no-oper h after span (kind.Oper o) l f y = no-if (height o == h) refl
  where
    no-if : (b : Bool) → (height o == h) ≡ b → choose (if b then Ok ((o, span), after) else Err (fault.Expected span.from)) f y ≡ y
    no-if true e = absurd (let i = eqb-true (height o) h e in omega (arith, i, l))
    no-if false e = refl
no-oper h after span _ l f y = refl

pub no-operator : {A : Type 0} (h : ℕ) (u : State) (ts : List Token) → Stops h ts → (f : ((Op × Span) × State) → A) (y : A) → choose (operator_at h (behind u ts)) f y ≡ y
no-operator h u [] s f y = refl
no-operator h u (t ∷ ts) s f y = no-oper h (behind u ts) t.span t.kind s f y

pub an-operator : (h : ℕ) (u : State) (t : Token) (ts : List Token) (o : Op) → t.kind ≡ kind.Oper o → height o ≡ h → operator_at h (behind u (t ∷ ts)) ≡ Ok ((o, t.span), behind u ts)
an-operator h u t ts o p q = ap (λ k. signed h (behind u ts) t.span k) p ∙ ap (λ b. if b then Ok ((o, t.span), behind u ts) else Err (fault.Expected t.span.from)) (eq-eqb (height o) h q)

pub find-kind : (text : Bytes) (says : Span → Bytes) (p : ℕ) (u : State) (ts rest : List Token) (k : KindTree) → Suffix says ts rest k → NoSuffix rest → Agree text says ts → Found rest k (kind_at text p (behind u ts))
unfolding kind_at
find-kind text says p u ts rest k s n g =
    found-counted p (record { toks = ts; variables = u.variables; operators = u.operators - 1; calls = u.calls; end = u.end }) (u.operators == 0) (suffix_at text)
    (find-suffix text says (record { toks = ts; variables = u.variables; operators = u.operators - 1; calls = u.calls; end = u.end }) ts rest k s n g)

pub find-more : (text : Bytes) (says : Span → Bytes) (h : ℕ) (next : Read ExprTree) → Seeks text says h next → (u : State) (ts rest : List Token) (steps : List Step) → Operands says h ts rest steps → Stops (suc h) rest → Agree text says ts →
    (n : ℕ) → length ts ≤ n → (left whole : ExprTree) → joined_left left steps ≡ whole → Found rest whole (more_at text (suc h) next n left (behind u ts))
unfolding more_at
find-more text says h next i u ts rest steps grammar.last s g zero m left whole e = found-ok e
find-more text says h next i u ts rest steps grammar.last s g (suc n) m left whole e = found-same (no-operator (suc h) u ts s _ _) (found-ok e)
find-more text says h next i u ts rest steps (grammar.operator p q k l o) s g zero m left whole e = absurd (omega (arith, m))
find-more text says h next i u ts rest steps (grammar.operator {t = t} {o = x} {ts = a} {mid = b} {next = c} {k = kk} {r = rr} {steps = more} p q k l o) s g (suc n) m left whole e =
    let kb = behind-suffix says k in
    let lb = behind-level l in
    let w = shorter-behind kb in
    let z = shorter-behind lb in
    found-chosen (operator_at (suc h) (behind u (t ∷ a))) ((x, t.span), behind u a) _ _ (an-operator (suc h) u t a x p q)
    (found-then _ _ (find-kind text says t.span.from u a b kk k (level-suffix l) g.1)
    (λ v. found-then _ _ (i v b c rr l (stops-operands o s) (agree-behind text says kb g.1))
    (λ y. find-more text says h next i y c rest more o s (agree-behind text says lb (agree-behind text says kb g.1)) n (omega (arith, m, w, z)) (BinTree x t.span kk left rr) whole e)))

pub find-level : (text : Bytes) (says : Span → Bytes) (inner : ℕ → Read ExprTree) → Finder text says inner → (h : ℕ) → Seeks text says h (level_at text inner h)
unfolding level_at
find-level text says inner f zero u ts rest e (grammar.operand p) s g = find-prim text says inner f u ts rest e p s g
find-level text says inner f (suc h) u ts rest e (grammar.joined {mid = m} {e = x} {steps = steps} l o j) s g =
    found-then _ _ (find-level text says inner f h u ts m x l (stops-operands o s) g)
    (λ v. find-more text says h (level_at text inner h) (find-level text says inner f h) v m rest steps o s (agree-behind text says (behind-level l) g) (length m) (omega arith) x e j)

pub find-bracketed : (text : Bytes) (says : Span → Bytes) (d : ℕ) → Finder text says (bracketed text d)
unfolding bracketed
find-bracketed text says zero p u ts rest e l s g = record { finds = tt {0} }
find-bracketed text says (suc d) p u ts rest e l s g = find-level text says (bracketed text d) (find-bracketed text says d) 7 u ts rest e l s g

pub find-expr : (text : Bytes) (says : Span → Bytes) (d : ℕ) → Seeks text says 7 (expr_at text d)
find-expr text says d u ts rest e l s g = find-level text says (bracketed text d) (find-bracketed text says d) 7 u ts rest e l s g
