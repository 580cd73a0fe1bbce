-- What is spelled is found: lists and statements.
use Rattle.std.proofs.Common.{◌≡◌, ℕ, zero, suc, ◌+◌, ◌-◌, ◌<◌, Bool, true, false, ◌==◌, List, [], ◌∷◌, length, Ok, Err, refl, ap, sym, subst, arith, nat_lt, if◌then◌else◌}
use Rattle.std.proofs.lemmas.Bool.{eqb-true, le-ltb}
use Rattle.rely_num.specs.Texts.{Bytes}
use Rattle.rely_num.specs.declared.span.Span.{Span}
use Rattle.rely_lexer.specs.declared.token.Token.{Token}
use Rattle.rely_lexer.specs.declared.token.TokenKind.{TokenKind}
use Rattle.rely_lexer.specs.declared.token.TokenKind.TheVariants as kind
use Rattle.rely_num.specs.declared.word.Word.{Word}
use Rattle.rely_num.specs.declared.word.Word.TheVariants as word
use Rattle.rely_tree.specs.Tree.{IdentTree, ExprTree, StmtTree, SetTree, SetElemTree, IfTree, WhileTree, RepeatTree, CallTree, Block}
use Rattle.rely_parser.specs.declared.fault.ParseFault.TheVariants as fault
use Rattle.rely_parser.specs.State.{State, Reading, Read, behind, place, ◌>>=◌, choose, skip_at, word_number, worded, skip_word_at, numbered, count_at, name_at, word_at}
use Rattle.rely_parser.specs.Grammar.{expr_at}
use Rattle.rely_parser.specs.Statements.{more_of, list_of, args_at, call_at, set_at, assignment_at, condition_at, items_at, otherwise_at, if_at, while_at, repeat_at, stmt_of, stmt_with, braces, block_at, stmt_at}
use Rattle.rely_parser.specs.Productions as grammar
use Rattle.rely_parser.specs.Productions.{Spells, done, one, seq, either, other, Agree, Name, ident_of, Tail, Listed, Expr, Prim, Level, Count, Stmt, Braces, Stmts, Else}
use Rattle.rely_parser.proofs.Marks.{word-one}
use Rattle.rely_parser.proofs.Finds.{Found, found-done, found-then, found-same, found-kind, found-counted, found-skip, found-word, found-mark, found-no-mark, found-chosen, skip-word, NotKind, NotMark, Stops, stops-mark, Behind, here, later, trans, agree-behind, shorter-behind, behind-level, find-name, find-bracketed, find-expr}

-- a word other than w comes first, or none
abbrev pub NotWordKind : Word → TokenKind → Type 0
NotWordKind w (kind.Word v) = v ≡ w → ⊥
NotWordKind w _ = Unit {0}

abbrev pub NotWord : Word → List Token → Type 0
NotWord w [] = Unit {0}
NotWord w (t ∷ ts) = NotWordKind w t.kind

pub word-if : {A C : Type 0} (v w : Word) (after : C) (p : ℕ) (b : Bool) → (word_number v == word_number w) ≡ b → (v ≡ w → ⊥) → (f : C → A) (g : A) → choose (if b then Ok after else Err (fault.Expected p)) f g ≡ g
word-if v w after p true e h f g = absurd (h (word-one v w (eqb-true (word_number v) (word_number w) e)))
word-if v w after p false e h f g = refl

pub word-kind : {A : Type 0} (w : Word) (after : State) (span : Span) (k : TokenKind) → NotWordKind w k → (f : State → A) (g : A) → choose (worded w after span k) f g ≡ g
word-kind w after span (kind.Word v) h f g = word-if v w after span.from (word_number v == word_number w) refl h f g
word-kind w after span _ h f g = refl

pub word-other : {A : Type 0} (w : Word) (u : State) (ts : List Token) → NotWord w ts → (f : State → A) (g : A) → choose (skip_word_at w (behind u ts)) f g ≡ g
word-other w u [] h f g = refl
word-other w u (t ∷ ts) h f g = word-kind w (behind u ts) t.span t.kind h f g

pub found-no-word : {A : Type 0} {rest : List Token} {a : A} (w : Word) (u : State) (ts : List Token) (f : State → Reading (A × State)) (g : Reading (A × State)) → NotWord w ts → Found rest a g → Found rest a (choose (skip_word_at w (behind u ts)) f g)
found-no-word w u ts f g n h = found-same (word-other w u ts n f g) h

pub found-the-word : {A : Type 0} {rest : List Token} {a : A} (w : Word) (u : State) (t : Token) (ts : List Token) (f : State → Reading (A × State)) (g : Reading (A × State)) → t.kind ≡ kind.Word w → Found rest a (f (behind u ts)) →
    Found rest a (choose (skip_word_at w (behind u (t ∷ ts))) f g)
found-the-word w u t ts f g p h = found-chosen (skip_word_at w (behind u (t ∷ ts))) (behind u ts) f g (skip-word w u t ts p) h

-- readings that find items
abbrev pub Seeking : {A : Type 0} → Bytes → (Span → Bytes) → Spells A → (List Token → Type 0) → Read A → Type 0
Seeking {A} text says I Ends item = (u : State) (ts rest : List Token) (a : A) → I ts rest a → Ends rest → Agree text says ts → Found rest a (item (behind u ts))

-- what is known of items of a list with commas
pub record Commas {A : Type 0} (text : Bytes) (says : Span → Bytes) (I : Spells A) (Ends : List Token → Type 0) (item : Read A) : Type 0 where
  pub seeks : Seeking text says I Ends item
  pub comma : (t : Token) (rest : List Token) → t.kind ≡ kind.Mark 44 → Ends (t ∷ rest)
  pub close : (t : Token) (rest : List Token) → t.kind ≡ kind.Mark 41 → Ends (t ∷ rest)
  pub behind : (ts rest : List Token) (a : A) → I ts rest a → Behind ts rest
  pub begins : (ts rest : List Token) (a : A) → I ts rest a → NotMark 41 ts

pub tail-ends : {A : Type 0} (text : Bytes) (says : Span → Bytes) (I : Spells A) (Ends : List Token → Type 0) (item : Read A) → Commas text says I Ends item → (ts rest : List Token) (xs : List A) → Tail I ts rest xs → Ends ts
tail-ends text says I Ends item c ts rest xs (grammar.closed {t = t} {rest = r} p) = c.close t r p
tail-ends text says I Ends item c ts rest xs (grammar.comma {t = t} {ts = r} p i q) = c.comma t r p

pub behind-tail : {A : Type 0} {I : Spells A} → ((ts rest : List Token) (a : A) → I ts rest a → Behind ts rest) → {ts rest : List Token} {xs : List A} → Tail I ts rest xs → Behind ts rest
behind-tail b (grammar.closed p) = later here
behind-tail b (grammar.comma p i t) = later (trans (b _ _ _ i) (behind-tail b t))

pub behind-listed : {A : Type 0} {I : Spells A} → ((ts rest : List Token) (a : A) → I ts rest a → Behind ts rest) → {ts rest : List Token} {xs : List A} → Listed I ts rest xs → Behind ts rest
behind-listed b (grammar.empty p) = later here
behind-listed b (grammar.items i t) = trans (b _ _ _ i) (behind-tail b t)

pub find-tail : {A : Type 0} (text : Bytes) (says : Span → Bytes) (I : Spells A) (Ends : List Token → Type 0) (item : Read A) → Commas text says I Ends item → (u : State) (ts rest : List Token) (xs : List A) → Tail I ts rest xs → Agree text says ts →
    (n : ℕ) → length ts < n → Found rest xs (more_of item n (behind u ts))
unfolding more_of
find-tail text says I Ends item c u ts rest xs d g zero l = absurd (omega (arith, l))
find-tail text says I Ends item c u ts rest xs (grammar.closed {t = t} {rest = r} p) g (suc n) l =
    found-no-mark 44 u ts _ _ (subst (NotKind 44) (sym p) (λ e. absurd (omega (arith, e)))) (found-skip 41 u t r _ p found-done)
find-tail text says I Ends item c u ts rest xs (grammar.comma {t = t} {ts = a} {mid = b} {x = x} {xs = ys} p i d) g (suc n) l =
    let w = c.behind a b x i in
    let z = shorter-behind w in
    found-mark 44 u t a _ _ p
    (found-then _ _ (c.seeks u a b x i (tail-ends text says I Ends item c b rest ys d) g.1)
    (λ v. found-then _ _ (find-tail text says I Ends item c v b rest ys d (agree-behind text says w g.1) n (omega (arith, l, z))) (λ y. found-done)))

pub find-listed : {A : Type 0} (text : Bytes) (says : Span → Bytes) (I : Spells A) (Ends : List Token → Type 0) (item : Read A) → Commas text says I Ends item → (u : State) (ts rest : List Token) (xs : List A) → Listed I ts rest xs →
    Agree text says ts → Found rest xs (list_of item (behind u ts))
unfolding list_of
find-listed text says I Ends item c u ts rest xs (grammar.empty {t = t} {rest = r} p) g = found-mark 41 u t r _ _ p found-done
find-listed text says I Ends item c u ts rest xs (grammar.items {mid = b} {x = x} {xs = ys} i d) g =
    let w = c.behind ts b x i in
    found-no-mark 41 u ts _ _ (c.begins ts b x i)
    (found-then _ _ (c.seeks u ts b x i (tail-ends text says I Ends item c b rest ys d) g)
    (λ v. found-then _ _ (find-tail text says I Ends item c v b rest ys d (agree-behind text says w g) (length b + 1) (omega arith)) (λ y. found-done)))

-- an operand begins with a number, a name or a bracket
abbrev pub IsHead : TokenKind → Type 0
IsHead kind.Name = Unit {0}
IsHead (kind.Number n) = Unit {0}
IsHead (kind.Mark m) = m ≡ 40
IsHead _ = ⊥

abbrev pub Begin : List Token → Type 0
Begin [] = ⊥
Begin (t ∷ ts) = IsHead t.kind

pub prim-begin : {says : Span → Bytes} {ts rest : List Token} {e : ExprTree} → Prim says ts rest e → Begin ts
prim-begin (grammar.number p) = subst IsHead (sym p) (tt {0})
prim-begin (grammar.scalar p) = subst IsHead (sym p) (tt {0})
prim-begin (grammar.element p q l r) = subst IsHead (sym p) (tt {0})
prim-begin (grammar.inside p l r) = subst IsHead (sym p) refl

pub level-begin : {says : Span → Bytes} {h : ℕ} {ts rest : List Token} {e : ExprTree} → Level says h ts rest e → Begin ts
level-begin (grammar.operand p) = prim-begin p
level-begin (grammar.joined l o e) = level-begin l

pub head-close : (k : TokenKind) → IsHead k → NotKind 41 k
head-close kind.Name h = tt {0}
head-close (kind.Number n) h = tt {0}
head-close (kind.Mark m) h = λ e. absurd (omega (arith, h, e))
head-close _ h = absurd h

pub begin-close : (ts : List Token) → Begin ts → NotMark 41 ts
begin-close [] h = tt {0}
begin-close (t ∷ ts) h = head-close t.kind h

pub head-word : (w : Word) (k : TokenKind) → IsHead k → NotWordKind w k
head-word w kind.Name h = tt {0}
head-word w (kind.Number n) h = tt {0}
head-word w (kind.Mark m) h = tt {0}
head-word w _ h = absurd h

pub begin-word : (w : Word) (ts : List Token) → Begin ts → NotWord w ts
begin-word w [] h = tt {0}
begin-word w (t ∷ ts) h = head-word w t.kind h

pub expr-commas : (text : Bytes) (says : Span → Bytes) (d : ℕ) → Commas text says (Expr says) (Stops 7) (expr_at text d)
expr-commas text says d = record {
  seeks = find-expr text says d;
  comma = λ t rest p. stops-mark 44 7 t p (λ e. absurd (omega (arith, e)));
  close = λ t rest p. stops-mark 41 7 t p (λ e. absurd (omega (arith, e)));
  behind = λ ts rest a i. behind-level i;
  begins = λ ts rest a i. begin-close ts (level-begin i);
}

pub find-args : (text : Bytes) (says : Span → Bytes) (d p : ℕ) (u : State) (ts rest : List Token) (xs : List ExprTree) → Listed (Expr says) ts rest xs → Agree text says ts → Found rest xs (args_at text d p (behind u ts))
unfolding args_at
find-args text says zero p u ts rest xs l g = record { finds = tt {0} }
find-args text says (suc d) p u ts rest xs l g = find-listed text says (Expr says) (Stops 7) (expr_at text d) (expr-commas text says d) u ts rest xs l g

pub find-count : (u : State) (ts rest : List Token) (n : ℕ) → Count ts rest n → Found rest n (count_at (behind u ts))
find-count u ts rest n (grammar.turns {t = t} {rest = r} p l) =
    found-kind (λ k. numbered (behind u r) t.span k >>= λ x. if nat_lt 4294967295 x.0 then Err (fault.Expected t.span.from) else Ok (x.0, x.1)) p
    (found-same (ap (λ b. if b then Err (fault.Expected t.span.from) else Ok (n, behind u r)) (le-ltb 4294967295 n l)) found-done)

-- the rest is behind, and not all of it
pub data Past : List Token → List Token → Type 0 where
  past : {t : Token} {ts rest : List Token} → Behind ts rest → Past (t ∷ ts) rest

pub from-past : {ts rest : List Token} → Past ts rest → Behind ts rest
from-past (past b) = later b

pub less-past : {ts rest : List Token} → Past ts rest → length rest < length ts
less-past (past b) = let o = shorter-behind b in omega (arith, o)

pub behind-count : {ts rest : List Token} {n : ℕ} → Count ts rest n → Behind ts rest
behind-count (grammar.turns p l) = later here

-- an expression with the token behind it
pub behind-closed : {says : Span → Bytes} {ts rest : List Token} {c : Token} {e : ExprTree} → Expr says ts (c ∷ rest) e → Behind ts rest
behind-closed l = trans (behind-level l) (later here)

mutual
  pub past-stmt : {says : Span → Bytes} {ts rest : List Token} {s : StmtTree} → Stmt says ts rest s → Past ts rest
  past-stmt (grammar.set p q e z) = past (later (trans (behind-level e) (later here)))
  past-stmt (grammar.set_element p b i d q e z) = past (later (trans (behind-level i) (later (later (trans (behind-level e) (later here))))))
  past-stmt (grammar.call p q w n b l z) = past (later (later (later (later (trans (behind-listed (λ ts rest a i. behind-level i) l) (later here))))))
  past-stmt (grammar.choice w b e c h o) = past (later (trans (behind-level e) (later (trans (behind-braces h) (behind-else o)))))
  past-stmt (grammar.loop w b e c m n body) = past (later (trans (behind-level e) (later (later (trans (behind-count n) (behind-braces body))))))
  past-stmt (grammar.repeat w n body) = past (trans (behind-count n) (behind-braces body))

  pub behind-braces : {says : Span → Bytes} {ts rest : List Token} {b : Block} → Braces says ts rest b → Behind ts rest
  behind-braces (grammar.braces p b) = later (behind-stmts b)

  pub behind-stmts : {says : Span → Bytes} {ts rest : List Token} {b : Block} → Stmts says ts rest b → Behind ts rest
  behind-stmts (grammar.end p) = later here
  behind-stmts (grammar.next s b) = trans (from-past (past-stmt s)) (behind-stmts b)

  pub behind-else : {says : Span → Bytes} {ts rest : List Token} {b : Block} → Else says ts rest b → Behind ts rest
  behind-else grammar.absent = here
  behind-else (grammar.present p b) = later (behind-braces b)

pub behind-stmt : {says : Span → Bytes} {ts rest : List Token} {s : StmtTree} → Stmt says ts rest s → Behind ts rest
behind-stmt s = from-past (past-stmt s)

pub less-stmt : {says : Span → Bytes} {ts rest : List Token} {s : StmtTree} → Stmt says ts rest s → length rest < length ts
less-stmt s = less-past (past-stmt s)

pub find-condition : (text : Bytes) (says : Span → Bytes) (d : ℕ) (u : State) (b c : Token) (ts rest : List Token) (e : ExprTree) → b.kind ≡ kind.Mark 40 → Expr says ts (c ∷ rest) e → c.kind ≡ kind.Mark 41 → Agree text says ts →
    Found rest e (condition_at text d (behind u (b ∷ ts)))
unfolding condition_at
find-condition text says d u b c ts rest e p l q g =
    found-skip 40 u b ts _ p (found-then _ _ (find-bracketed text says d b.span.from u ts (c ∷ rest) e l (stops-mark 41 7 c q (λ y. absurd (omega (arith, y)))) g) (λ v. found-skip 41 v c rest _ q found-done))

-- readings that find blocks
abbrev pub Blocks : Bytes → (Span → Bytes) → Read Block → Type 0
Blocks text says block = (u : State) (ts rest : List Token) (b : Block) → Braces says ts rest b → Agree text says ts → Found rest b (block (behind u ts))

pub find-else : (text : Bytes) (says : Span → Bytes) (block : Read Block) → Blocks text says block → (u : State) (ts rest : List Token) (b : Block) → Else says ts rest b → NotWord word.Else rest → Agree text says ts →
    Found rest b (otherwise_at block (behind u ts))
unfolding otherwise_at
find-else text says block f u ts rest b grammar.absent n g = found-no-word word.Else u ts _ _ n found-done
find-else text says block f u ts rest b (grammar.present {w = w} {ts = l} p d) n g = found-the-word word.Else u w l _ _ p (f u l rest b d g.1)

pub find-if : (text : Bytes) (says : Span → Bytes) (d : ℕ) (block : Read Block) → Blocks text says block → (span : Span) (u : State) (b c : Token) (ts next after rest : List Token) (e : ExprTree) (held otherwise : Block) →
    b.kind ≡ kind.Mark 40 → Expr says ts (c ∷ next) e → c.kind ≡ kind.Mark 41 → Braces says next after held → Else says after rest otherwise → NotWord word.Else rest → Agree text says ts →
    Found rest (IfTree span e held otherwise) (if_at text d block span (behind u (b ∷ ts)))
unfolding if_at
find-if text says d block f span u b c ts next after rest e held otherwise p l q h o n g =
    let g1 = agree-behind text says (behind-closed l) g in
    found-then _ _ (find-condition text says d u b c ts next e p l q g)
    (λ v. found-then _ _ (f v next after held h g1) (λ w. found-then _ _ (find-else text says block f w after rest otherwise o n (agree-behind text says (behind-braces h) g1)) (λ y. found-done)))

pub find-while : (text : Bytes) (says : Span → Bytes) (d : ℕ) (block : Read Block) → Blocks text says block → (span : Span) (u : State) (b c m : Token) (ts next after rest : List Token) (e : ExprTree) (n : ℕ) (body : Block) →
    b.kind ≡ kind.Mark 40 → Expr says ts (c ∷ m ∷ next) e → c.kind ≡ kind.Mark 41 → m.kind ≡ kind.Word word.Max → Count next after n → Braces says after rest body → Agree text says ts →
    Found rest (WhileTree span e n body) (while_at text d block span (behind u (b ∷ ts)))
unfolding while_at
find-while text says d block f span u b c m ts next after rest e n body p l q r k h g =
    let g1 = agree-behind text says (behind-closed l) g in
    found-then _ _ (find-condition text says d u b c ts (m ∷ next) e p l q g)
    (λ v. found-word word.Max v m next _ r (found-then _ _ (find-count v next after n k) (λ w. found-then _ _ (f w after rest body h (agree-behind text says (behind-count k) g1.1)) (λ y. found-done))))

pub find-repeat : (text : Bytes) (says : Span → Bytes) (block : Read Block) → Blocks text says block → (span : Span) (u : State) (ts next rest : List Token) (n : ℕ) (body : Block) →
    Count ts next n → Braces says next rest body → Agree text says ts → Found rest (RepeatTree span n body) (repeat_at block span (behind u ts))
unfolding repeat_at
find-repeat text says block f span u ts next rest n body k h g =
    found-then _ _ (find-count u ts next n k) (λ w. found-then _ _ (f w next rest body h (agree-behind text says (behind-count k) g)) (λ y. found-done))

pub find-call : (text : Bytes) (says : Span → Bytes) (d : ℕ) (target : IdentTree) (w : Span) (u : State) (n b c : Token) (ts rest : List Token) (es : List ExprTree) →
    n.kind ≡ kind.Name → b.kind ≡ kind.Mark 40 → Listed (Expr says) ts (c ∷ rest) es → c.kind ≡ kind.Mark 59 → word_at text n.span ≡ says n.span → Agree text says ts →
    Found rest (CallTree target.span target w (ident_of says n) es) (call_at text d target w (behind u (n ∷ b ∷ ts)))
unfolding call_at
find-call text says d target w u n b c ts rest es p q l z i g =
    let v : State = record { toks = n ∷ b ∷ ts; variables = u.variables; operators = u.operators; calls = u.calls - 1; end = u.end } in
    found-counted w.from v (u.calls == 0)
    (λ a. name_at text a >>= λ callee. skip_at 40 callee.1 >>= λ b. args_at text d (place callee.1) b >>= λ x. skip_at 59 x.1 >>= λ end. Ok (CallTree target.span target w callee.0 x.0, end))
    (found-then _ _ (find-name text says v n (b ∷ ts) p i)
    (λ y. found-skip 40 y b ts _ q (found-then _ _ (find-args text says d b.span.from y ts (c ∷ rest) es l g) (λ x. found-skip 59 x c rest _ z found-done))))

pub find-set : (text : Bytes) (says : Span → Bytes) (d : ℕ) (target : IdentTree) (u : State) (c : Token) (ts rest : List Token) (e : ExprTree) → Expr says ts (c ∷ rest) e → c.kind ≡ kind.Mark 59 → Agree text says ts →
    Found rest (SetTree target.span target e) (set_at text d target (behind u ts))
unfolding set_at
find-set text says d target u c ts rest e l z g =
    found-no-word word.Call u ts _ _ (begin-word word.Call ts (level-begin l))
    (found-then _ _ (find-expr text says d u ts (c ∷ rest) e l (stops-mark 59 7 c z (λ y. absurd (omega (arith, y)))) g) (λ v. found-skip 59 v c rest _ z found-done))

pub find-set-call : (text : Bytes) (says : Span → Bytes) (d : ℕ) (target : IdentTree) (u : State) (w n b c : Token) (ts rest : List Token) (es : List ExprTree) →
    w.kind ≡ kind.Word word.Call → n.kind ≡ kind.Name → b.kind ≡ kind.Mark 40 → Listed (Expr says) ts (c ∷ rest) es → c.kind ≡ kind.Mark 59 → word_at text n.span ≡ says n.span → Agree text says ts →
    Found rest (CallTree target.span target w.span (ident_of says n) es) (set_at text d target (behind u (w ∷ n ∷ b ∷ ts)))
unfolding set_at
find-set-call text says d target u w n b c ts rest es j p q l z i g =
    found-the-word word.Call u w (n ∷ b ∷ ts) _ _ j (find-call text says d target w.span u n b c ts rest es p q l z i g)

pub find-element : (text : Bytes) (says : Span → Bytes) (d : ℕ) (target : IdentTree) (u : State) (b k q c : Token) (ts next rest : List Token) (i e : ExprTree) →
    b.kind ≡ kind.Mark 91 → Expr says ts (k ∷ q ∷ next) i → k.kind ≡ kind.Mark 93 → q.kind ≡ kind.Mark 61 → Expr says next (c ∷ rest) e → c.kind ≡ kind.Mark 59 → Agree text says ts →
    Found rest (SetElemTree target.span target i e) (assignment_at text d target (behind u (b ∷ ts)))
unfolding assignment_at
find-element text says d target u b k q c ts next rest i e p l r j m z g =
    let g1 = agree-behind text says (behind-closed l) g in
    found-no-mark 61 u (b ∷ ts) _ _ (subst (NotKind 61) (sym p) (λ y. absurd (omega (arith, y))))
    (found-skip 91 u b ts _ p
    (found-then _ _ (find-bracketed text says d b.span.from u ts (k ∷ q ∷ next) i l (stops-mark 93 7 k r (λ y. absurd (omega (arith, y)))) g)
    (λ v. found-skip 93 v k (q ∷ next) _ r (found-skip 61 v q next _ j
    (found-then _ _ (find-expr text says d v next (c ∷ rest) e m (stops-mark 59 7 c z (λ y. absurd (omega (arith, y)))) g1.1) (λ y. found-skip 59 y c rest _ z found-done))))))

pub find-assigned : (text : Bytes) (says : Span → Bytes) (d : ℕ) (target : IdentTree) (u : State) (q : Token) (ts rest : List Token) (a : StmtTree) → q.kind ≡ kind.Mark 61 → Found rest a (set_at text d target (behind u ts)) →
    Found rest a (assignment_at text d target (behind u (q ∷ ts)))
unfolding assignment_at
find-assigned text says d target u q ts rest a p h = found-mark 61 u q ts _ _ p h

pub find-stmt : (text : Bytes) (says : Span → Bytes) (d : ℕ) (block : Read Block) → Blocks text says block → (u : State) (ts rest : List Token) (a : StmtTree) → Stmt says ts rest a → NotWord word.Else rest → Agree text says ts →
    Found rest a (stmt_with text d block (behind u ts))
unfolding stmt_with
find-stmt text says d block f u ts rest a (grammar.set {t = t} {q = q} {c = c} {ts = l} {rest = r} {e = e} p j x z) n g =
    found-kind (λ k. stmt_of text d block (behind u (q ∷ l)) t.span k) p
    (found-same (ap (λ x. assignment_at text d (record { text = x; span = t.span }) (behind u (q ∷ l))) g.0)
    (find-assigned text says d (ident_of says t) u q l r a j (find-set text says d (ident_of says t) u c l r e x z g.1.1)))
find-stmt text says d block f u ts rest a (grammar.set_element {t = t} {b = b} {d = k} {q = q} {c = c} {ts = l} {next = y} {rest = r} {i = i} {e = e} p j x v w m z) n g =
    found-kind (λ k. stmt_of text d block (behind u (b ∷ l)) t.span k) p
    (found-same (ap (λ x. assignment_at text d (record { text = x; span = t.span }) (behind u (b ∷ l))) g.0)
    (find-element text says d (ident_of says t) u b k q c l y r i e j x v w m z g.1.1))
find-stmt text says d block f u ts rest a (grammar.call {t = t} {q = q} {w = w} {n = n} {b = b} {c = c} {ts = l} {rest = r} {es = es} p j v m x y z) k g =
    found-kind (λ k. stmt_of text d block (behind u (q ∷ w ∷ n ∷ b ∷ l)) t.span k) p
    (found-same (ap (λ x. assignment_at text d (record { text = x; span = t.span }) (behind u (q ∷ w ∷ n ∷ b ∷ l))) g.0)
    (find-assigned text says d (ident_of says t) u q (w ∷ n ∷ b ∷ l) r a j (find-set-call text says d (ident_of says t) u w n b c l r es v m x y z g.1.1.1.0 g.1.1.1.1.1)))
find-stmt text says d block f u ts rest a (grammar.choice {w = w} {b = b} {c = c} {ts = l} {next = y} {after = v} {rest = r} {e = e} {held = held} {otherwise = o} p j x z h i) n g =
    found-kind (λ k. stmt_of text d block (behind u (b ∷ l)) w.span k) p (find-if text says d block f w.span u b c l y v r e held o j x z h i n g.1.1)
find-stmt text says d block f u ts rest a (grammar.loop {w = w} {b = b} {c = c} {m = m} {ts = l} {next = y} {after = v} {rest = r} {e = e} {n = n} {body = body} p j x z i k h) q g =
    found-kind (λ k. stmt_of text d block (behind u (b ∷ l)) w.span k) p (find-while text says d block f w.span u b c m l y v r e n body j x z i k h g.1.1)
find-stmt text says d block f u ts rest a (grammar.repeat {w = w} {ts = l} {next = y} {rest = r} {n = n} {body = body} p k h) q g =
    found-kind (λ k. stmt_of text d block (behind u l) w.span k) p (find-repeat text says block f w.span u l y r n body k h g.1)

-- what a statement begins with
abbrev pub IsStart : TokenKind → Type 0
IsStart kind.Name = Unit {0}
IsStart (kind.Word word.If) = Unit {0}
IsStart (kind.Word word.While) = Unit {0}
IsStart (kind.Word word.Repeat) = Unit {0}
IsStart _ = ⊥

abbrev pub Starts : List Token → Type 0
Starts [] = ⊥
Starts (t ∷ ts) = IsStart t.kind

pub stmt-starts : {says : Span → Bytes} {ts rest : List Token} {a : StmtTree} → Stmt says ts rest a → Starts ts
stmt-starts (grammar.set p q e z) = subst IsStart (sym p) (tt {0})
stmt-starts (grammar.set_element p b i d q e z) = subst IsStart (sym p) (tt {0})
stmt-starts (grammar.call p q w n b l z) = subst IsStart (sym p) (tt {0})
stmt-starts (grammar.choice p b e c h o) = subst IsStart (sym p) (tt {0})
stmt-starts (grammar.loop p b e c m n body) = subst IsStart (sym p) (tt {0})
stmt-starts (grammar.repeat p n body) = subst IsStart (sym p) (tt {0})

pub start-brace : (k : TokenKind) → IsStart k → NotKind 125 k
start-brace (kind.Mark m) h = absurd h
start-brace _ h = tt {0}

pub starts-brace : (ts : List Token) → Starts ts → NotMark 125 ts
starts-brace [] h = tt {0}
starts-brace (t ∷ ts) h = start-brace t.kind h

-- a word that begins no statement
abbrev pub Outside : Word → Type 0
Outside w = (word_number word.If ≡ word_number w → ⊥) × (word_number word.While ≡ word_number w → ⊥) × (word_number word.Repeat ≡ word_number w → ⊥)

pub start-word : (w : Word) → Outside w → (k : TokenKind) → IsStart k → NotWordKind w k
start-word w o (kind.Word word.If) h = λ e. o.0 (ap word_number e)
start-word w o (kind.Word word.While) h = λ e. o.1 (ap word_number e)
start-word w o (kind.Word word.Repeat) h = λ e. o.2 (ap word_number e)
start-word w o (kind.Word _) h = absurd h
start-word w o _ h = tt {0}

pub starts-word : (w : Word) → Outside w → (ts : List Token) → Starts ts → NotWord w ts
starts-word w o [] h = tt {0}
starts-word w o (t ∷ ts) h = start-word w o t.kind h

pub outside-else : Outside word.Else
outside-else = (λ e. absurd (omega (arith, e)), λ e. absurd (omega (arith, e)), λ e. absurd (omega (arith, e)))

pub stmts-else : {says : Span → Bytes} {ts rest : List Token} {b : Block} → Stmts says ts rest b → NotWord word.Else ts
stmts-else (grammar.end p) = subst (NotWordKind word.Else) (sym p) (tt {0})
stmts-else {ts = ts} (grammar.next s b) = starts-word word.Else outside-else ts (stmt-starts s)

pub find-stmts : (text : Bytes) (says : Span → Bytes) (stmt : Read StmtTree) → ((u : State) (ts rest : List Token) (a : StmtTree) → Stmt says ts rest a → NotWord word.Else rest → Agree text says ts → Found rest a (stmt (behind u ts))) →
    (u : State) (ts rest : List Token) (b : Block) → Stmts says ts rest b → Agree text says ts → (n : ℕ) → length ts < n → Found rest b (items_at stmt n (behind u ts))
unfolding items_at
find-stmts text says stmt f u ts rest b d g zero l = absurd (omega (arith, l))
find-stmts text says stmt f u ts rest b (grammar.end {c = c} {rest = r} p) g (suc n) l = found-mark 125 u c r _ _ p found-done
find-stmts text says stmt f u ts rest b (grammar.next {mid = m} {s = s} {b = more} d e) g (suc n) l =
    let z = less-stmt d in
    found-no-mark 125 u ts _ _ (starts-brace ts (stmt-starts d))
    (found-then _ _ (f u ts m s d (stmts-else e) g)
    (λ v. found-then _ _ (find-stmts text says stmt f v m rest more e (agree-behind text says (behind-stmt d) g) n (omega (arith, l, z))) (λ y. found-done)))

-- readings that find what is in braces
abbrev pub Insides : Bytes → (Span → Bytes) → ℕ → Type 0
Insides text says d = (p : ℕ) (u : State) (ts rest : List Token) (b : Block) → Stmts says ts rest b → Agree text says ts → Found rest b (braces text d p (behind u ts))

pub blocks-of : (text : Bytes) (says : Span → Bytes) (d : ℕ) → Insides text says d → Blocks text says (block_at text d)
blocks-of text says d f v ts rest b (grammar.braces {b = c} {ts = l} q i) g = found-skip 123 v c l _ q (f c.span.from v l rest b i g.1)

pub find-inside : (text : Bytes) (says : Span → Bytes) (d : ℕ) → Insides text says d
unfolding braces
find-inside text says zero p u ts rest b e g = record { finds = tt {0} }
find-inside text says (suc d) p u ts rest b e g =
    find-stmts text says (stmt_with text d (block_at text d)) (find-stmt text says d (block_at text d) (blocks-of text says d (find-inside text says d))) u ts rest b e g (length ts + 1) (omega arith)

pub find-statement : (text : Bytes) (says : Span → Bytes) (d : ℕ) (u : State) (ts rest : List Token) (a : StmtTree) → Stmt says ts rest a → NotWord word.Else rest → Agree text says ts → Found rest a (stmt_at text d (behind u ts))
find-statement text says d = find-stmt text says d (block_at text d) (blocks-of text says d (find-inside text says d))
