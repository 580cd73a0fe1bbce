-- Readings of declarations, claims, functions and sources against the grammar.
use Rattle.std.proofs.Common.{◌≡◌, ℕ, zero, suc, ◌+◌, ◌-◌, ◌≤◌, Bool, true, false, ◌==◌, ◌||◌, List, [], ◌∷◌, ◌++◌, length, Option, Some, None, Result, Ok, Err, IsTrue, refl, ap, sym, ◌∙◌, arith, nat_lt, if◌then◌else◌, codes}
use Rattle.std.proofs.lemmas.Bool.{eqb-true, ltb-false, lt-ltb, le-ltb}
use Rattle.rely_num.specs.Texts.{Bytes}
use Rattle.rely_num.specs.AttoTexts.{atto_of}
use Rattle.rely_num.specs.declared.atto.NumFault.{NumFault}
use Rattle.rely_num.specs.declared.op.Op.TheVariants as op
use Rattle.rely_num.specs.declared.span.Span.{Span}
use Rattle.rely_lexer.specs.declared.token.Token.{Token}
use Rattle.rely_lexer.specs.declared.token.TokenKind.{TokenKind}
use Rattle.rely_lexer.specs.declared.token.TokenKind.TheVariants as kind
use Rattle.rely_num.specs.declared.word.Word.{Word}
use Rattle.rely_num.specs.declared.word.Word.TheVariants as word
use Rattle.rely_tree.specs.Tree.{IdentTree, KindTree, PlainTree, NamedTree, FreeTree, StmtTree, ReturnTree, Block, ended, also, SaidTree}
use Rattle.rely_parser.specs.declared.fault.ParseFault.TheVariants as fault
use Rattle.rely_parser.specs.State.{State, Reading, Read, behind, place, ◌>>=◌, first_at, skip_at, worded, skip_word_at, numbered, name_at, word_at}
use Rattle.rely_parser.specs.Statements.{list_of}
use Rattle.rely_parser.specs.Declarations.{one_variable, length_at, array_at, chosen, choice_at, memory_at, decl_at}
use Rattle.rely_parser.specs.Units.{is_amount, written, bound_at, skip_sign_at, target_at, behind_bound_at, claim_at, each_behind, some_behind, local_at, last_at, body_of, fresh, function_at, functions_at}
use Rattle.rely_parser.specs.Productions as grammar
use Rattle.rely_parser.specs.Productions.{Spells, Done, done, One, one, Then, seq, Or, either, other, Agree, Mark, Reserved, Sign, Name, ident_of, Listed, Each, OneOrMore, Expr, Stmt, Array, Written, Memory, Var, Local, Target, Bound, amount, Claim, Body, Func, IsUnit, Spelled, Begins, Refuses}
use Rattle.rely_parser.proofs.Laws.{Can, On, at, at-many, at-counted, can-then, can-map, on-map, on-done, on-none, on-token, on-then, on-same, on-either, on-other, on-choose, on-move}
use Rattle.rely_parser.proofs.Marks.{on-name-at, token_of, can-done, can-mark, can-reserved, can-sign, can-name, worded-tests, tested, on-mark, on-reserved, on-sign, on-name}
use Rattle.rely_parser.proofs.Exprs.{can-level, on-expr}
use Rattle.rely_parser.proofs.Stmts.{Reads, can-listed, on-listed, on-stmt}

-- the length of an array
pub data Len : List Token → List Token → ℕ → Type 0 where
  len : {t : Token} {rest : List Token} {n : ℕ} → t.kind ≡ kind.Number n → 1 ≤ n → n ≤ 4096 → Len (t ∷ rest) rest n

pub can-len : Can Len
can-len = record { word = token_of (kind.Number 1) ∷ []; tree = 1; spells = λ tail. len refl (omega arith) (omega arith) }

pub positive : (n : ℕ) → (n == 0) ≡ false → 1 ≤ n
positive zero q = grind (arith, q)
positive (suc n) q = omega arith

pub to-len : (n : ℕ) (ts rest : List Token) (a : ℕ) → Then (One (λ t. (t.kind ≡ kind.Number n) × (1 ≤ n) × (n ≤ 4096))) (λ _. Done n) ts rest a → Len ts rest a
to-len n ts rest a (seq (one p) done) = len p.0 p.1 p.2

pub len-if : (s : State) (t : Token) (ts : List Token) (n : ℕ) → t.kind ≡ kind.Number n → (b c : Bool) → (n == 0) ≡ b → nat_lt 4096 n ≡ c → On Len (behind s (t ∷ ts)) (if b || c then Err (fault.Expected t.span.from) else Ok (n, behind s ts))
len-if s t ts n e true c q r = on-none can-len
len-if s t ts n e false true q r = on-none can-len
len-if s t ts n e false false q r = on-map (to-len n) (on-token s (e, positive n q, ltb-false 4096 n r) on-done)

pub len-kind : (s : State) (t : Token) (ts : List Token) (k : TokenKind) → t.kind ≡ k →
    On Len (behind s (t ∷ ts)) (numbered (behind s ts) t.span k >>= λ x. if x.0 == 0 || nat_lt 4096 x.0 then Err (fault.Expected t.span.from) else Ok (x.0, x.1))
len-kind s t ts (kind.Number n) e = len-if s t ts n e (n == 0) (nat_lt 4096 n) refl refl
len-kind s t ts _ e = on-none can-len

pub len-from : (s : State) (ts : List Token) → On Len (behind s ts) (length_at (behind s ts))
len-from s [] = on-none can-len
len-from s (t ∷ ts) = len-kind s t ts t.kind refl

pub can-array : Can Array
can-array = record { word = []; tree = None; spells = λ tail. grammar.single }

pub to-elements : (ts rest : List Token) (a : Option ℕ) → Then (Mark 91) (λ _. Then Len (λ n. Then (Mark 93) (λ _. Done (Some n)))) ts rest a → Array ts rest a
to-elements ts rest a (seq (one p) (seq (len q l m) (seq (one r) done))) = grammar.elements p q l m r

pub to-single : (ts rest : List Token) (a : Option ℕ) → Done None ts rest a → Array ts rest a
to-single ts rest a done = grammar.single

pub on-array : (text : Bytes) (says : Span → Bytes) → Reads text says Array array_at
on-array text says s g =
    on-choose (skip_at 91 s) (λ a. length_at a >>= λ n. skip_at 93 n.1 >>= λ end. Ok (Some n.0, end))
    (on-map to-elements (on-mark text says 91 s g (λ t. can-then can-len (λ n. can-mark 93 (λ c. can-done _)))
    (λ t a h. on-then text says h (len-from a a.toks) (λ n. can-mark 93 (λ c. can-done _)) (λ x k. on-mark text says 93 x.1 k (λ c. can-done _) (λ c e l. on-done)))))
    (on-map to-single on-done)

pub can-written : (says : Span → Bytes) → Can (Written says)
can-written says = can-map (λ ts rest a d. either d) (can-then (can-name says) (λ n. can-done _))

pub to-written : (says : Span → Bytes) (ts rest : List Token) (a : KindTree) → Then (One (λ t. t.kind ≡ kind.Name)) (λ t. Done (NamedTree (ident_of says t))) ts rest a → Written says ts rest a
to-written says ts rest a (seq (one p) done) = either (seq (seq (one p) done) done)

pub written-mark : (text : Bytes) (says : Span → Bytes) (s : State) (t : Token) (ts : List Token) (m : ℕ) → t.kind ≡ kind.Mark m → (b : Bool) → (m == 63) ≡ b →
    On (Written says) (behind s (t ∷ ts)) (if b then Ok (FreeTree t.span, behind s ts) else Err (fault.Expected t.span.from))
written-mark text says s t ts m e true q = on-other (on-token s (e ∙ ap (λ n. kind.Mark n) (eqb-true m 63 q)) on-done)
written-mark text says s t ts m e false q = on-none (can-written says)

pub written-kind : (text : Bytes) (says : Span → Bytes) (s : State) (t : Token) (ts : List Token) → word_at text t.span ≡ says t.span → (k : TokenKind) → t.kind ≡ k → On (Written says) (behind s (t ∷ ts)) (chosen text (behind s ts) t.span k)
written-kind text says s t ts w kind.Name e = on-same (ap (λ x. Ok (NamedTree (record { text = x; span = t.span }), behind s ts)) w) (on-map (to-written says) (on-token s e on-done))
written-kind text says s t ts w (kind.Mark m) e = written-mark text says s t ts m e (m == 63) refl
written-kind text says s t ts w _ e = on-none (can-written says)

pub written-from : (text : Bytes) (says : Span → Bytes) (s : State) (ts : List Token) → Agree text says ts → On (Written says) (behind s ts) (choice_at text (behind s ts))
written-from text says s [] g = on-none (can-written says)
written-from text says s (t ∷ ts) g = written-kind text says s t ts g.0 t.kind refl

pub can-memory : (says : Span → Bytes) → Can (Memory says)
can-memory says = can-map (λ ts rest a d. other d) (can-done PlainTree)

pub on-memory : (text : Bytes) (says : Span → Bytes) → Reads text says (Memory says) (memory_at text)
on-memory text says s g =
    on-choose (skip_word_at word.In s) (choice_at text)
    (on-either (on-reserved text says word.In s g (λ t. can-written says) (λ t a h. written-from text says a a.toks h)))
    (on-other on-done)

pub can-var : (says : Span → Bytes) → Can (Var says)
can-var says = can-then (can-name says) (λ n. can-then can-array (λ l. can-then (can-memory says) (λ m. can-done _)))

pub on-var : (text : Bytes) (says : Span → Bytes) → Reads text says (Var says) (decl_at text)
unfolding decl_at
on-var text says s g =
    on-name-at text says s
    (λ n. one_variable n.0.span.from n.1 >>= λ a. array_at a >>= λ l. memory_at text l.1 >>= λ m. Ok (record { name = n.0; length = l.0; memory = m.0 }, m.1)) g
    (λ n. can-then can-array (λ l. can-then (can-memory says) (λ m. can-done _)))
    (λ n h. at-counted n.0.span.from (n.1.variables - 1) n.1.operators n.1.calls (n.1.variables == 0)
    (λ a. array_at a >>= λ l. memory_at text l.1 >>= λ m. Ok (record { name = n.0; length = l.0; memory = m.0 }, m.1))
    (can-then can-array (λ l. can-then (can-memory says) (λ m. can-done _)))
    (λ u. on-then text says h (on-array text says _ h) (λ l. can-then (can-memory says) (λ m. can-done _))
    (λ l k. on-then text says k (on-memory text says l.1 k) (λ m. can-done _) (λ m j. on-done))))

pub can-local : (says : Span → Bytes) → Can (Local says)
can-local says = can-then (can-var says) (λ d. can-mark 59 (λ c. can-done _))

pub on-local : (text : Bytes) (says : Span → Bytes) → Reads text says (Local says) (local_at text)
unfolding local_at
on-local text says s g = on-then text says g (on-var text says s g) (λ d. can-mark 59 (λ c. can-done _)) (λ d h. on-mark text says 59 d.1 h (λ c. can-done _) (λ c e k. on-done))

pub can-each : {A : Type 0} {w : Word} {I : Spells A} → Can (Each w I)
can-each = record { word = []; tree = []; spells = λ tail. grammar.none }

pub to-none : {A : Type 0} {w : Word} {I : Spells A} (ts rest : List Token) (a : List A) → Done [] ts rest a → Each w I ts rest a
to-none ts rest a done = grammar.none

pub to-another : {A : Type 0} {w : Word} {I : Spells A} (ts rest : List Token) (a : List A) → Then (Reserved w) (λ _. Then I (λ x. Then (Each w I) (λ xs. Done (x ∷ xs)))) ts rest a → Each w I ts rest a
to-another ts rest a (seq (one p) (seq i (seq e done))) = grammar.another p i e

each-full : {A : Type 0} (text : Bytes) (says : Span → Bytes) (w : Word) (I : Spells A) → Can I → (s : State) (ts : List Token) →
    On (Then (Reserved w) (λ _. Then I (λ x. Then (Each w I) (λ xs. Done (x ∷ xs))))) (behind s ts) (skip_word_at w (behind s ts) >>= λ a. Err (fault.Many (place (behind s ts))))
each-full text says w I c s [] = on-none (can-reserved w (λ t. can-then c (λ x. can-then can-each (λ xs. can-done _))))
each-full text says w I c s (t ∷ ts) =
    tested s t ts (worded w (behind s ts) t.span t.kind) (λ a. Err (fault.Many t.span.from)) (worded-tests w (behind s ts) t.span t.kind)
    (can-reserved w (λ t. can-then c (λ x. can-then can-each (λ xs. can-done _)))) (at-many (can-then c (λ x. can-then can-each (λ xs. can-done _))))

pub on-each : {A : Type 0} (text : Bytes) (says : Span → Bytes) (w : Word) (I : Spells A) (item : Read A) → Can I → Reads text says I item → (n : ℕ) → Reads text says (Each w I) (each_behind w item n)
unfolding each_behind
on-each text says w I item c i zero s g =
    on-choose (skip_word_at w s) (λ a. Err (fault.Many (place s)))
    (on-map to-another (each-full text says w I c s s.toks))
    (on-map to-none on-done)
on-each text says w I item c i (suc n) s g =
    on-choose (skip_word_at w s) (λ a. item a >>= λ x. each_behind w item n x.1 >>= λ y. Ok (x.0 ∷ y.0, y.1))
    (on-map to-another (on-reserved text says w s g (λ t. can-then c (λ x. can-then can-each (λ xs. can-done _)))
    (λ t a h. on-then text says h (i a h) (λ x. can-then can-each (λ xs. can-done _)) (λ x k. on-then text says k (on-each text says w I item c i n x.1 k) (λ xs. can-done _) (λ y l. on-done)))))
    (on-map to-none on-done)

pub can-some : {A : Type 0} {w : Word} {I : Spells A} → Can I → Can (OneOrMore w I)
can-some {w = w} c = can-reserved w (λ t. can-then c (λ x. can-then can-each (λ xs. can-done _)))

pub on-some : {A : Type 0} (text : Bytes) (says : Span → Bytes) (w : Word) (I : Spells A) (item : Read A) → Can I → Reads text says I item → (n : ℕ) → Reads text says (OneOrMore w I) (some_behind w item n)
unfolding some_behind
on-some text says w I item c i n s g =
    on-reserved text says w s g (λ t. can-then c (λ x. can-then can-each (λ xs. can-done _)))
    (λ t a h. on-then text says h (i a h) (λ x. can-then can-each (λ xs. can-done _)) (λ x k. on-then text says k (on-each text says w I item c i n x.1 k) (λ xs. can-done _) (λ y l. on-done)))

pub on-target : (text : Bytes) (says : Span → Bytes) → Reads text says (Target says) (target_at text)
on-target text says s g =
    on-choose (skip_word_at word.Result s) (λ a. Ok (None, a))
    (on-either (on-reserved text says word.Result s g (λ t. can-done _) (λ t a h. on-done)))
    (on-other (on-then text says g (on-name text says s g) (λ n. can-done _) (λ n h. on-done)))

pub can-target : (says : Span → Bytes) → Can (Target says)
can-target says = can-map (λ ts rest a d. other d) (can-then (can-name says) (λ n. can-done _))

-- some span says a probability
pub record Spare (says : Span → Bytes) : Type 0 where
  pub span : Span
  pub value : ℕ
  pub reads : atto_of (says span) ≡ Ok value

pub can-bound : (says : Span → Bytes) → Spare says → Can (Bound says)
can-bound says z = record { word = record { kind = kind.Decimal; span = z.span } ∷ []; tree = z.value; spells = λ tail. amount refl z.reads }

pub bind-assoc : {A B C : Type 0} (r : Reading A) (f : A → Reading B) (k : B → Reading C) → ((r >>= f) >>= k) ≡ (r >>= λ x. f x >>= k)
bind-assoc (Ok x) f k = refl
bind-assoc (Err e) f k = refl

pub to-amount : {B : Type 0} (says : Span → Bytes) (n : ℕ) (E : ℕ → Spells B) (ts rest : List Token) (a : B) →
    Then (One (λ t. IsTrue (is_amount t.kind) × (atto_of (says t.span) ≡ Ok n))) (λ _. E n) ts rest a → Then (Bound says) E ts rest a
to-amount says n E ts rest a (seq (one p) d) = seq (amount p.0 p.1) d

-- a bound that is judged before it is passed
pub bound-written : {B : Type 0} (text : Bytes) (says : Span → Bytes) (s : State) (t : Token) (ts : List Token) → word_at text t.span ≡ says t.span → IsTrue (is_amount t.kind) → (E : ℕ → Spells B) → Can (Then (Bound says) E) →
    (k : ℕ → Reading (B × State)) → ((n : ℕ) → On (E n) (behind s ts) (k n)) → (r : Result ℕ NumFault) → atto_of (word_at text t.span) ≡ r → On (Then (Bound says) E) (behind s (t ∷ ts)) (written t.span r >>= k)
bound-written text says s t ts w y E c k h (Ok n) e = on-map (to-amount says n E) (on-token s (y, ap atto_of (sym w) ∙ e) (h n))
bound-written text says s t ts w y E c k h (Err f) e = on-none c

pub bound-if : {B : Type 0} (text : Bytes) (says : Span → Bytes) (s : State) (t : Token) (ts : List Token) → word_at text t.span ≡ says t.span → (E : ℕ → Spells B) → Can (Then (Bound says) E) →
    (k : ℕ → Reading (B × State)) → ((n : ℕ) → On (E n) (behind s ts) (k n)) → (b : Bool) → is_amount t.kind ≡ b →
    On (Then (Bound says) E) (behind s (t ∷ ts)) ((if b then written t.span (atto_of (word_at text t.span)) else Err (fault.Expected t.span.from)) >>= k)
bound-if text says s t ts w E c k h true e = bound-written text says s t ts w e E c k h (atto_of (word_at text t.span)) refl
bound-if text says s t ts w E c k h false e = on-none c

-- behind a bound
abbrev pub Needs : (Span → Bytes) → Option IdentTree → ℕ → Spells SaidTree
Needs says t b = Then (Sign op.Mul) (λ _. Then (Reserved word.R) (λ _. Then (Mark 40) (λ _. Then (Listed (Name says)) (λ ns. Done (record { target = t; bound = b; needs = ns })))))

pub can-needs : (says : Span → Bytes) (t : Option IdentTree) (b : ℕ) → Can (Needs says t b)
can-needs says t b = can-sign op.Mul (λ m. can-reserved word.R (λ r. can-mark 40 (λ o. can-then can-listed (λ ns. can-done _))))

abbrev pub reading_needs : Bytes → Option IdentTree → ℕ → State → Reading (SaidTree × State)
reading_needs text t b c = list_of (name_at text) c >>= λ n. Ok (record { target = t; bound = b; needs = n.0 }, n.1)

pub on-needs : (text : Bytes) (says : Span → Bytes) (t : Option IdentTree) (b : ℕ) (s : State) → Agree text says s.toks →
    On (Needs says t b) s ((skip_sign_at op.Mul s >>= λ a. skip_word_at word.R a >>= λ r. skip_at 40 r) >>= reading_needs text t b)
on-needs text says t b s g =
    on-same (bind-assoc (skip_sign_at op.Mul s) (λ a. skip_word_at word.R a >>= λ r. skip_at 40 r) (reading_needs text t b))
    (on-sign text says op.Mul s g (λ m. can-reserved word.R (λ r. can-mark 40 (λ o. can-then can-listed (λ ns. can-done _))))
    (λ m a h. on-same (bind-assoc (skip_word_at word.R a) (λ r. skip_at 40 r) (reading_needs text t b))
    (on-reserved text says word.R a h (λ r. can-mark 40 (λ o. can-then can-listed (λ ns. can-done _)))
    (λ r c k. on-mark text says 40 c k (λ o. can-then can-listed (λ ns. can-done _))
    (λ o d l. on-then text says l (on-listed text says (Name says) (name_at text) (can-name says) (on-name text says) d l) (λ ns. can-done _) (λ n j. on-done))))))

pub bound-from : (text : Bytes) (says : Span → Bytes) → Spare says → (t : Option IdentTree) (s : State) (ts : List Token) → Agree text says ts →
    On (Then (Bound says) (Needs says t)) (behind s ts) (bound_at text (behind s ts) >>= λ b. behind_bound_at (behind s ts) >>= reading_needs text t b)
bound-from text says z t s [] g = on-none (can-then (can-bound says z) (can-needs says t))
bound-from text says z t s (x ∷ ts) g =
    bound-if text says s x ts g.0 (Needs says t) (can-then (can-bound says z) (can-needs says t))
    (λ b. (skip_sign_at op.Mul (behind s ts) >>= λ a. skip_word_at word.R a >>= λ r. skip_at 40 r) >>= reading_needs text t b)
    (λ n. on-needs text says t n (behind s ts) g.1) (is_amount x.kind) refl

pub can-claim : (says : Span → Bytes) → Spare says → Can (Claim says)
can-claim says z = can-then (can-target says) (λ t. can-sign op.Ge (λ q. can-then (can-bound says z) (can-needs says t)))

pub on-claim : (text : Bytes) (says : Span → Bytes) → Spare says → Reads text says (Claim says) (claim_at text)
unfolding claim_at
on-claim text says z s g =
    on-then text says g (on-target text says s g) (λ t. can-sign op.Ge (λ q. can-then (can-bound says z) (can-needs says t)))
    (λ t h. on-sign text says op.Ge t.1 h (λ q. can-then (can-bound says z) (can-needs says t.0)) (λ q a k. bound-from text says z t.0 a a.toks k))

-- a return behind its word
abbrev pub Last : (Span → Bytes) → Span → Spells StmtTree
Last says span = Then (Expr says) (λ e. Then (Mark 59) (λ _. Then (Mark 125) (λ _. Done (ReturnTree span e))))

pub can-last : (says : Span → Bytes) (span : Span) → Can (Last says span)
can-last says span = can-then (can-level says 7) (λ e. can-mark 59 (λ c. can-mark 125 (λ d. can-done _)))

pub on-last : (text : Bytes) (says : Span → Bytes) (span : Span) → Reads text says (Last says span) (last_at text span)
unfolding last_at
on-last text says span s g =
    on-then text says g (on-expr text says 63 s g) (λ e. can-mark 59 (λ c. can-mark 125 (λ d. can-done _)))
    (λ x h. on-mark text says 59 x.1 h (λ c. can-mark 125 (λ d. can-done _)) (λ c a k. on-mark text says 125 a k (λ d. can-done _) (λ d b l. on-done)))

pub to-returns : (says : Span → Bytes) (ts rest : List Token) (a : Block) → Then (Reserved word.Return) (λ w. Then (Last says w.span) (λ y. Done (also y ended))) ts rest a → Body says ts rest a
to-returns says ts rest a (seq (one p) (seq (seq e (seq (one c) (seq (one d) done))) done)) = grammar.returns p e c d

pub to-before : (says : Span → Bytes) (ts rest : List Token) (a : Block) → Then (Stmt says) (λ x. Then (Body says) (λ b. Done (also x b))) ts rest a → Body says ts rest a
to-before says ts rest a (seq x (seq b done)) = grammar.before x b

pub can-returning : (says : Span → Bytes) → Can (Then (Reserved word.Return) (λ w. Then (Last says w.span) (λ y. Done (also y ended))))
can-returning says = can-reserved word.Return (λ w. can-then (can-last says w.span) (λ y. can-done _))

pub can-body : (says : Span → Bytes) → Can (Body says)
can-body says = can-map (to-returns says) (can-returning says)

pub return-from : (text : Bytes) (says : Span → Bytes) (s : State) (ts : List Token) → Agree text says ts →
    On (Then (Reserved word.Return) (λ w. Then (Last says w.span) (λ y. Done (also y ended)))) (behind s ts)
    (skip_word_at word.Return (behind s ts) >>= λ a. first_at (behind s ts) >>= λ x. last_at text x.0.span a >>= λ y. Ok (also y.0 ended, y.1))
return-from text says s [] g = on-none (can-returning says)
return-from text says s (t ∷ ts) g =
    tested s t ts (worded word.Return (behind s ts) t.span t.kind) (λ a. last_at text t.span a >>= λ y. Ok (also y.0 ended, y.1)) (worded-tests word.Return (behind s ts) t.span t.kind) (can-returning says)
    (at (on-then text says g.1 (on-last text says t.span (behind s ts) g.1) (λ y. can-done _) (λ y h. on-done)))

pub on-body : (text : Bytes) (says : Span → Bytes) (n : ℕ) → Reads text says (Body says) (body_of text n)
unfolding body_of
on-body text says zero s g = on-none (can-body says)
on-body text says (suc n) s g =
    on-choose (skip_word_at word.Return s) (λ a. first_at s >>= λ x. last_at text x.0.span a >>= λ y. Ok (also y.0 ended, y.1))
    (on-map (to-returns says) (return-from text says s s.toks g))
    (on-map (to-before says) (on-then text says g (on-stmt text says 63 s g) (λ x. can-then (can-body says) (λ b. can-done _))
    (λ x k. on-then text says k (on-body text says n x.1 k) (λ b. can-done _) (λ y l. on-done))))

pub can-func : (says : Span → Bytes) → Spare says → Can (Func says)
can-func says z =
    can-then (can-name says) (λ n. can-mark 40 (λ o. can-then can-listed (λ ps. can-then (can-some (can-claim says z)) (λ cs. can-mark 123 (λ b. can-then can-each (λ ls. can-then (can-body says) (λ y. can-done _)))))))

pub on-func : (text : Bytes) (says : Span → Bytes) → Spare says → Reads text says (Func says) (function_at text)
unfolding function_at
on-func text says z s g =
    on-move 63 256 256
    (on-then text says g (on-name text says (fresh s) g)
    (λ n. can-mark 40 (λ o. can-then can-listed (λ ps. can-then (can-some (can-claim says z)) (λ cs. can-mark 123 (λ b. can-then can-each (λ ls. can-then (can-body says) (λ y. can-done _)))))))
    (λ n h. on-mark text says 40 n.1 h (λ o. can-then can-listed (λ ps. can-then (can-some (can-claim says z)) (λ cs. can-mark 123 (λ b. can-then can-each (λ ls. can-then (can-body says) (λ y. can-done _))))))
    (λ o a i. on-then text says i (on-listed text says (Var says) (decl_at text) (can-var says) (on-var text says) a i) (λ ps. can-then (can-some (can-claim says z)) (λ cs. can-mark 123 (λ b. can-then can-each (λ ls. can-then (can-body says) (λ y. can-done _)))))
    (λ p j. on-then text says j (on-some text says word.Claim (Claim says) (claim_at text) (can-claim says z) (on-claim text says z) 7 p.1 j) (λ cs. can-mark 123 (λ b. can-then can-each (λ ls. can-then (can-body says) (λ y. can-done _))))
    (λ c k. on-mark text says 123 c.1 k (λ b. can-then can-each (λ ls. can-then (can-body says) (λ y. can-done _)))
    (λ t b l. on-then text says l (on-each text says word.Var (Local says) (local_at text) (can-local says) (on-local text says) (length b.toks) b l) (λ ls. can-then (can-body says) (λ y. can-done _))
    (λ v m. on-then text says m (on-body text says (length v.1.toks + 1) v.1 m) (λ y. can-done _) (λ y q. on-done))))))))

pub on-functions : (text : Bytes) (says : Span → Bytes) → Spare says → Reads text says (OneOrMore word.Fn (Func says)) (functions_at text)
on-functions text says z s g = on-some text says word.Fn (Func says) (function_at text) (can-func says z) (on-func text says z) 63 s g

-- what the text says, and a zero at spans behind all of it
abbrev pub says_within : ℕ → Bytes → Span → Bytes
says_within m text span = if nat_lt span.to m then word_at text span else codes "0"

-- a place behind all tokens
abbrev pub top : List Token → ℕ
top [] = 0
top (t ∷ ts) = t.span.to + 1 + top ts

pub agree-within : (m : ℕ) (text : Bytes) (ts : List Token) → top ts ≤ m → Agree text (says_within m text) ts
agree-within m text [] h = tt {0}
agree-within m text (t ∷ ts) h =
    (sym (ap (λ b. if b then word_at text t.span else codes "0") (lt-ltb t.span.to m (omega (arith, h)))), agree-within m text ts (omega (arith, h)))

pub spare-within : (m : ℕ) (text : Bytes) → Spare (says_within m text)
spare-within m text =
    let span : Span = record { from = 0; to = m } in
    record { span = span; value = 0; reads = ap (λ b. atto_of (if b then word_at text span else codes "0")) (le-ltb m m (omega arith)) }

pub agree_front : (text : Bytes) (says : Span → Bytes) (xs ys : List Token) → Agree text says (xs ++ ys) → Agree text says xs
agree_front text says [] ys g = tt {0}
agree_front text says (x ∷ xs) ys g = (g.0, agree_front text says xs ys g.1)
