-- What is spelled is found: declarations, claims, functions and sources.
use Rattle.std.proofs.Common.{◌≡◌, ℕ, zero, suc, ◌+◌, ◌-◌, ◌≤◌, ◌<◌, false, ◌==◌, ◌||◌, List, [], ◌∷◌, length, Option, Ok, Err, IsTrue, refl, ap, sym, subst, ◌∙◌, arith, nat_lt, if◌then◌else◌}
use Rattle.std.proofs.lemmas.Bool.{eq-eqb, le-ltb}
use Rattle.std.proofs.Math.Dec.{eqb-suc-zero}
use Rattle.rely_num.specs.Texts.{Bytes}
use Rattle.rely_num.specs.AttoTexts.{atto_of}
use Rattle.rely_num.specs.declared.op.Op.{Op}
use Rattle.rely_num.specs.declared.op.Op.TheVariants as op
use Rattle.rely_num.specs.declared.span.Span.{Span}
use Rattle.rely_lexer.specs.declared.token.Token.{Token}
use Rattle.rely_lexer.specs.declared.token.TokenKind.TheVariants as kind
use Rattle.rely_num.specs.declared.word.Word.{Word}
use Rattle.rely_num.specs.declared.word.Word.TheVariants as word
use Rattle.rely_tree.specs.Tree.{IdentTree, KindTree, ExprTree, NamedTree, ReturnTree, Block, DeclTree, SaidTree, FuncTree, UnitTree}
use Rattle.rely_parser.specs.declared.fault.ParseFault.TheVariants as fault
use Rattle.rely_parser.specs.State.{State, Reading, Read, behind, end_of, ◌>>=◌, skip_at, word_number, skip_word_at, numbered, name_at, word_at}
use Rattle.rely_parser.specs.Declarations.{length_at, array_at, chosen, choice_at, memory_at, decl_at}
use Rattle.rely_parser.specs.Units.{sign_number, with_sign, skip_sign_at, is_amount, written, bound_at, target_at, behind_bound_at, claim_at, each_behind, some_behind, local_at, last_at, body_of, fresh, function_at, functions_at, whole, unit_of}
use Rattle.rely_parser.specs.Productions as grammar
use Rattle.rely_parser.specs.Productions.{Spells, done, one, seq, either, other, Agree, Name, ident_of, Listed, Each, OneOrMore, Expr, Array, Written, Memory, Var, Local, Target, Bound, Claim, Body, Func, IsUnit, Spelled}
use Rattle.rely_parser.proofs.Finds.{Found, Finds, found-ok, found-done, found-then, found-same, found-kind, found-counted, found-skip, found-word, found-mark, found-no-mark, found-step, skip-mark, skip-word, NotKind, NotMark, stops-mark, Behind, here, later, trans, agree-behind, behind-level, find-name, find-expr}
use Rattle.rely_parser.proofs.Completes.{NotWord, NotWordKind, found-no-word, found-the-word, Seeking, Commas, find-listed, behind-listed, behind-stmt, less-stmt, stmt-starts, starts-word, Outside, outside-else, find-statement}

pub found-sign : {A : Type 0} {rest : List Token} {a : A} (o : Op) (u : State) (t : Token) (ts : List Token) (k : State → Reading (A × State)) → t.kind ≡ kind.Oper o → Found rest a (k (behind u ts)) → Found rest a (skip_sign_at o (behind u (t ∷ ts)) >>= k)
found-sign o u t ts k p h =
    found-same (ap (λ r. r >>= k) (ap (λ j. with_sign o (behind u ts) t.span j) p ∙ ap (λ b. if b then Ok (behind u ts) else Err (fault.Expected t.span.from)) (eq-eqb (sign_number o) (sign_number o) refl))) h

pub not-zero : (n : ℕ) → 1 ≤ n → (n == 0) ≡ false
not-zero zero l = absurd (omega (arith, l))
not-zero (suc n) l = eqb-suc-zero n

pub find-length : (u : State) (t : Token) (ts : List Token) (n : ℕ) → t.kind ≡ kind.Number n → 1 ≤ n → n ≤ 4096 → Found ts n (length_at (behind u (t ∷ ts)))
find-length u t ts n p l m =
    found-kind (λ k. numbered (behind u ts) t.span k >>= λ x. if x.0 == 0 || nat_lt 4096 x.0 then Err (fault.Expected t.span.from) else Ok (x.0, x.1)) p
    (found-same (ap (λ b. if b || nat_lt 4096 n then Err (fault.Expected t.span.from) else Ok (n, behind u ts)) (not-zero n l)
    ∙ ap (λ b. if b then Err (fault.Expected t.span.from) else Ok (n, behind u ts)) (le-ltb 4096 n m)) found-done)

pub find-array : (text : Bytes) (u : State) (ts rest : List Token) (a : Option ℕ) → Array ts rest a → NotMark 91 rest → Found rest a (array_at (behind u ts))
find-array text u ts rest a grammar.single n = found-no-mark 91 u ts _ _ n found-done
find-array text u ts rest a (grammar.elements {b = b} {t = t} {c = c} {rest = r} {n = n} p q l m z) x =
    found-mark 91 u b (t ∷ c ∷ r) _ _ p (found-then _ _ (find-length u t (c ∷ r) n q l m) (λ v. found-skip 93 v c r _ z found-done))

pub behind-array : {ts rest : List Token} {a : Option ℕ} → Array ts rest a → Behind ts rest
behind-array grammar.single = here
behind-array (grammar.elements p q l m z) = later (later (later here))

pub behind-written : (says : Span → Bytes) {ts rest : List Token} {k : KindTree} → Written says ts rest k → Behind ts rest
behind-written says (either (seq (seq (one p) done) done)) = later here
behind-written says (other (seq (one p) done)) = later here

pub find-written : (text : Bytes) (says : Span → Bytes) (u : State) (ts rest : List Token) (k : KindTree) → Written says ts rest k → Agree text says ts → Found rest k (choice_at text (behind u ts))
find-written text says u ts rest k (either (seq (seq (one {t = t} {rest = r} p) done) done)) g =
    found-kind (λ j. chosen text (behind u r) t.span j) p (found-ok (ap (λ x. NamedTree (record { text = x; span = t.span })) g.0))
find-written text says u ts rest k (other (seq (one {t = t} {rest = r} p) done)) g = found-kind (λ j. chosen text (behind u r) t.span j) p found-done

pub find-memory : (text : Bytes) (says : Span → Bytes) (u : State) (ts rest : List Token) (k : KindTree) → Memory says ts rest k → NotWord word.In rest → Agree text says ts → Found rest k (memory_at text (behind u ts))
find-memory text says u ts rest k (either (seq (one {t = t} {rest = r} p) w)) n g = found-the-word word.In u t r _ _ p (find-written text says u r rest k w g.1)
find-memory text says u ts rest k (other done) n g = found-no-word word.In u ts _ _ n found-done

pub behind-memory : (says : Span → Bytes) {ts rest : List Token} {k : KindTree} → Memory says ts rest k → Behind ts rest
behind-memory says (either (seq (one p) w)) = later (behind-written says w)
behind-memory says (other done) = here

-- what may stand behind a variable
abbrev pub Closes : List Token → Type 0
Closes ts = NotMark 91 ts × NotWord word.In ts

pub memory-index : (says : Span → Bytes) {ts rest : List Token} {k : KindTree} → Memory says ts rest k → NotMark 91 rest → NotMark 91 ts
memory-index says (either (seq (one p) w)) n = subst (NotKind 91) (sym p) (tt {0})
memory-index says (other done) n = n

pub find-var : (text : Bytes) (says : Span → Bytes) → Seeking text says (Var says) Closes (decl_at text)
unfolding decl_at
find-var text says u ts rest a (seq (seq (one {t = t} {rest = r} p) done) (seq {mid = m} {a = l} x (seq {a = k} y done))) n g =
    found-then _ _ (find-name text says u t r p g.0)
    (λ v. let w : State = record { toks = r; variables = v.variables - 1; operators = v.operators; calls = v.calls; end = v.end } in
    found-counted t.span.from w (v.variables == 0)
    (λ a. array_at a >>= λ l. memory_at text l.1 >>= λ m. Ok (record { name = ident_of says t; length = l.0; memory = m.0 }, m.1))
    (found-then _ _ (find-array text w r m l x (memory-index says y n.0)) (λ z. found-then _ _ (find-memory text says z m rest k y n.1 (agree-behind text says (behind-array x) g.1)) (λ q. found-done))))

pub behind-var : (says : Span → Bytes) (ts rest : List Token) (a : DeclTree) → Var says ts rest a → Behind ts rest
behind-var says ts rest a (seq (seq (one p) done) (seq x (seq y done))) = later (trans (behind-array x) (behind-memory says y))

pub closes-mark : (m : ℕ) (t : Token) (ts : List Token) → t.kind ≡ kind.Mark m → (m ≡ 91 → ⊥) → Closes (t ∷ ts)
closes-mark m t ts p n = (subst (NotKind 91) (sym p) n, subst (NotWordKind word.In) (sym p) (tt {0}))

pub var-commas : (text : Bytes) (says : Span → Bytes) → Commas text says (Var says) Closes (decl_at text)
var-commas text says = record {
  seeks = find-var text says;
  comma = λ t rest p. closes-mark 44 t rest p (λ e. absurd (omega (arith, e)));
  close = λ t rest p. closes-mark 41 t rest p (λ e. absurd (omega (arith, e)));
  behind = behind-var says;
  begins = begins;
}
  where
    begins : (ts rest : List Token) (a : DeclTree) → Var says ts rest a → NotMark 41 ts
    begins ts rest a (seq (seq (one p) done) x) = subst (NotKind 41) (sym p) (tt {0})

pub name-commas : (text : Bytes) (says : Span → Bytes) → Commas text says (Name says) (λ _. Unit {0}) (name_at text)
name-commas text says = record { seeks = seeks; comma = λ t rest p. tt {0}; close = λ t rest p. tt {0}; behind = back; begins = begins }
  where
    seeks : Seeking text says (Name says) (λ _. Unit {0}) (name_at text)
    seeks u ts rest a (seq (one {t = t} {rest = r} p) done) n g = find-name text says u t r p g.0

    back : (ts rest : List Token) (a : IdentTree) → Name says ts rest a → Behind ts rest
    back ts rest a (seq (one p) done) = later here

    begins : (ts rest : List Token) (a : IdentTree) → Name says ts rest a → NotMark 41 ts
    begins ts rest a (seq (one p) done) = subst (NotKind 41) (sym p) (tt {0})

pub find-local : (text : Bytes) (says : Span → Bytes) → Seeking text says (Local says) (λ _. Unit {0}) (local_at text)
unfolding local_at
find-local text says u ts rest a (seq {mid = m} {a = d} v (seq (one {t = t} {rest = r} p) done)) n g =
    found-then _ _ (find-var text says u ts (t ∷ r) d v (closes-mark 59 t r p (λ e. absurd (omega (arith, e)))) g) (λ y. found-skip 59 y t r _ p found-done)

pub behind-local : (says : Span → Bytes) (ts rest : List Token) (a : DeclTree) → Local says ts rest a → Behind ts rest
behind-local says ts rest a (seq {mid = m} {a = d} v (seq (one p) done)) = trans (behind-var says ts m d v) (later here)

pub find-each : {A : Type 0} (text : Bytes) (says : Span → Bytes) (w : Word) (I : Spells A) (item : Read A) → Seeking text says I (λ _. Unit {0}) item → ((ts rest : List Token) (a : A) → I ts rest a → Behind ts rest) →
    (u : State) (ts rest : List Token) (xs : List A) → Each w I ts rest xs → NotWord w rest → Agree text says ts → (n : ℕ) → Found rest xs (each_behind w item n (behind u ts))
unfolding each_behind
find-each text says w I item f b u ts rest xs grammar.none n g zero = found-no-word w u ts _ _ n found-done
find-each text says w I item f b u ts rest xs grammar.none n g (suc m) = found-no-word w u ts _ _ n found-done
find-each text says w I item f b u ts rest xs (grammar.another {t = t} {ts = l} p i e) n g zero = found-the-word w u t l _ _ p (record { finds = tt {0} })
find-each text says w I item f b u ts rest xs (grammar.another {t = t} {ts = l} {mid = m} {x = x} {xs = ys} p i e) n g (suc j) =
    found-the-word w u t l _ _ p
    (found-then _ _ (f u l m x i (tt {0}) g.1)
    (λ v. found-then _ _ (find-each text says w I item f b v m rest ys e n (agree-behind text says (b l m x i) g.1) j) (λ y. found-done)))

pub behind-each : {A : Type 0} {w : Word} {I : Spells A} → ((ts rest : List Token) (a : A) → I ts rest a → Behind ts rest) → {ts rest : List Token} {xs : List A} → Each w I ts rest xs → Behind ts rest
behind-each b grammar.none = here
behind-each b (grammar.another p i e) = later (trans (b _ _ _ i) (behind-each b e))

pub find-some : {A : Type 0} (text : Bytes) (says : Span → Bytes) (w : Word) (I : Spells A) (item : Read A) → Seeking text says I (λ _. Unit {0}) item → ((ts rest : List Token) (a : A) → I ts rest a → Behind ts rest) →
    (u : State) (ts rest : List Token) (xs : List A) → OneOrMore w I ts rest xs → NotWord w rest → Agree text says ts → (n : ℕ) → Found rest xs (some_behind w item n (behind u ts))
unfolding some_behind
find-some text says w I item f b u ts rest xs (seq (one {t = t} {rest = l} p) (seq {mid = m} {a = x} i (seq {a = ys} e done))) k g n =
    found-word w u t l _ p
    (found-then _ _ (f u l m x i (tt {0}) g.1) (λ v. found-then _ _ (find-each text says w I item f b v m rest ys e k (agree-behind text says (b l m x i) g.1) n) (λ y. found-done)))

pub behind-some : {A : Type 0} (w : Word) (I : Spells A) → ((ts rest : List Token) (a : A) → I ts rest a → Behind ts rest) → (ts rest : List Token) (xs : List A) → OneOrMore w I ts rest xs → Behind ts rest
behind-some w I b ts rest xs (seq (one p) (seq i (seq e done))) = later (trans (b _ _ _ i) (behind-each b e))

pub find-target : (text : Bytes) (says : Span → Bytes) (u : State) (ts rest : List Token) (a : Option IdentTree) → Target says ts rest a → Agree text says ts → Found rest a (target_at text (behind u ts))
find-target text says u ts rest a (either (seq (one {t = t} {rest = r} p) done)) g = found-the-word word.Result u t r _ _ p found-done
find-target text says u ts rest a (other (seq (seq (one {t = t} {rest = r} p) done) done)) g =
    found-no-word word.Result u ts _ _ (subst (NotWordKind word.Result) (sym p) (tt {0})) (found-then _ _ (find-name text says u t r p g.0) (λ v. found-done))

pub behind-target : (says : Span → Bytes) {ts rest : List Token} {a : Option IdentTree} → Target says ts rest a → Behind ts rest
behind-target says (either (seq (one p) done)) = later here
behind-target says (other (seq (seq (one p) done) done)) = later here

pub read-bound : (text : Bytes) (says : Span → Bytes) (v : State) (b : Token) (ts : List Token) (n : ℕ) → IsTrue (is_amount b.kind) → atto_of (says b.span) ≡ Ok n → word_at text b.span ≡ says b.span → bound_at text (behind v (b ∷ ts)) ≡ Ok n
read-bound text says v b ts n y e w =
    ap (λ c. if c then written b.span (atto_of (word_at text b.span)) else Err (fault.Expected b.span.from)) y ∙ ap (written b.span) (ap atto_of w ∙ e)

pub pass-bound : (v : State) (b m r o : Token) (l : List Token) → m.kind ≡ kind.Oper op.Mul → r.kind ≡ kind.Word word.R → o.kind ≡ kind.Mark 40 → behind_bound_at (behind v (b ∷ m ∷ r ∷ o ∷ l)) ≡ Ok (behind v l)
pass-bound v b m r o l p q z =
    ap (λ j. with_sign op.Mul (behind v (r ∷ o ∷ l)) m.span j >>= λ a. skip_word_at word.R a >>= λ b. skip_at 40 b) p
    ∙ ap (λ x. x >>= λ b. skip_at 40 b) (skip-word word.R v r (o ∷ l) q)
    ∙ skip-mark 40 v o l z

pub find-claim : (text : Bytes) (says : Span → Bytes) → Seeking text says (Claim says) (λ _. Unit {0}) (claim_at text)
unfolding claim_at
find-claim text says u ts rest a (seq {mid = i} {a = t} x (seq (one {t = q} p) (seq (grammar.amount {t = b} {n = n} y e) (seq (one {t = m} j) (seq (one {t = r} k) (seq (one {t = o} {rest = l} z) (seq {a = ns} d done))))))) k2 g =
    let h = agree-behind text says (behind-target says x) g in
    found-then _ _ (find-target text says u ts i t x g)
    (λ v. found-sign op.Ge v q (b ∷ m ∷ r ∷ o ∷ l) _ p
    (found-step (bound_at text (behind v (b ∷ m ∷ r ∷ o ∷ l))) n _ (read-bound text says v b (m ∷ r ∷ o ∷ l) n y e h.1.0)
    (found-step (behind_bound_at (behind v (b ∷ m ∷ r ∷ o ∷ l))) (behind v l) _ (pass-bound v b m r o l j k z)
    (found-then _ _ (find-listed text says (Name says) (λ _. Unit {0}) (name_at text) (name-commas text says) v l rest ns d h.1.1.1.1.1) (λ w. found-done)))))

pub behind-name : (says : Span → Bytes) (ts rest : List Token) (a : IdentTree) → Name says ts rest a → Behind ts rest
behind-name says ts rest a (seq (one p) done) = later here

pub behind-claim : (says : Span → Bytes) (ts rest : List Token) (a : SaidTree) → Claim says ts rest a → Behind ts rest
behind-claim says ts rest a (seq x (seq (one p) (seq (grammar.amount y e) (seq (one j) (seq (one k) (seq (one z) (seq d done))))))) =
    trans (behind-target says x) (later (later (later (later (later (behind-listed (behind-name says) d))))))

pub find-last : (text : Bytes) (says : Span → Bytes) (span : Span) (u : State) (c d : Token) (ts rest : List Token) (e : ExprTree) → Expr says ts (c ∷ d ∷ rest) e → c.kind ≡ kind.Mark 59 → d.kind ≡ kind.Mark 125 → Agree text says ts →
    Found rest (ReturnTree span e) (last_at text span (behind u ts))
unfolding last_at
find-last text says span u c d ts rest e l p q g =
    found-then _ _ (find-expr text says 63 u ts (c ∷ d ∷ rest) e l (stops-mark 59 7 c p (λ y. absurd (omega (arith, y)))) g) (λ v. found-skip 59 v c (d ∷ rest) _ p (found-skip 125 v d rest _ q found-done))

pub outside-return : Outside word.Return
outside-return = (λ e. absurd (omega (arith, e)), λ e. absurd (omega (arith, e)), λ e. absurd (omega (arith, e)))

pub outside-var : Outside word.Var
outside-var = (λ e. absurd (omega (arith, e)), λ e. absurd (omega (arith, e)), λ e. absurd (omega (arith, e)))

pub body-word : {says : Span → Bytes} {ts rest : List Token} {b : Block} (w : Word) → Outside w → (word.Return ≡ w → ⊥) → Body says ts rest b → NotWord w ts
body-word w o n (grammar.returns p e c d) = subst (NotWordKind w) (sym p) n
body-word {ts = ts} w o n (grammar.before s b) = starts-word w o ts (stmt-starts s)

pub return-else : word.Return ≡ word.Else → ⊥
return-else e = let i = ap word_number e in absurd (omega (arith, i))

pub return-var : word.Return ≡ word.Var → ⊥
return-var e = let i = ap word_number e in absurd (omega (arith, i))

pub find-body : (text : Bytes) (says : Span → Bytes) (u : State) (ts rest : List Token) (b : Block) → Body says ts rest b → Agree text says ts → (n : ℕ) → length ts < n → Found rest b (body_of text n (behind u ts))
unfolding body_of
find-body text says u ts rest b d g zero l = absurd (omega (arith, l))
find-body text says u ts rest b (grammar.returns {w = w} {c = c} {d = d} {ts = l} {e = e} p x q z) g (suc n) m =
    found-the-word word.Return u w l _ _ p (found-then _ _ (find-last text says w.span u c d l rest e x q z g.1) (λ v. found-done))
find-body text says u ts rest b (grammar.before {mid = m} {s = s} {b = more} d e) g (suc n) l =
    let z = less-stmt d in
    found-no-word word.Return u ts _ _ (starts-word word.Return outside-return ts (stmt-starts d))
    (found-then _ _ (find-statement text says 63 u ts m s d (body-word word.Else outside-else return-else e) g)
    (λ v. found-then _ _ (find-body text says v m rest more e (agree-behind text says (behind-stmt d) g) n (omega (arith, l, z))) (λ y. found-done)))

pub behind-body : {says : Span → Bytes} {ts rest : List Token} {b : Block} → Body says ts rest b → Behind ts rest
behind-body (grammar.returns p e c d) = later (trans (behind-level e) (later (later here)))
behind-body (grammar.before s b) = trans (behind-stmt s) (behind-body b)

pub find-func : (text : Bytes) (says : Span → Bytes) → Seeking text says (Func says) (λ _. Unit {0}) (function_at text)
unfolding function_at
find-func text says u ts rest a
    (seq (seq (one {t = t} {rest = r} p) done) (seq (one {t = o} {rest = l1} q) (seq {mid = l2} {a = ps} ps_ (seq {mid = l3} {a = cs} cs_ (seq (one {t = b} {rest = l4} z) (seq {mid = l5} {a = ls} ls_ (seq {a = y} y_ done))))))) n g =
    let g1 = g.1.1 in
    let g2 = agree-behind text says (behind-listed (behind-var says) ps_) g1 in
    let g3 = agree-behind text says (behind-some word.Claim (Claim says) (behind-claim says) l2 l3 cs cs_) g2 in
    let g5 = agree-behind text says (behind-each (behind-local says) ls_) g3.1 in
    found-then _ _ (find-name text says (fresh (behind u ts)) t r p g.0)
    (λ v. found-skip 40 v o l1 _ q
    (found-then _ _ (find-listed text says (Var says) Closes (decl_at text) (var-commas text says) v l1 l2 ps ps_ g1)
    (λ v. found-then _ _ (find-some text says word.Claim (Claim says) (claim_at text) (find-claim text says) (behind-claim says) v l2 l3 cs cs_ (subst (NotWordKind word.Claim) (sym z) (tt {0})) g2 7)
    (λ v. found-skip 123 v b l4 _ z
    (found-then _ _ (find-each text says word.Var (Local says) (local_at text) (find-local text says) (behind-local says) v l4 l5 ls ls_ (body-word word.Var outside-var return-var y_) g3.1 (length l4))
    (λ v. found-then _ _ (find-body text says v l5 rest y y_ g5 (length l5 + 1) (omega arith)) (λ w. found-done)))))))

pub behind-func : (says : Span → Bytes) (ts rest : List Token) (a : FuncTree) → Func says ts rest a → Behind ts rest
behind-func says ts rest a (seq (seq (one p) done) (seq (one q) (seq ps (seq {mid = l2} {a = cs} c (seq {mid = l3} (one z) (seq ls (seq y done))))))) =
    later (later (trans (behind-listed (behind-var says) ps) (trans (behind-some word.Claim (Claim says) (behind-claim says) _ _ cs c) (later (trans (behind-each (behind-local says) ls) (behind-body y))))))

-- what a reading of a source that spells u gives
abbrev pub Gives : UnitTree → Reading UnitTree → Type 0
Gives u (Ok v) = v ≡ u
Gives u (Err (fault.Expected p)) = ⊥
Gives u (Err _) = Unit {0}

pub gives-functions : (u : UnitTree) (r : Reading (List FuncTree × State)) → Finds [] u.functions r → Gives u (r >>= λ y. whole y.0 y.1.toks)
gives-functions u (Ok x) h =
    subst (λ l. Gives u (whole x.0 l)) (sym h.1) (ap (λ fs. record { functions = fs }) h.0)
gives-functions u (Err (fault.Expected p)) h = h
gives-functions u (Err (fault.Deep p)) h = h
gives-functions u (Err (fault.Many p)) h = h
gives-functions u (Err fault.Memory) h = h

-- tokens that spell a tree are read as the tree, or meet a limit
pub gives : (text : Bytes) (toks : List Token) (u : UnitTree) → Spelled text toks u → Gives u (unit_of text toks)
unfolding unit_of
gives text toks u d =
    let s : State = record { toks = toks; variables = 0; operators = 0; calls = 0; end = end_of text } in
    let f = find-some text d.says word.Fn (Func d.says) (function_at text) (find-func text d.says) (behind-func d.says) s toks [] u.functions d.spells (tt {0}) d.agree 63 in
    gives-functions u (functions_at text s) f.finds
