-- Readings along tokens that spell something: declarations, claims, functions and sources.
use Rattle.std.proofs.Common.{◌≡◌, ℕ, zero, suc, ◌+◌, ◌-◌, ◌≤◌, ◌<◌, ◌==◌, ◌||◌, List, [], ◌∷◌, length, Option, Ok, Err, IsTrue, ap, sym, subst, ◌∙◌, arith, nat_lt, if◌then◌else◌}
use Rattle.std.proofs.lemmas.Bool.{le-ltb}
use Rattle.rely_num.specs.Texts.{Bytes}
use Rattle.rely_num.specs.AttoTexts.{atto_of}
use Rattle.rely_num.specs.declared.op.Op.TheVariants as op
use Rattle.rely_num.specs.declared.span.Span.{Span}
use Rattle.rely_lexer.specs.declared.token.Token.{Token}
use Rattle.rely_lexer.specs.declared.token.TokenKind.TheVariants as kind
use Rattle.rely_num.specs.declared.word.Word.{Word}
use Rattle.rely_num.specs.declared.word.Word.TheVariants as word
use Rattle.rely_tree.specs.Tree.{IdentTree, KindTree, ExprTree, Block, DeclTree, FuncTree}
use Rattle.rely_parser.specs.declared.fault.ParseFault.TheVariants as fault
use Rattle.rely_parser.specs.State.{State, Read, behind, place, ◌>>=◌, first_at, skip_at, skip_word_at, numbered, name_at}
use Rattle.rely_parser.specs.Declarations.{length_at, array_at, chosen, choice_at, memory_at, decl_at}
use Rattle.rely_parser.specs.Units.{skip_sign_at, is_amount, bound_at, target_at, behind_bound_at, claim_at, each_behind, some_behind, local_at, last_at, body_of, fresh, function_at, functions_at}
use Rattle.rely_parser.specs.Productions as grammar
use Rattle.rely_parser.specs.Productions.{Spells, done, one, seq, either, other, Name, Listed, Each, OneOrMore, Expr, Stmt, Array, Written, Memory, Var, Local, Target, Bound, Claim, Body, Func, IsUnit}
use Rattle.rely_parser.proofs.Laws.{at, Can}
use Rattle.rely_parser.proofs.Marks.{can-name, on-name}
use Rattle.rely_parser.proofs.Stmts.{Reads, on-stmt}
use Rattle.rely_parser.proofs.Finds.{NotKind, NotMark, stops-mark}
use Rattle.rely_parser.proofs.Completes.{NotWord, NotWordKind, stmt-starts, starts-word, outside-else}
use Rattle.rely_parser.proofs.Wholes.{read-bound, Closes, closes-mark, memory-index, not-zero, body-word, outside-return, outside-var, return-else, return-var}
use Rattle.rely_parser.proofs.Sources.{Spare, bind-assoc, len-from, on-array, written-from, on-memory, on-var, can-var, on-local, can-local, on-each, on-target, on-claim, can-claim, reading_needs, bound-from, on-body, on-func, can-func}
use Rattle.rely_parser.proofs.Meets.{Run, Along, Go, go-done, go-same, go-then, go-then-reached, go-case, go-counted, go-first, go-peek, go-mark, go-no-mark, go-the-word, go-no-word, go-skip, go-word, go-sign, shared, said, words_of, agreeing, sparing}
use Rattle.rely_parser.proofs.Passes.{meet-name, meet-expr, Item, meet-listed, less-reached, meet-statement}

length-go : (w : Run) (a : State) (rest : List Token) (n j : ℕ) → 1 ≤ n → n ≤ 4096 → Along w rest a → Go w rest (if n == 0 || nat_lt 4096 n then Err (fault.Expected j) else Ok (n, a))
length-go w a rest n j l m d =
    go-same (ap (λ b. if b || nat_lt 4096 n then Err (fault.Expected j) else Ok (n, a)) (not-zero n l) ∙ ap (λ b. if b then Err (fault.Expected j) else Ok (n, a)) (le-ltb 4096 n m)) (go-done d)

meet-length : (w : Run) (s : State) (t : Token) (rest : List Token) (n : ℕ) → t.kind ≡ kind.Number n → 1 ≤ n → n ≤ 4096 → Along w (t ∷ rest) s → Go w rest (length_at s)
meet-length w s t rest n p l m c =
    go-case c (len-from s s.toks)
    (λ sh. go-same (bind-assoc (first_at s) (λ x. numbered x.1 x.0.span x.0.kind) (λ x. if x.0 == 0 || nat_lt 4096 x.0 then Err (fault.Expected (place s)) else Ok (x.0, x.1)))
    (go-first s (λ a sp k. numbered a sp k >>= λ x. if x.0 == 0 || nat_lt 4096 x.0 then Err (fault.Expected (place s)) else Ok (x.0, x.1)) c.end sh p (λ a d. length-go w a rest n (place s) l m d)))

meet-array : (w : Run) (s : State) (ts rest : List Token) (a : Option ℕ) → Array ts rest a → NotMark 91 rest → Along w ts s → Go w rest (array_at s)
meet-array w s ts rest a grammar.single n c = go-case c (on-array w.text (words_of w.text s) s (agreeing w.text s)) (λ sh. go-no-mark s 91 _ _ sh n (go-done c))
meet-array w s ts rest a (grammar.elements {t = t} {c = k} {n = n} p q l m z) x c =
    go-case c (on-array w.text (words_of w.text s) s (agreeing w.text s))
    (λ sh. go-mark s 91 _ _ c.end sh p (λ a less d. go-then (meet-length w a t (k ∷ rest) n q l m d) (λ y g. go-skip 93 g z (λ b h. go-done h))))

meet-written : (w : Run) (s : State) (ts rest : List Token) (k : KindTree) → Written w.says ts rest k → Along w ts s → Go w rest (choice_at w.text s)
meet-written w s ts rest k (either (seq (seq (one p) done) done)) c =
    go-case c (written-from w.text (words_of w.text s) s s.toks (agreeing w.text s)) (λ sh. go-first s (chosen w.text) c.end sh p (λ a d. go-done d))
meet-written w s ts rest k (other (seq (one p) done)) c =
    go-case c (written-from w.text (words_of w.text s) s s.toks (agreeing w.text s)) (λ sh. go-first s (chosen w.text) c.end sh p (λ a d. go-done d))

meet-memory : (w : Run) (s : State) (ts rest : List Token) (k : KindTree) → Memory w.says ts rest k → NotWord word.In rest → Along w ts s → Go w rest (memory_at w.text s)
meet-memory w s ts rest k (either (seq (one p) x)) n c =
    go-case c (on-memory w.text (words_of w.text s) s (agreeing w.text s)) (λ sh. go-the-word s word.In _ _ c.end sh p (λ a l d. meet-written w a _ _ _ x d))
meet-memory w s ts rest k (other done) n c = go-case c (on-memory w.text (words_of w.text s) s (agreeing w.text s)) (λ sh. go-no-word s word.In _ _ sh n (go-done c))

meet-var : (w : Run) (s : State) (ts rest : List Token) (a : DeclTree) → Var w.says ts rest a → Closes rest → Along w ts s → Go w rest (decl_at w.text s)
unfolding decl_at
meet-var w s ts rest a (seq nm (seq {mid = m} x (seq y done))) n c =
    go-then (meet-name w s _ _ _ nm c)
    (λ v d. let u : State = record { toks = v.1.toks; variables = v.1.variables - 1; operators = v.1.operators; calls = v.1.calls; end = v.1.end } in
    go-counted v.0.span.from u (v.1.variables == 0)
    (λ a. array_at a >>= λ l. memory_at w.text l.1 >>= λ m. Ok (record { name = v.0; length = l.0; memory = m.0 }, m.1))
    (go-then (meet-array w u _ m _ x (memory-index w.says y n.0) (record { end = d.end; is = d.is })) (λ z e. go-then (meet-memory w z.1 m rest _ y n.1 e) (λ q g. go-done g))))

var-item : (w : Run) → Item w Var Closes (decl_at w.text)
var-item w = record {
  meets = meet-var w;
  can = can-var;
  reads = on-var w.text;
  comma = λ t rest p. closes-mark 44 t rest p (λ e. absurd (omega (arith, e)));
  close = λ t rest p. closes-mark 41 t rest p (λ e. absurd (omega (arith, e)));
  begins = begins;
}
  where
    begins : (ts rest : List Token) (a : DeclTree) → Var w.says ts rest a → NotMark 41 ts
    begins ts rest a (seq (seq (one p) done) x) = subst (NotKind 41) (sym p) (tt {0})

name-item : (w : Run) → Item w Name (λ _. Unit {0}) (name_at w.text)
name-item w = record {
  meets = λ s ts rest a d n c. meet-name w s ts rest a d c;
  can = can-name;
  reads = on-name w.text;
  comma = λ t rest p. tt {0};
  close = λ t rest p. tt {0};
  begins = begins;
}
  where
    begins : (ts rest : List Token) (a : IdentTree) → Name w.says ts rest a → NotMark 41 ts
    begins ts rest a (seq (one p) done) = subst (NotKind 41) (sym p) (tt {0})

-- readings of items that stand behind a word
abbrev Itemed : {A : Type 0} → Run → ((Span → Bytes) → Spells A) → Read A → Type 0
Itemed {A} w F item = (s : State) (ts rest : List Token) (a : A) → F w.says ts rest a → Along w ts s → Go w rest (item s)

meet-local : (w : Run) → Itemed w Local (local_at w.text)
unfolding local_at
meet-local w s ts rest a (seq v (seq (one {t = t} {rest = r} p) done)) c =
    go-then (meet-var w s _ (t ∷ r) _ v (closes-mark 59 t r p (λ e. absurd (omega (arith, e)))) c) (λ y d. go-skip 59 d p (λ b e. go-done e))

meet-each : {A : Type 0} (w : Run) (v : Word) (F : (Span → Bytes) → Spells A) (item : Read A) → Itemed w F item → ((says : Span → Bytes) → Spare says → Can (F says)) → ((says : Span → Bytes) → Spare says → Reads w.text says (F says) item) →
    (s : State) (ts rest : List Token) (xs : List A) → Each v (F w.says) ts rest xs → NotWord v rest → Along w ts s → (n : ℕ) → Go w rest (each_behind v item n s)
unfolding each_behind
meet-each w v F item f c i s ts rest xs grammar.none k al zero =
    go-case al (on-each w.text (words_of w.text s) v (F (words_of w.text s)) item (c (words_of w.text s) (sparing w.text s)) (i (words_of w.text s) (sparing w.text s)) zero s (agreeing w.text s)) (λ sh. go-no-word s v _ _ sh k (go-done al))
meet-each w v F item f c i s ts rest xs grammar.none k al (suc n) =
    go-case al (on-each w.text (words_of w.text s) v (F (words_of w.text s)) item (c (words_of w.text s) (sparing w.text s)) (i (words_of w.text s) (sparing w.text s)) (suc n) s (agreeing w.text s)) (λ sh. go-no-word s v _ _ sh k (go-done al))
meet-each w v F item f c i s ts rest xs (grammar.another p x e) k al zero =
    go-case al (on-each w.text (words_of w.text s) v (F (words_of w.text s)) item (c (words_of w.text s) (sparing w.text s)) (i (words_of w.text s) (sparing w.text s)) zero s (agreeing w.text s))
    (λ sh. go-the-word s v _ _ al.end sh p (λ a l d. record { goes = tt {0} }))
meet-each w v F item f c i s ts rest xs (grammar.another p x e) k al (suc n) =
    go-case al (on-each w.text (words_of w.text s) v (F (words_of w.text s)) item (c (words_of w.text s) (sparing w.text s)) (i (words_of w.text s) (sparing w.text s)) (suc n) s (agreeing w.text s))
    (λ sh. go-the-word s v _ _ al.end sh p (λ a l d. go-then (f a _ _ _ x d) (λ y g. go-then (meet-each w v F item f c i y.1 _ rest _ e k g n) (λ z h. go-done h))))

meet-some : {A : Type 0} (w : Run) (v : Word) (F : (Span → Bytes) → Spells A) (item : Read A) → Itemed w F item → ((says : Span → Bytes) → Spare says → Can (F says)) → ((says : Span → Bytes) → Spare says → Reads w.text says (F says) item) →
    (s : State) (ts rest : List Token) (xs : List A) → OneOrMore v (F w.says) ts rest xs → NotWord v rest → Along w ts s → (n : ℕ) → Go w rest (some_behind v item n s)
unfolding some_behind
meet-some w v F item f c i s ts rest xs (seq (one p) (seq x (seq e done))) k al n =
    go-word v al p (λ a d. go-then (f a _ _ _ x d) (λ y g. go-then (meet-each w v F item f c i y.1 _ rest _ e k g n) (λ z h. go-done h)))

meet-target : (w : Run) (s : State) (ts rest : List Token) (a : Option IdentTree) → Target w.says ts rest a → Along w ts s → Go w rest (target_at w.text s)
meet-target w s ts rest a (either (seq (one p) done)) c = go-case c (on-target w.text (words_of w.text s) s (agreeing w.text s)) (λ sh. go-the-word s word.Result _ _ c.end sh p (λ a l d. go-done d))
meet-target w s ts rest a (other (seq (seq (one p) done) done)) c =
    go-case c (on-target w.text (words_of w.text s) s (agreeing w.text s))
    (λ sh. go-no-word s word.Result _ _ sh (subst (NotWordKind word.Result) (sym p) (tt {0})) (go-then (meet-name w s _ _ _ (seq (one p) done) c) (λ v d. go-done d)))

meet-needs : (w : Run) (t : Option IdentTree) (n : ℕ) (s : State) (m r o : Token) (ts rest : List Token) (ns : List IdentTree) → m.kind ≡ kind.Oper op.Mul → r.kind ≡ kind.Word word.R → o.kind ≡ kind.Mark 40 → Listed (Name w.says) ts rest ns →
    Along w (m ∷ r ∷ o ∷ ts) s → Go w rest ((skip_sign_at op.Mul s >>= λ a. skip_word_at word.R a >>= λ r. skip_at 40 r) >>= reading_needs w.text t n)
meet-needs w t n s m r o ts rest ns p q z d c =
    go-same (bind-assoc (skip_sign_at op.Mul s) (λ a. skip_word_at word.R a >>= λ r. skip_at 40 r) (reading_needs w.text t n))
    (go-sign op.Mul c p
    (λ a g. go-same (bind-assoc (skip_word_at word.R a) (λ r. skip_at 40 r) (reading_needs w.text t n))
    (go-word word.R g q (λ b h. go-skip 40 h z (λ e i. go-then (meet-listed w Name (λ _. Unit {0}) (name_at w.text) (name-item w) e _ _ _ d i) (λ y j. go-done j))))))

meet-bound : (w : Run) (t : Option IdentTree) (n : ℕ) (s : State) (b m r o : Token) (ts rest : List Token) (ns : List IdentTree) → IsTrue (is_amount b.kind) → atto_of (w.says b.span) ≡ Ok n → m.kind ≡ kind.Oper op.Mul → r.kind ≡ kind.Word word.R →
    o.kind ≡ kind.Mark 40 → Listed (Name w.says) ts rest ns → Along w (b ∷ m ∷ r ∷ o ∷ ts) s → Go w rest (bound_at w.text s >>= λ b. behind_bound_at s >>= reading_needs w.text t b)
meet-bound w t n s b m r o ts rest ns y e p q z d c =
    go-case c (bound-from w.text (words_of w.text s) (sparing w.text s) t s s.toks (agreeing w.text s))
    (λ sh. let u = shared {w = w} {t = b} {ts = m ∷ r ∷ o ∷ ts} {s = s} c.end sh in
    go-same
    (ap (λ l. bound_at w.text (behind s l) >>= λ b. behind_bound_at (behind s l) >>= reading_needs w.text t b) u.split
    ∙ ap (λ j. j >>= λ b. (skip_sign_at op.Mul (behind s u.left) >>= λ a. skip_word_at word.R a >>= λ r. skip_at 40 r) >>= reading_needs w.text t b) (read-bound w.text w.says s b u.left n y e (said sh)))
    (meet-needs w t n (behind s u.left) m r o ts rest ns p q z d u.along))

meet-claim : (w : Run) → Itemed w Claim (claim_at w.text)
unfolding claim_at
meet-claim w s ts rest a (seq x (seq (one p) (seq (grammar.amount {t = b} {n = n} y e) (seq (one {t = m} j) (seq (one {t = r} k) (seq (one {t = o} z) (seq d done))))))) c =
    go-then (meet-target w s _ _ _ x c) (λ v g. go-sign op.Ge g p (λ a h. meet-bound w v.0 n a b m r o _ rest _ y e j k z d h))

meet-last : (w : Run) (span : Span) (s : State) (c d : Token) (ts rest : List Token) (e : ExprTree) → Expr w.says ts (c ∷ d ∷ rest) e → c.kind ≡ kind.Mark 59 → d.kind ≡ kind.Mark 125 → Along w ts s → Go w rest (last_at w.text span s)
unfolding last_at
meet-last w span s c d ts rest e l p q al =
    go-then (meet-expr w 63 s _ _ _ l (stops-mark 59 7 c p (λ y. absurd (omega (arith, y)))) al) (λ x g. go-skip 59 g p (λ a h. go-skip 125 h q (λ b i. go-done i)))

meet-body : (w : Run) (s : State) (ts rest : List Token) (b : Block) → Body w.says ts rest b → Along w ts s → (n : ℕ) → length s.toks < n → Go w rest (body_of w.text n s)
unfolding body_of
meet-body w s ts rest b d al zero m = absurd (omega (arith, m))
meet-body w s ts rest b (grammar.returns {w = v} {c = c} {d = d} {ts = l} {e = e} p x q z) al (suc n) m =
    go-case al (on-body w.text (words_of w.text s) (suc n) s (agreeing w.text s))
    (λ sh. go-the-word s word.Return _ _ al.end sh p (λ a less g. go-peek s _ al.end sh (λ b. go-then (meet-last w v.span a c d l rest e x q z g) (λ y h. go-done h))))
meet-body w s ts rest b (grammar.before {mid = mid} d e) al (suc n) m =
    go-case al (on-body w.text (words_of w.text s) (suc n) s (agreeing w.text s))
    (λ sh. go-no-word s word.Return _ _ sh (starts-word word.Return outside-return ts (stmt-starts d))
    (go-then-reached {q = 0} (at (on-stmt w.text (words_of w.text s) 63 s (agreeing w.text s))) (meet-statement w 63 s _ _ _ d (body-word word.Else outside-else return-else e) al)
    (λ x h g. let u = less-reached (words_of w.text s) s.toks s.end x.0 x.1 h in go-then (meet-body w x.1 mid rest _ e g n (omega (arith, u, m))) (λ y i. go-done i))))

meet-func : (w : Run) → Itemed w Func (function_at w.text)
unfolding function_at
meet-func w s ts rest a (seq nm (seq (one q) (seq ps (seq cs (seq (one {t = b} z) (seq ls (seq y done))))))) c =
    go-then (meet-name w (fresh s) _ _ _ nm (record { end = c.end; is = c.is }))
    (λ v c1. go-skip 40 c1 q
    (λ v c2. go-then (meet-listed w Var Closes (decl_at w.text) (var-item w) v _ _ _ ps c2)
    (λ v c3. go-then (meet-some w word.Claim Claim (claim_at w.text) (meet-claim w) can-claim (λ says k. on-claim w.text says k) v.1 _ _ _ cs (subst (NotWordKind word.Claim) (sym z) (tt {0})) c3 7)
    (λ v c4. go-skip 123 c4 z
    (λ v c5. go-then (meet-each w word.Var Local (local_at w.text) (meet-local w) (λ says k. can-local says) (λ says k. on-local w.text says) v _ _ _ ls (body-word word.Var outside-var return-var y) c5 (length v.toks))
    (λ v c6. go-then (meet-body w v.1 _ rest _ y c6 (length v.1.toks + 1) (omega arith)) (λ x c7. go-done c7)))))))

pub meet-functions : (w : Run) (s : State) (ts : List Token) (fs : List FuncTree) → OneOrMore word.Fn (Func w.says) ts [] fs → Along w ts s → Go w [] (functions_at w.text s)
meet-functions w s ts fs d c = meet-some w word.Fn Func (function_at w.text) (meet-func w) can-func (λ says k. on-func w.text says k) s ts [] fs d (tt {0}) c 63
