-- Readings along tokens that spell something: expressions and statements.
use Rattle.std.proofs.Common.{◌≡◌, ℕ, zero, suc, ◌+◌, ◌-◌, ◌≤◌, ◌<◌, ◌==◌, List, ◌∷◌, length, Ok, Err, ap, sym, subst, arith, nat_lt, if◌then◌else◌}
use Rattle.std.proofs.lemmas.Bool.{le-ltb}
use Rattle.rely_num.specs.Texts.{Bytes}
use Rattle.rely_num.specs.declared.span.Span.{Span}
use Rattle.rely_lexer.specs.declared.token.Token.{Token}
use Rattle.rely_lexer.specs.declared.token.TokenKind.TheVariants as kind
use Rattle.rely_num.specs.declared.word.Word.TheVariants as word
use Rattle.rely_tree.specs.Tree.{IdentTree, KindTree, ExprTree, StmtTree, CallTree, Block}
use Rattle.rely_parser.specs.declared.fault.ParseFault.TheVariants as fault
use Rattle.rely_parser.specs.State.{State, Read, place, ◌>>=◌, first_at, skip_at, named, name_at, ident_at, suffix_at, numbered, count_at}
use Rattle.rely_parser.specs.Grammar.{prim_of, prim_at, kind_at, more_at, level_at, bracketed, expr_at}
use Rattle.rely_parser.specs.Statements.{more_of, list_of, args_at, call_at, set_at, assignment_at, condition_at, items_at, otherwise_at, if_at, while_at, repeat_at, stmt_of, stmt_with, braces, block_at, stmt_at}
use Rattle.rely_parser.specs.Productions as grammar
use Rattle.rely_parser.specs.Productions.{Spells, done, one, seq, either, other, Name, Suffix, Step, Prim, Level, Operands, Expr, Tail, Listed, Count, Stmt, Braces, Stmts, Else}
use Rattle.rely_parser.proofs.Laws.{at, Can, Reached, on-map}
use Rattle.rely_parser.proofs.Marks.{on-name, on-mark-at}
use Rattle.rely_parser.proofs.Exprs.{on-suffix, on-kind, on-variable, prim-from, Inner, Next, going, on-more, on-level, on-bracketed, on-expr, can-level}
use Rattle.rely_parser.proofs.Stmts.{Reads, on-tail, on-listed, on-count, on-set, on-assignment, on-otherwise, stmt-from, on-items, on-braces, to-braces, can-stmts}
use Rattle.rely_parser.proofs.Finds.{NotKind, NotMark, NoSuffix, level-suffix, Stops, stops-mark, stops-index, stops-operands, shorter-behind}
use Rattle.rely_parser.proofs.Completes.{NotWord, begin-close, begin-word, level-begin, stmts-else, less-stmt, stmt-starts, starts-brace}
use Rattle.rely_parser.proofs.Sources.{bind-assoc}
use Rattle.rely_parser.proofs.Meets.{Run, Along, Go, go-done, go-same, go-then, go-then-on, go-then-reached, go-case, go-counted, go-first, go-peek, go-mark, go-no-mark, go-the-word, go-no-word, go-oper, go-no-oper, go-skip, go-word, share-some, words_of, agreeing}

pub meet-name : (w : Run) (s : State) (ts rest : List Token) (a : IdentTree) → Name w.says ts rest a → Along w ts s → Go w rest (name_at w.text s)
meet-name w s ts rest a (seq (one {t = t} {rest = r} p) done) c =
    go-case c (on-name w.text (words_of w.text s) s (agreeing w.text s)) (λ sh. go-first s (named w.text) c.end sh p (λ a d. go-done d))

pub meet-suffix : (w : Run) (s : State) (ts rest : List Token) (k : KindTree) → Suffix w.says ts rest k → NoSuffix rest → Along w ts s → Go w rest (suffix_at w.text s)
meet-suffix w s ts rest k (either (seq (one p) (seq nm done))) m c =
    go-case c (on-suffix w.text (words_of w.text s) s (agreeing w.text s)) (λ sh. go-mark s 46 _ _ c.end sh p (λ a l d. go-then (meet-name w a _ _ _ nm d) (λ x e. go-done e)))
meet-suffix w s ts rest k (other (either (seq (one p) done))) m c =
    go-case c (on-suffix w.text (words_of w.text s) s (agreeing w.text s))
    (λ sh. go-no-mark s 46 _ _ sh (subst (NotKind 46) (sym p) (λ e. absurd (omega (arith, e)))) (go-mark s 63 _ _ c.end sh p (λ a l d. go-peek s _ c.end sh (λ b. go-done d))))
meet-suffix w s ts rest k (other (other done)) m c =
    go-case c (on-suffix w.text (words_of w.text s) s (agreeing w.text s)) (λ sh. go-no-mark s 46 _ _ sh m.0 (go-no-mark s 63 _ _ sh m.1 (go-done c)))

pub meet-kind : (w : Run) (p : ℕ) (s : State) (ts rest : List Token) (k : KindTree) → Suffix w.says ts rest k → NoSuffix rest → Along w ts s → Go w rest (kind_at w.text p s)
unfolding kind_at
meet-kind w p s ts rest k d m c =
    let v : State = record { toks = s.toks; variables = s.variables; operators = s.operators - 1; calls = s.calls; end = s.end } in
    go-counted p v (s.operators == 0) (suffix_at w.text) (meet-suffix w v ts rest k d m (record { end = c.end; is = c.is }))

-- readings of what is in brackets
abbrev pub Meeter : Run → (ℕ → Read ExprTree) → Type 0
Meeter w inner = (p : ℕ) (s : State) (ts rest : List Token) (e : ExprTree) → Expr w.says ts rest e → Stops 7 rest → Along w ts s → Go w rest (inner p s)

abbrev pub Inners : Run → (ℕ → Read ExprTree) → Type 0
Inners w inner = (says : Span → Bytes) → Inner w.text says inner

meet-prim : (w : Run) (inner : ℕ → Read ExprTree) → Meeter w inner → Inners w inner → (s : State) (ts rest : List Token) (e : ExprTree) → Prim w.says ts rest e → Stops 0 rest → Along w ts s → Go w rest (prim_at w.text inner s)
unfolding prim_at
meet-prim w inner f i s ts rest e (grammar.number p) st c =
    go-case c (prim-from w.text (words_of w.text s) inner (i (words_of w.text s)) s s.toks (agreeing w.text s)) (λ sh. go-first s (prim_of w.text inner) c.end sh p (λ a d. go-done d))
meet-prim w inner f i s ts rest e (grammar.scalar {t = t} {rest = r} p) st c =
    go-case c (prim-from w.text (words_of w.text s) inner (i (words_of w.text s)) s s.toks (agreeing w.text s))
    (λ sh. go-first s (prim_of w.text inner) c.end sh p
    (λ a d. go-case d (on-variable w.text (words_of w.text a) inner (i (words_of w.text a)) (ident_at w.text t.span) a (agreeing w.text a)) (λ sh. go-no-mark a 91 _ _ sh (stops-index r st) (go-done d))))
meet-prim w inner f i s ts rest e (grammar.element {t = t} {c = k} p q l z) st c =
    go-case c (prim-from w.text (words_of w.text s) inner (i (words_of w.text s)) s s.toks (agreeing w.text s))
    (λ sh. go-first s (prim_of w.text inner) c.end sh p
    (λ a d. go-case d (on-variable w.text (words_of w.text a) inner (i (words_of w.text a)) (ident_at w.text t.span) a (agreeing w.text a))
    (λ sh. go-mark a 91 _ _ d.end sh q
    (λ b m e. go-then (f _ b _ _ _ l (stops-mark 93 7 k z (λ y. absurd (omega (arith, y)))) e) (λ x g. go-skip 93 g z (λ y h. go-done h))))))
meet-prim w inner f i s ts rest e (grammar.inside {c = k} p l z) st c =
    go-case c (prim-from w.text (words_of w.text s) inner (i (words_of w.text s)) s s.toks (agreeing w.text s))
    (λ sh. go-first s (prim_of w.text inner) c.end sh p
    (λ a d. go-then (f _ a _ _ _ l (stops-mark 41 7 k z (λ y. absurd (omega (arith, y)))) d) (λ x g. go-skip 41 g z (λ y h. go-done h))))

-- readings of operands
abbrev pub Operanding : Run → ℕ → Read ExprTree → Type 0
Operanding w h next = (s : State) (ts rest : List Token) (e : ExprTree) → Level w.says h ts rest e → Stops h rest → Along w ts s → Go w rest (next s)

meet-more : (w : Run) (h : ℕ) (next : Read ExprTree) → Operanding w h next → ((says : Span → Bytes) → Next w.text says h next) → (s : State) (ts rest : List Token) (steps : List Step) → Operands w.says h ts rest steps →
    Stops (suc h) rest → Along w ts s → (n : ℕ) → length s.toks ≤ n → (left : ExprTree) → Go w rest (more_at w.text (suc h) next n left s)
unfolding more_at
meet-more w h next f i s ts rest steps grammar.last st c zero m left = go-done c
meet-more w h next f i s ts rest steps grammar.last st c (suc n) m left =
    go-case c (on-more w.text (words_of w.text s) h next (i (words_of w.text s)) (suc n) left s (agreeing w.text s)) (λ sh. go-no-oper s (suc h) _ _ sh st (go-done c))
meet-more w h next f i s ts rest steps (grammar.operator p q k l o) st c zero m left =
    go-case c (on-more w.text (words_of w.text s) h next (i (words_of w.text s)) zero left s (agreeing w.text s)) (λ sh. let y = share-some w s.toks ts sh in absurd (omega (arith, y, m)))
meet-more w h next f i s ts rest steps (grammar.operator {t = t} {o = x} p q k l o) st c (suc n) m left =
    go-case c (on-more w.text (words_of w.text s) h next (i (words_of w.text s)) (suc n) left s (agreeing w.text s))
    (λ sh. go-oper s (suc h) x (going w.text (suc h) next n left) _ c.end sh p q
    (λ a less d. go-then-on (on-kind w.text (words_of w.text a) t.span.from a (agreeing w.text a)) (meet-kind w t.span.from a _ _ _ k (level-suffix l) d)
    (λ y b e. go-then-on {q = 0} (at (i (words_of w.text y.1) y.1 (agreeing w.text y.1))) (f y.1 _ _ _ l (stops-operands o st) e)
    (λ z b2 g. let u = shorter-behind b in let v = shorter-behind b2 in meet-more w h next f i z.1 _ rest _ o st g n (omega (arith, u, v, less, m)) _))))

pub meet-level : (w : Run) (inner : ℕ → Read ExprTree) → Meeter w inner → Inners w inner → (h : ℕ) → Operanding w h (level_at w.text inner h)
unfolding level_at
meet-level w inner f i zero s ts rest e (grammar.operand p) st c = meet-prim w inner f i s ts rest e p st c
meet-level w inner f i (suc h) s ts rest e (grammar.joined l o j) st c =
    go-then (meet-level w inner f i h s _ _ _ l (stops-operands o st) c)
    (λ x d. meet-more w h (level_at w.text inner h) (meet-level w inner f i h) (λ says. on-level w.text says inner (i says) h) x.1 _ rest _ o st d (length x.1.toks) (omega arith) x.0)

pub meet-bracketed : (w : Run) (d : ℕ) → Meeter w (bracketed w.text d)
unfolding bracketed
meet-bracketed w zero p s ts rest e l st c = record { goes = tt {0} }
meet-bracketed w (suc d) p s ts rest e l st c = meet-level w (bracketed w.text d) (meet-bracketed w d) (λ says. on-bracketed w.text says d) 7 s ts rest e l st c

pub meet-expr : (w : Run) (d : ℕ) → Operanding w 7 (expr_at w.text d)
meet-expr w d s ts rest e l st c = meet-level w (bracketed w.text d) (meet-bracketed w d) (λ says. on-bracketed w.text says d) 7 s ts rest e l st c

-- what is known of items of a list with commas
pub record Item {A : Type 0} (w : Run) (F : (Span → Bytes) → Spells A) (Ends : List Token → Type 0) (item : Read A) : Type 0 where
  pub meets : (s : State) (ts rest : List Token) (a : A) → F w.says ts rest a → Ends rest → Along w ts s → Go w rest (item s)
  pub can : (says : Span → Bytes) → Can (F says)
  pub reads : (says : Span → Bytes) → Reads w.text says (F says) item
  pub comma : (t : Token) (rest : List Token) → t.kind ≡ kind.Mark 44 → Ends (t ∷ rest)
  pub close : (t : Token) (rest : List Token) → t.kind ≡ kind.Mark 41 → Ends (t ∷ rest)
  pub begins : (ts rest : List Token) (a : A) → F w.says ts rest a → NotMark 41 ts

ends-tail : {A : Type 0} (w : Run) (F : (Span → Bytes) → Spells A) (Ends : List Token → Type 0) (item : Read A) → Item w F Ends item → (ts rest : List Token) (xs : List A) → Tail (F w.says) ts rest xs → Ends ts
ends-tail w F Ends item c ts rest xs (grammar.closed {t = t} {rest = r} p) = c.close t r p
ends-tail w F Ends item c ts rest xs (grammar.comma {t = t} {ts = r} p i q) = c.comma t r p

meet-tail : {A : Type 0} (w : Run) (F : (Span → Bytes) → Spells A) (Ends : List Token → Type 0) (item : Read A) → Item w F Ends item → (s : State) (ts rest : List Token) (xs : List A) → Tail (F w.says) ts rest xs → Along w ts s →
    (n : ℕ) → length s.toks < n → Go w rest (more_of item n s)
unfolding more_of
meet-tail w F Ends item c s ts rest xs d al zero m = absurd (omega (arith, m))
meet-tail w F Ends item c s ts rest xs (grammar.closed p) al (suc n) m =
    go-case al (on-tail w.text (words_of w.text s) (F (words_of w.text s)) item (c.can (words_of w.text s)) (c.reads (words_of w.text s)) (suc n) s (agreeing w.text s))
    (λ sh. go-no-mark s 44 _ _ sh (subst (NotKind 44) (sym p) (λ e. absurd (omega (arith, e)))) (go-skip 41 al p (λ a e. go-done e)))
meet-tail w F Ends item c s ts rest xs (grammar.comma {mid = b} {xs = ys} p i d) al (suc n) m =
    go-case al (on-tail w.text (words_of w.text s) (F (words_of w.text s)) item (c.can (words_of w.text s)) (c.reads (words_of w.text s)) (suc n) s (agreeing w.text s))
    (λ sh. go-mark s 44 _ _ al.end sh p
    (λ a less e. go-then-on {q = 0} (at (c.reads (words_of w.text a) a (agreeing w.text a))) (c.meets a _ _ _ i (ends-tail w F Ends item c b rest ys d) e)
    (λ x k g. let u = shorter-behind k in go-then (meet-tail w F Ends item c x.1 b rest ys d g n (omega (arith, u, less, m))) (λ y h. go-done h))))

pub meet-listed : {A : Type 0} (w : Run) (F : (Span → Bytes) → Spells A) (Ends : List Token → Type 0) (item : Read A) → Item w F Ends item → (s : State) (ts rest : List Token) (xs : List A) → Listed (F w.says) ts rest xs → Along w ts s →
    Go w rest (list_of item s)
unfolding list_of
meet-listed w F Ends item c s ts rest xs (grammar.empty p) al =
    go-case al (on-listed w.text (words_of w.text s) (F (words_of w.text s)) item (c.can (words_of w.text s)) (c.reads (words_of w.text s)) s (agreeing w.text s)) (λ sh. go-mark s 41 _ _ al.end sh p (λ a l e. go-done e))
meet-listed w F Ends item c s ts rest xs (grammar.items {mid = b} {xs = ys} i d) al =
    go-case al (on-listed w.text (words_of w.text s) (F (words_of w.text s)) item (c.can (words_of w.text s)) (c.reads (words_of w.text s)) s (agreeing w.text s))
    (λ sh. go-no-mark s 41 _ _ sh (c.begins _ _ _ i)
    (go-then (c.meets s _ _ _ i (ends-tail w F Ends item c b rest ys d) al)
    (λ x g. go-then (meet-tail w F Ends item c x.1 b rest ys d g (length x.1.toks + 1) (omega arith)) (λ y h. go-done h))))

expr-item : (w : Run) (d : ℕ) → Item w Expr (Stops 7) (expr_at w.text d)
expr-item w d = record {
  meets = meet-expr w d;
  can = λ says. can-level says 7;
  reads = λ says. on-expr w.text says d;
  comma = λ t rest p. stops-mark 44 7 t p (λ e. absurd (omega (arith, e)));
  close = λ t rest p. stops-mark 41 7 t p (λ e. absurd (omega (arith, e)));
  begins = λ ts rest a i. begin-close ts (level-begin i);
}

meet-args : (w : Run) (d p : ℕ) (s : State) (ts rest : List Token) (xs : List ExprTree) → Listed (Expr w.says) ts rest xs → Along w ts s → Go w rest (args_at w.text d p s)
unfolding args_at
meet-args w zero p s ts rest xs l c = record { goes = tt {0} }
meet-args w (suc d) p s ts rest xs l c = meet-listed w Expr (Stops 7) (expr_at w.text d) (expr-item w d) s ts rest xs l c

count-turns : (w : Run) (a : State) (rest : List Token) (n j : ℕ) → n ≤ 4294967295 → Along w rest a → Go w rest (if nat_lt 4294967295 n then Err (fault.Expected j) else Ok (n, a))
count-turns w a rest n j l d = go-same (ap (λ b. if b then Err (fault.Expected j) else Ok (n, a)) (le-ltb 4294967295 n l)) (go-done d)

pub meet-count : (w : Run) (s : State) (ts rest : List Token) (n : ℕ) → Count ts rest n → Along w ts s → Go w rest (count_at s)
meet-count w s ts rest n (grammar.turns {t = t} {rest = r} p l) c =
    go-case c (on-count s)
    (λ sh. go-same (bind-assoc (first_at s) (λ x. numbered x.1 x.0.span x.0.kind) (λ x. if nat_lt 4294967295 x.0 then Err (fault.Expected (place s)) else Ok (x.0, x.1)))
    (go-first s (λ a sp k. numbered a sp k >>= λ x. if nat_lt 4294967295 x.0 then Err (fault.Expected (place s)) else Ok (x.0, x.1)) c.end sh p (λ a d. count-turns w a r n (place s) l d)))

meet-condition : (w : Run) (d : ℕ) (s : State) (b c : Token) (ts rest : List Token) (e : ExprTree) → b.kind ≡ kind.Mark 40 → Expr w.says ts (c ∷ rest) e → c.kind ≡ kind.Mark 41 → Along w (b ∷ ts) s → Go w rest (condition_at w.text d s)
unfolding condition_at
meet-condition w d s b c ts rest e p l q al =
    go-skip 40 al p (λ a g. go-then (meet-bracketed w d _ a _ _ _ l (stops-mark 41 7 c q (λ y. absurd (omega (arith, y)))) g) (λ x h. go-skip 41 h q (λ y i. go-done i)))

-- readings of blocks
abbrev Blocking : Run → Read Block → Type 0
Blocking w block = (s : State) (ts rest : List Token) (b : Block) → Braces w.says ts rest b → Along w ts s → Go w rest (block s)

abbrev Blocked : Run → Read Block → Type 0
Blocked w block = (says : Span → Bytes) → Reads w.text says (Braces says) block

meet-else : (w : Run) (block : Read Block) → Blocking w block → Blocked w block → (s : State) (ts rest : List Token) (b : Block) → Else w.says ts rest b → NotWord word.Else rest → Along w ts s → Go w rest (otherwise_at block s)
unfolding otherwise_at
meet-else w block f i s ts rest b grammar.absent n c = go-case c (on-otherwise w.text (words_of w.text s) block (i (words_of w.text s)) s (agreeing w.text s)) (λ sh. go-no-word s word.Else _ _ sh n (go-done c))
meet-else w block f i s ts rest b (grammar.present p d) n c =
    go-case c (on-otherwise w.text (words_of w.text s) block (i (words_of w.text s)) s (agreeing w.text s)) (λ sh. go-the-word s word.Else _ _ c.end sh p (λ a l e. f a _ _ _ d e))

meet-if : (w : Run) (d : ℕ) (block : Read Block) → Blocking w block → Blocked w block → (span : Span) (s : State) (b c : Token) (ts next after rest : List Token) (e : ExprTree) (held otherwise : Block) →
    b.kind ≡ kind.Mark 40 → Expr w.says ts (c ∷ next) e → c.kind ≡ kind.Mark 41 → Braces w.says next after held → Else w.says after rest otherwise → NotWord word.Else rest → Along w (b ∷ ts) s → Go w rest (if_at w.text d block span s)
unfolding if_at
meet-if w d block f i span s b c ts next after rest e held otherwise p l q h o n al =
    go-then (meet-condition w d s b c ts next e p l q al) (λ x g. go-then (f x.1 _ _ _ h g) (λ y j. go-then (meet-else w block f i y.1 _ _ _ o n j) (λ z k. go-done k)))

meet-while : (w : Run) (d : ℕ) (block : Read Block) → Blocking w block → (span : Span) (s : State) (b c m : Token) (ts next after rest : List Token) (e : ExprTree) (n : ℕ) (body : Block) →
    b.kind ≡ kind.Mark 40 → Expr w.says ts (c ∷ m ∷ next) e → c.kind ≡ kind.Mark 41 → m.kind ≡ kind.Word word.Max → Count next after n → Braces w.says after rest body → Along w (b ∷ ts) s → Go w rest (while_at w.text d block span s)
unfolding while_at
meet-while w d block f span s b c m ts next after rest e n body p l q r k h al =
    go-then (meet-condition w d s b c ts (m ∷ next) e p l q al)
    (λ x g. go-word word.Max g r (λ a j. go-then (meet-count w a _ _ _ k j) (λ y i. go-then (f y.1 _ _ _ h i) (λ z u. go-done u))))

meet-repeat : (w : Run) (block : Read Block) → Blocking w block → (span : Span) (s : State) (ts next rest : List Token) (n : ℕ) (body : Block) → Count ts next n → Braces w.says next rest body → Along w ts s → Go w rest (repeat_at block span s)
unfolding repeat_at
meet-repeat w block f span s ts next rest n body k h al = go-then (meet-count w s _ _ _ k al) (λ y i. go-then (f y.1 _ _ _ h i) (λ z u. go-done u))

meet-call : (w : Run) (d : ℕ) (target : IdentTree) (v : Span) (s : State) (n b c : Token) (ts rest : List Token) (es : List ExprTree) →
    n.kind ≡ kind.Name → b.kind ≡ kind.Mark 40 → Listed (Expr w.says) ts (c ∷ rest) es → c.kind ≡ kind.Mark 59 → Along w (n ∷ b ∷ ts) s → Go w rest (call_at w.text d target v s)
unfolding call_at
meet-call w d target v s n b c ts rest es p q l z al =
    let u : State = record { toks = s.toks; variables = s.variables; operators = s.operators; calls = s.calls - 1; end = s.end } in
    go-counted v.from u (s.calls == 0)
    (λ a. name_at w.text a >>= λ callee. skip_at 40 callee.1 >>= λ b. args_at w.text d (place callee.1) b >>= λ x. skip_at 59 x.1 >>= λ end. Ok (CallTree target.span target v callee.0 x.0, end))
    (go-then (meet-name w u (n ∷ b ∷ ts) _ _ (seq (one p) done) (record { end = al.end; is = al.is }))
    (λ y g. go-skip 40 g q (λ a h. go-then (meet-args w d _ a _ _ _ l h) (λ x i. go-skip 59 i z (λ y j. go-done j)))))

meet-set : (w : Run) (d : ℕ) (target : IdentTree) (s : State) (c : Token) (ts rest : List Token) (e : ExprTree) → Expr w.says ts (c ∷ rest) e → c.kind ≡ kind.Mark 59 → Along w ts s → Go w rest (set_at w.text d target s)
unfolding set_at
meet-set w d target s c ts rest e l z al =
    go-case al (on-set w.text (words_of w.text s) d target s (agreeing w.text s))
    (λ sh. go-no-word s word.Call _ _ sh (begin-word word.Call ts (level-begin l))
    (go-then (meet-expr w d s _ _ _ l (stops-mark 59 7 c z (λ y. absurd (omega (arith, y)))) al) (λ x i. go-skip 59 i z (λ y j. go-done j))))

meet-set-call : (w : Run) (d : ℕ) (target : IdentTree) (s : State) (v n b c : Token) (ts rest : List Token) (es : List ExprTree) →
    v.kind ≡ kind.Word word.Call → n.kind ≡ kind.Name → b.kind ≡ kind.Mark 40 → Listed (Expr w.says) ts (c ∷ rest) es → c.kind ≡ kind.Mark 59 → Along w (v ∷ n ∷ b ∷ ts) s → Go w rest (set_at w.text d target s)
unfolding set_at
meet-set-call w d target s v n b c ts rest es j p q l z al =
    go-case al (on-set w.text (words_of w.text s) d target s (agreeing w.text s))
    (λ sh. go-the-word s word.Call _ _ al.end sh j (λ a less e. go-peek s _ al.end sh (λ b2. meet-call w d target v.span a n b c ts rest es p q l z e)))

meet-element : (w : Run) (d : ℕ) (target : IdentTree) (s : State) (b k q c : Token) (ts next rest : List Token) (i e : ExprTree) →
    b.kind ≡ kind.Mark 91 → Expr w.says ts (k ∷ q ∷ next) i → k.kind ≡ kind.Mark 93 → q.kind ≡ kind.Mark 61 → Expr w.says next (c ∷ rest) e → c.kind ≡ kind.Mark 59 → Along w (b ∷ ts) s → Go w rest (assignment_at w.text d target s)
unfolding assignment_at
meet-element w d target s b k q c ts next rest i e p l r j m z al =
    go-case al (on-assignment w.text (words_of w.text s) d target s (agreeing w.text s))
    (λ sh. go-no-mark s 61 _ _ sh (subst (NotKind 61) (sym p) (λ y. absurd (omega (arith, y))))
    (go-skip 91 al p
    (λ a g. go-then (meet-bracketed w d _ a _ _ _ l (stops-mark 93 7 k r (λ y. absurd (omega (arith, y)))) g)
    (λ x h. go-skip 93 h r (λ a2 g2. go-skip 61 g2 j
    (λ a3 g3. go-then (meet-expr w d a3 _ _ _ m (stops-mark 59 7 c z (λ y. absurd (omega (arith, y)))) g3) (λ y g4. go-skip 59 g4 z (λ a5 g5. go-done g5))))))))

meet-assigned : (w : Run) (d : ℕ) (target : IdentTree) (s : State) (q : Token) (ts rest : List Token) → q.kind ≡ kind.Mark 61 → ((a : State) → Along w ts a → Go w rest (set_at w.text d target a)) → Along w (q ∷ ts) s →
    Go w rest (assignment_at w.text d target s)
unfolding assignment_at
meet-assigned w d target s q ts rest p h al =
    go-case al (on-assignment w.text (words_of w.text s) d target s (agreeing w.text s)) (λ sh. go-mark s 61 _ _ al.end sh p (λ a less e. h a e))

meet-stmt : (w : Run) (d : ℕ) (block : Read Block) → Blocking w block → Blocked w block → (s : State) (ts rest : List Token) (a : StmtTree) → Stmt w.says ts rest a → NotWord word.Else rest → Along w ts s →
    Go w rest (stmt_with w.text d block s)
unfolding stmt_with
meet-stmt w d block f i s ts rest a (grammar.set {t = t} {q = q} {c = k} {ts = l} {e = e} p j x z) n c =
    go-case c (stmt-from w.text (words_of w.text s) d block (i (words_of w.text s)) s s.toks (agreeing w.text s))
    (λ sh. go-first s (stmt_of w.text d block) c.end sh p (λ a g. meet-assigned w d (ident_at w.text t.span) a q l rest j (λ b h. meet-set w d (ident_at w.text t.span) b k l rest e x z h) g))
meet-stmt w d block f i s ts rest a (grammar.set_element {t = t} {b = b} {d = k} {q = q} {c = c} {ts = l} {next = y} {i = u} {e = e} p j x v y2 m z) n al =
    go-case al (stmt-from w.text (words_of w.text s) d block (i (words_of w.text s)) s s.toks (agreeing w.text s))
    (λ sh. go-first s (stmt_of w.text d block) al.end sh p (λ a g. meet-element w d (ident_at w.text t.span) a b k q c l y rest u e j x v y2 m z g))
meet-stmt w d block f i s ts rest a (grammar.call {t = t} {q = q} {w = v} {n = n} {b = b} {c = c} {ts = l} {es = es} p j u m x y z) k al =
    go-case al (stmt-from w.text (words_of w.text s) d block (i (words_of w.text s)) s s.toks (agreeing w.text s))
    (λ sh. go-first s (stmt_of w.text d block) al.end sh p
    (λ a g. meet-assigned w d (ident_at w.text t.span) a q (v ∷ n ∷ b ∷ l) rest j (λ b2 h. meet-set-call w d (ident_at w.text t.span) b2 v n b c l rest es u m x y z h) g))
meet-stmt w d block f i s ts rest a (grammar.choice {w = v} {b = b} {c = c} {ts = l} {next = y} {after = u} {e = e} {held = held} {otherwise = o} p j x z h q) n al =
    go-case al (stmt-from w.text (words_of w.text s) d block (i (words_of w.text s)) s s.toks (agreeing w.text s))
    (λ sh. go-first s (stmt_of w.text d block) al.end sh p (λ a g. meet-if w d block f i v.span a b c l y u rest e held o j x z h q n g))
meet-stmt w d block f i s ts rest a (grammar.loop {w = v} {b = b} {c = c} {m = m} {ts = l} {next = y} {after = u} {e = e} {n = n} {body = body} p j x z q k h) r al =
    go-case al (stmt-from w.text (words_of w.text s) d block (i (words_of w.text s)) s s.toks (agreeing w.text s))
    (λ sh. go-first s (stmt_of w.text d block) al.end sh p (λ a g. meet-while w d block f v.span a b c m l y u rest e n body j x z q k h g))
meet-stmt w d block f i s ts rest a (grammar.repeat {w = v} {ts = l} {next = y} {n = n} {body = body} p k h) q al =
    go-case al (stmt-from w.text (words_of w.text s) d block (i (words_of w.text s)) s s.toks (agreeing w.text s))
    (λ sh. go-first s (stmt_of w.text d block) al.end sh p (λ a g. meet-repeat w block f v.span a l y rest n body k h g))

-- a statement takes a token
pub less-reached : (says : Span → Bytes) (toks : List Token) (stop : ℕ) (a : StmtTree) (r : State) → Reached (Stmt says) toks stop a r → length r.toks < length toks
less-reached says toks stop a r h = subst (λ l. length r.toks < length l) (sym h.split) (less-stmt (h.spells r.toks))

meet-stmts : (w : Run) (stmt : Read StmtTree) → ((s : State) (ts rest : List Token) (a : StmtTree) → Stmt w.says ts rest a → NotWord word.Else rest → Along w ts s → Go w rest (stmt s)) → ((says : Span → Bytes) → Reads w.text says (Stmt says) stmt) →
    (s : State) (ts rest : List Token) (b : Block) → Stmts w.says ts rest b → Along w ts s → (n : ℕ) → length s.toks < n → Go w rest (items_at stmt n s)
unfolding items_at
meet-stmts w stmt f i s ts rest b d al zero m = absurd (omega (arith, m))
meet-stmts w stmt f i s ts rest b (grammar.end p) al (suc n) m =
    go-case al (on-items w.text (words_of w.text s) stmt (i (words_of w.text s)) (suc n) s (agreeing w.text s)) (λ sh. go-mark s 125 _ _ al.end sh p (λ a l e. go-done e))
meet-stmts w stmt f i s ts rest b (grammar.next {mid = mid} {b = more} d e) al (suc n) m =
    go-case al (on-items w.text (words_of w.text s) stmt (i (words_of w.text s)) (suc n) s (agreeing w.text s))
    (λ sh. go-no-mark s 125 _ _ sh (starts-brace ts (stmt-starts d))
    (go-then-reached {q = 0} (at (i (words_of w.text s) s (agreeing w.text s))) (f s _ _ _ d (stmts-else e) al)
    (λ x h g. let u = less-reached (words_of w.text s) s.toks s.end x.0 x.1 h in go-then (meet-stmts w stmt f i x.1 mid rest more e g n (omega (arith, u, m))) (λ y g2. go-done g2))))

-- readings of what is in braces
abbrev Inside : Run → ℕ → Type 0
Inside w d = (p : ℕ) (s : State) (ts rest : List Token) (b : Block) → Stmts w.says ts rest b → Along w ts s → Go w rest (braces w.text d p s)

on-block : (text : Bytes) (d : ℕ) (says : Span → Bytes) → Reads text says (Braces says) (block_at text d)
on-block text d says y k = on-map (to-braces says) (on-mark-at text says 123 y (braces text d) k (λ t. can-stmts says) (λ t a l. on-braces text says d t.span.from a l))

meet-block : (w : Run) (d : ℕ) → Inside w d → Blocking w (block_at w.text d)
meet-block w d f s ts rest b (grammar.braces p i) al = go-skip 123 al p (λ a g. f _ a _ _ _ i g)

meet-inside : (w : Run) (d : ℕ) → Inside w d
unfolding braces
meet-inside w zero p s ts rest b e al = record { goes = tt {0} }
meet-inside w (suc d) p s ts rest b e al =
    meet-stmts w (stmt_with w.text d (block_at w.text d)) (meet-stmt w d (block_at w.text d) (meet-block w d (meet-inside w d)) (on-block w.text d))
    (λ says x h. stmt-from w.text says d (block_at w.text d) (on-block w.text d says) x x.toks h) s ts rest b e al (length s.toks + 1) (omega arith)

pub meet-statement : (w : Run) (d : ℕ) (s : State) (ts rest : List Token) (a : StmtTree) → Stmt w.says ts rest a → NotWord word.Else rest → Along w ts s → Go w rest (stmt_at w.text d s)
meet-statement w d = meet-stmt w d (block_at w.text d) (meet-block w d (meet-inside w d)) (on-block w.text d)
