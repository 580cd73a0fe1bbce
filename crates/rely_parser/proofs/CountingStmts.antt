-- Counting along the readers of lists and of statements.
use Rattle.std.proofs.Common.{◌≡◌, ℕ, zero, suc, ◌+◌, ◌-◌, ◌==◌, nat_lt, Bool, true, false, List, [], ◌∷◌, length, inr, Ok, Err, refl, ap, sym, subst, arith, if◌then◌else◌}
use Rattle.std.proofs.lemmas.Bool.{eqb-true}
use Rattle.rely_num.specs.Texts.{Bytes}
use Rattle.rely_num.specs.declared.span.Span.{Span}
use Rattle.rely_lexer.specs.declared.token.Token.{Token}
use Rattle.rely_lexer.specs.declared.token.TokenKind.{TokenKind}
use Rattle.rely_lexer.specs.declared.token.TokenKind.TheVariants as kind
use Rattle.rely_num.specs.declared.word.Word.{Word}
use Rattle.rely_num.specs.declared.word.Word.TheVariants as word
use Rattle.rely_tree.specs.Tree.{IdentTree, StmtTree, SetElemTree, CallTree, Block, ended}
use Rattle.rely_parser.specs.declared.fault.ParseFault.TheVariants as fault
use Rattle.rely_parser.specs.Counts.{Standing, Counts, IsCrowded, behind_mark, behind_word, with_token}
use Rattle.rely_parser.specs.State.{State, Reading, Read, behind, place, place_from, ◌>>=◌, first_at, skip_at, name_at, skip_word_at, numbered, count_at}
use Rattle.rely_parser.specs.Grammar.{bracketed, expr_at}
use Rattle.rely_parser.specs.Statements.{more_of, list_of, args_at, call_at, set_at, assignment_at, condition_at, items_at, otherwise_at, if_at, while_at, repeat_at, word_stmt, stmt_of, stmt_with, braces, block_at, stmt_at}
use Rattle.rely_parser.proofs.Sources.{positive}
use Rattle.rely_parser.proofs.Counting.{On, on-done, on-none, on-many, on-then, on-choose, on-token, Stands, HasRoom, room}
use Rattle.rely_parser.proofs.CountingTokens.{Keeps, Leads, inside, on-mark-at, on-word-at, on-plain, on-mark, on-word, stands-name, on-name}
use Rattle.rely_parser.proofs.CountingExprs.{round, square, brace, too-deep, on-bracket, on-bracketed, on-expr}

-- ---- lists

-- items stand between f and g, and the list ends at e
pub record Lists {A : Type 0} (stop : ℕ) (f g e : Standing) (item : Read A) : Type 0 where
  pub each : Leads stop f g item
  pub comma : behind_mark 44 g ≡ f
  pub close : behind_mark 41 g ≡ e
  pub empty : behind_mark 41 f ≡ e
  pub before : HasRoom f
  pub after : HasRoom e

on-more_of : {A : Type 0} (stop : ℕ) (f g e : Standing) (item : Read A) → Lists stop f g e item → (m : ℕ) → Leads stop g e (more_of item m)
unfolding more_of
on-more_of stop f g e item l zero c s h = on-none s h.end
on-more_of stop f g e item l (suc m) c s h =
    on-choose (skip_at 44 s) (λ after. item after >>= λ x. more_of item m x.1 >>= λ y. Ok (x.0 ∷ y.0, y.1))
    (on-mark 44 s l.comma l.before h (λ d a k. on-then (l.each d a k) (λ x i y. on-then (on-more_of stop f g e item l m i x.1 y) (λ z j w. on-done _ z.1 w))))
    (on-mark 41 s l.close l.after h (λ d a k. on-done _ a k))

pub on-list : {A : Type 0} (stop : ℕ) (f g e : Standing) (item : Read A) → Lists stop f g e item → Leads stop f e (list_of item)
unfolding list_of
on-list stop f g e item l c s h =
    on-choose (skip_at 41 s) (λ end. Ok ([], end))
    (on-mark 41 s l.empty l.after h (λ d a k. on-done _ a k))
    (on-then (l.each c s h) (λ x d y. on-then (on-more_of stop f g e item l (length x.1.toks + 1) d x.1 y) (λ z i w. on-done _ z.1 w)))

-- ---- statements without blocks

-- arguments behind their bracket, up to behind the closing one
on-args : (stop n j : ℕ) (text : Bytes) (d o : ℕ) → o + d ≡ 64 → (c : Counts) (s : State) (t : Token) (ts : List Token) → t.kind ≡ kind.Mark 40 → Stands stop (inside n j o) c s →
    On stop (Keeps stop (inside n j o)) c (t ∷ ts) (args_at text d t.span.from (behind s ts))
unfolding args_at
on-args stop n j text zero o e c s t ts p h = too-deep n j o 40 round e c s t ts p h
on-args stop n j text (suc d) o e c s t ts p h =
    on-bracket n j o 40 round d e c s t ts p h
    (λ f k. on-list stop (inside n j (suc o)) (inside n j (suc o)) (inside n j o) (expr_at text d)
    (record { each = on-expr stop n j text d (suc o) (omega (arith, e)); comma = refl; close = refl; empty = refl; before = room k; after = room h }) f (behind s ts) k)

stands-call : {stop n j o : ℕ} {c : Counts} {s : State} (ts : List Token) → (s.calls == 0) ≡ false → Stands stop (inside n j o) c s →
    Stands stop (inside n j o) (with_token (kind.Word word.Call) c) (record { toks = ts; variables = s.variables; operators = s.operators; calls = s.calls - 1; end = s.end })
stands-call {c = c} {s = s} ts z h =
    let some = positive s.calls z in
    record {
      at = ap (behind_word word.Call) h.at;
      brackets = h.brackets;
      functions = h.functions;
      claims = h.claims;
      variables = h.variables;
      operators = h.operators;
      calls = omega (arith, some, h.calls);
      end = h.end;
    }

abbrev calling : Bytes → ℕ → IdentTree → Span → State → Reading (StmtTree × State)
calling text d target w a = name_at text a >>= λ callee. skip_at 40 callee.1 >>= λ b. args_at text d (place callee.1) b >>= λ x. skip_at 59 x.1 >>= λ end. Ok (CallTree target.span target w callee.0 x.0, end)

on-calling : (stop n j : ℕ) (text : Bytes) (d o : ℕ) → o + d ≡ 64 → (target : IdentTree) (w : Span) → Leads stop (inside n j o) (inside n j o) (calling text d target w)
on-calling stop n j text d o e target w c s h =
    on-then (on-name text refl refl c s h)
    (λ x i k. on-mark-at 40 x.1 (λ l b. args_at text d (place_from x.1.end l) b >>= λ y. skip_at 59 y.1 >>= λ end. Ok (CallTree target.span target w x.0 y.0, end)) k.end
    (λ t ts p. on-then (on-args stop n j text d o e i x.1 t ts p k) (λ y f z. on-mark 59 y.1 refl (room z) z (λ g a u. on-done _ a u))))

-- a call behind its word
on-call : (stop n j : ℕ) (text : Bytes) (d o : ℕ) → o + d ≡ 64 → (target : IdentTree) (c : Counts) (s : State) (t : Token) (ts : List Token) → t.kind ≡ kind.Word word.Call → Stands stop (inside n j o) c s →
    On stop (Keeps stop (inside n j o)) c (t ∷ ts) (call_at text d target t.span (behind s ts))
unfolding call_at
on-call stop n j text d o e target c s t ts p h = go (s.calls == 0) refl
  where
    left : State
    left = record { toks = ts; variables = s.variables; operators = s.operators; calls = s.calls - 1; end = s.end }

    go : (b : Bool) → (s.calls == 0) ≡ b → On stop (Keeps stop (inside n j o)) c (t ∷ ts) ((if b then Err (fault.Many t.span.from) else Ok left) >>= calling text d target t.span)
    go true z =
        let none = eqb-true s.calls 0 z in
        let crowded : IsCrowded (with_token (kind.Word word.Call) c) = inr (inr (inr (inr (omega (arith, none, h.calls))))) in
        on-many t ts (subst (λ k. IsCrowded (with_token k c)) (sym p) crowded)
    go false z = on-token t ts (kind.Word word.Call) p (stands-call ts z h) (λ f i. on-calling stop n j text d o e target t.span f left i)

on-set : (stop n j : ℕ) (text : Bytes) (d o : ℕ) → o + d ≡ 64 → (target : IdentTree) → Leads stop (inside n j o) (inside n j o) (set_at text d target)
unfolding set_at
on-set stop n j text d o e target c s h =
    on-choose (skip_word_at word.Call s) (λ a. first_at s >>= λ x. call_at text d target x.0.span a)
    (on-word-at word.Call s (λ l a. first_at (behind s l) >>= λ x. call_at text d target x.0.span a) h.end (λ t ts p. on-call stop n j text d o e target c s t ts p h))
    (on-then (on-expr stop n j text d o e c s h) (λ x f k. on-mark 59 x.1 refl (room k) k (λ g a u. on-done _ a u)))

on-assignment : (stop n j : ℕ) (text : Bytes) (d o : ℕ) → o + d ≡ 64 → (target : IdentTree) → Leads stop (inside n j o) (inside n j o) (assignment_at text d target)
unfolding assignment_at
on-assignment stop n j text d o e target c s h =
    on-choose (skip_at 61 s) (set_at text d target)
    (on-mark 61 s refl (room h) h (λ f a k. on-set stop n j text d o e target f a k))
    (on-mark-at 91 s
    (λ l a. bracketed text d (place_from s.end l) a >>= λ i. skip_at 93 i.1 >>= λ b. skip_at 61 b >>= λ c. expr_at text d c >>= λ x. skip_at 59 x.1 >>= λ end. Ok (SetElemTree target.span target i.0 x.0, end)) h.end
    (λ t ts p. on-then (on-bracketed stop n j text d o e 91 square c s t ts p h)
    (λ i f k. on-mark 93 i.1 refl (room h) k (λ f2 b k2. on-mark 61 b refl (room k2) k2
    (λ f3 b3 k3. on-then (on-expr stop n j text d o e f3 b3 k3) (λ x f4 k4. on-mark 59 x.1 refl (room k4) k4 (λ f5 b5 k5. on-done _ b5 k5)))))))

on-condition : (stop n j : ℕ) (text : Bytes) (d o : ℕ) → o + d ≡ 64 → Leads stop (inside n j o) (inside n j o) (condition_at text d)
unfolding condition_at
on-condition stop n j text d o e c s h =
    on-mark-at 40 s (λ l a. bracketed text d (place_from s.end l) a >>= λ x. skip_at 41 x.1 >>= λ end. Ok (x.0, end)) h.end
    (λ t ts p. on-then (on-bracketed stop n j text d o e 40 round c s t ts p h) (λ x f k. on-mark 41 x.1 refl (room h) k (λ g a u. on-done _ a u)))

-- ---- statements with blocks

count-kind : {stop n j o : ℕ} {c : Counts} (s : State) (t : Token) (ts : List Token) → Stands stop (inside n j o) c s → (k : TokenKind) → t.kind ≡ k →
    On stop (Keeps stop (inside n j o)) c (t ∷ ts) (numbered (behind s ts) t.span k >>= λ x. if nat_lt 4294967295 x.0 then Err (fault.Expected t.span.from) else Ok (x.0, x.1))
count-kind {stop = stop} {n = n} {j = j} {o = o} {c = c} s t ts h (kind.Number m) e = go (nat_lt 4294967295 m)
  where
    go : (b : Bool) → On stop (Keeps stop (inside n j o)) c (t ∷ ts) (if b then Err (fault.Expected t.span.from) else Ok (m, behind s ts))
    go true = on-none (behind s (t ∷ ts)) h.end
    go false = on-plain t ts (kind.Number m) e (λ c. refl) refl (room h) h (λ d k. on-done m (behind s ts) k)
count-kind s t ts h _ e = on-none (behind s (t ∷ ts)) h.end

count-from : {stop n j o : ℕ} {c : Counts} (s : State) → Stands stop (inside n j o) c s → (ts : List Token) → On stop (Keeps stop (inside n j o)) c ts (count_at (behind s ts))
count-from s h [] = on-none (behind s []) h.end
count-from s h (t ∷ ts) = count-kind s t ts h t.kind refl

on-count : {stop n j o : ℕ} → Leads stop (inside n j o) (inside n j o) count_at
on-count c s h = count-from s h s.toks

on-otherwise : (stop : ℕ) (n j o : ℕ) (block : Read Block) → Leads stop (inside n j o) (inside n j o) block → Leads stop (inside n j o) (inside n j o) (otherwise_at block)
unfolding otherwise_at
on-otherwise stop n j o block i c s h =
    on-choose (skip_word_at word.Else s) block (on-word word.Else s (λ c. refl) refl (room h) h (λ d a k. i d a k)) (on-done ended s h)

on-if : (stop n j : ℕ) (text : Bytes) (d o : ℕ) → o + d ≡ 64 → (block : Read Block) → Leads stop (inside n j o) (inside n j o) block → (span : Span) → Leads stop (inside n j o) (inside n j o) (if_at text d block span)
unfolding if_at
on-if stop n j text d o e block i span c s h =
    on-then (on-condition stop n j text d o e c s h) (λ x f k. on-then (i f x.1 k) (λ y g u. on-then (on-otherwise stop n j o block i g y.1 u) (λ z p v. on-done _ z.1 v)))

on-while : (stop n j : ℕ) (text : Bytes) (d o : ℕ) → o + d ≡ 64 → (block : Read Block) → Leads stop (inside n j o) (inside n j o) block → (span : Span) → Leads stop (inside n j o) (inside n j o) (while_at text d block span)
unfolding while_at
on-while stop n j text d o e block i span c s h =
    on-then (on-condition stop n j text d o e c s h) (λ x f k. on-word word.Max x.1 (λ c. refl) refl (room k) k (λ g a u. on-then (on-count g a u) (λ y p v. on-then (i p y.1 v) (λ z q w. on-done _ z.1 w))))

on-repeat : (stop n j o : ℕ) (block : Read Block) → Leads stop (inside n j o) (inside n j o) block → (span : Span) → Leads stop (inside n j o) (inside n j o) (repeat_at block span)
unfolding repeat_at
on-repeat stop n j o block i span c s h = on-then (on-count c s h) (λ y p v. on-then (i p y.1 v) (λ z q w. on-done _ z.1 w))

stmt-word : (stop n j : ℕ) (text : Bytes) (d o : ℕ) → o + d ≡ 64 → (block : Read Block) → Leads stop (inside n j o) (inside n j o) block → (c : Counts) (s : State) (t : Token) (ts : List Token) → Stands stop (inside n j o) c s →
    (w : Word) → t.kind ≡ kind.Word w → On stop (Keeps stop (inside n j o)) c (t ∷ ts) (word_stmt text d block (behind s ts) t.span w)
stmt-word stop n j text d o e block i c s t ts h word.If p = on-plain t ts (kind.Word word.If) p (λ c. refl) refl (room h) h (λ f k. on-if stop n j text d o e block i t.span f (behind s ts) k)
stmt-word stop n j text d o e block i c s t ts h word.While p = on-plain t ts (kind.Word word.While) p (λ c. refl) refl (room h) h (λ f k. on-while stop n j text d o e block i t.span f (behind s ts) k)
stmt-word stop n j text d o e block i c s t ts h word.Repeat p = on-plain t ts (kind.Word word.Repeat) p (λ c. refl) refl (room h) h (λ f k. on-repeat stop n j o block i t.span f (behind s ts) k)
stmt-word stop n j text d o e block i c s t ts h _ p = on-none (behind s (t ∷ ts)) h.end

stmt-kind : (stop n j : ℕ) (text : Bytes) (d o : ℕ) → o + d ≡ 64 → (block : Read Block) → Leads stop (inside n j o) (inside n j o) block → (c : Counts) (s : State) (t : Token) (ts : List Token) → Stands stop (inside n j o) c s →
    (k : TokenKind) → t.kind ≡ k → On stop (Keeps stop (inside n j o)) c (t ∷ ts) (stmt_of text d block (behind s ts) t.span k)
stmt-kind stop n j text d o e block i c s t ts h kind.Name p = on-token t ts kind.Name p (stands-name ts refl refl h) (λ f k. on-assignment stop n j text d o e _ f (behind s ts) k)
stmt-kind stop n j text d o e block i c s t ts h (kind.Word w) p = stmt-word stop n j text d o e block i c s t ts h w p
stmt-kind stop n j text d o e block i c s t ts h _ p = on-none (behind s (t ∷ ts)) h.end

stmt-from : (stop n j : ℕ) (text : Bytes) (d o : ℕ) → o + d ≡ 64 → (block : Read Block) → Leads stop (inside n j o) (inside n j o) block → (c : Counts) (s : State) → Stands stop (inside n j o) c s → (ts : List Token) →
    On stop (Keeps stop (inside n j o)) c ts (stmt_with text d block (behind s ts))
unfolding stmt_with
stmt-from stop n j text d o e block i c s h [] = on-none (behind s []) h.end
stmt-from stop n j text d o e block i c s h (t ∷ ts) = stmt-kind stop n j text d o e block i c s t ts h t.kind refl

-- statements in a brace, up to behind the closing one
on-items : (stop n j o : ℕ) (stmt : Read StmtTree) → Leads stop (inside n j (suc o)) (inside n j (suc o)) stmt → HasRoom (inside n j o) → (m : ℕ) → Leads stop (inside n j (suc o)) (inside n j o) (items_at stmt m)
unfolding items_at
on-items stop n j o stmt i r zero c s h = on-none s h.end
on-items stop n j o stmt i r (suc m) c s h =
    on-choose (skip_at 125 s) (λ end. Ok (ended, end))
    (on-mark 125 s refl r h (λ d a k. on-done _ a k))
    (on-then (i c s h) (λ x d k. on-then (on-items stop n j o stmt i r m d x.1 k) (λ y f u. on-done _ y.1 u)))

abbrev Bracing : ℕ → ℕ → ℕ → Bytes → ℕ → ℕ → Type 0
Bracing stop n j text d o =
    (c : Counts) (s : State) (t : Token) (ts : List Token) → t.kind ≡ kind.Mark 123 → Stands stop (inside n j o) c s → On stop (Keeps stop (inside n j o)) c (t ∷ ts) (braces text d t.span.from (behind s ts))

block-of : (stop n j : ℕ) (text : Bytes) (d o : ℕ) → Bracing stop n j text d o → Leads stop (inside n j o) (inside n j o) (block_at text d)
block-of stop n j text d o i c s h = on-mark-at 123 s (λ l a. braces text d (place_from s.end l) a) h.end (λ t ts p. i c s t ts p h)

on-braces : (stop n j : ℕ) (text : Bytes) (d o : ℕ) → o + d ≡ 64 → Bracing stop n j text d o
unfolding braces
on-braces stop n j text zero o e c s t ts p h = too-deep n j o 123 brace e c s t ts p h
on-braces stop n j text (suc d) o e c s t ts p h =
    on-bracket n j o 123 brace d e c s t ts p h
    (λ f k. on-items stop n j o (stmt_with text d (block_at text d))
    (λ g a u. stmt-from stop n j text d (suc o) (omega (arith, e)) (block_at text d) (block-of stop n j text d (suc o) (on-braces stop n j text d (suc o) (omega (arith, e)))) g a u a.toks)
    (room h) (length ts + 1) f (behind s ts) k)

pub on-stmt : (stop n j : ℕ) (text : Bytes) (d o : ℕ) → o + d ≡ 64 → Leads stop (inside n j o) (inside n j o) (stmt_at text d)
on-stmt stop n j text d o e c s h = stmt-from stop n j text d o e (block_at text d) (block-of stop n j text d o (on-braces stop n j text d o e)) c s h s.toks
