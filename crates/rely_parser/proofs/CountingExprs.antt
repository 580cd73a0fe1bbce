-- Counting along the readers of expressions.
use Rattle.std.proofs.Common.{◌≡◌, ℕ, zero, suc, ◌+◌, ◌-◌, ◌<◌, ◌==◌, Bool, true, false, List, [], ◌∷◌, length, inl, inr, Ok, Err, refl, ap, sym, subst, ◌∙◌, arith, if◌then◌else◌}
use Rattle.std.proofs.lemmas.Bool.{eqb-true}
use Rattle.rely_num.specs.Texts.{Bytes}
use Rattle.rely_num.specs.declared.op.Op.{Op}
use Rattle.rely_num.specs.declared.span.Span.{Span}
use Rattle.rely_lexer.specs.declared.token.Token.{Token}
use Rattle.rely_lexer.specs.declared.token.TokenKind.{TokenKind}
use Rattle.rely_lexer.specs.declared.token.TokenKind.TheVariants as kind
use Rattle.rely_tree.specs.Tree.{IdentTree, NamedTree, FreeTree, PlainTree, ExprTree, NameTree, ElemTree, BinTree}
use Rattle.rely_parser.specs.declared.fault.ParseFault.TheVariants as fault
use Rattle.rely_parser.specs.Counts.{Standing, Counts, IsDeep, IsCrowded, is_body, behind_mark, behind_token, with_token}
use Rattle.rely_parser.specs.State.{State, Reading, Read, behind, place_from, ◌>>=◌, first_at, skip_at, name_at, suffix_at, height, signed, operator_at}
use Rattle.rely_parser.specs.Grammar.{variable_at, prim_of, prim_at, kind_at, more_at, level_at, bracketed, expr_at}
use Rattle.rely_parser.proofs.Sources.{positive}
use Rattle.rely_parser.proofs.Counting.{On, on-done, on-none, on-deep, on-many, on-then, on-choose, on-token, Stands, room}
use Rattle.rely_parser.proofs.CountingTokens.{Keeps, Leads, inside, on-mark-at, on-plain, on-mark, stands-name, on-name}

-- the brackets
pub data Opens : ℕ → Type 0 where
  round : Opens 40
  square : Opens 91
  brace : Opens 123

pub opened : (n j o : ℕ) {m : ℕ} → Opens m → behind_mark m (inside n j o) ≡ inside n j (suc o)
opened n j o round = refl
opened n j o square = refl
opened n j o brace = refl

-- what is behind a bracket is read in one bracket more
abbrev pub Opening : {A : Type 0} → ℕ → ℕ → ℕ → ℕ → ℕ → (ℕ → Read A) → Type 0
Opening stop n j o m inner = (c : Counts) (s : State) (t : Token) (ts : List Token) → t.kind ≡ kind.Mark m → Stands stop (inside n j o) c s → On stop (Keeps stop (inside n j (suc o))) c (t ∷ ts) (inner t.span.from (behind s ts))

-- a bracket beyond the last
pub too-deep : {A : Type 0} {stop : ℕ} {Q : Counts → A × State → Type 0} (n j o m : ℕ) → Opens m → o + 0 ≡ 64 → (c : Counts) (s : State) (t : Token) (ts : List Token) → t.kind ≡ kind.Mark m → Stands stop (inside n j o) c s →
    On stop Q c (t ∷ ts) (Err (fault.Deep t.span.from))
too-deep n j o m b e c s t ts p h =
    let more : (behind_mark m c.at).brackets ≡ suc o = ap (λ a. (behind_mark m a).brackets) h.at ∙ ap (λ a. a.brackets) (opened n j o b) in
    let deep : IsDeep (with_token (kind.Mark m) c) = omega (arith, more, e) in
    on-deep t ts (subst (λ k. IsDeep (with_token k c)) (sym p) deep)

-- a bracket, and what is behind it
pub on-bracket : {A : Type 0} {stop : ℕ} {Q : Counts → A × State → Type 0} (n j o m : ℕ) → Opens m → (d : ℕ) → o + suc d ≡ 64 → (c : Counts) (s : State) (t : Token) (ts : List Token) → t.kind ≡ kind.Mark m → Stands stop (inside n j o) c s →
    {r : Reading (A × State)} → ((e : Counts) → Stands stop (inside n j (suc o)) e (behind s ts) → On stop Q e ts r) → On stop Q c (t ∷ ts) r
on-bracket n j o m b d e c s t ts p h k = on-plain t ts (kind.Mark m) p (λ c. refl) (opened n j o b) (record { brackets = omega (arith, e); functions = h.functions; claims = h.claims }) h k

-- ---- operators

pub on-suffix : (stop n j o : ℕ) (text : Bytes) → Leads stop (inside n j o) (inside n j o) (suffix_at text)
on-suffix stop n j o text c s h =
    on-choose (skip_at 46 s) (λ after. name_at text after >>= λ n. Ok (NamedTree n.0, n.1))
    (on-mark 46 s refl (room h) h (λ d a i. on-then (on-name text refl refl d a i) (λ x e k. on-done _ x.1 k)))
    (on-choose (skip_at 63 s) (λ after. first_at s >>= λ x. Ok (FreeTree x.0.span, after))
    (on-mark-at 63 s (λ l after. first_at (behind s l) >>= λ x. Ok (FreeTree x.0.span, after)) h.end
    (λ t ts p. on-plain t ts (kind.Mark 63) p (λ c. refl) refl (room h) h (λ d i. on-done _ (behind s ts) i)))
    (on-done PlainTree s h))

stands-operator : {stop n j o : ℕ} {c : Counts} {s : State} (p : Op) (ts : List Token) → (s.operators == 0) ≡ false → Stands stop (inside n j o) c s →
    Stands stop (inside n j o) (with_token (kind.Oper p) c) (record { toks = ts; variables = s.variables; operators = s.operators - 1; calls = s.calls; end = s.end })
stands-operator {c = c} {s = s} p ts z h =
    let body : is_body c.at.part ≡ true = ap (λ a. is_body a.part) h.at in
    let some = positive s.operators z in
    let sum : suc c.operators + (s.operators - 1) ≡ 256 = omega (arith, some, h.operators) in
    record {
      at = ap (behind_token (kind.Oper p)) h.at;
      brackets = h.brackets;
      functions = h.functions;
      claims = h.claims;
      variables = h.variables;
      operators = rw body sum;
      calls = h.calls;
      end = h.end;
    }

-- an operator and its kind
on-kind : (stop n j o : ℕ) (text : Bytes) (c : Counts) (s : State) (t : Token) (ts : List Token) (p : Op) → t.kind ≡ kind.Oper p → Stands stop (inside n j o) c s →
    On stop (Keeps stop (inside n j o)) c (t ∷ ts) (kind_at text t.span.from (behind s ts))
unfolding kind_at
on-kind stop n j o text c s t ts p e h = go (s.operators == 0) refl
  where
    left : State
    left = record { toks = ts; variables = s.variables; operators = s.operators - 1; calls = s.calls; end = s.end }

    go : (b : Bool) → (s.operators == 0) ≡ b → On stop (Keeps stop (inside n j o)) c (t ∷ ts) ((if b then Err (fault.Many t.span.from) else Ok left) >>= suffix_at text)
    go true z =
        let body : is_body c.at.part ≡ true = ap (λ a. is_body a.part) h.at in
        let none = eqb-true s.operators 0 z in
        let full : 256 < suc c.operators = omega (arith, none, h.operators) in
        let crowded : IsCrowded (with_token (kind.Oper p) c) = inr (inr (inr (inl (rw body full)))) in
        on-many t ts (subst (λ k. IsCrowded (with_token k c)) (sym e) crowded)
    go false z = on-token t ts (kind.Oper p) e (stands-operator p ts z h) (λ d i. on-suffix stop n j o text d left i)

-- ---- operands

-- what is in brackets
abbrev pub Inner : ℕ → ℕ → ℕ → ℕ → (ℕ → Read ExprTree) → Type 0
Inner stop n j o inner = (m : ℕ) → Opens m → Opening stop n j o m inner

on-variable : (stop n j o : ℕ) (inner : ℕ → Read ExprTree) → Inner stop n j o inner → (name : IdentTree) → Leads stop (inside n j o) (inside n j o) (variable_at inner name)
on-variable stop n j o inner i name c s h =
    on-choose (skip_at 91 s) (λ after. inner (place_from s.end s.toks) after >>= λ i. skip_at 93 i.1 >>= λ end. Ok (ElemTree name i.0, end))
    (on-mark-at 91 s (λ l after. inner (place_from s.end l) after >>= λ i. skip_at 93 i.1 >>= λ end. Ok (ElemTree name i.0, end)) h.end
    (λ t ts p. on-then (i 91 square c s t ts p h) (λ x d k. on-mark 93 x.1 refl (room h) k (λ e a l. on-done _ a l))))
    (on-done (NameTree name) s h)

prim-mark : (stop n j o : ℕ) (inner : ℕ → Read ExprTree) → Inner stop n j o inner → (c : Counts) (s : State) (t : Token) (ts : List Token) → Stands stop (inside n j o) c s → (m : ℕ) → t.kind ≡ kind.Mark m → (b : Bool) → (m == 40) ≡ b →
    On stop (Keeps stop (inside n j o)) c (t ∷ ts) (if b then (inner t.span.from (behind s ts) >>= λ i. skip_at 41 i.1 >>= λ end. Ok (i.0, end)) else Err (fault.Expected t.span.from))
prim-mark stop n j o inner i c s t ts h m e true q =
    on-then (i 40 round c s t ts (e ∙ ap (λ x. kind.Mark x) (eqb-true m 40 q)) h) (λ x d k. on-mark 41 x.1 refl (room h) k (λ e a l. on-done _ a l))
prim-mark stop n j o inner i c s t ts h m e false q = on-none (behind s (t ∷ ts)) h.end

prim-kind : (stop n j o : ℕ) (text : Bytes) (inner : ℕ → Read ExprTree) → Inner stop n j o inner → (c : Counts) (s : State) (t : Token) (ts : List Token) → Stands stop (inside n j o) c s → (k : TokenKind) → t.kind ≡ k →
    On stop (Keeps stop (inside n j o)) c (t ∷ ts) (prim_of text inner (behind s ts) t.span k)
prim-kind stop n j o text inner i c s t ts h (kind.Number x) e = on-plain t ts (kind.Number x) e (λ c. refl) refl (room h) h (λ d k. on-done _ (behind s ts) k)
prim-kind stop n j o text inner i c s t ts h kind.Name e = on-token t ts kind.Name e (stands-name ts refl refl h) (λ d k. on-variable stop n j o inner i _ d (behind s ts) k)
prim-kind stop n j o text inner i c s t ts h (kind.Mark m) e = prim-mark stop n j o inner i c s t ts h m e (m == 40) refl
prim-kind stop n j o text inner i c s t ts h _ e = on-none (behind s (t ∷ ts)) h.end

prim-from : (stop n j o : ℕ) (text : Bytes) (inner : ℕ → Read ExprTree) → Inner stop n j o inner → (c : Counts) (s : State) → Stands stop (inside n j o) c s → (ts : List Token) →
    On stop (Keeps stop (inside n j o)) c ts (prim_at text inner (behind s ts))
unfolding prim_at
prim-from stop n j o text inner i c s h [] = on-none (behind s []) h.end
prim-from stop n j o text inner i c s h (t ∷ ts) = prim-kind stop n j o text inner i c s t ts h t.kind refl

-- ---- levels

abbrev going : Bytes → ℕ → Read ExprTree → ℕ → ExprTree → ((Op × Span) × State) → Reading (ExprTree × State)
going text h next n left o = kind_at text o.0.1.from o.1 >>= λ k. next k.1 >>= λ r. more_at text h next n (BinTree o.0.0 o.0.1 k.0 left r.0) r.1

abbrev Mores : ℕ → Standing → Bytes → ℕ → Read ExprTree → ℕ → Type 0
Mores stop f text h next n = (left : ExprTree) → Leads stop f f (more_at text h next n left)

more-oper : (stop n j o : ℕ) (text : Bytes) (h : ℕ) (next : Read ExprTree) (m : ℕ) → Leads stop (inside n j o) (inside n j o) next → Mores stop (inside n j o) text (suc h) next m → (left : ExprTree) →
    (c : Counts) (s : State) (t : Token) (ts : List Token) → Stands stop (inside n j o) c s → (p : Op) → t.kind ≡ kind.Oper p → (b : Bool) →
    On stop (Keeps stop (inside n j o)) c (t ∷ ts) ((if b then Ok ((p, t.span), behind s ts) else Err (fault.Expected t.span.from)) >>= going text (suc h) next m left)
more-oper stop n j o text h next m i k left c s t ts w p e true =
    on-then (on-kind stop n j o text c s t ts p e w) (λ x d y. on-then (i d x.1 y) (λ r f z. k _ f r.1 z))
more-oper stop n j o text h next m i k left c s t ts w p e false = on-none (behind s (t ∷ ts)) w.end

more-kind : (stop n j o : ℕ) (text : Bytes) (h : ℕ) (next : Read ExprTree) (m : ℕ) → Leads stop (inside n j o) (inside n j o) next → Mores stop (inside n j o) text (suc h) next m → (left : ExprTree) →
    (c : Counts) (s : State) (t : Token) (ts : List Token) → Stands stop (inside n j o) c s → (k : TokenKind) → t.kind ≡ k →
    On stop (Keeps stop (inside n j o)) c (t ∷ ts) (signed (suc h) (behind s ts) t.span k >>= going text (suc h) next m left)
more-kind stop n j o text h next m i k left c s t ts w (kind.Oper p) e = more-oper stop n j o text h next m i k left c s t ts w p e (height p == suc h)
more-kind stop n j o text h next m i k left c s t ts w _ e = on-none (behind s (t ∷ ts)) w.end

more-from : (stop n j o : ℕ) (text : Bytes) (h : ℕ) (next : Read ExprTree) (m : ℕ) → Leads stop (inside n j o) (inside n j o) next → Mores stop (inside n j o) text (suc h) next m → (left : ExprTree) →
    (c : Counts) (s : State) → Stands stop (inside n j o) c s → (ts : List Token) → On stop (Keeps stop (inside n j o)) c ts (operator_at (suc h) (behind s ts) >>= going text (suc h) next m left)
more-from stop n j o text h next m i k left c s w [] = on-none (behind s []) w.end
more-from stop n j o text h next m i k left c s w (t ∷ ts) = more-kind stop n j o text h next m i k left c s t ts w t.kind refl

on-more : (stop n j o : ℕ) (text : Bytes) (h : ℕ) (next : Read ExprTree) → Leads stop (inside n j o) (inside n j o) next → (m : ℕ) → Mores stop (inside n j o) text (suc h) next m
unfolding more_at
on-more stop n j o text h next i zero left c s w = on-done left s w
on-more stop n j o text h next i (suc m) left c s w =
    on-choose (operator_at (suc h) s) (going text (suc h) next m left) (more-from stop n j o text h next m i (on-more stop n j o text h next i m) left c s w s.toks) (on-done left s w)

pub on-level : (stop n j o : ℕ) (text : Bytes) (inner : ℕ → Read ExprTree) → Inner stop n j o inner → (h : ℕ) → Leads stop (inside n j o) (inside n j o) (level_at text inner h)
unfolding level_at
on-level stop n j o text inner i zero c s w = prim-from stop n j o text inner i c s w s.toks
on-level stop n j o text inner i (suc h) c s w =
    on-then (on-level stop n j o text inner i h c s w) (λ x d k. on-more stop n j o text h (level_at text inner h) (on-level stop n j o text inner i h) (length x.1.toks) x.0 d x.1 k)

pub on-bracketed : (stop n j : ℕ) (text : Bytes) (d o : ℕ) → o + d ≡ 64 → Inner stop n j o (bracketed text d)
unfolding bracketed
on-bracketed stop n j text zero o e m b c s t ts p h = too-deep n j o m b e c s t ts p h
on-bracketed stop n j text (suc d) o e m b c s t ts p h =
    on-bracket n j o m b d e c s t ts p h (λ f k. on-level stop n j (suc o) text (bracketed text d) (on-bracketed stop n j text d (suc o) (omega (arith, e))) 7 f (behind s ts) k)

pub on-expr : (stop n j : ℕ) (text : Bytes) (d o : ℕ) → o + d ≡ 64 → Leads stop (inside n j o) (inside n j o) (expr_at text d)
on-expr stop n j text d o e c s h = on-level stop n j o text (bracketed text d) (on-bracketed stop n j text d o e) 7 c s h
