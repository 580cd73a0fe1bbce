-- Counting along the readers of declarations, of claims, of functions and of sources.
use Rattle.std.proofs.Common.{◌≡◌, ℕ, zero, suc, ◌+◌, ◌-◌, ◌≤◌, ◌<◌, ◌==◌, ◌||◌, nat_lt, Bool, true, false, List, [], ◌∷◌, ◌++◌, length, Option, Some, None, Result, inl, inr, Ok, Err, IsTrue, refl, ap, sym, subst, ◌∙◌, arith, if◌then◌else◌}
use Rattle.std.proofs.lemmas.Bool.{eqb-true, true≢false}
use Rattle.std.proofs.lemmas.List.{length-append}
use Rattle.rely_num.specs.Texts.{Bytes}
use Rattle.rely_num.specs.AttoTexts.{atto_of}
use Rattle.rely_num.specs.declared.atto.NumFault.{NumFault}
use Rattle.rely_num.specs.declared.op.Op.TheVariants as op
use Rattle.rely_num.specs.declared.span.Span.{Span}
use Rattle.rely_lexer.specs.declared.token.Token.{Token}
use Rattle.rely_lexer.specs.declared.token.TokenKind.{TokenKind}
use Rattle.rely_lexer.specs.declared.token.TokenKind.TheVariants as kind
use Rattle.rely_num.specs.declared.word.Word.TheVariants as word
use Rattle.rely_tree.specs.Tree.{FreeTree, IdentTree, also, ended, DeclTree, SaidTree, FuncTree, UnitTree}
use Rattle.rely_parser.specs.declared.fault.ParseFault.TheVariants as fault
use Rattle.rely_parser.specs.Counts.{Head, Body, Standing, Counts, nothing, IsCrowded, IsDeep, AllWithin, behind_mark, behind_word, behind_token, with_token, with_tokens}
use Rattle.rely_parser.specs.State.{State, Reading, behind, end_of, place_from, ◌>>=◌, first_at, skip_at, named, name_at, numbered, worded, skip_word_at, word_at}
use Rattle.rely_parser.specs.Statements.{list_of}
use Rattle.rely_parser.specs.Declarations.{one_variable, length_at, array_at, chosen, choice_at, memory_at, decl_at}
use Rattle.rely_parser.specs.Units.{is_amount, written, bound_at, skip_sign_at, target_at, behind_bound_at, claim_at, each_behind, some_behind, claims_at, local_at, locals_at, last_at, body_of, fresh, function_at, functions_at, whole, unit_of}
use Rattle.rely_parser.proofs.Sources.{positive, bind-assoc}
use Rattle.rely_parser.proofs.Marks.{worded-tests}
use Rattle.rely_parser.proofs.Counting.{moved, On, Counted, Paused, Passed, on-done, on-none, on-many, on-then, on-choose, on-same, on-token, Stands, HasRoom, room}
use Rattle.rely_parser.proofs.CountingTokens.{tested, Keeps, Leads, inside, claiming, heading, on-word-at, on-plain, on-mark, on-word, on-sign, stands-name, on-name}
use Rattle.rely_parser.proofs.CountingExprs.{on-expr}
use Rattle.rely_parser.proofs.CountingStmts.{on-list, on-stmt}

-- ---- declarations

-- a declaration stands at f, behind its name at g, and in the brackets of its length at b
pub record Declares (f g b : Standing) : Type 0 where
  pub naming : f.naming ≡ true
  pub name : behind_token kind.Name f ≡ g
  pub quiet : g.naming ≡ false
  pub same : behind_token kind.Name g ≡ g
  pub bracket : behind_mark 91 g ≡ b
  pub number : (n : ℕ) → behind_token (kind.Number n) b ≡ b
  pub close : behind_mark 93 b ≡ g
  pub memory : behind_word word.In g ≡ g
  pub free : behind_mark 63 g ≡ g
  pub inner : HasRoom b
  pub outer : HasRoom g

on-length-kind : {stop : ℕ} {b : Standing} {c : Counts} (s : State) (t : Token) (ts : List Token) → ((n : ℕ) → behind_token (kind.Number n) b ≡ b) → Stands stop b c s → (k : TokenKind) → t.kind ≡ k →
    On stop (Keeps stop b) c (t ∷ ts) (numbered (behind s ts) t.span k >>= λ x. if x.0 == 0 || nat_lt 4096 x.0 then Err (fault.Expected t.span.from) else Ok (x.0, x.1))
on-length-kind {stop = stop} {b = b} {c = c} s t ts i h (kind.Number n) e = go (n == 0 || nat_lt 4096 n)
  where
    go : (x : Bool) → On stop (Keeps stop b) c (t ∷ ts) (if x then Err (fault.Expected t.span.from) else Ok (n, behind s ts))
    go true = on-none (behind s (t ∷ ts)) h.end
    go false = on-plain t ts (kind.Number n) e (λ c. refl) (i n) (room h) h (λ d k. on-done n (behind s ts) k)
on-length-kind s t ts i h _ e = on-none (behind s (t ∷ ts)) h.end

on-length-from : {stop : ℕ} {b : Standing} {c : Counts} (s : State) → ((n : ℕ) → behind_token (kind.Number n) b ≡ b) → Stands stop b c s → (ts : List Token) → On stop (Keeps stop b) c ts (length_at (behind s ts))
on-length-from s i h [] = on-none (behind s []) h.end
on-length-from s i h (t ∷ ts) = on-length-kind s t ts i h t.kind refl

on-array : (stop : ℕ) (f g b : Standing) → Declares f g b → Leads stop g g array_at
on-array stop f g b i c s h =
    on-choose (skip_at 91 s) (λ a. length_at a >>= λ n. skip_at 93 n.1 >>= λ end. Ok (Some n.0, end))
    (on-mark 91 s i.bracket i.inner h (λ d a k. on-then (on-length-from a i.number k a.toks) (λ x e y. on-mark 93 x.1 i.close i.outer y (λ u v w. on-done _ v w))))
    (on-done None s h)

choice-mark : {stop : ℕ} {g : Standing} {c : Counts} (text : Bytes) (s : State) (t : Token) (ts : List Token) → behind_mark 63 g ≡ g → Stands stop g c s → (m : ℕ) → t.kind ≡ kind.Mark m → (b : Bool) → (m == 63) ≡ b →
    On stop (Keeps stop g) c (t ∷ ts) (if b then Ok (FreeTree t.span, behind s ts) else Err (fault.Expected t.span.from))
choice-mark text s t ts i h m e true q = on-plain t ts (kind.Mark 63) (e ∙ ap (λ x. kind.Mark x) (eqb-true m 63 q)) (λ c. refl) i (room h) h (λ d k. on-done _ (behind s ts) k)
choice-mark text s t ts i h m e false q = on-none (behind s (t ∷ ts)) h.end

choice-kind : {stop : ℕ} {f g b : Standing} {c : Counts} (text : Bytes) (s : State) (t : Token) (ts : List Token) → Declares f g b → Stands stop g c s → (k : TokenKind) → t.kind ≡ k →
    On stop (Keeps stop g) c (t ∷ ts) (chosen text (behind s ts) t.span k)
choice-kind text s t ts i h kind.Name e = on-token t ts kind.Name e (stands-name ts i.quiet i.same h) (λ d k. on-done _ (behind s ts) k)
choice-kind text s t ts i h (kind.Mark m) e = choice-mark text s t ts i.free h m e (m == 63) refl
choice-kind text s t ts i h _ e = on-none (behind s (t ∷ ts)) h.end

choice-from : {stop : ℕ} {f g b : Standing} {c : Counts} (text : Bytes) (s : State) → Declares f g b → Stands stop g c s → (ts : List Token) → On stop (Keeps stop g) c ts (choice_at text (behind s ts))
choice-from text s i h [] = on-none (behind s []) h.end
choice-from text s i h (t ∷ ts) = choice-kind text s t ts i h t.kind refl

on-memory : (stop : ℕ) (f g b : Standing) (text : Bytes) → Declares f g b → Leads stop g g (memory_at text)
on-memory stop f g b text i c s h =
    on-choose (skip_word_at word.In s) (choice_at text)
    (on-word word.In s (λ c. refl) i.memory i.outer h (λ d a k. choice-from text a i k a.toks))
    (on-done _ s h)

stands-variable : {stop : ℕ} {f g b : Standing} {c : Counts} {s : State} (ts : List Token) → (s.variables == 0) ≡ false → Declares f g b → Stands stop f c s →
    Stands stop g (with_token kind.Name c) (record { toks = ts; variables = s.variables - 1; operators = s.operators; calls = s.calls; end = s.end })
stands-variable {c = c} {s = s} ts z i h =
    let naming : c.at.naming ≡ true = ap (λ a. a.naming) h.at ∙ i.naming in
    let some = positive s.variables z in
    let sum : suc c.variables + (s.variables - 1) ≡ 63 = omega (arith, some, h.variables) in
    record {
      at = ap (behind_token kind.Name) h.at ∙ i.name;
      brackets = i.outer.brackets;
      functions = i.outer.functions;
      claims = i.outer.claims;
      variables = rw naming sum;
      operators = h.operators;
      calls = h.calls;
      end = h.end;
    }

-- behind a variable's name
abbrev declaring : Bytes → IdentTree → State → Reading (DeclTree × State)
declaring text n a = array_at a >>= λ l. memory_at text l.1 >>= λ m. Ok (record { name = n; length = l.0; memory = m.0 }, m.1)

on-declaring : (stop : ℕ) (f g b : Standing) (text : Bytes) (n : IdentTree) → Declares f g b → Leads stop g g (declaring text n)
on-declaring stop f g b text n i c s h = on-then (on-array stop f g b i c s h) (λ l d k. on-then (on-memory stop f g b text i d l.1 k) (λ m e u. on-done _ m.1 u))

-- a variable's name is counted
on-variable : (stop : ℕ) (f g b : Standing) (text : Bytes) → Declares f g b → (c : Counts) (s : State) (t : Token) (ts : List Token) → t.kind ≡ kind.Name → Stands stop f c s → (n : IdentTree) →
    On stop (Keeps stop g) c (t ∷ ts) (one_variable t.span.from (behind s ts) >>= declaring text n)
on-variable stop f g b text i c s t ts p h n = go (s.variables == 0) refl
  where
    left : State
    left = record { toks = ts; variables = s.variables - 1; operators = s.operators; calls = s.calls; end = s.end }

    go : (x : Bool) → (s.variables == 0) ≡ x → On stop (Keeps stop g) c (t ∷ ts) ((if x then Err (fault.Many t.span.from) else Ok left) >>= declaring text n)
    go true z =
        let naming : c.at.naming ≡ true = ap (λ a. a.naming) h.at ∙ i.naming in
        let none = eqb-true s.variables 0 z in
        let full : 63 < suc c.variables = omega (arith, none, h.variables) in
        let crowded : IsCrowded (with_token kind.Name c) = inr (inr (inl (rw naming full))) in
        on-many t ts (subst (λ k. IsCrowded (with_token k c)) (sym p) crowded)
    go false z = on-token t ts kind.Name p (stands-variable ts z i h) (λ d k. on-declaring stop f g b text n i d left k)

decl-kind : (stop : ℕ) (f g b : Standing) (text : Bytes) → Declares f g b → (c : Counts) (s : State) (t : Token) (ts : List Token) → Stands stop f c s → (k : TokenKind) → t.kind ≡ k →
    On stop (Keeps stop g) c (t ∷ ts) (named text (behind s ts) t.span k >>= λ n. one_variable n.0.span.from n.1 >>= declaring text n.0)
decl-kind stop f g b text i c s t ts h kind.Name e = on-variable stop f g b text i c s t ts e h _
decl-kind stop f g b text i c s t ts h _ e = on-none (behind s (t ∷ ts)) h.end

decl-from : (stop : ℕ) (f g b : Standing) (text : Bytes) → Declares f g b → (c : Counts) (s : State) → Stands stop f c s → (ts : List Token) → On stop (Keeps stop g) c ts (decl_at text (behind s ts))
unfolding decl_at
decl-from stop f g b text i c s h [] = on-none (behind s []) h.end
decl-from stop f g b text i c s h (t ∷ ts) = decl-kind stop f g b text i c s t ts h t.kind refl

on-decl : (stop : ℕ) (f g b : Standing) (text : Bytes) → Declares f g b → Leads stop f g (decl_at text)
on-decl stop f g b text i c s h = decl-from stop f g b text i c s h s.toks

-- a parameter, and a local variable behind its word
parameter : (n : ℕ) → n ≤ 64 → Declares (heading n 1 true) (heading n 1 false) (heading n 2 false)
parameter n l = record {
  naming = refl;
  name = refl;
  quiet = refl;
  same = refl;
  bracket = refl;
  number = λ m. refl;
  close = refl;
  memory = refl;
  free = refl;
  inner = record { brackets = omega arith; functions = l; claims = omega arith };
  outer = record { brackets = omega arith; functions = l; claims = omega arith };
}

-- behind the word var
abbrev declared : ℕ → ℕ → Standing
declared n j = record { brackets = 1; functions = n; claims = j; part = Body; naming = true }

variable : (n j : ℕ) → n ≤ 64 → j ≤ 8 → Declares (declared n j) (inside n j 1) (inside n j 2)
variable n j l m = record {
  naming = refl;
  name = refl;
  quiet = refl;
  same = refl;
  bracket = refl;
  number = λ m. refl;
  close = refl;
  memory = refl;
  free = refl;
  inner = record { brackets = omega arith; functions = l; claims = m };
  outer = record { brackets = omega arith; functions = l; claims = m };
}

on-local : (stop n j : ℕ) (text : Bytes) → n ≤ 64 → j ≤ 8 → Leads stop (declared n j) (inside n j 1) (local_at text)
unfolding local_at
on-local stop n j text l m c s h = on-then (on-decl stop (declared n j) (inside n j 1) (inside n j 2) text (variable n j l m) c s h) (λ x d k. on-mark 59 x.1 refl (room k) k (λ e a u. on-done _ a u))

-- what is read takes no tokens more than there are
shorter : {A : Type 0} {stop : ℕ} {Q P : Counts → A × State → Type 0} {c : Counts} {toks : List Token} {r : Reading (A × State)} → On stop Q c toks r → ((x : A × State) (d : Counts) → Q d x → length x.1.toks ≤ length toks → P d x) → On stop P c toks r
shorter {A = A} {stop = stop} {Q = Q} {P = P} {c = c} {toks = toks} {r = r} h f = record { says = go r h.says }
  where
    go : (r : Reading (A × State)) → Counted stop Q c toks r → Counted stop P c toks r
    go (Ok x) m =
        let whole = ap (λ l. length l) m.split in
        let sum = length-append m.front x.1.toks in
        record { front = m.front; split = m.split; within = m.within; holds = f x (with_tokens m.front c) m.holds (omega (arith, whole, sum)) }
    go (Err (fault.Expected p)) m = m
    go (Err (fault.Deep p)) m = m
    go (Err (fault.Many p)) m = m
    go (Err fault.Memory) m = m

local-behind : (stop n j : ℕ) (text : Bytes) → n ≤ 64 → j ≤ 8 → (m : ℕ) (c : Counts) (s : State) (ts : List Token) → length ts ≤ m → Stands stop (inside n j 1) c s →
    On stop (Keeps stop (inside n j 1)) c ts (each_behind word.Var (local_at text) m (behind s ts))
unfolding each_behind
local-behind stop n j text p q zero c s [] l h = on-done [] (behind s []) (moved [] h)
local-behind stop n j text p q zero c s (t ∷ ts) l h = absurd (omega (arith, l))
local-behind stop n j text p q (suc m) c s [] l h = on-done [] (behind s []) (moved [] h)
local-behind stop n j text p q (suc m) c s (t ∷ ts) l h =
    on-choose (worded word.Var (behind s ts) t.span t.kind) (λ a. local_at text a >>= λ x. each_behind word.Var (local_at text) m x.1 >>= λ y. Ok (x.0 ∷ y.0, y.1))
    (tested s t ts (worded word.Var (behind s ts) t.span t.kind) (λ a. local_at text a >>= λ x. each_behind word.Var (local_at text) m x.1 >>= λ y. Ok (x.0 ∷ y.0, y.1)) h.end (worded-tests word.Var (behind s ts) t.span t.kind)
    (λ e. on-plain t ts (kind.Word word.Var) e (λ c. refl) refl (record { brackets = h.brackets; functions = h.functions; claims = h.claims }) h
    (λ d k. on-then (shorter {P = λ d x. Stands stop (inside n j 1) d x.1 × (length x.1.toks ≤ length ts)} (on-local stop n j text p q d (behind s ts) k) (λ x d u r. (u, r)))
    (λ x f u. let less = u.1 in on-then (local-behind stop n j text p q m f x.1 x.1.toks (omega (arith, l, less)) u.0) (λ y g w. on-done _ y.1 w)))))
    (on-done [] (behind s (t ∷ ts)) (moved (t ∷ ts) h))

on-locals : (stop n j : ℕ) (text : Bytes) → n ≤ 64 → j ≤ 8 → Leads stop (inside n j 1) (inside n j 1) (locals_at text)
on-locals stop n j text p q c s h = local-behind stop n j text p q (length s.toks) c s s.toks (omega arith) h

-- ---- claims

on-target : (stop n j : ℕ) (text : Bytes) → Leads stop (claiming n j 0) (claiming n j 0) (target_at text)
on-target stop n j text c s h =
    on-choose (skip_word_at word.Result s) (λ a. Ok (None, a))
    (on-word word.Result s (λ c. refl) refl (room h) h (λ d a k. on-done _ a k))
    (on-then (on-name text refl refl c s h) (λ x d k. on-done _ x.1 k))

abbrev needing : Bytes → Option IdentTree → ℕ → State → Reading (SaidTree × State)
needing text t b c = list_of (name_at text) c >>= λ n. Ok (record { target = t; bound = b; needs = n.0 }, n.1)

on-needing : (stop n j : ℕ) (text : Bytes) (t : Option IdentTree) (b : ℕ) → Leads stop (claiming n j 0) (claiming n j 0) (λ s. (skip_sign_at op.Mul s >>= λ a. skip_word_at word.R a >>= λ r. skip_at 40 r) >>= needing text t b)
on-needing stop n j text t b c s h =
    on-same (bind-assoc (skip_sign_at op.Mul s) (λ a. skip_word_at word.R a >>= λ r. skip_at 40 r) (needing text t b))
    (on-sign op.Mul s refl refl h
    (λ d a k. on-same (bind-assoc (skip_word_at word.R a) (λ r. skip_at 40 r) (needing text t b))
    (on-word word.R a (λ c. refl) refl (room k) k
    (λ e x u. on-mark 40 x refl (record { brackets = omega arith; functions = u.functions; claims = u.claims }) u
    (λ f y v. on-then (on-list stop (claiming n j 1) (claiming n j 1) (claiming n j 0) (name_at text) (record { each = on-name text refl refl; comma = refl; close = refl; empty = refl; before = room v; after = room u }) f y v)
    (λ z g w. on-done _ z.1 w))))))

-- behind the token of a bound
bound-behind : (stop n j : ℕ) (text : Bytes) (t : Option IdentTree) (c : Counts) (s : State) (x : Token) (ts : List Token) → Stands stop (claiming n j 0) c s → IsTrue (is_amount x.kind) → (b : ℕ) → (k : TokenKind) → x.kind ≡ k → IsTrue (is_amount k) →
    On stop (Keeps stop (claiming n j 0)) c (x ∷ ts) ((skip_sign_at op.Mul (behind s ts) >>= λ a. skip_word_at word.R a >>= λ r. skip_at 40 r) >>= needing text t b)
bound-behind stop n j text t c s x ts h y b (kind.Number m) e z = on-plain x ts (kind.Number m) e (λ c. refl) refl (room h) h (λ d k. on-needing stop n j text t b d (behind s ts) k)
bound-behind stop n j text t c s x ts h y b kind.Decimal e z = on-plain x ts kind.Decimal e (λ c. refl) refl (room h) h (λ d k. on-needing stop n j text t b d (behind s ts) k)
bound-behind stop n j text t c s x ts h y b kind.Name e z = absurd (true≢false (sym z))
bound-behind stop n j text t c s x ts h y b (kind.Word w) e z = absurd (true≢false (sym z))
bound-behind stop n j text t c s x ts h y b (kind.Mark m) e z = absurd (true≢false (sym z))
bound-behind stop n j text t c s x ts h y b (kind.Oper o) e z = absurd (true≢false (sym z))

bound-written : (stop n j : ℕ) (text : Bytes) (t : Option IdentTree) (c : Counts) (s : State) (x : Token) (ts : List Token) → Stands stop (claiming n j 0) c s → IsTrue (is_amount x.kind) → (r : Result ℕ NumFault) →
    On stop (Keeps stop (claiming n j 0)) c (x ∷ ts) (written x.span r >>= λ b. (skip_sign_at op.Mul (behind s ts) >>= λ a. skip_word_at word.R a >>= λ r. skip_at 40 r) >>= needing text t b)
bound-written stop n j text t c s x ts h y (Ok b) = bound-behind stop n j text t c s x ts h y b x.kind refl y
bound-written stop n j text t c s x ts h y (Err f) = on-none (behind s (x ∷ ts)) h.end

bound-if : (stop n j : ℕ) (text : Bytes) (t : Option IdentTree) (c : Counts) (s : State) (x : Token) (ts : List Token) → Stands stop (claiming n j 0) c s → (y : Bool) → is_amount x.kind ≡ y →
    On stop (Keeps stop (claiming n j 0)) c (x ∷ ts) ((if y then written x.span (atto_of (word_at text x.span)) else Err (fault.Expected x.span.from)) >>= λ b. (skip_sign_at op.Mul (behind s ts) >>= λ a. skip_word_at word.R a >>= λ r. skip_at 40 r) >>= needing text t b)
bound-if stop n j text t c s x ts h true e = bound-written stop n j text t c s x ts h e (atto_of (word_at text x.span))
bound-if stop n j text t c s x ts h false e = on-none (behind s (x ∷ ts)) h.end

bound-from : (stop n j : ℕ) (text : Bytes) (t : Option IdentTree) (c : Counts) (s : State) → Stands stop (claiming n j 0) c s → (ts : List Token) →
    On stop (Keeps stop (claiming n j 0)) c ts (bound_at text (behind s ts) >>= λ b. behind_bound_at (behind s ts) >>= needing text t b)
bound-from stop n j text t c s h [] = on-none (behind s []) h.end
bound-from stop n j text t c s h (x ∷ ts) = bound-if stop n j text t c s x ts h (is_amount x.kind) refl

on-claim : (stop n j : ℕ) (text : Bytes) → Leads stop (claiming n j 0) (claiming n j 0) (claim_at text)
unfolding claim_at
on-claim stop n j text c s h = on-then (on-target stop n j text c s h) (λ t d k. on-sign op.Ge t.1 refl refl k (λ e a u. bound-from stop n j text t.0 e a u a.toks))

-- behind some claims
abbrev Claimed : {A : Type 0} → ℕ → ℕ → Counts → A × State → Type 0
Claimed stop n d x = (i : ℕ) × Stands stop (claiming n i 0) d x.1

on-claims : (stop n : ℕ) (text : Bytes) (m j : ℕ) → j + m ≡ 8 → (c : Counts) (s : State) → Stands stop (claiming n j 0) c s → On stop (Claimed stop n) c s.toks (each_behind word.Claim (claim_at text) m s)
unfolding each_behind
on-claims stop n text zero j l c s h =
    on-choose (skip_word_at word.Claim s) (λ a. Err (fault.Many (place_from s.end s.toks)))
    (on-word-at word.Claim s (λ l a. Err (fault.Many (place_from s.end l))) h.end
    (λ t ts p. let count : c.at.claims ≡ j = ap (λ a. a.claims) h.at in
    let crowded : IsCrowded (with_token (kind.Word word.Claim) c) = inr (inl (omega (arith, count, l))) in
    on-many t ts (subst (λ k. IsCrowded (with_token k c)) (sym p) crowded)))
    (on-done [] s (j, h))
on-claims stop n text (suc m) j l c s h =
    on-choose (skip_word_at word.Claim s) (λ a. claim_at text a >>= λ x. each_behind word.Claim (claim_at text) m x.1 >>= λ y. Ok (x.0 ∷ y.0, y.1))
    (on-word word.Claim s (λ c. refl) refl (record { brackets = omega arith; functions = h.functions; claims = omega (arith, l) }) h
    (λ d a k. on-then (on-claim stop n (suc j) text d a k) (λ x e u. on-then (on-claims stop n text m (suc j) (omega (arith, l)) e x.1 u) (λ y f w. on-done _ y.1 w))))
    (on-done [] s (j, h))

on-some-claims : (stop n : ℕ) (text : Bytes) (c : Counts) (s : State) → Stands stop (heading n 0 false) c s → On stop (Claimed stop n) c s.toks (claims_at text s)
unfolding some_behind
on-some-claims stop n text c s h =
    on-word word.Claim s (λ c. refl) refl (record { brackets = omega arith; functions = h.functions; claims = omega arith }) h
    (λ d a k. on-then (on-claim stop n 1 text d a k) (λ x e u. on-then (on-claims stop n text 7 1 (omega arith) e x.1 u) (λ y f w. on-done _ y.1 w)))

-- ---- functions

on-last : (stop n j : ℕ) (text : Bytes) (span : Span) → Leads stop (inside n j 1) (inside n j 0) (last_at text span)
unfolding last_at
on-last stop n j text span c s h =
    on-then (on-expr stop n j text 63 1 (omega arith) c s h)
    (λ x d k. on-mark 59 x.1 refl (room k) k (λ e a u. on-mark 125 a refl (record { brackets = omega arith; functions = u.functions; claims = u.claims }) u (λ f b v. on-done _ b v)))

on-body : (stop n j : ℕ) (text : Bytes) (m : ℕ) → Leads stop (inside n j 1) (inside n j 0) (body_of text m)
unfolding body_of
on-body stop n j text zero c s h = on-none s h.end
on-body stop n j text (suc m) c s h =
    on-choose (skip_word_at word.Return s) (λ a. first_at s >>= λ x. last_at text x.0.span a >>= λ y. Ok (also y.0 ended, y.1))
    (on-word-at word.Return s (λ l a. first_at (behind s l) >>= λ x. last_at text x.0.span a >>= λ y. Ok (also y.0 ended, y.1)) h.end
    (λ t ts p. on-plain t ts (kind.Word word.Return) p (λ c. refl) refl (room h) h (λ d k. on-then (on-last stop n j text t.span d (behind s ts) k) (λ y e u. on-done _ y.1 u))))
    (on-then (on-stmt stop n j text 63 1 (omega arith) c s h) (λ x d k. on-then (on-body stop n j text m d x.1 k) (λ y e u. on-done _ y.1 u)))

-- behind a function
abbrev Closed : {A : Type 0} → ℕ → ℕ → Counts → A × State → Type 0
Closed stop n d x = (i : ℕ) × Stands stop (inside n i 0) d x.1

on-function : (stop n : ℕ) (text : Bytes) (c : Counts) (s : State) → Stands stop (heading n 0 false) c (fresh s) → On stop (Closed stop n) c s.toks (function_at text s)
unfolding function_at
on-function stop n text c s h =
    let few : n ≤ 64 = h.functions in
    let p : Declares (heading n 1 true) (heading n 1 false) (heading n 2 false) = parameter n few in
    on-then (on-name text refl refl c (fresh s) h)
    (λ x d k. on-mark 40 x.1 refl (record { brackets = omega arith; functions = few; claims = omega arith }) k
    (λ e a u. on-then
    (on-list stop (heading n 1 true) (heading n 1 false) (heading n 0 false) (decl_at text) (record { each = on-decl stop (heading n 1 true) (heading n 1 false) (heading n 2 false) text p; comma = refl; close = refl; empty = refl; before = room u; after = room k }) e a u)
    (λ y f v. on-then (on-some-claims stop n text f y.1 v)
    (λ z g w. on-mark 123 z.1 refl (record { brackets = omega arith; functions = few; claims = w.1.claims }) w.1
    (λ i b r. on-then (on-locals stop n w.0 text few w.1.claims i b r)
    (λ l o q. on-then (on-body stop n w.0 text (length l.1.toks + 1) o l.1 q) (λ t f2 u2. on-done _ t.1 (w.0, u2))))))))

-- between two functions
record Between (stop n : ℕ) (c : Counts) (s : State) : Type 0 where
  brackets : c.at.brackets ≡ 0
  functions : c.at.functions ≡ n
  end : s.end ≡ stop

closed-between : (stop n i : ℕ) (d : Counts) (a : State) → Stands stop (inside n i 0) d a → Between stop n d a
closed-between stop n i d a h = record { brackets = ap (λ x. x.brackets) h.at; functions = ap (λ x. x.functions) h.at; end = h.end }

stands-function : (stop n : ℕ) (c : Counts) (s : State) → suc n ≤ 64 → Between stop n c s → Stands stop (heading (suc n) 0 false) (with_token (kind.Word word.Fn) c) (fresh s)
stands-function stop n c s l h = record {
  at = ap (λ b. record { brackets = b; functions = suc c.at.functions; claims = 0; part = Head; naming = false }) h.brackets ∙ ap (λ f. heading (suc f) 0 false) h.functions;
  brackets = omega arith;
  functions = l;
  claims = omega arith;
  variables = refl;
  operators = refl;
  calls = refl;
  end = h.end;
}

-- a function with its word
on-begun : {B : Type 0} {Q : Counts → B × State → Type 0} (stop n : ℕ) (text : Bytes) → suc n ≤ 64 → (c : Counts) (s : State) (t : Token) (ts : List Token) → t.kind ≡ kind.Word word.Fn → Between stop n c s → (k : FuncTree × State → Reading (B × State)) →
    ((x : FuncTree × State) (d : Counts) → Between stop (suc n) d x.1 → On stop Q d x.1.toks (k x)) → On stop Q c (t ∷ ts) (function_at text (behind s ts) >>= k)
on-begun stop n text l c s t ts p h k f =
    on-token t ts (kind.Word word.Fn) p (stands-function stop n c (behind s ts) l (record { brackets = h.brackets; functions = h.functions; end = h.end }))
    (λ d i. on-then (on-function stop (suc n) text d (behind s ts) i) (λ x e u. f x e (closed-between stop (suc n) u.0 e x.1 u.1)))

on-functions : (stop : ℕ) (text : Bytes) (m n : ℕ) → n + m ≡ 64 → (c : Counts) (s : State) → Between stop n c s → On stop (λ d x. Unit {0}) c s.toks (each_behind word.Fn (function_at text) m s)
unfolding each_behind
on-functions stop text zero n l c s h =
    on-choose (skip_word_at word.Fn s) (λ a. Err (fault.Many (place_from s.end s.toks)))
    (on-word-at word.Fn s (λ l a. Err (fault.Many (place_from s.end l))) h.end
    (λ t ts p. let count = h.functions in
    let crowded : IsCrowded (with_token (kind.Word word.Fn) c) = inl (omega (arith, count, l)) in
    on-many t ts (subst (λ k. IsCrowded (with_token k c)) (sym p) crowded)))
    (on-done [] s (tt {0}))
on-functions stop text (suc m) n l c s h =
    on-choose (skip_word_at word.Fn s) (λ a. function_at text a >>= λ x. each_behind word.Fn (function_at text) m x.1 >>= λ y. Ok (x.0 ∷ y.0, y.1))
    (on-word-at word.Fn s (λ _ a. function_at text a >>= λ x. each_behind word.Fn (function_at text) m x.1 >>= λ y. Ok (x.0 ∷ y.0, y.1)) h.end
    (λ t ts p. on-begun stop n text (omega (arith, l)) c s t ts p h (λ x. each_behind word.Fn (function_at text) m x.1 >>= λ y. Ok (x.0 ∷ y.0, y.1))
    (λ x d u. on-then (on-functions stop text m (suc n) (omega (arith, l)) d x.1 u) (λ y e w. on-done _ y.1 (tt {0})))))
    (on-done [] s (tt {0}))

on-some-functions : (stop : ℕ) (text : Bytes) (c : Counts) (s : State) → Between stop 0 c s → On stop (λ d x. Unit {0}) c s.toks (functions_at text s)
unfolding some_behind
on-some-functions stop text c s h =
    on-word-at word.Fn s (λ _ a. function_at text a >>= λ x. each_behind word.Fn (function_at text) 63 x.1 >>= λ y. Ok (x.0 ∷ y.0, y.1)) h.end
    (λ t ts p. on-begun stop 0 text (omega arith) c s t ts p h (λ x. each_behind word.Fn (function_at text) 63 x.1 >>= λ y. Ok (x.0 ∷ y.0, y.1))
    (λ x d u. on-then (on-functions stop text 63 1 (omega arith) d x.1 u) (λ y e w. on-done _ y.1 (tt {0}))))

-- ---- sources

-- what the reading of a source says of the limits
abbrev pub Limited : Bytes → List Token → Reading UnitTree → Type 0
Limited text toks (Ok u) = AllWithin nothing toks
Limited text toks (Err (fault.Expected p)) = Paused (end_of text) nothing toks p
Limited text toks (Err (fault.Deep p)) = Passed IsDeep nothing toks p
Limited text toks (Err (fault.Many p)) = Passed IsCrowded nothing toks p
Limited text toks (Err fault.Memory) = ⊥

front-of : (xs : List Token) → xs ++ [] ≡ xs
front-of [] = refl
front-of (x ∷ xs) = ap (λ l. x ∷ l) (front-of xs)

limited-whole : (text : Bytes) (toks front rest : List Token) (fs : List FuncTree) → toks ≡ front ++ rest → AllWithin nothing front → Limited text toks (whole fs rest)
limited-whole text toks front [] fs e w = subst (AllWithin nothing) (sym (e ∙ front-of front)) w
limited-whole text toks front (t ∷ ts) fs e w = record { front = front; bad = t ∷ ts; split = e; stands = refl; within = w }

limited-functions : (text : Bytes) (toks : List Token) (r : Reading (List FuncTree × State)) → Counted (end_of text) (λ d x. Unit {0}) nothing toks r → Limited text toks (r >>= λ y. whole y.0 y.1.toks)
limited-functions text toks (Ok x) h = limited-whole text toks h.front x.1.toks x.0 h.split h.within
limited-functions text toks (Err (fault.Expected p)) h = h
limited-functions text toks (Err (fault.Deep p)) h = h
limited-functions text toks (Err (fault.Many p)) h = h
limited-functions text toks (Err fault.Memory) h = h

pub limited : (text : Bytes) (toks : List Token) → Limited text toks (unit_of text toks)
unfolding unit_of
limited text toks =
    let s : State = record { toks = toks; variables = 0; operators = 0; calls = 0; end = end_of text } in
    let o = on-some-functions (end_of text) text nothing s (record { brackets = refl; functions = refl; end = refl }) in
    limited-functions text toks (functions_at text s) o.says
