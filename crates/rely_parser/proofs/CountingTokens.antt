-- Counting along the readers of one token.
use Rattle.std.proofs.Common.{◌≡◌, ℕ, Bool, false, List, [], ◌∷◌, inl, inr, refl, ap, ◌∙◌}
use Rattle.rely_num.specs.Texts.{Bytes}
use Rattle.rely_num.specs.declared.op.Op.{Op}
use Rattle.rely_lexer.specs.declared.token.Token.{Token}
use Rattle.rely_lexer.specs.declared.token.TokenKind.{TokenKind}
use Rattle.rely_lexer.specs.declared.token.TokenKind.TheVariants as kind
use Rattle.rely_num.specs.declared.word.Word.{Word}
use Rattle.rely_parser.specs.Counts.{Head, Claims, Body, Standing, Counts, is_body, behind_mark, behind_word, behind_token, with_token}
use Rattle.rely_parser.specs.State.{State, Reading, Read, behind, ◌>>=◌, marked, skip_at, worded, skip_word_at, named, name_at}
use Rattle.rely_parser.specs.Units.{with_sign, skip_sign_at}
use Rattle.rely_parser.proofs.Marks.{Tests, marked-tests, worded-tests, signed-tests}
use Rattle.rely_parser.proofs.Counting.{On, on-done, on-none, on-same, on-token, Stands, HasRoom, IsPlain, stands-plain}

-- behind what is read the counts and the state stand so
abbrev pub Keeps : {A : Type 0} → ℕ → Standing → Counts → A × State → Type 0
Keeps stop g d x = Stands stop g d x.1

-- a reader leads from one place to another
abbrev pub Leads : {A : Type 0} → ℕ → Standing → Standing → Read A → Type 0
Leads stop f g r = (c : Counts) (s : State) → Stands stop f c s → On stop (Keeps stop g) c s.toks (r s)

-- in the text of a body, of the claims, and up to them
abbrev pub inside : ℕ → ℕ → ℕ → Standing
inside functions claims brackets = record { brackets = brackets; functions = functions; claims = claims; part = Body; naming = false }

abbrev pub claiming : ℕ → ℕ → ℕ → Standing
claiming functions claims brackets = record { brackets = brackets; functions = functions; claims = claims; part = Claims; naming = false }

abbrev pub heading : ℕ → ℕ → Bool → Standing
heading functions brackets naming = record { brackets = brackets; functions = functions; claims = 0; part = Head; naming = naming }

-- ---- tests of a token

-- a test of a token, and what is behind it
pub tested : {A P : Type 0} {stop : ℕ} {Q : Counts → A × State → Type 0} {c : Counts} (s : State) (t : Token) (ts : List Token) (r : Reading State) (k : State → Reading (A × State)) → s.end ≡ stop →
    Tests P t.kind t.span (behind s ts) r → (P → On stop Q c (t ∷ ts) (k (behind s ts))) → On stop Q c (t ∷ ts) (r >>= k)
tested s t ts r k e (inl y) h = on-same (ap (λ x. x >>= k) y.1) (h y.0)
tested s t ts r k e (inr n) h = on-same (ap (λ x. x >>= k) n) (on-none (behind s (t ∷ ts)) e)

mark-from : {A : Type 0} {stop : ℕ} {Q : Counts → A × State → Type 0} {c : Counts} (m : ℕ) (s : State) (k : List Token → State → Reading (A × State)) → s.end ≡ stop →
    ((t : Token) (ts : List Token) → t.kind ≡ kind.Mark m → On stop Q c (t ∷ ts) (k (t ∷ ts) (behind s ts))) → (ts : List Token) → On stop Q c ts (skip_at m (behind s ts) >>= k ts)
mark-from m s k e h [] = on-none (behind s []) e
mark-from m s k e h (t ∷ ts) = tested s t ts (marked m (behind s ts) t.span t.kind) (k (t ∷ ts)) e (marked-tests m (behind s ts) t.span t.kind) (h t ts)

-- a mark, where the tokens before it are used
pub on-mark-at : {A : Type 0} {stop : ℕ} {Q : Counts → A × State → Type 0} {c : Counts} (m : ℕ) (s : State) (k : List Token → State → Reading (A × State)) → s.end ≡ stop →
    ((t : Token) (ts : List Token) → t.kind ≡ kind.Mark m → On stop Q c (t ∷ ts) (k (t ∷ ts) (behind s ts))) → On stop Q c s.toks (skip_at m s >>= k s.toks)
on-mark-at m s k e h = mark-from m s k e h s.toks

word-from : {A : Type 0} {stop : ℕ} {Q : Counts → A × State → Type 0} {c : Counts} (w : Word) (s : State) (k : List Token → State → Reading (A × State)) → s.end ≡ stop →
    ((t : Token) (ts : List Token) → t.kind ≡ kind.Word w → On stop Q c (t ∷ ts) (k (t ∷ ts) (behind s ts))) → (ts : List Token) → On stop Q c ts (skip_word_at w (behind s ts) >>= k ts)
word-from w s k e h [] = on-none (behind s []) e
word-from w s k e h (t ∷ ts) = tested s t ts (worded w (behind s ts) t.span t.kind) (k (t ∷ ts)) e (worded-tests w (behind s ts) t.span t.kind) (h t ts)

-- a reserved word, where the tokens before it are used
pub on-word-at : {A : Type 0} {stop : ℕ} {Q : Counts → A × State → Type 0} {c : Counts} (w : Word) (s : State) (k : List Token → State → Reading (A × State)) → s.end ≡ stop →
    ((t : Token) (ts : List Token) → t.kind ≡ kind.Word w → On stop Q c (t ∷ ts) (k (t ∷ ts) (behind s ts))) → On stop Q c s.toks (skip_word_at w s >>= k s.toks)
on-word-at w s k e h = word-from w s k e h s.toks

sign-from : {A : Type 0} {stop : ℕ} {Q : Counts → A × State → Type 0} {c : Counts} (o : Op) (s : State) (k : State → Reading (A × State)) → s.end ≡ stop →
    ((t : Token) (ts : List Token) → t.kind ≡ kind.Oper o → On stop Q c (t ∷ ts) (k (behind s ts))) → (ts : List Token) → On stop Q c ts (skip_sign_at o (behind s ts) >>= k)
sign-from o s k e h [] = on-none (behind s []) e
sign-from o s k e h (t ∷ ts) = tested s t ts (with_sign o (behind s ts) t.span t.kind) k e (signed-tests o (behind s ts) t.span t.kind) (h t ts)

-- ---- what is counted as nothing

-- behind a plain token
pub on-plain : {A : Type 0} {stop : ℕ} {f g : Standing} {Q : Counts → A × State → Type 0} {c : Counts} {s : State} (t : Token) (ts : List Token) (k : TokenKind) {r : Reading (A × State)} → t.kind ≡ k →
    IsPlain k → behind_token k f ≡ g → HasRoom g → Stands stop f c s → ((d : Counts) → Stands stop g d (behind s ts) → On stop Q d ts r) → On stop Q c (t ∷ ts) r
on-plain t ts k e p i w h n = on-token t ts k e (stands-plain k ts p i w h) n

-- behind a mark
pub on-mark : {A : Type 0} {stop : ℕ} {f g : Standing} {Q : Counts → A × State → Type 0} {c : Counts} (m : ℕ) (s : State) {k : State → Reading (A × State)} → behind_mark m f ≡ g → HasRoom g → Stands stop f c s →
    ((d : Counts) (a : State) → Stands stop g d a → On stop Q d a.toks (k a)) → On stop Q c s.toks (skip_at m s >>= k)
on-mark m s {k = k} i w h n = on-mark-at m s (λ _. k) h.end (λ t ts e. on-plain t ts (kind.Mark m) e (λ c. refl) i w h (λ d j. n d (behind s ts) j))

-- behind a reserved word
pub on-word : {A : Type 0} {stop : ℕ} {f g : Standing} {Q : Counts → A × State → Type 0} {c : Counts} (w : Word) (s : State) {k : State → Reading (A × State)} → IsPlain (kind.Word w) → behind_word w f ≡ g → HasRoom g → Stands stop f c s →
    ((d : Counts) (a : State) → Stands stop g d a → On stop Q d a.toks (k a)) → On stop Q c s.toks (skip_word_at w s >>= k)
on-word w s {k = k} p i r h n = on-word-at w s (λ _. k) h.end (λ t ts e. on-plain t ts (kind.Word w) e p i r h (λ d j. n d (behind s ts) j))

-- an operator before the body
stands-sign : {stop : ℕ} {f : Standing} {c : Counts} {s : State} (o : Op) (ts : List Token) → is_body f.part ≡ false → behind_token (kind.Oper o) f ≡ f → Stands stop f c s → Stands stop f (with_token (kind.Oper o) c) (behind s ts)
stands-sign {c = c} o ts b i h =
    let out : is_body c.at.part ≡ false = ap (λ a. is_body a.part) h.at ∙ b in
    record {
      at = ap (behind_token (kind.Oper o)) h.at ∙ i;
      brackets = h.brackets;
      functions = h.functions;
      claims = h.claims;
      variables = h.variables;
      operators = rw out h.operators;
      calls = h.calls;
      end = h.end;
    }

pub on-sign : {A : Type 0} {stop : ℕ} {f : Standing} {Q : Counts → A × State → Type 0} {c : Counts} (o : Op) (s : State) {k : State → Reading (A × State)} → is_body f.part ≡ false → behind_token (kind.Oper o) f ≡ f → Stands stop f c s →
    ((d : Counts) (a : State) → Stands stop f d a → On stop Q d a.toks (k a)) → On stop Q c s.toks (skip_sign_at o s >>= k)
on-sign o s {k = k} b i h n = sign-from o s k h.end (λ t ts e. on-token t ts (kind.Oper o) e (stands-sign o ts b i h) (λ d j. n d (behind s ts) j)) s.toks

-- a name that is no variable's
pub stands-name : {stop : ℕ} {f : Standing} {c : Counts} {s : State} (ts : List Token) → f.naming ≡ false → behind_token kind.Name f ≡ f → Stands stop f c s → Stands stop f (with_token kind.Name c) (behind s ts)
stands-name {c = c} ts b i h =
    let out : c.at.naming ≡ false = ap (λ a. a.naming) h.at ∙ b in
    record {
      at = ap (behind_token kind.Name) h.at ∙ i;
      brackets = h.brackets;
      functions = h.functions;
      claims = h.claims;
      variables = rw out h.variables;
      operators = h.operators;
      calls = h.calls;
      end = h.end;
    }

name-kind : {stop : ℕ} {f : Standing} {c : Counts} (text : Bytes) (s : State) (t : Token) (ts : List Token) → f.naming ≡ false → behind_token kind.Name f ≡ f → Stands stop f c s → (k : TokenKind) → t.kind ≡ k →
    On stop (Keeps stop f) c (t ∷ ts) (named text (behind s ts) t.span k)
name-kind text s t ts b i h kind.Name e = on-token t ts kind.Name e (stands-name ts b i h) (λ d j. on-done _ (behind s ts) j)
name-kind text s t ts b i h _ e = on-none (behind s (t ∷ ts)) h.end

name-from : {stop : ℕ} {f : Standing} {c : Counts} (text : Bytes) (s : State) → f.naming ≡ false → behind_token kind.Name f ≡ f → Stands stop f c s → (ts : List Token) → On stop (Keeps stop f) c ts (name_at text (behind s ts))
name-from text s b i h [] = on-none (behind s []) h.end
name-from text s b i h (t ∷ ts) = name-kind text s t ts b i h t.kind refl

pub on-name : {stop : ℕ} {f : Standing} (text : Bytes) → f.naming ≡ false → behind_token kind.Name f ≡ f → Leads stop f f (name_at text)
on-name text b i c s h = name-from text s b i h s.toks
