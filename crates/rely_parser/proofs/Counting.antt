-- Laws of counting along a reading: what is read passes no limit, and a refusal says which token passes one.
use Rattle.std.proofs.Common.{◌≡◌, ℕ, ◌+◌, ◌≤◌, Bool, true, false, List, [], ◌∷◌, ◌++◌, Ok, Err, refl, ap, sym, subst, ◌∙◌, arith, if◌then◌else◌}
use Rattle.rely_lexer.specs.declared.token.Token.{Token}
use Rattle.rely_lexer.specs.declared.token.TokenKind.{TokenKind}
use Rattle.rely_parser.specs.declared.fault.ParseFault.TheVariants as fault
use Rattle.rely_parser.specs.Counts.{Standing, Counts, behind_token, with_token, with_tokens, IsDeep, IsCrowded, IsWithin, AllWithin}
use Rattle.rely_parser.specs.State.{State, Reading, behind, place, place_from, ◌>>=◌, choose}

-- the tokens up to the rest pass no limit, and what is read, the counts and the state behind them are such
pub record Moved {A : Type 0} (Q : Counts → A × State → Type 0) (c : Counts) (toks : List Token) (x : A × State) : Type 0 where
  pub front : List Token
  pub split : toks ≡ front ++ x.1.toks
  pub within : AllWithin c front
  pub holds : Q (with_tokens front c) x

-- those before p pass no limit
pub record Paused (stop : ℕ) (c : Counts) (toks : List Token) (p : ℕ) : Type 0 where
  pub front : List Token
  pub bad : List Token
  pub split : toks ≡ front ++ bad
  pub stands : place_from stop bad ≡ p
  pub within : AllWithin c front

-- the one at p is the first that passes a limit
pub record Passed (Over : Counts → Type 0) (c : Counts) (toks : List Token) (p : ℕ) : Type 0 where
  pub front : List Token
  pub token : Token
  pub rest : List Token
  pub split : toks ≡ front ++ token ∷ rest
  pub stands : token.span.from ≡ p
  pub within : AllWithin c front
  pub over : Over (with_token token.kind (with_tokens front c))

abbrev pub Counted : {A : Type 0} → ℕ → (Counts → A × State → Type 0) → Counts → List Token → Reading (A × State) → Type 0
Counted stop Q c toks (Ok x) = Moved Q c toks x
Counted stop Q c toks (Err (fault.Expected p)) = Paused stop c toks p
Counted stop Q c toks (Err (fault.Deep p)) = Passed IsDeep c toks p
Counted stop Q c toks (Err (fault.Many p)) = Passed IsCrowded c toks p
Counted stop Q c toks (Err fault.Memory) = ⊥

-- the same as one word
pub record On {A : Type 0} (stop : ℕ) (Q : Counts → A × State → Type 0) (c : Counts) (toks : List Token) (r : Reading (A × State)) : Type 0 where
  pub says : Counted stop Q c toks r

pub on-done : {A : Type 0} {stop : ℕ} {Q : Counts → A × State → Type 0} {c : Counts} (a : A) (s : State) → Q c (a, s) → On stop Q c s.toks (Ok (a, s))
on-done a s q = record { says = record { front = []; split = refl; within = tt {0}; holds = q } }

-- nothing is read
pub on-none : {A : Type 0} {stop : ℕ} {Q : Counts → A × State → Type 0} {c : Counts} (s : State) → s.end ≡ stop → On stop Q c s.toks (Err (fault.Expected (place s)))
on-none s e = record { says = record { front = []; bad = s.toks; split = refl; stands = ap (λ n. place_from n s.toks) (sym e); within = tt {0} } }

pub on-deep : {A : Type 0} {stop : ℕ} {Q : Counts → A × State → Type 0} {c : Counts} (t : Token) (ts : List Token) → IsDeep (with_token t.kind c) → On stop Q c (t ∷ ts) (Err (fault.Deep t.span.from))
on-deep t ts o = record { says = record { front = []; token = t; rest = ts; split = refl; stands = refl; within = tt {0}; over = o } }

pub on-many : {A : Type 0} {stop : ℕ} {Q : Counts → A × State → Type 0} {c : Counts} (t : Token) (ts : List Token) → IsCrowded (with_token t.kind c) → On stop Q c (t ∷ ts) (Err (fault.Many t.span.from))
on-many t ts o = record { says = record { front = []; token = t; rest = ts; split = refl; stands = refl; within = tt {0}; over = o } }

-- a token that passes no limit, and what is behind it
counted-step : {A : Type 0} (stop : ℕ) (Q : Counts → A × State → Type 0) (c : Counts) (t : Token) (ts : List Token) (r : Reading (A × State)) → IsWithin (with_token t.kind c) → Counted stop Q (with_token t.kind c) ts r → Counted stop Q c (t ∷ ts) r
counted-step stop Q c t ts (Ok x) w h = record { front = t ∷ h.front; split = ap (λ l. t ∷ l) h.split; within = (w, h.within); holds = h.holds }
counted-step stop Q c t ts (Err (fault.Expected p)) w h = record { front = t ∷ h.front; bad = h.bad; split = ap (λ l. t ∷ l) h.split; stands = h.stands; within = (w, h.within) }
counted-step stop Q c t ts (Err (fault.Deep p)) w h = record { front = t ∷ h.front; token = h.token; rest = h.rest; split = ap (λ l. t ∷ l) h.split; stands = h.stands; within = (w, h.within); over = h.over }
counted-step stop Q c t ts (Err (fault.Many p)) w h = record { front = t ∷ h.front; token = h.token; rest = h.rest; split = ap (λ l. t ∷ l) h.split; stands = h.stands; within = (w, h.within); over = h.over }
counted-step stop Q c t ts (Err fault.Memory) w h = h

pub on-step : {A : Type 0} {stop : ℕ} {Q : Counts → A × State → Type 0} {c : Counts} (t : Token) (ts : List Token) {r : Reading (A × State)} → IsWithin (with_token t.kind c) → On stop Q (with_token t.kind c) ts r → On stop Q c (t ∷ ts) r
on-step {stop = stop} {Q = Q} {c = c} t ts {r = r} w h = record { says = counted-step stop Q c t ts r w h.says }

pub on-steps : {A : Type 0} {stop : ℕ} {Q : Counts → A × State → Type 0} {r : Reading (A × State)} (rest : List Token) (front : List Token) (c : Counts) → AllWithin c front → On stop Q (with_tokens front c) rest r → On stop Q c (front ++ rest) r
on-steps rest [] c w h = h
on-steps rest (t ∷ ts) c w h = on-step t (ts ++ rest) w.0 (on-steps rest ts (with_token t.kind c) w.1 h)

-- one reader behind another
counted-then : {A B : Type 0} (stop : ℕ) (P : Counts → A × State → Type 0) (Q : Counts → B × State → Type 0) (c : Counts) (toks : List Token) (r : Reading (A × State)) (k : A × State → Reading (B × State)) →
    Counted stop P c toks r → ((x : A × State) (d : Counts) → P d x → On stop Q d x.1.toks (k x)) → On stop Q c toks (r >>= k)
counted-then stop P Q c toks (Ok x) k h n = subst (λ l. On stop Q c l (k x)) (sym h.split) (on-steps x.1.toks h.front c h.within (n x (with_tokens h.front c) h.holds))
counted-then stop P Q c toks (Err (fault.Expected p)) k h n = record { says = h }
counted-then stop P Q c toks (Err (fault.Deep p)) k h n = record { says = h }
counted-then stop P Q c toks (Err (fault.Many p)) k h n = record { says = h }
counted-then stop P Q c toks (Err fault.Memory) k h n = record { says = h }

pub on-then : {A B : Type 0} {stop : ℕ} {P : Counts → A × State → Type 0} {Q : Counts → B × State → Type 0} {c : Counts} {toks : List Token} {r : Reading (A × State)} {k : A × State → Reading (B × State)} →
    On stop P c toks r → ((x : A × State) (d : Counts) → P d x → On stop Q d x.1.toks (k x)) → On stop Q c toks (r >>= k)
on-then {stop = stop} {P = P} {Q = Q} {c = c} {toks = toks} {r = r} {k = k} h n = counted-then stop P Q c toks r k h.says n

-- one of two, by what comes first
choose-from : {A C : Type 0} {stop : ℕ} {Q : Counts → A × State → Type 0} {c : Counts} {toks : List Token} (r : Reading C) (f : C → Reading (A × State)) {g : Reading (A × State)} → On stop Q c toks (r >>= f) → On stop Q c toks g → On stop Q c toks (choose r f g)
choose-from (Ok x) f h i = h
choose-from (Err e) f h i = i

pub on-choose : {A C : Type 0} {stop : ℕ} {Q : Counts → A × State → Type 0} {c : Counts} {toks : List Token} (r : Reading C) (f : C → Reading (A × State)) {g : Reading (A × State)} → On stop Q c toks (r >>= f) → On stop Q c toks g → On stop Q c toks (choose r f g)
on-choose r f h i = choose-from r f h i

pub on-same : {A : Type 0} {stop : ℕ} {Q : Counts → A × State → Type 0} {c : Counts} {toks : List Token} {q r : Reading (A × State)} → q ≡ r → On stop Q c toks r → On stop Q c toks q
on-same {stop = stop} {Q = Q} {c = c} {toks = toks} e h = subst (On stop Q c toks) (sym e) h

-- by a test
pub on-if : {A : Type 0} {stop : ℕ} {Q : Counts → A × State → Type 0} {c : Counts} {toks : List Token} (b : Bool) {q r : Reading (A × State)} → (b ≡ true → On stop Q c toks q) → (b ≡ false → On stop Q c toks r) → On stop Q c toks (if b then q else r)
on-if true f g = f refl
on-if false f g = g refl

-- ---- where a reader stands

-- the counts are so far along, the state allows for what is left of each limit, and the text ends at stop
pub record Stands (stop : ℕ) (f : Standing) (c : Counts) (s : State) : Type 0 where
  pub at : c.at ≡ f
  pub brackets : f.brackets ≤ 64
  pub functions : f.functions ≤ 64
  pub claims : f.claims ≤ 8
  pub variables : c.variables + s.variables ≡ 63
  pub operators : c.operators + s.operators ≡ 256
  pub calls : c.calls + s.calls ≡ 256
  pub end : s.end ≡ stop

-- the room that a place leaves
pub record HasRoom (f : Standing) : Type 0 where
  pub brackets : f.brackets ≤ 64
  pub functions : f.functions ≤ 64
  pub claims : f.claims ≤ 8

pub room : {stop : ℕ} {f : Standing} {c : Counts} {s : State} → Stands stop f c s → HasRoom f
room h = record { brackets = h.brackets; functions = h.functions; claims = h.claims }

pub is-within : {stop : ℕ} {f : Standing} {c : Counts} {s : State} → Stands stop f c s → IsWithin c
is-within {f = f} h =
    let w : HasRoom f = room h in
    let o = sym h.at in
    record {
      brackets = subst (λ a. a.brackets ≤ 64) o w.brackets;
      functions = subst (λ a. a.functions ≤ 64) o w.functions;
      claims = subst (λ a. a.claims ≤ 8) o w.claims;
      variables = omega (arith, h.variables);
      operators = omega (arith, h.operators);
      calls = omega (arith, h.calls);
    }

-- other tokens are left
pub moved : {stop : ℕ} {f : Standing} {c : Counts} {s : State} (ts : List Token) → Stands stop f c s → Stands stop f c (behind s ts)
moved ts h = record { at = h.at; brackets = h.brackets; functions = h.functions; claims = h.claims; variables = h.variables; operators = h.operators; calls = h.calls; end = h.end }

-- a token that is counted as nothing but where it leads
abbrev pub IsPlain : TokenKind → Type 0
IsPlain k = (c : Counts) → with_token k c ≡ record { at = behind_token k c.at; variables = c.variables; operators = c.operators; calls = c.calls }

-- counts behind a plain token
pub stands-plain : {stop : ℕ} {f g : Standing} {c : Counts} {s : State} (k : TokenKind) (ts : List Token) → IsPlain k → behind_token k f ≡ g → HasRoom g → Stands stop f c s → Stands stop g (with_token k c) (behind s ts)
stands-plain {c = c} k ts p e w h = record {
  at = ap (λ d. d.at) (p c) ∙ ap (behind_token k) h.at ∙ e;
  brackets = w.brackets;
  functions = w.functions;
  claims = w.claims;
  variables = rw (p c) h.variables;
  operators = rw (p c) h.operators;
  calls = rw (p c) h.calls;
  end = h.end;
}

-- behind a token that was counted
pub on-token : {A : Type 0} {stop : ℕ} {g : Standing} {Q : Counts → A × State → Type 0} {c : Counts} {s : State} (t : Token) (ts : List Token) (k : TokenKind) {r : Reading (A × State)} → t.kind ≡ k →
    Stands stop g (with_token k c) s → ((d : Counts) → Stands stop g d s → On stop Q d ts r) → On stop Q c (t ∷ ts) r
on-token {stop = stop} {g = g} {c = c} {s = s} t ts k e h n =
    let there : Stands stop g (with_token t.kind c) s = subst (λ i. Stands stop g (with_token i c) s) (sym e) h in
    on-step t ts (is-within there) (n (with_token t.kind c) there)
