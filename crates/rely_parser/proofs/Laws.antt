-- Laws of readings against relations: what was read is spelled, and where a reading stops it can go on.
use Rattle.std.proofs.Common.{◌≡◌, ℕ, List, [], ◌∷◌, ◌++◌, Ok, Err, refl, ap, sym, ◌∙◌, subst, Bool, true, false, if◌then◌else◌}
use Rattle.rely_num.specs.Texts.{Bytes}
use Rattle.rely_num.specs.declared.span.Span.{Span}
use Rattle.rely_lexer.specs.declared.token.Token.{Token}
use Rattle.rely_parser.specs.declared.fault.ParseFault.TheVariants as fault
use Rattle.rely_parser.specs.State.{State, Reading, behind, place, place_from, ◌>>=◌, choose}
use Rattle.rely_parser.specs.Productions.{Spells, Done, done, One, one, Then, seq, Or, either, other, Agree}

-- some tokens spell something
pub record Can {A : Type 0} (D : Spells A) : Type 0 where
  pub word : List Token
  pub tree : A
  pub spells : (tail : List Token) → D (word ++ tail) tail tree

-- the tokens up to the rest spell a
pub record Reached {A : Type 0} (D : Spells A) (toks : List Token) (stop : ℕ) (a : A) (r : State) : Type 0 where
  pub front : List Token
  pub split : toks ≡ front ++ r.toks
  pub end : r.end ≡ stop
  pub spells : (tail : List Token) → D (front ++ tail) tail a

-- the tokens before p can go on to spell something
pub record Begun {A : Type 0} (D : Spells A) (toks : List Token) (stop : ℕ) (p : ℕ) : Type 0 where
  pub front : List Token
  pub bad : List Token
  pub split : toks ≡ front ++ bad
  pub stands : place_from stop bad ≡ p
  pub more : List Token
  pub tree : A
  pub spells : (tail : List Token) → D (front ++ (more ++ tail)) tail tree

-- the place of the last token, or q before all of them
abbrev pub last_place : ℕ → List Token → ℕ
last_place q [] = q
last_place q (t ∷ ts) = last_place t.span.from ts

-- the tokens up to the one at p, which meets a limit, can go on to spell something
pub record Halted {A : Type 0} (D : Spells A) (toks : List Token) (q p : ℕ) : Type 0 where
  pub front : List Token
  pub rest : List Token
  pub split : toks ≡ front ++ rest
  pub stands : last_place q front ≡ p
  pub more : List Token
  pub tree : A
  pub spells : (tail : List Token) → D (front ++ (more ++ tail)) tail tree

-- what is read from s, behind a token at q, is spelled; what is expected there would go on, and so would what meets a limit
abbrev pub Answer : {A : Type 0} → ℕ → Spells A → State → Reading (A × State) → Type 0
Answer q D s (Ok x) = Reached D s.toks s.end x.0 x.1
Answer q D s (Err (fault.Expected p)) = Begun D s.toks s.end p
Answer q D s (Err (fault.Deep p)) = Halted D s.toks q p
Answer q D s (Err (fault.Many p)) = Halted D s.toks q p
Answer q D s (Err fault.Memory) = Unit {0}

-- the same as one word, behind a token at q
pub record At {A : Type 0} (q : ℕ) (D : Spells A) (s : State) (r : Reading (A × State)) : Type 0 where
  pub holds : Answer q D s r

-- the same behind any token
pub record On {A : Type 0} (D : Spells A) (s : State) (r : Reading (A × State)) : Type 0 where
  pub each : (q : ℕ) → Answer q D s r

pub at : {A : Type 0} {q : ℕ} {D : Spells A} {s : State} {r : Reading (A × State)} → On D s r → At q D s r
at {q = q} h = record { holds = h.each q }

pub last_append : (q : ℕ) (xs ys : List Token) → last_place q (xs ++ ys) ≡ last_place (last_place q xs) ys
last_append q [] ys = refl
last_append q (x ∷ xs) ys = last_append x.span.from xs ys

pub assoc : (xs ys zs : List Token) → (xs ++ ys) ++ zs ≡ xs ++ (ys ++ zs)
assoc [] ys zs = refl
assoc (x ∷ xs) ys zs = ap (λ l. x ∷ l) (assoc xs ys zs)

pub agree_behind : (text : Bytes) (says : Span → Bytes) (xs ys : List Token) → Agree text says (xs ++ ys) → Agree text says ys
agree_behind text says [] ys g = g
agree_behind text says (x ∷ xs) ys g = agree_behind text says xs ys g.1

pub can-then : {A B : Type 0} {D : Spells A} {E : A → Spells B} → Can D → ((a : A) → Can (E a)) → Can (Then D E)
can-then {D = D} {E = E} c d =
    let n = d c.tree in
    record {
      word = c.word ++ n.word;
      tree = n.tree;
      spells = λ tail. subst (λ l. Then D E l tail n.tree) (sym (assoc c.word n.word tail)) (seq (c.spells (n.word ++ tail)) (n.spells tail));
    }

pub can-map : {A : Type 0} {D E : Spells A} → ((ts rest : List Token) (a : A) → D ts rest a → E ts rest a) → Can D → Can E
can-map f c = record { word = c.word; tree = c.tree; spells = λ tail. f _ _ _ (c.spells tail) }

pub answer-map : {A : Type 0} (q : ℕ) (D E : Spells A) → ((ts rest : List Token) (a : A) → D ts rest a → E ts rest a) → (s : State) (r : Reading (A × State)) → Answer q D s r → Answer q E s r
answer-map q D E f s (Ok x) h = record { front = h.front; split = h.split; end = h.end; spells = λ tail. f _ _ _ (h.spells tail) }
answer-map q D E f s (Err (fault.Expected p)) h = record { front = h.front; bad = h.bad; split = h.split; stands = h.stands; more = h.more; tree = h.tree; spells = λ tail. f _ _ _ (h.spells tail) }
answer-map q D E f s (Err (fault.Deep p)) h = record { front = h.front; rest = h.rest; split = h.split; stands = h.stands; more = h.more; tree = h.tree; spells = λ tail. f _ _ _ (h.spells tail) }
answer-map q D E f s (Err (fault.Many p)) h = record { front = h.front; rest = h.rest; split = h.split; stands = h.stands; more = h.more; tree = h.tree; spells = λ tail. f _ _ _ (h.spells tail) }
answer-map q D E f s (Err fault.Memory) h = h

pub on-map : {A : Type 0} {D E : Spells A} {s : State} {r : Reading (A × State)} → ((ts rest : List Token) (a : A) → D ts rest a → E ts rest a) → On D s r → On E s r
on-map {D = D} {E = E} {s = s} {r = r} f h = record { each = λ q. answer-map q D E f s r (h.each q) }

pub at-map : {A : Type 0} {q : ℕ} {D E : Spells A} {s : State} {r : Reading (A × State)} → ((ts rest : List Token) (a : A) → D ts rest a → E ts rest a) → At q D s r → At q E s r
at-map {q = q} {D = D} {E = E} {s = s} {r = r} f h = record { holds = answer-map q D E f s r h.holds }

pub on-done : {A : Type 0} {a : A} {s : State} → On (Done a) s (Ok (a, s))
on-done = record { each = λ q. record { front = []; split = refl; end = refl; spells = λ tail. done } }

-- nothing is read
pub on-none : {A : Type 0} {D : Spells A} {s : State} → Can D → On D s (Err (fault.Expected (place s)))
on-none {s = s} c = record { each = λ q. record { front = []; bad = s.toks; split = refl; stands = refl; more = c.word; tree = c.tree; spells = c.spells } }

-- behind what was read
pub answer-after : {A B : Type 0} (q : ℕ) (D : Spells A) (E : A → Spells B) (s : State) (a : A) (m : State) (h : Reached D s.toks s.end a m) (r : Reading (B × State)) → Answer (last_place q h.front) (E a) m r → Answer q (Then D E) s r
answer-after q D E s a m h (Ok x) n = record {
  front = h.front ++ n.front;
  split = h.split ∙ ap (λ l. h.front ++ l) n.split ∙ sym (assoc h.front n.front x.1.toks);
  end = n.end ∙ h.end;
  spells = λ tail. subst (λ l. Then D E l tail x.0) (sym (assoc h.front n.front tail)) (seq (h.spells (n.front ++ tail)) (n.spells tail));
}
answer-after q D E s a m h (Err (fault.Expected p)) n = record {
  front = h.front ++ n.front;
  bad = n.bad;
  split = h.split ∙ ap (λ l. h.front ++ l) n.split ∙ sym (assoc h.front n.front n.bad);
  stands = ap (λ e. place_from e n.bad) (sym h.end) ∙ n.stands;
  more = n.more;
  tree = n.tree;
  spells = λ tail. subst (λ l. Then D E l tail n.tree) (sym (assoc h.front n.front (n.more ++ tail))) (seq (h.spells (n.front ++ (n.more ++ tail))) (n.spells tail));
}
answer-after q D E s a m h (Err (fault.Deep p)) n = record {
  front = h.front ++ n.front;
  rest = n.rest;
  split = h.split ∙ ap (λ l. h.front ++ l) n.split ∙ sym (assoc h.front n.front n.rest);
  stands = last_append q h.front n.front ∙ n.stands;
  more = n.more;
  tree = n.tree;
  spells = λ tail. subst (λ l. Then D E l tail n.tree) (sym (assoc h.front n.front (n.more ++ tail))) (seq (h.spells (n.front ++ (n.more ++ tail))) (n.spells tail));
}
answer-after q D E s a m h (Err (fault.Many p)) n = record {
  front = h.front ++ n.front;
  rest = n.rest;
  split = h.split ∙ ap (λ l. h.front ++ l) n.split ∙ sym (assoc h.front n.front n.rest);
  stands = last_append q h.front n.front ∙ n.stands;
  more = n.more;
  tree = n.tree;
  spells = λ tail. subst (λ l. Then D E l tail n.tree) (sym (assoc h.front n.front (n.more ++ tail))) (seq (h.spells (n.front ++ (n.more ++ tail))) (n.spells tail));
}
answer-after q D E s a m h (Err fault.Memory) n = n

pub answer-then : {A B : Type 0} (q : ℕ) (D : Spells A) (E : A → Spells B) (text : Bytes) (says : Span → Bytes) (s : State) (r : Reading (A × State)) (k : A × State → Reading (B × State)) →
    Agree text says s.toks → Answer q D s r → ((a : A) → Can (E a)) → ((x : A × State) → Agree text says x.1.toks → (o : ℕ) → Answer o (E x.0) x.1 (k x)) → Answer q (Then D E) s (r >>= k)
answer-then q D E text says s (Ok x) k g h c n = answer-after q D E s x.0 x.1 h (k x) (n x (agree_behind text says h.front x.1.toks (subst (Agree text says) h.split g)) (last_place q h.front))
answer-then q D E text says s (Err (fault.Expected p)) k g h c n =
    let d = c h.tree in
    record {
      front = h.front;
      bad = h.bad;
      split = h.split;
      stands = h.stands;
      more = h.more ++ d.word;
      tree = d.tree;
      spells = λ tail. subst (λ l. Then D E (h.front ++ l) tail d.tree) (sym (assoc h.more d.word tail)) (seq (h.spells (d.word ++ tail)) (d.spells tail));
    }
answer-then q D E text says s (Err (fault.Deep p)) k g h c n =
    let d = c h.tree in
    record {
      front = h.front;
      rest = h.rest;
      split = h.split;
      stands = h.stands;
      more = h.more ++ d.word;
      tree = d.tree;
      spells = λ tail. subst (λ l. Then D E (h.front ++ l) tail d.tree) (sym (assoc h.more d.word tail)) (seq (h.spells (d.word ++ tail)) (d.spells tail));
    }
answer-then q D E text says s (Err (fault.Many p)) k g h c n =
    let d = c h.tree in
    record {
      front = h.front;
      rest = h.rest;
      split = h.split;
      stands = h.stands;
      more = h.more ++ d.word;
      tree = d.tree;
      spells = λ tail. subst (λ l. Then D E (h.front ++ l) tail d.tree) (sym (assoc h.more d.word tail)) (seq (h.spells (d.word ++ tail)) (d.spells tail));
    }
answer-then q D E text says s (Err fault.Memory) k g h c n = h

-- one behind the other
pub on-then : {A B : Type 0} {D : Spells A} {E : A → Spells B} (text : Bytes) (says : Span → Bytes) {s : State} {r : Reading (A × State)} {k : A × State → Reading (B × State)} →
    Agree text says s.toks → On D s r → ((a : A) → Can (E a)) → ((x : A × State) → Agree text says x.1.toks → On (E x.0) x.1 (k x)) → On (Then D E) s (r >>= k)
on-then {D = D} {E = E} text says {s = s} {r = r} {k = k} g h c n = record { each = λ q. answer-then q D E text says s r k g (h.each q) c (λ x a. let o = n x a in o.each) }

pub at-then : {A B : Type 0} {q : ℕ} {D : Spells A} {E : A → Spells B} (text : Bytes) (says : Span → Bytes) {s : State} {r : Reading (A × State)} {k : A × State → Reading (B × State)} →
    Agree text says s.toks → At q D s r → ((a : A) → Can (E a)) → ((x : A × State) → Agree text says x.1.toks → On (E x.0) x.1 (k x)) → At q (Then D E) s (r >>= k)
at-then {q = q} {D = D} {E = E} text says {s = s} {r = r} {k = k} g h c n = record { holds = answer-then q D E text says s r k g h.holds c (λ x a. let o = n x a in o.each) }

-- a token that is there, and what is behind it
pub at-token : {B : Type 0} {Sort : Token → Type 0} {E : Token → Spells B} (s : State) {t : Token} {rest : List Token} {r : Reading (B × State)} → Sort t → At t.span.from (E t) (behind s rest) r → On (Then (One Sort) E) (behind s (t ∷ rest)) r
at-token {Sort = Sort} {E = E} s {t = t} {rest = rest} {r = r} p h =
    record { each = λ q. answer-after q (One Sort) E (behind s (t ∷ rest)) t (behind s rest) (record { front = t ∷ []; split = refl; end = refl; spells = λ tail. one p }) r h.holds }

pub on-token : {B : Type 0} {Sort : Token → Type 0} {E : Token → Spells B} (s : State) {t : Token} {rest : List Token} {r : Reading (B × State)} → Sort t → On (E t) (behind s rest) r → On (Then (One Sort) E) (behind s (t ∷ rest)) r
on-token s p h = at-token s p (at h)

-- a reading that comes to the same
pub on-same : {A : Type 0} {D : Spells A} {s : State} {q r : Reading (A × State)} → q ≡ r → On D s r → On D s q
on-same {D = D} {s = s} e h = subst (On D s) (sym e) h

pub on-either : {A : Type 0} {D E : Spells A} {s : State} {r : Reading (A × State)} → On D s r → On (Or D E) s r
on-either h = on-map (λ ts rest a d. either d) h

pub on-other : {A : Type 0} {D E : Spells A} {s : State} {r : Reading (A × State)} → On E s r → On (Or D E) s r
on-other h = on-map (λ ts rest a d. other d) h

pub at-same : {A : Type 0} {p : ℕ} {D : Spells A} {s : State} {q r : Reading (A × State)} → q ≡ r → At p D s r → At p D s q
at-same {p = p} {D = D} {s = s} e h = subst (At p D s) (sym e) h

pub at-deep : {A : Type 0} {D : Spells A} {s : State} {p : ℕ} → Can D → At p D s (Err (fault.Deep p))
at-deep {s = s} c = record { holds = record { front = []; rest = s.toks; split = refl; stands = refl; more = c.word; tree = c.tree; spells = c.spells } }

pub at-many : {A : Type 0} {D : Spells A} {s : State} {p : ℕ} → Can D → At p D s (Err (fault.Many p))
at-many {s = s} c = record { holds = record { front = []; rest = s.toks; split = refl; stands = refl; more = c.word; tree = c.tree; spells = c.spells } }

choose-from : {A C : Type 0} {D : Spells A} {s : State} (r : Reading C) (f : C → Reading (A × State)) {g : Reading (A × State)} → On D s (r >>= f) → On D s g → On D s (choose r f g)
choose-from (Ok x) f h i = h
choose-from (Err e) f h i = i

-- one of two, by what comes first
pub on-choose : {A C : Type 0} {D : Spells A} {s : State} (r : Reading C) (f : C → Reading (A × State)) {g : Reading (A × State)} → On D s (r >>= f) → On D s g → On D s (choose r f g)
on-choose r f h i = choose-from r f h i

-- counts don't matter
pub on-move : {A : Type 0} {D : Spells A} {s : State} {r : Reading (A × State)} (v o c : ℕ) → On D (record { toks = s.toks; variables = v; operators = o; calls = c; end = s.end }) r → On D s r
on-move v o c h = record { each = h.each }

pub at-counted : {A : Type 0} {D : Spells A} {s : State} (p v o c : ℕ) (b : Bool) (k : State → Reading (A × State)) → Can D →
    ((a : State) → On D (record { toks = s.toks; variables = v; operators = o; calls = c; end = s.end }) (k (record { toks = s.toks; variables = v; operators = o; calls = c; end = s.end }))) →
    At p D s ((if b then Err (fault.Many p) else Ok (record { toks = s.toks; variables = v; operators = o; calls = c; end = s.end })) >>= k)
at-counted p v o c true k d h = at-many d
at-counted {s = s} p v o c false k d h = at (on-move v o c (h s))
