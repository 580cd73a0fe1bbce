-- What a reading of a source says, from the grammar.
use Rattle.std.proofs.Common.{◌<◌, length, ◌≡◌, ℕ, ◌≤◌, List, [], ◌∷◌, ◌++◌, ◌⊎◌, inl, inr, Result, Ok, Err, IfOk, IfErr, refl, ap, sym, subst, ◌∙◌, arith}
use Rattle.rely_num.specs.Texts.{Bytes}
use Rattle.rely_num.specs.declared.span.Span.{Span}
use Rattle.rely_lexer.specs.Readings.{AreTokensFrom}
use Rattle.rely_lexer.specs.declared.token.Token.{Token}
use Rattle.rely_num.specs.declared.word.Word.TheVariants as word
use Rattle.rely_tree.specs.declared.unit.Unit as declared
use Rattle.rely_tree.specs.Limits.{IsUnit}
use Rattle.rely_tree.specs.Marks.{IsMarked}
use Rattle.rely_tree.specs.Shape.{unit_shape}
use Rattle.rely_tree.specs.Tree.{FuncTree, UnitTree}
use Rattle.rely_parser.specs.declared.fault.ParseFault.{ParseFault}
use Rattle.rely_parser.specs.declared.fault.ParseFault.TheVariants as fault
use Rattle.rely_parser.specs.State.{place_from, State, Reading, end_of, ◌>>=◌}
use Rattle.rely_parser.specs.Units.{functions_at, whole, unit_of}
use Rattle.rely_parser.specs.Counts.{Counts, nothing, with_token, with_tokens, IsDeep, IsCrowded, IsWithin, AllWithin, PassesFirst}
use Rattle.rely_parser.specs.Productions.{Spells, Agree, OneOrMore, Func, Spelled, Begins, Reaches, Refuses, AreOf, NoUnit}
use Rattle.rely_parser.proofs.LimitsUnits.{parsed_unit}
use Rattle.rely_parser.proofs.MarkedUnits.{marked_unit}
use Rattle.rely_parser.proofs.Laws.{Answer, Halted, last_place, assoc}
use Rattle.rely_parser.proofs.Meets.{Run, Share, at_last, before, Stopped, Goes}
use Rattle.rely_parser.proofs.Wholly.{meet-functions}
use Rattle.rely_parser.proofs.Finds.{Behind, here, later}
use Rattle.rely_parser.specs.Productions.{NoneBegins, Reaches, Misplaced}
use Rattle.rely_parser.proofs.Wholes.{Gives, gives}
use Rattle.rely_parser.proofs.Counting.{Paused, Passed}
use Rattle.rely_parser.proofs.CountingSources.{Limited, limited}
use Rattle.rely_parser.proofs.Sources.{on-functions, says_within, top, agree-within, spare-within, agree_front}

-- a unit begins with the tokens before the one at p
pub record GoesTo (text : Bytes) (toks : List Token) (p : ℕ) : Type 0 where
  pub front : List Token
  pub bad : List Token
  pub split : toks ≡ front ++ bad
  pub stands : place_from (end_of text) bad ≡ p
  pub begins : Begins text front

-- a unit begins with the tokens up to the one at p, itself included
pub record Comes (text : Bytes) (toks : List Token) (p : ℕ) : Type 0 where
  pub front : List Token
  pub token : Token
  pub rest : List Token
  pub split : toks ≡ front ++ token ∷ rest
  pub stands : token.span.from ≡ p
  pub begins : Begins text (front ++ token ∷ [])

-- what a reading of a source says
abbrev pub Judged : Bytes → List Token → Reading UnitTree → Type 0
Judged text toks (Ok u) = Spelled text toks u
Judged text toks (Err (fault.Expected p)) = GoesTo text toks p
Judged text toks (Err (fault.Deep p)) = Comes text toks p
Judged text toks (Err (fault.Many p)) = Comes text toks p
Judged text toks (Err fault.Memory) = Unit {0}

abbrev pub Functions : (Span → Bytes) → Spells (List FuncTree)
Functions says = OneOrMore word.Fn (Func says)

pub judge-whole : (text : Bytes) (says : Span → Bytes) (toks : List Token) → Agree text says toks → (fs : List FuncTree) (front : List Token) → ((tail : List Token) → Functions says (front ++ tail) tail fs) →
    (rest : List Token) → toks ≡ front ++ rest → Judged text toks (whole fs rest)
judge-whole text says toks g fs front h [] e = record { says = says; agree = g; spells = subst (λ l. Functions says l [] fs) (sym e) (h []) }
judge-whole text says toks g fs front h (t ∷ ts) e = record {
  front = front;
  bad = t ∷ ts;
  split = e;
  stands = refl;
  begins = record { says = says; agree = agree_front text says front (t ∷ ts) (subst (Agree text says) e g); more = []; tree = record { functions = fs }; spells = h [] };
}

-- the last of some tokens
record Last (xs : List Token) : Type 0 where
  init : List Token
  token : Token
  is : xs ≡ init ++ token ∷ []
  place : (q : ℕ) → last_place q xs ≡ token.span.from

last-of : (x : Token) (xs : List Token) → Last (x ∷ xs)
last-of x [] = record { init = []; token = x; is = refl; place = λ q. refl }
last-of x (y ∷ ys) =
    let l = last-of y ys in
    record { init = x ∷ l.init; token = l.token; is = ap (λ zs. x ∷ zs) l.is; place = λ q. l.place x.span.from }

reach : (text : Bytes) (toks : List Token) (p q : ℕ) (x : Token) (xs rest : List Token) → toks ≡ (x ∷ xs) ++ rest → last_place q (x ∷ xs) ≡ p → Begins text (x ∷ xs) → Comes text toks p
reach text toks p q x xs rest e stands b =
    let l = last-of x xs in
    record {
      front = l.init;
      token = l.token;
      rest = rest;
      split = e ∙ ap (λ ys. ys ++ rest) l.is ∙ assoc l.init (l.token ∷ []) rest;
      stands = sym (l.place q) ∙ stands;
      begins = subst (Begins text) l.is b;
    }

begins-halted : (text : Bytes) (says : Span → Bytes) (toks : List Token) → Agree text says toks → (q p : ℕ) (h : Halted (Functions says) toks q p) → Begins text h.front
begins-halted text says toks g q p h =
    record { says = says; agree = agree_front text says h.front h.rest (subst (Agree text says) h.split g); more = h.more ++ []; tree = record { functions = h.tree }; spells = h.spells [] }

reach-by : (text : Bytes) (toks : List Token) (p : ℕ) (xs ys rest more : List Token) → toks ≡ xs ++ rest → toks ≡ ys ++ more → last_place 0 xs ≡ p → last_place 1 ys ≡ p → Begins text xs → Begins text ys → Comes text toks p
reach-by text toks p [] [] rest more e f i j b c = absurd (omega (arith, i, j))
reach-by text toks p [] (y ∷ ys) rest more e f i j b c = reach text toks p 1 y ys more f j c
reach-by text toks p (x ∷ xs) ys rest more e f i j b c = reach text toks p 0 x xs rest e i b

reaches : (text : Bytes) (says : Span → Bytes) (toks : List Token) → Agree text says toks → (p : ℕ) → ((q : ℕ) → Halted (Functions says) toks q p) → Comes text toks p
reaches text says toks g p h =
    let a = h 0 in
    let b = h 1 in
    reach-by text toks p a.front b.front a.rest b.rest a.split b.split a.stands b.stands (begins-halted text says toks g 0 p a) (begins-halted text says toks g 1 p b)

pub judge-functions : (text : Bytes) (says : Span → Bytes) (toks : List Token) → Agree text says toks → (r : Reading (List FuncTree × State)) →
    ((q : ℕ) → Answer q (Functions says) (record { toks = toks; variables = 0; operators = 0; calls = 0; end = end_of text }) r) → Judged text toks (r >>= λ y. whole y.0 y.1.toks)
judge-functions text says toks g (Ok x) f = let h = f 0 in judge-whole text says toks g x.0 h.front h.spells x.1.toks h.split
judge-functions text says toks g (Err (fault.Expected p)) f =
    let h = f 0 in
    record {
      front = h.front;
      bad = h.bad;
      split = h.split;
      stands = h.stands;
      begins = record { says = says; agree = agree_front text says h.front h.bad (subst (Agree text says) h.split g); more = h.more ++ []; tree = record { functions = h.tree }; spells = h.spells [] };
    }
judge-functions text says toks g (Err (fault.Deep p)) f = reaches text says toks g p f
judge-functions text says toks g (Err (fault.Many p)) f = reaches text says toks g p f
judge-functions text says toks g (Err fault.Memory) f = tt {0}

pub judged : (text : Bytes) (toks : List Token) → Judged text toks (unit_of text toks)
unfolding unit_of
judged text toks =
    let says = says_within (top toks) text in
    let g = agree-within (top toks) text toks (omega arith) in
    let s : State = record { toks = toks; variables = 0; operators = 0; calls = 0; end = end_of text } in
    let o = on-functions text says (spare-within (top toks) text) s g in
    judge-functions text says toks g (functions_at text s) o.each

pub spelled_of : (text : Bytes) (toks : List Token) (u : UnitTree) → unit_of text toks ≡ Ok u → Spelled text toks u
spelled_of text toks u e = subst (Judged text toks) e (judged text toks)

-- a reading of a source gets beyond
abbrev Lands : Run → Reading UnitTree → Type 0
Lands w (Err (fault.Expected p)) = Stopped w p
Lands w _ = Unit {0}

abbrev Some_left : List Token → Type 0
Some_left [] = ⊥
Some_left (t ∷ ts) = Unit {0}

share-left : (w : Run) (ss ts : List Token) → Share w ss ts → Some_left ts
share-left w ss ts (at_last a) = tt {0}
share-left w ss ts (before a sh) = tt {0}

lands-whole : (w : Run) (fs : List FuncTree) (ts : List Token) → Behind w.tail ts → Lands w (whole fs ts)
lands-whole w fs [] b = tt {0}
lands-whole w fs (t ∷ ts) b = record { bad = t ∷ ts; beyond = b; stands = refl }

lands-along : (w : Run) (fs : List FuncTree) (ts : List Token) → Share w ts [] ⊎ Behind w.tail ts → Lands w (whole fs ts)
lands-along w fs ts (inl sh) = absurd (share-left w ts [] sh)
lands-along w fs ts (inr b) = lands-whole w fs ts b

lands-functions : (w : Run) (r : Reading (List FuncTree × State)) → Goes w [] r → Lands w (r >>= λ y. whole y.0 y.1.toks)
lands-functions w (Ok x) h = lands-along w x.0 x.1.toks h.is
lands-functions w (Err (fault.Expected p)) h = h
lands-functions w (Err (fault.Deep p)) h = h
lands-functions w (Err (fault.Many p)) h = h
lands-functions w (Err fault.Memory) h = h

share-front : (w : Run) (front : List Token) (t : Token) (more : List Token) → Agree w.text w.says (front ++ t ∷ []) → Share w (front ++ t ∷ w.tail) ((front ++ t ∷ []) ++ more)
share-front w [] t more g = at_last g.0
share-front w (x ∷ xs) t more g = before g.0 (share-front w xs t more g.1)

-- where a unit begins with the tokens up to t, a source that goes on with others is refused behind t
lands : (text : Bytes) (front : List Token) (t : Token) (rest : List Token) (b : Begins text (front ++ t ∷ [])) → Lands (record { text = text; says = b.says; tail = rest; stop = end_of text }) (unit_of text (front ++ t ∷ rest))
unfolding unit_of
lands text front t rest b =
    let w : Run = record { text = text; says = b.says; tail = rest; stop = end_of text } in
    let s : State = record { toks = front ++ t ∷ rest; variables = 0; operators = 0; calls = 0; end = end_of text } in
    let m = meet-functions w s ((front ++ t ∷ []) ++ b.more) b.tree.functions b.spells (record { end = refl; is = inl (share-front w front t b.more b.agree) }) in
    lands-functions w (functions_at text s) m.goes

-- the places of the tokens rise, and the text ends behind them
abbrev Rises : ℕ → List Token → Type 0
Rises stop [] = Unit {0}
Rises stop (t ∷ ts) = (t.span.from < place_from stop ts) × Rises stop ts

end-is : (text : Bytes) → length text ≤ 65536 → end_of text ≡ length text
end-is text h = omega (arith, h)

rises-of : (text : Bytes) (place : ℕ) (ts : List Token) → length text ≤ 65536 → AreTokensFrom text place ts → Rises (end_of text) ts
rises-of text place [] h d = tt {0}
rises-of text place (t ∷ []) h d = let e = end-is text h in let a = d.1 in let b = d.2 in (omega (arith, a, b, e), tt {0})
rises-of text place (t ∷ u ∷ ts) h d =
    let a = d.1 in
    let r = d.6 in
    let b = r.0 in
    (omega (arith, a, b), rises-of text t.span.to (u ∷ ts) h r)

rises-behind : (end : ℕ) (ts bad : List Token) → Behind ts bad → Rises end ts → place_from end ts ≤ place_from end bad
rises-behind end ts bad here r = omega arith
rises-behind end ts bad (later {ts = l} b) r = let o = rises-behind end l bad b r.1 in let p = r.0 in omega (arith, o, p)

rises-front : (end : ℕ) (front ts : List Token) → Rises end (front ++ ts) → Rises end ts
rises-front end [] ts r = r
rises-front end (x ∷ xs) ts r = rises-front end xs ts r.1

none-begins : (text : Bytes) (toks front bad : List Token) (p : ℕ) → toks ≡ front ++ bad → place_from (end_of text) bad ≡ p → unit_of text toks ≡ Err (fault.Expected p) → Rises (end_of text) toks → NoneBegins text front bad
none-begins text toks front [] p e q u r = tt {0}
none-begins text toks front (t ∷ rest) p e q u r = λ b.
    let w : Run = record { text = text; says = b.says; tail = rest; stop = end_of text } in
    let d : Stopped w p = subst (Lands w) (ap (unit_of text) (sym e) ∙ u) (lands text front t rest b) in
    let up = rises-front (end_of text) front (t ∷ rest) (subst (Rises (end_of text)) e r) in
    let less = up.0 in
    let far = rises-behind (end_of text) rest d.bad d.beyond up.1 in
    let at = d.stands in
    absurd (omega (arith, less, far, at, q))

-- the same place in rising tokens is the same split of them
record Same (f g b c : List Token) : Type 0 where
  front : f ≡ g
  rest : b ≡ c

rises-after : (stop : ℕ) (xs ys : List Token) → Rises stop (xs ++ ys) → place_from stop (xs ++ ys) ≤ place_from stop ys
rises-after stop [] ys r = omega arith
rises-after stop (x ∷ xs) ys r = let o = rises-after stop xs ys r.1 in let p = r.0 in omega (arith, o, p)

split-same : (stop : ℕ) (f g b c : List Token) → Rises stop (f ++ b) → f ++ b ≡ g ++ c → place_from stop b ≡ place_from stop c → Same f g b c
split-same stop [] [] b c r e p = record { front = refl; rest = e }
split-same stop [] (y ∷ ys) b c r e p =
    let up : Rises stop (y ∷ (ys ++ c)) = subst (Rises stop) e r in
    let less = up.0 in
    let far = rises-after stop ys c up.1 in
    let at = ap (place_from stop) e in
    absurd (omega (arith, less, far, at, p))
split-same stop (x ∷ xs) [] b c r e p =
    let less = r.0 in
    let far = rises-after stop xs b r.1 in
    let at = ap (place_from stop) e in
    absurd (omega (arith, less, far, at, p))
split-same stop (x ∷ xs) (y ∷ ys) b c r e p =
    let head : x ≡ y = cc in
    let tail : xs ++ b ≡ ys ++ c = cc in
    let s = split-same stop xs ys b c r.1 tail p in
    record { front = ap (λ z. z ∷ xs) head ∙ ap (λ zs. y ∷ zs) s.front; rest = s.rest }

split-of : (text : Bytes) (toks f g b c : List Token) → AreOf text toks → toks ≡ f ++ b → toks ≡ g ++ c → place_from (end_of text) b ≡ place_from (end_of text) c → Same f g b c
split-of text toks f g b c d e h p = split-same (end_of text) f g b c (subst (Rises (end_of text)) e (rises-of text 0 toks d.0 d.1)) (sym e ∙ h) p

within-before : (text : Bytes) (toks : List Token) (p : ℕ) (g : GoesTo text toks p) → Paused (end_of text) nothing toks p → AreOf text toks → AllWithin nothing g.front
within-before text toks p g h d =
    let s = split-of text toks h.front g.front h.bad g.bad d h.split g.split (h.stands ∙ sym g.stands) in
    subst (AllWithin nothing) s.front h.within

misplaced : (text : Bytes) (toks : List Token) (p : ℕ) → unit_of text toks ≡ Err (fault.Expected p) → GoesTo text toks p → Paused (end_of text) nothing toks p → Misplaced text toks p
misplaced text toks p e g h = record {
  front = g.front;
  bad = g.bad;
  split = g.split;
  stands = g.stands;
  begins = g.begins;
  none = λ d. none-begins text toks g.front g.bad p g.split g.stands e (rises-of text 0 toks d.0 d.1);
  within = within-before text toks p g h;
  whole = λ u d. subst (Gives u) e (gives text toks u d);
}

passes-first : (Over : Counts → Type 0) (text : Bytes) (toks : List Token) (p : ℕ) (g : Comes text toks p) → Passed Over nothing toks p → AreOf text toks → PassesFirst Over g.front g.token
passes-first Over text toks p g h d =
    let s = split-of text toks h.front g.front (h.token ∷ h.rest) (g.token ∷ g.rest) d h.split g.split (h.stands ∙ sym g.stands) in
    let rest = s.rest in
    let token : h.token ≡ g.token = cc in
    record {
      before = subst (AllWithin nothing) s.front h.within;
      over = subst (λ t. Over (with_token t.kind (with_tokens g.front nothing))) token (subst (λ f. Over (with_token h.token.kind (with_tokens f nothing))) s.front h.over);
    }

reached : (Over : Counts → Type 0) (text : Bytes) (toks : List Token) (p : ℕ) → Comes text toks p → Passed Over nothing toks p → Reaches Over text toks p
reached Over text toks p g h =
    record { front = g.front; token = g.token; rest = g.rest; split = g.split; stands = g.stands; begins = g.begins; passes = passes-first Over text toks p g h }

pub refuses_of : (text : Bytes) (toks : List Token) (f : ParseFault) → unit_of text toks ≡ Err f → Refuses text toks f
refuses_of text toks (fault.Expected p) e = misplaced text toks p e (subst (Judged text toks) e (judged text toks)) (subst (Limited text toks) e (limited text toks))
refuses_of text toks (fault.Deep p) e = reached IsDeep text toks p (subst (Judged text toks) e (judged text toks)) (subst (Limited text toks) e (limited text toks))
refuses_of text toks (fault.Many p) e = reached IsCrowded text toks p (subst (Judged text toks) e (judged text toks)) (subst (Limited text toks) e (limited text toks))
refuses_of text toks fault.Memory e = tt {0}

-- ---- units within the limits

pub within-at : (c : Counts) (front : List Token) (t : Token) (rest : List Token) → AllWithin c (front ++ t ∷ rest) → IsWithin (with_token t.kind (with_tokens front c))
within-at c [] t rest w = w.0
within-at c (x ∷ xs) t rest w = within-at (with_token x.kind c) xs t rest w.1

pub not-deep : (c : Counts) → IsWithin c → IsDeep c → ⊥
not-deep c w o = let few = w.brackets in absurd (omega (arith, few, o))

pub not-crowded : (c : Counts) → IsWithin c → IsCrowded c → ⊥
not-crowded c w (inl o) = let few = w.functions in absurd (omega (arith, few, o))
not-crowded c w (inr (inl o)) = let few = w.claims in absurd (omega (arith, few, o))
not-crowded c w (inr (inr (inl o))) = let few = w.variables in absurd (omega (arith, few, o))
not-crowded c w (inr (inr (inr (inl o)))) = let few = w.operators in absurd (omega (arith, few, o))
not-crowded c w (inr (inr (inr (inr o)))) = let few = w.calls in absurd (omega (arith, few, o))

within-split : (toks front : List Token) (t : Token) (rest : List Token) → toks ≡ front ++ t ∷ rest → AllWithin nothing toks → IsWithin (with_token t.kind (with_tokens front nothing))
within-split toks front t rest e w = within-at nothing front t rest (subst (AllWithin nothing) e w)

no-unit : (text : Bytes) (toks : List Token) (r : Reading UnitTree) → ((u : UnitTree) → Spelled text toks u → Gives u r) → Limited text toks r → IfErr r (λ e. (e ≡ fault.Memory) ⊎ NoUnit text toks)
no-unit text toks (Ok u) g l = tt {0}
no-unit text toks (Err (fault.Expected p)) g l = inr (λ u d w. g u d)
no-unit text toks (Err (fault.Deep p)) g l = inr (λ u d w. not-deep _ (within-split toks l.front l.token l.rest l.split w) l.over)
no-unit text toks (Err (fault.Many p)) g l = inr (λ u d w. not-crowded _ (within-split toks l.front l.token l.rest l.split w) l.over)
no-unit text toks (Err fault.Memory) g l = inl refl

pub only_of : (text : Bytes) (toks : List Token) (u : UnitTree) → unit_of text toks ≡ Ok u → (v : UnitTree) → Spelled text toks v → v ≡ u
only_of text toks u e v d = sym (subst (Gives v) e (gives text toks v d))

pub spelled-if : (text : Bytes) (toks : List Token) (r : Result declared.Unit ParseFault) → IfOk r (λ u. unit_of text toks ≡ Ok (unit_shape u)) → IfOk r (λ u. Spelled text toks (unit_shape u))
spelled-if text toks (Ok u) h = spelled_of text toks (unit_shape u) h
spelled-if text toks (Err e) h = h

pub refuses-or : (text : Bytes) (toks : List Token) (e : ParseFault) → (e ≡ fault.Memory) ⊎ (unit_of text toks ≡ Err e) → Refuses text toks e
refuses-or text toks e (inl m) = subst (Refuses text toks) (sym m) (tt {0})
refuses-or text toks e (inr f) = refuses_of text toks e f

pub refuses-if : (text : Bytes) (toks : List Token) (r : Result declared.Unit ParseFault) → IfErr r (λ e. (e ≡ fault.Memory) ⊎ (unit_of text toks ≡ Err e)) → IfErr r (Refuses text toks)
refuses-if text toks (Ok u) h = h
refuses-if text toks (Err e) h = refuses-or text toks e h

pub only-if : (text : Bytes) (toks : List Token) (r : Result declared.Unit ParseFault) → IfOk r (λ u. unit_of text toks ≡ Ok (unit_shape u)) →
    IfOk r (λ u. (v : UnitTree) → Spelled text toks v → v ≡ unit_shape u)
only-if text toks (Ok u) h = only_of text toks (unit_shape u) h
only-if text toks (Err e) h = h

no-unit-or : (text : Bytes) (toks : List Token) (e : ParseFault) → (e ≡ fault.Memory) ⊎ (unit_of text toks ≡ Err e) → (e ≡ fault.Memory) ⊎ NoUnit text toks
no-unit-or text toks e (inl m) = inl m
no-unit-or text toks e (inr f) = subst (λ r. IfErr r (λ e. (e ≡ fault.Memory) ⊎ NoUnit text toks)) f (no-unit text toks (unit_of text toks) (λ u d. gives text toks u d) (limited text toks))

pub no-unit-if : (text : Bytes) (toks : List Token) (r : Result declared.Unit ParseFault) → IfErr r (λ e. (e ≡ fault.Memory) ⊎ (unit_of text toks ≡ Err e)) → IfErr r (λ e. (e ≡ fault.Memory) ⊎ NoUnit text toks)
no-unit-if text toks (Ok u) h = h
no-unit-if text toks (Err e) h = no-unit-or text toks e h

pub within-if : (text : Bytes) (toks : List Token) (r : Result declared.Unit ParseFault) → IfOk r (λ u. unit_of text toks ≡ Ok (unit_shape u)) → IfOk r (λ u. AllWithin nothing toks)
within-if text toks (Ok u) h = subst (Limited text toks) h (limited text toks)
within-if text toks (Err e) h = h

pub unit-if : (text : Bytes) (toks : List Token) (r : Result declared.Unit ParseFault) → IfOk r (λ u. unit_of text toks ≡ Ok (unit_shape u)) →
    IfOk r (λ u. AreTokensFrom text 0 toks → IsUnit (unit_shape u))
unit-if text toks (Ok u) h = λ lexed. parsed_unit text toks (unit_shape u) lexed h
unit-if text toks (Err e) h = h

pub marks-if : (text : Bytes) (toks : List Token) (r : Result declared.Unit ParseFault) → IfOk r (λ u. unit_of text toks ≡ Ok (unit_shape u)) →
    IfOk r (λ u. AreTokensFrom text 0 toks → IsMarked text (unit_shape u))
marks-if text toks (Ok u) h = λ lexed. marked_unit text toks (unit_shape u) lexed (spelled_of text toks (unit_shape u) h)
marks-if text toks (Err e) h = h

pub ruleset sources = (spelled-if, only-if, refuses-if, no-unit-if)
