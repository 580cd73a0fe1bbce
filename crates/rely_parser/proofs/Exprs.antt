-- Readings of expressions against the grammar.
use Rattle.std.proofs.Common.{◌≡◌, ℕ, zero, suc, ◌-◌, Bool, true, false, ◌==◌, List, [], ◌∷◌, length, Ok, Err, refl, ap, ◌∙◌, if◌then◌else◌}
use Rattle.std.proofs.lemmas.Bool.{eqb-true}
use Rattle.rely_num.specs.Texts.{Bytes}
use Rattle.rely_num.specs.declared.op.Op.{Op}
use Rattle.rely_num.specs.declared.span.Span.{Span}
use Rattle.rely_lexer.specs.declared.token.Token.{Token}
use Rattle.rely_lexer.specs.declared.token.TokenKind.{TokenKind}
use Rattle.rely_lexer.specs.declared.token.TokenKind.TheVariants as kind
use Rattle.rely_tree.specs.Tree.{IdentTree, NamedTree, FreeTree, PlainTree, ExprTree, NumTree, NameTree, ElemTree, BinTree}
use Rattle.rely_parser.specs.declared.fault.ParseFault.TheVariants as fault
use Rattle.rely_parser.specs.State.{State, Reading, Read, behind, place, ◌>>=◌, first_at, marked, skip_at, name_at, suffix_at, word_at, height, signed, operator_at}
use Rattle.rely_parser.specs.Grammar.{variable_at, prim_of, prim_at, kind_at, more_at, level_at, bracketed, expr_at}
use Rattle.rely_parser.specs.Productions.{Spells, Done, done, One, one, Then, seq, Or, either, other, Agree, Mark, ident_of, Suffix, Step, joined_left, Prim, number, scalar, element, inside, Level, operand, joined, Operands, last, operator, Expr}
use Rattle.rely_parser.proofs.Laws.{Can, On, At, at, at-token, at-then, at-deep, at-counted, can-then, can-map, on-map, on-done, on-none, on-token, on-then, on-same, on-either, on-other, on-choose}
use Rattle.rely_parser.proofs.Marks.{can-done, can-mark, can-name, marked-tests, tested, on-mark, on-mark-at, on-name}

pub free-from : (text : Bytes) (says : Span → Bytes) (s : State) (ts : List Token) → On (Then (Mark 63) (λ t. Done (FreeTree t.span))) (behind s ts) (skip_at 63 (behind s ts) >>= λ after. first_at (behind s ts) >>= λ x. Ok (FreeTree x.0.span, after))
free-from text says s [] = on-none (can-mark 63 (λ t. can-done _))
free-from text says s (t ∷ ts) =
    tested s t ts (marked 63 (behind s ts) t.span t.kind) (λ after. Ok (FreeTree t.span, after)) (marked-tests 63 (behind s ts) t.span t.kind) (can-mark 63 (λ t. can-done _)) (at on-done)

pub on-suffix : (text : Bytes) (says : Span → Bytes) (s : State) → Agree text says s.toks → On (Suffix says) s (suffix_at text s)
on-suffix text says s g =
    on-choose (skip_at 46 s) (λ after. name_at text after >>= λ n. Ok (NamedTree n.0, n.1))
    (on-either (on-mark text says 46 s g (λ t. can-then (can-name says) (λ n. can-done _)) (λ t a h. on-then text says h (on-name text says a h) (λ n. can-done _) (λ x i. on-done))))
    (on-other (on-choose (skip_at 63 s) (λ after. first_at s >>= λ x. Ok (FreeTree x.0.span, after)) (on-either (free-from text says s s.toks)) (on-other on-done)))

pub can-suffix : (says : Span → Bytes) → Can (Suffix says)
can-suffix says = can-map (λ ts rest a d. other (other d)) (can-done PlainTree)

pub on-kind : (text : Bytes) (says : Span → Bytes) (p : ℕ) (s : State) → Agree text says s.toks → At p (Suffix says) s (kind_at text p s)
unfolding kind_at
on-kind text says p s g =
    at-counted p s.variables (s.operators - 1) s.calls (s.operators == 0) (suffix_at text) (can-suffix says)
    (λ a. on-suffix text says (record { toks = s.toks; variables = s.variables; operators = s.operators - 1; calls = s.calls; end = s.end }) g)

pub can-prim : (says : Span → Bytes) → Can (Prim says)
can-prim says = record { word = record { kind = kind.Number 0; span = record { from = 0; to = 0 } } ∷ []; tree = NumTree 0; spells = λ tail. number refl }

pub can-level : (says : Span → Bytes) (h : ℕ) → Can (Level says h)
can-level says zero = can-map (λ ts rest a d. operand d) (can-prim says)
can-level says (suc h) = can-map (λ ts rest a d. joined d last refl) (can-level says h)

-- readings of what is in brackets
abbrev pub Inner : Bytes → (Span → Bytes) → (ℕ → Read ExprTree) → Type 0
Inner text says inner = (p : ℕ) (s : State) → Agree text says s.toks → At p (Expr says) s (inner p s)

-- what may stand behind a name
abbrev pub Indexed : (Span → Bytes) → IdentTree → Spells ExprTree
Indexed says name = Or (Then (Mark 91) (λ _. Then (Expr says) (λ i. Then (Mark 93) (λ _. Done (ElemTree name i))))) (Done (NameTree name))

pub on-variable : (text : Bytes) (says : Span → Bytes) (inner : ℕ → Read ExprTree) → Inner text says inner → (name : IdentTree) (s : State) → Agree text says s.toks → On (Indexed says name) s (variable_at inner name s)
on-variable text says inner h name s g =
    on-choose (skip_at 91 s) (λ after. inner (place s) after >>= λ i. skip_at 93 i.1 >>= λ end. Ok (ElemTree name i.0, end))
    (on-either (on-mark-at text says 91 s (λ p after. inner p after >>= λ i. skip_at 93 i.1 >>= λ end. Ok (ElemTree name i.0, end)) g (λ t. can-then (can-level says 7) (λ i. can-mark 93 (λ c. can-done _)))
    (λ t a k. at-then text says k (h t.span.from a k) (λ i. can-mark 93 (λ c. can-done _)) (λ x l. on-mark text says 93 x.1 l (λ c. can-done _) (λ c b m. on-done)))))
    (on-other on-done)

pub to-number : (says : Span → Bytes) (n : ℕ) (ts rest : List Token) (a : ExprTree) → Then (One (λ t. t.kind ≡ kind.Number n)) (λ _. Done (NumTree n)) ts rest a → Prim says ts rest a
to-number says n ts rest a (seq (one p) done) = number p

pub to-named : (says : Span → Bytes) (ts rest : List Token) (a : ExprTree) → Then (One (λ t. t.kind ≡ kind.Name)) (λ t. Indexed says (ident_of says t)) ts rest a → Prim says ts rest a
to-named says ts rest a (seq (one p) (either (seq (one q) (seq l (seq (one r) done))))) = element p q l r
to-named says ts rest a (seq (one p) (other done)) = scalar p

pub to-inside : (says : Span → Bytes) (ts rest : List Token) (a : ExprTree) → Then (Mark 40) (λ _. Then (Expr says) (λ i. Then (Mark 41) (λ _. Done i))) ts rest a → Prim says ts rest a
to-inside says ts rest a (seq (one p) (seq l (seq (one r) done))) = inside p l r

pub prim-mark : (text : Bytes) (says : Span → Bytes) (inner : ℕ → Read ExprTree) → Inner text says inner → (s : State) (t : Token) (ts : List Token) → Agree text says ts → (m : ℕ) → t.kind ≡ kind.Mark m → (b : Bool) → (m == 40) ≡ b →
    On (Prim says) (behind s (t ∷ ts)) (if b then (inner t.span.from (behind s ts) >>= λ i. skip_at 41 i.1 >>= λ end. Ok (i.0, end)) else Err (fault.Expected t.span.from))
prim-mark text says inner h s t ts g m e true q =
    on-map (to-inside says)
    (at-token s (e ∙ ap (λ n. kind.Mark n) (eqb-true m 40 q))
    (at-then text says g (h t.span.from (behind s ts) g) (λ i. can-mark 41 (λ c. can-done _)) (λ x l. on-mark text says 41 x.1 l (λ c. can-done _) (λ c b k. on-done))))
prim-mark text says inner h s t ts g m e false q = on-none (can-prim says)

pub prim-kind : (text : Bytes) (says : Span → Bytes) (inner : ℕ → Read ExprTree) → Inner text says inner → (s : State) (t : Token) (ts : List Token) → word_at text t.span ≡ says t.span → Agree text says ts →
    (k : TokenKind) → t.kind ≡ k → On (Prim says) (behind s (t ∷ ts)) (prim_of text inner (behind s ts) t.span k)
prim-kind text says inner h s t ts w g (kind.Number n) e = on-map (to-number says n) (on-token s e on-done)
prim-kind text says inner h s t ts w g kind.Name e =
    on-same (ap (λ x. variable_at inner (record { text = x; span = t.span }) (behind s ts)) w)
    (on-map (to-named says) (on-token s e (on-variable text says inner h (ident_of says t) (behind s ts) g)))
prim-kind text says inner h s t ts w g (kind.Mark m) e = prim-mark text says inner h s t ts g m e (m == 40) refl
prim-kind text says inner h s t ts w g _ e = on-none (can-prim says)

pub prim-from : (text : Bytes) (says : Span → Bytes) (inner : ℕ → Read ExprTree) → Inner text says inner → (s : State) (ts : List Token) → Agree text says ts → On (Prim says) (behind s ts) (prim_at text inner (behind s ts))
unfolding prim_at
prim-from text says inner h s [] g = on-none (can-prim says)
prim-from text says inner h s (t ∷ ts) g = prim-kind text says inner h s t ts g.0 g.1 t.kind refl

-- operators behind a left operand
pub data More (says : Span → Bytes) (h : ℕ) (left : ExprTree) : List Token → List Token → ExprTree → Type 0 where
  more : {ts rest : List Token} {steps : List Step} {whole : ExprTree} → Operands says h ts rest steps → joined_left left steps ≡ whole → More says h left ts rest whole

pub can-more : (says : Span → Bytes) (h : ℕ) (left : ExprTree) → Can (More says h left)
can-more says h left = record { word = []; tree = left; spells = λ tail. more last refl }

pub to-last : (says : Span → Bytes) (h : ℕ) (left : ExprTree) (ts rest : List Token) (a : ExprTree) → Done left ts rest a → More says h left ts rest a
to-last says h left ts rest a done = more last refl

-- an operator, its kind and the operand behind it, and more
abbrev pub Joining : (Span → Bytes) → ℕ → ExprTree → Op → Spells ExprTree
Joining says h left o =
    Then (One (λ t. (t.kind ≡ kind.Oper o) × (height o ≡ suc h))) (λ t. Then (Suffix says) (λ k. Then (Level says h) (λ r. More says h (BinTree o t.span k left r))))

pub to-more : (says : Span → Bytes) (h : ℕ) (left : ExprTree) (o : Op) (ts rest : List Token) (a : ExprTree) → Joining says h left o ts rest a → More says h left ts rest a
to-more says h left o ts rest a (seq (one p) (seq k (seq l (more steps e)))) = more (operator p.0 p.1 k l steps) e

-- what is read behind an operator
abbrev pub going : Bytes → ℕ → Read ExprTree → ℕ → ExprTree → ((Op × Span) × State) → Reading (ExprTree × State)
going text h next n left o = kind_at text o.0.1.from o.1 >>= λ k. next k.1 >>= λ r. more_at text h next n (BinTree o.0.0 o.0.1 k.0 left r.0) r.1

-- readings of operands
abbrev pub Next : Bytes → (Span → Bytes) → ℕ → Read ExprTree → Type 0
Next text says h next = (s : State) → Agree text says s.toks → On (Level says h) s (next s)

-- readings of more
abbrev pub Mores : Bytes → (Span → Bytes) → ℕ → Read ExprTree → ℕ → Type 0
Mores text says h next n = (left : ExprTree) (s : State) → Agree text says s.toks → On (More says h left) s (more_at text (suc h) next n left s)

pub more-oper : (text : Bytes) (says : Span → Bytes) (h : ℕ) (next : Read ExprTree) (n : ℕ) → Next text says h next → Mores text says h next n → (left : ExprTree) (s : State) (t : Token) (ts : List Token) → Agree text says ts →
    (o : Op) → t.kind ≡ kind.Oper o → (b : Bool) → (height o == suc h) ≡ b →
    On (More says h left) (behind s (t ∷ ts)) ((if b then Ok ((o, t.span), behind s ts) else Err (fault.Expected t.span.from)) >>= going text (suc h) next n left)
more-oper text says h next n i j left s t ts g o e true q =
    on-map (to-more says h left o)
    (at-token s (e, eqb-true (height o) (suc h) q)
    (at-then text says g (on-kind text says t.span.from (behind s ts) g) (λ k. can-then (can-level says h) (λ r. can-more says h _))
    (λ k a. on-then text says a (i k.1 a) (λ r. can-more says h _) (λ r b. j _ r.1 b))))
more-oper text says h next n i j left s t ts g o e false q = on-none (can-more says h left)

pub more-kind : (text : Bytes) (says : Span → Bytes) (h : ℕ) (next : Read ExprTree) (n : ℕ) → Next text says h next → Mores text says h next n → (left : ExprTree) (s : State) (t : Token) (ts : List Token) → Agree text says ts →
    (k : TokenKind) → t.kind ≡ k → On (More says h left) (behind s (t ∷ ts)) (signed (suc h) (behind s ts) t.span k >>= going text (suc h) next n left)
more-kind text says h next n i j left s t ts g (kind.Oper o) e = more-oper text says h next n i j left s t ts g o e (height o == suc h) refl
more-kind text says h next n i j left s t ts g _ e = on-none (can-more says h left)

pub more-from : (text : Bytes) (says : Span → Bytes) (h : ℕ) (next : Read ExprTree) (n : ℕ) → Next text says h next → Mores text says h next n → (left : ExprTree) (s : State) (ts : List Token) → Agree text says ts →
    On (More says h left) (behind s ts) (operator_at (suc h) (behind s ts) >>= going text (suc h) next n left)
more-from text says h next n i j left s [] g = on-none (can-more says h left)
more-from text says h next n i j left s (t ∷ ts) g = more-kind text says h next n i j left s t ts g.1 t.kind refl

pub on-more : (text : Bytes) (says : Span → Bytes) (h : ℕ) (next : Read ExprTree) → Next text says h next → (n : ℕ) → Mores text says h next n
unfolding more_at
on-more text says h next i zero left s g = on-map (to-last says h left) on-done
on-more text says h next i (suc n) left s g = on-choose (operator_at (suc h) s) (going text (suc h) next n left) (more-from text says h next n i (on-more text says h next i n) left s s.toks g) (on-map (to-last says h left) on-done)

pub to-joined : (says : Span → Bytes) (h : ℕ) (ts rest : List Token) (a : ExprTree) → Then (Level says h) (More says h) ts rest a → Level says (suc h) ts rest a
to-joined says h ts rest a (seq l (more steps e)) = joined l steps e

pub on-level : (text : Bytes) (says : Span → Bytes) (inner : ℕ → Read ExprTree) → Inner text says inner → (h : ℕ) (s : State) → Agree text says s.toks → On (Level says h) s (level_at text inner h s)
unfolding level_at
on-level text says inner i zero s g = on-map (λ ts rest a d. operand d) (prim-from text says inner i s s.toks g)
on-level text says inner i (suc h) s g =
    on-map (to-joined says h)
    (on-then text says g (on-level text says inner i h s g) (can-more says h) (λ x a. on-more text says h (level_at text inner h) (on-level text says inner i h) (length x.1.toks) x.0 x.1 a))

pub on-bracketed : (text : Bytes) (says : Span → Bytes) (d : ℕ) → Inner text says (bracketed text d)
unfolding bracketed
on-bracketed text says zero p s g = at-deep (can-level says 7)
on-bracketed text says (suc d) p s g = at (on-level text says (bracketed text d) (on-bracketed text says d) 7 s g)

pub on-expr : (text : Bytes) (says : Span → Bytes) (d : ℕ) (s : State) → Agree text says s.toks → On (Expr says) s (expr_at text d s)
on-expr text says d s g = on-level text says (bracketed text d) (on-bracketed text says d) 7 s g
