-- The tokens of a text have one answer, that of the readers.
use Rattle.std.proofs.Common.{◌≡◌, ℕ, List, [], ◌∷◌, ◌++◌, Ok, Err, ap, sym, subst, ◌∙◌, arith}
use Rattle.rely_num.specs.Texts.{Bytes}
use Rattle.rely_lexer.specs.declared.token.Token.{Token}
use Rattle.rely_lexer.specs.declared.token.TokenKind.{TokenKind}
use Rattle.rely_lexer.specs.declared.token.TokenKind.TheVariants as kind
use Rattle.rely_num.specs.declared.word.Word.TheVariants as word
use Rattle.rely_tree.specs.Tree.{UnitTree}
use Rattle.rely_parser.specs.declared.fault.ParseFault.{ParseFault}
use Rattle.rely_parser.specs.declared.fault.ParseFault.TheVariants as fault
use Rattle.rely_parser.specs.Counts.{Counts, nothing, with_token, with_tokens, IsDeep, IsCrowded, IsWithin, AllWithin}
use Rattle.rely_parser.specs.State.{Reading, place_from, end_of}
use Rattle.rely_parser.specs.Units.{unit_of}
use Rattle.rely_parser.specs.Productions.{IsUnit, Spelled, Begins, AreOf, NoneBegins}
use Rattle.rely_parser.specs.OneAnswer.{IsAnswer, OneAnswer}
use Rattle.rely_parser.proofs.Laws.{assoc}
use Rattle.rely_parser.proofs.Sources.{agree_front}
use Rattle.rely_parser.proofs.Wholes.{Gives, gives}
use Rattle.rely_parser.proofs.CountingSources.{Limited, limited}
use Rattle.rely_parser.proofs.Verdicts.{within-at, not-deep, not-crowded}

-- ---- what a refusal says of the tokens in front and behind

-- the next token goes on with a unit, and passes a limit
abbrev Overruns : (Counts → Type 0) → Bytes → List Token → List Token → Type 0
Overruns Over text front [] = ⊥
Overruns Over text front (t ∷ ts) = Begins text (front ++ t ∷ []) × Over (with_token t.kind (with_tokens front nothing))

abbrev Ends : Bytes → List Token → List Token → ParseFault → Type 0
Ends text front bad (fault.Expected p) = NoneBegins text front bad
Ends text front bad (fault.Deep p) = Overruns IsDeep text front bad
Ends text front bad (fault.Many p) = Overruns IsCrowded text front bad
Ends text front bad fault.Memory = ⊥

abbrev place_of : ParseFault → ℕ
place_of (fault.Expected p) = p
place_of (fault.Deep p) = p
place_of (fault.Many p) = p
place_of fault.Memory = 0

record Cut (text : Bytes) (toks : List Token) (f : ParseFault) : Type 0 where
  front : List Token
  bad : List Token
  split : toks ≡ front ++ bad
  place : place_from (end_of text) bad ≡ place_of f
  within : AllWithin nothing front
  begins : Begins text front
  ends : Ends text front bad f

-- a unit begins with the first of some tokens with which one begins
begins-front : (text : Bytes) (xs ys : List Token) → Begins text (xs ++ ys) → Begins text xs
begins-front text xs ys b = record {
  says = b.says;
  agree = agree_front text b.says xs ys b.agree;
  more = ys ++ b.more;
  tree = b.tree;
  spells = subst (λ l. IsUnit b.says l b.tree) (assoc xs ys b.more) b.spells;
}

cut-of : (text : Bytes) (toks : List Token) (f : ParseFault) → AreOf text toks → IsAnswer text toks (Err f) → Cut text toks f
cut-of text toks (fault.Expected p) d r = record { front = r.front; bad = r.bad; split = r.split; place = r.stands; within = r.within d; begins = r.begins; ends = r.none d }
cut-of text toks (fault.Deep p) d r =
    let o = r.passes d in
    record { front = r.front; bad = r.token ∷ r.rest; split = r.split; place = r.stands; within = o.before; begins = begins-front text r.front (r.token ∷ []) r.begins; ends = (r.begins, o.over) }
cut-of text toks (fault.Many p) d r =
    let o = r.passes d in
    record { front = r.front; bad = r.token ∷ r.rest; split = r.split; place = r.stands; within = o.before; begins = begins-front text r.front (r.token ∷ []) r.begins; ends = (r.begins, o.over) }
cut-of text toks fault.Memory d r = absurd r

-- ---- two of them

-- two splits of the same tokens
data Compared : List Token → List Token → List Token → List Token → Type 0 where
  same : {f b : List Token} → Compared f b f b
  shorter : {f b : List Token} (t : Token) (more : List Token) → Compared f (t ∷ (more ++ b)) (f ++ t ∷ more) b
  longer : {f b : List Token} (t : Token) (more : List Token) → Compared (f ++ t ∷ more) b f (t ∷ (more ++ b))

compared-cons : (x : Token) {f b g c : List Token} → Compared f b g c → Compared (x ∷ f) b (x ∷ g) c
compared-cons x same = same
compared-cons x (shorter t more) = shorter t more
compared-cons x (longer t more) = longer t more

compare : (f b g c : List Token) → f ++ b ≡ g ++ c → Compared f b g c
compare [] b [] c e = subst (Compared [] b []) e same
compare [] b (y ∷ ys) c e = subst (λ l. Compared [] l (y ∷ ys) c) (sym e) (shorter y ys)
compare (x ∷ xs) b [] c e = subst (Compared (x ∷ xs) b []) e (longer x xs)
compare (x ∷ xs) b (y ∷ ys) c e =
    let head : x ≡ y = cc in
    let tail : xs ++ b ≡ ys ++ c = cc in
    subst (λ z. Compared (x ∷ xs) b (z ∷ ys) c) head (compared-cons x (compare xs b ys c tail))

-- a refusal's next token, which goes on with a unit, passes a limit
stuck : (text : Bytes) (front : List Token) (t : Token) (rest : List Token) (f : ParseFault) → Ends text front (t ∷ rest) f → Begins text (front ++ t ∷ []) → IsWithin (with_token t.kind (with_tokens front nothing)) → ⊥
stuck text front t rest (fault.Expected p) e b w = e b
stuck text front t rest (fault.Deep p) e b w = not-deep _ w e.1
stuck text front t rest (fault.Many p) e b w = not-crowded _ w e.1
stuck text front t rest fault.Memory e b w = e

-- none refuses before another
not-before : (text : Bytes) (front : List Token) (t : Token) (more rest : List Token) (f : ParseFault) → Ends text front (t ∷ rest) f → Begins text (front ++ t ∷ more) → AllWithin nothing (front ++ t ∷ more) → ⊥
not-before text front t more rest f e b w =
    stuck text front t rest f e (begins-front text (front ++ t ∷ []) more (subst (Begins text) (sym (assoc front (t ∷ []) more)) b)) (within-at nothing front t more w)

-- ---- a token passes one limit

all-within : (c : Counts) (ts : List Token) → IsWithin c → AllWithin c ts → IsWithin (with_tokens ts c)
all-within c [] w h = w
all-within c (t ∷ ts) w h = all-within (with_token t.kind c) ts h.0 h.1

within-nothing : IsWithin nothing
within-nothing = record { brackets = omega arith; functions = omega arith; claims = omega arith; variables = omega arith; operators = omega arith; calls = omega arith }

-- what is no mark opens no bracket
not-both : (c : Counts) (k : TokenKind) → IsWithin c → IsDeep (with_token k c) → IsCrowded (with_token k c) → ⊥
not-both c (kind.Mark m) w d o = not-crowded c w o
not-both c (kind.Word word.Fn) w d o = not-deep c w d
not-both c (kind.Word word.Call) w d o = not-deep c w d
not-both c (kind.Word word.Claim) w d o = not-deep c w d
not-both c (kind.Word word.Var) w d o = not-deep c w d
not-both c (kind.Word _) w d o = not-deep c w d
not-both c kind.Name w d o = not-deep c w d
not-both c (kind.Oper p) w d o = not-deep c w d
not-both c (kind.Number n) w d o = not-deep c w d
not-both c kind.Decimal w d o = not-deep c w d

one-kind : (text : Bytes) (front bad : List Token) (f g : ParseFault) → AllWithin nothing front → place_of f ≡ place_of g → Ends text front bad f → Ends text front bad g → f ≡ g
one-kind text front bad (fault.Expected p) (fault.Expected q) w e h i = ap (λ n. fault.Expected n) e
one-kind text front (t ∷ ts) (fault.Expected p) (fault.Deep q) w e h i = absurd (h i.0)
one-kind text front [] (fault.Expected p) (fault.Deep q) w e h i = absurd i
one-kind text front (t ∷ ts) (fault.Expected p) (fault.Many q) w e h i = absurd (h i.0)
one-kind text front [] (fault.Expected p) (fault.Many q) w e h i = absurd i
one-kind text front (t ∷ ts) (fault.Deep p) (fault.Expected q) w e h i = absurd (i h.0)
one-kind text front [] (fault.Deep p) (fault.Expected q) w e h i = absurd h
one-kind text front bad (fault.Deep p) (fault.Deep q) w e h i = ap (λ n. fault.Deep n) e
one-kind text front (t ∷ ts) (fault.Deep p) (fault.Many q) w e h i = absurd (not-both (with_tokens front nothing) t.kind (all-within nothing front within-nothing w) h.1 i.1)
one-kind text front [] (fault.Deep p) (fault.Many q) w e h i = absurd h
one-kind text front (t ∷ ts) (fault.Many p) (fault.Expected q) w e h i = absurd (i h.0)
one-kind text front [] (fault.Many p) (fault.Expected q) w e h i = absurd h
one-kind text front (t ∷ ts) (fault.Many p) (fault.Deep q) w e h i = absurd (not-both (with_tokens front nothing) t.kind (all-within nothing front within-nothing w) i.1 h.1)
one-kind text front [] (fault.Many p) (fault.Deep q) w e h i = absurd h
one-kind text front bad (fault.Many p) (fault.Many q) w e h i = ap (λ n. fault.Many n) e
one-kind text front bad fault.Memory g w e h i = absurd h
one-kind text front bad (fault.Expected p) fault.Memory w e h i = absurd i
one-kind text front bad (fault.Deep p) fault.Memory w e h i = absurd i
one-kind text front bad (fault.Many p) fault.Memory w e h i = absurd i

-- ---- one refusal

meet : (text : Bytes) (f g : ParseFault) (front bad front' bad' : List Token) → Compared front bad front' bad' → place_from (end_of text) bad ≡ place_of f → place_from (end_of text) bad' ≡ place_of g →
    AllWithin nothing front → AllWithin nothing front' → Begins text front → Begins text front' → Ends text front bad f → Ends text front' bad' g → f ≡ g
meet text f g front bad front' bad' same p q w v b c h i = one-kind text front bad f g w (sym p ∙ q) h i
meet text f g front bad front' bad' (shorter {f = x} {b = y} t more) p q w v b c h i = absurd (not-before text x t more (more ++ y) f h c v)
meet text f g front bad front' bad' (longer {f = x} {b = y} t more) p q w v b c h i = absurd (not-before text x t more (more ++ y) g i b w)

one-refusal : (text : Bytes) (toks : List Token) (f g : ParseFault) → Cut text toks f → Cut text toks g → f ≡ g
one-refusal text toks f g x y = meet text f g x.front x.bad y.front y.bad (compare x.front x.bad y.front y.bad (sym x.split ∙ y.split)) x.place y.place x.within y.within x.begins y.begins x.ends y.ends

-- ---- one answer

-- a unit within the limits is not refused
not-refused : (text : Bytes) (toks : List Token) (u : UnitTree) (f : ParseFault) → AreOf text toks → Spelled text toks u → AllWithin nothing toks → IsAnswer text toks (Err f) → ⊥
not-refused text toks u (fault.Expected p) d s w r = r.whole u s
not-refused text toks u (fault.Deep p) d s w r = let o = r.passes d in not-deep _ (within-at nothing r.front r.token r.rest (subst (AllWithin nothing) r.split w)) o.over
not-refused text toks u (fault.Many p) d s w r = let o = r.passes d in not-crowded _ (within-at nothing r.front r.token r.rest (subst (AllWithin nothing) r.split w)) o.over
not-refused text toks u fault.Memory d s w r = r

-- two trees that are spelled within the limits
same-tree : (text : Bytes) (toks : List Token) (u v : UnitTree) → AllWithin nothing toks → (r : Reading UnitTree) → Gives u r → Gives v r → Limited text toks r → u ≡ v
same-tree text toks u v w (Ok x) a b l = sym a ∙ b
same-tree text toks u v w (Err (fault.Expected p)) a b l = absurd a
same-tree text toks u v w (Err (fault.Deep p)) a b l = absurd (not-deep _ (within-at nothing l.front l.token l.rest (subst (AllWithin nothing) l.split w)) l.over)
same-tree text toks u v w (Err (fault.Many p)) a b l = absurd (not-crowded _ (within-at nothing l.front l.token l.rest (subst (AllWithin nothing) l.split w)) l.over)
same-tree text toks u v w (Err fault.Memory) a b l = absurd l

pub one : OneAnswer
one text toks (Ok u) (Ok v) d a b = ap (λ x. Ok x) (same-tree text toks u v a.1 (unit_of text toks) (gives text toks u a.0) (gives text toks v b.0) (limited text toks))
one text toks (Ok u) (Err f) d a b = absurd (not-refused text toks u f d a.0 a.1 b)
one text toks (Err f) (Ok u) d a b = absurd (not-refused text toks u f d b.0 b.1 a)
one text toks (Err f) (Err g) d a b = ap (λ x. Err x) (one-refusal text toks f g (cut-of text toks f d a) (cut-of text toks g d b))
