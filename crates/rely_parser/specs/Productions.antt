-- The grammar: a relation holds of tokens, the tokens behind, and the tree that the tokens between them spell. What a span says is a parameter.
use Rattle.std.specs.Prelude.{◌≡◌, ℕ, zero, suc, ◌≤◌, List, [], length, ◌∷◌, ◌++◌, Option, Some, None, Ok, IsTrue}
use Rattle.rely_num.specs.Texts.{Bytes}
use Rattle.rely_num.specs.AttoTexts.{atto_of}
use Rattle.rely_num.specs.declared.op.Op.{Op}
use Rattle.rely_num.specs.declared.op.Op.TheVariants as op
use Rattle.rely_num.specs.declared.span.Span.{Span}
use Rattle.rely_lexer.specs.Readings.{AreTokensFrom}
use Rattle.rely_lexer.specs.declared.token.Token.{Token}
use Rattle.rely_lexer.specs.declared.token.TokenKind.TheVariants as kind
use Rattle.rely_num.specs.declared.word.Word.{Word}
use Rattle.rely_num.specs.declared.word.Word.TheVariants as word
use Rattle.rely_tree.specs.Tree.{IdentTree, KindTree, PlainTree, NamedTree, FreeTree, ExprTree, NumTree, NameTree, ElemTree, BinTree, StmtTree, SetTree, SetElemTree, IfTree, WhileTree, RepeatTree, CallTree, ReturnTree, Block, ended, also, DeclTree, SaidTree, FuncTree, UnitTree}
use Rattle.rely_parser.specs.declared.fault.ParseFault.{ParseFault}
use Rattle.rely_parser.specs.declared.fault.ParseFault.TheVariants as fault
use Rattle.rely_parser.specs.Counts.{Counts, nothing, AllWithin, IsDeep, IsCrowded, PassesFirst}
use Rattle.rely_parser.specs.State.{height, word_at, end_of, place_from}
use Rattle.rely_parser.specs.Units.{is_amount}

abbrev pub Spells : Type 0 → Type 1
Spells A = List Token → List Token → A → Type 0

-- no token
pub data Done {A : Type 0} (a : A) : List Token → List Token → A → Type 0 where
  done : {ts : List Token} → Done a ts ts a

-- one token of a sort
pub data One (Sort : Token → Type 0) : List Token → List Token → Token → Type 0 where
  one : {t : Token} {rest : List Token} → Sort t → One Sort (t ∷ rest) rest t

-- one behind the other
pub data Then {A B : Type 0} (first : List Token → List Token → A → Type 0) (next : A → List Token → List Token → B → Type 0) : List Token → List Token → B → Type 0 where
  seq : {ts mid rest : List Token} {a : A} {b : B} → first ts mid a → next a mid rest b → Then first next ts rest b

-- one of two
pub data Or {A : Type 0} (left right : List Token → List Token → A → Type 0) : List Token → List Token → A → Type 0 where
  either : {ts rest : List Token} {a : A} → left ts rest a → Or left right ts rest a
  other : {ts rest : List Token} {a : A} → right ts rest a → Or left right ts rest a

abbrev pub Mark : ℕ → Spells Token
Mark m = One (λ t. t.kind ≡ kind.Mark m)

abbrev pub Reserved : Word → Spells Token
Reserved w = One (λ t. t.kind ≡ kind.Word w)

abbrev pub Sign : Op → Spells Token
Sign o = One (λ t. t.kind ≡ kind.Oper o)

abbrev pub ident_of : (Span → Bytes) → Token → IdentTree
ident_of says t = record { text = says t.span; span = t.span }

abbrev pub Name : (Span → Bytes) → Spells IdentTree
Name says = Then (One (λ t. t.kind ≡ kind.Name)) (λ t. Done (ident_of says t))

-- what is behind an item of a list with commas, up to behind the closing bracket
pub data Tail {A : Type 0} (item : List Token → List Token → A → Type 0) : List Token → List Token → List A → Type 0 where
  closed : {t : Token} {rest : List Token} → t.kind ≡ kind.Mark 41 → Tail item (t ∷ rest) rest []
  comma : {t : Token} {ts mid rest : List Token} {x : A} {xs : List A} → t.kind ≡ kind.Mark 44 → item ts mid x → Tail item mid rest xs → Tail item (t ∷ ts) rest (x ∷ xs)

-- a list with commas, maybe empty, up to behind the closing bracket
pub data Listed {A : Type 0} (item : List Token → List Token → A → Type 0) : List Token → List Token → List A → Type 0 where
  empty : {t : Token} {rest : List Token} → t.kind ≡ kind.Mark 41 → Listed item (t ∷ rest) rest []
  items : {ts mid rest : List Token} {x : A} {xs : List A} → item ts mid x → Tail item mid rest xs → Listed item ts rest (x ∷ xs)

-- any number of items, each behind the same word
pub data Each {A : Type 0} (w : Word) (item : List Token → List Token → A → Type 0) : List Token → List Token → List A → Type 0 where
  none : {ts : List Token} → Each w item ts ts []
  another : {t : Token} {ts mid rest : List Token} {x : A} {xs : List A} → t.kind ≡ kind.Word w → item ts mid x → Each w item mid rest xs → Each w item (t ∷ ts) rest (x ∷ xs)

-- one item or more, each behind the same word
abbrev pub OneOrMore : {A : Type 0} → Word → Spells A → Spells (List A)
OneOrMore w item = Then (Reserved w) (λ _. Then item (λ x. Then (Each w item) (λ xs. Done (x ∷ xs))))

-- what may stand behind an operator
abbrev pub Suffix : (Span → Bytes) → Spells KindTree
Suffix says =
    Or (Then (Mark 46) (λ _. Then (Name says) (λ n. Done (NamedTree n))))
    (Or (Then (Mark 63) (λ t. Done (FreeTree t.span))) (Done PlainTree))

-- an operator with its place and its kind, and the operand behind it
pub record Step : Type 0 where
  pub oper : Op
  pub span : Span
  pub kind : KindTree
  pub right : ExprTree

-- operands joined from the left
abbrev pub joined_left : ExprTree → List Step → ExprTree
joined_left e [] = e
joined_left e (x ∷ xs) = joined_left (BinTree x.oper x.span x.kind e x.right) xs

mutual
  -- an operand
  pub data Prim (says : Span → Bytes) : List Token → List Token → ExprTree → Type 0 where
    number : {t : Token} {rest : List Token} {n : ℕ} → t.kind ≡ kind.Number n → Prim says (t ∷ rest) rest (NumTree n)
    scalar : {t : Token} {rest : List Token} → t.kind ≡ kind.Name → Prim says (t ∷ rest) rest (NameTree (ident_of says t))
    element : {t b c : Token} {ts rest : List Token} {i : ExprTree} → t.kind ≡ kind.Name → b.kind ≡ kind.Mark 91 → Level says 7 ts (c ∷ rest) i → c.kind ≡ kind.Mark 93 →
        Prim says (t ∷ b ∷ ts) rest (ElemTree (ident_of says t) i)
    inside : {b c : Token} {ts rest : List Token} {e : ExprTree} → b.kind ≡ kind.Mark 40 → Level says 7 ts (c ∷ rest) e → c.kind ≡ kind.Mark 41 → Prim says (b ∷ ts) rest e

  -- an expression whose operators outside brackets bind at most so loosely: expressions of the next tighter level, joined from the left
  pub data Level (says : Span → Bytes) : ℕ → List Token → List Token → ExprTree → Type 0 where
    operand : {ts rest : List Token} {e : ExprTree} → Prim says ts rest e → Level says zero ts rest e
    joined : {h : ℕ} {ts mid rest : List Token} {e whole : ExprTree} {steps : List Step} → Level says h ts mid e → Operands says h mid rest steps → joined_left e steps ≡ whole →
        Level says (suc h) ts rest whole

  -- operators of one level, each with the operand behind it
  pub data Operands (says : Span → Bytes) : ℕ → List Token → List Token → List Step → Type 0 where
    last : {h : ℕ} {ts : List Token} → Operands says h ts ts []
    operator : {h : ℕ} {t : Token} {o : Op} {ts mid next rest : List Token} {k : KindTree} {r : ExprTree} {steps : List Step} → t.kind ≡ kind.Oper o → height o ≡ suc h →
        Suffix says ts mid k → Level says h mid next r → Operands says h next rest steps →
        Operands says h (t ∷ ts) rest (record { oper = o; span = t.span; kind = k; right = r } ∷ steps)

-- a whole expression
abbrev pub Expr : (Span → Bytes) → Spells ExprTree
Expr says = Level says 7

-- a number of turns
pub data Count : List Token → List Token → ℕ → Type 0 where
  turns : {t : Token} {rest : List Token} {n : ℕ} → t.kind ≡ kind.Number n → n ≤ 4294967295 → Count (t ∷ rest) rest n

mutual
  -- a statement
  pub data Stmt (says : Span → Bytes) : List Token → List Token → StmtTree → Type 0 where
    set : {t q c : Token} {ts rest : List Token} {e : ExprTree} → t.kind ≡ kind.Name → q.kind ≡ kind.Mark 61 → Expr says ts (c ∷ rest) e → c.kind ≡ kind.Mark 59 →
        Stmt says (t ∷ q ∷ ts) rest (SetTree t.span (ident_of says t) e)
    set_element : {t b d q c : Token} {ts next rest : List Token} {i e : ExprTree} → t.kind ≡ kind.Name → b.kind ≡ kind.Mark 91 → Expr says ts (d ∷ q ∷ next) i → d.kind ≡ kind.Mark 93 →
        q.kind ≡ kind.Mark 61 → Expr says next (c ∷ rest) e → c.kind ≡ kind.Mark 59 → Stmt says (t ∷ b ∷ ts) rest (SetElemTree t.span (ident_of says t) i e)
    call : {t q w n b c : Token} {ts rest : List Token} {es : List ExprTree} → t.kind ≡ kind.Name → q.kind ≡ kind.Mark 61 → w.kind ≡ kind.Word word.Call → n.kind ≡ kind.Name → b.kind ≡ kind.Mark 40 →
        Listed (Expr says) ts (c ∷ rest) es → c.kind ≡ kind.Mark 59 → Stmt says (t ∷ q ∷ w ∷ n ∷ b ∷ ts) rest (CallTree t.span (ident_of says t) w.span (ident_of says n) es)
    choice : {w b c : Token} {ts next after rest : List Token} {e : ExprTree} {held otherwise : Block} → w.kind ≡ kind.Word word.If → b.kind ≡ kind.Mark 40 → Expr says ts (c ∷ next) e → c.kind ≡ kind.Mark 41 →
        Braces says next after held → Else says after rest otherwise → Stmt says (w ∷ b ∷ ts) rest (IfTree w.span e held otherwise)
    loop : {w b c m : Token} {ts next after rest : List Token} {e : ExprTree} {n : ℕ} {body : Block} → w.kind ≡ kind.Word word.While → b.kind ≡ kind.Mark 40 → Expr says ts (c ∷ m ∷ next) e → c.kind ≡ kind.Mark 41 →
        m.kind ≡ kind.Word word.Max → Count next after n → Braces says after rest body → Stmt says (w ∷ b ∷ ts) rest (WhileTree w.span e n body)
    repeat : {w : Token} {ts next rest : List Token} {n : ℕ} {body : Block} → w.kind ≡ kind.Word word.Repeat → Count ts next n → Braces says next rest body → Stmt says (w ∷ ts) rest (RepeatTree w.span n body)

  -- a block
  pub data Braces (says : Span → Bytes) : List Token → List Token → Block → Type 0 where
    braces : {b : Token} {ts rest : List Token} {body : Block} → b.kind ≡ kind.Mark 123 → Stmts says ts rest body → Braces says (b ∷ ts) rest body

  -- statements up to behind the closing brace
  pub data Stmts (says : Span → Bytes) : List Token → List Token → Block → Type 0 where
    end : {c : Token} {rest : List Token} → c.kind ≡ kind.Mark 125 → Stmts says (c ∷ rest) rest ended
    next : {ts mid rest : List Token} {s : StmtTree} {b : Block} → Stmt says ts mid s → Stmts says mid rest b → Stmts says ts rest (also s b)

  -- what stands behind an if's block
  pub data Else (says : Span → Bytes) : List Token → List Token → Block → Type 0 where
    absent : {ts : List Token} → Else says ts ts ended
    present : {w : Token} {ts rest : List Token} {b : Block} → w.kind ≡ kind.Word word.Else → Braces says ts rest b → Else says (w ∷ ts) rest b

-- the length of an array, none for a scalar
pub data Array : List Token → List Token → Option ℕ → Type 0 where
  single : {ts : List Token} → Array ts ts None
  elements : {b t c : Token} {rest : List Token} {n : ℕ} → b.kind ≡ kind.Mark 91 → t.kind ≡ kind.Number n → 1 ≤ n → n ≤ 4096 → c.kind ≡ kind.Mark 93 → Array (b ∷ t ∷ c ∷ rest) rest (Some n)

-- a memory that is written
abbrev pub Written : (Span → Bytes) → Spells KindTree
Written says = Or (Then (Name says) (λ n. Done (NamedTree n))) (Then (Mark 63) (λ t. Done (FreeTree t.span)))

abbrev pub Memory : (Span → Bytes) → Spells KindTree
Memory says = Or (Then (Reserved word.In) (λ _. Written says)) (Done PlainTree)

-- a variable
abbrev pub Var : (Span → Bytes) → Spells DeclTree
Var says = Then (Name says) (λ n. Then Array (λ l. Then (Memory says) (λ m. Done (record { name = n; length = l; memory = m }))))

-- a local variable behind its word
abbrev pub Local : (Span → Bytes) → Spells DeclTree
Local says = Then (Var says) (λ d. Then (Mark 59) (λ _. Done d))

-- what a claim speaks of: a variable, none for the result
abbrev pub Target : (Span → Bytes) → Spells (Option IdentTree)
Target says = Or (Then (Reserved word.Result) (λ _. Done None)) (Then (Name says) (λ n. Done (Some n)))

-- a number or a decimal that is a probability
pub data Bound (says : Span → Bytes) : List Token → List Token → ℕ → Type 0 where
  amount : {t : Token} {rest : List Token} {n : ℕ} → IsTrue (is_amount t.kind) → atto_of (says t.span) ≡ Ok n → Bound says (t ∷ rest) rest n

-- a claim behind its word
abbrev pub Claim : (Span → Bytes) → Spells SaidTree
Claim says =
    Then (Target says) (λ t. Then (Sign op.Ge) (λ _. Then (Bound says) (λ b. Then (Sign op.Mul) (λ _. Then (Reserved word.R) (λ _. Then (Mark 40) (λ _. Then (Listed (Name says)) (λ ns.
    Done (record { target = t; bound = b; needs = ns }))))))))

-- statements, and a return with the closing brace
pub data Body (says : Span → Bytes) : List Token → List Token → Block → Type 0 where
  returns : {w c d : Token} {ts rest : List Token} {e : ExprTree} → w.kind ≡ kind.Word word.Return → Expr says ts (c ∷ d ∷ rest) e → c.kind ≡ kind.Mark 59 → d.kind ≡ kind.Mark 125 →
      Body says (w ∷ ts) rest (also (ReturnTree w.span e) ended)
  before : {ts mid rest : List Token} {s : StmtTree} {b : Block} → Stmt says ts mid s → Body says mid rest b → Body says ts rest (also s b)

-- a function behind its word
abbrev pub Func : (Span → Bytes) → Spells FuncTree
Func says =
    Then (Name says) (λ n. Then (Mark 40) (λ _. Then (Listed (Var says)) (λ ps. Then (OneOrMore word.Claim (Claim says)) (λ cs. Then (Mark 123) (λ _. Then (Each word.Var (Local says)) (λ ls. Then (Body says) (λ b.
    Done (record { name = n; params = ps; locals = ls; claims = cs; body = b }))))))))

-- the tokens of a whole source spell the tree
abbrev pub IsUnit : (Span → Bytes) → List Token → UnitTree → Type 0
IsUnit says toks u = OneOrMore word.Fn (Func says) toks [] u.functions

-- the spans of these tokens say what the text has there
abbrev pub Agree : Bytes → (Span → Bytes) → List Token → Type 0
Agree text says [] = Unit {0}
Agree text says (t ∷ ts) = (word_at text t.span ≡ says t.span) × Agree text says ts

-- the tokens, which are of the text, spell the tree
pub record Spelled (text : Bytes) (toks : List Token) (u : UnitTree) : Type 0 where
  pub says : Span → Bytes
  pub agree : Agree text says toks
  pub spells : IsUnit says toks u

-- a unit begins with the tokens, which are of the text
pub record Begins (text : Bytes) (toks : List Token) : Type 0 where
  pub says : Span → Bytes
  pub agree : Agree text says toks
  pub more : List Token
  pub tree : UnitTree
  pub spells : IsUnit says (toks ++ more) tree

-- the tokens are those of the text, which is no longer than a source may be
abbrev pub AreOf : Bytes → List Token → Type 0
AreOf text toks = (length text ≤ 65536) × AreTokensFrom text 0 toks

-- no unit begins with the first of these tokens behind those in front
abbrev pub NoneBegins : Bytes → List Token → List Token → Type 0
NoneBegins text front [] = Unit {0}
NoneBegins text front (t ∷ ts) = Begins text (front ++ t ∷ []) → ⊥

-- the tokens are no unit; the token at p, or the text's end there, is the first that none begins with, and none before it passes a limit
pub record Misplaced (text : Bytes) (toks : List Token) (p : ℕ) : Type 0 where
  pub front : List Token
  pub bad : List Token
  pub split : toks ≡ front ++ bad
  pub stands : place_from (end_of text) bad ≡ p
  pub begins : Begins text front
  pub none : AreOf text toks → NoneBegins text front bad
  pub within : AreOf text toks → AllWithin nothing front
  pub whole : (u : UnitTree) → Spelled text toks u → ⊥

-- a unit begins with the tokens up to the one at p, itself included, and that one is the first that passes a limit
pub record Reaches (Over : Counts → Type 0) (text : Bytes) (toks : List Token) (p : ℕ) : Type 0 where
  pub front : List Token
  pub token : Token
  pub rest : List Token
  pub split : toks ≡ front ++ token ∷ rest
  pub stands : token.span.from ≡ p
  pub begins : Begins text (front ++ token ∷ [])
  pub passes : AreOf text toks → PassesFirst Over front token

-- what a refusal says of the tokens
abbrev pub Refuses : Bytes → List Token → ParseFault → Type 0
Refuses text toks (fault.Expected p) = Misplaced text toks p
Refuses text toks (fault.Deep p) = Reaches IsDeep text toks p
Refuses text toks (fault.Many p) = Reaches IsCrowded text toks p
Refuses text toks fault.Memory = Unit {0}

-- the tokens are no unit within the limits
abbrev pub NoUnit : Bytes → List Token → Type 0
NoUnit text toks = (u : UnitTree) → Spelled text toks u → AllWithin nothing toks → ⊥
