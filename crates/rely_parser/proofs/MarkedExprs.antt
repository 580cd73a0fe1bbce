-- The open marks of an expression stand among the tokens that spell it.
use Rattle.std.proofs.Common.{◌≡◌, ℕ, List, [], ◌∷◌, ◌++◌, flat_map, sym, ap, subst, ◌∙◌}
use Rattle.std.proofs.lemmas.List.{append-nil, append_assoc}
use Rattle.rely_num.specs.Texts.{Bytes}
use Rattle.rely_num.specs.declared.span.Span.{Span}
use Rattle.rely_num.specs.declared.word.Word.{Word}
use Rattle.rely_lexer.specs.declared.token.Token.{Token}
use Rattle.rely_lexer.specs.declared.token.TokenKind.TheVariants as kind
use Rattle.rely_tree.specs.Marks.{kind_marks, expr_marks}
use Rattle.rely_tree.specs.Tree.{KindTree, ExprTree, BinTree}
use Rattle.rely_parser.specs.Productions as grammar
use Rattle.rely_parser.specs.Productions.{Spells, done, one, seq, either, other, Suffix, Step, joined_left, Prim, Level, Operands, Tail, Listed}
use Rattle.rely_parser.proofs.Finds.{Behind, here, later}

-- these are marks among the tokens before the rest, in their order
pub data Marked : List Token → List Token → List Span → Type 0 where
  none : {ts : List Token} → Marked ts ts []
  pass : {t : Token} {ts rest : List Token} {marks : List Span} → Marked ts rest marks → Marked (t ∷ ts) rest marks
  mark : {t : Token} {ts rest : List Token} {marks : List Span} → t.kind ≡ kind.Mark 63 → Marked ts rest marks → Marked (t ∷ ts) rest (t.span ∷ marks)

-- one behind the other
pub join : {ts mid rest : List Token} {marks more : List Span} → Marked ts mid marks → Marked mid rest more → Marked ts rest (marks ++ more)
join none j = j
join (pass i) j = pass (join i j)
join (mark p i) j = mark p (join i j)

-- behind one token more
pub closed : {t : Token} {ts rest : List Token} {marks : List Span} → Marked ts (t ∷ rest) marks → Marked ts rest marks
closed none = pass none
closed (pass i) = pass (closed i)
closed (mark p i) = mark p (closed i)

-- none of them
pub plain : {ts rest : List Token} → Behind ts rest → Marked ts rest []
plain here = none
plain (later b) = pass (plain b)

suffix-marks : (says : Span → Bytes) {ts rest : List Token} {k : KindTree} → Suffix says ts rest k → Marked ts rest (kind_marks k)
suffix-marks says (either (seq (one p) (seq (seq (one q) done) done))) = pass (pass none)
suffix-marks says (other (either (seq (one p) done))) = mark p none
suffix-marks says (other (other done)) = none

-- those of operators and their right operands
abbrev steps_marks : List Step → List Span
steps_marks = flat_map (λ x. kind_marks x.kind ++ expr_marks x.right)

joined-marks : (e : ExprTree) (steps : List Step) → expr_marks (joined_left e steps) ≡ expr_marks e ++ steps_marks steps
joined-marks e [] = sym (append-nil (expr_marks e))
joined-marks e (x ∷ xs) =
    joined-marks (BinTree x.oper x.span x.kind e x.right) xs ∙ ap (λ l. l ++ steps_marks xs) (append_assoc (expr_marks e) (kind_marks x.kind) (expr_marks x.right))
    ∙ append_assoc (expr_marks e) (kind_marks x.kind ++ expr_marks x.right) (steps_marks xs)

mutual
  prim-marks : {says : Span → Bytes} {ts rest : List Token} {e : ExprTree} → Prim says ts rest e → Marked ts rest (expr_marks e)
  prim-marks (grammar.number p) = pass none
  prim-marks (grammar.scalar p) = pass none
  prim-marks (grammar.element p q l r) = pass (pass (closed (level-marks l)))
  prim-marks (grammar.inside p l r) = pass (closed (level-marks l))

  pub level-marks : {says : Span → Bytes} {h : ℕ} {ts rest : List Token} {e : ExprTree} → Level says h ts rest e → Marked ts rest (expr_marks e)
  level-marks (grammar.operand p) = prim-marks p
  level-marks (grammar.joined {ts = ts} {rest = rest} {e = e} {steps = steps} l o same) =
      subst (Marked ts rest) (sym (joined-marks e steps) ∙ ap expr_marks same) (join (level-marks l) (operands-marks o))

  operands-marks : {says : Span → Bytes} {h : ℕ} {ts rest : List Token} {steps : List Step} → Operands says h ts rest steps → Marked ts rest (steps_marks steps)
  operands-marks grammar.last = none
  operands-marks {says = says} (grammar.operator p q s l o) = pass (join (join (suffix-marks says s) (level-marks l)) (operands-marks o))

-- ---- lists

tail-marks : {A : Type 0} {item : Spells A} (f : A → List Span) → ((ts rest : List Token) (a : A) → item ts rest a → Marked ts rest (f a)) → {ts rest : List Token} {xs : List A} →
    Tail item ts rest xs → Marked ts rest (flat_map f xs)
tail-marks f k (grammar.closed p) = pass none
tail-marks f k (grammar.comma p i t) = pass (join (k _ _ _ i) (tail-marks f k t))

pub listed-marks : {A : Type 0} {item : Spells A} (f : A → List Span) → ((ts rest : List Token) (a : A) → item ts rest a → Marked ts rest (f a)) → {ts rest : List Token} {xs : List A} →
    Listed item ts rest xs → Marked ts rest (flat_map f xs)
listed-marks f k (grammar.empty p) = pass none
listed-marks f k (grammar.items i t) = join (k _ _ _ i) (tail-marks f k t)

pub each-marks : {A : Type 0} {w : Word} {item : Spells A} (f : A → List Span) → ((ts rest : List Token) (a : A) → item ts rest a → Marked ts rest (f a)) → {ts rest : List Token} {xs : List A} →
    grammar.Each w item ts rest xs → Marked ts rest (flat_map f xs)
each-marks f k grammar.none = none
each-marks f k (grammar.another p i e) = pass (join (k _ _ _ i) (each-marks f k e))
