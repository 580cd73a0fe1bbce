-- The open marks of each function of a unit that is read are open marks of the text.
use Rattle.std.proofs.Common.{◌≡◌, ℕ, ◌+◌, ◌-◌, ◌≤◌, List, [], ◌∷◌, length, drop, slice_range, codes, sym, ap, subst, arith}
use Rattle.std.specs.List.{AllByRecursion}
use Rattle.std.proofs.lemmas.List.{append-nil, length-take, length-drop}
use Rattle.rely_num.specs.OpenMarks.{AreOpenMarks, AreOpenMarksFrom}
use Rattle.rely_num.specs.Texts.{Bytes}
use Rattle.rely_num.specs.declared.span.Span.{Span}
use Rattle.rely_num.specs.declared.word.Word.TheVariants as word
use Rattle.rely_lexer.specs.declared.token.Token.{Token}
use Rattle.rely_lexer.specs.declared.token.TokenKind.TheVariants as kind
use Rattle.rely_lexer.specs.Readings.{AreTokensFrom, HasForm}
use Rattle.rely_tree.specs.Marks.{kind_marks, expr_marks, stmt_marks, block_marks, function_marks, IsMarked}
use Rattle.rely_tree.specs.Tree.{KindTree, StmtTree, Block, DeclTree, FuncTree, UnitTree}
use Rattle.rely_parser.specs.Productions as grammar
use Rattle.rely_parser.specs.Productions.{done, one, seq, either, other, Array, Body, Braces, Claim, Count, Each, Else, Func, Listed, Local, Memory, OneOrMore, Spelled, Stmt, Stmts, Var, Written}
use Rattle.rely_parser.proofs.Completes.{behind-count}
use Rattle.rely_parser.proofs.MarkedExprs.{Marked, none, pass, mark, join, closed, plain, level-marks, listed-marks, each-marks}
use Rattle.rely_parser.proofs.Wholes.{behind-array, behind-claim, behind-some}

-- ---- statements

mutual
  stmt-marks : {says : Span → Bytes} {ts rest : List Token} {s : StmtTree} → Stmt says ts rest s → Marked ts rest (stmt_marks s)
  stmt-marks (grammar.set p q e r) = pass (pass (closed (level-marks e)))
  stmt-marks (grammar.set_element p q i r u e v) = pass (pass (join (closed (closed (level-marks i))) (closed (level-marks e))))
  stmt-marks (grammar.call p q r u v l w) = pass (pass (pass (pass (pass (closed (listed-marks expr_marks (λ ts rest e d. level-marks d) l))))))
  stmt-marks (grammar.choice p q e r b o) = pass (pass (join (join (closed (level-marks e)) (braces-marks b)) (else-marks o)))
  stmt-marks (grammar.loop p q e r u n b) = pass (pass (join (closed (closed (level-marks e))) (join (plain (behind-count n)) (braces-marks b))))
  stmt-marks (grammar.repeat p n b) = pass (join (plain (behind-count n)) (braces-marks b))

  braces-marks : {says : Span → Bytes} {ts rest : List Token} {b : Block} → Braces says ts rest b → Marked ts rest (block_marks b)
  braces-marks (grammar.braces p s) = pass (stmts-marks s)

  stmts-marks : {says : Span → Bytes} {ts rest : List Token} {b : Block} → Stmts says ts rest b → Marked ts rest (block_marks b)
  stmts-marks (grammar.end p) = pass none
  stmts-marks (grammar.next s b) = join (stmt-marks s) (stmts-marks b)

  else-marks : {says : Span → Bytes} {ts rest : List Token} {b : Block} → Else says ts rest b → Marked ts rest (block_marks b)
  else-marks grammar.absent = none
  else-marks (grammar.present p b) = pass (braces-marks b)

body-marks : {says : Span → Bytes} {ts rest : List Token} {b : Block} → Body says ts rest b → Marked ts rest (block_marks b)
body-marks (grammar.returns {ts = ts} {rest = rest} {e = e} p l q r) = pass (subst (Marked ts rest) (sym (append-nil (expr_marks e))) (closed (closed (level-marks l))))
body-marks (grammar.before s b) = join (stmt-marks s) (body-marks b)

-- ---- declarations

written-marks : (says : Span → Bytes) {ts rest : List Token} {k : KindTree} → Written says ts rest k → Marked ts rest (kind_marks k)
written-marks says (either (seq (seq (one p) done) done)) = pass none
written-marks says (other (seq (one p) done)) = mark p none

memory-marks : (says : Span → Bytes) {ts rest : List Token} {k : KindTree} → Memory says ts rest k → Marked ts rest (kind_marks k)
memory-marks says (either (seq (one p) w)) = pass (written-marks says w)
memory-marks says (other done) = none

pub var-marks : (says : Span → Bytes) (ts rest : List Token) (d : DeclTree) → Var says ts rest d → Marked ts rest (kind_marks d.memory)
var-marks says ts rest d (seq (seq (one p) done) (seq a (seq w done))) = pass (join (plain (behind-array a)) (memory-marks says w))

pub local-marks : (says : Span → Bytes) (ts rest : List Token) (d : DeclTree) → Local says ts rest d → Marked ts rest (kind_marks d.memory)
local-marks says ts rest d (seq {a = v} i (seq (one p) done)) = closed (var-marks says ts _ v i)

-- ---- functions

pub func-marks : (says : Span → Bytes) {ts rest : List Token} {f : FuncTree} → Func says ts rest f → Marked ts rest (function_marks f)
func-marks says (seq (seq (one p) done) (seq (one q) (seq ps (seq {ts = a} {mid = b} {a = xs} cs (seq (one r) (seq ls (seq l done))))))) =
    pass (pass (join (join (listed-marks (λ d. kind_marks d.memory) (var-marks says) ps)
    (join (plain (behind-some word.Claim (Claim says) (behind-claim says) a b xs cs))
    (pass (each-marks (λ d. kind_marks d.memory) (local-marks says) ls)))) (body-marks l)))

-- ---- texts

-- from an earlier place on
open-before : (text : Bytes) (place later : ℕ) (marks : List Span) → place ≤ later → AreOpenMarksFrom text later marks → AreOpenMarksFrom text place marks
open-before text place later [] h m = tt
open-before text place later (x ∷ marks) h (after, is, more) = (omega (arith, h, after), is, more)

one-long : (text : Bytes) (from to : ℕ) → from ≤ to → to ≤ length text → slice_range text from to ≡ codes "?" → to ≡ from + 1
one-long text from to l w e =
    let one : length (slice_range text from to) ≡ 1 = ap (λ bytes. length bytes) e in
    omega (arith, l, w, one, length-take (to - from) (drop from text), length-drop from text)

-- the marks among the tokens of a text are open marks of it
open-marks : (text : Bytes) (place : ℕ) {ts rest : List Token} {marks : List Span} → Marked ts rest marks → AreTokensFrom text place ts → AreOpenMarksFrom text place marks
open-marks text place none h = tt
open-marks text place (pass {t = t} {marks = marks} i) (after, full, fits, gap, form, longest, more) =
    open-before text place t.span.to marks (omega (arith, after, full)) (open-marks text t.span.to i more)
open-marks text place (mark {t = t} p i) (after, full, fits, gap, form, longest, more) =
    let says : HasForm (kind.Mark 63) (slice_range text t.span.from t.span.to) = subst (λ k. HasForm k (slice_range text t.span.from t.span.to)) p form in
    (after, record { one_byte = one-long text t.span.from t.span.to (omega (arith, full)) fits says.0; byte = says.0 }, open-marks text t.span.to i more)

-- what is left are tokens from a later place on
record From (text : Bytes) (toks : List Token) : Type 0 where
  place : ℕ
  tokens : AreTokensFrom text place toks

left-over : (text : Bytes) (place : ℕ) {ts rest : List Token} {marks : List Span} → Marked ts rest marks → AreTokensFrom text place ts → From text rest
left-over text place none h = record { place = place; tokens = h }
left-over text place (pass {t = t} i) (after, full, fits, gap, form, longest, more) = left-over text t.span.to i more
left-over text place (mark {t = t} p i) (after, full, fits, gap, form, longest, more) = left-over text t.span.to i more

abbrev AllMarked : Bytes → List FuncTree → Type 0
AllMarked text = AllByRecursion (λ f. AreOpenMarks text (function_marks f))

each-marked : (says : Span → Bytes) (text : Bytes) {ts rest : List Token} {fs : List FuncTree} → Each word.Fn (Func says) ts rest fs → From text ts → AllMarked text fs
each-marked says text grammar.none h = tt
each-marked says text (grammar.another {t = t} {ts = ts} {mid = mid} {x = f} {xs = fs} p i e) h = go h.place h.tokens (each-marked says text e)
  where
    go : (place : ℕ) → AreTokensFrom text place (t ∷ ts) → (From text mid → AllMarked text fs) → AllMarked text (f ∷ fs)
    go place (after, full, fits, gap, form, longest, more) k =
        (open-before text 0 t.span.to (function_marks f) (omega arith) (open-marks text t.span.to (func-marks says i) more), k (left-over text t.span.to (func-marks says i) more))

some-marked : (says : Span → Bytes) (text : Bytes) {ts rest : List Token} {fs : List FuncTree} → OneOrMore word.Fn (Func says) ts rest fs → From text ts → AllMarked text fs
some-marked says text (seq (one p) (seq f (seq e done))) h = each-marked says text (grammar.another p f e) h

-- a tree that the tokens of a text spell has its open marks where the text has them
pub marked_unit : (text : Bytes) (toks : List Token) (u : UnitTree) → AreTokensFrom text 0 toks → Spelled text toks u → IsMarked text u
marked_unit text toks u h s = some-marked s.says text s.spells (record { place = 0; tokens = h })
