-- The open marks of a tree are tokens, and behind those of memories stands another mark.
use Rattle.std.proofs.Common.{◌≡◌, ℕ, zero, suc, ◌-◌, ◌<◌, ◌≤◌, ◌&&◌, ◌||◌, ◌==◌, ⊎_elim, Bool, not, true, false, cond, List, [], ◌∷◌, ◌++◌, take, drop, get_or, refl, ap, sym, ◌∙◌, subst, arith}
use Rattle.std.specs.Prelude.{Contains, codes}
use Rattle.std.specs.List.{AllByRecursion, list_all, list_any, slice_range}
use Rattle.std.proofs.lemmas.Bool.{and_parts, cases_lt, eqb-true, false≢true, not-true}
use Rattle.std.proofs.lemmas.List.{get_or-drop}
use Rattle.rely_num.specs.OpenMarks.{AreOpenMarks}
use Rattle.rely_num.specs.Texts.{Bytes, is_name_byte}
use Rattle.rely_num.specs.declared.span.Span.{Span}
use Rattle.rely_num.specs.declared.word.Word.TheVariants as word
use Rattle.rely_lexer.specs.Forms.{is_mark}
use Rattle.rely_lexer.specs.Readings.{AreTokensFrom, HasForm, is_gap}
use Rattle.rely_lexer.specs.Tokens.{begins_comment, is_blank}
use Rattle.rely_lexer.specs.declared.token.Token.{Token}
use Rattle.rely_lexer.specs.declared.token.TokenKind.TheVariants as kind
use Rattle.rely_lexer.proofs.LongestLaws.{first-same}
use Rattle.rely_tree.specs.Marks.{decls_marks, function_marks, kind_marks}
use Rattle.rely_tree.specs.Tree.{DeclTree, FuncTree, KindTree}
use Rattle.rely_parser.specs.Productions as grammar
use Rattle.rely_parser.specs.Productions.{done, one, seq, either, other, Array, Each, Func, Listed, Local, Memory, OneOrMore, Spelled, Spells, Tail, Var, Written}
use Rattle.rely_parser.proofs.MarkedExprs.{Marked, none, pass, mark, plain, listed-marks}
use Rattle.rely_parser.proofs.MarkedUnits.{func-marks, local-marks, marked_unit, var-marks}
use Rattle.rely_parser.proofs.Wholes.{behind-array, behind-claim, behind-some}
use Rattle.chisel_rewritten_source.specs.Marks.{AreTokensOf, MarksAreTokens}
use Rattle.chisel_rewritten_source.specs.Tokens.{open_token}

-- ---- among tokens

contains_on : (t : Token) (ts : List Token) (x : Token) → Contains ts x → Contains (t ∷ ts) x
contains_on t ts x (i, inside, is) = (suc i, omega (arith, inside), is)

all_on : (t : Token) (ts : List Token) (marks : List Span) → AllByRecursion (λ m. Contains ts (open_token m)) marks → AllByRecursion (λ m. Contains (t ∷ ts) (open_token m)) marks
all_on t ts [] all = tt
all_on t ts (m ∷ marks) all = (contains_on t ts (open_token m) all.0, all_on t ts marks all.1)

-- marks among tokens are tokens of them
marked_tokens : {ts rest : List Token} {marks : List Span} → Marked ts rest marks → AllByRecursion (λ m. Contains ts (open_token m)) marks
marked_tokens none = tt
marked_tokens (pass {t = t} {ts = ts} {marks = marks} i) = all_on t ts marks (marked_tokens i)
marked_tokens (mark {t = t} {ts = ts} {marks = marks} p i) =
    let same : t ≡ open_token t.span = ap (λ k. record { kind = k; span = t.span }) p in
    ((0, omega arith, same), all_on t ts marks (marked_tokens i))

-- what stands among the tokens behind stands among all
behind_tokens : {ts rest : List Token} {marks : List Span} → Marked ts rest marks → (others : List Span) → AllByRecursion (λ m. Contains rest (open_token m)) others
    → AllByRecursion (λ m. Contains ts (open_token m)) others
behind_tokens none others all = all
behind_tokens (pass {t = t} {ts = ts} i) others all = all_on t ts others (behind_tokens i others all)
behind_tokens (mark {t = t} {ts = ts} p i) others all = all_on t ts others (behind_tokens i others all)

-- ---- marks with another mark behind them

pub data Stopped : List Token → Span → Type 0 where
  here : {t u : Token} {rest : List Token} {byte : ℕ} → t.kind ≡ kind.Mark 63 → u.kind ≡ kind.Mark byte → Stopped (t ∷ u ∷ rest) t.span
  there : {t : Token} {ts : List Token} {span : Span} → Stopped ts span → Stopped (t ∷ ts) span

abbrev AllStopped : List Token → List Span → Type 0
AllStopped ts = AllByRecursion (Stopped ts)

stopped_on : (t : Token) (ts : List Token) (marks : List Span) → AllStopped ts marks → AllStopped (t ∷ ts) marks
stopped_on t ts [] all = tt
stopped_on t ts (m ∷ marks) all = (there all.0, stopped_on t ts marks all.1)

stopped_behind : {ts rest : List Token} {marks : List Span} → Marked ts rest marks → (others : List Span) → AllStopped rest others → AllStopped ts others
stopped_behind none others all = all
stopped_behind (pass {t = t} {ts = ts} i) others all = stopped_on t ts others (stopped_behind i others all)
stopped_behind (mark {t = t} {ts = ts} p i) others all = stopped_on t ts others (stopped_behind i others all)

pub all_append : {X : Type 0} (P : X → Type 0) (xs ys : List X) → AllByRecursion P xs → AllByRecursion P ys → AllByRecursion P (xs ++ ys)
all_append P [] ys a b = b
all_append P (x ∷ xs) ys a b = (a.0, all_append P xs ys a.1 b)

-- a mark is first
record FirstMark (ts : List Token) : Type 0 where
  first : Token
  more : List Token
  byte : ℕ
  parts : ts ≡ first ∷ more
  sort : first.kind ≡ kind.Mark byte

written_stopped : (says : Span → Bytes) {ts rest : List Token} {k : KindTree} → Written says ts rest k → FirstMark rest → AllStopped ts (kind_marks k)
written_stopped says (either (seq (seq (one p) done) done)) f = tt
written_stopped says (other (seq (one {t = t} p) done)) f = (subst (λ rest. Stopped (t ∷ rest) t.span) (sym f.parts) (here p f.sort), tt)

memory_stopped : (says : Span → Bytes) {ts rest : List Token} {k : KindTree} → Memory says ts rest k → FirstMark rest → AllStopped ts (kind_marks k)
memory_stopped says {k = k} (either (seq (one {t = t} {rest = ts} p) w)) f = stopped_on t ts (kind_marks k) (written_stopped says w f)
memory_stopped says (other done) f = tt

var_stopped : (says : Span → Bytes) (ts rest : List Token) (d : DeclTree) → Var says ts rest d → FirstMark rest → AllStopped ts (kind_marks d.memory)
var_stopped says ts rest d (seq (seq (one {t = t} {rest = mid} p) done) (seq a (seq {a = m} w done))) f =
    stopped_on t mid (kind_marks m) (stopped_behind (plain (behind-array a)) (kind_marks m) (memory_stopped says w f))

local_stopped : (says : Span → Bytes) (ts rest : List Token) (d : DeclTree) → Local says ts rest d → AllStopped ts (kind_marks d.memory)
local_stopped says ts rest d (seq {a = v} i (seq (one {t = t} {rest = more} p) done)) =
    var_stopped says ts (t ∷ more) v i (record { first = t; more = more; byte = 59; parts = refl; sort = p })

-- ---- lists of variables

tail_first : {A : Type 0} {item : Spells A} {ts rest : List Token} {xs : List A} → Tail item ts rest xs → FirstMark ts
tail_first (grammar.closed {t = t} {rest = rest} p) = record { first = t; more = rest; byte = 41; parts = refl; sort = p }
tail_first (grammar.comma {t = t} {ts = ts} p i k) = record { first = t; more = ts; byte = 44; parts = refl; sort = p }

both_stopped : {ts mid : List Token} (d : DeclTree) (ds : List DeclTree) → Marked ts mid (kind_marks d.memory) → AllStopped ts (kind_marks d.memory) → AllStopped mid (decls_marks ds)
    → AllStopped ts (decls_marks (d ∷ ds))
both_stopped {ts = ts} d ds m first later = all_append (Stopped ts) (kind_marks d.memory) (decls_marks ds) first (stopped_behind m (decls_marks ds) later)

tail_stopped : (says : Span → Bytes) {ts rest : List Token} {ds : List DeclTree} → Tail (Var says) ts rest ds → AllStopped ts (decls_marks ds)
tail_stopped says (grammar.closed p) = tt
tail_stopped says (grammar.comma {t = t} {ts = ts} {mid = mid} {x = d} {xs = ds} p i k) =
    stopped_on t ts (decls_marks (d ∷ ds)) (both_stopped d ds (var-marks says ts mid d i) (var_stopped says ts mid d i (tail_first k)) (tail_stopped says k))

listed_stopped : (says : Span → Bytes) {ts rest : List Token} {ds : List DeclTree} → Listed (Var says) ts rest ds → AllStopped ts (decls_marks ds)
listed_stopped says (grammar.empty p) = tt
listed_stopped says (grammar.items {ts = ts} {mid = mid} {x = d} {xs = ds} i k) =
    both_stopped d ds (var-marks says ts mid d i) (var_stopped says ts mid d i (tail_first k)) (tail_stopped says k)

each_stopped : (says : Span → Bytes) {ts rest : List Token} {ds : List DeclTree} → Each word.Var (Local says) ts rest ds → AllStopped ts (decls_marks ds)
each_stopped says grammar.none = tt
each_stopped says (grammar.another {t = t} {ts = ts} {mid = mid} {x = d} {xs = ds} p i e) =
    stopped_on t ts (decls_marks (d ∷ ds)) (both_stopped d ds (local-marks says ts mid d i) (local_stopped says ts mid d i) (each_stopped says e))

-- ---- functions

func_stopped : (says : Span → Bytes) {ts rest : List Token} {f : FuncTree} → Func says ts rest f → AllStopped ts (decls_marks f.params ++ decls_marks f.locals)
func_stopped says {f = f} (seq (seq (one {t = n} p) done) (seq (one {t = b} {rest = ts} q) (seq ps (seq {ts = a} {mid = c} {a = xs} cs (seq (one {t = d} {rest = more} r) (seq ls (seq l done))))))) =
    let locals = stopped_on d more (decls_marks f.locals) (each_stopped says ls) in
    let claims = stopped_behind (plain (behind-some word.Claim (grammar.Claim says) (behind-claim says) a c xs cs)) (decls_marks f.locals) locals in
    let params = stopped_behind (listed-marks (λ d. kind_marks d.memory) (var-marks says) ps) (decls_marks f.locals) claims in
    let all = all_append (Stopped ts) (decls_marks f.params) (decls_marks f.locals) (listed_stopped says ps) params in
    stopped_on n (b ∷ ts) (decls_marks f.params ++ decls_marks f.locals) (stopped_on b ts (decls_marks f.params ++ decls_marks f.locals) all)

-- what is found of a function among tokens
record InTokens (ts : List Token) (f : FuncTree) : Type 0 where
  tokens : AllByRecursion (λ m. Contains ts (open_token m)) (function_marks f)
  stopped : AllStopped ts (decls_marks f.params ++ decls_marks f.locals)

in_behind : {ts rest : List Token} {marks : List Span} → Marked ts rest marks → (fs : List FuncTree) → AllByRecursion (InTokens rest) fs → AllByRecursion (InTokens ts) fs
in_behind i [] all = tt
in_behind i (f ∷ fs) all =
    (record { tokens = behind_tokens i (function_marks f) all.0.tokens; stopped = stopped_behind i (decls_marks f.params ++ decls_marks f.locals) all.0.stopped }, in_behind i fs all.1)

each_found : (says : Span → Bytes) {ts rest : List Token} {fs : List FuncTree} → Each word.Fn (Func says) ts rest fs → AllByRecursion (InTokens ts) fs
each_found says grammar.none = tt
each_found says (grammar.another {t = t} {ts = ts} {x = f} {xs = fs} p i e) =
    let marks = func-marks says i in
    let first : InTokens (t ∷ ts) f = record {
      tokens = all_on t ts (function_marks f) (marked_tokens marks);
      stopped = stopped_on t ts (decls_marks f.params ++ decls_marks f.locals) (func_stopped says i);
    } in
    (first, in_behind (pass {t = t} marks) fs (each_found says e))

some_found : (says : Span → Bytes) {ts rest : List Token} {fs : List FuncTree} → OneOrMore word.Fn (Func says) ts rest fs → AllByRecursion (InTokens ts) fs
some_found says (seq (one p) (seq f (seq e done))) = each_found says (grammar.another p f e)

-- ---- bytes behind a mark

-- a byte of these, none of which is one of a name
any_name : (byte : ℕ) (bytes : Bytes) → list_all (λ b. not (is_name_byte b)) bytes ≡ true → list_any (λ b. byte == b) bytes ≡ true → is_name_byte byte ≡ false
any_name byte [] all any = absurd (false≢true any)
any_name byte (b ∷ bytes) all any =
    let parts = and_parts (not (is_name_byte b)) (list_all (λ b. not (is_name_byte b)) bytes) all in
    one (byte == b) refl any (not-true (is_name_byte b) parts.0) (any_name byte bytes parts.1)
  where
    one : (same : Bool) → (byte == b) ≡ same → (same || list_any (λ b. byte == b) bytes) ≡ true → is_name_byte b ≡ false → (list_any (λ b. byte == b) bytes ≡ true → is_name_byte byte ≡ false)
        → is_name_byte byte ≡ false
    one true same any lacks rest = ap is_name_byte (eqb-true byte b same) ∙ lacks
    one false same any lacks rest = rest any

-- a mark is no byte of a name
mark_name : (byte : ℕ) → is_mark byte ≡ true → is_name_byte byte ≡ false
mark_name byte is = any_name byte (codes "(){}[],;=.?") refl is

-- nor is a blank
blank_name : (byte : ℕ) → is_blank byte ≡ true → is_name_byte byte ≡ false
blank_name byte is = one (byte == 32) (byte == 9) (byte == 10) (byte == 13) is (eqb-true byte 32) (eqb-true byte 9) (eqb-true byte 10) (eqb-true byte 13)
  where
    one : (a b c d : Bool) → (a || b || c || d) ≡ true → (a ≡ true → byte ≡ 32) → (b ≡ true → byte ≡ 9) → (c ≡ true → byte ≡ 10) → (d ≡ true → byte ≡ 13) → is_name_byte byte ≡ false
    one true b c d some p q r s = ap is_name_byte (p refl)
    one false true c d some p q r s = ap is_name_byte (q refl)
    one false false true d some p q r s = ap is_name_byte (r refl)
    one false false false true some p q r s = ap is_name_byte (s refl)
    one false false false false some p q r s = absurd (false≢true some)

-- nor is what begins a gap
gap_name : (byte : ℕ) (bytes : Bytes) → is_gap false false (byte ∷ bytes) ≡ true → is_name_byte byte ≡ false
gap_name byte bytes gap = one (is_blank byte) refl gap
  where
    one : (blank : Bool) → is_blank byte ≡ blank → cond blank (is_gap false false bytes) (begins_comment (byte ∷ bytes) && is_gap false true bytes) ≡ true → is_name_byte byte ≡ false
    one true blank gap = blank_name byte blank
    one false blank gap =
        let comment = and_parts (begins_comment (byte ∷ bytes)) (is_gap false true bytes) gap in
        ap is_name_byte (eqb-true byte 47 (and_parts (byte == 47) (get_or bytes 0 0 == 47) comment.0).0)

front_name : (k : ℕ) (s : Bytes) → 0 < k → is_gap false false (take k s) ≡ true → is_name_byte (get_or s 0 0) ≡ false
front_name zero s some gap = absurd (omega (arith, some))
front_name (suc k) [] some gap = refl
front_name (suc k) (x ∷ s) some gap = gap_name x (take k s) gap

front_mark : (k byte : ℕ) (s : Bytes) → 0 < k → take k s ≡ byte ∷ [] → is_mark byte ≡ true → is_name_byte (get_or s 0 0) ≡ false
front_mark zero byte s some is sort = absurd (omega (arith, some))
front_mark (suc k) byte s some is sort =
    ap is_name_byte (sym (first-same s k) ∙ ap (λ (bs : Bytes). get_or bs 0 0) is) ∙ mark_name byte sort

from_there : (text : Bytes) (place : ℕ) → is_name_byte (get_or (drop place text) 0 0) ≡ false → is_name_byte (get_or text place 0) ≡ false
from_there text place lacks = ap is_name_byte (sym (get_or-drop place text 0 0 ∙ ap (λ i. get_or text i 0) (omega arith))) ∙ lacks

-- where a mark stands behind a place, with a gap between them, no name begins at the place
first_name : (text : Bytes) (place at to byte : ℕ) → place ≤ at → at < to → is_gap false false (slice_range text place at) ≡ true → slice_range text at to ≡ byte ∷ [] → is_mark byte ≡ true
    → is_name_byte (get_or text place 0) ≡ false
first_name text place at to byte behind full gap is sort =
    ⊎_elim (λ some. from_there text place (front_name (at - place) (drop place text) (omega (arith, some)) gap))
    (λ close. let here : at ≡ place = omega (arith, close, behind) in
    subst (λ p. is_name_byte (get_or text p 0) ≡ false) here (from_there text at (front_mark (to - at) byte (drop at text) (omega (arith, full)) is sort)))
    (cases_lt place at)

stopped_apart : (text : Bytes) (place : ℕ) {ts : List Token} {span : Span} → Stopped ts span → AreTokensFrom text place ts → is_name_byte (get_or text span.to 0) ≡ false
stopped_apart text place (here {t = t} {u = u} {byte = byte} p q) (after, full, fits, gap, form, longest, (after', full', fits', gap', form', longest', more)) =
    let says : HasForm (kind.Mark byte) (slice_range text u.span.from u.span.to) = subst (λ k. HasForm k (slice_range text u.span.from u.span.to)) q form' in
    first_name text t.span.to u.span.from u.span.to byte after' full' gap' says.0 says.1
stopped_apart text place (there {t = t} s) (after, full, fits, gap, form, longest, more) = stopped_apart text t.span.to s more

all_apart : (text : Bytes) (ts : List Token) (marks : List Span) → AreTokensFrom text 0 ts → AllStopped ts marks → AllByRecursion (λ m. is_name_byte (get_or text m.to 0) ≡ false) marks
all_apart text ts [] are all = tt
all_apart text ts (m ∷ marks) are all = (stopped_apart text 0 all.0 are, all_apart text ts marks are all.1)

-- ---- the law

each_is : (text : Bytes) (ts : List Token) (fs : List FuncTree) → AreTokensFrom text 0 ts → AllByRecursion (λ f. AreOpenMarks text (function_marks f)) fs → AllByRecursion (InTokens ts) fs
    → AllByRecursion (AreTokensOf text ts) fs
each_is text ts [] are marks all = tt
each_is text ts (f ∷ fs) are marks all =
    (record { open_marks = marks.0; are_tokens = all.0.tokens; apart = all_apart text ts (decls_marks f.params ++ decls_marks f.locals) are all.0.stopped }, each_is text ts fs are marks.1 all.1)

pub marks_are_tokens : MarksAreTokens
marks_are_tokens text tokens u are spelled =
    each_is text tokens u.functions are (marked_unit text tokens u are spelled) (some_found spelled.says spelled.spells)
