-- Readings of lists and of statements against the grammar.
use Rattle.std.proofs.Common.{◌≡◌, ℕ, zero, suc, ◌+◌, ◌-◌, ◌≤◌, Bool, true, false, ◌==◌, List, [], ◌∷◌, length, Ok, Err, refl, ap, arith, nat_lt, if◌then◌else◌}
use Rattle.std.proofs.lemmas.Bool.{ltb-false}
use Rattle.rely_num.specs.Texts.{Bytes}
use Rattle.rely_num.specs.declared.span.Span.{Span}
use Rattle.rely_lexer.specs.declared.token.Token.{Token}
use Rattle.rely_lexer.specs.declared.token.TokenKind.{TokenKind}
use Rattle.rely_lexer.specs.declared.token.TokenKind.TheVariants as kind
use Rattle.rely_num.specs.declared.word.Word.{Word}
use Rattle.rely_num.specs.declared.word.Word.TheVariants as word
use Rattle.rely_tree.specs.Tree.{IdentTree, ExprTree, StmtTree, SetTree, SetElemTree, IfTree, WhileTree, RepeatTree, CallTree, Block, ended, also}
use Rattle.rely_parser.specs.declared.fault.ParseFault.TheVariants as fault
use Rattle.rely_parser.specs.State.{State, Read, behind, place, ◌>>=◌, first_at, skip_at, worded, skip_word_at, numbered, count_at, name_at, word_at}
use Rattle.rely_parser.specs.Grammar.{bracketed, expr_at}
use Rattle.rely_parser.specs.Statements.{more_of, list_of, args_at, call_at, set_at, assignment_at, condition_at, items_at, otherwise_at, if_at, while_at, repeat_at, word_stmt, stmt_of, stmt_with, braces, block_at, stmt_at}
use Rattle.rely_parser.specs.Productions as grammar
use Rattle.rely_parser.specs.Productions.{Spells, Done, done, One, one, Then, seq, Or, either, other, Agree, Mark, Reserved, Name, ident_of, Tail, closed, comma, Listed, empty, items, Expr, Count, turns, Stmt, Braces, Stmts, Else}
use Rattle.rely_parser.proofs.Laws.{Can, On, At, at, at-then, at-deep, at-counted, can-then, can-map, on-map, on-done, on-none, on-token, on-then, on-same, on-either, on-other, on-choose}
use Rattle.rely_parser.proofs.Marks.{token_of, can-done, can-mark, can-reserved, can-name, worded-tests, tested, on-mark, on-mark-at, on-reserved, on-name}
use Rattle.rely_parser.proofs.Exprs.{can-level, on-bracketed, on-expr}

-- readings behind a token at q
abbrev pub ReadsAt : {A : Type 0} → Bytes → (Span → Bytes) → ℕ → Spells A → Read A → Type 0
ReadsAt text says q D r = (s : State) → Agree text says s.toks → At q D s (r s)

-- readings of one item
abbrev pub Reads : {A : Type 0} → Bytes → (Span → Bytes) → Spells A → Read A → Type 0
Reads text says D r = (s : State) → Agree text says s.toks → On D s (r s)

pub can-tail : {A : Type 0} {I : Spells A} → Can (Tail I)
can-tail = record { word = token_of (kind.Mark 41) ∷ []; tree = []; spells = λ tail. closed refl }

pub can-listed : {A : Type 0} {I : Spells A} → Can (Listed I)
can-listed = record { word = token_of (kind.Mark 41) ∷ []; tree = []; spells = λ tail. empty refl }

pub to-closed : {A : Type 0} {I : Spells A} (ts rest : List Token) (a : List A) → Then (Mark 41) (λ _. Done []) ts rest a → Tail I ts rest a
to-closed ts rest a (seq (one p) done) = closed p

pub to-empty : {A : Type 0} {I : Spells A} (ts rest : List Token) (a : List A) → Then (Mark 41) (λ _. Done []) ts rest a → Listed I ts rest a
to-empty ts rest a (seq (one p) done) = empty p

pub to-comma : {A : Type 0} {I : Spells A} (ts rest : List Token) (a : List A) → Then (Mark 44) (λ _. Then I (λ x. Then (Tail I) (λ xs. Done (x ∷ xs)))) ts rest a → Tail I ts rest a
to-comma ts rest a (seq (one p) (seq i (seq t done))) = comma p i t

pub to-items : {A : Type 0} {I : Spells A} (ts rest : List Token) (a : List A) → Then I (λ x. Then (Tail I) (λ xs. Done (x ∷ xs))) ts rest a → Listed I ts rest a
to-items ts rest a (seq i (seq t done)) = items i t

pub on-tail : {A : Type 0} (text : Bytes) (says : Span → Bytes) (I : Spells A) (item : Read A) → Can I → Reads text says I item → (n : ℕ) → Reads text says (Tail I) (more_of item n)
unfolding more_of
on-tail text says I item c i zero s g = on-none can-tail
on-tail text says I item c i (suc n) s g =
    on-choose (skip_at 44 s) (λ after. item after >>= λ x. more_of item n x.1 >>= λ y. Ok (x.0 ∷ y.0, y.1))
    (on-map to-comma (on-mark text says 44 s g (λ t. can-then c (λ x. can-then can-tail (λ xs. can-done _)))
    (λ t a h. on-then text says h (i a h) (λ x. can-then can-tail (λ xs. can-done _)) (λ x k. on-then text says k (on-tail text says I item c i n x.1 k) (λ xs. can-done _) (λ y l. on-done)))))
    (on-map to-closed (on-mark text says 41 s g (λ t. can-done _) (λ t a h. on-done)))

pub on-listed : {A : Type 0} (text : Bytes) (says : Span → Bytes) (I : Spells A) (item : Read A) → Can I → Reads text says I item → Reads text says (Listed I) (list_of item)
unfolding list_of
on-listed text says I item c i s g =
    on-choose (skip_at 41 s) (λ end. Ok ([], end))
    (on-map to-empty (on-mark text says 41 s g (λ t. can-done _) (λ t a h. on-done)))
    (on-map to-items (on-then text says g (i s g) (λ x. can-then can-tail (λ xs. can-done _))
    (λ x k. on-then text says k (on-tail text says I item c i (length x.1.toks + 1) x.1 k) (λ xs. can-done _) (λ y l. on-done))))

pub on-args : (text : Bytes) (says : Span → Bytes) (d p : ℕ) → ReadsAt text says p (Listed (Expr says)) (args_at text d p)
unfolding args_at
on-args text says zero p s g = at-deep can-listed
on-args text says (suc d) p s g = at (on-listed text says (Expr says) (expr_at text d) (can-level says 7) (on-expr text says d) s g)

pub can-stmt : (says : Span → Bytes) → Can (Stmt says)
can-stmt says = record {
  word = token_of (kind.Word word.Repeat) ∷ token_of (kind.Number 0) ∷ token_of (kind.Mark 123) ∷ token_of (kind.Mark 125) ∷ [];
  tree = RepeatTree (record { from = 0; to = 0 }) 0 ended;
  spells = λ tail. grammar.repeat refl (turns refl (omega arith)) (grammar.braces refl (grammar.end refl));
}

pub can-stmts : (says : Span → Bytes) → Can (Stmts says)
can-stmts says = record { word = token_of (kind.Mark 125) ∷ []; tree = ended; spells = λ tail. grammar.end refl }

pub to-braces : (says : Span → Bytes) (ts rest : List Token) (a : Block) → Then (Mark 123) (λ _. Stmts says) ts rest a → Braces says ts rest a
to-braces says ts rest a (seq (one p) b) = grammar.braces p b

pub can-braces : (says : Span → Bytes) → Can (Braces says)
can-braces says = can-map (to-braces says) (can-mark 123 (λ t. can-stmts says))

pub can-else : (says : Span → Bytes) → Can (Else says)
can-else says = record { word = []; tree = ended; spells = λ tail. grammar.absent }

pub can-count : Can Count
can-count = record { word = token_of (kind.Number 0) ∷ []; tree = 0; spells = λ tail. turns refl (omega arith) }

pub to-count : (n : ℕ) (ts rest : List Token) (a : ℕ) → Then (One (λ t. (t.kind ≡ kind.Number n) × (n ≤ 4294967295))) (λ _. Done n) ts rest a → Count ts rest a
to-count n ts rest a (seq (one p) done) = turns p.0 p.1

pub count-if : (s : State) (t : Token) (ts : List Token) (n : ℕ) → t.kind ≡ kind.Number n → (b : Bool) → nat_lt 4294967295 n ≡ b →
    On Count (behind s (t ∷ ts)) (if b then Err (fault.Expected t.span.from) else Ok (n, behind s ts))
count-if s t ts n e true q = on-none can-count
count-if s t ts n e false q = on-map (to-count n) (on-token s (e, ltb-false 4294967295 n q) on-done)

pub count-kind : (s : State) (t : Token) (ts : List Token) (k : TokenKind) → t.kind ≡ k →
    On Count (behind s (t ∷ ts)) (numbered (behind s ts) t.span k >>= λ x. if nat_lt 4294967295 x.0 then Err (fault.Expected t.span.from) else Ok (x.0, x.1))
count-kind s t ts (kind.Number n) e = count-if s t ts n e (nat_lt 4294967295 n) refl
count-kind s t ts _ e = on-none can-count

pub count-from : (s : State) (ts : List Token) → On Count (behind s ts) (count_at (behind s ts))
count-from s [] = on-none can-count
count-from s (t ∷ ts) = count-kind s t ts t.kind refl

pub on-count : (s : State) → On Count s (count_at s)
on-count s = count-from s s.toks

-- behind the word call
abbrev pub Calling : (Span → Bytes) → IdentTree → Span → Spells StmtTree
Calling says target w = Then (Name says) (λ n. Then (Mark 40) (λ _. Then (Listed (Expr says)) (λ es. Then (Mark 59) (λ _. Done (CallTree target.span target w n es)))))

pub can-calling : (says : Span → Bytes) (target : IdentTree) (w : Span) → Can (Calling says target w)
can-calling says target w = can-then (can-name says) (λ n. can-mark 40 (λ t. can-then can-listed (λ es. can-mark 59 (λ c. can-done _))))

pub on-call : (text : Bytes) (says : Span → Bytes) (d : ℕ) (target : IdentTree) (w : Span) → ReadsAt text says w.from (Calling says target w) (call_at text d target w)
unfolding call_at
on-call text says d target w s g =
    at-counted w.from s.variables s.operators (s.calls - 1) (s.calls == 0)
    (λ a. name_at text a >>= λ callee. skip_at 40 callee.1 >>= λ b. args_at text d (place callee.1) b >>= λ x. skip_at 59 x.1 >>= λ end. Ok (CallTree target.span target w callee.0 x.0, end))
    (can-calling says target w)
    (λ u. on-then text says g (on-name text says _ g) (λ n. can-mark 40 (λ t. can-then can-listed (λ es. can-mark 59 (λ c. can-done _))))
    (λ callee h. on-mark-at text says 40 callee.1 (λ p b. args_at text d p b >>= λ x. skip_at 59 x.1 >>= λ end. Ok (CallTree target.span target w callee.0 x.0, end)) h (λ t. can-then can-listed (λ es. can-mark 59 (λ c. can-done _)))
    (λ t b k. at-then text says k (on-args text says d t.span.from b k) (λ es. can-mark 59 (λ c. can-done _)) (λ x l. on-mark text says 59 x.1 l (λ c. can-done _) (λ c e m. on-done)))))

-- behind the sign of an assignment to a scalar
abbrev pub Setting : (Span → Bytes) → IdentTree → Spells StmtTree
Setting says target = Or (Then (Reserved word.Call) (λ w. Calling says target w.span)) (Then (Expr says) (λ e. Then (Mark 59) (λ _. Done (SetTree target.span target e))))

pub can-set : (says : Span → Bytes) (target : IdentTree) → Can (Then (Expr says) (λ e. Then (Mark 59) (λ _. Done (SetTree target.span target e))))
can-set says target = can-then (can-level says 7) (λ e. can-mark 59 (λ c. can-done _))

pub can-setting : (says : Span → Bytes) (target : IdentTree) → Can (Setting says target)
can-setting says target = can-map (λ ts rest a d. other d) (can-set says target)

pub call-from : (text : Bytes) (says : Span → Bytes) (d : ℕ) (target : IdentTree) (s : State) (ts : List Token) → Agree text says ts →
    On (Then (Reserved word.Call) (λ w. Calling says target w.span)) (behind s ts) (skip_word_at word.Call (behind s ts) >>= λ a. first_at (behind s ts) >>= λ x. call_at text d target x.0.span a)
call-from text says d target s [] g = on-none (can-reserved word.Call (λ w. can-calling says target w.span))
call-from text says d target s (t ∷ ts) g =
    tested s t ts (worded word.Call (behind s ts) t.span t.kind) (λ a. call_at text d target t.span a) (worded-tests word.Call (behind s ts) t.span t.kind)
    (can-reserved word.Call (λ w. can-calling says target w.span)) (on-call text says d target t.span (behind s ts) g.1)

pub on-set : (text : Bytes) (says : Span → Bytes) (d : ℕ) (target : IdentTree) → Reads text says (Setting says target) (set_at text d target)
unfolding set_at
on-set text says d target s g =
    on-choose (skip_word_at word.Call s) (λ a. first_at s >>= λ x. call_at text d target x.0.span a)
    (on-either (call-from text says d target s s.toks g))
    (on-other (on-then text says g (on-expr text says d s g) (λ e. can-mark 59 (λ c. can-done _)) (λ x h. on-mark text says 59 x.1 h (λ c. can-done _) (λ c e k. on-done))))

-- behind the name of an assignment
abbrev pub Element : (Span → Bytes) → IdentTree → Spells StmtTree
Element says target =
    Then (Mark 91) (λ _. Then (Expr says) (λ i. Then (Mark 93) (λ _. Then (Mark 61) (λ _. Then (Expr says) (λ e. Then (Mark 59) (λ _. Done (SetElemTree target.span target i e)))))))

abbrev pub Assigning : (Span → Bytes) → IdentTree → Spells StmtTree
Assigning says target = Or (Then (Mark 61) (λ _. Setting says target)) (Element says target)

pub on-element : (text : Bytes) (says : Span → Bytes) (d : ℕ) (target : IdentTree) (s : State) → Agree text says s.toks →
    On (Element says target) s
    (skip_at 91 s >>= λ a. bracketed text d (place s) a >>= λ i. skip_at 93 i.1 >>= λ b. skip_at 61 b >>= λ c. expr_at text d c >>= λ x. skip_at 59 x.1 >>= λ end. Ok (SetElemTree target.span target i.0 x.0, end))
on-element text says d target s g =
    let value : (i : ExprTree) → Can (Then (Expr says) (λ e. Then (Mark 59) (λ _. Done (SetElemTree target.span target i e)))) = λ i. can-then (can-level says 7) (λ e. can-mark 59 (λ c. can-done _)) in
    on-mark-at text says 91 s (λ p a. bracketed text d p a >>= λ i. skip_at 93 i.1 >>= λ b. skip_at 61 b >>= λ c. expr_at text d c >>= λ x. skip_at 59 x.1 >>= λ end. Ok (SetElemTree target.span target i.0 x.0, end)) g
    (λ t. can-then (can-level says 7) (λ i. can-mark 93 (λ c. can-mark 61 (λ q. value i))))
    (λ t a h. at-then text says h (on-bracketed text says d t.span.from a h) (λ i. can-mark 93 (λ c. can-mark 61 (λ q. value i)))
    (λ i k. on-mark text says 93 i.1 k (λ c. can-mark 61 (λ q. value i.0)) (λ c b l. on-mark text says 61 b l (λ q. value i.0)
    (λ q c m. on-then text says m (on-expr text says d c m) (λ e. can-mark 59 (λ c. can-done _)) (λ x n. on-mark text says 59 x.1 n (λ c. can-done _) (λ c e o. on-done))))))

pub on-assignment : (text : Bytes) (says : Span → Bytes) (d : ℕ) (target : IdentTree) → Reads text says (Assigning says target) (assignment_at text d target)
unfolding assignment_at
on-assignment text says d target s g =
    on-choose (skip_at 61 s) (set_at text d target)
    (on-either (on-mark text says 61 s g (λ t. can-setting says target) (λ t a h. on-set text says d target a h)))
    (on-other (on-element text says d target s g))

pub to-assignment : (says : Span → Bytes) (ts rest : List Token) (a : StmtTree) → Then (One (λ t. t.kind ≡ kind.Name)) (λ t. Assigning says (ident_of says t)) ts rest a → Stmt says ts rest a
to-assignment says ts rest a (seq (one p) (either (seq (one q) (either (seq (one w) (seq (seq (one n) done) (seq (one b) (seq l (seq (one c) done))))))))) = grammar.call p q w n b l c
to-assignment says ts rest a (seq (one p) (either (seq (one q) (other (seq e (seq (one c) done)))))) = grammar.set p q e c
to-assignment says ts rest a (seq (one p) (other (seq (one b) (seq i (seq (one d) (seq (one q) (seq e (seq (one c) done)))))))) = grammar.set_element p b i d q e c

-- a condition in its brackets
abbrev pub Condition : (Span → Bytes) → Spells ExprTree
Condition says = Then (Mark 40) (λ _. Then (Expr says) (λ e. Then (Mark 41) (λ _. Done e)))

pub can-condition : (says : Span → Bytes) → Can (Condition says)
can-condition says = can-mark 40 (λ t. can-then (can-level says 7) (λ e. can-mark 41 (λ c. can-done _)))

pub on-condition : (text : Bytes) (says : Span → Bytes) (d : ℕ) → Reads text says (Condition says) (condition_at text d)
unfolding condition_at
on-condition text says d s g =
    on-mark-at text says 40 s (λ p a. bracketed text d p a >>= λ x. skip_at 41 x.1 >>= λ end. Ok (x.0, end)) g (λ t. can-then (can-level says 7) (λ e. can-mark 41 (λ c. can-done _)))
    (λ t a h. at-then text says h (on-bracketed text says d t.span.from a h) (λ e. can-mark 41 (λ c. can-done _)) (λ x k. on-mark text says 41 x.1 k (λ c. can-done _) (λ c e l. on-done)))

pub to-present : (says : Span → Bytes) (ts rest : List Token) (a : Block) → Then (Reserved word.Else) (λ _. Braces says) ts rest a → Else says ts rest a
to-present says ts rest a (seq (one p) b) = grammar.present p b

pub to-absent : (says : Span → Bytes) (ts rest : List Token) (a : Block) → Done ended ts rest a → Else says ts rest a
to-absent says ts rest a done = grammar.absent

pub on-otherwise : (text : Bytes) (says : Span → Bytes) (block : Read Block) → Reads text says (Braces says) block → Reads text says (Else says) (otherwise_at block)
unfolding otherwise_at
on-otherwise text says block i s g =
    on-choose (skip_word_at word.Else s) block
    (on-map (to-present says) (on-reserved text says word.Else s g (λ t. can-braces says) (λ t a h. i a h)))
    (on-map (to-absent says) on-done)

abbrev pub Choosing : (Span → Bytes) → Span → Spells StmtTree
Choosing says span = Then (Condition says) (λ c. Then (Braces says) (λ h. Then (Else says) (λ o. Done (IfTree span c h o))))

pub on-if : (text : Bytes) (says : Span → Bytes) (d : ℕ) (block : Read Block) → Reads text says (Braces says) block → (span : Span) → Reads text says (Choosing says span) (if_at text d block span)
unfolding if_at
on-if text says d block i span s g =
    on-then text says g (on-condition text says d s g) (λ c. can-then (can-braces says) (λ h. can-then (can-else says) (λ o. can-done _)))
    (λ c h. on-then text says h (i c.1 h) (λ h. can-then (can-else says) (λ o. can-done _)) (λ b k. on-then text says k (on-otherwise text says block i b.1 k) (λ o. can-done _) (λ o l. on-done)))

pub to-choice : (says : Span → Bytes) (ts rest : List Token) (a : StmtTree) → Then (Reserved word.If) (λ w. Choosing says w.span) ts rest a → Stmt says ts rest a
to-choice says ts rest a (seq (one w) (seq (seq (one b) (seq e (seq (one c) done))) (seq h (seq o done)))) = grammar.choice w b e c h o

abbrev pub Looping : (Span → Bytes) → Span → Spells StmtTree
Looping says span = Then (Condition says) (λ c. Then (Reserved word.Max) (λ _. Then Count (λ n. Then (Braces says) (λ b. Done (WhileTree span c n b)))))

pub on-while : (text : Bytes) (says : Span → Bytes) (d : ℕ) (block : Read Block) → Reads text says (Braces says) block → (span : Span) → Reads text says (Looping says span) (while_at text d block span)
unfolding while_at
on-while text says d block i span s g =
    on-then text says g (on-condition text says d s g) (λ c. can-reserved word.Max (λ t. can-then can-count (λ n. can-then (can-braces says) (λ b. can-done _))))
    (λ c h. on-reserved text says word.Max c.1 h (λ t. can-then can-count (λ n. can-then (can-braces says) (λ b. can-done _)))
    (λ t a k. on-then text says k (on-count a) (λ n. can-then (can-braces says) (λ b. can-done _)) (λ n l. on-then text says l (i n.1 l) (λ b. can-done _) (λ b m. on-done))))

pub to-loop : (says : Span → Bytes) (ts rest : List Token) (a : StmtTree) → Then (Reserved word.While) (λ w. Looping says w.span) ts rest a → Stmt says ts rest a
to-loop says ts rest a (seq (one w) (seq (seq (one b) (seq e (seq (one c) done))) (seq (one m) (seq n (seq body done))))) = grammar.loop w b e c m n body

abbrev pub Repeating : (Span → Bytes) → Span → Spells StmtTree
Repeating says span = Then Count (λ n. Then (Braces says) (λ b. Done (RepeatTree span n b)))

pub on-repeat : (text : Bytes) (says : Span → Bytes) (block : Read Block) → Reads text says (Braces says) block → (span : Span) → Reads text says (Repeating says span) (repeat_at block span)
unfolding repeat_at
on-repeat text says block i span s g =
    on-then text says g (on-count s) (λ n. can-then (can-braces says) (λ b. can-done _)) (λ n l. on-then text says l (i n.1 l) (λ b. can-done _) (λ b m. on-done))

pub to-repeat : (says : Span → Bytes) (ts rest : List Token) (a : StmtTree) → Then (Reserved word.Repeat) (λ w. Repeating says w.span) ts rest a → Stmt says ts rest a
to-repeat says ts rest a (seq (one w) (seq n (seq body done))) = grammar.repeat w n body

pub stmt-word : (text : Bytes) (says : Span → Bytes) (d : ℕ) (block : Read Block) → Reads text says (Braces says) block → (s : State) (t : Token) (ts : List Token) → Agree text says ts → (w : Word) → t.kind ≡ kind.Word w →
    On (Stmt says) (behind s (t ∷ ts)) (word_stmt text d block (behind s ts) t.span w)
stmt-word text says d block i s t ts g word.If e = on-map (to-choice says) (on-token s e (on-if text says d block i t.span (behind s ts) g))
stmt-word text says d block i s t ts g word.While e = on-map (to-loop says) (on-token s e (on-while text says d block i t.span (behind s ts) g))
stmt-word text says d block i s t ts g word.Repeat e = on-map (to-repeat says) (on-token s e (on-repeat text says block i t.span (behind s ts) g))
stmt-word text says d block i s t ts g _ e = on-none (can-stmt says)

pub stmt-kind : (text : Bytes) (says : Span → Bytes) (d : ℕ) (block : Read Block) → Reads text says (Braces says) block → (s : State) (t : Token) (ts : List Token) → word_at text t.span ≡ says t.span → Agree text says ts →
    (k : TokenKind) → t.kind ≡ k → On (Stmt says) (behind s (t ∷ ts)) (stmt_of text d block (behind s ts) t.span k)
stmt-kind text says d block i s t ts w g kind.Name e =
    on-same (ap (λ x. assignment_at text d (record { text = x; span = t.span }) (behind s ts)) w)
    (on-map (to-assignment says) (on-token s e (on-assignment text says d (ident_of says t) (behind s ts) g)))
stmt-kind text says d block i s t ts w g (kind.Word v) e = stmt-word text says d block i s t ts g v e
stmt-kind text says d block i s t ts w g _ e = on-none (can-stmt says)

pub stmt-from : (text : Bytes) (says : Span → Bytes) (d : ℕ) (block : Read Block) → Reads text says (Braces says) block → (s : State) (ts : List Token) → Agree text says ts →
    On (Stmt says) (behind s ts) (stmt_with text d block (behind s ts))
unfolding stmt_with
stmt-from text says d block i s [] g = on-none (can-stmt says)
stmt-from text says d block i s (t ∷ ts) g = stmt-kind text says d block i s t ts g.0 g.1 t.kind refl

pub to-end : (says : Span → Bytes) (ts rest : List Token) (a : Block) → Then (Mark 125) (λ _. Done ended) ts rest a → Stmts says ts rest a
to-end says ts rest a (seq (one p) done) = grammar.end p

pub to-next : (says : Span → Bytes) (ts rest : List Token) (a : Block) → Then (Stmt says) (λ x. Then (Stmts says) (λ b. Done (also x b))) ts rest a → Stmts says ts rest a
to-next says ts rest a (seq x (seq b done)) = grammar.next x b

pub on-items : (text : Bytes) (says : Span → Bytes) (stmt : Read StmtTree) → Reads text says (Stmt says) stmt → (n : ℕ) → Reads text says (Stmts says) (items_at stmt n)
unfolding items_at
on-items text says stmt i zero s g = on-none (can-stmts says)
on-items text says stmt i (suc n) s g =
    on-choose (skip_at 125 s) (λ end. Ok (ended, end))
    (on-map (to-end says) (on-mark text says 125 s g (λ t. can-done _) (λ t a h. on-done)))
    (on-map (to-next says) (on-then text says g (i s g) (λ x. can-then (can-stmts says) (λ b. can-done _))
    (λ x k. on-then text says k (on-items text says stmt i n x.1 k) (λ b. can-done _) (λ y l. on-done))))

pub on-braces : (text : Bytes) (says : Span → Bytes) (d p : ℕ) → ReadsAt text says p (Stmts says) (braces text d p)
unfolding braces
on-braces text says zero p s g = at-deep (can-stmts says)
on-braces text says (suc d) p s g =
    at (on-items text says (stmt_with text d (block_at text d))
    (λ x h. stmt-from text says d (block_at text d)
    (λ y k. on-map (to-braces says) (on-mark-at text says 123 y (braces text d) k (λ t. can-stmts says) (λ t a l. on-braces text says d t.span.from a l))) x x.toks h)
    (length s.toks + 1) s g)

pub on-stmt : (text : Bytes) (says : Span → Bytes) (d : ℕ) → Reads text says (Stmt says) (stmt_at text d)
on-stmt text says d s g =
    stmt-from text says d (block_at text d)
    (λ y k. on-map (to-braces says) (on-mark-at text says 123 y (braces text d) k (λ t. can-stmts says) (λ t a l. on-braces text says d t.span.from a l))) s s.toks g
