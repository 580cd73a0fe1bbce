-- Laws of the readers of what stands behind the same word, and of bodies.
use Rattle.std.proofs.Common.{◌≡◌, ℕ, zero, suc, ◌+◌, ◌-◌, ◌<◌, List, [], ◌∷◌, ◌++◌, length, Ok, Err, refl, ap, sym, ◌∙◌, arith}
use Rattle.rely_num.specs.Texts.{Bytes}
use Rattle.rely_lexer.specs.declared.token.Token.{Token}
use Rattle.rely_num.specs.declared.word.Word.{Word}
use Rattle.rely_num.specs.declared.word.Word.TheVariants as word
use Rattle.rely_tree.specs.declared.stmt.Stmt.{Stmt}
use Rattle.rely_tree.specs.Tree.{StmtTree, ended, also}
use Rattle.rely_tree.specs.Shape.{stmt_shape, block_shape}
use Rattle.rely_parser.specs.declared.fault.ParseFault.{ParseFault}
use Rattle.rely_parser.specs.declared.fault.ParseFault.TheVariants as fault
use Rattle.rely_parser.specs.State.{State, Reading, Read, place, ◌>>=◌, first_at, skip_word_at}
use Rattle.rely_parser.specs.Statements.{stmt_at}
use Rattle.rely_parser.specs.Units.{each_behind, some_behind, last_at, returned_at, body_of}
use Rattle.rely_parser.proofs.Blocks.{stmts_front}

pub each-end : {A : Type 0} (w : Word) (item : Read A) (n : ℕ) (s : State) (m : ParseFault) → skip_word_at w s ≡ Err m → each_behind w item n s ≡ Ok ([], s)
unfolding each_behind
each-end w item zero s m h = rw h refl
each-end w item (suc n) s m h = rw h refl

pub each-full : {A : Type 0} (w : Word) (item : Read A) (n : ℕ) (s a : State) → n ≡ 0 → skip_word_at w s ≡ Ok a → each_behind w item n s ≡ Err (fault.Many (place s))
unfolding each_behind
each-full w item zero s a z h = rw h refl
each-full w item (suc n) s a z h = absurd (omega arith)

pub each-none : {A : Type 0} (w : Word) (item : Read A) (n : ℕ) (s a : State) (e : ParseFault) → 0 < n → skip_word_at w s ≡ Ok a → item a ≡ Err e → each_behind w item n s ≡ Err e
unfolding each_behind
each-none w item zero s a e l h i = absurd (omega arith)
each-none w item (suc n) s a e l h i = rw (each_behind, h, i) refl

pub each-more : {A : Type 0} (w : Word) (item : Read A) (n : ℕ) (s a : State) (x : A) (r : State) → 0 < n → skip_word_at w s ≡ Ok a → item a ≡ Ok (x, r) →
    (each_behind w item (n - 1) r >>= λ y. Ok (x ∷ y.0, y.1)) ≡ each_behind w item n s
unfolding each_behind
each-more w item zero s a x r l h i = absurd (omega arith)
each-more w item (suc n) s a x r l h i = let m : suc n - 1 ≡ n = omega arith in rw (m, each_behind, h, i) refl

pub some-missing : {A : Type 0} (w : Word) (item : Read A) (n : ℕ) (s : State) (e : ParseFault) → skip_word_at w s ≡ Err e → some_behind w item n s ≡ Err e
unfolding some_behind
some-missing w item n s e h = rw h refl

-- one, and those that stand each behind the same word, at most n
abbrev pub from_one : {A : Type 0} → Word → Read A → ℕ → Read (List A)
from_one w item n s = item s >>= λ x. each_behind w item n x.1 >>= λ y. Ok (x.0 ∷ y.0, y.1)

pub some-from : {A : Type 0} (w : Word) (item : Read A) (n : ℕ) (s a : State) → skip_word_at w s ≡ Ok a →
    from_one w item n a ≡ some_behind w item n s
unfolding some_behind
some-from w item n s a h = rw h refl

pub from_one-none : {A : Type 0} (w : Word) (item : Read A) (n : ℕ) (s : State) (e : ParseFault) → item s ≡ Err e →
    from_one w item n s ≡ Err e
from_one-none w item n s e i = rw i refl

pub from_one-end : {A : Type 0} (w : Word) (item : Read A) (n : ℕ) (s : State) (x : A) (r : State) (m : ParseFault) →
    item s ≡ Ok (x, r) → skip_word_at w r ≡ Err m → from_one w item n s ≡ Ok (x ∷ [], r)
from_one-end w item n s x r m i h = rw (i, each-end w item n r m h) refl

pub from_one-full : {A : Type 0} (w : Word) (item : Read A) (n : ℕ) (s : State) (x : A) (r a : State) →
    item s ≡ Ok (x, r) → n ≡ 0 → skip_word_at w r ≡ Ok a → from_one w item n s ≡ Err (fault.Many (place r))
from_one-full w item n s x r a i z h = rw (i, each-full w item n r a z h) refl

pub each-from : {A : Type 0} (w : Word) (item : Read A) (n : ℕ) (s a : State) → 0 < n → skip_word_at w s ≡ Ok a →
    from_one w item (n - 1) a ≡ each_behind w item n s
unfolding each_behind
each-from w item zero s a l h = absurd (omega arith)
each-from w item (suc n) s a l h = let m : suc n - 1 ≡ n = omega arith in rw (m, each_behind, h) refl

pub from_one-more : {A : Type 0} (w : Word) (item : Read A) (n : ℕ) (s : State) (x : A) (r a : State) →
    item s ≡ Ok (x, r) → 0 < n → skip_word_at w r ≡ Ok a →
    (from_one w item (n - 1) a >>= λ y. Ok (x ∷ y.0, y.1)) ≡ from_one w item n s
from_one-more w item n s x r a i l h = rw i (ap (λ o. o >>= λ y. Ok (x ∷ y.0, y.1)) (each-from w item n r a l h))

pub stmts_front-last : (ss : List Stmt) (s : Stmt) → stmts_front ss (also (stmt_shape s) ended) ≡ block_shape (ss ++ s ∷ [])
stmts_front-last [] s = refl
stmts_front-last (x ∷ ss) s = ap (also (stmt_shape x)) (stmts_front-last ss s)

bind-bind : {A B C : Type 0} (o : Reading A) (f : A → Reading B) (g : B → Reading C) →
    ((o >>= f) >>= g) ≡ (o >>= λ x. f x >>= g)
bind-bind (Err e) f g = refl
bind-bind (Ok x) f g = refl

pub body_of-returned : (text : Bytes) (n : ℕ) (s a : State) → 0 < n → skip_word_at word.Return s ≡ Ok a →
    (returned_at text s a >>= λ y. Ok (also y.0 ended, y.1)) ≡ body_of text n s
unfolding body_of
body_of-returned text zero s a l h = absurd (omega arith)
body_of-returned text (suc n) s a l h =
    rw (body_of, h) (bind-bind (first_at s) (λ x. last_at text x.0.span a) (λ y. Ok (also y.0 ended, y.1)))

pub body_of-end : (text : Bytes) (n : ℕ) (s a : State) (y : StmtTree) (e : State) → 0 < n → skip_word_at word.Return s ≡ Ok a →
    returned_at text s a ≡ Ok (y, e) → body_of text n s ≡ Ok (also y ended, e)
body_of-end text n s a y e l h q = sym (body_of-returned text n s a l h) ∙ ap (λ o. o >>= λ z. Ok (also z.0 ended, z.1)) q

pub body_of-bad : (text : Bytes) (n : ℕ) (s a : State) (e : ParseFault) → 0 < n → skip_word_at word.Return s ≡ Ok a →
    returned_at text s a ≡ Err e → body_of text n s ≡ Err e
body_of-bad text n s a e l h q = sym (body_of-returned text n s a l h) ∙ ap (λ o. o >>= λ z. Ok (also z.0 ended, z.1)) q

pub body_of-none : (text : Bytes) (n : ℕ) (s : State) (m e : ParseFault) → 0 < n → skip_word_at word.Return s ≡ Err m → stmt_at text 63 s ≡ Err e → body_of text n s ≡ Err e
unfolding body_of
body_of-none text zero s m e l h q = absurd (omega arith)
body_of-none text (suc n) s m e l h q = rw (body_of, h, q) refl

pub body_of-more : (text : Bytes) (n : ℕ) (s : State) (m : ParseFault) (t : StmtTree) (r : State) → skip_word_at word.Return s ≡ Err m → 0 < n → stmt_at text 63 s ≡ Ok (t, r) →
    (body_of text (n - 1) r >>= λ y. Ok (also t y.0, y.1)) ≡ body_of text n s
unfolding body_of
body_of-more text zero s m t r h l q = absurd (omega arith)
body_of-more text (suc n) s m t r h l q = let o : suc n - 1 ≡ n = omega arith in rw (o, body_of, h, q) refl

pub length-push : {A : Type 0} (xs : List A) (x : A) → length (xs ++ x ∷ []) ≡ length xs + 1
length-push [] x = refl
length-push (y ∷ xs) x = let h = length-push xs x in omega (arith, h)

pub left-push : {A : Type 0} (n m : ℕ) (xs : List A) (x : A) → 0 < n → n + length xs ≡ m → n - 1 + length (xs ++ x ∷ []) ≡ m
left-push n m xs x l h = let p = length-push xs x in omega (arith, p, h, l)
