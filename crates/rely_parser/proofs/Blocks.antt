-- Laws of the readers of blocks.
use Rattle.std.proofs.Common.{◌≡◌, ℕ, zero, suc, ◌+◌, ◌-◌, ◌<◌, List, [], ◌∷◌, ◌++◌, length, Ok, Err, refl, ap, arith}
use Rattle.rely_num.specs.Texts.{Bytes}
use Rattle.rely_tree.specs.declared.stmt.Stmt.{Stmt}
use Rattle.rely_tree.specs.Tree.{StmtTree, Block, ended, also}
use Rattle.rely_tree.specs.Shape.{stmt_shape, block_shape}
use Rattle.rely_parser.specs.declared.fault.ParseFault.{ParseFault}
use Rattle.rely_parser.specs.declared.fault.ParseFault.TheVariants as fault
use Rattle.rely_parser.specs.State.{State, Reading, Read, ◌>>=◌, skip_at}
use Rattle.rely_parser.specs.Statements.{items_at, braces, stmt_at}

-- the statements, and then those of the block
abbrev pub stmts_front : List Stmt → Block → Block
stmts_front [] b = b
stmts_front (s ∷ ss) b = also (stmt_shape s) (stmts_front ss b)

abbrev pub with_stmts : List Stmt → Reading (Block × State) → Reading (Block × State)
with_stmts ss o = o >>= λ y. Ok (stmts_front ss y.0, y.1)

pub with_stmts-none : (o : Reading (Block × State)) → with_stmts [] o ≡ o
with_stmts-none (Err e) = refl
with_stmts-none (Ok y) = refl

pub stmts_front-ended : (ss : List Stmt) → stmts_front ss ended ≡ block_shape ss
stmts_front-ended [] = refl
stmts_front-ended (s ∷ ss) = ap (also (stmt_shape s)) (stmts_front-ended ss)

pub stmts_front-push : (ss : List Stmt) (s : Stmt) (b : Block) → stmts_front (ss ++ s ∷ []) b ≡ stmts_front ss (also (stmt_shape s) b)
stmts_front-push [] s b = refl
stmts_front-push (x ∷ ss) s b = ap (also (stmt_shape x)) (stmts_front-push ss s b)

pub with_stmts-push : (ss : List Stmt) (s : Stmt) (o : Reading (Block × State)) →
    with_stmts (ss ++ s ∷ []) o ≡ with_stmts ss (o >>= λ y. Ok (also (stmt_shape s) y.0, y.1))
with_stmts-push ss s (Err e) = refl
with_stmts-push ss s (Ok y) = ap (λ b. Ok (b, y.1)) (stmts_front-push ss s y.0)

pub items_at-end : (p : Read StmtTree) (n : ℕ) (s e : State) → skip_at 125 s ≡ Ok e → 0 < n → items_at p n s ≡ Ok (ended, e)
unfolding items_at
items_at-end p zero s e h l = absurd (omega arith)
items_at-end p (suc n) s e h l = rw (items_at, h) refl

pub items_at-none : (p : Read StmtTree) (n : ℕ) (s : State) (m e : ParseFault) → 0 < n → skip_at 125 s ≡ Err m → p s ≡ Err e → items_at p n s ≡ Err e
unfolding items_at
items_at-none p zero s m e l h q = absurd (omega arith)
items_at-none p (suc n) s m e l h q = rw (items_at, h, q) refl

pub items_at-more : (p : Read StmtTree) (n : ℕ) (s : State) (m : ParseFault) (t : StmtTree) (r : State) → skip_at 125 s ≡ Err m → 0 < n → p s ≡ Ok (t, r) →
    (items_at p (n - 1) r >>= λ y. Ok (also t y.0, y.1)) ≡ items_at p n s
unfolding items_at
items_at-more p zero s m t r h l q = absurd (omega arith)
items_at-more p (suc n) s m t r h l q = let o : suc n - 1 ≡ n = omega arith in rw (o, items_at, h, q) refl

pub braces-zero : (text : Bytes) (d p : ℕ) (s : State) → d ≡ 0 → braces text d p s ≡ Err (fault.Deep p)
unfolding braces
braces-zero text zero p s h = refl
braces-zero text (suc d) p s h = absurd (omega arith)

pub braces-inside : (text : Bytes) (d p : ℕ) (s : State) → 0 < d → braces text d p s ≡ items_at (stmt_at text (d - 1)) (length s.toks + 1) s
unfolding braces
braces-inside text zero p s h = absurd (omega arith)
braces-inside text (suc d) p s h = let o : suc d - 1 ≡ d = omega arith in rw o refl

pub ruleset blocks = (braces-zero, braces-inside)
