-- Laws of the readers of expressions.
use Rattle.std.proofs.Common.{◌≡◌, ℕ, zero, suc, ◌-◌, ◌<◌, length, Ok, Err, refl, arith}
use Rattle.rely_num.specs.Texts.{Bytes}
use Rattle.rely_num.specs.declared.op.Op.{Op}
use Rattle.rely_num.specs.declared.span.Span.{Span}
use Rattle.rely_tree.specs.Tree.{KindTree, ExprTree, BinTree}
use Rattle.rely_parser.specs.declared.fault.ParseFault.{ParseFault}
use Rattle.rely_parser.specs.declared.fault.ParseFault.TheVariants as fault
use Rattle.rely_parser.specs.State.{State, Read, operator_at}
use Rattle.rely_parser.specs.Grammar.{prim_at, kind_at, more_at, level_at, bracketed}

pub bracketed-zero : (text : Bytes) (d p : ℕ) (s : State) → d ≡ 0 → bracketed text d p s ≡ Err (fault.Deep p)
unfolding bracketed
bracketed-zero text zero p s h = refl
bracketed-zero text (suc d) p s h = absurd (omega arith)

pub bracketed-inside : (text : Bytes) (d p : ℕ) (s : State) → 0 < d → bracketed text d p s ≡ level_at text (bracketed text (d - 1)) 7 s
unfolding bracketed
bracketed-inside text zero p s h = absurd (omega arith)
bracketed-inside text (suc d) p s h = let o : suc d - 1 ≡ d = omega arith in rw o refl

pub ruleset brackets = (bracketed-zero, bracketed-inside)

pub level_at-zero : (text : Bytes) (inner : ℕ → Read ExprTree) (h : ℕ) (s : State) → h ≡ 0 → level_at text inner h s ≡ prim_at text inner s
unfolding level_at
level_at-zero text inner zero s e = refl
level_at-zero text inner (suc h) s e = absurd (omega arith)

pub level_at-none : (text : Bytes) (inner : ℕ → Read ExprTree) (h : ℕ) (s : State) (f : ParseFault) → 0 < h → level_at text inner (h - 1) s ≡ Err f → level_at text inner h s ≡ Err f
unfolding level_at
level_at-none text inner zero s f l e = absurd (omega arith)
level_at-none text inner (suc h) s f l e = let p : suc h - 1 ≡ h = omega arith in let e' = rw p at e in rw (level_at, e') refl

pub level_at-some : (text : Bytes) (inner : ℕ → Read ExprTree) (h : ℕ) (s : State) (t : ExprTree) (r : State) → 0 < h → level_at text inner (h - 1) s ≡ Ok (t, r) →
    more_at text h (level_at text inner (h - 1)) (length r.toks) t r ≡ level_at text inner h s
unfolding level_at
level_at-some text inner zero s t r l e = absurd (omega arith)
level_at-some text inner (suc h) s t r l e = let p : suc h - 1 ≡ h = omega arith in let e' = rw p at e in rw (p, level_at, e') refl

pub more_at-end : (text : Bytes) (h : ℕ) (next : Read ExprTree) (n : ℕ) (t : ExprTree) (s : State) (f : ParseFault) → operator_at h s ≡ Err f → more_at text h next n t s ≡ Ok (t, s)
unfolding more_at
more_at-end text h next zero t s f e = refl
more_at-end text h next (suc n) t s f e = rw (more_at, e) refl

pub more_at-kind : (text : Bytes) (h : ℕ) (next : Read ExprTree) (n : ℕ) (t : ExprTree) (s : State) (o : Op × Span) (a : State) (x : ParseFault) →
    0 < n → operator_at h s ≡ Ok (o, a) → kind_at text o.1.from a ≡ Err x → more_at text h next n t s ≡ Err x
unfolding more_at
more_at-kind text h next zero t s o a x l e f = absurd (omega arith)
more_at-kind text h next (suc n) t s o a x l e f = rw (more_at, e, f) refl

pub more_at-none : (text : Bytes) (h : ℕ) (next : Read ExprTree) (n : ℕ) (t : ExprTree) (s : State) (o : Op × Span) (a : State) (k : KindTree) (b : State) (x : ParseFault) →
    0 < n → operator_at h s ≡ Ok (o, a) → kind_at text o.1.from a ≡ Ok (k, b) → next b ≡ Err x → more_at text h next n t s ≡ Err x
unfolding more_at
more_at-none text h next zero t s o a k b x l e f g = absurd (omega arith)
more_at-none text h next (suc n) t s o a k b x l e f g = rw (more_at, e, f, g) refl

pub more_at-more : (text : Bytes) (h : ℕ) (next : Read ExprTree) (n : ℕ) (t : ExprTree) (s : State) (o : Op × Span) (a : State) (k : KindTree) (b : State) (r : ExprTree) (c : State) →
    0 < n → operator_at h s ≡ Ok (o, a) → kind_at text o.1.from a ≡ Ok (k, b) → next b ≡ Ok (r, c) →
    more_at text h next (n - 1) (BinTree o.0 o.1 k t r) c ≡ more_at text h next n t s
unfolding more_at
more_at-more text h next zero t s o a k b r c l e f g = absurd (omega arith)
more_at-more text h next (suc n) t s o a k b r c l e f g = let m : suc n - 1 ≡ n = omega arith in rw (m, more_at, e, f, g) refl

pub ruleset levels = (level_at-zero)
