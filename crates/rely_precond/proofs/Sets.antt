-- Sets of variables below 64, as the text of a statement writes them.
use Rattle.std.proofs.Common.{◌≡◌, ℕ, ◌<◌, ◌≤◌, ◌^◌, ◌+◌, List, ◌∷◌, length, drop, get_or, inl, inr, sym, ap, subst, ◌∙◌, arith}
use Rattle.std.proofs.lemmas.Nat.{le_or_l, le_or_r, or_lt, pow_below}
use Rattle.std.proofs.lemmas.Nat.Bits.{bit_at_or, same_from_bits}
use Rattle.std.proofs.lemmas.Bool.{cases_order}
use Rattle.std.proofs.lemmas.List.{drop_more, drop_all}
use Rattle.std.specs.Int.Bits.{or_zero_r}
use Rattle.rely_num.specs.Sets.{only, union}
use Rattle.rely_kernel.specs.declared.kernel.Kernel.{Kernel}
use Rattle.rely_kernel.specs.Paths.{writes, all_writes}
use Rattle.rely_kernel.specs.Text.{Stmt, Block, done, ◌then◌, stmt_of, block_of}
use Rattle.rely_kernel.specs.declared.kernel.St.{St}
use Rattle.rely_kernel.specs.declared.kernel.StKind.{StKind}
use Rattle.rely_precond.specs.InRange.{StmtInRange, BlockInRange}

-- a variable whose set is a number of 64 bits
pub only_below : (v : ℕ) → only v < 2 ^ 64 → v < 64
only_below v h = elim (cases_order v 64) [
  | inl e ↦ absurd (let f : only v ≡ 2 ^ 64 = ap only e in omega arith)
  | inr (inl l) ↦ l
  | inr (inr l) ↦ absurd (let p = pow_below 64 v l in omega arith)
]

only_fits : (v n : ℕ) → v < n → n ≤ 63 → only v < 2 ^ 64
only_fits v n h few = pow_below v 64 (omega arith)

module _ (k : Kernel) (few : length k.vars ≤ 63) where
  mutual
    pub writes_fit : (s : Stmt) → StmtInRange k s → writes s < 2 ^ 64
    writes_fit (Stmt.Set v e) r = only_fits v (length k.vars) r.0 few
    writes_fit (Stmt.SetElem a i e) r = only_fits a (length k.vars) r.0 few
    writes_fit (Stmt.If c s t) r = or_lt 64 (all_writes s) (all_writes t) (all_writes_fit s r.1) (all_writes_fit t r.2)
    writes_fit (Stmt.While c n s) r = all_writes_fit s r.1
    writes_fit (Stmt.Repeat n s) r = all_writes_fit s r
    writes_fit (Stmt.Result e) r = omega arith
    writes_fit (Stmt.Call v place es) r = only_fits v (length k.vars) r.0 few
    writes_fit Stmt.Enter r = absurd r

    pub all_writes_fit : (x : Block) → BlockInRange k x → all_writes x < 2 ^ 64
    all_writes_fit done r = omega arith
    all_writes_fit (s then rest) r = or_lt 64 (writes s) (all_writes rest) (writes_fit s r.0) (all_writes_fit rest r.1)

-- three sets
union_twice : (a b c : ℕ) → union (union a b) c ≡ union a (union b c)
union_twice a b c = same_from_bits (union (union a b) c) (union a (union b c)) (λ i.
    let x = bit_at_or (union a b) c i in
    let y = bit_at_or a b i in
    let z = bit_at_or a (union b c) i in
    let w = bit_at_or b c i in
    omega arith)

-- ---- statements as code takes them apart

module _ (what : StKind) (fits : writes (stmt_of what) < 2 ^ 64) where
  pub target_below : (v : ℕ) → writes (stmt_of what) ≡ only v → v < 64
  target_below v is = only_below v (subst (λ (n : ℕ). n < 2 ^ 64) is fits)

-- ---- a block from one of its statements on

pub rest_at : (body : List St) (i : ℕ) (s : St) → i < length body → s ≡ get_or body i s → block_of (drop i body) ≡ stmt_of s.what then block_of (drop (i + 1) body)
rest_at body i s h is = ap block_of (drop_more body i s h ∙ ap (λ x. x ∷ drop (i + 1) body) (sym is))

-- with what was written before it
abbrev pub SoFar : List St → ℕ → ℕ → Type 0
SoFar body i set = union set (all_writes (block_of (drop i body))) ≡ all_writes (block_of body)

pub one_fits : (body : List St) (i : ℕ) (s : St) (set : ℕ) → i < length body → s ≡ get_or body i s → SoFar body i set → all_writes (block_of body) < 2 ^ 64 → writes (stmt_of s.what) < 2 ^ 64
one_fits body i s set h is so_far fits =
    let e : all_writes (block_of (drop i body)) ≡ union (writes (stmt_of s.what)) (all_writes (block_of (drop (i + 1) body))) = ap all_writes (rest_at body i s h is) in
    let l = le_or_l (writes (stmt_of s.what)) (all_writes (block_of (drop (i + 1) body))) in
    let r = le_or_r set (all_writes (block_of (drop i body))) in
    omega (arith, e, l, r, so_far, fits)

pub one_more : (body : List St) (i : ℕ) (s : St) (set more : ℕ) → i < length body → s ≡ get_or body i s → SoFar body i set → more ≡ writes (stmt_of s.what) → SoFar body (i + 1) (union set more)
one_more body i s set more h is so_far w =
    let rest : ℕ = all_writes (block_of (drop (i + 1) body)) in
    union_twice set more rest ∙ ap (λ n. union set (union n rest)) w ∙ ap (union set) (sym (ap all_writes (rest_at body i s h is))) ∙ so_far

pub none_left : (body : List St) (i set : ℕ) → length body ≤ i → SoFar body i set → set ≡ all_writes (block_of body)
none_left body i set h so_far = sym (or_zero_r set) ∙ ap (λ xs. union set (all_writes (block_of xs))) (sym (drop_all i body h)) ∙ so_far
