-- What is written in the parts of a text, and the table of it.
use Rattle.std.proofs.Common.{◌≡◌, ◌≢◌, ℕ, zero, suc, ◌+◌, ◌-◌, ◌*◌, ◌<◌, ◌≤◌, ◌^◌, List, [], ◌∷◌, ◌++◌, length, drop, take, get_or, refl, sym, ap, ◌∙◌, arith, append-nil, append_assoc}
use Rattle.std.proofs.Math.Seq.{take-append_seam, drop-append_seam}
use Rattle.std.proofs.lemmas.Nat.{le_or_l, le_or_r}
use Rattle.std.proofs.lemmas.List.{length-append, same_from_push}
use Rattle.std.specs.Int.Bits.{or_zero_r}
use Rattle.rely_num.specs.Sets.{union}
use Rattle.rely_kernel.specs.declared.kernel.St.{St}
use Rattle.rely_kernel.specs.Paths.{writes, all_writes}
use Rattle.rely_kernel.specs.Text.{Stmt, Block, done, ◌then◌, stmt_of, block_of}
use Rattle.rely_precond.specs.declared.written.Written.{Written}
use Rattle.rely_precond.specs.Written.{first_block, second_block, assigns, first_sets, second_sets, all_sets, set_of}
use Rattle.rely_precond.proofs.Sets.{rest_at}

-- ---- the parts of a statement

pub first_sets_is : (s : Stmt) → first_sets s ≡ all_sets (first_block s)
first_sets_is (Stmt.Set v e) = refl
first_sets_is (Stmt.SetElem a i e) = refl
first_sets_is (Stmt.If c s t) = refl
first_sets_is (Stmt.While c n s) = refl
first_sets_is (Stmt.Repeat n s) = refl
first_sets_is (Stmt.Result e) = refl
first_sets_is (Stmt.Call v place es) = refl
first_sets_is Stmt.Enter = refl

pub second_sets_is : (s : Stmt) → second_sets s ≡ all_sets (second_block s)
second_sets_is (Stmt.Set v e) = refl
second_sets_is (Stmt.SetElem a i e) = refl
second_sets_is (Stmt.If c s t) = refl
second_sets_is (Stmt.While c n s) = refl
second_sets_is (Stmt.Repeat n s) = refl
second_sets_is (Stmt.Result e) = refl
second_sets_is (Stmt.Call v place es) = refl
second_sets_is Stmt.Enter = refl

alone : (n : ℕ) → union (union n 0) 0 ≡ n
alone n = or_zero_r (union n 0) ∙ or_zero_r n

-- it writes what it assigns itself, and what its blocks write
pub writes_is : (s : Stmt) → union (union (assigns s) (all_writes (first_block s))) (all_writes (second_block s)) ≡ writes s
writes_is (Stmt.Set v e) = alone (writes (Stmt.Set v e))
writes_is (Stmt.SetElem a i e) = alone (writes (Stmt.SetElem a i e))
writes_is (Stmt.If c s t) = refl
writes_is (Stmt.While c n s) = or_zero_r (all_writes s)
writes_is (Stmt.Repeat n s) = or_zero_r (all_writes s)
writes_is (Stmt.Result e) = alone (writes (Stmt.Result e))
writes_is (Stmt.Call v place es) = alone (writes (Stmt.Call v place es))
writes_is Stmt.Enter = refl

pub first_below : (s : Stmt) → writes s < 2 ^ 64 → all_writes (first_block s) < 2 ^ 64
first_below s h =
    let own : ℕ = union (assigns s) (all_writes (first_block s)) in
    let l = le_or_r (assigns s) (all_writes (first_block s)) in
    let m = le_or_l own (all_writes (second_block s)) in
    omega (arith, l, m, h, writes_is s)

pub second_below : (s : Stmt) → writes s < 2 ^ 64 → all_writes (second_block s) < 2 ^ 64
second_below s h =
    let l = le_or_r (union (assigns s) (all_writes (first_block s))) (all_writes (second_block s)) in
    omega (arith, l, h, writes_is s)

-- ---- how many statements

abbrev mutual
  pub size : Stmt → ℕ
  size (Stmt.Set v e) = 0
  size (Stmt.SetElem a i e) = 0
  size (Stmt.If c s t) = sizes s + sizes t
  size (Stmt.While c n s) = sizes s
  size (Stmt.Repeat n s) = sizes s
  size (Stmt.Result e) = 0
  size (Stmt.Call v place es) = 0
  size Stmt.Enter = 0

  pub sizes : Block → ℕ
  sizes done = 0
  sizes (s then rest) = suc (size s) + sizes rest

pub size_is : (s : Stmt) → size s ≡ sizes (first_block s) + sizes (second_block s)
size_is (Stmt.Set v e) = refl
size_is (Stmt.SetElem a i e) = refl
size_is (Stmt.If c s t) = refl
size_is (Stmt.While c n s) = omega arith
size_is (Stmt.Repeat n s) = omega arith
size_is (Stmt.Result e) = refl
size_is (Stmt.Call v place es) = refl
size_is Stmt.Enter = refl

pub first_smaller : (s : Stmt) (x : Block) → x ≡ first_block s → 2 * sizes x < 2 * size s + 1
first_smaller s x is = let e = size_is s in let f = ap sizes is in omega (arith, e, f)

pub second_smaller : (s : Stmt) (x : Block) → x ≡ second_block s → 2 * sizes x < 2 * size s + 1
second_smaller s x is = let e = size_is s in let f = ap sizes is in omega (arith, e, f)

sizes_drop : (body : List St) (i : ℕ) → sizes (block_of (drop i body)) ≤ sizes (block_of body)
sizes_drop [] i = go i
  where
    go : (j : ℕ) → sizes (block_of (drop j [])) ≤ 0
    go zero = omega arith
    go (suc j) = omega arith
sizes_drop (s ∷ ss) zero = omega arith
sizes_drop (s ∷ ss) (suc i) = let r = sizes_drop ss i in omega (arith, r)

pub one_smaller : (body : List St) (i : ℕ) (s : St) → i < length body → s ≡ get_or body i s → 2 * size (stmt_of s.what) + 1 < 2 * sizes (block_of body)
one_smaller body i s h is =
    let e = ap sizes (rest_at body i s h is) in
    let l = sizes_drop body i in
    omega (arith, e, l)

-- ---- the table, statement by statement

-- what a statement adds to it
abbrev pub own_sets : Stmt → List Written
own_sets s = first_sets s ++ second_sets s ++ set_of s ∷ []

-- with what was added before it
abbrev pub Added : List St → ℕ → List Written → List Written → Type 0
Added body i old now = now ++ all_sets (block_of (drop i body)) ≡ old ++ all_sets (block_of body)

pub added_more : (body : List St) (i : ℕ) (s : St) (old now more : List Written) → i < length body → s ≡ get_or body i s → Added body i old now → more ≡ now ++ first_sets (stmt_of s.what) ++ second_sets (stmt_of s.what) ++ set_of (stmt_of s.what) ∷ [] → Added body (i + 1) old more
added_more body i s old now more h is so_far added =
    let x : Stmt = stmt_of s.what in
    let rest : List Written = all_sets (block_of (drop (i + 1) body)) in
    ap (λ m. m ++ rest) (added ∙ joined now (first_sets x) (second_sets x) (set_of x))
    ∙ append_assoc now (own_sets x) rest
    ∙ ap (λ m. now ++ m) (sym (ap all_sets (rest_at body i s h is)))
    ∙ so_far
  where
    joined : (a f g : List Written) (w : Written) → a ++ f ++ g ++ w ∷ [] ≡ a ++ (f ++ g ++ w ∷ [])
    joined a f g w = ap (λ m. m ++ w ∷ []) (append_assoc a f g) ∙ append_assoc a (f ++ g) (w ∷ [])

-- after its two blocks, what the code adds for the statement itself
module _ (s : Stmt) (old middle after : List Written) (first : middle ≡ old ++ all_sets (first_block s)) (second : after ≡ middle ++ all_sets (second_block s)) where
  blocks_added : after ≡ old ++ first_sets s ++ second_sets s
  blocks_added = second ∙ ap (λ m. m ++ all_sets (second_block s)) (first ∙ ap (λ m. old ++ m) (sym (first_sets_is s))) ∙ ap (λ m. old ++ first_sets s ++ m) (sym (second_sets_is s))

  pub statement_added : (bits i j k : ℕ) → bits ≡ writes s → i ≡ length old → j ≡ length middle → k ≡ length after → after ++ record { set = record { bits = bits }; first = j - i; second = k - j } ∷ [] ≡ old ++ first_sets s ++ second_sets s ++ set_of s ∷ []
  statement_added bits i j k w at_old at_middle at_after =
      let p = ap length first in
      let q = length-append old (all_sets (first_block s)) in
      let r = ap length second in
      let t = length-append middle (all_sets (second_block s)) in
      let f : j - i ≡ length (first_sets s) = let e = ap length (first_sets_is s) in omega (arith, p, q, e, at_old, at_middle) in
      let g : k - j ≡ length (second_sets s) = let e = ap length (second_sets_is s) in omega (arith, r, t, e, at_middle, at_after) in
      λ n. blocks_added n ++ record { set = record { bits = w n }; first = f n; second = g n } ∷ []

-- ---- the last statement

pub sets_last : (before : List St) (s : St) → all_sets (block_of (before ++ s ∷ [])) ≡ all_sets (block_of before) ++ first_sets (stmt_of s.what) ++ second_sets (stmt_of s.what) ++ set_of (stmt_of s.what) ∷ []
sets_last [] s = append-nil (own_sets (stmt_of s.what))
sets_last (x ∷ xs) s =
    let a : List Written = own_sets (stmt_of x.what) in
    let b : List Written = all_sets (block_of xs) in
    let f : List Written = first_sets (stmt_of s.what) in
    let g : List Written = second_sets (stmt_of s.what) in
    ap (λ m. a ++ m) (sets_last xs s) ∙ spread a b f g (set_of (stmt_of s.what) ∷ [])
  where
    spread : (a b f g w : List Written) → a ++ (b ++ f ++ g ++ w) ≡ a ++ b ++ f ++ g ++ w
    spread a b f g w = sym (append_assoc a (b ++ f ++ g) w) ∙ ap (λ m. m ++ w) (sym (append_assoc a (b ++ f) g) ∙ ap (λ m. m ++ g) (sym (append_assoc a b f)))

-- a list is cut before its last n
cut_front : (r a b : List Written) (n : ℕ) → r ≡ a ++ b → n ≡ length b → take (length r - n) r ≡ a
cut_front r a b n is h =
    let e : length r - n ≡ length a = let p = length-append a b in let q = ap length is in omega (arith, p, q, h) in
    ap (λ m. take m r) e ∙ ap (take (length a)) is ∙ take-append_seam a b

cut_back : (r a b : List Written) (n : ℕ) → r ≡ a ++ b → n ≡ length b → drop (length r - n) r ≡ b
cut_back r a b n is h =
    let e : length r - n ≡ length a = let p = length-append a b in let q = ap length is in omega (arith, p, q, h) in
    ap (λ m. drop m r) e ∙ ap (drop (length a)) is ∙ drop-append_seam a b

cut_within : (r a b : List Written) (n : ℕ) → r ≡ a ++ b → n ≡ length b → n ≤ length r
cut_within r a b n is h = let p = length-append a b in let q = ap length is in omega (arith, p, q, h)

module _ (body before : List St) (s : St) (sets : List Written) (exact : sets ≡ all_sets (block_of body)) (body_is : body ≡ before ++ s ∷ []) where
  table_is : sets ≡ all_sets (block_of before) ++ first_sets (stmt_of s.what) ++ second_sets (stmt_of s.what) ++ set_of (stmt_of s.what) ∷ []
  table_is = exact ∙ ap (λ ss. all_sets (block_of ss)) body_is ∙ sets_last before s

  pub some_sets : length sets ≢ 0
  some_sets none =
      let p = length-append (all_sets (block_of before) ++ first_sets (stmt_of s.what) ++ second_sets (stmt_of s.what)) (set_of (stmt_of s.what) ∷ []) in
      let q = ap length table_is in
      omega (arith, p, q, none)

  module _ (rest : List Written) (own : Written) (sets_is : sets ≡ rest ++ own ∷ []) where
    pushed : (rest ≡ all_sets (block_of before) ++ first_sets (stmt_of s.what) ++ second_sets (stmt_of s.what)) × (own ≡ set_of (stmt_of s.what))
    pushed = same_from_push rest (all_sets (block_of before) ++ first_sets (stmt_of s.what) ++ second_sets (stmt_of s.what)) own (set_of (stmt_of s.what)) (sym sets_is ∙ table_is)

    pub written_is : own.set.bits ≡ writes (stmt_of s.what)
    written_is = ap (λ (w : Written). w.set.bits) pushed.1

    pub second_within : own.second ≤ length rest
    second_within = cut_within rest (all_sets (block_of before) ++ first_sets (stmt_of s.what)) (second_sets (stmt_of s.what)) own.second pushed.0 (ap (λ (w : Written). w.second) pushed.1)

    pub second_is : drop (length rest - own.second) rest ≡ second_sets (stmt_of s.what)
    second_is = cut_back rest (all_sets (block_of before) ++ first_sets (stmt_of s.what)) (second_sets (stmt_of s.what)) own.second pushed.0 (ap (λ (w : Written). w.second) pushed.1)

    -- what stands before the second block
    module _ (front : List Written) (front_is : front ≡ take (length rest - own.second) rest) where
      parted : front ≡ all_sets (block_of before) ++ first_sets (stmt_of s.what)
      parted = front_is ∙ cut_front rest (all_sets (block_of before) ++ first_sets (stmt_of s.what)) (second_sets (stmt_of s.what)) own.second pushed.0 (ap (λ (w : Written). w.second) pushed.1)

      pub first_within : own.first ≤ length front
      first_within = cut_within front (all_sets (block_of before)) (first_sets (stmt_of s.what)) own.first parted (ap (λ (w : Written). w.first) pushed.1)

      pub first_is : drop (length front - own.first) front ≡ first_sets (stmt_of s.what)
      first_is = cut_back front (all_sets (block_of before)) (first_sets (stmt_of s.what)) own.first parted (ap (λ (w : Written). w.first) pushed.1)

      pub before_is : take (length front - own.first) front ≡ all_sets (block_of before)
      before_is = cut_front front (all_sets (block_of before)) (first_sets (stmt_of s.what)) own.first parted (ap (λ (w : Written). w.first) pushed.1)
