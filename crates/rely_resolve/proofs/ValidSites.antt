-- The operators and the calls of a text are numbered in order.
use Rattle.std.proofs.Common.{◌≡◌, ℕ, zero, suc, ◌+◌, ◌<◌, ◌≤◌, true, false, cond, List, [], ◌∷◌, ◌++◌, map, refl, sym, ap, ◌∙◌, arith, inl, inr}
use Rattle.std.specs.Prelude.{count_by, ◌==◌}
use Rattle.std.specs.List.{AllByRecursion, range_with_len}
use Rattle.std.proofs.lemmas.Bool.{cases_order}
use Rattle.std.proofs.lemmas.Bool.Decides.{nat_tests}
use Rattle.std.proofs.lemmas.List.{map-append}
use Rattle.std.proofs.lemmas.List.Sums.{sum_by-cons}
use Rattle.rely_tree.specs.Tree.{ExprTree, NumTree, NameTree, ElemTree, BinTree, StmtTree, SetTree, SetElemTree, IfTree, WhileTree, RepeatTree, ReturnTree, CallTree, Block, ended, also}
use Rattle.rely_num.specs.Texts.{Bytes}
use Rattle.rely_kernel.specs.Text.{expr_of, exprs_of, stmt_of, block_of}
use Rattle.rely_kernel.specs.Valid as kernel
use Rattle.rely_kernel.specs.Valid.{sites_of, sites_of_all, EachOnce}
use Rattle.rely_kernel.proofs.TextLemmas.{text-If, text-While, text-Repeat, text-Elem, text-Bin}
use Rattle.rely_tree.specs.Counts.{expr_operators, exprs_operators, stmt_operators, block_operators, stmt_calls, block_calls}
use Rattle.rely_resolve.specs.Kernels.{ex_of, exs_of, kind_of, sts_of}
use Rattle.rely_resolve.specs.Names.{number_of}

-- ---- numbers in order

-- two stretches of numbers are one
pub stretch : (a m n b : ℕ) → b ≡ a + m → range_with_len a m ++ range_with_len b n ≡ range_with_len a (m + n)
stretch a zero n b e = (let f : b ≡ a = omega arith in ap (λ k. range_with_len k n) f) ∙ (let g : n ≡ 0 + n = omega arith in ap (range_with_len a) g)
stretch a (suc m) n b e =
    ap (λ ns. a ∷ ns) (stretch (a + 1) m n b (omega arith)) ∙ (let g : suc (m + n) ≡ suc m + n = omega arith in ap (range_with_len a) g)

-- the same of lists that are such stretches
pub joined : (xs ys : List ℕ) (a m n b c : ℕ) → xs ≡ range_with_len a m → ys ≡ range_with_len b n → b ≡ a + m → c ≡ m + n → xs ++ ys ≡ range_with_len a c
joined xs ys a m n b c e f g h = (λ i. e i ++ f i) ∙ stretch a m n b g ∙ ap (range_with_len a) (sym h)

one_number : (a : ℕ) → a ∷ [] ≡ range_with_len a 1
one_number a = refl

-- ---- each number once

counted : (i a : ℕ) (ns : List ℕ) → count_by (λ j. i == j) (a ∷ ns) ≡ cond (i == a) 1 0 + count_by (λ j. i == j) ns
counted i a ns = sum_by-cons (λ j. cond (i == j) 1 0) a ns

count_below : (i a n : ℕ) → i < a → count_by (λ j. i == j) (range_with_len a n) ≡ 0
count_below i a zero h = refl
count_below i a (suc n) h =
    let e : (i == a) ≡ false = grind (arith, nat_tests) in
    counted i a (range_with_len (a + 1) n) ∙ (λ k. cond (e k) 1 0 + count_below i (a + 1) n (omega arith) k)

count_within : (i a n : ℕ) → a ≤ i → i < a + n → count_by (λ j. i == j) (range_with_len a n) ≡ 1
count_within i a zero h k = absurd (omega arith)
count_within i a (suc n) h k = elim (cases_order i a) [
  | inl e ↦
      let t : (i == a) ≡ true = grind (arith, nat_tests) in
      counted i a (range_with_len (a + 1) n) ∙ (λ j. cond (t j) 1 0 + count_below i (a + 1) n (omega (arith, e)) j)
  | inr (inl l) ↦ absurd (omega (arith, l))
  | inr (inr g) ↦
      let t : (i == a) ≡ false = grind (arith, nat_tests) in
      counted i a (range_with_len (a + 1) n) ∙ (λ j. cond (t j) 1 0 + count_within i (a + 1) n (omega (arith, g)) (omega (arith, k)) j)
]

each_counted : (m a n : ℕ) → a + n ≤ m → AllByRecursion (λ i. count_by (λ j. i == j) (range_with_len 0 m) ≡ 1) (range_with_len a n)
each_counted m a zero h = tt
each_counted m a (suc n) h = (count_within a 0 m (omega arith) (omega arith), each_counted m (a + 1) n (omega arith))

pub each_once : (n : ℕ) → EachOnce n (range_with_len 0 n)
each_once n = each_counted n 0 n (omega arith)

-- ---- the sites of a text

expr_numbers : (vs : List Bytes) (n : ℕ) (e : ExprTree) → sites_of (expr_of (ex_of vs n e)) ≡ range_with_len n (expr_operators e)
expr_numbers vs n (NumTree z) = refl
expr_numbers vs n (NameTree i) = refl
expr_numbers vs n (ElemTree i e) = ap sites_of (text-Elem (number_of i.text vs) (ex_of vs n e)) ∙ expr_numbers vs n e
expr_numbers vs n (BinTree op span kind l r) =
    let a = expr_operators l in
    let b = expr_operators r in
    ap sites_of (text-Bin (n + a) (ex_of vs n l) (ex_of vs (n + a + 1) r))
    ∙ joined (sites_of (expr_of (ex_of vs n l))) ((n + a) ∷ sites_of (expr_of (ex_of vs (n + a + 1) r))) n a (1 + b) (n + a) (a + 1 + b)
    (expr_numbers vs n l) (joined ((n + a) ∷ []) (sites_of (expr_of (ex_of vs (n + a + 1) r))) (n + a) 1 b (n + a + 1) (1 + b) refl (expr_numbers vs (n + a + 1) r) (omega arith) refl)
    refl (omega arith)

exprs_numbers : (vs : List Bytes) (n : ℕ) (es : List ExprTree) → sites_of_all (exprs_of (exs_of vs n es)) ≡ range_with_len n (exprs_operators es)
exprs_numbers vs n [] = refl
exprs_numbers vs n (e ∷ es) =
    joined (sites_of (expr_of (ex_of vs n e))) (sites_of_all (exprs_of (exs_of vs (n + expr_operators e) es))) n (expr_operators e) (exprs_operators es) (n + expr_operators e) (expr_operators e + exprs_operators es)
    (expr_numbers vs n e) (exprs_numbers vs (n + expr_operators e) es) refl refl

mutual
  stmt_numbers : (vs : List Bytes) (n c : ℕ) (s : StmtTree) → kernel.stmt_sites (stmt_of (kind_of vs n c s)) ≡ range_with_len n (stmt_operators s)
  stmt_numbers vs n c (SetTree at i e) = expr_numbers vs n e
  stmt_numbers vs n c (SetElemTree at i x e) =
      joined (sites_of (expr_of (ex_of vs n x))) (sites_of (expr_of (ex_of vs (n + expr_operators x) e))) n (expr_operators x) (expr_operators e) (n + expr_operators x) (expr_operators x + expr_operators e)
      (expr_numbers vs n x) (expr_numbers vs (n + expr_operators x) e) refl refl
  stmt_numbers vs n c (IfTree at e s t) =
      let a = expr_operators e in
      let b = block_operators s in
      let d = block_operators t in
      ap kernel.stmt_sites (text-If (ex_of vs n e) (sts_of vs (n + a) c s) (sts_of vs (n + a + b) (c + block_calls s) t))
      ∙ joined (sites_of (expr_of (ex_of vs n e)) ++ kernel.block_sites (block_of (sts_of vs (n + a) c s))) (kernel.block_sites (block_of (sts_of vs (n + a + b) (c + block_calls s) t))) n (a + b) d (n + a + b) (a + b + d)
      (joined (sites_of (expr_of (ex_of vs n e))) (kernel.block_sites (block_of (sts_of vs (n + a) c s))) n a b (n + a) (a + b)
      (expr_numbers vs n e) (block_numbers vs (n + a) c s) refl refl)
      (block_numbers vs (n + a + b) (c + block_calls s) t) (omega arith) refl
  stmt_numbers vs n c (WhileTree at e most s) =
      ap kernel.stmt_sites (text-While (ex_of vs n e) most (sts_of vs (n + expr_operators e) c s))
      ∙ joined (sites_of (expr_of (ex_of vs n e))) (kernel.block_sites (block_of (sts_of vs (n + expr_operators e) c s))) n (expr_operators e) (block_operators s) (n + expr_operators e) (expr_operators e + block_operators s)
      (expr_numbers vs n e) (block_numbers vs (n + expr_operators e) c s) refl refl
  stmt_numbers vs n c (RepeatTree at turns s) = ap kernel.stmt_sites (text-Repeat turns (sts_of vs n c s)) ∙ block_numbers vs n c s
  stmt_numbers vs n c (ReturnTree at e) = expr_numbers vs n e
  stmt_numbers vs n c (CallTree at i word callee es) = exprs_numbers vs n es

  pub block_numbers : (vs : List Bytes) (n c : ℕ) (b : Block) → kernel.block_sites (block_of (sts_of vs n c b)) ≡ range_with_len n (block_operators b)
  block_numbers vs n c ended = refl
  block_numbers vs n c (also s rest) =
      joined (kernel.stmt_sites (stmt_of (kind_of vs n c s))) (kernel.block_sites (block_of (sts_of vs (n + stmt_operators s) (c + stmt_calls s) rest))) n (stmt_operators s) (block_operators rest) (n + stmt_operators s) (stmt_operators s + block_operators rest)
      (stmt_numbers vs n c s) (block_numbers vs (n + stmt_operators s) (c + stmt_calls s) rest) refl refl

-- ---- the call places of a text

abbrev places : List (ℕ × ℕ) → List ℕ
places = map (λ c. c.0)

two_places : (xs ys : List (ℕ × ℕ)) (a m n b c : ℕ) → places xs ≡ range_with_len a m → places ys ≡ range_with_len b n → b ≡ a + m → c ≡ m + n → places (xs ++ ys) ≡ range_with_len a c
two_places xs ys a m n b c e f g h = map-append (λ (p : ℕ × ℕ). p.0) xs ys ∙ joined (places xs) (places ys) a m n b c e f g h

mutual
  stmt_places : (vs : List Bytes) (n c : ℕ) (s : StmtTree) → places (kernel.stmt_calls (stmt_of (kind_of vs n c s))) ≡ range_with_len c (stmt_calls s)
  stmt_places vs n c (SetTree at i e) = refl
  stmt_places vs n c (SetElemTree at i x e) = refl
  stmt_places vs n c (IfTree at e s t) =
      let a = expr_operators e in
      let b = block_operators s in
      ap (λ u. places (kernel.stmt_calls u)) (text-If (ex_of vs n e) (sts_of vs (n + a) c s) (sts_of vs (n + a + b) (c + block_calls s) t))
      ∙ two_places (kernel.block_calls (block_of (sts_of vs (n + a) c s))) (kernel.block_calls (block_of (sts_of vs (n + a + b) (c + block_calls s) t))) c (block_calls s) (block_calls t) (c + block_calls s) (block_calls s + block_calls t)
      (block_places vs (n + a) c s) (block_places vs (n + a + b) (c + block_calls s) t) refl refl
  stmt_places vs n c (WhileTree at e most s) =
      ap (λ u. places (kernel.stmt_calls u)) (text-While (ex_of vs n e) most (sts_of vs (n + expr_operators e) c s)) ∙ block_places vs (n + expr_operators e) c s
  stmt_places vs n c (RepeatTree at turns s) = ap (λ u. places (kernel.stmt_calls u)) (text-Repeat turns (sts_of vs n c s)) ∙ block_places vs n c s
  stmt_places vs n c (ReturnTree at e) = refl
  stmt_places vs n c (CallTree at i word callee es) = refl

  pub block_places : (vs : List Bytes) (n c : ℕ) (b : Block) → map (λ p. p.0) (kernel.block_calls (block_of (sts_of vs n c b))) ≡ range_with_len c (block_calls b)
  block_places vs n c ended = refl
  block_places vs n c (also s rest) =
      two_places (kernel.stmt_calls (stmt_of (kind_of vs n c s))) (kernel.block_calls (block_of (sts_of vs (n + stmt_operators s) (c + stmt_calls s) rest))) c (stmt_calls s) (block_calls rest) (c + stmt_calls s) (stmt_calls s + block_calls rest)
      (stmt_places vs n c s) (block_places vs (n + stmt_operators s) (c + stmt_calls s) rest) refl refl
