-- The text of a certificate without vectors of its own is short.
use Rattle.std.proofs.Common.{◌≡◌, ℕ, suc, ◌+◌, ◌*◌, ◌-◌, ◌^◌, ◌≤◌, ◌<◌, Bool, true, false, List, [], ◌∷◌, ◌++◌, length, refl, ap, ◌∙◌, arith, length-append, Option, Some, None}
use Rattle.std.proofs.lemmas.Int.{ints}
use Rattle.std.specs.Prelude.{codes, decimal, is_some, pos, neg_ℤ, ◌≤ℤ◌}
use Rattle.std.specs.Fmt.{signed_decimal}
use Rattle.std.specs.List.{AllByRecursion}
use Rattle.std.proofs.lemmas.Fmt.{length-decimal-le, length-decimal-le_wide}
use Rattle.rely_num.specs.Texts.{Bytes}
use Rattle.chisel_table.specs.declared.closing.Close.{Close}
use Rattle.chisel_table.specs.declared.closing.CloseRule.{CloseRule}
use Rattle.chisel_table.specs.declared.closing.CloseRule.TheVariants.{C, I, D, T}
use Rattle.chisel_cert.specs.declared.cert.Restated.{Restated}
use Rattle.chisel_cert.specs.Ranges.{AreNodes, IsChosen, IsGiven, IsMultipliers, IsNode, IsRestated, IsWithin, restated_count}
use Rattle.chisel_cert.specs.Text.{all_lines, branch_line, choice_line, end_line, energy_line, head_lines, leaf_line, letter, listed, node_lines, optional, pool_line, pool_lines, row_line, row_lines, size_line, spaced, table_lines, tree_line, tree_lines, vector_line, vector_lines, version_line}
use Rattle.chisel_cert.specs.Tree.{Certificate, pooled, own, Tree, leaf, branch, Trees, nil, cons, count, nodes, nodes_of}
use Rattle.chisel_optimise.specs.Printing.{PooledIsShort}
use Rattle.chisel_optimise.specs.Pooled.{ArePooled, IsPooled}
use lib.IntN.{ℤ, negsuc}

-- ---- lengths

two : (a b : Bytes) → length (a ++ b) ≡ length a + length b
two a b = length-append a b

three : (a b c : Bytes) → length (a ++ b ++ c) ≡ length a + length b + length c
three a b c = two (a ++ b) c ∙ ap (λ n. n + length c) (two a b)

four : (a b c d : Bytes) → length (a ++ b ++ c ++ d) ≡ length a + length b + length c + length d
four a b c d = two (a ++ b ++ c) d ∙ ap (λ n. n + length d) (three a b c)

five : (a b c d e : Bytes) → length (a ++ b ++ c ++ d ++ e) ≡ length a + length b + length c + length d + length e
five a b c d e = two (a ++ b ++ c ++ d) e ∙ ap (λ n. n + length e) (four a b c d)

-- ---- numbers

-- numbers of so many digits, each behind a blank
spaced_short : (k last : ℕ) (ns : List ℕ) → 0 < k → last < 10 ^ k → last < 2 ^ 64 → AllByRecursion (λ n. n ≤ last) ns → length (spaced ns) ≤ (k + 1) * length ns
spaced_short k last [] some digits fits all = omega arith
spaced_short k last (n ∷ ns) some digits fits all =
    let e = three (codes " ") (decimal n) (spaced ns) in
    let a = length-decimal-le k n some (let l : n ≤ last = all.0 in omega arith) (let l : n ≤ last = all.0 in omega arith) in
    let b = spaced_short k last ns some digits fits all.1 in omega arith

listed_short : (k last : ℕ) (ns : List ℕ) → 0 < k → last < 10 ^ k → last < 2 ^ 64 → AllByRecursion (λ n. n ≤ last) ns → length (listed ns) ≤ (k + 1) * length ns
listed_short k last [] some digits fits all = omega arith
listed_short k last (n ∷ ns) some digits fits all =
    let e = two (decimal n) (spaced ns) in
    let a = length-decimal-le k n some (let l : n ≤ last = all.0 in omega arith) (let l : n ≤ last = all.0 in omega arith) in
    let b = spaced_short k last ns some digits fits all.1 in omega arith

given_short : (k last : ℕ) (wanted : Bool) (n : Option ℕ) → 4 ≤ k → last < 10 ^ k → last < 2 ^ 64 → IsGiven last wanted n → length (optional n) ≤ k
given_short k last true (Some n) some digits fits h = length-decimal-le k n (omega arith) (omega arith) (omega arith)
given_short k last true None some digits fits h = absurd h
given_short k last false (Some n) some digits fits h = absurd h
given_short k last false None some digits fits h = omega arith

budget_short : (z : ℤ) → neg_ℤ (pos 2361183241434822606848) ≤ℤ z → z ≤ℤ pos 16777216 → length (signed_decimal z) ≤ 24
budget_short (pos n) least most =
    let l : n ≤ 16777216 = grind (arith, ints, most) in
    let a = length-decimal-le 8 n (omega arith) (omega arith) (omega arith) in omega arith
budget_short (negsuc n) least most =
    let l : suc n ≤ 2361183241434822606848 = grind (arith, ints, least) in
    let a = length-decimal-le_wide 22 (suc n) (omega arith) (omega arith) (omega arith) in omega arith

-- ---- lines

choice_short : (decisions : ℕ) (choice : Option (List ℕ)) → decisions ≤ 256 → IsChosen decisions choice → length (choice_line choice) ≤ 775
choice_short decisions None few h = omega arith
choice_short decisions (Some options) few h =
    let e = three (codes "choice") (spaced options) (codes "\n") in
    let a = spaced_short 2 15 options (omega arith) (omega arith) (omega arith) h.1 in
    let b : length options ≡ decisions = h.0 in omega arith

row_short : (chosen : Bool) (row : Restated) → IsRestated chosen row → length (row_line row) ≤ 38
row_short chosen row h =
    let e = five (codes "row ") (signed_decimal row.budget) (codes " ") (optional row.spent) (codes "\n") in
    let a = budget_short row.budget h.least h.greatest in
    let b = given_short 8 16777216 chosen row.spent (omega arith) (omega arith) (omega arith) h.spent in omega arith

rows_short : (chosen : Bool) (rows : List Restated) → AllByRecursion (IsRestated chosen) rows → length (row_lines rows) ≤ 38 * length rows
rows_short chosen [] all = omega arith
rows_short chosen (row ∷ rows) all =
    let e = two (row_line row) (row_lines rows) in let a = row_short chosen row all.0 in let b = rows_short chosen rows all.1 in omega arith

vector_short : (rows : ℕ) (vector : List ℕ) → rows ≤ 2048 → IsMultipliers rows vector → length (vector_line vector) ≤ 28673
vector_short rows vector few h =
    let e = two (listed vector) (codes "\n") in
    let a = listed_short 13 1099511627776 vector (omega arith) (omega arith) (omega arith) h.1 in
    let b : length vector ≡ rows = h.0 in omega arith

vectors_short : (rows : ℕ) (vectors : List (List ℕ)) → rows ≤ 2048 → AllByRecursion (IsMultipliers rows) vectors → length (vector_lines vectors) ≤ 28673 * length vectors
vectors_short rows [] few all = omega arith
vectors_short rows (vector ∷ vectors) few all =
    let e = two (vector_line vector) (vector_lines vectors) in
    let a = vector_short rows vector few all.0 in
    let b = vectors_short rows vectors few all.1 in omega arith

letter_short : (rule : CloseRule) → length (letter rule) ≡ 1
letter_short C = refl
letter_short I = refl
letter_short D = refl
letter_short T = refl

leaf_short : (close : Close) → close.index ≤ 4294967295 → length (leaf_line (pooled close)) ≤ 13
leaf_short close h =
    let e = four (letter close.rule) (codes " ") (decimal close.index) (codes "\n") in
    let a = length-decimal-le 10 close.index (omega arith) (omega arith) (omega arith) in
    let b = letter_short close.rule in omega arith

branch_short : (decision children : ℕ) → decision ≤ 255 → children ≤ 16 → length (branch_line decision children) ≤ 13
branch_short decision children d n =
    let e = five (codes "b ") (decimal decision) (codes " ") (decimal children) (codes "\n") in
    let a = length-decimal-le 3 decision (omega arith) (omega arith) (omega arith) in
    let b = length-decimal-le 2 children (omega arith) (omega arith) (omega arith) in omega arith

mutual
  unfolding IsNode AreNodes IsPooled ArePooled node_lines all_lines nodes nodes_of

  tree_short : (version rows depth : ℕ) (x : Tree) → IsNode version rows depth x → IsPooled x → length (node_lines x) ≤ 13 * nodes x
  tree_short version rows depth (leaf (pooled close)) h shared = let a = leaf_short close h in omega arith
  tree_short version rows depth (leaf (own rule vector)) h shared = absurd shared
  tree_short version rows depth (branch decision children) h shared =
      let e = two (branch_line decision (count children)) (all_lines children) in
      let a = branch_short decision (count children) h.1 h.2.1 in
      let b = trees_short version rows (depth - 1) children h.3 shared in omega arith

  trees_short : (version rows depth : ℕ) (xs : Trees) → AreNodes version rows depth xs → ArePooled xs → length (all_lines xs) ≤ 13 * nodes_of xs
  trees_short version rows depth nil h shared = omega arith
  trees_short version rows depth (cons x xs) h shared =
      let e = two (node_lines x) (all_lines xs) in
      let a = tree_short version rows depth x h.0 shared.0 in
      let b = trees_short version rows depth xs h.1 shared.1 in omega arith

-- ---- the whole text

head_short : (c : Certificate) → IsWithin c → length (head_lines c) ≤ 840
unfolding head_lines
head_short c w =
    let e = four (version_line c.version) (size_line c.decisions c.rows) (choice_line c.choice) (energy_line c.energy) in
    let v = three (codes "chisel ") (decimal c.version) (codes "\n") in
    let v' = length-decimal-le 1 c.version (omega arith) (let l = w.version.1 in omega arith) (let l = w.version.1 in omega arith) in
    let z = five (codes "size ") (decimal c.decisions) (codes " ") (decimal c.rows) (codes "\n") in
    let d = length-decimal-le 3 c.decisions (omega arith) (let l = w.decisions.1 in omega arith) (let l = w.decisions.1 in omega arith) in
    let r = length-decimal-le 4 c.rows (omega arith) (let l = w.rows.1 in omega arith) (let l = w.rows.1 in omega arith) in
    let o = choice_short c.decisions c.choice w.decisions.1 w.choice in
    let n = three (codes "energy ") (optional c.energy) (codes "\n") in
    let g = given_short 20 18446744073709551615 (is_some c.choice) c.energy (omega arith) (omega arith) (omega arith) w.energy in omega arith

rows_few : (version rows : ℕ) → rows ≤ 2048 → restated_count version rows ≤ 2048
rows_few version rows l = let e = restated_count version rows in grind arith

table_short : (c : Certificate) → IsWithin c → length (table_lines c) ≤ 536704
unfolding table_lines
table_short c w =
    let e = two (row_lines c.restated) (pool_lines c.pool) in
    let r = rows_short (is_some c.choice) c.restated w.restated in
    let many = rows_few c.version c.rows w.rows.1 in
    let is : length c.restated ≡ restated_count c.version c.rows = w.restated_rows in
    let p = two (pool_line (length c.pool)) (vector_lines c.pool) in
    let q = three (codes "pool ") (decimal (length c.pool)) (codes "\n") in
    let few : length c.pool ≤ 16 = w.vectors.1 in
    let n = length-decimal-le 2 (length c.pool) (omega arith) (omega arith) (omega arith) in
    let v = vectors_short c.rows c.pool w.rows.1 w.pool in omega arith

nodes_short : (c : Certificate) → IsWithin c → IsPooled c.root → length (tree_lines c) ≤ 1300020
unfolding tree_lines
nodes_short c w shared =
    let e = three (tree_line c.nodes) (node_lines c.root) end_line in
    let q = three (codes "tree ") (decimal c.nodes) (codes "\n") in
    let most : c.nodes ≤ 100000 = w.most_nodes in
    let n = length-decimal-le 6 c.nodes (omega arith) (omega arith) (omega arith) in
    let is : c.nodes ≡ nodes c.root = w.nodes in
    let x = tree_short c.version c.rows 256 c.root w.root shared in omega arith

pub pooled_short : PooledIsShort
pooled_short c w shared =
    let e = three (head_lines c) (table_lines c) (tree_lines c) in
    let h = head_short c w in
    let t = table_short c w in
    let n = nodes_short c w shared in omega arith
