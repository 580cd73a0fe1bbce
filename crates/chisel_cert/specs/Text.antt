-- The text of a certificate: lines of words and numbers with one blank between two.
use Rattle.std.specs.Prelude.{ℕ, List, [], ◌∷◌, ◌++◌, length, codes, decimal, Option, Some, None}
use Rattle.std.specs.Fmt.{signed_decimal}
use Rattle.rely_num.specs.Texts.{Bytes}
use Rattle.chisel_table.specs.declared.closing.CloseRule.{CloseRule}
use Rattle.chisel_table.specs.declared.closing.CloseRule.TheVariants.{C, I, D, T}
use Rattle.chisel_cert.specs.declared.cert.Restated.{Restated}
use Rattle.chisel_cert.specs.Tree.{Closing, pooled, own, Tree, leaf, branch, Trees, nil, cons, count, Certificate}

-- ---- parts of a line

-- numbers, each behind a blank
abbrev pub spaced : List ℕ → Bytes
spaced [] = []
spaced (n ∷ ns) = codes " " ++ decimal n ++ spaced ns

-- numbers with a blank between two
abbrev pub listed : List ℕ → Bytes
listed [] = []
listed (n ∷ ns) = decimal n ++ spaced ns

-- a number, or that there is none
abbrev pub optional : Option ℕ → Bytes
optional None = codes "none"
optional (Some n) = decimal n

abbrev pub letter : CloseRule → Bytes
letter C = codes "c"
letter I = codes "i"
letter D = codes "d"
letter T = codes "t"

-- ---- lines

abbrev pub version_line : ℕ → Bytes
version_line version = codes "chisel " ++ decimal version ++ codes "\n"

abbrev pub size_line : ℕ → ℕ → Bytes
size_line decisions rows = codes "size " ++ decimal decisions ++ codes " " ++ decimal rows ++ codes "\n"

abbrev pub choice_line : Option (List ℕ) → Bytes
choice_line None = codes "choice none" ++ codes "\n"
choice_line (Some options) = codes "choice" ++ spaced options ++ codes "\n"

abbrev pub energy_line : Option ℕ → Bytes
energy_line energy = codes "energy " ++ optional energy ++ codes "\n"

abbrev pub row_line : Restated → Bytes
row_line row = codes "row " ++ signed_decimal row.budget ++ codes " " ++ optional row.spent ++ codes "\n"

abbrev pub row_lines : List Restated → Bytes
row_lines [] = []
row_lines (row ∷ rows) = row_line row ++ row_lines rows

abbrev pub pool_line : ℕ → Bytes
pool_line vectors = codes "pool " ++ decimal vectors ++ codes "\n"

abbrev pub vector_line : List ℕ → Bytes
vector_line vector = listed vector ++ codes "\n"

abbrev pub vector_lines : List (List ℕ) → Bytes
vector_lines [] = []
vector_lines (vector ∷ vectors) = vector_line vector ++ vector_lines vectors

-- the number of vectors, and then the vectors
abbrev pub pool_lines : List (List ℕ) → Bytes
pool_lines pool = pool_line (length pool) ++ vector_lines pool

abbrev pub tree_line : ℕ → Bytes
tree_line nodes = codes "tree " ++ decimal nodes ++ codes "\n"

abbrev pub leaf_line : Closing → Bytes
leaf_line (pooled close) = letter close.rule ++ codes " " ++ decimal close.index ++ codes "\n"
leaf_line (own rule vector) = letter rule ++ codes " own" ++ spaced vector ++ codes "\n"

abbrev pub branch_line : ℕ → ℕ → Bytes
branch_line decision children = codes "b " ++ decimal decision ++ codes " " ++ decimal children ++ codes "\n"

abbrev pub end_line : Bytes
end_line = codes "end" ++ codes "\n"

-- ---- the whole text

-- a line for each node, a branch before its children
unfoldable mutual
  pub node_lines : Tree → Bytes
  node_lines (leaf closing) = leaf_line closing
  node_lines (branch decision children) = branch_line decision (count children) ++ all_lines children

  pub all_lines : Trees → Bytes
  all_lines nil = []
  all_lines (cons tree rest) = node_lines tree ++ all_lines rest

-- the lines before the tree
unfoldable pub head_lines : Certificate → Bytes
head_lines c = version_line c.version ++ size_line c.decisions c.rows ++ choice_line c.choice ++ energy_line c.energy

-- the table's rows and the pool
unfoldable pub table_lines : Certificate → Bytes
table_lines c = row_lines c.restated ++ pool_lines c.pool

unfoldable pub tree_lines : Certificate → Bytes
tree_lines c = tree_line c.nodes ++ node_lines c.root ++ end_line

-- the text of a certificate
abbrev pub text_of : Certificate → Bytes
text_of c = head_lines c ++ table_lines c ++ tree_lines c
