-- The readers of the lines before the tree.
use Rattle.std.specs.Prelude.{ℕ, ◌-◌, Bool, true, false, List, ◌∷◌, codes, Option, Some, None, Ok, ℤ, pos, neg_ℤ}
use Rattle.rely_num.specs.Texts.{Bytes}
use Rattle.chisel_cert.specs.declared.cert.Restated.{Restated}
use Rattle.chisel_cert.specs.declared.limits.TheConstants.{LAST_VERSION, MOST_DECISIONS, MOST_ROWS, LAST_OPTION, MOST_ENERGY, MOST_DEFICIT, MOST_DEBITS, MOST_MULTIPLIER, MOST_VECTORS}
use Rattle.chisel_cert.specs.State.{Read, ◌>>=◌, choose, skip_at, line_end_at, number_at, each_at}

-- ---- parts of a line

-- a number behind a word
unfoldable pub labelled_at : Bytes → ℕ → ℕ → Read ℕ
labelled_at word first last s = skip_at word s >>= λ k. number_at first last k

-- a number at the end of a line
unfoldable pub number_line_at : ℕ → ℕ → Read ℕ
number_line_at first last s = number_at first last s >>= λ x. line_end_at x.1 >>= λ a. Ok (x.0, a)

-- a number behind a word at the end of a line
unfoldable pub counted_line_at : Bytes → ℕ → ℕ → Read ℕ
counted_line_at word first last s = skip_at word s >>= λ k. number_line_at first last k

-- a number behind a blank
unfoldable pub spaced_at : ℕ → Read ℕ
spaced_at last s = skip_at (codes " ") s >>= λ k. number_at 0 last k

-- so many numbers with a blank between two
unfoldable pub listed_at : ℕ → ℕ → Read (List ℕ)
listed_at last size s = number_at 0 last s >>= λ x. each_at (spaced_at last) (size - 1) x.1 >>= λ y. Ok (x.0 ∷ y.0, y.1)

-- a number where one is wanted, and else the word none
unfoldable pub given_at : ℕ → Bool → Read (Option ℕ)
given_at last true s = number_at 0 last s >>= λ x. Ok (Some x.0, x.1)
given_at last false s = skip_at (codes "none") s >>= λ a. Ok (None, a)

-- the same behind a word at the end of a line
unfoldable pub given_line_at : Bytes → ℕ → Bool → Read (Option ℕ)
given_line_at word last wanted s = skip_at word s >>= λ k. given_at last wanted k >>= λ x. line_end_at x.1 >>= λ a. Ok (x.0, a)

-- a budget: a sign and a number that isn't 0, or a number
unfoldable pub signed_at : Read ℤ
signed_at s =
    choose (skip_at (codes "-") s)
    (λ a. number_at 1 MOST_DEFICIT a >>= λ x. Ok (neg_ℤ (pos x.0), x.1))
    (number_at 0 MOST_DEBITS s >>= λ x. Ok (pos x.0, x.1))

-- ---- lines

unfoldable pub version_line_at : Read ℕ
version_line_at s = counted_line_at (codes "chisel ") 1 LAST_VERSION s

-- the numbers of decisions and of rows
unfoldable pub size_line_at : Read (ℕ × ℕ)
size_line_at s =
    labelled_at (codes "size ") 1 MOST_DECISIONS s >>= λ d. counted_line_at (codes " ") 1 MOST_ROWS d.1 >>= λ r.
    Ok ((d.0, r.0), r.1)

-- an option for each decision
unfoldable pub options_line_at : ℕ → Read (List ℕ)
options_line_at decisions s = skip_at (codes "choice") s >>= λ k. each_at (spaced_at LAST_OPTION) decisions k >>= λ x. line_end_at x.1 >>= λ a. Ok (x.0, a)

unfoldable pub choice_line_at : ℕ → Read (Option (List ℕ))
choice_line_at decisions s =
    choose (skip_at (codes "choice none") s)
    (λ a. line_end_at a >>= λ b. Ok (None, b))
    (options_line_at decisions s >>= λ x. Ok (Some x.0, x.1))

unfoldable pub energy_line_at : Bool → Read (Option ℕ)
energy_line_at chosen s = given_line_at (codes "energy ") MOST_ENERGY chosen s

unfoldable pub row_line_at : Bool → Read Restated
row_line_at chosen s =
    skip_at (codes "row ") s >>= λ k. signed_at k >>= λ b. given_line_at (codes " ") MOST_DEBITS chosen b.1 >>= λ u.
    Ok (record { budget = b.0; spent = u.0 }, u.1)

-- the number of vectors
unfoldable pub pool_line_at : Read ℕ
pool_line_at s = counted_line_at (codes "pool ") 1 MOST_VECTORS s

-- a vector with a multiplier for each row
unfoldable pub vector_line_at : ℕ → Read (List ℕ)
vector_line_at rows s = listed_at MOST_MULTIPLIER rows s >>= λ x. line_end_at x.1 >>= λ a. Ok (x.0, a)

-- the number of vectors, and then the vectors
unfoldable pub vectors_at : ℕ → Read (List (List ℕ))
vectors_at rows s = pool_line_at s >>= λ n. each_at (vector_line_at rows) n.0 n.1
