-- The open parts of a search as a tournament over the tree of all its parts.
use Rattle.std.specs.Prelude.{ℕ, zero, suc, ◌≡◌, ◌≢◌, ◌+◌, ◌<◌, ◌≤◌, List, [], ◌∷◌, ◌++◌, length, map, slice_index, slice_index_or, Option, Some, None, int_lt, ℤ, pos, if◌then◌else◌}
use Rattle.chisel_table.specs.Sums.{list_to}
use Rattle.chisel_search.specs.declared.part.Part.{Part}
use Rattle.chisel_search.specs.declared.tournament.Entrant.{Entrant}
use Rattle.chisel_search.specs.declared.tournament.Family.{Family}
use Rattle.chisel_search.specs.declared.tournament.Knot.{Knot}
use Rattle.chisel_search.specs.declared.tournament.Tournament.{Tournament}
use Rattle.chisel_search.specs.Logs.{numbers_from}
use Rattle.chisel_search.specs.Search.{replaced}

-- ---- by numbers

abbrev pub value_of : List ℤ → ℕ → ℤ
value_of vs n = slice_index_or vs n (pos 0)

abbrev pub knot_at : List Knot → ℕ → Knot
knot_at ks n = slice_index_or ks n (record { parent = 0; family = Some (record { first = 0; count = 0 }) })

abbrev pub number_at : List (Option ℕ) → ℕ → Option ℕ
number_at ws n = slice_index_or ws n None

-- ---- who wins

abbrev pub entrant : List ℤ → ℕ → Entrant
entrant vs n = record { number = n; value = value_of vs n }

abbrev pub entrant_of : List ℤ → Option ℕ → Option Entrant
entrant_of vs None = None
entrant_of vs (Some n) = Some (entrant vs n)

-- the winner that part n knows
abbrev pub winner_at : Tournament → ℕ → Option Entrant
winner_at t n = entrant_of t.values.items (number_at t.winners.items n)

-- the second where its value is less, and else the first
abbrev pub better : Option Entrant → Option Entrant → Option Entrant
better None y = y
better (Some x) None = Some x
better (Some x) (Some y) = if int_lt y.value x.value then Some y else Some x

-- the first of the least value
abbrev pub best : List (Option Entrant) → Option Entrant
best [] = None
best (x ∷ xs) = better x (best xs)

-- who wins among a part and those below it: itself while it is open, and else the best of its children's winners
abbrev pub due_by : Tournament → ℕ → Option Family → Option Entrant
due_by t n None = Some (entrant t.values.items n)
due_by t n (Some f) = best (list_to f.count (λ o. winner_at t (f.first + o)))

abbrev pub due : Tournament → ℕ → Option Entrant
due t n = due_by t n (knot_at t.knots.items n).family

-- ---- the open parts in order

-- f of the numbers below n, one behind the other
abbrev pub gathered : ℕ → (ℕ → List ℕ) → List ℕ
gathered zero f = []
gathered (suc n) f = gathered n f ++ f n

-- the open parts among a part and those below it, at most so many parts deep
abbrev pub open_by : ℕ → (ℕ → List ℕ) → Option Family → List ℕ
open_by n below None = n ∷ []
open_by n below (Some f) = gathered f.count (λ o. below (f.first + o))

unfoldable pub open_below : List Knot → ℕ → ℕ → List ℕ
open_below ks zero n = []
open_below ks (suc deep) n = open_by n (λ k. open_below ks deep k) (knot_at ks n).family

-- the numbers of the open parts
abbrev pub numbers_in : Tournament → List ℕ
numbers_in t = open_below t.knots.items (length t.knots.items) 0

-- ---- the tree

-- the children of part n have larger numbers, and know it as their parent
pub record IsFamily (ks : List Knot) (n : ℕ) (f : Family) : Type 0 where
  pub above : n < f.first
  pub inside : f.first + f.count ≤ length ks
  pub children : (o : ℕ) → o < f.count → (knot_at ks (f.first + o)).parent ≡ n

pub record IsTree (ks : List Knot) : Type 0 where
  pub some : 0 < length ks
  pub parents : (n : ℕ) → n < length ks → 0 < n → (knot_at ks n).parent < n
  pub families : (n : ℕ) (f : Family) → n < length ks → (knot_at ks n).family ≡ Some f → IsFamily ks n f

pub record IsOpen (ks : List Knot) (n : ℕ) : Type 0 where
  pub inside : n < length ks
  pub none : (knot_at ks n).family ≡ None

-- ---- the tournament

-- the number of one of so many parts, where there is one
abbrev pub IsNumber : ℕ → Option ℕ → Type 0
IsNumber size None = Unit {0}
IsNumber size (Some n) = n < size

-- the winners are parts
pub record AreParts (t : Tournament) : Type 0 where
  pub inside : (k : ℕ) → IsNumber (length t.values.items) (number_at t.winners.items k)

pub record IsShaped (t : Tournament) : Type 0 where
  pub tree : IsTree t.knots.items
  pub values : length t.values.items ≡ length t.knots.items
  pub winners : length t.winners.items ≡ length t.knots.items
  pub numbers : AreParts t

-- each part but one knows its winner
pub record IsJudgedBut (t : Tournament) (n : ℕ) : Type 0 where
  pub judged : (k : ℕ) → k < length t.knots.items → k ≢ n → winner_at t k ≡ due t k

pub record IsTournament (t : Tournament) : Type 0 where
  pub shaped : IsShaped t
  pub judged : (k : ℕ) → k < length t.knots.items → winner_at t k ≡ due t k

abbrev pub winning_number : Tournament → Option ℕ
winning_number t = number_at t.winners.items 0

-- ---- what changes

-- one open part more
pub record HasAdded (old : Tournament) (value : ℤ) (parent : ℕ) (new : Tournament) : Type 0 where
  pub values : new.values.items ≡ old.values.items ++ value ∷ []
  pub knots : new.knots.items ≡ old.knots.items ++ record { parent = parent; family = None } ∷ []
  pub winners : new.winners.items ≡ old.winners.items ++ Some (length old.values.items) ∷ []

pub record KeepsTree (old new : Tournament) : Type 0 where
  pub values : new.values ≡ old.values
  pub knots : new.knots ≡ old.knots
  pub winners : length new.winners.items ≡ length old.winners.items

-- part n knows its winner, and all others know what they knew
pub record JudgesOne (old : Tournament) (n : ℕ) (new : Tournament) : Type 0 where
  pub one : winner_at new n ≡ due old n
  pub others : (k : ℕ) → k ≢ n → winner_at new k ≡ winner_at old k
  pub numbers : AreParts new

-- part n has so many children behind all others
pub record IsGrown (old : List Knot) (n count : ℕ) (new : List Knot) : Type 0 where
  pub size : length new ≡ length old + count
  pub others : (k : ℕ) → k < length old → k ≢ n → knot_at new k ≡ knot_at old k
  pub parent : (knot_at new n).parent ≡ (knot_at old n).parent
  pub family : (knot_at new n).family ≡ Some (record { first = length old; count = count })
  pub fresh : (o : ℕ) → o < count → knot_at new (length old + o) ≡ record { parent = n; family = None }

pub record IsGrafted (old : Tournament) (n : ℕ) (children : List Part) (new : Tournament) : Type 0 where
  pub knots : IsGrown old.knots.items n (length children) new.knots.items
  pub values : new.values.items ≡ old.values.items ++ map (λ p. p.value) children
  pub winners : length new.winners.items ≡ length new.knots.items
  pub numbers : AreParts new
  pub kept : (k : ℕ) → k < length old.knots.items → winner_at new k ≡ winner_at old k
  pub fresh : (o : ℕ) → o < length children → winner_at new (length old.knots.items + o) ≡ Some (entrant new.values.items (length old.knots.items + o))

-- x stands at place k alone
pub record StandsAt (xs : List ℕ) (k x : ℕ) : Type 0 where
  pub inside : k < length xs
  pub here : slice_index xs k ≡ x
  pub alone : (j : ℕ) → j < length xs → slice_index xs j ≡ x → j ≡ k

-- the children stand in the list where part n stood
pub record Replaces (old : Tournament) (n : ℕ) (children : List Part) (new : Tournament) : Type 0 where
  pub size : length new.knots.items ≡ length old.knots.items + length children
  pub numbers : (k : ℕ) → StandsAt (numbers_in old) k n → numbers_in new ≡ replaced (numbers_in old) k (numbers_from (length old.knots.items) (length children))
  pub values : new.values.items ≡ old.values.items ++ map (λ p. p.value) children
