-- The least open place is there exactly where a place is open.
use Rattle.std.proofs.Common.{◌≡◌, ℕ, zero, suc, arith, List, [], ◌∷◌, ◌++◌, drop, length, Option, Some, None, refl, sym, ap, ◌∙◌}
use Rattle.std.specs.Prelude.{fold, min, Contains, ◌≤◌}
use Rattle.std.proofs.lemmas.List.Elements.{recursion_from_All}
use Rattle.std.specs.List.{AllByRecursion}
use Rattle.std.specs.Option.{option_or}
use Rattle.rely_num.specs.declared.span.Span.{Span}
use Rattle.rely_kernel.specs.declared.kernel.Kernel.{Kernel}
use Rattle.rely_kernel.specs.Setting.{IsClosed, IsEarliest, marks_of}
use Rattle.chisel_source.specs.Open.{earlier, open_place, open_place_in}

-- the least place is there where there is a mark
some_place : (marks : List Span) (place : ℕ) → (n : ℕ) × (fold earlier (Some place) marks ≡ Some n)
some_place [] place = (place, refl)
some_place (m ∷ marks) place = some_place marks (min place m.from)

closed_without : (marks : List Span) → fold earlier None marks ≡ None → marks ≡ []
closed_without [] e = refl
closed_without (m ∷ marks) e = absurd (let s = some_place marks m.from in let bad : None ≡ Some s.0 = sym e ∙ s.1 in cc)

min-left : (a b : ℕ) → a ≤ b → min a b ≡ a
min-left a b h = omega (arith, h)

min-right : (a b : ℕ) → b ≤ a → min a b ≡ b
min-right a b h = omega (arith, h)

min-least : (m a b : ℕ) → m ≤ a → m ≤ b → m ≤ min a b
min-least m a b h k = omega (arith, h, k)

-- a least place stays where no mark stands before it
settled : (m : Span) (marks : List Span) (least : ℕ) → least ≡ m.from → AllByRecursion (λ other. m.from ≤ other.from) marks → fold earlier (Some least) marks ≡ Some m.from
settled m [] least e h = ap Some e
settled m (y ∷ ys) least e h = settled m ys (min least y.from) (min-left least y.from (omega (arith, e, h.0)) ∙ e) h.1

-- the earliest mark stands at the least place
earliest_least : (marks : List Span) (m : Span) (place : ℕ) → Contains marks m → AllByRecursion (λ other. m.from ≤ other.from) marks
    → m.from ≤ place → fold earlier (Some place) marks ≡ Some m.from
earliest_least [] m place c h below = absurd (omega (arith, c.1))
earliest_least (x ∷ marks) m place (zero, within, is) h below =
    settled m marks (min place x.from) (min-right place x.from (let same : x.from ≡ m.from = ap (λ s. s.from) is in omega (arith, below, same)) ∙ ap (λ s. s.from) is) h.1
earliest_least (x ∷ marks) m place (suc n, within, is) h below = earliest_least marks m (min place x.from) (n, omega (arith, within), is) h.1 (min-least m.from place x.from below h.0)

pub open_place_is : (k : Kernel) (m : Span) → IsEarliest (marks_of k) m → open_place k ≡ Some m.from
open_place_is k m e = by_marks (marks_of k) e.one_of_them (recursion_from_All (λ (other : Span). m.from ≤ other.from) (marks_of k) e.none_before)
  where
    by_marks : (marks : List Span) → Contains marks m → AllByRecursion (λ other. m.from ≤ other.from) marks → fold earlier None marks ≡ Some m.from
    by_marks [] c h = absurd (omega (arith, c.1))
    by_marks (x ∷ marks) (zero, within, is) h = settled m marks x.from (ap (λ s. s.from) is) h.1
    by_marks (x ∷ marks) (suc n, within, is) h = earliest_least marks m x.from (n, omega (arith, within), is) h.1 h.0

or_first : (a b : Option ℕ) → option_or a b ≡ None → a ≡ None
or_first None b e = refl
or_first (Some n) b e = e

or_second : (a b : Option ℕ) → option_or a b ≡ None → b ≡ None
or_second None b e = e
or_second (Some n) b e = absurd (cc)

pub all_closed : (ks : List Kernel) → open_place_in ks ≡ None → AllByRecursion IsClosed ks
all_closed [] e = tt
all_closed (k ∷ ks) e = (closed_without (marks_of k) (or_first (open_place k) (open_place_in ks) e), all_closed ks (or_second (open_place k) (open_place_in ks) e))

pub open_place_then : (ks : List Kernel) (k : Kernel) → open_place_in (ks ++ k ∷ []) ≡ option_or (open_place_in ks) (open_place k)
open_place_then [] k = or_none (open_place k)
  where
    or_none : (o : Option ℕ) → option_or o None ≡ o
    or_none None = refl
    or_none (Some n) = refl
open_place_then (g ∷ gs) k = ap (option_or (open_place g)) (open_place_then gs k) ∙ or_or (open_place g) (open_place_in gs) (open_place k)
  where
    or_or : (a b c : Option ℕ) → option_or a (option_or b c) ≡ option_or (option_or a b) c
    or_or None b c = refl
    or_or (Some n) b c = refl

pub open_place_of_two : (ks : List Kernel) (k : Kernel) (o : Option ℕ) → open_place_in ks ≡ o → open_place_in (ks ++ k ∷ []) ≡ option_or o (open_place k)
open_place_of_two ks k o e = open_place_then ks k ∙ ap (λ p. option_or p (open_place k)) e

-- nothing is open behind the last
pub none_behind : (ks : List Kernel) (i : ℕ) → length ks ≤ i → open_place_in (drop i ks) ≡ None
none_behind [] i h = ap open_place_in (drop_nothing i)
  where
    drop_nothing : (i : ℕ) → drop {A = Kernel} i [] ≡ []
    drop_nothing zero = refl
    drop_nothing (suc i) = refl
none_behind (k ∷ ks) zero h = absurd (omega (arith, h))
none_behind (k ∷ ks) (suc i) h = none_behind ks i (omega (arith, h))
