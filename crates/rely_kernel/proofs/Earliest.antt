-- The first of the marks of open places.
use Rattle.std.proofs.Common.{◌≡◌, ◌⊎◌, inl, inr, zero, suc, ◌≤◌, ◌↔◌, Bool, true, false, List, [], ◌∷◌, refl, sym, arith, Option, Some, None, filter_map, fold, IfSome, IsNone, Contains}
use Rattle.std.specs.Prelude.{nat_le}
use Rattle.std.specs.List.{AllByRecursion, cons_option}
use Rattle.std.proofs.lemmas.List.Elements.{All-from_recursion}
use Rattle.std.proofs.lemmas.List.Sums.{fold-append}
use Rattle.std.proofs.lemmas.Bool.{leb-true, leb-false}
use Rattle.rely_num.specs.declared.span.Span.{Span}
use Rattle.rely_kernel.specs.declared.kernel.Kernel.{Kernel}
use Rattle.rely_kernel.specs.declared.kernel.Slot.{Slot}
use Rattle.rely_kernel.specs.declared.kernel.Slot.TheVariants.{Named, Free}
use Rattle.rely_kernel.specs.Setting.{IsEarliest, earlier, marks_of, open_mark, with_place}

-- a place is taken in before those after it
pub fold-place : (first : Option Span) (slot : Slot) (mark : Span) (rest : List Span) → fold earlier first (cons_option (open_mark slot mark) rest) ≡ fold earlier (with_place first slot mark) rest
fold-place first (Named n) mark rest = refl
fold-place first Free mark rest = refl

-- the first of a mark and others
record First (start : Span) (marks : List Span) : Type 0 where
  m : Span
  is : fold earlier (Some start) marks ≡ Some m
  one_of_them : (m ≡ start) ⊎ Contains marks m
  before_start : m.from ≤ start.from
  none_before : AllByRecursion (λ other. m.from ≤ other.from) marks

-- one of the later marks is one of them all
later : (x : Span) (marks : List Span) (m : Span) → Contains marks m → Contains (x ∷ marks) m
later x marks m c = (suc c.0, omega (arith, c.1), c.2)

first_of : (start : Span) (marks : List Span) → First start marks
first_of start [] = record { m = start; is = refl; one_of_them = inl refl; before_start = omega arith; none_before = tt }
first_of start (x ∷ marks) = choose (nat_le start.from x.from) refl (first_of start marks) (first_of x marks)
  where
    choose : (b : Bool) → nat_le start.from x.from ≡ b → First start marks → First x marks → First start (x ∷ marks)
    choose true e f g = record {
      m = f.m;
      is = rw e f.is;
      one_of_them = elim f.one_of_them [ inl same ↦ inl same | inr c ↦ inr (later x marks f.m c) ];
      before_start = f.before_start;
      none_before = (omega (arith, f.before_start, leb-true start.from x.from e), f.none_before);
    }
    choose false e f g = record {
      m = g.m;
      is = rw e g.is;
      one_of_them = elim g.one_of_them [ inl same ↦ inr (zero, omega arith, sym same) | inr c ↦ inr (later x marks g.m c) ];
      before_start = omega (arith, g.before_start, leb-false start.from x.from e);
      none_before = (g.before_start, g.none_before);
    }

-- the first of some marks
pub earliest : (marks : List Span) → (IsNone (fold earlier None marks) ↔ (marks ≡ [])) × IfSome (fold earlier None marks) (IsEarliest marks)
earliest [] = ((λ _. refl, λ _. refl), tt)
earliest (x ∷ marks) = from (first_of x marks)
  where
    from : First x marks → (IsNone (fold earlier (Some x) marks) ↔ (x ∷ marks ≡ [])) × IfSome (fold earlier (Some x) marks) (IsEarliest (x ∷ marks))
    from f = rw f.is (
      (λ h. absurd (cc), λ e. absurd (cc)),
      record {
        one_of_them = elim f.one_of_them [ inl same ↦ (zero, omega arith, sym same) | inr c ↦ later x marks f.m c ];
        none_before = All-from_recursion (λ other. f.m.from ≤ other.from) (x ∷ marks) (f.before_start, f.none_before);
      },
    )

-- variables, then sites
pub fold-marks : (k : Kernel) → fold earlier (fold earlier None (filter_map (λ v. open_mark v.memory v.mark) k.vars)) (filter_map (λ site. open_mark site.kind site.mark) k.sites) ≡ fold earlier None (marks_of k)
fold-marks k = sym (fold-append earlier None (filter_map (λ v. open_mark v.memory v.mark) k.vars) (filter_map (λ site. open_mark site.kind site.mark) k.sites))

pub ruleset marks = (fold-place)
