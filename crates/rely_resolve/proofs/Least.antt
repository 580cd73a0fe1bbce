-- The first of some faults.
use Rattle.std.proofs.Common.{◌≡◌, ◌⊎◌, inl, inr, ℕ, zero, suc, ◌↔◌, Bool, true, false, ◌||◌, ◌&&◌, ◌==◌, nat_lt, List, [], ◌∷◌, refl, sym, arith, Some, IfSome, IsNone, Contains}
use Rattle.std.specs.List.{AllByRecursion}
use Rattle.std.proofs.lemmas.Bool.Decides.{nat_tests}
use Rattle.rely_resolve.specs.Faults.{first_of, first_with, is_before, place, rank}
use Rattle.rely_resolve.specs.Laws.{IsFirst}
use Rattle.rely_resolve.specs.declared.fault.NameFault.{NameFault}

-- a pair of numbers comes before another
abbrev comes : ℕ → ℕ → ℕ → ℕ → Bool
comes p i q j = nat_lt p q || (p == q && nat_lt i j)

-- none comes before itself
none_self : (p i : ℕ) → comes p i p i ≡ false
none_self p i = grind (arith, nat_tests)

-- what nothing comes before that comes after, stays so
none_after : (p i q j r k : ℕ) → comes p i q j ≡ true → comes p i r k ≡ false → comes q j r k ≡ false
none_after p i q j r k first none = grind (arith, nat_tests)

none_through : (p i q j r k : ℕ) → comes p i q j ≡ false → comes q j r k ≡ false → comes p i r k ≡ false
none_through p i q j r k first none = grind (arith, nat_tests)

-- one of the later faults is one of them all
later : (x : NameFault) (fs : List NameFault) (f : NameFault) → Contains fs f → Contains (x ∷ fs) f
later x fs f c = (suc c.0, omega (arith, c.1), c.2)

-- the first of a fault and others
record First (start : NameFault) (fs : List NameFault) : Type 0 where
  f : NameFault
  is : first_with (Some start) fs ≡ Some f
  one_of_them : (f ≡ start) ⊎ Contains fs f
  start_after : is_before start f ≡ false
  none_before : AllByRecursion (λ g. is_before g f ≡ false) fs

first_from : (start : NameFault) (fs : List NameFault) → First start fs
first_from start [] = record { f = start; is = refl; one_of_them = inl refl; start_after = none_self (place start) (rank start); none_before = tt }
first_from start (x ∷ fs) = choose (is_before x start) refl (first_from start fs) (first_from x fs)
  where
    choose : (b : Bool) → is_before x start ≡ b → First start fs → First x fs → First start (x ∷ fs)
    choose true e s t = record {
      f = t.f;
      is = rw e t.is;
      one_of_them = elim t.one_of_them [ inl same ↦ inr (zero, omega arith, sym same) | inr c ↦ inr (later x fs t.f c) ];
      start_after = none_after (place x) (rank x) (place start) (rank start) (place t.f) (rank t.f) e t.start_after;
      none_before = (t.start_after, t.none_before);
    }
    choose false e s t = record {
      f = s.f;
      is = rw e s.is;
      one_of_them = elim s.one_of_them [ inl same ↦ inl same | inr c ↦ inr (later x fs s.f c) ];
      start_after = s.start_after;
      none_before = (none_through (place x) (rank x) (place start) (rank start) (place s.f) (rank s.f) e s.start_after, s.none_before);
    }

-- what is answered for some faults
pub answered : (fs : List NameFault) → (IsNone (first_of fs) ↔ (fs ≡ [])) × IfSome (first_of fs) (IsFirst fs)
answered [] = ((λ _. refl, λ _. refl), tt)
answered (x ∷ fs) = from (first_from x fs)
  where
    from : First x fs → (IsNone (first_with (Some x) fs) ↔ (x ∷ fs ≡ [])) × IfSome (first_with (Some x) fs) (IsFirst (x ∷ fs))
    from t = rw t.is (
      (λ h. absurd (cc), λ e. absurd (cc)),
      record {
        one_of_them = elim t.one_of_them [ inl same ↦ (zero, omega arith, sym same) | inr c ↦ later x fs t.f c ];
        none_before = (t.start_after, t.none_before);
      },
    )
