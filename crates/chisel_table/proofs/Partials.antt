-- Fixing a decision: which choices are left.
use Rattle.std.specs.Prelude.{nat_lt, ◌==◌, slice_index}
use Rattle.std.proofs.Common.{◌≡◌, ◌≢◌, ℕ, true, false, ◌≤◌, ◌<◌, refl, sym, ap, ◌∙◌, arith, List, length}
use Rattle.std.proofs.lemmas.Bool.{eqb-true, ltb-true}
use Rattle.std.proofs.lemmas.Bool.Decides.{nat_tests}
use Rattle.std.proofs.lemmas.List.{get_or_past, get_or-set_same, get_or-set_other, get_or-replicate}
use Rattle.chisel_table.specs.declared.partial.Partial.{Partial}
use Rattle.chisel_table.specs.declared.table.Table.{Table}
use Rattle.chisel_table.specs.Choices.{IsChoice}
use Rattle.chisel_table.specs.Partials.{slot, is_unfixed, with_option, nothing_fixed, IsPartial, Completes}
use Rattle.chisel_table.specs.Tables.{decision_count, option_count}
use Rattle.chisel_table.proofs.Sums.{by_test, differ}

pub not_unfixed : (o : ℕ) → o < 255 → (o == 255) ≡ false
not_unfixed o s = by_test (o == 255) (λ e. absurd (let q = eqb-true o 255 e in omega arith)) (λ e. e)

-- a decision that is unfixed has a slot
pub has_slot : (p : Partial) (d : ℕ) → is_unfixed p d ≡ true → d < length p.slots
has_slot p d h = by_test (nat_lt d (length p.slots)) (λ e. ltb-true _ _ e) (λ e.
    let m : length p.slots ≤ d = grind (arith, nat_tests) in
    let a = get_or_past p.slots d 0 m in
    let b = eqb-true (slot p d) 255 h in
    absurd (omega arith))

pub slot_fixed : (p : Partial) (d o : ℕ) → is_unfixed p d ≡ true → slot (with_option p d o) d ≡ o
slot_fixed p d o h = get_or-set_same p.slots d o 0 (has_slot p d h)

pub slot_other : (p : Partial) (d o e : ℕ) → e ≢ d → slot (with_option p d o) e ≡ slot p e
slot_other p d o e h = get_or-set_other p.slots d e o 0 h

-- a completion completes the partial choice with its own option fixed
pub completes_fixed : (t : Table) (p : Partial) (c : List ℕ) (d : ℕ) → is_unfixed p d ≡ true → Completes t p c →
    Completes t (with_option p d (slice_index c d)) c
completes_fixed t p c d h k = record {
  choice = k.choice;
  fixed = λ e l ne. by_test (e == d)
      (λ q. let e' = eqb-true e d q in ap (slice_index c) e' ∙ sym (ap (slot (with_option p d (slice_index c d))) e' ∙ slot_fixed p d (slice_index c d) h))
      (λ q. let o = slot_other p d (slice_index c d) e (differ e d q) in k.fixed e l (λ z. ne (o ∙ z)) ∙ sym o);
}

-- each choice completes the partial choice with nothing fixed
pub completes_nothing : (t : Table) (c : List ℕ) → decision_count t ≤ 256 → IsChoice t c → Completes t (nothing_fixed t) c
completes_nothing t c few h = record {
  choice = h;
  fixed = λ d l ne. absurd (ne (get_or-replicate 256 d 255 0 (omega arith)));
}

-- the partial choice with an option fixed is one of the table's
pub fixed_partial : (t : Table) (p : Partial) (d o : ℕ) → is_unfixed p d ≡ true → o < option_count t d → IsPartial t p → IsPartial t (with_option p d o)
fixed_partial t p d o u l h = record {
  size = h.size;
  in_range = λ e k ne. by_test (e == d)
      (λ q. let w = eqb-true e d q in rw (w, slot_fixed p d o u) l)
      (λ q. let w = slot_other p d o e (differ e d q) in rw w (h.in_range e k (λ z. ne (w ∙ z))));
}

pub nothing_partial : (t : Table) → decision_count t ≤ 256 → IsPartial t (nothing_fixed t)
nothing_partial t few = record { size = refl; in_range = λ d l ne. absurd (ne (get_or-replicate 256 d 255 0 (omega arith))) }
