-- A run that ends has the least choice.
use Rattle.std.proofs.Common.{◌≡◌, ℕ, zero, suc, false, ◌<◌, List, [], length, refl, arith, Option, Some, None}
use Rattle.std.specs.Prelude.{slice_index, slice_index_or}
use mathlib.Core.Logic.{◌⊎◌, inl, inr}
use Rattle.chisel_table.specs.declared.table.Table.{Table}
use Rattle.chisel_search.specs.declared.part.Part.{Part}
use Rattle.chisel_table.specs.declared.partial.Partial.{Partial}
use Rattle.chisel_table.specs.declared.closing.Close.{Close}
use Rattle.chisel_table.specs.Tables.{option_count}
use Rattle.chisel_table.specs.Choices.{before, IsChoice, Meets}
use Rattle.chisel_table.specs.Least.{IsLeast}
use Rattle.chisel_table.specs.Valid.{IsTable}
use Rattle.chisel_table.specs.Partials.{IsPartial, with_option, nothing_fixed, Completes}
use Rattle.chisel_table.specs.Closings.{first_close}
use Rattle.chisel_table.proofs.Sums.{by_test}
use Rattle.chisel_table.proofs.Sequences.{precedes_not_itself}
use Rattle.chisel_table.proofs.Choices.{IsBefore, before_is, not_before_better}
use Rattle.chisel_table.specs.Soundness.{IsNoBetter}
use Rattle.chisel_table.proofs.Closings.{rule_sound, first_close_holds}
use Rattle.chisel_table.proofs.Partials.{completes_fixed, completes_nothing, fixed_partial, nothing_partial}
use Rattle.chisel_cert.specs.Valid.{IsClaimed}
use Rattle.chisel_search.specs.Search.{unfixed, choice_of, children, Search, start, end, replaced, Fate, closed, complete, divided, fate_by, fate, after, Step, Run, IsLawful}
use Rattle.chisel_bound.specs.Pool.{BeginsWithZeros}
use Rattle.chisel_search.proofs.Lists.{SomeOf, EachOf, some_kept, some_new, each_replaced, each_at, some_listed, each_listed}
use Rattle.chisel_search.proofs.Complete.{is_choice, one_completion, unclosed_meets, unclosed_before}

-- what each fate says
pub fate_closed : (r : Option Close) (n : ℕ) → fate_by r n ≡ closed → (c : Close) × (r ≡ Some c)
fate_closed (Some c) n h = (c, refl)
fate_closed None zero h = absurd (cc)
fate_closed None (suc n) h = absurd (cc)

pub fate_complete : (r : Option Close) (n : ℕ) → fate_by r n ≡ complete → (r ≡ None) × (n ≡ 0)
fate_complete (Some c) n h = absurd (cc)
fate_complete None zero h = (refl, refl)
fate_complete None (suc n) h = absurd (cc)

pub fate_divided : (r : Option Close) (n : ℕ) → fate_by r n ≡ divided → (r ≡ None) × (0 < n)
fate_divided (Some c) n h = absurd (cc)
fate_divided None zero h = absurd (cc)
fate_divided None (suc n) h = (refl, omega arith)

-- each choice that meets every row completes an open part, or isn't before the best choice
pub record Sound (t : Table) (s : Search) : Type 0 where
  pub claimed : IsClaimed t s.best
  pub partials : EachOf (IsPartial t) s.parts
  pub covered : (c : List ℕ) → IsChoice t c → Meets t c → SomeOf (λ p. Completes t p c) s.parts ⊎ IsNoBetter t s.best c

not_before_itself : (t : Table) (c : List ℕ) → before t c c ≡ false
not_before_itself t c = by_test (before t c c)
    (λ e. absurd (elim (before_is t c c e) [ inl l ↦ omega arith | inr q ↦ precedes_not_itself _ _ q.1 ]))
    (λ e. e)

-- what isn't before the old best choice isn't before the new one
beaten_again : (t : Table) (best : Option (List ℕ)) (o c : List ℕ) → ((b : List ℕ) → best ≡ Some b → IsBefore t o b) → IsNoBetter t best c → before t c o ≡ false
beaten_again t (Some b) o c h k = not_before_better t o b c k (h b refl)
beaten_again t None o c h k = absurd k

pub sound_start : (t : Table) → IsTable t → Sound t (start t)
sound_start t h = record {
  claimed = tt;
  partials = (nothing_partial t h.few_decisions, tt);
  covered = λ c k m. inl (inl (completes_nothing t c h.few_decisions k));
}

module _ (t : Table) (pool : List (List ℕ)) (Answers : Partial → ℕ → Type 0) (Picks : List Part → ℕ → Type 0) (zs : BeginsWithZeros pool) (rule : IsLawful t Answers) where
  -- the part p at place k is taken
  module _ (s : Search) (k : ℕ) (p : Partial) (d : ℕ) (l : k < length s.parts) (is : p ≡ slice_index_or s.parts k (nothing_fixed t)) (h : Sound t s) where
    part_in : IsPartial t p
    part_in = rw is (each_at (IsPartial t) s.parts k (nothing_fixed t) l h.partials)

    kept : (c : List ℕ) (new : List Partial) → SomeOf (λ p. Completes t p c) s.parts → Completes t p c ⊎ SomeOf (λ p. Completes t p c) (replaced s.parts k new)
    kept c new w = rw (← is) at (some_kept (λ p. Completes t p c) s.parts k new (nothing_fixed t) l w)

    sound_closed : (c : Close) → first_close t pool s.best p ≡ Some c → Sound t (after t s k p d closed)
    sound_closed c e = record {
      claimed = h.claimed;
      partials = each_replaced (IsPartial t) s.parts k [] h.partials tt;
      covered = λ x w m. elim (h.covered x w m) [
        | inr b ↦ inr b
        | inl a ↦ elim (kept x [] a) [
          | inl q ↦ inr (rule_sound t pool s.best p c.rule c.index (first_close_holds t pool s.best p c e) x q m)
          | inr q ↦ inl q
        ]
      ];
    }

    sound_complete : first_close t pool s.best p ≡ None → unfixed t p ≡ 0 → Sound t (after t s k p d complete)
    sound_complete e z =
        let better : (b : List ℕ) → s.best ≡ Some b → IsBefore t (choice_of t p) b =
        λ b q. unclosed_before t pool b p zs z (rw q at e) in
        record {
          claimed = (is_choice t p part_in z, unclosed_meets t pool s.best p z e);
          partials = each_replaced (IsPartial t) s.parts k [] h.partials tt;
          covered = λ x w m. elim (h.covered x w m) [
            | inr b ↦ inr (beaten_again t s.best (choice_of t p) x better b)
            | inl a ↦ elim (kept x [] a) [
              | inl q ↦ inr (rw (one_completion t p x z q) (not_before_itself t (choice_of t p)))
              | inr q ↦ inl q
            ]
          ];
        }

    sound_divided : 0 < unfixed t p → Answers p d → Sound t (after t s k p d divided)
    sound_divided z a =
        let u = rule.free p d part_in z a in
        record {
          claimed = h.claimed;
          partials = each_replaced (IsPartial t) s.parts k (children t p d) h.partials
              (each_listed (IsPartial t) (option_count t d) (with_option p d) (λ o m. fixed_partial t p d o u m part_in));
          covered = λ x w m. elim (h.covered x w m) [
            | inr b ↦ inr b
            | inl y ↦ elim (kept x (children t p d) y) [
              | inl q ↦ inl (some_new (λ p. Completes t p x) s.parts k (children t p d) l
                  (some_listed (λ p. Completes t p x) (option_count t d) (with_option p d) (slice_index x d)
                  (w.in_range d (rule.inside p d part_in z a)) (completes_fixed t p x d u q)))
              | inr q ↦ inl q
            ]
          ];
        }

    sound_after : (f : Fate) → fate t pool s.best p ≡ f → (f ≡ divided → Answers p d) → Sound t (after t s k p d f)
    sound_after closed e a = let w = fate_closed _ _ e in sound_closed w.0 w.1
    sound_after complete e a = let w = fate_complete _ _ e in sound_complete w.0 w.1
    sound_after divided e a = sound_divided ((fate_divided _ _ e).1) (a refl)

  pub sound_step : (s next : Search) → Sound t s → Step t pool Answers Picks s next → Sound t next
  sound_step s next h w = rw w.next_is (sound_after s w.place w.part w.decision w.in_list w.part_is h (fate t pool s.best w.part) refl w.answered)

  pub sound_run : (n : ℕ) (s e : Search) → Sound t s → Run t pool Answers Picks n s e → Sound t e
  sound_run zero s e h r = rw r at h
  sound_run (suc n) s e h r = sound_run n r.0 e (sound_step s r.0 h r.1) r.2

  sound_end : (best : Option (List ℕ)) → Sound t (end best) → IsLeast t best
  sound_end (Some b) h = (h.claimed.0, h.claimed.1, λ c k m. elim (h.covered c k m) [ inl a ↦ absurd a | inr q ↦ q ])
  sound_end None h = λ c k m. elim (h.covered c k m) [ inl a ↦ absurd a | inr q ↦ q ]

  -- a run that ends has the least choice
  pub run_least : IsTable t → (n : ℕ) (best : Option (List ℕ)) → Run t pool Answers Picks n (start t) (end best) → IsLeast t best
  run_least h n best r = sound_end best (sound_run n (start t) (end best) (sound_start t h) r)
