-- What a function uses and holds under its own kinds, item by item.
use Rattle.std.proofs.Common.{◌≡◌, ℕ, zero, suc, ◌+◌, ◌*◌, List, [], ◌∷◌, map, length, Option, Some, None, refl, sym, ap, ◌∙◌, subst, arith}
use Rattle.std.specs.Prelude.{find, slice_get, slice_index, sum_by}
use Rattle.std.specs.List.{zip}
use Rattle.std.specs.Option.{option_map_or}
use Rattle.std.proofs.lemmas.List.Sums.{sum_by-cons}
use Rattle.std.proofs.lemmas.Option.{same_Some}
use Rattle.rely_num.specs.Ops.{is_op}
use Rattle.rely_hard.specs.declared.hardware.Hardware.{Hardware}
use Rattle.rely_hard.specs.declared.hardware.OpSpec.{OpSpec}
use Rattle.rely_kernel.specs.declared.kernel.Kernel.{Kernel}
use Rattle.rely_kernel.specs.declared.kernel.Site.{Site}
use Rattle.rely_kernel.specs.declared.kernel.Var.{Var}
use Rattle.rely_kernel.specs.declared.label.Label.TheVariants as label
use Rattle.rely_kernel.specs.Machine.{size}
use Rattle.rely_kernel.specs.Rates.{named, own}
use Rattle.rely_kernel.specs.Setting.{kinds_of}
use Rattle.rely_machine.specs.Cost.{energy_of, held, hold, kind_energy}
use Rattle.rely_machine.specs.EnergySums.{of_label, of_sites, of_vars, read_energy, sum_from, write_energy}
use Rattle.rely_machine.proofs.EnergyCounts.{from_same}

-- what is kept of an item
kept_at : {X : Type 0} (kept : X → ℕ) (xs : List X) (j : ℕ) (x : X) → slice_get xs j ≡ Some x → slice_index (map kept xs) j ≡ kept x
kept_at kept [] j x e = absurd (cc)
kept_at kept (y ∷ xs) zero x e = ap kept (same_Some y x e)
kept_at kept (y ∷ xs) (suc j) x e = kept_at kept xs j x e

-- the kind's energy, among the kinds that the hardware lists for the operator
pub listed_energy : (h : Hardware) (kind : ℕ) (site : Site) → option_map_or (λ s. s.energy) (slice_get (kinds_of h site.op) kind) 0 ≡ kind_energy h kind site
listed_energy h kind site = by_case (find (λ o. is_op o.op site.op) h.operators)
  where
    by_case : (found : Option OpSpec)
        → option_map_or (λ s. s.energy) (slice_get (option_map_or (λ o. o.kinds) found []) kind) 0 ≡ option_map_or (λ o. option_map_or (λ s. s.energy) (slice_get o.kinds kind) 0) found 0
    by_case None = refl
    by_case (Some o) = refl

module _ (h : Hardware) (k : Kernel) where
  own_kind : (i : ℕ) (s : Site) → slice_get k.sites i ≡ Some s → kind_energy h (named s.kind) s ≡ energy_of h k (own k) (label.Op i)
  own_kind i s at =
      ap (λ n. kind_energy h n s) (sym (kept_at (λ s. named s.kind) k.sites i s at))
      ∙ ap (λ o. option_map_or (kind_energy h (slice_index (map (λ s. named s.kind) k.sites) i)) o 0) (sym at)

  own_memory : (v : ℕ) (x : Var) → slice_get k.vars v ≡ Some x → named x.memory ≡ slice_index (map (λ x. named x.memory) k.vars) v
  own_memory v x at = sym (kept_at (λ x. named x.memory) k.vars v x at)

  module _ (uses : ℕ → ℕ) where
    abbrev pub site_uses : ℕ → Site → ℕ
    site_uses i s = uses i * kind_energy h (named s.kind) s

    abbrev pub var_uses : ℕ → Var → ℕ
    var_uses v x = uses (length k.sites + 2 * v) * read_energy h (named x.memory) + uses (length k.sites + 2 * v + 1) * write_energy h (named x.memory)

    pub own_sites : sum_from site_uses 0 k.sites ≡ of_sites h k (own k) uses
    own_sites =
        from_same site_uses (λ i _. of_label h k (own k) uses (label.Op i)) 0 k.sites
        (λ i j s at p. ap (λ n. uses i * n) (own_kind i s (subst (λ n. slice_get k.sites n ≡ Some s) (omega (arith, p)) at)))

    pub own_vars : sum_from var_uses 0 k.vars ≡ of_vars h k (own k) uses
    own_vars =
        from_same var_uses (λ v _. of_label h k (own k) uses (label.Read v) + of_label h k (own k) uses (label.Write v)) 0 k.vars
        (λ v j x at p.
        ap (λ m. uses (length k.sites + 2 * v) * read_energy h m + uses (length k.sites + 2 * v + 1) * write_energy h m)
        (own_memory v x (subst (λ n. slice_get k.vars n ≡ Some x) (omega (arith, p)) at)))

-- a variable's numbers, each held in its own memory
abbrev pub held_of : Hardware → Var → ℕ
held_of h v = size v * held h (named v.memory)

held_own : (h : Hardware) (vars : List Var) → sum_by (held_of h) vars ≡ sum_by (λ (x : Var × ℕ). size x.0 * held h x.1) (zip vars (map (λ v. named v.memory) vars))
held_own h [] = refl
held_own h (v ∷ vars) =
    let rest : List (Var × ℕ) = zip vars (map (λ v. named v.memory) vars) in
    sum_by-cons (held_of h) v vars
    ∙ ap (λ n. held_of h v + n) (held_own h vars)
    ∙ sym (sum_by-cons (λ (x : Var × ℕ). size x.0 * held h x.1) (v, named v.memory) rest)

pub own_hold : (h : Hardware) (k : Kernel) → sum_by (held_of h) k.vars ≡ hold h k (own k)
own_hold h k = held_own h k.vars
