-- The energies of places under a setting are what the runs use and hold.
use Rattle.std.proofs.Common.{◌≡◌, ℕ, suc, ◌+◌, ◌*◌, List, [], ◌∷◌, ◌++◌, map, length, find, Option, Some, None, refl, sym, ap, ◌∙◌, arith}
use Rattle.std.specs.Prelude.{slice_get, slice_index, sum_by}
use Rattle.std.specs.List.{zip}
use Rattle.std.specs.Option.{option_map_or}
use Rattle.std.proofs.lemmas.List.Sums.{sum_by-cons}
use Rattle.rely_num.specs.Ops.{is_op}
use Rattle.rely_hard.specs.declared.hardware.Hardware.{Hardware}
use Rattle.rely_hard.specs.declared.hardware.MemSpec.{MemSpec}
use Rattle.rely_hard.specs.declared.hardware.OpSpec.{OpSpec}
use Rattle.rely_kernel.specs.declared.kernel.Kernel.{Kernel}
use Rattle.rely_kernel.specs.declared.kernel.Site.{Site}
use Rattle.rely_kernel.specs.declared.kernel.Var.{Var}
use Rattle.rely_kernel.specs.declared.label.Label.TheVariants as label
use Rattle.rely_kernel.specs.declared.setting.Setting.{Setting}
use Rattle.rely_kernel.specs.Labels.{number}
use Rattle.rely_kernel.specs.Machine.{size}
use Rattle.rely_machine.specs.declared.outcome.Outcome.{Outcome}
use Rattle.rely_machine.specs.Cost.{energy_of, held, hold, kind_energy}
use Rattle.rely_machine.specs.EnergySums.{of_label, of_sites, of_vars, read_energy, sum_from, used, write_energy}
use Rattle.rely_machine.proofs.EnergyCounts.{from_plus, from_same}
use Rattle.chisel_problem.specs.declared.uses.Whose.{Whose}
use Rattle.chisel_problem.specs.Energies.{energies, kind_energies, memory_energies, site_energies, variable_energies}
use Rattle.chisel_problem.specs.Places.{numbered, under}
use Rattle.chisel_problem.specs.Uses.{holds, uses}
use Rattle.chisel_problem.proofs.PlaceLaws.{numbered_long, price_at, under_append, under_numbered}

-- ---- one option

scaled : {X : Type 0} (g : X → ℕ) (n : ℕ) (o : Option X) → option_map_or (λ x. n * g x) o 0 ≡ n * option_map_or g o 0
scaled g n None = omega arith
scaled g n (Some x) = refl

-- of a kind
pub kind_price : (h : Hardware) (site : Site) (count kind : ℕ) → slice_index (kind_energies h site.op count) kind ≡ count * kind_energy h kind site
kind_price h site count kind = one (find (λ o. is_op o.op site.op) h.operators)
  where
    one : (o : Option OpSpec) → slice_index (map (λ s. count * s.energy) (option_map_or (λ o. o.kinds) o [])) kind
        ≡ count * option_map_or (λ o. option_map_or (λ s. s.energy) (slice_get o.kinds kind) 0) o 0
    one None = omega arith
    one (Some o) = price_at (λ s. count * s.energy) o.kinds kind ∙ scaled (λ s. s.energy) count (slice_get o.kinds kind)

-- of a memory
pub memory_price : (h : Hardware) (reads writes many memory : ℕ)
    → slice_index (memory_energies h reads writes many) memory ≡ reads * read_energy h memory + writes * write_energy h memory + many * held h memory
memory_price h reads writes many memory =
    price_at (λ (m : MemSpec). reads * m.read_energy + writes * m.write_energy + many * m.hold) h.memories memory ∙ one (slice_get h.memories memory)
  where
    one : (o : Option MemSpec) → option_map_or (λ (m : MemSpec). reads * m.read_energy + writes * m.write_energy + many * m.hold) o 0
        ≡ reads * option_map_or (λ m. m.read_energy) o 0 + writes * option_map_or (λ m. m.write_energy) o 0 + many * option_map_or (λ m. m.hold) o 0
    one None = omega arith
    one (Some m) = refl

-- ---- a function

-- what a function costs in all runs, under a setting of it
abbrev pub function_cost : Hardware → Kernel → Setting → List Outcome → Whose → ℕ
function_cost h k t runs whose = used h k t (uses runs whose) + holds runs whose * hold h k t

module _ (h : Hardware) (k : Kernel) (t : Setting) (runs : List Outcome) (whose : Whose) where
  abbrev count : ℕ → ℕ
  count = uses runs whose

  times_of : (n : ℕ) (s : Site) (i : ℕ) → slice_get k.sites i ≡ Some s → n * kind_energy h (slice_index t.sites i) s ≡ n * energy_of h k t (label.Op i)
  times_of n s i at = ap (λ o. n * option_map_or (kind_energy h (slice_index t.sites i)) o 0) (sym at)

  under_sites : length k.sites ≡ length t.sites → under (numbered (site_energies h k runs whose) 0 k.sites) t.sites ≡ of_sites h k t count
  under_sites long =
      under_numbered (site_energies h k runs whose) (slice_index t.sites) 0 k.sites t.sites long (λ i j e. ap (slice_index t.sites) (omega (arith, e)))
      ∙ from_same (λ i s. slice_index (kind_energies h s.op (count i)) (slice_index t.sites i)) (λ i _. of_label h k t count (label.Op i)) 0 k.sites
      (λ i j s at e. kind_price h s (count i) (slice_index t.sites i) ∙ times_of (count i) s i (ap (slice_get k.sites) (omega (arith, e)) ∙ at))

  -- what a variable's numbers cost to hold
  abbrev held_at : ℕ → Var → ℕ
  held_at v x = size x * holds runs whose * held h (slice_index t.memories v)

  holding : (a : ℕ) (xs : List Var) (ms : List ℕ) → length xs ≡ length ms → ((i j : ℕ) → i ≡ a + j → slice_index t.memories i ≡ slice_index ms j)
      → sum_from held_at a xs ≡ holds runs whose * sum_by (λ (x : Var × ℕ). size x.0 * held h x.1) (zip xs ms)
  holding a [] ms long same = omega arith
  holding a (x ∷ xs) [] long same = absurd (omega (arith, long))
  holding a (x ∷ xs) (m ∷ ms) long same =
      let here : slice_index t.memories a ≡ m = same a 0 (omega arith) in
      let first : held_at a x ≡ holds runs whose * (size x * held h m) = rw here (regroup (size x) (holds runs whose) (held h m)) in
      let rest = holding (suc a) xs ms (omega (arith, long)) (λ i j e. same i (suc j) (omega (arith, e))) in
      let sum = sum_by-cons (λ (x : Var × ℕ). size x.0 * held h x.1) (x, m) (zip xs ms) in
      let both = spread (holds runs whose) (size x * held h m) (sum_by (λ (x : Var × ℕ). size x.0 * held h x.1) (zip xs ms)) in
      omega (arith, first, rest, both) ∙ ap (λ n. holds runs whose * n) (sym sum)
    where
      regroup : (a b c : ℕ) → a * b * c ≡ b * (a * c)
      regroup a b c = omega arith

      spread : (a b c : ℕ) → a * (b + c) ≡ a * b + a * c
      spread a b c = omega arith

  under_vars : length k.vars ≡ length t.memories
      → under (numbered (variable_energies h k runs whose) 0 k.vars) t.memories ≡ of_vars h k t count + holds runs whose * hold h k t
  under_vars long =
      let r = λ (v : ℕ). of_label h k t count (label.Read v) + of_label h k t count (label.Write v) in
      under_numbered (variable_energies h k runs whose) (slice_index t.memories) 0 k.vars t.memories long (λ i j e. ap (slice_index t.memories) (omega (arith, e)))
      ∙ (from_same
      (λ v x. slice_index (memory_energies h (count (number k (label.Read v))) (count (number k (label.Write v))) (size x * holds runs whose)) (slice_index t.memories v))
      (λ v x. r v + held_at v x) 0 k.vars
      (λ v j x at e. memory_price h (count (number k (label.Read v))) (count (number k (label.Write v))) (size x * holds runs whose) (slice_index t.memories v))
      ∙ (from_plus (λ v _. r v) held_at 0 k.vars
      ∙ ap (λ n. of_vars h k t count + n) (holding 0 k.vars t.memories long (λ i j e. ap (slice_index t.memories) (omega (arith, e))))))

  -- the energies of a function's places, each with the option of its number in the setting
  pub under_energies : length k.sites ≡ length t.sites → length k.vars ≡ length t.memories
      → under (energies h k runs whose) (t.sites ++ t.memories) ≡ function_cost h k t runs whose
  under_energies sites vars =
      under_append (numbered (site_energies h k runs whose) 0 k.sites) (numbered (variable_energies h k runs whose) 0 k.vars) t.sites t.memories
      (numbered_long (site_energies h k runs whose) 0 k.sites ∙ sites)
      ∙ omega (arith, under_sites sites, under_vars vars)
