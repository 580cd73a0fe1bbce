-- Prices as numbers of 64 bits are the prices where these are small.
use Rattle.std.proofs.Common.{◌≡◌, ℕ, zero, suc, ◌+◌, ◌*◌, ◌≤◌, List, [], ◌∷◌, map, refl, ap, ◌∙◌, arith}
use Rattle.std.specs.Prelude.{min, slice_index}
use Rattle.std.proofs.Math.Nat.{mul_comm}
use Rattle.std.proofs.lemmas.List.Sums.{sum_by-cons}
use Rattle.rely_kernel.specs.declared.kernel.Slot.{Slot}
use Rattle.rely_kernel.specs.declared.kernel.Slot.TheVariants.{Named, Free}
use Rattle.rely_num.specs.declared.op.Op.{Op}
use Rattle.rely_hard.specs.declared.hardware.Hardware.{Hardware}
use Rattle.rely_hard.specs.declared.hardware.KindSpec.{KindSpec}
use Rattle.rely_hard.specs.declared.hardware.MemSpec.{MemSpec}
use Rattle.rely_kernel.specs.declared.kernel.Kernel.{Kernel}
use Rattle.rely_kernel.specs.declared.kernel.Site.{Site}
use Rattle.rely_kernel.specs.declared.kernel.Var.{Var}
use Rattle.rely_kernel.specs.declared.label.Label.TheVariants as label
use Rattle.rely_kernel.specs.Labels.{number}
use Rattle.rely_kernel.specs.Machine.{size}
use Rattle.rely_kernel.specs.Setting.{kinds_of}
use Rattle.rely_machine.specs.declared.outcome.Outcome.{Outcome}
use Rattle.rely_machine.specs.EnergySums.{capped}
use Rattle.rely_machine.proofs.EnergyCaps.{capped_times}
use Rattle.chisel_problem.specs.declared.places.Place.{Place}
use Rattle.chisel_problem.specs.Capped.{capped_place}
use Rattle.chisel_problem.specs.declared.uses.Whose.{Whose}
use Rattle.chisel_problem.specs.Energies.{kind_energies, memory_energies, site_energies, variable_energies}
use Rattle.chisel_problem.specs.Places.{closed, numbered, price_if_named}
use Rattle.chisel_problem.specs.Uses.{holds, uses}

pub small_stays : (n : ℕ) → n ≤ 18446744073709551615 → capped n ≡ n
small_stays n h = omega arith

pub prices_stay : (ns : List ℕ) → ((i : ℕ) → slice_index ns i ≤ 18446744073709551615) → map capped ns ≡ ns
prices_stay [] h = refl
prices_stay (n ∷ ns) h =
    let first : capped n ≡ n = small_stays n (h 0) in
    let rest : map capped ns ≡ ns = prices_stay ns (λ i. h (suc i)) in
    cc

pub place_stays : (p : Place) → ((i : ℕ) → slice_index p.prices i ≤ 18446744073709551615) → capped_place p ≡ p
place_stays p h = ap (λ (ns : List ℕ). record { slot = p.slot; prices = ns }) (prices_stay p.prices h)

pub mapped_stay : {X : Type 0} (g : X → ℕ) (xs : List X) → ((x : X) → g x ≤ 18446744073709551615) → map capped (map g xs) ≡ map g xs
mapped_stay g [] h = refl
mapped_stay g (x ∷ xs) h =
    let first : capped (g x) ≡ g x = small_stays (g x) (h x) in
    let rest : map capped (map g xs) ≡ map g xs = mapped_stay g xs h in
    cc

pub numbered_stay : {X : Type 0} (f : ℕ → X → Place) (a : ℕ) (xs : List X) → ((i : ℕ) (x : X) → capped_place (f i x) ≡ f i x)
    → map capped_place (numbered f a xs) ≡ numbered f a xs
numbered_stay f a [] h = refl
numbered_stay f a (x ∷ xs) h =
    let first : capped_place (f a x) ≡ f a x = h a x in
    let rest : map capped_place (numbered f (suc a) xs) ≡ numbered f (suc a) xs = numbered_stay f (suc a) xs h in
    cc

pub mapped_capped : {X : Type 0} (g : X → ℕ) (xs : List X) → map capped (map g xs) ≡ map (λ x. capped (g x)) xs
mapped_capped g [] = refl
mapped_capped g (x ∷ xs) = ap (λ ns. capped (g x) ∷ ns) (mapped_capped g xs)

-- ---- prices of capped counts

same_capped : {X : Type 0} (f g : X → ℕ) (xs : List X) → ((x : X) → capped (f x) ≡ capped (g x)) → map capped (map f xs) ≡ map capped (map g xs)
same_capped f g [] h = refl
same_capped f g (x ∷ xs) h =
    let first : capped (f x) ≡ capped (g x) = h x in
    let rest : map capped (map f xs) ≡ map capped (map g xs) = same_capped f g xs h in
    cc

scaled_capped : (n e : ℕ) → capped (capped n * e) ≡ capped (n * e)
scaled_capped n e = ap capped (mul_comm (capped n) e) ∙ (capped_times e n ∙ ap capped (mul_comm e n))

three_capped : (x y z x' y' z' : ℕ) → capped x ≡ capped x' → capped y ≡ capped y' → capped z ≡ capped z' → capped (x + y + z) ≡ capped (x' + y' + z')
three_capped x y z x' y' z' p q r = omega (arith, p, q, r)

pub kind_capped : (h : Hardware) (op : Op) (m n : ℕ) → m ≡ capped n → map capped (kind_energies h op m) ≡ map capped (kind_energies h op n)
kind_capped h op m n e =
    ap (λ i. map capped (kind_energies h op i)) e
    ∙ same_capped (λ (k : KindSpec). capped n * k.energy) (λ (k : KindSpec). n * k.energy) (kinds_of h op) (λ k. scaled_capped n k.energy)

pub memory_capped : (h : Hardware) (r w n r' w' n' : ℕ) → r' ≡ capped r → w' ≡ capped w → n' ≡ capped n
    → map capped (memory_energies h r' w' n') ≡ map capped (memory_energies h r w n)
memory_capped h r w n r' w' n' p q s =
    ap (λ i. map capped (memory_energies h i w' n')) p
    ∙ (ap (λ i. map capped (memory_energies h (capped r) i n')) q
    ∙ (ap (λ i. map capped (memory_energies h (capped r) (capped w) i)) s
    ∙ same_capped (λ (m : MemSpec). capped r * m.read_energy + capped w * m.write_energy + capped n * m.hold) (λ (m : MemSpec). r * m.read_energy + w * m.write_energy + n * m.hold) h.memories
    (λ m.
    three_capped (capped r * m.read_energy) (capped w * m.write_energy) (capped n * m.hold) (r * m.read_energy) (w * m.write_energy) (n * m.hold)
    (scaled_capped r m.read_energy) (scaled_capped w m.write_energy) (scaled_capped n m.hold))))

-- what is held, by a capped number of times
pub held_capped : (size m n : ℕ) → m ≡ capped n → min (size * m) 18446744073709551615 ≡ capped (size * n)
held_capped size m n e = ap (λ i. min (size * i) 18446744073709551615) e ∙ capped_times size n

-- ---- places of capped counts

pub site_place : (h : Hardware) (k : Kernel) (runs : List Outcome) (whose : Whose) (i : ℕ) (site : Site) (used : ℕ) (prices : List ℕ)
    → prices ≡ map capped (kind_energies h site.op used) → used ≡ capped (uses runs whose (number k (label.Op i)))
    → record { slot = site.kind; prices = prices } ≡ capped_place (site_energies h k runs whose i site)
site_place h k runs whose i site used prices p u =
    ap (λ (ns : List ℕ). record { slot = site.kind; prices = ns }) (p ∙ kind_capped h site.op used (uses runs whose (number k (label.Op i))) u)

pub variable_place : (h : Hardware) (k : Kernel) (runs : List Outcome) (whose : Whose) (v : ℕ) (var : Var) (reads writes held : ℕ) (prices : List ℕ)
    → prices ≡ map capped (memory_energies h reads writes held)
    → reads ≡ capped (uses runs whose (number k (label.Read v))) → writes ≡ capped (uses runs whose (number k (label.Write v)))
    → held ≡ capped (size var * holds runs whose)
    → record { slot = var.memory; prices = prices } ≡ capped_place (variable_energies h k runs whose v var)
variable_place h k runs whose v var reads writes held prices p r w m =
    ap (λ (ns : List ℕ). record { slot = var.memory; prices = ns })
    (p
    ∙ memory_capped h (uses runs whose (number k (label.Read v))) (uses runs whose (number k (label.Write v))) (size var * holds runs whose) reads writes held r w m)

-- ---- sums

price_capped : (ns : List ℕ) (i : ℕ) → slice_index (map capped ns) i ≡ capped (slice_index ns i)
price_capped [] i = refl
price_capped (n ∷ ns) zero = refl
price_capped (n ∷ ns) (suc i) = price_capped ns i

named_capped : (s : Slot) (ns : List ℕ) → price_if_named s (map capped ns) ≡ capped (price_if_named s ns)
named_capped (Named n) ns = price_capped ns n
named_capped Free ns = refl

-- a capped sum of capped prices
pub closed_capped : (ps : List Place) → capped (closed (map capped_place ps)) ≡ capped (closed ps)
closed_capped [] = refl
closed_capped (p ∷ ps) =
    let first = named_capped p.slot p.prices in
    let rest = closed_capped ps in
    let all = sum_by-cons (λ (q : Place). price_if_named q.slot q.prices) p ps in
    let capped_all = sum_by-cons (λ (q : Place). price_if_named q.slot q.prices) (capped_place p) (map capped_place ps) in
    omega (arith, first, rest, all, capped_all)
