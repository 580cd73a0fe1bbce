-- Sums over what was counted: the labels that were taken and the calls, each once, function by function.
use Rattle.std.proofs.Common.{◌≡◌, ◌≢◌, ℕ, zero, suc, ◌+◌, ◌*◌, ◌<◌, ◌≤◌, Bool, true, false, List, [], ◌∷◌, ◌++◌, map, length, Some, None, Option, refl, sym, ap, ◌∙◌, subst, arith}
use Rattle.std.specs.Prelude.{cond, option_map, slice_get, sum_by, ◌==◌, ◌&&◌}
use Rattle.std.specs.List.{AllByRecursion, zip}
use Rattle.std.specs.Option.{option_map_or}
use Rattle.std.proofs.lemmas.Bool.{eq-eqb, eqb-true, ne_eqb}
use Rattle.std.proofs.lemmas.List.Sums.{sum_by-cons}
use Rattle.std.proofs.lemmas.Option.{same_Some, slice_get_within}
use Rattle.rely_hard.specs.declared.hardware.Hardware.{Hardware}
use Rattle.rely_kernel.specs.declared.kernel.Kernel.{Kernel}
use Rattle.rely_kernel.specs.declared.label.Label.{Label}
use Rattle.rely_kernel.specs.declared.label.Label.TheVariants as label
use Rattle.rely_kernel.specs.declared.setting.Setting.{Setting}
use Rattle.rely_kernel.specs.Labels.{InRange, number, labels_of}
use Rattle.rely_kernel.specs.Machine.{Config}
use Rattle.rely_machine.specs.Cost.{call_energy, energy_of, hold, hold_at, step_energy}
use Rattle.rely_machine.specs.EnergySums.{of_label, of_sites, of_vars, sum_from, used}
use Rattle.rely_machine.specs.Run.{called, calls, entered, taken}
use Rattle.rely_machine.proofs.EnergyItems.{LabelFits}

-- ---- sums over numbered items

module _ {X : Type 0} where
  -- of equal parts
  pub from_same : (f g : ℕ → X → ℕ) (a : ℕ) (xs : List X) → ((i j : ℕ) (x : X) → slice_get xs j ≡ Some x → i ≡ a + j → f i x ≡ g i x) → sum_from f a xs ≡ sum_from g a xs
  from_same f g a [] h = refl
  from_same f g a (x ∷ xs) h =
      let first : f a x ≡ g a x = h a 0 x refl (omega arith) in
      let rest = from_same f g (suc a) xs (λ i j y e p. h i (suc j) y e (omega (arith, p))) in
      omega (arith, first, rest)

  -- of parts of two
  pub from_plus : (f g : ℕ → X → ℕ) (a : ℕ) (xs : List X) → sum_from (λ i x. f i x + g i x) a xs ≡ sum_from f a xs + sum_from g a xs
  from_plus f g a [] = refl
  from_plus f g a (x ∷ xs) = omega (arith, from_plus f g (suc a) xs)

  -- of nothing
  pub from_none : (f : ℕ → X → ℕ) (a : ℕ) (xs : List X) → ((i : ℕ) (x : X) → a ≤ i → f i x ≡ 0) → sum_from f a xs ≡ 0
  from_none f a [] h = refl
  from_none f a (x ∷ xs) h = omega (arith, h a x (omega arith), from_none f (suc a) xs (λ i y p. h i y (omega (arith, p))))

  -- of one part
  pub from_pick : (f : ℕ → X → ℕ) (a : ℕ) (xs : List X) (i j : ℕ) → i ≡ a + j → ((n : ℕ) (x : X) → n ≢ i → f n x ≡ 0)
      → sum_from f a xs ≡ option_map_or (f i) (slice_get xs j) 0
  from_pick f a [] i j e h = refl
  from_pick f a (x ∷ xs) i zero e h =
      let same : i ≡ a = omega (arith, e) in
      let first : f a x ≡ f i x = ap (λ n. f n x) (sym same) in
      let rest = from_none f (suc a) xs (λ n y p. h n y (λ q. absurd (omega (arith, p, q, same)))) in
      omega (arith, first, rest)
  from_pick f a (x ∷ xs) i (suc j) e h =
      let first = h a x (λ q. absurd (omega (arith, q, e))) in
      let rest = from_pick f (suc a) xs i j (omega (arith, e)) h in
      omega (arith, first) ∙ rest

  -- with one more item
  pub from_more : (f : ℕ → X → ℕ) (a : ℕ) (xs : List X) (y : X) (n : ℕ) → n ≡ a + length xs → sum_from f a (xs ++ y ∷ []) ≡ sum_from f a xs + f n y
  from_more f a [] y n e = let same : f a y ≡ f n y = ap (λ i. f i y) (omega (arith, e)) in omega (arith, same)
  from_more f a (x ∷ xs) y n e = omega (arith, from_more f (suc a) xs y n (omega (arith, e)))

-- over the items that a function gives
pub from_map : {X Y : Type 0} (F : ℕ → Y → ℕ) (g : X → Y) (a : ℕ) (xs : List X) → sum_from F a (map g xs) ≡ sum_from (λ i x. F i (g x)) a xs
from_map F g a [] = refl
from_map F g a (x ∷ xs) = ap (λ n. F a (g x) + n) (from_map F g (suc a) xs)

-- ---- products of uses and energies

distributed : (a b c : ℕ) → (a + b) * c ≡ a * c + b * c
distributed a b c = omega arith

none_of : (a c : ℕ) → a ≡ 0 → a * c ≡ 0
none_of a c e = rw e (omega arith)

one_of : (a c : ℕ) → a ≡ 1 → a * c ≡ c
one_of a c e = rw e (omega arith)

same_two : (a a' b b' c d : ℕ) → a ≡ a' → b ≡ b' → a * c + b * d ≡ a' * c + b' * d
same_two a a' b b' c d p q = rw (p, q) refl

none_of_two : (a b c d : ℕ) → a ≡ 0 → b ≡ 0 → a * c + b * d ≡ 0
none_of_two a b c d p q = rw (p, q) (omega arith)

first_of_two : (a b c d : ℕ) → a ≡ 1 → b ≡ 0 → a * c + b * d ≡ c
first_of_two a b c d p q = rw (p, q) (omega arith)

second_of_two : (a b c d : ℕ) → a ≡ 0 → b ≡ 1 → a * c + b * d ≡ d
second_of_two a b c d p q = rw (p, q) (omega arith)

-- ---- one function under a setting

module _ (h : Hardware) (k : Kernel) (t : Setting) where
  -- the energies of a variable's labels
  abbrev read_of : ℕ → ℕ
  read_of v = energy_of h k t (label.Read v)

  abbrev write_of : ℕ → ℕ
  write_of v = energy_of h k t (label.Write v)

  -- as many uses of each label
  pub used_same : (g d : ℕ → ℕ) → ((i : ℕ) → i < labels_of k → g i ≡ d i) → used h k t g ≡ used h k t d
  used_same g d e =
      let n = length k.sites in
      let sites : of_sites h k t g ≡ of_sites h k t d =
      from_same (λ i _. of_label h k t g (label.Op i)) (λ i _. of_label h k t d (label.Op i)) 0 k.sites
      (λ i j s at p. let within = slice_get_within k.sites j s at in ap (λ x. x * energy_of h k t (label.Op i)) (e i (omega (arith, within, p)))) in
      let vars : of_vars h k t g ≡ of_vars h k t d =
      from_same (λ v _. of_label h k t g (label.Read v) + of_label h k t g (label.Write v)) (λ v _. of_label h k t d (label.Read v) + of_label h k t d (label.Write v)) 0 k.vars
      (λ v j x at p.
      let within = slice_get_within k.vars j x at in
      same_two (g (n + 2 * v)) (d (n + 2 * v)) (g (n + 2 * v + 1)) (d (n + 2 * v + 1)) (read_of v) (write_of v)
      (e (n + 2 * v) (omega (arith, within, p))) (e (n + 2 * v + 1) (omega (arith, within, p)))) in
      omega (arith, sites, vars)

  -- uses of two runs
  pub used_plus : (g d : ℕ → ℕ) → used h k t (λ i. g i + d i) ≡ used h k t g + used h k t d
  used_plus g d =
      let n = length k.sites in
      let both : ℕ → ℕ = λ i. g i + d i in
      let sites : of_sites h k t both ≡ of_sites h k t g + of_sites h k t d =
      from_same (λ i _. of_label h k t both (label.Op i)) (λ i _. of_label h k t g (label.Op i) + of_label h k t d (label.Op i)) 0 k.sites
      (λ i j s at p. distributed (g i) (d i) (energy_of h k t (label.Op i)))
      ∙ from_plus (λ i _. of_label h k t g (label.Op i)) (λ i _. of_label h k t d (label.Op i)) 0 k.sites in
      let vars : of_vars h k t both ≡ of_vars h k t g + of_vars h k t d =
      from_same (λ v _. of_label h k t both (label.Read v) + of_label h k t both (label.Write v))
      (λ v _. (of_label h k t g (label.Read v) + of_label h k t g (label.Write v)) + (of_label h k t d (label.Read v) + of_label h k t d (label.Write v))) 0 k.vars
      (λ v j x at p. omega (arith, distributed (g (n + 2 * v)) (d (n + 2 * v)) (read_of v), distributed (g (n + 2 * v + 1)) (d (n + 2 * v + 1)) (write_of v)))
      ∙ from_plus (λ v _. of_label h k t g (label.Read v) + of_label h k t g (label.Write v)) (λ v _. of_label h k t d (label.Read v) + of_label h k t d (label.Write v)) 0 k.vars in
      omega (arith, sites, vars)

  -- no uses
  pub used_none : (g : ℕ → ℕ) → ((i : ℕ) → g i ≡ 0) → used h k t g ≡ 0
  used_none g e =
      let n = length k.sites in
      let sites : of_sites h k t g ≡ 0 = from_none (λ i _. of_label h k t g (label.Op i)) 0 k.sites (λ i s p. none_of (g i) (energy_of h k t (label.Op i)) (e i)) in
      let vars : of_vars h k t g ≡ 0 =
      from_none (λ v _. of_label h k t g (label.Read v) + of_label h k t g (label.Write v)) 0 k.vars
      (λ v x p. none_of_two (g (n + 2 * v)) (g (n + 2 * v + 1)) (read_of v) (write_of v) (e (n + 2 * v)) (e (n + 2 * v + 1))) in
      omega (arith, sites, vars)

-- ---- one label

-- a number against another
abbrev pub at : ℕ → ℕ → ℕ
at n i = cond (n == i) 1 0

at_same : (n i : ℕ) → n ≡ i → at n i ≡ 1
at_same n i e = ap (λ b. cond b 1 0) (eq-eqb n i e)

at_other : (n i : ℕ) → n ≢ i → at n i ≡ 0
at_other n i e = ap (λ b. cond b 1 0) (ne_eqb n i e)

-- a place of a list
picked : {X : Type 0} (xs : List X) (j n : ℕ) → j < length xs → option_map_or (λ _. n) (slice_get xs j) 0 ≡ n
picked [] j n below = absurd (omega (arith, below))
picked (x ∷ xs) zero n below = refl
picked (x ∷ xs) (suc j) n below = picked xs j n (omega (arith, below))

-- of equal functions
option_same : {X : Type 0} (f g : X → ℕ) (o : Option X) → ((x : X) → f x ≡ g x) → option_map_or f o 0 ≡ option_map_or g o 0
option_same f g None h = refl
option_same f g (Some x) h = h x

-- the label of a step counts where the step is of function f
abbrev pub hit : Kernel → ℕ → ℕ × Label → ℕ → ℕ
hit k f m i = cond (m.0 == f && number k m.1 == i) 1 0

module _ (h : Hardware) (k : Kernel) (t : Setting) where
  -- no site has that number
  sites_none : (n : ℕ) → length k.sites ≤ n → of_sites h k t (at n) ≡ 0
  sites_none n past =
      from_same (λ i _. of_label h k t (at n) (label.Op i)) (λ i _. 0) 0 k.sites
      (λ i j s e p.
      let within = slice_get_within k.sites j s e in
      none_of (at n i) (energy_of h k t (label.Op i)) (at_other n i (λ q. absurd (omega (arith, q, past, within, p)))))
      ∙ from_none (λ i _. 0) 0 k.sites (λ i s p. refl)

  -- what is used of a variable
  abbrev var_uses : ℕ → ℕ → ℕ
  var_uses n v = of_label h k t (at n) (label.Read v) + of_label h k t (at n) (label.Write v)

  -- nothing, where neither label has that number
  var_none : (n v : ℕ) → n ≢ length k.sites + 2 * v → n ≢ length k.sites + 2 * v + 1 → var_uses n v ≡ 0
  var_none n v p q =
      let s = length k.sites in
      none_of_two (at n (s + 2 * v)) (at n (s + 2 * v + 1)) (read_of h k t v) (write_of h k t v) (at_other n (s + 2 * v) p) (at_other n (s + 2 * v + 1) q)

  vars_none : (n : ℕ) → ((v : ℕ) → v < length k.vars → (n ≢ length k.sites + 2 * v) × (n ≢ length k.sites + 2 * v + 1)) → of_vars h k t (at n) ≡ 0
  vars_none n apart =
      from_same (λ v _. var_uses n v) (λ v _. 0) 0 k.vars
      (λ v j x e p. let within = slice_get_within k.vars j x e in let far = apart v (omega (arith, within, p)) in var_none n v far.0 far.1)
      ∙ from_none (λ v _. 0) 0 k.vars (λ v x p. refl)

  -- one use of a label costs its energy
  used_label : (l : Label) → InRange k l → used h k t (at (number k l)) ≡ energy_of h k t l
  used_label (label.Op site) below =
      let vars = vars_none site (λ v b. (λ q. absurd (omega (arith, q, below)), λ q. absurd (omega (arith, q, below)))) in
      let cost : ℕ = energy_of h k t (label.Op site) in
      let sites : of_sites h k t (at site) ≡ cost =
      from_pick (λ i _. of_label h k t (at site) (label.Op i)) 0 k.sites site site (omega arith)
      (λ n s q. none_of (at site n) (energy_of h k t (label.Op n)) (at_other site n (λ r. q (sym r))))
      ∙ picked k.sites site (at site site * cost) below
      ∙ one_of (at site site) cost (at_same site site refl) in
      omega (arith, vars, sites)
  used_label (label.Read v) below =
      let s = length k.sites in
      let n = s + 2 * v in
      let sites = sites_none n (omega arith) in
      let vars : of_vars h k t (at n) ≡ read_of h k t v =
      from_pick (λ w _. var_uses n w) 0 k.vars v v (omega arith) (λ w x q. var_none n w (λ r. q (omega (arith, r))) (λ r. absurd (omega (arith, r))))
      ∙ picked k.vars v (var_uses n v) below
      ∙ first_of_two (at n n) (at n (n + 1)) (read_of h k t v) (write_of h k t v) (at_same n n refl) (at_other n (n + 1) (λ r. absurd (omega (arith, r)))) in
      omega (arith, vars, sites)
  used_label (label.Write v) below =
      let s = length k.sites in
      let n = s + 2 * v + 1 in
      let sites = sites_none n (omega arith) in
      let vars : of_vars h k t (at n) ≡ write_of h k t v =
      from_pick (λ w _. var_uses n w) 0 k.vars v v (omega arith) (λ w x q. var_none n w (λ r. absurd (omega (arith, r))) (λ r. q (omega (arith, r))))
      ∙ picked k.vars v (var_uses n v) below
      ∙ second_of_two (at n (s + 2 * v)) (at n n) (read_of h k t v) (write_of h k t v) (at_other n (s + 2 * v) (λ r. absurd (omega (arith, r)))) (at_same n n refl) in
      omega (arith, vars, sites)
  used_label (label.Call place) below =
      let n = length k.sites + 2 * length k.vars + place in
      let sites = sites_none n (omega arith) in
      let vars = vars_none n (λ v b. (λ q. absurd (omega (arith, q, b)), λ q. absurd (omega (arith, q, b)))) in
      omega (arith, vars, sites)

  used_hit : (f : ℕ) (m : ℕ × Label) → (m.0 ≡ f → InRange k m.1) → used h k t (hit k f m) ≡ cond (m.0 == f) (energy_of h k t m.1) 0
  used_hit f m fits = one (m.0 == f) refl
    where
      one : (b : Bool) → (m.0 == f) ≡ b → used h k t (λ i. cond (b && number k m.1 == i) 1 0) ≡ cond b (energy_of h k t m.1) 0
      one true e = used_label m.1 (fits (eqb-true m.0 f e))
      one false e = used_none h k t (λ i. 0) (λ i. refl)

-- ---- functions with their settings

none_there : {X : Type 0} (o : Option X) → ◌≡◌ {A = ℕ} (option_map_or (λ _. 0) o 0) 0
none_there None = refl
none_there (Some x) = refl

-- a function and its setting stand at one place
pair_at : (F : Kernel → Setting → ℕ) (fs : List Kernel) (ts : List Setting) (g : ℕ)
    → option_map_or (λ (x : Kernel × Setting). F x.0 x.1) (slice_get (zip fs ts) g) 0 ≡ option_map_or (λ k. option_map_or (F k) (slice_get ts g) 0) (slice_get fs g) 0
pair_at F [] ts g = refl
pair_at F (k ∷ fs) [] g = sym (none_there (slice_get (k ∷ fs) g))
pair_at F (k ∷ fs) (t ∷ ts) zero = refl
pair_at F (k ∷ fs) (t ∷ ts) (suc g) = pair_at F fs ts g

pair_known : (fs : List Kernel) (ts : List Setting) (j : ℕ) (x : Kernel × Setting) → slice_get (zip fs ts) j ≡ Some x → slice_get fs j ≡ Some x.0
pair_known [] ts j x e = absurd (cc)
pair_known (k ∷ fs) [] j x e = absurd (cc)
pair_known (k ∷ fs) (t ∷ ts) zero x e = ap (option_map (λ (y : Kernel × Setting). y.0)) e
pair_known (k ∷ fs) (t ∷ ts) (suc j) x e = pair_known fs ts j x e

module _ (h : Hardware) (fs : List Kernel) (ts : List Setting) where
  abbrev pairs : List (Kernel × Setting)
  pairs = zip fs ts

  -- what a function uses on the way
  abbrev pub using : List (ℕ × Label) → ℕ → Kernel × Setting → ℕ
  using ms f x = used h x.0 x.1 (taken x.0 f ms)

  -- and in one step
  abbrev hitting : ℕ × Label → ℕ → Kernel × Setting → ℕ
  hitting m f x = used h x.0 x.1 (hit x.0 f m)

  abbrev costing : ℕ × Label → ℕ → Kernel × Setting → ℕ
  costing m f x = cond (m.0 == f) (energy_of h x.0 x.1 m.1) 0

  step_used : (m : ℕ × Label) → LabelFits fs m → sum_from (hitting m) 0 pairs ≡ step_energy h fs ts m
  step_used m r =
      from_same (hitting m) (costing m) 0 pairs
      (λ i j x at p. used_hit h x.0 x.1 i m (λ q. subst (λ k. InRange k m.1) (same_Some r.k x.0 (sym r.known ∙ ap (slice_get fs) (q ∙ p ∙ (omega arith)) ∙ pair_known fs ts j x at)) r.fits))
      ∙ from_pick (costing m) 0 pairs m.0 m.0 (omega arith) (λ n x q. ap (λ b. cond b (energy_of h x.0 x.1 m.1) 0) (ne_eqb m.0 n (λ r. q (sym r))))
      ∙ option_same (costing m m.0) (λ (x : Kernel × Setting). energy_of h x.0 x.1 m.1) (slice_get pairs m.0) (λ x. ap (λ b. cond b (energy_of h x.0 x.1 m.1) 0) (eq-eqb m.0 m.0 refl))
      ∙ pair_at (λ k t. energy_of h k t m.1) fs ts m.0

  -- one more step counts once
  taken_more : (k : Kernel) (f : ℕ) (m : ℕ × Label) (ms : List (ℕ × Label)) (i : ℕ) → taken k f (m ∷ ms) i ≡ hit k f m i + taken k f ms i
  taken_more k f m ms i = sum_by-cons (λ m. cond (m.0 == f && number k m.1 == i) 1 0) m ms

  -- what all steps cost is what the functions use
  pub steps_used : (ms : List (ℕ × Label)) → AllByRecursion (LabelFits fs) ms → sum_by (step_energy h fs ts) ms ≡ sum_from (using ms) 0 pairs
  steps_used [] r = sym (from_none (using []) 0 pairs (λ f x p. used_none h x.0 x.1 (taken x.0 f []) (λ i. refl)))
  steps_used (m ∷ ms) r =
      let parts : sum_from (using (m ∷ ms)) 0 pairs ≡ sum_from (hitting m) 0 pairs + sum_from (using ms) 0 pairs =
      from_same (using (m ∷ ms)) (λ f x. hitting m f x + using ms f x) 0 pairs
      (λ f j x at p. used_same h x.0 x.1 (taken x.0 f (m ∷ ms)) (λ i. hit x.0 f m i + taken x.0 f ms i) (λ i b. taken_more x.0 f m ms i) ∙ used_plus h x.0 x.1 (hit x.0 f m) (taken x.0 f ms))
      ∙ from_plus (hitting m) (using ms) 0 pairs in
      omega (arith, sum_by-cons (step_energy h fs ts) m ms, step_used m r.0, parts, steps_used ms r.1)

  -- ---- calls

  -- what a function's entries hold
  abbrev pub holding : List Config → ℕ → Kernel × Setting → ℕ
  holding cs f x = entered fs cs f * hold h x.0 x.1

  -- and one call
  abbrev entering : Option ℕ → ℕ → Kernel × Setting → ℕ
  entering o f x = cond (option_map_or (λ g. g == f) o false) 1 0 * hold h x.0 x.1

  call_held : (o : Option ℕ) → sum_from (entering o) 0 pairs ≡ option_map_or (hold_at h fs ts) o 0
  call_held None = from_none (entering None) 0 pairs (λ f x p. none_of 0 (hold h x.0 x.1) refl)
  call_held (Some g) =
      from_pick (entering (Some g)) 0 pairs g g (omega arith) (λ n x q. none_of (at g n) (hold h x.0 x.1) (at_other g n (λ r. q (sym r))))
      ∙ option_same (entering (Some g) g) (λ (x : Kernel × Setting). hold h x.0 x.1) (slice_get pairs g) (λ x. one_of (at g g) (hold h x.0 x.1) (at_same g g refl))
      ∙ pair_at (hold h) fs ts g

  entered_more : (g : ℕ) (c : Config) (cs : List Config) → entered fs (c ∷ cs) g ≡ cond (calls fs g c) 1 0 + entered fs cs g
  entered_more g c cs = sum_by-cons (λ c. cond (calls fs g c) 1 0) c cs

  times_more : (a b c d : ℕ) → a ≡ b + c → a * d ≡ b * d + c * d
  times_more a b c d e = rw e (omega arith)

  -- what all calls hold is what the entries do
  pub calls_held : (cs : List Config) → sum_by (call_energy h fs ts) cs ≡ sum_from (holding cs) 0 pairs
  calls_held [] = sym (from_none (holding []) 0 pairs (λ f x p. none_of 0 (hold h x.0 x.1) refl))
  calls_held (c ∷ cs) =
      let o : Option ℕ = called fs c.function c.items in
      let parts : sum_from (holding (c ∷ cs)) 0 pairs ≡ sum_from (entering o) 0 pairs + sum_from (holding cs) 0 pairs =
      from_same (holding (c ∷ cs)) (λ f x. entering o f x + holding cs f x) 0 pairs
      (λ f j x at p. times_more (entered fs (c ∷ cs) f) (cond (calls fs f c) 1 0) (entered fs cs f) (hold h x.0 x.1) (entered_more f c cs))
      ∙ from_plus (entering o) (holding cs) 0 pairs in
      omega (arith, sum_by-cons (call_energy h fs ts) c cs, call_held o, parts, calls_held cs)
