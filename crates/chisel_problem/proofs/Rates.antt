-- What places spend under a setting, and the calls beside them, is what the counts of all labels spend.
use Rattle.std.proofs.Common.{◌≡◌, ℕ, zero, suc, ◌+◌, ◌-◌, ◌*◌, ◌<◌, ◌≤◌, List, [], ◌∷◌, ◌++◌, map, drop, length, find, Option, Some, None, refl, sym, ap, ◌∙◌, subst, arith, add-one, append_assoc, length-drop}
use Rattle.std.specs.Prelude.{flat_map, slice_get, slice_index}
use Rattle.std.specs.List.{range_with_len}
use Rattle.std.specs.Option.{option_map_or}
use Rattle.std.proofs.lemmas.List.FromFn.{length-map-range_with_len, length-range_with_len}
use Rattle.std.proofs.lemmas.Option.{same_Some, slice_get_within}
use Rattle.rely_num.specs.Ops.{is_op}
use Rattle.rely_hard.specs.declared.hardware.Hardware.{Hardware}
use Rattle.rely_hard.specs.declared.hardware.MemSpec.{MemSpec}
use Rattle.rely_hard.specs.declared.hardware.OpSpec.{OpSpec}
use Rattle.rely_kernel.specs.declared.kernel.CallSite.{CallSite}
use Rattle.rely_kernel.specs.declared.kernel.Kernel.{Kernel}
use Rattle.rely_kernel.specs.declared.kernel.Site.{Site}
use Rattle.rely_kernel.specs.declared.label.Label.TheVariants as label
use Rattle.rely_kernel.specs.declared.setting.Setting.{Setting}
use Rattle.rely_kernel.specs.Labels.{labels_of, number}
use Rattle.rely_kernel.specs.Rates.{kind_right, rates, right_of}
use Rattle.rely_kernel.specs.Setting.{Fits, kinds_of}
use Rattle.rely_kernel.proofs.Zips.{zip_at, zip_long}
use Rattle.rely_machine.specs.EnergySums.{sum_from}
use Rattle.rely_machine.proofs.EnergyCounts.{from_same}
use Rattle.chisel_debit.specs.Budgets.{spent}
use Rattle.chisel_debit.specs.Debits.{debit}
use Rattle.chisel_problem.specs.Places.{numbered, under}
use Rattle.chisel_problem.specs.Spending.{calls_spend, kind_spending, memory_spending, site_spending, spending, variable_spending}
use Rattle.chisel_problem.proofs.PlaceLaws.{numbered_long, price_at, under_append, under_numbered}

-- ---- parts of a list of rates

spent_none : (base : ℕ) (rs : List ℕ) → spent base rs [] ≡ 0
spent_none base [] = refl
spent_none base (r ∷ rs) = refl

spent_append : (base : ℕ) (rs qs ns : List ℕ) → spent base (rs ++ qs) ns ≡ spent base rs ns + spent base qs (drop (length rs) ns)
spent_append base [] qs ns = omega arith
spent_append base (r ∷ rs) qs [] = omega (arith, spent_none base qs)
spent_append base (r ∷ rs) qs (n ∷ ns) = omega (arith, spent_append base rs qs ns)

pub index_drop : (n : ℕ) (ns : List ℕ) (j : ℕ) → slice_index (drop n ns) j ≡ slice_index ns (n + j)
index_drop zero ns j = let e : j ≡ zero + j = omega arith in ap (slice_index ns) e
index_drop (suc n) [] j = refl
index_drop (suc n) (m ∷ ns) j = let e : suc (n + j) ≡ suc n + j = omega arith in index_drop n ns j ∙ ap (slice_index (m ∷ ns)) e

behind_two : (n m : ℕ) (ns : List ℕ) (i j : ℕ) → i ≡ suc (suc j) → slice_index (n ∷ m ∷ ns) i ≡ slice_index ns j
behind_two n m ns i j e = ap (slice_index (n ∷ m ∷ ns)) e

module _ {X : Type 0} (base : ℕ) where
  spent_each : (rate at : ℕ → ℕ) (a : ℕ) (xs : List X) (ns : List ℕ) → length xs ≤ length ns → ((i j : ℕ) → i ≡ a + j → at i ≡ slice_index ns j)
      → spent base (map rate (range_with_len a (length xs))) ns ≡ sum_from (λ i _. at i * debit base (rate i)) a xs
  spent_each rate at a [] ns long same = refl
  spent_each rate at a (x ∷ xs) [] long same = absurd (omega (arith, long))
  spent_each rate at a (x ∷ xs) (n ∷ ns) long same =
      let first : n * debit base (rate a) ≡ at a * debit base (rate a) = ap (λ m. m * debit base (rate a)) (sym (same a 0 (omega arith))) in
      let next = ap (λ b. spent base (map rate (range_with_len b (length xs))) ns) (add-one a) in
      omega (arith, first, next, spent_each rate at (suc a) xs ns (omega (arith, long)) (λ i j e. same i (suc j) (omega (arith, e))))

  spent_pairs : (rate rate' at at' : ℕ → ℕ) (a : ℕ) (xs : List X) (ns : List ℕ) → 2 * length xs ≤ length ns
      → ((i j : ℕ) → i ≡ a + j → at i ≡ slice_index ns (2 * j)) → ((i j : ℕ) → i ≡ a + j → at' i ≡ slice_index ns (2 * j + 1))
      → spent base (flat_map (λ v. rate v ∷ rate' v ∷ []) (range_with_len a (length xs))) ns
      ≡ sum_from (λ i _. at i * debit base (rate i) + at' i * debit base (rate' i)) a xs
  spent_pairs rate rate' at at' a [] ns long same same' = refl
  spent_pairs rate rate' at at' a (x ∷ xs) [] long same same' = absurd (omega (arith, long))
  spent_pairs rate rate' at at' a (x ∷ xs) (n ∷ []) long same same' = absurd (omega (arith, long))
  spent_pairs rate rate' at at' a (x ∷ xs) (n ∷ m ∷ ns) long same same' =
      let first : n * debit base (rate a) ≡ at a * debit base (rate a) = ap (λ i. i * debit base (rate a)) (sym (same a 0 (omega arith))) in
      let second : m * debit base (rate' a) ≡ at' a * debit base (rate' a) = ap (λ i. i * debit base (rate' a)) (sym (same' a 0 (omega arith))) in
      let rest =
      spent_pairs rate rate' at at' (suc a) xs ns (omega (arith, long))
      (λ i j e. same i (suc j) (omega (arith, e)) ∙ behind_two n m ns (2 * suc j) (2 * j) (omega arith))
      (λ i j e. same' i (suc j) (omega (arith, e)) ∙ behind_two n m ns (2 * suc j + 1) (2 * j + 1) (omega arith)) in
      let next = ap (λ b. spent base (flat_map (λ v. rate v ∷ rate' v ∷ []) (range_with_len b (length xs))) ns) (add-one a) in
      omega (arith, first, second, next, rest)

spent_calls : (base : ℕ) (at : ℕ → ℕ) (a : ℕ) (xs : List CallSite) (ns : List ℕ) → length xs ≤ length ns → ((i j : ℕ) → i ≡ a + j → at i ≡ slice_index ns j)
    → spent base (map (λ c. c.bound) xs) ns ≡ sum_from (λ i c. at i * debit base c.bound) a xs
spent_calls base at a [] ns long same = refl
spent_calls base at a (x ∷ xs) [] long same = absurd (omega (arith, long))
spent_calls base at a (x ∷ xs) (n ∷ ns) long same =
    let first : n * debit base x.bound ≡ at a * debit base x.bound = ap (λ m. m * debit base x.bound) (sym (same a 0 (omega arith))) in
    omega (arith, first, spent_calls base at (suc a) xs ns (omega (arith, long)) (λ i j e. same i (suc j) (omega (arith, e))))

-- ---- one option

within : {X : Type 0} (g : X → ℕ) (f : ℕ → ℕ) (xs : List X) (n : ℕ) → n < length xs → option_map_or (λ x. f (g x)) (slice_get xs n) 0 ≡ f (option_map_or g (slice_get xs n) 0)
within g f [] n h = absurd (omega (arith, h))
within g f (x ∷ xs) zero h = refl
within g f (x ∷ xs) (suc n) h = within g f xs n (omega (arith, h))

kind_spends : (h : Hardware) (site : Site) (count kind : ℕ) → kind < length (kinds_of h site.op)
    → slice_index (kind_spending h site.op count) kind ≡ count * debit h.base (kind_right h kind site)
kind_spends h site count kind = one (find (λ o. is_op o.op site.op) h.operators)
  where
    one : (o : Option OpSpec) → kind < length (option_map_or (λ o. o.kinds) o [])
        → slice_index (map (λ s. count * debit h.base s.right) (option_map_or (λ o. o.kinds) o [])) kind
        ≡ count * debit h.base (option_map_or (λ o. option_map_or (λ s. s.right) (slice_get o.kinds kind) 0) o 0)
    one None small = absurd (omega (arith, small))
    one (Some o) small = price_at (λ s. count * debit h.base s.right) o.kinds kind ∙ within (λ s. s.right) (λ p. count * debit h.base p) o.kinds kind small

memory_spends : (h : Hardware) (reads writes memory : ℕ) → memory < length h.memories
    → slice_index (memory_spending h reads writes) memory
    ≡ reads * debit h.base (option_map_or (λ m. m.read) (slice_get h.memories memory) 0) + writes * debit h.base (option_map_or (λ m. m.write) (slice_get h.memories memory) 0)
memory_spends h reads writes memory small =
    price_at (λ (m : MemSpec). reads * debit h.base m.read + writes * debit h.base m.write) h.memories memory ∙ each h.memories memory small
  where
    each : (ms : List MemSpec) (n : ℕ) → n < length ms
        → option_map_or (λ (m : MemSpec). reads * debit h.base m.read + writes * debit h.base m.write) (slice_get ms n) 0
        ≡ reads * debit h.base (option_map_or (λ m. m.read) (slice_get ms n) 0) + writes * debit h.base (option_map_or (λ m. m.write) (slice_get ms n) 0)
    each [] n small = absurd (omega (arith, small))
    each (m ∷ ms) zero small = refl
    each (m ∷ ms) (suc n) small = each ms n (omega (arith, small))

-- ---- all labels

pairs_long : (f g : ℕ → ℕ) (xs : List ℕ) → length (flat_map (λ v. f v ∷ g v ∷ []) xs) ≡ 2 * length xs
pairs_long f g [] = refl
pairs_long f g (x ∷ xs) = omega (arith, pairs_long f g xs)

module _ (h : Hardware) (k : Kernel) (t : Setting) (fits : Fits k h t) (counts : List ℕ) where
  abbrev rate_op : ℕ → ℕ
  rate_op i = right_of h k t (label.Op i)

  abbrev rate_read : ℕ → ℕ
  rate_read v = right_of h k t (label.Read v)

  abbrev rate_write : ℕ → ℕ
  rate_write v = right_of h k t (label.Write v)

  under_sites : under (numbered (site_spending h k counts) 0 k.sites) t.sites ≡ sum_from (λ i _. slice_index counts i * debit h.base (rate_op i)) 0 k.sites
  under_sites =
      under_numbered (site_spending h k counts) (slice_index t.sites) 0 k.sites t.sites (zip_long (λ site kind. kind < length (kinds_of h site.op)) k.sites t.sites fits.sites) (λ i j e. ap (slice_index t.sites) (omega (arith, e)))
      ∙ from_same (λ i s. slice_index (kind_spending h s.op (slice_index counts i)) (slice_index t.sites i)) (λ i _. slice_index counts i * debit h.base (rate_op i)) 0 k.sites
      (λ i j s at e. each i s (ap (slice_get k.sites) (omega (arith, e)) ∙ at))
    where
      each : (i : ℕ) (s : Site) → slice_get k.sites i ≡ Some s
          → slice_index (kind_spending h s.op (slice_index counts i)) (slice_index t.sites i) ≡ slice_index counts i * debit h.base (rate_op i)
      each i s at =
          let (x, at', small) = zip_at (λ site kind. kind < length (kinds_of h site.op)) k.sites t.sites i 0 fits.sites (slice_get_within k.sites i s at) in
          let same : x ≡ s = same_Some x s (sym at' ∙ at) in
          kind_spends h s (slice_index counts i) (slice_index t.sites i) (subst (λ (y : Site). slice_index t.sites i < length (kinds_of h y.op)) same small)
          ∙ ap (λ o. slice_index counts i * debit h.base (option_map_or (kind_right h (slice_index t.sites i)) o 0)) (sym at)

  under_vars : under (numbered (variable_spending h k counts) 0 k.vars) t.memories
      ≡ sum_from (λ v _. slice_index counts (number k (label.Read v)) * debit h.base (rate_read v) + slice_index counts (number k (label.Write v)) * debit h.base (rate_write v)) 0 k.vars
  under_vars =
      under_numbered (variable_spending h k counts) (slice_index t.memories) 0 k.vars t.memories (zip_long (λ v memory. memory < length h.memories) k.vars t.memories fits.memories) (λ i j e. ap (slice_index t.memories) (omega (arith, e)))
      ∙ from_same (λ v x. slice_index (memory_spending h (slice_index counts (number k (label.Read v))) (slice_index counts (number k (label.Write v)))) (slice_index t.memories v))
      (λ v _. slice_index counts (number k (label.Read v)) * debit h.base (rate_read v) + slice_index counts (number k (label.Write v)) * debit h.base (rate_write v)) 0 k.vars
      (λ v j x at e. each v (slice_get_within k.vars v x (ap (slice_get k.vars) (omega (arith, e)) ∙ at)))
    where
      each : (v : ℕ) → v < length k.vars
          → slice_index (memory_spending h (slice_index counts (number k (label.Read v))) (slice_index counts (number k (label.Write v)))) (slice_index t.memories v)
          ≡ slice_index counts (number k (label.Read v)) * debit h.base (rate_read v) + slice_index counts (number k (label.Write v)) * debit h.base (rate_write v)
      each v below =
          let (x, at', small) = zip_at (λ v memory. memory < length h.memories) k.vars t.memories v 0 fits.memories below in
          memory_spends h (slice_index counts (number k (label.Read v))) (slice_index counts (number k (label.Write v))) (slice_index t.memories v) small

  -- over all labels, each count times the debit of the label's reliability
  pub spent_is : length counts ≡ labels_of k → spent h.base (rates h k t) counts ≡ under (spending h k counts) (t.sites ++ t.memories) + calls_spend h k counts
  unfolding rates
  spent_is long =
      let ops : List ℕ = map rate_op (range_with_len 0 (length k.sites)) in
      let pairs : List ℕ = flat_map (λ v. rate_read v ∷ rate_write v ∷ []) (range_with_len 0 (length k.vars)) in
      let bounds : List ℕ = map (λ c. c.bound) k.calls in
      let ops_long : length ops ≡ length k.sites = length-map-range_with_len rate_op 0 (length k.sites) in
      let pairs_are : length pairs ≡ 2 * length k.vars = pairs_long rate_read rate_write (range_with_len 0 (length k.vars)) ∙ ap (λ n. 2 * n) (length-range_with_len 0 (length k.vars)) in
      let rest : List ℕ = drop (length ops) counts in
      let last : List ℕ = drop (length pairs) rest in
      let rest_long : length rest ≡ length counts - length ops = length-drop (length ops) counts in
      let last_long : length last ≡ length rest - length pairs = length-drop (length pairs) rest in
      let first = spent_append h.base ops (pairs ++ bounds) counts in
      let second = spent_append h.base pairs bounds rest in
      let of_ops = spent_each h.base rate_op (slice_index counts) 0 k.sites counts (omega (arith, long)) (λ i j e. ap (slice_index counts) (omega (arith, e))) in
      let of_pairs =
      spent_pairs h.base rate_read rate_write (λ v. slice_index counts (number k (label.Read v))) (λ v. slice_index counts (number k (label.Write v))) 0 k.vars rest
      (omega (arith, long, ops_long, rest_long))
      (λ i j e. ap (slice_index counts) (omega (arith, e, ops_long)) ∙ sym (index_drop (length ops) counts (2 * j)))
      (λ i j e. ap (slice_index counts) (omega (arith, e, ops_long)) ∙ sym (index_drop (length ops) counts (2 * j + 1))) in
      let of_calls =
      spent_calls h.base (λ c. slice_index counts (number k (label.Call c))) 0 k.calls last (omega (arith, long, ops_long, pairs_are, rest_long, last_long))
      (λ i j e.
      ap (slice_index counts) (omega (arith, e, ops_long, pairs_are))
      ∙ (sym (index_drop (length ops) counts (length pairs + j)) ∙ sym (index_drop (length pairs) rest j))) in
      let places =
      under_append (numbered (site_spending h k counts) 0 k.sites) (numbered (variable_spending h k counts) 0 k.vars) t.sites t.memories
      (numbered_long (site_spending h k counts) 0 k.sites ∙ zip_long (λ site kind. kind < length (kinds_of h site.op)) k.sites t.sites fits.sites) in
      let whole : spent h.base (rates h k t) counts ≡ spent h.base (ops ++ (pairs ++ bounds)) counts = ap (λ rs. spent h.base rs counts) (append_assoc ops pairs bounds) in
      omega (arith, whole, first, second, of_ops, of_pairs, of_calls, places, under_sites, under_vars)
