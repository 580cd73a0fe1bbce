-- A kernel that is named by a setting has the setting's rates and verdicts.
use Rattle.std.proofs.Common.{◌≡◌, ℕ, ◌*◌, ◌^◌, ◌<◌, ◌≤◌, Bool, true, false, cond, List, [], ◌∷◌, ◌++◌, map, flat_map, find, fold, length, min, Option, Some, None, refl, ap, sym, ◌∙◌, arith, nat_lt, sum}
use Rattle.std.specs.Prelude.{slice_get, slice_index}
use Rattle.std.specs.List.{AllByRecursion, range_with_len}
use Rattle.std.specs.Option.{option_map_or}
use Rattle.std.proofs.lemmas.Simd.{map-map}
use Rattle.std.proofs.lemmas.Bool.{ltb-true}
use Rattle.std.proofs.Math.Nat.{mul-lt-mul_of_pos_right}
use Rattle.rely_num.specs.Bounds.{S}
use Rattle.rely_num.specs.Ops.{is_op}
use Rattle.rely_num.specs.declared.conj.Conj.{Conj}
use Rattle.rely_num.proofs.Sets.{has_from_within}
use Rattle.rely_hard.specs.Valid.{IsHardware}
use Rattle.rely_hard.specs.declared.hardware.Hardware.{Hardware}
use Rattle.rely_kernel.specs.Labels.{labels_of}
use Rattle.rely_kernel.specs.Paths.{paths_of}
use Rattle.rely_kernel.specs.Rates.{named, own, rates, right_of}
use Rattle.rely_kernel.specs.Sound.{Suffices}
use Rattle.rely_kernel.specs.Valid.{IsValid}
use Rattle.rely_kernel.specs.declared.kernel.CallSite.{CallSite}
use Rattle.rely_kernel.specs.declared.kernel.Claim.{Claim}
use Rattle.rely_kernel.specs.declared.kernel.Kernel.{Kernel}
use Rattle.rely_kernel.specs.declared.kernel.Site.{Site}
use Rattle.rely_kernel.specs.declared.kernel.Slot.{Slot}
use Rattle.rely_kernel.specs.declared.kernel.Slot.TheVariants.{Named}
use Rattle.rely_kernel.specs.declared.kernel.Var.{Var}
use Rattle.rely_kernel.specs.declared.label.Label.TheVariants as label
use Rattle.rely_kernel.specs.declared.setting.Setting.{Setting}
use Rattle.rely_kernel.proofs.Sound.{some_power}
use Rattle.rely_predicate.specs.Top.{top}
use Rattle.rely_verdict.specs.Judged.{NamesWithin, first_outside, hi, lo, verdict}
use Rattle.rely_verdict.specs.declared.verdict.Verdict.TheVariants.{Accepted, Below, Needs, Undecided}
use Rattle.rely_verdict.proofs.Counted.{top_long}
use Rattle.rely_verdict.proofs.FirstOutside.{none_is_within}
use Rattle.rely_verdict.proofs.JudgedLaw.{products_enclose}
use Rattle.chisel_claims.specs.Verdicts.{is_failing, verdict_on}
use Rattle.chisel_rewrite.specs.Alike.{IsLike, IsSetBy, IsWith, anywhere}
use Rattle.chisel_rewritten_verdicts.specs.Verdicts.{MetNeverFails, SameRates, SameVerdicts}
use Rattle.chisel_rewritten_verdicts.proofs.SamePaths.{paths_same, same_at, sites_long, vars_long}

-- ---- settings

named_numbers : (ns : List ℕ) → map named (map Named ns) ≡ ns
named_numbers [] = refl
named_numbers (n ∷ ns) = ap (λ l. n ∷ l) (named_numbers ns)

-- what is named by a setting has it for its own
pub own_is : (t : Setting) (k other : Kernel) → IsSetBy t k other → own other ≡ t
own_is t k other is =
    let kinds : map (λ s. named s.kind) other.sites ≡ t.sites =
    sym (map-map named (λ (s : Site). s.kind) other.sites) ∙ (ap (map named) is.kinds ∙ named_numbers t.sites) in
    let memories : map (λ v. named v.memory) other.vars ≡ t.memories =
    sym (map-map named (λ (v : Var). v.memory) other.vars) ∙ (ap (map named) is.memories ∙ named_numbers t.memories) in
    λ j. record { sites = kinds j; memories = memories j }

-- and a kernel that is the same has the same for its own
pub own_like : (k other : Kernel) → IsLike k other → own other ≡ own k
own_like k other is =
    let kinds : map (λ s. named s.kind) other.sites ≡ map (λ s. named s.kind) k.sites =
    sym (map-map named (λ (s : Site). s.kind) other.sites) ∙ (ap (map named) is.kinds ∙ map-map named (λ (s : Site). s.kind) k.sites) in
    let memories : map (λ v. named v.memory) other.vars ≡ map (λ v. named v.memory) k.vars =
    sym (map-map named (λ (v : Var). v.memory) other.vars) ∙ (ap (map named) is.memories ∙ map-map named (λ (v : Var). v.memory) k.vars) in
    λ j. record { sites = kinds j; memories = memories j }

-- ---- rates

module _ (h : Hardware) (t : Setting) (kinds memories : List Slot) (k other : Kernel) (is : IsWith kinds memories k other) where
  operator_same : (site : ℕ) → right_of h other t (label.Op site) ≡ right_of h k t (label.Op site)
  operator_same site =
      same_at (λ (s : Site). s.op) (λ op. option_map_or (λ o. option_map_or (λ s. s.right) (slice_get o.kinds (slice_index t.sites site)) 0) (find (λ o. is_op o.op op) h.operators) 0)
      other.sites k.sites site 0 is.ops

  bounds_same : map (λ c. c.bound) other.calls ≡ map (λ c. c.bound) k.calls
  bounds_same =
      sym (map-map (λ (c : CallSite). c.bound) anywhere other.calls) ∙ (ap (map (λ (c : CallSite). c.bound)) is.calls ∙ map-map (λ (c : CallSite). c.bound) anywhere k.calls)

  rates_by : rates h other t ≡ rates h k t
  unfolding rates
  rates_by = λ j.
      map (λ site. operator_same site j) (range_with_len 0 (sites_long kinds memories k other is j))
      ++ flat_map (λ v. right_of h k t (label.Read v) ∷ right_of h k t (label.Write v) ∷ []) (range_with_len 0 (vars_long kinds memories k other is j))
      ++ bounds_same j

  -- with the setting for its own, the other has the setting's verdicts
  pub verdict_by : (claim : Claim) → own other ≡ t → verdict_on h other (own other) claim ≡ verdict_on h k t claim
  verdict_by claim mine =
      ap (λ rs. verdict rs claim.needs.bits claim.bound (top (paths_of other claim.target))) (ap (rates h other) mine ∙ rates_by)
      ∙ ap (λ cs. verdict (rates h k t) claim.needs.bits claim.bound (top cs)) (paths_same kinds memories k other is claim.target)

pub same_rates : SameRates
same_rates h t k other is = ap (rates h other) (own_is t k other is) ∙ rates_by h t (map Named t.sites) (map Named t.memories) k other is

pub same_verdicts : SameVerdicts
same_verdicts h t k other claim is = verdict_by h t (map Named t.sites) (map Named t.memories) k other is claim (own_is t k other is)

-- ---- no verdict that fails

-- conjuncts of which none passes the test
find_none : {X : Type 0} (test : X → Bool) (xs : List X) → AllByRecursion (λ x. test x ≡ false) xs → find test xs ≡ None
find_none test [] all = refl
find_none test (x ∷ xs) all = ap (λ b. cond b (Some x) (find test xs)) all.0 ∙ find_none test xs all.1

not_below : (bound most power : ℕ) → 0 < power → bound * power ≤ most * power → nat_lt most bound ≡ false
not_below bound most power some enough = one (nat_lt most bound) refl
  where
    one : (b : Bool) → nat_lt most bound ≡ b → b ≡ false
    one false e = refl
    one true e =
        let more : most * power < bound * power = mul-lt-mul_of_pos_right (ltb-true most bound e) some in
        absurd (omega (arith, enough, more))

module _ (h : Hardware) (k : Kernel) (t : Setting) (claim : Claim) (hard : IsHardware h) (valid : IsValid k) where
  needs_alone : (cs : List Conj) → AllByRecursion (Suffices (rates h k t) claim) cs → AllByRecursion (NamesWithin claim.needs.bits 64) cs
  needs_alone [] met = tt
  needs_alone (c ∷ cs) met = (λ v small in_it. has_from_within c.vars.bits claim.needs.bits v met.0.0 in_it, needs_alone cs met.1)

  none_below : (cs : List Conj) → AllByRecursion (λ c. length c.counts ≡ labels_of k) cs → AllByRecursion (Suffices (rates h k t) claim) cs
      → AllByRecursion (λ c. nat_lt (hi (rates h k t) c) claim.bound ≡ false) cs
  none_below [] counted met = tt
  none_below (c ∷ cs) counted met =
      let over = (products_enclose h k t c hard valid counted.0).over in
      let enough = met.0.1 in
      (not_below claim.bound (hi (rates h k t) c) (S ^ sum c.counts) (some_power (sum c.counts)) (omega (arith, over, enough)), none_below cs counted.1 met.1)

pub met_never_fails : MetNeverFails
unfolding verdict
met_never_fails h k t claim hard valid met =
    let cs : List Conj = top (paths_of k claim.target) in
    let needs = (none_is_within claim.needs.bits cs).1 (needs_alone h k t claim hard valid cs met) in
    let below = find_none (λ c. nat_lt (hi (rates h k t) c) claim.bound) cs (none_below h k t claim hard valid cs (top_long k claim.target) met) in
    one (first_outside claim.needs.bits cs) (find (λ c. nat_lt (hi (rates h k t) c) claim.bound) cs) (find (λ c. nat_lt (lo (rates h k t) c) claim.bound) cs) needs below
  where
    one : (a : Option ℕ) (b c : Option Conj) → a ≡ None → b ≡ None
        → is_failing (option_map_or Needs a (option_map_or (λ c. Below (hi (rates h k t) c)) b (option_map_or (λ c. Undecided (lo (rates h k t) c) (hi (rates h k t) c)) c
        (Accepted (fold min S (map (lo (rates h k t)) (top (paths_of k claim.target)))))))) ≡ false
    one None None None p q = refl
    one None None (Some c) p q = refl
    one None (Some b) c p q = absurd (cc)
    one (Some a) b c p q = absurd (cc)
