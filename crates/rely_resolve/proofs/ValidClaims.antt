-- The claims of a kernel name its parameters and the result.
use Rattle.std.specs.Prelude.{is_none, ◌||◌, ◌==◌, filter, find, slice_get, IsTrue}
use Rattle.std.specs.List.{AllByRecursion, list_any}
use Rattle.std.specs.Option.{option_map_or}
use Rattle.std.proofs.Common.{◌≡◌, ℕ, zero, suc, ◌<◌, ◌≤◌, Bool, true, false, cond, List, [], ◌∷◌, ◌++◌, map, length, Option, Some, None, refl, sym, ap, ◌∙◌, arith, true≢false, ◌⊎◌, inl, inr}
use Rattle.std.proofs.lemmas.Bool.{or_cases, or_right, cases_order}
use Rattle.std.proofs.lemmas.List.{length-map}
use Rattle.rely_num.specs.Bounds.{S}
use Rattle.rely_num.specs.Sets.{has, only, union}
use Rattle.rely_num.specs.Texts.{Bytes}
use Rattle.rely_num.proofs.Sets.{has_empty, has_union, has_only_other}
use Rattle.rely_hard.specs.declared.hardware.Hardware.{Hardware}
use Rattle.rely_kernel.specs.Machine.{parameters}
use Rattle.rely_kernel.specs.Valid.{ClaimFits}
use Rattle.rely_kernel.specs.declared.kernel.Claim.{Claim}
use Rattle.rely_kernel.specs.declared.kernel.Kernel.{Kernel}
use Rattle.rely_kernel.specs.declared.kernel.Var.{Var}
use Rattle.rely_tree.specs.Tree.{IdentTree, DeclTree, SaidTree}
use Rattle.rely_resolve.specs.Faults.{param_faults, needs_faults, claims_faults}
use Rattle.rely_resolve.specs.Kernels.{var_of, needs_of, claim_of}
use Rattle.rely_resolve.specs.Names.{place_of, number_of, names}
use Rattle.rely_resolve.specs.declared.fault.NameFault.TheVariants as fault
use Rattle.rely_resolve.proofs.ValidNames.{both_empty, when_off, number_within}
use Rattle.rely_resolve.proofs.ValidVars.{vars_of, params_are}

-- ---- parameters

param_number : (params : List DeclTree) (i : IdentTree) → param_faults params i ≡ [] → number_of i.text (names params) < length params
param_number params i e =
    let n = number_within i.text (names params) (when_off (is_none (place_of i.text (names params))) (fault.ClaimParam i.span) e) in
    let l : length (names params) ≡ length params = length-map params (λ (d : DeclTree). d.name.text) in
    omega arith

param_at : (h : Hardware) (ps ls : List DeclTree) (n : ℕ) → n < length ps → option_map_or (λ v. v.param) (slice_get (vars_of h ps ls) n) false ≡ true
param_at h [] ls n l = absurd (omega (arith, l))
param_at h (p ∷ ps) ls zero l = refl
param_at h (p ∷ ps) ls (suc n) l = param_at h ps ls n (omega (arith, l))

-- ---- the needs

only_that : (v w : ℕ) → has (only v) w ≡ true → w ≡ v
only_that v w e = elim (cases_order w v) [
  | inl s ↦ s
  | inr (inl l) ↦ absurd (true≢false (sym e ∙ has_only_other v w (omega (arith, l))))
  | inr (inr g) ↦ absurd (true≢false (sym e ∙ has_only_other v w (omega (arith, g))))
]

needs_within : (params : List DeclTree) (is : List IdentTree) (set : ℕ) → needs_faults params is ≡ [] → ((v : ℕ) → has set v ≡ true → v < length params)
    → (v : ℕ) → has (needs_of (names params) set is) v ≡ true → v < length params
needs_within params [] set e k = k
needs_within params (i ∷ is) set e k =
    let n = number_of i.text (names params) in
    let (a, b) = both_empty (param_faults params i) (needs_faults params is) e in
    needs_within params is (union set (only n)) b (λ v q. elim (or_cases (has set v) (has (only n) v) (sym (has_union set (only n) v) ∙ q)) [
      | inl s ↦ k v s
      | inr o ↦ (let w = only_that n v o in let l = param_number params i a in omega (arith, w, l))
    ])

-- ---- claims

claim_fits : (h : Hardware) (k : Kernel) (ps ls : List DeclTree) (c : SaidTree) → k.vars ≡ vars_of h ps ls → option_map_or (param_faults ps) c.target [] ≡ [] → needs_faults ps c.needs ≡ [] → ClaimFits k (claim_of (names ps) c)
claim_fits h k ps ls c is a b = (target c.target a, needs)
  where
    target : (o : Option IdentTree) → option_map_or (param_faults ps) o [] ≡ []
        → IsTrue (option_map_or (λ i. number_of i.text (names ps)) o 63 == 63 || option_map_or (λ v. v.param) (slice_get k.vars (option_map_or (λ i. number_of i.text (names ps)) o 63)) false)
    target None e = refl
    target (Some i) e =
        let n = number_of i.text (names ps) in
        or_right (n == 63) (option_map_or (λ v. v.param) (slice_get k.vars n) false)
        (ap (λ (vs : List Var). option_map_or (λ v. v.param) (slice_get vs n) false) is ∙ param_at h ps ls n (param_number ps i e))

    long : length (parameters k) ≡ length ps
    long = ap (λ (vs : List Var). length (filter (λ v. v.param) vs)) is ∙ ap length (params_are h ps ls) ∙ length-map ps (var_of h true)

    needs : (v : ℕ) → IsTrue (has (needs_of (names ps) 0 c.needs) v) → v < length (parameters k)
    needs v e =
        let l = needs_within ps c.needs 0 b (λ w q. absurd (true≢false (sym q ∙ has_empty w))) v e in
        omega (arith, l, long)

pub claims_fit : (h : Hardware) (k : Kernel) (ps ls : List DeclTree) (cs : List SaidTree) → k.vars ≡ vars_of h ps ls → claims_faults ps cs ≡ [] → AllByRecursion (ClaimFits k) (map (claim_of (names ps)) cs)
claims_fit h k ps ls [] is e = tt
claims_fit h k ps ls (c ∷ cs) is e =
    let (ab, d) = both_empty (option_map_or (param_faults ps) c.target [] ++ needs_faults ps c.needs) (claims_faults ps cs) e in
    let (a, b) = both_empty (option_map_or (param_faults ps) c.target []) (needs_faults ps c.needs) ab in
    (claim_fits h k ps ls c is a b, claims_fit h k ps ls cs is d)

pub bounds_fit : (ns : List Bytes) (cs : List SaidTree) → AllByRecursion (λ c. c.bound ≤ S) cs → AllByRecursion (λ c. c.bound ≤ S) (map (claim_of ns) cs)
bounds_fit ns [] q = tt
bounds_fit ns (c ∷ cs) q = (q.0, bounds_fit ns cs q.1)

-- ---- the claim in use

result_claim : (ns : List Bytes) (o : Option IdentTree) → is_none o ≡ true → (option_map_or (λ i. number_of i.text ns) o 63 == 63) ≡ true
result_claim ns None e = refl
result_claim ns (Some i) e = absurd (cc)

-- where a claim is on the result there is one in use
pub in_use : (ns : List Bytes) (cs : List SaidTree) → list_any (λ c. is_none c.target) cs ≡ true → (c : Claim) × (find (λ c. c.target == 63) (map (claim_of ns) cs) ≡ Some c)
in_use ns [] e = absurd (cc)
in_use ns (c ∷ cs) e = go (claim_of ns c) ((claim_of ns c).target == 63) (λ o. result_claim ns c.target o) (in_use ns cs) (or_cases (is_none c.target) (list_any (λ d. is_none d.target) cs) e)
  where
    go : (d : Claim) (b : Bool) → (is_none c.target ≡ true → b ≡ true) → (list_any (λ d. is_none d.target) cs ≡ true → (x : Claim) × (find (λ c. c.target == 63) (map (claim_of ns) cs) ≡ Some x))
        → (is_none c.target ≡ true) ⊎ (list_any (λ d. is_none d.target) cs ≡ true) → (x : Claim) × (cond b (Some d) (find (λ c. c.target == 63) (map (claim_of ns) cs)) ≡ Some x)
    go d true f r q = (d, refl)
    go d false f r (inl q) = absurd (true≢false (sym (f q)))
    go d false f r (inr q) = r q
