-- What verdicts promise: in every forest of runs the bound of each accepted claim, and the nearness of an undecided one.
use Rattle.std.proofs.Common.{◌≡◌, ℕ, zero, suc, ◌+◌, Bool, true, false, List, [], ◌∷◌, ◌++◌, length, Option, Some, None, Result, Ok, Err, refl, sym, ap, subst, ◌∙◌, append_assoc, length-append, ◌⊎◌, inl, inr}
use Rattle.std.specs.Prelude.{slice_get, find, ◌==◌, if◌then◌else◌}
use Rattle.std.specs.List.{AllByRecursion}
use Rattle.std.proofs.lemmas.List.Elements.{All-from_recursion}
use Rattle.std.proofs.lemmas.Option.{same_Some}
use Rattle.rely_num.specs.declared.conj.Conj.{Conj}
use Rattle.rely_num.specs.declared.span.Span.{Span}
use Rattle.rely_hard.specs.Valid.{IsHardware}
use Rattle.rely_hard.specs.declared.hardware.Hardware.{Hardware}
use Rattle.rely_kernel.specs.declared.kernel.Claim.{Claim}
use Rattle.rely_kernel.specs.declared.kernel.Kernel.{Kernel}
use Rattle.rely_kernel.specs.declared.kernel.Linked.{Linked}
use Rattle.rely_kernel.specs.declared.setting.Setting.{Setting}
use Rattle.rely_kernel.specs.Labels.{labels_of}
use Rattle.rely_kernel.specs.Machine.{main}
use Rattle.rely_kernel.specs.Paths.{paths_of}
use Rattle.rely_kernel.specs.Rates.{own}
use Rattle.rely_kernel.specs.Valid.{IsLinked, IsValid, claim_in_use}
use Rattle.rely_predicate.specs.Top.{top}
use Rattle.rely_predicate.proofs.Tops.{In}
use Rattle.rely_precond.proofs.Limits.{top_paths_long}
use Rattle.rely_precond.specs.Walk.{Limit, walk_claim}
use Rattle.rely_verdict.specs.Soundness.{IsAccepted}
use Rattle.rely_verdict.specs.declared.verdict.Verdict.{Verdict}
use Rattle.rely_verdict.specs.declared.verdict.Verdict.TheVariants.{Needs, Below, Undecided, Accepted}
use Rattle.rely_verdict.specs.Judged.{AreCounted}
use Rattle.rely_verdict.proofs.AllAccepted.{accepted_holds, each_reached_holds, get_last}
use Rattle.rely_verdict.proofs.JudgedLaw.{judged_near}
use Rattle.chisel_claims.specs.Promises.{CalleesAccepted, FailsUnaccepted, FunctionHolds, HoldsUnder, IsNearly, JudgedNear, Keeps, KeepsUnder, ReachedHold}
use Rattle.chisel_claims.specs.Verdicts.{AllAccepted, Called, JudgedClaim, OneFails, after_callee, callee_on, callees_after, callees_of, in_use_from, is_accepted, judgement, limit_of, own_after, unless_limited, verdict_on, ◌>>=◌}

-- ---- the claim in use

-- the claim with its number is the claim in use
in_use_is : (i : ℕ) (cs : List Claim) (c : Claim) → find (λ c. c.target == 63) cs ≡ Some c → (n : ℕ) × (in_use_from i cs ≡ Some (n, c))
in_use_is i [] c e = absurd (cc)
in_use_is i (d ∷ ds) c e = by_test (d.target == 63) (λ f. in_use_is (i + 1) ds c f) e
  where
    by_test : (b : Bool) → (find (λ c. c.target == 63) ds ≡ Some c → (n : ℕ) × (in_use_from (i + 1) ds ≡ Some (n, c)))
        → (if b then Some d else find (λ c. c.target == 63) ds) ≡ Some c → (n : ℕ) × ((if b then Some (i, d) else in_use_from (i + 1) ds) ≡ Some (n, c))
    by_test true later e = (i, ap (λ (x : Claim). Some (i, x)) (same_Some d c e))
    by_test false later e = later e

-- and the other way round
is_in_use : (i n : ℕ) (cs : List Claim) (c : Claim) → in_use_from i cs ≡ Some (n, c) → find (λ c. c.target == 63) cs ≡ Some c
is_in_use i n [] c e = absurd (cc)
is_in_use i n (d ∷ ds) c e = by_test (d.target == 63) (λ f. is_in_use (i + 1) n ds c f) e
  where
    by_test : (b : Bool) → (in_use_from (i + 1) ds ≡ Some (n, c) → find (λ c. c.target == 63) ds ≡ Some c)
        → (if b then Some (i, d) else in_use_from (i + 1) ds) ≡ Some (n, c) → (if b then Some d else find (λ c. c.target == 63) ds) ≡ Some c
    by_test true later e = ap Some (second_is i d n c e)
      where
        second_is : (m : ℕ) (d : Claim) (n : ℕ) (c : Claim) → ◌≡◌ {A = Option (ℕ × Claim)} (Some (m, d)) (Some (n, c)) → d ≡ c
        second_is m d n c e = ap (λ (x : ℕ × Claim). x.1) (same_Some (m, d) (n, c) e)
    by_test false later e = later e

-- ---- callees that are judged

accepted_lo : (v : Verdict) → is_accepted v ≡ true → (lo : ℕ) × (v ≡ Accepted lo)
accepted_lo (Needs v) e = absurd (cc)
accepted_lo (Below hi) e = absurd (cc)
accepted_lo (Undecided lo hi) e = absurd (cc)
accepted_lo (Accepted lo) e = (lo, refl)

-- a judgement that stands is the verdict
judgement_is : (h : Hardware) (k : Kernel) (t : Setting) (c : Claim) (v : Verdict) → judgement h k t c ≡ Ok v → verdict_on h k t c ≡ v
judgement_is h k t c v e = by_limit (limit_of (walk_claim k c.target)) e
  where
    by_limit : (o : Option (Limit × Span)) → unless_limited o (verdict_on h k t c) ≡ Ok v → verdict_on h k t c ≡ v
    by_limit None e = cc
    by_limit (Some limit) e = absurd (cc)

ap_second : (n : ℕ) (d : Claim) (m : ℕ) (c : Claim) → ◌≡◌ {A = Option (ℕ × Claim)} (Some (n, d)) (Some (m, c)) → d ≡ c
ap_second n d m c e = ap (λ (x : ℕ × Claim). x.1) (same_Some (n, d) (m, c) e)

none_some : (m : ℕ) (c : Claim) → ◌≡◌ {A = Option (ℕ × Claim)} None (Some (m, c)) → ⊥
none_some m c e = cc

-- the claim in use of a function of this list, with its verdict
pub record IsUse (h : Hardware) (inner : List Kernel) (j : JudgedClaim) : Type 0 where
  pub there : slice_get inner j.function ≡ Some j.kernel
  pub in_use : claim_in_use j.kernel ≡ Some j.claim
  pub is : verdict_on h j.kernel (own j.kernel) j.claim ≡ j.verdict

all_push : {X : Type 0} (P : X → Type 0) (xs : List X) (x : X) → AllByRecursion P xs → P x → AllByRecursion P (xs ++ x ∷ [])
all_push P [] x h p = (p, tt)
all_push P (y ∷ ys) x h p = (h.0, all_push P ys x h.1 p)

get_there : {X : Type 0} (front : List X) (x : X) (rest : List X) (n : ℕ) → length front ≡ n → slice_get (front ++ x ∷ rest) n ≡ Some x
get_there [] x rest n e = subst (λ m. slice_get (x ∷ rest) m ≡ Some x) e refl
get_there (y ∷ ys) x rest n e = subst (λ m. slice_get (y ∷ ys ++ x ∷ rest) m ≡ Some x) e (get_there ys x rest (length ys) refl)

-- ---- the first function

module _ (h : Hardware) (f : ℕ) (k : Kernel) (js : List JudgedClaim) (next : List JudgedClaim → Result Called (Limit × Span)) (end : Called) where
  -- it has no claim in use, so the rest goes on
  abbrev Passes : Type 0
  Passes = (claim_in_use k ≡ None) × (next js ≡ Ok end)

  -- the verdict on its claim in use
  pub record IsFirst (j : JudgedClaim) : Type 0 where
    pub function : j.function ≡ f
    pub kernel : j.kernel ≡ k
    pub in_use : claim_in_use k ≡ Some j.claim
    pub is : verdict_on h k (own k) j.claim ≡ j.verdict

  -- which is accepted, so the rest goes on behind it
  abbrev GoesOn : Type 0
  GoesOn = (j : JudgedClaim) × IsFirst j × (is_accepted j.verdict ≡ true) × (next (js ++ j ∷ []) ≡ Ok end)

  -- or it fails
  abbrev EndsThere : Type 0
  EndsThere = (j : JudgedClaim) × IsFirst j × (is_accepted j.verdict ≡ false) × (end ≡ OneFails j)

  first_use : (callee_on h f k (in_use_from 1 k.claims) >>= λ c. after_callee js c next) ≡ Ok end → Passes ⊎ (GoesOn ⊎ EndsThere)
  first_use e = by_use (in_use_from 1 k.claims) refl e
    where
      by_verdict : (j : JudgedClaim) → IsFirst j → (b : Bool) → is_accepted j.verdict ≡ b → (if b then next (js ++ j ∷ []) else Ok (OneFails j)) ≡ Ok end → Passes ⊎ (GoesOn ⊎ EndsThere)
      by_verdict j first true t e = inr (inl (j, first, t, e))
      by_verdict j first false t e = inr (inr (j, first, t, let same : OneFails j ≡ end = cc in sym same))

      by_judgement : (n : ℕ) (d : Claim) (x : Result Verdict (Limit × Span)) → in_use_from 1 k.claims ≡ Some (n, d) → judgement h k (own k) d ≡ x
          → ((x >>= λ v. Ok (Some (record { function = f; kernel = k; number = n; claim = d; verdict = v }))) >>= λ c. after_callee js c next) ≡ Ok end → Passes ⊎ (GoesOn ⊎ EndsThere)
      by_judgement n d (Ok v) used is e =
          by_verdict (record { function = f; kernel = k; number = n; claim = d; verdict = v })
          (record { function = refl; kernel = refl; in_use = is_in_use 1 n k.claims d used; is = judgement_is h k (own k) d v is }) (is_accepted v) refl e
      by_judgement n d (Err limit) used is e = absurd (cc)

      none_used : in_use_from 1 k.claims ≡ None → (o : Option Claim) → claim_in_use k ≡ o → claim_in_use k ≡ None
      none_used used None e = e
      none_used used (Some c) e = absurd (let here = in_use_is 1 k.claims c e in none_some here.0 c (sym used ∙ here.1))

      by_use : (o : Option (ℕ × Claim)) → in_use_from 1 k.claims ≡ o → (callee_on h f k o >>= λ c. after_callee js c next) ≡ Ok end → Passes ⊎ (GoesOn ⊎ EndsThere)
      by_use None is e = inl (none_used is (claim_in_use k) refl, e)
      by_use (Some (n, d)) is e = by_judgement n d (judgement h k (own k) d) is refl e

-- ---- all functions

module _ (h : Hardware) (inner : List Kernel) where
  -- each is the claim in use of its function
  abbrev AreUses : Called → Type 0
  AreUses (AllAccepted js) = AllByRecursion (IsUse h inner) js
  AreUses (OneFails j) = IsUse h inner j × (is_accepted j.verdict ≡ false)

  use_of : (front : List Kernel) (k : Kernel) (ks : List Kernel) (f : ℕ) (j : JudgedClaim) → front ++ k ∷ ks ≡ inner → length front ≡ f → (j.function ≡ f) × (j.kernel ≡ k)
      → claim_in_use k ≡ Some j.claim → verdict_on h k (own k) j.claim ≡ j.verdict → IsUse h inner j
  use_of front k ks f j whole long at used is =
      let there : slice_get inner f ≡ Some k = subst (λ xs. slice_get xs f ≡ Some k) whole (get_there front k ks f long) in
      record {
        there = ap (slice_get inner) at.0 ∙ there ∙ ap Some (sym at.1);
        in_use = ap claim_in_use at.1 ∙ used;
        is = ap (λ g. verdict_on h g (own g) j.claim) at.1 ∙ is;
      }

  longer : (front : List Kernel) (k : Kernel) (f : ℕ) → length front ≡ f → length (front ++ k ∷ []) ≡ f + 1
  longer front k f e = length-append front (k ∷ []) ∙ ap (λ n. n + 1) e

  are_uses : (ks front : List Kernel) (f : ℕ) (js : List JudgedClaim) (end : Called) → front ++ ks ≡ inner → length front ≡ f → AllByRecursion (IsUse h inner) js
      → callees_after h f js ks ≡ Ok end → AreUses end
  are_uses [] front f js end whole long all e = let same : AllAccepted js ≡ end = cc in subst AreUses same all
  are_uses (k ∷ ks) front f js end whole long all e =
      by_first
      (λ more each e. are_uses ks (front ++ k ∷ []) (f + 1) more end (append_assoc front (k ∷ []) ks ∙ whole) (longer front k f long) each e)
      (first_use h f k js (λ more. callees_after h (f + 1) more ks) end e)
    where
      by_first : ((more : List JudgedClaim) → AllByRecursion (IsUse h inner) more → callees_after h (f + 1) more ks ≡ Ok end → AreUses end)
          → Passes h f k js (λ more. callees_after h (f + 1) more ks) end
          ⊎ (GoesOn h f k js (λ more. callees_after h (f + 1) more ks) end ⊎ EndsThere h f k js (λ more. callees_after h (f + 1) more ks) end) → AreUses end
      by_first on (inl p) = on js all p.1
      by_first on (inr (inl (j, first, accepted, e))) =
          on (js ++ j ∷ []) (all_push (IsUse h inner) js j all (use_of front k ks f j whole long (first.function, first.kernel) first.in_use first.is)) e
      by_first on (inr (inr (j, first, failing, e))) =
          subst AreUses (sym e) (use_of front k ks f j whole long (first.function, first.kernel) first.in_use first.is, failing)

-- all claims in use are accepted where none fails
all_accepted : (h : Hardware) (ks : List Kernel) (f : ℕ) (js all : List JudgedClaim) → callees_after h f js ks ≡ Ok (AllAccepted all)
    → (i : ℕ) (k : Kernel) (c : Claim) → slice_get ks i ≡ Some k → claim_in_use k ≡ Some c → IsAccepted h k (own k) c
all_accepted h [] f js all e i k c is found = absurd (none_there i is)
  where
    none_there : (i : ℕ) → slice_get [] i ≡ Some k → ⊥
    none_there i e = cc
all_accepted h (g ∷ gs) f js all e i k c is found =
    by_first (λ more rest n there. all_accepted h gs (f + 1) more all rest n k c there found) (first_use h f g js (λ more. callees_after h (f + 1) more gs) (AllAccepted all) e)
  where
    accepted_first : (j : JudgedClaim) → claim_in_use g ≡ Some j.claim → verdict_on h g (own g) j.claim ≡ j.verdict → is_accepted j.verdict ≡ true → claim_in_use g ≡ Some c → IsAccepted h g (own g) c
    accepted_first j used is accepted here =
        let same : j.claim ≡ c = same_Some j.claim c (sym used ∙ here) in
        let lo = accepted_lo j.verdict accepted in
        (lo.0, subst (λ d. verdict_on h g (own g) d ≡ Accepted lo.0) same (is ∙ lo.1))

    no_claim : ◌≡◌ {A = Option Claim} None (Some c) → ⊥
    no_claim e = cc

    no_fail : (j : JudgedClaim) → AllAccepted all ≡ OneFails j → ⊥
    no_fail j e = cc

    by_place : (n : ℕ) → slice_get (g ∷ gs) n ≡ Some k → (claim_in_use g ≡ Some c → IsAccepted h g (own g) c) → ((m : ℕ) → slice_get gs m ≡ Some k → IsAccepted h k (own k) c) → IsAccepted h k (own k) c
    by_place zero there first rest = let same : g ≡ k = cc in subst (λ x. claim_in_use x ≡ Some c → IsAccepted h x (own x) c) same first found
    by_place (suc n) there first rest = rest n there

    by_first : ((more : List JudgedClaim) → callees_after h (f + 1) more gs ≡ Ok (AllAccepted all) → (n : ℕ) → slice_get gs n ≡ Some k → IsAccepted h k (own k) c)
        → Passes h f g js (λ more. callees_after h (f + 1) more gs) (AllAccepted all)
        ⊎ (GoesOn h f g js (λ more. callees_after h (f + 1) more gs) (AllAccepted all) ⊎ EndsThere h f g js (λ more. callees_after h (f + 1) more gs) (AllAccepted all)) → IsAccepted h k (own k) c
    by_first on (inl p) = by_place i is (λ here. absurd (no_claim (sym p.0 ∙ here))) (on js p.1)
    by_first on (inr (inl (j, first, accepted, e))) = by_place i is (accepted_first j first.in_use first.is accepted) (on (js ++ j ∷ []) e)
    by_first on (inr (inr (j, first, failing, e))) = absurd (no_fail j e)

pub callees_accepted : CalleesAccepted
callees_accepted h l js e = all_accepted h l.inner 0 [] js e

uses_of : (h : Hardware) (l : Linked) (end : Called) → callees_of h l.inner ≡ Ok end → AreUses h l.inner end
uses_of h l end e = are_uses h l.inner l.inner [] 0 [] end refl refl tt e

-- what holds of each holds of all
each_of : {X : Type 0} (P Q : X → Type 0) (xs : List X) → ((x : X) → P x → Q x) → AllByRecursion P xs → AllByRecursion Q xs
each_of P Q [] leads h = tt
each_of P Q (x ∷ xs) leads h = (leads x h.0, each_of P Q xs leads h.1)

pub reached_hold : ReachedHold
reached_hold h l t js hardware linked e =
    each_of (IsUse h l.inner) (KeepsUnder h l t) js
    (λ j used lo is. each_reached_holds h l t hardware linked (callees_accepted h l js e) j.function j.kernel j.claim used.there used.in_use) (uses_of h l (AllAccepted js) e)

-- ---- the claims of the function

-- a claim of the function, with its verdict
pub record IsOwn (h : Hardware) (f : ℕ) (k : Kernel) (j : JudgedClaim) : Type 0 where
  pub function : j.function ≡ f
  pub kernel : j.kernel ≡ k
  pub is : verdict_on h k (own k) j.claim ≡ j.verdict

own_are : (h : Hardware) (f : ℕ) (k : Kernel) (cs : List Claim) (js all : List JudgedClaim) → AllByRecursion (IsOwn h f k) js → own_after h f k js cs ≡ Ok all → AllByRecursion (IsOwn h f k) all
own_are h f k [] js all each e = let same : js ≡ all = cc in subst (AllByRecursion (IsOwn h f k)) same each
own_are h f k (c ∷ cs) js all each e = by_judgement (λ more here rest. own_are h f k cs more all here rest) (judgement h k (own k) c) refl e
  where
    by_judgement : ((more : List JudgedClaim) → AllByRecursion (IsOwn h f k) more → own_after h f k more cs ≡ Ok all → AllByRecursion (IsOwn h f k) all)
        → (x : Result Verdict (Limit × Span)) → judgement h k (own k) c ≡ x
        → (x >>= λ v. own_after h f k (js ++ record { function = f; kernel = k; number = length js + 1; claim = c; verdict = v } ∷ []) cs) ≡ Ok all → AllByRecursion (IsOwn h f k) all
    by_judgement on (Ok v) is e =
        on (js ++ record { function = f; kernel = k; number = length js + 1; claim = c; verdict = v } ∷ [])
        (all_push (IsOwn h f k) js (record { function = f; kernel = k; number = length js + 1; claim = c; verdict = v }) each (record { function = refl; kernel = refl; is = judgement_is h k (own k) c v is })) e
    by_judgement on (Err limit) is e = absurd (cc)

pub function_holds : FunctionHolds
function_holds h l js all hardware linked called e =
    each_of (IsOwn h (main l) l.kernel) (Keeps h l) all
    (λ j is lo accepted. holds j is (accepted_holds h l (own l.kernel) j.claim hardware linked (callees_accepted h l js called) (lo, is.is ∙ accepted)))
    (own_are h (main l) l.kernel l.kernel.claims [] all tt e)
  where
    holds : (j : JudgedClaim) → IsOwn h (main l) l.kernel j → HoldsUnder h l (own l.kernel) (record { function = main l; kernel = l.kernel; number = j.number; claim = j.claim; verdict = j.verdict }) → HoldsUnder h l (own l.kernel) j
    holds j is h = rw (is.function, is.kernel) h

-- ---- nearness

-- what holds of each member holds of all
each_member : (P : Conj → Type 0) (cs : List Conj) → ((c : Conj) → In c cs → P c) → AllByRecursion P cs
each_member P [] h = tt
each_member P (c ∷ cs) h = (h c (inl refl), each_member P cs (λ d m. h d (inr m)))

-- the enclosure of a claim of a valid kernel
near_of : (h : Hardware) (k : Kernel) (j : JudgedClaim) → IsHardware h → IsValid k → j.kernel ≡ k → verdict_on h k (own k) j.claim ≡ j.verdict → IsNearly h j
near_of h k j hardware valid same is =
    let counted : AreCounted k (top (paths_of k j.claim.target)) =
    All-from_recursion (λ (d : Conj). length d.counts ≡ labels_of k) (top (paths_of k j.claim.target))
    (each_member (λ d. length d.counts ≡ labels_of k) (top (paths_of k j.claim.target)) (λ d m. top_paths_long k j.claim.target d m)) in
    rw same (judged_near h k (own k) j.claim (top (paths_of k j.claim.target)) j.verdict hardware valid counted (sym is))

main_valid : (l : Linked) → IsLinked l → IsValid l.kernel
main_valid l linked = linked.valid (length l.inner) l.kernel (get_last l.inner l.kernel (length l.inner) refl)

-- one of the front is one of the whole
in_front : {X : Type 0} (xs ys : List X) (i : ℕ) (x : X) → slice_get xs i ≡ Some x → slice_get (xs ++ ys) i ≡ Some x
in_front [] ys i x e = absurd (cc)
in_front (z ∷ xs) ys zero x e = e
in_front (z ∷ xs) ys (suc i) x e = in_front xs ys i x e

use_near : (h : Hardware) (l : Linked) (j : JudgedClaim) → IsHardware h → IsLinked l → IsUse h l.inner j → IsNearly h j
use_near h l j hardware linked used = near_of h j.kernel j hardware (linked.valid j.function j.kernel (in_front l.inner (l.kernel ∷ []) j.function j.kernel used.there)) refl used.is

pub each_near : JudgedNear
each_near = record {
  function = λ h l all hardware linked e.
      each_of (IsOwn h (main l) l.kernel) (IsNearly h) all (λ j is. near_of h l.kernel j hardware (main_valid l linked) is.kernel is.is) (own_are h (main l) l.kernel l.kernel.claims [] all tt e);
  callees = λ h l js hardware linked e. each_of (IsUse h l.inner) (IsNearly h) js (λ j used. use_near h l j hardware linked used) (uses_of h l (AllAccepted js) e);
  failing = λ h l j hardware linked e. use_near h l j hardware linked (uses_of h l (OneFails j) e).0;
}

pub fails_unaccepted : FailsUnaccepted
fails_unaccepted h l j lo e is = absurd (both (is_accepted j.verdict) (ap is_accepted is) (uses_of h l (OneFails j) e).1)
  where
    both : (b : Bool) → b ≡ true → b ≡ false → ⊥
    both true p q = cc
    both false p q = cc
