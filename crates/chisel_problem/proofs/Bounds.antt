-- What keeps the budgets keeps every claim's bound.
use Rattle.std.proofs.Common.{◌≡◌, ◌≤◌, List, [], ◌∷◌, length, refl, sym, ◌∙◌, arith}
use Rattle.std.specs.Prelude.{IsTrue}
use Rattle.std.specs.List.{AllByRecursion}
use Rattle.rely_num.specs.Bounds.{S}
use Rattle.rely_num.specs.Sets.{is_within}
use Rattle.rely_num.specs.declared.conj.Conj.{Conj}
use Rattle.rely_hard.specs.declared.hardware.Hardware.{Hardware}
use Rattle.rely_hard.specs.Valid.{IsHardware}
use Rattle.rely_kernel.specs.declared.kernel.Claim.{Claim}
use Rattle.rely_kernel.specs.declared.kernel.Kernel.{Kernel}
use Rattle.rely_kernel.specs.declared.kernel.Linked.{Linked}
use Rattle.rely_kernel.specs.declared.setting.Setting.{Setting}
use Rattle.rely_kernel.specs.Bound.{BoundHolds}
use Rattle.rely_kernel.specs.Labels.{labels_of}
use Rattle.rely_kernel.specs.Machine.{functions, main}
use Rattle.rely_kernel.specs.Paths.{paths_of}
use Rattle.rely_kernel.specs.Rates.{rate, rates, settings}
use Rattle.rely_kernel.specs.Sound.{CalleesHold, Suffices}
use Rattle.rely_kernel.specs.Valid.{IsLinked, IsValid}
use Rattle.rely_kernel.proofs.Tally.{rates_long}
use Rattle.rely_predicate.specs.Top.{top}
use Rattle.rely_verdict.specs.Soundness.{Vouches}
use Rattle.rely_verdict.proofs.AllAccepted.{get_last, vouched_at_main}
use Rattle.rely_verdict.proofs.Counted.{top_long}
use Rattle.rely_verdict.proofs.TopLaw.{bound_by_products}
use Rattle.chisel_debit.proofs.BudgetLaws.{budgets_keep}
use Rattle.chisel_problem.specs.Least.{BudgetsKeepClaims}
use Rattle.chisel_problem.specs.Promises.{StaysWithin}

-- the function that runs is valid
pub main_valid : (l : Linked) → IsLinked l → IsValid l.kernel
main_valid l linked = linked.valid (main l) l.kernel (get_last l.inner l.kernel (main l) refl)

module _ (h : Hardware) (hardware : IsHardware h) (k : Kernel) (t : Setting) where
  abbrev NeedsAlone : Claim → List Conj → Type 0
  NeedsAlone claim cs = AllByRecursion (λ c. IsTrue (is_within c.vars.bits claim.needs.bits)) cs

  -- conjuncts within the needs and the budget are enough for the bound
  pub all_suffice : (claim : Claim) → claim.bound ≤ S → (cs : List Conj) → AllByRecursion (λ c. length c.counts ≡ labels_of k) cs
      → NeedsAlone claim cs → AllByRecursion (StaysWithin h k t claim) cs → AllByRecursion (Suffices (rates h k t) claim) cs
  all_suffice claim small [] counted needs stays = tt
  all_suffice claim small (c ∷ cs) counted needs stays = (
    (needs.0, budgets_keep h.base claim.bound (rates h k t) c.counts (let m = hardware.most in omega arith) small (rates_long h k t ∙ sym counted.0) stays.0),
    all_suffice claim small cs counted.1 needs.1 stays.1,
  )

  -- claim by claim
  all_vouched : (claims : List Claim) → AllByRecursion (λ c. c.bound ≤ S) claims
      → AllByRecursion (λ claim. NeedsAlone claim (top (paths_of k claim.target))) claims
      → AllByRecursion (λ claim. AllByRecursion (StaysWithin h k t claim) (top (paths_of k claim.target))) claims
      → AllByRecursion (Vouches h k t) claims
  all_vouched [] small needs stays = tt
  all_vouched (claim ∷ claims) small needs stays = (
    bound_by_products h k t claim hardware
        (all_suffice claim small.0 (top (paths_of k claim.target)) (top_long k claim.target) needs.0 stays.0),
    all_vouched claims small.1 needs.1 stays.1,
  )

module _ (h : Hardware) (l : Linked) (linked : IsLinked l) (t : Setting) where
  -- what vouches for a claim vouches for it here
  vouched_hold : (claims : List Claim) → AllByRecursion (Vouches h l.kernel t) claims
      → CalleesHold (functions l) (rate h (functions l) (settings l t)) l.kernel
      → AllByRecursion (BoundHolds (functions l) (rate h (functions l) (settings l t)) l.kernel (main l)) claims
  vouched_hold [] vouched callees = tt
  vouched_hold (c ∷ cs) vouched callees = (vouched_at_main h l t c linked vouched.0 callees, vouched_hold cs vouched.1 callees)

pub budgets_keep_claims : BudgetsKeepClaims
budgets_keep_claims h l t hardware linked needs stays callees =
    vouched_hold h l linked t l.kernel.claims (all_vouched h hardware l.kernel t l.kernel.claims (main_valid l linked).bounds needs stays) callees
