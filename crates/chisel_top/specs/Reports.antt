-- What `verify` says of a source in which a choice is named.
use Rattle.std.specs.Prelude.{◌≡◌, ℕ, ◌≤◌, Bool, false, List, [], length, map, flat_map, None, Ok, if◌then◌else◌}
use Rattle.std.specs.List.{AllByRecursion, list_any, range_with_len}
use Rattle.rely_num.specs.Texts.{Bytes}
use Rattle.rely_hard.specs.Valid.{IsHardware}
use Rattle.rely_hard.specs.declared.hardware.Hardware.{Hardware}
use Rattle.rely_kernel.specs.Choice.{setting_of}
use Rattle.rely_kernel.specs.Setting.{IsClosed}
use Rattle.rely_kernel.specs.declared.kernel.Linked.{Linked}
use Rattle.rely_tree.specs.Tree.{UnitTree}
use Rattle.rely_resolve.specs.Linked.{linked_of}
use Rattle.chisel_claims.specs.Needs.{first_limit}
use Rattle.chisel_claims.specs.Verdicts.{AllAccepted, JudgedClaim, callees_of, is_failing, verdict_on}
use Rattle.chisel_problem.specs.Least.{IsAllowed, NamesNeedsAlone}
use Rattle.chisel_source.specs.Meaning.{unit_in}
use Rattle.chisel_source.specs.declared.ready.Ready.{Ready}
use Rattle.chisel_rewrite.specs.Texts.{rewritten}
use Rattle.chisel_rewritten_source.specs.Trees.{by_choice, renamed_unit}
use Rattle.chisel_verify.specs.Answer.{asked}
use Rattle.chisel_verify.specs.Lines.{Said, callee_text, lines_of, verdicts_of}
use Rattle.chisel_verify.specs.Promises.{IsInput}

-- the rewritten source, beside what it means
abbrev pub ready_again : Bytes → Hardware → Linked → List ℕ → Linked → Ready
ready_again text h l choice other = record { text = rewritten text l.kernel h choice; hardware = h; linked = other }

-- The rewritten source is read, and means functions of which no place is open. No walk through them reaches a limit. The lines of
-- the functions that are called are those of before. The function's claims have, in their order, the verdicts of the choice, and
-- none of them is a `needs` or a `below`.
pub record IsReported (text : Bytes) (u : UnitTree) (h : Hardware) (name : Bytes) (l : Linked) (choice : List ℕ) (calls : List JudgedClaim) (wanted : Bool) : Type 0 where
  pub unit : unit_in (rewritten text l.kernel h choice) ≡ Ok (renamed_unit (by_choice h l choice) u)
  pub other : Linked
  pub means : linked_of (renamed_unit (by_choice h l choice) u) name h ≡ Ok other
  pub input : IsInput (asked (ready_again text h l choice other) wanted)
  pub lines : Said
  pub answer : lines_of (ready_again text h l choice other) wanted ≡ Ok lines
  pub callees : flat_map (callee_text (rewritten text l.kernel h choice)) lines.callees ≡ flat_map (callee_text text) (if wanted then calls else [])
  pub numbers : map (λ j. j.number) lines.own ≡ range_with_len 1 (length l.kernel.claims)
  pub claims : map (λ j. j.claim) lines.own ≡ l.kernel.claims
  pub verdicts : map (λ j. j.verdict) lines.own ≡ map (verdict_on h l.kernel (setting_of l.kernel choice)) l.kernel.claims
  pub deciding : lines.deciding ≡ lines.own
  pub none_fails : list_any is_failing (verdicts_of lines) ≡ false

-- so it is where the choice is allowed, the claims of the functions that are called are accepted, and the source had no line of a
-- `needs` or of a limit
abbrev pub ReportedAsChosen : Type 0
ReportedAsChosen =
    (text : Bytes) (u : UnitTree) (h : Hardware) (name : Bytes) (l : Linked) (choice : List ℕ) (calls : List JudgedClaim) (wanted : Bool)
    → IsHardware h → unit_in text ≡ Ok u → linked_of u name h ≡ Ok l → AllByRecursion IsClosed l.inner
    → NamesNeedsAlone l.kernel → IsAllowed h l.kernel choice → first_limit l.kernel l.kernel.claims ≡ None → callees_of h l.inner ≡ Ok (AllAccepted calls)
    → length (rewritten text l.kernel h choice) ≤ 65536 → IsReported text u h name l choice calls wanted
