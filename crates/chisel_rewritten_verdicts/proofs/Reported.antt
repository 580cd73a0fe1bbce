-- What is said of all claims once a choice is named.
use Rattle.std.proofs.Common.{◌≡◌, ℕ, ◌+◌, ◌≤◌, Bool, true, false, cond, List, [], ◌∷◌, ◌++◌, map, length, Option, Some, None, Ok, Err, refl, ap, sym, ◌∙◌, subst, arith, length-append}
use Rattle.std.specs.Prelude.{IsTrue, Result}
use Rattle.std.specs.List.{AllByRecursion, AllZip, range_with_len}
use Rattle.std.specs.Option.{option_or}
use Rattle.std.proofs.lemmas.List.{append-nil, append_assoc}
use Rattle.rely_num.specs.declared.span.Span.{Span}
use Rattle.rely_hard.specs.declared.hardware.Hardware.{Hardware}
use Rattle.rely_kernel.specs.Choice.{setting_of}
use Rattle.rely_kernel.specs.Machine.{main}
use Rattle.rely_kernel.specs.Paths.{paths_of}
use Rattle.rely_kernel.specs.Rates.{own}
use Rattle.rely_num.specs.Bounds.{S}
use Rattle.rely_num.specs.Sets.{is_within}
use Rattle.rely_kernel.specs.declared.kernel.Claim.{Claim}
use Rattle.rely_kernel.specs.declared.kernel.Kernel.{Kernel}
use Rattle.rely_kernel.specs.declared.setting.Setting.{Setting}
use Rattle.rely_precond.specs.Walk.{Limit, walk_claim}
use Rattle.rely_predicate.specs.Top.{top}
use Rattle.rely_verdict.specs.declared.verdict.Verdict.{Verdict}
use Rattle.rely_verdict.proofs.Counted.{top_long}
use Rattle.chisel_claims.specs.Needs.{first_limit}
use Rattle.chisel_claims.specs.Verdicts.{AllAccepted, Called, callees_of, JudgedClaim, OneFails, after_callee, callee_on, callees_after, in_use_from, is_accepted, is_failing, judgement, limit_of, own_after, unless_limited, verdict_on, ◌>>=◌}
use Rattle.chisel_problem.specs.Promises.{StaysWithin}
use Rattle.chisel_problem.proofs.Bounds.{all_suffice, main_valid}
use Rattle.chisel_rewrite.proofs.Zips.{zip_append}
use Rattle.chisel_rewrite.specs.Alike.{IsLike, IsSetBy}
use Rattle.chisel_rewritten_verdicts.specs.Reports.{AllowedNeverFails, AreCalledBy, CalledAlike, CalleesAsBefore, IsJudgedBy, OwnAsChosen}
use Rattle.chisel_rewritten_verdicts.proofs.SameJudgements.{judgement_by, same_judgements}
use Rattle.chisel_rewritten_verdicts.proofs.SameVerdicts.{met_never_fails, own_like}

-- ---- the function's own claims

-- no limit is the first of two where neither is there
neither : {X : Type 0} (a b : Option X) → option_or a b ≡ None → (a ≡ None) × (b ≡ None)
neither None b e = (refl, e)
neither (Some x) b e = absurd (cc)

module _ (h : Hardware) (f : ℕ) (t : Setting) (k other : Kernel) (is : IsSetBy t k other) where
  -- the claims behind those that are judged so far
  record Judges (js : List JudgedClaim) (cs : List Claim) : Type 0 where
    more : List JudgedClaim
    answer : own_after h f other js cs ≡ Ok (js ++ more)
    numbers : map (λ j. j.number) more ≡ range_with_len (length js + 1) (length cs)
    claims : map (λ j. j.claim) more ≡ cs
    verdicts : map (λ j. j.verdict) more ≡ map (verdict_on h k t) cs

  judges : (js : List JudgedClaim) (cs : List Claim) → first_limit k cs ≡ None → Judges js cs
  judges js [] none = record { more = []; answer = ap (λ l. Ok l) (sym (append-nil js)); numbers = refl; claims = refl; verdicts = refl }
  judges js (c ∷ cs) none =
      let limits = neither (limit_of (walk_claim k c.target)) (first_limit k cs) none in
      let v = verdict_on h k t c in
      let j : JudgedClaim = record { function = f; kernel = other; number = length js + 1; claim = c; verdict = v } in
      let judged : judgement h other (own other) c ≡ Ok v = same_judgements h t k other c v is (ap (λ limit. unless_limited limit v) limits.0) in
      let rest = judges (js ++ j ∷ []) cs limits.1 in
      let longer : length (js ++ j ∷ []) ≡ length js + 1 = length-append js (j ∷ []) in
      record {
        more = j ∷ rest.more;
        answer = ap (λ x. x >>= λ v. own_after h f other (js ++ record { function = f; kernel = other; number = length js + 1; claim = c; verdict = v } ∷ []) cs) judged
            ∙ (rest.answer ∙ ap (λ l. Ok l) (append_assoc js (j ∷ []) rest.more));
        numbers = ap (λ l. (length js + 1) ∷ l) (rest.numbers ∙ ap (λ n. range_with_len n (length cs)) (omega (arith, longer)));
        claims = ap (λ l. c ∷ l) rest.claims;
        verdicts = ap (λ l. v ∷ l) rest.verdicts;
      }

pub own_as_chosen : OwnAsChosen
own_as_chosen h l choice other named none =
    let t = setting_of l.kernel choice in
    let all = judges h (main other) t l.kernel other.kernel named.kernel [] l.kernel.claims none in
    record {
      judged = all.more;
      answer = ap (own_after h (main other) other.kernel []) named.kernel.claims ∙ all.answer;
      numbers = all.numbers;
      claims = all.claims;
      verdicts = all.verdicts;
    }

-- ---- no verdict that fails

pub allowed_never_fails : AllowedNeverFails
allowed_never_fails h l choice hard linked needs allowed =
    each l.kernel.claims (main_valid l linked).bounds needs allowed.keeps
  where
    each : (claims : List Claim) → AllByRecursion (λ c. c.bound ≤ S) claims
        → AllByRecursion (λ claim. AllByRecursion (λ c. IsTrue (is_within c.vars.bits claim.needs.bits)) (top (paths_of l.kernel claim.target))) claims
        → AllByRecursion (λ claim. AllByRecursion (StaysWithin h l.kernel (setting_of l.kernel choice) claim) (top (paths_of l.kernel claim.target))) claims
        → AllByRecursion (λ claim. is_failing (verdict_on h l.kernel (setting_of l.kernel choice) claim) ≡ false) claims
    each [] small needs stays = tt
    each (claim ∷ claims) small needs stays = (
      met_never_fails h l.kernel (setting_of l.kernel choice) claim hard (main_valid l linked)
          (all_suffice h hard l.kernel (setting_of l.kernel choice) claim small.0 (top (paths_of l.kernel claim.target)) (top_long l.kernel claim.target) needs.0 stays.0),
      each claims small.1 needs.1 stays.1,
    )

-- ---- the functions that are reached

-- an answer that is alike
record Comes (R : Kernel → Kernel → Type 0) (called : Called) (answer : Result Called (Limit × Span)) : Type 0 where
  end : Called
  is : answer ≡ Ok end
  alike : AreCalledBy R called end

module _ (R : Kernel → Kernel → Type 0) (alike : (k other : Kernel) → R k other → IsLike k other) (h : Hardware) (called : Called) where
  -- the rest of the functions, alike behind claims that are alike
  abbrev Rests : (List JudgedClaim → Result Called (Limit × Span)) → (List JudgedClaim → Result Called (Limit × Span)) → Type 0
  Rests f g = (js others : List JudgedClaim) → AllZip (IsJudgedBy R) js others → f js ≡ Ok called → Comes R called (g others)

  same_Ok : (c d : Called) → (let r : Result Called (Limit × Span) = Ok c in r) ≡ Ok d → c ≡ d
  same_Ok c d e = ap (λ (r : Result Called (Limit × Span)). got r) e
    where
      got : Result Called (Limit × Span) → Called
      got (Ok x) = x
      got (Err limit) = c

  module _ (f : ℕ) (k other : Kernel) (like : R k other) (next then_next : List JudgedClaim → Result Called (Limit × Span)) (rest : Rests next then_next) where
    abbrev judged : Kernel → ℕ × Claim → Verdict → JudgedClaim
    judged shown n v = record { function = f; kernel = shown; number = n.0; claim = n.1; verdict = v }

    accepted : (b : Bool) (n : ℕ × Claim) (v : Verdict) (js others : List JudgedClaim) → AllZip (IsJudgedBy R) js others
        → cond b (next (js ++ judged k n v ∷ [])) (Ok (OneFails (judged k n v))) ≡ Ok called
        → Comes R called (cond b (then_next (others ++ judged other n v ∷ [])) (Ok (OneFails (judged other n v))))
    accepted true n v js others all e =
        let one : (IsJudgedBy R) (judged k n v) (judged other n v) = record { function = refl; kernel = like; number = refl; claim = refl; verdict = refl } in
        rest (js ++ judged k n v ∷ []) (others ++ judged other n v ∷ []) (zip_append (IsJudgedBy R) js others (judged k n v) (judged other n v) all one) e
    accepted false n v js others all e =
        let one : (IsJudgedBy R) (judged k n v) (judged other n v) = record { function = refl; kernel = like; number = refl; claim = refl; verdict = refl } in
        record { end = OneFails (judged other n v); is = refl; alike = subst (λ c. AreCalledBy R c (OneFails (judged other n v))) (same_Ok (OneFails (judged k n v)) called e) one }

    by_verdict : (n : ℕ × Claim) (r : Result Verdict (Limit × Span)) → judgement h k (own k) n.1 ≡ r → (js others : List JudgedClaim) → AllZip (IsJudgedBy R) js others
        → ((r >>= λ v. Ok (Some (judged k n v))) >>= λ c. after_callee js c next) ≡ Ok called
        → Comes R called (callee_on h f other (Some n) >>= λ c. after_callee others c then_next)
    by_verdict n (Ok v) is js others all e =
        let found = accepted (is_accepted v) n v js others all e in
        let same : judgement h other (own other) n.1 ≡ Ok v =
        judgement_by h (own k) (map (λ s. s.kind) k.sites) (map (λ v. v.memory) k.vars) k other (alike k other like) (own_like k other (alike k other like)) n.1 v is in
        record { end = found.end; is = ap (λ x. (x >>= λ v. Ok (Some (judged other n v))) >>= λ c. after_callee others c then_next) same ∙ found.is; alike = found.alike }
    by_verdict n (Err limit) is js others all e = absurd (cc)

    by_claim : (o : Option (ℕ × Claim)) (js others : List JudgedClaim) → AllZip (IsJudgedBy R) js others → (callee_on h f k o >>= λ c. after_callee js c next) ≡ Ok called
        → Comes R called (callee_on h f other o >>= λ c. after_callee others c then_next)
    by_claim None js others all e = rest js others all e
    by_claim (Some n) js others all e = by_verdict n (judgement h k (own k) n.1) refl js others all e

  all_alike : (f : ℕ) (ks others : List Kernel) → AllZip R ks others → Rests (λ js. callees_after h f js ks) (λ js. callees_after h f js others)
  all_alike f [] [] both js more all e = record { end = AllAccepted more; is = refl; alike = subst (λ c. AreCalledBy R c (AllAccepted more)) (same_Ok (AllAccepted js) called e) all }
  all_alike f [] (other ∷ others) both js more all e = absurd both
  all_alike f (k ∷ ks) [] both js more all e = absurd both
  all_alike f (k ∷ ks) (other ∷ others) both js more all e =
      let found = by_claim f k other both.0 (λ js. callees_after h (f + 1) js ks) (λ js. callees_after h (f + 1) js others) (all_alike (f + 1) ks others both.1) (in_use_from 1 k.claims) js more all e in
      record {
        end = found.end;
        is = ap (λ cs. callee_on h f other (in_use_from 1 cs) >>= λ c. after_callee more c (λ js. callees_after h (f + 1) js others)) (alike k other both.0).claims ∙ found.is;
        alike = found.alike;
      }

-- so it is for related functions, where the relation implies that they are the same, spans aside
pub callees_by : (R : Kernel → Kernel → Type 0) → ((k other : Kernel) → R k other → IsLike k other) → (h : Hardware) (ks others : List Kernel) (called : Called) → AllZip R ks others
    → callees_of h ks ≡ Ok called → CalledAlike R h called others
callees_by R alike h ks others called both e =
    let found = all_alike R alike h called 0 ks others both [] [] tt e in
    record { end = found.end; answer = found.is; alike = found.alike }

pub callees_as_before : CalleesAsBefore
callees_as_before h ks others called both e = callees_by IsLike (λ k other like. like) h ks others called both e
