-- The lines, claim by claim.
use Rattle.std.proofs.Common.{◌≡◌, ℕ, suc, ◌+◌, ◌<◌, Bool, true, false, List, [], ◌∷◌, ◌++◌, drop, get_or, length, map, None, Some, Option, Ok, refl, sym, ap, subst, ◌∙◌, append_assoc, append-nil, length-append}
use Rattle.std.specs.Prelude.{flat_map, if◌then◌else◌}
use Rattle.std.specs.List.{AllByRecursion}
use Rattle.std.proofs.lemmas.List.{drop_more, map-append}
use Rattle.rely_num.specs.Texts.{Bytes}
use Rattle.rely_hard.specs.declared.hardware.Hardware.{Hardware}
use Rattle.rely_kernel.specs.Machine.{main}
use Rattle.rely_kernel.specs.Rates.{own}
use Rattle.rely_kernel.specs.declared.kernel.Claim.{Claim}
use Rattle.rely_kernel.specs.declared.kernel.Kernel.{Kernel}
use Rattle.rely_kernel.specs.declared.kernel.Linked.{Linked}
use Rattle.rely_kernel.specs.declared.setting.Setting.{Setting}
use Rattle.rely_precond.specs.declared.fault.PreFault.{PreFault}
use Rattle.rely_verdict.specs.declared.verdict.Verdict.{Verdict}
use Rattle.chisel_claims.proofs.Claiming.{limited_behind, limited_then}
use Rattle.chisel_claims.specs.Verdicts.{AllAccepted, Called, IsLimited, JudgedClaim, OneFails, after_callee, callee_on, callees_after, callees_of, in_use_from, is_accepted, judgement, own_after, own_judged, ◌>>=◌}
use Rattle.chisel_lines.specs.ClaimLines.{line_on}
use Rattle.chisel_source.specs.declared.ready.Ready.{Ready}
use Rattle.chisel_verify.specs.Lines.{behind_callees, callee_text, lines_of, own_text}
use Rattle.chisel_verify.specs.Printing.{AreCalleeLines, Prints, PrintsCallees, PrintsOwn}
use Rattle.chisel_verify.specs.declared.callees.CalleeLines.{CalleeLines}
use Rattle.chisel_verify.specs.declared.callees.CalleeLines.TheVariants as lines
use Rattle.chisel_verify.specs.declared.printed.Printed.{Printed}

-- ---- texts

-- the text of one more
pub flat_more : {X : Type 0} (f : X → Bytes) (xs : List X) (x : X) → flat_map f xs ++ f x ≡ flat_map f (xs ++ x ∷ [])
flat_more f [] x = sym (append-nil (f x))
flat_more f (y ∷ ys) x = append_assoc (f y) (flat_map f ys) (f x) ∙ ap (λ r. f y ++ r) (flat_more f ys x)

length_verdicts : (js : List JudgedClaim) → length (map (λ j. j.verdict) js) ≡ length js
length_verdicts [] = refl
length_verdicts (j ∷ js) = ap suc (length_verdicts js)

longer : (js : List JudgedClaim) (j : JudgedClaim) → length (js ++ j ∷ []) ≡ length js + 1
longer js j = length-append js (j ∷ [])

-- what is no one thing is nothing
pub none_of : {X : Type 0} (o : Option X) → ((x : X) → o ≡ Some x → ⊥) → o ≡ None
none_of None not = refl
none_of (Some x) not = absurd (not x refl)

-- ---- the claims of the function

-- a claim of the function, behind those so far
abbrev pub next_claim : Linked → List JudgedClaim → Claim → Verdict → JudgedClaim
next_claim l js c v = record { function = main l; kernel = l.kernel; number = length js + 1; claim = c; verdict = v }

module _ (h : Hardware) (l : Linked) (ds : List Claim) (i : ℕ) (d c : Claim) (t : Setting) (js : List JudgedClaim) (own_is : t ≡ own l.kernel) (list : ds ≡ l.kernel.claims) (within : i < length ds)
    (is : c ≡ get_or ds i d) (same : own_judged h l ≡ own_after h (main l) l.kernel js (drop i l.kernel.claims)) where
  step : own_judged h l ≡ (judgement h l.kernel t c >>= λ v. own_after h (main l) l.kernel (js ++ next_claim l js c v ∷ []) (drop (i + 1) l.kernel.claims))
  step =
      let there : c ≡ get_or l.kernel.claims i d = is ∙ ap (λ xs. get_or xs i d) list in
      let here : i < length l.kernel.claims = subst (λ xs. i < length xs) list within in
      same ∙ ap (own_after h (main l) l.kernel js) (drop_more l.kernel.claims i d here)
      ∙ ap (λ x. own_after h (main l) l.kernel js (x ∷ drop (i + 1) l.kernel.claims)) (sym there)
      ∙ ap (λ s. judgement h l.kernel s c >>= λ v. own_after h (main l) l.kernel (js ++ next_claim l js c v ∷ []) (drop (i + 1) l.kernel.claims)) (sym own_is)

  pub own_stops : (f : PreFault) → IsLimited (judgement h l.kernel t c) f → IsLimited (own_judged h l) f
  own_stops f e = limited_behind (own_judged h l) _ f step (limited_then (judgement h l.kernel t c) _ f e)

  pub own_more : (v : Verdict) → judgement h l.kernel t c ≡ Ok v → own_judged h l ≡ own_after h (main l) l.kernel (js ++ next_claim l js c v ∷ []) (drop (i + 1) l.kernel.claims)
  own_more v e = step ∙ ap (λ x. x >>= λ v. own_after h (main l) l.kernel (js ++ next_claim l js c v ∷ []) (drop (i + 1) l.kernel.claims)) e

  pub own_counted : (v : Verdict) → length js ≡ i → length (js ++ next_claim l js c v ∷ []) ≡ i + 1
  own_counted v e = longer js (next_claim l js c v) ∙ ap (λ n. n + 1) e

  pub own_line : (v : Verdict) (text line : Bytes) (verdicts : List Verdict) (n : ℕ) → text ≡ flat_map own_text js → verdicts ≡ map (λ j. j.verdict) js → n ≡ length verdicts → line ≡ line_on l.kernel (n + 1) c v
      → text ++ line ≡ flat_map own_text (js ++ next_claim l js c v ∷ [])
  own_line v text line verdicts n so_far told count written =
      let number : n ≡ length js = count ∙ ap length told ∙ length_verdicts js in
      ap (λ a. a ++ line) so_far ∙ ap (λ a. flat_map own_text js ++ a) (written ∙ ap (λ m. line_on l.kernel (m + 1) c v) number) ∙ flat_more own_text js (next_claim l js c v)

  pub own_verdict : (v : Verdict) (verdicts : List Verdict) → verdicts ≡ map (λ j. j.verdict) js → verdicts ++ v ∷ [] ≡ map (λ j. j.verdict) (js ++ next_claim l js c v ∷ [])
  own_verdict v verdicts told = ap (λ vs. vs ++ v ∷ []) told ∙ sym (map-append (λ (j : JudgedClaim). j.verdict) js (next_claim l js c v ∷ []))

-- ---- the functions that are reached

module _ (h : Hardware) (ks : List Kernel) (i : ℕ) (d k : Kernel) (js : List JudgedClaim) (within : i < length ks) (is : k ≡ get_or ks i d) (same : callees_of h ks ≡ callees_after h i js (drop i ks)) where
  drops : drop i ks ≡ k ∷ drop (i + 1) ks
  drops = drop_more ks i d within ∙ ap (λ x. x ∷ drop (i + 1) ks) (sym is)

  pub callee_more : (j : JudgedClaim) → callee_on h i k (in_use_from 1 k.claims) ≡ Ok (Some j) → is_accepted j.verdict ≡ true → callees_of h ks ≡ callees_after h (i + 1) (js ++ j ∷ []) (drop (i + 1) ks)
  callee_more j found accepted =
      same ∙ ap (callees_after h i js) drops ∙ ap (λ x. x >>= λ c. after_callee js c (λ more. callees_after h (i + 1) more (drop (i + 1) ks))) found
      ∙ ap (λ b. if b then callees_after h (i + 1) (js ++ j ∷ []) (drop (i + 1) ks) else Ok (OneFails j)) accepted

  pub callee_less : callee_on h i k (in_use_from 1 k.claims) ≡ Ok None → callees_of h ks ≡ callees_after h (i + 1) js (drop (i + 1) ks)
  callee_less found = same ∙ ap (callees_after h i js) drops ∙ ap (λ x. x >>= λ c. after_callee js c (λ more. callees_after h (i + 1) more (drop (i + 1) ks))) found

  pub rest_of : (P : Kernel → Type 0) → AllByRecursion P (drop i ks) → AllByRecursion P (drop (i + 1) ks)
  rest_of P h = (subst (AllByRecursion P) drops h).1

-- ---- all lines

module _ (r : Ready) (wanted : Bool) (source : Bytes) (inner : List Kernel) (called : CalleeLines) (text_is : source ≡ r.text) (inner_is : inner ≡ r.linked.inner)
    (prints : PrintsCallees source (callees_of r.hardware inner) called) where
  there : PrintsCallees r.text (callees_of r.hardware r.linked.inner) called
  there = subst (λ ks. PrintsCallees r.text (callees_of r.hardware ks) called) inner_is (subst (λ b. PrintsCallees b (callees_of r.hardware inner) called) text_is prints)

  pub prints_behind : (before : _) (mine p : Printed) → called ≡ lines.AllAccepted before → PrintsOwn (own_judged r.hardware r.linked) mine
      → (p.text.items ≡ (if wanted then before.items else []) ++ mine.text.items) × (p.verdicts.items ≡ mine.verdicts.items) → Prints r.text (lines_of r wanted) p
  prints_behind before mine p is printed made = by_end there.0 there.1 (subst (λ c. AreCalleeLines r.text there.0 c) is there.2)
    where
      joined : (b : Bool) (js os : List JudgedClaim) (x : Bytes) → x ≡ flat_map (callee_text r.text) js → (if b then x else []) ++ flat_map own_text os ≡ flat_map (callee_text r.text) (if b then js else []) ++ flat_map own_text os
      joined true js os x e = ap (λ a. a ++ flat_map own_text os) e
      joined false js os x e = refl

      by_end : (end : Called) → callees_of r.hardware r.linked.inner ≡ Ok end → AreCalleeLines r.text end (lines.AllAccepted before) → Prints r.text (lines_of r wanted) p
      by_end (OneFails j) e a = absurd a
      by_end (AllAccepted js) e a =
          let os = printed.0 in (
            record { callees = if wanted then js else []; own = os; deciding = os },
            ap (λ x. x >>= behind_callees r wanted) e ∙ ap (λ x. x >>= λ own. Ok (record { callees = if wanted then js else []; own = own; deciding = own })) printed.1,
            made.0 ∙ ap (λ a. (if wanted then before.items else []) ++ a) printed.2 ∙ joined wanted js os before.items a,
            made.1 ∙ printed.3,
          )

  pub own_limited : (before : _) (f : PreFault) → called ≡ lines.AllAccepted before → IsLimited (own_judged r.hardware r.linked) f → IsLimited (lines_of r wanted) f
  own_limited before f is h = by_end there.0 there.1 (subst (λ c. AreCalleeLines r.text there.0 c) is there.2)
    where
      by_end : (end : Called) → callees_of r.hardware r.linked.inner ≡ Ok end → AreCalleeLines r.text end (lines.AllAccepted before) → IsLimited (lines_of r wanted) f
      by_end (OneFails j) e a = absurd a
      by_end (AllAccepted js) e a = limited_behind (lines_of r wanted) _ f (ap (λ x. x >>= behind_callees r wanted) e) (limited_then (own_judged r.hardware r.linked) _ f h)

  pub prints_one : (text : _) (v : Verdict) (p : Printed) → called ≡ lines.OneFails text v → (p.text.items ≡ text.items) × (p.verdicts.items ≡ v ∷ []) → Prints r.text (lines_of r wanted) p
  prints_one text v p is made = by_end there.0 there.1 (subst (λ c. AreCalleeLines r.text there.0 c) is there.2)
    where
      by_end : (end : Called) → callees_of r.hardware r.linked.inner ≡ Ok end → AreCalleeLines r.text end (lines.OneFails text v) → Prints r.text (lines_of r wanted) p
      by_end (AllAccepted js) e a = absurd a
      by_end (OneFails j) e a = (
        record { callees = j ∷ []; own = []; deciding = j ∷ [] },
        ap (λ x. x >>= behind_callees r wanted) e,
        made.0 ∙ a.0 ∙ sym (append-nil (callee_text r.text j)) ∙ sym (append-nil (callee_text r.text j ++ [])),
        made.1 ∙ ap (λ x. x ∷ []) a.1,
      )
