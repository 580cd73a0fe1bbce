-- What `verify` says of a source in which a choice is named.
use Rattle.std.proofs.Common.{◌≡◌, ℕ, ◌||◌, Bool, true, false, cond, List, [], ◌∷◌, ◌++◌, map, flat_map, Ok, Err, refl, ap, sym, ◌∙◌, subst, codes, if◌then◌else◌}
use Rattle.std.specs.Prelude.{Result, decimal}
use Rattle.std.specs.List.{AllByRecursion, AllZip, list_any}
use Rattle.rely_num.specs.AttoTexts.{atto_text}
use Rattle.rely_num.specs.OpenMarks.{AreOpenMarks}
use Rattle.rely_num.specs.Texts.{Bytes}
use Rattle.rely_hard.specs.declared.hardware.Hardware.{Hardware}
use Rattle.rely_kernel.specs.Choice.{setting_of}
use Rattle.rely_kernel.specs.Setting.{IsClosed, marks_of}
use Rattle.rely_kernel.specs.declared.kernel.Claim.{Claim}
use Rattle.rely_kernel.specs.declared.kernel.Kernel.{Kernel}
use Rattle.rely_kernel.specs.declared.kernel.Linked.{Linked}
use Rattle.rely_lexer.specs.Readings.{IsReading}
use Rattle.rely_lexer.specs.Tokens.{tokens_of}
use Rattle.rely_lexer.specs.declared.token.LexFault.{LexFault}
use Rattle.rely_lexer.specs.declared.token.Token.{Token}
use Rattle.rely_lexer.proofs.OneReading.{reading}
use Rattle.rely_tree.specs.Tree.{UnitTree}
use Rattle.rely_parser.specs.State.{Reading, word_at}
use Rattle.rely_parser.specs.Units.{unit_of}
use Rattle.rely_parser.proofs.LimitsUnits.{parsed_unit}
use Rattle.rely_parser.proofs.Verdicts.{spelled_of}
use Rattle.rely_resolve.proofs.Reached.{is_linked}
use Rattle.rely_resolve.proofs.ValidLinked.{linked_valid}
use Rattle.rely_resolve.proofs.ValidNames.{each_holds}
use Rattle.rely_verdict.specs.declared.verdict.Verdict.{Verdict}
use Rattle.rely_verdict.specs.declared.verdict.Verdict.TheVariants.{Accepted, Below, Needs, Undecided}
use Rattle.chisel_claims.specs.Verdicts.{AllAccepted, Called, JudgedClaim, OneFails, is_failing, verdict_on, ◌>>=◌}
use Rattle.chisel_lines.specs.ClaimLines.{callee_line, line_on, said, variable_name}
use Rattle.chisel_source.specs.Meaning.{fault_by, unit_in}
use Rattle.chisel_source.specs.Meaning as ready
use Rattle.chisel_source.specs.declared.fault.SourceFault.TheVariants as source_fault
use Rattle.chisel_rewrite.specs.Alike.{IsLike, shape_of}
use Rattle.chisel_rewrite.specs.Namings.{namings}
use Rattle.chisel_rewrite.specs.Texts.{rewritten}
use Rattle.chisel_rewritten_source.specs.Tokens.{named_tokens}
use Rattle.chisel_rewritten_source.proofs.Sources.{kernel_reread_as_named}
use Rattle.chisel_rewritten_source.specs.Trees.{by_choice, renamed_unit}
use Rattle.chisel_rewritten_source.proofs.Meant.{kernel_means_as_named}
use Rattle.chisel_rewritten_source.proofs.Reparsed.{kernel_reparsed_as_named}
use Rattle.chisel_rewritten_verdicts.specs.Reports.{AreCalledBy, IsJudgedBy}
use Rattle.chisel_rewritten_verdicts.proofs.Reported.{allowed_never_fails, callees_by, own_as_chosen}
use Rattle.chisel_rewritten_verdicts.proofs.SamePaths.{same_at}
use Rattle.chisel_verify.specs.Lines.{Said, behind_callees, callee_text}
use Rattle.chisel_top.specs.Reports.{ReportedAsChosen, ready_again}

-- ---- reading

-- the tokens of a source that is read
record Tokens (text : Bytes) (u : UnitTree) : Type 0 where
  tokens : List Token
  lexed : tokens_of text ≡ Ok tokens
  parsed : unit_of text tokens ≡ Ok u

same_unit : (r : Reading UnitTree) (u : UnitTree) → fault_by source_fault.Parse r ≡ Ok u → r ≡ Ok u
same_unit (Ok v) u e = let same : v ≡ u = cc in ap (λ v. Ok v) same
same_unit (Err f) u e = absurd (cc)

tokens_read : (text : Bytes) (u : UnitTree) → unit_in text ≡ Ok u → Tokens text u
tokens_read text u e = one (tokens_of text) refl e
  where
    one : (r : Result (List Token) LexFault) → tokens_of text ≡ r → ready.◌>>=◌ (fault_by source_fault.Lex r) (λ tokens. fault_by source_fault.Parse (unit_of text tokens)) ≡ Ok u → Tokens text u
    one (Ok tokens) is e = record { tokens = tokens; lexed = is; parsed = same_unit (unit_of text tokens) u e }
    one (Err f) is e = absurd (cc)

-- ---- lines of the functions that are called

-- the same function, spans aside, with its name where the new text has it
abbrev IsThere : Bytes → Bytes → Kernel → Kernel → Type 0
IsThere text new k other = IsLike k other × (word_at new other.name ≡ word_at text k.name)

zip_both : {X Y : Type 0} (P Q : X → Y → Type 0) (xs : List X) (ys : List Y) (x : X) (y : Y) → AllZip P xs ys → AllZip Q (xs ++ x ∷ []) (ys ++ y ∷ []) → AllZip (λ x y. P x y × Q x y) xs ys
zip_both P Q [] [] x y p q = tt
zip_both P Q [] (b ∷ ys) x y p q = absurd p
zip_both P Q (a ∷ xs) [] x y p q = absurd p
zip_both P Q (a ∷ xs) (b ∷ ys) x y p q = ((p.0, q.0), zip_both P Q xs ys x y p.1 q.1)

name_same : (k other : Kernel) (v : ℕ) → IsLike k other → variable_name other v ≡ variable_name k v
name_same k other v is = same_at shape_of (λ s. s.name) other.vars k.vars v [] is.shapes

said_same : (k other : Kernel) (v : Verdict) → IsLike k other → said other v ≡ said k v
said_same k other (Needs x) is = ap (λ (bs : Bytes). codes "needs " ++ bs) (name_same k other x is)
said_same k other (Below hi) is = refl
said_same k other (Undecided lo hi) is = refl
said_same k other (Accepted lo) is = refl

line_same : (text new : Bytes) (k other : Kernel) (i : ℕ) (c : Claim) (v : Verdict) → IsThere text new k other → callee_line new other i c v ≡ callee_line text k i c v
line_same text new k other i c v is =
    ap (λ (bs : Bytes). codes "callee " ++ bs ++ codes " " ++ line_on other i c v) is.1
    ∙ ap (λ (bs : Bytes). codes "callee " ++ word_at text k.name ++ codes " " ++ (codes "claim " ++ decimal i ++ codes " " ++ bs ++ codes " " ++ atto_text c.bound ++ codes "\n")) (said_same k other v is.0)

callee_same : (text new : Bytes) (j other : JudgedClaim) → IsJudgedBy (IsThere text new) j other → callee_text new other ≡ callee_text text j
callee_same text new j other is =
    ap (λ n. callee_line new other.kernel n other.claim other.verdict) is.number
    ∙ (ap (λ c. callee_line new other.kernel j.number c other.verdict) is.claim
    ∙ (ap (λ v. callee_line new other.kernel j.number j.claim v) is.verdict ∙ line_same text new j.kernel other.kernel j.number j.claim j.verdict is.kernel))

callees_same : (text new : Bytes) (js others : List JudgedClaim) → AllZip (IsJudgedBy (IsThere text new)) js others → flat_map (callee_text new) others ≡ flat_map (callee_text text) js
callees_same text new [] [] all = refl
callees_same text new [] (other ∷ others) all = absurd all
callees_same text new (j ∷ js) [] all = absurd all
callees_same text new (j ∷ js) (other ∷ others) all =
    ap (λ (bs : Bytes). bs ++ flat_map (callee_text new) others) (callee_same text new j other all.0) ∙ ap (λ (bs : Bytes). callee_text text j ++ bs) (callees_same text new js others all.1)

if_same : (text new : Bytes) (wanted : Bool) (js others : List JudgedClaim) → AllZip (IsJudgedBy (IsThere text new)) js others
    → flat_map (callee_text new) (cond wanted others []) ≡ flat_map (callee_text text) (cond wanted js [])
if_same text new true js others all = callees_same text new js others all
if_same text new false js others all = refl

-- all of them are accepted again
record AcceptedAgain (R : Kernel → Kernel → Type 0) (js : List JudgedClaim) (end : Called) : Type 0 where
  others : List JudgedClaim
  is : end ≡ AllAccepted others
  alike : AllZip (IsJudgedBy R) js others

accepted_again : (R : Kernel → Kernel → Type 0) (js : List JudgedClaim) (end : Called) → AreCalledBy R (AllAccepted js) end → AcceptedAgain R js end
accepted_again R js (AllAccepted others) alike = record { others = others; is = refl; alike = alike }
accepted_again R js (OneFails j) alike = absurd alike

-- ---- verdicts

none_failing : (h : Hardware) (l : Linked) (choice : List ℕ) (claims : List Claim) → AllByRecursion (λ claim. is_failing (verdict_on h l.kernel (setting_of l.kernel choice) claim) ≡ false) claims
    → list_any is_failing (map (verdict_on h l.kernel (setting_of l.kernel choice)) claims) ≡ false
none_failing h l choice [] all = refl
none_failing h l choice (claim ∷ claims) all =
    ap (λ b. b || list_any is_failing (map (verdict_on h l.kernel (setting_of l.kernel choice)) claims)) all.0 ∙ none_failing h l choice claims all.1

-- ---- the report

pub reported_as_chosen : ReportedAsChosen
reported_as_chosen text u h name l choice calls wanted hard read means closed needs allowed no_limit called few =
    let new = rewritten text l.kernel h choice in
    let new_unit = renamed_unit (by_choice h l choice) u in
    let old = tokens_read text u read in
    let tokens = old.tokens in
    let new_tokens = named_tokens h 0 (namings l.kernel choice) tokens in
    let reads : IsReading text (Ok tokens) = (reading text (Ok tokens)).1 (sym old.lexed) in
    let spelled = spelled_of text tokens u old.parsed in
    let linked = is_linked u name h l means in
    let again = kernel_reread_as_named text tokens u h name l choice hard reads spelled linked allowed.is_choice few in
    let reparsed = kernel_reparsed_as_named text tokens u h name l choice hard reads spelled linked allowed.is_choice few in
    let meant = kernel_means_as_named text tokens u h name l choice hard reads old.parsed means closed allowed.is_choice few in
    let lexed : tokens_of new ≡ Ok new_tokens = sym ((reading new (Ok new_tokens)).0 again.reading) in
    let unit : unit_in new ≡ Ok new_unit =
    ap (λ r. ready.◌>>=◌ (fault_by source_fault.Lex r) (λ tokens. fault_by source_fault.Parse (unit_of new tokens))) lexed ∙ ap (fault_by source_fault.Parse) (reparsed.parsed old.parsed) in
    let valid = linked_valid u name h l hard (parsed_unit text tokens u reads.1 old.parsed) means in
    let own = own_as_chosen h l choice meant.other meant.named no_limit in
    let there = zip_both IsLike (λ k like. word_at new like.name ≡ word_at text k.name) l.inner meant.other.inner l.kernel meant.other.kernel meant.named.inner meant.names in
    let callees = callees_by (IsThere text new) (λ k other is. is.0) h l.inner meant.other.inner (AllAccepted calls) there called in
    let accepted = accepted_again (IsThere text new) calls callees.end callees.alike in
    let r = ready_again text h l choice meant.other in
    let lines : Said = record { callees = if wanted then accepted.others else []; own = own.judged; deciding = own.judged } in
    let no_mark : marks_of meant.other.kernel ≡ [] = (each_holds IsClosed meant.other.inner (meant.other.kernel ∷ []) meant.closed).1.0 in
    record {
      unit = unit;
      other = meant.other;
      means = meant.means;
      input = record {
        ready = record { hardware = hard; linked = meant.linked; on = meant.on; marks = subst (AreOpenMarks new) (sym no_mark) tt };
        closed = meant.closed;
      };
      lines = lines;
      answer = ap (λ x. x >>= behind_callees r wanted) (callees.answer ∙ ap (λ c. Ok c) accepted.is)
          ∙ ap (λ x. x >>= λ own. Ok (record { callees = if wanted then accepted.others else []; own = own; deciding = own })) own.answer;
      callees = if_same text new wanted calls accepted.others accepted.alike;
      numbers = own.numbers;
      claims = own.claims;
      verdicts = own.verdicts;
      deciding = refl;
      none_fails = ap (list_any is_failing) own.verdicts ∙ none_failing h l choice l.kernel.claims (allowed_never_fails h l choice hard valid needs allowed);
    }
