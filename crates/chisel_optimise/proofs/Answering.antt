-- The answer to each task, from its parts.
use Rattle.std.proofs.Common.{◌≡◌, List, length, Ok, inl, inr, refl, sym, subst}
use Rattle.rely_num.specs.Texts.{Bytes}
use Rattle.rely_kernel.specs.declared.setting.Store.{Store}
use Rattle.chisel_table.specs.declared.table.Table.{Table}
use Rattle.chisel_cert.specs.Reading.{certificate_at}
use Rattle.chisel_cert.specs.Tree.{Certificate}
use Rattle.chisel_cert.specs.Valid.{IsValidFor}
use Rattle.chisel_lines.specs.Answers.{answer_status, answer_text}
use Rattle.chisel_lines.specs.declared.answer.Answer.{Answer}
use Rattle.chisel_source.specs.declared.ready.Ready.{Ready}
use Rattle.chisel_options.specs.declared.strategy.Strategy.{Strategy}
use Rattle.chisel_optimise.specs.declared.certified.Asked.{Asked}
use Rattle.chisel_optimise.specs.declared.halt.Halt.{Halt}
use Rattle.chisel_optimise.specs.Answers.{Answers, Input, IsAnswer, IsCertified, IsInvalid, IsNoText, Measure, Optimise, PrintsLeast, TakesTooMany, TellsMeasures, behind_text, given, of_valid}
use Rattle.chisel_optimise.specs.Halts.{HaltsBy}
use Rattle.chisel_optimise.specs.Searches.{measured}
use Rattle.chisel_optimise.specs.Tables.{ComesTo, Ends}
use Rattle.chisel_optimise.proofs.Halting.{halts_weaker}

-- ---- searches

pub optimise_ends : (r : Ready) (starts : List Store) (s : Strategy) (h : Halt) → HaltsBy (Ends r starts) h → HaltsBy (Answers (given r starts (Optimise s))) h
optimise_ends r starts s h ends = halts_weaker (Ends r starts) (Answers (given r starts (Optimise s))) h (λ a e. inl e) ends

pub optimise_answers : (r : Ready) (starts : List Store) (s : Strategy) (t : Table) (a : Answer) → ComesTo r starts t → PrintsLeast t s a → Answers (given r starts (Optimise s)) a
optimise_answers r starts s t a comes prints = inr (t, comes, inl prints)

pub optimise_halts : (r : Ready) (starts : List Store) (s : Strategy) (t : Table) (h : Halt) → ComesTo r starts t → HaltsBy (TakesTooMany t s) h → HaltsBy (Answers (given r starts (Optimise s))) h
optimise_halts r starts s t h comes halts = halts_weaker (TakesTooMany t s) (Answers (given r starts (Optimise s))) h (λ a e. inr (t, comes, inr e)) halts

pub make_ends : (r : Ready) (starts : List Store) (h : Halt) → HaltsBy (Ends r starts) h → HaltsBy (Answers (given r starts Measure)) h
make_ends r starts h ends = halts_weaker (Ends r starts) (Answers (given r starts Measure)) h (λ a e. inl e) ends

pub make_answers : (r : Ready) (starts : List Store) (t : Table) (a : Answer) → ComesTo r starts t → TellsMeasures (length r.text) t a → Answers (given r starts Measure) a
make_answers r starts t a comes tells = inr (t, comes, inl tells)

pub make_halts : (r : Ready) (starts : List Store) (t : Table) (h : Halt) → ComesTo r starts t → HaltsBy (TakesTooMany t measured) h → HaltsBy (Answers (given r starts Measure)) h
make_halts r starts t h comes halts = halts_weaker (TakesTooMany t measured) (Answers (given r starts Measure)) h (λ a e. inr (t, comes, inr e)) halts

-- ---- certificates

pub text_halts : (r : Ready) (starts : List Store) (text : Bytes) (what : Asked) (h : Halt) → HaltsBy (IsNoText text) h → HaltsBy (IsCertified r starts text what) h
text_halts r starts text what h halts =
    halts_weaker (IsNoText text) (IsCertified r starts text what) h (λ a e. subst (λ x. behind_text r starts what x a) (sym e.1) e.2) halts

pub certified_ends : (r : Ready) (starts : List Store) (text : Bytes) (what : Asked) (c : Certificate) (h : Halt) → certificate_at text ≡ Ok c → HaltsBy (Ends r starts) h
    → HaltsBy (IsCertified r starts text what) h
certified_ends r starts text what c h read halts =
    halts_weaker (Ends r starts) (IsCertified r starts text what) h (λ a e. subst (λ x. behind_text r starts what x a) (sym read) (inl e)) halts

pub certified_invalid : (r : Ready) (starts : List Store) (text : Bytes) (what : Asked) (c : Certificate) (t : Table) (h : Halt) → certificate_at text ≡ Ok c → ComesTo r starts t
    → HaltsBy (IsInvalid t c) h → HaltsBy (IsCertified r starts text what) h
certified_invalid r starts text what c t h read comes halts =
    halts_weaker (IsInvalid t c) (IsCertified r starts text what) h (λ a e. subst (λ x. behind_text r starts what x a) (sym read) (inr (t, comes, inr e))) halts

pub certified_answers : (r : Ready) (starts : List Store) (text : Bytes) (what : Asked) (c : Certificate) (t : Table) (a : Answer) → certificate_at text ≡ Ok c → ComesTo r starts t
    → IsValidFor t c → a ≡ of_valid r t c what → IsCertified r starts text what a
certified_answers r starts text what c t a read comes valid is = subst (λ x. behind_text r starts what x a) (sym read) (inr (t, comes, inl (valid, is)))

-- ---- texts

pub is_answer : (i : Input) (a : Answer) → Answers i a → IsAnswer i (answer_text a) (answer_status a)
is_answer i a h = (a, h, (refl, refl))
