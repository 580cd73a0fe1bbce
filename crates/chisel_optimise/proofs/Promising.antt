-- What a command promises that ends well.
use Rattle.std.proofs.Common.{◌≡◌, ℕ, ◌≤◌, List, Option, Some, None, Ok, Err, Result, inl, inr, refl, sym, ap, subst, ◌∙◌}
use Rattle.rely_num.specs.Texts.{Bytes}
use Rattle.rely_kernel.specs.declared.setting.Store.{Store}
use Rattle.chisel_table.specs.Least.{IsLeast}
use Rattle.chisel_cert.specs.declared.fault.CertFault.{CertFault}
use Rattle.chisel_cert.specs.declared.fault.CertFault.TheVariants as fault
use Rattle.chisel_cert.specs.Reading.{certificate_at}
use Rattle.chisel_cert.specs.Tree.{Certificate}
use Rattle.chisel_cert.proofs.Sound.{valid_least}
use Rattle.chisel_cert.proofs.Texts.{written_is_read}
use Rattle.chisel_lines.specs.Answers.{answer_status, answer_text}
use Rattle.chisel_lines.specs.declared.answer.Answer.{Answer}
use Rattle.chisel_lines.specs.declared.answer.Answer.TheVariants.{Text, Refused}
use Rattle.chisel_lines.specs.declared.refusal.Refusal.TheVariants as refusal
use Rattle.chisel_lines.specs.declared.status.Grade.TheVariants.{Good, Failing, Undecided}
use Rattle.chisel_lines.specs.declared.status.Status.{Status}
use Rattle.chisel_lines.specs.declared.status.Status.TheVariants as status
use Rattle.chisel_lines.specs.declared.status.Status.TheVariants.{Done}
use Rattle.chisel_source.specs.declared.ready.Ready.{Ready}
use Rattle.chisel_options.specs.declared.strategy.Strategy.{Strategy}
use Rattle.chisel_optimise.specs.declared.certified.Asked.{Asked}
use Rattle.chisel_optimise.specs.declared.certified.Asked.TheVariants as asked
use Rattle.chisel_optimise.specs.Answers.{Answers, AnswersBy, Certify, Input, IsAnswer, IsCertified, Job, Measure, Optimise, behind_text, grade_of_best, named_in}
use Rattle.chisel_optimise.specs.Promises.{Denied, HasBest, IsBestOf, IsJob, KeepsPromise, NamesBest, PrintsBest, PrintsNone, Promised}
use Rattle.chisel_optimise.specs.Claims.{EndsEarly, early_answer}
use Rattle.chisel_optimise.specs.Searches.{printed}
use Rattle.chisel_optimise.specs.Sound.{IsSound}
use Rattle.chisel_optimise.specs.Tables.{Ends}
use Rattle.chisel_optimise.proofs.Best.{end_is_not_good, least_is_best}
use Rattle.chisel_optimise.proofs.Passing.{migrated_passes, printed_passes, printed_read}

-- an answer with which a command ends well
good_of : (a : Answer) → answer_status a ≡ Done → (text : Bytes) × (a ≡ Text text Good)
good_of (Text text Good) e = (text, refl)
good_of (Text text Failing) e = absurd (cc)
good_of (Text text Undecided) e = absurd (cc)
good_of (Refused (refusal.Source reason place)) e = absurd (cc)
good_of (Refused (refusal.Hardware why key outer inner)) e = absurd (cc)
good_of (Refused (refusal.Inputs why sample var)) e = absurd (cc)
good_of (Refused (refusal.Limit limit number)) e = absurd (cc)

prints_best : (r : Ready) (starts : List Store) (s : Strategy) (text : Bytes) → IsSound r starts → s.nodes ≤ 100000 → AnswersBy r starts (Optimise s) (Text text Good) → PrintsBest r starts text
prints_best r starts s text sound few (inl ends) = absurd (end_is_not_good r starts text ends)
prints_best r starts s text sound few (inr (t, comes, inr many)) = absurd (let q = many.1 in cc)
prints_best r starts s text sound few (inr (t, comes, inl p)) = go p.best refl
  where
    go : (b : Option (List ℕ)) → p.best ≡ b → PrintsBest r starts text
    go None e = absurd (let q = p.answer in let f : grade_of_best p.best ≡ Failing = ap grade_of_best e in cc)
    go (Some choice) e =
        let read = printed_read r t s text Good few comes.valid p in
        record {
          certificate = printed t s p.best;
          choice = choice;
          read = ap certificate_at read.0 ∙ written_is_read (printed t s p.best) read.1;
          chosen = e;
          best = least_is_best r starts t (Some choice) sound comes (subst (IsLeast t) e p.finds.least);
          passes = printed_passes r starts t s text Good few sound comes p;
        }

-- the certificate of an answer that is good is valid
has_best : (r : Ready) (starts : List Store) (given text : Bytes) (what : Asked) → IsSound r starts → IsCertified r starts given what (Text text Good) → HasBest r starts given
has_best r starts given text what sound h = go (certificate_at given) refl h
  where
    go : (x : Result Certificate CertFault) → certificate_at given ≡ x → behind_text r starts what x (Text text Good) → HasBest r starts given
    go (Err (fault.At line why)) e q = absurd (cc)
    go (Err fault.Memory) e q = absurd q
    go (Ok c) e (inl ends) = absurd (end_is_not_good r starts text ends)
    go (Ok c) e (inr (t, comes, inl valid)) = record { certificate = c; read = e; best = least_is_best r starts t c.choice sound comes (valid_least t c comes.valid valid.0) }
    go (Ok c) e (inr (t, comes, inr invalid)) = absurd (let q = invalid.answer in cc)

-- what is written where a source is rewritten is that of a valid certificate
pub names_best : (r : Ready) (starts : List Store) (given text : Bytes) → IsSound r starts → IsCertified r starts given asked.Rewrite (Text text Good) → NamesBest r starts given text
names_best r starts given text sound h = go (certificate_at given) refl h
  where
    named : (c : Certificate) (choice : Option (List ℕ)) → certificate_at given ≡ Ok c → c.choice ≡ choice → IsBestOf r starts choice → Text text Good ≡ named_in r choice
        → NamesBest r starts given text
    named c None e chosen best is = absurd (cc)
    named c (Some choice) e chosen best is =
        record { certificate = c; choice = choice; read = e; chosen = chosen; best = best; named = ap answer_text is }

    go : (x : Result Certificate CertFault) → certificate_at given ≡ x → behind_text r starts asked.Rewrite x (Text text Good) → NamesBest r starts given text
    go (Err (fault.At line why)) e q = absurd (cc)
    go (Err fault.Memory) e q = absurd q
    go (Ok c) e (inl ends) = absurd (end_is_not_good r starts text ends)
    go (Ok c) e (inr (t, comes, inl valid)) = named c c.choice e refl (least_is_best r starts t c.choice sound comes (valid_least t c comes.valid valid.0)) valid.1
    go (Ok c) e (inr (t, comes, inr invalid)) = absurd (let q = invalid.answer in cc)

-- and nothing ended the command early
pub certified_goes_on : (r : Ready) (starts : List Store) (given text : Bytes) (what : Asked) → IsCertified r starts given what (Text text Good) → early_answer r ≡ None
certified_goes_on r starts given text what h = go (certificate_at given) h
  where
    go : (x : Result Certificate CertFault) → behind_text r starts what x (Text text Good) → early_answer r ≡ None
    go (Err (fault.At line why)) q = absurd (cc)
    go (Err fault.Memory) q = absurd q
    go (Ok c) (inl ends) = absurd (end_is_not_good r starts text ends)
    go (Ok c) (inr (t, comes, h)) = comes.goes_on

promised : (r : Ready) (starts : List Store) (job : Job) (text : Bytes) → IsSound r starts → IsJob job → AnswersBy r starts job (Text text Good) → Promised r starts job text
promised r starts (Optimise s) text sound few h = prints_best r starts s text sound few h
promised r starts (Certify asked.Check given) text sound few h = has_best r starts given text asked.Check sound h
promised r starts (Certify asked.Rewrite given) text sound few h = names_best r starts given text sound h
promised r starts (Certify asked.Migrate given) text sound few h = (has_best r starts given text asked.Migrate sound h, migrated_passes r starts given text sound h)
promised r starts Measure text sound few h = tt

-- ---- what says no

-- an answer with which a command says so
failing_of : (a : Answer) → answer_status a ≡ status.Refused → (text : Bytes) × (a ≡ Text text Failing)
failing_of (Text text Good) e = absurd (cc)
failing_of (Text text Failing) e = (text, refl)
failing_of (Text text Undecided) e = absurd (cc)
failing_of (Refused (refusal.Source reason place)) e = absurd (cc)
failing_of (Refused (refusal.Hardware why key outer inner)) e = absurd (cc)
failing_of (Refused (refusal.Inputs why sample var)) e = absurd (cc)
failing_of (Refused (refusal.Limit limit number)) e = absurd (cc)

-- before the table is there, only a claim does
early_end : (r : Ready) (starts : List Store) (text : Bytes) → Ends r starts (Text text Failing) → EndsEarly r (Text text Failing)
early_end r starts text (inl e) = e
early_end r starts text (inr (inl e)) = absurd (let q = e.1.1 in cc)
early_end r starts text (inr (inr (runs, on, outcomes, inl e))) = absurd (let q = e.1 in cc)
early_end r starts text (inr (inr (runs, on, outcomes, inr e))) = absurd (let q = e.1 in cc)

prints_none : (r : Ready) (starts : List Store) (s : Strategy) (text : Bytes) → IsSound r starts → s.nodes ≤ 100000 → AnswersBy r starts (Optimise s) (Text text Failing)
    → Denied r starts (Optimise s) text
prints_none r starts s text sound few (inl ends) = inl (early_end r starts text ends)
prints_none r starts s text sound few (inr (t, comes, inr many)) = absurd (let q = many.1 in cc)
prints_none r starts s text sound few (inr (t, comes, inl p)) = inr (go p.best refl)
  where
    go : (b : Option (List ℕ)) → p.best ≡ b → PrintsNone r starts text
    go (Some choice) e = absurd (let q = p.answer in let f : grade_of_best p.best ≡ Good = ap grade_of_best e in cc)
    go None e =
        let read = printed_read r t s text Failing few comes.valid p in
        record {
          certificate = printed t s p.best;
          read = ap certificate_at read.0 ∙ written_is_read (printed t s p.best) read.1;
          none = e;
          best = least_is_best r starts t None sound comes (subst (IsLeast t) e p.finds.least);
          passes = printed_passes r starts t s text Failing few sound comes p;
        }

denied : (r : Ready) (starts : List Store) (job : Job) (text : Bytes) → IsSound r starts → IsJob job → AnswersBy r starts job (Text text Failing) → Denied r starts job text
denied r starts (Optimise s) text sound few h = prints_none r starts s text sound few h
denied r starts (Certify what given) text sound few h = tt
denied r starts Measure text sound few h = tt

-- ---- by the status

pub good_answers : (i : Input) (text : Bytes) (s : Status) → IsAnswer i text s → s ≡ Done → Answers i (Text text Good)
good_answers i text s (a, answers, both) done =
    let good = good_of a (sym both.1 ∙ done) in
    let same : a ≡ Text text Good = good.1 ∙ ap (λ x. Text x Good) (sym (both.0 ∙ ap answer_text good.1)) in
    subst (Answers i) same answers

failing_answers : (i : Input) (text : Bytes) (s : Status) → IsAnswer i text s → s ≡ status.Refused → Answers i (Text text Failing)
failing_answers i text s (a, answers, both) refused =
    let failing = failing_of a (sym both.1 ∙ refused) in
    let same : a ≡ Text text Failing = failing.1 ∙ ap (λ x. Text x Failing) (sym (both.0 ∙ ap answer_text failing.1)) in
    subst (Answers i) same answers

pub keeps_promise : KeepsPromise
keeps_promise i input = record {
  well = λ text s h done. promised i.ready i.starts i.job text input.sound input.job (good_answers i text s h done);
  denied = λ text s h refused. denied i.ready i.starts i.job text input.sound input.job (failing_answers i text s h refused);
}
