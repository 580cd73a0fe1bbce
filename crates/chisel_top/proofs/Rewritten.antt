-- What `verify` says of a source that `rewrite` wrote, from the law of reports.
use Rattle.std.proofs.Common.{◌≤◌, length, subst}
use Rattle.rely_num.specs.Texts.{Bytes}
use Rattle.chisel_optimise.specs.Answers.{AnswersBy, Input, IsCertified, Job}
use Rattle.chisel_optimise.specs.Promises.{IsInput}
use Rattle.chisel_optimise.specs.declared.certified.Asked.TheVariants.{Rewrite}
use Rattle.chisel_optimise.proofs.Best.{stands}
use Rattle.chisel_optimise.proofs.Promising.{certified_goes_on, good_answers, names_best}
use Rattle.chisel_lines.specs.declared.answer.Answer.TheVariants.{Text}
use Rattle.chisel_lines.specs.declared.status.Grade.TheVariants.{Good}
use Rattle.chisel_problem.proofs.Bounds.{main_valid}
use Rattle.chisel_top.proofs.Reported.{reported_as_chosen}
use Rattle.chisel_top.specs.Rewriting.{IsMeaning, Promise, VerifiesBest}
use Rattle.chisel_top.specs.Findings.{Choosing}
use Rattle.chisel_top.proofs.Sources.{IsOfSource}

verifies_best : (i : Input) (given text : Bytes) → IsInput i → IsMeaning i.ready → IsCertified i.ready i.starts given Rewrite (Text text Good) → VerifiesBest i given text
verifies_best i given text input meaning certified =
    let r = i.ready in
    let sound = input.sound in
    let best = names_best r i.starts given text sound certified in
    let known = stands r (main_valid r.linked sound.ready.linked) (certified_goes_on r i.starts given text Rewrite certified) in
    record {
      best = best;
      verified = λ short. record {
        meaning = meaning;
        calls = known.callees.0;
        accepted = known.callees.1;
        reported = λ name wanted means.
            reported_as_chosen r.text meaning.unit r.hardware name r.linked best.choice known.callees.0 wanted sound.ready.hardware meaning.read means sound.inner
            known.alone best.best.least.allowed known.unlimited known.callees.1 (subst (λ t. length t ≤ 65536) best.named short);
      };
    }

pub keeps_rewriting : (i : Input) → IsInput i → IsOfSource (Choosing i) → Promise i
keeps_rewriting i input source given text s job answer done =
    verifies_best i given text input (subst IsReadBy job source) (subst (λ j. AnswersBy i.ready i.starts j (Text text Good)) job (good_answers i text s answer done))
  where
    IsReadBy : Job → Type 0
    IsReadBy j = IsOfSource (Choosing (record i { job = j }))
