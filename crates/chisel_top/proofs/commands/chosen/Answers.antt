use Rattle.std.proofs.Common.{subst}
use Rattle.chisel_optimise.specs.Answers.{IsAnswer, given, job_of}
use Rattle.chisel_lines.specs.Answers.{answer_status, answer_text}
use Rattle.chisel_top.proofs.Reaching.{is_input}
use Rattle.chisel_top.proofs.commands.chosen.Goals as goal

pub returns-in-Ok : goal.returns-in-Ok
returns-in-Ok c =
    let p = c.args.problem.now in
    let a = c.in-Ok.answer in
    record {
      answered = (
        subst (λ starts. IsAnswer (given p.ready starts (job_of c.args.task)) (answer_text a) (answer_status a)) c.as_slice.ensures c.in-Ok.ensures,
        is_input p (job_of c.args.task) c.requires.problem c.requires.job,
      );
    }
