use Rattle.chisel_top.proofs.Runs.{run_counts, run_headline, run_log, run_memory, run_no_form, run_opened, run_read_fault, run_report, run_words, run_write_fault}
use Rattle.chisel_top.proofs.program.run.Goals as goal

pub returns-clause-opened : goal.returns-clause-opened
returns-clause-opened g c = run_opened c.args.words.now _ _ _ _ c.outcome-outcome.ensures.reaches

pub returns-clause-no_form : goal.returns-clause-no_form
returns-clause-no_form g c = run_no_form c.args.words.now _ _ _ _ c.outcome-outcome.ensures.reaches _ _ _ _ _ c.tell.ensures.delivers c.outcome-outcome.ensures.no_form

pub returns-clause-log : goal.returns-clause-log
returns-clause-log g c = run_log c.args.words.now _ _ _ _ c.outcome-outcome.ensures.reaches _ _ _ _ _ c.tell.ensures.delivers

pub returns-clause-counts : goal.returns-clause-counts
returns-clause-counts g c = run_counts c.args.words.now _ _ _ _ c.outcome-outcome.ensures.reaches _ _ _ _ _ c.tell.ensures.delivers

pub returns-clause-words : goal.returns-clause-words
returns-clause-words g c = run_words c.args.words.now _ _ _ _ c.outcome-outcome.ensures.reaches _ _ _ _ _ c.tell.ensures.delivers

pub returns-clause-read_fault : goal.returns-clause-read_fault
returns-clause-read_fault g c = run_read_fault c.args.words.now _ _ _ _ c.outcome-outcome.ensures.reaches _ _ _ _ _ c.tell.ensures.delivers

pub returns-clause-write_fault : goal.returns-clause-write_fault
returns-clause-write_fault g c = run_write_fault c.args.words.now _ _ _ _ c.outcome-outcome.ensures.reaches _ _ _ _ _ c.tell.ensures.delivers

pub returns-clause-memory : goal.returns-clause-memory
returns-clause-memory g c = run_memory c.args.words.now _ _ _ _ c.outcome-outcome.ensures.reaches _ _ _ _ _ c.tell.ensures.delivers

pub returns-clause-report : goal.returns-clause-report
returns-clause-report g c = run_report c.args.words.now _ _ _ _ c.outcome-outcome.ensures.reaches _ _ _ _ _ c.tell.ensures.delivers

pub returns-clause-headline : goal.returns-clause-headline
returns-clause-headline g c = run_headline c.args.words.now _ _ _ _ c.outcome-outcome.ensures.reaches _ _ _ _ _ c.tell.ensures.delivers
