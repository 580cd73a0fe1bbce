use Rattle.chisel_search.specs.Laws.{answers_by, picks_by}
use Rattle.chisel_search.proofs.Ends.{run_bound}
use Rattle.chisel_search.proofs.law.runs_end.Goals as goal

pub returns : goal.returns
returns c = λ t pool a k n s table zs lawful r. run_bound t pool (answers_by a) (picks_by k) zs table lawful n s r
