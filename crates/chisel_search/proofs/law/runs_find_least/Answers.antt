use Rattle.chisel_search.specs.Laws.{answers_by, picks_by}
use Rattle.chisel_search.proofs.Least.{run_least}
use Rattle.chisel_search.proofs.Every.{run_valid}
use Rattle.chisel_search.proofs.law.runs_find_least.Goals as goal

pub returns-clause-least : goal.returns-clause-least
returns-clause-least c = λ t pool a k n best table zs lawful r. run_least t pool (answers_by a) (picks_by k) zs lawful table n best r

pub returns-clause-certified : goal.returns-clause-certified
returns-clause-certified c = λ t pool a k n best r root table zs lawful h. run_valid t pool (answers_by a) (picks_by k) zs table lawful n best r root h
