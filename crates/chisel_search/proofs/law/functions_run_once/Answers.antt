use Rattle.chisel_search.specs.Search.{start}
use Rattle.chisel_search.proofs.Once.{run_one}
use Rattle.chisel_search.proofs.law.functions_run_once.Goals as goal

pub returns : goal.returns
returns c = λ t pool rule pick m n best s r q. run_one t pool rule pick m n (start t) s best r q
