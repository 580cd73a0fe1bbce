use Rattle.chisel_search.specs.Laws.{picks_by}
use Rattle.chisel_search.proofs.Every.{one_tree, certificate_nodes}
use Rattle.chisel_search.proofs.law.rules_certify_once.Goals as goal

pub returns-clause-certificate : goal.returns-clause-certificate
returns-clause-certificate c = λ t pool rule k n best r root table zs lawful h. one_tree t pool zs table rule (picks_by k) lawful n best r root h

pub returns-clause-nodes : goal.returns-clause-nodes
returns-clause-nodes c = λ t pool rule k n best table zs lawful r. certificate_nodes t pool zs table rule (picks_by k) lawful n best r
