use Rattle.rely_verdict.proofs.Counted.{top_is_counted}
use Rattle.rely_verdict.proofs.JudgedLaw.{products_enclose}
use Rattle.rely_verdict.proofs.law.products_enclose.Goals as goal

pub returns-clause-enclose : goal.returns-clause-enclose
returns-clause-enclose c = products_enclose

pub returns-clause-counted : goal.returns-clause-counted
returns-clause-counted c = top_is_counted
