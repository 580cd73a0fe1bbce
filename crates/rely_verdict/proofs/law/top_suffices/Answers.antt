use Rattle.rely_verdict.proofs.AcceptedLaw.{accepted_is_met, met_by_products}
use Rattle.rely_verdict.proofs.TopLaw.{bound_by_products, met_on_paths}
use Rattle.rely_verdict.proofs.law.top_suffices.Goals as goal

pub returns-clause-holds : goal.returns-clause-holds
returns-clause-holds c = bound_by_products

pub returns-clause-accepted : goal.returns-clause-accepted
returns-clause-accepted c = accepted_is_met

pub returns-clause-products : goal.returns-clause-products
returns-clause-products c = met_by_products

pub returns-clause-paths : goal.returns-clause-paths
returns-clause-paths c = met_on_paths
