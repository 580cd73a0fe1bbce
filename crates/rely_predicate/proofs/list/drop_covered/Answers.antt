use Rattle.std.proofs.Common.{rules, not}
use Rattle.std.proofs.lemmas.Fn.{filter_same}
use Rattle.rely_predicate.specs.Top.{covers}
use Rattle.rely_predicate.proofs.list.drop_covered.Goals as goal

pub returns-clause-left : goal.returns-clause-left
returns-clause-left c = filter_same _ (λ d. not (covers c.args.c.now d)) _ (λ x b f' k. search rules) _ _ c.retain.ensures.filtered
