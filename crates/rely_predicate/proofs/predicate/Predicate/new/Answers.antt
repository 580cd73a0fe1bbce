use Rattle.std.proofs.Common.{List, [], refl, sym, subst}
use Rattle.rely_predicate.specs.Top.{top}
use Rattle.rely_predicate.specs.Predicates.{IsPredicate}
use Rattle.std.proofs.lemmas.List.Elements.{All-nil}
use Rattle.rely_num.specs.declared.conj.Conj.{Conj}
use Rattle.std.proofs.Common.{arith, ℕ}
use Rattle.rely_predicate.proofs.predicate.Predicate.new.Goals as goal

-- no conjunct at all is a predicate
empty : (n : ℕ) → IsPredicate (record { labels = n; conjs = [] })
unfolding top
empty n = record { counted = All-nil _; own_top = refl; short = omega arith }

pub invariant_of-result : goal.invariant_of-result
invariant_of-result c = subst (λ (cs : List Conj). IsPredicate (record { labels = c.args.labels; conjs = cs })) (sym c.new.ensures.items) (empty c.args.labels)
