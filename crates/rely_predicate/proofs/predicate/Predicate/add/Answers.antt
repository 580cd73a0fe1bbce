use Rattle.std.specs.Prelude.{◌≡◌, ◌↔◌, ◌<◌, ◌∷◌, [], ◌++◌, length, IfOk, Err}
use Rattle.std.proofs.Common.{sym, ap, subst, ◌∙◌}
use Rattle.rely_predicate.specs.declared.predicate.PredFault.TheVariants.{Wide}
use Rattle.rely_predicate.specs.Top.{top}
use Rattle.rely_predicate.specs.Predicates.{Conjuncts}
use Rattle.rely_predicate.proofs.Predicates.{added, added_top, added_wide}
use Rattle.rely_predicate.proofs.predicate.Predicate.add.Goals as goal

pub invariant_of-self : goal.invariant_of-self
invariant_of-self c =
    added c.self.inside.labels c.args.c c.self.inside.conjs.items c.add.new.conjs.items c.add.result (c.requires ∙ ap (λ p. p.labels) (sym c.self.view_is)) c.self.invariant
    c.add.ensures.ok c.add.ensures.refused c.add.ensures.wide

pub returns-clause-ok : goal.returns-clause-ok
returns-clause-ok c =
    let p : Conjuncts = record { labels = c.self.inside.labels; conjs = c.self.inside.conjs.items } in
    let out : Conjuncts = record { labels = c.self.inside.labels; conjs = c.add.new.conjs.items } in
    subst (λ (q : Conjuncts). IfOk c.add.result (λ _. out ≡ record { labels = q.labels; conjs = top (q.conjs ++ c.args.c ∷ []) })) c.self.view_is
    (added_top p c.args.c c.add.new.conjs.items c.add.result c.self.invariant.own_top c.add.ensures.ok)

pub returns-clause-wide : goal.returns-clause-wide
returns-clause-wide c =
    let p : Conjuncts = record { labels = c.self.inside.labels; conjs = c.self.inside.conjs.items } in
    subst (λ (q : Conjuncts). (c.add.result ≡ Err Wide) ↔ (256 < length (top (q.conjs ++ c.args.c ∷ [])))) c.self.view_is
    (added_wide p c.args.c c.add.result c.self.invariant.own_top c.add.ensures.wide)
