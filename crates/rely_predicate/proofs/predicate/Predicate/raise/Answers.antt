use Rattle.std.proofs.Common.{◌≡◌, List, ◌++◌, length, take, drop, map, sym, ap, subst, ◌∙◌, arith}
use Rattle.std.proofs.lemmas.List.{take_at}
use Rattle.rely_num.specs.declared.conj.Conj.{Conj}
use Rattle.rely_predicate.specs.Shift.{times, raise}
use Rattle.rely_predicate.specs.Predicates.{IsPredicate}
use Rattle.rely_predicate.proofs.Predicates.{raised}
use Rattle.rely_predicate.proofs.predicate.Predicate.raise.Goals as goal

pub invariant_of-self : goal.invariant_of-self
invariant_of-self c =
    let f : Conj → Conj = raise (times c.args.n c.args.by.now) in
    let xs = c.self.inside.conjs.items in
    let ys = c.raise_each.new.conjs in
    let full = c.self.inside.conjs.ok in
    let long : length ys ≡ c.self.inside.conjs.len = omega arith in
    let all : take c.self.inside.conjs.len (ys ++ drop (length ys) xs) ≡ map f xs =
    take_at ys (drop (length ys) xs) c.self.inside.conjs.len long ∙ c.raise_each.ensures ∙ ap (map f) c.deref_mut.ensures.value in
    subst (λ (cs : List Conj). IsPredicate (record { labels = c.self.inside.labels; conjs = cs })) (sym all)
    (raised c.self.inside.labels (times c.args.n c.args.by.now) xs c.self.invariant)
