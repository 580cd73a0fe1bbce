use Rattle.std.proofs.Common.{arith, rules, sym, ap, ◌∙◌, replicate}
use Rattle.std.proofs.lemmas.List.{take_at}
use Rattle.chisel_bound.proofs.Ascents.{after_none, pool_is, ascended_pool, ascended_zeros}
use Rattle.chisel_bound.proofs.climb.ascent.Goals as goal

pub climb-requires-clause-start : goal.climb-requires-clause-start
climb-requires-clause-start c =
    c.deref_mut-2.ensures.value
    ∙ c.in_ok-l.ensures.items_if_clones_equal (λ y q. search rules)
    ∙ ap (λ n. replicate n 0) c.row_count.ensures
    ∙ sym (after_none c.args.t.now)

pub returns-clause-vectors : goal.returns-clause-vectors
returns-clause-vectors c =
    c.from_vec.ensures
    ∙ pool_is c.args.t.now c.new-vectors.result.items c.push_copy.new.vectors.items c.push_copy-2.new.vectors.items c.push_copy-3.new.vectors.items
    c.push_copy-4.new.vectors.items c.push_copy-5.new.vectors.items
    c.deref.result.now c.deref-3.result.now c.deref-5.result.now c.deref-7.result.now c.deref-9.result.now
    c.new-vectors.ensures.items c.in_ok-push_copy.ensures c.in_ok-push_copy-2.ensures c.in_ok-push_copy-3.ensures
    c.in_ok-push_copy-4.ensures c.in_ok-push_copy-5.ensures
    (c.deref.ensures.value
    ∙ c.in_ok-l.ensures.items_if_clones_equal (λ y q. search rules)
    ∙ ap (λ n. replicate n 0) c.row_count.ensures
    ∙ sym (after_none c.args.t.now))
    (c.deref-3.ensures.value ∙ take_at c.climb.new.l _ _ (omega (arith, c.climb.auto.l, c.deref_mut-2.ensures.len)) ∙ c.climb.ensures)
    (c.deref-5.ensures.value ∙ take_at c.climb-2.new.l _ _ (omega (arith, c.climb-2.auto.l, c.deref_mut-4.ensures.len)) ∙ c.climb-2.ensures)
    (c.deref-7.ensures.value ∙ take_at c.climb-3.new.l _ _ (omega (arith, c.climb-3.auto.l, c.deref_mut-6.ensures.len)) ∙ c.climb-3.ensures)
    (c.deref-9.ensures.value ∙ take_at c.climb-4.new.l _ _ (omega (arith, c.climb-4.auto.l, c.deref_mut-8.ensures.len)) ∙ c.climb-4.ensures)

pub returns-clause-valid : goal.returns-clause-valid
returns-clause-valid c = rw (returns-clause-vectors c) (ascended_pool c.args.t.now)

pub returns-clause-zeros : goal.returns-clause-zeros
returns-clause-zeros c = rw (returns-clause-vectors c) (ascended_zeros c.args.t.now)
