use Rattle.std.proofs.Common.{◌≡◌, ◌∙◌, ◌++◌, ◌∷◌, [], ap, sym, subst, length, rules}
use mir.Syntax.{w128}
use mir.Val.{SFits}
use Rattle.std.proofs.lemmas.Int.{to_z-of_z}
use Rattle.std.proofs.lemmas.List.{append-nil, append_assoc, length-map, map_push}
use Rattle.chisel_table.specs.Partials.{with_option}
use Rattle.chisel_table.specs.Sums.{list_to}
use Rattle.chisel_bound.specs.Kept.{IsKept, all_bounds}
use Rattle.chisel_bound.proofs.Lists.{length_listed, listed_more, listed_none}
use Rattle.chisel_search.specs.Machine.{bounds_to, pool_of, table_of}
use Rattle.chisel_search.specs.Search.{part_of, parts_of}
use Rattle.chisel_search.proofs.Machines.{bounds_more, child_value, kept_grown}
use Rattle.chisel_search.proofs.machine.divide.Goals as goal

pub fix-requires-clause-kept : goal.fix-requires-clause-kept
fix-requires-clause-kept c =
    let d = c.args.differences.now in
    subst (λ l. IsKept (table_of d) (pool_of d) l c.args.taken.now) (sym c.loop-option.invariant.bounds)
    (kept_grown (table_of d) (pool_of d) c.args.bounds.now.items (bounds_to d c.args.taken.now.partial c.args.decision c.loop-option.option) c.args.taken.now c.requires.kept)

pub loop-option-init : goal.loop-option-init
loop-option-init c =
    let d = c.args.differences.now in
    record {
      parts = c.in_ok-parts.ensures.items ∙ ap (parts_of (table_of d) (pool_of d)) (sym (listed_none (with_option c.args.taken.now.partial c.args.decision)));
      bounds = sym (append-nil c.args.bounds.now.items);
    }

pub loop-option-preserved : goal.loop-option-preserved
loop-option-preserved c =
    let d = c.args.differences.now in
    let t = table_of d in
    let pool = pool_of d in
    let p = c.args.taken.now.partial in
    let n = c.args.decision in
    let o = c.loop-option.option in
    let child : c.in_ok-child.child.partial ≡ with_option p n o = ap (λ k. k.partial) c.in_ok-child.ensures.child in
    let from : c.in_ok-child.child.from ≡ length c.loop-option.bounds.items = ap (λ k. k.from) c.in_ok-child.ensures.child in
    let f : SFits w128 c.greatest_value.result = search rules in
    let value =
    to_z-of_z w128 c.greatest_value.result f ∙ c.greatest_value.ensures
    ∙ child_value d c.loop-option.bounds.items c.deref.result.now c.in_ok-child.child.partial c.in_ok-child.child.from
    (c.deref.ensures.value ∙ c.in_ok-child.ensures.bounds) from
    ∙ ap (λ q. (part_of t pool q).value) child in
    record {
      parts =
          c.in_ok-push.ensures.items
          ∙ (λ i. c.loop-option.invariant.parts i ++ record { partial = child i; value = value i } ∷ [])
          ∙ sym (map_push (part_of t pool) (list_to o (with_option p n)) (with_option p n o))
          ∙ ap (parts_of t pool) (sym (listed_more o (with_option p n)));
      bounds =
          c.in_ok-child.ensures.bounds ∙ (λ i. c.loop-option.invariant.bounds i ++ all_bounds d (child i))
          ∙ append_assoc c.args.bounds.now.items (bounds_to d p n o) (all_bounds d (with_option p n o))
          ∙ ap (λ l. c.args.bounds.now.items ++ l) (sym (bounds_more d p n o));
    }

pub returns-clause-bounds : goal.returns-clause-bounds
returns-clause-bounds c =
    let d = c.args.differences.now in
    let p = c.args.taken.now.partial in
    let n = c.args.decision in
    let o = c.loop-option.option in
    let size =
    ap length c.loop-option.invariant.parts ∙ length-map _ (part_of (table_of d) (pool_of d))
    ∙ length_listed o (with_option p n) in
    c.loop-option.invariant.bounds ∙ ap (λ k. c.args.bounds.now.items ++ bounds_to d p n k) (sym size)
