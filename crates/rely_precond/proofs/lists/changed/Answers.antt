use Rattle.std.proofs.Common.{◌≡◌, ◌<◌, List, ◌∙◌, false, length, get_or, set, inr, refl, sym, subst, arith}
use Rattle.rely_num.specs.declared.conj.Conj.{Conj}
use Rattle.rely_loops.specs.Grown.{too_many}
use Rattle.rely_precond.proofs.Fewer.{few_set}
use Rattle.rely_precond.proofs.Steps.{changed_more, changed_full, set_twice, set_long}
use Rattle.rely_precond.proofs.lists.changed.Goals as goal

pub returns-in_default-clause-err : goal.returns-in_default-clause-err
returns-in_default-clause-err c =
    let list = c.loop-i.list.items in
    let i = c.loop-i.i in
    let h : i < length c.args.conjs.items = omega (arith, c.loop-i-test.true, c.loop-i.invariant.long) in
    let is : c.replace-c.result ≡ get_or list i c.replace-c.result =
    subst (λ (x : Conj). x ≡ get_or list i x) (sym c.replace-c.ensures.value) c.index_mut.ensures.value in
    inr (refl, changed_full c.args.k.now c.args.statement.now.what.now c.args.conjs.items list i c.replace-c.result h c.loop-i.invariant.long c.loop-i.invariant.so_far is (c.in_default.ensures.full refl))

pub loop-i-preserved : goal.loop-i-preserved
loop-i-preserved c =
    let list = c.loop-i.list.items in
    let i = c.loop-i.i in
    let next = c.in-Some.next in
    let between = c.replace-c.new.dest in
    let h : i < length c.args.conjs.items = omega (arith, c.loop-i-test.true, c.loop-i.invariant.long) in
    let is : c.replace-c.result ≡ get_or list i c.replace-c.result =
    subst (λ (x : Conj). x ≡ get_or list i x) (sym c.replace-c.ensures.value) c.index_mut.ensures.value in
    record {
      few = subst (λ (xs : List Conj). too_many xs ≡ false) (sym (set_twice list i between next)) (few_set list i next c.loop-i.invariant.few c.in-Some.ensures.few);
      long = set_long (set list i between) i next ∙ set_long list i between ∙ c.loop-i.invariant.long;
      so_far = changed_more c.args.k.now c.args.statement.now.what.now c.args.conjs.items list i c.replace-c.result h c.loop-i.invariant.long c.loop-i.invariant.so_far is between next c.in-Some.ensures.path;
    }
