use Rattle.std.specs.Prelude.{None, Some}
use Rattle.std.specs.List.{All}
use Rattle.std.proofs.Common.{◌≡◌, ℕ, ◌<◌, Bool, List, length, get_or, true, false, refl, sym, ap, subst, ◌∙◌}
use Rattle.rely_num.specs.declared.conj.Conj.{Conj}
use Rattle.rely_predicate.specs.Predicates.{Conjuncts, IsPredicate}
use Rattle.rely_predicate.specs.Shift.{minus}
use Rattle.rely_loops.proofs.Growing.{between, all_grow, length_between, shift_yes, shift_no, found_exactly}
use Rattle.rely_loops.proofs.growth.shift.Goals as goal

-- the vector that was made, from what its steps say
made : (ps qs fs ts : List Conj) (a b : Conj) (ns ms vs by : List ℕ) → fs ≡ ps → ts ≡ qs → ns ≡ (get_or fs 0 a).counts → ms ≡ (get_or ts 0 b).counts
    → vs ≡ minus ms ns → by ≡ vs → by ≡ between ps qs a b
made ps qs fs ts a b ns ms vs by f t n m v e =
    let x : ms ≡ (get_or qs 0 b).counts = m ∙ ap (λ (ds : List Conj). (get_or ds 0 b).counts) t in
    let y : ns ≡ (get_or ps 0 a).counts = n ∙ ap (λ (ds : List Conj). (get_or ds 0 a).counts) f in
    e ∙ v ∙ (λ i. minus (x i) (y i))

-- each conjunct counts as many labels as the vector has
all_counted : (p q : Conjuncts) (a b : Conj) (by : List ℕ) → IsPredicate p → IsPredicate q → p.labels ≡ q.labels → 0 < length p.conjs → 0 < length q.conjs → by ≡ between p.conjs q.conjs a b
    → (r : Conjuncts) (cs : List Conj) → IsPredicate r → r.labels ≡ q.labels → cs ≡ r.conjs → All (λ c. length c.counts ≡ length by) cs
all_counted p q a b by v w l h k e r cs u m f =
    subst (λ (ds : List Conj). All (λ c. length c.counts ≡ length by) ds) (sym f)
    (λ i d j. u.counted i d j ∙ m ∙ sym (ap length e ∙ length_between p q a b v w l h k))

pub have_grown-requires-clause-before : goal.have_grown-requires-clause-before
have_grown-requires-clause-before c =
    all_counted c.args.before.now c.args.after.now c.index-from-0-2.result c.index-to-0-2.result c.deref.result.now c.conjs-from.ensures.valid c.conjs-to.ensures.valid c.requires.shape c.requires.before c.requires.after
    (made _ _ _ _ _ _ _ _ _ _ c.conjs-from.ensures.value c.conjs-to.ensures.value c.as_slice.ensures c.as_slice-2.ensures c.in_ok-by.ensures c.deref.ensures.value)
    c.args.before.now c.conjs-from.result.now c.conjs-from.ensures.valid c.requires.shape c.conjs-from.ensures.value

pub have_grown-requires-clause-after : goal.have_grown-requires-clause-after
have_grown-requires-clause-after c =
    all_counted c.args.before.now c.args.after.now c.index-from-0-2.result c.index-to-0-2.result c.deref.result.now c.conjs-from.ensures.valid c.conjs-to.ensures.valid c.requires.shape c.requires.before c.requires.after
    (made _ _ _ _ _ _ _ _ _ _ c.conjs-from.ensures.value c.conjs-to.ensures.value c.as_slice.ensures c.as_slice-2.ensures c.in_ok-by.ensures c.deref.ensures.value)
    c.args.after.now c.conjs-to.result.now c.conjs-to.ensures.valid refl c.conjs-to.ensures.value

-- the answer of the test, of the predicates themselves
tested : (ps qs fs ts : List Conj) (a b : Conj) (by : List ℕ) (t r : Bool) → fs ≡ ps → ts ≡ qs → by ≡ between ps qs a b → t ≡ all_grow by fs ts → t ≡ r → all_grow (between ps qs a b) ps qs ≡ r
tested ps qs fs ts a b by t r f g e h k = (λ i. all_grow (sym e i) (sym f i) (sym g i)) ∙ sym h ∙ k

pub returns-then-not-have_grown-clause-exact : goal.returns-then-not-have_grown-clause-exact
returns-then-not-have_grown-clause-exact c =
    sym (shift_no c.args.before.now.conjs c.args.after.now.conjs c.index-from-0-2.result c.index-to-0-2.result c.requires.before c.requires.after
    (tested _ _ _ _ c.index-from-0-2.result c.index-to-0-2.result c.deref.result.now c.have_grown.result false c.conjs-from.ensures.value c.conjs-to.ensures.value
    (made _ _ _ _ _ _ _ _ _ _ c.conjs-from.ensures.value c.conjs-to.ensures.value c.as_slice.ensures c.as_slice-2.ensures c.in_ok-by.ensures c.deref.ensures.value)
    c.have_grown.ensures c.if-not-have_grown.true))

pub returns-then-not-have_grown-clause-one : goal.returns-then-not-have_grown-clause-one
returns-then-not-have_grown-clause-one c =
    found_exactly c.args.before.now c.args.after.now None c.conjs-from.ensures.valid c.conjs-to.ensures.valid c.requires.shape c.requires.before c.requires.after
    (sym (shift_no c.args.before.now.conjs c.args.after.now.conjs c.index-from-0-2.result c.index-to-0-2.result c.requires.before c.requires.after
    (tested _ _ _ _ c.index-from-0-2.result c.index-to-0-2.result c.deref.result.now c.have_grown.result false c.conjs-from.ensures.value c.conjs-to.ensures.value
    (made _ _ _ _ _ _ _ _ _ _ c.conjs-from.ensures.value c.conjs-to.ensures.value c.as_slice.ensures c.as_slice-2.ensures c.in_ok-by.ensures c.deref.ensures.value)
    c.have_grown.ensures c.if-not-have_grown.true)))

pub returns-clause-exact : goal.returns-clause-exact
returns-clause-exact c =
    let by : c.deref.result.now ≡ between c.args.before.now.conjs c.args.after.now.conjs c.index-from-0-2.result c.index-to-0-2.result =
    made _ _ _ _ _ _ _ _ _ _ c.conjs-from.ensures.value c.conjs-to.ensures.value c.as_slice.ensures c.as_slice-2.ensures c.in_ok-by.ensures c.deref.ensures.value in
    ap (λ (v : List ℕ). Some v) (c.from_vec.ensures ∙ sym c.deref.ensures.value ∙ by)
    ∙ sym (shift_yes c.args.before.now.conjs c.args.after.now.conjs c.index-from-0-2.result c.index-to-0-2.result c.requires.before c.requires.after
    (tested _ _ _ _ c.index-from-0-2.result c.index-to-0-2.result c.deref.result.now c.have_grown.result true c.conjs-from.ensures.value c.conjs-to.ensures.value by
    c.have_grown.ensures c.if-not-have_grown.false))

pub returns-clause-one : goal.returns-clause-one
returns-clause-one c =
    let by : c.deref.result.now ≡ between c.args.before.now.conjs c.args.after.now.conjs c.index-from-0-2.result c.index-to-0-2.result =
    made _ _ _ _ _ _ _ _ _ _ c.conjs-from.ensures.value c.conjs-to.ensures.value c.as_slice.ensures c.as_slice-2.ensures c.in_ok-by.ensures c.deref.ensures.value in
    found_exactly c.args.before.now c.args.after.now (Some c.from_vec.result) c.conjs-from.ensures.valid c.conjs-to.ensures.valid c.requires.shape c.requires.before c.requires.after
    (ap (λ (v : List ℕ). Some v) (c.from_vec.ensures ∙ sym c.deref.ensures.value ∙ by)
    ∙ sym (shift_yes c.args.before.now.conjs c.args.after.now.conjs c.index-from-0-2.result c.index-to-0-2.result c.requires.before c.requires.after
    (tested _ _ _ _ c.index-from-0-2.result c.index-to-0-2.result c.deref.result.now c.have_grown.result true c.conjs-from.ensures.value c.conjs-to.ensures.value by
    c.have_grown.ensures c.if-not-have_grown.false)))
