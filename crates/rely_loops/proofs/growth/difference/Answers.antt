use Rattle.std.specs.Prelude.{IfOk}
use Rattle.std.specs.List.{zip}
use Rattle.std.proofs.Common.{◌≡◌, ℕ, ◌-◌, List, [], ◌∷◌, map, refl, subst, rules}
use Rattle.std.proofs.lemmas.Iterator.{YieldsList-from_slice, YieldsList-from_zip, YieldsList-from_map, items_from_collect}
use Rattle.rely_predicate.specs.Shift.{minus}
use Rattle.rely_loops.proofs.growth.difference.Goals as goal

-- pair by pair
pairs : (ms ns : List ℕ) → map (λ (q : ℕ × ℕ). q.0 - q.1) (zip ms ns) ≡ minus ms ns
pairs [] ns = refl
pairs (m ∷ ms) [] = refl
pairs (m ∷ ms) (n ∷ ns) = λ i. (m - n) ∷ pairs ms ns i

pub returns : goal.returns
returns c =
    subst (λ (ys : List ℕ). IfOk c.collect.result (λ by. by.items ≡ ys)) (pairs c.args.after.now c.args.before.now)
    (items_from_collect c.collect.result c.collect.ensures.ran
    (YieldsList-from_map _ (λ (q : ℕ × ℕ). q.0 - q.1)
    (YieldsList-from_zip (YieldsList-from_slice c.args.after.now cc) (YieldsList-from_slice c.args.before.now cc)) c.map.ensures.closure
    (λ x r q k. search rules)))
