use Rattle.std.specs.Prelude.{◌&&◌, nat_eq}
use Rattle.std.specs.List.{list_all, zip}
use Rattle.std.proofs.Common.{◌≡◌, ℕ, ◌+◌, List, [], ◌∷◌, length, refl, ap, ◌∙◌, arith, rules, tests}
use Rattle.std.proofs.lemmas.Iterator.{YieldsList-from_slice, YieldsList-from_zip}
use Rattle.std.proofs.lemmas.Iterator.Search.{all_from_yields_List}
use lib.Pointwise.{pointwise}
use Rattle.rely_predicate.specs.Shift.{plus}
use Rattle.rely_loops.proofs.growth.are_added.Goals as goal

-- all triples pass where the sums are the later counts
triples : (vs ns ms : List ℕ) → length ns ≡ length vs → length ms ≡ length vs
    → list_all (λ (q : (ℕ × ℕ) × ℕ). nat_eq (q.0.0 + q.0.1) q.1) (zip (zip vs ns) ms) ≡ pointwise nat_eq (plus vs ns) ms
triples [] [] [] h k = refl
triples [] [] (m ∷ ms) h k = absurd (omega (arith, k))
triples [] (n ∷ ns) ms h k = absurd (omega (arith, h))
triples (v ∷ vs) [] ms h k = absurd (omega (arith, h))
triples (v ∷ vs) (n ∷ ns) [] h k = absurd (omega (arith, k))
triples (v ∷ vs) (n ∷ ns) (m ∷ ms) h k = ap (λ b. nat_eq (v + n) m && b) (triples vs ns ms (omega (arith, h)) (omega (arith, k)))

pub returns : goal.returns
returns c =
    all_from_yields_List (λ (q : (ℕ × ℕ) × ℕ). nat_eq (q.0.0 + q.0.1) q.1) c.all.new.self _ c.all.result c.all.ensures.ran
    (YieldsList-from_zip (YieldsList-from_zip (YieldsList-from_slice c.args.by.now cc) (YieldsList-from_slice c.args.before.now cc)) (YieldsList-from_slice c.args.after.now cc)) (λ x b q k. search (rules, tests))
    ∙ triples c.args.by.now c.args.before.now c.args.after.now c.requires.before c.requires.after
