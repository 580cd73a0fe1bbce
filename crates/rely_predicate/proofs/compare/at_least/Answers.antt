use Rattle.std.proofs.Common.{◌≡◌, ℕ, List, [], ◌∷◌, length, nat_le, refl, ap, ◌∙◌, arith, rules, tests}
use Rattle.std.specs.Prelude.{◌&&◌}
use Rattle.std.specs.List.{list_all, zip}
use Rattle.std.proofs.lemmas.Iterator.{YieldsList-from_slice, YieldsList-from_zip}
use Rattle.std.proofs.lemmas.Iterator.Search.{all_from_yields_List}
use lib.Pointwise.{pointwise}
use Rattle.rely_predicate.proofs.compare.at_least.Goals as goal

-- the pairs all pass where the lists do, one by one
pairs_pass : (ms ns : List ℕ) → length ms ≡ length ns → list_all (λ (q : ℕ × ℕ). nat_le q.0 q.1) (zip ms ns) ≡ pointwise nat_le ms ns
pairs_pass [] [] long = refl
pairs_pass [] (n ∷ ns) long = absurd (omega (arith, long))
pairs_pass (m ∷ ms) [] long = absurd (omega (arith, long))
pairs_pass (m ∷ ms) (n ∷ ns) long = ap (λ b. nat_le m n && b) (pairs_pass ms ns (omega (arith, long)))

pub returns : goal.returns
returns c =
    let long : length c.args.less.now ≡ length c.args.more.now = omega arith in
    all_from_yields_List (λ (q : ℕ × ℕ). nat_le q.0 q.1) c.all.new.self _ c.all.result c.all.ensures.ran
    (YieldsList-from_zip (YieldsList-from_slice c.args.less.now cc) (YieldsList-from_slice c.args.more.now cc)) (λ x b q k. search (rules, tests))
    ∙ pairs_pass c.args.less.now c.args.more.now long
