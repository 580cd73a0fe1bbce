use Rattle.std.specs.Prelude.{◌||◌, nat_le}
use Rattle.std.specs.List.{list_any, zip}
use Rattle.std.proofs.Common.{◌≡◌, ℕ, ◌+◌, ◌*◌, ◌^◌, List, [], ◌∷◌, length, refl, ap, ◌∙◌, arith, rules, tests}
use Rattle.std.proofs.lemmas.Iterator.{YieldsList-from_slice, YieldsList-from_zip}
use Rattle.std.proofs.lemmas.Iterator.Search.{any_from_yields_List}
use Rattle.rely_predicate.specs.Shift.{plus, times}
use Rattle.rely_loops.proofs.repeated.any_too_large.Goals as goal

-- some pair is too large where some sum is
pairs : (n : ℕ) (vs ks : List ℕ) → length ks ≡ length vs → list_any (λ (q : ℕ × ℕ). nat_le (2 ^ 36) (n * q.0 + q.1)) (zip vs ks) ≡ list_any (nat_le (2 ^ 36)) (plus (times n vs) ks)
pairs n [] [] h = refl
pairs n [] (k ∷ ks) h = absurd (omega (arith, h))
pairs n (v ∷ vs) [] h = absurd (omega (arith, h))
pairs n (v ∷ vs) (k ∷ ks) h = ap (λ b. nat_le (2 ^ 36) (n * v + k) || b) (pairs n vs ks (omega (arith, h)))

pub returns : goal.returns
returns c =
    any_from_yields_List (λ (q : ℕ × ℕ). nat_le (2 ^ 36) (c.args.n * q.0 + q.1)) c.any.new.self _ c.any.result c.any.ensures.ran
    (YieldsList-from_zip (YieldsList-from_slice c.args.by.now cc) (YieldsList-from_slice c.args.counts.now cc)) (λ x b q k. search (rules, tests))
    ∙ pairs c.args.n c.args.by.now c.args.counts.now c.requires
