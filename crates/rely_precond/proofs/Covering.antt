-- Covering is kept by each step, by the test on lists.
use Rattle.std.proofs.Common.{◌≡◌, true, List, [], ◌∷◌, flat_map, inl, inr, refl, ap, ◌∙◌}
use Rattle.std.specs.List.{list_any}
use Rattle.std.proofs.lemmas.Bool.{and_from, or_left, or_right}
use Rattle.rely_num.specs.declared.conj.Conj.{Conj}
use Rattle.rely_predicate.specs.Top.{covers}
use Rattle.rely_predicate.proofs.Laws.{Carries, Under-flat}
use Rattle.rely_predicate.proofs.Order.{covers_from}
use Rattle.rely_predicate.proofs.Tops.{In, Under}
use Rattle.rely_precond.specs.Covering.{CoveringIsKept, Keeps}
use Rattle.rely_precond.specs.Walk.{all_covered}
use Rattle.rely_precond.proofs.Carried.{all_carry, paths_carry, through_carries}
use Rattle.rely_precond.proofs.Law.{covered_under}

-- one of the list that covers it
some_covers : (ds : List Conj) (d c : Conj) → In d ds → covers d c ≡ true → list_any (λ e. covers e c) ds ≡ true
some_covers [] d c m h = absurd m
some_covers (x ∷ ds) d c (inl e) h = or_left (covers x c) (list_any (λ e. covers e c) ds) (ap (λ (y : Conj). covers y c) e ∙ h)
some_covers (x ∷ ds) d c (inr m) h = or_right (covers x c) (list_any (λ e. covers e c) ds) (some_covers ds d c m h)

under_covered : (cs ds : List Conj) → Under ds cs → all_covered cs ds ≡ true
under_covered [] ds h = refl
under_covered (c ∷ cs) ds h =
    let r = h c (inl refl) in
    and_from (list_any (λ d. covers d c) ds) (all_covered cs ds) (some_covers ds r.by c r.member (covers_from r.by c r.covers)) (under_covered cs ds (λ d m. h d (inr m)))

keeps : (f : Conj → List Conj) → Carries f → Keeps f
keeps f carries cs ds h = under_covered (flat_map f cs) (flat_map f ds) (Under-flat f carries ds cs (covered_under cs ds h))

pub covering_is_kept : CoveringIsKept
covering_is_kept k = (
  λ s. keeps _ (through_carries k s (paths_carry k s)),
  λ x. keeps _ (all_carry k x),
)
