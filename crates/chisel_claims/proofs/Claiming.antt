-- Claims, judged one after the other.
use Rattle.std.proofs.Common.{◌≡◌, ℕ, ◌+◌, ◌<◌, List, [], ◌∷◌, ◌++◌, drop, get_or, length, take, Result, refl, sym, ap, subst, ◌∙◌, inl, inr}
use Rattle.std.proofs.lemmas.List.{drop_more, take_more}
use Rattle.rely_num.specs.declared.span.Span.{Span}
use Rattle.rely_hard.specs.declared.hardware.Hardware.{Hardware}
use Rattle.rely_kernel.specs.declared.kernel.Claim.{Claim}
use Rattle.rely_kernel.specs.declared.kernel.Kernel.{Kernel}
use Rattle.rely_kernel.specs.declared.setting.Setting.{Setting}
use Rattle.rely_kernel.specs.Rates.{own}
use Rattle.rely_kernel.specs.Setting.{Fits, IsClosed, IsOn}
use Rattle.rely_kernel.proofs.OwnFits.{own_fits}
use Rattle.std.specs.List.{AllZip}
use Rattle.std.specs.Option.{option_or}
use Rattle.rely_predicate.specs.Predicates.{Conjuncts}
use Rattle.rely_precond.specs.Answers.{IsPredicateOf, IsStop}
use Rattle.rely_precond.specs.Walk.{Limit, Wide, Count, Work, walk_claim}
use Rattle.rely_precond.specs.declared.fault.PreFault.{PreFault}
use Rattle.rely_precond.specs.declared.fault.PreFault.TheVariants as walk
use Rattle.chisel_claims.specs.Needs.{IsFirstLimit, first_limit}
use Rattle.chisel_claims.specs.Verdicts.{IsLimited, judgement, limit_of, unless_limited, verdict_on, ◌>>=◌}

-- the kernel's own kinds fit
pub given_fits : (h : Hardware) (k : Kernel) (t : Setting) → t ≡ own k → IsOn h k → IsClosed k → Fits k h t
given_fits h k t e on closed = subst (λ s. Fits k h s) (sym e) (own_fits h k on closed)

-- a walk that stops has no verdict
pub stops_limited : (h : Hardware) (k : Kernel) (t : Setting) (c : Claim) (f : PreFault) → IsStop (walk_claim k c.target) f → IsLimited (judgement h k t c) f
stops_limited h k t c (walk.Wide at) e = inr ((Wide, at), refl, ap (λ w. unless_limited (limit_of w) (verdict_on h k t c)) e)
stops_limited h k t c (walk.Count at) e = inr ((Count, at), refl, ap (λ w. unless_limited (limit_of w) (verdict_on h k t c)) e)
stops_limited h k t c (walk.Work at) e = inr ((Work, at), refl, ap (λ w. unless_limited (limit_of w) (verdict_on h k t c)) e)
stops_limited h k t c walk.Memory e = inl refl

-- a limit ends what follows
pub limited_then : {A B : Type 0} (x : Result A (Limit × Span)) (next : A → Result B (Limit × Span)) (f : PreFault) → IsLimited x f → IsLimited (x >>= next) f
limited_then x next f h = elim h [ inl e ↦ inl e | inr r ↦ inr (r.0, r.1, ap (λ y. y >>= next) r.2) ]

-- and so it does behind what was judged
pub limited_behind : {A : Type 0} (x y : Result A (Limit × Span)) (f : PreFault) → x ≡ y → IsLimited y f → IsLimited x f
limited_behind x y f e h = subst (λ z. IsLimited z f) (sym e) h

-- ---- predicates of all claims

allzip_push : {X Y : Type 0} (R : X → Y → Type 0) (xs : List X) (ys : List Y) (x : X) (y : Y) → AllZip R xs ys → R x y → AllZip R (xs ++ x ∷ []) (ys ++ y ∷ [])
allzip_push R [] [] x y h r = (r, tt)
allzip_push R [] (z ∷ ys) x y h r = absurd h
allzip_push R (z ∷ xs) [] x y h r = absurd h
allzip_push R (z ∷ xs) (w ∷ ys) x y h r = (h.0, allzip_push R xs ys x y h.1 r)

-- one predicate more
pub predicates_push : (k : Kernel) (cs : List Claim) (i : ℕ) (d : Claim) (ps : List Conjuncts) (p : Conjuncts) → i < length cs → AllZip (λ c p. IsPredicateOf k c.target p) (take i cs) ps
    → IsPredicateOf k (get_or cs i d).target p → AllZip (λ c p. IsPredicateOf k c.target p) (take (i + 1) cs) (ps ++ p ∷ [])
predicates_push k cs i d ps p within each is =
    subst (λ xs. AllZip (λ c p. IsPredicateOf k c.target p) xs (ps ++ p ∷ [])) (sym (take_more cs i d within)) (allzip_push (λ c p. IsPredicateOf k c.target p) (take i cs) ps (get_or cs i d) p each is)

-- a walk that stands reaches no limit
pub no_limit : (k : Kernel) (cs : List Claim) (i : ℕ) (d : Claim) (p : Conjuncts) → i < length cs → IsPredicateOf k (get_or cs i d).target p → first_limit k (drop i cs) ≡ first_limit k (drop (i + 1) cs)
no_limit k cs i d p within is =
    ap (first_limit k) (drop_more cs i d within) ∙ ap (λ w. option_or (limit_of w) (first_limit k (drop (i + 1) cs))) is.walked.1

-- and one that stops is the first limit
pub first_stops : (k : Kernel) (cs : List Claim) (i : ℕ) (d : Claim) (f : PreFault) → i < length cs → first_limit k cs ≡ first_limit k (drop i cs) → IsStop (walk_claim k (get_or cs i d).target) f → IsFirstLimit k cs f
first_stops k cs i d (walk.Wide at) within same e =
    inr ((Wide, at), refl, same ∙ ap (first_limit k) (drop_more cs i d within) ∙ ap (λ w. option_or (limit_of w) (first_limit k (drop (i + 1) cs))) e)
first_stops k cs i d (walk.Count at) within same e =
    inr ((Count, at), refl, same ∙ ap (first_limit k) (drop_more cs i d within) ∙ ap (λ w. option_or (limit_of w) (first_limit k (drop (i + 1) cs))) e)
first_stops k cs i d (walk.Work at) within same e =
    inr ((Work, at), refl, same ∙ ap (first_limit k) (drop_more cs i d within) ∙ ap (λ w. option_or (limit_of w) (first_limit k (drop (i + 1) cs))) e)
first_stops k cs i d walk.Memory within same e = inl refl

-- the same of the claim at a place of the list that is gone over
module _ (k : Kernel) (cs ds : List Claim) (i : ℕ) (d c : Claim) (same : ds ≡ cs) (within : i < length ds) (is : c ≡ get_or ds i d) where
  here : i < length cs
  here = subst (λ xs. i < length xs) same within

  there : c ≡ get_or cs i d
  there = is ∙ ap (λ xs. get_or xs i d) same

  pub predicates_more : (ps : List Conjuncts) (p : Conjuncts) → AllZip (λ c p. IsPredicateOf k c.target p) (take i cs) ps → IsPredicateOf k c.target p → first_limit k cs ≡ first_limit k (drop i cs)
      → AllZip (λ c p. IsPredicateOf k c.target p) (take (i + 1) cs) (ps ++ p ∷ []) × (first_limit k cs ≡ first_limit k (drop (i + 1) cs))
  predicates_more ps p each one so_far =
      let at : IsPredicateOf k (get_or cs i d).target p = subst (λ x. IsPredicateOf k x.target p) there one in
      (predicates_push k cs i d ps p here each at, so_far ∙ no_limit k cs i d p here at)

  pub limit_there : (f : PreFault) → first_limit k cs ≡ first_limit k (drop i cs) → IsStop (walk_claim k c.target) f → IsFirstLimit k cs f
  limit_there f so_far e = first_stops k cs i d f here so_far (subst (λ x. IsStop (walk_claim k x.target) f) there e)
