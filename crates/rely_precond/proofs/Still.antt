-- A statement that changes nothing, and one that changes something.
use Rattle.std.proofs.Common.{◌≡◌, ℕ, ◌<◌, Bool, true, false, not, ◌&&◌, List, [], ◌∷◌, ◌++◌, filter, flat_map, cond, length, refl, sym, ap, subst, ◌∙◌, inl, inr, arith, true≢false}
use Rattle.std.specs.List.{list_all}
use Rattle.std.proofs.lemmas.Bool.{and_parts, or_cases, or_parts}
use Rattle.rely_num.specs.declared.conj.Conj.{Conj}
use Rattle.rely_num.specs.declared.span.Span.{Span}
use Rattle.rely_kernel.specs.declared.kernel.Kernel.{Kernel}
use Rattle.rely_kernel.specs.declared.kernel.StKind.{StKind}
use Rattle.rely_kernel.specs.Paths.{past, paths, skips}
use Rattle.rely_kernel.specs.Text.{Stmt, stmt_of}
use Rattle.rely_precond.specs.InRange.{is_plain}
use Rattle.rely_precond.specs.Inside.{is_idle, stands_still}
use Rattle.rely_precond.specs.Places.{line_of}
use Rattle.rely_precond.specs.Walk.{changed, stand, touched, untouched, walk}
use Rattle.rely_precond.proofs.Insides.{idle_is, walk_empty}
use Rattle.rely_precond.proofs.LineLemmas.{line_plain}
use Rattle.rely_precond.proofs.Plain.{walk_plain_is}
use Rattle.rely_precond.proofs.Steps.{through_is}

-- ---- lists of which all pass, and others

all_kept : (p : Conj → Bool) (cs : List Conj) → list_all p cs ≡ true → filter p cs ≡ cs
all_kept p [] h = refl
all_kept p (c ∷ cs) h =
    let r = and_parts (p c) (list_all p cs) h in
    ap (λ b. cond b (c ∷ filter p cs) (filter p cs)) r.0 ∙ ap (λ xs. c ∷ xs) (all_kept p cs r.1)

none_left : (p : Conj → Bool) (cs : List Conj) → list_all p cs ≡ true → filter (λ c. not (p c)) cs ≡ []
none_left p [] h = refl
none_left p (c ∷ cs) h =
    let r = and_parts (p c) (list_all p cs) h in
    let q : Conj → Bool = λ d. not (p d) in
    ap (λ b. cond (not b) (c ∷ filter q cs) (filter q cs)) r.0 ∙ none_left p cs r.1

some_left : (p : Conj → Bool) (cs : List Conj) → list_all p cs ≡ false → 0 < length (filter (λ c. not (p c)) cs)
some_left p [] h = absurd (true≢false h)
some_left p (c ∷ cs) h = by_test (λ k. some_left p cs k) (p c) refl h
  where
    by_test : (list_all p cs ≡ false → 0 < length (filter (λ d. not (p d)) cs)) → (b : Bool) → p c ≡ b → (b && list_all p cs) ≡ false
        → 0 < length (filter (λ d. not (p d)) (c ∷ cs))
    by_test rest true e k = rw e (rest k)
    by_test rest false e k = rw e (omega arith)

-- ---- the walk

module _ (k : Kernel) (at : Span) (what : StKind) (ps : List Conj) (work : ℕ) where
  abbrev s : Stmt
  s = stmt_of what

  past_all : (cs : List Conj) → list_all (skips s) cs ≡ true → flat_map (λ c. past (skips s c) (paths k s) c) cs ≡ cs
  past_all [] h = refl
  past_all (c ∷ cs) h =
      let r = and_parts (skips s c) (list_all (skips s) cs) h in
      ap (λ b. past b (paths k s) c ++ flat_map (λ d. past (skips s d) (paths k s) d) cs) r.0 ∙ ap (λ xs. c ∷ xs) (past_all cs r.1)

  module _ (all : list_all (skips s) ps ≡ true) where
    changes_nothing : changed k (line_of what) ps ≡ ps
    changes_nothing = through_is k what ps ∙ past_all ps all

    others_are : ps ≡ untouched (line_of what) ps
    others_are = sym (ap (λ (x : Stmt). filter (skips x) ps) (line_plain what) ∙ all_kept (skips s) ps all)

    own_are : [] ≡ touched (line_of what) ps
    own_are = sym (ap (λ (x : Stmt). filter (λ c. not (skips x c)) ps) (line_plain what) ∙ none_left (skips s) ps all)

    passes_by : (plain idle : Bool) → is_plain s ≡ plain → is_idle s ≡ idle → stand at ps work ≡ walk k at (line_of what) ps work
    passes_by true idle e f = ap (λ qs. stand at qs work) (sym changes_nothing) ∙ walk_plain_is k at what ps work e
    passes_by false true e f = idle_is k at what ps work f
    passes_by false false e f = walk_empty k at what ps work e f ps [] others_are own_are refl

  pub still_is : stands_still s ps ≡ true → stand at ps work ≡ walk k at (line_of what) ps work
  still_is h = elim (or_cases (is_idle s) (list_all (skips s) ps) h) [
    | inl e ↦ idle_is k at what ps work e
    | inr e ↦ passes_by e (is_plain s) (is_idle s) refl refl
  ]

  pub is_busy : stands_still s ps ≡ false → is_idle s ≡ false
  is_busy h = (or_parts (is_idle s) (list_all (skips s) ps) h).0

  pub some_own : (ts : List Conj) → stands_still s ps ≡ false → ts ≡ touched (line_of what) ps → 0 < length ts
  some_own ts h e =
      subst (λ (xs : List Conj). 0 < length xs) (sym (e ∙ ap (λ (x : Stmt). filter (λ c. not (skips x c)) ps) (line_plain what)))
      (some_left (skips s) ps (or_parts (is_idle s) (list_all (skips s) ps) h).1)
