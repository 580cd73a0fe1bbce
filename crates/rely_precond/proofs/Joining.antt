-- A turn of `while`, as code takes it: what comes back through the body, and what stands behind the loop.
use Rattle.std.proofs.Common.{◌≡◌, ℕ, List, ◌++◌, map, filter, not, bit_and, ◌==◌, sym, ap, subst, ◌∙◌, inl, inr, append_assoc}
use Rattle.std.proofs.lemmas.List.{map-append}
use Rattle.rely_num.specs.declared.conj.Conj.{Conj}
use Rattle.rely_num.specs.declared.span.Span.{Span}
use Rattle.rely_kernel.specs.declared.kernel.StKind.{StKind}
use Rattle.rely_kernel.specs.Paths.{writes}
use Rattle.rely_kernel.specs.Text.{stmt_of}
use Rattle.rely_precond.specs.declared.fault.PreFault.{PreFault}
use Rattle.rely_precond.specs.Answers.{IsFull, IsStop}
use Rattle.rely_precond.specs.Places.{line_of}
use Rattle.rely_precond.specs.Walk.{stand, untouched, touched}
use Rattle.rely_precond.proofs.LineLemmas.{line_plain}
use Rattle.rely_precond.proofs.Plain.{full_stops}
use Rattle.rely_precond.proofs.Steps.{too_many_left, too_many_right}

pub full_left : (at : Span) (xs ys : List Conj) (f : PreFault) → IsFull at xs f → IsFull at (xs ++ ys) f
full_left at xs ys f (inl e) = inl e
full_left at xs ys f (inr h) = inr (h.0, too_many_left xs ys h.1)

pub full_right : (at : Span) (xs ys : List Conj) (f : PreFault) → IsFull at ys f → IsFull at (xs ++ ys) f
full_right at xs ys f (inl e) = inl e
full_right at xs ys f (inr h) = inr (h.0, too_many_right xs ys h.1)

module _ (at : Span) (test : Conj → Conj) (ps ts : List Conj) (work : ℕ) where
  both : map test (ps ++ ts) ≡ map test ps ++ map test ts
  both = map-append test ps ts

  pub through_stops : (qs : List Conj) (f : PreFault) → qs ≡ ps → IsFull at (map test qs) f → IsStop (stand at (map test (ps ++ ts)) work) f
  through_stops qs f e h =
      full_stops at (map test (ps ++ ts)) work f (subst (λ (xs : List Conj). IsFull at xs f) (sym both) (full_left at (map test ps) (map test ts) f (subst (λ (xs : List Conj). IsFull at (map test xs) f) e h)))

  pub joining_stops : (f : PreFault) → IsFull at (map test ts) f → IsStop (stand at (map test (ps ++ ts)) work) f
  joining_stops f h = full_stops at (map test (ps ++ ts)) work f (subst (λ (xs : List Conj). IsFull at xs f) (sym both) (full_right at (map test ps) (map test ts) f h))

  pub list_is : (again joining js list : List Conj) → again ≡ map test ps → js ≡ joining → joining ≡ map test ts → list ≡ again ++ js → list ≡ map test (ps ++ ts)
  list_is again joining js list a j b l = l ∙ ap (λ xs. xs ++ js) a ∙ ap (λ xs. map test ps ++ xs) (j ∙ b) ∙ sym both

-- ---- two branches beside the others

module _ (at : Span) (test : Conj → Conj) (us xs ys : List Conj) (work : ℕ) where
  two : us ++ map test (xs ++ ys) ≡ (us ++ map test xs) ++ map test ys
  two = ap (λ zs. us ++ zs) (map-append test xs ys) ∙ sym (append_assoc us (map test xs) (map test ys))

  pub first_stops : (qs : List Conj) (f : PreFault) → qs ≡ xs → IsFull at (map test qs) f → IsStop (stand at (us ++ map test (xs ++ ys)) work) f
  first_stops qs f e h =
      full_stops at (us ++ map test (xs ++ ys)) work f (subst (λ (zs : List Conj). IsFull at zs f) (sym two)
      (full_left at (us ++ map test xs) (map test ys) f (full_right at us (map test xs) f (subst (λ (zs : List Conj). IsFull at (map test zs) f) e h))))

  pub second_stops : (qs : List Conj) (f : PreFault) → qs ≡ ys → IsFull at (map test qs) f → IsStop (stand at (us ++ map test (xs ++ ys)) work) f
  second_stops qs f e h =
      full_stops at (us ++ map test (xs ++ ys)) work f (subst (λ (zs : List Conj). IsFull at zs f) (sym two)
      (full_right at (us ++ map test xs) (map test ys) f (subst (λ (zs : List Conj). IsFull at (map test zs) f) e h)))

  pub branches_are : (list longer ps qs : List Conj) → list ≡ us ++ map test ps → ps ≡ xs → longer ≡ list ++ map test qs → qs ≡ ys → longer ≡ us ++ map test (xs ++ ys)
  branches_are list longer ps qs l p m q = m ∙ ap (λ zs. zs ++ map test qs) (l ∙ ap (λ zs. us ++ map test zs) p) ∙ ap (λ zs. (us ++ map test xs) ++ map test zs) q ∙ sym two

-- ---- the two parts of a predicate

pub untouched_is : (what : StKind) (w : ℕ) (ps qs : List Conj) → w ≡ writes (stmt_of what) → ps ≡ qs → filter (λ c. bit_and w c.vars.bits == 0) ps ≡ untouched (line_of what) qs
untouched_is what w ps qs e same = ap (λ n. filter (λ (c : Conj). bit_and n c.vars.bits == 0) ps) (e ∙ ap writes (sym (line_plain what))) ∙ ap (untouched (line_of what)) same

pub touched_is : (what : StKind) (w : ℕ) (ps : List Conj) → w ≡ writes (stmt_of what) → filter (λ c. not (bit_and w c.vars.bits == 0)) ps ≡ touched (line_of what) ps
touched_is what w ps e = ap (λ n. filter (λ (c : Conj). not (bit_and n c.vars.bits == 0)) ps) (e ∙ ap writes (sym (line_plain what)))
