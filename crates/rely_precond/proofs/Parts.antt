-- Parts of a predicate, and the counts of what a step makes of it.
use Rattle.std.proofs.Common.{◌≡◌, ℕ, ◌≤◌, Bool, true, false, List, [], ◌∷◌, ◌++◌, map, filter, flat_map, cond, length, sym, ap, subst, ◌∙◌, inl, inr, arith}
use Rattle.std.specs.List.{All}
use Rattle.std.proofs.lemmas.List.Elements.{All-from_recursion, recursion_from_All}
use Rattle.rely_num.specs.declared.conj.Conj.{Conj}
use Rattle.rely_kernel.specs.declared.kernel.Kernel.{Kernel}
use Rattle.rely_kernel.specs.declared.kernel.StKind.{StKind}
use Rattle.rely_kernel.specs.Paths.{skips, past, paths, use_of, at_start}
use Rattle.rely_kernel.specs.Text.{Expr, stmt_of}
use Rattle.rely_predicate.specs.Predicates.{Conjuncts, IsPredicate}
use Rattle.rely_predicate.specs.Top.{top}
use Rattle.rely_predicate.proofs.Tops.{In, in_filter, in_append, all_in, all_at, Sorted, Uncovered, top_is, top_only}
use Rattle.rely_predicate.proofs.Laws.{in_map, in_flat}
use Rattle.rely_precond.specs.Places.{line_of}
use Rattle.rely_precond.specs.Walk.{changed}
use Rattle.rely_precond.proofs.Limits.{filter_length}
use Rattle.rely_precond.proofs.Shape.{use_long, paths_long, past_long}
use Rattle.rely_precond.proofs.Steps.{through_is}

-- ---- part of a top is its own top

sorted_filter : (p : Conj → Bool) (xs : List Conj) → Sorted xs → Sorted (filter p xs)
sorted_filter p [] h = tt
sorted_filter p (x ∷ xs) h = go (p x) (sorted_filter p xs h.1)
  where
    go : (b : Bool) → Sorted (filter p xs) → Sorted (cond b (x ∷ filter p xs) (filter p xs))
    go true rest = (λ d m. h.0 d (in_filter p xs d m).0, rest)
    go false rest = rest

pub top_filter : (p : Conj → Bool) (xs : List Conj) → top xs ≡ xs → top (filter p xs) ≡ filter p xs
top_filter p xs own =
    let sorted : Sorted xs = subst Sorted own (top_is xs).sorted in
    let uncovered : (c : Conj) → In c xs → Uncovered xs c = λ c m. (top_is xs).uncovered c (subst (λ (ys : List Conj). In c ys) (sym own) m) in
    sym (top_only (filter p xs) (filter p xs) record {
      member = λ c m. m;
      uncovered = λ c m d n over. uncovered c (in_filter p xs c m).0 d (in_filter p xs d n).0 over;
      each = λ c m u. m;
      sorted = sorted_filter p xs sorted;
    })

-- ---- each has one count for each label

abbrev pub Counted : ℕ → List Conj → Type 0
Counted labels cs = All (λ c. length c.counts ≡ labels) cs

counted_at : (labels : ℕ) (cs : List Conj) (c : Conj) → Counted labels cs → In c cs → length c.counts ≡ labels
counted_at labels cs c h m = all_at (λ d. length d.counts ≡ labels) cs c (recursion_from_All (λ d. length d.counts ≡ labels) cs h) m

pub counted_in : (labels : ℕ) (cs : List Conj) → ((c : Conj) → In c cs → length c.counts ≡ labels) → Counted labels cs
counted_in labels cs h = All-from_recursion (λ d. length d.counts ≡ labels) cs (all_in (λ d. length d.counts ≡ labels) cs h)

pub counted_filter : (labels : ℕ) (p : Conj → Bool) (cs : List Conj) → Counted labels cs → Counted labels (filter p cs)
counted_filter labels p cs h = counted_in labels (filter p cs) (λ c m. counted_at labels cs c h (in_filter p cs c m).0)

pub counted_append : (labels : ℕ) (xs ys : List Conj) → Counted labels xs → Counted labels ys → Counted labels (xs ++ ys)
counted_append labels xs ys h j = counted_in labels (xs ++ ys) (λ c m. elim (in_append xs ys c m) [
  | inl a ↦ counted_at labels xs c h a
  | inr b ↦ counted_at labels ys c j b
])

pub counted_test : (k : Kernel) (e : Expr) (labels : ℕ) (cs : List Conj) → Counted labels cs → Counted labels (map (use_of k e) cs)
counted_test k e labels cs h = counted_in labels (map (use_of k e) cs) (λ c m.
    let r = in_map (use_of k e) cs c m in
    ap (λ d. length d.counts) (sym r.to) ∙ use_long k e r.from ∙ counted_at labels cs r.from h r.member)

pub counted_changed : (k : Kernel) (what : StKind) (labels : ℕ) (cs : List Conj) → Counted labels cs → Counted labels (changed k (line_of what) cs)
counted_changed k what labels cs h = subst (Counted labels) (sym (through_is k what cs)) (counted_in labels (flat_map go cs) (λ c m.
    let r = in_flat go cs c m in
    past_long k (paths k (stmt_of what)) (paths_long k (stmt_of what)) (skips (stmt_of what) r.from) r.from c r.to ∙ counted_at labels cs r.from h r.member))
  where
    go : Conj → List Conj
    go c = past (skips (stmt_of what) c) (paths k (stmt_of what)) c

-- ---- part of a predicate, as code takes it

module _ (p : Conjuncts) (valid : IsPredicate p) (f : Conj → Bool) (xs items : List Conj) (same : xs ≡ p.conjs) (part : items ≡ filter f xs) where
  part_is : items ≡ filter f p.conjs
  part_is = part ∙ ap (filter f) same

  pub part_counted : (labels : ℕ) → labels ≡ p.labels → Counted labels items
  part_counted labels e =
      subst (λ (n : ℕ). Counted n items) (sym e) (subst (Counted p.labels) (sym part_is) (counted_filter p.labels f p.conjs valid.counted))

  pub part_short : length items ≤ 256
  part_short = let e = ap length part_is in let l = filter_length f p.conjs in let s = valid.short in omega arith

  pub part_top : top items ≡ filter f p.conjs
  part_top = ap top part_is ∙ top_filter f p.conjs valid.own_top

-- conjuncts of one shape
pub each_counted : (labels : ℕ) (cs ds : List Conj) → Counted labels cs → Counted labels ds → All (λ c. All (λ d. length d.counts ≡ length c.counts) ds) cs
each_counted labels cs ds h j =
    All-from_recursion (λ c. All (λ d. length d.counts ≡ length c.counts) ds) cs
    (all_in (λ c. All (λ d. length d.counts ≡ length c.counts) ds) cs (λ c m. All-from_recursion (λ d. length d.counts ≡ length c.counts) ds (all_in (λ d. length d.counts ≡ length c.counts) ds (λ d n.
    counted_at labels ds d j n ∙ sym (counted_at labels cs c h m)))))

-- the start of the function keeps the counts
pub counted_start : (k : Kernel) (labels : ℕ) (cs items : List Conj) → items ≡ map (at_start k) cs → Counted labels cs → Counted labels items
counted_start k labels cs items e h = subst (Counted labels) (sym e) (counted_in labels (map (at_start k) cs) (λ c m.
    let r = in_map (at_start k) cs c m in
    ap (λ d. length d.counts) (sym r.to) ∙ counted_at labels cs r.from h r.member))
