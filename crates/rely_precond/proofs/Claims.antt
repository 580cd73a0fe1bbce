-- The predicate of a claim, as code finds it at the start of the function.
use Rattle.std.proofs.Common.{◌≡◌, ℕ, ◌<◌, ◌^◌, false, List, [], ◌∷◌, map, length, slice_get, is_none, is_some, nat_le, Result, Ok, Err, IsTrue, sym, ap, subst, ◌∙◌, inl, inr, arith, true≢false}
use Rattle.std.specs.List.{All, AllByRecursion, list_any}
use Rattle.std.specs.Option.{option_map_or}
use Rattle.std.specs.Result.{IfOk}
use Rattle.std.proofs.lemmas.Bool.{or_parts, leb-false}
use Rattle.std.proofs.lemmas.Option.{slice_get_cases}
use Rattle.std.proofs.lemmas.List.Elements.{All-from_recursion}
use Rattle.rely_num.specs.declared.conj.Conj.{Conj}
use Rattle.rely_kernel.specs.declared.kernel.Kernel.{Kernel}
use Rattle.rely_kernel.specs.Labels.{labels_of}
use Rattle.rely_kernel.specs.Paths.{claimed, at_start, paths_of}
use Rattle.rely_kernel.specs.Text.{Expr, Stmt, Block, done, ◌then◌}
use Rattle.rely_kernel.specs.Valid.{ExprFits, AllFit, StmtFits, BlockFits, BodyFits}
use Rattle.rely_loops.specs.Grown.{too_many}
use Rattle.rely_predicate.specs.Predicates.{Conjuncts}
use Rattle.rely_predicate.specs.Top.{top}
use Rattle.rely_predicate.proofs.Tops.{In, none_passes, none_from, all_in}
use Rattle.rely_predicate.proofs.Laws.{in_map, top_one}
use Rattle.rely_precond.specs.declared.fault.PreFault.{PreFault}
use Rattle.rely_precond.specs.Answers.{IsStop, AreCounts, IsPredicateOf}
use Rattle.rely_precond.specs.InRange.{ExprInRange, StmtInRange, BlockInRange}
use Rattle.rely_precond.specs.Places.{lines_of}
use Rattle.rely_precond.specs.Walk.{Walked, Stands, walk_all, walk_claim}
use Rattle.rely_precond.proofs.Law.{On, walk_claim_is}
use Rattle.rely_precond.proofs.Limits.{Fits, small_top, claimed_fits, walk_all_fits, top_paths_long, top_paths_some}
use Rattle.rely_precond.proofs.Turning.{then_stops, then_goes}

-- ---- numbers in range, from those of a valid function

scalar_in_range : (k : Kernel) (v : ℕ) → IsTrue (option_map_or (λ x. is_none x.length) (slice_get k.vars v) false) → v < length k.vars
scalar_in_range k v h = elim (slice_get_cases k.vars v).1 [
  | inl x ↦ x.1
  | inr x ↦ absurd (true≢false (sym h ∙ ap (λ o. option_map_or (λ x. is_none x.length) o false) x.1))
]

array_in_range : (k : Kernel) (v : ℕ) → IsTrue (option_map_or (λ x. is_some x.length) (slice_get k.vars v) false) → v < length k.vars
array_in_range k v h = elim (slice_get_cases k.vars v).1 [
  | inl x ↦ x.1
  | inr x ↦ absurd (true≢false (sym h ∙ ap (λ o. option_map_or (λ x. is_some x.length) o false) x.1))
]

module _ (k : Kernel) where
  expr_range : (e : Expr) → ExprFits k e → ExprInRange k e
  expr_range (Expr.Num z) h = tt
  expr_range (Expr.Read v) h = scalar_in_range k v h
  expr_range (Expr.Elem a i) h = (array_in_range k a h.0, expr_range i h.1)
  expr_range (Expr.Bin site x y) h = (expr_range x h.1, expr_range y h.2)

  all_range : (es : List Expr) → AllFit k es → AllByRecursion (ExprInRange k) es
  all_range [] h = tt
  all_range (e ∷ es) h = (expr_range e h.0, all_range es h.1)

  mutual
    stmt_range : (s : Stmt) → StmtFits k s → StmtInRange k s
    stmt_range (Stmt.Set v e) h = (scalar_in_range k v h.0, expr_range e h.1)
    stmt_range (Stmt.SetElem a i e) h = (array_in_range k a h.0, expr_range i h.1, expr_range e h.2)
    stmt_range (Stmt.If c s t) h = (expr_range c h.0, block_range s h.1, block_range t h.2)
    stmt_range (Stmt.While c n s) h = (expr_range c h.0, block_range s h.1)
    stmt_range (Stmt.Repeat n s) h = block_range s h
    stmt_range (Stmt.Result e) h = absurd h
    stmt_range (Stmt.Call v place es) h = (scalar_in_range k v h.0, h.1, all_range es h.2)
    stmt_range Stmt.Enter h = absurd h

    block_range : (x : Block) → BlockFits k x → BlockInRange k x
    block_range done h = tt
    block_range (s then rest) h = (stmt_range s h.0, block_range rest h.1)

  pub body_range : (x : Block) → BodyFits k x → BlockInRange k x
  body_range done h = absurd h
  body_range (Stmt.Result e then done) h = (expr_range e h, tt)
  body_range (Stmt.Result e then (s then rest)) h = absurd h.0
  body_range (Stmt.Set v e then rest) h = (stmt_range (Stmt.Set v e) h.0, body_range rest h.1)
  body_range (Stmt.SetElem a i e then rest) h = (stmt_range (Stmt.SetElem a i e) h.0, body_range rest h.1)
  body_range (Stmt.If c s t then rest) h = (stmt_range (Stmt.If c s t) h.0, body_range rest h.1)
  body_range (Stmt.While c n s then rest) h = (stmt_range (Stmt.While c n s) h.0, body_range rest h.1)
  body_range (Stmt.Repeat n s then rest) h = (stmt_range (Stmt.Repeat n s) h.0, body_range rest h.1)
  body_range (Stmt.Call v place es then rest) h = (stmt_range (Stmt.Call v place es) h.0, body_range rest h.1)
  body_range (Stmt.Enter then rest) h = absurd h.0

-- ---- from the start of the walk

pub start_is : (k : Kernel) (target : ℕ) (items ps : List Conj) → items ≡ claimed k target ∷ [] → ps ≡ top items → ps ≡ claimed k target ∷ []
start_is k target items ps e h = h ∙ ap top e ∙ top_one (claimed k target)

pub claim_stops : (k : Kernel) (target : ℕ) (f : PreFault) → IsStop (walk_all k (lines_of k.body) (claimed k target ∷ []) 0) f → IsStop (walk_claim k target) f
unfolding walk_claim
claim_stops k target f h = then_stops (walk_all k (lines_of k.body) (claimed k target ∷ []) 0) f (λ p w. Stands (top (map (at_start k) p)) w) h

pub claim_stands : (k : Kernel) (target : ℕ) (q : List Conj) (w : ℕ) → walk_all k (lines_of k.body) (claimed k target ∷ []) 0 ≡ Stands q w → walk_claim k target ≡ Stands (top (map (at_start k) q)) w
unfolding walk_claim
claim_stands k target q w e = then_goes (walk_all k (lines_of k.body) (claimed k target ∷ []) 0) q w (λ p v. Stands (top (map (at_start k) p)) v) e

-- ---- counts below the limit

counts_below : (ns : List ℕ) → list_any (nat_le (2 ^ 36)) ns ≡ false → AllByRecursion (λ n. n < 2 ^ 36) ns
counts_below [] h = tt
counts_below (n ∷ ns) h = let p = or_parts (nat_le (2 ^ 36) n) (list_any (nat_le (2 ^ 36)) ns) h in (leb-false (2 ^ 36) n p.0, counts_below ns p.1)

conj_below : (ps : List Conj) → too_many ps ≡ false → (c : Conj) → In c ps → All (λ n. n < 2 ^ 36) c.counts
conj_below ps h c m = All-from_recursion (λ n. n < 2 ^ 36) c.counts (counts_below c.counts (none_passes (λ d. list_any (nat_le (2 ^ 36)) d.counts) ps h c m))

start_small : (k : Kernel) (qs : List Conj) → too_many qs ≡ false → too_many (map (at_start k) qs) ≡ false
start_small k qs h = none_from (λ d. list_any (nat_le (2 ^ 36)) d.counts) (map (at_start k) qs) (λ d m.
    let r = in_map (at_start k) qs d m in
    ap (λ x. list_any (nat_le (2 ^ 36)) x.counts) (sym r.to) ∙ none_passes (λ d. list_any (nat_le (2 ^ 36)) d.counts) qs h r.from r.member)

in_some : (xs : List Conj) (c : Conj) → In c xs → 0 < length xs
in_some [] c m = absurd m
in_some (x ∷ xs) c m = omega arith

-- ---- the predicate

pub found : (k : Kernel) (target : ℕ) (q : List Conj) (w : ℕ) → walk_all k (lines_of k.body) (claimed k target ∷ []) 0 ≡ Stands q w
    → (items : List Conj) → items ≡ map (at_start k) q → (p : Conjuncts) → p.conjs ≡ top items → p.labels ≡ labels_of k → IsPredicateOf k target p
found k target q w e items is p conjs labels =
    let walked : walk_claim k target ≡ Stands p.conjs w = claim_stands k target q w e ∙ ap (λ cs. Stands (top cs) w) (sym is) ∙ ap (λ cs. Stands cs w) (sym conjs) in
    let tops : p.conjs ≡ top (paths_of k target) = walk_claim_is k target p.conjs w walked in
    let fits : Fits q = subst (λ (x : Walked). On x Fits) e (walk_all_fits k (lines_of k.body) (claimed k target ∷ []) 0 (claimed_fits k target)) in
    let small : too_many p.conjs ≡ false = ap too_many (conjs ∙ ap top is) ∙ small_top (map (at_start k) q) (start_small k q fits.small) in
    let one = top_paths_some k target in
    record {
      walked = (w, walked);
      top = tops;
      labels = labels;
      some = in_some p.conjs one.0 (subst (λ (cs : List Conj). In one.0 cs) (sym tops) one.1);
      counts = All-from_recursion (AreCounts (labels_of k)) p.conjs (all_in (AreCounts (labels_of k)) p.conjs (λ c m.
          (top_paths_long k target c (subst (λ (cs : List Conj). In c cs) tops m), conj_below p.conjs small c m)));
    }

pub ok_both : {A E : Type 0} → (r : Result A E) (P Q R : A → Type 0) → IfOk r P → IfOk r Q → ((x : A) → P x → Q x → R x) → IfOk r R
ok_both (Ok x) P Q R p q f = f x p q
ok_both (Err e) P Q R p q f = tt
