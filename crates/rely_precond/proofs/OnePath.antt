-- The one path through a statement that is neither a choice nor a loop, as code finds it.
use Rattle.std.proofs.Common.{◌≡◌, ℕ, ◌<◌, ◌^◌, false, nat_le, List, [], ◌∷◌, length, get_or, Some, None, slice_get, IsTrue, Option, sym, ap, subst, ◌∙◌}
use Rattle.std.specs.List.{list_any}
use Rattle.std.specs.Option.{IfSome, option_map_or}
use Rattle.std.proofs.lemmas.Bool.{or_left}
use Rattle.std.proofs.lemmas.Option.{slice_get-get_or}
use Rattle.rely_num.specs.declared.conj.Conj.{Conj}
use Rattle.rely_kernel.specs.declared.kernel.CallSite.{CallSite}
use Rattle.rely_kernel.specs.declared.kernel.Kernel.{Kernel}
use Rattle.rely_kernel.specs.declared.kernel.Ex.{Ex}
use Rattle.rely_kernel.specs.declared.kernel.StKind.{StKind}
use Rattle.rely_kernel.specs.declared.kernel.StKind.TheVariants as st
use Rattle.rely_kernel.specs.declared.label.Label.TheVariants as label
use Rattle.rely_kernel.specs.Paths.{count, forget, use_of, uses_of, paths}
use Rattle.rely_kernel.specs.Text.{Stmt, expr_of, exprs_of, stmt_of}
use Rattle.rely_loops.specs.Grown.{too_many}
use Rattle.rely_precond.specs.Answers.{IsOver}
use Rattle.rely_precond.specs.InRange.{StmtInRange}
use Rattle.rely_precond.proofs.Bumps.{over_count, over_use, over_uses_all}

-- a list with a conjunct over the limit
over_list : (x : Conj) → IsOver x → IsTrue (too_many (x ∷ []))
over_list x h = or_left (list_any (nat_le (2 ^ 36)) x.counts) false h.some

module _ (k : Kernel) (what : StKind) (c : Conj) where
  abbrev Full : Type 0
  Full = IsTrue (too_many (paths k (stmt_of what) c))

  full_as : (s : Stmt) → stmt_of what ≡ s → IsTrue (too_many (paths k s c)) → Full
  full_as s is h = subst (λ (s : Stmt). IsTrue (too_many (paths k s c))) (sym is) h

  pub set_full : (v : ℕ) (e : Ex) → what ≡ st.Set v e → IsOver (count k (label.Write v) (forget v c)) → Full
  set_full v e is h = full_as (Stmt.Set v (expr_of e)) (ap stmt_of is) (over_list (use_of k (expr_of e) (count k (label.Write v) (forget v c))) (over_use k (expr_of e) (count k (label.Write v) (forget v c)) h))

  pub elem_late : (a : ℕ) (i e : Ex) → what ≡ st.SetElem a i e → IsOver (use_of k (expr_of e) (count k (label.Write a) c)) → Full
  elem_late a i e is h =
      let d : Conj = use_of k (expr_of e) (count k (label.Write a) c) in
      full_as (Stmt.SetElem a (expr_of i) (expr_of e)) (ap stmt_of is) (over_list (use_of k (expr_of i) d) (over_use k (expr_of i) d h))

  pub elem_full : (a : ℕ) (i e : Ex) → what ≡ st.SetElem a i e → IsOver (count k (label.Write a) c) → Full
  elem_full a i e is h = elem_late a i e is (over_use k (expr_of e) (count k (label.Write a) c) h)

  pub call_late : (v place : ℕ) (es : List Ex) → what ≡ st.Call v place es → IsOver (count k (label.Call place) (count k (label.Write v) (forget v c))) → Full
  call_late v place es is h =
      let d : Conj = count k (label.Call place) (count k (label.Write v) (forget v c)) in
      full_as (Stmt.Call v place (exprs_of es)) (ap stmt_of is)
      (over_list (uses_of k (option_map_or (λ site. site.needs.bits) (slice_get k.calls place) 0) 0 (exprs_of es) d) (over_uses_all k (option_map_or (λ site. site.needs.bits) (slice_get k.calls place) 0) 0 (exprs_of es) d h))

  pub call_full : (v place : ℕ) (es : List Ex) → what ≡ st.Call v place es → IsOver (count k (label.Write v) (forget v c)) → Full
  call_full v place es is h = call_late v place es is (over_count k (label.Call place) (count k (label.Write v) (forget v c)) h)

  call_in_range : (v place : ℕ) (es : List Ex) → what ≡ st.Call v place es → StmtInRange k (stmt_of what) → place < length k.calls
  call_in_range v place es is r = (subst (λ (s : Stmt). StmtInRange k s) (ap stmt_of is) r).1

  -- the needs that code reads
  call_needs : (v place : ℕ) (es : List Ex) (site : CallSite) → what ≡ st.Call v place es → StmtInRange k (stmt_of what) → site ≡ get_or k.calls place site
      → option_map_or (λ x. x.needs.bits) (slice_get k.calls place) 0 ≡ site.needs.bits
  call_needs v place es site is r at =
      ap (λ o. option_map_or (λ (x : CallSite). x.needs.bits) o 0) (slice_get-get_or k.calls place site (call_in_range v place es is r)) ∙ ap (λ (x : CallSite). x.needs.bits) (sym at)

  pub call_path : (v place : ℕ) (es : List Ex) (site : CallSite) (d : Conj) → what ≡ st.Call v place es → StmtInRange k (stmt_of what) → site ≡ get_or k.calls place site
      → d ≡ count k (label.Call place) (count k (label.Write v) (forget v c)) → paths k (stmt_of what) c ≡ uses_of k site.needs.bits 0 (exprs_of es) d ∷ []
  call_path v place es site d is r at grown =
      ap (λ s. paths k s c) (ap stmt_of is)
      ∙ ap (λ x. x ∷ []) (ap (λ n. uses_of k n 0 (exprs_of es) (count k (label.Call place) (count k (label.Write v) (forget v c)))) (call_needs v place es site is r at) ∙ ap (uses_of k site.needs.bits 0 (exprs_of es)) (sym grown))

-- one path, where it is found
pub path_found : (r : Option Conj) (x : Conj) (ps : List Conj) → ps ≡ x ∷ [] → IfSome r (λ d. d ≡ x) → IfSome r (λ d. ps ≡ d ∷ [])
path_found None x ps e h = tt
path_found (Some d) x ps e h = e ∙ ap (λ y. y ∷ []) (sym h)

pub path_over : (x : Conj) (ps : List Conj) → ps ≡ x ∷ [] → IsOver x → IsTrue (too_many ps)
path_over x ps e h = subst (λ (qs : List Conj). IsTrue (too_many qs)) (sym e) (over_list x h)
