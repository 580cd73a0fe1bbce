-- The numbers of a kernel's body are in range.
use Rattle.std.specs.Prelude.{pos, is_none, is_some, not, unwrap_or, slice_get, IsTrue, FitsSigned}
use Rattle.std.specs.Int.{w64}
use Rattle.std.specs.List.{AllByRecursion}
use Rattle.std.specs.Option.{option_map_or}
use Rattle.std.proofs.Common.{◌≡◌, ℕ, zero, suc, ◌+◌, ◌^◌, ◌<◌, ◌≤◌, true, false, List, [], ◌∷◌, ◌++◌, length, Option, Some, None, refl, sym, ap, subst, ◌∙◌, arith}
use Rattle.std.proofs.lemmas.Int.{fits_signed_from_abs}
use Rattle.std.proofs.lemmas.Bool.{not-false}
use Rattle.std.proofs.lemmas.List.{length-map}
use Rattle.rely_hard.specs.declared.hardware.Hardware.{Hardware}
use Rattle.rely_kernel.specs.declared.kernel.Kernel.{Kernel}
use Rattle.rely_kernel.specs.declared.kernel.Var.{Var}
use Rattle.rely_kernel.specs.Text.{Stmt, ◌then◌, expr_of, exprs_of, stmt_of, block_of}
use Rattle.rely_kernel.specs.Valid as kernel
use Rattle.rely_kernel.specs.Valid.{is_scalar, ExprFits, AllFit, StmtFits, BlockFits, BodyFits}
use Rattle.rely_kernel.proofs.TextLemmas.{text-If, text-While, text-Repeat, text-Elem, text-Bin}
use Rattle.rely_tree.specs.Tree.{IdentTree, ExprTree, NumTree, NameTree, ElemTree, BinTree, StmtTree, SetTree, SetElemTree, IfTree, WhileTree, RepeatTree, ReturnTree, CallTree, Block, ended, also, DeclTree, FuncTree}
use Rattle.rely_tree.specs.Counts.{expr_operators, exprs_operators, stmt_operators, block_operators, stmt_calls, block_calls}
use Rattle.rely_resolve.specs.Faults.{when, scalar_faults, array_faults, kind_faults, expr_faults, exprs_faults, callee_faults, stmt_faults, block_faults}
use Rattle.rely_resolve.specs.Kernels.{ex_of, exs_of, kind_of, sts_of}
use Rattle.rely_tree.specs.Limits.{IsExpr, IsStmt, AreStmts, IsBody}
use Rattle.rely_resolve.specs.Names.{place_of, number_of, names, is_array}
use Rattle.rely_resolve.specs.declared.fault.NameFault.TheVariants as fault
use Rattle.rely_resolve.proofs.ValidNames.{both_empty, when_off, place_within}
use Rattle.rely_resolve.proofs.ValidVars.{vars_of, told_by_length}

fits_small : (n : ℕ) → n < 2 ^ 63 → FitsSigned w64 (pos n)
fits_small n h = fits_signed_from_abs w64 (pos n) (omega arith)

-- ---- scalars and arrays

not_some : (o : Option ℕ) → is_some o ≡ false → is_none o ≡ true
not_some None e = refl
not_some (Some n) e = absurd (cc)

scalar_at : (vs : List DeclTree) (v : ℕ) → v < length vs → is_array vs v ≡ false → option_map_or (λ d. is_none d.length) (slice_get vs v) false ≡ true
scalar_at [] v l e = absurd (omega (arith, l))
scalar_at (d ∷ vs) zero l e = not_some d.length e
scalar_at (d ∷ vs) (suc v) l e = scalar_at vs v (omega (arith, l)) e

module _ (h : Hardware) (earlier : List FuncTree) (ps ls : List DeclTree) (k : Kernel) (is : k.vars ≡ vars_of h ps ls) where
  scalar_named : (i : IdentTree) → scalar_faults (ps ++ ls) i ≡ [] → IsTrue (is_scalar k (number_of i.text (names (ps ++ ls))))
  scalar_named i = go (place_of i.text (names (ps ++ ls))) (place_within i.text (names (ps ++ ls)))
    where
      go : (o : Option ℕ) → ((v : ℕ) → o ≡ Some v → v < length (names (ps ++ ls))) → option_map_or (λ v. when (is_array (ps ++ ls) v) (fault.NotScalar i.span)) o (fault.Unknown i.span ∷ []) ≡ [] → IsTrue (is_scalar k (unwrap_or o 0))
      go None w e = absurd (cc)
      go (Some v) w e =
          let l : length (names (ps ++ ls)) ≡ length (ps ++ ls) = length-map (ps ++ ls) (λ (d : DeclTree). d.name.text) in
          let b = w v refl in
          ap (λ (vs : List Var). option_map_or (λ x. is_none x.length) (slice_get vs v) false) is ∙ told_by_length is_none h ps ls v
          ∙ scalar_at (ps ++ ls) v (omega arith) (when_off (is_array (ps ++ ls) v) (fault.NotScalar i.span) e)

  array_named : (i : IdentTree) → array_faults (ps ++ ls) i ≡ [] → IsTrue (kernel.is_array k (number_of i.text (names (ps ++ ls))))
  array_named i = go (place_of i.text (names (ps ++ ls)))
    where
      go : (o : Option ℕ) → option_map_or (λ v. when (not (is_array (ps ++ ls) v)) (fault.NotArray i.span)) o (fault.Unknown i.span ∷ []) ≡ [] → IsTrue (kernel.is_array k (unwrap_or o 0))
      go None e = absurd (cc)
      go (Some v) e =
          ap (λ (vs : List Var). option_map_or (λ x. is_some x.length) (slice_get vs v) false) is ∙ told_by_length is_some h ps ls v
          ∙ not-false (is_array (ps ++ ls) v) (when_off (not (is_array (ps ++ ls) v)) (fault.NotArray i.span) e)

  -- ---- expressions

  expr_fits : (n : ℕ) (e : ExprTree) → expr_faults h (ps ++ ls) e ≡ [] → IsExpr e → n + expr_operators e ≤ length k.sites → ExprFits k (expr_of (ex_of (names (ps ++ ls)) n e))
  expr_fits n (NumTree z) f x s = fits_small z x
  expr_fits n (NameTree i) f x s = scalar_named i f
  expr_fits n (ElemTree i e) f x s =
      let (a, b) = both_empty (array_faults (ps ++ ls) i) (expr_faults h (ps ++ ls) e) f in
      subst (ExprFits k) (sym (text-Elem (number_of i.text (names (ps ++ ls))) (ex_of (names (ps ++ ls)) n e))) (array_named i a, expr_fits n e b x s)
  expr_fits n (BinTree op span kind l r) f x s =
      let (ab, c) = both_empty (expr_faults h (ps ++ ls) l ++ kind_faults h op span kind) (expr_faults h (ps ++ ls) r) f in
      let (a, b) = both_empty (expr_faults h (ps ++ ls) l) (kind_faults h op span kind) ab in
      subst (ExprFits k) (sym (text-Bin (n + expr_operators l) (ex_of (names (ps ++ ls)) n l) (ex_of (names (ps ++ ls)) (n + expr_operators l + 1) r)))
      (omega (arith, s), expr_fits n l a x.0 (omega (arith, s)), expr_fits (n + expr_operators l + 1) r c x.1 (omega (arith, s)))

  exprs_fit : (n : ℕ) (es : List ExprTree) → exprs_faults h (ps ++ ls) es ≡ [] → AllByRecursion IsExpr es → n + exprs_operators es ≤ length k.sites → AllFit k (exprs_of (exs_of (names (ps ++ ls)) n es))
  exprs_fit n [] f x s = tt
  exprs_fit n (e ∷ es) f x s =
      let (a, b) = both_empty (expr_faults h (ps ++ ls) e) (exprs_faults h (ps ++ ls) es) f in
      (expr_fits n e a x.0 (omega (arith, s)), exprs_fit (n + expr_operators e) es b x.1 (omega (arith, s)))

  -- ---- statements

  mutual
    stmt_fits : (n c : ℕ) (s : StmtTree) → stmt_faults h earlier (ps ++ ls) s ≡ [] → IsStmt s → n + stmt_operators s ≤ length k.sites → c + stmt_calls s ≤ length k.calls
        → StmtFits k (stmt_of (kind_of (names (ps ++ ls)) n c s))
    stmt_fits n c (SetTree at i e) f x s q =
        let (a, b) = both_empty (scalar_faults (ps ++ ls) i) (expr_faults h (ps ++ ls) e) f in
        (scalar_named i a, expr_fits n e b x s)
    stmt_fits n c (SetElemTree at i y e) f x s q =
        let (ab, d) = both_empty (array_faults (ps ++ ls) i ++ expr_faults h (ps ++ ls) y) (expr_faults h (ps ++ ls) e) f in
        let (a, b) = both_empty (array_faults (ps ++ ls) i) (expr_faults h (ps ++ ls) y) ab in
        (array_named i a, expr_fits n y b x.0 (omega (arith, s)), expr_fits (n + expr_operators y) e d x.1 (omega (arith, s)))
    stmt_fits n c (IfTree at e y t) f x s q =
        let (ab, d) = both_empty (expr_faults h (ps ++ ls) e ++ block_faults h earlier (ps ++ ls) y) (block_faults h earlier (ps ++ ls) t) f in
        let (a, b) = both_empty (expr_faults h (ps ++ ls) e) (block_faults h earlier (ps ++ ls) y) ab in
        let m = n + expr_operators e in
        subst (StmtFits k) (sym (text-If (ex_of (names (ps ++ ls)) n e) (sts_of (names (ps ++ ls)) m c y) (sts_of (names (ps ++ ls)) (m + block_operators y) (c + block_calls y) t)))
        (expr_fits n e a x.0 (omega (arith, s)), block_fits m c y b x.1 (omega (arith, s)) (omega (arith, q)), block_fits (m + block_operators y) (c + block_calls y) t d x.2 (omega (arith, s)) (omega (arith, q)))
    stmt_fits n c (WhileTree at e most y) f x s q =
        let (a, b) = both_empty (expr_faults h (ps ++ ls) e) (block_faults h earlier (ps ++ ls) y) f in
        subst (StmtFits k) (sym (text-While (ex_of (names (ps ++ ls)) n e) most (sts_of (names (ps ++ ls)) (n + expr_operators e) c y)))
        (expr_fits n e a x.0 (omega (arith, s)), block_fits (n + expr_operators e) c y b x.1 (omega (arith, s)) q)
    stmt_fits n c (RepeatTree at turns y) f x s q =
        subst (StmtFits k) (sym (text-Repeat turns (sts_of (names (ps ++ ls)) n c y))) (block_fits n c y f x s q)
    stmt_fits n c (ReturnTree at e) f x s q = absurd x
    stmt_fits n c (CallTree at i word callee es) f x s q =
        let (ab, d) = both_empty (scalar_faults (ps ++ ls) i ++ callee_faults earlier callee (length es)) (exprs_faults h (ps ++ ls) es) f in
        let (a, b) = both_empty (scalar_faults (ps ++ ls) i) (callee_faults earlier callee (length es)) ab in
        (scalar_named i a, omega (arith, q), exprs_fit n es d x s)

    block_fits : (n c : ℕ) (b : Block) → block_faults h earlier (ps ++ ls) b ≡ [] → AreStmts b → n + block_operators b ≤ length k.sites → c + block_calls b ≤ length k.calls
        → BlockFits k (block_of (sts_of (names (ps ++ ls)) n c b))
    block_fits n c ended f x s q = tt
    block_fits n c (also y rest) f x s q =
        let (a, b) = both_empty (stmt_faults h earlier (ps ++ ls) y) (block_faults h earlier (ps ++ ls) rest) f in
        (stmt_fits n c y a x.0 (omega (arith, s)) (omega (arith, q)), block_fits (n + stmt_operators y) (c + stmt_calls y) rest b x.1 (omega (arith, s)) (omega (arith, q)))

  -- ---- the body

  body_fits : (b : Block) (n c : ℕ) → block_faults h earlier (ps ++ ls) b ≡ [] → IsBody b → n + block_operators b ≤ length k.sites → c + block_calls b ≤ length k.calls
      → BodyFits k (block_of (sts_of (names (ps ++ ls)) n c b))
  body_fits ended n c f x s q = absurd x
  body_fits (also (ReturnTree at e) ended) n c f x s q =
      let (a, b) = both_empty (expr_faults h (ps ++ ls) e) [] f in
      expr_fits n e a x (omega (arith, s))
  body_fits (also (ReturnTree at e) (also y rest)) n c f x s q = absurd x.0
  body_fits (also (SetTree at i e) rest) n c f x s q =
      let y : StmtTree = SetTree at i e in
      let (a, b) = both_empty (stmt_faults h earlier (ps ++ ls) y) (block_faults h earlier (ps ++ ls) rest) f in
      (stmt_fits n c y a x.0 (omega (arith, s)) (omega (arith, q)), body_fits rest (n + stmt_operators y) (c + stmt_calls y) b x.1 (omega (arith, s)) (omega (arith, q)))
  body_fits (also (SetElemTree at i z e) rest) n c f x s q =
      let y : StmtTree = SetElemTree at i z e in
      let (a, b) = both_empty (stmt_faults h earlier (ps ++ ls) y) (block_faults h earlier (ps ++ ls) rest) f in
      (stmt_fits n c y a x.0 (omega (arith, s)) (omega (arith, q)), body_fits rest (n + stmt_operators y) (c + stmt_calls y) b x.1 (omega (arith, s)) (omega (arith, q)))
  body_fits (also (CallTree at i word callee es) rest) n c f x s q =
      let y : StmtTree = CallTree at i word callee es in
      let (a, b) = both_empty (stmt_faults h earlier (ps ++ ls) y) (block_faults h earlier (ps ++ ls) rest) f in
      (stmt_fits n c y a x.0 (omega (arith, s)) (omega (arith, q)), body_fits rest (n + stmt_operators y) (c + stmt_calls y) b x.1 (omega (arith, s)) (omega (arith, q)))
  body_fits (also (IfTree at e u t) rest) n c f x s q =
      let y : StmtTree = IfTree at e u t in
      let (a, b) = both_empty (stmt_faults h earlier (ps ++ ls) y) (block_faults h earlier (ps ++ ls) rest) f in
      let is = text-If (ex_of (names (ps ++ ls)) n e) (sts_of (names (ps ++ ls)) (n + expr_operators e) c u) (sts_of (names (ps ++ ls)) (n + expr_operators e + block_operators u) (c + block_calls u) t) in
      subst (λ (w : Stmt). BodyFits k (w then block_of (sts_of (names (ps ++ ls)) (n + stmt_operators y) (c + stmt_calls y) rest))) (sym is)
      (subst (StmtFits k) is (stmt_fits n c y a x.0 (omega (arith, s)) (omega (arith, q))), body_fits rest (n + stmt_operators y) (c + stmt_calls y) b x.1 (omega (arith, s)) (omega (arith, q)))
  body_fits (also (WhileTree at e most u) rest) n c f x s q =
      let y : StmtTree = WhileTree at e most u in
      let (a, b) = both_empty (stmt_faults h earlier (ps ++ ls) y) (block_faults h earlier (ps ++ ls) rest) f in
      let is = text-While (ex_of (names (ps ++ ls)) n e) most (sts_of (names (ps ++ ls)) (n + expr_operators e) c u) in
      subst (λ (w : Stmt). BodyFits k (w then block_of (sts_of (names (ps ++ ls)) (n + stmt_operators y) (c + stmt_calls y) rest))) (sym is)
      (subst (StmtFits k) is (stmt_fits n c y a x.0 (omega (arith, s)) (omega (arith, q))), body_fits rest (n + stmt_operators y) (c + stmt_calls y) b x.1 (omega (arith, s)) (omega (arith, q)))
  body_fits (also (RepeatTree at turns u) rest) n c f x s q =
      let y : StmtTree = RepeatTree at turns u in
      let (a, b) = both_empty (stmt_faults h earlier (ps ++ ls) y) (block_faults h earlier (ps ++ ls) rest) f in
      let is = text-Repeat turns (sts_of (names (ps ++ ls)) n c u) in
      subst (λ (w : Stmt). BodyFits k (w then block_of (sts_of (names (ps ++ ls)) (n + stmt_operators y) (c + stmt_calls y) rest))) (sym is)
      (subst (StmtFits k) is (stmt_fits n c y a x.0 (omega (arith, s)) (omega (arith, q))), body_fits rest (n + stmt_operators y) (c + stmt_calls y) b x.1 (omega (arith, s)) (omega (arith, q)))

  pub whole_body_fits : (b : Block) → block_faults h earlier (ps ++ ls) b ≡ [] → IsBody b → block_operators b ≤ length k.sites → block_calls b ≤ length k.calls → BodyFits k (block_of (sts_of (names (ps ++ ls)) 0 0 b))
  whole_body_fits b f x s q = body_fits b 0 0 f x (omega (arith, s)) (omega (arith, q))
