-- A renamed tree has the numbers of the tree: its text as a kernel's, its sites, its variables, its calls and its claims.
use Rattle.std.proofs.Common.{◌≡◌, ℕ, ◌+◌, List, [], ◌∷◌, map, Option, Some, None, refl, ap, sym, ◌∙◌}
use Rattle.std.specs.Prelude.{option_map}
use Rattle.std.specs.Option.{option_map_or}
use Rattle.rely_num.specs.Sets.{only, union}
use Rattle.rely_num.specs.Texts.{Bytes}
use Rattle.rely_kernel.specs.Text.{Stmt, ◌then◌, block_of, stmt_of, expr_of, exprs_of}
use Rattle.rely_kernel.specs.declared.kernel.Ex.TheVariants as ex
use Rattle.rely_kernel.proofs.TextLemmas.{text-If, text-Repeat, text-While}
use Rattle.rely_tree.specs.Counts.{expr_operators, exprs_operators, stmt_operators, block_operators, stmt_calls, block_calls}
use Rattle.rely_tree.specs.Tree.{IdentTree, ExprTree, NumTree, NameTree, ElemTree, BinTree, StmtTree, SetTree, SetElemTree, IfTree, WhileTree, RepeatTree, ReturnTree, CallTree, Block, ended, also, DeclTree, SaidTree}
use Rattle.rely_resolve.specs.Kernels.{claim_of, ex_of, exs_of, kind_of, needs_of, sts_of}
use Rattle.rely_resolve.specs.Linked.{block_callees, stmt_callees}
use Rattle.rely_resolve.specs.Names.{names, number_of}
use Rattle.chisel_rewritten_source.specs.Trees.{Renaming, renamed_block, renamed_decl, renamed_expr, renamed_ident, renamed_said, renamed_stmt}

module _ (r : Renaming) where
  -- ---- counts

  same_operators : (e : ExprTree) → expr_operators (renamed_expr r e) ≡ expr_operators e
  same_operators (NumTree n) = refl
  same_operators (NameTree i) = refl
  same_operators (ElemTree i e) = same_operators e
  same_operators (BinTree op span kind x y) = rw (same_operators x, same_operators y) refl

  each_operators : (es : List ExprTree) → exprs_operators (map (renamed_expr r) es) ≡ exprs_operators es
  each_operators [] = refl
  each_operators (e ∷ es) = rw (same_operators e, each_operators es) refl

  mutual
    stmt_counts : (s : StmtTree) → (stmt_operators (renamed_stmt r s) ≡ stmt_operators s) × (stmt_calls (renamed_stmt r s) ≡ stmt_calls s)
    stmt_counts (SetTree at i e) = (same_operators e, refl)
    stmt_counts (SetElemTree at i x e) = (rw (same_operators x, same_operators e) refl, refl)
    stmt_counts (IfTree at e s t) =
        let a = block_counts s in
        let b = block_counts t in
        (rw (same_operators e, a.0, b.0) refl, rw (a.1, b.1) refl)
    stmt_counts (WhileTree at e most s) = let a = block_counts s in (rw (same_operators e, a.0) refl, a.1)
    stmt_counts (RepeatTree at turns s) = block_counts s
    stmt_counts (ReturnTree at e) = (same_operators e, refl)
    stmt_counts (CallTree at i word callee es) = (each_operators es, refl)

    block_counts : (b : Block) → (block_operators (renamed_block r b) ≡ block_operators b) × (block_calls (renamed_block r b) ≡ block_calls b)
    block_counts ended = (refl, refl)
    block_counts (also s rest) =
        let a = stmt_counts s in
        let b = block_counts rest in
        (rw (a.0, b.0) refl, rw (a.1, b.1) refl)

  -- ---- texts

  module _ (vs : List Bytes) where
    same_expr : (n : ℕ) (e : ExprTree) → ex_of vs n (renamed_expr r e) ≡ ex_of vs n e
    same_expr n (NumTree z) = refl
    same_expr n (NameTree i) = refl
    same_expr n (ElemTree i e) = ap (λ x. ex.Elem (number_of i.text vs) x) (same_expr n e)
    same_expr n (BinTree op span kind x y) =
        ap (λ m. ex.Bin (n + m) (ex_of vs n (renamed_expr r x)) (ex_of vs (n + m + 1) (renamed_expr r y))) (same_operators x)
        ∙ (ap (λ a. ex.Bin (n + expr_operators x) a (ex_of vs (n + expr_operators x + 1) (renamed_expr r y))) (same_expr n x)
        ∙ ap (λ b. ex.Bin (n + expr_operators x) (ex_of vs n x) b) (same_expr (n + expr_operators x + 1) y))

    same_exprs : (n : ℕ) (es : List ExprTree) → exs_of vs n (map (renamed_expr r) es) ≡ exs_of vs n es
    same_exprs n [] = refl
    same_exprs n (e ∷ es) =
        ap (λ m. ex_of vs n (renamed_expr r e) ∷ exs_of vs (n + m) (map (renamed_expr r) es)) (same_operators e)
        ∙ (ap (λ x. x ∷ exs_of vs (n + expr_operators e) (map (renamed_expr r) es)) (same_expr n e)
        ∙ ap (λ xs. ex_of vs n e ∷ xs) (same_exprs (n + expr_operators e) es))

    mutual
      same_stmt : (n c : ℕ) (s : StmtTree) → stmt_of (kind_of vs n c (renamed_stmt r s)) ≡ stmt_of (kind_of vs n c s)
      same_stmt n c (SetTree at i e) = ap (λ x. Stmt.Set (number_of i.text vs) (expr_of x)) (same_expr n e)
      same_stmt n c (SetElemTree at i x e) =
          ap (λ m. Stmt.SetElem (number_of i.text vs) (expr_of (ex_of vs n (renamed_expr r x))) (expr_of (ex_of vs (n + m) (renamed_expr r e)))) (same_operators x)
          ∙ (ap (λ a. Stmt.SetElem (number_of i.text vs) (expr_of a) (expr_of (ex_of vs (n + expr_operators x) (renamed_expr r e)))) (same_expr n x)
          ∙ ap (λ b. Stmt.SetElem (number_of i.text vs) (expr_of (ex_of vs n x)) (expr_of b)) (same_expr (n + expr_operators x) e))
      same_stmt n c (IfTree at e s t) =
          let m = n + expr_operators e in
          let a = block_counts s in
          text-If (ex_of vs n (renamed_expr r e)) (sts_of vs (n + expr_operators (renamed_expr r e)) c (renamed_block r s))
          (sts_of vs (n + expr_operators (renamed_expr r e) + block_operators (renamed_block r s)) (c + block_calls (renamed_block r s)) (renamed_block r t))
          ∙ (ap (λ x. Stmt.If (expr_of x) (block_of (sts_of vs (n + expr_operators (renamed_expr r e)) c (renamed_block r s)))
          (block_of (sts_of vs (n + expr_operators (renamed_expr r e) + block_operators (renamed_block r s)) (c + block_calls (renamed_block r s)) (renamed_block r t)))) (same_expr n e)
          ∙ (ap (λ k. Stmt.If (expr_of (ex_of vs n e)) (block_of (sts_of vs (n + k) c (renamed_block r s)))
          (block_of (sts_of vs (n + k + block_operators (renamed_block r s)) (c + block_calls (renamed_block r s)) (renamed_block r t)))) (same_operators e)
          ∙ (ap (λ k. Stmt.If (expr_of (ex_of vs n e)) (block_of (sts_of vs m c (renamed_block r s)))
          (block_of (sts_of vs (m + k) (c + block_calls (renamed_block r s)) (renamed_block r t)))) a.0
          ∙ (ap (λ k. Stmt.If (expr_of (ex_of vs n e)) (block_of (sts_of vs m c (renamed_block r s))) (block_of (sts_of vs (m + block_operators s) (c + k) (renamed_block r t)))) a.1
          ∙ (ap (λ b. Stmt.If (expr_of (ex_of vs n e)) b (block_of (sts_of vs (m + block_operators s) (c + block_calls s) (renamed_block r t)))) (same_block m c s)
          ∙ (ap (λ b. Stmt.If (expr_of (ex_of vs n e)) (block_of (sts_of vs m c s)) b) (same_block (m + block_operators s) (c + block_calls s) t)
          ∙ sym (text-If (ex_of vs n e) (sts_of vs m c s) (sts_of vs (m + block_operators s) (c + block_calls s) t))))))))
      same_stmt n c (WhileTree at e most s) =
          text-While (ex_of vs n (renamed_expr r e)) most (sts_of vs (n + expr_operators (renamed_expr r e)) c (renamed_block r s))
          ∙ (ap (λ x. Stmt.While (expr_of x) most (block_of (sts_of vs (n + expr_operators (renamed_expr r e)) c (renamed_block r s)))) (same_expr n e)
          ∙ (ap (λ k. Stmt.While (expr_of (ex_of vs n e)) most (block_of (sts_of vs (n + k) c (renamed_block r s)))) (same_operators e)
          ∙ (ap (λ b. Stmt.While (expr_of (ex_of vs n e)) most b) (same_block (n + expr_operators e) c s)
          ∙ sym (text-While (ex_of vs n e) most (sts_of vs (n + expr_operators e) c s)))))
      same_stmt n c (RepeatTree at turns s) =
          text-Repeat turns (sts_of vs n c (renamed_block r s)) ∙ (ap (λ b. Stmt.Repeat turns b) (same_block n c s) ∙ sym (text-Repeat turns (sts_of vs n c s)))
      same_stmt n c (ReturnTree at e) = ap (λ x. Stmt.Result (expr_of x)) (same_expr n e)
      same_stmt n c (CallTree at i word callee es) = ap (λ xs. Stmt.Call (number_of i.text vs) c (exprs_of xs)) (same_exprs n es)

      pub same_block : (n c : ℕ) (b : Block) → block_of (sts_of vs n c (renamed_block r b)) ≡ block_of (sts_of vs n c b)
      same_block n c ended = refl
      same_block n c (also s rest) =
          let a = stmt_counts s in
          ap (λ k. stmt_of (kind_of vs n c (renamed_stmt r s)) then block_of (sts_of vs (n + k) (c + stmt_calls (renamed_stmt r s)) (renamed_block r rest))) a.0
          ∙ (ap (λ k. stmt_of (kind_of vs n c (renamed_stmt r s)) then block_of (sts_of vs (n + stmt_operators s) (c + k) (renamed_block r rest))) a.1
          ∙ (ap (λ x. x then block_of (sts_of vs (n + stmt_operators s) (c + stmt_calls s) (renamed_block r rest))) (same_stmt n c s)
          ∙ ap (λ b. stmt_of (kind_of vs n c s) then b) (same_block (n + stmt_operators s) (c + stmt_calls s) rest)))

  -- ---- claims

  same_needs : (params : List Bytes) (set : ℕ) (is : List IdentTree) → needs_of params set (map (renamed_ident r) is) ≡ needs_of params set is
  same_needs params set [] = refl
  same_needs params set (i ∷ is) = same_needs params (union set (only (number_of i.text params))) is

  same_claim : (params : List Bytes) (c : SaidTree) → claim_of params (renamed_said r c) ≡ claim_of params c
  same_claim params c =
      ap (λ (t : ℕ). record { target = t; bound = c.bound; needs = record { bits = needs_of params 0 (map (renamed_ident r) c.needs) } }) (target c.target)
      ∙ ap (λ (n : ℕ). record { target = option_map_or (λ i. number_of i.text params) c.target 63; bound = c.bound; needs = record { bits = n } }) (same_needs params 0 c.needs)
    where
      target : (o : Option IdentTree) → option_map_or (λ i. number_of i.text params) (option_map (renamed_ident r) o) 63 ≡ option_map_or (λ i. number_of i.text params) o 63
      target None = refl
      target (Some i) = refl

  pub same_claims : (params : List Bytes) (cs : List SaidTree) → map (claim_of params) (map (renamed_said r) cs) ≡ map (claim_of params) cs
  same_claims params [] = refl
  same_claims params (c ∷ cs) = ap (λ x. x ∷ map (claim_of params) (map (renamed_said r) cs)) (same_claim params c) ∙ ap (λ xs. claim_of params c ∷ xs) (same_claims params cs)

  pub same_names : (ds : List DeclTree) → names (map (renamed_decl r) ds) ≡ names ds
  same_names [] = refl
  same_names (d ∷ ds) = ap (λ ns. d.name.text ∷ ns) (same_names ds)

  -- ---- callees

  mutual
    same_stmt_callees : (s : StmtTree) → stmt_callees (renamed_stmt r s) ≡ stmt_callees s
    same_stmt_callees (SetTree at i e) = refl
    same_stmt_callees (SetElemTree at i x e) = refl
    same_stmt_callees (IfTree at e s t) = rw (same_callees s, same_callees t) refl
    same_stmt_callees (WhileTree at e most s) = same_callees s
    same_stmt_callees (RepeatTree at turns s) = same_callees s
    same_stmt_callees (ReturnTree at e) = refl
    same_stmt_callees (CallTree at i word callee es) = refl

    pub same_callees : (b : Block) → block_callees (renamed_block r b) ≡ block_callees b
    same_callees ended = refl
    same_callees (also s rest) = rw (same_stmt_callees s, same_callees rest) refl
