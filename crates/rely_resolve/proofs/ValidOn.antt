-- The operators of a kernel are those of the hardware.
use Rattle.std.specs.Prelude.{is_none, ◌&&◌, ◌==◌, find, IsTrue}
use Rattle.std.specs.List.{AllByRecursion, list_any}
use Rattle.std.specs.Option.{option_map_or}
use Rattle.std.proofs.Common.{◌≡◌, Bool, true, false, List, [], ◌∷◌, ◌++◌, length, Option, Some, None, refl, arith, inl, inr}
use Rattle.std.proofs.lemmas.Bool.{or_cases, or_left, or_right, and_parts}
use Rattle.std.proofs.lemmas.List.{length-map}
use Rattle.rely_num.specs.Bounds.{S}
use Rattle.rely_num.specs.Ops.{is_op}
use Rattle.rely_num.specs.Texts.{same_text}
use Rattle.rely_num.specs.declared.op.Op.{Op}
use Rattle.rely_num.specs.declared.span.Span.{Span}
use Rattle.rely_hard.specs.Valid.{exact, IsHardware, OperatorFits}
use Rattle.rely_hard.specs.declared.hardware.Hardware.{Hardware}
use Rattle.rely_hard.specs.declared.hardware.KindSpec.{KindSpec}
use Rattle.rely_hard.specs.declared.hardware.OpSpec.{OpSpec}
use Rattle.rely_kernel.specs.Setting.{SlotFits, SiteIsOn}
use Rattle.rely_tree.specs.Tree.{KindTree, PlainTree, NamedTree, FreeTree, ExprTree, NumTree, NameTree, ElemTree, BinTree, StmtTree, SetTree, SetElemTree, IfTree, WhileTree, RepeatTree, ReturnTree, CallTree, Block, ended, also, DeclTree, FuncTree}
use Rattle.rely_resolve.specs.Faults.{scalar_faults, array_faults, named_faults, kind_faults, expr_faults, exprs_faults, callee_faults, stmt_faults, block_faults}
use Rattle.rely_resolve.specs.Kernels.{slot_of, site_of, expr_sites, exprs_sites, stmt_sites, block_sites}
use Rattle.rely_resolve.specs.Names.{place_of, kind_names}
use Rattle.rely_resolve.specs.declared.fault.NameFault.TheVariants as fault
use Rattle.rely_resolve.proofs.ValidNames.{both_empty, when_off, number_within, place_any, of_found, any_found, both_hold}

-- ---- kinds

exact_among : (ks : List KindSpec) (p : KindSpec → Bool) → list_any (λ k. same_text k.name exact && p k) ks ≡ true → list_any (λ n. same_text n exact) (kind_names ks) ≡ true
exact_among [] p e = absurd (cc)
exact_among (k ∷ ks) p e = elim (or_cases (same_text k.name exact && p k) (list_any (λ k. same_text k.name exact && p k) ks) e) [
  | inl a ↦ or_left (same_text k.name exact) (list_any (λ n. same_text n exact) (kind_names ks)) (and_parts (same_text k.name exact) (p k) a).0
  | inr b ↦ or_right (same_text k.name exact) (list_any (λ n. same_text n exact) (kind_names ks)) (exact_among ks p b)
]

kind_fits : (ks : List KindSpec) (k : KindTree) → is_none (place_of exact (kind_names ks)) ≡ false → named_faults ks k ≡ [] → SlotFits (length ks) (slot_of (kind_names ks) k)
kind_fits ks PlainTree x e = let n = number_within exact (kind_names ks) x in let l : length (kind_names ks) ≡ length ks = length-map ks (λ (k : KindSpec). k.name) in omega arith
kind_fits ks (NamedTree i) x e =
    let n = number_within i.text (kind_names ks) (when_off (is_none (place_of i.text (kind_names ks))) (fault.NoKind i.span) e) in
    let l : length (kind_names ks) ≡ length ks = length-map ks (λ (k : KindSpec). k.name) in
    omega arith
kind_fits ks (FreeTree span) x e = tt

module _ (h : Hardware) (valid : IsHardware h) where
  site_on : (op : Op) (span : Span) (kind : KindTree) → kind_faults h op span kind ≡ [] → SiteIsOn h (site_of h op kind)
  site_on op span kind = go (find (λ o. is_op o.op op) h.operators) (any_found (λ (o : OpSpec). is_op o.op op) h.operators) (λ o. of_found (λ (o : OpSpec). is_op o.op op) OperatorFits h.operators o valid.operators)
    where
      go : (o : Option OpSpec) → ((s : OpSpec) → o ≡ Some s → list_any (λ o. is_op o.op op) h.operators ≡ true) → ((s : OpSpec) → o ≡ Some s → OperatorFits s) → option_map_or (λ o. named_faults o.kinds kind) o (fault.NoKind span ∷ []) ≡ []
          → IsTrue (list_any (λ o. is_op o.op op) h.operators) × SlotFits (length (option_map_or (λ o. o.kinds) o [])) (slot_of (kind_names (option_map_or (λ o. o.kinds) o [])) kind)
      go None a f e = absurd (cc)
      go (Some s) a f e = (a s refl, kind_fits s.kinds kind (place_any exact (kind_names s.kinds) (exact_among s.kinds (λ k. k.right == S) (f s refl).exact)) e)

  -- ---- sites

  expr_on : (vs : List DeclTree) (e : ExprTree) → expr_faults h vs e ≡ [] → AllByRecursion (SiteIsOn h) (expr_sites h e)
  expr_on vs (NumTree z) f = tt
  expr_on vs (NameTree i) f = tt
  expr_on vs (ElemTree i e) f = expr_on vs e (both_empty (array_faults vs i) (expr_faults h vs e) f).1
  expr_on vs (BinTree op span kind l r) f =
      let (ab, c) = both_empty (expr_faults h vs l ++ kind_faults h op span kind) (expr_faults h vs r) f in
      let (a, b) = both_empty (expr_faults h vs l) (kind_faults h op span kind) ab in
      both_hold (SiteIsOn h) (expr_sites h l) (site_of h op kind ∷ expr_sites h r) (expr_on vs l a) (site_on op span kind b, expr_on vs r c)

  exprs_on : (vs : List DeclTree) (es : List ExprTree) → exprs_faults h vs es ≡ [] → AllByRecursion (SiteIsOn h) (exprs_sites h es)
  exprs_on vs [] f = tt
  exprs_on vs (e ∷ es) f =
      let (a, b) = both_empty (expr_faults h vs e) (exprs_faults h vs es) f in
      both_hold (SiteIsOn h) (expr_sites h e) (exprs_sites h es) (expr_on vs e a) (exprs_on vs es b)

  mutual
    stmt_on : (earlier : List FuncTree) (vs : List DeclTree) (s : StmtTree) → stmt_faults h earlier vs s ≡ [] → AllByRecursion (SiteIsOn h) (stmt_sites h s)
    stmt_on earlier vs (SetTree at i e) f = expr_on vs e (both_empty (scalar_faults vs i) (expr_faults h vs e) f).1
    stmt_on earlier vs (SetElemTree at i x e) f =
        let (ab, c) = both_empty (array_faults vs i ++ expr_faults h vs x) (expr_faults h vs e) f in
        both_hold (SiteIsOn h) (expr_sites h x) (expr_sites h e) (expr_on vs x (both_empty (array_faults vs i) (expr_faults h vs x) ab).1) (expr_on vs e c)
    stmt_on earlier vs (IfTree at e s t) f =
        let (ab, c) = both_empty (expr_faults h vs e ++ block_faults h earlier vs s) (block_faults h earlier vs t) f in
        let (a, b) = both_empty (expr_faults h vs e) (block_faults h earlier vs s) ab in
        both_hold (SiteIsOn h) (expr_sites h e ++ block_sites h s) (block_sites h t) (both_hold (SiteIsOn h) (expr_sites h e) (block_sites h s) (expr_on vs e a) (block_on earlier vs s b)) (block_on earlier vs t c)
    stmt_on earlier vs (WhileTree at e most s) f =
        let (a, b) = both_empty (expr_faults h vs e) (block_faults h earlier vs s) f in
        both_hold (SiteIsOn h) (expr_sites h e) (block_sites h s) (expr_on vs e a) (block_on earlier vs s b)
    stmt_on earlier vs (RepeatTree at turns s) f = block_on earlier vs s f
    stmt_on earlier vs (ReturnTree at e) f = expr_on vs e f
    stmt_on earlier vs (CallTree at i word callee es) f = exprs_on vs es (both_empty (scalar_faults vs i ++ callee_faults earlier callee (length es)) (exprs_faults h vs es) f).1

    pub block_on : (earlier : List FuncTree) (vs : List DeclTree) (b : Block) → block_faults h earlier vs b ≡ [] → AllByRecursion (SiteIsOn h) (block_sites h b)
    block_on earlier vs ended f = tt
    block_on earlier vs (also s rest) f =
        let (a, b) = both_empty (stmt_faults h earlier vs s) (block_faults h earlier vs rest) f in
        both_hold (SiteIsOn h) (stmt_sites h s) (block_sites h rest) (stmt_on earlier vs s a) (block_on earlier vs rest b)
