-- The kernel of a renamed function.
use Rattle.std.proofs.Common.{◌≡◌, ℕ, zero, suc, ◌==◌, Bool, true, false, List, [], ◌∷◌, ◌++◌, map, find, refl, ap, sym, ◌∙◌}
use Rattle.std.specs.Prelude.{option_and_then, slice_get}
use Rattle.std.proofs.lemmas.List.{map-append}
use Rattle.rely_num.specs.Texts.{Bytes}
use Rattle.rely_num.specs.declared.op.Op.{Op}
use Rattle.rely_num.specs.declared.span.Span.{Span}
use Rattle.rely_hard.specs.declared.hardware.Hardware.{Hardware}
use Rattle.rely_kernel.specs.Setting.{kinds_of}
use Rattle.rely_kernel.specs.Text.{block_of}
use Rattle.rely_kernel.specs.Valid.{claim_in_use}
use Rattle.rely_kernel.specs.declared.kernel.CallSite.{CallSite}
use Rattle.rely_kernel.specs.declared.kernel.Claim.{Claim}
use Rattle.rely_kernel.specs.declared.kernel.Kernel.{Kernel}
use Rattle.rely_kernel.specs.declared.kernel.Site.{Site}
use Rattle.rely_kernel.specs.declared.kernel.Slot.{Slot}
use Rattle.rely_kernel.specs.declared.kernel.Slot.TheVariants.{Named, Free}
use Rattle.rely_kernel.specs.declared.kernel.Var.{Var}
use Rattle.rely_tree.specs.Tree.{IdentTree, KindTree, PlainTree, NamedTree, FreeTree, ExprTree, NumTree, NameTree, ElemTree, BinTree, StmtTree, SetTree, SetElemTree, IfTree, WhileTree, RepeatTree, ReturnTree, CallTree, Block, ended, also, DeclTree, FuncTree}
use Rattle.rely_resolve.specs.Kernels.{Done, block_sites, block_sites_called, call_site, called, claim_of, expr_sites, exprs_sites, kernel_of, mark_of, nowhere, site_of, slot_of, stmt_sites, stmt_sites_called, sts_of, var_of}
use Rattle.rely_resolve.specs.Names.{kind_names, memory_names, names, number_of}
use Rattle.chisel_rewrite.specs.Alike.{anywhere}
use Rattle.chisel_rewritten_source.specs.Trees.{Renaming, renamed_block, renamed_decl, renamed_expr, renamed_func, renamed_ident, renamed_kind, renamed_said, renamed_stmt}
use Rattle.chisel_rewritten_source.proofs.SameText.{same_block, same_claims, same_names}

-- a slot among these names, with what stands at its mark
abbrev pub renamed_slot : Renaming → List Bytes → Slot → Span → Slot
renamed_slot r listed (Named n) mark = Named n
renamed_slot r listed Free mark = slot_of listed (r.mark mark)

abbrev pub renamed_mark : Renaming → Slot → Span → Span
renamed_mark r (Named n) mark = nowhere
renamed_mark r Free mark = mark_of (r.mark mark)

abbrev pub renamed_site : Hardware → Renaming → Site → Site
renamed_site h r s = record { op = s.op; kind = renamed_slot r (kind_names (kinds_of h s.op)) s.kind s.mark; mark = renamed_mark r s.kind s.mark }

abbrev pub renamed_var : Hardware → Renaming → Var → Var
renamed_var h r v = record { name = v.name; length = v.length; param = v.param; memory = renamed_slot r (memory_names h.memories) v.memory v.mark; mark = renamed_mark r v.memory v.mark }

-- the same kernel, spans aside, with what stands at each open place
pub record IsRenamed (h : Hardware) (r : Renaming) (k other : Kernel) : Type 0 where
  pub name : other.name ≡ r.at k.name
  pub vars : other.vars ≡ map (renamed_var h r) k.vars
  pub sites : other.sites ≡ map (renamed_site h r) k.sites
  pub calls : map anywhere other.calls ≡ map anywhere k.calls
  pub text : block_of other.body ≡ block_of k.body
  pub claims : other.claims ≡ k.claims

-- one after the other
pub data AreRenamed (h : Hardware) (r : Renaming) : List Kernel → List Kernel → Type 0 where
  none : AreRenamed h r [] []
  more : {k other : Kernel} {ks others : List Kernel} → IsRenamed h r k other → AreRenamed h r ks others → AreRenamed h r (k ∷ ks) (other ∷ others)

pub record IsDone (h : Hardware) (r : Renaming) (done other : Done) : Type 0 where
  pub names : other.names ≡ done.names
  pub kernels : AreRenamed h r done.kernels other.kernels

module _ (h : Hardware) (r : Renaming) where
  -- ---- sites and variables

  site_same : (op : Op) (kind : KindTree) → site_of h op (renamed_kind r kind) ≡ renamed_site h r (site_of h op kind)
  site_same op PlainTree = refl
  site_same op (NamedTree i) = refl
  site_same op (FreeTree span) = refl

  both_same : (xs ys xs' ys' : List Site) → xs' ≡ map (renamed_site h r) xs → ys' ≡ map (renamed_site h r) ys → xs' ++ ys' ≡ map (renamed_site h r) (xs ++ ys)
  both_same xs ys xs' ys' p q = ap (λ l. l ++ ys') p ∙ (ap (λ l. map (renamed_site h r) xs ++ l) q ∙ sym (map-append (renamed_site h r) xs ys))

  expr_same : (e : ExprTree) → expr_sites h (renamed_expr r e) ≡ map (renamed_site h r) (expr_sites h e)
  expr_same (NumTree z) = refl
  expr_same (NameTree i) = refl
  expr_same (ElemTree i e) = expr_same e
  expr_same (BinTree op span kind x y) =
      both_same (expr_sites h x) (site_of h op kind ∷ expr_sites h y) _ _ (expr_same x)
      (ap (λ s. s ∷ expr_sites h (renamed_expr r y)) (site_same op kind) ∙ ap (λ l. renamed_site h r (site_of h op kind) ∷ l) (expr_same y))

  exprs_same : (es : List ExprTree) → exprs_sites h (map (renamed_expr r) es) ≡ map (renamed_site h r) (exprs_sites h es)
  exprs_same [] = refl
  exprs_same (e ∷ es) = both_same (expr_sites h e) (exprs_sites h es) _ _ (expr_same e) (exprs_same es)

  mutual
    stmt_same : (s : StmtTree) → stmt_sites h (renamed_stmt r s) ≡ map (renamed_site h r) (stmt_sites h s)
    stmt_same (SetTree at i e) = expr_same e
    stmt_same (SetElemTree at i x e) = both_same (expr_sites h x) (expr_sites h e) _ _ (expr_same x) (expr_same e)
    stmt_same (IfTree at e s t) =
        both_same (expr_sites h e ++ block_sites h s) (block_sites h t) _ _ (both_same (expr_sites h e) (block_sites h s) _ _ (expr_same e) (sites_same s)) (sites_same t)
    stmt_same (WhileTree at e most s) = both_same (expr_sites h e) (block_sites h s) _ _ (expr_same e) (sites_same s)
    stmt_same (RepeatTree at turns s) = sites_same s
    stmt_same (ReturnTree at e) = expr_same e
    stmt_same (CallTree at i word callee es) = exprs_same es

    sites_same : (b : Block) → block_sites h (renamed_block r b) ≡ map (renamed_site h r) (block_sites h b)
    sites_same ended = refl
    sites_same (also s rest) = both_same (stmt_sites h s) (block_sites h rest) _ _ (stmt_same s) (sites_same rest)

  var_same : (param : Bool) (d : DeclTree) → var_of h param (renamed_decl r d) ≡ renamed_var h r (var_of h param d)
  var_same param d = one d.memory
    where
      one : (kind : KindTree) → var_of h param (record { name = renamed_ident r d.name; length = d.length; memory = renamed_kind r kind })
          ≡ renamed_var h r (var_of h param (record { name = d.name; length = d.length; memory = kind }))
      one PlainTree = refl
      one (NamedTree i) = refl
      one (FreeTree span) = refl

  vars_same : (param : Bool) (ds : List DeclTree) → map (var_of h param) (map (renamed_decl r) ds) ≡ map (renamed_var h r) (map (var_of h param) ds)
  vars_same param [] = refl
  vars_same param (d ∷ ds) =
      ap (λ v. v ∷ map (var_of h param) (map (renamed_decl r) ds)) (var_same param d) ∙ ap (λ vs. renamed_var h r (var_of h param d) ∷ vs) (vars_same param ds)

  -- ---- calls

  in_use_same : (ks others : List Kernel) → AreRenamed h r ks others → (g : ℕ) → option_and_then claim_in_use (slice_get others g) ≡ option_and_then claim_in_use (slice_get ks g)
  in_use_same [] [] none g = refl
  in_use_same [] (other ∷ others) is g = elim is [ ]
  in_use_same (k ∷ ks) [] is g = elim is [ ]
  in_use_same (k ∷ ks) (other ∷ others) (more is all) zero = ap (λ (cs : List Claim). find (λ c. c.target == 63) cs) is.claims
  in_use_same (k ∷ ks) (other ∷ others) (more is all) (suc g) = in_use_same ks others all g

  module _ (done other : Done) (is : IsDone h r done other) where
    call_same : (word : Span) (callee : IdentTree) → anywhere (call_site other (r.at word) (renamed_ident r callee)) ≡ anywhere (call_site done word callee)
    call_same word callee =
        ap (λ ns. anywhere (called (number_of callee.text ns) (r.at word) (option_and_then claim_in_use (slice_get other.kernels (number_of callee.text ns))))) is.names
        ∙ ap (λ c. anywhere (called (number_of callee.text done.names) word c)) (in_use_same done.kernels other.kernels is.kernels (number_of callee.text done.names))

    both_calls : (xs ys xs' ys' : List CallSite) → map anywhere xs' ≡ map anywhere xs → map anywhere ys' ≡ map anywhere ys → map anywhere (xs' ++ ys') ≡ map anywhere (xs ++ ys)
    both_calls xs ys xs' ys' p q = map-append anywhere xs' ys' ∙ (ap (λ l. l ++ map anywhere ys') p ∙ (ap (λ l. map anywhere xs ++ l) q ∙ sym (map-append anywhere xs ys)))

    mutual
      stmt_calls_same : (s : StmtTree) → map anywhere (stmt_sites_called other (renamed_stmt r s)) ≡ map anywhere (stmt_sites_called done s)
      stmt_calls_same (SetTree at i e) = refl
      stmt_calls_same (SetElemTree at i x e) = refl
      stmt_calls_same (IfTree at e s t) = both_calls (block_sites_called done s) (block_sites_called done t) _ _ (calls_same s) (calls_same t)
      stmt_calls_same (WhileTree at e most s) = calls_same s
      stmt_calls_same (RepeatTree at turns s) = calls_same s
      stmt_calls_same (ReturnTree at e) = refl
      stmt_calls_same (CallTree at i word callee es) = ap (λ c. c ∷ []) (call_same word callee)

      calls_same : (b : Block) → map anywhere (block_sites_called other (renamed_block r b)) ≡ map anywhere (block_sites_called done b)
      calls_same ended = refl
      calls_same (also s rest) = both_calls (stmt_sites_called done s) (block_sites_called done rest) _ _ (stmt_calls_same s) (calls_same rest)

    -- ---- functions

    pub kernel_renamed : (f : FuncTree) → IsRenamed h r (kernel_of h done f) (kernel_of h other (renamed_func r f))
    kernel_renamed f = record {
      name = refl;
      vars = ap (λ vs. vs ++ map (var_of h false) (map (renamed_decl r) f.locals)) (vars_same true f.params)
          ∙ (ap (λ vs. map (renamed_var h r) (map (var_of h true) f.params) ++ vs) (vars_same false f.locals)
          ∙ sym (map-append (renamed_var h r) (map (var_of h true) f.params) (map (var_of h false) f.locals)));
      sites = sites_same f.body;
      calls = calls_same f.body;
      text = ap (λ ns. block_of (sts_of ns 0 0 (renamed_block r f.body)))
          (ap names (sym (map-append (renamed_decl r) f.params f.locals)) ∙ same_names r (f.params ++ f.locals)) ∙ same_block r (names (f.params ++ f.locals)) 0 0 f.body;
      claims = ap (λ ns. map (claim_of ns) (map (renamed_said r) f.claims)) (same_names r f.params) ∙ same_claims r (names f.params) f.claims;
    }
