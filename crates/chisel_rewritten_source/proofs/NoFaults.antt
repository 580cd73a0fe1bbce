-- A renamed function has no fault with names where the function has none.
use Rattle.std.proofs.Common.{◌≡◌, ℕ, zero, suc, ◌+◌, ◌==◌, ◌||◌, Bool, not, true, false, cond, List, [], ◌∷◌, ◌++◌, map, length, find, Option, Some, None, refl, ap, sym, ◌∙◌}
use Rattle.std.specs.Prelude.{option_map, is_none, is_some, nat_le}
use Rattle.std.specs.List.{AllByRecursion, list_any}
use Rattle.std.specs.Option.{option_map_or}
use Rattle.std.proofs.lemmas.List.{append_assoc, length-map, map-append}
use Rattle.rely_num.specs.Ops.{is_op}
use Rattle.rely_num.specs.Texts.{Bytes, is_among, same_text}
use Rattle.rely_num.specs.declared.op.Op.{Op}
use Rattle.rely_num.specs.declared.span.Span.{Span}
use Rattle.rely_hard.specs.declared.hardware.Hardware.{Hardware}
use Rattle.rely_hard.specs.declared.hardware.OpSpec.{OpSpec}
use Rattle.rely_kernel.specs.Setting.{kinds_of}
use Rattle.rely_kernel.specs.declared.kernel.Site.{Site}
use Rattle.rely_kernel.specs.declared.kernel.Slot.{Slot}
use Rattle.rely_kernel.specs.declared.kernel.Slot.TheVariants.{Named, Free}
use Rattle.rely_kernel.specs.declared.kernel.Var.{Var}
use Rattle.rely_tree.specs.Tree.{IdentTree, KindTree, PlainTree, NamedTree, FreeTree, ExprTree, NumTree, NameTree, ElemTree, BinTree, StmtTree, SetTree, SetElemTree, IfTree, WhileTree, RepeatTree, ReturnTree, CallTree, Block, ended, also, DeclTree, SaidTree, FuncTree, variables}
use Rattle.rely_resolve.specs.Faults.{array_faults, block_faults, called_faults, callee_faults, claim_faults, claims_faults, expr_faults, exprs_faults, function_faults, kind_faults, limit_faults, memories_faults, memory_faults, named_faults, needs_faults, param_faults, scalar_faults, size, stmt_faults, twice_faults, when}
use Rattle.rely_resolve.specs.Kernels.{block_sites, expr_sites, exprs_sites, mark_of, site_of, slot_of, stmt_sites, var_of}
use Rattle.rely_resolve.specs.Names.{is_array, memory_names, names, place_of}
use Rattle.rely_resolve.specs.declared.fault.NameFault.{NameFault}
use Rattle.rely_resolve.specs.declared.fault.NameFault.TheVariants as fault
use Rattle.rely_resolve.proofs.ValidNames.{both_empty, each_holds, when_off}
use Rattle.chisel_rewritten_source.specs.Trees.{Renaming, renamed_block, renamed_decl, renamed_expr, renamed_func, renamed_ident, renamed_kind, renamed_said, renamed_stmt}
use Rattle.chisel_rewritten_source.proofs.SameText.{same_names}

-- nothing before nothing
nothing_both : {A : Type 0} (xs ys : List A) → xs ≡ [] → ys ≡ [] → xs ++ ys ≡ []
nothing_both xs ys p q = ap (λ l. l ++ ys) p ∙ q

when_same : (b c : Bool) (f g : NameFault) → c ≡ b → when b f ≡ [] → when c g ≡ []
when_same b c f g same e = ap (λ b. when b g) (same ∙ when_off b f e)

-- what an open place gives way to has no fault
abbrev pub SlotOpens : (KindTree → List NameFault) → Renaming → Slot → Span → Type 0
SlotOpens faults r (Named n) mark = Unit {0}
SlotOpens faults r Free mark = faults (r.mark mark) ≡ []

abbrev pub SiteOpens : Hardware → Renaming → Site → Type 0
SiteOpens h r s = SlotOpens (named_faults (kinds_of h s.op)) r s.kind s.mark

abbrev pub VarOpens : Hardware → Renaming → Var → Type 0
VarOpens h r v = SlotOpens (memory_faults h.memories) r v.memory v.mark

-- so it is at all open places of a function
pub record Opens (h : Hardware) (r : Renaming) (f : FuncTree) : Type 0 where
  pub sites : AllByRecursion (SiteOpens h r) (block_sites h f.body)
  pub params : AllByRecursion (VarOpens h r) (map (var_of h true) f.params)
  pub locals : AllByRecursion (VarOpens h r) (map (var_of h false) f.locals)

module _ (h : Hardware) (r : Renaming) where
  -- ---- variables

  array_same : (ds : List DeclTree) (v : ℕ) → is_array (map (renamed_decl r) ds) v ≡ is_array ds v
  array_same [] v = refl
  array_same (d ∷ ds) zero = refl
  array_same (d ∷ ds) (suc v) = array_same ds v

  module _ (vs : List DeclTree) where
    scalar_none : (i : IdentTree) → scalar_faults vs i ≡ [] → scalar_faults (map (renamed_decl r) vs) (renamed_ident r i) ≡ []
    scalar_none i e =
        ap (λ ns. option_map_or (λ v. when (is_array (map (renamed_decl r) vs) v) (fault.NotScalar (r.at i.span))) (place_of i.text ns) (fault.Unknown (r.at i.span) ∷ [])) (same_names r vs)
        ∙ one (place_of i.text (names vs)) e
      where
        one : (o : Option ℕ) → option_map_or (λ v. when (is_array vs v) (fault.NotScalar i.span)) o (fault.Unknown i.span ∷ []) ≡ []
            → option_map_or (λ v. when (is_array (map (renamed_decl r) vs) v) (fault.NotScalar (r.at i.span))) o (fault.Unknown (r.at i.span) ∷ []) ≡ []
        one None e = absurd (cc)
        one (Some v) e = when_same (is_array vs v) (is_array (map (renamed_decl r) vs) v) (fault.NotScalar i.span) (fault.NotScalar (r.at i.span)) (array_same vs v) e

    array_none : (i : IdentTree) → array_faults vs i ≡ [] → array_faults (map (renamed_decl r) vs) (renamed_ident r i) ≡ []
    array_none i e =
        ap (λ ns. option_map_or (λ v. when (not (is_array (map (renamed_decl r) vs) v)) (fault.NotArray (r.at i.span))) (place_of i.text ns) (fault.Unknown (r.at i.span) ∷ [])) (same_names r vs)
        ∙ one (place_of i.text (names vs)) e
      where
        one : (o : Option ℕ) → option_map_or (λ v. when (not (is_array vs v)) (fault.NotArray i.span)) o (fault.Unknown i.span ∷ []) ≡ []
            → option_map_or (λ v. when (not (is_array (map (renamed_decl r) vs) v)) (fault.NotArray (r.at i.span))) o (fault.Unknown (r.at i.span) ∷ []) ≡ []
        one None e = absurd (cc)
        one (Some v) e = when_same (not (is_array vs v)) (not (is_array (map (renamed_decl r) vs) v)) (fault.NotArray i.span) (fault.NotArray (r.at i.span)) (ap not (array_same vs v)) e

    -- ---- expressions

    kind_none : (op : Op) (span : Span) (kind : KindTree) → kind_faults h op span kind ≡ [] → SiteOpens h r (site_of h op kind) → kind_faults h op (r.at span) (renamed_kind r kind) ≡ []
    kind_none op span PlainTree e opens = one (find (λ o. is_op o.op op) h.operators) e
      where
        one : (x : Option OpSpec) → option_map_or (λ o. named_faults o.kinds PlainTree) x (fault.NoKind span ∷ []) ≡ [] → option_map_or (λ o. named_faults o.kinds PlainTree) x (fault.NoKind (r.at span) ∷ []) ≡ []
        one None e = absurd (cc)
        one (Some o) e = refl
    kind_none op span (NamedTree i) e opens = one (find (λ o. is_op o.op op) h.operators) e
      where
        one : (x : Option OpSpec) → option_map_or (λ o. named_faults o.kinds (NamedTree i)) x (fault.NoKind span ∷ []) ≡ []
            → option_map_or (λ o. named_faults o.kinds (NamedTree (renamed_ident r i))) x (fault.NoKind (r.at span) ∷ []) ≡ []
        one None e = absurd (cc)
        one (Some o) e = when_same _ _ (fault.NoKind i.span) (fault.NoKind (r.at i.span)) refl e
    kind_none op span (FreeTree mark) e opens = one (find (λ o. is_op o.op op) h.operators) e opens
      where
        one : (x : Option OpSpec) → option_map_or (λ o. named_faults o.kinds (FreeTree mark)) x (fault.NoKind span ∷ []) ≡ [] → named_faults (option_map_or (λ o. o.kinds) x []) (r.mark mark) ≡ []
            → option_map_or (λ o. named_faults o.kinds (r.mark mark)) x (fault.NoKind (r.at span) ∷ []) ≡ []
        one None e p = absurd (cc)
        one (Some o) e p = p

    expr_none : (e : ExprTree) → expr_faults h vs e ≡ [] → AllByRecursion (SiteOpens h r) (expr_sites h e) → expr_faults h (map (renamed_decl r) vs) (renamed_expr r e) ≡ []
    expr_none (NumTree n) f opens = refl
    expr_none (NameTree i) f opens = scalar_none i f
    expr_none (ElemTree i e) f opens =
        let (a, b) = both_empty (array_faults vs i) (expr_faults h vs e) f in
        nothing_both _ _ (array_none i a) (expr_none e b opens)
    expr_none (BinTree op span kind x y) f opens =
        let (ab, c) = both_empty (expr_faults h vs x ++ kind_faults h op span kind) (expr_faults h vs y) f in
        let (a, b) = both_empty (expr_faults h vs x) (kind_faults h op span kind) ab in
        let parts = each_holds (SiteOpens h r) (expr_sites h x) (site_of h op kind ∷ expr_sites h y) opens in
        nothing_both _ _ (nothing_both _ _ (expr_none x a parts.0) (kind_none op span kind b parts.1.0)) (expr_none y c parts.1.1)

    exprs_none : (es : List ExprTree) → exprs_faults h vs es ≡ [] → AllByRecursion (SiteOpens h r) (exprs_sites h es) → exprs_faults h (map (renamed_decl r) vs) (map (renamed_expr r) es) ≡ []
    exprs_none [] f opens = refl
    exprs_none (e ∷ es) f opens =
        let (a, b) = both_empty (expr_faults h vs e) (exprs_faults h vs es) f in
        let parts = each_holds (SiteOpens h r) (expr_sites h e) (exprs_sites h es) opens in
        nothing_both _ _ (expr_none e a parts.0) (exprs_none es b parts.1)

    -- ---- statements

    module _ (earlier : List FuncTree) where
      lengths_same : (ds : List DeclTree) → list_any (λ d. is_some d.length) (map (renamed_decl r) ds) ≡ list_any (λ d. is_some d.length) ds
      lengths_same [] = refl
      lengths_same (d ∷ ds) = ap (λ b. is_some d.length || b) (lengths_same ds)

      targets_same : (cs : List SaidTree) → list_any (λ c. is_none c.target) (map (renamed_said r) cs) ≡ list_any (λ c. is_none c.target) cs
      targets_same [] = refl
      targets_same (c ∷ cs) = ap (λ b. b || list_any (λ c. is_none c.target) (map (renamed_said r) cs)) (one c.target) ∙ ap (λ b. is_none c.target || b) (targets_same cs)
        where
          one : (o : Option IdentTree) → is_none (option_map (renamed_ident r) o) ≡ is_none o
          one None = refl
          one (Some i) = refl

      called_none : (span : Span) (n : ℕ) (g : FuncTree) → called_faults span n g ≡ [] → called_faults (r.at span) n (renamed_func r g) ≡ []
      called_none span n g e =
          let (ab, c) = both_empty (when (not (length g.params == n)) (fault.Arity span) ++ when (list_any (λ d. is_some d.length) g.params) (fault.ArrayParam span))
          (when (not (list_any (λ c. is_none c.target) g.claims)) (fault.NoClaim span)) e in
          let (a, b) = both_empty (when (not (length g.params == n)) (fault.Arity span)) (when (list_any (λ d. is_some d.length) g.params) (fault.ArrayParam span)) ab in
          nothing_both _ _ (nothing_both _ _
          (when_same _ _ (fault.Arity span) (fault.Arity (r.at span)) (ap (λ m. not (m == n)) (length-map g.params (renamed_decl r))) a)
          (when_same _ _ (fault.ArrayParam span) (fault.ArrayParam (r.at span)) (lengths_same g.params) b))
          (when_same _ _ (fault.NoClaim span) (fault.NoClaim (r.at span)) (ap not (targets_same g.claims)) c)

      found_same : (name : Bytes) (gs : List FuncTree) → find (λ g. same_text g.name.text name) (map (renamed_func r) gs) ≡ option_map (renamed_func r) (find (λ g. same_text g.name.text name) gs)
      found_same name [] = refl
      found_same name (g ∷ gs) = one (same_text g.name.text name) (found_same name gs)
        where
          one : (b : Bool) → find (λ g. same_text g.name.text name) (map (renamed_func r) gs) ≡ option_map (renamed_func r) (find (λ g. same_text g.name.text name) gs)
              → cond b (Some (renamed_func r g)) (find (λ g. same_text g.name.text name) (map (renamed_func r) gs)) ≡ option_map (renamed_func r) (cond b (Some g) (find (λ g. same_text g.name.text name) gs))
          one true rest = refl
          one false rest = rest

      callee_none : (callee : IdentTree) (n m : ℕ) → m ≡ n → callee_faults earlier callee n ≡ [] → callee_faults (map (renamed_func r) earlier) (renamed_ident r callee) m ≡ []
      callee_none callee n m same e =
          ap (λ m. callee_faults (map (renamed_func r) earlier) (renamed_ident r callee) m) same
          ∙ (ap (λ o. option_map_or (called_faults (r.at callee.span) n) o (fault.NoCallee (r.at callee.span) ∷ [])) (found_same callee.text earlier)
          ∙ one (find (λ g. same_text g.name.text callee.text) earlier) e)
        where
          one : (o : Option FuncTree) → option_map_or (called_faults callee.span n) o (fault.NoCallee callee.span ∷ []) ≡ []
              → option_map_or (called_faults (r.at callee.span) n) (option_map (renamed_func r) o) (fault.NoCallee (r.at callee.span) ∷ []) ≡ []
          one None e = absurd (cc)
          one (Some g) e = called_none callee.span n g e

      mutual
        stmt_none : (s : StmtTree) → stmt_faults h earlier vs s ≡ [] → AllByRecursion (SiteOpens h r) (stmt_sites h s)
            → stmt_faults h (map (renamed_func r) earlier) (map (renamed_decl r) vs) (renamed_stmt r s) ≡ []
        stmt_none (SetTree at i e) f opens =
            let (a, b) = both_empty (scalar_faults vs i) (expr_faults h vs e) f in
            nothing_both _ _ (scalar_none i a) (expr_none e b opens)
        stmt_none (SetElemTree at i x e) f opens =
            let (ab, c) = both_empty (array_faults vs i ++ expr_faults h vs x) (expr_faults h vs e) f in
            let (a, b) = both_empty (array_faults vs i) (expr_faults h vs x) ab in
            let parts = each_holds (SiteOpens h r) (expr_sites h x) (expr_sites h e) opens in
            nothing_both _ _ (nothing_both _ _ (array_none i a) (expr_none x b parts.0)) (expr_none e c parts.1)
        stmt_none (IfTree at e s t) f opens =
            let (ab, c) = both_empty (expr_faults h vs e ++ block_faults h earlier vs s) (block_faults h earlier vs t) f in
            let (a, b) = both_empty (expr_faults h vs e) (block_faults h earlier vs s) ab in
            let parts = each_holds (SiteOpens h r) (expr_sites h e ++ block_sites h s) (block_sites h t) opens in
            let front = each_holds (SiteOpens h r) (expr_sites h e) (block_sites h s) parts.0 in
            nothing_both _ _ (nothing_both _ _ (expr_none e a front.0) (block_none s b front.1)) (block_none t c parts.1)
        stmt_none (WhileTree at e n s) f opens =
            let (a, b) = both_empty (expr_faults h vs e) (block_faults h earlier vs s) f in
            let parts = each_holds (SiteOpens h r) (expr_sites h e) (block_sites h s) opens in
            nothing_both _ _ (expr_none e a parts.0) (block_none s b parts.1)
        stmt_none (RepeatTree at n s) f opens = block_none s f opens
        stmt_none (ReturnTree at e) f opens = expr_none e f opens
        stmt_none (CallTree at i word callee es) f opens =
            let (ab, c) = both_empty (scalar_faults vs i ++ callee_faults earlier callee (length es)) (exprs_faults h vs es) f in
            let (a, b) = both_empty (scalar_faults vs i) (callee_faults earlier callee (length es)) ab in
            nothing_both _ _ (nothing_both _ _ (scalar_none i a) (callee_none callee (length es) (length (map (renamed_expr r) es)) (length-map es (renamed_expr r)) b)) (exprs_none es c opens)

        block_none : (b : Block) → block_faults h earlier vs b ≡ [] → AllByRecursion (SiteOpens h r) (block_sites h b)
            → block_faults h (map (renamed_func r) earlier) (map (renamed_decl r) vs) (renamed_block r b) ≡ []
        block_none ended f opens = refl
        block_none (also s rest) f opens =
            let (a, b) = both_empty (stmt_faults h earlier vs s) (block_faults h earlier vs rest) f in
            let parts = each_holds (SiteOpens h r) (stmt_sites h s) (block_sites h rest) opens in
            nothing_both _ _ (stmt_none s a parts.0) (block_none rest b parts.1)

  -- ---- declarations and claims

  twice_none : (seen : List Bytes) (ds : List DeclTree) → twice_faults seen ds ≡ [] → twice_faults seen (map (renamed_decl r) ds) ≡ []
  twice_none seen [] e = refl
  twice_none seen (d ∷ ds) e =
      let (a, b) = both_empty (when (is_among d.name.text seen) (fault.Twice d.name.span)) (twice_faults (seen ++ d.name.text ∷ []) ds) e in
      nothing_both _ _ (when_same _ _ (fault.Twice d.name.span) (fault.Twice (r.at d.name.span)) refl a) (twice_none (seen ++ d.name.text ∷ []) ds b)

  memory_none : (kind : KindTree) → memory_faults h.memories kind ≡ [] → SlotOpens (memory_faults h.memories) r (slot_of (memory_names h.memories) kind) (mark_of kind)
      → memory_faults h.memories (renamed_kind r kind) ≡ []
  memory_none PlainTree e opens = refl
  memory_none (NamedTree i) e opens = when_same _ _ (fault.NoMemory i.span) (fault.NoMemory (r.at i.span)) refl e
  memory_none (FreeTree span) e opens = opens

  memories_none : (param : Bool) (ds : List DeclTree) → memories_faults h.memories ds ≡ [] → AllByRecursion (VarOpens h r) (map (var_of h param) ds) → memories_faults h.memories (map (renamed_decl r) ds) ≡ []
  memories_none param [] e opens = refl
  memories_none param (d ∷ ds) e opens =
      let (a, b) = both_empty (memory_faults h.memories d.memory) (memories_faults h.memories ds) e in
      nothing_both _ _ (memory_none d.memory a opens.0) (memories_none param ds b opens.1)

  memories_append : (ds es : List DeclTree) → memories_faults h.memories (ds ++ es) ≡ memories_faults h.memories ds ++ memories_faults h.memories es
  memories_append [] es = refl
  memories_append (d ∷ ds) es =
      ap (λ fs. memory_faults h.memories d.memory ++ fs) (memories_append ds es) ∙ sym (append_assoc (memory_faults h.memories d.memory) (memories_faults h.memories ds) (memories_faults h.memories es))

  limits_none : (held : ℕ) (ds : List DeclTree) → limit_faults held ds ≡ [] → limit_faults held (map (renamed_decl r) ds) ≡ []
  limits_none held [] e = refl
  limits_none held (d ∷ ds) e = one (nat_le (held + size d) 65536) (limits_none (held + size d) ds) e
    where
      one : (b : Bool) → (limit_faults (held + size d) ds ≡ [] → limit_faults (held + size d) (map (renamed_decl r) ds) ≡ [])
          → cond b (limit_faults (held + size d) ds) (fault.Limit d.name.span ∷ []) ≡ [] → cond b (limit_faults (held + size d) (map (renamed_decl r) ds)) (fault.Limit (r.at d.name.span) ∷ []) ≡ []
      one true rest e = rest e
      one false rest e = absurd (cc)

  param_none : (params : List DeclTree) (i : IdentTree) → param_faults params i ≡ [] → param_faults (map (renamed_decl r) params) (renamed_ident r i) ≡ []
  param_none params i e =
      when_same (is_none (place_of i.text (names params))) (is_none (place_of i.text (names (map (renamed_decl r) params)))) (fault.ClaimParam i.span) (fault.ClaimParam (r.at i.span))
      (ap (λ ns. is_none (place_of i.text ns)) (same_names r params)) e

  needs_none : (params : List DeclTree) (is : List IdentTree) → needs_faults params is ≡ [] → needs_faults (map (renamed_decl r) params) (map (renamed_ident r) is) ≡ []
  needs_none params [] e = refl
  needs_none params (i ∷ is) e =
      let (a, b) = both_empty (param_faults params i) (needs_faults params is) e in
      nothing_both _ _ (param_none params i a) (needs_none params is b)

  claims_none : (params : List DeclTree) (cs : List SaidTree) → claims_faults params cs ≡ [] → claims_faults (map (renamed_decl r) params) (map (renamed_said r) cs) ≡ []
  claims_none params [] e = refl
  claims_none params (c ∷ cs) e =
      let (ab, d) = both_empty (claim_faults params c) (claims_faults params cs) e in
      let (a, b) = both_empty (option_map_or (param_faults params) c.target []) (needs_faults params c.needs) ab in
      nothing_both _ _ (nothing_both _ _ (one c.target a) (needs_none params c.needs b)) (claims_none params cs d)
    where
      one : (o : Option IdentTree) → option_map_or (param_faults params) o [] ≡ [] → option_map_or (param_faults (map (renamed_decl r) params)) (option_map (renamed_ident r) o) [] ≡ []
      one None e = refl
      one (Some i) e = param_none params i e

  -- ---- functions

  pub function_none : (earlier : List FuncTree) (f : FuncTree) → Opens h r f → function_faults h earlier f ≡ [] → function_faults h (map (renamed_func r) earlier) (renamed_func r f) ≡ []
  function_none earlier f opens e =
      let vs = variables f in
      let same : map (renamed_decl r) f.params ++ map (renamed_decl r) f.locals ≡ map (renamed_decl r) vs = sym (map-append (renamed_decl r) f.params f.locals) in
      let (abcd, block) = both_empty (((twice_faults [] vs ++ memories_faults h.memories vs) ++ limit_faults 0 vs) ++ claims_faults f.params f.claims) (block_faults h earlier vs f.body) e in
      let (abc, claims) = both_empty ((twice_faults [] vs ++ memories_faults h.memories vs) ++ limit_faults 0 vs) (claims_faults f.params f.claims) abcd in
      let (ab, limits) = both_empty (twice_faults [] vs ++ memories_faults h.memories vs) (limit_faults 0 vs) abc in
      let (twice, memories) = both_empty (twice_faults [] vs) (memories_faults h.memories vs) ab in
      let (params, locals) = both_empty (memories_faults h.memories f.params) (memories_faults h.memories f.locals) (sym (memories_append f.params f.locals) ∙ memories) in
      let named : memories_faults h.memories (map (renamed_decl r) vs) ≡ [] =
      ap (memories_faults h.memories) (sym same) ∙ (memories_append (map (renamed_decl r) f.params) (map (renamed_decl r) f.locals)
      ∙ nothing_both _ _ (memories_none true f.params params opens.params) (memories_none false f.locals locals opens.locals)) in
      ap (λ ds. (((twice_faults [] ds ++ memories_faults h.memories ds) ++ limit_faults 0 ds) ++ claims_faults (map (renamed_decl r) f.params) (map (renamed_said r) f.claims))
      ++ block_faults h (map (renamed_func r) earlier) ds (renamed_block r f.body)) same
      ∙ nothing_both _ _ (nothing_both _ _ (nothing_both _ _ (nothing_both _ _ (twice_none [] vs twice) named) (limits_none 0 vs limits)) (claims_none f.params f.claims claims))
      (block_none vs earlier f.body block opens.sites)
