-- The open marks of a kernel are those of its function.
use Rattle.std.proofs.Common.{◌≡◌, Bool, true, false, List, [], ◌∷◌, ◌++◌, map, flat_map, filter_map, refl, sym, ap, subst, ◌∙◌}
use Rattle.std.specs.List.{cons_option}
use Rattle.std.proofs.lemmas.List.{append_assoc}
use Rattle.std.proofs.lemmas.List.Elements.{filter_map-append}
use Rattle.rely_num.specs.OpenMarks.{AreOpenMarks}
use Rattle.rely_num.specs.Texts.{Bytes}
use Rattle.rely_num.specs.declared.span.Span.{Span}
use Rattle.rely_hard.specs.declared.hardware.Hardware.{Hardware}
use Rattle.rely_kernel.specs.Setting.{kinds_of, marks_of, open_mark}
use Rattle.rely_kernel.specs.declared.kernel.Site.{Site}
use Rattle.rely_kernel.specs.declared.kernel.Var.{Var}
use Rattle.rely_tree.specs.Marks.{kind_marks, expr_marks, stmt_marks, block_marks, decls_marks, function_marks, IsMarked}
use Rattle.rely_tree.specs.Tree.{KindTree, PlainTree, NamedTree, FreeTree, ExprTree, NumTree, NameTree, ElemTree, BinTree, StmtTree, SetTree, SetElemTree, IfTree, WhileTree, RepeatTree, ReturnTree, CallTree, Block, ended, also, DeclTree, FuncTree, UnitTree}
use Rattle.rely_resolve.specs.Kernels.{Done, slot_of, mark_of, site_of, var_of, expr_sites, exprs_sites, stmt_sites, block_sites, kernel_of}
use Rattle.rely_resolve.specs.Marked.{AreMarkedAs}
use Rattle.rely_resolve.specs.Names.{kind_names, memory_names}
use Rattle.rely_resolve.proofs.ValidLinked.{each_at}

-- the mark of a place is that of the tree, if it is open
cons_mark : (listed : List Bytes) (kind : KindTree) (marks : List Span) → cons_option (open_mark (slot_of listed kind) (mark_of kind)) marks ≡ kind_marks kind ++ marks
cons_mark listed PlainTree marks = refl
cons_mark listed (NamedTree i) marks = refl
cons_mark listed (FreeTree span) marks = refl

-- ---- sites

abbrev open_sites : List Site → List Span
open_sites = filter_map (λ site. open_mark site.kind site.mark)

both : (xs ys : List Site) (marks more : List Span) → open_sites xs ≡ marks → open_sites ys ≡ more → open_sites (xs ++ ys) ≡ marks ++ more
both xs ys marks more p q = filter_map-append (λ (site : Site). open_mark site.kind site.mark) xs ys ∙ ap (λ l. l ++ open_sites ys) p ∙ ap (λ l. marks ++ l) q

expr_marked : (h : Hardware) (e : ExprTree) → open_sites (expr_sites h e) ≡ expr_marks e
expr_marked h (NumTree n) = refl
expr_marked h (NameTree i) = refl
expr_marked h (ElemTree i e) = expr_marked h e
expr_marked h (BinTree op span kind l r) =
    both (expr_sites h l) (site_of h op kind ∷ expr_sites h r) (expr_marks l) (kind_marks kind ++ expr_marks r) (expr_marked h l)
    (cons_mark (kind_names (kinds_of h op)) kind (open_sites (expr_sites h r)) ∙ ap (λ l. kind_marks kind ++ l) (expr_marked h r))
    ∙ sym (append_assoc (expr_marks l) (kind_marks kind) (expr_marks r))

exprs_marked : (h : Hardware) (es : List ExprTree) → open_sites (exprs_sites h es) ≡ flat_map expr_marks es
exprs_marked h [] = refl
exprs_marked h (e ∷ es) = both (expr_sites h e) (exprs_sites h es) (expr_marks e) (flat_map expr_marks es) (expr_marked h e) (exprs_marked h es)

mutual
  stmt_marked : (h : Hardware) (s : StmtTree) → open_sites (stmt_sites h s) ≡ stmt_marks s
  stmt_marked h (SetTree at i e) = expr_marked h e
  stmt_marked h (SetElemTree at i x e) = both (expr_sites h x) (expr_sites h e) (expr_marks x) (expr_marks e) (expr_marked h x) (expr_marked h e)
  stmt_marked h (IfTree at e s t) =
      both (expr_sites h e ++ block_sites h s) (block_sites h t) (expr_marks e ++ block_marks s) (block_marks t)
      (both (expr_sites h e) (block_sites h s) (expr_marks e) (block_marks s) (expr_marked h e) (block_marked h s)) (block_marked h t)
  stmt_marked h (WhileTree at e n s) = both (expr_sites h e) (block_sites h s) (expr_marks e) (block_marks s) (expr_marked h e) (block_marked h s)
  stmt_marked h (RepeatTree at n s) = block_marked h s
  stmt_marked h (ReturnTree at e) = expr_marked h e
  stmt_marked h (CallTree at i word callee es) = exprs_marked h es

  block_marked : (h : Hardware) (b : Block) → open_sites (block_sites h b) ≡ block_marks b
  block_marked h ended = refl
  block_marked h (also s rest) = both (stmt_sites h s) (block_sites h rest) (stmt_marks s) (block_marks rest) (stmt_marked h s) (block_marked h rest)

-- ---- variables

abbrev open_vars : List Var → List Span
open_vars = filter_map (λ v. open_mark v.memory v.mark)

vars_marked : (h : Hardware) (param : Bool) (ds : List DeclTree) → open_vars (map (var_of h param) ds) ≡ decls_marks ds
vars_marked h param [] = refl
vars_marked h param (d ∷ ds) =
    cons_mark (memory_names h.memories) d.memory (open_vars (map (var_of h param) ds)) ∙ ap (λ l. kind_marks d.memory ++ l) (vars_marked h param ds)

-- ---- kernels

pub kernel_marked : (h : Hardware) (done : Done) (f : FuncTree) → marks_of (kernel_of h done f) ≡ function_marks f
kernel_marked h done f =
    let params = map (var_of h true) f.params in
    let locals = map (var_of h false) f.locals in
    let vars : open_vars (params ++ locals) ≡ decls_marks f.params ++ decls_marks f.locals =
    filter_map-append (λ (v : Var). open_mark v.memory v.mark) params locals ∙ ap (λ l. l ++ open_vars locals) (vars_marked h true f.params) ∙ ap (λ l. decls_marks f.params ++ l) (vars_marked h false f.locals) in
    ap (λ l. l ++ open_sites (block_sites h f.body)) vars ∙ ap (λ l. (decls_marks f.params ++ decls_marks f.locals) ++ l) (block_marked h f.body)

-- the marks of a unit that is marked are open marks of the text
pub marked_text : (u : UnitTree) (name text : Bytes) (marks : List Span) → AreMarkedAs u name marks → IsMarked text u → AreOpenMarks text marks
marked_text u name text marks is all =
    subst (AreOpenMarks text) (sym is.same) (each_at (λ f. AreOpenMarks text (function_marks f)) u.functions is.place is.function all is.stands)
