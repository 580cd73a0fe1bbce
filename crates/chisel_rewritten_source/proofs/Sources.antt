-- The marks of a kernel are tokens of its source.
use Rattle.std.proofs.Common.{◌≡◌, ℕ, Bool, true, false, List, [], ◌∷◌, ◌++◌, map, filter_map, drop, length, get_or, ap, sym, ◌∙◌, subst, if◌then◌else◌}
use Rattle.std.specs.Prelude.{Contains}
use Rattle.std.specs.List.{AllByRecursion, cons_option, zip}
use Rattle.std.proofs.lemmas.List.{append-nil}
use Rattle.rely_num.specs.OpenMarks.{AreOpenMarks}
use Rattle.rely_num.specs.Texts.{Bytes, is_name_byte}
use Rattle.rely_num.specs.declared.span.Span.{Span}
use Rattle.rely_hard.specs.declared.hardware.Hardware.{Hardware}
use Rattle.rely_kernel.specs.Choice.{IsChoice}
use Rattle.rely_kernel.specs.Setting.{open_mark}
use Rattle.rely_kernel.specs.declared.kernel.Linked.{Linked}
use Rattle.rely_kernel.specs.declared.kernel.Site.{Site}
use Rattle.rely_kernel.specs.declared.kernel.Slot.{Slot}
use Rattle.rely_kernel.specs.declared.kernel.Slot.TheVariants.{Named, Free}
use Rattle.rely_kernel.specs.declared.kernel.Var.{Var}
use Rattle.rely_lexer.specs.declared.token.Token.{Token}
use Rattle.rely_tree.specs.Marks.{decls_marks, function_marks, kind_marks}
use Rattle.rely_tree.specs.Tree.{DeclTree, FuncTree, KindTree, PlainTree, NamedTree, FreeTree}
use Rattle.rely_resolve.specs.Kernels.{Done, kernel_of, mark_of, slot_of, var_of}
use Rattle.rely_resolve.specs.Names.{memory_names}
use Rattle.rely_resolve.specs.Linked.{nothing_done}
use Rattle.rely_resolve.specs.Reached.{done_with}
use Rattle.rely_resolve.proofs.Marked.{kernel_marked}
use Rattle.rely_resolve.proofs.ValidLinked.{each_at}
use Rattle.chisel_rewrite.specs.Namings.{is_open, kind_namings, memory_namings, namings, open_sites, open_vars}
use Rattle.chisel_rewrite.specs.Namings.{mark_of as mark}
use Rattle.chisel_rewrite.specs.declared.naming.Naming.TheVariants.{Kind, Memory}
use Rattle.chisel_rewrite.proofs.Places.{marks_named}
use Rattle.chisel_rewritten_source.specs.Sources.{KernelMarksAreTokens, KernelRereadAsNamed}
use Rattle.chisel_rewritten_source.specs.Marks.{AreTokensOf}
use Rattle.chisel_rewritten_source.specs.Tokens.{AreMarksOf, StandsApart, open_token}
use Rattle.chisel_rewritten_source.proofs.Lexemes.{lexemes_as_named}
use Rattle.chisel_rewritten_source.proofs.MarkTokens.{all_append, marks_are_tokens}
use Rattle.chisel_rewritten_source.proofs.Reread.{reread_as_named}

-- what holds of each that a list maps to
pub all_mapped : {X Y : Type 0} (P : Y → Type 0) (f : X → Y) (xs : List X) → AllByRecursion P (map f xs) → AllByRecursion (λ x. P (f x)) xs
all_mapped P f [] all = tt
all_mapped P f (x ∷ xs) all = (all.0, all_mapped P f xs all.1)

-- ---- apart

kinds_apart : (text : Bytes) (places : List (Site × ℕ)) → AllByRecursion (StandsApart text) (map (λ p. Kind p.0.mark p.0.op p.1) places)
kinds_apart text [] = tt
kinds_apart text (p ∷ places) = (tt, kinds_apart text places)

-- what holds of the marks of open variables holds of the marks that are named
memories_apart : (text : Bytes) (vars : List Var) (options : List ℕ) → AllByRecursion (λ m. is_name_byte (get_or text m.to 0) ≡ false) (filter_map (λ v. open_mark v.memory v.mark) vars)
    → AllByRecursion (StandsApart text) (memory_namings vars options)
memories_apart text [] options all = tt
memories_apart text (v ∷ vars) options all = one v.memory options (memories_apart text vars) all
  where
    one : (s : Slot) (os : List ℕ)
        → ((os : List ℕ) → AllByRecursion (λ m. is_name_byte (get_or text m.to 0) ≡ false) (filter_map (λ v. open_mark v.memory v.mark) vars) → AllByRecursion (StandsApart text) (memory_namings vars os))
        → AllByRecursion (λ m. is_name_byte (get_or text m.to 0) ≡ false) (cons_option (open_mark s v.mark) (filter_map (λ v. open_mark v.memory v.mark) vars))
        → AllByRecursion (StandsApart text) (map (λ p. Memory p.0.mark p.1) (zip (if is_open s then v ∷ open_vars vars else open_vars vars) os))
    one (Named n) os rest all = rest os all
    one Free [] rest all = tt
    one Free (o ∷ os) rest all = (all.0, rest os all.1)

-- what holds of the marks of declarations holds of those of their variables
vars_have : (P : Span → Type 0) (h : Hardware) (param : Bool) (ds : List DeclTree) (more : List Var) → AllByRecursion P (decls_marks ds)
    → AllByRecursion P (filter_map (λ v. open_mark v.memory v.mark) more) → AllByRecursion P (filter_map (λ v. open_mark v.memory v.mark) (map (var_of h param) ds ++ more))
vars_have P h param [] more all later = later
vars_have P h param (d ∷ ds) more all later = one d.memory (λ all. vars_have P h param ds more all later) all
  where
    one : (kind : KindTree) → (AllByRecursion P (decls_marks ds) → AllByRecursion P (filter_map (λ v. open_mark v.memory v.mark) (map (var_of h param) ds ++ more)))
        → AllByRecursion P (kind_marks kind ++ decls_marks ds)
        → AllByRecursion P (cons_option (open_mark (slot_of (memory_names h.memories) kind) (mark_of kind)) (filter_map (λ v. open_mark v.memory v.mark) (map (var_of h param) ds ++ more)))
    one PlainTree rest all = rest all
    one (NamedTree i) rest all = rest all
    one (FreeTree span) rest all = (all.0, rest all.1)

-- ---- kernels

split_all : (P : Span → Type 0) (xs ys : List Span) → AllByRecursion P (xs ++ ys) → AllByRecursion P xs × AllByRecursion P ys
split_all P [] ys all = (tt, all)
split_all P (x ∷ xs) ys all = let rest = split_all P xs ys all.1 in ((all.0, rest.0), rest.1)

function_marks_are : (text : Bytes) (tokens : List Token) (h : Hardware) (done : Done) (f : FuncTree) (choice : List ℕ) → AreTokensOf text tokens f → IsChoice (kernel_of h done f) h choice
    → AreMarksOf text tokens (namings (kernel_of h done f) choice)
function_marks_are text tokens h done f choice found is =
    let k = kernel_of h done f in
    let behind = drop (length (open_sites k.sites)) choice in
    let P : Span → Type 0 = λ m. is_name_byte (get_or text m.to 0) ≡ false in
    let same : map mark (namings k choice) ≡ function_marks f = marks_named k h choice is ∙ kernel_marked h done f in
    let parts = split_all P (decls_marks f.params) (decls_marks f.locals) found.apart in
    let locals = subst (λ vs. AllByRecursion P (filter_map (λ v. open_mark v.memory v.mark) vs)) (append-nil (map (var_of h false) f.locals)) (vars_have P h false f.locals [] parts.1 tt) in
    let vars = vars_have P h true f.params (map (var_of h false) f.locals) parts.0 locals in
    record {
      marks = subst (AreOpenMarks text) (sym same) found.open_marks;
      are_tokens = all_mapped (λ m. Contains tokens (open_token m)) mark (namings k choice) (subst (λ ms. AllByRecursion (λ m. Contains tokens (open_token m)) ms) (sym same) found.are_tokens);
      apart = all_append (StandsApart text) (memory_namings k.vars behind) (kind_namings k.sites choice) (memories_apart text k.vars behind vars)
          (kinds_apart text (zip (open_sites k.sites) choice));
    }

pub kernel_marks_are_tokens : KernelMarksAreTokens
kernel_marks_are_tokens text tokens u h name l choice are spelled linked is =
    let done = done_with h nothing_done linked.reached in
    let found = each_at (AreTokensOf text tokens) u.functions linked.place linked.function (marks_are_tokens text tokens u are spelled) linked.stands in
    let same : l.kernel ≡ kernel_of h done linked.function = ap (λ (l : Linked). l.kernel) linked.linked in
    subst (λ k. AreMarksOf text tokens (namings k choice)) (sym same)
    (function_marks_are text tokens h done linked.function choice found (subst (λ k. IsChoice k h choice) same is))

pub kernel_reread_as_named : KernelRereadAsNamed
kernel_reread_as_named text tokens u h name l choice hard read spelled linked is few =
    let marks = kernel_marks_are_tokens text tokens u h name l choice read.1 spelled linked is in
    record { reading = reread_as_named text tokens l.kernel h choice hard is marks few read; says = lexemes_as_named text tokens l.kernel h choice is marks read.1 }
