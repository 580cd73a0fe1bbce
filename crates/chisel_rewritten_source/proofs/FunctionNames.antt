-- The names of functions, where the rewritten text has them.
use Rattle.std.proofs.Common.{◌≡◌, ℕ, List, [], ◌∷◌, refl, ap, sym, ◌∙◌}
use Rattle.std.specs.List.{AllByRecursion, AllZip}
use Rattle.rely_num.specs.Texts.{Bytes}
use Rattle.rely_num.specs.declared.span.Span.{Span}
use Rattle.rely_num.specs.declared.word.Word.TheVariants as word
use Rattle.rely_hard.specs.declared.hardware.Hardware.{Hardware}
use Rattle.rely_kernel.specs.declared.kernel.Kernel.{Kernel}
use Rattle.rely_lexer.specs.declared.token.Token.{Token}
use Rattle.rely_tree.specs.Tree.{FuncTree}
use Rattle.rely_parser.specs.Productions as grammar
use Rattle.rely_parser.specs.Productions.{Agree, Each, Func, OneOrMore, one, seq}
use Rattle.rely_parser.specs.State.{word_at}
use Rattle.rely_parser.proofs.Finds.{agree-behind}
use Rattle.rely_parser.proofs.Wholes.{behind-func}
use Rattle.rely_resolve.specs.Kernels.{Done, kernel_of}
use Rattle.rely_resolve.specs.Linked.{with_function}
use Rattle.rely_resolve.specs.Reached.{Those, done_with}
use Rattle.rely_resolve.specs.Reached as reached
use Rattle.rely_resolve.proofs.ValidNames.{both_hold}
use Rattle.chisel_rewrite.specs.declared.naming.Naming.{Naming}
use Rattle.chisel_rewritten_source.specs.Trees.{Renaming, moved_span}
use Rattle.chisel_rewritten_source.proofs.Carried.{AllFates, fates_behind, says_same}
use Rattle.chisel_rewritten_source.proofs.SameKernel.{AreRenamed, more, none}

-- ---- in the trees

module _ (h : Hardware) (ns : List Naming) (old says : Span → Bytes) (text : Bytes) where
  -- a span says in the new text what it says in the text
  abbrev pub SaysSame : Span → Type 0
  SaysSame span = says (moved_span h ns span) ≡ word_at text span

  func_name : {ts rest : List Token} {g : FuncTree} → Func old ts rest g → AllFates h ns old says ts → Agree text old ts → SaysSame g.name.span
  func_name (seq (seq (one {t = t} p) grammar.done) (seq (one q) (seq ps (seq cs (seq (one r) (seq ls (seq l grammar.done))))))) f agree = says_same h ns old says f.0 p refl ∙ sym agree.0

  each_name : {ts rest : List Token} {fs : List FuncTree} → Each word.Fn (Func old) ts rest fs → AllFates h ns old says ts → Agree text old ts → AllByRecursion (λ g. SaysSame g.name.span) fs
  each_name grammar.none f agree = tt
  each_name (grammar.another {ts = ts} {mid = mid} {x = g} p i e) f agree =
      (func_name i f.1 agree.1, each_name e (fates_behind h ns old says (behind-func old ts mid g i) f.1) (agree-behind text old (behind-func old ts mid g i) agree.1))

  pub unit_names : {ts rest : List Token} {fs : List FuncTree} → OneOrMore word.Fn (Func old) ts rest fs → AllFates h ns old says ts → Agree text old ts → AllByRecursion (λ g. SaysSame g.name.span) fs
  unit_names (seq (one p) (seq f (seq e grammar.done))) fates agree = each_name (grammar.another p f e) fates agree

-- ---- in the kernels

-- what holds of all functions holds of some of them
pub those_hold : (P : FuncTree → Type 0) (Q : ℕ → Type 0) {place : ℕ} {fs gs : List FuncTree} → Those Q place fs gs → AllByRecursion P fs → AllByRecursion P gs
those_hold P Q reached.ended all = tt
those_hold P Q (reached.kept q t) all = (all.0, those_hold P Q t all.1)
those_hold P Q (reached.passed q t) all = those_hold P Q t all.1

-- what holds of the spans of names holds of those of the kernels
pub done_hold : (P : Span → Type 0) (h : Hardware) (done : Done) (gs : List FuncTree) → AllByRecursion (λ k. P k.name) done.kernels → AllByRecursion (λ g. P g.name.span) gs
    → AllByRecursion (λ k. P k.name) (done_with h done gs).kernels
done_hold P h done [] kernels all = kernels
done_hold P h done (g ∷ gs) kernels all =
    done_hold P h (with_function h done g) gs (both_hold (λ (k : Kernel). P k.name) done.kernels (kernel_of h done g ∷ []) kernels (all.0, tt)) all.1

-- and of those that are renamed
pub renamed_names : (says : Span → Bytes) (text : Bytes) (h : Hardware) (r : Renaming) (ks others : List Kernel) → AreRenamed h r ks others
    → AllByRecursion (λ k. says (r.at k.name) ≡ word_at text k.name) ks → AllZip (λ k other. says other.name ≡ word_at text k.name) ks others
renamed_names says text h r [] [] none all = tt
renamed_names says text h r [] (other ∷ others) is all = elim is [ ]
renamed_names says text h r (k ∷ ks) [] is all = elim is [ ]
renamed_names says text h r (k ∷ ks) (other ∷ others) (more is rest) all = (ap says is.name ∙ all.0, renamed_names says text h r ks others rest all.1)
