-- The kernel of a source in which a choice is named: the same kernel, spans aside, with each open place named.
use Rattle.std.specs.Prelude.{◌≡◌, ℕ, ◌≤◌, List, length, Ok}
use Rattle.std.specs.List.{AllByRecursion, AllZip}
use Rattle.rely_num.specs.Texts.{Bytes}
use Rattle.rely_hard.specs.Valid.{IsHardware}
use Rattle.rely_hard.specs.declared.hardware.Hardware.{Hardware}
use Rattle.rely_kernel.specs.Choice.{IsChoice}
use Rattle.rely_kernel.specs.Machine.{functions}
use Rattle.rely_kernel.specs.Setting.{IsClosed, IsOn}
use Rattle.rely_kernel.specs.Valid.{IsLinked}
use Rattle.rely_kernel.specs.declared.kernel.Linked.{Linked}
use Rattle.rely_lexer.specs.Readings.{IsReading}
use Rattle.rely_lexer.specs.declared.token.Token.{Token}
use Rattle.rely_tree.specs.Tree.{UnitTree}
use Rattle.rely_parser.specs.State.{word_at}
use Rattle.rely_parser.specs.Units.{unit_of}
use Rattle.rely_resolve.specs.Linked.{linked_of}
use Rattle.chisel_rewrite.specs.Alike.{IsNamedBy}
use Rattle.chisel_rewrite.specs.Texts.{rewritten}
use Rattle.chisel_rewritten_source.specs.Trees.{by_choice, renamed_unit}

-- the renamed tree means valid and closed kernels on the hardware, which are the tree's, with the choice named and the names of functions
-- where the text has them
pub record MeansAsNamed (text : Bytes) (u : UnitTree) (h : Hardware) (name : Bytes) (l : Linked) (choice : List ℕ) : Type 0 where
  pub other : Linked
  pub means : linked_of (renamed_unit (by_choice h l choice) u) name h ≡ Ok other
  pub named : IsNamedBy choice l other
  pub linked : IsLinked other
  pub on : AllByRecursion (IsOn h) (functions other)
  pub closed : AllByRecursion IsClosed (functions other)
  pub names : AllZip (λ k like. word_at (rewritten text l.kernel h choice) like.name ≡ word_at text k.name) (functions l) (functions other)

-- where only the function itself has open places
abbrev pub KernelMeansAsNamed : Type 0
KernelMeansAsNamed =
    (text : Bytes) (tokens : List Token) (u : UnitTree) (h : Hardware) (name : Bytes) (l : Linked) (choice : List ℕ)
    → IsHardware h → IsReading text (Ok tokens) → unit_of text tokens ≡ Ok u → linked_of u name h ≡ Ok l → AllByRecursion IsClosed l.inner
    → IsChoice l.kernel h choice → length (rewritten text l.kernel h choice) ≤ 65536 → MeansAsNamed text u h name l choice
