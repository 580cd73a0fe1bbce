-- What a rewritten text is, whichever way it was made.
use Rattle.std.specs.Prelude.{◌≡◌, ℕ, suc, ◌+◌, List, [], ◌∷◌, ◌++◌, length, map, filter, sum_by, codes, Contains}
use Rattle.std.specs.List.{AllByRecursion, zip}
use Rattle.rely_num.specs.OpenMarks.{AreOpenMarks}
use Rattle.rely_num.specs.Texts.{Bytes}
use Rattle.rely_hard.specs.declared.hardware.Hardware.{Hardware}
use Rattle.rely_kernel.specs.declared.kernel.Kernel.{Kernel}
use Rattle.rely_kernel.specs.Choice.{IsChoice, setting_of}
use Rattle.rely_kernel.specs.Setting.{IsClosed, kinds_of, marks_of}
use Rattle.chisel_rewrite.specs.declared.naming.Naming.{Naming}
use Rattle.chisel_rewrite.specs.declared.naming.Naming.TheVariants.{Kind, Memory}
use Rattle.chisel_rewrite.specs.Namings.{is_open, mark_of, namings}
use Rattle.chisel_rewrite.specs.Texts.{name_of, named, rewritten, text_of}

-- ---- the text in pieces

-- pieces in order, with one filler between each and the next
abbrev pub interleaved : List Bytes → List Bytes → Bytes
interleaved [] fillers = []
interleaved (piece ∷ pieces) [] = piece
interleaved (piece ∷ pieces) (filler ∷ fillers) = piece ++ (filler ++ interleaved pieces fillers)

-- one list of pieces makes both texts: the source with a `?` between each and the next, and the rewritten one with what the marks give way to
pub record IsInPieces (text rewritten : Bytes) (h : Hardware) (ns : List Naming) : Type 0 where
  pub pieces : List Bytes
  pub count : length pieces ≡ suc (length ns)
  pub source : text ≡ interleaved pieces (map (λ n. codes "?") ns)
  pub named : rewritten ≡ interleaved pieces (map (text_of h) ns)

abbrev pub TextInPieces : Type 0
TextInPieces =
    (text : Bytes) (k : Kernel) (h : Hardware) (choice : List ℕ) → AreOpenMarks text (marks_of k) → IsChoice k h choice
    → IsInPieces text (rewritten text k h choice) h (namings k choice)

-- ---- one mark at a time

-- to name the last mark, and then the others in the text so made, is to name them all
abbrev pub OneAtATime : Type 0
OneAtATime =
    (text : Bytes) (h : Hardware) (ns : List Naming) (last : Naming) → AreOpenMarks text (map mark_of (ns ++ last ∷ []))
    → named h text 0 (ns ++ last ∷ []) ≡ named h (named h text 0 (last ∷ [])) 0 ns

-- ---- how long it is

abbrev pub LengthCounts : Type 0
LengthCounts =
    (text : Bytes) (k : Kernel) (h : Hardware) (choice : List ℕ) → AreOpenMarks text (marks_of k) → IsChoice k h choice
    → length (rewritten text k h choice) + length (marks_of k) ≡ length text + sum_by (λ n. length (text_of h n)) (namings k choice)

-- ---- nothing to name

abbrev pub ClosedStays : Type 0
ClosedStays =
    (text : Bytes) (k : Kernel) (h : Hardware) (choice : List ℕ) → IsClosed k → IsChoice k h choice
    → rewritten text k h choice ≡ text

-- ---- which names

-- the names of what may stand at a mark
abbrev pub names_for : Hardware → Naming → List Bytes
names_for h (Kind mark op option) = map (λ kind. kind.name) (kinds_of h op)
names_for h (Memory mark option) = map (λ memory. memory.name) h.memories

abbrev pub NamesAreListed : Type 0
NamesAreListed =
    (k : Kernel) (h : Hardware) (choice : List ℕ) → IsChoice k h choice
    → AllByRecursion (λ n. Contains (names_for h n) (name_of h n)) (namings k choice)

-- the open places with what a setting has there
abbrev pub set_memories : Kernel → List ℕ → List Naming
set_memories k memories = map (λ p. Memory p.0.mark p.1) (filter (λ p. is_open p.0.memory) (zip k.vars memories))

abbrev pub set_kinds : Kernel → List ℕ → List Naming
set_kinds k kinds = map (λ p. Kind p.0.mark p.0.op p.1) (filter (λ p. is_open p.0.kind) (zip k.sites kinds))

-- each open place is named by what the setting of the choice has there
abbrev pub NamesTheSetting : Type 0
NamesTheSetting =
    (k : Kernel) (h : Hardware) (choice : List ℕ) → IsChoice k h choice
    → namings k choice ≡ set_memories k (setting_of k choice).memories ++ set_kinds k (setting_of k choice).sites
