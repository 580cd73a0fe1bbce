-- What `verify` says of the source that `rewrite` writes.
use Rattle.std.specs.Prelude.{ℕ, ◌≡◌, ◌≤◌, Bool, List, length, Ok}
use Rattle.rely_num.specs.Texts.{Bytes}
use Rattle.rely_resolve.specs.Linked.{linked_of}
use Rattle.rely_tree.specs.Tree.{UnitTree}
use Rattle.chisel_optimise.specs.Answers.{Certify, Input, IsAnswer}
use Rattle.chisel_optimise.specs.Promises.{NamesBest}
use Rattle.chisel_optimise.specs.declared.certified.Asked.TheVariants.{Rewrite}
use Rattle.chisel_claims.specs.Verdicts.{AllAccepted, JudgedClaim, callees_of}
use Rattle.chisel_files.specs.Files.{longest}
use Rattle.chisel_lines.specs.declared.status.Status.{Status}
use Rattle.chisel_lines.specs.declared.status.Status.TheVariants.{Done}
use Rattle.chisel_source.specs.Meaning.{unit_in}
use Rattle.chisel_source.specs.declared.ready.Ready.{Ready}
use Rattle.chisel_top.specs.Reports.{IsReported}

-- the tree of the source, and the name of its function
pub record IsMeaning (r : Ready) : Type 0 where
  pub unit : UnitTree
  pub name : Bytes
  pub read : unit_in r.text ≡ Ok unit
  pub means : linked_of unit name r.hardware ≡ Ok r.linked

-- With that choice named, by whatever name the tree has the function, and whether the lines of the functions that are called are
-- wanted or not: `verify` judges each claim as under the choice, and no claim needs a variable or lies below its bound.
pub record VerifiesAs (r : Ready) (choice : List ℕ) : Type 0 where
  pub meaning : IsMeaning r
  pub calls : List JudgedClaim
  pub accepted : callees_of r.hardware r.linked.inner ≡ Ok (AllAccepted calls)
  pub reported : (name : Bytes) (wanted : Bool) → linked_of meaning.unit name r.hardware ≡ Ok r.linked → IsReported r.text meaning.unit r.hardware name r.linked choice calls wanted

-- the written source names the best choice, and `verify` says so of it where it is no longer than a source may be
pub record VerifiesBest (i : Input) (given text : Bytes) : Type 0 where
  pub best : NamesBest i.ready i.starts given text
  pub verified : length text ≤ longest → VerifiesAs i.ready best.choice

abbrev pub Promise : Input → Type 0
Promise i = (given text : Bytes) (s : Status) → i.job ≡ Certify Rewrite given → IsAnswer i text s → s ≡ Done → VerifiesBest i given text
