-- What the answers promise: of a printed choice, of a certificate that is accepted, and of the printed text.
use Rattle.std.specs.Prelude.{ℕ, ◌≡◌, ◌<◌, ◌≤◌, List, length, Option, Some, None, Ok, ◌⊎◌}
use Rattle.std.specs.List.{AllByRecursion}
use Rattle.rely_num.specs.Texts.{Bytes}
use Rattle.rely_kernel.specs.declared.setting.Store.{Store}
use Rattle.rely_kernel.specs.Bound.{BoundHolds}
use Rattle.rely_kernel.specs.Choice.{setting_of}
use Rattle.rely_kernel.specs.Machine.{functions, main}
use Rattle.rely_kernel.specs.Rates.{rate, settings}
use Rattle.chisel_cert.specs.Reading.{certificate_at}
use Rattle.chisel_cert.specs.Tree.{Certificate}
use Rattle.chisel_lines.specs.declared.answer.Answer.{Answer}
use Rattle.chisel_lines.specs.declared.answer.Answer.TheVariants.{Text}
use Rattle.chisel_lines.specs.declared.status.Grade.{Grade}
use Rattle.chisel_lines.specs.declared.status.Grade.TheVariants.{Good, Failing}
use Rattle.chisel_lines.specs.declared.status.Status.{Status}
use Rattle.chisel_lines.specs.declared.status.Status.TheVariants.{Done, Refused}
use Rattle.chisel_optimise.specs.Printing.{longest_certificate, most_nodes}
use Rattle.chisel_problem.specs.Least.{IsLeastOf}
use Rattle.chisel_source.specs.declared.ready.Ready.{Ready}
use Rattle.chisel_rewrite.specs.Texts.{rewritten}
use Rattle.chisel_table.specs.declared.table.Table.{Table}
use Rattle.chisel_options.specs.declared.strategy.Strategy.{Strategy}
use Rattle.chisel_optimise.specs.declared.certified.Asked.TheVariants as asked
use Rattle.chisel_optimise.specs.Answers.{Certify, Input, IsAnswer, IsCertified, Job, Measure, Optimise, PrintsLeast}
use Rattle.chisel_optimise.specs.Claims.{EndsEarly}
use Rattle.chisel_optimise.specs.Lines.{yes}
use Rattle.chisel_optimise.specs.Sound.{IsSound}
use Rattle.chisel_optimise.specs.Tables.{ComesTo}

-- ---- choices

-- in every forest of runs each claim's bound holds, where the function has the kinds and memories of the choice
abbrev pub ClaimsHold : Ready → List ℕ → Type 0
ClaimsHold r choice =
    let fs = functions r.linked in
    AllByRecursion (BoundHolds fs (rate r.hardware fs (settings r.linked (setting_of r.linked.kernel choice))) r.linked.kernel (main r.linked)) r.linked.kernel.claims

abbrev pub ClaimsHoldUnder : Ready → Option (List ℕ) → Type 0
ClaimsHoldUnder r None = Unit {0}
ClaimsHoldUnder r (Some choice) = ClaimsHold r choice

-- the choice is the least of the function over the samples, or no choice keeps its budgets; and under it every claim's bound holds
pub record IsBestOf (r : Ready) (starts : List Store) (best : Option (List ℕ)) : Type 0 where
  pub least : IsLeastOf r.hardware r.linked starts best
  pub claims : ClaimsHoldUnder r best

-- ---- laws

-- the choice that is printed is the best, where `optimise` prints a certificate
abbrev pub PrintedIsBest : Type 0
PrintedIsBest =
    (r : Ready) (starts : List Store) (t : Table) (s : Strategy) (a : Answer) → IsSound r starts → ComesTo r starts t → (p : PrintsLeast t s a) → IsBestOf r starts p.best

-- the certificate of a `yes` has the best choice, whoever made it
abbrev pub CheckedIsBest : Type 0
CheckedIsBest =
    (r : Ready) (starts : List Store) (text : Bytes) → IsSound r starts → IsCertified r starts text asked.Check yes
    → (c : Certificate) × (certificate_at text ≡ Ok c) × IsBestOf r starts c.choice

-- what is printed is short, and passes `check` on the same files
pub record Passes (r : Ready) (starts : List Store) (text : Bytes) : Type 0 where
  pub short : length text < longest_certificate
  pub checked : IsCertified r starts text asked.Check yes

abbrev pub PrintedPasses : Type 0
PrintedPasses =
    (r : Ready) (starts : List Store) (t : Table) (s : Strategy) (text : Bytes) (grade : Grade) → s.nodes ≤ most_nodes → IsSound r starts → ComesTo r starts t
    → PrintsLeast t s (Text text grade) → Passes r starts text

-- and so does what `migrate` writes, which may be longer
abbrev pub MigratedPasses : Type 0
MigratedPasses =
    (r : Ready) (starts : List Store) (text written : Bytes) → IsSound r starts → IsCertified r starts text asked.Migrate (Text written Good)
    → IsCertified r starts written asked.Check yes

-- ---- what a good answer promises

-- a text is a certificate that has the best choice, and passes
pub record PrintsBest (r : Ready) (starts : List Store) (text : Bytes) : Type 0 where
  pub certificate : Certificate
  pub choice : List ℕ
  pub read : certificate_at text ≡ Ok certificate
  pub chosen : certificate.choice ≡ Some choice
  pub best : IsBestOf r starts (Some choice)
  pub passes : Passes r starts text

-- a text, whoever made it, is a certificate that has the best choice, or says that there is none
pub record HasBest (r : Ready) (starts : List Store) (text : Bytes) : Type 0 where
  pub certificate : Certificate
  pub read : certificate_at text ≡ Ok certificate
  pub best : IsBestOf r starts certificate.choice

-- a text is the source with the best choice named, which the given certificate has
pub record NamesBest (r : Ready) (starts : List Store) (given text : Bytes) : Type 0 where
  pub certificate : Certificate
  pub choice : List ℕ
  pub read : certificate_at given ≡ Ok certificate
  pub chosen : certificate.choice ≡ Some choice
  pub best : IsBestOf r starts (Some choice)
  pub named : text ≡ rewritten r.text r.linked.kernel r.hardware choice

abbrev pub Promised : Ready → List Store → Job → Bytes → Type 0
Promised r starts (Optimise s) text = PrintsBest r starts text
Promised r starts (Certify asked.Check given) text = HasBest r starts given
Promised r starts (Certify asked.Rewrite given) text = NamesBest r starts given text
Promised r starts (Certify asked.Migrate given) text = HasBest r starts given × IsCertified r starts text asked.Check yes
Promised r starts Measure text = Unit {0}

-- ---- what a command promises that says no

-- a text is a certificate without a choice, no choice keeps the budgets, and it passes
pub record PrintsNone (r : Ready) (starts : List Store) (text : Bytes) : Type 0 where
  pub certificate : Certificate
  pub read : certificate_at text ≡ Ok certificate
  pub none : certificate.choice ≡ None
  pub best : IsBestOf r starts None
  pub passes : Passes r starts text

-- `optimise` prints so, or the line of a claim that ends it early
abbrev pub Denied : Ready → List Store → Job → Bytes → Type 0
Denied r starts (Optimise s) text = EndsEarly r (Text text Failing) ⊎ PrintsNone r starts text
Denied r starts job text = Unit {0}

-- ---- commands

-- a search takes no more parts than a certificate has nodes
abbrev pub IsJob : Job → Type 0
IsJob (Optimise s) = s.nodes ≤ most_nodes
IsJob job = Unit {0}

pub record IsInput (i : Input) : Type 0 where
  pub sound : IsSound i.ready i.starts
  pub job : IsJob i.job

-- what the text promises by the status that comes with it
pub record Promise (i : Input) : Type 0 where
  pub well : (text : Bytes) (s : Status) → IsAnswer i text s → s ≡ Done → Promised i.ready i.starts i.job text
  pub denied : (text : Bytes) (s : Status) → IsAnswer i text s → s ≡ Refused → Denied i.ready i.starts i.job text

abbrev pub KeepsPromise : Type 0
KeepsPromise = (i : Input) → IsInput i → Promise i
