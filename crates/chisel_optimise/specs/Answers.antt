-- The answer to each task.
use Rattle.std.specs.Prelude.{ℕ, ◌≡◌, List, length, Option, Some, None, Result, Ok, Err, ◌⊎◌}
use Rattle.rely_num.specs.Texts.{Bytes}
use Rattle.rely_kernel.specs.declared.setting.Store.{Store}
use Rattle.chisel_table.specs.declared.table.Table.{Table}
use Rattle.chisel_table.specs.Tables.{decision_count, row_count}
use Rattle.chisel_cert.specs.declared.fault.CertFault.{CertFault}
use Rattle.chisel_cert.specs.declared.fault.CertFault.TheVariants as fault
use Rattle.chisel_cert.specs.Reading.{certificate_at}
use Rattle.chisel_cert.specs.Text.{text_of}
use Rattle.chisel_cert.specs.Tree.{Certificate}
use Rattle.chisel_cert.specs.Valid.{IsValidFor}
use Rattle.chisel_check.specs.declared.node.CheckWhy.{CheckWhy}
use Rattle.chisel_check.specs.Failures.{FailsFirst}
use Rattle.chisel_lines.specs.Answers.{answer_status, answer_text}
use Rattle.chisel_lines.specs.Faults.{Both}
use Rattle.chisel_lines.specs.declared.answer.Answer.{Answer}
use Rattle.chisel_lines.specs.declared.answer.Answer.TheVariants.{Text, Refused}
use Rattle.chisel_lines.specs.declared.refusal.Limit.TheVariants.{Nodes}
use Rattle.chisel_lines.specs.declared.refusal.Refusal.TheVariants.{Limit}
use Rattle.chisel_lines.specs.declared.status.Grade.{Grade}
use Rattle.chisel_lines.specs.declared.status.Status.{Status}
use Rattle.chisel_lines.specs.declared.status.Grade.TheVariants.{Good, Failing}
use Rattle.chisel_source.specs.declared.ready.Ready.{Ready}
use Rattle.chisel_rewrite.specs.Texts.{rewritten}
use Rattle.chisel_optimise.specs.Migrated.{migrated}
use Rattle.chisel_options.specs.declared.strategy.Strategy.{Strategy}
use Rattle.chisel_optimise.specs.declared.certified.Asked.{Asked}
use Rattle.chisel_optimise.specs.declared.certified.Asked.TheVariants as asked
use Rattle.chisel_optimise.specs.declared.task.Task.{Task}
use Rattle.chisel_optimise.specs.declared.task.Task.TheVariants as task
use Rattle.chisel_optimise.specs.declared.lines.Measures.{Measures}
use Rattle.chisel_optimise.specs.Lines.{formless, invalid, measure_lines, nothing, yes}
use Rattle.chisel_optimise.specs.Searches.{Finds, Passes, measured, printed}
use Rattle.chisel_optimise.specs.Tables.{ComesTo, Ends}

-- ---- searches

-- a choice is good, and that there is none isn't
abbrev pub grade_of_best : Option (List ℕ) → Grade
grade_of_best (Some options) = Good
grade_of_best None = Failing

-- too many parts would have to be taken
abbrev pub TakesTooMany : Table → Strategy → Answer → Type 0
TakesTooMany t s a = Passes t s × (a ≡ Refused (Limit Nodes s.nodes))

-- the certificate of the least choice, or of there being none
pub record PrintsLeast (t : Table) (s : Strategy) (a : Answer) : Type 0 where
  pub visits : ℕ
  pub best : Option (List ℕ)
  pub finds : Finds t s visits best
  pub answer : a ≡ Text (text_of (printed t s best)) (grade_of_best best)

abbrev pub Optimises : Table → Strategy → Answer → Type 0
Optimises t s a = PrintsLeast t s a ⊎ TakesTooMany t s a

-- what the search comes to on the table of a source of that length
abbrev pub measures_of : ℕ → Table → ℕ → Certificate → Measures
measures_of source t visits c = record {
  source = source;
  decisions = decision_count t;
  rows = row_count t;
  energy = c.energy;
  visits = visits;
  nodes = c.nodes;
}

pub record TellsMeasures (source : ℕ) (t : Table) (a : Answer) : Type 0 where
  pub visits : ℕ
  pub best : Option (List ℕ)
  pub finds : Finds t measured visits best
  pub answer : a ≡ Text (measure_lines (measures_of source t visits (printed t measured best))) (grade_of_best best)

abbrev pub IsMeasured : ℕ → Table → Answer → Type 0
IsMeasured source t a = TellsMeasures source t a ⊎ TakesTooMany t measured a

-- ---- certificates

-- the source with the choice named, or that there is none to name
abbrev pub named_in : Ready → Option (List ℕ) → Answer
named_in r (Some options) = Text (rewritten r.text r.linked.kernel r.hardware options) Good
named_in r None = nothing

-- the answer where the certificate is valid for the table
abbrev pub of_valid : Ready → Table → Certificate → Asked → Answer
of_valid r t c asked.Check = yes
of_valid r t c asked.Rewrite = named_in r c.choice
of_valid r t c asked.Migrate = Text (text_of (migrated t c)) Good

-- it isn't: the first line that fails, and why
pub record IsInvalid (t : Table) (c : Certificate) (a : Answer) : Type 0 where
  pub line : ℕ
  pub why : CheckWhy
  pub fails : FailsFirst t c line why
  pub answer : a ≡ invalid line why

abbrev pub Judges : Ready → Table → Certificate → Asked → Answer → Type 0
Judges r t c what a = (IsValidFor t c × (a ≡ of_valid r t c what)) ⊎ IsInvalid t c a

-- the text is no certificate
abbrev pub IsFormless : CertFault → Answer → Type 0
IsFormless (fault.At line why) a = a ≡ formless line why
IsFormless fault.Memory a = ⊥

abbrev pub IsNoText : Bytes → Answer → Type 0
IsNoText text a = (fault : CertFault) × (certificate_at text ≡ Err fault) × IsFormless fault a

-- what follows once a certificate is read; its text comes before all else
abbrev pub behind_text : Ready → List Store → Asked → Result Certificate CertFault → Answer → Type 0
behind_text r starts what (Err fault) a = IsFormless fault a
behind_text r starts what (Ok c) a = Ends r starts a ⊎ ((t : Table) × ComesTo r starts t × Judges r t c what a)

abbrev pub IsCertified : Ready → List Store → Bytes → Asked → Answer → Type 0
IsCertified r starts text what a = behind_text r starts what (certificate_at text) a

-- ---- tasks

-- what is to be done with the choices of a function: to find the least, to judge a certificate's text, or to measure the search
pub data Job : Type 0 where
  Optimise : Strategy → Job
  Certify : Asked → Bytes → Job
  Measure : Job

abbrev pub job_of : Task → Job
job_of (task.Optimise s) = Optimise s
job_of (task.Certify what text) = Certify what text.now
job_of task.Measure = Measure

-- what is ready, where it starts, and what is to be done
pub record Input : Type 0 where
  pub ready : Ready
  pub starts : List Store
  pub job : Job

abbrev pub given : Ready → List Store → Job → Input
given r starts job = record { ready = r; starts = starts; job = job }

abbrev pub AnswersBy : Ready → List Store → Job → Answer → Type 0
AnswersBy r starts (Optimise s) a = Ends r starts a ⊎ ((t : Table) × ComesTo r starts t × Optimises t s a)
AnswersBy r starts (Certify what text) a = IsCertified r starts text what a
AnswersBy r starts Measure a = Ends r starts a ⊎ ((t : Table) × ComesTo r starts t × IsMeasured (length r.text) t a)

abbrev pub Answers : Input → Answer → Type 0
Answers i a = AnswersBy i.ready i.starts i.job a

-- the text and the status of the answer
abbrev pub IsAnswer : Input → Bytes → Status → Type 0
IsAnswer i text s = (a : Answer) × Answers i a × Both text s (answer_text a) (answer_status a)

-- what is asked has one answer at most
abbrev pub OneAnswer : Type 0
OneAnswer = (i : Input) (text text' : Bytes) (s s' : Status) → IsAnswer i text s → IsAnswer i text' s' → Both text s text' s'
