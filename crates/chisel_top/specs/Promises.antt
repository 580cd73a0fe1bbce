-- What the top call promises: of the log, of the sink, of what is written and of its lines.
use Rattle.std.specs.Prelude.{ℕ, ◌≡◌, true, List, [], ◌∷◌, ◌++◌, drop, length, Option, option_map, ◌⊎◌}
use Rattle.rely_num.specs.Texts.{Bytes}
use Rattle.chisel_files.specs.Contents.{Agree, FirstOf, Gained, is_marked, names_of}
use Rattle.chisel_files.specs.Works.{Content}
use Rattle.chisel_lines.specs.Faults.{memory_line, read_line, words_line}
use Rattle.chisel_lines.specs.declared.status.Status.{Status}
use Rattle.chisel_lines.specs.declared.status.Status.TheVariants as status
use Rattle.chisel_outside.specs.Outside.{Log, Rose}
use Rattle.chisel_top.specs.Findings.{IsAnswer, Promise, finding, opened_for}
use Rattle.chisel_words.specs.Words.{files_of, form}

-- ---- the sink

-- the text was appended
abbrev pub Wrote : Option Bytes → Option Bytes → Bytes → Type 0
Wrote old new text = new ≡ option_map (λ w. w ++ text) old

-- a front of it was
pub record WroteFront (old new : Option Bytes) (text : Bytes) : Type 0 where
  pub front : Bytes
  pub rest : Bytes
  pub whole : front ++ rest ≡ text
  pub wrote : Wrote old new front

-- the count of failed puts rose where a put failed, and else is as it was
abbrev pub Counts : ℕ → ℕ → Status → Type 0
Counts before after status.WriteFault = Rose before after
Counts before after _ = after ≡ before

-- ---- the log

-- the pairs that it gained
abbrev pub gained : Log → Log → Log
gained old new = drop (length old) new

-- the log gained a failed fetch of that name at its end
abbrev pub FailedLast : Log → Log → Bytes → Type 0
FailedLast old new name = (front : Log) × (new ≡ old ++ front ++ (name, true) ∷ [])

-- each file that the words name is fetched at most once, in order, and nothing is fetched after a failure
pub record FetchesInOrder (words : List Bytes) (old new : Log) (result : Status) : Type 0 where
  pub grew : new ≡ old ++ gained old new
  pub in_order : Gained (files_of (form words)) (gained old new)
  pub failed : is_marked (gained old new) ≡ true → (result ≡ status.ReadFault) ⊎ (result ≡ status.WriteFault)

-- one content for each file that the words name, which is the shelf's where it tells
abbrev pub AreContents : List Bytes → (Bytes → Option Content) → List Content → Type 0
AreContents words held got = Agree held (files_of (form words)) got

-- the names that were fetched are a first part of those that the order of work opens for some contents
abbrev pub OpensInOrder : List Bytes → (Bytes → Option Content) → Log → Log → Type 0
OpensInOrder words held old new = (got : List Content) × AreContents words held got × FirstOf (names_of (gained old new)) (opened_for words got)

-- ---- what is written

-- contents of the files for which exactly these names were opened, and what answers them
pub record Answers (words : List Bytes) (held : Bytes → Option Content) (old new : Log) (text : Bytes) (s : Status) : Type 0 where
  pub got : List Content
  pub contents : AreContents words held got
  pub opened : names_of (gained old new) ≡ opened_for words got
  pub answer : IsAnswer (finding words got) text s

-- the text and the status answer some contents of the files, for which exactly these names were opened
pub record IsReport (words : List Bytes) (held : Bytes → Option Content) (old new : Log) (w w' : Option Bytes) (result : Status) : Type 0 where
  pub text : Bytes
  pub answers : Answers words held old new text result
  pub wrote : Wrote w w' text

-- so it is, and the lines that are written keep what they promise
pub record Headline (words : List Bytes) (held : Bytes → Option Content) (old new : Log) (w w' : Option Bytes) (result : Status) : Type 0 where
  pub report : IsReport words held old new w w' result
  pub promise : Promise (finding words report.answers.got)

-- words of no form end so
abbrev pub EndsWithoutForm : Option Bytes → Option Bytes → Status → Type 0
EndsWithoutForm old new result = ((result ≡ status.Words) × Wrote old new words_line) ⊎ (result ≡ status.WriteFault)

-- the text that a failed put cut off: that of memory, of a failed fetch, or of an answer
abbrev pub IsOwed : List Bytes → (Bytes → Option Content) → Log → Log → Bytes → Type 0
IsOwed words held old new text =
    (text ≡ memory_line)
    ⊎ (((name : Bytes) × FailedLast old new name × (text ≡ read_line name)) ⊎ ((s : Status) × Answers words held old new text s))
