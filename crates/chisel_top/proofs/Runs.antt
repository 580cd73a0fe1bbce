-- What the outcome of a command and its telling promise of the whole run.
use Rattle.std.proofs.Common.{◌≡◌, ℕ, true, List, [], ◌∷◌, ◌++◌, drop, length, Option, Some, None, Result, Ok, Err, refl, sym, ap, subst, ◌∙◌, append_assoc, Bor, ◌⊎◌, inl, inr}
use Rattle.rely_num.specs.Texts.{Bytes}
use Rattle.chisel_optimise.proofs.Promising.{keeps_promise as keeps_choice}
use Rattle.chisel_files.specs.Contents.{Gained, is_marked, names_of}
use Rattle.chisel_files.specs.Works.{Comes, Content, Did}
use Rattle.chisel_files.proofs.Opening.{Contents, IsSettled, contents_of, fails_last, gained as gained_names, marked_fails, never_words}
use Rattle.chisel_lines.specs.Answers.{answer_status, answer_text}
use Rattle.chisel_lines.specs.Faults.{Stop, fault_line, fault_status, memory_line, read_line}
use Rattle.chisel_lines.specs.Refusals.{refusal_status}
use Rattle.chisel_lines.specs.Statuses.{IsFree, status_of}
use Rattle.chisel_lines.specs.declared.answer.Answer.{Answer}
use Rattle.chisel_lines.specs.declared.answer.Answer.TheVariants as answer
use Rattle.chisel_lines.specs.declared.fault.Fault.{Fault}
use Rattle.chisel_lines.specs.declared.fault.Fault.TheVariants as fault
use Rattle.chisel_lines.specs.declared.refusal.Refusal.{Refusal}
use Rattle.chisel_lines.specs.declared.refusal.Refusal.TheVariants as refusal
use Rattle.chisel_lines.specs.declared.status.Grade.{Grade}
use Rattle.chisel_lines.specs.declared.status.Grade.TheVariants as grade
use Rattle.chisel_lines.specs.declared.status.Status.{Status}
use Rattle.chisel_lines.specs.declared.status.Status.TheVariants as status
use Rattle.chisel_outside.specs.Outside.{Log}
use Rattle.chisel_verify.proofs.Promising.{keeps_promise}
use Rattle.chisel_words.specs.Words.{Command, files_of, form}
use Rattle.chisel_top.specs.Findings.{Choosing, Finding, Introducing, IsAnswer, IsSound, Judging, Promise, Running, finding, opened_for, work_of}
use Rattle.chisel_top.specs.Outcomes.{Final, Reaches, outcome_status, outcome_text}
use Rattle.chisel_top.specs.Promises.{Answers, Counts, EndsWithoutForm, FailedLast, FetchesInOrder, Headline, IsOwed, IsReport, OpensInOrder, Wrote, WroteFront, gained}
use Rattle.chisel_top.specs.Telling.{Delivers}
use Rattle.chisel_top.proofs.Reaching.{command_formed, opens_files}
use Rattle.chisel_top.proofs.Rewritten.{keeps_rewriting}
use Rattle.chisel_top.proofs.Sources.{IsOfSource, of_source}

-- ---- the log

drop_front : (old pairs : Log) → drop (length old) (old ++ pairs) ≡ pairs
drop_front [] pairs = refl
drop_front (p ∷ old) pairs = drop_front old pairs

gained_is : (old new pairs : Log) → new ≡ old ++ pairs → gained old new ≡ pairs
gained_is old new pairs e = ap (drop (length old)) e ∙ drop_front old pairs

-- ---- statuses

-- a grade is the status of no fault
graded : (P : Status → Type 0) (g : Grade) → P status.Done → P status.Refused → P status.Undecided → P (status_of g)
graded P grade.Good a b c = a
graded P grade.Failing a b c = b
graded P grade.Undecided a b c = c

refused : (P : Status → Type 0) (r : Refusal) → P status.Text → P status.Limit → P (refusal_status r)
refused P (refusal.Source reason place) a b = a
refused P (refusal.Hardware why key outer inner) a b = a
refused P (refusal.Inputs why sample var) a b = a
refused P (refusal.Limit limit number) a b = b

-- an answer has a status of its own
answered : (P : Status → Type 0) (a : Answer) → P status.Done → P status.Refused → P status.Undecided → P status.Text → P status.Limit → P (answer_status a)
answered P (answer.Text text g) done failing undecided text_refused limit = graded P g done failing undecided
answered P (answer.Refused r) done failing undecided text_refused limit = refused P r text_refused limit

-- and so has a fault
faulted : (P : Status → Type 0) (f : Fault) → P status.Words → P status.ReadFault → P status.Limit → P status.Text → P status.Memory → P (fault_status f)
faulted P fault.Words words read limit text memory = words
faulted P (fault.Read name) words read limit text memory = read
faulted P (fault.Length name n) words read limit text memory = limit
faulted P (fault.Refused r) words read limit text memory = refused P r text limit
faulted P fault.Memory words read limit text memory = memory

-- no outcome is a failed put
not_written : (o : Result Answer Fault) → outcome_status o ≡ status.WriteFault → ⊥
not_written (Ok a) = answered (λ s. s ≡ status.WriteFault → ⊥) a (λ e. cc) (λ e. cc) (λ e. cc) (λ e. cc) (λ e. cc)
not_written (Err f) = faulted (λ s. s ≡ status.WriteFault → ⊥) f (λ e. cc) (λ e. cc) (λ e. cc) (λ e. cc) (λ e. cc)

answer_never : (a : Answer) → IsFree (answer_status a) → ⊥
answer_never a = answered (λ s. IsFree s → ⊥) a (λ f. f) (λ f. f) (λ f. f) (λ f. f) (λ f. f)

not_words : (a : Answer) → answer_status a ≡ status.Words → ⊥
not_words a = answered (λ s. s ≡ status.Words → ⊥) a (λ e. cc) (λ e. cc) (λ e. cc) (λ e. cc) (λ e. cc)

-- which fault has the status
words_fault : (f : Fault) → fault_status f ≡ status.Words → f ≡ fault.Words
words_fault fault.Words e = refl
words_fault (fault.Read name) e = absurd (cc)
words_fault (fault.Length name n) e = absurd (cc)
words_fault (fault.Refused r) e = absurd (refused (λ s. s ≡ status.Words → ⊥) r (λ e. cc) (λ e. cc) e)
words_fault fault.Memory e = absurd (cc)

memory_fault : (f : Fault) → fault_status f ≡ status.Memory → f ≡ fault.Memory
memory_fault fault.Words e = absurd (cc)
memory_fault (fault.Read name) e = absurd (cc)
memory_fault (fault.Length name n) e = absurd (cc)
memory_fault (fault.Refused r) e = absurd (refused (λ s. s ≡ status.Memory → ⊥) r (λ e. cc) (λ e. cc) e)
memory_fault fault.Memory e = refl

read_fault : (f : Fault) → fault_status f ≡ status.ReadFault → (name : Bor Bytes) × (f ≡ fault.Read name)
read_fault fault.Words e = absurd (cc)
read_fault (fault.Read name) e = (name, refl)
read_fault (fault.Length name n) e = absurd (cc)
read_fault (fault.Refused r) e = absurd (refused (λ s. s ≡ status.ReadFault → ⊥) r (λ e. cc) (λ e. cc) e)
read_fault fault.Memory e = absurd (cc)

counts_same : (s : Status) (before after : ℕ) → (s ≡ status.WriteFault → ⊥) → after ≡ before → Counts before after s
counts_same status.Done before after other e = e
counts_same status.Refused before after other e = e
counts_same status.Undecided before after other e = e
counts_same status.Words before after other e = e
counts_same status.Text before after other e = e
counts_same status.Limit before after other e = e
counts_same status.ReadFault before after other e = e
counts_same status.WriteFault before after other e = absurd (other refl)
counts_same status.Memory before after other e = e

-- a fault of memory ends what is found
final_fault : (came : Result Finding Fault) (f : Fault) → Final came (Err f) → (f ≡ fault.Memory) ⊎ (came ≡ Err f)
final_fault (Ok x) f e = inl e
final_fault (Err g) f e = inr (let same : f ≡ g = cc in ap Err (sym same))

-- ---- what is found

sound_promise : (f : Finding) → IsSound f → IsOfSource f → Promise (Ok f)
sound_promise (Judging i) sound source = keeps_promise i sound
sound_promise (Running i) sound source = tt
sound_promise (Choosing i) sound source = (keeps_choice i sound, keeps_rewriting i sound source)
sound_promise Introducing sound source = tt

-- the status and the text answer it, and its lines keep what they promise
abbrev Told : Result Finding Stop → Bytes → Status → Type 0
Told x text s = IsAnswer x text s × Promise x

told_by : (x : Result Finding Stop) (came : Result Finding Fault) (o : Result Answer Fault) → Final came o → (IsFree (outcome_status o) → ⊥)
    → ((f : Finding) → x ≡ Ok f → IsOfSource f) → Comes x came → Told x (outcome_text o) (outcome_status o)
told_by x (Ok f) (Ok a) final settled source c = subst (λ y. Told y (answer_text a) (answer_status a)) (sym c) (final.0, sound_promise f final.1 (source f c))
told_by x (Ok f) (Err e) final settled source c = absurd (settled (subst (λ g. IsFree (fault_status g)) (sym final) tt))
told_by x (Err e) o final settled source c = subst (λ p. Told x (outcome_text p) (outcome_status p)) (sym final) (by_fault e (subst (λ p. IsFree (outcome_status p) → ⊥) final settled) c)
  where
    by_fault : (e : Fault) → (IsFree (fault_status e) → ⊥) → Comes {A = Finding} x (Err e) → Told x (fault_line e) (fault_status e)
    by_fault fault.Words settled c = subst (λ y. Told y (fault_line fault.Words) status.Words) (sym c) ((refl, refl), tt)
    by_fault (fault.Read name) settled c = absurd c
    by_fault (fault.Length name limit) settled c = subst (λ y. Told y (fault_line (fault.Length name limit)) status.Limit) (sym c) ((refl, refl), tt)
    by_fault (fault.Refused r) settled c = subst (λ y. Told y (fault_line (fault.Refused r)) (refusal_status r)) (sym c) ((refl, refl), tt)
    by_fault fault.Memory settled c = absurd (settled tt)

settled_came : (came : Result Finding Fault) (o : Result Answer Fault) → Final came o → (IsFree (outcome_status o) → ⊥) → IsSettled came
settled_came (Ok f) o final settled = tt
settled_came (Err e) o final settled = by_fault e (subst (λ p. IsFree (outcome_status p) → ⊥) final settled)
  where
    by_fault : (e : Fault) → (IsFree (fault_status e) → ⊥) → IsSettled {A = Finding} (Err e)
    by_fault fault.Words settled = tt
    by_fault (fault.Read name) settled = settled tt
    by_fault (fault.Length name limit) settled = tt
    by_fault (fault.Refused r) settled = tt
    by_fault fault.Memory settled = settled tt

free_or : (s : Status) → IsFree s ⊎ (IsFree s → ⊥)
free_or status.Done = inr (λ f. f)
free_or status.Refused = inr (λ f. f)
free_or status.Undecided = inr (λ f. f)
free_or status.Words = inr (λ f. f)
free_or status.Text = inr (λ f. f)
free_or status.Limit = inr (λ f. f)
free_or status.ReadFault = inl tt
free_or status.WriteFault = inl tt
free_or status.Memory = inl tt

-- ---- the run

module _ (words : List Bytes) (held : Bytes → Option Content) (old new : Log) (o : Result Answer Fault) (reaches : Reaches held old new (work_of (form words)) o) where
  abbrev pairs : Log
  pairs = reaches.works.pairs

  pairs_are : gained old new ≡ pairs
  pairs_are = gained_is old new pairs reaches.works.grew

  contents : Contents held (files_of (form words)) (work_of (form words)) pairs reaches.came
  contents = contents_of held (files_of (form words)) (work_of (form words)) pairs reaches.came (opens_files (form words)) reaches.works.did

  pub run_opened : OpensInOrder words held old new
  run_opened = (contents.got, contents.agree, subst (λ p. IsFront p) (sym pairs_are) contents.first)
    where
      IsFront : Log → Type 0
      IsFront p = (rest : List Bytes) × (names_of p ++ rest ≡ opened_for words contents.got)

  -- the answer, where it isn't a device's or memory's
  answers : (IsFree (outcome_status o) → ⊥) → (a : Answers words held old new (outcome_text o) (outcome_status o)) × Promise (finding words a.got)
  answers settled =
      let there = contents.settled (settled_came reaches.came o reaches.final settled) in
      let told = told_by (finding words contents.got) reaches.came o reaches.final settled (of_source words contents.got) there.1 in
      (record { got = contents.got; contents = contents.agree; opened = ap names_of pairs_are ∙ there.0; answer = told.0 }, told.1)

  -- a failed fetch of that name
  failed : (name : Bor Bytes) → o ≡ Err (fault.Read name) → FailedLast old new name.now
  failed name e = by_final (final_fault reaches.came (fault.Read name) (subst (Final reaches.came) e reaches.final))
    where
      by_final : (fault.Read name ≡ fault.Memory) ⊎ (reaches.came ≡ Err (fault.Read name)) → FailedLast old new name.now
      by_final (inl m) = absurd (cc)
      by_final (inr came) =
          let last = fails_last held (work_of (form words)) pairs reaches.came name.now reaches.works.did (name, refl, came) in
          (last.0, reaches.works.grew ∙ ap (λ p. old ++ p) last.1 ∙ sym (append_assoc old last.0 ((name.now, true) ∷ [])))

  -- what was to be written
  owed : IsOwed words held old new (outcome_text o)
  owed = by_status (free_or (outcome_status o)) o refl
    where
      by_fault : (f : Fault) → o ≡ Err f → IsFree (fault_status f) → IsOwed words held old new (fault_line f)
      by_fault fault.Words e free = absurd free
      by_fault (fault.Read name) e free = inr (inl (name.now, failed name e, refl))
      by_fault (fault.Length name limit) e free = absurd free
      by_fault (fault.Refused r) e free = absurd (refused (λ s. IsFree s → ⊥) r (λ f. f) (λ f. f) free)
      by_fault fault.Memory e free = inl refl

      by_outcome : (p : Result Answer Fault) → o ≡ p → IsFree (outcome_status p) → IsOwed words held old new (outcome_text p)
      by_outcome (Ok a) e free = absurd (answer_never a free)
      by_outcome (Err f) e free = by_fault f e free

      by_status : IsFree (outcome_status o) ⊎ (IsFree (outcome_status o) → ⊥) → (p : Result Answer Fault) → o ≡ p → IsOwed words held old new (outcome_text o)
      by_status (inl free) p e = by_outcome o refl free
      by_status (inr settled) p e = inr (inr (outcome_status o, (answers settled).0))

  -- the words are in no form where it says so
  no_form : outcome_status o ≡ status.Words → form words ≡ None
  no_form e = by_outcome o refl e
    where
      by_form : (v : Option Command) → form words ≡ v → reaches.came ≡ Err fault.Words → form words ≡ None
      by_form None f c = f
      by_form (Some v) f c = absurd (never_words held (work_of (Some v)) pairs reaches.came (command_formed v) (subst (λ u. Did held (work_of u) pairs reaches.came) f reaches.works.did) c)

      by_final : (fault.Words ≡ fault.Memory) ⊎ (reaches.came ≡ Err fault.Words) → form words ≡ None
      by_final (inl m) = absurd (cc)
      by_final (inr c) = by_form (form words) refl c

      by_outcome : (p : Result Answer Fault) → o ≡ p → outcome_status p ≡ status.Words → form words ≡ None
      by_outcome (Ok a) is s = absurd (not_words a s)
      by_outcome (Err f) is s = by_final (final_fault reaches.came fault.Words (subst (Final reaches.came) (is ∙ ap Err (words_fault f s)) reaches.final))

  -- a marked pair is a failed fetch
  marked : is_marked pairs ≡ true → outcome_status o ≡ status.ReadFault
  marked m =
      let f = marked_fails held (work_of (form words)) pairs reaches.came reaches.works.did m in
      let e : o ≡ Err (fault.Read f.1.0) = came_is reaches.came reaches.final f.1.2 in ap outcome_status e
    where
      came_is : {g : Fault} (came : Result Finding Fault) → Final came o → came ≡ Err g → o ≡ Err g
      came_is (Ok x) final e = absurd (cc)
      came_is {g = g} (Err h) final e = let same : h ≡ g = cc in final ∙ ap Err same

  read_name : outcome_status o ≡ status.ReadFault → (name : Bytes) × FailedLast old new name × (outcome_text o ≡ read_line name)
  read_name s = by_outcome o refl s
    where
      by_fault : (f : Fault) → o ≡ Err f → (name : Bor Bytes) × (f ≡ fault.Read name) → (name : Bytes) × FailedLast old new name × (fault_line f ≡ read_line name)
      by_fault f e n = (n.0.now, failed n.0 (e ∙ ap Err n.1), ap fault_line n.1)

      by_outcome : (p : Result Answer Fault) → o ≡ p → outcome_status p ≡ status.ReadFault → (name : Bytes) × FailedLast old new name × (outcome_text p ≡ read_line name)
      by_outcome (Ok a) e s = absurd (answer_never a (subst IsFree (sym s) tt))
      by_outcome (Err f) e s = by_fault f e (read_fault f s)

  memory_text : outcome_status o ≡ status.Memory → outcome_text o ≡ memory_line
  memory_text s = by_outcome o s
    where
      by_outcome : (p : Result Answer Fault) → outcome_status p ≡ status.Memory → outcome_text p ≡ memory_line
      by_outcome (Ok a) s = absurd (answer_never a (subst IsFree (sym s) tt))
      by_outcome (Err f) s = ap fault_line (memory_fault f s)

  module _ (w w' : Option Bytes) (before after : ℕ) (result : Status) (delivers : Delivers (outcome_text o) (outcome_status o) w w' before after result) where
    -- a status that isn't that of a failed put is the outcome's, and its text was written
    whole : (result ≡ status.WriteFault → ⊥) → (result ≡ outcome_status o) × Wrote w w' (outcome_text o)
    whole other = elim delivers [ inl d ↦ (d.0, d.1) | inr d ↦ absurd (other d.0) ]

    pub run_counts : Counts before after result
    run_counts =
        elim delivers [
          | inl d ↦ subst (λ s. Counts before after s) (sym d.0) (counts_same (outcome_status o) before after (not_written o) d.2)
          | inr d ↦ subst (λ s. Counts before after s) (sym d.0) d.2
        ]

    pub run_log : FetchesInOrder words old new result
    run_log = record {
      grew = reaches.works.grew ∙ ap (λ p. old ++ p) (sym pairs_are);
      in_order = subst (Gained (files_of (form words))) (sym pairs_are) (gained_names held (files_of (form words)) (work_of (form words)) pairs reaches.came (opens_files (form words)) reaches.works.did);
      failed = λ m. elim delivers [ inl d ↦ inl (d.0 ∙ marked (sym (ap is_marked pairs_are) ∙ m)) | inr d ↦ inr d.0 ];
    }

    pub run_words : result ≡ status.Words → form words ≡ None
    run_words e = no_form (sym (whole (λ f. cc)).0 ∙ e)

    pub run_no_form : (form words ≡ None → o ≡ Err fault.Words) → form words ≡ None → EndsWithoutForm w w' result
    run_no_form leads e =
        let here = leads e in elim delivers [ inl d ↦ inl (d.0 ∙ ap outcome_status here, subst (λ t. Wrote w w' t) (ap outcome_text here) d.1) | inr d ↦ inr d.0 ]

    pub run_read_fault : result ≡ status.ReadFault → (name : Bytes) × FailedLast old new name × Wrote w w' (read_line name)
    run_read_fault e =
        let all = whole (λ f. cc) in
        let r = read_name (sym all.0 ∙ e) in (r.0, r.1, subst (λ t. Wrote w w' t) r.2 all.1)

    pub run_memory : result ≡ status.Memory → Wrote w w' memory_line
    run_memory e = let all = whole (λ f. cc) in subst (λ t. Wrote w w' t) (memory_text (sym all.0 ∙ e)) all.1

    pub run_write_fault : result ≡ status.WriteFault → (text : Bytes) × WroteFront w w' text × IsOwed words held old new text
    run_write_fault e = elim delivers [ inl d ↦ absurd (not_written o (sym d.0 ∙ e)) | inr d ↦ (outcome_text o, d.1, owed) ]

    pub run_headline : (IsFree result → ⊥) → Headline words held old new w w' result
    run_headline settled =
        let all = whole (λ f. settled (subst IsFree (sym f) tt)) in
        let a = answers (λ f. settled (subst IsFree (sym all.0) f)) in
        subst (λ s. Headline words held old new w w' s) (sym all.0) (record { report = record { text = outcome_text o; answers = a.0; wrote = all.1 }; promise = a.1 })

    pub run_report : (IsFree result → ⊥) → IsReport words held old new w w' result
    run_report settled = (run_headline settled).report
