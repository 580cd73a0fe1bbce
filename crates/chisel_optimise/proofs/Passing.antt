-- What is printed, or written again, passes `check`.
use Rattle.std.proofs.Common.{◌≡◌, ◌≤◌, ◌<◌, List, length, Ok, Err, Result, inl, inr, refl, sym, ap, ◌∙◌, subst, true, arith}
use Rattle.rely_num.specs.Texts.{Bytes}
use Rattle.rely_kernel.specs.declared.setting.Store.{Store}
use Rattle.chisel_table.specs.declared.table.Table.{Table}
use Rattle.chisel_table.specs.Partials.{is_unfixed}
use Rattle.chisel_table.specs.Tables.{decision_count}
use Rattle.chisel_table.specs.Valid.{IsTable}
use Rattle.chisel_bound.specs.Ascent.{ascended}
use Rattle.chisel_bound.proofs.Ascents.{ascended_pool, ascended_zeros}
use Rattle.chisel_cert.specs.declared.fault.CertFault.{CertFault}
use Rattle.chisel_cert.specs.declared.fault.CertFault.TheVariants as fault
use Rattle.chisel_cert.specs.Ranges.{IsWithin}
use Rattle.chisel_cert.specs.Reading.{certificate_at}
use Rattle.chisel_cert.specs.Text.{text_of}
use Rattle.chisel_cert.specs.Tree.{Certificate}
use Rattle.chisel_cert.specs.Valid.{IsValidFor}
use Rattle.chisel_cert.proofs.Texts.{read_within, written_is_read}
use Rattle.chisel_lines.specs.declared.answer.Answer.TheVariants.{Text}
use Rattle.chisel_lines.specs.declared.status.Grade.{Grade}
use Rattle.chisel_lines.specs.declared.status.Grade.TheVariants.{Good}
use Rattle.chisel_options.specs.declared.strategy.Branch.{Branch}
use Rattle.chisel_strategy.specs.Branching.{decision, size}
use Rattle.chisel_strategy.proofs.Decisions.{is_largest}
use Rattle.chisel_optimise.specs.Printing.{IsPrintable}
use Rattle.chisel_optimise.specs.Migrated.{migrated}
use Rattle.chisel_optimise.proofs.Migrated.{migrated_valid, migrated_within}
use Rattle.chisel_optimise.proofs.Short.{pooled_short}
use Rattle.chisel_optimise.proofs.Within.{printed_pooled, printed_within}
use Rattle.chisel_source.specs.declared.ready.Ready.{Ready}
use Rattle.chisel_search.specs.Search.{IsLawful, rule_of}
use Rattle.chisel_search.proofs.Printed.{certificate_valid}
use Rattle.chisel_optimise.specs.declared.certified.Asked.TheVariants as asked
use Rattle.chisel_options.specs.declared.strategy.Strategy.{Strategy}
use Rattle.chisel_optimise.specs.Answers.{IsCertified, PrintsLeast, behind_text}
use Rattle.chisel_optimise.specs.Lines.{yes}
use Rattle.chisel_optimise.specs.Promises.{MigratedPasses, PrintedPasses}
use Rattle.chisel_optimise.specs.Searches.{printed}
use Rattle.chisel_optimise.specs.Tables.{ComesTo}
use Rattle.chisel_optimise.proofs.Best.{end_is_not_good}

-- each branching rule answers unfixed decisions
lawful_decision : (t : Table) (b : Branch) → IsTable t → IsLawful t (rule_of (decision t b))
lawful_decision t b table = record {
  inside = λ p d partial some answer.
      subst (λ x. x < decision_count t) (sym answer) (is_largest t (size t b) p (record { table = table; partial = partial; some = some })).unfixed.inside;
  free = λ p d partial some answer.
      subst (λ x. is_unfixed p x ≡ true) (sym answer) (is_largest t (size t b) p (record { table = table; partial = partial; some = some })).unfixed.unfixed;
}

printable : (t : Table) (b : Branch) → IsTable t → IsPrintable t (ascended t) (decision t b)
printable t b table = record {
  table = table;
  in_range = ascended_pool t;
  zeros = ascended_zeros t;
  few = let five : 5 ≤ 16 = omega arith in five;
  lawful = lawful_decision t b table;
}

-- the text of a valid certificate within the limits passes
passes_text : (r : Ready) (starts : List Store) (t : Table) (c : Certificate) (text : Bytes) → ComesTo r starts t → IsWithin c → IsValidFor t c → text ≡ text_of c
    → IsCertified r starts text asked.Check yes
passes_text r starts t c text comes within valid is =
    let read : certificate_at text ≡ Ok c = ap certificate_at is ∙ written_is_read c within in
    subst (λ x. behind_text r starts asked.Check x yes) (sym read) (inr (t, comes, inl (valid, refl)))

-- what is printed is read as the certificate that it is the text of
pub printed_read : (r : Ready) (t : Table) (s : Strategy) (text : Bytes) (grade : Grade) → s.nodes ≤ 100000 → IsTable t → (p : PrintsLeast t s (Text text grade))
    → (text ≡ text_of (printed t s p.best)) × IsWithin (printed t s p.best)
printed_read r t s text grade few table p =
    let b = s.branch in
    let able = printable t b table in
    let is : text ≡ text_of (printed t s p.best) = let q = p.answer in cc in
    let nodes = p.finds.nodes in
    let visits = p.finds.few in
    (is, printed_within t (ascended t) (decision t b) p.best able p.finds.least (omega arith))

pub printed_passes : PrintedPasses
printed_passes r starts t s text grade few sound comes p =
    let b = s.branch in
    let able = printable t b comes.valid in
    let read = printed_read r t s text grade few comes.valid p in
    let short = pooled_short (printed t s p.best) read.1 (printed_pooled t (ascended t) (decision t b) p.best able p.finds.least) in
    let valid = certificate_valid t (ascended t) (decision t b) able.zeros able.table able.lawful p.best p.finds.least in
    record { short = subst (λ x. length x < 4194304) (sym read.0) short; checked = passes_text r starts t (printed t s p.best) text comes read.1 valid read.0 }

pub migrated_passes : MigratedPasses
migrated_passes r starts text written sound h = go (certificate_at text) refl h
  where
    go : (x : Result Certificate CertFault) → certificate_at text ≡ x → behind_text r starts asked.Migrate x (Text written Good) → IsCertified r starts written asked.Check yes
    go (Err (fault.At line why)) e q = absurd (cc)
    go (Err fault.Memory) e q = absurd q
    go (Ok c) e (inl ends) = absurd (end_is_not_good r starts written ends)
    go (Ok c) e (inr (t, comes, inl valid)) =
        let is : written ≡ text_of (migrated t c) = let q = valid.1 in cc in
        passes_text r starts t (migrated t c) written comes (migrated_within t c comes.valid (read_within text c e) valid.0) (migrated_valid t c valid.0) is
    go (Ok c) e (inr (t, comes, inr invalid)) = absurd (let q = invalid.answer in cc)
