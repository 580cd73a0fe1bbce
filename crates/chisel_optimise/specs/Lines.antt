-- The lines that the commands answer.
use Rattle.std.specs.Prelude.{ℕ, ◌++◌, codes, decimal, Option, Some, None}
use Rattle.rely_num.specs.Texts.{Bytes}
use Rattle.chisel_cert.specs.declared.fault.CertWhy.{CertWhy}
use Rattle.chisel_cert.specs.declared.fault.CertWhy.TheVariants as form
use Rattle.chisel_check.specs.declared.node.CheckWhy.{CheckWhy}
use Rattle.chisel_check.specs.declared.node.CheckWhy.TheVariants as why
use Rattle.chisel_optimise.specs.declared.lines.Measures.{Measures}
use Rattle.chisel_lines.specs.declared.answer.Answer.{Answer}
use Rattle.chisel_lines.specs.declared.answer.Answer.TheVariants.{Text}
use Rattle.chisel_lines.specs.declared.status.Grade.TheVariants.{Good, Failing}

-- ---- of certificates

abbrev pub check_why_text : CheckWhy → Bytes
check_why_text why.Size = codes "size"
check_why_text why.Choice = codes "choice"
check_why_text why.Energy = codes "energy"
check_why_text why.Row = codes "row"
check_why_text why.Branch = codes "branch"
check_why_text why.Children = codes "children"
check_why_text why.Leaf = codes "leaf"

abbrev pub cert_why_text : CertWhy → Bytes
cert_why_text form.Form = codes "form"
cert_why_text form.Deep = codes "deep"

-- the first line that fails, and why
abbrev pub no_line : ℕ → Bytes → Bytes
no_line line why = codes "no " ++ decimal line ++ codes " " ++ why ++ codes "\n"

-- the text is no certificate
abbrev pub formless : ℕ → CertWhy → Answer
formless line why = Text (no_line line (cert_why_text why)) Failing

-- the certificate isn't valid
abbrev pub invalid : ℕ → CheckWhy → Answer
invalid line why = Text (no_line line (check_why_text why)) Failing

-- it is valid
abbrev pub yes : Answer
yes = Text (codes "yes\n") Good

-- it has no choice
abbrev pub nothing : Answer
nothing = Text (codes "none\n") Failing

-- ---- of a made problem

-- a word and a number
abbrev pub count_line : Bytes → ℕ → Bytes
count_line word n = word ++ codes " " ++ decimal n ++ codes "\n"

abbrev pub energy_line : Option ℕ → Bytes
energy_line (Some energy) = count_line (codes "energy") energy
energy_line None = codes "energy none\n"

abbrev pub measure_lines : Measures → Bytes
measure_lines m =
    count_line (codes "source") m.source ++ count_line (codes "decisions") m.decisions ++ count_line (codes "rows") m.rows
    ++ energy_line m.energy ++ count_line (codes "visits") m.visits ++ count_line (codes "nodes") m.nodes
