-- What validity promises, and that texts and certificates are one to one.
use Rattle.std.specs.Prelude.{◌≡◌, Ok}
use Rattle.rely_num.specs.Texts.{Bytes}
use Rattle.chisel_table.specs.declared.table.Table.{Table}
use Rattle.chisel_table.specs.Least.{IsLeast}
use Rattle.chisel_table.specs.Valid.{IsTable}
use Rattle.chisel_cert.specs.Tree.{Certificate}
use Rattle.chisel_cert.specs.Valid.{IsValidFor}
use Rattle.chisel_cert.specs.Text.{text_of}
use Rattle.chisel_cert.specs.Ranges.{IsWithin}
use Rattle.chisel_cert.specs.Reading.{certificate_at}

-- the choice of a valid certificate is the least of the table, and where it has none no choice meets every row
abbrev pub ValidIsLeast : Type 0
ValidIsLeast = (t : Table) (c : Certificate) → IsTable t → IsValidFor t c → IsLeast t c.choice

-- what is written is read again
abbrev pub WrittenIsRead : Type 0
WrittenIsRead = (c : Certificate) → IsWithin c → certificate_at (text_of c) ≡ Ok c

-- what is read is the text of what the reader gives
abbrev pub ReadIsWritten : Type 0
ReadIsWritten = (text : Bytes) (c : Certificate) → certificate_at text ≡ Ok c → IsWithin c × (text_of c ≡ text)

-- no certificate within the limits has this text
abbrev pub NoText : Bytes → Type 0
NoText text = (c : Certificate) → IsWithin c → text_of c ≡ text → ⊥
