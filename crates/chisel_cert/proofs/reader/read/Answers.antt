use Rattle.std.proofs.Common.{◌≡◌, Result, Ok, Err, IfOk}
use Rattle.rely_num.specs.Texts.{Bytes}
use Rattle.chisel_cert.specs.declared.cert.Cert.{Cert}
use Rattle.chisel_cert.specs.declared.fault.CertFault.{CertFault}
use Rattle.chisel_cert.specs.Node.{certificate_of}
use Rattle.chisel_cert.specs.Ranges.{IsWithin}
use Rattle.chisel_cert.specs.Reading.{certificate_at}
use Rattle.chisel_cert.proofs.Texts.{read_within}
use Rattle.chisel_cert.proofs.reader.read.Goals as goal

within : (text : Bytes) (read : Result Cert CertFault) → IfOk read (λ c. certificate_at text ≡ Ok (certificate_of c)) → IfOk read (λ c. IsWithin (certificate_of c))
within text (Ok c) h = read_within text (certificate_of c) h
within text (Err e) h = tt

pub returns-clause-within : goal.returns-clause-within
returns-clause-within c = within c.args.text.now c.certificate.result c.certificate.ensures.ok
