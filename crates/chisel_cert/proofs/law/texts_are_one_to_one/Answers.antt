use Rattle.chisel_cert.proofs.Texts.{written_is_read, read_is_written}
use Rattle.chisel_cert.proofs.law.texts_are_one_to_one.Goals as goal

pub returns-clause-written : goal.returns-clause-written
returns-clause-written c = written_is_read

pub returns-clause-read : goal.returns-clause-read
returns-clause-read c = read_is_written
