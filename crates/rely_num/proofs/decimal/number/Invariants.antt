use Rattle.std.proofs.Common.{◌≡◌, ◌<◌, ◌^◌, take}
use Rattle.rely_num.specs.AttoTexts.{number_of}
use Rattle.rely_num.proofs.decimal.number.Given as goal

abbrev pub invariant-loop-byte : goal.invariant-loop-byte
invariant-loop-byte l = record { value : l.n ≡ number_of (take l.byte-index l.text); bound : l.n < 10 ^ l.byte-index }
