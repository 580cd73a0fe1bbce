use Rattle.std.proofs.Common.{◌≡◌, ◌++◌, length, drop}
use Rattle.rely_num.specs.AttoTexts.{digits}
use Rattle.rely_num.proofs.decimal.write_digits.Given as goal

abbrev pub invariant-loop-place : goal.invariant-loop-place
invariant-loop-place l = digits (length l.out) l.n ≡ digits l.place l.rest ++ drop l.place l.out
