use Rattle.std.proofs.Common.{◌≡◌, drop}
use Rattle.rely_num.specs.AttoTexts.{leaves_at}
use Rattle.rely_num.proofs.decimal.leaves.Given as goal

abbrev pub invariant-loop-byte : goal.invariant-loop-byte
invariant-loop-byte l = record { counted : l.place ≡ l.byte-index; so_far : leaves_at 0 l.text ≡ leaves_at l.place (drop l.place l.text) }
