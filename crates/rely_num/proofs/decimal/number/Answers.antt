use Rattle.std.proofs.Common.{arith}
use Rattle.rely_num.proofs.Digits.{fits_more}
use Rattle.rely_num.proofs.decimal.number.Goals as goal

pub overflow_mul-n : goal.overflow_mul-n
overflow_mul-n c = omega (arith, fits_more c.loop-byte.n c.loop-byte.byte-index c.loop-byte.invariant.bound (omega arith))

pub overflow_add-n : goal.overflow_add-n
overflow_add-n c = let room = fits_more c.loop-byte.n c.loop-byte.byte-index c.loop-byte.invariant.bound (omega arith) in omega arith
