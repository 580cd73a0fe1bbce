-- Numbers that are read digit by digit.
use Rattle.std.proofs.Common.{ℕ, ◌+◌, ◌-◌, ◌*◌, ◌≤◌, [], ◌∷◌, fold, arith}
use Rattle.rely_num.specs.Texts.{Bytes}

-- the number that digits write behind one that stands already
abbrev pub number_behind : ℕ → Bytes → ℕ
number_behind n bytes = fold (λ n byte. 10 * n + (byte - 48)) n bytes

-- digits never make a number less
pub number_behind-above : (bytes : Bytes) (n : ℕ) → n ≤ number_behind n bytes
number_behind-above [] n = omega arith
number_behind-above (byte ∷ bytes) n = omega (arith, number_behind-above bytes (10 * n + (byte - 48)))
