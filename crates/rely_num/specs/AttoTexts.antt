-- Probabilities as texts: one digit, or one digit, a point and at most eighteen digits.
use Rattle.std.specs.Prelude.{ℕ, zero, suc, ◌+◌, ◌-◌, ◌*◌, ◌/◌, ◌%◌, ◌^◌, Bool, ◌||◌, ◌==◌, nat_lt, [], ◌∷◌, ◌++◌, length, take, drop, Option, Some, None, Result, Ok, Err, if◌then◌else◌}
use Rattle.std.specs.List.{fold}
use Rattle.rely_num.specs.Bounds.{S}
use Rattle.rely_num.specs.Texts.{Bytes, is_digit}
use Rattle.rely_num.specs.declared.atto.NumFault.{NumFault}
use Rattle.rely_num.specs.declared.atto.NumFault.TheVariants.{Empty, Sign, Digit, Decimals, Above}

-- ---- written

-- so many digits of a number, the last one last
abbrev pub digits : ℕ → ℕ → Bytes
digits zero n = []
digits (suc k) n = digits k (n / 10) ++ (48 + n % 10) ∷ []

-- one digit, a point and eighteen digits
abbrev pub atto_text : ℕ → Bytes
atto_text n = (48 + n / S) ∷ 46 ∷ digits 18 (n % S)

-- ---- read

-- the byte may stand at that place
abbrev pub fits_at : ℕ → ℕ → Bool
fits_at place byte = if place == 1 then byte == 46 else is_digit byte

-- the first place, from that one on, where the text leaves the form; it ends after one digit or after a decimal
abbrev pub leaves_at : ℕ → Bytes → Option ℕ
leaves_at place [] = if place == 0 || place == 2 then Some place else None
leaves_at place (byte ∷ bytes) = if fits_at place byte then leaves_at (suc place) bytes else Some place

-- the number that digits write
abbrev pub number_of : Bytes → ℕ
number_of bytes = fold (λ n byte. 10 * n + (byte - 48)) 0 bytes

-- the attos of a text that has the form
abbrev pub attos_of : Bytes → ℕ
attos_of text = number_of (take 1 text) * S + number_of (drop 2 text) * 10 ^ (18 - length (drop 2 text))

abbrev pub within_one : ℕ → Result ℕ NumFault
within_one n = if nat_lt S n then Err Above else Ok n

abbrev pub formed : Bytes → Option ℕ → Result ℕ NumFault
formed text (Some place) = Err (Digit place)
formed text None = if nat_lt 20 (length text) then Err (Decimals 20) else within_one (attos_of text)

-- the probability that a text writes, or the first reason why it writes none
abbrev pub atto_of : Bytes → Result ℕ NumFault
atto_of [] = Err Empty
atto_of (byte ∷ bytes) = if byte == 43 || byte == 45 then Err Sign else formed (byte ∷ bytes) (leaves_at 0 (take 20 (byte ∷ bytes)))
