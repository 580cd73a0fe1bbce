-- The draws of a made problem: a linear congruential generator on 64 bits, of which a draw takes the 31 highest.
use Rattle.std.specs.Prelude.{ℕ, zero, suc, ◌+◌, ◌*◌, ◌/◌, ◌%◌, ◌^◌}

abbrev pub multiplier : ℕ
multiplier = 6364136223846793005

abbrev pub increment : ℕ
increment = 1442695040888963407

-- the state after one step
abbrev pub next : ℕ → ℕ
next g = (g * multiplier + increment) % 2 ^ 64

-- what a step from a state draws
abbrev pub draw : ℕ → ℕ
draw g = next g / 2 ^ 33

-- the state after so many steps
unfoldable pub after : ℕ → ℕ → ℕ
after zero g = g
after (suc n) g = after n (next g)
