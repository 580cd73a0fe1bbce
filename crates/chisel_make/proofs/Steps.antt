-- One statement, or one number, and then the rest.
use Rattle.std.proofs.Common.{◌≡◌, ℕ, zero, suc, ◌-◌, ◌<◌, [], ◌++◌, codes, refl, ap, sym, arith}
use Rattle.chisel_make.specs.Draws.{after, draw, next}
use Rattle.chisel_make.specs.Made.{byte, bytes, statement, statements}

one_less : (n : ℕ) → suc n - 1 ≡ n
one_less n = omega arith

pub statements_none : (g : ℕ) → statements 0 g ≡ []
unfolding statements
statements_none g = refl

pub statements_step : (n g : ℕ) → 0 < n → statements n g ≡ statement (draw g) ++ statements (n - 1) (next g)
unfolding statements
statements_step zero g p = absurd (omega (arith, p))
statements_step (suc n) g p = ap (λ m. statement (draw g) ++ statements m (next g)) (sym (one_less n))

pub bytes_none : (g : ℕ) → bytes 0 g ≡ []
unfolding bytes
bytes_none g = refl

pub bytes_step : (n g : ℕ) → 0 < n → bytes n g ≡ codes "," ++ byte (draw g) ++ bytes (n - 1) (next g)
unfolding bytes
bytes_step zero g p = absurd (omega (arith, p))
bytes_step (suc n) g p = ap (λ m. codes "," ++ byte (draw g) ++ bytes m (next g)) (sym (one_less n))

pub after_none : (g : ℕ) → after 0 g ≡ g
unfolding after
after_none g = refl

pub after_step : (n g : ℕ) → 0 < n → after n g ≡ after (n - 1) (next g)
unfolding after
after_step zero g p = absurd (omega (arith, p))
after_step (suc n) g p = ap (λ m. after m (next g)) (sym (one_less n))

pub after_sixteen : (g : ℕ) → after 16 g ≡ after 15 (next g)
after_sixteen g = after_step 16 g (omega arith)
