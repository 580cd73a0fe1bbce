-- The printed lines of the runs from samples, and of their energy.
use Rattle.std.specs.Prelude.{ℕ, ◌+◌, ◌==◌, List, [], ◌∷◌, ◌++◌, codes, decimal, if◌then◌else◌}
use Rattle.std.specs.Fmt.{signed_decimal}
use Rattle.rely_num.specs.Texts.{Bytes}
use Rattle.chisel_lines.specs.declared.sample.SampleEnd.{SampleEnd}

-- of so many trials so many agree; nothing is said of none
abbrev pub agree_text : ℕ → ℕ → Bytes
agree_text agreeing trials = if trials == 0 then [] else codes " agree " ++ decimal agreeing ++ codes " of " ++ decimal trials

-- the line of the sample with that number, counted from 1
abbrev pub sample_line : ℕ → ℕ → SampleEnd → Bytes
sample_line trials i x =
    codes "sample " ++ decimal i ++ codes " result " ++ signed_decimal x.result ++ codes " steps " ++ decimal x.steps ++ agree_text x.agreeing trials ++ codes "\n"

abbrev pub sample_lines : ℕ → ℕ → List SampleEnd → Bytes
sample_lines trials i [] = []
sample_lines trials i (x ∷ xs) = sample_line trials i x ++ sample_lines trials (i + 1) xs

abbrev pub energy_line : ℕ → Bytes
energy_line energy = codes "energy " ++ decimal energy ++ codes "\n"
