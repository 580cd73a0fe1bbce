-- Pieces that are put one after the other.
use Rattle.std.specs.Prelude.{ℕ, ◌≡◌, List, [], ◌∷◌, ◌++◌, Option, ◌⊎◌}
use Rattle.std.specs.Borrow.{Bor}
use Rattle.rely_num.specs.Texts.{Bytes}
use Rattle.chisel_lines.specs.declared.status.Status.{Status}
use Rattle.chisel_lines.specs.declared.status.Status.TheVariants as status
use Rattle.chisel_outside.specs.Outside.{Rose}
use Rattle.chisel_top.specs.Promises.{Wrote, WroteFront}

-- the pieces as one text
abbrev pub joined : List (Bor Bytes) → Bytes
joined [] = []
joined (piece ∷ pieces) = piece.now ++ joined pieces

-- the text was put whole and the status is that one, or a put failed after a front of it
abbrev pub Delivers : Bytes → Status → Option Bytes → Option Bytes → ℕ → ℕ → Status → Type 0
Delivers text s old new before after result =
    ((result ≡ s) × Wrote old new text × (after ≡ before)) ⊎ ((result ≡ status.WriteFault) × WroteFront old new text × Rose before after)
