-- Words by their first byte.
use Rattle.std.proofs.Common.{◌≡◌, ◌≤◌, ◌&&◌, [], ◌∷◌, length, get_or, drop, refl, arith}
use Rattle.std.specs.List.{list_all}
use Rattle.rely_num.specs.Texts.{Bytes, is_letter, is_name_byte, is_word}

-- a word that isn't empty
pub is_word_first : (text : Bytes) → 1 ≤ length text → is_word text ≡ (is_letter (get_or text 0 0) && list_all is_name_byte (drop 1 text))
is_word_first [] h = absurd (omega (arith, h))
is_word_first (byte ∷ bytes) h = refl
