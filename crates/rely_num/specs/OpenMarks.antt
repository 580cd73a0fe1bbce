-- The open marks of a text: the places where it says `?`.
use Rattle.std.specs.Prelude.{◌≡◌, ℕ, ◌≤◌, ◌+◌, List, [], ◌∷◌, codes}
use Rattle.std.specs.List.{slice_range}
use Rattle.rely_num.specs.Texts.{Bytes}
use Rattle.rely_num.specs.declared.span.Span.{Span}

-- the span is one byte of the text, which is a question mark
pub record IsOpenMark (text : Bytes) (mark : Span) : Type 0 where
  pub one_byte : mark.to ≡ mark.from + 1
  pub byte : slice_range text mark.from mark.to ≡ codes "?"

-- each is one, and begins behind the one before, the first at that place or behind it
abbrev pub AreOpenMarksFrom : Bytes → ℕ → List Span → Type 0
AreOpenMarksFrom text place [] = Unit {0}
AreOpenMarksFrom text place (mark ∷ marks) = (place ≤ mark.from) × IsOpenMark text mark × AreOpenMarksFrom text mark.to marks

-- each is one, in rising places of the text
abbrev pub AreOpenMarks : Bytes → List Span → Type 0
AreOpenMarks text marks = AreOpenMarksFrom text 0 marks
