-- Places that are left open.
use Rattle.std.specs.Prelude.{ℕ, min, List, [], ◌∷◌, fold, Option, Some, None}
use Rattle.std.specs.Option.{option_or}
use Rattle.rely_num.specs.declared.span.Span.{Span}
use Rattle.rely_kernel.specs.declared.kernel.Kernel.{Kernel}
use Rattle.rely_kernel.specs.Setting.{marks_of}

-- the earlier of two places
abbrev pub earlier : Option ℕ → Span → Option ℕ
earlier None mark = Some mark.from
earlier (Some place) mark = Some (min place mark.from)

-- the least place of an open kind or memory
abbrev pub open_place : Kernel → Option ℕ
open_place k = fold earlier None (marks_of k)

-- that of the first function that has one
abbrev pub open_place_in : List Kernel → Option ℕ
open_place_in [] = None
open_place_in (k ∷ ks) = option_or (open_place k) (open_place_in ks)
