use Rattle.std.proofs.Common.{◌≡◌, ◌≤◌, ◌++◌, drop, length, map}
use Rattle.std.specs.List.{AllByRecursion}
use Rattle.rely_num.specs.OpenMarks.{AreOpenMarksFrom}
use Rattle.chisel_rewrite.specs.Namings.{IsListed, mark_of}
use Rattle.chisel_rewrite.specs.Texts.{named}
use Rattle.chisel_rewrite.proofs.text.named.Given as goal

abbrev pub invariant-loop-naming : goal.invariant-loop-naming
invariant-loop-naming l =
    let left = drop l.naming-index l.namings in
    (l.written.items ++ named l.h l.text l.place left ≡ named l.h l.text 0 l.namings) × AreOpenMarksFrom l.text l.place (map mark_of left) × AllByRecursion (IsListed l.h) left
    × (l.place ≤ length l.text)
