use Rattle.std.specs.Prelude.{◌≡◌, Ok, IfOk}
use Rattle.std.proofs.Common.{rules}
use Rattle.rely_tree.specs.Shape.{unit_shape}
use Rattle.rely_resolve.specs.Linked.{linked_of}
use Rattle.rely_resolve.proofs.Reached.{linked_if, marked_if, open_if}
use Rattle.rely_resolve.proofs.ValidLinked.{answered_valid, answered_on}
use Rattle.rely_resolve.proofs.link.resolve.Goals as goal

pub returns-clause-valid : goal.returns-clause-valid
returns-clause-valid c =
    let ok : IfOk c.link_at.result (λ l. linked_of (unit_shape c.args.unit.now) c.args.function.now c.args.h.now ≡ Ok l) = search rules in
    answered_valid (unit_shape c.args.unit.now) c.args.function.now c.args.h.now c.link_at.result c.requires.hardware c.requires.unit ok

pub returns-clause-on : goal.returns-clause-on
returns-clause-on c =
    let ok : IfOk c.link_at.result (λ l. linked_of (unit_shape c.args.unit.now) c.args.function.now c.args.h.now ≡ Ok l) = search rules in
    answered_on (unit_shape c.args.unit.now) c.args.function.now c.args.h.now c.link_at.result c.requires.hardware c.requires.unit ok

pub returns-clause-reached : goal.returns-clause-reached
returns-clause-reached c =
    let ok : IfOk c.link_at.result (λ l. linked_of (unit_shape c.args.unit.now) c.args.function.now c.args.h.now ≡ Ok l) = search rules in
    linked_if (unit_shape c.args.unit.now) c.args.function.now c.args.h.now c.link_at.result ok

pub returns-clause-marks : goal.returns-clause-marks
returns-clause-marks c =
    let ok : IfOk c.link_at.result (λ l. linked_of (unit_shape c.args.unit.now) c.args.function.now c.args.h.now ≡ Ok l) = search rules in
    marked_if (unit_shape c.args.unit.now) c.args.function.now c.args.h.now c.link_at.result ok

pub returns-clause-open_marks : goal.returns-clause-open_marks
returns-clause-open_marks c =
    let ok : IfOk c.link_at.result (λ l. linked_of (unit_shape c.args.unit.now) c.args.function.now c.args.h.now ≡ Ok l) = search rules in
    open_if (unit_shape c.args.unit.now) c.args.function.now c.args.h.now c.link_at.result ok
