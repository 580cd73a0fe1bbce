use Rattle.std.proofs.Common.{◌≤◌, length, sym, subst}
use Rattle.rely_hard.specs.declared.hardware.KindSpec.{KindSpec}
use Rattle.std.specs.Prelude.{List}
use Rattle.rely_resolve.proofs.Places.{few_kinds}
use Rattle.rely_resolve.proofs.expr.site_of.Goals as goal

pub slot_of_kind-requires : goal.slot_of_kind-requires
slot_of_kind-requires c = subst (λ (ks : List KindSpec). length ks ≤ 32) (sym c.kinds_of.ensures) (few_kinds c.args.h.now c.args.op c.requires)
