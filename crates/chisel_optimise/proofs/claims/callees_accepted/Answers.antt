use Rattle.std.proofs.Common.{subst, sym}
use Rattle.std.specs.List.{AllByRecursion}
use Rattle.rely_kernel.specs.Setting.{IsOn}
use Rattle.rely_kernel.specs.Valid.{IsValid}
use Rattle.chisel_source.proofs.Parts.{inner_on, inner_valid}
use Rattle.chisel_optimise.proofs.claims.callees_accepted.Goals as goal

pub first_failing-requires-clause-valid : goal.first_failing-requires-clause-valid
first_failing-requires-clause-valid c = subst (AllByRecursion IsValid) (sym c.as_slice.ensures) (inner_valid c.args.ready.now c.requires.sound)

pub first_failing-requires-clause-on : goal.first_failing-requires-clause-on
first_failing-requires-clause-on c = subst (AllByRecursion (IsOn c.args.ready.now.hardware)) (sym c.as_slice.ensures) (inner_on c.args.ready.now c.requires.sound)
