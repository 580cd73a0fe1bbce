use Rattle.rely_tree.specs.Shape.{unit_shape}
use Rattle.chisel_files.proofs.Problems.{meaning_fails, meaning_is, source_fails}
use Rattle.chisel_files.proofs.choosing.made_meaning.Goals as goal

pub returns-in-Err-clause-comes : goal.returns-in-Err-clause-comes
returns-in-Err-clause-comes c = source_fails c.args.source.now c.args.hardware.now c.in-Err.fault _ _ c.in-Err.ensures.err c.source_refusal.ensures c.fault_on.ensures

pub returns-in-Ok-meaning-clause-comes : goal.returns-in-Ok-meaning-clause-comes
returns-in-Ok-meaning-clause-comes c = meaning_is c.args.source.now c.args.hardware.now (unit_shape c.in-Ok.unit) c.in-Ok.ensures.ok c.in-Ok-meaning.meant c.in-Ok-meaning.ensures.ok

pub returns-clause-comes : goal.returns-clause-comes
returns-clause-comes c =
    meaning_fails c.args.source.now c.args.hardware.now (unit_shape c.in-Ok.unit) c.in-Ok.ensures.ok c.in-Err-meaning.fault _ _ c.in-Err-meaning.ensures.err c.meaning_refusal.ensures
    c.fault_on-in-Err-meaning.ensures
