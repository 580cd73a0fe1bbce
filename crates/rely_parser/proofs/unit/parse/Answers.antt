use Rattle.rely_parser.proofs.Verdicts.{within-if, unit-if, marks-if}
use Rattle.rely_parser.proofs.unit.parse.Goals as goal

pub returns-clause-within : goal.returns-clause-within
returns-clause-within c = within-if c.args.text.now c.args.toks.now c.unit.result c.unit.ensures.ok

pub returns-clause-unit : goal.returns-clause-unit
returns-clause-unit c = unit-if c.args.text.now c.args.toks.now c.unit.result c.unit.ensures.ok

pub returns-clause-marks : goal.returns-clause-marks
returns-clause-marks c = marks-if c.args.text.now c.args.toks.now c.unit.result c.unit.ensures.ok
