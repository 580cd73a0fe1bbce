use Rattle.chisel_top.proofs.commands.ran.Goals as goal

pub returns-in-Ok : goal.returns-in-Ok
returns-in-Ok c = (c.in-Ok.ensures, c.requires)
