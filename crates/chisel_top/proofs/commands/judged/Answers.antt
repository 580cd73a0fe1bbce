use Rattle.chisel_top.proofs.commands.judged.Goals as goal

pub returns-in-Ok : goal.returns-in-Ok
returns-in-Ok c = (c.in-Ok.ensures, record { ready = c.requires.ready; closed = c.requires.closed })
