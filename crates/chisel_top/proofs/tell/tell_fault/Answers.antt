use Rattle.chisel_top.proofs.tell.tell_fault.Goals as goal

pub returns-in-Length-clause-delivers : goal.returns-in-Length-clause-delivers
returns-in-Length-clause-delivers g c = rw (← c.status-status.ensures, c.in-Length.is, ← c.as_bytes.ensures.value) c.tell_number.ensures.delivers

pub returns-in-Memory-clause-delivers : goal.returns-in-Memory-clause-delivers
returns-in-Memory-clause-delivers g c = rw (← c.status-status.ensures, c.in-Memory.is) c.tell_line-in-Memory.ensures.delivers
