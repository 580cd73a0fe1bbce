use Rattle.chisel_top.proofs.tell.tell_refusal.Goals as goal

pub returns-in-Source-clause-delivers : goal.returns-in-Source-clause-delivers
returns-in-Source-clause-delivers g c = rw (c.in-Source.is, ← c.reason_text.ensures) c.tell_number.ensures.delivers

pub returns-in-Hardware-clause-delivers : goal.returns-in-Hardware-clause-delivers
returns-in-Hardware-clause-delivers g c = rw c.in-Hardware.is c.tell_member.ensures.delivers

pub returns-in-Inputs-clause-delivers : goal.returns-in-Inputs-clause-delivers
returns-in-Inputs-clause-delivers g c = rw c.in-Inputs.is c.tell_sample.ensures.delivers

pub returns-in-Limit-clause-delivers : goal.returns-in-Limit-clause-delivers
returns-in-Limit-clause-delivers g c = rw (c.in-Limit.is, ← c.limit_text.ensures) c.tell_number-in-Limit.ensures.delivers
