use Rattle.std.proofs.Common.{arith}
use Rattle.std.proofs.KnownBytes.{Keeps-refl, Keeps-trans}
use Rattle.std.proofs.lemmas.Bool.{both_ways}
use Rattle.chisel_outside.proofs.DeviceLaws.{Tried-none, Tried-more, Tried-last, WriteAppends-behind, WriteAppends-interrupted}
use Rattle.chisel_outside.proofs.host_sink.write_some.Goals as goal

pub loop-init : goal.loop-init
loop-init g c = record { keeps = Keeps-refl _; tried = Tried-none _ }

pub loop-preserved : goal.loop-preserved
loop-preserved g c =
    let write = c.write_once-answer in
    let before = c.loop.invariant in
    let interrupted = c.is_interrupted.ensures.0 c.if-not-is_interrupted.false in
    record {
      keeps = Keeps-trans _ _ _ before.keeps (WriteAppends-interrupted _ _ _ _ write.ensures.bytes interrupted);
      tried = Tried-more _ _ _ _ _ before.tried write.ensures.answer interrupted;
    }

pub returns-then-not-is_interrupted-clause-bytes : goal.returns-then-not-is_interrupted-clause-bytes
returns-then-not-is_interrupted-clause-bytes g c = WriteAppends-behind _ _ _ _ _ c.loop.invariant.keeps c.write_once-answer.ensures.bytes

pub returns-then-not-is_interrupted-clause-calls : goal.returns-then-not-is_interrupted-clause-calls
returns-then-not-is_interrupted-clause-calls g c =
    Tried-last _ _ _ _ _ c.loop.invariant.tried c.write_once-answer.ensures.answer
    (λ is. absurd (both_ways c.is_interrupted.result c.if-not-is_interrupted.true (c.is_interrupted.ensures.1 is)))

pub returns-clause-bytes : goal.returns-clause-bytes
returns-clause-bytes g c = WriteAppends-behind _ _ _ _ _ c.loop.invariant.keeps c.write_once.ensures.bytes

pub returns-clause-calls : goal.returns-clause-calls
returns-clause-calls g c = Tried-last _ _ _ _ _ c.loop.invariant.tried c.write_once.ensures.answer (λ is. omega arith)
