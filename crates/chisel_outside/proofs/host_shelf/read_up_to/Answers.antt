use Rattle.std.proofs.Common.{◌≡◌, ◌++◌, Ok, Err, take, vec_items, subst, arith}
use Rattle.std.proofs.lemmas.Grind.{common_steps}
use Rattle.std.proofs.KnownBytes.{Consumes-trans}
use Rattle.std.specs.IoError.{error_kind}
use Rattle.chisel_outside.specs.Device.{GainsSome, EndIn}
use Rattle.chisel_outside.proofs.DeviceLaws.{GainsSome-end, GainsSome-moved}
use Rattle.chisel_outside.proofs.HostLaws.{GainsSome-error, GainsSome-refused}
use Rattle.chisel_outside.proofs.host_shelf.read_up_to.Goals as goal

pub returns-in-Ok-eq0-clause-calls : goal.returns-in-Ok-eq0-clause-calls
returns-in-Ok-eq0-clause-calls g c =
    let old = g.R.Reader.answers c.args.file.now in
    let new = g.R.Reader.answers c.read_some.new.file in
    let end = GainsSome-end old (g.R.Reader.answers c.loop-piece.file) new (Ok c.in-Ok-eq0.field-0) c.loop-piece.invariant.goes_on c.in-Ok-eq0.ensures.calls in
    subst (λ n. GainsSome old new (EndIn (Ok n))) c.in-Ok-eq0.field-0-test end

pub returns-then-is_err-clause-bytes : goal.returns-then-is_err-clause-bytes
returns-then-is_err-clause-bytes g c = record {
  bytes = vec_items c.loop-piece.bytes ++ take c.in-Ok.n c.read_some.new.piece;
  few = grind (arith, common_steps);
  consumed = Consumes-trans _ _ _ _ _ c.loop-piece.invariant.consumed c.in-Ok.ensures.bytes.0;
}

pub returns-then-is_err-clause-calls : goal.returns-then-is_err-clause-calls
returns-then-is_err-clause-calls g c =
    let old = g.R.Reader.answers c.args.file.now in
    let new = g.R.Reader.answers c.read_some.new.file in
    GainsSome-refused old new (GainsSome-moved old (g.R.Reader.answers c.loop-piece.file) new c.in-Ok.n c.loop-piece.invariant.goes_on c.in-Ok.ensures.calls (omega arith))

pub loop-piece-preserved : goal.loop-piece-preserved
loop-piece-preserved g c =
    let old = g.R.Reader.answers c.args.file.now in
    let new = g.R.Reader.answers c.read_some.new.file in
    let read = take c.in-Ok.n c.read_some.new.piece in
    let more : vec_items c.extend_from_slice.new.self ≡ vec_items c.loop-piece.bytes ++ read = grind (arith, common_steps) in
    record {
      few = grind (arith, common_steps);
      consumed = rw more (Consumes-trans _ _ _ _ _ c.loop-piece.invariant.consumed c.in-Ok.ensures.bytes.0);
      goes_on = GainsSome-moved old (g.R.Reader.answers c.loop-piece.file) new c.in-Ok.n c.loop-piece.invariant.goes_on c.in-Ok.ensures.calls (omega arith);
    }

pub returns-in-Err-clause-calls : goal.returns-in-Err-clause-calls
returns-in-Err-clause-calls g c =
    let old = g.R.Reader.answers c.args.file.now in
    let new = g.R.Reader.answers c.read_some.new.file in
    GainsSome-error old new (error_kind c.in-Err.e) c.fault_of.result c.fault_of.ensures
    (GainsSome-end old (g.R.Reader.answers c.loop-piece.file) new (Err (error_kind c.in-Err.e)) c.loop-piece.invariant.goes_on c.in-Err.ensures.calls)
