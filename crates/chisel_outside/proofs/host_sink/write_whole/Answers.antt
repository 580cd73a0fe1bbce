use Rattle.std.proofs.Common.{◌≡◌, ℕ, ◌-◌, List, ◌++◌, Ok, Err, length, take, drop, sym, ap, ◌∙◌, append_assoc, take-append-drop, arith}
use Rattle.std.proofs.lemmas.List.{take_rest}
use Rattle.std.proofs.KnownBytes.{Appends-trans}
use Rattle.std.specs.IoError.{error_kind}
use Rattle.chisel_outside.proofs.DeviceLaws.{GainsSome-end, GainsSome-moved}
use Rattle.chisel_outside.proofs.HostLaws.{GainsSome-stopped}
use Rattle.chisel_outside.proofs.host_sink.write_whole.Goals as goal

-- the front of the rest joins what is done
moves_front : (all done rest : List ℕ) (n : ℕ) → all ≡ done ++ rest → all ≡ (done ++ take n rest) ++ take (length rest - n) (drop n rest)
moves_front all done rest n e =
    e ∙ ap (λ l. done ++ l) (sym (take-append-drop n rest)) ∙ sym (append_assoc done (take n rest) (drop n rest)) ∙ ap (λ l. (done ++ take n rest) ++ l) (sym (take_rest rest n))

pub loop-rest-preserved : goal.loop-rest-preserved
loop-rest-preserved g c =
    let (done, split, appended) = c.loop-rest.invariant.front in
    let rest = c.loop-rest.rest.now in
    let n = c.in-Ok.n in
    let old = g.W.Writer.answers c.args.out.now in
    let new = g.W.Writer.answers c.write_some.new.out in
    record {
      front = (done ++ take n rest, moves_front _ done rest n split, Appends-trans _ _ _ _ _ appended c.in-Ok.ensures.bytes);
      goes_on = GainsSome-moved old (g.W.Writer.answers c.loop-rest.out) new n c.loop-rest.invariant.goes_on c.in-Ok.ensures.calls (omega arith);
    }

pub returns-in-Ok-eq0-clause-calls : goal.returns-in-Ok-eq0-clause-calls
returns-in-Ok-eq0-clause-calls g c =
    let old = g.W.Writer.answers c.args.out.now in
    let new = g.W.Writer.answers c.write_some.new.out in
    let last = Ok c.in-Ok-eq0.field-0 in
    GainsSome-stopped old new last c.in-Ok-eq0.field-0-test (GainsSome-end old (g.W.Writer.answers c.loop-rest.out) new last c.loop-rest.invariant.goes_on c.in-Ok-eq0.ensures.calls)

pub returns-in-Err-clause-calls : goal.returns-in-Err-clause-calls
returns-in-Err-clause-calls g c =
    let old = g.W.Writer.answers c.args.out.now in
    let new = g.W.Writer.answers c.write_some.new.out in
    let last = Err (error_kind c.in-Err.field-0) in
    GainsSome-stopped old new last tt (GainsSome-end old (g.W.Writer.answers c.loop-rest.out) new last c.loop-rest.invariant.goes_on c.in-Err.ensures.calls)
