use Rattle.std.proofs.Common.{rules, ◌≡◌, ◌∷◌, ◌++◌, [], true, None, Ok, Some}
use Rattle.rely_kernel.specs.Setting.{IsClosed, IsOn}
use Rattle.rely_kernel.specs.Valid.{IsValid}
use Rattle.chisel_claims.specs.Verdicts.{callee_on, in_use_from, is_accepted, judged_of}
use Rattle.chisel_verify.specs.Lines.{callee_text}
use Rattle.chisel_verify.proofs.LineByLine.{callee_less, callee_more, flat_more, rest_of}
use Rattle.chisel_verify.proofs.callees.callee_lines.Goals as goal
use Rattle.chisel_verify.proofs.callees.callee_lines.Goals.{in-Some+in_ok-line+else-not-is_accepted+in_ok-extend_from_slice, in_default}

pub loop-i-preserved : goal.loop-i-preserved
loop-i-preserved c = elim c.match-callee.branch [
  | in-Some+in_ok-line+else-not-is_accepted+in_ok-extend_from_slice w ↦
      let found : callee_on c.args.h.now c.loop-i.i c.index-kernels-i.result (in_use_from 1 c.index-kernels-i.result.claims) ≡ Ok (Some (judged_of w.in-Some.callee)) = search rules in
      let accepted : is_accepted w.in-Some.callee.verdict ≡ true = search rules in
      record {
        so_far = c.loop-i.invariant.so_far ++ judged_of w.in-Some.callee ∷ [];
        same = callee_more c.args.h.now c.args.kernels.now c.loop-i.i _ c.index-kernels-i.result c.loop-i.invariant.so_far c.loop-i-test.true c.index-kernels-i.is c.loop-i.invariant.same
            (judged_of w.in-Some.callee) found accepted;
        text = rw (w.text-is, w.in_ok-extend_from_slice.ensures.items, w.as_slice.ensures.value, w.in_ok-line.ensures, c.loop-i.invariant.text)
            (flat_more (callee_text c.args.source.now) c.loop-i.invariant.so_far (judged_of w.in-Some.callee));
        valid = rest_of c.args.h.now c.args.kernels.now c.loop-i.i _ c.index-kernels-i.result c.loop-i.invariant.so_far c.loop-i-test.true c.index-kernels-i.is c.loop-i.invariant.same IsValid c.loop-i.invariant.valid;
        on = rest_of c.args.h.now c.args.kernels.now c.loop-i.i _ c.index-kernels-i.result c.loop-i.invariant.so_far c.loop-i-test.true c.index-kernels-i.is c.loop-i.invariant.same (IsOn c.args.h.now) c.loop-i.invariant.on;
        closed = rest_of c.args.h.now c.args.kernels.now c.loop-i.i _ c.index-kernels-i.result c.loop-i.invariant.so_far c.loop-i-test.true c.index-kernels-i.is c.loop-i.invariant.same IsClosed c.loop-i.invariant.closed;
      }
  | in_default w ↦
      let found : callee_on c.args.h.now c.loop-i.i c.index-kernels-i.result (in_use_from 1 c.index-kernels-i.result.claims) ≡ Ok None = search rules in
      record {
        so_far = c.loop-i.invariant.so_far;
        same = callee_less c.args.h.now c.args.kernels.now c.loop-i.i _ c.index-kernels-i.result c.loop-i.invariant.so_far c.loop-i-test.true c.index-kernels-i.is c.loop-i.invariant.same found;
        text = rw w.text-is c.loop-i.invariant.text;
        valid = rest_of c.args.h.now c.args.kernels.now c.loop-i.i _ c.index-kernels-i.result c.loop-i.invariant.so_far c.loop-i-test.true c.index-kernels-i.is c.loop-i.invariant.same IsValid c.loop-i.invariant.valid;
        on = rest_of c.args.h.now c.args.kernels.now c.loop-i.i _ c.index-kernels-i.result c.loop-i.invariant.so_far c.loop-i-test.true c.index-kernels-i.is c.loop-i.invariant.same (IsOn c.args.h.now) c.loop-i.invariant.on;
        closed = rest_of c.args.h.now c.args.kernels.now c.loop-i.i _ c.index-kernels-i.result c.loop-i.invariant.so_far c.loop-i-test.true c.index-kernels-i.is c.loop-i.invariant.same IsClosed c.loop-i.invariant.closed;
      }
]
