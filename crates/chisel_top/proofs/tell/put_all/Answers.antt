use Rattle.std.proofs.Common.{◌++◌, [], get_or, ◌∙◌}
use Rattle.chisel_top.proofs.Tellings.{whole_more, wrote_more, put_failed, not_late}
use Rattle.chisel_top.proofs.tell.put_all.Goals as goal

pub returns-in-Failed-clause-delivers : goal.returns-in-Failed-clause-delivers
returns-in-Failed-clause-delivers g c =
    put_failed c.args.pieces.now c.loop-piece.piece-index _ c.loop-piece.invariant.front c.args.status _ _ _ _ _ _ _ c.in-Failed.is c.put.ensures.puts c.loop-piece-test.true
    c.loop-piece.invariant.whole c.loop-piece.invariant.wrote c.loop-piece.invariant.faults

pub loop-piece-preserved : goal.loop-piece-preserved
loop-piece-preserved g c =
    let w = wrote_more _ c.loop-piece.invariant.front (g.K.Sink.written c.args.sink.now) _ _ _ _ _ c.in-All.is c.put.ensures.puts c.loop-piece.invariant.wrote in
    record {
      front = c.loop-piece.invariant.front ++ (get_or c.args.pieces.now c.loop-piece.piece-index (record { ref_ptr = (0, 0); now = [] })).now;
      whole = whole_more c.args.pieces.now c.loop-piece.piece-index _ c.loop-piece.invariant.front c.loop-piece-test.true c.loop-piece.invariant.whole;
      wrote = w.0;
      faults = w.1 ∙ c.loop-piece.invariant.faults;
      late = not_late _ _ _ _ _ c.loop-piece.invariant.faults c.loop-piece.invariant.late c.put.ensures.late;
    }
