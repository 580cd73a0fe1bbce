use Rattle.std.proofs.Common.{◌≡◌, ◌+◌, ◌*◌, ◌≤◌}
use Rattle.rely_kernel.specs.Paths.{use_of}
use Rattle.rely_kernel.specs.Text.{expr_of, block_of}
use Rattle.rely_precond.specs.InRange.{BlockInRange}
use Rattle.rely_precond.specs.Places.{line_of, lines_of}
use Rattle.rely_precond.specs.Walk.{walk_all, repeats, whiles}
use Rattle.rely_precond.proofs.Weights.{weight, weights}
use Rattle.rely_precond.proofs.statement.+walk.Given as goal

abbrev pub invariant-walk_all-loop-last : goal.invariant-walk_all-loop-last
invariant-walk_all-loop-last l = record {
  in_range : BlockInRange l.k (block_of l.left.body.now);
  less : weights (lines_of l.left.body.now) ≤ weights (lines_of l.fn.text.body.now);
  labels : l.walked.list.labels ≡ l.fn.listed.list.labels;
  to_walk :
      walk_all l.k (lines_of l.left.body.now) l.walked.list.conjs l.walked.work
      ≡ walk_all l.k (lines_of l.fn.text.body.now) l.fn.listed.list.conjs l.fn.listed.work;
}

abbrev pub decreases-walk_all-loop-last : goal.decreases-walk_all-loop-last
decreases-walk_all-loop-last l = weights (lines_of l.left.body.now)

abbrev pub invariant-repeat-loop-left : goal.invariant-repeat-loop-left
invariant-repeat-loop-left l = record {
  labels : l.turned.list.labels ≡ l.fn.own.list.labels;
  so_far :
      repeats l.at (λ q w. walk_all l.k (lines_of l.text.body.now) q w) l.left l.turned.list.conjs l.turned.work
      ≡ repeats l.at (λ q w. walk_all l.k (lines_of l.text.body.now) q w) l.n l.fn.own.list.conjs l.fn.own.work;
}

abbrev pub decreases-repeat-loop-left : goal.decreases-repeat-loop-left
decreases-repeat-loop-left l = l.left

abbrev pub invariant-repeat_while-loop-left : goal.invariant-repeat_while-loop-left
invariant-repeat_while-loop-left l = record {
  labels : l.turned.list.labels ≡ l.fn.own.list.labels;
  so_far :
      whiles l.at (use_of l.k (expr_of l.e)) (λ q w. walk_all l.k (lines_of l.text.body.now) q w) l.behind l.left l.turned.list.conjs l.turned.work
      ≡ whiles l.at (use_of l.k (expr_of l.e)) (λ q w. walk_all l.k (lines_of l.text.body.now) q w) l.behind l.n l.fn.own.list.conjs l.fn.own.work;
}

abbrev pub decreases-repeat_while-loop-left : goal.decreases-repeat_while-loop-left
decreases-repeat_while-loop-left l = l.left

-- each call has less text, or stands later in its turn
abbrev pub decreases-walk_all : goal.decreases-walk_all
decreases-walk_all l = 4 * weights (lines_of l.text.body.now)

abbrev pub decreases-walk : goal.decreases-walk
decreases-walk l = 4 * weight (line_of l.statement.now.what.now) + 3

abbrev pub decreases-walk_inside : goal.decreases-walk_inside
decreases-walk_inside l = 4 * weight (line_of l.statement.now.what.now) + 2

abbrev pub decreases-walk_branches : goal.decreases-walk_branches
decreases-walk_branches l = 4 * (weights (lines_of l.first.body.now) + weights (lines_of l.second.body.now)) + 1

abbrev pub decreases-repeat : goal.decreases-repeat
decreases-repeat l = 4 * weights (lines_of l.text.body.now) + 1

abbrev pub decreases-repeat_while : goal.decreases-repeat_while
decreases-repeat_while l = 4 * weights (lines_of l.text.body.now) + 1
