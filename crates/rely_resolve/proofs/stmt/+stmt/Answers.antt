use Rattle.std.proofs.Common.{◌≡◌, rules, arith, ap, subst, ◌∙◌}
use Rattle.rely_tree.specs.Shape.{expr_shape, stmt_shape, block_shape}
use Rattle.rely_tree.specs.Tree.{IfTree, WhileTree, RepeatTree}
use Rattle.rely_tree.specs.declared.stmt.Stmt.{the_lemmas}
use Rattle.rely_tree.proofs.Shapes.{stmt_shape-If, stmt_shape-While, stmt_shape-Repeat}
use Rattle.rely_tree.specs.Counts.{stmt_operators, stmt_calls}
use Rattle.rely_tree.specs.Limits.{HasNumbers}
use Rattle.rely_resolve.proofs.stmt.+stmt.Goals as goal

pub stmt-block-requires : goal.stmt-block-requires
stmt-block-requires t c =
    let is : stmt_shape c.args.s.now ≡ IfTree c.in-If.field-0 (expr_shape c.in-If.test) (block_shape c.in-If.held.now) (block_shape c.in-If.other.now) =
    ap stmt_shape c.in-If.is ∙ stmt_shape-If _ _ _ _ in (
      search (rules, the_lemmas),
      (
        c.requires.hardware,
        (
          c.requires.done,
          (
            (subst HasNumbers is c.requires.numbers).1,
            (
              omega (arith, ap stmt_operators is, c.requires.room, c.in_ok-test-in-If.ensures.len),
              omega (arith, ap stmt_calls is, c.requires.places),
            ),
          ),
        ),
      ),
    )

pub stmt-block-requires-in-If : goal.stmt-block-requires-in-If
stmt-block-requires-in-If t c =
    let is : stmt_shape c.args.s.now ≡ IfTree c.in-If.field-0 (expr_shape c.in-If.test) (block_shape c.in-If.held.now) (block_shape c.in-If.other.now) =
    ap stmt_shape c.in-If.is ∙ stmt_shape-If _ _ _ _ in (
      search (rules, the_lemmas),
      (
        c.requires.hardware,
        (
          c.requires.done,
          (
            (subst HasNumbers is c.requires.numbers).2,
            (
              omega (arith, ap stmt_operators is, c.requires.room, c.in_ok-test-in-If.ensures.len, c.in_ok-held-in-If.ensures.sites_len),
              omega (arith, ap stmt_calls is, c.requires.places, c.in_ok-held-in-If.ensures.calls_len),
            ),
          ),
        ),
      ),
    )

pub stmt-block-requires-in-While : goal.stmt-block-requires-in-While
stmt-block-requires-in-While t c =
    let is : stmt_shape c.args.s.now ≡ WhileTree c.in-While.field-0 (expr_shape c.in-While.test) c.in-While.most (block_shape c.in-While.body.now) =
    ap stmt_shape c.in-While.is ∙ stmt_shape-While _ _ _ _ in (
      search (rules, the_lemmas),
      (
        c.requires.hardware,
        (
          c.requires.done,
          (
            (subst HasNumbers is c.requires.numbers).1,
            (
              omega (arith, ap stmt_operators is, c.requires.room, c.in_ok-test-in-While.ensures.len),
              omega (arith, ap stmt_calls is, c.requires.places),
            ),
          ),
        ),
      ),
    )

pub stmt-block-requires-in-Repeat : goal.stmt-block-requires-in-Repeat
stmt-block-requires-in-Repeat t c =
    let is : stmt_shape c.args.s.now ≡ RepeatTree c.in-Repeat.field-0 c.in-Repeat.turns (block_shape c.in-Repeat.body.now) =
    ap stmt_shape c.in-Repeat.is ∙ stmt_shape-Repeat _ _ _ in (
      search (rules, the_lemmas),
      (
        c.requires.hardware,
        (
          c.requires.done,
          (
            subst HasNumbers is c.requires.numbers,
            (
              omega (arith, ap stmt_operators is, c.requires.room),
              omega (arith, ap stmt_calls is, c.requires.places),
            ),
          ),
        ),
      ),
    )
