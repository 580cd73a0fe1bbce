use Rattle.rely_tree.specs.Shape.{decl_shape, func_shape}
use Rattle.std.proofs.Common.{map}
use Rattle.rely_resolve.proofs.Firsts.{function_steps}
use Rattle.rely_resolve.proofs.kernel.fault_of.Goals as goal

pub returns : goal.returns
returns c =
    let steps = function_steps c.args.scope.now.h.now (map func_shape c.args.scope.now.earlier.now) (func_shape c.args.f.now) (map decl_shape c.args.scope.now.vars.now.list.items) c.requires.vars in
    cc
