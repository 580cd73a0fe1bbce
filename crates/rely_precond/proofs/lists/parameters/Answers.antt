use Rattle.std.proofs.Common.{◌-◌, ◌*◌, ◌%◌, ◌^◌, ◌<◌, length, ap, ◌∙◌, arith, length-append}
use Rattle.std.proofs.lemmas.Nat.{one_shl}
use Rattle.rely_kernel.specs.Machine.{parameters, locals}
use Rattle.rely_precond.proofs.lists.parameters.Goals as goal

pub returns : goal.returns
returns c =
    let k = c.args.k.now in
    let few : length (parameters k) < 64 = omega (arith, ap length c.requires.in_order, length-append (parameters k) (locals k), c.requires.few_vars) in
    ap (λ n. 1 * 2 ^ n % 2 ^ 64 - 1) c.first_local.ensures ∙ ap (λ n. n - 1) (one_shl (length (parameters k)) 64 few)
