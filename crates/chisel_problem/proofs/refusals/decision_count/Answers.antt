use Rattle.std.proofs.Common.{◌∙◌, ap, arith, filter, length}
use Rattle.chisel_problem.specs.Refusals.{is_open}
use Rattle.chisel_problem.proofs.Opens.{decision_count, few_sites, few_variables}
use Rattle.chisel_problem.proofs.refusals.decision_count.Goals as goal

pub overflow_add-result : goal.overflow_add-result
overflow_add-result c =
    let sites = c.count_sites.ensures ∙ ap (λ xs. length (filter (λ s. is_open s.kind) xs)) c.as_slice.ensures in
    let variables = c.count_variables.ensures ∙ ap (λ xs. length (filter (λ v. is_open v.memory) xs)) c.as_slice-2.ensures in
    omega (arith, sites, variables, few_sites c.args.k.now c.requires, few_variables c.args.k.now c.requires)

pub returns : goal.returns
returns c =
    let sites = c.count_sites.ensures ∙ ap (λ xs. length (filter (λ s. is_open s.kind) xs)) c.as_slice.ensures in
    let variables = c.count_variables.ensures ∙ ap (λ xs. length (filter (λ v. is_open v.memory) xs)) c.as_slice-2.ensures in
    omega (arith, sites, variables, decision_count c.args.k.now)
