use Rattle.std.proofs.Common.{◌∙◌, sym, rules, tests}
use Rattle.std.proofs.lemmas.Iterator.{YieldsList-from_slice}
use Rattle.std.proofs.lemmas.Iterator.Search.{any_from_yields_List}
use Rattle.rely_num.specs.Texts.{same_text}
use Rattle.rely_kernel.specs.declared.kernel.Var.{Var}
use Rattle.rely_inputs.proofs.Lists.{is_among_map}
use Rattle.rely_inputs.proofs.sample.has_name.Goals as goal

pub returns : goal.returns
returns c =
    any_from_yields_List (λ (var : Var). same_text c.args.name.now var.name) _ _ _ c.any.ensures.ran (YieldsList-from_slice c.args.vars.now cc) (λ x b q k. search (rules, tests))
    ∙ sym (is_among_map c.args.name.now (λ (var : Var). var.name) c.args.vars.now)
