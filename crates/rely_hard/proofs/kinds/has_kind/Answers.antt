use Rattle.std.proofs.Common.{◌∙◌, sym, rules, tests}
use Rattle.std.proofs.lemmas.Iterator.{YieldsList-from_slice}
use Rattle.std.proofs.lemmas.Iterator.Search.{any_from_yields_List}
use Rattle.rely_num.specs.Texts.{same_text}
use Rattle.rely_hard.specs.declared.hardware.KindSpec.{KindSpec}
use Rattle.rely_hard.proofs.Lists.{is_among_map}
use Rattle.rely_hard.proofs.kinds.has_kind.Goals as goal

pub returns : goal.returns
returns c =
    any_from_yields_List (λ (kind : KindSpec). same_text c.args.name.now kind.name) _ _ _ c.any.ensures.ran (YieldsList-from_slice c.args.kinds.now cc) (λ x b q k. search (rules, tests))
    ∙ sym (is_among_map c.args.name.now (λ (kind : KindSpec). kind.name) c.args.kinds.now)
