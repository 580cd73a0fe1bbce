use Rattle.std.proofs.Common.{◌&&◌, ◌==◌, rules, tests}
use Rattle.std.proofs.lemmas.Iterator.{YieldsList-from_slice}
use Rattle.std.proofs.lemmas.Iterator.Search.{any_from_yields_List}
use Rattle.rely_num.specs.Bounds.{S}
use Rattle.rely_num.specs.Texts.{same_text}
use Rattle.rely_hard.specs.Meaning.{has_exact_kind}
use Rattle.rely_hard.specs.Valid.{exact}
use Rattle.rely_hard.specs.declared.hardware.KindSpec.{KindSpec}
use Rattle.rely_hard.proofs.kinds.has_exact_kind.Goals as goal

pub returns : goal.returns
unfolding has_exact_kind
returns c =
    any_from_yields_List (λ (kind : KindSpec). same_text kind.name exact && kind.right == S) _ _ _ c.any.ensures.ran (YieldsList-from_slice c.args.kinds.now cc) (λ x b q k. search (rules, tests))
