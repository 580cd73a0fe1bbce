use Rattle.std.proofs.Common.{◌&&◌, ◌==◌, rules, tests}
use Rattle.std.proofs.lemmas.Iterator.{YieldsList-from_slice}
use Rattle.std.proofs.lemmas.Iterator.Search.{any_from_yields_List}
use Rattle.rely_num.specs.Bounds.{S}
use Rattle.rely_num.specs.Texts.{same_text}
use Rattle.rely_hard.specs.Meaning.{has_exact_memory}
use Rattle.rely_hard.specs.Valid.{exact}
use Rattle.rely_hard.specs.declared.hardware.MemSpec.{MemSpec}
use Rattle.rely_hard.proofs.memories.has_exact_memory.Goals as goal

pub returns : goal.returns
unfolding has_exact_memory
returns c =
    any_from_yields_List (λ (memory : MemSpec). same_text memory.name exact && (memory.read == S && memory.write == S)) _ _ _ c.any.ensures.ran (YieldsList-from_slice c.args.memories.now cc) (λ x b q k. search (rules, tests))
