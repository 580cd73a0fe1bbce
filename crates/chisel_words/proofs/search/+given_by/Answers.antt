use Rattle.std.proofs.Common.{sym, ◌∙◌}
use Rattle.chisel_words.proofs.Pairs.{pair_given}
use Rattle.chisel_words.proofs.search.+given_by.Goals as goal

pub returns-in-Some : goal.returns-in-Some
returns-in-Some t c =
    c.given_by.ensures
    ∙ pair_given c.args.options.now c.option-item.result c.word-item.result c.args.given c.in-Some.given c.in-len2-up.len_at_least c.option-item.is c.word-item.is
    (sym c.one_more.ensures ∙ c.in-Some.is)
