use Rattle.rely_num.proofs.rounded.+hi_pow.Given as goal

abbrev pub decreases-hi_pow : goal.decreases-hi_pow
decreases-hi_pow l = l.n
