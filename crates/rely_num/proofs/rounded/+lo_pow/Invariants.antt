use Rattle.rely_num.proofs.rounded.+lo_pow.Given as goal

abbrev pub decreases-lo_pow : goal.decreases-lo_pow
decreases-lo_pow l = l.n
