use Rattle.std.proofs.Common.{◌≡◌, List, drop, length, map}
use Rattle.std.specs.Prelude.{flat_map}
use Rattle.rely_kernel.specs.Machine.{main}
use Rattle.chisel_claims.specs.Verdicts.{JudgedClaim, own_after, own_judged}
use Rattle.chisel_verify.specs.Lines.{own_text}
use Rattle.chisel_verify.proofs.own.own_lines.Given as goal

abbrev pub invariant-loop-claim : goal.invariant-loop-claim
invariant-loop-claim l = record {
  so_far : List JudgedClaim;
  counted : length so_far ≡ l.claim-index;
  same : own_judged l.h l.l ≡ own_after l.h (main l.l) l.l.kernel so_far (drop l.claim-index l.l.kernel.claims);
  text : l.text.items ≡ flat_map own_text so_far;
  verdicts : l.verdicts.items ≡ map (λ j. j.verdict) so_far;
}
