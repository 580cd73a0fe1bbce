use Rattle.std.proofs.Common.{◌≡◌, ℕ, ◌+◌, ◌<◌, length}
use Rattle.rely_num.specs.declared.word.Word.TheVariants as word
use Rattle.rely_tree.specs.Shape.{said_shape}
use Rattle.rely_parser.specs.State.{state_of}
use Rattle.rely_parser.specs.Units.{claim_at, claims_at}
use Rattle.rely_parser.proofs.Lists.{with_front}
use Rattle.rely_parser.proofs.Each.{from_one}
use Rattle.rely_parser.proofs.decl.claims.Given as goal

abbrev pub invariant-loop-read : goal.invariant-loop-read
invariant-loop-read l = record {
  shorter : length l.start.toks.now < length l.fn.at.toks.now;
  fuel : ℕ;
  left : fuel + length l.all.items ≡ 7;
  same : with_front said_shape l.all.items (from_one word.Claim (claim_at l.text) fuel (state_of l.start)) ≡ claims_at l.text (state_of l.fn.at);
}

abbrev pub decreases-loop-read : goal.decreases-loop-read
decreases-loop-read l = length l.start.toks.now
