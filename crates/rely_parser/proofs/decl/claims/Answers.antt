use Rattle.std.proofs.Common.{Err, ◌++◌, ◌+◌, ◌-◌, Ok, arith, ap, sym, ◌∙◌, length}
use Rattle.std.proofs.lemmas.Grind.{common_steps}
use Rattle.rely_num.specs.declared.word.Word.TheVariants as word
use Rattle.rely_tree.specs.Shape.{said_shape}
use Rattle.rely_parser.specs.declared.fault.ParseFault.TheVariants as fault
use Rattle.rely_parser.specs.State.{state_of}
use Rattle.rely_parser.specs.Units.{claim_at}
use Rattle.rely_parser.proofs.Lists.{with_front, with_front-none, with_front-push, front-last}
use Rattle.rely_parser.proofs.Each.{from_one, some-missing, some-from, from_one-none, from_one-end, from_one-full, from_one-more, length-push, left-push}
use Rattle.rely_parser.proofs.decl.claims.Goals as goal

pub returns-in_err-start-clause-err : goal.returns-in_err-start-clause-err
returns-in_err-start-clause-err c = grind (arith, common_steps, some-missing)

pub loop-read-init : goal.loop-read-init
loop-read-init c =
    record {
      shorter = c.in_ok-start.ensures.shorter;
      fuel = 7;
      left = ap (λ xs. 7 + length xs) c.new-all.ensures.items;
      same =
          ap (λ xs. with_front said_shape xs (from_one word.Claim (claim_at c.args.text.now) 7 (state_of c.in_ok-start.start))) c.new-all.ensures.items
          ∙ with_front-none said_shape _
          ∙ some-from _ _ _ _ _ c.in_ok-start.ensures.ok;
    }

pub returns-in-Err-clause-err : goal.returns-in-Err-clause-err
returns-in-Err-clause-err c =
    λ m. sym c.loop-read.invariant.same
    ∙ ap (with_front said_shape c.loop-read.all.items) (from_one-none word.Claim (claim_at c.args.text.now) c.loop-read.invariant.fuel (state_of c.loop-read.start) _ (c.in-Err.ensures.err m))

pub returns-then-len-ge-MOST_CLAIMS-clause-err : goal.returns-then-len-ge-MOST_CLAIMS-clause-err
returns-then-len-ge-MOST_CLAIMS-clause-err c =
    let o = c.loop-read.all.ok in
    let longer = c.in-Ok-push.ensures.len in
    let pushed = ap length c.in-Ok-push.ensures.items ∙ length-push _ _ in
    λ _. sym c.loop-read.invariant.same
    ∙ ap (with_front said_shape c.loop-read.all.items) (from_one-full word.Claim (claim_at c.args.text.now) c.loop-read.invariant.fuel (state_of c.loop-read.start) _ (state_of c.in-Ok.read.1) _ c.in-Ok.ensures.ok (omega (arith, pushed, c.loop-read.invariant.left)) c.in-Ok-skip_word.ensures.ok)
    ∙ ap (λ p. Err (fault.Many p)) (sym c.place.ensures)

pub loop-read-preserved : goal.loop-read-preserved
loop-read-preserved c =
    let o = c.loop-read.all.ok in
    let longer = c.in-Ok-push.ensures.len in
    let read = c.in-Ok.ensures.shorter in
    let cut = c.in-Ok-skip_word.ensures.shorter in
    let pushed = ap length c.in-Ok-push.ensures.items ∙ length-push _ _ in
    record {
      shorter = omega (arith, cut, read, c.loop-read.invariant.shorter);
      fuel = c.loop-read.invariant.fuel - 1;
      left = rw c.in-Ok-push.ensures.items (left-push _ _ _ _ (omega (arith, pushed, c.loop-read.invariant.left)) c.loop-read.invariant.left);
      same =
          rw c.in-Ok-push.ensures.items
          (with_front-push said_shape c.loop-read.all.items c.in-Ok.read.0 _
          ∙ ap (with_front said_shape c.loop-read.all.items) (from_one-more word.Claim (claim_at c.args.text.now) c.loop-read.invariant.fuel (state_of c.loop-read.start) _ (state_of c.in-Ok.read.1) _ c.in-Ok.ensures.ok (omega (arith, pushed, c.loop-read.invariant.left)) c.in-Ok-skip_word.ensures.ok)
          ∙ c.loop-read.invariant.same);
    }

pub returns-in_default-skip_word-clause-ok : goal.returns-in_default-skip_word-clause-ok
returns-in_default-skip_word-clause-ok c =
    rw (c.into_bump_slice.ensures, c.in-Ok-push.ensures.items)
    (sym c.loop-read.invariant.same
    ∙ ap (with_front said_shape c.loop-read.all.items) (from_one-end word.Claim (claim_at c.args.text.now) c.loop-read.invariant.fuel (state_of c.loop-read.start) _ (state_of c.in-Ok.read.1) _ c.in-Ok.ensures.ok c.in_default-skip_word.ensures.err)
    ∙ ap (λ b. Ok (b, state_of c.in-Ok.read.1)) (front-last said_shape c.loop-read.all.items c.in-Ok.read.0))
