use Rattle.std.proofs.Common.{append-nil, sym, ap, ◌∙◌, inr, arith, Ok}
use Rattle.std.proofs.lemmas.List.{take_rest}
use Rattle.rely_lexer.specs.Tokens.{piece_of}
use Rattle.rely_lexer.proofs.Behind.{with_front, with_front-push, behind-Gap, behind-Lexeme, behind-Wide, behind-Bad, behind-end}
use Rattle.rely_lexer.proofs.lex.tokens_in.Goals as goal

pub loop-at-preserved-in-Gap : goal.loop-at-preserved-in-Gap
loop-at-preserved-in-Gap c =
    let text = c.args.text.now in
    let front = c.loop-at.tokens.items in
    let step = behind-Gap text c.loop-at.at c.in-Gap.length c.loop-at-test.true (c.in-Gap.ensures.value ∙ ap piece_of (take_rest text c.loop-at.at)) c.in-Gap.ensures.within.0 in
    (omega (arith, c.in-Gap.ensures.within.1), sym (ap (with_front front) step) ∙ c.loop-at.invariant.1)

pub loop-at-preserved : goal.loop-at-preserved
loop-at-preserved c =
    let text = c.args.text.now in
    let front = c.loop-at.tokens.items in
    let step = behind-Lexeme text c.loop-at.at c.in-Lexeme.kind c.in-Lexeme.length c.loop-at-test.true (c.in-Lexeme.ensures.value ∙ ap piece_of (take_rest text c.loop-at.at)) c.in-Lexeme.ensures.within.0 in
    (omega (arith, c.in-Lexeme.ensures.within.1), rw (c.in_ok-push-in-Lexeme.ensures.items, c.token_at.ensures, with_front-push) (sym (ap (with_front front) step) ∙ c.loop-at.invariant.1))

pub returns-in-Wide-clause-err : goal.returns-in-Wide-clause-err
returns-in-Wide-clause-err c =
    inr (sym c.loop-at.invariant.1 ∙ ap (with_front c.loop-at.tokens.items) (behind-Wide c.args.text.now c.loop-at.at c.loop-at-test.true (c.in-Wide.ensures.value ∙ ap piece_of (take_rest c.args.text.now c.loop-at.at))))

pub returns-in-Bad-clause-err : goal.returns-in-Bad-clause-err
returns-in-Bad-clause-err c =
    inr (sym c.loop-at.invariant.1 ∙ ap (with_front c.loop-at.tokens.items) (behind-Bad c.args.text.now c.loop-at.at c.loop-at-test.true (c.in-Bad.ensures.value ∙ ap piece_of (take_rest c.args.text.now c.loop-at.at))))

pub returns-clause-ok : goal.returns-clause-ok
returns-clause-ok c =
    let front = c.loop-at.tokens.items in
    sym c.loop-at.invariant.1 ∙ ap (with_front front) (behind-end c.args.text.now c.loop-at.at (omega arith)) ∙ ap Ok (append-nil front)
