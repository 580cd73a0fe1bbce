use Rattle.std.proofs.Common.{◌≡◌, ◌∙◌, sym, arith}
use Rattle.std.proofs.lemmas.Slice.Eq.{bytes_eq-Decides}
use Rattle.chisel_words.proofs.Numbers.{no_number, number_is}
use Rattle.chisel_words.proofs.number.number.Goals as goal
use Rattle.chisel_words.proofs.number.number.Goals.{else-number-last-via-then-number-last+else-eq, else-number-last-via-else-number-last}

pub returns-in_default : goal.returns-in_default
returns-in_default c = sym (no_number c.args.last c.args.word.now c.parse.result (omega arith) c.parse.ensures.value.0 (λ n is below text. cc))

pub returns-then-eq : goal.returns-then-eq
returns-then-eq c =
    let same : c.format.result.now ≡ c.args.word.now = (bytes_eq-Decides c.format.result.now c.args.word.now).0 (sym c.eq.ensures ∙ c.if-eq.true) in
    sym (number_is c.args.last c.args.word.now c.in-Ok.number (omega arith) c.if-number-last.true (sym same ∙ c.format.ensures.text))

pub returns-else-number-last : goal.returns-else-number-last
returns-else-number-last c = elim c.else-number-last.branch [
  | else-number-last-via-then-number-last+else-eq w ↦
      sym (no_number c.args.last c.args.word.now c.parse.result (omega arith) c.parse.ensures.value.0 (λ n is below text.
      let same : n ≡ c.in-Ok.number = cc in
      let written : w.format.result.now ≡ c.args.word.now = cc in
      let found = (bytes_eq-Decides w.format.result.now c.args.word.now).1 written in cc))
  | else-number-last-via-else-number-last w ↦
      sym (no_number c.args.last c.args.word.now c.parse.result (omega arith) c.parse.ensures.value.0 (λ n is below text.
      let same : n ≡ c.in-Ok.number = cc in omega (arith, same, below, w.if-number-last.false)))
]
