use Rattle.std.proofs.Common.{◌+◌, Some, ap, sym, ◌∙◌, arith}
use Rattle.std.specs.Str.Parse.{digits_value}
use Rattle.std.proofs.lemmas.List.{take_all}
use Rattle.std.proofs.lemmas.Str.Parse.{digits_value-take-le}
use Rattle.chisel_cert.proofs.Numbers.{value_more, not_plain, plain_between, too_large, too_small}
use Rattle.chisel_cert.proofs.rest.number_between.Goals as goal

pub overflow_sub-digit : goal.overflow_sub-digit
overflow_sub-digit c = (value_more c.args.digits.now c.loop-digit.digit-index c.requires.digits (omega arith)).0

pub returns-then-value-last : goal.returns-then-value-last
returns-then-value-last c =
    let more = value_more c.args.digits.now c.loop-digit.digit-index c.requires.digits (omega arith) in
    let part = digits_value-take-le 10 c.args.digits.now (c.loop-digit.digit-index + 1) (omega arith) in
    record {
      value = sym (too_large c.args.first c.args.last c.args.digits.now (omega (arith, more.2, part, c.from.ensures, c.loop-digit.invariant.value, c.if-value-last.true)));
      within = tt;
    }

pub loop-digit-preserved : goal.loop-digit-preserved
loop-digit-preserved c =
    let more = value_more c.args.digits.now c.loop-digit.digit-index c.requires.digits (omega arith) in
    record { value = omega (arith, more.2, c.from.ensures, c.loop-digit.invariant.value); high = c.if-value-last.false }

pub returns-then-not-is_plain : goal.returns-then-not-is_plain
returns-then-not-is_plain c =
    record { value = sym (not_plain c.args.first c.args.last c.args.digits.now (omega arith) (sym c.is_plain.ensures ∙ c.if-not-is_plain.true)); within = tt }

pub returns-then-value-first : goal.returns-then-value-first
returns-then-value-first c =
    let value = c.loop-digit.invariant.value ∙ ap (digits_value 10) (take_all c.loop-digit.digit-index c.args.digits.now (omega arith)) in
    record { value = sym (too_small c.args.first c.args.last c.args.digits.now (omega (arith, value, c.if-value-first.true))); within = tt }

pub returns : goal.returns
returns c =
    let value = c.loop-digit.invariant.value ∙ ap (digits_value 10) (take_all c.loop-digit.digit-index c.args.digits.now (omega arith)) in
    record {
      value = ap Some value ∙ sym (plain_between c.args.first c.args.last c.args.digits.now c.requires.digits (omega arith) (sym c.is_plain.ensures ∙ c.if-not-is_plain.false)
          (omega (arith, value)) (omega (arith, value, c.loop-digit.invariant.high)));
      within = (omega arith, c.loop-digit.invariant.high);
    }
