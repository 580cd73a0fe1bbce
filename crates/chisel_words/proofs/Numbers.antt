-- A number that a word writes, against what parsing the word gives.
use Rattle.std.proofs.Common.{◌≡◌, ℕ, ◌<◌, ◌≤◌, ◌^◌, ◌&&◌, Bool, true, false, Some, None, Result, Ok, refl, sym, ap, ◌∙◌, arith}
use Rattle.std.specs.Prelude.{decimal, nat_le, if◌then◌else◌}
use Rattle.std.specs.Str.Parse.{ParsesUnsigned, digits_value}
use Rattle.std.proofs.lemmas.Bool.{leb-true, le-leb}
use Rattle.std.proofs.lemmas.Fmt.{decimal_is_IsNumeral, parse-decimal}
use Rattle.std.proofs.lemmas.Slice.Eq.{bytes_eq-Decides}
use Rattle.rely_num.specs.Texts.{Bytes, same_text}
use Rattle.chisel_words.specs.Numbers.{number_up_to}

-- it is the one whose text is the word
pub number_is : (last : ℕ) (text : Bytes) (n : ℕ) → n < 2 ^ 64 → n ≤ last → text ≡ decimal n → number_up_to last text ≡ Some n
number_is last text n fits below is =
    let value : digits_value 10 text ≡ n = ap (digits_value 10) is ∙ (decimal_is_IsNumeral n fits).1 in
    let low : nat_le (digits_value 10 text) last ≡ true = le-leb _ _ (omega (arith, value, below)) in
    let same : same_text text (decimal (digits_value 10 text)) ≡ true = (bytes_eq-Decides text (decimal (digits_value 10 text))).1 (is ∙ ap decimal (sym value)) in
    by_tests (nat_le (digits_value 10 text) last) (same_text text (decimal (digits_value 10 text))) low same ∙ ap Some value
  where
    by_tests : (a b : Bool) → a ≡ true → b ≡ true → (if a && b then Some (digits_value 10 text) else None) ≡ Some (digits_value 10 text)
    by_tests true true p q = refl
    by_tests true false p q = absurd (cc)
    by_tests false b p q = absurd (cc)

-- and there is none where no such number is read
pub no_number : {E : Type 0} (last : ℕ) (text : Bytes) (r : Result ℕ E) → last < 2 ^ 64 → ParsesUnsigned 64 10 text r
    → ((n : ℕ) → r ≡ Ok n → n ≤ last → text ≡ decimal n → ⊥) → number_up_to last text ≡ None
no_number last text r fits parses none = by_tests (nat_le (digits_value 10 text) last) refl (same_text text (decimal (digits_value 10 text))) refl
  where
    by_tests : (a : Bool) → nat_le (digits_value 10 text) last ≡ a → (b : Bool) → same_text text (decimal (digits_value 10 text)) ≡ b
        → (if a && b then Some (digits_value 10 text) else None) ≡ None
    by_tests false p b q = refl
    by_tests true p false q = refl
    by_tests true p true q =
        let below : digits_value 10 text ≤ last = leb-true _ _ p in
        let is : text ≡ decimal (digits_value 10 text) = (bytes_eq-Decides text (decimal (digits_value 10 text))).0 q in
        let small : digits_value 10 text < 2 ^ 64 = omega (arith, below, fits) in
        absurd (none (digits_value 10 text) (parse-decimal 64 (digits_value 10 text) text r small small is parses) below is)
