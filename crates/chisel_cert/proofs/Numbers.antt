-- Numbers and the digits that write them, up to 64 digits.
use Rattle.std.proofs.Common.{◌≡◌, ℕ, suc, ◌+◌, ◌-◌, ◌*◌, ◌/◌, ◌%◌, ◌^◌, ◌<◌, ◌≤◌, Bool, true, false, not, ◌&&◌, ◌||◌, ◌==◌, [], ◌∷◌, ◌++◌, length, take, get_or, Option, Some, None, refl, sym, ap, ◌∙◌, arith, append_assoc, append-nil, length-append}
use Rattle.std.specs.Prelude.{decimal, nat_le, if◌then◌else◌}
use Rattle.std.specs.Char.{digit_value}
use Rattle.std.specs.List.{prefix_len}
use Rattle.std.specs.Str.Parse.{AllDigits, digits_value, digits_value_after}
use Rattle.std.proofs.lemmas.Bool.{leb-true, le-leb, eqb-true, eq-eqb, and_parts, and_from, cond_both}
use Rattle.std.proofs.lemmas.Int.Digits.{digits_value_more}
use Rattle.std.proofs.lemmas.List.{get_or_append_left}
use Rattle.std.proofs.lemmas.Fmt.{decimal_digit, decimal_step_wide, decimal_by_steps_wide, decimal_is_IsNumeral_wide}
use Rattle.std.proofs.lemmas.Slice.Eq.{bytes_eq-Decides}
use Rattle.std.proofs.lemmas.Str.{digit_value_digit}
use Rattle.std.proofs.lemmas.Str.Parse.{digit_from_value, digit_at}
use Rattle.rely_num.specs.Texts.{Bytes, is_digit, same_text}
use Rattle.chisel_cert.specs.State.{is_plain, number_between}

-- ---- digits as the decimal of their value

value_grows : (n : ℕ) (ds : Bytes) → n ≤ digits_value_after 10 n ds
value_grows n [] = omega arith
value_grows n (d ∷ ds) = omega (arith, value_grows (n * 10 + digit_value d) ds)

decimal_after : (n : ℕ) (ds : Bytes) → 0 < n → AllDigits 10 ds → digits_value_after 10 n ds < 10 ^ 64 → decimal (digits_value_after 10 n ds) ≡ decimal n ++ ds
decimal_after n [] some digits small = sym (append-nil (decimal n))
decimal_after n (d ∷ ds) some digits small =
    let m : ℕ = n * 10 + digit_value d in
    let value = digit_value_digit d (digit_from_value d digits.0) in
    let front : m / 10 ≡ n = omega (arith, digits.0) in
    let end : 48 + m % 10 ≡ d = omega (arith, digits.0) in
    decimal_after m ds (omega arith) digits.1 small
    ∙ ap (λ x. x ++ ds) (decimal_step_wide m (omega arith) (omega (arith, value_grows m ds)) ∙ (λ i. decimal (front i) ++ (end i ∷ [])))
    ∙ append_assoc (decimal n) (d ∷ []) ds

-- digits with no zero before others are the decimal of their value
decimal_of_value : (ds : Bytes) → AllDigits 10 ds → 0 < length ds → (get_or ds 0 0 ≡ 48 → length ds ≡ 1) → digits_value 10 ds < 10 ^ 64 → decimal (digits_value 10 ds) ≡ ds
decimal_of_value [] digits some lead small = absurd (omega arith)
decimal_of_value (d ∷ []) digits some lead small =
    let value = digit_value_digit d (digit_from_value d digits.0) in
    decimal_digit (0 * 10 + digit_value d) (omega (arith, digits.0)) ∙ ap (λ x. x ∷ []) (omega arith)
decimal_of_value (d ∷ e ∷ ds) digits some lead small =
    let value = digit_value_digit d (digit_from_value d digits.0) in
    let no : d ≡ 48 → ⊥ = λ z. omega (arith, lead z) in
    let is : 48 + (0 * 10 + digit_value d) ≡ d = omega arith in
    decimal_after (0 * 10 + digit_value d) (e ∷ ds) (omega arith) digits.1 small
    ∙ ap (λ x. x ++ (e ∷ ds)) (decimal_digit (0 * 10 + digit_value d) (omega (arith, digits.0)) ∙ ap (λ x. x ∷ []) is)

-- a decimal has a digit, and begins with a zero only where it is the zero
decimal_first : (n : ℕ) → n < 10 ^ 64 → (0 < length (decimal n)) × (get_or (decimal n) 0 0 ≡ 48 → n ≡ 0)
decimal_first = decimal_by_steps_wide (λ n ds. (0 < length ds) × (get_or ds 0 0 ≡ 48 → n ≡ 0))
    (λ n small. (omega arith, λ z. omega arith))
    (λ n ds large h. (
      omega (arith, length-append ds ((48 + n % 10) ∷ [])),
      λ z. let none : n / 10 ≡ 0 = h.1 (sym (first ds (48 + n % 10) h.0) ∙ z) in absurd (omega arith),
    ))
  where
    first : (ds : Bytes) (d : ℕ) → 0 < length ds → get_or (ds ++ (d ∷ [])) 0 0 ≡ get_or ds 0 0
    first [] d some = absurd (omega arith)
    first (e ∷ ds) d some = refl

-- ---- a number within limits

between_is : (first last n : ℕ) (ds : Bytes) → digits_value 10 ds ≡ n → first ≤ n → n ≤ last → ds ≡ decimal n → number_between first last ds ≡ Some n
between_is first last n ds value low high is =
    let v = digits_value 10 ds in
    go (nat_le first v) (nat_le v last) (same_text ds (decimal v)) (le-leb _ _ (omega arith)) (le-leb _ _ (omega arith)) ((bytes_eq-Decides ds (decimal v)).1 (is ∙ ap decimal (sym value))) ∙ ap Some value
  where
    go : (a b c : Bool) → a ≡ true → b ≡ true → c ≡ true → (if (a && b) && c then Some (digits_value 10 ds) else None) ≡ Some (digits_value 10 ds)
    go true true true p q r = refl
    go true true false p q r = absurd (cc)
    go true false c p q r = absurd (cc)
    go false b c p q r = absurd (cc)

-- what a number within limits is
pub between_says : (first last : ℕ) (ds : Bytes) (n : ℕ) → number_between first last ds ≡ Some n → (digits_value 10 ds ≡ n) × (first ≤ n) × (n ≤ last) × (ds ≡ decimal n)
between_says first last ds n h =
    let v = digits_value 10 ds in
    go (nat_le first v) refl (nat_le v last) refl (same_text ds (decimal v)) refl h
  where
    go : (a : Bool) → nat_le first (digits_value 10 ds) ≡ a → (b : Bool) → nat_le (digits_value 10 ds) last ≡ b → (c : Bool) → same_text ds (decimal (digits_value 10 ds)) ≡ c →
        (if (a && b) && c then Some (digits_value 10 ds) else None) ≡ Some n → (digits_value 10 ds ≡ n) × (first ≤ n) × (n ≤ last) × (ds ≡ decimal n)
    go true p true q true r e =
        let is : digits_value 10 ds ≡ n = cc in
        (is, rw is at (leb-true _ _ p), rw is at (leb-true _ _ q), (bytes_eq-Decides ds (decimal (digits_value 10 ds))).0 r ∙ ap decimal is)
    go true p true q false r e = absurd (cc)
    go true p false q c r e = absurd (cc)
    go false p b q c r e = absurd (cc)

-- there is none where the facts of one are false
no_number : (first last : ℕ) (ds : Bytes) → ((n : ℕ) → n ≡ digits_value 10 ds → first ≤ n → n ≤ last → ds ≡ decimal n → ⊥) → number_between first last ds ≡ None
no_number first last ds none = go (number_between first last ds) refl
  where
    go : (o : Option ℕ) → number_between first last ds ≡ o → o ≡ None
    go None e = refl
    go (Some n) e =
        let says = between_says first last ds n e in
        absurd (none n (sym says.0) says.1 says.2 says.3)

-- digits with no zero before others write their value
digits_between : (first last : ℕ) (ds : Bytes) → AllDigits 10 ds → last < 10 ^ 64 → 0 < length ds → (get_or ds 0 0 ≡ 48 → length ds ≡ 1) →
    first ≤ digits_value 10 ds → digits_value 10 ds ≤ last → number_between first last ds ≡ Some (digits_value 10 ds)
digits_between first last ds digits fits some lead low high =
    between_is first last (digits_value 10 ds) ds refl low high (sym (decimal_of_value ds digits some lead (omega arith)))

pub too_large : (first last : ℕ) (ds : Bytes) → last < digits_value 10 ds → number_between first last ds ≡ None
too_large first last ds large = no_number first last ds (λ n is low high text. omega arith)

pub too_small : (first last : ℕ) (ds : Bytes) → digits_value 10 ds < first → number_between first last ds ≡ None
too_small first last ds small = no_number first last ds (λ n is low high text. omega arith)

-- no digit, or a zero before another one
pub not_plain : (first last : ℕ) (ds : Bytes) → last < 10 ^ 64 → is_plain ds ≡ false → number_between first last ds ≡ None
not_plain first last [] fits none =
    no_number first last [] (λ n is low high text. let some = (decimal_first n (omega arith)).0 in omega (arith, some, ap length text))
not_plain first last (d ∷ ds) fits none =
    no_number first last (d ∷ ds) (λ n is low high text.
    go (d == 48) refl (length ds == 0) refl none (λ zero_ more.
    let zero_n : n ≡ 0 = (decimal_first n (omega arith)).1 (sym (ap (λ l. get_or l 0 0) text) ∙ zero_) in
    let one : length (decimal n) ≡ 1 = ap (λ k. length (decimal k)) zero_n ∙ ap length (decimal_digit 0 (omega arith)) in
    omega (arith, one, ap length text, more)))
  where
    go : (a : Bool) → (d == 48) ≡ a → (b : Bool) → (length ds == 0) ≡ b → (not a || b) ≡ false → (d ≡ 48 → (length ds ≡ 0 → ⊥) → ⊥) → ⊥
    go true p false q e k = k (eqb-true d 48 p) (λ z. absurd (let w = eq-eqb (length ds) 0 z in cc))
    go true p true q e k = absurd (cc)
    go false p b q e k = absurd (cc)

-- what else is plain
pub plain_between : (first last : ℕ) (ds : Bytes) → AllDigits 10 ds → last < 10 ^ 64 → is_plain ds ≡ true →
    first ≤ digits_value 10 ds → digits_value 10 ds ≤ last → number_between first last ds ≡ Some (digits_value 10 ds)
plain_between first last [] digits fits plain low high = absurd (cc)
plain_between first last (d ∷ ds) digits fits plain low high =
    digits_between first last (d ∷ ds) digits fits (omega arith) (λ zero_. lead (d == 48) (eq-eqb d 48 zero_) (length ds == 0) refl plain) low high
  where
    lead : (a : Bool) → a ≡ true → (b : Bool) → (length ds == 0) ≡ b → (not a || b) ≡ true → length (d ∷ ds) ≡ 1
    lead true p true q e = let none : length ds ≡ 0 = eqb-true _ _ q in omega arith
    lead true p false q e = absurd (cc)
    lead false p b q e = absurd (cc)

-- a decimal within limits is read again
pub decimal_between : (first last n : ℕ) → first ≤ n → n ≤ last → last < 10 ^ 64 → number_between first last (decimal n) ≡ Some n
decimal_between first last n low high fits = between_is first last n (decimal n) (decimal_is_IsNumeral_wide n (omega arith)).1 low high refl

-- ---- digits at the front of a text

digit_small : (byte : ℕ) → is_digit byte ≡ true → digit_value byte < 10
digit_small byte digit =
    let parts = and_parts (nat_le 48 byte) (nat_le byte 57) digit in
    let low : 48 ≤ byte = leb-true _ _ parts.0 in
    let high : byte ≤ 57 = leb-true _ _ parts.1 in
    let value = digit_value_digit byte (low, high) in
    omega arith

digit_passes : (byte : ℕ) → digit_value byte < 10 → is_digit byte ≡ true
digit_passes byte small =
    let range = digit_from_value byte small in
    and_from (nat_le 48 byte) (nat_le byte 57) (le-leb _ _ range.0) (le-leb _ _ range.1)

pub front_digits : (text : Bytes) → AllDigits 10 (take (prefix_len is_digit text) text)
front_digits [] = tt
front_digits (byte ∷ bytes) =
    let n = prefix_len is_digit bytes in
    cond_both (is_digit byte) (1 + n) 0 (λ k. AllDigits 10 (take k (byte ∷ bytes)))
    (λ digit. let next : 1 + n ≡ suc n = omega arith in rw next (digit_small byte digit, front_digits bytes))
    (λ _. tt)

-- all of the digits before a byte that is none
pub prefix_len-digits : (ds more : Bytes) → AllDigits 10 ds → is_digit (get_or more 0 0) ≡ false → prefix_len is_digit (ds ++ more) ≡ length ds
prefix_len-digits [] [] digits none = refl
prefix_len-digits [] (byte ∷ more) digits none = rw none refl
prefix_len-digits (d ∷ ds) more digits none =
    let here = digit_passes d digits.0 in
    rw here (omega (arith, prefix_len-digits ds more digits.1 none))

-- a decimal begins with a digit
pub decimal-digit : (n : ℕ) (more : Bytes) → n < 10 ^ 64 → (48 ≤ get_or (decimal n ++ more) 0 0) × (get_or (decimal n ++ more) 0 0 ≤ 57)
decimal-digit n more fits =
    let numeral = (decimal_is_IsNumeral_wide n fits).0 in
    let same : get_or (decimal n ++ more) 0 0 ≡ get_or (decimal n) 0 0 = get_or_append_left (decimal n) more 0 0 numeral.0 in
    let range = digit_at (decimal n) 0 numeral.1 numeral.0 in
    (omega (arith, same, range.0), omega (arith, same, range.1))

-- one digit more
pub value_more : (ds : Bytes) (i : ℕ) → AllDigits 10 ds → i < length ds →
    (48 ≤ get_or ds i 0) × (get_or ds i 0 ≤ 57) × (digits_value 10 (take (i + 1) ds) ≡ 10 * digits_value 10 (take i ds) + (get_or ds i 0 - 48))
value_more ds i digits less =
    let range = digit_at ds i digits less in
    let value = digit_value_digit (get_or ds i 0) range in
    (range.0, range.1, digits_value_more 10 ds i less ∙ (omega arith))
