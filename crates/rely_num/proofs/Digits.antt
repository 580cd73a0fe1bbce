-- Digits written and read.
use Rattle.std.proofs.Common.{◌≡◌, ◌≢◌, ℕ, zero, suc, ◌+◌, ◌-◌, ◌*◌, ◌/◌, ◌%◌, ◌^◌, ◌<◌, ◌≤◌, Bool, true, false, eqb, [], ◌∷◌, length, take, drop, get_or, set, ltb, append-nil, Some, None, Ok, if◌then◌else◌, refl, ap, sym, ◌∙◌, arith, length-append, div-add-mod', mod-lt, drop-cons, add-one}
use Rattle.std.specs.List.{list_all, AllPass}
use Rattle.std.proofs.lemmas.List.{take_all, drop_all, length-take-le}
use Rattle.std.proofs.lemmas.List.Sums.{fold-append, fold_more}
use Rattle.std.proofs.lemmas.List.Folds.{list_all-append}
use Rattle.std.proofs.lemmas.List.Elements.{All-cons, All-nil}
use Rattle.std.proofs.lemmas.Bool.{leb-true, le-leb, le-ltb, and_from, and_parts, ne_eqb}
use Rattle.std.proofs.lemmas.Nat.{div_below, pow-add}
use borrow.Rule.Slice.PartMut.{put_mid, mid_of}
use native.Mathlib.Nat.{pow-zero, pow-suc, pow-le-pow_right, one-le-pow, mul-le-mul_right}
use Rattle.rely_num.specs.Bounds.{S}
use Rattle.rely_num.specs.Texts.{Bytes, is_digit}
use Rattle.rely_num.specs.AttoTexts.{digits, atto_text, fits_at, leaves_at, number_of, attos_of, within_one, formed, atto_of}

-- ---- the form

-- one place further in a text that keeps the form so far
pub leaves_next : (bytes : Bytes) (place : ℕ) (d : ℕ) → place < length bytes → fits_at place (get_or bytes place d) ≡ true → leaves_at place (drop place bytes) ≡ leaves_at (place + 1) (drop (place + 1) bytes)
leaves_next bytes place d h fits = rw (add-one, drop-cons bytes place d) (rw fits refl)

-- the place where it does not
pub leaves_here : (bytes : Bytes) (place : ℕ) (d : ℕ) → place < length bytes → fits_at place (get_or bytes place d) ≡ false → leaves_at place (drop place bytes) ≡ Some place
leaves_here bytes place d h unfit = rw (drop-cons bytes place d) (rw unfit refl)

-- what a decimal at a place after the point is
digit_at : (place byte : ℕ) → place ≢ 1 → fits_at place byte ≡ is_digit byte
digit_at place byte other = rw (ne_eqb place 1 other) refl

-- a text that keeps the form from a place after the point on has digits there
pub decimals_pass : (place : ℕ) (bytes : Bytes) → 2 ≤ place → leaves_at place bytes ≡ None → AllPass is_digit bytes
decimals_pass place [] h e = All-nil (λ byte. is_digit byte ≡ true)
decimals_pass place (byte ∷ bytes) h e = go (fits_at place byte) refl e (λ e. decimals_pass (suc place) bytes (omega arith) e)
  where
    go : (b : Bool) → fits_at place byte ≡ b → (if b then leaves_at (suc place) bytes else Some place) ≡ None
        → (leaves_at (suc place) bytes ≡ None → AllPass is_digit bytes) → AllPass is_digit (byte ∷ bytes)
    go true fits e rest = All-cons (λ byte. is_digit byte ≡ true) byte bytes (sym (digit_at place byte (omega arith)) ∙ fits) (rest e)
    go false fits e rest = cc

-- digits after the point keep the form
pub decimals_stay : (place : ℕ) (bytes : Bytes) → 2 ≤ place → 2 < place + length bytes → list_all is_digit bytes ≡ true → leaves_at place bytes ≡ None
decimals_stay place [] h more all = rw (ne_eqb place 0 (omega arith), ne_eqb place 2 (omega arith)) refl
decimals_stay place (byte ∷ bytes) h more all =
    let parts : (is_digit byte ≡ true) × (list_all is_digit bytes ≡ true) = and_parts (is_digit byte) (list_all is_digit bytes) all in
    let fits : fits_at place byte ≡ true = digit_at place byte (omega arith) ∙ parts.0 in
    rw fits (decimals_stay (suc place) bytes (omega arith) (omega arith) parts.1)

-- ---- digits of a number

pub digits_length : (k n : ℕ) → length (digits k n) ≡ k
digits_length zero n = refl
digits_length (suc k) n = length-append (digits k (n / 10)) ((48 + n % 10) ∷ []) ∙ (omega (arith, digits_length k (n / 10)))

-- a byte of a digit is a digit
digit_passes : (d : ℕ) → d < 10 → is_digit (48 + d) ≡ true
digit_passes d h = and_from _ _ (le-leb 48 (48 + d) (omega arith)) (le-leb (48 + d) 57 (omega arith))

pub digits_pass : (k n : ℕ) → list_all is_digit (digits k n) ≡ true
digits_pass zero n = refl
digits_pass (suc k) n =
    list_all-append is_digit (digits k (n / 10)) ((48 + n % 10) ∷ []) ∙
    and_from _ _ (digits_pass k (n / 10)) (and_from _ _ (digit_passes (n % 10) (mod-lt n (omega arith))) refl)

-- the number of the digits of a number
pub number_of_digits : (k n : ℕ) → n < 10 ^ k → number_of (digits k n) ≡ n
number_of_digits zero n h = let none : n < 1 = rw (pow-zero 10) at h in omega arith
number_of_digits (suc k) n h =
    let below : n < 10 ^ k * 10 = rw (pow-suc 10 k) at h in
    let front : number_of (digits k (n / 10)) ≡ n / 10 = number_of_digits k (n / 10) (div_below n 10 (10 ^ k) (omega arith) below) in
    fold-append (λ n byte. 10 * n + (byte - 48)) 0 (digits k (n / 10)) ((48 + n % 10) ∷ []) ∙ (omega (arith, front, div-add-mod' n 10))

-- one digit more read
pub number_more : (bytes : Bytes) (i : ℕ) (d : ℕ) → i < length bytes → number_of (take (i + 1) bytes) ≡ 10 * number_of (take i bytes) + (get_or bytes i d - 48)
number_more bytes i d h = fold_more (λ n byte. 10 * n + (byte - 48)) 0 bytes i d h

-- a digit's byte
pub digit_bounds : (byte : ℕ) → is_digit byte ≡ true → (48 ≤ byte) × (byte ≤ 57)
digit_bounds byte e = let parts = and_parts _ _ e in (leb-true 48 byte parts.0, leb-true byte 57 parts.1)

-- a digit more stays below the next power
pub below_more : (n i digit : ℕ) → n < 10 ^ i → digit < 10 → 10 * n + digit < 10 ^ (i + 1)
below_more n i digit h k = rw (add-one, pow-suc 10 i) (omega arith)

-- what is below a power of ten leaves room for a digit more
pub fits_more : (n i : ℕ) → n < 10 ^ i → i < 18 → 10 * n + 10 ≤ 10 ^ 18
fits_more n i h k = let top : 10 ^ i ≤ 10 ^ 17 = pow-le-pow_right {n = 10} (omega arith) {i = i} {j = 17} (omega arith) in omega arith

-- decimals are below one
pub scaled : (n i : ℕ) → n < 10 ^ i → i ≤ 18 → n * 10 ^ (18 - i) < S
scaled n i h k =
    let sum : i + (18 - i) ≡ 18 = omega arith in
    let whole : 10 ^ i * 10 ^ (18 - i) ≡ S = sym (pow-add 10 i (18 - i)) ∙ ap (λ j. 10 ^ j) sum in
    let some : 1 ≤ 10 ^ (18 - i) = one-le-pow (18 - i) 10 (omega arith) in
    let above : suc n * 10 ^ (18 - i) ≤ 10 ^ i * 10 ^ (18 - i) = mul-le-mul_right (10 ^ (18 - i)) h in
    omega arith

-- a text that has the form begins with a digit
pub head_passes : (text : Bytes) → leaves_at 0 text ≡ None → AllPass is_digit (take 1 text)
head_passes [] e = cc
head_passes (byte ∷ bytes) e = go (is_digit byte) refl e
  where
    go : (b : Bool) → is_digit byte ≡ b → (if b then leaves_at 1 bytes else Some 0) ≡ None → AllPass is_digit (byte ∷ [])
    go true fits e = All-cons (λ byte. is_digit byte ≡ true) byte [] fits (All-nil (λ byte. is_digit byte ≡ true))
    go false fits e = cc

-- and has digits after its point
pub tail_passes : (text : Bytes) → leaves_at 0 text ≡ None → AllPass is_digit (drop 2 text)
tail_passes [] e = cc
tail_passes (byte ∷ []) e = All-nil (λ byte. is_digit byte ≡ true)
tail_passes (byte ∷ point ∷ bytes) e = go (is_digit byte) (eqb point 46) e
  where
    go : (b c : Bool) → (if b then (if c then leaves_at 2 bytes else Some 1) else Some 0) ≡ None → AllPass is_digit bytes
    go true true e = decimals_pass 2 bytes (omega arith) e
    go true false e = cc
    go false c e = cc

-- a short text that keeps the form is read as its attos
pub formed_short : (text : Bytes) → length text ≤ 20 → leaves_at 0 (take 20 text) ≡ None → formed text (leaves_at 0 (take 20 text)) ≡ within_one (attos_of text)
formed_short text h e = rw (e, le-ltb 20 (length text) h) refl

-- ---- what is written is read back

-- a digit, the point and eighteen digits
read_back : (q : ℕ) (ds : Bytes) → q < 10 → length ds ≡ 18 → list_all is_digit ds ≡ true → atto_of ((48 + q) ∷ 46 ∷ ds) ≡ within_one (q * S + number_of ds)
read_back q ds h long all =
    let plus : eqb (48 + q) 43 ≡ false = ne_eqb (48 + q) 43 (omega arith) in
    let minus : eqb (48 + q) 45 ≡ false = ne_eqb (48 + q) 45 (omega arith) in
    let cut : take 18 ds ≡ ds = take_all 18 ds (omega arith) in
    let form : leaves_at 2 ds ≡ None = decimals_stay 2 ds (omega arith) (omega arith) all in
    let short : ltb 20 (suc (suc (length ds))) ≡ false = le-ltb 20 (suc (suc (length ds))) (omega arith) in
    let whole : (10 * 0 + (48 + q - 48)) * S + number_of ds * 10 ^ (18 - length ds) ≡ q * S + number_of ds =
    rw long (omega arith) in
    rw (plus, minus, cut, digit_passes q h, form, short) (ap within_one whole)

-- the law of reading and printing
pub atto_of_text : (n : ℕ) → n ≤ S → atto_of (atto_text n) ≡ Ok n
atto_of_text n h =
    let below : n / S < 10 = omega arith in
    let rest : n % S < 10 ^ 18 = mod-lt n (omega arith) in
    let whole : n / S * S + number_of (digits 18 (n % S)) ≡ n = omega (arith, number_of_digits 18 (n % S) rest) in
    read_back (n / S) (digits 18 (n % S)) below (digits_length 18 (n % S)) (digits_pass 18 (n % S)) ∙
    (ap within_one whole ∙ rw (le-ltb S n h) refl)

-- the bytes in their places
pub placed : (out ds : Bytes) (a b : ℕ) → length out ≡ 20 → put_mid 2 18 (set (set out 0 a) 1 b) ds ≡ a ∷ b ∷ ds
placed [] ds a b h = absurd (omega (arith, h))
placed (x ∷ []) ds a b h = absurd (omega (arith, h))
placed (x ∷ y ∷ rest) ds a b h =
    let none : drop 18 rest ≡ [] = drop_all 18 rest (omega (arith, h)) in
    rw none (ap (λ xs. a ∷ b ∷ xs) (append-nil ds))

-- the room that is left for the decimals
pub room : (out : Bytes) (a b : ℕ) → length out ≡ 20 → length (mid_of 2 18 (set (set out 0 a) 1 b)) ≡ 18
room [] a b h = absurd (omega (arith, h))
room (x ∷ []) a b h = absurd (omega (arith, h))
room (x ∷ y ∷ rest) a b h = length-take-le 18 rest (omega (arith, h))

-- what is written is the text
pub written : (n q r : ℕ) (out ds : Bytes) → length out ≡ 20 → q ≡ n / S → r ≡ n % S → ds ≡ digits (length (mid_of 2 18 (set (set out 0 (48 + q)) 1 46))) r
    → put_mid 2 18 (set (set out 0 (48 + q)) 1 46) ds ≡ atto_text n
written n q r out ds long whole rest is =
    let all : ds ≡ digits 18 (n % S) = is ∙ (ap (λ k. digits k r) (room out (48 + q) 46 long) ∙ ap (digits 18) rest) in
    placed out ds (48 + q) 46 long ∙ (ap (λ d. (48 + d) ∷ 46 ∷ ds) whole ∙ ap (λ xs. (48 + n / S) ∷ 46 ∷ xs) all)
