-- What stands between tokens ends where a token begins, and nowhere else.
use Rattle.std.proofs.Common.{◌≡◌, ℕ, zero, suc, ◌+◌, ◌-◌, ◌<◌, ◌≤◌, ◌&&◌, ◌==◌, ⊎_elim, Bool, true, false, not, cond, [], ◌∷◌, take, drop, length, get_or, ap, sym, ◌∙◌, subst, arith, length-drop}
use Rattle.std.specs.List.{slice_range}
use Rattle.std.proofs.lemmas.Bool.{and_parts, and_from, both_ways, cases_lt, cond-false, false≢true}
use Rattle.std.proofs.lemmas.List.{drop-drop, drop_all, take_all}
use Rattle.rely_num.specs.Texts.{Bytes}
use Rattle.rely_lexer.specs.Tokens.{is_blank, begins_comment}
use Rattle.rely_lexer.specs.Readings.{is_gap}
use Rattle.rely_lexer.proofs.LongestLaws.{first-same}

-- something that is neither a blank nor a comment is first
abbrev pub Begins : Bytes → Type 0
Begins [] = ⊥
Begins (byte ∷ bytes) = (is_blank byte ≡ false) × (begins_comment (byte ∷ bytes) ≡ false)

-- two slashes in a front of a text are two in the text
front-slashes : (byte : ℕ) (bytes : Bytes) (n : ℕ) → begins_comment (byte ∷ take n bytes) ≡ true → begins_comment (byte ∷ bytes) ≡ true
front-slashes byte bytes zero comment = absurd (false≢true (and_parts (byte == 47) false comment).1)
front-slashes byte bytes (suc n) comment =
    let parts = and_parts (byte == 47) (get_or (take (suc n) bytes) 0 0 == 47) comment in
    and_from (byte == 47) (get_or bytes 0 0 == 47) parts.0 (ap (λ b. b == 47) (sym (first-same bytes n)) ∙ parts.1)

-- a blank, or slashes and what is behind them, in two fronts of a text
both : (blank c d : Bool) (a a' b b' : Bool) (P : Type 0) → cond blank a (c && b) ≡ true → cond blank a' (d && b') ≡ true → (a ≡ true → a' ≡ true → P) → (b ≡ true → b' ≡ true → P) → P
both true c d a a' b b' P first second blanks comments = blanks first second
both false c d a a' b b' P first second blanks comments = comments (and_parts c b first).1 (and_parts d b' second).1

-- no gap reaches beyond the place where one ends and something begins
gap-end : (ends inside : Bool) (rest : Bytes) (m n : ℕ) → is_gap false inside (take m rest) ≡ true → Begins (drop m rest) → is_gap ends inside (take n rest) ≡ true → n ≤ m
gap-end ends inside [] zero n gap begins other = absurd begins
gap-end ends inside [] (suc m) n gap begins other = absurd begins
gap-end ends inside (byte ∷ bytes) m zero gap begins other = omega arith
gap-end ends true (byte ∷ bytes) zero (suc n) gap begins other = absurd (false≢true gap)
gap-end ends false (byte ∷ bytes) zero (suc n) gap begins other =
    let slashes : (begins_comment (byte ∷ take n bytes) && is_gap ends true (take n bytes)) ≡ true = sym (cond-false (is_blank byte) (is_gap ends false (take n bytes)) _ begins.0) ∙ other in
    absurd (both_ways (begins_comment (byte ∷ bytes)) begins.1 (front-slashes byte bytes n (and_parts (begins_comment (byte ∷ take n bytes)) (is_gap ends true (take n bytes)) slashes).0))
gap-end ends true (byte ∷ bytes) (suc m) (suc n) gap begins other =
    omega (arith, gap-end ends (not (byte == 10)) bytes m n gap begins other)
gap-end ends false (byte ∷ bytes) (suc m) (suc n) gap begins other =
    let more : n ≤ m =
    both (is_blank byte) (begins_comment (byte ∷ take m bytes)) (begins_comment (byte ∷ take n bytes)) (is_gap false false (take m bytes)) (is_gap ends false (take n bytes)) (is_gap false true (take m bytes))
    (is_gap ends true (take n bytes)) (n ≤ m) gap other (λ a b. gap-end ends false bytes m n a begins b) (λ a b. gap-end ends true bytes m n a begins b) in
    omega arith

-- where something begins, the text isn't at its end
pub Begins-inside : (text : Bytes) (place : ℕ) → Begins (drop place text) → place < length text
Begins-inside text place begins = ⊎_elim (λ inside. inside) (λ past. absurd (subst Begins (drop_all place text past) begins)) (cases_lt place (length text))

-- the same from a place on
begins-behind : (text : Bytes) (place at : ℕ) → place ≤ at → Begins (drop at text) → Begins (drop (at - place) (drop place text))
begins-behind text place at after begins =
    let e : at ≡ place + (at - place) = omega arith in
    subst Begins (sym (drop-drop (at - place) place text)) (subst (λ (n : ℕ). Begins (drop n text)) e begins)

-- of two gaps from a place on, none reaches beyond the end of the other where something begins
pub gap-places : (text : Bytes) (place at other : ℕ) → place ≤ at → is_gap false false (slice_range text place at) ≡ true → Begins (drop at text) → is_gap false false (slice_range text place other) ≡ true →
    other ≤ at
gap-places text place at other after gap begins more =
    let few = gap-end false false (drop place text) (at - place) (other - place) gap (begins-behind text place at after begins) more in
    omega (arith, few)

-- nothing begins where the text is a gap up to its end
pub gap-whole : (text : Bytes) (place at : ℕ) → place ≤ at → is_gap false false (slice_range text place at) ≡ true → Begins (drop at text) → is_gap true false (drop place text) ≡ true → ⊥
gap-whole text place at after gap begins whole =
    let rest = drop place text in
    let all = subst (λ (r : Bytes). is_gap true false r ≡ true) (sym (take_all (length rest) rest (omega arith))) whole in
    let few = gap-end true false rest (at - place) (length rest) gap (begins-behind text place at after begins) all in
    absurd (omega (arith, few, length-drop place text, Begins-inside text at begins))
