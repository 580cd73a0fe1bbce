-- What stands at the front of a text before a question mark stands there as well before what takes its place.
use Rattle.std.proofs.Common.{◌≡◌, ℕ, zero, suc, ◌+◌, ◌≤◌, ◌&&◌, ◌==◌, nat_lt, Bool, true, false, cond, [], ◌∷◌, ◌++◌, take, drop, length, get_or, Option, Some, None, refl, ap, sym, ◌∙◌, arith}
use Rattle.std.specs.Prelude.{option_map, unwrap_or}
use Rattle.std.specs.List.{prefix_len}
use Rattle.std.specs.Option.{IfSome, option_or}
use Rattle.std.proofs.lemmas.Bool.{cond_both, ltb-false}
use Rattle.rely_num.specs.Ops.{op_of, op_text}
use Rattle.rely_num.specs.Texts.{Bytes, is_digit, is_letter, is_name_byte}
use Rattle.rely_num.specs.declared.op.Op.{Op}
use Rattle.rely_num.specs.declared.op.Op.TheVariants as op
use Rattle.rely_num.proofs.Searches.{op_of_written}
use Rattle.rely_lexer.specs.Forms.{mark_kind, name_kind, sign_kind}
use Rattle.rely_lexer.specs.Tokens.{begins_comment, fraction_length, gap_length, is_blank, is_in_line, name_piece, number_piece, piece_of, sign_piece, signed, token_piece, whole_piece}
use Rattle.rely_lexer.specs.declared.piece.Piece.{Piece}
use Rattle.rely_lexer.specs.declared.piece.Piece.TheVariants.{Gap, Lexeme, Wide, Bad}
use Rattle.rely_lexer.specs.declared.token.TokenKind.TheVariants as kind

-- every token before the byte ends there, whatever it is
pub record Stops (byte : ℕ) (rest : Bytes) : Type 0 where
  pub name : is_name_byte byte ≡ false
  pub digit : is_digit byte ≡ false
  pub slash : (byte == 47) ≡ false
  pub line : is_in_line byte ≡ true
  pub fraction : (byte == 46 && is_digit (get_or rest 0 0)) ≡ false
  pub second : byte ≡ 61 → ⊥

pub mark_stops : (rest : Bytes) → Stops 63 rest
mark_stops rest = record { name = refl; digit = refl; slash = refl; line = refl; fraction = refl; second = λ e. absurd (omega (arith, e)) }

pub blank_stops : (rest : Bytes) → Stops 32 rest
blank_stops rest = record { name = refl; digit = refl; slash = refl; line = refl; fraction = refl; second = λ e. absurd (omega (arith, e)) }

pub point_stops : (rest : Bytes) → is_digit (get_or rest 0 0) ≡ false → Stops 46 rest
point_stops rest none = record { name = refl; digit = refl; slash = refl; line = refl; fraction = none; second = λ e. absurd (omega (arith, e)) }

-- ---- lists

pub take_within : (a y z : Bytes) (n : ℕ) → n ≤ length a → take n (a ++ y) ≡ take n (a ++ z)
take_within a y z zero few = refl
take_within [] y z (suc n) few = absurd (omega (arith, few))
take_within (x ∷ a) y z (suc n) few = ap (λ (bs : Bytes). x ∷ bs) (take_within a y z n (omega (arith, few)))

pub drop_within : (a y : Bytes) (n : ℕ) → n ≤ length a → drop n (a ++ y) ≡ drop n a ++ y
drop_within a y zero few = refl
drop_within [] y (suc n) few = absurd (omega (arith, few))
drop_within (x ∷ a) y (suc n) few = drop_within a y n (omega (arith, few))

-- bytes that pass a test end where the next one doesn't
prefix_same : (p : ℕ → Bool) (a : Bytes) (d e : ℕ) (r s : Bytes) → p d ≡ false → p e ≡ false → prefix_len p (a ++ e ∷ s) ≡ prefix_len p (a ++ d ∷ r)
prefix_same p [] d e r s stop halt = ap (λ b. cond b (1 + prefix_len p s) 0) halt ∙ sym (ap (λ b. cond b (1 + prefix_len p r) 0) stop)
prefix_same p (x ∷ a) d e r s stop halt = ap (λ n. cond (p x) (1 + n) 0) (prefix_same p a d e r s stop halt)

pub prefix_few : (p : ℕ → Bool) (a : Bytes) (d : ℕ) (r : Bytes) → p d ≡ false → prefix_len p (a ++ d ∷ r) ≤ length a
prefix_few p [] d r stop = let none = ap (λ b. cond b (1 + prefix_len p r) 0) stop in omega (arith, none)
prefix_few p (x ∷ a) d r stop =
    let few = prefix_few p a d r stop in
    cond_both (p x) (1 + prefix_len p (a ++ d ∷ r)) 0 (λ n. n ≤ length (x ∷ a)) (λ _. omega (arith, few)) (λ _. omega arith)

-- bytes that end before one that passes
prefix_ended : (p : ℕ → Bool) (a : Bytes) (d e : ℕ) (r s : Bytes) → p d ≡ true → prefix_len p (a ++ d ∷ r) ≤ length a → prefix_len p (a ++ e ∷ s) ≡ prefix_len p (a ++ d ∷ r)
prefix_ended p [] d e r s goes few = let some = ap (λ b. cond b (1 + prefix_len p r) 0) goes in absurd (omega (arith, few, some))
prefix_ended p (x ∷ a) d e r s goes few = one (p x) (prefix_ended p a d e r s goes) few
  where
    one : (b : Bool) → (prefix_len p (a ++ d ∷ r) ≤ length a → prefix_len p (a ++ e ∷ s) ≡ prefix_len p (a ++ d ∷ r))
        → cond b (1 + prefix_len p (a ++ d ∷ r)) 0 ≤ length (x ∷ a) → cond b (1 + prefix_len p (a ++ e ∷ s)) 0 ≡ cond b (1 + prefix_len p (a ++ d ∷ r)) 0
    one true rest few = ap (λ n. 1 + n) (rest (omega (arith, few)))
    one false rest few = refl

-- ---- signs

not_written : (x d : ℕ) → (d ≡ 61 → ⊥) → (o : Op) → x ∷ d ∷ [] ≡ op_text o → ⊥
not_written x d other op.Add e = absurd (cc)
not_written x d other op.Sub e = absurd (cc)
not_written x d other op.Mul e = absurd (cc)
not_written x d other op.Div e = absurd (cc)
not_written x d other op.Rem e = absurd (cc)
not_written x d other op.Lt e = absurd (cc)
not_written x d other op.Le e = other (cc)
not_written x d other op.Gt e = absurd (cc)
not_written x d other op.Ge e = other (cc)
not_written x d other op.Eq e = other (cc)
not_written x d other op.Ne e = other (cc)
not_written x d other op.And e = absurd (cc)
not_written x d other op.Or e = absurd (cc)
not_written x d other op.Xor e = absurd (cc)

-- two bytes of which the second is no `=` are no operator
two_none : (x d : ℕ) → (d ≡ 61 → ⊥) → sign_kind (x ∷ d ∷ []) ≡ None
unfolding sign_kind
two_none x d other = go (op_of (x ∷ d ∷ [])) (op_of_written (x ∷ d ∷ []))
  where
    go : (found : Option Op) → IfSome found (λ o. x ∷ d ∷ [] ≡ op_text o) → option_or (option_map kind.Oper found) None ≡ None
    go None h = refl
    go (Some o) h = absurd (not_written x d other o h)

sign_same : (x : ℕ) (a : Bytes) (d e : ℕ) (r s : Bytes) → Stops d r → Stops e s → sign_piece (x ∷ a ++ e ∷ s) ≡ sign_piece (x ∷ a ++ d ∷ r)
unfolding sign_piece
sign_same x [] d e r s stop halt =
    let one = signed (x ∷ []) in
    ap (λ k. unwrap_or (option_or (option_map (λ k. Lexeme k 2) k) one) Bad) (two_none x e halt.second ∙ sym (two_none x d stop.second))
sign_same x (y ∷ a) d e r s stop halt = refl

-- ---- names and numbers

name_same : (a : Bytes) (d e : ℕ) (r s : Bytes) → Stops d r → Stops e s → name_piece (a ++ e ∷ s) ≡ name_piece (a ++ d ∷ r)
unfolding name_piece
name_same a d e r s stop halt =
    let n = prefix_len is_name_byte (a ++ d ∷ r) in
    ap (λ m. Lexeme (name_kind (take m (a ++ e ∷ s))) m) (prefix_same is_name_byte a d e r s stop.name halt.name)
    ∙ ap (λ (bs : Bytes). Lexeme (name_kind bs) n) (take_within a (e ∷ s) (d ∷ r) n (prefix_few is_name_byte a d r stop.name))

none : (b : Bool) (n : ℕ) → cond (b && false) n 0 ≡ 0
none true n = refl
none false n = refl

fraction_same : (a : Bytes) (d e : ℕ) (r s : Bytes) → Stops d r → Stops e s → fraction_length (a ++ e ∷ s) ≡ fraction_length (a ++ d ∷ r)
unfolding fraction_length
fraction_same [] d e r s stop halt =
    ap (λ b. cond b (1 + prefix_len is_digit s) 0) halt.fraction ∙ sym (ap (λ b. cond b (1 + prefix_len is_digit r) 0) stop.fraction)
fraction_same (x ∷ []) d e r s stop halt =
    (ap (λ b. cond (x == 46 && b) (1 + prefix_len is_digit (e ∷ s)) 0) halt.digit ∙ none (x == 46) (1 + prefix_len is_digit (e ∷ s)))
    ∙ sym (ap (λ b. cond (x == 46 && b) (1 + prefix_len is_digit (d ∷ r)) 0) stop.digit ∙ none (x == 46) (1 + prefix_len is_digit (d ∷ r)))
fraction_same (x ∷ y ∷ a) d e r s stop halt =
    ap (λ n. cond (x == 46 && is_digit y) (1 + n) 0) (prefix_same is_digit (y ∷ a) d e r s stop.digit halt.digit)

number_same : (a : Bytes) (d e : ℕ) (r s : Bytes) → Stops d r → Stops e s → number_piece (a ++ e ∷ s) ≡ number_piece (a ++ d ∷ r)
unfolding number_piece
number_same a d e r s stop halt =
    let n = prefix_len is_digit (a ++ d ∷ r) in
    let few = prefix_few is_digit a d r stop.digit in
    let m = fraction_length (drop n (a ++ d ∷ r)) in
    let behind = ap fraction_length (drop_within a (e ∷ s) n few) ∙ (fraction_same (drop n a) d e r s stop halt ∙ sym (ap fraction_length (drop_within a (d ∷ r) n few))) in
    ap (λ m. cond (nat_lt 0 (fraction_length (drop m (a ++ e ∷ s)))) (Lexeme kind.Decimal (m + fraction_length (drop m (a ++ e ∷ s)))) (whole_piece (take m (a ++ e ∷ s))))
    (prefix_same is_digit a d e r s stop.digit halt.digit)
    ∙ (ap (λ f. cond (nat_lt 0 f) (Lexeme kind.Decimal (n + f)) (whole_piece (take n (a ++ e ∷ s)))) behind
    ∙ ap (λ (bs : Bytes). cond (nat_lt 0 m) (Lexeme kind.Decimal (n + m)) (whole_piece bs)) (take_within a (e ∷ s) (d ∷ r) n few))

-- ---- pieces

token_same : (x : ℕ) (a : Bytes) (d e : ℕ) (r s : Bytes) → Stops d r → Stops e s → token_piece (x ∷ a ++ e ∷ s) ≡ token_piece (x ∷ a ++ d ∷ r)
unfolding token_piece
token_same x a d e r s stop halt =
    ap (λ p. cond (is_letter x) p (cond (is_digit x) (number_piece (x ∷ a ++ e ∷ s)) (sign_piece (x ∷ a ++ e ∷ s)))) (name_same (x ∷ a) d e r s stop halt)
    ∙ (ap (λ p. cond (is_letter x) (name_piece (x ∷ a ++ d ∷ r)) (cond (is_digit x) p (sign_piece (x ∷ a ++ e ∷ s)))) (number_same (x ∷ a) d e r s stop halt)
    ∙ ap (λ p. cond (is_letter x) (name_piece (x ∷ a ++ d ∷ r)) (cond (is_digit x) (number_piece (x ∷ a ++ d ∷ r)) p)) (sign_same x a d e r s stop halt))

comment_same : (x : ℕ) (a : Bytes) (d e : ℕ) (r s : Bytes) → Stops d r → Stops e s → begins_comment (x ∷ a ++ e ∷ s) ≡ begins_comment (x ∷ a ++ d ∷ r)
comment_same x [] d e r s stop halt = ap (λ b. x == 47 && b) (halt.slash ∙ sym stop.slash)
comment_same x (y ∷ a) d e r s stop halt = refl

gap_same : (x : ℕ) (a : Bytes) (d e : ℕ) (r s : Bytes) → Stops d r → Stops e s → gap_length (x ∷ a ++ d ∷ r) ≤ length (x ∷ a)
    → gap_length (x ∷ a ++ e ∷ s) ≡ gap_length (x ∷ a ++ d ∷ r)
unfolding gap_length
gap_same x a d e r s stop halt few =
    ap (λ b. cond (is_blank x) 1 (cond b (prefix_len is_in_line (x ∷ a ++ e ∷ s)) 0)) (comment_same x a d e r s stop halt)
    ∙ one (is_blank x) (begins_comment (x ∷ a ++ d ∷ r)) few
  where
    one : (blank comment : Bool) → cond blank 1 (cond comment (prefix_len is_in_line (x ∷ a ++ d ∷ r)) 0) ≤ length (x ∷ a)
        → cond blank 1 (cond comment (prefix_len is_in_line (x ∷ a ++ e ∷ s)) 0) ≡ cond blank 1 (cond comment (prefix_len is_in_line (x ∷ a ++ d ∷ r)) 0)
    one true comment few = refl
    one false true few = prefix_ended is_in_line (x ∷ a) d e r s stop.line few
    one false false few = refl

-- a gap ends within so many bytes
abbrev pub Ends : ℕ → Piece → Type 0
Ends most (Gap n) = n ≤ most
Ends most (Lexeme k n) = Unit {0}
Ends most Wide = Unit {0}
Ends most Bad = Unit {0}

-- the piece at the front is the same
pub same_piece : (x : ℕ) (a : Bytes) (d e : ℕ) (r s : Bytes) → Stops d r → Stops e s → Ends (length (x ∷ a)) (piece_of (x ∷ a ++ d ∷ r))
    → piece_of (x ∷ a ++ e ∷ s) ≡ piece_of (x ∷ a ++ d ∷ r)
unfolding piece_of
same_piece x a d e r s stop halt ends =
    let n = gap_length (x ∷ a ++ d ∷ r) in
    let few : n ≤ length (x ∷ a) = short (nat_lt 0 n) refl ends in
    ap (λ m. cond (nat_lt 0 m) (Gap m) (token_piece (x ∷ a ++ e ∷ s))) (gap_same x a d e r s stop halt few)
    ∙ ap (λ p. cond (nat_lt 0 n) (Gap n) p) (token_same x a d e r s stop halt)
  where
    short : (some : Bool) → nat_lt 0 (gap_length (x ∷ a ++ d ∷ r)) ≡ some
        → Ends (length (x ∷ a)) (cond some (Gap (gap_length (x ∷ a ++ d ∷ r))) (token_piece (x ∷ a ++ d ∷ r))) → gap_length (x ∷ a ++ d ∷ r) ≤ length (x ∷ a)
    short true is few = few
    short false is few = let no = ltb-false 0 (gap_length (x ∷ a ++ d ∷ r)) is in omega (arith, no)

-- ---- what stands first

-- a question mark is a token
pub mark_first : (rest : Bytes) → piece_of (63 ∷ rest) ≡ Lexeme (kind.Mark 63) 1
unfolding piece_of gap_length token_piece sign_piece sign_kind op_of mark_kind
mark_first [] = refl
mark_first (byte ∷ rest) = refl

-- and a point
pub point_first : (rest : Bytes) → piece_of (46 ∷ rest) ≡ Lexeme (kind.Mark 46) 1
unfolding piece_of gap_length token_piece sign_piece sign_kind op_of mark_kind
point_first [] = refl
point_first (byte ∷ rest) = refl

-- a blank is a gap
pub blank_first : (rest : Bytes) → piece_of (32 ∷ rest) ≡ Gap 1
unfolding piece_of gap_length
blank_first rest = refl
