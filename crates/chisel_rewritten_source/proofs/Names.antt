-- The tokens of what takes the place of a mark.
use Rattle.std.proofs.Common.{◌≡◌, ℕ, zero, suc, ◌+◌, ◌-◌, ◌&&◌, ◌||◌, ◌==◌, nat_lt, Bool, true, false, cond, List, [], ◌∷◌, ◌++◌, take, drop, length, get_or, Option, Some, None, Ok, Err, refl, ap, sym, ◌∙◌, subst, arith, append_assoc, length-append}
use Rattle.std.specs.Prelude.{option_map, unwrap_or}
use Rattle.std.specs.List.{list_all, prefix_len}
use Rattle.std.specs.Option.{is_some}
use Rattle.std.proofs.lemmas.Bool.{and_parts, eqb-true, false≢true, false_from_ne_true, not-true}
use Rattle.std.proofs.lemmas.List.{get_or-drop}
use Rattle.rely_num.specs.Texts.{Bytes, is_among, is_digit, is_letter, is_name, is_name_byte, reserved, word_of}
use Rattle.rely_num.specs.declared.word.Word.{Word}
use Rattle.rely_num.proofs.Searches.{word_among}
use Rattle.rely_hard.specs.declared.hardware.Hardware.{Hardware}
use Rattle.rely_lexer.specs.Forms.{name_kind}
use Rattle.rely_lexer.specs.Tokens.{begins_comment, gap_length, is_blank, is_in_line, name_piece, number_piece, piece_of, sign_piece, token_at, token_piece, token_then, tokens_behind}
use Rattle.rely_lexer.specs.declared.piece.Piece.TheVariants.{Gap, Lexeme}
use Rattle.rely_lexer.specs.declared.token.Token.{Token}
use Rattle.rely_lexer.specs.declared.token.TokenKind.TheVariants as kind
use Rattle.rely_lexer.proofs.Behind.{with_front}
use Rattle.rely_lexer.proofs.LongestLaws.{letter-or-digit}
use Rattle.chisel_rewrite.specs.Namings.{mark_of}
use Rattle.chisel_rewrite.specs.Texts.{name_of, named, text_of}
use Rattle.chisel_rewrite.specs.declared.naming.Naming.{Naming}
use Rattle.chisel_rewrite.specs.declared.naming.Naming.TheVariants.{Kind, Memory}
use Rattle.chisel_rewritten_source.specs.Tokens.{StandsApart, name_token, naming_tokens}
use Rattle.chisel_rewritten_source.proofs.Cuts.{Answer, piece_leads, within_piece}
use Rattle.chisel_rewritten_source.proofs.Fronts.{Stops, blank_first, blank_stops, point_first, point_stops}

-- ---- letters

letter_blank : (x : ℕ) → is_letter x ≡ true → is_blank x ≡ false
letter_blank x letter = false_from_ne_true (is_blank x) (λ blank. none (x == 32) (x == 9) (x == 10) (x == 13) blank (eqb-true x 32) (eqb-true x 9) (eqb-true x 10) (eqb-true x 13))
  where
    is : (n : ℕ) → x ≡ n → is_letter n ≡ true
    is n same = subst (λ b. is_letter b ≡ true) same letter

    none : (a b c d : Bool) → (a || b || c || d) ≡ true → (a ≡ true → x ≡ 32) → (b ≡ true → x ≡ 9) → (c ≡ true → x ≡ 10) → (d ≡ true → x ≡ 13) → ⊥
    none true b c d some p q r s = false≢true (is 32 (p refl))
    none false true c d some p q r s = false≢true (is 9 (q refl))
    none false false true d some p q r s = false≢true (is 10 (r refl))
    none false false false true some p q r s = false≢true (is 13 (s refl))
    none false false false false some p q r s = false≢true some

letter_slash : (x : ℕ) → is_letter x ≡ true → (x == 47) ≡ false
letter_slash x letter = false_from_ne_true (x == 47) (λ same. false≢true (subst (λ b. is_letter b ≡ true) (eqb-true x 47 same) letter))

letter_digit : (x : ℕ) → is_letter x ≡ true → is_digit x ≡ false
letter_digit x letter = false_from_ne_true (is_digit x) (letter-or-digit x letter)

letter_name : (x : ℕ) → is_letter x ≡ true → is_name_byte x ≡ true
letter_name x letter = ap (λ b. b || is_digit x) letter

-- ---- a name

-- no byte of a name is first
abbrev pub Apart : Bytes → Type 0
Apart [] = Unit {0}
Apart (byte ∷ bytes) = is_name_byte byte ≡ false

prefix_whole : (a y : Bytes) → list_all is_name_byte a ≡ true → Apart y → prefix_len is_name_byte (a ++ y) ≡ length a
prefix_whole [] [] all apart = refl
prefix_whole [] (d ∷ r) all apart = ap (λ b. cond b (1 + prefix_len is_name_byte r) 0) apart
prefix_whole (x ∷ a) y all apart =
    let parts = and_parts (is_name_byte x) (list_all is_name_byte a) all in
    let later = prefix_whole a y parts.1 apart in
    ap (λ b. cond b (1 + prefix_len is_name_byte (a ++ y)) 0) parts.0 ∙ omega (arith, later)

take_whole : (a y : Bytes) → take (length a) (a ++ y) ≡ a
take_whole [] y = refl
take_whole (x ∷ a) y = ap (λ (bs : Bytes). x ∷ bs) (take_whole a y)

-- it is no word of the language
no_word : (name : Bytes) → is_name name ≡ true → word_of name ≡ None
no_word name is =
    let parts = and_parts _ _ is in
    none (word_of name) (sym (word_among name) ∙ not-true (is_among name reserved) parts.1)
  where
    none : (found : Option Word) → is_some found ≡ false → found ≡ None
    none None lacks = refl
    none (Some w) lacks = absurd (false≢true (sym lacks))

named_kind : (name : Bytes) → is_name name ≡ true → name_kind name ≡ kind.Name
unfolding name_kind
named_kind name is = ap (λ w. unwrap_or (option_map kind.Word w) kind.Name) (no_word name is)

gap_none : (x : ℕ) (rest : Bytes) → is_letter x ≡ true → gap_length (x ∷ rest) ≡ 0
unfolding gap_length
gap_none x rest letter =
    ap (λ b. cond b 1 (cond (begins_comment (x ∷ rest)) (prefix_len is_in_line (x ∷ rest)) 0)) (letter_blank x letter)
    ∙ ap (λ b. cond (b && get_or rest 0 0 == 47) (prefix_len is_in_line (x ∷ rest)) 0) (letter_slash x letter)

token_named : (x : ℕ) (xs y : Bytes) → is_letter x ≡ true → list_all is_name_byte xs ≡ true → is_name (x ∷ xs) ≡ true → Apart y
    → token_piece (x ∷ xs ++ y) ≡ Lexeme kind.Name (length (x ∷ xs))
unfolding token_piece name_piece
token_named x xs y letter all is apart =
    let text = x ∷ xs ++ y in
    let whole : list_all is_name_byte (x ∷ xs) ≡ true = ap (λ b. b && list_all is_name_byte xs) (letter_name x letter) ∙ all in
    ap (λ b. cond b (name_piece text) (cond (is_digit x) (number_piece text) (sign_piece text))) letter
    ∙ (ap (λ n. Lexeme (name_kind (take n text)) n) (prefix_whole (x ∷ xs) y whole apart)
    ∙ (ap (λ (bs : Bytes). Lexeme (name_kind bs) (length (x ∷ xs))) (take_whole (x ∷ xs) y)
    ∙ ap (λ k. Lexeme k (length (x ∷ xs))) (named_kind (x ∷ xs) is)))

name_first : (x : ℕ) (xs y : Bytes) → is_letter x ≡ true → list_all is_name_byte xs ≡ true → is_name (x ∷ xs) ≡ true → Apart y
    → piece_of (x ∷ xs ++ y) ≡ Lexeme kind.Name (length (x ∷ xs))
unfolding piece_of
name_first x xs y letter all is apart =
    ap (λ n. cond (nat_lt 0 n) (Gap n) (token_piece (x ∷ xs ++ y))) (gap_none x (xs ++ y) letter) ∙ token_named x xs y letter all is apart

-- the rest of a piece is passed over
passed : (a y : Bytes) (place : ℕ) → tokens_behind (a ++ y) (length a) place ≡ tokens_behind y 0 (place + length a)
passed [] y place = ap (tokens_behind y 0) (omega arith)
passed (x ∷ a) y place = within_piece x (a ++ y) (length a) place ∙ (passed a y (suc place) ∙ ap (tokens_behind y 0) (omega arith))

pub name_leads : (name y : Bytes) (place : ℕ) → is_name name ≡ true → Apart y → tokens_behind (name ++ y) 0 place ≡ token_then (name_token place name) (tokens_behind y 0 (place + length name))
name_leads [] y place is apart = absurd (false≢true is)
name_leads (x ∷ xs) y place is apart =
    let word = and_parts _ _ is in
    let parts = and_parts (is_letter x) (list_all is_name_byte xs) word.0 in
    let few : length (x ∷ xs) - 1 ≡ length xs = omega arith in
    piece_leads x (xs ++ y) place (Lexeme kind.Name (length (x ∷ xs))) (name_first x xs y parts.0 parts.1 is apart)
    ∙ ap (token_then (name_token place (x ∷ xs)))
    (ap (λ n. tokens_behind (xs ++ y) n (suc place)) few ∙ (passed xs y (suc place) ∙ ap (tokens_behind y 0) (omega arith)))

-- ---- what takes the place of a mark

-- it begins where tokens end
pub record Leads (text : Bytes) : Type 0 where
  pub byte : ℕ
  pub rest : Bytes
  pub is : text ≡ byte ∷ rest
  pub stops : Stops byte rest

first_letter : (name rest : Bytes) → is_name name ≡ true → is_digit (get_or (name ++ rest) 0 0) ≡ false
first_letter [] rest is = absurd (false≢true is)
first_letter (x ∷ xs) rest is =
    let word = and_parts _ _ is in
    letter_digit x (and_parts (is_letter x) (list_all is_name_byte xs) word.0).0

pub naming_stops : (h : Hardware) (n : Naming) (rest : Bytes) → is_name (name_of h n) ≡ true → Leads (text_of h n ++ rest)
naming_stops h (Kind mark op option) rest is =
    let name = name_of h (Kind mark op option) in
    record {
      byte = 46;
      rest = name ++ 32 ∷ [] ++ rest;
      is = refl;
      stops = point_stops (name ++ 32 ∷ [] ++ rest) (subst (λ (bs : Bytes). is_digit (get_or bs 0 0) ≡ false) (sym (append_assoc name (32 ∷ []) rest)) (first_letter name (32 ∷ rest) is));
    }
naming_stops h (Memory mark option) rest is =
    record { byte = 32; rest = name_of h (Memory mark option) ++ [] ++ rest; is = refl; stops = blank_stops (name_of h (Memory mark option) ++ [] ++ rest) }

-- what may stand behind it
abbrev pub MayFollow : Naming → Bytes → Type 0
MayFollow (Kind mark op option) rest = Unit {0}
MayFollow (Memory mark option) rest = Apart rest

two_before : (t u : Token) (r : Answer) → token_then t (token_then u r) ≡ with_front (t ∷ u ∷ []) r
two_before t u (Ok ts) = refl
two_before t u (Err e) = refl

one_before : (t : Token) (r : Answer) → token_then t r ≡ with_front (t ∷ []) r
one_before t (Ok ts) = refl
one_before t (Err e) = refl

pub naming_leads : (h : Hardware) (n : Naming) (rest : Bytes) (place : ℕ) → is_name (name_of h n) ≡ true → MayFollow n rest
    → tokens_behind (text_of h n ++ rest) 0 place ≡ with_front (naming_tokens h place n) (tokens_behind rest 0 (place + length (text_of h n)))
naming_leads h (Kind mark op option) rest place is follows =
    let name = name_of h (Kind mark op option) in
    let long = length-append name (32 ∷ []) in
    let point = token_at (kind.Mark 46) place (place + 1) in
    piece_leads 46 (name ++ 32 ∷ [] ++ rest) place (Lexeme (kind.Mark 46) 1) (point_first (name ++ 32 ∷ [] ++ rest))
    ∙ (ap (λ (bs : Bytes). token_then point (tokens_behind bs 0 (suc place))) (append_assoc name (32 ∷ []) rest)
    ∙ (ap (λ at. token_then point (tokens_behind (name ++ 32 ∷ rest) 0 at)) (omega arith)
    ∙ (ap (token_then point)
    (name_leads name (32 ∷ rest) (place + 1) is refl
    ∙ ap (token_then (name_token (place + 1) name)) (piece_leads 32 rest (place + 1 + length name) (Gap 1) (blank_first rest) ∙ ap (tokens_behind rest 0) (omega (arith, long))))
    ∙ two_before point (name_token (place + 1) name) (tokens_behind rest 0 (place + length (text_of h (Kind mark op option)))))))
naming_leads h (Memory mark option) rest place is follows =
    let name = name_of h (Memory mark option) in
    let long = length-append name [] in
    piece_leads 32 (name ++ [] ++ rest) place (Gap 1) (blank_first (name ++ [] ++ rest))
    ∙ (ap (λ (bs : Bytes). tokens_behind bs 0 (suc place)) (append_assoc name [] rest)
    ∙ (ap (tokens_behind (name ++ rest) 0) (omega arith)
    ∙ (name_leads name rest (place + 1) is follows
    ∙ (ap (λ at. token_then (name_token (place + 1) name) (tokens_behind rest 0 at)) (omega (arith, long))
    ∙ one_before (name_token (place + 1) name) (tokens_behind rest 0 (place + length (text_of h (Memory mark option))))))))

-- ---- what stands behind a memory's mark

first_apart : (s : Bytes) → is_name_byte (get_or s 0 0) ≡ false → Apart s
first_apart [] apart = tt
first_apart (x ∷ s) apart = apart

front_apart : (k : ℕ) (s t : Bytes) → Apart s → Apart t → Apart (take k s ++ t)
front_apart zero s t apart other = other
front_apart (suc k) [] t apart other = other
front_apart (suc k) (x ∷ s) t apart other = apart

text_apart : (h : Hardware) (n : Naming) (rest : Bytes) → Apart (text_of h n ++ rest)
text_apart h (Kind mark op option) rest = refl
text_apart h (Memory mark option) rest = refl

named_apart : (h : Hardware) (text : Bytes) (place : ℕ) (ns : List Naming) → is_name_byte (get_or text place 0) ≡ false → Apart (named h text place ns)
named_apart h text place [] apart = first_apart (drop place text) (subst (λ b. is_name_byte b ≡ false) (sym (get_or-drop place text 0 0 ∙ ap (λ i. get_or text i 0) (omega arith))) apart)
named_apart h text place (n ∷ ns) apart =
    front_apart ((mark_of n).from - place) (drop place text) (text_of h n ++ named h text (mark_of n).to ns)
    (first_apart (drop place text) (subst (λ b. is_name_byte b ≡ false) (sym (get_or-drop place text 0 0 ∙ ap (λ i. get_or text i 0) (omega arith))) apart))
    (text_apart h n (named h text (mark_of n).to ns))

pub named_follows : (h : Hardware) (text : Bytes) (n : Naming) (ns : List Naming) → StandsApart text n → MayFollow n (named h text (mark_of n).to ns)
named_follows h text (Kind mark op option) ns apart = tt
named_follows h text (Memory mark option) ns apart = named_apart h text mark.to ns apart
