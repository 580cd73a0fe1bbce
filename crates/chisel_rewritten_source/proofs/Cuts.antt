-- The tokens of a text up to a question mark that is one of them, whatever stands in its place.
use Rattle.std.proofs.Common.{◌≡◌, ℕ, zero, suc, ◌+◌, ◌-◌, ◌<◌, ◌≤◌, ◌⊎◌, inl, inr, List, [], ◌∷◌, ◌++◌, map, length, Result, Ok, Err, refl, ap, sym, ◌∙◌, subst, arith}
use Rattle.std.specs.List.{AllByRecursion}
use Rattle.rely_num.specs.Texts.{Bytes}
use Rattle.rely_lexer.specs.Tokens.{piece_of, piece_then, token_at, token_then, tokens_behind}
use Rattle.rely_lexer.specs.declared.piece.Piece.{Piece}
use Rattle.rely_lexer.specs.declared.piece.Piece.TheVariants.{Gap, Lexeme, Wide, Bad}
use Rattle.rely_lexer.specs.declared.token.LexFault.{LexFault}
use Rattle.rely_lexer.specs.declared.token.Token.{Token}
use Rattle.rely_lexer.specs.declared.token.TokenKind.{TokenKind}
use Rattle.rely_lexer.specs.declared.token.TokenKind.TheVariants as kind
use Rattle.rely_lexer.proofs.Behind.{with_front}
use Rattle.chisel_rewritten_source.specs.Tokens.{moved}
use Rattle.chisel_rewritten_source.proofs.Fronts.{Ends, Stops, mark_first, mark_stops, same_piece}

-- ---- answers

-- the answer of a list of tokens
abbrev pub Answer : Type 0
Answer = Result (List Token) LexFault

-- where a token comes first, the rest was found
pub token_then_ok : (t : Token) (r : Answer) (ts : List Token) → token_then t r ≡ Ok ts → (rest : List Token) × (r ≡ Ok rest) × (ts ≡ t ∷ rest)
token_then_ok t (Ok rest) ts is = (rest, refl, sym (cc))
token_then_ok t (Err e) ts is = absurd (cc)

pub token_before : (t : Token) (front : List Token) (r : Answer) → token_then t (with_front front r) ≡ with_front (t ∷ front) r
token_before t front (Ok ts) = refl
token_before t front (Err e) = refl

-- some token of the list begins at the place
abbrev pub Begins : List Token → ℕ → Type 0
Begins [] place = ⊥
Begins (t ∷ ts) place = (t.span.from ≡ place) ⊎ Begins ts place

-- the tokens of a text whose front is a piece
pub piece_leads : (x : ℕ) (s : Bytes) (place : ℕ) (p : Piece) → piece_of (x ∷ s) ≡ p → tokens_behind (x ∷ s) 0 place ≡ piece_then p place (λ n. tokens_behind s n (suc place))
unfolding tokens_behind
piece_leads x s place p is = ap (λ p. piece_then p place (λ n. tokens_behind s n (suc place))) is

pub within_piece : (x : ℕ) (s : Bytes) (n place : ℕ) → tokens_behind (x ∷ s) (suc n) place ≡ tokens_behind s n (suc place)
unfolding tokens_behind
within_piece x s n place = refl

pub nothing_left : (n place : ℕ) → tokens_behind [] n place ≡ Ok []
unfolding tokens_behind
nothing_left n place = refl

-- what is found begins behind the piece before
begins_behind : (s : Bytes) (n place : ℕ) (ts : List Token) (at : ℕ) → tokens_behind s n place ≡ Ok ts → Begins ts at → place + n ≤ at
begins_behind [] n place [] at is has = absurd has
begins_behind [] n place (t ∷ ts) at is has = absurd (cc (nothing_left n place))
begins_behind (x ∷ s) (suc n) place ts at is has =
    let later = begins_behind s n (suc place) ts at (sym (within_piece x s n place) ∙ is) has in omega (arith, later)
begins_behind (x ∷ s) zero place ts at is has =
    by_piece (piece_of (x ∷ s)) (sym (piece_leads x s place (piece_of (x ∷ s)) refl) ∙ is) (λ n rest. begins_behind s n (suc place) rest at)
  where
    by_piece : (p : Piece) → piece_then p place (λ n. tokens_behind s n (suc place)) ≡ Ok ts
        → ((n : ℕ) (rest : List Token) → tokens_behind s n (suc place) ≡ Ok rest → Begins rest at → suc place + n ≤ at) → place + 0 ≤ at
    by_piece (Gap l) found later = let behind = later (l - 1) ts found has in omega (arith, behind)
    by_piece (Lexeme k l) found later =
        let (rest, behind, parts) = token_then_ok (token_at k place (place + l)) (tokens_behind s (l - 1) (suc place)) ts found in
        first rest (subst (λ ts. Begins ts at) parts has) (later (l - 1) rest behind)
      where
        first : (rest : List Token) → (place ≡ at) ⊎ Begins rest at → (Begins rest at → suc place + (l - 1) ≤ at) → place + 0 ≤ at
        first rest (inl here) later = omega (arith, here)
        first rest (inr there) later = let behind = later there in omega (arith, behind)
    by_piece Wide found later = absurd (cc)
    by_piece Bad found later = absurd (cc)

-- ---- the tokens further on

pub all_moved : (s : Bytes) (n place : ℕ) (ts : List Token) (by at : ℕ) → tokens_behind s n place ≡ Ok ts → at ≡ place + by → tokens_behind s n at ≡ Ok (map (moved by) ts)
all_moved [] n place [] by at is further = nothing_left n at
all_moved [] n place (t ∷ ts) by at is further = absurd (cc (nothing_left n place))
all_moved (x ∷ s) (suc n) place ts by at is further =
    within_piece x s n at ∙ all_moved s n (suc place) ts by (suc at) (sym (within_piece x s n place) ∙ is) (omega (arith, further))
all_moved (x ∷ s) zero place ts by at is further =
    piece_leads x s at (piece_of (x ∷ s)) refl
    ∙ by_piece (piece_of (x ∷ s)) (sym (piece_leads x s place (piece_of (x ∷ s)) refl) ∙ is) (λ n rest found. all_moved s n (suc place) rest by (suc at) found (omega (arith, further)))
  where
    by_piece : (p : Piece) → piece_then p place (λ n. tokens_behind s n (suc place)) ≡ Ok ts
        → ((n : ℕ) (rest : List Token) → tokens_behind s n (suc place) ≡ Ok rest → tokens_behind s n (suc at) ≡ Ok (map (moved by) rest))
        → piece_then p at (λ n. tokens_behind s n (suc at)) ≡ Ok (map (moved by) ts)
    by_piece (Gap l) found later = later (l - 1) ts found
    by_piece (Lexeme k l) found later =
        let (rest, behind, parts) = token_then_ok (token_at k place (place + l)) (tokens_behind s (l - 1) (suc place)) ts found in
        let same : token_at k at (at + l) ≡ moved by (token_at k place (place + l)) = ap (λ n. token_at k n (at + l)) further ∙ ap (token_at k (place + by)) (omega (arith, further)) in
        ap (token_then (token_at k at (at + l))) (later (l - 1) rest behind)
        ∙ (ap (λ t. Ok (t ∷ map (moved by) rest)) same ∙ ap (λ ts. Ok (map (moved by) ts)) (sym parts))
    by_piece Wide found later = absurd (cc)
    by_piece Bad found later = absurd (cc)

-- ---- up to a question mark

-- a text is read to a question mark at a place, and behind it; before anything else that stops there the same tokens stand
pub record IsCut (front back : Bytes) (n start place : ℕ) (ts : List Token) : Type 0 where
  pub before : List Token
  pub after : List Token
  pub parts : ts ≡ before ++ token_at (kind.Mark 63) place (place + 1) ∷ after
  pub earlier : AllByRecursion (λ t. t.span.from < place) before
  pub behind : tokens_behind back 0 (place + 1) ≡ Ok after
  pub same : (byte : ℕ) (rest : Bytes) (by at : ℕ) → Stops byte rest → at ≡ start + by
      → tokens_behind (front ++ byte ∷ rest) n at ≡ with_front (map (moved by) before) (tokens_behind (byte ∷ rest) 0 (place + by))

no_front : (r : Answer) → r ≡ with_front [] r
no_front (Ok ts) = refl
no_front (Err e) = refl

-- behind the first byte, inside a piece
cut_within : (x : ℕ) (a b : Bytes) (n start place : ℕ) (ts : List Token) → IsCut a b n (suc start) place ts → IsCut (x ∷ a) b (suc n) start place ts
cut_within x a b n start place ts c = record {
  before = c.before;
  after = c.after;
  parts = c.parts;
  earlier = c.earlier;
  behind = c.behind;
  same = λ byte rest by at stops further. within_piece x (a ++ byte ∷ rest) n at ∙ c.same byte rest by (suc at) stops (omega (arith, further));
}

-- behind a gap
cut_gap : (x : ℕ) (a b : Bytes) (l start place : ℕ) (ts : List Token) → piece_of (x ∷ a ++ 63 ∷ b) ≡ Gap l → l ≤ length (x ∷ a) → IsCut a b (l - 1) (suc start) place ts
    → IsCut (x ∷ a) b 0 start place ts
cut_gap x a b l start place ts is few c = record {
  before = c.before;
  after = c.after;
  parts = c.parts;
  earlier = c.earlier;
  behind = c.behind;
  same = λ byte rest by at stops further.
      piece_leads x (a ++ byte ∷ rest) at (Gap l) (same_piece x a 63 byte b rest (mark_stops b) stops (subst (Ends (length (x ∷ a))) (sym is) few) ∙ is)
      ∙ c.same byte rest by (suc at) stops (omega (arith, further));
}

-- behind a token
cut_token : (x : ℕ) (a b : Bytes) (k : TokenKind) (l start place : ℕ) (ts rest : List Token) → piece_of (x ∷ a ++ 63 ∷ b) ≡ Lexeme k l → start < place
    → ts ≡ token_at k start (start + l) ∷ rest → IsCut a b (l - 1) (suc start) place rest → IsCut (x ∷ a) b 0 start place ts
cut_token x a b k l start place ts rest is some parts c = record {
  before = token_at k start (start + l) ∷ c.before;
  after = c.after;
  parts = parts ∙ ap (λ ts. token_at k start (start + l) ∷ ts) c.parts;
  earlier = (some, c.earlier);
  behind = c.behind;
  same = λ byte rest by at stops further.
      let moves : token_at k at (at + l) ≡ moved by (token_at k start (start + l)) = ap (λ n. token_at k n (at + l)) further ∙ ap (token_at k (start + by)) (omega (arith, further)) in
      piece_leads x (a ++ byte ∷ rest) at (Lexeme k l) (same_piece x a 63 byte b rest (mark_stops b) stops (subst (Ends (length (x ∷ a))) (sym is) tt) ∙ is)
      ∙ (ap (token_then (token_at k at (at + l))) (c.same byte rest by (suc at) stops (omega (arith, further)))
      ∙ (token_before (token_at k at (at + l)) (map (moved by) c.before) (tokens_behind (byte ∷ rest) 0 (place + by))
      ∙ ap (λ t. with_front (t ∷ map (moved by) c.before) (tokens_behind (byte ∷ rest) 0 (place + by))) moves));
}

-- where a token begins at the place of a question mark, that is one
cut_here : (b : Bytes) (start place : ℕ) (ts : List Token) → place ≡ start → tokens_behind (63 ∷ b) 0 start ≡ Ok ts → IsCut [] b 0 start place ts
cut_here b start place ts here is =
    let found = sym (piece_leads 63 b start (Lexeme (kind.Mark 63) 1) (mark_first b)) ∙ is in
    let (rest, behind, parts) = token_then_ok (token_at (kind.Mark 63) start (start + 1)) (tokens_behind b (1 - 1) (suc start)) ts found in
    let next : suc start ≡ place + 1 = omega (arith, here) in
    record {
      before = [];
      after = rest;
      parts = parts ∙ ap (λ n. token_at (kind.Mark 63) n (n + 1) ∷ rest) (sym here);
      earlier = tt;
      behind = ap (tokens_behind b 0) (sym next) ∙ behind;
      same = λ byte rest by at stops further.
          ap (tokens_behind (byte ∷ rest) 0) (omega (arith, further, here)) ∙ no_front (tokens_behind (byte ∷ rest) 0 (place + by));
    }

pub cut : (a b : Bytes) (n start place : ℕ) (ts : List Token) → n ≤ length a → place ≡ start + length a → tokens_behind (a ++ 63 ∷ b) n start ≡ Ok ts → Begins ts place
    → IsCut a b n start place ts
cut [] b zero start place ts few there is has = cut_here b start place ts (omega (arith, there)) is
cut [] b (suc n) start place ts few there is has = absurd (omega (arith, few))
cut (x ∷ a) b (suc n) start place ts few there is has =
    cut_within x a b n start place ts
    (cut a b n (suc start) place ts (omega (arith, few)) (omega (arith, there)) (sym (within_piece x (a ++ 63 ∷ b) n start) ∙ is) has)
cut (x ∷ a) b zero start place ts few there is has =
    by_piece (piece_of (x ∷ a ++ 63 ∷ b)) refl (sym (piece_leads x (a ++ 63 ∷ b) start (piece_of (x ∷ a ++ 63 ∷ b)) refl) ∙ is)
    (λ n rest few. cut a b n (suc start) place rest few (omega (arith, there)))
  where
    -- a piece before the mark ends before it
    ends : (l : ℕ) (rest : List Token) → tokens_behind (a ++ 63 ∷ b) (l - 1) (suc start) ≡ Ok rest → Begins rest place → l - 1 ≤ length a
    ends l rest found has = let behind = begins_behind (a ++ 63 ∷ b) (l - 1) (suc start) rest place found has in omega (arith, behind, there)

    later : (k : TokenKind) (l : ℕ) (rest : List Token) → start < place → ts ≡ token_at k start (start + l) ∷ rest → Begins rest place
    later k l rest some parts = not_here (subst (λ ts. Begins ts place) parts has)
      where
        not_here : (start ≡ place) ⊎ Begins rest place → Begins rest place
        not_here (inl here) = absurd (omega (arith, here, some))
        not_here (inr there) = there

    by_piece : (p : Piece) → piece_of (x ∷ a ++ 63 ∷ b) ≡ p → piece_then p start (λ n. tokens_behind (a ++ 63 ∷ b) n (suc start)) ≡ Ok ts
        → ((n : ℕ) (rest : List Token) → n ≤ length a → tokens_behind (a ++ 63 ∷ b) n (suc start) ≡ Ok rest → Begins rest place → IsCut a b n (suc start) place rest)
        → IsCut (x ∷ a) b 0 start place ts
    by_piece (Gap l) same found cuts =
        let few = ends l ts found has in
        cut_gap x a b l start place ts same (omega (arith, few)) (cuts (l - 1) ts few found has)
    by_piece (Lexeme k l) same found cuts =
        let (rest, behind, parts) = token_then_ok (token_at k start (start + l)) (tokens_behind (a ++ 63 ∷ b) (l - 1) (suc start)) ts found in
        let some : start < place = omega (arith, there) in
        let has' = later k l rest some parts in
        cut_token x a b k l start place ts rest same some parts (cuts (l - 1) rest (ends l rest behind has') behind has')
    by_piece Wide same found cuts = absurd (cc)
    by_piece Bad same found cuts = absurd (cc)
