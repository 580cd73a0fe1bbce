-- The options that words give, a pair at a time.
use Rattle.std.proofs.Common.{◌≡◌, ℕ, ◌≤◌, ◌-◌, List, [], ◌∷◌, length, take, drop, get_or, Option, Some, None, refl, sym, ap, ◌∙◌, arith}
use Rattle.rely_num.specs.Texts.{Bytes}
use Rattle.chisel_words.specs.declared.search.Given.{Given}
use Rattle.chisel_words.specs.Search.{given_by, one_more, ◌>>=◌}

take_all : (xs : List Bytes) (n : ℕ) → n ≡ length xs → take n xs ≡ xs
take_all [] n e = rw e refl
take_all (x ∷ xs) n e = let a = take_all xs (length xs) refl in rw e (ap (λ ys. x ∷ ys) a)

-- the first pair is taken, and the rest gives the others
pub pair_given : (options : List Bytes) (option text : Bytes) (g next : Given) → 2 ≤ length options → option ≡ get_or options 0 option → text ≡ get_or options 1 text
    → one_more g option text ≡ Some next → given_by (take (length options - 2) (drop 2 options)) next ≡ given_by options g
pair_given [] option text g next some is0 is1 one = absurd (omega arith)
pair_given (o ∷ []) option text g next some is0 is1 one = absurd (omega arith)
pair_given (o ∷ t ∷ more) option text g next some is0 is1 one =
    let first : one_more g o t ≡ Some next = rw (sym is0, sym is1) one in
    ap (λ ws. given_by ws next) (take_all more (length (o ∷ t ∷ more) - 2) (omega arith)) ∙ sym (go (one_more g o t) first)
  where
    go : (r : Option Given) → r ≡ Some next → (r >>= λ n. given_by more n) ≡ given_by more next
    go None e = absurd (cc)
    go (Some n) e = let same : n ≡ next = cc in rw same refl
