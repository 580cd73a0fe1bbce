-- Lists of parts, and the numbers beside them.
use Rattle.std.proofs.Common.{◌≡◌, ◌≢◌, ℕ, zero, suc, ◌+◌, ◌≤◌, ◌<◌, List, [], ◌∷◌, ◌++◌, length, refl, sym, ap, arith}
use Rattle.std.specs.Prelude.{slice_index, slice_index_or}
use Rattle.chisel_table.specs.declared.partial.Partial.{Partial}
use Rattle.chisel_table.specs.Sums.{list_to}
use Rattle.chisel_search.specs.Logs.{numbers_from}
use Rattle.chisel_search.specs.Machine.{EachNumbered}
use Rattle.chisel_search.specs.Search.{replaced}
use Rattle.chisel_search.proofs.Lists.{EachOf, each_append, each_at, each_listed, each_replaced, each_weaker}

-- ---- parts with their numbers

pub numbered_length : (P : Partial → ℕ → Type 0) (ps : List Partial) (ns : List ℕ) → EachNumbered P ps ns → length ps ≡ length ns
numbered_length P [] [] h = refl
numbered_length P [] (n ∷ ns) h = absurd h
numbered_length P (p ∷ ps) [] h = absurd h
numbered_length P (p ∷ ps) (n ∷ ns) h = ap suc (numbered_length P ps ns h.1)

pub numbered_at : (P : Partial → ℕ → Type 0) (ps : List Partial) (ns : List ℕ) (k : ℕ) (e : Partial) → k < length ps → EachNumbered P ps ns →
    P (slice_index_or ps k e) (slice_index ns k)
numbered_at P [] ns k e l h = absurd (omega arith)
numbered_at P (p ∷ ps) [] k e l h = absurd h
numbered_at P (p ∷ ps) (n ∷ ns) zero e l h = h.0
numbered_at P (p ∷ ps) (n ∷ ns) (suc k) e l h = numbered_at P ps ns k e (omega arith) h.1

pub numbered_append : (P : Partial → ℕ → Type 0) (ps qs : List Partial) (ms ns : List ℕ) → EachNumbered P ps ms → EachNumbered P qs ns → EachNumbered P (ps ++ qs) (ms ++ ns)
numbered_append P [] qs [] ns h k = k
numbered_append P [] qs (m ∷ ms) ns h k = absurd h
numbered_append P (p ∷ ps) qs [] ns h k = absurd h
numbered_append P (p ∷ ps) qs (m ∷ ms) ns h k = (h.0, numbered_append P ps qs ms ns h.1 k)

numbered_front : (P : Partial → ℕ → Type 0) (ps qs : List Partial) (ms ns : List ℕ) → length ps ≡ length ms → EachNumbered P (ps ++ qs) (ms ++ ns) → EachNumbered P ps ms
numbered_front P [] qs [] ns e h = tt
numbered_front P [] qs (m ∷ ms) ns e h = absurd (omega arith)
numbered_front P (p ∷ ps) qs [] ns e h = absurd (omega arith)
numbered_front P (p ∷ ps) qs (m ∷ ms) ns e h = (h.0, numbered_front P ps qs ms ns (omega arith) h.1)

numbered_behind : (P : Partial → ℕ → Type 0) (ps qs : List Partial) (ms ns : List ℕ) → length ps ≡ length ms → EachNumbered P (ps ++ qs) (ms ++ ns) → EachNumbered P qs ns
numbered_behind P [] qs [] ns e h = h
numbered_behind P [] qs (m ∷ ms) ns e h = absurd (omega arith)
numbered_behind P (p ∷ ps) qs [] ns e h = absurd (omega arith)
numbered_behind P (p ∷ ps) qs (m ∷ ms) ns e h = numbered_behind P ps qs ms ns (omega arith) h.1

pub numbered_replaced : (P : Partial → ℕ → Type 0) (ps : List Partial) (ns : List ℕ) (k : ℕ) (new : List Partial) (more : List ℕ) →
    EachNumbered P ps ns → EachNumbered P new more → EachNumbered P (replaced ps k new) (replaced ns k more)
unfolding replaced
numbered_replaced P [] [] k new more h w = tt
numbered_replaced P [] (n ∷ ns) k new more h w = absurd h
numbered_replaced P (p ∷ ps) [] k new more h w = absurd h
numbered_replaced P (p ∷ ps) (n ∷ ns) zero new more h w = numbered_append P new ps more ns w h.1
numbered_replaced P (p ∷ ps) (n ∷ ns) (suc k) new more h w = (h.0, numbered_replaced P ps ns k new more h.1 w)

-- those that were put in a place
pub numbered_new : (P : Partial → ℕ → Type 0) (ps : List Partial) (ns : List ℕ) (k : ℕ) (new : List Partial) (more : List ℕ) → k < length ps →
    length ps ≡ length ns → length new ≡ length more → EachNumbered P (replaced ps k new) (replaced ns k more) → EachNumbered P new more
unfolding replaced
numbered_new P [] ns k new more l e f h = absurd (omega arith)
numbered_new P (p ∷ ps) [] k new more l e f h = absurd (omega arith)
numbered_new P (p ∷ ps) (n ∷ ns) zero new more l e f h = numbered_front P new ps more ns f h
numbered_new P (p ∷ ps) (n ∷ ns) (suc k) new more l e f h = numbered_new P ps ns k new more (omega arith) (omega arith) f h.1

-- the list before, from the list after and the one that went
pub numbered_before : (P : Partial → ℕ → Type 0) (ps : List Partial) (ns : List ℕ) (k : ℕ) (new : List Partial) (more : List ℕ) (e : Partial) → k < length ps →
    length ps ≡ length ns → length new ≡ length more → EachNumbered P (replaced ps k new) (replaced ns k more) →
    P (slice_index_or ps k e) (slice_index ns k) → EachNumbered P ps ns
unfolding replaced
numbered_before P [] ns k new more e l a b h w = absurd (omega arith)
numbered_before P (p ∷ ps) [] k new more e l a b h w = absurd (omega arith)
numbered_before P (p ∷ ps) (n ∷ ns) zero new more e l a b h w = (w, numbered_behind P new ps more ns b h)
numbered_before P (p ∷ ps) (n ∷ ns) (suc k) new more e l a b h w = (h.0, numbered_before P ps ns k new more e (omega arith) (omega arith) b h.1 w)

pub numbered_listed : (P : Partial → ℕ → Type 0) (n : ℕ) (f : ℕ → Partial) (g : ℕ → ℕ) → ((k : ℕ) → k < n → P (f k) (g k)) → EachNumbered P (list_to n f) (list_to n g)
unfolding list_to
numbered_listed P zero f g h = tt
numbered_listed P (suc n) f g h =
    numbered_append P (list_to n f) (f n ∷ []) (list_to n g) (g n ∷ []) (numbered_listed P n f g (λ k l. h k (omega arith))) (h n (omega arith), tt)

pub numbered_weaker : (P Q : Partial → ℕ → Type 0) (R : ℕ → Type 0) (ps : List Partial) (ns : List ℕ) → ((p : Partial) (n : ℕ) → R n → P p n → Q p n) →
    EachOf R ns → EachNumbered P ps ns → EachNumbered Q ps ns
numbered_weaker P Q R [] [] f r h = tt
numbered_weaker P Q R [] (n ∷ ns) f r h = absurd h
numbered_weaker P Q R (p ∷ ps) [] f r h = absurd h
numbered_weaker P Q R (p ∷ ps) (n ∷ ns) f r h = (f p n r.0 h.0, numbered_weaker P Q R ps ns f r.1 h.1)

pub each_any : (ns : List ℕ) → EachOf (λ n. Unit {0}) ns
each_any [] = tt
each_any (n ∷ ns) = (tt, each_any ns)

-- ---- numbers

-- no number stands twice
abbrev pub Apart : List ℕ → Type 0
Apart [] = Unit {0}
Apart (n ∷ ns) = EachOf (λ m. m ≢ n) ns × Apart ns

-- each is below a number, and none stands twice
pub record AreNumbers (ns : List ℕ) (made : ℕ) : Type 0 where
  pub below : EachOf (λ n. n < made) ns
  pub apart : Apart ns

apart_append : (xs ys : List ℕ) → Apart xs → Apart ys → EachOf (λ x. EachOf (λ y. y ≢ x) ys) xs → Apart (xs ++ ys)
apart_append [] ys a b h = b
apart_append (x ∷ xs) ys a b h = (each_append (λ m. m ≢ x) xs ys a.0 h.0, apart_append xs ys a.1 b h.1)

apart_listed : (first n : ℕ) → Apart (list_to n (λ o. first + o))
unfolding list_to
apart_listed first zero = tt
apart_listed first (suc n) =
    apart_append (list_to n (λ o. first + o)) ((first + n) ∷ []) (apart_listed first n) (tt, tt)
    (each_listed (λ x. EachOf (λ y. y ≢ x) ((first + n) ∷ [])) n (λ o. first + o)
    (λ k l. (let ne : first + n ≢ first + k = λ e. absurd (omega arith) in ne, tt)))

above_listed : (first n : ℕ) → EachOf (λ m. first ≤ m) (numbers_from first n)
above_listed first n = each_listed (λ m. first ≤ m) n (λ o. first + o) (λ k l. omega arith)

apart_replaced : (ns : List ℕ) (k : ℕ) (new : List ℕ) (made : ℕ) → EachOf (λ n. n < made) ns → Apart ns → EachOf (λ n. made ≤ n) new → Apart new →
    Apart (replaced ns k new)
unfolding replaced
apart_replaced [] k new made b a c h = tt
apart_replaced (n ∷ ns) zero new made b a c h =
    apart_append new ns h a.1 (each_weaker (λ x. made ≤ x) (λ x. EachOf (λ y. y ≢ x) ns) new
    (λ x l. each_weaker (λ y. y < made) (λ y. y ≢ x) ns (λ y m. (λ e. absurd (omega arith))) b.1) c)
apart_replaced (n ∷ ns) (suc k) new made b a c h = (
  each_replaced (λ m. m ≢ n) ns k new a.0 (each_weaker (λ x. made ≤ x) (λ m. m ≢ n) new (λ x l. (let u = b.0 in (λ e. absurd (omega arith)))) c),
  apart_replaced ns k new made b.1 a.1 c h,
)

-- the number that went is none of those after it
absent_replaced : (ns : List ℕ) (k : ℕ) (new : List ℕ) (made : ℕ) → k < length ns → EachOf (λ n. n < made) ns → Apart ns → EachOf (λ n. made ≤ n) new →
    EachOf (λ m. m ≢ slice_index ns k) (replaced ns k new)
unfolding replaced
absent_replaced [] k new made l b a c = absurd (omega arith)
absent_replaced (n ∷ ns) zero new made l b a c =
    each_append (λ m. m ≢ n) new ns (each_weaker (λ x. made ≤ x) (λ m. m ≢ n) new (λ x l. (let u = b.0 in (λ e. absurd (omega arith)))) c) a.0
absent_replaced (n ∷ ns) (suc k) new made l b a c =
    let at : slice_index ns k ≢ n = each_at (λ m. m ≢ n) ns k 0 (omega arith) a.0 in
    ((λ e. at (sym e)), absent_replaced ns k new made (omega arith) b.1 a.1 c)

pub numbers_replaced : (ns : List ℕ) (k made n : ℕ) → AreNumbers ns made → AreNumbers (replaced ns k (numbers_from made n)) (made + n)
numbers_replaced ns k made n h = record {
  below = each_replaced (λ m. m < made + n) ns k (numbers_from made n) (each_weaker (λ m. m < made) (λ m. m < made + n) ns (λ m l. omega arith) h.below)
      (each_listed (λ m. m < made + n) n (λ o. made + o) (λ o l. omega arith));
  apart = apart_replaced ns k (numbers_from made n) made h.below h.apart (above_listed made n) (apart_listed made n);
}

pub numbers_absent : (ns : List ℕ) (k made n : ℕ) → k < length ns → AreNumbers ns made → EachOf (λ m. m ≢ slice_index ns k) (replaced ns k (numbers_from made n))
numbers_absent ns k made n l h = absent_replaced ns k (numbers_from made n) made l h.below h.apart (above_listed made n)

pub number_below : (ns : List ℕ) (k made : ℕ) → k < length ns → AreNumbers ns made → slice_index ns k < made
number_below ns k made l h = each_at (λ m. m < made) ns k 0 l h.below

-- nor is it one of the new numbers
pub new_absent : (ns : List ℕ) (k made n : ℕ) → k < length ns → AreNumbers ns made → EachOf (λ m. m ≢ slice_index ns k) (numbers_from made n)
new_absent ns k made n l h =
    let b = number_below ns k made l h in
    each_weaker (λ m. made ≤ m) (λ m. m ≢ slice_index ns k) (numbers_from made n) (λ m u. (λ e. absurd (omega arith))) (above_listed made n)
