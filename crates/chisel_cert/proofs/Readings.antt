-- What holds of what is read, and what words and numbers are read from.
use Rattle.std.proofs.Common.{◌≡◌, ℕ, zero, suc, ◌^◌, ◌<◌, Bool, true, false, List, [], ◌∷◌, ◌++◌, length, take, drop, get_or, Option, Some, None, Ok, Err, refl, sym, ap, ◌∙◌, subst, arith, append_assoc, take-append-drop}
use Rattle.std.specs.Prelude.{codes, decimal, if◌then◌else◌}
use Rattle.std.specs.List.{prefix_len, AllByRecursion}
use Rattle.std.proofs.lemmas.List.{take_at, drop_at}
use Rattle.std.proofs.lemmas.Fmt.{decimal_is_IsNumeral_wide}
use Rattle.std.proofs.lemmas.Slice.Eq.{bytes_eq-Decides}
use Rattle.rely_num.specs.Texts.{Bytes, is_digit, same_text}
use Rattle.chisel_cert.specs.declared.fault.CertFault.{CertFault}
use Rattle.chisel_cert.specs.Ranges.{IsBetween}
use Rattle.chisel_cert.specs.State.{State, Reading, ◌>>=◌, choose, formless, with_text, next_line, skip_at, line_end_at, number_between, numbered, number_at, Read, each_at}
use Rattle.chisel_cert.proofs.Numbers.{between_says, decimal_between, prefix_len-digits}

-- ---- readings

-- what is read has the property, if something is
pub record On {A : Type 0} (r : Reading A) (P : A → Type 0) : Type 0 where
  pub at : (a : A) → r ≡ Ok a → P a

pub on-ok : {A : Type 0} (P : A → Type 0) (a : A) → P a → On (Ok a) P
on-ok P a p = record { at = λ b e. let same : a ≡ b = cc in subst P same p }

pub on-err : {A : Type 0} (P : A → Type 0) (e : CertFault) → On (Err e) P
on-err P e = record { at = λ b q. absurd (cc) }

-- one reader behind another
pub on-then : {A B : Type 0} {P : A → Type 0} (r : Reading A) (next : A → Reading B) (Q : B → Type 0) →
    On r P → ((a : A) → P a → On (next a) Q) → On (r >>= next) Q
on-then (Ok a) next Q h k = k a (h.at a refl)
on-then (Err e) next Q h k = on-err Q e

-- one reader, or another
pub on-choose : {A B : Type 0} {P : A → Type 0} (r : Reading A) (read : A → Reading B) (other : Reading B) (Q : B → Type 0) →
    On r P → ((a : A) → P a → On (read a) Q) → On other Q → On (choose r read other) Q
on-choose (Ok a) read other Q h k o = k a (h.at a refl)
on-choose (Err e) read other Q h k o = o

-- what else follows
pub on-map : {A : Type 0} {P : A → Type 0} (r : Reading A) (Q : A → Type 0) → On r P → ((a : A) → P a → Q a) → On r Q
on-map r Q h k = record { at = λ a e. k a (h.at a e) }

-- one of two, by a test
pub on-if : {A : Type 0} (b : Bool) (x y : Reading A) (Q : A → Type 0) → (b ≡ true → On x Q) → (b ≡ false → On y Q) → On (if b then x else y) Q
on-if true x y Q p q = p refl
on-if false x y Q p q = q refl

-- what one reader reads, and then another
pub then-ok : {A B : Type 0} (r : Reading A) (next : A → Reading B) (a : A) (b : Reading B) → r ≡ Ok a → next a ≡ b → (r >>= next) ≡ b
then-ok r next a b e f = ap (λ o. o >>= next) e ∙ f

-- ---- what stands between two states

-- the bytes between two states, and a fact of what is read there; the counts stay
pub record Says (text : Bytes) (P : Type 0) (s r : State) : Type 0 where
  pub is : s.text ≡ text ++ r.text
  pub wanted : r.wanted ≡ s.wanted
  pub left : r.left ≡ s.left
  pub fact : P

infixl 20 ◌⨾◌
pub ◌⨾◌ : {t u : Bytes} {P Q : Type 0} {s r q : State} → Says t P s r → Says u Q r q → Says (t ++ u) (P × Q) s q
◌⨾◌ {t} {u} {q = q} a b = record {
  is = a.is ∙ ap (λ l. t ++ l) b.is ∙ sym (append_assoc t u q.text);
  wanted = b.wanted ∙ a.wanted;
  left = b.left ∙ a.left;
  fact = (a.fact, b.fact);
}

pub says-as : {t u : Bytes} {P Q : Type 0} {s r : State} → Says t P s r → t ≡ u → (P → Q) → Says u Q s r
says-as {s = s} {r = r} a same f = record { is = a.is ∙ ap (λ l. l ++ r.text) same; wanted = a.wanted; left = a.left; fact = f a.fact }

pub says-none : (s : State) → Says [] (Unit {0}) s s
says-none s = record { is = refl; wanted = refl; left = refl; fact = tt }

-- ---- words

pub skip-says : (word : Bytes) (s : State) → On (skip_at word s) (λ a. Says word (Unit {0}) s a)
unfolding skip_at
skip-says word s =
    on-if (same_text (take (length word) s.text) word) _ _ _
    (λ e. on-ok _ _ (record {
      is = sym (take-append-drop (length word) s.text) ∙ ap (λ l. l ++ drop (length word) s.text) ((bytes_eq-Decides (take (length word) s.text) word).0 e);
      wanted = refl;
      left = refl;
      fact = tt;
    }))
    (λ _. on-err _ _)

pub line_end-says : (s : State) → On (line_end_at s) (λ a. Says (codes "\n") (Unit {0}) s a)
unfolding line_end_at
line_end-says s = on-then (skip_at (codes "\n") s) _ _ (skip-says (codes "\n") s) (λ a h. on-ok _ _ (record { is = h.is; wanted = h.wanted; left = h.left; fact = tt }))

pub skip-reads : (word more : Bytes) (s : State) → s.text ≡ word ++ more → skip_at word s ≡ Ok (with_text s more)
unfolding skip_at
skip-reads word more s h =
    let front : take (length word) s.text ≡ word = ap (take (length word)) h ∙ take_at word more (length word) refl in
    let rest : drop (length word) s.text ≡ more = ap (drop (length word)) h ∙ drop_at word more (length word) refl in
    ap (λ b. if b then Ok (with_text s (drop (length word) s.text)) else Err (formless s)) ((bytes_eq-Decides (take (length word) s.text) word).1 front)
    ∙ ap (λ l. Ok (with_text s l)) rest

-- another word stands there
pub skip-refused : (word : Bytes) (s : State) → ((more : Bytes) → s.text ≡ word ++ more → ⊥) → skip_at word s ≡ Err (formless s)
unfolding skip_at
skip-refused word s other = go (same_text (take (length word) s.text) word) refl
  where
    go : (b : Bool) → same_text (take (length word) s.text) word ≡ b → (if b then Ok (with_text s (drop (length word) s.text)) else Err (formless s)) ≡ Err (formless s)
    go false e = refl
    go true e =
        absurd (other (drop (length word) s.text)
        (sym (take-append-drop (length word) s.text) ∙ ap (λ l. l ++ drop (length word) s.text) ((bytes_eq-Decides (take (length word) s.text) word).0 e)))

-- another byte stands first
pub skip-other : (byte : ℕ) (word : Bytes) (s : State) → (get_or s.text 0 0 ≡ byte → ⊥) → skip_at (byte ∷ word) s ≡ Err (formless s)
skip-other byte word s other = skip-refused (byte ∷ word) s (λ more e. other (ap (λ l. get_or l 0 0) e))

pub line_end-reads : (more : Bytes) (s : State) → s.text ≡ codes "\n" ++ more → line_end_at s ≡ Ok (next_line (with_text s more))
unfolding line_end_at
line_end-reads more s h = then-ok (skip_at (codes "\n") s) _ _ _ (skip-reads (codes "\n") more s h) refl

-- ---- numbers

pub number-says : (first last : ℕ) (s : State) → On (number_at first last s) (λ x. Says (decimal x.0) (IsBetween first last x.0) s x.1)
unfolding number_at
number-says first last s =
    let size = prefix_len is_digit s.text in
    go (number_between first last (take size s.text)) refl
  where
    go : (o : Option ℕ) → number_between first last (take (prefix_len is_digit s.text) s.text) ≡ o →
        On (numbered s (prefix_len is_digit s.text) o) (λ x. Says (decimal x.0) (IsBetween first last x.0) s x.1)
    go None e = on-err _ _
    go (Some n) e =
        let size = prefix_len is_digit s.text in
        let says = between_says first last (take size s.text) n e in
        on-ok _ _ (record {
          is = sym (take-append-drop size s.text) ∙ ap (λ l. l ++ drop size s.text) says.3;
          wanted = refl;
          left = refl;
          fact = (says.1, says.2);
        })

pub number-reads : (first last n : ℕ) (more : Bytes) (s : State) → IsBetween first last n → last < 10 ^ 64 → is_digit (get_or more 0 0) ≡ false →
    s.text ≡ decimal n ++ more → number_at first last s ≡ Ok (n, with_text s more)
unfolding number_at
number-reads first last n more s between fits none h =
    let size : prefix_len is_digit s.text ≡ length (decimal n) =
    ap (prefix_len is_digit) h ∙ prefix_len-digits (decimal n) more (decimal_is_IsNumeral_wide n (omega arith)).0.1 none in
    let front : take (prefix_len is_digit s.text) s.text ≡ decimal n = ap (λ k. take k s.text) size ∙ ap (take (length (decimal n))) h ∙ take_at (decimal n) more _ refl in
    let rest : drop (prefix_len is_digit s.text) s.text ≡ more = ap (λ k. drop k s.text) size ∙ ap (drop (length (decimal n))) h ∙ drop_at (decimal n) more _ refl in
    ap (numbered s (prefix_len is_digit s.text)) (ap (number_between first last) front ∙ decimal_between first last n between.0 between.1 fits)
    ∙ ap (λ l. Ok (n, with_text s l)) rest

-- ---- what a text is read as

-- this is read from the text, and what is left behind it; the counts stay
pub record Reads {A : Type 0} (o : Reading (A × State)) (a : A) (more : Bytes) (s : State) : Type 0 where
  pub rest : State
  pub is : o ≡ Ok (a, rest)
  pub text : rest.text ≡ more
  pub wanted : rest.wanted ≡ s.wanted
  pub left : rest.left ≡ s.left

pub reads-ok : {A : Type 0} (a : A) (more : Bytes) (s : State) → s.text ≡ more → Reads (Ok (a, s)) a more s
reads-ok a more s h = record { rest = s; is = refl; text = h; wanted = refl; left = refl }

-- one reader behind another
pub reads-then : {A B : Type 0} {a : A} {between : Bytes} (o : Reading (A × State)) (next : A × State → Reading (B × State)) (b : B) (more : Bytes) (s : State) →
    Reads o a between s → ((r : State) → r.text ≡ between → Reads (next (a, r)) b more r) → Reads (o >>= next) b more s
reads-then o next b more s h k =
    let n = k h.rest h.text in
    record { rest = n.rest; is = ap (λ x. x >>= next) h.is ∙ n.is; text = n.text; wanted = n.wanted ∙ h.wanted; left = n.left ∙ h.left }

pub reads-skip : {B : Type 0} (word between : Bytes) (next : State → Reading (B × State)) (b : B) (more : Bytes) (s : State) → s.text ≡ word ++ between →
    ((r : State) → r.text ≡ between → Reads (next r) b more r) → Reads (skip_at word s >>= next) b more s
reads-skip word between next b more s h k =
    let n = k (with_text s between) refl in
    record { rest = n.rest; is = ap (λ x. x >>= next) (skip-reads word between s h) ∙ n.is; text = n.text; wanted = n.wanted; left = n.left }

-- the word stands there
pub reads-choose : {B : Type 0} (word between : Bytes) (read : State → Reading (B × State)) (other : Reading (B × State)) (b : B) (more : Bytes) (s : State) → s.text ≡ word ++ between →
    ((r : State) → r.text ≡ between → Reads (read r) b more r) → Reads (choose (skip_at word s) read other) b more s
reads-choose word between read other b more s h k =
    let n = k (with_text s between) refl in
    record { rest = n.rest; is = ap (λ x. choose x read other) (skip-reads word between s h) ∙ n.is; text = n.text; wanted = n.wanted; left = n.left }

-- another stands there
pub reads-other : {A B : Type 0} (r : Reading A) (read : A → Reading (B × State)) (other : Reading (B × State)) (e : CertFault) (b : B) (more : Bytes) (s : State) → r ≡ Err e →
    Reads other b more s → Reads (choose r read other) b more s
reads-other r read other e b more s h n =
    record { rest = n.rest; is = ap (λ x. choose x read other) h ∙ n.is; text = n.text; wanted = n.wanted; left = n.left }

pub reads-end : {B : Type 0} (between : Bytes) (next : State → Reading (B × State)) (b : B) (more : Bytes) (s : State) → s.text ≡ codes "\n" ++ between →
    ((r : State) → r.text ≡ between → Reads (next r) b more r) → Reads (line_end_at s >>= next) b more s
reads-end between next b more s h k =
    let n = k (next_line (with_text s between)) refl in
    record { rest = n.rest; is = ap (λ x. x >>= next) (line_end-reads between s h) ∙ n.is; text = n.text; wanted = n.wanted; left = n.left }

pub reads-number : (first last n : ℕ) (more : Bytes) (s : State) → IsBetween first last n → last < 10 ^ 64 → is_digit (get_or more 0 0) ≡ false →
    s.text ≡ decimal n ++ more → Reads (number_at first last s) n more s
reads-number first last n more s between fits none h =
    record { rest = with_text s more; is = number-reads first last n more s between fits none h; text = refl; wanted = refl; left = refl }

-- ---- items in order

pub each-says : {A : Type 0} (item : Read A) (text : A → Bytes) (all : List A → Bytes) (P : A → Type 0) → all [] ≡ [] → ((x : A) (xs : List A) → all (x ∷ xs) ≡ text x ++ all xs) →
    ((s : State) → On (item s) (λ x. Says (text x.0) (P x.0) s x.1)) → (n : ℕ) (s : State) →
    On (each_at item n s) (λ x. Says (all x.0) ((length x.0 ≡ n) × AllByRecursion P x.0) s x.1)
unfolding each_at
each-says item text all P none more h zero s = on-ok _ _ (says-as (says-none s) (sym none) (λ _. (refl, tt)))
each-says item text all P none more h (suc n) s =
    on-then (item s) _ _ (h s) (λ x p. on-then (each_at item n x.1) _ _ (each-says item text all P none more h n x.1) (λ y q.
    on-ok _ _ (says-as (p ⨾ q) (sym (more x.0 y.0)) (λ f. (let e = f.1.0 in omega arith, (f.0, f.1.1))))))

-- each item is read where what stands behind it is such
pub each-reads : {A : Type 0} (item : Read A) (text : A → Bytes) (all : List A → Bytes) (P : A → Type 0) (C : Bytes → Type 0) → all [] ≡ [] →
    ((x : A) (xs : List A) → all (x ∷ xs) ≡ text x ++ all xs) → ((xs : List A) (more : Bytes) → C more → C (all xs ++ more)) →
    ((x : A) (more : Bytes) (s : State) → P x → C more → s.text ≡ text x ++ more → Reads (item s) x more s) →
    (xs : List A) (more : Bytes) (s : State) → AllByRecursion P xs → C more → s.text ≡ all xs ++ more → Reads (each_at item (length xs) s) xs more s
unfolding each_at
each-reads item text all P C none cons keeps h [] more s p c e = reads-ok [] more s (e ∙ ap (λ l. l ++ more) none)
each-reads item text all P C none cons keeps h (x ∷ xs) more s p c e =
    reads-then (item s) _ (x ∷ xs) more s (h x (all xs ++ more) s p.0 (keeps xs more c) (e ∙ ap (λ l. l ++ more) (cons x xs) ∙ append_assoc (text x) (all xs) more))
    (λ r t. reads-then (each_at item (length xs) r) _ (x ∷ xs) more r (each-reads item text all P C none cons keeps h xs more r p.1 c t)
    (λ q u. reads-ok (x ∷ xs) more q u))
