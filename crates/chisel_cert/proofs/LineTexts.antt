-- The lines before the tree: what is read is their text, and their text is read.
use Rattle.std.proofs.Common.{◌≡◌, ℕ, zero, suc, ◌-◌, ◌^◌, ◌<◌, ◌≤◌, Bool, true, false, List, [], ◌∷◌, ◌++◌, length, get_or, Option, Some, None, Err, refl, sym, ap, ◌∙◌, arith, append_assoc}
use Rattle.std.specs.Prelude.{codes, decimal, ℤ, pos, neg_ℤ, ◌≤ℤ◌}
use lib.IntN.{negsuc}
use Rattle.std.specs.Fmt.{signed_decimal}
use Rattle.std.specs.List.{AllByRecursion}
use Rattle.rely_num.specs.Texts.{Bytes, is_digit}
use Rattle.chisel_cert.specs.declared.cert.Restated.{Restated}
use Rattle.chisel_cert.specs.declared.limits.TheConstants.{LAST_VERSION, MOST_DECISIONS, MOST_ROWS, LAST_OPTION, MOST_ENERGY, MOST_DEFICIT, MOST_DEBITS, MOST_MULTIPLIER, MOST_VECTORS}
use Rattle.chisel_cert.specs.Text.{spaced, listed, optional, version_line, size_line, choice_line, energy_line, row_line, row_lines, pool_line, vector_line, vector_lines, pool_lines}
use Rattle.chisel_cert.specs.Ranges.{IsBetween, AreUpTo, IsChosen, IsGiven, IsRestated, IsMultipliers}
use Rattle.chisel_cert.specs.State.{State, formless, skip_at, line_end_at, number_at, each_at}
use Rattle.chisel_cert.specs.Lines.{labelled_at, number_line_at, counted_line_at, spaced_at, listed_at, given_at, given_line_at, signed_at, version_line_at, size_line_at, options_line_at, choice_line_at, energy_line_at, row_line_at, pool_line_at, vector_line_at, vectors_at}
use Rattle.std.proofs.lemmas.Int.{ints}
use Rattle.chisel_cert.proofs.Numbers.{decimal-digit}
use Rattle.chisel_cert.proofs.Readings.{skip-refused, skip-other, On, on-ok, on-then, on-choose, on-map, Says, ◌⨾◌, says-as, skip-says, line_end-says, number-says, each-says, Reads, reads-ok, reads-then, reads-skip, reads-choose, reads-other, reads-end, reads-number, each-reads}

-- ---- what is read is the text

-- the end of a line joins its front
pub joins : (a b c d : Bytes) → a ++ (b ++ c ++ d) ≡ a ++ b ++ c ++ d
joins a b c d = simp append_assoc

pub labelled-says : (word : Bytes) (first last : ℕ) (s : State) →
    On (labelled_at word first last s) (λ x. Says (word ++ decimal x.0) (IsBetween first last x.0) s x.1)
unfolding labelled_at
labelled-says word first last s =
    on-then (skip_at word s) _ _ (skip-says word s) (λ a p. on-map (number_at first last a) _ (number-says first last a) (λ x q.
    says-as (p ⨾ q) refl (λ f. f.1)))

pub number_line-says : (first last : ℕ) (s : State) →
    On (number_line_at first last s) (λ x. Says (decimal x.0 ++ codes "\n") (IsBetween first last x.0) s x.1)
unfolding number_line_at
number_line-says first last s =
    on-then (number_at first last s) _ _ (number-says first last s) (λ x p.
    on-then (line_end_at x.1) _ _ (line_end-says x.1) (λ a q. on-ok _ _ (says-as (p ⨾ q) refl (λ f. f.0))))

pub counted_line-says : (word : Bytes) (first last : ℕ) (s : State) →
    On (counted_line_at word first last s) (λ x. Says (word ++ decimal x.0 ++ codes "\n") (IsBetween first last x.0) s x.1)
unfolding counted_line_at
counted_line-says word first last s =
    on-then (skip_at word s) _ _ (skip-says word s) (λ a p. on-map (number_line_at first last a) _ (number_line-says first last a) (λ x q.
    says-as (p ⨾ q) (sym (append_assoc word (decimal x.0) (codes "\n"))) (λ f. f.1)))

pub spaced-says : (last : ℕ) (s : State) → On (spaced_at last s) (λ x. Says (codes " " ++ decimal x.0) (x.0 ≤ last) s x.1)
unfolding spaced_at
spaced-says last s =
    on-then (skip_at (codes " ") s) _ _ (skip-says (codes " ") s) (λ a p. on-map (number_at 0 last a) _ (number-says 0 last a) (λ x q.
    says-as (p ⨾ q) refl (λ f. f.1.1)))

pub all_spaced-says : (last n : ℕ) (s : State) → On (each_at (spaced_at last) n s) (λ x. Says (spaced x.0) (AreUpTo last n x.0) s x.1)
all_spaced-says last = each-says (spaced_at last) (λ n. codes " " ++ decimal n) spaced (λ n. n ≤ last) refl (λ n ns. refl) (spaced-says last)

listed-says : (last size : ℕ) → 1 ≤ size → (s : State) → On (listed_at last size s) (λ x. Says (listed x.0) (AreUpTo last size x.0) s x.1)
unfolding listed_at
listed-says last size some s =
    on-then (number_at 0 last s) _ _ (number-says 0 last s) (λ x p. on-then (each_at (spaced_at last) (size - 1) x.1) _ _ (all_spaced-says last (size - 1) x.1) (λ y q.
    on-ok _ _ (says-as (p ⨾ q) refl (λ f. (let e = f.1.0 in omega arith, (f.0.1, f.1.1))))))

given-says : (last : ℕ) (wanted : Bool) (s : State) → On (given_at last wanted s) (λ x. Says (optional x.0) (IsGiven last wanted x.0) s x.1)
unfolding given_at
given-says last true s = on-then (number_at 0 last s) _ _ (number-says 0 last s) (λ x p. on-ok _ _ (says-as p refl (λ f. f.1)))
given-says last false s = on-then (skip_at (codes "none") s) _ _ (skip-says (codes "none") s) (λ a p. on-ok _ _ p)

-- a budget in range
abbrev IsBudget : ℤ → Type 0
IsBudget b = (neg_ℤ (pos MOST_DEFICIT) ≤ℤ b) × (b ≤ℤ pos MOST_DEBITS)

negative-says : (n : ℕ) → IsBetween 1 MOST_DEFICIT n → (signed_decimal (neg_ℤ (pos n)) ≡ codes "-" ++ decimal n) × IsBudget (neg_ℤ (pos n))
negative-says zero h = absurd (let l = h.0 in omega arith)
negative-says (suc n) h = (refl, (omega (arith, ints, h.1), omega (arith, ints)))

signed-says : (s : State) → On (signed_at s) (λ x. Says (signed_decimal x.0) (IsBudget x.0) s x.1)
unfolding signed_at
signed-says s =
    on-choose (skip_at (codes "-") s) _ _ _ (skip-says (codes "-") s)
    (λ a p. on-then (number_at 1 MOST_DEFICIT a) _ _ (number-says 1 MOST_DEFICIT a) (λ x q.
    on-ok _ _ (says-as (p ⨾ q) (sym (negative-says x.0 q.fact).0) (λ f. (negative-says x.0 f.1).1))))
    (on-then (number_at 0 MOST_DEBITS s) _ _ (number-says 0 MOST_DEBITS s) (λ x q. on-ok _ _ (says-as q refl (λ f. (omega (arith, ints), omega (arith, ints, f.1))))))

given_line-says : (word : Bytes) (last : ℕ) (wanted : Bool) (s : State) →
    On (given_line_at word last wanted s) (λ x. Says (word ++ optional x.0 ++ codes "\n") (IsGiven last wanted x.0) s x.1)
unfolding given_line_at
given_line-says word last wanted s =
    on-then (skip_at word s) _ _ (skip-says word s) (λ a p. on-then (given_at last wanted a) _ _ (given-says last wanted a) (λ x q.
    on-then (line_end_at x.1) _ _ (line_end-says x.1) (λ b r. on-ok _ _ (says-as (p ⨾ q ⨾ r) refl (λ f. f.0.1)))))

pub version-says : (s : State) → On (version_line_at s) (λ x. Says (version_line x.0) (IsBetween 1 LAST_VERSION x.0) s x.1)
unfolding version_line_at
version-says s = counted_line-says (codes "chisel ") 1 LAST_VERSION s

pub size-says : (s : State) → On (size_line_at s) (λ x. Says (size_line x.0.0 x.0.1) (IsBetween 1 MOST_DECISIONS x.0.0 × IsBetween 1 MOST_ROWS x.0.1) s x.1)
unfolding size_line_at
size-says s =
    on-then (labelled_at (codes "size ") 1 MOST_DECISIONS s) _ _ (labelled-says (codes "size ") 1 MOST_DECISIONS s) (λ d p.
    on-then (counted_line_at (codes " ") 1 MOST_ROWS d.1) _ _ (counted_line-says (codes " ") 1 MOST_ROWS d.1) (λ x q.
    on-ok _ _ (says-as (p ⨾ q) (joins (codes "size " ++ decimal d.0) (codes " ") (decimal x.0) (codes "\n")) (λ f. f))))

options-says : (decisions : ℕ) (s : State) → On (options_line_at decisions s) (λ x. Says (choice_line (Some x.0)) (AreUpTo LAST_OPTION decisions x.0) s x.1)
unfolding options_line_at
options-says decisions s =
    on-then (skip_at (codes "choice") s) _ _ (skip-says (codes "choice") s) (λ a p.
    on-then (each_at (spaced_at LAST_OPTION) decisions a) _ _ (all_spaced-says LAST_OPTION decisions a) (λ x q.
    on-then (line_end_at x.1) _ _ (line_end-says x.1) (λ b r. on-ok _ _ (says-as (p ⨾ q ⨾ r) refl (λ f. f.0.1)))))

pub choice-says : (decisions : ℕ) (s : State) → On (choice_line_at decisions s) (λ x. Says (choice_line x.0) (IsChosen decisions x.0) s x.1)
unfolding choice_line_at
choice-says decisions s =
    on-choose (skip_at (codes "choice none") s) _ _ _ (skip-says (codes "choice none") s)
    (λ a p. on-then (line_end_at a) _ _ (line_end-says a) (λ b q. on-ok _ _ (says-as (p ⨾ q) refl (λ f. tt))))
    (on-then (options_line_at decisions s) _ _ (options-says decisions s) (λ x p. on-ok _ _ p))

pub energy-says : (chosen : Bool) (s : State) → On (energy_line_at chosen s) (λ x. Says (energy_line x.0) (IsGiven MOST_ENERGY chosen x.0) s x.1)
unfolding energy_line_at
energy-says chosen s = given_line-says (codes "energy ") MOST_ENERGY chosen s

row-says : (chosen : Bool) (s : State) → On (row_line_at chosen s) (λ x. Says (row_line x.0) (IsRestated chosen x.0) s x.1)
unfolding row_line_at
row-says chosen s =
    on-then (skip_at (codes "row ") s) _ _ (skip-says (codes "row ") s) (λ a p. on-then (signed_at a) _ _ (signed-says a) (λ b q.
    on-then (given_line_at (codes " ") MOST_DEBITS chosen b.1) _ _ (given_line-says (codes " ") MOST_DEBITS chosen b.1) (λ u r.
    on-ok _ _ (says-as (p ⨾ q ⨾ r) (joins (codes "row " ++ signed_decimal b.0) (codes " ") (optional u.0) (codes "\n"))
    (λ f. record { least = f.0.1.0; greatest = f.0.1.1; spent = f.1 })))))

pub rows-says : (chosen : Bool) (n : ℕ) (s : State) → On (each_at (row_line_at chosen) n s) (λ x. Says (row_lines x.0) ((length x.0 ≡ n) × AllByRecursion (IsRestated chosen) x.0) s x.1)
rows-says chosen = each-says (row_line_at chosen) row_line row_lines (IsRestated chosen) refl (λ row rows. refl) (row-says chosen)

pool-says : (s : State) → On (pool_line_at s) (λ x. Says (pool_line x.0) (IsBetween 1 MOST_VECTORS x.0) s x.1)
unfolding pool_line_at
pool-says s = counted_line-says (codes "pool ") 1 MOST_VECTORS s

vector-says : (rows : ℕ) → 1 ≤ rows → (s : State) → On (vector_line_at rows s) (λ x. Says (vector_line x.0) (IsMultipliers rows x.0) s x.1)
unfolding vector_line_at
vector-says rows some s =
    on-then (listed_at MOST_MULTIPLIER rows s) _ _ (listed-says MOST_MULTIPLIER rows some s) (λ x p. on-then (line_end_at x.1) _ _ (line_end-says x.1) (λ a q.
    on-ok _ _ (says-as (p ⨾ q) refl (λ f. f.0))))

pub vectors-says : (rows : ℕ) → 1 ≤ rows → (s : State) → On (vectors_at rows s)
    (λ x. Says (pool_lines x.0) (IsBetween 1 MOST_VECTORS (length x.0) × AllByRecursion (IsMultipliers rows) x.0) s x.1)
unfolding vectors_at
vectors-says rows some s =
    on-then (pool_line_at s) _ _ (pool-says s) (λ n p.
    on-map (each_at (vector_line_at rows) n.0 n.1) _ (each-says (vector_line_at rows) vector_line vector_lines (IsMultipliers rows) refl (λ v vs. refl) (vector-says rows some) n.0 n.1) (λ x q.
    says-as (p ⨾ q) (ap (λ k. pool_line k ++ vector_lines x.0) (sym q.fact.0)) (λ f. (rw (sym f.1.0) at f.0, f.1.1))))

-- ---- the text is read

-- no digit stands first
abbrev pub NoDigit : Bytes → Type 0
NoDigit text = is_digit (get_or text 0 0) ≡ false

spaced-no_digit : (ns : List ℕ) (more : Bytes) → NoDigit more → NoDigit (spaced ns ++ more)
spaced-no_digit [] more h = h
spaced-no_digit (n ∷ ns) more h = refl

labelled-reads : (word : Bytes) (first last n : ℕ) (more : Bytes) (s : State) → IsBetween first last n → last < 10 ^ 64 → NoDigit more →
    s.text ≡ word ++ (decimal n ++ more) → Reads (labelled_at word first last s) n more s
unfolding labelled_at
labelled-reads word first last n more s range fits none h =
    reads-skip word (decimal n ++ more) (λ a. number_at first last a) n more s h (λ r t. reads-number first last n more r range fits none t)

pub number_line-reads : (first last n : ℕ) (more : Bytes) (s : State) → IsBetween first last n → last < 10 ^ 64 →
    s.text ≡ decimal n ++ (codes "\n" ++ more) → Reads (number_line_at first last s) n more s
unfolding number_line_at
number_line-reads first last n more s range fits h =
    reads-then (number_at first last s) _ n more s (reads-number first last n (codes "\n" ++ more) s range fits refl h) (λ a p.
    reads-end more _ n more a p (λ b q. reads-ok n more b q))

pub counted_line-reads : (word : Bytes) (first last n : ℕ) (more : Bytes) (s : State) → IsBetween first last n → last < 10 ^ 64 →
    s.text ≡ word ++ (decimal n ++ (codes "\n" ++ more)) → Reads (counted_line_at word first last s) n more s
unfolding counted_line_at
counted_line-reads word first last n more s range fits h =
    reads-skip word (decimal n ++ (codes "\n" ++ more)) (λ a. number_line_at first last a) n more s h (λ r t.
    number_line-reads first last n more r range fits t)

spaced-reads : (last n : ℕ) (more : Bytes) (s : State) → last < 10 ^ 64 → n ≤ last → NoDigit more → s.text ≡ codes " " ++ decimal n ++ more → Reads (spaced_at last s) n more s
unfolding spaced_at
spaced-reads last n more s fits high none h =
    reads-skip (codes " ") (decimal n ++ more) (λ a. number_at 0 last a) n more s h (λ r t. reads-number 0 last n more r (omega arith, high) fits none t)

pub all_spaced-reads : (last : ℕ) (ns : List ℕ) (more : Bytes) (s : State) → last < 10 ^ 64 → AllByRecursion (λ n. n ≤ last) ns → NoDigit more → s.text ≡ spaced ns ++ more →
    Reads (each_at (spaced_at last) (length ns) s) ns more s
all_spaced-reads last ns more s fits all none h =
    each-reads (spaced_at last) (λ n. codes " " ++ decimal n) spaced (λ n. n ≤ last) NoDigit refl (λ n ns. refl) spaced-no_digit
    (λ n m r p q e. spaced-reads last n m r fits p q e) ns more s all none h

listed-reads : (last size : ℕ) (ns : List ℕ) (more : Bytes) (s : State) → last < 10 ^ 64 → 1 ≤ size → AreUpTo last size ns → NoDigit more → s.text ≡ listed ns ++ more →
    Reads (listed_at last size s) ns more s
unfolding listed_at
listed-reads last size [] more s fits some all none h = absurd (let e = all.0 in omega arith)
listed-reads last size (n ∷ ns) more s fits some all none h =
    let rest : size - 1 ≡ length ns = let e = all.0 in omega arith in
    reads-then (number_at 0 last s) _ (n ∷ ns) more s
    (reads-number 0 last n (spaced ns ++ more) s (omega arith, all.1.0) fits (spaced-no_digit ns more none) (h ∙ append_assoc (decimal n) (spaced ns) more))
    (λ r t. reads-then (each_at (spaced_at last) (size - 1) r) _ (n ∷ ns) more r (rw rest (all_spaced-reads last ns more r fits all.1.1 none t))
    (λ q u. reads-ok (n ∷ ns) more q u))

given-reads : (last : ℕ) (wanted : Bool) (number : Option ℕ) (more : Bytes) (s : State) → last < 10 ^ 64 → IsGiven last wanted number → NoDigit more → s.text ≡ optional number ++ more →
    Reads (given_at last wanted s) number more s
unfolding given_at
given-reads last true (Some n) more s fits h none e =
    reads-then (number_at 0 last s) _ (Some n) more s (reads-number 0 last n more s (omega arith, h) fits none e) (λ r t. reads-ok (Some n) more r t)
given-reads last true None more s fits h none e = absurd h
given-reads last false (Some n) more s fits h none e = absurd h
given-reads last false None more s fits h none e = reads-skip (codes "none") more _ None more s e (λ r t. reads-ok None more r t)

signed-reads : (b : ℤ) (more : Bytes) (s : State) → IsBudget b → NoDigit more → s.text ≡ signed_decimal b ++ more → Reads (signed_at s) b more s
unfolding signed_at
signed-reads (pos n) more s range none h =
    let few : n ≤ MOST_DEBITS = omega (arith, ints, range.1) in
    let digit = decimal-digit n more (omega arith) in
    reads-other (skip_at (codes "-") s) _ _ (formless s) (pos n) more s
    (skip-other 45 [] s (λ sign. omega (arith, digit.0, sym (ap (λ l. get_or l 0 0) h) ∙ sign)))
    (reads-then (number_at 0 MOST_DEBITS s) _ (pos n) more s (reads-number 0 MOST_DEBITS n more s (omega arith, few) (omega arith) none h) (λ r t. reads-ok (pos n) more r t))
signed-reads (negsuc n) more s range none h =
    let few : suc n ≤ MOST_DEFICIT = omega (arith, ints, range.0) in
    reads-choose (codes "-") (decimal (suc n) ++ more) _ _ (negsuc n) more s h (λ r t.
    reads-then (number_at 1 MOST_DEFICIT r) _ (negsuc n) more r (reads-number 1 MOST_DEFICIT (suc n) more r (omega arith, few) (omega arith) none t) (λ q u. reads-ok (negsuc n) more q u))

given_line-reads : (word : Bytes) (last : ℕ) (wanted : Bool) (number : Option ℕ) (more : Bytes) (s : State) → last < 10 ^ 64 → IsGiven last wanted number →
    s.text ≡ word ++ (optional number ++ (codes "\n" ++ more)) → Reads (given_line_at word last wanted s) number more s
unfolding given_line_at
given_line-reads word last wanted number more s fits given h =
    reads-skip word _ _ number more s h (λ a p.
    reads-then (given_at last wanted a) _ number more a (given-reads last wanted number (codes "\n" ++ more) a fits given refl p) (λ b q.
    reads-end more _ number more b q (λ c r. reads-ok number more c r)))

pub version-reads : (v : ℕ) (more : Bytes) (s : State) → IsBetween 1 LAST_VERSION v → s.text ≡ version_line v ++ more → Reads (version_line_at s) v more s
unfolding version_line_at
version-reads v more s range h =
    let cut : s.text ≡ codes "chisel " ++ (decimal v ++ (codes "\n" ++ more)) = h ∙ simp append_assoc in
    counted_line-reads (codes "chisel ") 1 LAST_VERSION v more s range (omega arith) cut

pub size-reads : (d r : ℕ) (more : Bytes) (s : State) → IsBetween 1 MOST_DECISIONS d → IsBetween 1 MOST_ROWS r → s.text ≡ size_line d r ++ more → Reads (size_line_at s) (d, r) more s
unfolding size_line_at
size-reads d r more s decisions rows h =
    let cut : s.text ≡ codes "size " ++ (decimal d ++ (codes " " ++ (decimal r ++ (codes "\n" ++ more)))) = h ∙ simp append_assoc in
    reads-then (labelled_at (codes "size ") 1 MOST_DECISIONS s) _ (d, r) more s
    (labelled-reads (codes "size ") 1 MOST_DECISIONS d (codes " " ++ (decimal r ++ (codes "\n" ++ more))) s decisions (omega arith) refl cut) (λ a p.
    reads-then (counted_line_at (codes " ") 1 MOST_ROWS a) _ (d, r) more a (counted_line-reads (codes " ") 1 MOST_ROWS r more a rows (omega arith) p) (λ b q.
    reads-ok (d, r) more b q))

-- the word of a choice isn't the one of none
options-choice : (options : List ℕ) (more : Bytes) (s : State) → AllByRecursion (λ n. n ≤ LAST_OPTION) options → s.text ≡ choice_line (Some options) ++ more → 1 ≤ length options →
    skip_at (codes "choice none") s ≡ Err (formless s)
options-choice [] more s all h some = absurd (omega arith)
options-choice (n ∷ ns) more s all h some =
    let cut : s.text ≡ codes "choice " ++ (decimal n ++ (spaced ns ++ (codes "\n" ++ more))) = h ∙ simp append_assoc in
    let digit = decimal-digit n (spaced ns ++ (codes "\n" ++ more)) (omega (arith, all.0)) in
    skip-refused (codes "choice none") s (λ rest e. omega (arith, digit.1, sym (ap (λ l. get_or l 7 0) cut) ∙ ap (λ l. get_or l 7 0) e))

options-reads : (decisions : ℕ) (options : List ℕ) (more : Bytes) (s : State) → AreUpTo LAST_OPTION decisions options → s.text ≡ choice_line (Some options) ++ more →
    Reads (options_line_at decisions s) options more s
unfolding options_line_at
options-reads decisions options more s all h =
    let cut : s.text ≡ codes "choice" ++ (spaced options ++ (codes "\n" ++ more)) = h ∙ simp append_assoc in
    reads-skip (codes "choice") _ _ options more s cut (λ a p.
    reads-then (each_at (spaced_at LAST_OPTION) decisions a) _ options more a
    (rw (sym all.0) (all_spaced-reads LAST_OPTION options (codes "\n" ++ more) a (omega arith) all.1 refl p)) (λ b q.
    reads-end more _ options more b q (λ c r. reads-ok options more c r)))

pub choice-reads : (decisions : ℕ) (choice : Option (List ℕ)) (more : Bytes) (s : State) → 1 ≤ decisions → IsChosen decisions choice → s.text ≡ choice_line choice ++ more →
    Reads (choice_line_at decisions s) choice more s
unfolding choice_line_at
choice-reads decisions None more s some h e =
    let cut : s.text ≡ codes "choice none" ++ (codes "\n" ++ more) = e ∙ simp append_assoc in
    reads-choose (codes "choice none") _ _ _ None more s cut (λ a p. reads-end more _ None more a p (λ b q. reads-ok None more b q))
choice-reads decisions (Some options) more s some h e =
    reads-other (skip_at (codes "choice none") s) _ _ (formless s) (Some options) more s (options-choice options more s h.1 e (let l = h.0 in omega arith))
    (reads-then (options_line_at decisions s) _ (Some options) more s (options-reads decisions options more s h e) (λ a p. reads-ok (Some options) more a p))

pub energy-reads : (chosen : Bool) (energy : Option ℕ) (more : Bytes) (s : State) → IsGiven MOST_ENERGY chosen energy → s.text ≡ energy_line energy ++ more →
    Reads (energy_line_at chosen s) energy more s
unfolding energy_line_at
energy-reads chosen energy more s given h =
    let cut : s.text ≡ codes "energy " ++ (optional energy ++ (codes "\n" ++ more)) = h ∙ simp append_assoc in
    given_line-reads (codes "energy ") MOST_ENERGY chosen energy more s (omega arith) given cut

row-reads : (chosen : Bool) (row : Restated) (more : Bytes) (s : State) → IsRestated chosen row → s.text ≡ row_line row ++ more → Reads (row_line_at chosen s) row more s
unfolding row_line_at
row-reads chosen row more s range h =
    let cut : s.text ≡ codes "row " ++ (signed_decimal row.budget ++ (codes " " ++ (optional row.spent ++ (codes "\n" ++ more)))) = h ∙ simp append_assoc in
    reads-skip (codes "row ") _ _ row more s cut (λ a p.
    reads-then (signed_at a) _ row more a (signed-reads row.budget _ a (range.least, range.greatest) refl p) (λ b q.
    reads-then (given_line_at (codes " ") MOST_DEBITS chosen b) _ row more b (given_line-reads (codes " ") MOST_DEBITS chosen row.spent more b (omega arith) range.spent q) (λ c t.
    reads-ok row more c t)))

pub rows-reads : (chosen : Bool) (rows : List Restated) (more : Bytes) (s : State) → AllByRecursion (IsRestated chosen) rows → s.text ≡ row_lines rows ++ more →
    Reads (each_at (row_line_at chosen) (length rows) s) rows more s
rows-reads chosen rows more s all h =
    each-reads (row_line_at chosen) row_line row_lines (IsRestated chosen) (λ _. Unit {0}) refl (λ row rows. refl) (λ rows more c. tt)
    (λ row m r p q e. row-reads chosen row m r p e) rows more s all tt h

pool-reads : (n : ℕ) (more : Bytes) (s : State) → IsBetween 1 MOST_VECTORS n → s.text ≡ pool_line n ++ more → Reads (pool_line_at s) n more s
unfolding pool_line_at
pool-reads n more s range h =
    let cut : s.text ≡ codes "pool " ++ (decimal n ++ (codes "\n" ++ more)) = h ∙ simp append_assoc in
    counted_line-reads (codes "pool ") 1 MOST_VECTORS n more s range (omega arith) cut

vector-reads : (rows : ℕ) (vector : List ℕ) (more : Bytes) (s : State) → 1 ≤ rows → IsMultipliers rows vector → s.text ≡ vector_line vector ++ more → Reads (vector_line_at rows s) vector more s
unfolding vector_line_at
vector-reads rows vector more s some all h =
    reads-then (listed_at MOST_MULTIPLIER rows s) _ vector more s
    (listed-reads MOST_MULTIPLIER rows vector (codes "\n" ++ more) s (omega arith) some all refl (h ∙ append_assoc (listed vector) (codes "\n") more)) (λ a p.
    reads-end more _ vector more a p (λ b q. reads-ok vector more b q))

pub vectors-reads : (rows : ℕ) (pool : List (List ℕ)) (more : Bytes) (s : State) → 1 ≤ rows → IsBetween 1 MOST_VECTORS (length pool) → AllByRecursion (IsMultipliers rows) pool →
    s.text ≡ pool_lines pool ++ more → Reads (vectors_at rows s) pool more s
unfolding vectors_at
vectors-reads rows pool more s some few all h =
    reads-then (pool_line_at s) _ pool more s (pool-reads (length pool) (vector_lines pool ++ more) s few (h ∙ append_assoc (pool_line (length pool)) (vector_lines pool) more)) (λ a p.
    each-reads (vector_line_at rows) vector_line vector_lines (IsMultipliers rows) (λ _. Unit {0}) refl (λ v vs. refl) (λ vs more c. tt)
    (λ v m r q c e. vector-reads rows v m r some q e) pool more a all tt p)
