-- A rewritten text in pieces, its length, and its marks named one at a time.
use Rattle.std.proofs.Common.{◌≡◌, ℕ, zero, suc, ◌+◌, ◌-◌, ◌<◌, ◌≤◌, List, [], ◌∷◌, ◌++◌, map, length, take, drop, codes, refl, sym, ap, ◌∙◌, subst, arith, length-append, length-drop, length-take}
use Rattle.std.specs.Prelude.{sum_by}
use Rattle.std.specs.List.{slice_range}
use Rattle.std.proofs.lemmas.List.Folds.{drop_split}
use Rattle.std.proofs.lemmas.List.Sums.{sum_by-cons}
use Rattle.rely_num.specs.OpenMarks.{AreOpenMarksFrom}
use Rattle.rely_num.specs.Texts.{Bytes}
use Rattle.rely_hard.specs.declared.hardware.Hardware.{Hardware}
use Rattle.chisel_rewrite.specs.declared.naming.Naming.{Naming}
use Rattle.chisel_rewrite.specs.Laws.{LengthCounts, OneAtATime, TextInPieces, interleaved}
use Rattle.chisel_rewrite.specs.Namings.{mark_of, namings}
use Rattle.chisel_rewrite.specs.Texts.{named, rewritten, text_of}
use Rattle.chisel_rewrite.proofs.Places.{marks_named, marks_ready}

-- ---- pieces

-- what stands between the marks
abbrev pieces_from : Bytes → ℕ → List Naming → List Bytes
pieces_from text place [] = drop place text ∷ []
pieces_from text place (n ∷ ns) = slice_range text place (mark_of n).from ∷ pieces_from text (mark_of n).to ns

-- a text from a place on is what stands before the mark, the mark, and what stands behind it
pub split_at_mark : (text : Bytes) (place from to : ℕ) → place ≤ from → to ≡ from + 1 → slice_range text from to ≡ codes "?"
    → drop place text ≡ slice_range text place from ++ (codes "?" ++ drop to text)
split_at_mark text place from to behind one byte =
    drop_split text place from behind
    ∙ ap (λ (bs : Bytes). slice_range text place from ++ bs) (drop_split text from to (omega arith) ∙ ap (λ (bs : Bytes). bs ++ drop to text) byte)

count_from : (text : Bytes) (place : ℕ) (ns : List Naming) → length (pieces_from text place ns) ≡ suc (length ns)
count_from text place [] = refl
count_from text place (n ∷ ns) = ap suc (count_from text (mark_of n).to ns)

source_from : (text : Bytes) (place : ℕ) (ns : List Naming) → AreOpenMarksFrom text place (map mark_of ns)
    → drop place text ≡ interleaved (pieces_from text place ns) (map (λ n. codes "?") ns)
source_from text place [] marks = refl
source_from text place (n ∷ ns) marks =
    split_at_mark text place (mark_of n).from (mark_of n).to marks.0 marks.1.one_byte marks.1.byte
    ∙ ap (λ (bs : Bytes). slice_range text place (mark_of n).from ++ (codes "?" ++ bs)) (source_from text (mark_of n).to ns marks.2)

named_in : (h : Hardware) (text : Bytes) (place : ℕ) (ns : List Naming) → named h text place ns ≡ interleaved (pieces_from text place ns) (map (text_of h) ns)
named_in h text place [] = refl
named_in h text place (n ∷ ns) = ap (λ (bs : Bytes). slice_range text place (mark_of n).from ++ (text_of h n ++ bs)) (named_in h text (mark_of n).to ns)

pub text_in_pieces : TextInPieces
text_in_pieces text k h choice marks is =
    let ns = namings k choice in
    record {
      pieces = pieces_from text 0 ns;
      count = count_from text 0 ns;
      source = source_from text 0 ns (marks_ready k h choice is text marks);
      named = named_in h text 0 ns;
    }

-- ---- lengths

length_from : (h : Hardware) (text : Bytes) (place : ℕ) (ns : List Naming) → AreOpenMarksFrom text place (map mark_of ns)
    → length (named h text place ns) + length (map mark_of ns) ≡ length (drop place text) + sum_by (λ n. length (text_of h n)) ns
length_from h text place [] marks = refl
length_from h text place (n ∷ ns) marks =
    let piece = slice_range text place (mark_of n).from in
    let behind = drop (mark_of n).to text in
    let later = length_from h text (mark_of n).to ns marks.2 in
    let here = ap length (split_at_mark text place (mark_of n).from (mark_of n).to marks.0 marks.1.one_byte marks.1.byte) in
    let front = length-append piece (codes "?" ++ behind) in
    let name = length-append (text_of h n) (named h text (mark_of n).to ns) in
    let all = length-append piece (text_of h n ++ named h text (mark_of n).to ns) in
    let sum = sum_by-cons (λ n. length (text_of h n)) n ns in
    omega (arith, later, here, front, name, all, sum)

pub length_counts : LengthCounts
length_counts text k h choice marks is =
    let same = marks_named k h choice is in
    subst (λ ms. length (rewritten text k h choice) + length ms ≡ length text + sum_by (λ n. length (text_of h n)) (namings k choice)) same
    (length_from h text 0 (namings k choice) (marks_ready k h choice is text marks))

-- ---- one at a time

-- the front of a text, and something else behind it, from a place on
drop_front : (text rest : Bytes) (front place : ℕ) → place ≤ front → front ≤ length text → drop place (take front text ++ rest) ≡ take (front - place) (drop place text) ++ rest
drop_front text rest front zero before within = ap (λ n. take n text ++ rest) (omega arith)
drop_front text rest zero (suc place) before within = absurd (omega (arith, before))
drop_front [] rest (suc front) (suc place) before within = absurd (omega (arith, within))
drop_front (byte ∷ text) rest (suc front) (suc place) before within =
    let shorter : front - place ≡ suc front - suc place = omega arith in
    drop_front text rest front place (omega arith) (omega (arith, within)) ∙ ap (λ n. take n (drop place text) ++ rest) shorter

-- less of a front than the whole front
take_front : (text rest : Bytes) (few many : ℕ) → few ≤ many → many ≤ length text → take few (take many text ++ rest) ≡ take few text
take_front text rest zero many less within = refl
take_front text rest (suc few) zero less within = absurd (omega (arith, less))
take_front [] rest (suc few) (suc many) less within = absurd (omega (arith, within))
take_front (byte ∷ text) rest (suc few) (suc many) less within = ap (λ (bs : Bytes). byte ∷ bs) (take_front text rest few many (omega arith) (omega (arith, within)))

-- between places before a front's end nothing changes
slice_front : (text rest : Bytes) (front place end : ℕ) → place ≤ end → end ≤ front → front ≤ length text → slice_range (take front text ++ rest) place end ≡ slice_range text place end
slice_front text rest front place end before few within =
    ap (take (end - place)) (drop_front text rest front place (omega arith) within)
    ∙ take_front (drop place text) rest (end - place) (front - place) (omega arith) (omega (arith, within, length-drop place text))

-- a mark stands inside its text
pub mark_within : (text : Bytes) (from to : ℕ) → slice_range text from to ≡ codes "?" → from < length text
mark_within text from to byte =
    let one = ap length byte in
    omega (arith, one, length-take (to - from) (drop from text), length-drop from text)

-- the last mark stands behind the place
last_behind : (text : Bytes) (place : ℕ) (ns : List Naming) (last : Naming) → AreOpenMarksFrom text place (map mark_of (ns ++ last ∷ [])) → place ≤ (mark_of last).from
last_behind text place [] last marks = marks.0
last_behind text place (n ∷ ns) last marks =
    let later = last_behind text (mark_of n).to ns last marks.2 in
    let one = marks.1.one_byte in omega (arith, later, one, marks.0)

last_within : (text : Bytes) (place : ℕ) (ns : List Naming) (last : Naming) → AreOpenMarksFrom text place (map mark_of (ns ++ last ∷ [])) → (mark_of last).from < length text
last_within text place [] last marks = mark_within text (mark_of last).from (mark_of last).to marks.1.byte
last_within text place (n ∷ ns) last marks = last_within text (mark_of n).to ns last marks.2

-- the text with the last mark named
abbrev last_named : Hardware → Bytes → Naming → Bytes
last_named h text last = take (mark_of last).from text ++ (text_of h last ++ drop (mark_of last).to text)

one_from : (h : Hardware) (text : Bytes) (place : ℕ) (ns : List Naming) (last : Naming) → AreOpenMarksFrom text place (map mark_of (ns ++ last ∷ []))
    → named h text place (ns ++ last ∷ []) ≡ named h (last_named h text last) place ns
one_from h text place [] last marks =
    let within = last_within text place [] last marks in
    sym (drop_front text (text_of h last ++ drop (mark_of last).to text) (mark_of last).from place marks.0 (omega (arith, within)))
one_from h text place (n ∷ ns) last marks =
    let within = last_within text place (n ∷ ns) last marks in
    let behind = last_behind text (mark_of n).to ns last marks.2 in
    let one = marks.1.one_byte in
    let later = named h (last_named h text last) (mark_of n).to ns in
    ap (λ (bs : Bytes). slice_range text place (mark_of n).from ++ (text_of h n ++ bs)) (one_from h text (mark_of n).to ns last marks.2)
    ∙ ap (λ (bs : Bytes). bs ++ (text_of h n ++ later))
    (sym (slice_front text (text_of h last ++ drop (mark_of last).to text) (mark_of last).from place (mark_of n).from marks.0 (omega (arith, behind, one)) (omega (arith, within))))

pub one_at_a_time : OneAtATime
one_at_a_time text h ns last marks =
    let same : take (mark_of last).from text ≡ slice_range text 0 (mark_of last).from = ap (λ n. take n text) (omega arith) in
    one_from h text 0 ns last marks ∙ ap (λ (front : Bytes). named h (front ++ (text_of h last ++ drop (mark_of last).to text)) 0 ns) same
