-- Pieces that are put one after the other, step by step.
use Rattle.std.proofs.Common.{◌≡◌, ℕ, ◌+◌, ◌<◌, ◌||◌, Bool, false, nat_lt, List, [], ◌++◌, length, get_or, take, drop, Option, Some, None, option_map, refl, sym, ap, ◌∙◌, append_assoc, append-nil, Bor, inr}
use Rattle.std.proofs.lemmas.List.{drop_more, take-append-drop}
use Rattle.rely_num.specs.Texts.{Bytes}
use Rattle.std.specs.Prelude.{codes, decimal}
use Rattle.chisel_lines.specs.Reasons.{key_text, lack_text, why_text}
use Rattle.chisel_lines.specs.Refusals.{refusal_line}
use Rattle.chisel_lines.specs.declared.refusal.Refusal.TheVariants.{Hardware, Inputs}
use Rattle.rely_hard.specs.declared.fault.HardWhy.{HardWhy}
use Rattle.rely_hard.specs.declared.fault.Key.{Key}
use Rattle.chisel_outside.specs.Outside.{Puts}
use Rattle.chisel_outside.specs.declared.sink.Put.{Put}
use Rattle.chisel_outside.specs.declared.sink.Put.TheVariants.{All, Failed}
use Rattle.chisel_lines.specs.declared.status.Status.{Status}
use Rattle.chisel_lines.specs.declared.status.Status.TheVariants as status
use Rattle.rely_inputs.specs.declared.fault.InputWhy.{InputWhy}
use Rattle.chisel_top.specs.Promises.{Wrote}
use Rattle.chisel_top.specs.Telling.{joined, Delivers}

-- the first piece of the rest
joined_more : (ps : List (Bor Bytes)) (i : ℕ) (d : Bor Bytes) → i < length ps → joined (drop i ps) ≡ (get_or ps i d).now ++ joined (drop (i + 1) ps)
joined_more ps i d h = ap joined (drop_more ps i d h)

-- what was written twice was written as one
wrote_twice : (a b : Bytes) (w0 w w' : Option Bytes) → Wrote w0 w a → Wrote w w' b → Wrote w0 w' (a ++ b)
wrote_twice a b None w w' e f = f ∙ ap (option_map (λ v. v ++ b)) e
wrote_twice a b (Some v) w w' e f = f ∙ ap (option_map (λ v. v ++ b)) e ∙ ap Some (append_assoc v a b)

-- a piece that was put whole lengthens the front
pub whole_more : (ps : List (Bor Bytes)) (i : ℕ) (d : Bor Bytes) (front : Bytes) → i < length ps → front ++ joined (drop i ps) ≡ joined ps
    → (front ++ (get_or ps i d).now) ++ joined (drop (i + 1) ps) ≡ joined ps
whole_more ps i d front h e = append_assoc front (get_or ps i d).now (joined (drop (i + 1) ps)) ∙ ap (λ r. front ++ r) (sym (joined_more ps i d h)) ∙ e

pub wrote_more : (piece front : Bytes) (w0 w w' : Option Bytes) (f f' : ℕ) (r : Put) → r ≡ All → Puts w w' piece f f' r → Wrote w0 w front → Wrote w0 w' (front ++ piece) × (f' ≡ f)
wrote_more piece front w0 w w' f f' All e p before = (wrote_twice front piece w0 w w' before p.0, p.1)
wrote_more piece front w0 w w' f f' Failed e p before = absurd (cc)

-- a put that failed ends it after a front
pub put_failed : (ps : List (Bor Bytes)) (i : ℕ) (d : Bor Bytes) (front : Bytes) (s : Status) (w0 w w' : Option Bytes) (f0 f f' : ℕ) (r : Put)
    → r ≡ Failed → Puts w w' (get_or ps i d).now f f' r → i < length ps → front ++ joined (drop i ps) ≡ joined ps → Wrote w0 w front → f ≡ f0
    → Delivers (joined ps) s w0 w' f0 f' status.WriteFault
put_failed ps i d front s w0 w w' f0 f f' All is p h whole before same = absurd (cc)
put_failed ps i d front s w0 w w' f0 f f' Failed is p h whole before same =
    let piece : Bytes = (get_or ps i d).now in
    let n : ℕ = p.0.0 in
    let parts : take n piece ++ drop n piece ≡ piece = take-append-drop n piece in
    let all : (front ++ take n piece) ++ (drop n piece ++ joined (drop (i + 1) ps)) ≡ joined ps =
    append_assoc front (take n piece) (drop n piece ++ joined (drop (i + 1) ps))
    ∙ ap (λ r. front ++ r) (sym (append_assoc (take n piece) (drop n piece) (joined (drop (i + 1) ps))) ∙ ap (λ r. r ++ joined (drop (i + 1) ps)) parts ∙ sym (joined_more ps i d h)) ∙ whole in
    inr (
      refl,
      record {
        front = front ++ take n piece;
        rest = drop n piece ++ joined (drop (i + 1) ps);
        whole = all;
        wrote = wrote_twice front (take n piece) w0 w w' before p.0.1;
      },
      rw (← same) p.2,
    )

-- no put was late so far
pub not_late : (f0 f : ℕ) (l0 l l' : Bool) → f ≡ f0 → (f0 ≡ 0 → l0 ≡ false → l ≡ false) → l' ≡ (l || nat_lt 0 f) → f0 ≡ 0 → l0 ≡ false → l' ≡ false
not_late f0 f l0 l l' same before e none early =
    let zero : f ≡ 0 = same ∙ none in
    let still : l ≡ false = before none early in
    e ∙ ap (λ b. b || nat_lt 0 f) still ∙ ap (λ n. nat_lt 0 n) zero

-- nine pieces as one text
pub nine : (a b c d e f g h i : Bytes) → a ++ (b ++ (c ++ (d ++ (e ++ (f ++ (g ++ (h ++ (i ++ [])))))))) ≡ a ++ b ++ c ++ d ++ e ++ f ++ g ++ h ++ i
nine a b c d e f g h i = simp (append_assoc, append-nil)

-- the line of a refusal, put in nine pieces
pub refusal_is : (w k o i : Bytes) (why : HardWhy) (key : Key) (outer inner : ℕ) → w ≡ why_text why → k ≡ key_text key → o ≡ decimal outer → i ≡ decimal inner
    → codes "fault hardware " ++ (w ++ (codes " " ++ (k ++ (codes " " ++ (o ++ (codes " " ++ (i ++ (codes "\n" ++ [])))))))) ≡ refusal_line (Hardware why key outer inner)
refusal_is w k o i why key outer inner a b c d =
    rw (a, b, c, d) (nine (codes "fault hardware ") (why_text why) (codes " ") (key_text key) (codes " ") (decimal outer) (codes " ") (decimal inner) (codes "\n"))

-- the line of a sample, put in seven pieces
seven : (a b c d e f g : Bytes) → a ++ (b ++ (c ++ (d ++ (e ++ (f ++ (g ++ [])))))) ≡ a ++ b ++ c ++ d ++ e ++ f ++ g
seven a b c d e f g = simp (append_assoc, append-nil)

pub sample_is : (w s v : Bytes) (why : InputWhy) (sample var : ℕ) → w ≡ lack_text why → s ≡ decimal sample → v ≡ decimal var
    → codes "fault inputs " ++ (w ++ (codes " " ++ (s ++ (codes " " ++ (v ++ (codes "\n" ++ [])))))) ≡ refusal_line (Inputs why sample var)
sample_is w s v why sample var a b c = rw (a, b, c) (seven (codes "fault inputs ") (lack_text why) (codes " ") (decimal sample) (codes " ") (decimal var) (codes "\n"))

-- and one that ends with a number, in five
five : (a b c d e : Bytes) → a ++ (b ++ (c ++ (d ++ (e ++ [])))) ≡ a ++ b ++ c ++ d ++ e
five a b c d e = simp (append_assoc, append-nil)

pub number_is : (before word n : Bytes) (number : ℕ) → n ≡ decimal number → before ++ (word ++ (codes " " ++ (n ++ (codes "\n" ++ [])))) ≡ before ++ word ++ codes " " ++ decimal number ++ codes "\n"
number_is before word n number e = rw e (five before word (codes " ") (decimal number) (codes "\n"))
