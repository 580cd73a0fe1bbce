-- Laws of what readers and writers answer.
use Rattle.std.proofs.Common.{ℕ, ◌≡◌, ◌+◌, ◌^◌, ◌<◌, ◌≤◌, List, [], ◌∷◌, ◌++◌, length, take, Option, None, Some, Result, Ok, Err, refl, sym, ap, ◌∙◌, subst, append_assoc, append-nil, length-append, arith}
use Rattle.std.specs.Io.KnownBytes.{Keeps, ReadConsumes, WriteAppends}
use Rattle.std.specs.declared.io.Error.{Error}
use Rattle.std.specs.declared.io.ErrorKind.TheVariants.{Interrupted}
use Rattle.chisel_outside.specs.Outside.{Bytes}
use Rattle.chisel_outside.specs.Device.{Answer, answer_of, Gains, GainsSome, GoesOn, GoOn, EndIn}

-- ---- answers

-- no answer more
pub Gains-none : (a : Option (List Answer)) → Gains a a []
Gains-none None = tt
Gains-none (Some told) = sym (append-nil told)

-- some answers, and some behind them
pub Gains-more : (a b c : Option (List Answer)) (xs ys : List Answer) → Gains a b xs → Gains b c ys → Gains a c (xs ++ ys)
Gains-more None b c xs ys first second = tt
Gains-more (Some x) None c xs ys first second = absurd first
Gains-more (Some x) (Some y) None xs ys first second = absurd second
Gains-more (Some x) (Some y) (Some z) xs ys first second = second ∙ ap (λ l. l ++ ys) first ∙ append_assoc x xs ys

pub GoOn-append : (xs ys : List Answer) → GoOn xs → GoOn ys → GoOn (xs ++ ys)
GoOn-append [] ys first second = second
GoOn-append (x ∷ xs) ys first second = (first.0, GoOn-append xs ys first.1 second)

-- calls that go on, and then some up to the last
pub EndIn-behind : (xs ys : List Answer) (last : Answer) → GoOn xs → EndIn last ys → EndIn last (xs ++ ys)
EndIn-behind xs ys last go_on end = record {
  before = xs ++ end.before;
  whole = ap (λ l. xs ++ l) end.whole ∙ sym (append_assoc xs end.before (last ∷ []));
  go_on = GoOn-append xs end.before go_on end.go_on;
  patient = λ is. let enough = end.patient is in omega (arith, enough, length-append xs ys);
}

-- where the last call moved bytes, the calls go on
pub EndIn-moved : (xs : List Answer) (n : ℕ) → EndIn (Ok n) xs → 0 < n → GoOn xs
EndIn-moved xs n end some = subst GoOn (sym end.whole) (GoOn-append end.before (Ok n ∷ []) end.go_on (some, tt))

-- ---- the tries of one call

-- calls that go on, before the try of the number
pub record Tried (old new : Option (List Answer)) (number : ℕ) : Type 0 where
  pub answers : List Answer
  pub gains : Gains old new answers
  pub go_on : GoOn answers
  pub count : length answers + 1 ≡ number

pub Tried-none : (a : Option (List Answer)) → Tried a a 1
Tried-none a = record { answers = []; gains = Gains-none a; go_on = tt; count = omega arith }

pub Tried-more : (a b c : Option (List Answer)) (number : ℕ) (answer : Answer) → Tried a b number → Gains b c (answer ∷ []) → answer ≡ Err Interrupted → Tried a c (number + 1)
Tried-more a b c number answer tried gains is =
    let count = tried.count in
    record {
      answers = tried.answers ++ answer ∷ [];
      gains = Gains-more a b c tried.answers (answer ∷ []) tried.gains gains;
      go_on = GoOn-append tried.answers (answer ∷ []) tried.go_on (subst GoesOn (sym is) refl, tt);
      count = omega (arith, length-append tried.answers (answer ∷ []));
    }

pub Tried-last : (a b c : Option (List Answer)) (number : ℕ) (answer : Answer) → Tried a b number → Gains b c (answer ∷ []) → (answer ≡ Err Interrupted → 2 ^ 64 ≤ number + 1) → GainsSome a c (EndIn answer)
Tried-last a b c number answer tried gains patient =
    let count = tried.count in (
      tried.answers ++ answer ∷ [],
      Gains-more a b c tried.answers (answer ∷ []) tried.gains gains,
      record {
        before = tried.answers;
        whole = refl;
        go_on = tried.go_on;
        patient = λ is. let enough = patient is in omega (arith, enough, length-append tried.answers (answer ∷ []));
      },
    )

-- ---- bytes

-- a call behind some that kept the bytes
pub ReadConsumes-behind : (a b c : Option Bytes) (r : Result ℕ Error) (piece : Bytes) → Keeps a b → ReadConsumes b c r piece → ReadConsumes a c r piece
ReadConsumes-behind None b c (Ok n) piece keeps read = (tt, read.1)
ReadConsumes-behind (Some x) None c (Ok n) piece keeps read = absurd keeps
ReadConsumes-behind (Some x) (Some y) None (Ok n) piece keeps read = absurd read.0
ReadConsumes-behind (Some x) (Some y) (Some z) (Ok n) piece keeps read = (sym keeps ∙ read.0, read.1)
ReadConsumes-behind None b c (Err e) piece keeps read = tt
ReadConsumes-behind (Some x) None c (Err e) piece keeps read = absurd keeps
ReadConsumes-behind (Some x) (Some y) None (Err e) piece keeps read = absurd read
ReadConsumes-behind (Some x) (Some y) (Some z) (Err e) piece keeps read = read ∙ keeps

pub WriteAppends-behind : (a b c : Option Bytes) (r : Result ℕ Error) (piece : Bytes) → Keeps a b → WriteAppends b c r piece → WriteAppends a c r piece
WriteAppends-behind None b c (Ok n) piece keeps write = tt
WriteAppends-behind (Some x) None c (Ok n) piece keeps write = absurd keeps
WriteAppends-behind (Some x) (Some y) None (Ok n) piece keeps write = absurd write
WriteAppends-behind (Some x) (Some y) (Some z) (Ok n) piece keeps write = write ∙ ap (λ l. l ++ take n piece) keeps
WriteAppends-behind None b c (Err e) piece keeps write = tt
WriteAppends-behind (Some x) None c (Err e) piece keeps write = absurd keeps
WriteAppends-behind (Some x) (Some y) None (Err e) piece keeps write = absurd write
WriteAppends-behind (Some x) (Some y) (Some z) (Err e) piece keeps write = write ∙ keeps

-- an interrupted call keeps them
pub ReadConsumes-interrupted : (a b : Option Bytes) (r : Result ℕ Error) (piece : Bytes) → ReadConsumes a b r piece → answer_of r ≡ Err Interrupted → Keeps a b
ReadConsumes-interrupted a b (Ok n) piece read is = absurd (cc)
ReadConsumes-interrupted a b (Err e) piece read is = read

pub WriteAppends-interrupted : (a b : Option Bytes) (r : Result ℕ Error) (piece : Bytes) → WriteAppends a b r piece → answer_of r ≡ Err Interrupted → Keeps a b
WriteAppends-interrupted a b (Ok n) piece write is = absurd (cc)
WriteAppends-interrupted a b (Err e) piece write is = write

-- ---- calls behind calls that go on

pub GainsSome-end : (a b c : Option (List Answer)) (last : Answer) → GainsSome a b GoOn → GainsSome b c (EndIn last) → GainsSome a c (EndIn last)
GainsSome-end a b c last (xs, first, go_on) (ys, second, end) = (xs ++ ys, Gains-more a b c xs ys first second, EndIn-behind xs ys last go_on end)

pub GainsSome-moved : (a b c : Option (List Answer)) (n : ℕ) → GainsSome a b GoOn → GainsSome b c (EndIn (Ok n)) → 0 < n → GainsSome a c GoOn
GainsSome-moved a b c n (xs, first, go_on) (ys, second, end) some = (xs ++ ys, Gains-more a b c xs ys first second, GoOn-append xs ys go_on (EndIn-moved ys n end some))

pub GainsSome-none : (a : Option (List Answer)) → GainsSome a a GoOn
GainsSome-none a = ([], Gains-none a, tt)
