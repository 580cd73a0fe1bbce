-- What readers and writers answer, call by call, where they tell.
use Rattle.std.specs.Prelude.{ℕ, ◌≡◌, ◌+◌, ◌^◌, ◌<◌, ◌≤◌, List, [], ◌∷◌, ◌++◌, length, Option, None, Some, Result, Ok, Err}
use Rattle.std.specs.IoError.{error_kind}
use Rattle.std.specs.declared.io.Error.{Error}
use Rattle.std.specs.declared.io.ErrorKind.{ErrorKind}
use Rattle.std.specs.declared.io.ErrorKind.TheVariants.{Interrupted}

-- the answer of a call: how many bytes it moved, or of which kind its error is
abbrev pub Answer : Type 0
Answer = Result ℕ ErrorKind

abbrev pub answer_of : Result ℕ Error → Answer
answer_of (Ok n) = Ok n
answer_of (Err e) = Err (error_kind e)

-- told answers grow by these
abbrev pub Gains : Option (List Answer) → Option (List Answer) → List Answer → Type 0
Gains None new answers = Unit {0}
Gains (Some told) None answers = ⊥
Gains (Some told) (Some new) answers = new ≡ told ++ answers

-- told answers grew by some of which the fact holds
abbrev pub GainsSome : Option (List Answer) → Option (List Answer) → (List Answer → Type 0) → Type 0
GainsSome old new P = (answers : List Answer) × Gains old new answers × P answers

-- a call that moved bytes, and one that a signal interrupted, have another behind them
abbrev pub GoesOn : Answer → Type 0
GoesOn (Ok n) = 0 < n
GoesOn (Err kind) = kind ≡ Interrupted

-- the calls go on
abbrev pub GoOn : List Answer → Type 0
GoOn [] = Unit {0}
GoOn (answer ∷ answers) = GoesOn answer × GoOn answers

-- the calls go on up to the last, which is an interruption only where they were given up, at 2^64 - 1 at least
pub record EndIn (last : Answer) (answers : List Answer) : Type 0 where
  pub before : List Answer
  pub whole : answers ≡ before ++ last ∷ []
  pub go_on : GoOn before
  pub patient : last ≡ Err Interrupted → 2 ^ 64 ≤ length answers + 1

-- the answer of a call that moved nothing
abbrev pub MovesNone : Answer → Type 0
MovesNone (Ok n) = n ≡ 0
MovesNone (Err kind) = Unit {0}
