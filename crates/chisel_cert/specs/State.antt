-- What is left to read of a text, and the readers of its words and numbers. All that fails in a line is the line's form.
use Rattle.std.specs.Prelude.{◌≡◌, ◌⊎◌, ℕ, zero, suc, ◌+◌, Bool, true, false, not, ◌&&◌, ◌||◌, ◌==◌, nat_le, List, [], ◌∷◌, ◌++◌, length, take, drop, codes, decimal, Option, Some, None, Result, Ok, Err, MatchResult, if◌then◌else◌}
use Rattle.std.specs.List.{prefix_len}
use Rattle.std.specs.Str.Parse.{digits_value}
use Rattle.rely_num.specs.Texts.{Bytes, is_digit, same_text}
use Rattle.chisel_cert.specs.declared.fault.CertFault.{CertFault}
use Rattle.chisel_cert.specs.declared.fault.CertFault.TheVariants as fault
use Rattle.chisel_cert.specs.declared.fault.CertWhy.TheVariants as why
use Rattle.chisel_cert.specs.declared.rest.Rest.{Rest}

-- the bytes that are left, the number of the line that they begin in, and in the tree how many nodes are wanted and how many lines they may take
pub record State : Type 0 where
  pub text : Bytes
  pub line : ℕ
  pub wanted : ℕ
  pub left : ℕ

abbrev pub state_of : Rest → State
state_of r = record { text = r.text.now; line = r.line; wanted = r.wanted; left = r.left }

-- what is read, or the first line that fails
abbrev pub Reading : Type 0 → Type 0
Reading A = Result A CertFault

-- a reader gives what the front of the text says and the state behind it, or why and where it refuses
abbrev pub Read : Type 0 → Type 0
Read A = State → Reading (A × State)

abbrev pub is_memory : CertFault → Bool
is_memory fault.Memory = true
is_memory _ = false

-- want of memory, or else
abbrev pub IsMemoryOr : CertFault → Type 0 → Type 0
IsMemoryOr e P = (e ≡ fault.Memory) ⊎ P

infixl 10 ◌>>=◌
abbrev pub ◌>>=◌ : {A B : Type 0} → Reading A → (A → Reading B) → Reading B
Ok a >>= next = next a
Err e >>= next = Err e

-- the one where something is read, else the other
abbrev pub choose : {A B : Type 0} → Reading A → (A → B) → B → B
choose (Ok a) read other = read a
choose (Err e) read other = other

-- the line doesn't have its form
abbrev pub formless : State → CertFault
formless s = fault.At s.line why.Form

-- the same counts before another text
abbrev pub with_text : State → Bytes → State
with_text s text = record { text = text; line = s.line; wanted = s.wanted; left = s.left }

-- in the same line, and in the next one; the counts stay
abbrev pub IsInLine : State → State → Type 0
IsInLine s r = (r.line ≡ s.line) × (r.wanted ≡ s.wanted) × (r.left ≡ s.left)

abbrev pub IsNextLine : State → State → Type 0
IsNextLine s r = (r.line ≡ s.line + 1) × (r.wanted ≡ s.wanted) × (r.left ≡ s.left)

-- behind a word
unfoldable pub skip_at : Bytes → State → Reading State
skip_at word s = if same_text (take (length word) s.text) word then Ok (with_text s (drop (length word) s.text)) else Err (formless s)

abbrev pub next_line : State → State
next_line s = record { text = s.text; line = s.line + 1; wanted = s.wanted; left = s.left }

-- behind the end of a line
unfoldable pub line_end_at : State → Reading State
line_end_at s = skip_at (codes "\n") s >>= λ a. Ok (next_line a)

-- a digit, and no zero before another one
abbrev pub is_plain : Bytes → Bool
is_plain [] = false
is_plain (digit ∷ digits) = not (digit == 48) || length digits == 0

-- the number that digits write, from the first to the last; no other digits write it, so no zero stands before it
abbrev pub number_between : ℕ → ℕ → Bytes → Option ℕ
number_between first last digits =
    let n = digits_value 10 digits in
    if (nat_le first n && nat_le n last) && same_text digits (decimal n) then Some n else None

abbrev pub numbered : State → ℕ → Option ℕ → Reading (ℕ × State)
numbered s size (Some n) = Ok (n, with_text s (drop size s.text))
numbered s size None = Err (formless s)

-- a number from the first to the last, written by all digits at the front
unfoldable pub number_at : ℕ → ℕ → Read ℕ
number_at first last s =
    let size = prefix_len is_digit s.text in
    numbered s size (number_between first last (take size s.text))

-- so many items, one behind the other
unfoldable pub each_at : {A : Type 0} → Read A → ℕ → Read (List A)
each_at item zero s = Ok ([], s)
each_at item (suc n) s = item s >>= λ x. each_at item n x.1 >>= λ y. Ok (x.0 ∷ y.0, y.1)

-- the items that there are, and behind them those that are read
abbrev pub behind : {A : Type 0} → List A → Reading (List A × State) → Reading (List A × State)
behind items read = read >>= λ x. Ok (items ++ x.0, x.1)

-- so many items more
abbrev pub more_at : {A : Type 0} → List A → Read A → ℕ → Read (List A)
more_at items item n s = behind items (each_at item n s)

-- ---- readers of the program

-- the program is behind what it passes, or refuses
abbrev pub IsPassed : Reading State → Result Rest CertFault → Type 0
IsPassed read result = MatchResult result (λ r. read ≡ Ok (state_of r)) (λ e. read ≡ Err e)

-- a reader of the program gives what the reader gives, and refuses as it does
abbrev pub IsRead : {A : Type 0} → Read A → Rest → Result (A × Rest) CertFault → Type 0
IsRead read at result = MatchResult result (λ r. read (state_of at) ≡ Ok (r.0, state_of r.1)) (λ e. read (state_of at) ≡ Err e)

-- the same under a view of what it gives, but for want of memory
abbrev pub IsReadBy : {A B : Type 0} → (A → B) → Read B → Rest → Result (A × Rest) CertFault → Type 0
IsReadBy view read at result =
    MatchResult result (λ r. read (state_of at) ≡ Ok (view r.0, state_of r.1)) (λ e. is_memory e ≡ false → read (state_of at) ≡ Err e)
