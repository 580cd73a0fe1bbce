-- What is left to read, and the readers of one token.
use Rattle.std.specs.Prelude.{ℕ, ◌-◌, Bool, true, false, ◌==◌, ◌||◌, nat_lt, List, [], ◌∷◌, length, Result, Ok, Err, min, slice_range, if◌then◌else◌}
use Rattle.rely_num.specs.Texts.{Bytes}
use Rattle.rely_num.specs.declared.op.Op.{Op}
use Rattle.rely_num.specs.declared.op.Op.TheVariants as op
use Rattle.rely_num.specs.declared.span.Span.{Span}
use Rattle.rely_lexer.specs.declared.token.Token.{Token}
use Rattle.rely_lexer.specs.declared.token.TokenKind.{TokenKind}
use Rattle.rely_lexer.specs.declared.token.TokenKind.TheVariants as kind
use Rattle.rely_num.specs.declared.word.Word.{Word}
use Rattle.rely_num.specs.declared.word.Word.TheVariants as word
use Rattle.rely_tree.specs.Tree.{IdentTree, KindTree, PlainTree, NamedTree, FreeTree}
use Rattle.rely_parser.specs.declared.rest.Rest.{Rest}
use Rattle.rely_parser.specs.declared.fault.ParseFault.{ParseFault}
use Rattle.rely_parser.specs.declared.fault.ParseFault.TheVariants as fault

-- the tokens that are left, how many variables, operators and calls may still stand in the function, and the place behind the text
pub record State : Type 0 where
  pub toks : List Token
  pub variables : ℕ
  pub operators : ℕ
  pub calls : ℕ
  pub end : ℕ

abbrev pub state_of : Rest → State
state_of r = record { toks = r.toks.now; variables = r.variables; operators = r.operators; calls = r.calls; end = r.end }

-- what is read, or the first refusal
abbrev pub Reading : Type 0 → Type 0
Reading A = Result A ParseFault

-- a reader gives what the front of the tokens spells and the state behind it, or why and where it refuses
abbrev pub Read : Type 0 → Type 0
Read A = State → Reading (A × State)

-- the place behind a text, as far as a place can tell it
abbrev pub end_of : Bytes → ℕ
end_of text = min (length text) 4294967295

abbrev pub place_from : ℕ → List Token → ℕ
place_from end [] = end
place_from end (t ∷ ts) = t.span.from

-- the place of the first token, and the one behind the text where none is left
abbrev pub place : State → ℕ
place s = place_from s.end s.toks

abbrev pub is_memory : ParseFault → Bool
is_memory fault.Memory = true
is_memory _ = false

infixl 10 ◌>>=◌
abbrev pub ◌>>=◌ : {A B : Type 0} → Reading A → (A → Reading B) → Reading B
Ok a >>= next = next a
Err e >>= next = Err e

-- the one where something is read, else the other
abbrev pub choose : {A B : Type 0} → Reading A → (A → B) → B → B
choose (Ok a) read other = read a
choose (Err e) read other = other

-- the same counts before other tokens
abbrev pub behind : State → List Token → State
behind s toks = record { toks = toks; variables = s.variables; operators = s.operators; calls = s.calls; end = s.end }

abbrev pub first_from : State → List Token → Reading (Token × State)
first_from s [] = Err (fault.Expected s.end)
first_from s (t ∷ ts) = Ok (t, behind s ts)

-- the first token
abbrev pub first_at : Read Token
first_at s = first_from s s.toks

abbrev pub marked : ℕ → State → Span → TokenKind → Reading State
marked m after span (kind.Mark n) = if n == m then Ok after else Err (fault.Expected span.from)
marked m after span _ = Err (fault.Expected span.from)

-- behind a mark
abbrev pub skip_at : ℕ → State → Reading State
skip_at m s = first_at s >>= λ x. marked m x.1 x.0.span x.0.kind

-- the bytes of a span, none where it reaches outside the text
abbrev pub word_at : Bytes → Span → Bytes
word_at text s = if nat_lt s.to s.from || nat_lt (length text) s.to then [] else slice_range text s.from s.to

abbrev pub ident_at : Bytes → Span → IdentTree
ident_at text span = record { text = word_at text span; span = span }

abbrev pub named : Bytes → State → Span → TokenKind → Reading (IdentTree × State)
named text after span kind.Name = Ok (ident_at text span, after)
named text after span _ = Err (fault.Expected span.from)

-- a name
abbrev pub name_at : Bytes → Read IdentTree
name_at text s = first_at s >>= λ x. named text x.1 x.0.span x.0.kind

-- what stands behind an operator: a point and a name, or a question mark, or nothing
abbrev pub suffix_at : Bytes → Read KindTree
suffix_at text s =
    choose (skip_at 46 s) (λ after. name_at text after >>= λ n. Ok (NamedTree n.0, n.1))
    (choose (skip_at 63 s) (λ after. first_at s >>= λ x. Ok (FreeTree x.0.span, after)) (Ok (PlainTree, s)))

-- how loosely an operator binds
abbrev pub height : Op → ℕ
height op.Mul = 1
height op.Div = 1
height op.Rem = 1
height op.Add = 2
height op.Sub = 2
height op.Lt = 3
height op.Le = 3
height op.Gt = 3
height op.Ge = 3
height op.Eq = 4
height op.Ne = 4
height op.And = 5
height op.Xor = 6
height op.Or = 7

abbrev pub signed : ℕ → State → Span → TokenKind → Reading ((Op × Span) × State)
signed h after span (kind.Oper o) = if height o == h then Ok ((o, span), after) else Err (fault.Expected span.from)
signed h after span _ = Err (fault.Expected span.from)

-- an operator that binds so loosely, with its place
abbrev pub operator_at : ℕ → Read (Op × Span)
operator_at h s = first_at s >>= λ x. signed h x.1 x.0.span x.0.kind

-- one operator less may stand; this one is at p
abbrev pub one_operator : ℕ → State → Reading State
one_operator p s =
    if s.operators == 0 then Err (fault.Many p)
    else Ok (record { toks = s.toks; variables = s.variables; operators = s.operators - 1; calls = s.calls; end = s.end })

-- reserved words, told apart by their numbers
abbrev pub word_number : Word → ℕ
word_number word.Fn = 0
word_number word.Claim = 1
word_number word.Result = 2
word_number word.R = 3
word_number word.Var = 4
word_number word.In = 5
word_number word.If = 6
word_number word.Else = 7
word_number word.While = 8
word_number word.Max = 9
word_number word.Repeat = 10
word_number word.Return = 11
word_number word.Call = 12
word_number word.Within = 13

abbrev pub worded : Word → State → Span → TokenKind → Reading State
worded w after span (kind.Word v) = if word_number v == word_number w then Ok after else Err (fault.Expected span.from)
worded w after span _ = Err (fault.Expected span.from)

-- behind a reserved word
abbrev pub skip_word_at : Word → State → Reading State
skip_word_at w s = first_at s >>= λ x. worded w x.1 x.0.span x.0.kind

abbrev pub numbered : State → Span → TokenKind → Reading (ℕ × State)
numbered after span (kind.Number n) = Ok (n, after)
numbered after span _ = Err (fault.Expected span.from)

-- a whole number
abbrev pub number_at : Read ℕ
number_at s = first_at s >>= λ x. numbered x.1 x.0.span x.0.kind

-- a number of turns
abbrev pub count_at : Read ℕ
count_at s = number_at s >>= λ x. if nat_lt 4294967295 x.0 then Err (fault.Expected (place s)) else Ok (x.0, x.1)
