-- What the limits of a source count, token by token, whatever the tokens spell.
use Rattle.std.specs.Prelude.{ℕ, zero, suc, ◌≤◌, ◌<◌, ◌==◌, ◌||◌, ◌&&◌, Bool, true, false, List, [], ◌∷◌, ◌⊎◌, if◌then◌else◌}
use Rattle.rely_lexer.specs.declared.token.Token.{Token}
use Rattle.rely_lexer.specs.declared.token.TokenKind.{TokenKind}
use Rattle.rely_lexer.specs.declared.token.TokenKind.TheVariants as kind
use Rattle.rely_num.specs.declared.word.Word.{Word}
use Rattle.rely_num.specs.declared.word.Word.TheVariants as word

-- ---- where a place stands

-- a function up to its claims, its claims, and its body
pub data Part : Type 0 where
  Head : Part
  Claims : Part
  Body : Part

abbrev pub is_head : Part → Bool
is_head Head = true
is_head _ = false

abbrev pub is_body : Part → Bool
is_body Body = true
is_body _ = false

-- the brackets that are open, the functions that have begun, the claims and the part of the last one, and whether a name
-- would be that of a variable
pub record Standing : Type 0 where
  pub brackets : ℕ
  pub functions : ℕ
  pub claims : ℕ
  pub part : Part
  pub naming : Bool

-- ( [ {
abbrev pub opens : ℕ → Bool
opens m = m == 40 || (m == 91 || m == 123)

-- ) ] }
abbrev pub closes : ℕ → Bool
closes m = m == 41 || (m == 93 || m == 125)

abbrev pub one_less : ℕ → ℕ
one_less zero = zero
one_less (suc n) = n

-- up to the claims a variable's name stands behind a bracket or a comma
abbrev pub behind_mark : ℕ → Standing → Standing
behind_mark m a = record {
  brackets = if opens m then suc a.brackets else (if closes m then one_less a.brackets else a.brackets);
  functions = a.functions;
  claims = a.claims;
  part = if m == 123 then Body else a.part;
  naming = (m == 40 || m == 44) && is_head a.part;
}

-- in a body it stands behind the word var
abbrev pub behind_word : Word → Standing → Standing
behind_word word.Fn a = record { brackets = a.brackets; functions = suc a.functions; claims = 0; part = Head; naming = false }
behind_word word.Claim a = record { brackets = a.brackets; functions = a.functions; claims = suc a.claims; part = Claims; naming = false }
behind_word word.Var a = record { brackets = a.brackets; functions = a.functions; claims = a.claims; part = a.part; naming = true }
behind_word _ a = record { brackets = a.brackets; functions = a.functions; claims = a.claims; part = a.part; naming = false }

abbrev pub behind_token : TokenKind → Standing → Standing
behind_token (kind.Mark m) a = behind_mark m a
behind_token (kind.Word w) a = behind_word w a
behind_token _ a = record { brackets = a.brackets; functions = a.functions; claims = a.claims; part = a.part; naming = false }

-- ---- counts

-- where a place stands, and how many variables, operators and calls the function has in front of it
pub record Counts : Type 0 where
  pub at : Standing
  pub variables : ℕ
  pub operators : ℕ
  pub calls : ℕ

-- in front of the first token
abbrev pub nothing : Counts
nothing = record { at = record { brackets = 0; functions = 0; claims = 0; part = Head; naming = false }; variables = 0; operators = 0; calls = 0 }

-- behind one token more; the operators of claims aren't counted
abbrev pub with_token : TokenKind → Counts → Counts
with_token (kind.Word word.Fn) c = record { at = behind_word word.Fn c.at; variables = 0; operators = 0; calls = 0 }
with_token (kind.Word word.Call) c = record { at = behind_word word.Call c.at; variables = c.variables; operators = c.operators; calls = suc c.calls }
with_token kind.Name c = record { at = behind_token kind.Name c.at; variables = if c.at.naming then suc c.variables else c.variables; operators = c.operators; calls = c.calls }
with_token (kind.Oper o) c = record { at = behind_token (kind.Oper o) c.at; variables = c.variables; operators = if is_body c.at.part then suc c.operators else c.operators; calls = c.calls }
with_token k c = record { at = behind_token k c.at; variables = c.variables; operators = c.operators; calls = c.calls }

-- behind all of these tokens
abbrev pub with_tokens : List Token → Counts → Counts
with_tokens [] c = c
with_tokens (t ∷ ts) c = with_tokens ts (with_token t.kind c)

-- ---- limits

-- more brackets are open than may be
abbrev pub IsDeep : Counts → Type 0
IsDeep c = 64 < c.at.brackets

-- there are more functions than may be, or more of something in the last one
abbrev pub IsCrowded : Counts → Type 0
IsCrowded c = (64 < c.at.functions) ⊎ (8 < c.at.claims) ⊎ (63 < c.variables) ⊎ (256 < c.operators) ⊎ (256 < c.calls)

-- no limit is passed
pub record IsWithin (c : Counts) : Type 0 where
  pub brackets : c.at.brackets ≤ 64
  pub functions : c.at.functions ≤ 64
  pub claims : c.at.claims ≤ 8
  pub variables : c.variables ≤ 63
  pub operators : c.operators ≤ 256
  pub calls : c.calls ≤ 256

-- none of these tokens passes a limit
abbrev pub AllWithin : Counts → List Token → Type 0
AllWithin c [] = Unit {0}
AllWithin c (t ∷ ts) = IsWithin (with_token t.kind c) × AllWithin (with_token t.kind c) ts

-- the token behind those in front is the first that passes a limit, and it passes that one
pub record PassesFirst (Over : Counts → Type 0) (front : List Token) (token : Token) : Type 0 where
  pub before : AllWithin nothing front
  pub over : Over (with_token token.kind (with_tokens front nothing))
