-- Texts as lists of bytes: when two are the same, which are reserved words, and which are names.
use Rattle.std.specs.Prelude.{ℕ, Bool, false, not, ◌&&◌, ◌||◌, ◌==◌, nat_le, List, [], ◌∷◌, map, codes, IsTrue, Option}
use Rattle.std.specs.List.{find, list_any, list_all}
use Rattle.std.specs.Cmp.Lexicographic.{pointwise}
use Rattle.rely_num.specs.declared.word.Word.{Word}
use Rattle.rely_num.specs.declared.word.Word.TheVariants as word

abbrev pub Bytes : Type 0
Bytes = List ℕ

abbrev pub same_text : Bytes → Bytes → Bool
same_text = pointwise ◌==◌

-- the text stands in the list
abbrev pub is_among : Bytes → List Bytes → Bool
is_among text texts = list_any (same_text text) texts

-- no text stands twice
abbrev pub AreDistinct : List Bytes → Type 0
AreDistinct [] = Unit {0}
AreDistinct (text ∷ texts) = IsTrue (not (is_among text texts)) × AreDistinct texts

abbrev pub is_between : ℕ → ℕ → ℕ → Bool
is_between low high byte = nat_le low byte && nat_le byte high

abbrev pub is_digit : ℕ → Bool
is_digit = is_between 48 57

-- a letter or the underscore
abbrev pub is_letter : ℕ → Bool
is_letter byte = is_between 97 122 byte || is_between 65 90 byte || byte == 95

abbrev pub is_name_byte : ℕ → Bool
is_name_byte byte = is_letter byte || is_digit byte

-- a letter, and then letters and digits
abbrev pub is_word : Bytes → Bool
is_word [] = false
is_word (byte ∷ bytes) = is_letter byte && list_all is_name_byte bytes

-- how the source writes a reserved word
abbrev pub word_text : Word → Bytes
word_text word.Fn = codes "fn"
word_text word.Claim = codes "claim"
word_text word.Result = codes "result"
word_text word.R = codes "R"
word_text word.Var = codes "var"
word_text word.In = codes "in"
word_text word.If = codes "if"
word_text word.Else = codes "else"
word_text word.While = codes "while"
word_text word.Max = codes "max"
word_text word.Repeat = codes "repeat"
word_text word.Return = codes "return"
word_text word.Call = codes "call"
word_text word.Within = codes "within"

-- all of them
abbrev pub words : List Word
words =
    word.Fn ∷ word.Claim ∷ word.Result ∷ word.R ∷ word.Var ∷ word.In ∷ word.If ∷ word.Else ∷ word.While ∷ word.Max ∷ word.Repeat ∷ word.Return ∷ word.Call ∷ word.Within ∷ []

-- the reserved word that the text writes
unfoldable pub word_of : Bytes → Option Word
word_of text = find (λ w. same_text (word_text w) text) words

-- the words that the language keeps for itself
abbrev pub reserved : List Bytes
reserved = map word_text words

-- a name of the language
abbrev pub is_name : Bytes → Bool
is_name text = is_word text && not (is_among text reserved)
