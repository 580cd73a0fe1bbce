-- The tokens of a text have one answer: the tree that they spell within the limits, or one refusal.
use Rattle.std.specs.Prelude.{◌≡◌, List, Ok, Err}
use Rattle.rely_num.specs.Texts.{Bytes}
use Rattle.rely_lexer.specs.declared.token.Token.{Token}
use Rattle.rely_tree.specs.Tree.{UnitTree}
use Rattle.rely_parser.specs.declared.fault.ParseFault.TheVariants as fault
use Rattle.rely_parser.specs.Counts.{nothing, AllWithin}
use Rattle.rely_parser.specs.Productions.{Spelled, AreOf, Refuses}
use Rattle.rely_parser.specs.State.{Reading}

-- a tree is one that they spell within the limits, and a refusal is as it must be
abbrev pub IsAnswer : Bytes → List Token → Reading UnitTree → Type 0
IsAnswer text toks (Ok u) = Spelled text toks u × AllWithin nothing toks
IsAnswer text toks (Err fault.Memory) = ⊥
IsAnswer text toks (Err f) = Refuses text toks f

abbrev pub OneAnswer : Type 0
OneAnswer = (text : Bytes) (toks : List Token) (r r' : Reading UnitTree) → AreOf text toks → IsAnswer text toks r → IsAnswer text toks r' → r ≡ r'
