-- Names as numbers: places in lists of names.
use Rattle.std.specs.Prelude.{ℕ, List, map, Option, position, slice_get, is_some, Bool, false, unwrap_or}
use Rattle.std.specs.Option.{option_map_or}
use Rattle.rely_num.specs.Texts.{Bytes, same_text}
use Rattle.rely_hard.specs.declared.hardware.KindSpec.{KindSpec}
use Rattle.rely_hard.specs.declared.hardware.MemSpec.{MemSpec}
use Rattle.rely_tree.specs.Tree.{DeclTree, FuncTree}

-- the first place of a name in a list of names
abbrev pub place_of : Bytes → List Bytes → Option ℕ
place_of name names = position (λ n. same_text n name) names

-- the same as a number: 0 where the name isn't there
abbrev pub number_of : Bytes → List Bytes → ℕ
number_of name names = unwrap_or (place_of name names) 0

-- the names of variables, of functions, of memories, of kinds
abbrev pub names : List DeclTree → List Bytes
names = map (λ d. d.name.text)

abbrev pub function_names : List FuncTree → List Bytes
function_names = map (λ f. f.name.text)

abbrev pub memory_names : List MemSpec → List Bytes
memory_names = map (λ m. m.name)

abbrev pub kind_names : List KindSpec → List Bytes
kind_names = map (λ k. k.name)

-- the variable of that number is an array
abbrev pub is_array : List DeclTree → ℕ → Bool
is_array vs v = option_map_or (λ d. is_some d.length) (slice_get vs v) false
