-- The options of a search: pairs of a word and its value, in any order, each at most once.
use Rattle.std.specs.Prelude.{List, [], ◌∷◌, codes, Option, Some, None, option_map, if◌then◌else◌}
use Rattle.rely_num.specs.Texts.{Bytes, same_text}
use Rattle.chisel_options.specs.declared.strategy.Branch.{Branch}
use Rattle.chisel_options.specs.declared.strategy.Branch.TheVariants.{First, Spread, Heavy}
use Rattle.chisel_words.specs.declared.search.Given.{Given}
use Rattle.chisel_options.specs.declared.strategy.Order.{Order}
use Rattle.chisel_options.specs.declared.strategy.Order.TheVariants.{Deep, Best}
use Rattle.chisel_options.specs.declared.strategy.Strategy.{Strategy}
use Rattle.chisel_words.specs.Numbers.{number_between}

abbrev pub branch_of : Bytes → Option Branch
branch_of text =
    if same_text text (codes "first") then Some First
    else if same_text text (codes "spread") then Some Spread
    else if same_text text (codes "heavy") then Some Heavy
    else None

abbrev pub order_of : Bytes → Option Order
order_of text =
    if same_text text (codes "deep") then Some Deep
    else if same_text text (codes "best") then Some Best
    else None

-- a value where none was given before
abbrev pub once : {A : Type 0} → Option A → Option A → Option A
once None value = value
once (Some before) value = None

-- one option more
abbrev pub one_more : Given → Bytes → Bytes → Option Given
one_more g option text =
    if same_text option (codes "--nodes")
    then option_map (λ n. record { nodes = Some n; branch = g.branch; order = g.order }) (once g.nodes (number_between 1 100000 text))
    else if same_text option (codes "--branch")
    then option_map (λ b. record { nodes = g.nodes; branch = Some b; order = g.order }) (once g.branch (branch_of text))
    else if same_text option (codes "--order")
    then option_map (λ o. record { nodes = g.nodes; branch = g.branch; order = Some o }) (once g.order (order_of text))
    else None

infixl 10 ◌>>=◌
abbrev pub ◌>>=◌ : {A B : Type 0} → Option A → (A → Option B) → Option B
None >>= f = None
Some a >>= f = f a

-- the options that the words give, behind those that are given already
abbrev pub given_by : List Bytes → Given → Option Given
given_by [] g = Some g
given_by (option ∷ []) g = None
given_by (option ∷ text ∷ more) g = one_more g option text >>= λ next. given_by more next

abbrev pub nothing_given : Given
nothing_given = record { nodes = None; branch = None; order = None }

abbrev pub given_or : {A : Type 0} → Option A → A → A
given_or None otherwise = otherwise
given_or (Some a) otherwise = a

-- 100,000 nodes, the first decision and the deepest part, where nothing else is given
abbrev pub completed : Given → Strategy
completed g = record { nodes = given_or g.nodes 100000; branch = given_or g.branch First; order = given_or g.order Deep }

abbrev pub search_of : List Bytes → Option Strategy
search_of words = option_map completed (given_by words nothing_given)
