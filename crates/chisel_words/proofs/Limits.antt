-- The numbers of a command lie within the limits, whatever its words are.
use Rattle.std.proofs.Common.{◌≡◌, ℕ, ◌≤◌, ◌&&◌, Bool, true, false, List, [], ◌∷◌, Option, Some, None, refl, arith}
use Rattle.std.specs.Prelude.{IfSome, codes, decimal, nat_le, option_map, if◌then◌else◌}
use Rattle.std.specs.Str.Parse.{digits_value}
use Rattle.std.proofs.lemmas.Bool.{leb-true}
use Rattle.rely_num.specs.Texts.{Bytes, same_text}
use Rattle.chisel_words.specs.declared.search.Given.{Given}
use Rattle.chisel_options.specs.declared.strategy.Strategy.{Strategy}
use Rattle.chisel_words.specs.Numbers.{at_least, number_between, number_up_to}
use Rattle.chisel_words.specs.Search.{branch_of, completed, given_by, given_or, nothing_given, once, one_more, order_of, search_of, ◌>>=◌}
use Rattle.chisel_words.specs.Words.{KeepsLimits, ToCheck, ToMigrate, ToOptimise, ToRewrite, ToRun, ToVerify, callees_of, certified_command, certified_form, command_form, form, is_plain, make_by, make_form, optimise_form, run_form, trials_of, verify_form, version_form}

-- ---- values that may be there

of_two : {A : Type 0} (P : A → Type 0) (b : Bool) (x y : Option A) → IfSome x P → IfSome y P → IfSome (if b then x else y) P
of_two P true x y h k = h
of_two P false x y h k = k

of_map : {A B : Type 0} (P : B → Type 0) (f : A → B) (o : Option A) → IfSome o (λ a. P (f a)) → IfSome (option_map f o) P
of_map P f None h = tt
of_map P f (Some a) h = h

of_all : {A : Type 0} (P : A → Type 0) (o : Option A) → ((a : A) → P a) → IfSome o P
of_all P None h = tt
of_all P (Some a) h = h a

of_then : {A B : Type 0} (P : A → Type 0) (Q : B → Type 0) (o : Option A) (f : A → Option B) → IfSome o P → ((a : A) → P a → IfSome (f a) Q) → IfSome (o >>= f) Q
of_then P Q None f h k = tt
of_then P Q (Some a) f h k = k a h

-- ---- numbers

small : (last : ℕ) (text : Bytes) → IfSome (number_up_to last text) (λ n. n ≤ last)
small last text = by_tests (nat_le (digits_value 10 text) last) refl (same_text text (decimal (digits_value 10 text)))
  where
    by_tests : (a : Bool) → nat_le (digits_value 10 text) last ≡ a → (b : Bool) → IfSome (if a && b then Some (digits_value 10 text) else None) (λ n. n ≤ last)
    by_tests false e b = tt
    by_tests true e false = tt
    by_tests true e true = leb-true _ _ e

between_from : (first last : ℕ) (o : Option ℕ) → IfSome o (λ n. n ≤ last) → IfSome (at_least first o) (λ n. (first ≤ n) × (n ≤ last))
between_from first last None h = tt
between_from first last (Some n) h = by_test (nat_le first n) refl
  where
    by_test : (b : Bool) → nat_le first n ≡ b → IfSome (if b then Some n else None) (λ m. (first ≤ m) × (m ≤ last))
    by_test true e = (leb-true _ _ e, h)
    by_test false e = tt

between : (first last : ℕ) (text : Bytes) → IfSome (number_between first last text) (λ n. (first ≤ n) × (n ≤ last))
between first last text = between_from first last (number_up_to last text) (small last text)

-- ---- the options of a search

-- the number of nodes, where one is given
abbrev HasFew : Given → Type 0
HasFew g = IfSome g.nodes (λ n. (1 ≤ n) × (n ≤ 100000))

once_few : (before : Option ℕ) (text : Bytes) → IfSome (once before (number_between 1 100000 text)) (λ n. (1 ≤ n) × (n ≤ 100000))
once_few None text = between 1 100000 text
once_few (Some n) text = tt

more_few : (g : Given) (option text : Bytes) → HasFew g → IfSome (one_more g option text) HasFew
more_few g option text few =
    of_two HasFew (same_text option (codes "--nodes")) _ _
    (of_map HasFew (λ n. record { nodes = Some n; branch = g.branch; order = g.order }) (once g.nodes (number_between 1 100000 text)) (once_few g.nodes text))
    (of_two HasFew (same_text option (codes "--branch")) _ _
    (of_map HasFew (λ b. record { nodes = g.nodes; branch = Some b; order = g.order }) (once g.branch (branch_of text)) (of_all (λ b. HasFew g) (once g.branch (branch_of text)) (λ b. few)))
    (of_two HasFew (same_text option (codes "--order")) _ _
    (of_map HasFew (λ o. record { nodes = g.nodes; branch = g.branch; order = Some o }) (once g.order (order_of text)) (of_all (λ o. HasFew g) (once g.order (order_of text)) (λ o. few)))
    tt))

given_few : (options : List Bytes) (g : Given) → HasFew g → IfSome (given_by options g) HasFew
given_few [] g few = few
given_few (option ∷ []) g few = tt
given_few (option ∷ text ∷ more) g few = of_then HasFew HasFew (one_more g option text) (λ next. given_by more next) (more_few g option text few) (λ next h. given_few more next h)

nodes_few : (n : Option ℕ) → IfSome n (λ m. (1 ≤ m) × (m ≤ 100000)) → (1 ≤ given_or n 100000) × (given_or n 100000 ≤ 100000)
nodes_few None h = (omega arith, omega arith)
nodes_few (Some n) h = h

abbrev IsFew : Strategy → Type 0
IsFew s = (1 ≤ s.nodes) × (s.nodes ≤ 100000)

completed_few : (o : Option Given) → IfSome o HasFew → IfSome (option_map completed o) IsFew
completed_few None h = tt
completed_few (Some g) h = nodes_few g.nodes h

search_few : (options : List Bytes) → IfSome (search_of options) IsFew
search_few options = completed_few (given_by options nothing_given) (given_few options nothing_given tt)

-- ---- forms

verify_keeps : (words : List Bytes) → IfSome (verify_form words) KeepsLimits
verify_keeps [] = tt
verify_keeps (a ∷ []) = tt
verify_keeps (a ∷ b ∷ []) = tt
verify_keeps (source ∷ hardware ∷ function ∷ options) =
    of_two KeepsLimits (is_plain source && (is_plain hardware && is_plain function)) _ None
    (of_map KeepsLimits (λ callees. ToVerify (record { source = source; hardware = hardware; function = function; callees = callees })) (callees_of options) (of_all _ (callees_of options) (λ callees. tt))) tt

run_keeps : (words : List Bytes) → IfSome (run_form words) KeepsLimits
run_keeps [] = tt
run_keeps (a ∷ []) = tt
run_keeps (a ∷ b ∷ []) = tt
run_keeps (a ∷ b ∷ c ∷ []) = tt
run_keeps (source ∷ hardware ∷ inputs ∷ function ∷ options) =
    of_two KeepsLimits (is_plain source && (is_plain hardware && (is_plain inputs && is_plain function))) _ None
    (of_map KeepsLimits (λ trials. ToRun (record { source = source; hardware = hardware; inputs = inputs; function = function; trials = trials })) (trials_of options) (of_all _ (trials_of options) (λ trials. tt))) tt

optimise_keeps : (words : List Bytes) → IfSome (optimise_form words) KeepsLimits
optimise_keeps [] = tt
optimise_keeps (a ∷ []) = tt
optimise_keeps (a ∷ b ∷ []) = tt
optimise_keeps (a ∷ b ∷ c ∷ []) = tt
optimise_keeps (source ∷ hardware ∷ inputs ∷ function ∷ options) =
    of_two KeepsLimits (is_plain source && (is_plain hardware && (is_plain inputs && is_plain function))) _ None
    (of_map KeepsLimits (λ search. ToOptimise (record { source = source; hardware = hardware; inputs = inputs; function = function; search = search })) (search_of options) (search_few options)) tt

make_keeps_by : (size number : Option ℕ) → IfSome size (λ n. (1 ≤ n) × (n ≤ 100)) → IfSome (make_by size number) KeepsLimits
make_keeps_by None number h = tt
make_keeps_by (Some size) None h = tt
make_keeps_by (Some size) (Some number) h = h

make_keeps : (words : List Bytes) → IfSome (make_form words) KeepsLimits
make_keeps [] = tt
make_keeps (a ∷ []) = tt
make_keeps (size ∷ number ∷ []) = make_keeps_by (number_between 1 100 size) (number_up_to 18446744073709551615 number) (between 1 100 size)
make_keeps (a ∷ b ∷ c ∷ more) = tt

version_keeps : (words : List Bytes) → IfSome (version_form words) KeepsLimits
version_keeps [] = tt
version_keeps (word ∷ words) = tt

certified_keeps : (command : Bytes) (words : List Bytes) → IfSome (certified_command command words) KeepsLimits
certified_keeps command words =
    of_two KeepsLimits (same_text command (codes "check")) _ _ (of_map KeepsLimits ToCheck (certified_form words) (of_all _ (certified_form words) (λ c. tt)))
    (of_two KeepsLimits (same_text command (codes "rewrite")) _ _ (of_map KeepsLimits ToRewrite (certified_form words) (of_all _ (certified_form words) (λ c. tt)))
    (of_two KeepsLimits (same_text command (codes "migrate")) _ None (of_map KeepsLimits ToMigrate (certified_form words) (of_all _ (certified_form words) (λ c. tt))) tt))

command_keeps : (command : Bytes) (words : List Bytes) → IfSome (command_form command words) KeepsLimits
command_keeps command words =
    of_two KeepsLimits (same_text command (codes "verify")) _ _ (verify_keeps words)
    (of_two KeepsLimits (same_text command (codes "optimise")) _ _ (optimise_keeps words)
    (of_two KeepsLimits (same_text command (codes "run")) _ _ (run_keeps words)
    (of_two KeepsLimits (same_text command (codes "make")) _ _ (make_keeps words)
    (of_two KeepsLimits (same_text command (codes "version")) _ _ (version_keeps words)
    (of_two KeepsLimits (same_text command (codes "--version")) _ _ (version_keeps words) (certified_keeps command words))))))

pub form_keeps : (words : List Bytes) → IfSome (form words) KeepsLimits
form_keeps [] = tt
form_keeps (command ∷ words) = command_keeps command words
