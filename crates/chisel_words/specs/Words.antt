-- The words of a command line.
use Rattle.std.specs.Prelude.{ℕ, Bool, true, false, not, ◌&&◌, ◌==◌, ◌≤◌, List, [], ◌∷◌, codes, Option, Some, None, option_map, if◌then◌else◌}
use Rattle.std.specs.Option.{option_or}
use Rattle.rely_num.specs.Texts.{Bytes, same_text}
use Rattle.chisel_options.specs.declared.trials.Trials.{Trials}
use Rattle.chisel_options.specs.declared.strategy.Strategy.{Strategy}
use Rattle.chisel_words.specs.Numbers.{number_up_to, number_between}
use Rattle.chisel_words.specs.Search.{search_of}

-- a file's name or a function's: not empty, and no option
abbrev pub is_plain : Bytes → Bool
is_plain [] = false
is_plain (byte ∷ bytes) = not (byte == 45)

-- what `verify` is asked, and whether the lines of the functions that are called are wanted
pub record Verify : Type 0 where
  pub source : Bytes
  pub hardware : Bytes
  pub function : Bytes
  pub callees : Bool

-- what `run` is asked
pub record Simulate : Type 0 where
  pub source : Bytes
  pub hardware : Bytes
  pub inputs : Bytes
  pub function : Bytes
  pub trials : Trials

-- what `optimise` is asked
pub record Optimise : Type 0 where
  pub source : Bytes
  pub hardware : Bytes
  pub inputs : Bytes
  pub function : Bytes
  pub search : Strategy

-- what the commands are asked that take a certificate
pub record Certified : Type 0 where
  pub source : Bytes
  pub hardware : Bytes
  pub inputs : Bytes
  pub function : Bytes
  pub certificate : Bytes

-- what `make` is asked
pub record Make : Type 0 where
  pub size : ℕ
  pub number : ℕ

pub data Command : Type 0 where
  ToVerify : Verify → Command
  ToOptimise : Optimise → Command
  ToCheck : Certified → Command
  ToRewrite : Certified → Command
  ToMigrate : Certified → Command
  ToRun : Simulate → Command
  ToMake : Make → Command
  ToVersion : Command

-- ---- options

-- the options of `verify`
abbrev pub callees_of : List Bytes → Option Bool
callees_of [] = Some false
callees_of (option ∷ []) = if same_text option (codes "--callees") then Some true else None
callees_of (option ∷ other ∷ more) = None

-- --seed and a number
abbrev pub seed_of : Bytes → Bytes → Option ℕ
seed_of option text = if same_text option (codes "--seed") then number_up_to 18446744073709551615 text else None

-- --trials and a number
abbrev pub count_of : Bytes → Bytes → Option ℕ
count_of option text = if same_text option (codes "--trials") then number_up_to 1000 text else None

abbrev pub trials_by : Option ℕ → Option ℕ → Option Trials
trials_by (Some seed) (Some count) = Some (record { seed = seed; count = count })
trials_by (Some seed) None = None
trials_by None count = None

-- the options of `run`: neither, either, or both in any order; no trials and the seed 1 where they don't stand
abbrev pub trials_of : List Bytes → Option Trials
trials_of [] = Some (record { seed = 1; count = 0 })
trials_of (option ∷ text ∷ []) = option_or (trials_by (seed_of option text) (Some 0)) (trials_by (Some 1) (count_of option text))
trials_of (option ∷ text ∷ other ∷ more ∷ []) =
    option_or (trials_by (seed_of option text) (count_of other more)) (trials_by (seed_of other more) (count_of option text))
trials_of _ = None

-- ---- forms

-- SOURCE HARDWARE FUNCTION, and then --callees or nothing
abbrev pub verify_form : List Bytes → Option Command
verify_form (source ∷ hardware ∷ function ∷ options) =
    if is_plain source && (is_plain hardware && is_plain function)
    then option_map (λ callees. ToVerify (record { source = source; hardware = hardware; function = function; callees = callees })) (callees_of options) else None
verify_form _ = None

-- SOURCE HARDWARE INPUTS FUNCTION, and then the options
abbrev pub run_form : List Bytes → Option Command
run_form (source ∷ hardware ∷ inputs ∷ function ∷ options) =
    if is_plain source && (is_plain hardware && (is_plain inputs && is_plain function))
    then option_map (λ trials. ToRun (record { source = source; hardware = hardware; inputs = inputs; function = function; trials = trials })) (trials_of options) else None
run_form _ = None

-- SOURCE HARDWARE INPUTS FUNCTION, and then the options
abbrev pub optimise_form : List Bytes → Option Command
optimise_form (source ∷ hardware ∷ inputs ∷ function ∷ options) =
    if is_plain source && (is_plain hardware && (is_plain inputs && is_plain function))
    then option_map (λ search. ToOptimise (record { source = source; hardware = hardware; inputs = inputs; function = function; search = search })) (search_of options) else None
optimise_form _ = None

-- SOURCE HARDWARE INPUTS FUNCTION CERT
abbrev pub certified_form : List Bytes → Option Certified
certified_form (source ∷ hardware ∷ inputs ∷ function ∷ certificate ∷ []) =
    if is_plain source && (is_plain hardware && (is_plain inputs && (is_plain function && is_plain certificate)))
    then Some (record { source = source; hardware = hardware; inputs = inputs; function = function; certificate = certificate }) else None
certified_form _ = None

abbrev pub make_by : Option ℕ → Option ℕ → Option Command
make_by (Some size) (Some number) = Some (ToMake (record { size = size; number = number }))
make_by (Some size) None = None
make_by None number = None

-- SIZE NUMBER
abbrev pub make_form : List Bytes → Option Command
make_form (size ∷ number ∷ []) = make_by (number_between 1 100 size) (number_up_to 18446744073709551615 number)
make_form _ = None

-- nothing behind the command
abbrev pub version_form : List Bytes → Option Command
version_form [] = Some ToVersion
version_form (word ∷ words) = None

-- the commands that take a certificate
abbrev pub certified_command : Bytes → List Bytes → Option Command
certified_command command words =
    if same_text command (codes "check") then option_map ToCheck (certified_form words)
    else if same_text command (codes "rewrite") then option_map ToRewrite (certified_form words)
    else if same_text command (codes "migrate") then option_map ToMigrate (certified_form words)
    else None

abbrev pub command_form : Bytes → List Bytes → Option Command
command_form command words =
    if same_text command (codes "verify") then verify_form words
    else if same_text command (codes "optimise") then optimise_form words
    else if same_text command (codes "run") then run_form words
    else if same_text command (codes "make") then make_form words
    else if same_text command (codes "version") then version_form words
    else if same_text command (codes "--version") then version_form words
    else certified_command command words

abbrev pub form : List Bytes → Option Command
form [] = None
form (command ∷ words) = command_form command words

-- a search takes 1 to 100,000 parts, and a made problem has a size from 1 to 100
abbrev pub KeepsLimits : Command → Type 0
KeepsLimits (ToVerify v) = Unit {0}
KeepsLimits (ToOptimise o) = (1 ≤ o.search.nodes) × (o.search.nodes ≤ 100000)
KeepsLimits (ToCheck c) = Unit {0}
KeepsLimits (ToRewrite c) = Unit {0}
KeepsLimits (ToMigrate c) = Unit {0}
KeepsLimits (ToRun r) = Unit {0}
KeepsLimits (ToMake m) = (1 ≤ m.size) × (m.size ≤ 100)
KeepsLimits ToVersion = Unit {0}

-- the files of the commands that take a certificate
abbrev pub certified_files : Certified → List Bytes
certified_files c = c.source ∷ c.hardware ∷ c.inputs ∷ c.certificate ∷ []

-- the files that the words name, in the order in which they are fetched
abbrev pub files_of : Option Command → List Bytes
files_of None = []
files_of (Some (ToVerify v)) = v.source ∷ v.hardware ∷ []
files_of (Some (ToOptimise o)) = o.source ∷ o.hardware ∷ o.inputs ∷ []
files_of (Some (ToCheck c)) = certified_files c
files_of (Some (ToRewrite c)) = certified_files c
files_of (Some (ToMigrate c)) = certified_files c
files_of (Some (ToRun r)) = r.source ∷ r.hardware ∷ r.inputs ∷ []
files_of (Some (ToMake m)) = []
files_of (Some ToVersion) = []
