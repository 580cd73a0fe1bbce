-- The printed line of a claim, and that of a function's claim in use.
use Rattle.std.specs.Prelude.{ℕ, [], ◌++◌, codes, decimal, slice_get}
use Rattle.std.specs.Option.{option_map_or}
use Rattle.rely_num.specs.AttoTexts.{atto_text}
use Rattle.rely_num.specs.Texts.{Bytes}
use Rattle.rely_parser.specs.State.{word_at}
use Rattle.rely_kernel.specs.declared.kernel.Claim.{Claim}
use Rattle.rely_kernel.specs.declared.kernel.Kernel.{Kernel}
use Rattle.rely_verdict.specs.declared.verdict.Verdict.{Verdict}
use Rattle.rely_verdict.specs.declared.verdict.Verdict.TheVariants.{Needs, Below, Undecided, Accepted}

abbrev pub variable_name : Kernel → ℕ → Bytes
variable_name k v = option_map_or (λ x. x.name) (slice_get k.vars v) []

-- what a verdict says, before the bound
abbrev pub said : Kernel → Verdict → Bytes
said k (Needs v) = codes "needs " ++ variable_name k v
said k (Below hi) = codes "below " ++ atto_text hi
said k (Undecided lo hi) = codes "undecided " ++ atto_text lo ++ codes " " ++ atto_text hi
said k (Accepted lo) = codes "accepted " ++ atto_text lo

-- the line of the claim with that number
abbrev pub line_on : Kernel → ℕ → Claim → Verdict → Bytes
line_on k i c v = codes "claim " ++ decimal i ++ codes " " ++ said k v ++ codes " " ++ atto_text c.bound ++ codes "\n"

-- the line of a function's claim with that number
abbrev pub callee_line : Bytes → Kernel → ℕ → Claim → Verdict → Bytes
callee_line text k i c v = codes "callee " ++ word_at text k.name ++ codes " " ++ line_on k i c v
