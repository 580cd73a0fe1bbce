-- The words that the lines of refusals print.
use Rattle.std.specs.Prelude.{codes}
use Rattle.rely_num.specs.Texts.{Bytes}
use Rattle.rely_hard.specs.declared.fault.HardWhy.{HardWhy}
use Rattle.rely_hard.specs.declared.fault.HardWhy.TheVariants as why
use Rattle.rely_hard.specs.declared.fault.Key.{Key}
use Rattle.rely_hard.specs.declared.fault.Key.TheVariants as key
use Rattle.rely_inputs.specs.declared.fault.InputWhy.{InputWhy}
use Rattle.rely_inputs.specs.declared.fault.InputWhy.TheVariants as lack
use Rattle.chisel_lines.specs.declared.refusal.Limit.{Limit}
use Rattle.chisel_lines.specs.declared.refusal.Limit.TheVariants as limit
use Rattle.chisel_lines.specs.declared.refusal.Reason.{Reason}
use Rattle.chisel_lines.specs.declared.refusal.Reason.TheVariants as reason

abbrev pub reason_text : Reason → Bytes
reason_text reason.Byte = codes "byte"
reason_text reason.Wide = codes "wide"
reason_text reason.Expected = codes "expected"
reason_text reason.Deep = codes "deep"
reason_text reason.Many = codes "many"
reason_text reason.Twice = codes "twice"
reason_text reason.Function = codes "function"
reason_text reason.Claim = codes "claim"
reason_text reason.Unknown = codes "unknown"
reason_text reason.NotArray = codes "notarray"
reason_text reason.NotScalar = codes "notscalar"
reason_text reason.NoKind = codes "nokind"
reason_text reason.NoMemory = codes "nomemory"
reason_text reason.Store = codes "store"
reason_text reason.NoCallee = codes "nocallee"
reason_text reason.Arity = codes "arity"
reason_text reason.ArrayParam = codes "arrayparam"
reason_text reason.NoClaim = codes "noclaim"
reason_text reason.Mark = codes "mark"
reason_text reason.Closed = codes "closed"
reason_text reason.Trials = codes "trials"

abbrev pub limit_text : Limit → Bytes
limit_text limit.Wide = codes "wide"
limit_text limit.Count = codes "count"
limit_text limit.Work = codes "work"
limit_text limit.Steps = codes "steps"
limit_text limit.Decisions = codes "decisions"
limit_text limit.Options = codes "options"
limit_text limit.Nodes = codes "nodes"

abbrev pub why_text : HardWhy → Bytes
why_text why.Json = codes "json"
why_text why.Missing = codes "missing"
why_text why.Kind = codes "kind"
why_text why.Range = codes "range"
why_text why.Repeated = codes "repeated"
why_text why.NoExact = codes "noexact"
why_text why.Many = codes "many"

abbrev pub key_text : Key → Bytes
key_text key.Root = codes "root"
key_text key.Base = codes "base"
key_text key.Operators = codes "operators"
key_text key.Op = codes "op"
key_text key.Kinds = codes "kinds"
key_text key.Memories = codes "memories"
key_text key.Name = codes "name"
key_text key.Right = codes "right"
key_text key.Energy = codes "energy"
key_text key.Read = codes "read"
key_text key.Write = codes "write"
key_text key.ReadEnergy = codes "read_energy"
key_text key.WriteEnergy = codes "write_energy"
key_text key.Hold = codes "hold"

abbrev pub lack_text : InputWhy → Bytes
lack_text lack.Json = codes "json"
lack_text lack.Shape = codes "shape"
lack_text lack.Count = codes "count"
lack_text lack.Missing = codes "missing"
lack_text lack.Length = codes "length"
lack_text lack.Number = codes "number"
lack_text lack.Extra = codes "extra"
