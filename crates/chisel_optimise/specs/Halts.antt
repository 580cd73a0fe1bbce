-- Why a command ends before its work is done, as a clause says it.
use Rattle.std.specs.Prelude.{Option, Some, None}
use Rattle.rely_precond.specs.declared.fault.PreFault.{PreFault}
use Rattle.chisel_lines.specs.declared.answer.Answer.{Answer}
use Rattle.chisel_lines.specs.declared.answer.Answer.TheVariants.{Refused}
use Rattle.chisel_lines.specs.declared.refusal.Refusal.{Refusal}
use Rattle.chisel_lines.specs.Refusals.{walk_refusal}
use Rattle.chisel_lines.specs.declared.refusal.Limit.TheVariants.{Decisions, Options}
use Rattle.chisel_lines.specs.declared.refusal.Refusal.TheVariants.{Limit}
use Rattle.chisel_problem.specs.declared.fault.ProblemFault.{ProblemFault}
use Rattle.chisel_problem.specs.declared.fault.ProblemFault.TheVariants as problem
use Rattle.chisel_optimise.specs.declared.halt.Halt.{Halt}
use Rattle.chisel_optimise.specs.declared.halt.Halt.TheVariants as halt

-- memory is refused, or it ends with an answer of which P holds
abbrev pub HaltsBy : (Answer → Type 0) → Halt → Type 0
HaltsBy P halt.Memory = Unit {0}
HaltsBy P (halt.Answer a) = P a

-- a refusal, or want of memory where there is none
abbrev pub halt_by : Option Refusal → Halt
halt_by (Some r) = halt.Answer (Refused r)
halt_by None = halt.Memory

abbrev pub walk_halt : PreFault → Halt
walk_halt fault = halt_by (walk_refusal fault)

-- too many decisions, or options of one
abbrev pub problem_halt : ProblemFault → Halt
problem_halt problem.Decisions = halt.Answer (Refused (Limit Decisions 257))
problem_halt problem.Options = halt.Answer (Refused (Limit Options 17))
problem_halt _ = halt.Memory
