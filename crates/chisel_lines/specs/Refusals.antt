-- The line and the status of each refusal, and the limits of a walk as refusals.
use Rattle.std.specs.Prelude.{◌++◌, codes, decimal, Option, Some, None}
use Rattle.rely_num.specs.Texts.{Bytes}
use Rattle.rely_num.specs.declared.span.Span.{Span}
use Rattle.rely_precond.specs.Walk.{Limit, Wide, Count, Work}
use Rattle.rely_precond.specs.declared.fault.PreFault.{PreFault}
use Rattle.rely_precond.specs.declared.fault.PreFault.TheVariants as walk
use Rattle.chisel_lines.specs.declared.refusal.Limit.TheVariants as limit
use Rattle.chisel_lines.specs.declared.refusal.Refusal.{Refusal}
use Rattle.chisel_lines.specs.declared.refusal.Refusal.TheVariants as refusal
use Rattle.chisel_lines.specs.declared.status.Status.{Status}
use Rattle.chisel_lines.specs.declared.status.Status.TheVariants as status
use Rattle.chisel_lines.specs.Reasons.{key_text, lack_text, limit_text, reason_text, why_text}

-- the text of each
abbrev pub refusal_line : Refusal → Bytes
refusal_line (refusal.Source reason place) = codes "fault source " ++ reason_text reason ++ codes " " ++ decimal place ++ codes "\n"
refusal_line (refusal.Hardware why key outer inner) =
    codes "fault hardware " ++ why_text why ++ codes " " ++ key_text key ++ codes " " ++ decimal outer ++ codes " " ++ decimal inner ++ codes "\n"
refusal_line (refusal.Inputs why sample var) = codes "fault inputs " ++ lack_text why ++ codes " " ++ decimal sample ++ codes " " ++ decimal var ++ codes "\n"
refusal_line (refusal.Limit limit number) = codes "fault limit " ++ limit_text limit ++ codes " " ++ decimal number ++ codes "\n"

-- its status
abbrev pub refusal_status : Refusal → Status
refusal_status (refusal.Source reason place) = status.Text
refusal_status (refusal.Hardware why key outer inner) = status.Text
refusal_status (refusal.Inputs why sample var) = status.Text
refusal_status (refusal.Limit limit number) = status.Limit

-- the limit that a walk reaches, at that place
abbrev pub limit_refusal : Limit × Span → Refusal
limit_refusal (Wide, at) = refusal.Limit limit.Wide at.from
limit_refusal (Count, at) = refusal.Limit limit.Count at.from
limit_refusal (Work, at) = refusal.Limit limit.Work at.from

-- want of memory is none
abbrev pub walk_refusal : PreFault → Option Refusal
walk_refusal (walk.Wide at) = Some (limit_refusal (Wide, at))
walk_refusal (walk.Count at) = Some (limit_refusal (Count, at))
walk_refusal (walk.Work at) = Some (limit_refusal (Work, at))
walk_refusal walk.Memory = None
