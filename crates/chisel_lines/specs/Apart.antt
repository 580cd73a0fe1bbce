-- That refusals, devices and memory are told apart.
use Rattle.std.specs.Prelude.{◌≡◌, ◌⊎◌}
use Rattle.chisel_lines.specs.declared.refusal.Refusal.{Refusal}
use Rattle.chisel_lines.specs.declared.status.Status.TheVariants as status
use Rattle.chisel_lines.specs.Faults.{memory_line}
use Rattle.chisel_lines.specs.Refusals.{refusal_line, refusal_status}

-- each ends with the status of a text or of a limit
abbrev pub RefusedAsNamed : Type 0
RefusedAsNamed = (r : Refusal) → (refusal_status r ≡ status.Text) ⊎ (refusal_status r ≡ status.Limit)

-- none has the line of want of memory
abbrev pub NoneForMemory : Type 0
NoneForMemory = (r : Refusal) → refusal_line r ≡ memory_line → ⊥
