-- Calls of a function that trials are asked of.
use Rattle.std.specs.Prelude.{ℕ, ◌==◌, Option, None, option_map, slice_get, if◌then◌else◌}
use Rattle.rely_kernel.specs.declared.kernel.Kernel.{Kernel}
use Rattle.chisel_options.specs.declared.trials.Trials.{Trials}

-- the place of the first call of a function, where trials are asked of it
abbrev pub barred_call : Trials → Kernel → Option ℕ
barred_call trials k = if trials.count == 0 then None else option_map (λ site. site.mark.from) (slice_get k.calls 0)
