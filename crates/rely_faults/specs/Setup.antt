-- What all trials of a kernel share.
use Rattle.std.specs.Prelude.{◌≡◌, ℕ, []}
use Rattle.rand_pcg.specs.Lcg.{Lcg}
use Rattle.rely_hard.specs.declared.hardware.Hardware.{Hardware}
use Rattle.rely_hard.specs.Valid.{IsHardware}
use Rattle.rely_kernel.specs.declared.kernel.Kernel.{Kernel}
use Rattle.rely_kernel.specs.declared.setting.Setting.{Setting}
use Rattle.rely_kernel.specs.declared.setting.Store.{Store}
use Rattle.rely_kernel.specs.Setting.{Fits}
use Rattle.rely_kernel.specs.Valid.{IsValid}
use Rattle.rely_faults.specs.declared.outcome.Ended.{Ended}
use Rattle.rely_faults.specs.declared.outcome.Tried.{Tried}
use Rattle.rely_faults.specs.Trial.{IsTried, LeavesWords, PassesLimit, StopsAt}

-- a kernel under a setting of a hardware
pub record Setup : Type 0 where
  pub kernel : Kernel
  pub hardware : Hardware
  pub setting : Setting

-- trials are defined of a kernel that calls nothing
pub record HasTrials (s : Setup) : Type 0 where
  pub valid : IsValid s.kernel
  pub no_calls : s.kernel.calls ≡ []
  pub hardware : IsHardware s.hardware
  pub fits : Fits s.kernel s.hardware s.setting

-- ---- trials under a setup

-- the outcome of the whole trial, and the generator that it leaves
abbrev pub Tries : Setup → Store → Lcg → Tried → Lcg → Type 0
Tries s start words o left = IsTried s.kernel s.hardware s.setting start words o left

-- the trial takes limit steps or more
abbrev pub Passes : Setup → Store → Lcg → ℕ → Type 0
Passes s start words limit = PassesLimit s.kernel s.hardware s.setting start words limit

-- it stops before the step that would reach the limit, and leaves the generator so
abbrev pub Stops : Setup → Store → Lcg → ℕ → Lcg → Type 0
Stops s start words limit left = StopsAt s.kernel s.hardware s.setting start words limit left

-- some steps of it leave the generator so
abbrev pub Leaves : Setup → Store → Lcg → Lcg → Type 0
Leaves s start words left = LeavesWords s.kernel s.hardware s.setting start words left

-- what is told of the end of the whole trial
pub record EndsAs (s : Setup) (start : Store) (words : Lcg) (e : Ended) (left : Lcg) : Type 0 where
  pub tried : Tried
  pub is : Tries s start words tried left
  pub result : e.result ≡ tried.store.result
  pub steps : e.steps ≡ tried.steps
