-- What is known of what the files say.
use Rattle.std.specs.Prelude.{◌≤◌, List, length}
use Rattle.std.specs.List.{All, AllByRecursion}
use Rattle.rely_kernel.specs.declared.setting.Store.{Store}
use Rattle.rely_kernel.specs.Bound.{IsStart}
use Rattle.rely_kernel.specs.Setting.{IsClosed}
use Rattle.rely_machine.specs.Run.{most_runs}
use Rattle.chisel_source.specs.declared.ready.Ready.{Ready}
use Rattle.chisel_source.specs.Meaning.{IsReady}

-- linked kernels on a hardware, of which the function that runs leaves some place open and the others none, and some
-- starts of it
pub record IsSound (r : Ready) (starts : List Store) : Type 0 where
  pub ready : IsReady r
  pub inner : AllByRecursion IsClosed r.linked.inner
  pub open_place : IsClosed r.linked.kernel → ⊥
  pub are_starts : All (IsStart r.linked.kernel) starts
  pub some : 1 ≤ length starts
  pub few : length starts ≤ most_runs
