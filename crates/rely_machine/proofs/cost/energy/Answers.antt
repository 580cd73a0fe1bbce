use Rattle.rely_kernel.specs.Rates.{own}
use Rattle.rely_machine.proofs.EnergyRuns.{runs_cost}
use Rattle.rely_machine.proofs.cost.energy.Goals as goal

pub returns : goal.returns
returns c =
    record {
      cost = λ starts a. rw c.energy_of_runs.ensures
          (runs_cost c.args.h.now c.args.k.now (own c.args.k.now.kernel) starts c.args.runs.now c.requires.hardware c.requires.linked c.requires.few c.requires.short a);
    }
