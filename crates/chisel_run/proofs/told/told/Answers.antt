use Rattle.std.proofs.Common.{◌≡◌, ◌++◌, ap, ◌∙◌}
use Rattle.std.specs.List.{AllZip}
use Rattle.rely_machine.specs.Run.{IsOutcome}
use Rattle.chisel_lines.specs.SampleLines.{energy_line, sample_lines}
use Rattle.chisel_run.proofs.Sampling.{few_ends, few_outcomes, outcome_steps, outcomes_are, runs_tell, unbarred}
use Rattle.chisel_run.proofs.told.told.Goals as goal

pub samples-requires-clause-calls : goal.samples-requires-clause-calls
samples-requires-clause-calls c = unbarred c.args.trials c.args.ready.now.linked.kernel c.requires.unbarred

pub sample_lines-requires : goal.sample_lines-requires
sample_lines-requires c = rw c.as_slice.ensures.value (few_ends _ _ _ _ _ c.in-Ok.ensures.ok 64 c.requires.few)

pub energy-energy-requires-clause-few : goal.energy-energy-requires-clause-few
energy-energy-requires-clause-few c = rw c.as_slice-2.ensures.value (outcome_steps _ _ _ _ _ c.in-Ok.ensures.ok)

pub energy-energy-requires-clause-short : goal.energy-energy-requires-clause-short
energy-energy-requires-clause-short c = rw c.as_slice-2.ensures.value (few_outcomes _ _ _ _ _ c.in-Ok.ensures.ok 64 c.requires.few)

pub returns-clause-ok : goal.returns-clause-ok
returns-clause-ok c =
    let each : AllZip (IsOutcome c.args.ready.now.linked) c.args.starts.now c.as_slice-2.result.now = rw c.as_slice-2.ensures.value (outcomes_are _ _ _ _ _ c.in-Ok.ensures.ok) in
    let cost = c.energy-energy.ensures.cost c.args.starts.now each in
    let text : c.from_vec.result ≡ sample_lines c.args.trials.count 1 c.in-Ok.simulated.ends.items ++ energy_line c.energy-energy.result =
    c.from_vec.ensures ∙ c.in_ok-extend_from_slice.ensures.items ∙ ap (λ lines. lines ++ c.as_slice-3.result.now) (c.in_ok-text.ensures ∙ ap (sample_lines c.args.trials.count 1) c.as_slice.ensures.value)
    ∙ ap (λ line. sample_lines c.args.trials.count 1 c.in-Ok.simulated.ends.items ++ line) (c.as_slice-3.ensures.value ∙ c.in_ok-line.ensures) in
    runs_tell _ _ _ _ _ c.in-Ok.ensures.ok c.energy-energy.result c.from_vec.result cost text
