use Rattle.std.proofs.Common.{◌≡◌, ◌∙◌, ap, sym, subst, take, arith, length, rules}
use Rattle.chisel_table.specs.Choices.{IsChoice, energy}
use Rattle.chisel_search.proofs.Complete.{is_choice}
use Rattle.chisel_search.proofs.Machines.{options_are}
use Rattle.chisel_search.proofs.machine.best_of.Goals as goal

pub options_energy-energy-requires-clause-choice : goal.options_energy-energy-requires-clause-choice
options_energy-energy-requires-clause-choice c =
    let t = c.args.t.now in
    let p = c.args.p.now in
    let room : length p.slots ≡ 256 = search rules in
    let few = c.requires.table.few_decisions in
    let e =
    c.deref.ensures.value ∙ c.in_ok-options.ensures.items ∙ ap (λ n. take n p.slots) c.decision_count.ensures
    ∙ options_are t p (omega arith) in
    subst (IsChoice t) (sym e) (is_choice t p c.requires.partial c.requires.complete)

pub returns-clause-options : goal.returns-clause-options
returns-clause-options c =
    let t = c.args.t.now in
    let p = c.args.p.now in
    let room : length p.slots ≡ 256 = search rules in
    let few = c.requires.table.few_decisions in
    c.from_vec-options.ensures ∙ c.in_ok-options.ensures.items ∙ ap (λ n. take n p.slots) c.decision_count.ensures
    ∙ options_are t p (omega arith)

pub returns-clause-energy : goal.returns-clause-energy
returns-clause-energy c =
    let t = c.args.t.now in
    let p = c.args.p.now in
    let room : length p.slots ≡ 256 = search rules in
    let few = c.requires.table.few_decisions in
    c.options_energy-energy.ensures
    ∙ ap (energy t) (c.deref.ensures.value ∙ c.in_ok-options.ensures.items ∙ ap (λ n. take n p.slots) c.decision_count.ensures
    ∙ options_are t p (omega arith))
