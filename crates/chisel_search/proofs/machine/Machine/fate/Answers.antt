use Rattle.std.proofs.Common.{◌∙◌, ap, sym, subst}
use Rattle.std.proofs.lemmas.Bool.{eqb-true}
use Rattle.chisel_table.specs.Choices.{IsChoice, energy}
use Rattle.chisel_search.specs.Machine.{table_of}
use Rattle.chisel_search.proofs.Complete.{is_choice}
use Rattle.chisel_search.proofs.machine.Machine.fate.Goals as goal

pub returns-then-is_complete-clause-machine : goal.returns-then-is_complete-clause-machine
returns-then-is_complete-clause-machine g c =
    let t = table_of c.args.differences.now in
    let p = c.args.partial.now in
    let m = c.close.ensures.machine in
    let e = c.in_ok-best_of.ensures.options in
    let none = eqb-true _ _ (sym c.is_complete.ensures ∙ c.if-is_complete.true) in
    record {
      differences = m.differences;
      some_vectors = m.some_vectors;
      bounds = m.bounds;
      rows = m.rows;
      best = record {
        choice = subst (IsChoice t) (sym e) (is_choice t p c.requires.known.partial none);
        energy = c.in_ok-best_of.ensures.energy ∙ ap (energy t) (sym e);
      };
      visits = m.visits;
    }
