use Rattle.std.proofs.Common.{ap, ◌∙◌}
use Rattle.std.proofs.lemmas.List.{set-set}
use Rattle.chisel_table.specs.declared.partial.Partial.{Partial}
use Rattle.chisel_table.specs.declared.partial.TheConstants.{UNFIXED}
use Rattle.chisel_table.specs.Partials.{with_option}
use Rattle.chisel_bound.specs.declared.rows.RowSums.{RowSums}
use Rattle.chisel_bound.proofs.rows.RowSums.put.Goals as goal
use Rattle.chisel_bound.proofs.rows.RowSums.put.Goals.{then-self-decision, else-self-decision}

pub returns-then-slot-ne-UNFIXED-clause-partial : goal.returns-then-slot-ne-UNFIXED-clause-partial
returns-then-slot-ne-UNFIXED-clause-partial c =
    let put = λ (p : Partial). with_option p c.args.decision c.args.slot in
    let p = c.args.self.now.partial in
    c.fix.ensures.partial
    ∙ elim c.if-self-decision.branch [
      | then-self-decision w ↦
          ap put (ap (λ (r : RowSums). r.partial) w.self-is ∙ w.clear.ensures.partial)
          ∙ ap (λ s. record p { slots = s }) (set-set p.slots c.args.decision UNFIXED c.args.slot)
      | else-self-decision w ↦ ap put (ap (λ (r : RowSums). r.partial) w.self-is)
    ]
