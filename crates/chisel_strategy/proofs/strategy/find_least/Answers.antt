use Rattle.std.proofs.Common.{rules, sym, ◌∙◌, ◌≡◌}
use Rattle.std.proofs.lemmas.Result.{IfOk-weaker}
use Rattle.std.specs.Prelude.{slice_index}
use Rattle.chisel_options.specs.declared.strategy.Order.TheVariants.{Deep}
use Rattle.chisel_strategy.specs.Branching.{largest}
use Rattle.chisel_strategy.specs.Picking.{place}
use Rattle.chisel_strategy.proofs.Decisions.{decision_by}
use Rattle.chisel_strategy.proofs.Places.{best_place}
use Rattle.chisel_strategy.proofs.Runs.{found_by, more_by}
use Rattle.chisel_strategy.proofs.strategy.find_least.Goals as goal

pub returns-in-Deep-clause-found : goal.returns-in-Deep-clause-found
returns-in-Deep-clause-found c =
    let t = c.args.t.now in
    let sizes = c.in_ok-sizes.sizes.items in
    let known = c.in_ok-sizes.ensures in
    IfOk-weaker c.search.result _ _ (λ f h. found_by t c.args.pool.now.vectors c.args.strategy _ _
    (λ p d a.
    let q : d ≡ largest a.table.now (slice_index sizes) a.partial.now = search rules in
    q ∙ (λ k. largest (a.table_is k) (slice_index sizes) (a.partial_is k)) ∙ decision_by t c.args.strategy.branch sizes p known)
    (λ parts k a.
    let q : k ≡ place Deep a.list.now = search rules in
    q ∙ (λ i. place (sym c.in-Deep.is i) (a.list_is i))) f c.requires.table h) c.search.ensures.found

pub returns-in-Deep-clause-nodes : goal.returns-in-Deep-clause-nodes
returns-in-Deep-clause-nodes c =
    let t = c.args.t.now in
    let sizes = c.in_ok-sizes.sizes.items in
    let known = c.in_ok-sizes.ensures in
    λ e. more_by t c.args.pool.now.vectors c.args.strategy _ _
    (λ p d a.
    let q : d ≡ largest a.table.now (slice_index sizes) a.partial.now = search rules in
    q ∙ (λ k. largest (a.table_is k) (slice_index sizes) (a.partial_is k)) ∙ decision_by t c.args.strategy.branch sizes p known)
    (λ parts k a.
    let q : k ≡ place Deep a.list.now = search rules in
    q ∙ (λ i. place (sym c.in-Deep.is i) (a.list_is i))) (c.search.ensures.nodes e)

pub returns-clause-found : goal.returns-clause-found
returns-clause-found c =
    let t = c.args.t.now in
    let sizes = c.in_ok-sizes.sizes.items in
    let known = c.in_ok-sizes.ensures in
    IfOk-weaker c.search_best_first.result _ _ (λ f h. found_by t c.args.pool.now.vectors c.args.strategy _ _
    (λ p d a.
    let q : d ≡ largest a.table.now (slice_index sizes) a.partial.now = search rules in
    q ∙ (λ k. largest (a.table_is k) (slice_index sizes) (a.partial_is k)) ∙ decision_by t c.args.strategy.branch sizes p known)
    (λ parts k a. best_place parts k a ∙ (λ i. place (sym c.in-Best.is i) parts)) f c.requires.table h) c.search_best_first.ensures.found

pub returns-clause-nodes : goal.returns-clause-nodes
returns-clause-nodes c =
    let t = c.args.t.now in
    let sizes = c.in_ok-sizes.sizes.items in
    let known = c.in_ok-sizes.ensures in
    λ e. more_by t c.args.pool.now.vectors c.args.strategy _ _
    (λ p d a.
    let q : d ≡ largest a.table.now (slice_index sizes) a.partial.now = search rules in
    q ∙ (λ k. largest (a.table_is k) (slice_index sizes) (a.partial_is k)) ∙ decision_by t c.args.strategy.branch sizes p known)
    (λ parts k a. best_place parts k a ∙ (λ i. place (sym c.in-Best.is i) parts)) (c.search_best_first.ensures.nodes e)
