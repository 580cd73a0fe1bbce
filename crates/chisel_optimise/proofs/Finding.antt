-- What a search finds, as the answer tells it.
use Rattle.std.proofs.Common.{◌≡◌, ℕ, ◌≤◌, List, length, sym, ap, ◌∙◌, subst, arith}
use Rattle.chisel_table.specs.declared.table.Table.{Table}
use Rattle.chisel_bound.specs.Ascent.{ascended}
use Rattle.chisel_cert.specs.Node.{certificate_of}
use Rattle.chisel_cert.specs.Tree.{nodes}
use Rattle.chisel_strategy.specs.Branching.{decision}
use Rattle.chisel_strategy.specs.Strategy.{IsLeastFound, Leads}
use Rattle.chisel_search.specs.Printed.{certificate}
use Rattle.chisel_search.specs.Search.{end}
use Rattle.chisel_search.specs.declared.found.Found.{Found}
use Rattle.chisel_search.specs.Found.{options_in}
use Rattle.chisel_options.specs.declared.strategy.Strategy.{Strategy}
use Rattle.chisel_optimise.specs.Searches.{Finds, printed}

pub finds_from : (t : Table) (s : Strategy) (f : Found) (pool : List (List ℕ)) → pool ≡ ascended t → IsLeastFound t pool s f → f.visits ≤ s.nodes
    → Finds t s f.visits (options_in f.best)
finds_from t s f pool is h few = record {
  run = subst (λ p. Leads t p s f.visits (end (options_in f.best))) is h.run;
  least = h.least;
  few = few;
  nodes =
      let same : certificate_of f.cert ≡ printed t s (options_in f.best) = h.certificate ∙ ap (λ p. certificate t p (decision t s.branch) (options_in f.best)) is in
      let tree : nodes (certificate_of f.cert).root ≡ (printed t s (options_in f.best)).nodes = ap (λ c. nodes c.root) same in
      let l = h.few in omega arith;
}

pub printed_from : (t : Table) (s : Strategy) (f : Found) (pool : List (List ℕ)) → pool ≡ ascended t → IsLeastFound t pool s f
    → certificate_of f.cert ≡ printed t s (options_in f.best)
printed_from t s f pool is h = h.certificate ∙ ap (λ p. certificate t p (decision t s.branch) (options_in f.best)) is

pub five_vectors : (t : Table) (pool : List (List ℕ)) → pool ≡ ascended t → length pool ≤ 16
five_vectors t pool is = let five : 5 ≤ 16 = omega arith in subst (λ p. length p ≤ 16) (sym is) five
