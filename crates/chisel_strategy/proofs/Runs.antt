-- A search that answers as a strategy does finds what the strategy finds.
use Rattle.std.proofs.Common.{◌≡◌, ℕ, subst, zero, suc, ◌≤◌, List, sym}
use Rattle.chisel_table.specs.declared.partial.Partial.{Partial}
use Rattle.chisel_table.specs.declared.table.Table.{Table}
use Rattle.chisel_table.specs.Valid.{IsTable}
use Rattle.chisel_cert.specs.Tree.{nodes}
use Rattle.chisel_search.specs.declared.found.Found.{Found}
use Rattle.chisel_search.specs.declared.part.Part.{Part}
use Rattle.chisel_search.specs.Found.{GoesOn, IsFound}
use Rattle.chisel_search.specs.Search.{IsLawful, Search, Run, rule_of}
use Rattle.chisel_options.specs.declared.strategy.Strategy.{Strategy}
use Rattle.chisel_strategy.specs.Branching.{decision, size}
use Rattle.chisel_strategy.specs.Picking.{place}
use Rattle.chisel_strategy.specs.Strategy.{IsLeastFound, TakesMore}
use Rattle.chisel_strategy.proofs.Decisions.{is_largest}

-- a run under rules and picks that answer less is one under those that answer more
run_under : (t : Table) (pool : List (List ℕ)) (A B : Partial → ℕ → Type 0) (P Q : List Part → ℕ → Type 0)
    → ((p : Partial) (d : ℕ) → A p d → B p d) → ((parts : List Part) (k : ℕ) → P parts k → Q parts k)
    → (n : ℕ) (s e : Search) → Run t pool A P n s e → Run t pool B Q n s e
run_under t pool A B P Q a q zero s e r = r
run_under t pool A B P Q a q (suc n) s e r = (
  r.0,
  record {
    place = r.1.place;
    in_list = r.1.in_list;
    picked = q _ _ r.1.picked;
    part = r.1.part;
    part_is = r.1.part_is;
    decision = r.1.decision;
    answered = λ f. a _ _ (r.1.answered f);
    next_is = r.1.next_is;
  },
  run_under t pool A B P Q a q n r.0 e r.2,
)

-- a branching rule answers an unfixed decision
lawful : (t : Table) (s : Strategy) → IsTable t → IsLawful t (rule_of (decision t s.branch))
lawful t s table = record {
  inside = λ p d partial some e. rw e (is_largest t (size t s.branch) p (record { table = table; partial = partial; some = some })).unfixed.inside;
  free = λ p d partial some e. rw e (is_largest t (size t s.branch) p (record { table = table; partial = partial; some = some })).unfixed.unfixed;
}

module _ (t : Table) (pool : List (List ℕ)) (s : Strategy) (Answers : Partial → ℕ → Type 0) (Picks : List Part → ℕ → Type 0)
    (answers : (p : Partial) (d : ℕ) → Answers p d → d ≡ decision t s.branch p) (picks : (parts : List Part) (k : ℕ) → Picks parts k → k ≡ place s.order parts) where
  pub found_by : (f : Found) → IsTable t → IsFound t pool Answers Picks f → IsLeastFound t pool s f
  found_by f table h = record {
    run = run_under t pool Answers _ Picks _ answers picks f.visits _ _ h.run;
    least = h.least;
    certificate = h.of_rule (decision t s.branch) (lawful t s table) answers;
    valid = h.valid;
    few = subst (λ c. nodes c.root ≤ f.visits) (sym h.certificate) h.few;
  }

  pub more_by : GoesOn t pool Answers Picks s.nodes → TakesMore t pool s
  more_by h = record {
    state = h.state;
    run = run_under t pool Answers _ Picks _ answers picks s.nodes _ _ h.run;
    open_part = h.open_part;
  }
