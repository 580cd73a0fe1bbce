use Rattle.std.proofs.Common.{◌≡◌, ◌∙◌, ◌++◌, ◌∷◌, [], ℕ, ◌+◌, ◌*◌, ◌<◌, ap, sym, subst, arith, length}
use Rattle.std.proofs.lemmas.List.{length-append, length-map}
use Rattle.chisel_table.specs.declared.partial.Partial.{Partial}
use Rattle.chisel_search.specs.declared.visit.Visit.{Visit}
use Rattle.chisel_search.specs.Logs.{children_by, count_by, decision_of, fate_of, numbers_from, visit_at}
use Rattle.chisel_search.specs.Machine.{EachNumbered, IsKnown, IsVisit, bounds_to, pool_of, table_of}
use Rattle.chisel_search.specs.Search.{part_of}
use Rattle.chisel_search.proofs.Logs.{child_count}
use Rattle.chisel_search.proofs.Machines.{bounds_length, known_by, known_grown, visits_more}
use Rattle.chisel_search.proofs.machine.Machine.visit.Goals as goal

pub returns-clause-machine : goal.returns-clause-machine
returns-clause-machine g c =
    let d = c.args.differences.now in
    let p = c.args.partial.now in
    let k = c.in_ok-fate.ensures.machine in
    let kept = c.in_ok-fate.ensures.keeps in
    let old = c.fate.new.self.bounds.items in
    let more = bounds_to d p (decision_of c.in_ok-fate.fate) (length c.in_ok-children.children.items) in
    let e = c.in_ok-children.ensures.bounds in
    let v : Visit = record { number = c.args.number; partial = p; first = c.args.self.now.made; fate = c.in_ok-fate.fate } in
    let grown : (q : Partial) (n : ℕ) → IsKnown d old q n → IsKnown d c.children.new.bounds.items q n =
    λ q n h. subst (λ l. IsKnown d l q n) (sym e) (known_grown d old more q n h) in
    let known : IsKnown d old p c.args.number = subst (λ l. IsKnown d l.items p c.args.number) (sym kept.bounds) c.requires.known in
    record {
      differences = k.differences;
      some_vectors = k.some_vectors;
      bounds =
          let a = k.bounds in
          let b = bounds_length d p (decision_of c.in_ok-fate.fate) (length c.in_ok-children.children.items) in
          let s = length-append old more in
          let z = ap length e in
          let o = c.in_ok-children.children.ok in
          let n = c.len-2.ensures in
          let w : c.len-2.result ≡ length c.in_ok-children.children.items = omega arith in
          subst (λ x. length c.children.new.bounds.items ≡ length (pool_of d) * (c.fate.new.self.made + x)) (sym w) (omega (arith, a, b, s, z));
      rows = k.rows;
      best = k.best;
      visits =
          subst (λ log. (i : ℕ) → i < length log → IsVisit d c.children.new.bounds.items (visit_at (table_of d) log i))
          (sym c.in_ok-push.ensures.items)
          (visits_more d old c.children.new.bounds.items c.fate.new.self.log.items v grown k.visits
          (record { known = grown p c.args.number known; decision = λ f. (c.in_ok-fate.ensures.answered.unfixed f).inside }));
    }

pub returns-clause-visited : goal.returns-clause-visited
returns-clause-visited g c =
    let d = c.args.differences.now in
    let p = c.args.partial.now in
    let f = c.in_ok-fate.fate in
    let k = c.in_ok-fate.ensures.machine in
    let kept = c.in_ok-fate.ensures.keeps in
    let old = c.fate.new.self.bounds.items in
    let children = c.in_ok-children.children.items in
    let n = count_by (table_of d) (decision_of f) (fate_of f) in
    let e = c.in_ok-children.ensures.bounds in
    let v : Visit = record { number = c.args.number; partial = p; first = c.args.self.now.made; fate = f } in
    let count : length children ≡ n =
    ap length c.in_ok-children.ensures.parts ∙ length-map _ (part_of (table_of d) (pool_of d)) ∙ child_count (table_of d) p (decision_of f) (fate_of f) in
    let e' : c.children.new.bounds.items ≡ old ++ bounds_to d p (decision_of f) n = e ∙ ap (λ x. old ++ bounds_to d p (decision_of f) x) count in
    let known = known_by d old c.fate.new.self.made p (decision_of f) (fate_of f) k.bounds c.requires.known.partial c.in_ok-fate.ensures.answered.unfixed in
    let grown : (q : Partial) (m : ℕ) → IsKnown d c.args.self.now.bounds.items q m → IsKnown d c.children.new.bounds.items q m =
    λ q m h. subst (λ l. IsKnown d l q m) (sym e')
    (known_grown d old (bounds_to d p (decision_of f) n) q m (subst (λ l. IsKnown d l.items q m) (sym kept.bounds) h)) in
    record {
      became = f;
      fate_is = c.in_ok-fate.ensures.fate;
      answered = c.in_ok-fate.ensures.answered.answers;
      logged = c.in_ok-push.ensures.items ∙ ap (λ l. l.items ++ v ∷ []) kept.log;
      best = c.in_ok-fate.ensures.best;
      parts = c.in_ok-children.ensures.parts;
      made =
          let a = kept.made in
          let o = c.in_ok-children.children.ok in
          let l = c.len-2.ensures in omega (arith, a, count);
      count = count;
      known =
          subst (λ l. EachNumbered (IsKnown d l) (children_by (table_of d) p (decision_of f) (fate_of f)) (numbers_from c.args.self.now.made n)) (sym e')
          (subst (λ m. EachNumbered (IsKnown d (old ++ bounds_to d p (decision_of f) n)) (children_by (table_of d) p (decision_of f) (fate_of f)) (numbers_from m n)) kept.made known);
      grown = grown;
    }
