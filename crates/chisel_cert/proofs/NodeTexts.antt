-- The lines of the tree: what is read is their text, and their text is read.
use Rattle.std.proofs.Common.{◌≡◌, ℕ, zero, suc, ◌+◌, ◌-◌, ◌^◌, ◌<◌, ◌≤◌, ◌==◌, ◌&&◌, ◌||◌, not, nat_lt, Bool, true, false, List, ◌++◌, get_or, Ok, Err, refl, sym, ap, ◌∙◌, arith, append_assoc}
use Rattle.std.specs.Prelude.{codes, decimal, IsTrue, if◌then◌else◌}
use Rattle.std.proofs.lemmas.Bool.{and_parts, and_from, eqb-true, eq-eqb, ltb-false, le-ltb}
use Rattle.rely_num.specs.Texts.{Bytes}
use Rattle.chisel_table.specs.declared.closing.CloseRule.{CloseRule}
use Rattle.chisel_table.specs.declared.closing.CloseRule.TheVariants.{C, I, D, T}
use Rattle.chisel_cert.specs.declared.fault.CertFault.TheVariants as fault
use Rattle.chisel_cert.specs.declared.fault.CertWhy.TheVariants as why
use Rattle.chisel_cert.specs.declared.limits.TheConstants.{MOST_MULTIPLIER, LAST_DECISION, MOST_CHILDREN, LAST_INDEX}
use Rattle.chisel_cert.specs.Tree.{Closing, pooled, own, Tree, leaf, branch, Trees, nil, cons, count, nodes, nodes_of}
use Rattle.chisel_cert.specs.Text.{spaced, letter, leaf_line, branch_line, node_lines, all_lines}
use Rattle.chisel_cert.specs.Ranges.{has_vector, AreUpTo, IsBetween, IsClosing, IsNode, AreNodes}
use Rattle.chisel_cert.specs.State.{State, Reading, Read, ◌>>=◌, formless, skip_at, line_end_at, number_at, each_at}
use Rattle.chisel_cert.specs.Lines.{number_line_at, counted_line_at, spaced_at}
use Rattle.chisel_cert.specs.Reading.{Line, forked, closed, rule_at, own_at, own_line_at, leaf_line_at, branch_line_at, node_line_at, children_of, counted_at, node_at, grown, trees_at, tree_at}
use Rattle.chisel_cert.proofs.Numbers.{decimal-digit}
use Rattle.chisel_cert.proofs.Readings.{On, on-ok, on-err, on-then, on-choose, on-if, Says, ◌⨾◌, says-as, skip-says, line_end-says, number-says, skip-other, Reads, reads-ok, reads-then, reads-skip, reads-choose, reads-other, reads-end, reads-number}
use Rattle.chisel_cert.proofs.LineTexts.{joins, number_line-says, counted_line-says, all_spaced-says, number_line-reads, counted_line-reads, all_spaced-reads}

-- ---- what a line says

-- the text of a node's line, and its limits
abbrev pub line_text : Line → Bytes
line_text (forked decision children) = branch_line decision children
line_text (closed closing) = leaf_line closing

abbrev pub IsLine : ℕ → ℕ → Line → Type 0
IsLine version rows (forked decision children) = (decision ≤ LAST_DECISION) × IsBetween 1 MOST_CHILDREN children
IsLine version rows (closed closing) = IsClosing version rows closing

rule-says : (s : State) → On (rule_at s) (λ x. Says (letter x.0 ++ codes " ") (Unit {0}) s x.1)
unfolding rule_at
rule-says s =
    on-choose (skip_at (codes "c ") s) _ _ _ (skip-says (codes "c ") s) (λ a p. on-ok _ _ p)
    (on-choose (skip_at (codes "i ") s) _ _ _ (skip-says (codes "i ") s) (λ a p. on-ok _ _ p)
    (on-choose (skip_at (codes "d ") s) _ _ _ (skip-says (codes "d ") s) (λ a p. on-ok _ _ p)
    (on-then (skip_at (codes "t ") s) _ _ (skip-says (codes "t ") s) (λ a p. on-ok _ _ p))))

own-says : (version : ℕ) (rule : CloseRule) (s : State) → On (own_at version rule s) (λ a. Says (codes "own") ((version ≡ 2) × IsTrue (has_vector rule)) s a)
unfolding own_at
own-says version rule s =
    on-if (version == 2 && has_vector rule) _ _ _
    (λ e. let parts = and_parts (version == 2) (has_vector rule) e in
    on-then-state (skip-says (codes "own") s) (eqb-true version 2 parts.0, parts.1))
    (λ _. on-err _ _)
  where
    on-then-state : {r : Reading State} → On r (λ a. Says (codes "own") (Unit {0}) s a) → (version ≡ 2) × IsTrue (has_vector rule) →
        On r (λ a. Says (codes "own") ((version ≡ 2) × IsTrue (has_vector rule)) s a)
    on-then-state h f = record { at = λ a e. says-as (h.at a e) refl (λ _. f) }

own_line-says : (rows : ℕ) (s : State) → On (own_line_at rows s) (λ x. Says (spaced x.0 ++ codes "\n") (AreUpTo MOST_MULTIPLIER rows x.0) s x.1)
unfolding own_line_at
own_line-says rows s =
    on-then (each_at (spaced_at MOST_MULTIPLIER) rows s) _ _ (all_spaced-says MOST_MULTIPLIER rows s) (λ x p.
    on-then (line_end_at x.1) _ _ (line_end-says x.1) (λ a q. on-ok _ _ (says-as (p ⨾ q) refl (λ f. f.0))))

leaf-says : (version rows : ℕ) (s : State) → On (leaf_line_at version rows s) (λ x. Says (leaf_line x.0) (IsClosing version rows x.0) s x.1)
unfolding leaf_line_at
leaf-says version rows s =
    on-then (rule_at s) _ _ (rule-says s) (λ r p.
    on-choose (own_at version r.0 r.1) _ _ _ (own-says version r.0 r.1)
    (λ a q. on-then (own_line_at rows a) _ _ (own_line-says rows a) (λ x t.
    on-ok _ _ (says-as (p ⨾ q ⨾ t)
    (sym (append_assoc (letter r.0 ++ codes " " ++ codes "own") (spaced x.0) (codes "\n"))
    ∙ ap (λ l. l ++ spaced x.0 ++ codes "\n") (append_assoc (letter r.0) (codes " ") (codes "own")))
    (λ f. (f.0.1.0, f.0.1.1, f.1)))))
    (on-then (number_line_at 0 LAST_INDEX r.1) _ _ (number_line-says 0 LAST_INDEX r.1) (λ x t.
    on-ok _ _ (says-as (p ⨾ t) (sym (append_assoc (letter r.0 ++ codes " ") (decimal x.0) (codes "\n"))) (λ f. f.1.1)))))

branch-says : (s a : State) → Says (codes "b ") (Unit {0}) s a → On (branch_line_at a) (λ x. Says (branch_line x.0.0 x.0.1) ((x.0.0 ≤ LAST_DECISION) × IsBetween 1 MOST_CHILDREN x.0.1) s x.1)
unfolding branch_line_at
branch-says s a p =
    on-then (number_at 0 LAST_DECISION a) _ _ (number-says 0 LAST_DECISION a) (λ d q.
    on-then (counted_line_at (codes " ") 1 MOST_CHILDREN d.1) _ _ (counted_line-says (codes " ") 1 MOST_CHILDREN d.1) (λ n r.
    on-ok _ _ (says-as (p ⨾ q ⨾ r) (joins (codes "b " ++ decimal d.0) (codes " ") (decimal n.0) (codes "\n")) (λ f. (f.0.1.1, f.1)))))

node_line-says : (version rows : ℕ) (s : State) → On (node_line_at version rows s) (λ x. Says (line_text x.0) (IsLine version rows x.0) s x.1)
unfolding node_line_at
node_line-says version rows s =
    on-choose (skip_at (codes "b ") s) _ _ _ (skip-says (codes "b ") s)
    (λ a p. on-then (branch_line_at a) _ _ (branch-says s a p) (λ x q. on-ok _ _ q))
    (on-then (leaf_line_at version rows s) _ _ (leaf-says version rows s) (λ x q. on-ok _ _ q))

-- ---- the counts

-- a node is wanted, and the wanted nodes fit the lines that are left
pub record IsReady (s : State) : Type 0 where
  pub some : 1 ≤ s.wanted
  pub fits : s.wanted ≤ s.left

-- so many wanted trees less, on so many lines; where none is wanted, no line is left
pub record Counts (trees lines : ℕ) (s r : State) : Type 0 where
  pub wanted : r.wanted + trees ≡ s.wanted
  pub left : r.left + lines ≡ s.left
  pub fits : r.wanted ≤ r.left
  pub ends : r.wanted ≡ 0 → r.left ≡ 0

-- behind a node's line its children are wanted too
pub record CountsNode (children : ℕ) (s r : State) : Type 0 where
  pub wanted : r.wanted + 1 ≡ s.wanted + children
  pub left : r.left + 1 ≡ s.left
  pub fits : r.wanted ≤ r.left
  pub ends : r.wanted ≡ 0 → r.left ≡ 0

-- what stands on the lines between two states
pub record Spells (text : Bytes) (P : Type 0) (s r : State) : Type 0 where
  pub is : s.text ≡ text ++ r.text
  pub fact : P

counted-says : (line children : ℕ) (s : State) → IsReady s → On (counted_at line children s) (λ r. (r.text ≡ s.text) × CountsNode children s r)
unfolding counted_at
counted-says line children s ready =
    go (nat_lt (s.left - 1) (s.wanted - 1 + children)) refl (s.wanted - 1 + children == 0) refl (s.left - 1 == 0) refl
  where
    next : State
    next = record { text = s.text; line = s.line; wanted = s.wanted - 1 + children; left = s.left - 1 }

    go : (a : Bool) → nat_lt (s.left - 1) (s.wanted - 1 + children) ≡ a → (b : Bool) → (s.wanted - 1 + children == 0) ≡ b → (c : Bool) → (s.left - 1 == 0) ≡ c →
        On (if a || (b && not c) then Err (fault.At line why.Form) else Ok next) (λ r. (r.text ≡ s.text) × CountsNode children s r)
    go true p b q c u = on-err _ _
    go false p true q false u = on-err _ _
    go false p true q true u = on-ok _ _ (
      refl,
      record {
        wanted = let f = ready.some in omega arith;
        left = let f = ready.some in let g = ready.fits in omega arith;
        fits = ltb-false _ _ p;
        ends = λ _. eqb-true _ _ u;
      },
    )
    go false p false q c u = on-ok _ _ (
      refl,
      record {
        wanted = let f = ready.some in omega arith;
        left = let f = ready.some in let g = ready.fits in omega arith;
        fits = ltb-false _ _ p;
        ends = λ z. absurd (let e = eq-eqb _ _ z in cc);
      },
    )

node-says : (version rows : ℕ) (s : State) → IsReady s → On (node_at version rows s) (λ x. Spells (line_text x.0) (IsLine version rows x.0 × CountsNode (children_of x.0) s x.1) s x.1)
unfolding node_at
node-says version rows s ready =
    on-then (node_line_at version rows s) _ _ (node_line-says version rows s) (λ x p.
    on-then (counted_at s.line (children_of x.0) x.1) _ _ (counted-says s.line (children_of x.0) x.1 (record { some = let f = ready.some in omega (arith, p.wanted); fits = let f = ready.fits in omega (arith, p.wanted, p.left) })) (λ a q.
    on-ok _ _ (record {
      is = p.is ∙ ap (λ l. line_text x.0 ++ l) (sym q.0);
      fact = (
        p.fact,
        record {
          wanted = omega (arith, q.1.wanted, p.wanted);
          left = omega (arith, q.1.left, p.left);
          fits = q.1.fits;
          ends = q.1.ends;
        },
      );
    })))

-- ---- the tree

-- what a reader of trees says
abbrev ReadsTree : ℕ → ℕ → ℕ → Read Tree → Type 0
ReadsTree version rows depth tree =
    (s : State) → IsReady s → On (tree s) (λ x. Spells (node_lines x.0) (IsNode version rows depth x.0 × Counts 1 (nodes x.0) s x.1) s x.1)

trees-says : (version rows depth : ℕ) (tree : Read Tree) → ReadsTree version rows depth tree → (n : ℕ) (s : State) → n ≤ s.wanted → s.wanted ≤ s.left → (s.wanted ≡ 0 → s.left ≡ 0) →
    On (trees_at tree n s) (λ x. Spells (all_lines x.0) ((count x.0 ≡ n) × AreNodes version rows depth x.0 × Counts n (nodes_of x.0) s x.1) s x.1)
unfolding trees_at count nodes node_lines IsNode
trees-says version rows depth tree h zero s some fits ends =
    on-ok _ _ (record { is = refl; fact = (refl, tt, record { wanted = omega arith; left = omega arith; fits = fits; ends = ends }) })
trees-says version rows depth tree h (suc n) s some fits ends =
    on-then (tree s) _ _ (h s (record { some = omega arith; fits = fits })) (λ x p. let c = p.fact.1 in
    on-then (trees_at tree n x.1) _ _ (trees-says version rows depth tree h n x.1 (omega (arith, c.wanted)) c.fits c.ends) (λ y q. let d = q.fact.2 in
    on-ok _ _ (record {
      is = p.is ∙ ap (λ l. node_lines x.0 ++ l) q.is ∙ sym (append_assoc (node_lines x.0) (all_lines y.0) y.1.text);
      fact = (
        omega (arith, q.fact.0),
        (p.fact.0, q.fact.1),
        record {
          wanted = omega (arith, c.wanted, d.wanted);
          left = omega (arith, c.left, d.left);
          fits = d.fits;
          ends = d.ends;
        },
      );
    })))

pub tree-says : (version rows depth : ℕ) → ReadsTree version rows depth (tree_at version rows depth)
unfolding tree_at nodes node_lines IsNode
tree-says version rows zero s ready =
    on-then (node_at version rows s) _ _ (node-says version rows s ready) (λ x p. shallow x.0 x.1 p)
  where
    shallow : (l : Line) (r : State) → Spells (line_text l) (IsLine version rows l × CountsNode (children_of l) s r) s r →
        On (grown (λ d n. Err (fault.At s.line why.Deep)) l r) (λ x. Spells (node_lines x.0) (IsNode version rows zero x.0 × Counts 1 (nodes x.0) s x.1) s x.1)
    shallow (forked d n) r p = on-err _ _
    shallow (closed closing) r p = let c = p.fact.1 in
        on-ok _ _ (record { is = p.is; fact = (p.fact.0, record { wanted = omega (arith, c.wanted); left = c.left; fits = c.fits; ends = c.ends }) })
tree-says version rows (suc depth) s ready =
    on-then (node_at version rows s) _ _ (node-says version rows s ready) (λ x p. deep (tree-says version rows depth) x.0 x.1 p)
  where
    deep : ReadsTree version rows depth (tree_at version rows depth) → (l : Line) (r : State) → Spells (line_text l) (IsLine version rows l × CountsNode (children_of l) s r) s r →
        On (grown (λ d n. trees_at (tree_at version rows depth) n r >>= λ y. Ok (branch d y.0, y.1)) l r)
        (λ x. Spells (node_lines x.0) (IsNode version rows (suc depth) x.0 × Counts 1 (nodes x.0) s x.1) s x.1)
    deep h (closed closing) r p = let c = p.fact.1 in
        on-ok _ _ (record { is = p.is; fact = (p.fact.0, record { wanted = omega (arith, c.wanted); left = c.left; fits = c.fits; ends = c.ends }) })
    deep h (forked d n) r p = let c = p.fact.1 in
        on-then (trees_at (tree_at version rows depth) n r) _ _
        (trees-says version rows depth (tree_at version rows depth) h n r (let f = ready.some in omega (arith, c.wanted)) c.fits c.ends) (λ y q. let k = q.fact.2 in
        on-ok _ _ (record {
          is = p.is ∙ ap (λ l. branch_line d n ++ l) q.is ∙ sym (append_assoc (branch_line d n) (all_lines y.0) y.1.text) ∙ ap (λ k. (branch_line d k ++ all_lines y.0) ++ y.1.text) (sym q.fact.0);
          fact = (
            (omega arith, p.fact.0.0, rw (sym q.fact.0) at p.fact.0.1, let same : suc depth - 1 ≡ depth = omega arith in rw same q.fact.1),
            record {
              wanted = omega (arith, c.wanted, k.wanted);
              left = omega (arith, c.left, k.left);
              fits = k.fits;
              ends = k.ends;
            },
          );
        }))

-- ---- a line is read

rule-reads : (rule : CloseRule) (more : Bytes) (s : State) → s.text ≡ letter rule ++ (codes " " ++ more) → Reads (rule_at s) rule more s
unfolding rule_at
rule-reads C more s h = reads-choose (codes "c ") more _ _ C more s h (λ r t. reads-ok C more r t)
rule-reads I more s h =
    reads-other (skip_at (codes "c ") s) _ _ _ I more s (skip-other 99 (codes " ") s (λ e. omega (arith, sym (ap (λ l. get_or l 0 0) h) ∙ e)))
    (reads-choose (codes "i ") more _ _ I more s h (λ r t. reads-ok I more r t))
rule-reads D more s h =
    reads-other (skip_at (codes "c ") s) _ _ _ D more s (skip-other 99 (codes " ") s (λ e. omega (arith, sym (ap (λ l. get_or l 0 0) h) ∙ e)))
    (reads-other (skip_at (codes "i ") s) _ _ _ D more s (skip-other 105 (codes " ") s (λ e. omega (arith, sym (ap (λ l. get_or l 0 0) h) ∙ e)))
    (reads-choose (codes "d ") more _ _ D more s h (λ r t. reads-ok D more r t)))
rule-reads T more s h =
    reads-other (skip_at (codes "c ") s) _ _ _ T more s (skip-other 99 (codes " ") s (λ e. omega (arith, sym (ap (λ l. get_or l 0 0) h) ∙ e)))
    (reads-other (skip_at (codes "i ") s) _ _ _ T more s (skip-other 105 (codes " ") s (λ e. omega (arith, sym (ap (λ l. get_or l 0 0) h) ∙ e)))
    (reads-other (skip_at (codes "d ") s) _ _ _ T more s (skip-other 100 (codes " ") s (λ e. omega (arith, sym (ap (λ l. get_or l 0 0) h) ∙ e)))
    (reads-skip (codes "t ") more _ T more s h (λ r t. reads-ok T more r t))))

own-refused : (version : ℕ) (rule : CloseRule) (n : ℕ) (more : Bytes) (s : State) → n < 10 ^ 64 → s.text ≡ decimal n ++ more → own_at version rule s ≡ Err (formless s)
unfolding own_at
own-refused version rule n more s fits h =
    let digit = decimal-digit n more fits in
    go (version == 2 && has_vector rule) (skip-other 111 (codes "wn") s (λ e. omega (arith, digit.1, sym (ap (λ l. get_or l 0 0) h) ∙ e)))
  where
    go : (b : Bool) → skip_at (codes "own") s ≡ Err (formless s) → (if b then skip_at (codes "own") s else Err (formless s)) ≡ Err (formless s)
    go true e = e
    go false e = refl

own-taken : (version : ℕ) (rule : CloseRule) (s : State) → version ≡ 2 → IsTrue (has_vector rule) → own_at version rule s ≡ skip_at (codes "own") s
unfolding own_at
own-taken version rule s two has = go (version == 2 && has_vector rule) (and_from _ _ (eq-eqb version 2 two) has)
  where
    go : (b : Bool) → b ≡ true → (if b then skip_at (codes "own") s else Err (formless s)) ≡ skip_at (codes "own") s
    go true e = refl
    go false e = absurd (cc)

own_line-reads : (rows : ℕ) (vector : List ℕ) (more : Bytes) (s : State) → AreUpTo MOST_MULTIPLIER rows vector →
    s.text ≡ spaced vector ++ (codes "\n" ++ more) → Reads (own_line_at rows s) vector more s
unfolding own_line_at
own_line-reads rows vector more s all h =
    reads-then (each_at (spaced_at MOST_MULTIPLIER) rows s) _ vector more s
    (rw (sym all.0) (all_spaced-reads MOST_MULTIPLIER vector (codes "\n" ++ more) s (omega arith) all.1 refl h)) (λ a p.
    reads-end more _ vector more a p (λ b q. reads-ok vector more b q))

leaf-reads : (version rows : ℕ) (closing : Closing) (more : Bytes) (s : State) → IsClosing version rows closing → s.text ≡ leaf_line closing ++ more →
    Reads (leaf_line_at version rows s) closing more s
unfolding leaf_line_at
leaf-reads version rows (pooled close) more s few h =
    let cut : s.text ≡ letter close.rule ++ (codes " " ++ (decimal close.index ++ (codes "\n" ++ more))) = h ∙ simp append_assoc in
    reads-then (rule_at s) _ (pooled close) more s (rule-reads close.rule _ s cut) (λ a p.
    reads-other (own_at version close.rule a) _ _ (formless a) (pooled close) more a (own-refused version close.rule close.index _ a (omega (arith, few)) p)
    (reads-then (number_line_at 0 LAST_INDEX a) _ (pooled close) more a (number_line-reads 0 LAST_INDEX close.index more a (omega arith, few) (omega arith) p) (λ b q.
    reads-ok (pooled close) more b q)))
leaf-reads version rows (own rule vector) more s h e =
    let cut : s.text ≡ letter rule ++ (codes " " ++ (codes "own" ++ (spaced vector ++ (codes "\n" ++ more)))) = e ∙ simp append_assoc in
    reads-then (rule_at s) _ (own rule vector) more s (rule-reads rule _ s cut) (λ a p.
    rw (own-taken version rule a h.0 h.1)
    (reads-choose (codes "own") _ _ _ (own rule vector) more a p (λ b q.
    reads-then (own_line_at rows b) _ (own rule vector) more b (own_line-reads rows vector more b h.2 q) (λ c t.
    reads-ok (own rule vector) more c t))))

branch-reads : (d n : ℕ) (more : Bytes) (s : State) → d ≤ LAST_DECISION → IsBetween 1 MOST_CHILDREN n → s.text ≡ decimal d ++ (codes " " ++ (decimal n ++ (codes "\n" ++ more))) →
    Reads (branch_line_at s) (d, n) more s
unfolding branch_line_at
branch-reads d n more s few some h =
    reads-then (number_at 0 LAST_DECISION s) _ (d, n) more s (reads-number 0 LAST_DECISION d _ s (omega arith, few) (omega arith) refl h) (λ a p.
    reads-then (counted_line_at (codes " ") 1 MOST_CHILDREN a) _ (d, n) more a (counted_line-reads (codes " ") 1 MOST_CHILDREN n more a some (omega arith) p) (λ b q.
    reads-ok (d, n) more b q))

pooled-first : (rule : CloseRule) (n : ℕ) (more : Bytes) → get_or (leaf_line (pooled (record { rule = rule; index = n })) ++ more) 0 0 ≡ 98 → ⊥
pooled-first C n more e = omega (arith, e)
pooled-first I n more e = omega (arith, e)
pooled-first D n more e = omega (arith, e)
pooled-first T n more e = omega (arith, e)

own-first : (rule : CloseRule) (vector : List ℕ) (more : Bytes) → get_or (leaf_line (own rule vector) ++ more) 0 0 ≡ 98 → ⊥
own-first C vector more e = omega (arith, e)
own-first I vector more e = omega (arith, e)
own-first D vector more e = omega (arith, e)
own-first T vector more e = omega (arith, e)

-- no leaf begins as a branch
letter-other : (closing : Closing) (more : Bytes) (s : State) → s.text ≡ leaf_line closing ++ more → skip_at (codes "b ") s ≡ Err (formless s)
letter-other (pooled close) more s h = skip-other 98 (codes " ") s (λ e. pooled-first close.rule close.index more (sym (ap (λ l. get_or l 0 0) h) ∙ e))
letter-other (own rule vector) more s h = skip-other 98 (codes " ") s (λ e. own-first rule vector more (sym (ap (λ l. get_or l 0 0) h) ∙ e))

node_line-reads : (version rows : ℕ) (l : Line) (more : Bytes) (s : State) → IsLine version rows l → s.text ≡ line_text l ++ more → Reads (node_line_at version rows s) l more s
unfolding node_line_at
node_line-reads version rows (forked d n) more s h e =
    let cut : s.text ≡ codes "b " ++ (decimal d ++ (codes " " ++ (decimal n ++ (codes "\n" ++ more)))) = e ∙ simp append_assoc in
    reads-choose (codes "b ") _ _ _ (forked d n) more s cut (λ a p.
    reads-then (branch_line_at a) _ (forked d n) more a (branch-reads d n more a h.0 h.1 p) (λ b q. reads-ok (forked d n) more b q))
node_line-reads version rows (closed closing) more s h e =
    reads-other (skip_at (codes "b ") s) _ _ (formless s) (closed closing) more s (letter-other closing more s e)
    (reads-then (leaf_line_at version rows s) _ (closed closing) more s (leaf-reads version rows closing more s h e) (λ a p. reads-ok (closed closing) more a p))

-- ---- a tree is read

-- this is read from the text, and so many nodes are wanted and so many lines left behind it
pub record Grows {A : Type 0} (o : Reading (A × State)) (a : A) (more : Bytes) (wanted left : ℕ) : Type 0 where
  pub rest : State
  pub is : o ≡ Ok (a, rest)
  pub text : rest.text ≡ more
  pub wanted_is : rest.wanted ≡ wanted
  pub left_is : rest.left ≡ left

grows-then : {A B : Type 0} {a : A} {between : Bytes} {w l : ℕ} (o : Reading (A × State)) (next : A × State → Reading (B × State)) (b : B) (more : Bytes) (v k : ℕ) →
    Grows o a between w l → ((r : State) → r.text ≡ between → r.wanted ≡ w → r.left ≡ l → Grows (next (a, r)) b more v k) → Grows (o >>= next) b more v k
grows-then o next b more v k h f =
    let n = f h.rest h.text h.wanted_is h.left_is in
    record { rest = n.rest; is = ap (λ x. x >>= next) h.is ∙ n.is; text = n.text; wanted_is = n.wanted_is; left_is = n.left_is }

counted-reads : (line children w l : ℕ) (s : State) → s.wanted - 1 + children ≡ w → s.left - 1 ≡ l → w ≤ l → (w ≡ 0 → l ≡ 0) →
    counted_at line children s ≡ Ok (record { text = s.text; line = s.line; wanted = w; left = l })
unfolding counted_at
counted-reads line children w l s p q fits ends =
    rw (p, q) (go (nat_lt l w) (le-ltb l w fits) (w == 0) refl (l == 0) refl)
  where
    next : State
    next = record { text = s.text; line = s.line; wanted = w; left = l }

    go : (a : Bool) → a ≡ false → (b : Bool) → (w == 0) ≡ b → (c : Bool) → (l == 0) ≡ c → (if a || (b && not c) then Err (fault.At line why.Form) else Ok next) ≡ Ok next
    go true e b f c g = absurd (cc)
    go false e false f c g = refl
    go false e true f true g = refl
    go false e true f false g = absurd (let z = eq-eqb l 0 (ends (eqb-true w 0 f)) in cc)

node-reads : (version rows : ℕ) (line : Line) (more : Bytes) (w l : ℕ) (s : State) → IsLine version rows line → s.text ≡ line_text line ++ more →
    s.wanted - 1 + children_of line ≡ w → s.left - 1 ≡ l → w ≤ l → (w ≡ 0 → l ≡ 0) → Grows (node_at version rows s) line more w l
unfolding node_at
node-reads version rows line more w l s h e p q fits ends =
    let n = node_line-reads version rows line more s h e in
    let c = counted-reads s.line (children_of line) w l n.rest (ap (λ k. k - 1 + children_of line) n.wanted ∙ p) (ap (λ k. k - 1) n.left ∙ q) fits ends in
    record {
      rest = record { text = n.rest.text; line = n.rest.line; wanted = w; left = l };
      is = ap (λ o. o >>= λ x. counted_at s.line (children_of x.0) x.1 >>= λ a. Ok (x.0, a)) n.is ∙ ap (λ o. o >>= λ a. Ok (line, a)) c;
      text = n.text;
      wanted_is = refl;
      left_is = refl;
    }

pub some-nodes : (tree : Tree) → 1 ≤ nodes tree
unfolding nodes
some-nodes (leaf closing) = omega arith
some-nodes (branch d children) = omega arith

-- each tree has a node
many-nodes : (trees : Trees) → (count trees ≤ nodes_of trees) × (count trees ≡ 0 → nodes_of trees ≡ 0)
unfolding count nodes
many-nodes nil = (omega arith, λ e. refl)
many-nodes (cons tree rest) = let h = many-nodes rest in let n = some-nodes tree in (omega arith, λ e. absurd (omega arith))

mutual
  unfolding tree_at trees_at count nodes node_lines IsNode

  pub tree-reads : (tree : Tree) (version rows depth : ℕ) (more : Bytes) (w l : ℕ) (s : State) → IsNode version rows depth tree → s.text ≡ node_lines tree ++ more →
      s.wanted ≡ w + 1 → s.left ≡ l + nodes tree → w ≤ l → (w ≡ 0 → l ≡ 0) → Grows (tree_at version rows depth s) tree more w l
  tree-reads (leaf closing) version rows zero more w l s h e p q fits ends =
      grows-then (node_at version rows s) _ (leaf closing) more w l (node-reads version rows (closed closing) more w l s h e (omega arith) (omega arith) fits ends) (λ r t u v.
      record { rest = r; is = refl; text = t; wanted_is = u; left_is = v })
  tree-reads (leaf closing) version rows (suc depth) more w l s h e p q fits ends =
      grows-then (node_at version rows s) _ (leaf closing) more w l (node-reads version rows (closed closing) more w l s h e (omega arith) (omega arith) fits ends) (λ r t u v.
      record { rest = r; is = refl; text = t; wanted_is = u; left_is = v })
  tree-reads (branch d children) version rows zero more w l s h e p q fits ends = absurd (let z = h.0 in omega arith)
  tree-reads (branch d children) version rows (suc depth) more w l s h e p q fits ends =
      let many = many-nodes children in
      grows-then (node_at version rows s) _ (branch d children) more w l
      (node-reads version rows (forked d (count children)) (all_lines children ++ more) (w + count children) (l + nodes_of children) s (h.1, h.2)
      (e ∙ append_assoc (branch_line d (count children)) (all_lines children) more) (omega arith) (omega arith) (omega (arith, many.0)) (λ z. absurd (let c = h.2.0 in omega arith)))
      (λ r t u v. grows-then (trees_at (tree_at version rows depth) (count children) r) _ (branch d children) more w l
      (trees-reads children version rows depth more w l r (let same : suc depth - 1 ≡ depth = omega arith in rw same at h.3) t u v fits ends) (λ a b c f.
      record { rest = a; is = refl; text = b; wanted_is = c; left_is = f }))

  trees-reads : (trees : Trees) (version rows depth : ℕ) (more : Bytes) (w l : ℕ) (s : State) → AreNodes version rows depth trees → s.text ≡ all_lines trees ++ more →
      s.wanted ≡ w + count trees → s.left ≡ l + nodes_of trees → w ≤ l → (w ≡ 0 → l ≡ 0) → Grows (trees_at (tree_at version rows depth) (count trees) s) trees more w l
  trees-reads nil version rows depth more w l s h e p q fits ends =
      record { rest = s; is = refl; text = e; wanted_is = omega arith; left_is = omega arith }
  trees-reads (cons tree rest) version rows depth more w l s h e p q fits ends =
      let many = many-nodes rest in
      let next : count rest + 1 ≡ suc (count rest) = omega arith in
      rw next
      (grows-then (tree_at version rows depth s) _ (cons tree rest) more w l
      (tree-reads tree version rows depth (all_lines rest ++ more) (w + count rest) (l + nodes_of rest) s h.0 (e ∙ append_assoc (node_lines tree) (all_lines rest) more)
      (omega arith) (omega arith) (omega (arith, many.0)) (λ z. let a : w ≡ 0 = omega arith in let b : count rest ≡ 0 = omega arith in omega (arith, ends a, many.1 b)))
      (λ r t u v. grows-then (trees_at (tree_at version rows depth) (count rest) r) _ (cons tree rest) more w l
      (trees-reads rest version rows depth more w l r h.1 t u v fits ends) (λ a b c f. record { rest = a; is = refl; text = b; wanted_is = c; left_is = f })))
