-- Texts and certificates are one to one.
use Rattle.std.proofs.Common.{◌≡◌, ℕ, ◌≤◌, [], ◌++◌, Ok, Err, refl, sym, ap, ◌∙◌, arith, append_assoc, append-nil}
use Rattle.std.specs.Prelude.{codes, decimal, is_some, if◌then◌else◌}
use Rattle.std.proofs.lemmas.Slice.Eq.{bytes_eq-Decides}
use Rattle.rely_num.specs.Texts.{Bytes, same_text}
use Rattle.chisel_cert.specs.declared.fault.CertFault.{CertFault}
use Rattle.chisel_cert.specs.declared.limits.TheConstants.{LAST_VERSION, MOST_DECISIONS, MOST_ROWS, MOST_ENERGY, MOST_NODES, MOST_DEPTH}
use Rattle.chisel_cert.specs.Tree.{Tree, nodes, Certificate}
use Rattle.chisel_cert.specs.Text.{version_line, size_line, choice_line, energy_line, row_lines, pool_lines, tree_line, node_lines, end_line, head_lines, table_lines, tree_lines, text_of}
use Rattle.chisel_cert.specs.Ranges.{restated_count, IsBetween, IsChosen, IsGiven, IsNode, IsWithin}
use Rattle.chisel_cert.specs.State.{State, ◌>>=◌, formless, with_text, skip_at, line_end_at, each_at}
use Rattle.chisel_cert.specs.Lines.{counted_line_at, version_line_at, size_line_at, choice_line_at, energy_line_at, row_line_at, vectors_at}
use Rattle.chisel_cert.specs.Reading.{tree_line_at, tree_at, end_line_at, Head, head_at, root_at, start_of, certificate_at}
use Rattle.chisel_cert.specs.Laws.{WrittenIsRead, ReadIsWritten, NoText}
use Rattle.chisel_cert.proofs.Readings.{On, on-ok, on-err, on-then, on-if, Says, ◌⨾◌, says-as, skip-says, line_end-says, then-ok, skip-reads, line_end-reads, Reads, reads-ok, reads-then}
use Rattle.chisel_cert.proofs.LineTexts.{counted_line-says, version-says, size-says, choice-says, energy-says, rows-says, vectors-says, counted_line-reads, version-reads, size-reads, choice-reads, energy-reads, rows-reads, vectors-reads}
use Rattle.chisel_cert.proofs.NodeTexts.{tree-says, Grows, some-nodes, tree-reads}

-- ---- what is read is the text

-- the lines before the rows
abbrev head_text : Head → Bytes
head_text h = version_line h.version ++ size_line h.decisions h.rows ++ choice_line h.choice ++ energy_line h.energy

record IsHead (h : Head) : Type 0 where
  version : IsBetween 1 LAST_VERSION h.version
  decisions : IsBetween 1 MOST_DECISIONS h.decisions
  rows : IsBetween 1 MOST_ROWS h.rows
  choice : IsChosen h.decisions h.choice
  energy : IsGiven MOST_ENERGY (is_some h.choice) h.energy

head-says : (s : State) → On (head_at s) (λ x. Says (head_text x.0) (IsHead x.0) s x.1)
unfolding head_at
head-says s =
    on-then (version_line_at s) _ _ (version-says s) (λ v p. on-then (size_line_at v.1) _ _ (size-says v.1) (λ z q.
    on-then (choice_line_at z.0.0 z.1) _ _ (choice-says z.0.0 z.1) (λ c r. on-then (energy_line_at (is_some c.0) c.1) _ _ (energy-says (is_some c.0) c.1) (λ e t.
    on-ok _ _ (says-as (p ⨾ q ⨾ r ⨾ t) refl (λ f. record { version = f.0.0.0; decisions = f.0.0.1.0; rows = f.0.0.1.1; choice = f.0.1; energy = f.1 }))))))

-- the number of nodes, and the counts behind its line
tree_line-says : (s : State) → On (tree_line_at s) (λ x. (s.text ≡ tree_line x.0 ++ x.1.text) × IsBetween 1 MOST_NODES x.0 × (x.1.wanted ≡ 1) × (x.1.left ≡ x.0))
unfolding tree_line_at
tree_line-says s =
    on-then (counted_line_at (codes "tree ") 1 MOST_NODES s) _ _ (counted_line-says (codes "tree ") 1 MOST_NODES s) (λ x p.
    on-ok _ _ (p.is, p.fact, refl, refl))

end-says : (s : State) → On (end_line_at s) (λ a. s.text ≡ end_line)
unfolding end_line_at
end-says s =
    on-then (skip_at (codes "end") s) _ _ (skip-says (codes "end") s) (λ a p. on-then (line_end_at a) _ _ (line_end-says a) (λ b q.
    on-if (same_text b.text []) _ _ _
    (λ e. on-ok _ _ ((p ⨾ q).is ∙ ap (λ l. end_line ++ l) ((bytes_eq-Decides b.text []).0 e) ∙ append-nil end_line))
    (λ _. on-err _ _)))

-- the tree and all that stands behind it
record IsRoot (version rows nodes_line : ℕ) (root : Tree) (s : State) : Type 0 where
  is : s.text ≡ tree_line nodes_line ++ node_lines root ++ end_line
  few : nodes_line ≤ MOST_NODES
  counted : nodes_line ≡ nodes root
  shape : IsNode version rows MOST_DEPTH root

root-says : (version rows : ℕ) (s : State) → On (root_at version rows s) (λ x. IsRoot version rows x.0.0 x.0.1 s)
unfolding root_at
root-says version rows s =
    on-then (tree_line_at s) _ _ (tree_line-says s) (λ n p.
    on-then (tree_at version rows MOST_DEPTH n.1) _ _ (tree-says version rows MOST_DEPTH n.1 (record { some = omega (arith, p.2); fits = omega (arith, p.2, p.3, p.1.0) })) (λ t q.
    let c = q.fact.1 in
    on-then (end_line_at t.1) _ _ (end-says t.1) (λ a r. on-ok _ _ (record {
      is = p.0 ∙ ap (λ l. tree_line n.0 ++ l) (q.is ∙ ap (λ l. node_lines t.0 ++ l) r) ∙ sym (append_assoc (tree_line n.0) (node_lines t.0) end_line);
      few = p.1.1;
      counted = let none : t.1.left ≡ 0 = c.ends (omega (arith, c.wanted, p.2)) in omega (arith, c.left, p.3, none);
      shape = q.fact.0;
    }))))

read-says : (text : Bytes) → On (certificate_at text) (λ c. IsWithin c × (text_of c ≡ text))
unfolding certificate_at head_lines table_lines tree_lines
read-says text =
    on-then (head_at (start_of text)) _ _ (head-says (start_of text)) (λ h p.
    on-then (each_at (row_line_at (is_some h.0.choice)) (restated_count h.0.version h.0.rows) h.1) _ _ (rows-says (is_some h.0.choice) (restated_count h.0.version h.0.rows) h.1) (λ r q.
    on-then (vectors_at h.0.rows r.1) _ _ (vectors-says h.0.rows p.fact.rows.0 r.1) (λ v t.
    on-then (root_at h.0.version h.0.rows v.1) _ _ (root-says h.0.version h.0.rows v.1) (λ x u.
    on-ok _ _ (
      record {
        version = p.fact.version;
        decisions = p.fact.decisions;
        rows = p.fact.rows;
        choice = p.fact.choice;
        energy = p.fact.energy;
        restated_rows = q.fact.0;
        restated = q.fact.1;
        vectors = t.fact.0;
        pool = t.fact.1;
        most_nodes = u.few;
        nodes = u.counted;
        root = u.shape;
      },
      sym (p.is ∙ ap (λ l. head_text h.0 ++ l) ((q ⨾ t).is ∙ ap (λ l. (row_lines r.0 ++ pool_lines v.0) ++ l) u.is)
          ∙ sym (append_assoc (head_text h.0) (row_lines r.0 ++ pool_lines v.0) _)),
    )))))

-- ---- the text is read

head-reads : (h : Head) (more : Bytes) (s : State) → IsHead h → s.text ≡ head_text h ++ more → Reads (head_at s) h more s
unfolding head_at
head-reads h more s w e =
    let cut : s.text ≡ version_line h.version ++ (size_line h.decisions h.rows ++ (choice_line h.choice ++ (energy_line h.energy ++ more))) = e
    ∙ append_assoc (version_line h.version ++ size_line h.decisions h.rows ++ choice_line h.choice) (energy_line h.energy) more
    ∙ append_assoc (version_line h.version ++ size_line h.decisions h.rows) (choice_line h.choice) _ ∙ append_assoc (version_line h.version) (size_line h.decisions h.rows) _ in
    reads-then (version_line_at s) _ h more s (version-reads h.version _ s w.version cut) (λ a p.
    reads-then (size_line_at a) _ h more a (size-reads h.decisions h.rows _ a w.decisions w.rows p) (λ b q.
    reads-then (choice_line_at h.decisions b) _ h more b (choice-reads h.decisions h.choice _ b w.decisions.0 w.choice q) (λ c r.
    reads-then (energy_line_at (is_some h.choice) c) _ h more c (energy-reads (is_some h.choice) h.energy more c w.energy r) (λ d t. reads-ok h more d t))))

end-reads : (s : State) → s.text ≡ end_line → (r : State) × (end_line_at s ≡ Ok r)
unfolding end_line_at
end-reads s h = (
  _,
  ap (λ o. o >>= λ a. line_end_at a >>= λ b. if same_text b.text [] then Ok b else Err (formless b)) (skip-reads (codes "end") (codes "\n") s h)
      ∙ ap (λ o. o >>= λ b. if same_text b.text [] then Ok b else Err (formless b)) (line_end-reads [] (with_text s (codes "\n")) refl),
)

tree_line-reads : (n : ℕ) (more : Bytes) (s : State) → IsBetween 1 MOST_NODES n → s.text ≡ tree_line n ++ more → Grows (tree_line_at s) n more 1 n
unfolding tree_line_at
tree_line-reads n more s range h =
    let cut : s.text ≡ codes "tree " ++ (decimal n ++ (codes "\n" ++ more)) = h ∙ simp append_assoc in
    let a = counted_line-reads (codes "tree ") 1 MOST_NODES n more s range (omega arith) cut in
    record {
      rest = record { text = a.rest.text; line = a.rest.line; wanted = 1; left = n };
      is = then-ok (counted_line_at (codes "tree ") 1 MOST_NODES s) _ _ _ a.is refl;
      text = a.text;
      wanted_is = refl;
      left_is = refl;
    }

root-reads : (version rows n : ℕ) (root : Tree) (s : State) → n ≤ MOST_NODES → n ≡ nodes root → 1 ≤ n → IsNode version rows MOST_DEPTH root →
    s.text ≡ tree_line n ++ node_lines root ++ end_line → (r : State) × (root_at version rows s ≡ Ok ((n, root), r))
unfolding root_at
root-reads version rows n root s few counted some shape h =
    let a = tree_line-reads n (node_lines root ++ end_line) s (some, few) (h ∙ append_assoc (tree_line n) (node_lines root) end_line) in
    let t = tree-reads root version rows MOST_DEPTH end_line 0 0 a.rest shape a.text (omega (arith, a.wanted_is)) (omega (arith, a.left_is, counted)) (omega arith) (λ z. refl) in
    let e = end-reads t.rest t.text in
    (e.0, then-ok (tree_line_at s) _ _ _ a.is (then-ok (tree_at version rows MOST_DEPTH a.rest) _ _ _ t.is (then-ok (end_line_at t.rest) _ _ _ e.1 refl)))

pub written_is_read : WrittenIsRead
unfolding certificate_at head_lines table_lines tree_lines
written_is_read c w =
    let h : Head = record { version = c.version; decisions = c.decisions; rows = c.rows; choice = c.choice; energy = c.energy } in
    let rows_text : Bytes = row_lines c.restated in
    let pool_text : Bytes = pool_lines c.pool in
    let tree_text : Bytes = tree_line c.nodes ++ node_lines c.root ++ end_line in
    let s : State = start_of (text_of c) in
    let a = head-reads h (rows_text ++ (pool_text ++ tree_text)) s
    (record { version = w.version; decisions = w.decisions; rows = w.rows; choice = w.choice; energy = w.energy })
    (append_assoc (head_text h) (rows_text ++ pool_text) tree_text ∙ ap (λ l. head_text h ++ l) (append_assoc rows_text pool_text tree_text)) in
    let b = rows-reads (is_some c.choice) c.restated (pool_text ++ tree_text) a.rest w.restated a.text in
    let v = vectors-reads c.rows c.pool tree_text b.rest w.rows.0 w.vectors w.pool b.text in
    let r = root-reads c.version c.rows c.nodes c.root v.rest w.most_nodes w.nodes (omega (arith, w.nodes, some-nodes c.root)) w.root v.text in
    then-ok (head_at s) _ _ _ a.is
    (then-ok (each_at (row_line_at (is_some c.choice)) (restated_count c.version c.rows) a.rest) _ _ _
    (ap (λ n. each_at (row_line_at (is_some c.choice)) n a.rest) (sym w.restated_rows) ∙ b.is)
    (then-ok (vectors_at c.rows b.rest) _ _ _ v.is (then-ok (root_at c.version c.rows v.rest) _ _ _ r.1 refl)))

pub read_is_written : ReadIsWritten
read_is_written text c h = (read-says text).at c h

-- a text that isn't read is no certificate's
pub no_text : (text : Bytes) (e : CertFault) → certificate_at text ≡ Err e → NoText text
no_text text e h c w is = let read = ap certificate_at (sym is) ∙ written_is_read c w in absurd (let clash : Err e ≡ Ok c = sym h ∙ read in cc)

-- what is read is within the limits, and its text
pub read_within : (text : Bytes) (c : Certificate) → certificate_at text ≡ Ok c → IsWithin c
read_within text c h = ((read-says text).at c h).0

pub read_text : (text : Bytes) (c : Certificate) → certificate_at text ≡ Ok c → text_of c ≡ text
read_text text c h = ((read-says text).at c h).1

pub ruleset texts = (written_is_read, read_is_written, no_text, read_within, read_text)
