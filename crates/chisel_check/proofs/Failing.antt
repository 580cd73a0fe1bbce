-- A certificate is valid, or it fails first somewhere.
use Rattle.std.proofs.Common.{◌≡◌, ℕ, ◌+◌, ◌<◌, ◌≤◌, Bool, true, false, ◌==◌, ◌⊎◌, inl, inr, List, length, Option, Result, Ok, Err, if◌then◌else◌, refl, sym, ap, ◌∙◌, subst, arith}
use Rattle.std.specs.Prelude.{ℤ, nat_lt, ◌&&◌}
use Rattle.std.proofs.lemmas.Bool.{eqb-true}
use Rattle.chisel_table.specs.declared.partial.Partial.{Partial}
use Rattle.chisel_table.specs.declared.table.Table.{Table}
use Rattle.chisel_table.specs.Partials.{is_unfixed, nothing_fixed, with_option}
use Rattle.chisel_table.specs.Tables.{decision_count, option_count}
use Rattle.chisel_cert.specs.declared.cert.Restated.{Restated}
use Rattle.chisel_cert.specs.Ranges.{restated_count, IsWithin}
use Rattle.chisel_cert.specs.Tree.{Tree, leaf, branch, Trees, nil, cons, count, Certificate}
use Rattle.chisel_cert.specs.Valid.{closing_holds, IsValid, IsValidFor}
use Rattle.chisel_check.specs.declared.node.CheckWhy.{CheckWhy}
use Rattle.chisel_check.specs.declared.node.CheckWhy.TheVariants as why
use Rattle.chisel_check.specs.declared.node.Failure.{Failure}
use Rattle.chisel_check.specs.Failures.{IsHeaded, AreTold, root_line, FailsFirst}
use Rattle.chisel_check.specs.Walk.{fails, ◌>>=◌, walk, walk_all}
use Rattle.chisel_check.proofs.Walks.{ok_if_valid}

-- ---- a walk fails for the reason of a node

abbrev IsNodeWhy : CheckWhy → Type 0
IsNodeWhy why.Branch = Unit {0}
IsNodeWhy why.Children = Unit {0}
IsNodeWhy why.Leaf = Unit {0}
IsNodeWhy reason = ⊥

if_fails : (b : Bool) (r : Result ℕ Failure) (line : ℕ) (w : CheckWhy) (e : Failure) → IsNodeWhy w → (r ≡ Err e → IsNodeWhy e.why) →
    (if b then r else fails line w) ≡ Err e → IsNodeWhy e.why
if_fails true r line w e node k h = k h
if_fails false r line w e node k h = let same : w ≡ e.why = cc in subst IsNodeWhy same node

then_fails : (r : Result ℕ Failure) (next : ℕ → Result ℕ Failure) (e : Failure) → (r >>= next) ≡ Err e → (r ≡ Err e) ⊎ ((x : ℕ) × (next x ≡ Err e))
then_fails (Ok x) next e h = inr (x, h)
then_fails (Err f) next e h = inl h

either : {A B P : Type 0} → A ⊎ B → (A → P) → (B → P) → P
either (inl a) f g = f a
either (inr b) f g = g b

mutual
  unfolding walk

  walk_why : (tree : Tree) (t : Table) (pool : List (List ℕ)) (choice : Option (List ℕ)) (p : Partial) (line : ℕ) (e : Failure) →
      walk t pool choice p tree line ≡ Err e → IsNodeWhy e.why
  walk_why (leaf closing) t pool choice p line e h =
      if_fails (closing_holds t pool choice p closing) (Ok (line + 1)) line why.Leaf e tt (λ z. absurd (cc)) h
  walk_why (branch d children) t pool choice p line e h =
      if_fails (nat_lt d (decision_count t) && is_unfixed p d) _ line why.Branch e tt
      (λ k. if_fails (count children == option_count t d) _ line why.Children e tt (all_why children t pool choice p d 0 (line + 1) e) k) h

  all_why : (trees : Trees) (t : Table) (pool : List (List ℕ)) (choice : Option (List ℕ)) (p : Partial) (d o line : ℕ) (e : Failure) →
      walk_all t pool choice p d o trees line ≡ Err e → IsNodeWhy e.why
  all_why nil t pool choice p d o line e h = absurd (cc)
  all_why (cons tree rest) t pool choice p d o line e h =
      either (then_fails (walk t pool choice (with_option p d o) tree line) _ e h)
      (λ k. walk_why tree t pool choice (with_option p d o) line e k)
      (λ k. all_why rest t pool choice p d (o + 1) k.0 e k.1)

-- ---- the first failure

by_why : (t : Table) (c : Certificate) (line : ℕ) (reason : CheckWhy) → IsNodeWhy reason → IsHeaded t c → AreTold t c (length c.restated) →
    walk t c.pool c.choice (nothing_fixed t) c.root (root_line c) ≡ Err (record { line = line; why = reason }) → FailsFirst t c line reason
by_why t c line why.Size node head told h = absurd node
by_why t c line why.Choice node head told h = absurd node
by_why t c line why.Energy node head told h = absurd node
by_why t c line why.Row node head told h = absurd node
by_why t c line why.Branch node head told h = (head, told, h)
by_why t c line why.Children node head told h = (head, told, h)
by_why t c line why.Leaf node head told h = (head, told, h)

-- a node that fails, behind a head and rows that don't
pub tree_fails : (t : Table) (c : Certificate) (e : Failure) → IsHeaded t c → AreTold t c (length c.restated) →
    walk t c.pool c.choice (nothing_fixed t) c.root (root_line c) ≡ Err e → FailsFirst t c e.line e.why
tree_fails t c e head told h = by_why t c e.line e.why (walk_why c.root t c.pool c.choice (nothing_fixed t) (root_line c) e h) head told h

-- ---- the rows

-- in version 2 all rows are told again, and in version 1 none
restated_two : (version rows : ℕ) → version ≡ 2 → restated_count version rows ≡ rows
restated_two version rows two = ap (λ v. restated_count v rows) two

pub restated_few : (version rows : ℕ) → restated_count version rows ≤ rows
restated_few version rows = go (version == 2)
  where
    go : (b : Bool) → (if b then rows else 0) ≤ rows
    go true = omega arith
    go false = omega arith

some_two : (version rows i : ℕ) → i < restated_count version rows → version ≡ 2
some_two version rows i less = go (version == 2) refl less
  where
    go : (b : Bool) → (version == 2) ≡ b → i < (if b then rows else 0) → version ≡ 2
    go true e l = eqb-true version 2 e
    go false e l = absurd (omega arith)

-- all is right
pub valid_from : (t : Table) (c : Certificate) → IsWithin c → IsHeaded t c → AreTold t c (length c.restated) →
    IsValid t c.pool c.choice (nothing_fixed t) c.root → IsValidFor t c
valid_from t c within head told tree = record {
  decisions_are = head.sized.0;
  rows_are = head.sized.1;
  choice_meets = head.claimed;
  energy_is = head.energy;
  restated_are = λ two i less. told i (omega (arith, within.restated_rows, restated_two c.version c.rows two, head.sized.1, less));
  tree_is = tree;
}

invalid_walk : (t : Table) (c : Certificate) (e : Failure) → IsValidFor t c → walk t c.pool c.choice (nothing_fixed t) c.root (root_line c) ≡ Err e → ⊥
invalid_walk t c e v h = let a = ok_if_valid c.root t c.pool c.choice (nothing_fixed t) (root_line c) v.tree_is in absurd (let clash : Err e ≡ Ok a.0 = sym h ∙ a.1 in cc)

-- what fails isn't valid
pub fails_invalid : (t : Table) (c : Certificate) (line : ℕ) (reason : CheckWhy) → IsWithin c → FailsFirst t c line reason → IsValidFor t c → ⊥
fails_invalid t c line why.Size within f v = f.1 (v.decisions_are, v.rows_are)
fails_invalid t c line why.Choice within f v = f.2 v.choice_meets
fails_invalid t c line why.Energy within f v = f.3 v.energy_is
fails_invalid t c line why.Row within f v =
    let i = f.1.0 in
    let less : i < restated_count c.version c.rows = omega (arith, f.1.2, within.restated_rows) in
    f.1.4 (v.restated_are (some_two c.version c.rows i less) i (omega (arith, less, restated_few c.version c.rows, v.rows_are)))
fails_invalid t c line why.Branch within f v = invalid_walk t c _ v f.2
fails_invalid t c line why.Children within f v = invalid_walk t c _ v f.2
fails_invalid t c line why.Leaf within f v = invalid_walk t c _ v f.2

-- a row that is told again
pub told_is : (row : Restated) (budget : ℤ) (spent : Option ℕ) → row.budget ≡ budget → row.spent ≡ spent → row ≡ record { budget = budget; spent = spent }
told_is row budget spent p q = λ i. record { budget = p i; spent = q i }
