-- The walk finds no failing line exactly where the tree is valid.
use Rattle.std.proofs.Common.{◌≡◌, ℕ, ◌+◌, Bool, true, false, ◌==◌, List, [], ◌∷◌, length, Result, Ok, Err, Option, if◌then◌else◌, refl, ap, ◌∙◌, sym}
use Rattle.std.specs.Prelude.{slice_set, nat_lt, ◌&&◌}
use Rattle.std.specs.Prelude.{IsOk, ◌↔◌}
use Rattle.std.specs.Borrow.{Bor}
use Rattle.std.proofs.lemmas.Bool.{eqb-true, eq-eqb, ltb-true, lt-ltb}
use Rattle.std.proofs.lemmas.List.{set-set}
use Rattle.chisel_table.specs.declared.table.Table.{Table}
use Rattle.chisel_table.specs.declared.partial.Partial.{Partial}
use Rattle.chisel_table.specs.Tables.{decision_count, option_count}
use Rattle.chisel_table.specs.Partials.{is_unfixed, with_option}
use Rattle.chisel_table.proofs.Sums.{both}
use Rattle.chisel_cert.specs.declared.cert.Mark.{Mark}
use Rattle.chisel_cert.specs.declared.cert.Node.{Node, Leaf, Branch}
use Rattle.chisel_cert.specs.Tree.{Tree, leaf, branch, Trees, nil, cons, count, nodes, nodes_of}
use Rattle.chisel_cert.specs.Valid.{closing_holds, IsValid, AreValid}
use Rattle.chisel_cert.specs.Node.{closing_of, tree_of, trees_of}
use Rattle.chisel_cert.proofs.Nodes.{tree_of-Branch, tree_of-Leaf, count-trees_of}
use Rattle.chisel_check.specs.declared.node.Failure.{Failure}
use Rattle.chisel_check.specs.declared.node.CheckWhy.{CheckWhy}
use Rattle.chisel_check.specs.declared.node.CheckWhy.TheVariants as why
use Rattle.chisel_check.specs.Walk.{fails, ◌>>=◌, walk, walk_all, ClosingFits, TreeFits, AllFit}

-- what a walk that ends well comes from
ok_bind : (r : Result ℕ Failure) (f : ℕ → Result ℕ Failure) (y : ℕ) → (r >>= f) ≡ Ok y → (x : ℕ) × (r ≡ Ok x) × (f x ≡ Ok y)
ok_bind (Ok x) f y h = (x, refl, h)
ok_bind (Err e) f y h = cc

ok_cond : (b : Bool) (r : Result ℕ Failure) (line : ℕ) (w : CheckWhy) (y : ℕ) → (if b then r else fails line w) ≡ Ok y → (b ≡ true) × (r ≡ Ok y)
ok_cond true r line w y h = (refl, h)
ok_cond false r line w y h = cc

mutual
  unfolding walk IsValid AreValid

  pub valid_if_ok : (n : Tree) (t : Table) (pool : List (List ℕ)) (choice : Option (List ℕ)) (p : Partial) (line after : ℕ) →
      walk t pool choice p n line ≡ Ok after → IsValid t pool choice p n
  valid_if_ok (leaf closing) t pool choice p line after h = (ok_cond (closing_holds t pool choice p closing) _ _ _ _ h).0
  valid_if_ok (branch d ns) t pool choice p line after h =
      let a = ok_cond (nat_lt d (decision_count t) && is_unfixed p d) _ _ _ _ h in
      let u = both (nat_lt d (decision_count t)) (is_unfixed p d) a.0 in
      let b = ok_cond (count ns == option_count t d) _ _ _ _ a.1 in
      (ltb-true _ _ u.0, u.1, eqb-true _ _ b.0, all_valid_if_ok ns t pool choice p d 0 (line + 1) after b.1)

  all_valid_if_ok : (ns : Trees) (t : Table) (pool : List (List ℕ)) (choice : Option (List ℕ)) (p : Partial) (d o line after : ℕ) →
      walk_all t pool choice p d o ns line ≡ Ok after → AreValid t pool choice p d o ns
  all_valid_if_ok nil t pool choice p d o line after h = tt
  all_valid_if_ok (cons n ns) t pool choice p d o line after h =
      let a = ok_bind (walk t pool choice (with_option p d o) n line) _ _ h in
      (valid_if_ok n t pool choice (with_option p d o) line a.0 a.1, all_valid_if_ok ns t pool choice p d (o + 1) a.0 after a.2)

mutual
  unfolding walk IsValid AreValid

  pub ok_if_valid : (n : Tree) (t : Table) (pool : List (List ℕ)) (choice : Option (List ℕ)) (p : Partial) (line : ℕ) →
      IsValid t pool choice p n → (after : ℕ) × (walk t pool choice p n line ≡ Ok after)
  ok_if_valid (leaf closing) t pool choice p line h = (line + 1, ap (λ b. if b then Ok (line + 1) else fails line why.Leaf) h)
  ok_if_valid (branch d ns) t pool choice p line h =
      let a = all_ok_if_valid ns t pool choice p d 0 (line + 1) h.3 in
      let u : (nat_lt d (decision_count t) && is_unfixed p d) ≡ true = rw (lt-ltb d (decision_count t) h.0) h.1 in (
        a.0,
        ap (λ b. if b then (if count ns == option_count t d then walk_all t pool choice p d 0 ns (line + 1) else fails line why.Children) else fails line why.Branch) u
            ∙ ap (λ b. if b then walk_all t pool choice p d 0 ns (line + 1) else fails line why.Children) (eq-eqb _ _ h.2) ∙ a.1,
      )

  all_ok_if_valid : (ns : Trees) (t : Table) (pool : List (List ℕ)) (choice : Option (List ℕ)) (p : Partial) (d o line : ℕ) →
      AreValid t pool choice p d o ns → (after : ℕ) × (walk_all t pool choice p d o ns line ≡ Ok after)
  all_ok_if_valid nil t pool choice p d o line h = (line, refl)
  all_ok_if_valid (cons n ns) t pool choice p d o line h =
      let a = ok_if_valid n t pool choice (with_option p d o) line h.0 in
      let b = all_ok_if_valid ns t pool choice p d (o + 1) a.0 h.1 in
      (b.0, ap (λ r. r >>= λ after. walk_all t pool choice p d (o + 1) ns after) a.1 ∙ b.1)

-- a branch over a list of nodes
abbrev pub branched : Table → List (List ℕ) → Option (List ℕ) → Partial → ℕ → List Node → ℕ → Result ℕ Failure
branched t pool choice p d kids line =
    if nat_lt d (decision_count t) && is_unfixed p d
    then (if length kids == option_count t d then walk_all t pool choice p d 0 (trees_of kids) (line + 1) else fails line why.Children)
    else fails line why.Branch

pub walk-Branch : (t : Table) (pool : List (List ℕ)) (choice : Option (List ℕ)) (p : Partial) (d : ℕ) (kids : Bor (List Node)) (line : ℕ) →
    walk t pool choice p (tree_of (Branch d kids)) line ≡ branched t pool choice p d kids.now line
unfolding walk
walk-Branch t pool choice p d kids line =
    ap (λ n. walk t pool choice p n line) (tree_of-Branch d kids)
    ∙ ap (λ k. if nat_lt d (decision_count t) && is_unfixed p d
    then (if k == option_count t d then walk_all t pool choice p d 0 (trees_of kids.now) (line + 1) else fails line why.Children)
    else fails line why.Branch) (count-trees_of kids.now)

pub walk-Leaf : (t : Table) (pool : List (List ℕ)) (choice : Option (List ℕ)) (p : Partial) (m : Mark) (line : ℕ) →
    walk t pool choice p (tree_of (Leaf m)) line ≡ (if closing_holds t pool choice p (closing_of m) then Ok (line + 1) else fails line why.Leaf)
unfolding walk
walk-Leaf t pool choice p m line = ap (λ n. walk t pool choice p n line) (tree_of-Leaf m)

pub nodes-Branch : (d : ℕ) (kids : Bor (List Node)) → nodes (tree_of (Branch d kids)) ≡ nodes_of (trees_of kids.now) + 1
unfolding nodes
nodes-Branch d kids = ap nodes (tree_of-Branch d kids)

pub nodes-Leaf : (m : Mark) → nodes (tree_of (Leaf m)) ≡ 1
unfolding nodes
nodes-Leaf m = ap nodes (tree_of-Leaf m)

pub ruleset walks = (walk-Branch, walk-Leaf, nodes-Branch, nodes-Leaf)

-- alike but in one slot
pub record Alike (p q : Partial) (d : ℕ) : Type 0 where
  pub size : p.size ≡ q.size
  pub slots : (x : ℕ) → slice_set p.slots d x ≡ slice_set q.slots d x

pub alike_with_option : (p q : Partial) (d x : ℕ) → Alike p q d → with_option p d x ≡ with_option q d x
alike_with_option p q d x h = λ i. record { size = h.size i; slots = h.slots x i }

pub alike_after : (p q : Partial) (d x : ℕ) → Alike p q d → Alike (with_option p d x) q d
alike_after p q d x h = record { size = h.size; slots = λ y. set-set p.slots d x y ∙ h.slots y }

-- the leaves below a branch fit where the branch's do
pub fits-Branch : (t : Table) (d : ℕ) (kids : Bor (List Node)) → TreeFits t (tree_of (Branch d kids)) → AllFit t (trees_of kids.now)
unfolding TreeFits
fits-Branch t d kids h = rw (tree_of-Branch d kids) at h

pub fits-Leaf : (t : Table) (m : Mark) → TreeFits t (tree_of (Leaf m)) → ClosingFits t (closing_of m)
unfolding TreeFits
fits-Leaf t m h = rw (tree_of-Leaf m) at h

pub first_fits : (t : Table) (n : Node) (ns : List Node) → AllFit t (trees_of (n ∷ ns)) → TreeFits t (tree_of n) × AllFit t (trees_of ns)
unfolding TreeFits
first_fits t n ns h = h

pub walk_first : (t : Table) (pool : List (List ℕ)) (choice : Option (List ℕ)) (p : Partial) (d o : ℕ) (n : Node) (ns : List Node) (line : ℕ) →
    walk_all t pool choice p d o (trees_of (n ∷ ns)) line
    ≡ (walk t pool choice (with_option p d o) (tree_of n) line >>= λ after. walk_all t pool choice p d (o + 1) (trees_of ns) after)
unfolding walk
walk_first t pool choice p d o n ns line = refl

pub nodes_first : (n : Node) (ns : List Node) → nodes_of (trees_of (n ∷ ns)) ≡ nodes (tree_of n) + nodes_of (trees_of ns)
unfolding nodes
nodes_first n ns = refl

pub walk_none : (t : Table) (pool : List (List ℕ)) (choice : Option (List ℕ)) (p : Partial) (d o line : ℕ) → walk_all t pool choice p d o (trees_of []) line ≡ Ok line
unfolding walk
walk_none t pool choice p d o line = refl

pub nodes_none : nodes_of (trees_of []) ≡ 0
unfolding nodes
nodes_none = refl

-- a branch whose decision is unfixed, with a child per option
pub branch_opened : (t : Table) (pool : List (List ℕ)) (choice : Option (List ℕ)) (p : Partial) (d : ℕ) (kids : List Node) (line : ℕ) →
    (nat_lt d (decision_count t) && is_unfixed p d) ≡ true → length kids ≡ option_count t d →
    branched t pool choice p d kids line ≡ walk_all t pool choice p d 0 (trees_of kids) (line + 1)
branch_opened t pool choice p d kids line a b =
    ap (λ x. if x then (if length kids == option_count t d then walk_all t pool choice p d 0 (trees_of kids) (line + 1) else fails line why.Children) else fails line why.Branch) a
    ∙ ap (λ x. if x then walk_all t pool choice p d 0 (trees_of kids) (line + 1) else fails line why.Children) (eq-eqb _ _ b)

-- the walk of the node, from the walk of the child that is next
pub walk_next : (t : Table) (pool : List (List ℕ)) (choice : Option (List ℕ)) (p q : Partial) (d k next : ℕ) (child : Node) (kids rest : List Node) (r : Result ℕ Failure) →
    kids ≡ child ∷ rest → Alike q p d → r ≡ walk t pool choice (with_option q d k) (tree_of child) next →
    walk_all t pool choice p d k (trees_of kids) next ≡ (r >>= λ after. walk_all t pool choice p d (k + 1) (trees_of rest) after)
walk_next t pool choice p q d k next child kids rest r cut h e =
    ap (λ ns. walk_all t pool choice p d k (trees_of ns) next) cut
    ∙ walk_first t pool choice p d k child rest next
    ∙ ap (λ s. s >>= λ after. walk_all t pool choice p d (k + 1) (trees_of rest) after)
    (ap (λ s. walk t pool choice s (tree_of child) next) (sym (alike_with_option q p d k h)) ∙ sym e)

-- a result is Ok exactly where the tree is valid
pub decided : (r : Result ℕ Failure) (t : Table) (pool : List (List ℕ)) (choice : Option (List ℕ)) (p : Partial) (n : Tree) (line : ℕ) →
    r ≡ walk t pool choice p n line → IsOk r ↔ IsValid t pool choice p n
decided (Ok x) t pool choice p n line h = (λ _. valid_if_ok n t pool choice p line x (sym h), λ _. refl)
decided (Err e) t pool choice p n line h = (λ w. cc, λ v. let a = ok_if_valid n t pool choice p line v in absurd (let q : Err e ≡ Ok a.0 = h ∙ a.1 in cc))
