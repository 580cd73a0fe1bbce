-- The first fault of two lists.
use Rattle.std.proofs.Common.{◌≡◌, ℕ, ◌+◌, ◌<◌, List, [], ◌∷◌, ◌++◌, length, drop, get_or, Option, None, refl, ap, sym, subst, ◌∙◌, add-one, drop-cons}
use Rattle.std.proofs.lemmas.List.{length-map}
use Rattle.rely_hard.specs.declared.hardware.Hardware.{Hardware}
use Rattle.rely_tree.specs.Tree.{DeclTree, FuncTree, variables}
use Rattle.rely_resolve.specs.Faults.{sooner, first_with, twice_faults, memories_faults, limit_faults, claims_faults, block_faults}
use Rattle.rely_resolve.specs.Linked.{fault_of}
use Rattle.rely_resolve.specs.declared.fault.NameFault.{NameFault}

pub first_with_append : (first : Option NameFault) (xs ys : List NameFault) → first_with first (xs ++ ys) ≡ first_with (first_with first xs) ys
first_with_append first [] ys = refl
first_with_append first (x ∷ xs) ys = first_with_append (sooner first x) xs ys

pub ruleset firsts = (first_with_append, length-map)

-- what is left of a list at one of its items
pub rest_at : {A : Type 0} (xs : List A) (i : ℕ) (d : A) → i < length xs → drop i xs ≡ get_or xs i d ∷ drop (i + 1) xs
rest_at xs i d within = rw (add-one, drop-cons xs i d within) refl

pub item_and_rest : {A : Type 0} (xs : List A) (i : ℕ) (x : A) → i < length xs → x ≡ get_or xs i x → drop i xs ≡ x ∷ drop (i + 1) xs
item_and_rest xs i x within is = rest_at xs i x within ∙ ap (λ y. y ∷ drop (i + 1) xs) (sym is)

-- the faults of a list, one item further
pub first_at :
    {A : Type 0} (faults : A → List NameFault) (all : List A → List NameFault) → ((x : A) (xs : List A) → all (x ∷ xs) ≡ faults x ++ all xs)
    → (xs : List A) (i : ℕ) (d : A) → i < length xs → (first : Option NameFault)
    → first_with (first_with first (faults (get_or xs i d))) (all (drop (i + 1) xs)) ≡ first_with first (all (drop i xs))
first_at faults all more xs i d within first =
    let x = get_or xs i d in
    sym (ap (λ ys. first_with first (all ys)) (rest_at xs i d within) ∙ ap (first_with first) (more x (drop (i + 1) xs)) ∙ first_with_append first (faults x) (all (drop (i + 1) xs)))

-- the same of an item that is there
pub first_step :
    {A : Type 0} (faults : A → List NameFault) (all : List A → List NameFault) → ((x : A) (xs : List A) → all (x ∷ xs) ≡ faults x ++ all xs)
    → (xs : List A) (i : ℕ) (x : A) → i < length xs → x ≡ get_or xs i x → (first : Option NameFault)
    → first_with (first_with first (faults x)) (all (drop (i + 1) xs)) ≡ first_with first (all (drop i xs))
first_step faults all more xs i x within is first =
    subst (λ y. first_with (first_with first (faults y)) (all (drop (i + 1) xs)) ≡ first_with first (all (drop i xs))) (sym is) (first_at faults all more xs i x within first)

-- the parts of what is wrong with a function, one after the other
pub function_steps :
    (h : Hardware) (earlier : List FuncTree) (f : FuncTree) (vs : List DeclTree) → vs ≡ variables f
    → first_with (first_with (first_with (first_with (first_with None (twice_faults [] vs)) (memories_faults h.memories vs)) (limit_faults 0 vs)) (claims_faults f.params f.claims)) (block_faults h earlier vs f.body)
    ≡ fault_of h earlier f
function_steps h earlier f vs e =
    subst (λ vs.
    first_with (first_with (first_with (first_with (first_with None (twice_faults [] vs)) (memories_faults h.memories vs)) (limit_faults 0 vs)) (claims_faults f.params f.claims)) (block_faults h earlier vs f.body)
    ≡ fault_of h earlier f)
    (sym e) (sym (simp first_with_append))
