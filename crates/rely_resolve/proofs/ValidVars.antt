-- The variables of a kernel are those that the function declares.
use Rattle.std.specs.Prelude.{is_none, ◌&&◌, filter, sum_by, nat_le, not, slice_get, option_map, IfSome, ◌==◌}
use Rattle.std.specs.List.{AllByRecursion, list_any}
use Rattle.std.specs.Option.{option_map_or}
use Rattle.std.proofs.Common.{◌≡◌, ℕ, ◌+◌, ◌≤◌, Bool, true, false, List, [], ◌∷◌, ◌++◌, map, length, Option, Some, None, refl, sym, ap, ◌∙◌, arith, inl, inr, length-append}
use Rattle.std.proofs.lemmas.Bool.{or_cases, or_left, or_right, and_parts}
use Rattle.std.proofs.lemmas.Bool.Decides.{nat_tests}
use Rattle.std.proofs.lemmas.List.{length-map, map-append, append-nil}
use Rattle.std.proofs.lemmas.List.Elements.{filter-append}
use Rattle.std.proofs.lemmas.List.Sums.{sum_by-cons, sum_by-append}
use Rattle.std.proofs.lemmas.Option.{slice_get-map}
use Rattle.rely_num.specs.Texts.{same_text}
use Rattle.rely_hard.specs.Valid.{exact, IsHardware}
use Rattle.rely_hard.specs.declared.hardware.Hardware.{Hardware}
use Rattle.rely_hard.specs.declared.hardware.MemSpec.{MemSpec}
use Rattle.rely_kernel.specs.Machine.{size}
use Rattle.rely_kernel.specs.Setting.{SlotFits}
use Rattle.rely_kernel.specs.declared.kernel.Var.{Var}
use Rattle.rely_tree.specs.Tree.{KindTree, PlainTree, NamedTree, FreeTree, DeclTree}
use Rattle.rely_resolve.specs.Faults as faults
use Rattle.rely_resolve.specs.Faults.{memory_faults, memories_faults, limit_faults}
use Rattle.rely_resolve.specs.Kernels.{slot_of, var_of}
use Rattle.rely_resolve.specs.declared.fault.NameFault.TheVariants as fault
use Rattle.rely_num.specs.Bounds.{S}
use Rattle.rely_resolve.specs.Names.{place_of, memory_names}
use Rattle.rely_resolve.proofs.ValidNames.{both_empty, when_off, either, number_within, place_any}

-- the variables of a kernel
abbrev pub vars_of : Hardware → List DeclTree → List DeclTree → List Var
vars_of h params others = map (var_of h true) params ++ map (var_of h false) others

-- what holds of each declaration holds of each variable
of_each : (P : Var → Type 0) (Q : DeclTree → Type 0) (h : Hardware) (b : Bool) → ((d : DeclTree) → Q d → P (var_of h b d)) → (ds : List DeclTree) → AllByRecursion Q ds → AllByRecursion P (map (var_of h b) ds)
of_each P Q h b f [] q = tt
of_each P Q h b f (d ∷ ds) q = (f d q.0, of_each P Q h b f ds q.1)

pub of_all : (P : Var → Type 0) (Q : DeclTree → Type 0) (h : Hardware) → ((b : Bool) (d : DeclTree) → Q d → P (var_of h b d)) → (ps ls : List DeclTree) → AllByRecursion Q (ps ++ ls) → AllByRecursion P (vars_of h ps ls)
of_all P Q h f [] ls q = of_each P Q h false (f false) ls q
of_all P Q h f (p ∷ ps) ls q = (f true p q.0, of_all P Q h f ps ls q.1)

-- ---- parameters before locals

all_params : (h : Hardware) (ds : List DeclTree) → filter (λ v. v.param) (map (var_of h true) ds) ≡ map (var_of h true) ds
all_params h [] = refl
all_params h (d ∷ ds) = ap (λ vs. var_of h true d ∷ vs) (all_params h ds)

no_params : (h : Hardware) (ds : List DeclTree) → filter (λ v. v.param) (map (var_of h false) ds) ≡ []
no_params h [] = refl
no_params h (d ∷ ds) = no_params h ds

no_locals : (h : Hardware) (ds : List DeclTree) → filter (λ v. not v.param) (map (var_of h true) ds) ≡ []
no_locals h [] = refl
no_locals h (d ∷ ds) = no_locals h ds

all_locals : (h : Hardware) (ds : List DeclTree) → filter (λ v. not v.param) (map (var_of h false) ds) ≡ map (var_of h false) ds
all_locals h [] = refl
all_locals h (d ∷ ds) = ap (λ vs. var_of h false d ∷ vs) (all_locals h ds)

pub params_are : (h : Hardware) (ps ls : List DeclTree) → filter (λ v. v.param) (vars_of h ps ls) ≡ map (var_of h true) ps
params_are h ps ls =
    filter-append (λ (v : Var). v.param) (map (var_of h true) ps) (map (var_of h false) ls) ∙ (λ i. all_params h ps i ++ no_params h ls i) ∙ append-nil (map (var_of h true) ps)

pub locals_are : (h : Hardware) (ps ls : List DeclTree) → filter (λ v. not v.param) (vars_of h ps ls) ≡ map (var_of h false) ls
locals_are h ps ls =
    filter-append (λ (v : Var). not v.param) (map (var_of h true) ps) (map (var_of h false) ls) ∙ (λ i. no_locals h ps i ++ all_locals h ls i)

-- ---- how many there are, and how long they are

pub vars_long : (h : Hardware) (ps ls : List DeclTree) → length (vars_of h ps ls) ≡ length (ps ++ ls)
vars_long h ps ls =
    length-append (map (var_of h true) ps) (map (var_of h false) ls) ∙ (λ i. length-map ps (var_of h true) i + length-map ls (var_of h false) i) ∙ sym (length-append ps ls)

lengths_of : (h : Hardware) (b : Bool) (ds : List DeclTree) → map (λ v. v.length) (map (var_of h b) ds) ≡ map (λ d. d.length) ds
lengths_of h b [] = refl
lengths_of h b (d ∷ ds) = ap (λ ns. d.length ∷ ns) (lengths_of h b ds)

lengths_same : (h : Hardware) (ps ls : List DeclTree) → map (λ v. v.length) (vars_of h ps ls) ≡ map (λ d. d.length) (ps ++ ls)
lengths_same h ps ls =
    map-append (λ (v : Var). v.length) (map (var_of h true) ps) (map (var_of h false) ls) ∙ (λ i. lengths_of h true ps i ++ lengths_of h false ls i) ∙ sym (map-append (λ (d : DeclTree). d.length) ps ls)

through : {A : Type 0} (f : Option ℕ → Bool) (g : A → Option ℕ) (o : Option A) → option_map_or (λ x. f (g x)) o false ≡ option_map_or f (option_map g o) false
through f g None = refl
through f g (Some x) = refl

-- what is told by the length alone is the same of the variable and of its declaration
pub told_by_length : (f : Option ℕ → Bool) (h : Hardware) (ps ls : List DeclTree) (v : ℕ) → option_map_or (λ x. f x.length) (slice_get (vars_of h ps ls) v) false ≡ option_map_or (λ d. f d.length) (slice_get (ps ++ ls) v) false
told_by_length f h ps ls v =
    through f (λ (x : Var). x.length) (slice_get (vars_of h ps ls) v)
    ∙ ap (λ o. option_map_or f o false) (sym (slice_get-map (λ (x : Var). x.length) (vars_of h ps ls) v) ∙ ap (λ ns. slice_get ns v) (lengths_same h ps ls) ∙ slice_get-map (λ (d : DeclTree). d.length) (ps ++ ls) v)
    ∙ sym (through f (λ (d : DeclTree). d.length) (slice_get (ps ++ ls) v))

pub lengths_fit : (h : Hardware) (ps ls : List DeclTree) → AllByRecursion (λ d. IfSome d.length (λ n. (1 ≤ n) × (n ≤ 4096))) (ps ++ ls) → AllByRecursion (λ v. (1 ≤ size v) × (size v ≤ 4096)) (vars_of h ps ls)
lengths_fit h ps ls q = of_all (λ v. (1 ≤ size v) × (size v ≤ 4096)) (λ d. IfSome d.length (λ n. (1 ≤ n) × (n ≤ 4096))) h (λ b d. go d.length) ps ls q
  where
    go : (o : Option ℕ) → IfSome o (λ n. (1 ≤ n) × (n ≤ 4096)) → (1 ≤ option_map_or (λ n. n) o 1) × (option_map_or (λ n. n) o 1 ≤ 4096)
    go None e = (omega arith, omega arith)
    go (Some n) e = e

-- ---- all the numbers that are held

sizes_of : (h : Hardware) (b : Bool) (ds : List DeclTree) → sum_by size (map (var_of h b) ds) ≡ sum_by faults.size ds
sizes_of h b [] = refl
sizes_of h b (d ∷ ds) = sum_by-cons size (var_of h b d) (map (var_of h b) ds) ∙ ap (λ n. faults.size d + n) (sizes_of h b ds) ∙ sym (sum_by-cons faults.size d ds)

sizes_same : (h : Hardware) (ps ls : List DeclTree) → sum_by size (vars_of h ps ls) ≡ sum_by faults.size (ps ++ ls)
sizes_same h ps ls = sum_by-append size (map (var_of h true) ps) (map (var_of h false) ls) ∙ (λ i. sizes_of h true ps i + sizes_of h false ls i) ∙ sym (sum_by-append faults.size ps ls)

within_limit : (ds : List DeclTree) (held : ℕ) → limit_faults held ds ≡ [] → held ≤ 65536 → held + sum_by faults.size ds ≤ 65536
within_limit [] held e h = omega arith
within_limit (d ∷ ds) held e h =
    let s : sum_by faults.size (d ∷ ds) ≡ faults.size d + sum_by faults.size ds = sum_by-cons faults.size d ds in
    let m = faults.size d in
    let r : held + m + sum_by faults.size ds ≤ 65536 =
    either (λ fs. fs ≡ [] → held + m + sum_by faults.size ds ≤ 65536) (nat_le (held + m) 65536) (limit_faults (held + m) ds) (fault.Limit d.name.span ∷ [])
    (λ t f. within_limit ds (held + m) f (grind (arith, nat_tests))) (λ t f. absurd (cc)) e in
    omega arith

pub numbers_fit : (h : Hardware) (ps ls : List DeclTree) → limit_faults 0 (ps ++ ls) ≡ [] → sum_by size (vars_of h ps ls) ≤ 65536
numbers_fit h ps ls e = let s = sizes_same h ps ls in let l = within_limit (ps ++ ls) 0 e (omega arith) in omega arith

-- ---- memories

exact_among : (ms : List MemSpec) (p : MemSpec → Bool) → list_any (λ m. same_text m.name exact && p m) ms ≡ true → list_any (λ n. same_text n exact) (memory_names ms) ≡ true
exact_among [] p e = absurd (cc)
exact_among (m ∷ ms) p e = elim (or_cases (same_text m.name exact && p m) (list_any (λ m. same_text m.name exact && p m) ms) e) [
  | inl a ↦ or_left (same_text m.name exact) (list_any (λ n. same_text n exact) (memory_names ms)) (and_parts (same_text m.name exact) (p m) a).0
  | inr b ↦ or_right (same_text m.name exact) (list_any (λ n. same_text n exact) (memory_names ms)) (exact_among ms p b)
]

slot_fits : (ms : List MemSpec) (k : KindTree) → is_none (place_of exact (memory_names ms)) ≡ false → memory_faults ms k ≡ [] → SlotFits (length ms) (slot_of (memory_names ms) k)
slot_fits ms PlainTree x e = let n = number_within exact (memory_names ms) x in let l : length (memory_names ms) ≡ length ms = length-map ms (λ (m : MemSpec). m.name) in omega arith
slot_fits ms (NamedTree i) x e =
    let n = number_within i.text (memory_names ms) (when_off (is_none (place_of i.text (memory_names ms))) (fault.NoMemory i.span) e) in
    let l : length (memory_names ms) ≡ length ms = length-map ms (λ (m : MemSpec). m.name) in
    omega arith
slot_fits ms (FreeTree span) x e = tt

each_listed : (ms : List MemSpec) (ds : List DeclTree) → memories_faults ms ds ≡ [] → AllByRecursion (λ d. memory_faults ms d.memory ≡ []) ds
each_listed ms [] e = tt
each_listed ms (d ∷ ds) e = let (a, b) = both_empty (memory_faults ms d.memory) (memories_faults ms ds) e in (a, each_listed ms ds b)

pub memories_fit : (h : Hardware) (ps ls : List DeclTree) → IsHardware h → memories_faults h.memories (ps ++ ls) ≡ [] → AllByRecursion (λ v. SlotFits (length h.memories) v.memory) (vars_of h ps ls)
memories_fit h ps ls v e =
    let x = place_any exact (memory_names h.memories) (exact_among h.memories (λ m. m.read == S && m.write == S) v.exact) in
    of_all (λ w. SlotFits (length h.memories) w.memory) (λ d. memory_faults h.memories d.memory ≡ []) h (λ b d q. slot_fits h.memories d.memory x q) ps ls (each_listed h.memories (ps ++ ls) e)
