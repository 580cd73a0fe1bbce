-- The kernels that a unit means are valid, and each calls only earlier ones.
use Rattle.std.specs.Prelude.{find, slice_get, Result, Ok, Err}
use Rattle.std.specs.List.{AllByRecursion}
use Rattle.std.specs.Option.{option_map_or}
use Rattle.std.proofs.Common.{IfOk, ◌≡◌, ℕ, zero, suc, ◌+◌, Bool, true, false, cond, if◌then◌else◌, List, [], ◌∷◌, ◌++◌, take, length, Option, Some, None, refl, sym, ap, subst, ◌∙◌, true≢false, ◌⊎◌, inl, inr, length-append}
use Rattle.std.proofs.lemmas.Bool.{or_cases, or_left, or_right}
use Rattle.std.proofs.lemmas.Option.{same_Some}
use Rattle.std.proofs.lemmas.Slice.Eq.{bytes_eq-Decides}
use Rattle.rely_num.specs.Texts.{Bytes, same_text, is_among}
use Rattle.rely_hard.specs.Valid.{IsHardware}
use Rattle.rely_hard.specs.declared.hardware.Hardware.{Hardware}
use Rattle.rely_kernel.specs.Machine.{functions}
use Rattle.rely_kernel.specs.Setting.{IsOn}
use Rattle.rely_kernel.specs.Text.{block_of}
use Rattle.rely_kernel.specs.Valid as kernel
use Rattle.rely_kernel.specs.Valid.{IsValid, IsLinked, AreLinked, CallFits, PlaceFits}
use Rattle.rely_kernel.specs.declared.kernel.Kernel.{Kernel}
use Rattle.rely_kernel.specs.declared.kernel.Linked.{Linked}
use Rattle.rely_tree.specs.Tree.{FuncTree, UnitTree}
use Rattle.rely_resolve.specs.Faults.{function_faults}
use Rattle.rely_resolve.specs.Kernels.{Done, kernel_of}
use Rattle.rely_tree.specs.Limits.{IsFunction, IsUnit}
use Rattle.rely_resolve.specs.Linked.{block_callees, called_from, is_reached, unless, fault_of, with_function, nothing_done, linked_from, twice_among, linked_at, linked_of}
use Rattle.rely_resolve.specs.Names.{place_of, function_names}
use Rattle.rely_resolve.specs.declared.fault.NameFault.{NameFault}
use Rattle.rely_resolve.specs.declared.fault.NameFault.TheVariants as fault
use Rattle.rely_resolve.proofs.ValidNames.{none_first, place_more, place_last, place_other, both_hold}
use Rattle.rely_resolve.proofs.ValidCalls.{Reached, Known, get_more, get_after}
use Rattle.rely_resolve.proofs.ValidKernel.{kernel_valid, kernel_on, kernel_calls}

-- ---- lists of valid kernels

-- each is valid, calls only earlier ones, and has the hardware's kinds and memories
record Good (h : Hardware) (fs : List Kernel) : Type 0 where
  valid : (i : ℕ) (k : Kernel) → slice_get fs i ≡ Some k → IsValid k
  calls : (i : ℕ) (k : Kernel) → slice_get fs i ≡ Some k → AllByRecursion (PlaceFits fs i k) (kernel.block_calls (block_of k.body))
  on : AllByRecursion (IsOn h) fs

get_last : {A : Type 0} (xs : List A) (x : A) (i : ℕ) (y : A) → slice_get (xs ++ x ∷ []) i ≡ Some y → (slice_get xs i ≡ Some y) ⊎ ((i ≡ length xs) × (x ≡ y))
get_last [] x zero y e = inr (refl, cc)
get_last [] x (suc i) y e = absurd (cc)
get_last (z ∷ xs) x zero y e = inl e
get_last (z ∷ xs) x (suc i) y e = elim (get_last xs x i y e) [
  | inl a ↦ inl a
  | inr b ↦ inr (ap suc b.0, b.1)
]

-- calls of earlier functions stay such calls
calls_stay : (fs more : List Kernel) (i : ℕ) (k : Kernel) (cs : List (ℕ × ℕ)) → AllByRecursion (PlaceFits fs i k) cs → AllByRecursion (PlaceFits (fs ++ more) i k) cs
calls_stay fs more i k [] p = tt
calls_stay fs more i k (c ∷ cs) p =
    let (site, at, call) = p.0 in (
      (
        site,
        at,
        record {
          earlier = call.earlier;
          k = call.k;
          callee = get_more fs more site.callee call.k call.callee;
          arity = call.arity;
          scalars = call.scalars;
          claim = call.claim;
          in_use = call.in_use;
          bound = call.bound;
          needs = call.needs;
        },
      ),
      calls_stay fs more i k cs p.1,
    )

one_more : (h : Hardware) (fs : List Kernel) (k : Kernel) → Good h fs → IsValid k → AllByRecursion (PlaceFits (fs ++ k ∷ []) (length fs) k) (kernel.block_calls (block_of k.body)) → IsOn h k → Good h (fs ++ k ∷ [])
one_more h fs k good v c o = record {
  valid = λ i x e. elim (get_last fs k i x e) [ inl a ↦ good.valid i x a | inr b ↦ subst IsValid b.1 v ];
  calls = λ i x e. elim (get_last fs k i x e) [
    | inl a ↦ calls_stay fs (k ∷ []) i x (kernel.block_calls (block_of x.body)) (good.calls i x a)
    | inr b ↦ subst (λ (y : Kernel). AllByRecursion (PlaceFits (fs ++ k ∷ []) i y) (kernel.block_calls (block_of y.body))) b.1
        (subst (λ (j : ℕ). AllByRecursion (PlaceFits (fs ++ k ∷ []) j k) (kernel.block_calls (block_of k.body))) (sym b.0) c)
  ];
  on = both_hold (IsOn h) fs (k ∷ []) good.on (o, tt);
}

-- ---- searches

abbrev found_or : {A : Type 0} → Option A → Option A → Option A
found_or None o = o
found_or (Some x) o = Some x

find_last : {A : Type 0} (p : A → Bool) (xs : List A) (y : A) → find p (xs ++ y ∷ []) ≡ found_or (find p xs) (cond (p y) (Some y) None)
find_last p [] y = refl
find_last p (x ∷ xs) y = go (p x) (find_last p xs y)
  where
    go : (b : Bool) → find p (xs ++ y ∷ []) ≡ found_or (find p xs) (cond (p y) (Some y) None) → cond b (Some x) (find p (xs ++ y ∷ [])) ≡ found_or (cond b (Some x) (find p xs)) (cond (p y) (Some y) None)
    go true e = refl
    go false e = e

pub same_self : (t : Bytes) → same_text t t ≡ true
same_self t = (bytes_eq-Decides t t).1 refl

pub among_left : (t : Bytes) (xs ys : List Bytes) → is_among t xs ≡ true → is_among t (xs ++ ys) ≡ true
among_left t [] ys e = absurd (cc)
among_left t (x ∷ xs) ys e = elim (or_cases (same_text t x) (is_among t xs) e) [
  | inl a ↦ or_left (same_text t x) (is_among t (xs ++ ys)) a
  | inr b ↦ or_right (same_text t x) (is_among t (xs ++ ys)) (among_left t xs ys b)
]

pub among_right : (t : Bytes) (xs ys : List Bytes) → is_among t ys ≡ true → is_among t (xs ++ ys) ≡ true
among_right t [] ys e = e
among_right t (x ∷ xs) ys e = or_right (same_text t x) (is_among t (xs ++ ys)) (among_right t xs ys e)

of_among : (P : Bytes → Type 0) (ts : List Bytes) → ((t : Bytes) → is_among t ts ≡ true → P t) → AllByRecursion P ts
of_among P [] f = tt
of_among P (t ∷ ts) f = (f t (or_left (same_text t t) (is_among t ts) (same_self t)), of_among P ts (λ u e. f u (or_right (same_text u t) (is_among u ts) e)))

-- ---- function by function

-- the functions before, the reached ones of them, and those that are left before f
record Standing (h : Hardware) (f : FuncTree) (earlier : List FuncTree) (done : Done) (gs : List FuncTree) : Type 0 where
  long : length done.names ≡ length done.kernels
  good : Good h done.kernels
  absent : (t : Bytes) → find (λ g. same_text g.name.text t) earlier ≡ None → place_of t done.names ≡ None
  known : (t : Bytes) → is_among t (called_from f gs) ≡ true → Known h earlier done t

start : (h : Hardware) (f : FuncTree) (gs : List FuncTree) → Standing h f [] nothing_done gs
start h f gs = record {
  long = refl;
  good = record { valid = λ i k e. absurd (cc); calls = λ i k e. absurd (cc); on = tt };
  absent = λ t e. refl;
  known = λ t e g s. absurd (cc);
}

-- a reached function stays where it is
reached_more : (h : Hardware) (done : Done) (x : FuncTree) (t : Bytes) (g : FuncTree) → Reached h done t g → Reached h (with_function h done x) t g
reached_more h done x t g r = record {
  number = r.number;
  place = place_more t done.names (x.name.text ∷ []) r.number r.place;
  before = r.before;
  kernel = get_more done.kernels (kernel_of h done x ∷ []) r.number (kernel_of h r.before g) r.kernel;
}

-- the next function is not reached
pass : (h : Hardware) (f : FuncTree) (earlier : List FuncTree) (done : Done) (g : FuncTree) (gs : List FuncTree) → is_reached f gs g ≡ false → Standing h f earlier done (g ∷ gs) → Standing h f (earlier ++ g ∷ []) done gs
pass h f earlier done g gs not_reached st = record {
  long = st.long;
  good = st.good;
  absent = λ t. absent t (find (λ x. same_text x.name.text t) earlier) (find_last (λ (x : FuncTree). same_text x.name.text t) earlier g) (st.absent t);
  known = λ t e x s. known t e x (find (λ x. same_text x.name.text t) earlier) (sym (find_last (λ (x : FuncTree). same_text x.name.text t) earlier g) ∙ s) (st.known t (among_left t (called_from f gs) _ e) x);
}
  where
    absent : (t : Bytes) (o : Option FuncTree) → find (λ x. same_text x.name.text t) (earlier ++ g ∷ []) ≡ found_or o (cond (same_text g.name.text t) (Some g) None) → (o ≡ None → place_of t done.names ≡ None)
        → find (λ x. same_text x.name.text t) (earlier ++ g ∷ []) ≡ None → place_of t done.names ≡ None
    absent t None e k s = k refl
    absent t (Some x) e k s = absurd (cc)

    known : (t : Bytes) → is_among t (called_from f gs) ≡ true → (x : FuncTree) (o : Option FuncTree) → found_or o (cond (same_text g.name.text t) (Some g) None) ≡ Some x → (o ≡ Some x → Reached h done t x) → Reached h done t x
    known t e x None s k = this (same_text g.name.text t) refl s
      where
        this : (b : Bool) → same_text g.name.text t ≡ b → cond b (Some g) None ≡ Some x → Reached h done t x
        this true q s = absurd (true≢false (sym (subst (λ (u : Bytes). is_among u (called_from f gs) ≡ true) (sym ((bytes_eq-Decides g.name.text t).0 q)) e) ∙ not_reached))
        this false q s = absurd (cc)
    known t e x (Some y) s k = k s

-- the next function is reached and has no fault
take_in : (h : Hardware) (f : FuncTree) (earlier : List FuncTree) (done : Done) (g : FuncTree) (gs : List FuncTree) → IsHardware h → IsFunction g → fault_of h earlier g ≡ None → is_reached f gs g ≡ true
    → Standing h f earlier done (g ∷ gs) → Standing h f (earlier ++ g ∷ []) (with_function h done g) gs
take_in h f earlier done g gs hard is none reached st = record {
  long = length-append done.names (g.name.text ∷ []) ∙ ap (λ n. n + 1) st.long ∙ sym (length-append done.kernels (kernel_of h done g ∷ []));
  good =
      one_more h done.kernels (kernel_of h done g) st.good (kernel_valid h hard earlier done g is faultless st.good.valid)
      (kernel_calls h hard earlier done g is faultless (kernel_of h done g ∷ []) (of_among (Known h earlier done) (block_callees g.body) (λ t e. st.known t (among_here t e))))
      (kernel_on h hard earlier done g is faultless);
  absent = λ t s. absent t (find (λ x. same_text x.name.text t) earlier) (sym (find_last (λ (x : FuncTree). same_text x.name.text t) earlier g) ∙ s) (st.absent t);
  known = λ t e x s. known t x (find (λ x. same_text x.name.text t) earlier) (sym (find_last (λ (x : FuncTree). same_text x.name.text t) earlier g) ∙ s) (st.absent t) (st.known t (among_left t (called_from f gs) _ e) x);
}
  where
    faultless : function_faults h earlier g ≡ []
    faultless = none_first (function_faults h earlier g) none

    among_here : (t : Bytes) → is_among t (block_callees g.body) ≡ true → is_among t (called_from f (g ∷ gs)) ≡ true
    among_here t e = among_right t (called_from f gs) (if is_among g.name.text (called_from f gs) then block_callees g.body else []) (subst (λ (b : Bool). is_among t (if b then block_callees g.body else []) ≡ true) (sym reached) e)

    absent : (t : Bytes) (o : Option FuncTree) → found_or o (cond (same_text g.name.text t) (Some g) None) ≡ None → (o ≡ None → place_of t done.names ≡ None) → place_of t (done.names ++ g.name.text ∷ []) ≡ None
    absent t None s k = this (same_text g.name.text t) refl s
      where
        this : (b : Bool) → same_text g.name.text t ≡ b → cond b (Some g) None ≡ None → place_of t (done.names ++ g.name.text ∷ []) ≡ None
        this true q s = absurd (cc)
        this false q s = place_other t done.names g.name.text (k refl) q
    absent t (Some x) s k = absurd (cc)

    known : (t : Bytes) (x : FuncTree) (o : Option FuncTree) → found_or o (cond (same_text g.name.text t) (Some g) None) ≡ Some x → (o ≡ None → place_of t done.names ≡ None) → (o ≡ Some x → Reached h done t x) → Reached h (with_function h done g) t x
    known t x None s a k = this (same_text g.name.text t) refl s
      where
        this : (b : Bool) → same_text g.name.text t ≡ b → cond b (Some g) None ≡ Some x → Reached h (with_function h done g) t x
        this true q s = subst (Reached h (with_function h done g) t) (same_Some g x s) (record {
          number = length done.names;
          place = place_last t done.names g.name.text (a refl) q;
          before = done;
          kernel = get_after done.kernels [] (kernel_of h done g) (length done.names) (sym st.long);
        })
        this false q s = absurd (cc)
    known t x (Some y) s a k = reached_more h done g t x (k s)

-- ---- the whole

-- what stands behind no refusal
pub unless_ok : (o : Option NameFault) (r : Result Linked NameFault) (l : Linked) → unless o r ≡ Ok l → (o ≡ None) × (r ≡ Ok l)
unless_ok None r l e = (refl, e)
unless_ok (Some f) r l e = absurd (cc)

pub same_Ok : (k l : Linked) → (let r : Result Linked NameFault = Ok k in r) ≡ Ok l → k ≡ l
same_Ok k l e = cc

from_good : (h : Hardware) (hard : IsHardware h) (f : FuncTree) (is : IsFunction f) (gs : List FuncTree) (earlier : List FuncTree) (done : Done) (l : Linked) → AllByRecursion IsFunction gs → Standing h f earlier done gs
    → linked_from h f earlier done gs ≡ Ok l → Good h (functions l)
from_good h hard f is [] earlier done l fs st e =
    let (none, same) = unless_ok (fault_of h earlier f) (Ok (record { kernel = kernel_of h done f; inner = done.kernels })) l e in
    let faultless = none_first (function_faults h earlier f) none in
    subst (λ (m : Linked). Good h (functions m)) (same_Ok (record { kernel = kernel_of h done f; inner = done.kernels }) l same)
    (one_more h done.kernels (kernel_of h done f) st.good (kernel_valid h hard earlier done f is faultless st.good.valid)
    (kernel_calls h hard earlier done f is faultless (kernel_of h done f ∷ []) (of_among (Known h earlier done) (block_callees f.body) st.known))
    (kernel_on h hard earlier done f is faultless))
from_good h hard f is (g ∷ gs) earlier done l fs st e = go (is_reached f gs g) refl e
    (λ d. from_good h hard f is gs (earlier ++ g ∷ []) d l fs.1)
  where
    go : (b : Bool) → is_reached f gs g ≡ b → unless (if b then fault_of h earlier g else None) (linked_from h f (earlier ++ g ∷ []) (if b then with_function h done g else done) gs) ≡ Ok l
        → ((d : Done) → Standing h f (earlier ++ g ∷ []) d gs → linked_from h f (earlier ++ g ∷ []) d gs ≡ Ok l → Good h (functions l)) → Good h (functions l)
    go true q e k =
        let (none, rest) = unless_ok (fault_of h earlier g) (linked_from h f (earlier ++ g ∷ []) (with_function h done g) gs) l e in
        k (with_function h done g) (take_in h f earlier done g gs hard fs.0 none q st) rest
    go false q e k = k done (pass h f earlier done g gs q st) e

pub each_at : {A : Type 0} (P : A → Type 0) (xs : List A) (i : ℕ) (x : A) → AllByRecursion P xs → slice_get xs i ≡ Some x → P x
each_at P [] i x p e = absurd (cc)
each_at P (y ∷ xs) zero x p e = subst P (same_Some y x e) p.0
each_at P (y ∷ xs) (suc i) x p e = each_at P xs i x p.1 e

each_front : {A : Type 0} (P : A → Type 0) (i : ℕ) (xs : List A) → AllByRecursion P xs → AllByRecursion P (take i xs)
each_front P zero xs p = tt
each_front P (suc i) [] p = tt
each_front P (suc i) (x ∷ xs) p = (p.0, each_front P i xs p.1)

at_good : (h : Hardware) (hard : IsHardware h) (fs : List FuncTree) (m : ℕ) (l : Linked) → AllByRecursion IsFunction fs → linked_at h fs m ≡ Ok l → Good h (functions l)
at_good h hard fs m l is e = go (slice_get fs m) (λ f. each_at IsFunction fs m f is) e
  where
    go : (o : Option FuncTree) → ((f : FuncTree) → o ≡ Some f → IsFunction f) → option_map_or (λ f. linked_from h f [] nothing_done (take m fs)) o (Err fault.Function) ≡ Ok l → Good h (functions l)
    go None k e = absurd (cc)
    go (Some f) k e = from_good h hard f (k f refl) (take m fs) [] nothing_done l (each_front IsFunction m fs is) (start h f (take m fs)) e

linked_good : (u : UnitTree) (function : Bytes) (h : Hardware) (l : Linked) → IsHardware h → IsUnit u → linked_of u function h ≡ Ok l → Good h (functions l)
linked_good u function h l hard is e =
    go (place_of function (function_names u.functions)) (unless_ok (twice_among [] u.functions) (option_map_or (linked_at h u.functions) (place_of function (function_names u.functions)) (Err fault.Function)) l e).1
  where
    go : (o : Option ℕ) → option_map_or (linked_at h u.functions) o (Err fault.Function) ≡ Ok l → Good h (functions l)
    go None q = absurd (cc)
    go (Some m) q = at_good h hard u.functions m l is.functions q

-- the kernels that a unit means are valid and call only earlier ones
pub linked_valid : (u : UnitTree) (function : Bytes) (h : Hardware) (l : Linked) → IsHardware h → IsUnit u → linked_of u function h ≡ Ok l → IsLinked l
linked_valid u function h l hard is e = let g = linked_good u function h l hard is e in record { valid = g.valid; calls = g.calls }

-- and their kinds and memories are the hardware's
pub linked_on : (u : UnitTree) (function : Bytes) (h : Hardware) (l : Linked) → IsHardware h → IsUnit u → linked_of u function h ≡ Ok l → AllByRecursion (IsOn h) (functions l)
linked_on u function h l hard is e = (linked_good u function h l hard is e).on

-- ---- what is answered

pub answered_valid : (u : UnitTree) (function : Bytes) (h : Hardware) (r : Result Linked NameFault) → IsHardware h → IsUnit u → IfOk r (λ l. linked_of u function h ≡ Ok l) → IfOk r IsLinked
answered_valid u function h (Ok l) hard is ok = linked_valid u function h l hard is ok
answered_valid u function h (Err e) hard is ok = tt

pub answered_on : (u : UnitTree) (function : Bytes) (h : Hardware) (r : Result Linked NameFault) → IsHardware h → IsUnit u → IfOk r (λ l. linked_of u function h ≡ Ok l) → IfOk r (λ l. AllByRecursion (IsOn h) (functions l))
answered_on u function h (Ok l) hard is ok = linked_on u function h l hard is ok
answered_on u function h (Err e) hard is ok = tt
