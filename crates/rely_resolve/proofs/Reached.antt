-- The functions that are marked as reached are those that a reached function behind them calls.
use Rattle.std.specs.Prelude.{slice_get, Result, Ok, Err}
use Rattle.std.specs.List.{position_from}
use Rattle.std.specs.Option.{option_map_or}
use Rattle.std.proofs.Common.{◌≡◌, ℕ, zero, suc, ◌+◌, ◌≤◌, ◌<◌, Bool, true, false, cond, if◌then◌else◌, List, [], ◌∷◌, ◌++◌, take, drop, length, Option, Some, None, IfOk, refl, sym, ap, subst, ◌∙◌, ◌⊎◌, inl, inr, arith}
use Rattle.std.proofs.lemmas.Bool.{or_cases, true≢false}
use Rattle.std.proofs.lemmas.List.Folds.{list_any-append}
use Rattle.std.proofs.lemmas.Option.{same_Some}
use Rattle.std.proofs.lemmas.Slice.Eq.{bytes_eq-Decides}
use Rattle.rely_num.specs.Texts.{Bytes, same_text, is_among}
use Rattle.rely_hard.specs.declared.hardware.Hardware.{Hardware}
use Rattle.rely_kernel.specs.Setting.{marks_of}
use Rattle.rely_kernel.specs.declared.kernel.Linked.{Linked}
use Rattle.rely_tree.specs.Tree.{FuncTree, UnitTree}
use Rattle.rely_resolve.specs.Kernels.{Done, kernel_of}
use Rattle.rely_resolve.specs.Linked.{block_callees, called_from, is_reached, fault_of, unless, nothing_done, with_function, linked_from, linked_at, linked_of, twice_among}
use Rattle.rely_resolve.specs.Marked.{AreMarkedAs, AreOpenWhereMarked}
use Rattle.rely_resolve.specs.Names.{place_of, function_names}
use Rattle.rely_resolve.specs.Reached.{Calls, IsReached, by_main, by_reached, Those, ended, kept, passed, done_with, IsLinkedBy}
use Rattle.rely_resolve.specs.declared.fault.NameFault.{NameFault}
use Rattle.rely_resolve.specs.declared.fault.NameFault.TheVariants as fault
use Rattle.rely_resolve.proofs.Marked.{kernel_marked, marked_text}
use Rattle.rely_resolve.proofs.Places.{place_from}
use Rattle.rely_resolve.proofs.ValidLinked.{among_left, among_right, same_Ok, unless_ok}

-- ---- places of functions

-- a reached function stands before the main one
before_main : (fs : List FuncTree) (m i : ℕ) → IsReached fs m i → i < m
before_main fs m i (by_main c) = c.behind
before_main fs m i (by_reached r c) = let o = before_main fs m _ r in omega (arith, o, c.behind)

-- one function more stands in front
calls_on : (g : FuncTree) (fs : List FuncTree) (i j : ℕ) → Calls fs i j → Calls (g ∷ fs) (suc i) (suc j)
calls_on g fs i j c = record { behind = omega (arith, c.behind); caller = c.caller; callee = c.callee; at_caller = c.at_caller; at_callee = c.at_callee; called = c.called }

reached_on : (g : FuncTree) (fs : List FuncTree) (m i : ℕ) → IsReached fs m i → IsReached (g ∷ fs) (suc m) (suc i)
reached_on g fs m i (by_main c) = by_main (calls_on g fs m i c)
reached_on g fs m i (by_reached {from = from} r c) = by_reached (reached_on g fs m from r) (calls_on g fs from i c)

-- and is taken off
calls_off : (g : FuncTree) (fs : List FuncTree) (i j : ℕ) → Calls (g ∷ fs) (suc i) (suc j) → Calls fs i j
calls_off g fs i j c = record { behind = omega (arith, c.behind); caller = c.caller; callee = c.callee; at_caller = c.at_caller; at_callee = c.at_callee; called = c.called }

reached_off : (g : FuncTree) (fs : List FuncTree) (m i j : ℕ) → j ≡ suc i → IsReached (g ∷ fs) (suc m) j → IsReached fs m i
reached_off g fs m i j e (by_main c) = by_main (calls_off g fs m i (subst (Calls (g ∷ fs) (suc m)) e c))
reached_off g fs m i j e (by_reached {from = zero} r c) = absurd (omega (arith, c.behind))
reached_off g fs m i j e (by_reached {from = suc from} r c) = by_reached (reached_off g fs m from (suc from) refl r) (calls_off g fs from i (subst (Calls (g ∷ fs) (suc from)) e c))

get_main : (gs rest : List FuncTree) (f : FuncTree) → slice_get (gs ++ f ∷ rest) (length gs) ≡ Some f
get_main [] rest f = refl
get_main (g ∷ gs) rest f = get_main gs rest f

-- ---- names that are called

among_cases : (t : Bytes) (xs ys : List Bytes) → is_among t (xs ++ ys) ≡ true → (is_among t xs ≡ true) ⊎ (is_among t ys ≡ true)
among_cases t xs ys e = or_cases (is_among t xs) (is_among t ys) (sym (list_any-append (same_text t) xs ys) ∙ e)

-- what the main function calls is called
called_by_main : (f : FuncTree) (gs : List FuncTree) (t : Bytes) → is_among t (block_callees f.body) ≡ true → is_among t (called_from f gs) ≡ true
called_by_main f [] t e = e
called_by_main f (g ∷ gs) t e = among_left t (called_from f gs) _ (called_by_main f gs t e)

-- the one at a place is marked as reached
abbrev is_marked : FuncTree → List FuncTree → ℕ → Bool
is_marked f [] i = false
is_marked f (g ∷ gs) zero = is_reached f gs g
is_marked f (g ∷ gs) (suc i) = is_marked f gs i

-- what such a one calls is called
called_by_marked : (f : FuncTree) (gs rest : List FuncTree) (i : ℕ) (x : FuncTree) (t : Bytes) → is_marked f gs i ≡ true → slice_get (gs ++ f ∷ rest) i ≡ Some x → is_among t (block_callees x.body) ≡ true
    → is_among t (called_from f gs) ≡ true
called_by_marked f [] rest i x t m at e = absurd (true≢false (sym m))
called_by_marked f (g ∷ gs) rest zero x t m at e =
    among_right t (called_from f gs) (if is_reached f gs g then block_callees g.body else [])
    (subst (λ (b : Bool). is_among t (if b then block_callees g.body else []) ≡ true) (sym m)
    (subst (λ (y : FuncTree). is_among t (block_callees y.body) ≡ true) (sym (same_Some g x at)) e))
called_by_marked f (g ∷ gs) rest (suc i) x t m at e = among_left t (called_from f gs) _ (called_by_marked f gs rest i x t m at e)

-- ---- reached functions are marked

reached_marked : (f : FuncTree) (gs rest : List FuncTree) (i : ℕ) → IsReached (gs ++ f ∷ rest) (length gs) i → is_marked f gs i ≡ true
reached_marked f [] rest i r = absurd (let o = before_main (f ∷ rest) 0 i r in omega (arith, o))
reached_marked f (g ∷ gs) rest (suc i) r = reached_marked f gs rest i (reached_off g (gs ++ f ∷ rest) (length gs) i (suc i) refl r)
reached_marked f (g ∷ gs) rest zero (by_main c) =
    let main : f ≡ c.caller = same_Some f c.caller (sym (get_main gs rest f) ∙ c.at_caller) in
    let this : g ≡ c.callee = same_Some g c.callee c.at_callee in
    called_by_main f gs g.name.text
    (subst (λ (x : FuncTree). is_among g.name.text (block_callees x.body) ≡ true) (sym main)
    (subst (λ (y : FuncTree). is_among y.name.text (block_callees c.caller.body) ≡ true) (sym this) c.called))
reached_marked f (g ∷ gs) rest zero (by_reached {from = zero} r c) = absurd (omega (arith, c.behind))
reached_marked f (g ∷ gs) rest zero (by_reached {from = suc from} r c) =
    let this : g ≡ c.callee = same_Some g c.callee c.at_callee in
    called_by_marked f gs rest from c.caller g.name.text (reached_marked f gs rest from (reached_off g (gs ++ f ∷ rest) (length gs) from (suc from) refl r)) c.at_caller
    (subst (λ (y : FuncTree). is_among y.name.text (block_callees c.caller.body) ≡ true) (sym this) c.called)

-- ---- marked functions are reached

-- the main function or a reached one calls the name
record Caller (fs : List FuncTree) (m : ℕ) (t : Bytes) : Type 0 where
  place : ℕ
  function : FuncTree
  is : (place ≡ m) ⊎ IsReached fs m place
  stands : slice_get fs place ≡ Some function
  calls : is_among t (block_callees function.body) ≡ true

caller_on : (g : FuncTree) (fs : List FuncTree) (m : ℕ) (t : Bytes) → Caller fs m t → Caller (g ∷ fs) (suc m) t
caller_on g fs m t c = record {
  place = suc c.place;
  function = c.function;
  is = elim c.is [ inl e ↦ inl (ap suc e) | inr r ↦ inr (reached_on g fs m c.place r) ];
  stands = c.stands;
  calls = c.calls;
}

by_caller : (g : FuncTree) (fs : List FuncTree) (m : ℕ) → Caller fs m g.name.text → IsReached (g ∷ fs) (suc m) 0
by_caller g fs m c =
    let call : Calls (g ∷ fs) (suc c.place) 0 = record { behind = omega arith; caller = c.function; callee = g; at_caller = c.stands; at_callee = refl; called = c.calls } in
    elim c.is [
      | inl e ↦ by_main (subst (λ (n : ℕ). Calls (g ∷ fs) (suc n) 0) e call)
      | inr r ↦ by_reached (reached_on g fs m c.place r) call
    ]

caller_of : (f : FuncTree) (gs rest : List FuncTree) (t : Bytes) → is_among t (called_from f gs) ≡ true → Caller (gs ++ f ∷ rest) (length gs) t
caller_of f [] rest t e = record { place = 0; function = f; is = inl refl; stands = refl; calls = e }
caller_of f (g ∷ gs) rest t e = elim (among_cases t (called_from f gs) (if is_reached f gs g then block_callees g.body else []) e) [
  | inl a ↦ caller_on g (gs ++ f ∷ rest) (length gs) t (caller_of f gs rest t a)
  | inr b ↦ go (is_reached f gs g) refl b (caller_of f gs rest g.name.text)
]
  where
    go : (b : Bool) → is_reached f gs g ≡ b → is_among t (if b then block_callees g.body else []) ≡ true
        → (is_reached f gs g ≡ true → Caller (gs ++ f ∷ rest) (length gs) g.name.text) → Caller (g ∷ gs ++ f ∷ rest) (suc (length gs)) t
    go true q a k = record { place = 0; function = g; is = inr (by_caller g (gs ++ f ∷ rest) (length gs) (k q)); stands = refl; calls = a }
    go false q a k = absurd (true≢false (sym a))

marked_reached : (f : FuncTree) (gs rest : List FuncTree) (i : ℕ) → is_marked f gs i ≡ true → IsReached (gs ++ f ∷ rest) (length gs) i
marked_reached f [] rest i e = absurd (true≢false (sym e))
marked_reached f (g ∷ gs) rest zero e = by_caller g (gs ++ f ∷ rest) (length gs) (caller_of f gs rest g.name.text e)
marked_reached f (g ∷ gs) rest (suc i) e = reached_on g (gs ++ f ∷ rest) (length gs) i (marked_reached f gs rest i e)

-- ---- the reached ones in order

abbrev reached_of : FuncTree → List FuncTree → List FuncTree
reached_of f [] = []
reached_of f (g ∷ gs) = if is_reached f gs g then g ∷ reached_of f gs else reached_of f gs

none_of : (P : ℕ → Type 0) (n : ℕ) (fs : List FuncTree) → ((i : ℕ) → P (n + i) → ⊥) → Those P n fs []
none_of P n [] h = ended
none_of P n (f ∷ fs) h =
    passed (λ p. h 0 (subst P (omega arith) p)) (none_of P (suc n) fs (λ i p. h (suc i) (subst P (omega arith) p)))

those_of : (P : ℕ → Type 0) (n : ℕ) (f : FuncTree) (gs rest : List FuncTree) → ((i : ℕ) → P (n + i) → is_marked f gs i ≡ true) → ((i : ℕ) → is_marked f gs i ≡ true → P (n + i))
    → Those P n (gs ++ rest) (reached_of f gs)
those_of P n f [] rest sound whole = none_of P n rest (λ i p. true≢false (sym (sound i p)))
those_of P n f (g ∷ gs) rest sound whole =
    go (is_reached f gs g) refl (those_of P (suc n) f gs rest (λ i p. sound (suc i) (subst P (omega arith) p)) (λ i e. subst P (omega arith) (whole (suc i) e)))
  where
    go : (b : Bool) → is_reached f gs g ≡ b → Those P (suc n) (gs ++ rest) (reached_of f gs) → Those P n (g ∷ gs ++ rest) (if b then g ∷ reached_of f gs else reached_of f gs)
    go true q t = kept (subst P (omega arith) (whole 0 q)) t
    go false q t = passed (λ p. true≢false (sym (sound 0 (subst P (omega arith) p)) ∙ q)) t

-- ---- what is linked

from_reached : (h : Hardware) (f : FuncTree) (gs earlier : List FuncTree) (done : Done) (l : Linked) → linked_from h f earlier done gs ≡ Ok l
    → l ≡ record { kernel = kernel_of h (done_with h done (reached_of f gs)) f; inner = (done_with h done (reached_of f gs)).kernels }
from_reached h f [] earlier done l e =
    sym (same_Ok (record { kernel = kernel_of h done f; inner = done.kernels }) l (unless_ok (fault_of h earlier f) (Ok (record { kernel = kernel_of h done f; inner = done.kernels })) l e).1)
from_reached h f (g ∷ gs) earlier done l e = go (is_reached f gs g) e (λ d. from_reached h f gs (earlier ++ g ∷ []) d l)
  where
    go : (b : Bool) → unless (if b then fault_of h earlier g else None) (linked_from h f (earlier ++ g ∷ []) (if b then with_function h done g else done) gs) ≡ Ok l
        → ((d : Done) → linked_from h f (earlier ++ g ∷ []) d gs ≡ Ok l → l ≡ record { kernel = kernel_of h (done_with h d (reached_of f gs)) f; inner = (done_with h d (reached_of f gs)).kernels })
        → l ≡ record {
          kernel = kernel_of h (done_with h done (if b then g ∷ reached_of f gs else reached_of f gs)) f;
          inner = (done_with h done (if b then g ∷ reached_of f gs else reached_of f gs)).kernels;
        }
    go true e k = k (with_function h done g) (unless_ok (fault_of h earlier g) (linked_from h f (earlier ++ g ∷ []) (with_function h done g) gs) l e).1
    go false e k = k done e

-- ---- the function of a name

from_least : (t : Bytes) (ns : List Bytes) (i v : ℕ) → position_from (λ n. same_text n t) i ns ≡ Some v → i ≤ v
from_least t [] i v e = absurd (cc)
from_least t (n ∷ ns) i v e = go (same_text n t) e (from_least t ns (i + 1) v)
  where
    go : (b : Bool) → cond b (Some i) (position_from (λ n. same_text n t) (i + 1) ns) ≡ Some v → (position_from (λ n. same_text n t) (i + 1) ns ≡ Some v → i + 1 ≤ v) → i ≤ v
    go true q k = let s : i ≡ v = cc in omega (arith, s)
    go false q k = let o = k q in omega (arith, o)

from_found : (t : Bytes) (fs : List FuncTree) (i k : ℕ) (f : FuncTree) → position_from (λ n. same_text n t) i (function_names fs) ≡ Some (i + k) → slice_get fs k ≡ Some f → same_text f.name.text t ≡ true
from_found t [] i k f e at = absurd (cc)
from_found t (g ∷ fs) i zero f e at = go (same_text g.name.text t) refl e
  where
    go : (b : Bool) → same_text g.name.text t ≡ b → cond b (Some i) (position_from (λ n. same_text n t) (i + 1) (function_names fs)) ≡ Some (i + 0) → same_text f.name.text t ≡ true
    go true q e = subst (λ (x : FuncTree). same_text x.name.text t ≡ true) (same_Some g f at) q
    go false q e = absurd (let o = from_least t (function_names fs) (i + 1) (i + 0) e in omega (arith, o))
from_found t (g ∷ fs) i (suc k) f e at = go (same_text g.name.text t) e (λ q. from_found t fs (i + 1) k f q at)
  where
    go : (b : Bool) → cond b (Some i) (position_from (λ n. same_text n t) (i + 1) (function_names fs)) ≡ Some (i + suc k)
        → (position_from (λ n. same_text n t) (i + 1) (function_names fs) ≡ Some (i + 1 + k) → same_text f.name.text t ≡ true) → same_text f.name.text t ≡ true
    go true e q = absurd (let s : i ≡ i + suc k = cc in omega (arith, s))
    go false e q = q (e ∙ (let s : i + suc k ≡ i + 1 + k = omega arith in ap (λ n. Some n) s))

named_at : (t : Bytes) (fs : List FuncTree) (m : ℕ) (f : FuncTree) → place_of t (function_names fs) ≡ Some m → slice_get fs m ≡ Some f → f.name.text ≡ t
named_at t fs m f e at = (bytes_eq-Decides f.name.text t).0 (from_found t fs 0 m f (sym (place_from t (function_names fs)) ∙ e ∙ (let s : m ≡ 0 + m = omega arith in ap (λ n. Some n) s)) at)

-- ---- the whole

-- a list up to a place, and from it on
split_at : (fs : List FuncTree) (m : ℕ) (f : FuncTree) → slice_get fs m ≡ Some f → fs ≡ take m fs ++ f ∷ drop (suc m) fs
split_at [] m f e = absurd (cc)
split_at (g ∷ fs) zero f e = ap (λ x. x ∷ fs) (same_Some g f e)
split_at (g ∷ fs) (suc m) f e = ap (λ l. g ∷ l) (split_at fs m f e)

long_front : (fs : List FuncTree) (m : ℕ) (f : FuncTree) → slice_get fs m ≡ Some f → length (take m fs) ≡ m
long_front [] m f e = absurd (cc)
long_front (g ∷ fs) zero f e = refl
long_front (g ∷ fs) (suc m) f e = ap suc (long_front fs m f e)

reached_in : (fs : List FuncTree) (m : ℕ) (f : FuncTree) → slice_get fs m ≡ Some f → Those (IsReached fs m) 0 fs (reached_of f (take m fs))
reached_in fs m f e =
    let gs = take m fs in
    let rest = drop (suc m) fs in
    let all : Those (IsReached (gs ++ f ∷ rest) (length gs)) 0 (gs ++ f ∷ rest) (reached_of f gs) =
    those_of (IsReached (gs ++ f ∷ rest) (length gs)) 0 f gs (f ∷ rest)
    (λ i r. reached_marked f gs rest i (subst (IsReached (gs ++ f ∷ rest) (length gs)) (let s : 0 + i ≡ i = omega arith in s) r))
    (λ i e. subst (IsReached (gs ++ f ∷ rest) (length gs)) (let s : i ≡ 0 + i = omega arith in s) (marked_reached f gs rest i e)) in
    subst (λ (n : ℕ). Those (IsReached fs n) 0 fs (reached_of f gs)) (long_front fs m f e)
    (subst (λ (l : List FuncTree). Those (IsReached l (length gs)) 0 l (reached_of f gs)) (sym (split_at fs m f e)) all)

pub is_linked : (u : UnitTree) (name : Bytes) (h : Hardware) (l : Linked) → linked_of u name h ≡ Ok l → IsLinkedBy h u name l
is_linked u name h l e =
    by_place (place_of name (function_names u.functions)) refl (unless_ok (twice_among [] u.functions) (option_map_or (linked_at h u.functions) (place_of name (function_names u.functions)) (Err fault.Function)) l e).1
  where
    by_function : (m : ℕ) → place_of name (function_names u.functions) ≡ Some m → (o : Option FuncTree) → slice_get u.functions m ≡ o
        → option_map_or (λ f. linked_from h f [] nothing_done (take m u.functions)) o (Err fault.Function) ≡ Ok l → IsLinkedBy h u name l
    by_function m p None at q = absurd (cc)
    by_function m p (Some f) at q = record {
      place = m;
      function = f;
      stands = at;
      named = named_at name u.functions m f p at;
      reached = reached_of f (take m u.functions);
      in_order = reached_in u.functions m f at;
      linked = from_reached h f (take m u.functions) [] nothing_done l q;
    }

    by_place : (o : Option ℕ) → place_of name (function_names u.functions) ≡ o → option_map_or (linked_at h u.functions) o (Err fault.Function) ≡ Ok l → IsLinkedBy h u name l
    by_place None p q = absurd (cc)
    by_place (Some m) p q = by_function m p (slice_get u.functions m) refl q

-- ---- what is answered

pub linked_if : (u : UnitTree) (name : Bytes) (h : Hardware) (r : Result Linked NameFault) → IfOk r (λ l. linked_of u name h ≡ Ok l) → IfOk r (IsLinkedBy h u name)
linked_if u name h (Ok l) ok = is_linked u name h l ok
linked_if u name h (Err e) ok = tt

marked_as : (h : Hardware) (u : UnitTree) (name : Bytes) (l : Linked) → IsLinkedBy h u name l → AreMarkedAs u name (marks_of l.kernel)
marked_as h u name l is = record {
  place = is.place;
  function = is.function;
  stands = is.stands;
  named = is.named;
  same = ap (λ (x : Linked). marks_of x.kernel) is.linked ∙ kernel_marked h (done_with h nothing_done is.reached) is.function;
}

pub marked_if : (u : UnitTree) (name : Bytes) (h : Hardware) (r : Result Linked NameFault) → IfOk r (λ l. linked_of u name h ≡ Ok l) → IfOk r (λ l. AreMarkedAs u name (marks_of l.kernel))
marked_if u name h (Ok l) ok = marked_as h u name l (is_linked u name h l ok)
marked_if u name h (Err e) ok = tt

pub open_if : (u : UnitTree) (name : Bytes) (h : Hardware) (r : Result Linked NameFault) → IfOk r (λ l. linked_of u name h ≡ Ok l) → IfOk r (λ l. AreOpenWhereMarked u (marks_of l.kernel))
open_if u name h (Ok l) ok = λ text all. marked_text u name text (marks_of l.kernel) (marked_as h u name l (is_linked u name h l ok)) all
open_if u name h (Err e) ok = tt
