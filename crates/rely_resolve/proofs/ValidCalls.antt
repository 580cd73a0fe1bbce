-- Each call place has the claim in use of an earlier function.
use Rattle.std.specs.Prelude.{is_none, is_some, not, ◌==◌, find, slice_get, unwrap_or, option_and_then, IsTrue}
use Rattle.std.specs.List.{AllByRecursion, list_any}
use Rattle.std.specs.Option.{option_map_or}
use Rattle.std.proofs.Common.{◌≡◌, ℕ, zero, suc, ◌+◌, ◌≤◌, true, false, List, [], ◌∷◌, ◌++◌, map, length, Option, Some, None, refl, sym, ap, subst, ◌∙◌, arith, length-append, append_assoc}
use Rattle.std.proofs.lemmas.Bool.{or_parts, not-false, eqb-true}
use Rattle.std.proofs.lemmas.List.{length-map}
use Rattle.std.proofs.lemmas.Option.{slice_get_within}
use Rattle.rely_num.specs.Bounds.{S}
use Rattle.rely_num.specs.Texts.{Bytes, same_text}
use Rattle.rely_num.specs.declared.span.Span.{Span}
use Rattle.rely_hard.specs.declared.hardware.Hardware.{Hardware}
use Rattle.rely_kernel.specs.Text as text
use Rattle.rely_kernel.specs.Text.{stmt_of, block_of, exprs_of}
use Rattle.rely_kernel.specs.Valid as kernel
use Rattle.rely_kernel.specs.Valid.{IsValid, claim_in_use, CallFits, PlaceFits}
use Rattle.rely_kernel.specs.declared.kernel.CallSite.{CallSite}
use Rattle.rely_kernel.specs.declared.kernel.Claim.{Claim}
use Rattle.rely_kernel.specs.declared.kernel.Kernel.{Kernel}
use Rattle.rely_kernel.proofs.TextLemmas.{text-If, text-While, text-Repeat}
use Rattle.rely_tree.specs.Tree.{IdentTree, ExprTree, StmtTree, SetTree, SetElemTree, IfTree, WhileTree, RepeatTree, ReturnTree, CallTree, Block, ended, also, DeclTree, FuncTree}
use Rattle.rely_tree.specs.Counts.{expr_operators, stmt_operators, block_operators, stmt_calls, block_calls}
use Rattle.rely_resolve.specs.Faults.{when, called_faults, callee_faults, scalar_faults, expr_faults, exprs_faults, stmt_faults, block_faults}
use Rattle.rely_resolve.specs.Kernels.{Done, var_of, exs_of, kind_of, sts_of, called, call_site, stmt_sites_called, block_sites_called, kernel_of, ex_of}
use Rattle.rely_resolve.specs.Linked.{stmt_callees, block_callees}
use Rattle.rely_resolve.specs.Names.{place_of, number_of, names}
use Rattle.rely_resolve.specs.declared.fault.NameFault.TheVariants as fault
use Rattle.rely_resolve.proofs.ValidNames.{both_empty, when_off, of_found, both_hold, each_holds}
use Rattle.rely_resolve.proofs.ValidVars.{params_are}
use Rattle.rely_resolve.proofs.ValidClaims.{in_use}
use Rattle.rely_resolve.proofs.Counted.{stmt_called_len, block_called_len}

-- the function g stands among the reached ones under the name t
pub record Reached (h : Hardware) (done : Done) (t : Bytes) (g : FuncTree) : Type 0 where
  pub number : ℕ
  pub place : place_of t done.names ≡ Some number
  pub before : Done
  pub kernel : slice_get done.kernels number ≡ Some (kernel_of h before g)

-- the function that is called by that name is reached
abbrev pub Known : Hardware → List FuncTree → Done → Bytes → Type 0
Known h earlier done t = (g : FuncTree) → find (λ g. same_text g.name.text t) earlier ≡ Some g → Reached h done t g

pub get_more : {A : Type 0} (xs ys : List A) (i : ℕ) (x : A) → slice_get xs i ≡ Some x → slice_get (xs ++ ys) i ≡ Some x
get_more [] ys i x e = absurd (cc)
get_more (y ∷ xs) ys zero x e = e
get_more (y ∷ xs) ys (suc i) x e = get_more xs ys i x e

pub get_after : {A : Type 0} (xs ys : List A) (x : A) (i : ℕ) → length xs ≡ i → slice_get (xs ++ x ∷ ys) i ≡ Some x
get_after [] ys x zero e = refl
get_after [] ys x (suc i) e = absurd (omega (arith, e))
get_after (y ∷ xs) ys x zero e = absurd (omega (arith, e))
get_after (y ∷ xs) ys x (suc i) e = get_after xs ys x i (omega (arith, e))

-- ---- one call

no_arrays : (h : Hardware) (ds : List DeclTree) → list_any (λ d. is_some d.length) ds ≡ false → AllByRecursion (λ v. IsTrue (is_none v.length)) (map (var_of h true) ds)
no_arrays h [] e = tt
no_arrays h (d ∷ ds) e = let (a, b) = or_parts (is_some d.length) (list_any (λ d. is_some d.length) ds) e in (scalar d.length a, no_arrays h ds b)
  where
    scalar : (o : Option ℕ) → is_some o ≡ false → IsTrue (is_none o)
    scalar None e = refl
    scalar (Some n) e = absurd (cc)

-- a call place whose callee is reached
site_is : (h : Hardware) (done : Done) (word : Span) (callee : IdentTree) (g : FuncTree) (claim : Claim) (r : Reached h done callee.text g) → claim_in_use (kernel_of h r.before g) ≡ Some claim
    → call_site done word callee ≡ called r.number word (Some claim)
site_is h done word callee g claim r e =
    (λ i. called (unwrap_or (r.place i) 0) word (option_and_then claim_in_use (slice_get done.kernels (unwrap_or (r.place i) 0))))
    ∙ (λ i. called r.number word (option_and_then claim_in_use (r.kernel i)))
    ∙ ap (called r.number word) e

one_call : (h : Hardware) (done : Done) (more : List Kernel) (word : Span) (callee : IdentTree) (n : ℕ) (g : FuncTree) → called_faults callee.span n g ≡ [] → Reached h done callee.text g
    → CallFits (done.kernels ++ more) (length done.kernels) (call_site done word callee) n
one_call h done more word callee n g f r =
    let (ab, c) = both_empty (when (not (length g.params == n)) (fault.Arity callee.span) ++ when (list_any (λ d. is_some d.length) g.params) (fault.ArrayParam callee.span))
    (when (not (list_any (λ c. is_none c.target) g.claims)) (fault.NoClaim callee.span)) f in
    let (a, b) = both_empty (when (not (length g.params == n)) (fault.Arity callee.span)) (when (list_any (λ d. is_some d.length) g.params) (fault.ArrayParam callee.span)) ab in
    let (claim, e) = in_use (names g.params) g.claims (not-false (list_any (λ c. is_none c.target) g.claims) (when_off (not (list_any (λ c. is_none c.target) g.claims)) (fault.NoClaim callee.span) c)) in
    let many : length g.params ≡ n = eqb-true (length g.params) n (not-false (length g.params == n) (when_off (not (length g.params == n)) (fault.Arity callee.span) a)) in
    let none = when_off (list_any (λ d. is_some d.length) g.params) (fault.ArrayParam callee.span) b in
    subst (λ (site : CallSite). CallFits (done.kernels ++ more) (length done.kernels) site n) (sym (site_is h done word callee g claim r e)) (record {
      earlier = slice_get_within done.kernels r.number (kernel_of h r.before g) r.kernel;
      k = kernel_of h r.before g;
      callee = get_more done.kernels more r.number (kernel_of h r.before g) r.kernel;
      arity = ap length (params_are h g.params g.locals) ∙ length-map g.params (var_of h true) ∙ many;
      scalars = subst (AllByRecursion (λ v. IsTrue (is_none v.length))) (sym (params_are h g.params g.locals)) (no_arrays h g.params none);
      claim = claim;
      in_use = e;
      bound = refl;
      needs = refl;
    })

-- a call whose callee has no fault
called_fits : (h : Hardware) (earlier : List FuncTree) (done : Done) (more : List Kernel) (word : Span) (callee : IdentTree) (n : ℕ) → callee_faults earlier callee n ≡ [] → Known h earlier done callee.text
    → CallFits (done.kernels ++ more) (length done.kernels) (call_site done word callee) n
called_fits h earlier done more word callee n f r = go (find (λ g. same_text g.name.text callee.text) earlier) f r
  where
    go : (o : Option FuncTree) → option_map_or (called_faults callee.span n) o (fault.NoCallee callee.span ∷ []) ≡ [] → ((g : FuncTree) → o ≡ Some g → Reached h done callee.text g)
        → CallFits (done.kernels ++ more) (length done.kernels) (call_site done word callee) n
    go None e k = absurd (cc)
    go (Some g) e k = one_call h done more word callee n g e (k g refl)

-- ---- the calls of a text

exs_long : (vs : List Bytes) (n : ℕ) (es : List ExprTree) → length (exprs_of (exs_of vs n es)) ≡ length es
exs_long vs n [] = refl
exs_long vs n (e ∷ es) = ap suc (exs_long vs (n + expr_operators e) es)

module _ (h : Hardware) (earlier : List FuncTree) (done : Done) (more : List Kernel) (k : Kernel) (vs : List DeclTree) where
  abbrev Fit : ℕ × ℕ → Type 0
  Fit = PlaceFits (done.kernels ++ more) (length done.kernels) k

  -- the places of a part of the text stand in the list behind those before it
  abbrev Behind : List CallSite → List CallSite → List CallSite → ℕ → Type 0
  Behind first sites last c = (k.calls ≡ first ++ (sites ++ last)) × (length first ≡ c)

  behind_left : (first xs ys last : List CallSite) (c : ℕ) → Behind first (xs ++ ys) last c → Behind first xs (ys ++ last) c
  behind_left first xs ys last c b = (b.0 ∙ ap (λ zs. first ++ zs) (append_assoc xs ys last), b.1)

  behind_right : (first xs ys last : List CallSite) (c d : ℕ) → length xs ≡ d → Behind first (xs ++ ys) last c → Behind (first ++ xs) ys last (c + d)
  behind_right first xs ys last c d l b =
      (b.0 ∙ ap (λ zs. first ++ zs) (append_assoc xs ys last) ∙ sym (append_assoc first xs (ys ++ last)), length-append first xs ∙ (λ i. b.1 i + l i))

  mutual
    stmt_places_fit : (n c : ℕ) (s : StmtTree) (first last : List CallSite) → stmt_faults h earlier vs s ≡ [] → AllByRecursion (Known h earlier done) (stmt_callees s) → Behind first (stmt_sites_called done s) last c
        → AllByRecursion Fit (kernel.stmt_calls (stmt_of (kind_of (names vs) n c s)))
    stmt_places_fit n c (SetTree at i e) first last f r b = tt
    stmt_places_fit n c (SetElemTree at i x e) first last f r b = tt
    stmt_places_fit n c (IfTree at e s t) first last f r b =
        let m = n + expr_operators e in
        let (ab, d) = both_empty (expr_faults h vs e ++ block_faults h earlier vs s) (block_faults h earlier vs t) f in
        let (p, q) = each_holds (Known h earlier done) (block_callees s) (block_callees t) r in
        subst (λ (u : text.Stmt). AllByRecursion Fit (kernel.stmt_calls u)) (sym (text-If (ex_of (names vs) n e) (sts_of (names vs) m c s) (sts_of (names vs) (m + block_operators s) (c + block_calls s) t)))
        (both_hold Fit (kernel.block_calls (block_of (sts_of (names vs) m c s))) (kernel.block_calls (block_of (sts_of (names vs) (m + block_operators s) (c + block_calls s) t)))
        (block_places_fit m c s first (block_sites_called done t ++ last) (both_empty (expr_faults h vs e) (block_faults h earlier vs s) ab).1 p (behind_left first (block_sites_called done s) (block_sites_called done t) last c b))
        (block_places_fit (m + block_operators s) (c + block_calls s) t (first ++ block_sites_called done s) last d q
        (behind_right first (block_sites_called done s) (block_sites_called done t) last c (block_calls s) (block_called_len done s) b)))
    stmt_places_fit n c (WhileTree at e most s) first last f r b =
        subst (λ (u : text.Stmt). AllByRecursion Fit (kernel.stmt_calls u)) (sym (text-While (ex_of (names vs) n e) most (sts_of (names vs) (n + expr_operators e) c s)))
        (block_places_fit (n + expr_operators e) c s first last (both_empty (expr_faults h vs e) (block_faults h earlier vs s) f).1 r b)
    stmt_places_fit n c (RepeatTree at turns s) first last f r b =
        subst (λ (u : text.Stmt). AllByRecursion Fit (kernel.stmt_calls u)) (sym (text-Repeat turns (sts_of (names vs) n c s))) (block_places_fit n c s first last f r b)
    stmt_places_fit n c (ReturnTree at e) first last f r b = tt
    stmt_places_fit n c (CallTree at i word callee es) first last f r b =
        let (ab, d) = both_empty (scalar_faults vs i ++ callee_faults earlier callee (length es)) (exprs_faults h vs es) f in
        let e = (both_empty (scalar_faults vs i) (callee_faults earlier callee (length es)) ab).1 in
        let site = call_site done word callee in
        let is : slice_get k.calls c ≡ Some site = ap (λ (xs : List CallSite). slice_get xs c) b.0 ∙ get_after first last site c b.1 in
        ((site, is, subst (CallFits (done.kernels ++ more) (length done.kernels) site) (sym (exs_long (names vs) n es)) (called_fits h earlier done more word callee (length es) e r.0)), tt)

    pub block_places_fit : (n c : ℕ) (b : Block) (first last : List CallSite) → block_faults h earlier vs b ≡ [] → AllByRecursion (Known h earlier done) (block_callees b) → Behind first (block_sites_called done b) last c
        → AllByRecursion Fit (kernel.block_calls (block_of (sts_of (names vs) n c b)))
    block_places_fit n c ended first last f r b = tt
    block_places_fit n c (also s rest) first last f r b =
        let (a, d) = both_empty (stmt_faults h earlier vs s) (block_faults h earlier vs rest) f in
        let (p, q) = each_holds (Known h earlier done) (stmt_callees s) (block_callees rest) r in
        both_hold Fit (kernel.stmt_calls (stmt_of (kind_of (names vs) n c s))) (kernel.block_calls (block_of (sts_of (names vs) (n + stmt_operators s) (c + stmt_calls s) rest)))
        (stmt_places_fit n c s first (block_sites_called done rest ++ last) a p (behind_left first (stmt_sites_called done s) (block_sites_called done rest) last c b))
        (block_places_fit (n + stmt_operators s) (c + stmt_calls s) rest (first ++ stmt_sites_called done s) last d q
        (behind_right first (stmt_sites_called done s) (block_sites_called done rest) last c (stmt_calls s) (stmt_called_len done s) b))

-- ---- the bounds of the callees

module _ (done : Done) (valid : (i : ℕ) (k : Kernel) → slice_get done.kernels i ≡ Some k → IsValid k) where
  site_bound : (word : Span) (callee : IdentTree) → (call_site done word callee).bound ≤ S
  site_bound word callee = go (slice_get done.kernels (number_of callee.text done.names)) (valid (number_of callee.text done.names))
    where
      claimed : (o : Option Claim) → ((c : Claim) → o ≡ Some c → c.bound ≤ S) → option_map_or (λ c. c.bound) o S ≤ S
      claimed None f = omega arith
      claimed (Some c) f = f c refl

      go : (o : Option Kernel) → ((k : Kernel) → o ≡ Some k → IsValid k) → option_map_or (λ c. c.bound) (option_and_then claim_in_use o) S ≤ S
      go None f = omega arith
      go (Some k) f = claimed (claim_in_use k) (λ c. of_found (λ (c : Claim). c.target == 63) (λ c. c.bound ≤ S) k.claims c (f k refl).bounds)

  mutual
    stmt_bounds : (s : StmtTree) → AllByRecursion (λ site. site.bound ≤ S) (stmt_sites_called done s)
    stmt_bounds (SetTree at i e) = tt
    stmt_bounds (SetElemTree at i x e) = tt
    stmt_bounds (IfTree at e s t) = both_hold (λ site. site.bound ≤ S) (block_sites_called done s) (block_sites_called done t) (block_bounds s) (block_bounds t)
    stmt_bounds (WhileTree at e most s) = block_bounds s
    stmt_bounds (RepeatTree at turns s) = block_bounds s
    stmt_bounds (ReturnTree at e) = tt
    stmt_bounds (CallTree at i word callee es) = (site_bound word callee, tt)

    pub block_bounds : (b : Block) → AllByRecursion (λ site. site.bound ≤ S) (block_sites_called done b)
    block_bounds ended = tt
    block_bounds (also s rest) = both_hold (λ site. site.bound ≤ S) (stmt_sites_called done s) (block_sites_called done rest) (stmt_bounds s) (block_bounds rest)
