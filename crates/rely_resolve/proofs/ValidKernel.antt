-- The kernel that a function without faults means is valid, and its kinds and memories are the hardware's.
use Rattle.std.specs.Prelude.{slice_get}
use Rattle.std.specs.List.{AllByRecursion, range_with_len}
use Rattle.std.proofs.Common.{◌≡◌, ℕ, List, [], ◌++◌, map, length, Some, refl, sym, subst, arith}
use Rattle.std.proofs.lemmas.List.{length-map, append-nil}
use Rattle.rely_hard.specs.Valid.{IsHardware}
use Rattle.rely_hard.specs.declared.hardware.Hardware.{Hardware}
use Rattle.rely_kernel.specs.Setting.{IsOn}
use Rattle.rely_kernel.specs.Text.{block_of}
use Rattle.rely_kernel.specs.Valid as kernel
use Rattle.rely_kernel.specs.Valid.{IsValid, EachOnce, PlaceFits}
use Rattle.rely_kernel.specs.declared.kernel.Kernel.{Kernel}
use Rattle.rely_tree.specs.Tree.{FuncTree, variables}
use Rattle.rely_tree.specs.Counts.{block_operators, block_calls}
use Rattle.rely_resolve.specs.Faults.{twice_faults, memories_faults, limit_faults, claims_faults, block_faults, function_faults}
use Rattle.rely_resolve.specs.Kernels.{Done, claim_of, block_sites_called, kernel_of}
use Rattle.rely_tree.specs.Limits.{IsFunction}
use Rattle.rely_resolve.specs.Linked.{block_callees}
use Rattle.rely_resolve.specs.Names.{names}
use Rattle.rely_resolve.proofs.ValidNames.{both_empty}
use Rattle.rely_resolve.proofs.ValidSites.{each_once, block_numbers, block_places}
use Rattle.rely_resolve.proofs.ValidVars.{params_are, locals_are, vars_long, lengths_fit, numbers_fit, memories_fit}
use Rattle.rely_resolve.proofs.ValidClaims.{claims_fit, bounds_fit}
use Rattle.rely_resolve.proofs.ValidBody.{whole_body_fits}
use Rattle.rely_resolve.proofs.ValidOn.{block_on}
use Rattle.rely_resolve.proofs.Counted.{block_sites_len, block_called_len}
use Rattle.rely_resolve.proofs.ValidCalls.{Known, block_places_fit, block_bounds}

-- what it says that a function has no fault
record IsFine (h : Hardware) (earlier : List FuncTree) (f : FuncTree) : Type 0 where
  memories : memories_faults h.memories (variables f) ≡ []
  limit : limit_faults 0 (variables f) ≡ []
  claims : claims_faults f.params f.claims ≡ []
  body : block_faults h earlier (variables f) f.body ≡ []

fine : (h : Hardware) (earlier : List FuncTree) (f : FuncTree) → function_faults h earlier f ≡ [] → IsFine h earlier f
fine h earlier f e =
    let a = both_empty (twice_faults [] (variables f) ++ memories_faults h.memories (variables f) ++ limit_faults 0 (variables f) ++ claims_faults f.params f.claims) (block_faults h earlier (variables f) f.body) e in
    let b = both_empty (twice_faults [] (variables f) ++ memories_faults h.memories (variables f) ++ limit_faults 0 (variables f)) (claims_faults f.params f.claims) a.0 in
    let c = both_empty (twice_faults [] (variables f) ++ memories_faults h.memories (variables f)) (limit_faults 0 (variables f)) b.0 in
    let d = both_empty (twice_faults [] (variables f)) (memories_faults h.memories (variables f)) c.0 in
    record { memories = d.1; limit = c.1; claims = b.1; body = a.1 }

once : (n : ℕ) (m : ℕ) (is : List ℕ) → is ≡ range_with_len 0 m → n ≡ m → EachOnce n is
once n m is e f = subst (λ (js : List ℕ). EachOnce n js) (sym e) (subst (λ (l : ℕ). EachOnce n (range_with_len 0 l)) f (each_once n))

module _ (h : Hardware) (hard : IsHardware h) (earlier : List FuncTree) (done : Done) (f : FuncTree) (is : IsFunction f) (none : function_faults h earlier f ≡ []) where
  pub kernel_valid : ((i : ℕ) (k : Kernel) → slice_get done.kernels i ≡ Some k → IsValid k) → IsValid (kernel_of h done f)
  kernel_valid valid =
      let x = fine h earlier f none in
      let k = kernel_of h done f in
      let vs = names (variables f) in
      let long : length k.vars ≡ length (variables f) = vars_long h f.params f.locals in
      let many : length k.sites ≡ block_operators f.body = block_sites_len h f.body in
      let some : length k.calls ≡ block_calls f.body = block_called_len done f.body in
      let told : length k.claims ≡ length f.claims = length-map f.claims (claim_of (names f.params)) in
      let a = is.few_vars in
      let b = is.few_operators in
      let c = is.few_calls in
      let d = is.few_claims in
      let e = is.claimed in
      record {
        few_vars = omega (arith, long, a);
        few_sites = omega (arith, many, b);
        few_calls = omega (arith, some, c);
        few_claims = omega (arith, told, d);
        claimed = omega (arith, told, e);
        lengths = lengths_fit h f.params f.locals is.lengths;
        numbers = numbers_fit h f.params f.locals x.limit;
        in_order = (λ i. sym (params_are h f.params f.locals) i ++ sym (locals_are h f.params f.locals) i);
        claims = claims_fit h k f.params f.locals f.claims refl x.claims;
        bounds = bounds_fit (names f.params) f.claims is.bounds;
        call_bounds = block_bounds done valid f.body;
        body = whole_body_fits h earlier f.params f.locals k refl f.body x.body is.body (omega (arith, many)) (omega (arith, some));
        sites = once (length k.sites) (block_operators f.body) (kernel.block_sites (block_of k.body)) (block_numbers vs 0 0 f.body) many;
        calls = once (length k.calls) (block_calls f.body) (map (λ c. c.0) (kernel.block_calls (block_of k.body))) (block_places vs 0 0 f.body) some;
      }

  pub kernel_on : IsOn h (kernel_of h done f)
  kernel_on =
      let x = fine h earlier f none in
      record {
        sites = block_on h hard earlier (variables f) f.body x.body;
        memories = memories_fit h f.params f.locals hard x.memories;
      }

  pub kernel_calls : (more : List Kernel) → AllByRecursion (Known h earlier done) (block_callees f.body)
      → AllByRecursion (PlaceFits (done.kernels ++ more) (length done.kernels) (kernel_of h done f)) (kernel.block_calls (block_of (kernel_of h done f).body))
  kernel_calls more known =
      let x = fine h earlier f none in
      block_places_fit h earlier done more (kernel_of h done f) (variables f) 0 0 f.body [] [] x.body known (sym (append-nil (block_sites_called done f.body)), refl)
