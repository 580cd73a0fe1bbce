-- Each path of a claim has one count for each label.
use Rattle.std.proofs.Common.{◌≡◌, ℕ, zero, suc, ◌+◌, Bool, true, false, List, [], ◌∷◌, ◌++◌, map, flat_map, length, slice_get, refl, ◌∙◌, if◌then◌else◌}
use Rattle.std.specs.List.{AllByRecursion}
use Rattle.std.specs.Option.{option_map_or}
use Rattle.std.proofs.lemmas.List.{length-replicate}
use Rattle.std.proofs.lemmas.List.Elements.{All-from_recursion}
use Rattle.rely_num.specs.declared.conj.Conj.{Conj}
use Rattle.rely_num.specs.Sets.{has}
use Rattle.rely_kernel.specs.declared.kernel.Kernel.{Kernel}
use Rattle.rely_kernel.specs.Labels.{labels_of}
use Rattle.rely_kernel.specs.Paths.{skips, forget, use_of, uses_of, turns, rounds, past, paths, all_paths, paths_of, claimed, at_start}
use Rattle.rely_kernel.specs.Text.{Expr, Stmt, Block, done, ◌then◌, block_of}
use Rattle.rely_kernel.proofs.Law.{Long, bump_long}
use Rattle.rely_predicate.specs.Top.{top}
use Rattle.rely_predicate.proofs.Covered.{top_all}
use Rattle.rely_verdict.specs.Judged.{TopIsCounted}

module _ (k : Kernel) where
  -- an expression leaves the list as long
  use_long : (e : Expr) (c : Conj) → length (use_of k e c).counts ≡ length c.counts
  use_long (Expr.Num z) c = refl
  use_long (Expr.Read v) c = bump_long _ c.counts
  use_long (Expr.Elem v i) c = use_long i _ ∙ bump_long _ c.counts
  use_long (Expr.Bin site x y) c = use_long x _ ∙ use_long y _ ∙ bump_long _ c.counts

  -- so does an argument, needed or not
  argument_long : (b : Bool) (e : Expr) (c : Conj) → length ((if b then use_of k e else (λ d. d)) c).counts ≡ length c.counts
  argument_long true e c = use_long e c
  argument_long false e c = refl

  -- and arguments
  uses_long : (needs i : ℕ) (es : List Expr) (c : Conj) → length (uses_of k needs i es c).counts ≡ length c.counts
  uses_long needs i [] c = refl
  uses_long needs i (e ∷ es) c = argument_long (has needs i) e (uses_of k needs (i + 1) es c) ∙ uses_long needs (i + 1) es c

  -- each conjunct has one count for each label
  abbrev AllLong : List Conj → Type 0
  AllLong = AllByRecursion (Long k)

  -- what is made of such a conjunct
  abbrev KeepsLong : (Conj → List Conj) → Type 0
  KeepsLong f = (c : Conj) → Long k c → AllLong (f c)

  append_long : (xs ys : List Conj) → AllLong xs → AllLong ys → AllLong (xs ++ ys)
  append_long [] ys h j = j
  append_long (x ∷ xs) ys h j = (h.0, append_long xs ys h.1 j)

  map_long : (g : Conj → Conj) → ((c : Conj) → Long k c → Long k (g c)) → (xs : List Conj) → AllLong xs → AllLong (map g xs)
  map_long g keeps [] h = tt
  map_long g keeps (x ∷ xs) h = (keeps x h.0, map_long g keeps xs h.1)

  flat_long : (f : Conj → List Conj) → KeepsLong f → (xs : List Conj) → AllLong xs → AllLong (flat_map f xs)
  flat_long f keeps [] h = tt
  flat_long f keeps (x ∷ xs) h = append_long (f x) (flat_map f xs) (keeps x h.0) (flat_long f keeps xs h.1)

  past_long : (f : Conj → List Conj) → KeepsLong f → (skipped : Bool) (c : Conj) → Long k c → AllLong (past skipped f c)
  past_long f keeps true c h = (h, tt)
  past_long f keeps false c h = keeps c h

  turns_long : (f : Conj → List Conj) → KeepsLong f → (n : ℕ) (c : Conj) → Long k c → AllLong (turns n f c)
  turns_long f keeps zero c h = (h, tt)
  turns_long f keeps (suc n) c h = flat_long f keeps (turns n f c) (turns_long f keeps n c h)

  rounds_long : (e : Expr) (f : Conj → List Conj) → KeepsLong f → (n : ℕ) (c : Conj) → Long k c → AllLong (rounds n (use_of k e) f c)
  rounds_long e f keeps zero c h = (h, tt)
  rounds_long e f keeps (suc n) c h =
      map_long (use_of k e) (λ d j. use_long e d ∙ j) (flat_map f (rounds n (use_of k e) f c) ++ c ∷ [])
      (append_long (flat_map f (rounds n (use_of k e) f c)) (c ∷ []) (flat_long f keeps (rounds n (use_of k e) f c) (rounds_long e f keeps n c h)) (h, tt))

  mutual
    paths_long : (s : Stmt) (c : Conj) → Long k c → AllLong (paths k s c)
    paths_long (Stmt.Set v e) c h = (use_long e _ ∙ bump_long _ c.counts ∙ h, tt)
    paths_long (Stmt.SetElem v i e) c h = (use_long i _ ∙ use_long e _ ∙ bump_long _ c.counts ∙ h, tt)
    paths_long (Stmt.If e s t) c h =
        map_long (use_of k e) (λ d j. use_long e d ∙ j) (all_paths k s c ++ all_paths k t c) (append_long (all_paths k s c) (all_paths k t c) (all_long s c h) (all_long t c h))
    paths_long (Stmt.While e n s) c h = rounds_long e (all_paths k s) (λ d j. all_long s d j) n c h
    paths_long (Stmt.Repeat n s) c h = turns_long (all_paths k s) (λ d j. all_long s d j) n c h
    paths_long (Stmt.Result e) c h = (use_long e (forget 63 c) ∙ h, tt)
    paths_long (Stmt.Call v place es) c h =
        (uses_long (option_map_or (λ site. site.needs.bits) (slice_get k.calls place) 0) 0 es _ ∙ bump_long _ _ ∙ bump_long _ c.counts ∙ h, tt)
    paths_long Stmt.Enter c h = (h, tt)

    all_long : (x : Block) (c : Conj) → Long k c → AllLong (all_paths k x c)
    all_long done c h = (h, tt)
    all_long (s then rest) c h =
        flat_long (λ d. past (skips s d) (paths k s) d) (λ d j. past_long (paths k s) (λ q i. paths_long s q i) (skips s d) d j) (all_paths k rest c) (all_long rest c h)

  -- so does each path of a claim
  paths_counted : (target : ℕ) → AllLong (paths_of k target)
  unfolding paths_of
  paths_counted target =
      map_long (at_start k) (λ c h. h) (all_paths k (block_of k.body) (claimed k target)) (all_long (block_of k.body) (claimed k target) (length-replicate (labels_of k) 0))

  -- and each conjunct of their top
  pub top_long : (target : ℕ) → AllLong (top (paths_of k target))
  top_long target = top_all (Long k) (paths_of k target) (paths_counted target)

pub top_is_counted : TopIsCounted
top_is_counted k target = All-from_recursion (λ (c : Conj). length c.counts ≡ labels_of k) (top (paths_of k target)) (top_long k target)
