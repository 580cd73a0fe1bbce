-- Each path has as many counts as the conjunct that it comes from, and there is one.
use Rattle.std.proofs.Common.{◌≡◌, ℕ, zero, suc, ◌+◌, Bool, true, false, List, [], ◌∷◌, ◌++◌, map, flat_map, length, slice_get, refl, sym, ap, ◌∙◌, inl, inr, arith, if◌then◌else◌}
use Rattle.std.specs.Option.{option_map_or}
use Rattle.std.proofs.lemmas.Nat.Bits.{bit_at-zero}
use Rattle.rely_num.specs.declared.conj.Conj.{Conj}
use Rattle.rely_num.specs.Sets.{has}
use Rattle.rely_kernel.specs.declared.kernel.Kernel.{Kernel}
use Rattle.rely_kernel.specs.Paths.{skips, bump, forget, use_of, uses_of, turns, rounds, past, paths, all_paths}
use Rattle.rely_kernel.specs.Text.{Expr, Stmt, Block, done, ◌then◌}
use Rattle.rely_predicate.proofs.Order.{Below-refl}
use Rattle.rely_predicate.proofs.Tops.{In, in_append, Cover}
use Rattle.rely_predicate.proofs.Laws.{in_map, in_flat}
use Rattle.rely_precond.proofs.Carried.{all_stay, through}

bump_long : (i : ℕ) (ns : List ℕ) → length (bump i ns) ≡ length ns
bump_long i [] = refl
bump_long zero (n ∷ ns) = refl
bump_long (suc i) (n ∷ ns) = ap suc (bump_long i ns)

abbrev Long : Conj → ℕ
Long c = length c.counts

module _ (k : Kernel) where
  pub use_long : (e : Expr) (c : Conj) → Long (use_of k e c) ≡ Long c
  use_long (Expr.Num z) c = refl
  use_long (Expr.Read v) c = bump_long _ c.counts
  use_long (Expr.Elem v i) c = use_long i _ ∙ bump_long _ c.counts
  use_long (Expr.Bin site x y) c = use_long x _ ∙ use_long y _ ∙ bump_long _ c.counts

  argument_long : (b : Bool) (e : Expr) (c : Conj) → Long ((if b then use_of k e else (λ d. d)) c) ≡ Long c
  argument_long true e c = use_long e c
  argument_long false e c = refl

  uses_long : (needs i : ℕ) (es : List Expr) (c : Conj) → Long (uses_of k needs i es c) ≡ Long c
  uses_long needs i [] c = refl
  uses_long needs i (e ∷ es) c = argument_long (has needs i) e (uses_of k needs (i + 1) es c) ∙ uses_long needs (i + 1) es c

  abbrev pub KeepsLong : (Conj → List Conj) → Type 0
  KeepsLong f = (c q : Conj) → In q (f c) → Long q ≡ Long c

  one_long : (a c q : Conj) → Long a ≡ Long c → In q (a ∷ []) → Long q ≡ Long c
  one_long a c q e (inl h) = ap Long (sym h) ∙ e
  one_long a c q e (inr h) = absurd h

  flat_long : (f : Conj → List Conj) → KeepsLong f → (xs : List Conj) (c q : Conj) → ((x : Conj) → In x xs → Long x ≡ Long c) → In q (flat_map f xs) → Long q ≡ Long c
  flat_long f keeps xs c q h m = let r = in_flat f xs q m in keeps r.from q r.to ∙ h r.from r.member

  map_long : (g : Conj → Conj) → ((x : Conj) → Long (g x) ≡ Long x) → (xs : List Conj) (c q : Conj) → ((x : Conj) → In x xs → Long x ≡ Long c) → In q (map g xs) → Long q ≡ Long c
  map_long g keeps xs c q h m = let r = in_map g xs q m in ap Long (sym r.to) ∙ keeps r.from ∙ h r.from r.member

  append_long : (xs ys : List Conj) (c q : Conj) → (In q xs → Long q ≡ Long c) → (In q ys → Long q ≡ Long c) → In q (xs ++ ys) → Long q ≡ Long c
  append_long xs ys c q h j m = elim (in_append xs ys q m) [
    | inl a ↦ h a
    | inr b ↦ j b
  ]

  pub past_long : (f : Conj → List Conj) → KeepsLong f → (t : Bool) (c q : Conj) → In q (past t f c) → Long q ≡ Long c
  past_long f keeps true c q m = one_long c c q refl m
  past_long f keeps false c q m = keeps c q m

  turns_long : (f : Conj → List Conj) → KeepsLong f → (n : ℕ) → KeepsLong (turns n f)
  turns_long f keeps zero c q m = one_long c c q refl m
  turns_long f keeps (suc n) c q m = flat_long f keeps (turns n f c) c q (λ x h. turns_long f keeps n c x h) m

  rounds_long : (g : Conj → Conj) → ((x : Conj) → Long (g x) ≡ Long x) → (f : Conj → List Conj) → KeepsLong f → (n : ℕ) → KeepsLong (rounds n g f)
  rounds_long g same f keeps zero c q m = one_long c c q refl m
  rounds_long g same f keeps (suc n) c q m = map_long g same (flat_map f (rounds n g f c) ++ c ∷ []) c q (λ x h.
      append_long (flat_map f (rounds n g f c)) (c ∷ []) c x (flat_long f keeps (rounds n g f c) c x (λ y j. rounds_long g same f keeps n c y j)) (one_long c c x refl) h) m

  mutual
    pub paths_long : (s : Stmt) → KeepsLong (paths k s)
    paths_long (Stmt.Set v e) c q m = one_long _ c q (use_long e _ ∙ bump_long _ c.counts) m
    paths_long (Stmt.SetElem v i e) c q m = one_long _ c q (use_long i _ ∙ use_long e _ ∙ bump_long _ c.counts) m
    paths_long (Stmt.If e s t) c q m = map_long (use_of k e) (use_long e) (all_paths k s c ++ all_paths k t c) c q (λ x h.
        append_long (all_paths k s c) (all_paths k t c) c x (λ j. all_long s c x j) (λ j. all_long t c x j) h) m
    paths_long (Stmt.While e n s) c q m = rounds_long (use_of k e) (use_long e) (all_paths k s) (all_long s) n c q m
    paths_long (Stmt.Repeat n s) c q m = turns_long (all_paths k s) (all_long s) n c q m
    paths_long (Stmt.Result e) c q m = one_long _ c q (use_long e (forget 63 c)) m
    paths_long (Stmt.Call v place es) c q m =
        one_long _ c q (uses_long (option_map_or (λ site. site.needs.bits) (slice_get k.calls place) 0) 0 es _ ∙ bump_long _ _ ∙ bump_long _ c.counts) m
    paths_long Stmt.Enter c q m = one_long c c q refl m

    pub all_long : (x : Block) → KeepsLong (all_paths k x)
    all_long done c q m = one_long c c q refl m
    all_long (s then rest) c q m = flat_long (through k s) (λ d r n. past_long (paths k s) (paths_long s) (skips s d) d r n) (all_paths k rest c) c q (λ x h. all_long rest c x h) m

  -- there is a path
  pub some_path : (x : Block) (c : Conj) → (q : Conj) × In q (all_paths k x c)
  some_path x c =
      let none : Conj = record { counts = c.counts; vars = record { bits = 0 } } in
      let r : Cover (all_paths k x c) none = all_stay k x none (λ v. let z = bit_at-zero v in omega arith) c
      (record { counts = Below-refl c.counts; vars = λ v. let z = bit_at-zero v in omega arith }) in
      (r.by, r.member)
