-- Kernels that are the same, spans aside, have the same paths.
use Rattle.std.proofs.Common.{◌≡◌, ℕ, zero, suc, ◌+◌, ◌-◌, ◌*◌, ◌^◌, Bool, true, false, cond, List, [], ◌∷◌, ◌++◌, map, filter, flat_map, length, replicate, refl, ap, sym, ◌∙◌, if◌then◌else◌}
use Rattle.std.specs.Prelude.{slice_get, bit_and}
use Rattle.std.specs.Option.{option_map_or}
use Rattle.std.proofs.lemmas.List.{length-map}
use Rattle.rely_num.specs.Sets.{has, only}
use Rattle.rely_num.specs.declared.conj.Conj.{Conj}
use Rattle.rely_kernel.specs.Labels.{labels_of, number}
use Rattle.rely_kernel.specs.Paths.{all_paths, at_start, bump, claimed, count, forget, name, past, paths, paths_of, rounds, skips, turns, use_of, uses_of}
use Rattle.rely_kernel.specs.Text.{Block, Expr, Stmt, block_of, done, ◌then◌}
use Rattle.rely_kernel.specs.declared.kernel.CallSite.{CallSite}
use Rattle.rely_kernel.specs.declared.kernel.Kernel.{Kernel}
use Rattle.rely_kernel.specs.declared.kernel.Site.{Site}
use Rattle.rely_kernel.specs.declared.kernel.Slot.{Slot}
use Rattle.rely_kernel.specs.declared.kernel.Var.{Var}
use Rattle.rely_kernel.specs.declared.label.Label.{Label}
use Rattle.rely_kernel.specs.declared.label.Label.TheVariants as label
use Rattle.chisel_rewrite.specs.Alike.{IsWith, Shape, anywhere, shape_of}

-- as many as are mapped to
same_length : {X Y Z : Type 0} (f : X → Z) (g : Y → Z) (xs : List X) (ys : List Y) → map f xs ≡ map g ys → length xs ≡ length ys
same_length f g xs ys e = sym (length-map xs f) ∙ (ap (λ l. length l) e ∙ length-map ys g)

-- at each place what is mapped to
mapped_at : {X Y : Type 0} (f : X → Y) (xs : List X) (i : ℕ) (B : Type 0) (g : Y → B) (b : B) → option_map_or (λ x. g (f x)) (slice_get xs i) b ≡ option_map_or g (slice_get (map f xs) i) b
mapped_at f [] i B g b = refl
mapped_at f (x ∷ xs) zero B g b = refl
mapped_at f (x ∷ xs) (suc i) B g b = mapped_at f xs i B g b

pub same_at : {X Y B : Type 0} (f : X → Y) (g : Y → B) (xs ys : List X) (i : ℕ) (b : B) → map f xs ≡ map f ys → option_map_or (λ x. g (f x)) (slice_get xs i) b ≡ option_map_or (λ x. g (f x)) (slice_get ys i) b
same_at {B = B} f g xs ys i b e = mapped_at f xs i B g b ∙ (ap (λ zs. option_map_or g (slice_get zs i) b) e ∙ sym (mapped_at f ys i B g b))

-- what arguments make of a conjunct, for these needs, the first of them at this number
abbrev arguments : Kernel → List Expr → ℕ → ℕ → Conj → Conj
arguments k es needs i c = uses_of k needs i es c

module _ (kinds memories : List Slot) (k other : Kernel) (is : IsWith kinds memories k other) where
  pub sites_long : length other.sites ≡ length k.sites
  sites_long = same_length (λ (s : Site). s.op) (λ (s : Site). s.op) other.sites k.sites is.ops

  pub vars_long : length other.vars ≡ length k.vars
  vars_long = same_length shape_of shape_of other.vars k.vars is.shapes

  pub calls_long : length other.calls ≡ length k.calls
  calls_long = same_length anywhere anywhere other.calls k.calls is.calls

  -- ---- labels

  number_same : (l : Label) → number other l ≡ number k l
  number_same (label.Op site) = refl
  number_same (label.Read v) = ap (λ n. n + 2 * v) sites_long
  number_same (label.Write v) = ap (λ n. n + 2 * v + 1) sites_long
  number_same (label.Call place) = ap (λ n. n + 2 * length other.vars + place) sites_long ∙ ap (λ n. length k.sites + 2 * n + place) vars_long

  pub labels_same : labels_of other ≡ labels_of k
  labels_same =
      ap (λ n. n + 2 * length other.vars + length other.calls) sites_long
      ∙ (ap (λ n. length k.sites + 2 * n + length other.calls) vars_long ∙ ap (λ n. length k.sites + 2 * length k.vars + n) calls_long)

  needs_same : (place : ℕ) → option_map_or (λ site. site.needs.bits) (slice_get other.calls place) 0 ≡ option_map_or (λ site. site.needs.bits) (slice_get k.calls place) 0
  needs_same place = same_at anywhere (λ (c : CallSite). c.needs.bits) other.calls k.calls place 0 is.calls

  -- ---- how a conjunct grows

  count_same : (l : Label) → count other l ≡ count k l
  count_same l = λ j. λ c. record c { counts = bump (number_same l j) c.counts }

  pub use_same : (e : Expr) → use_of other e ≡ use_of k e
  use_same (Expr.Num z) = λ j. λ c. c
  use_same (Expr.Read v) = λ j. λ c. count_same (label.Read v) j (name v c)
  use_same (Expr.Elem a i) = λ j. λ c. use_same i j (count_same (label.Read a) j (name a c))
  use_same (Expr.Bin site x y) = λ j. λ c. use_same x j (use_same y j (count_same (label.Op site) j c))

  uses_same : (es : List Expr) → arguments other es ≡ arguments k es
  uses_same [] = λ j. λ needs i c. c
  uses_same (e ∷ es) = λ j. λ needs i c. (if has needs i then use_same e j else (λ d. d)) (uses_same es j needs (i + 1) c)

  -- ---- paths

  mutual
    pub statement_same : (s : Stmt) → paths other s ≡ paths k s
    statement_same (Stmt.Set v e) = λ j. λ c. use_same e j (count_same (label.Write v) j (forget v c)) ∷ []
    statement_same (Stmt.SetElem a i e) = λ j. λ c. use_same i j (use_same e j (count_same (label.Write a) j c)) ∷ []
    statement_same (Stmt.If e s t) = λ j. λ c. map (use_same e j) (block_same s j c ++ block_same t j c)
    statement_same (Stmt.While e n s) = λ j. λ c. rounds n (use_same e j) (block_same s j) c
    statement_same (Stmt.Repeat n s) = λ j. λ c. turns n (block_same s j) c
    statement_same (Stmt.Result e) = λ j. λ c. use_same e j (forget 63 c) ∷ []
    statement_same (Stmt.Call v place es) = λ j. λ c. uses_same es j (needs_same place j) 0 (count_same (label.Call place) j (count_same (label.Write v) j (forget v c))) ∷ []
    statement_same Stmt.Enter = λ j. λ c. c ∷ []

    block_same : (x : Block) → all_paths other x ≡ all_paths k x
    block_same done = λ j. λ c. c ∷ []
    block_same (s then rest) = λ j. λ c. flat_map (λ d. past (skips s d) (statement_same s j) d) (block_same rest j c)

  pub claimed_same : (target : ℕ) → claimed other target ≡ claimed k target
  claimed_same target = ap (λ (n : ℕ). record { counts = replicate n 0; vars = record { bits = only target } }) labels_same

  -- ---- parameters

  params_long : (vs : List Var) → length (filter (λ v. v.param) vs) ≡ length (filter (λ s. s.param) (map shape_of vs))
  params_long [] = refl
  params_long (v ∷ vs) = one v.param (params_long vs)
    where
      one : (b : Bool) → length (filter (λ v. v.param) vs) ≡ length (filter (λ s. s.param) (map shape_of vs))
          → length (cond b (v ∷ filter (λ v. v.param) vs) (filter (λ v. v.param) vs)) ≡ length (cond b (shape_of v ∷ filter (λ s. s.param) (map shape_of vs)) (filter (λ s. s.param) (map shape_of vs)))
      one true rest = ap suc rest
      one false rest = rest

  start_same : at_start other ≡ at_start k
  start_same =
      let few = params_long other.vars ∙ (ap (λ (ss : List Shape). length (filter (λ s. s.param) ss)) is.shapes ∙ sym (params_long k.vars)) in
      ap (λ (n : ℕ). λ c. record c { vars = record { bits = bit_and c.vars.bits (2 ^ n - 1) } }) few

  pub start_is : at_start other ≡ at_start k
  start_is = start_same

  pub paths_same : (target : ℕ) → paths_of other target ≡ paths_of k target
  unfolding paths_of
  paths_same target =
      ap (λ x. map (at_start other) (all_paths other x (claimed other target))) is.text
      ∙ (λ j. map (start_same j) (block_same (block_of k.body) j (claimed_same target j)))
