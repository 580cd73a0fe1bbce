-- How a trial begins and ends.
use Rattle.std.proofs.Common.{◌≡◌, ℕ, suc, List, [], ◌∷◌, ◌++◌, length, refl, sym, ap, subst, ◌∙◌, arith}
use Rattle.std.specs.List.{AllByRecursion}
use Rattle.rand_pcg.specs.Lcg.{Lcg}
use Rattle.rely_kernel.specs.declared.kernel.Kernel.{Kernel}
use Rattle.rely_kernel.specs.declared.kernel.St.{St}
use Rattle.rely_kernel.specs.declared.setting.Setting.{Setting}
use Rattle.rely_kernel.specs.declared.setting.Store.{Store}
use Rattle.rely_hard.specs.declared.hardware.Hardware.{Hardware}
use Rattle.rely_kernel.specs.Machine.{items}
use Rattle.rely_kernel.specs.Text.{Stmt, Block, done, ◌then◌, block_of}
use Rattle.rely_kernel.specs.Valid.{BlockFits, BodyFits, IsValid, PlaceFits, StmtFits, block_calls, stmt_calls}
use Rattle.rely_kernel.specs.Running.{AllFine}
use Rattle.rely_kernel.proofs.Fine.{fine_body}
use Rattle.rely_faults.specs.declared.outcome.Tried.{Tried}
use Rattle.rely_faults.specs.declared.running.Running.{Running}
use Rattle.rely_faults.specs.Going.{Counts, Ends, Exceeds, Runs, Stands, here, outcome_of, setup_of, standing}
use Rattle.rely_faults.specs.Setup.{Stops, Tries}
use Rattle.rely_faults.specs.Trial.{IsTried, LeavesWords, PassesLimit, StopsAt, Trying, first, tried_after, tried_through}

-- ---- a kernel without a call place calls nothing

none_after : (xs ys : List (ℕ × ℕ)) → xs ≡ [] → ys ≡ [] → xs ++ ys ≡ []
none_after xs ys e f = rw (e, f) refl

module _ (k : Kernel) (none : k.calls ≡ []) where
  mutual
    stmt_quiet : (x : Stmt) → StmtFits k x → stmt_calls x ≡ []
    stmt_quiet (Stmt.Set v e) h = refl
    stmt_quiet (Stmt.SetElem a i e) h = refl
    stmt_quiet (Stmt.If c x y) h = none_after (block_calls x) (block_calls y) (block_quiet x h.1) (block_quiet y h.2)
    stmt_quiet (Stmt.While c n x) h = block_quiet x h.1
    stmt_quiet (Stmt.Repeat n x) h = block_quiet x h
    stmt_quiet (Stmt.Result e) h = refl
    stmt_quiet (Stmt.Call v place es) h = let below = h.1 in let long = ap length none in absurd (omega (arith, below, long))
    stmt_quiet Stmt.Enter h = refl

    block_quiet : (x : Block) → BlockFits k x → block_calls x ≡ []
    block_quiet done h = refl
    block_quiet (x then rest) h = none_after (stmt_calls x) (block_calls rest) (stmt_quiet x h.0) (block_quiet rest h.1)

  body_quiet : (x : Block) → BodyFits k x → block_calls x ≡ []
  body_quiet done h = refl
  body_quiet (Stmt.Result e then done) h = refl
  body_quiet (Stmt.Result e then (y then rest)) h = absurd h.0
  body_quiet (Stmt.Set v e then rest) h = body_quiet rest h.1
  body_quiet (Stmt.SetElem a i e then rest) h = body_quiet rest h.1
  body_quiet (Stmt.If c x y then rest) h = none_after (stmt_calls (Stmt.If c x y)) (block_calls rest) (stmt_quiet (Stmt.If c x y) h.0) (body_quiet rest h.1)
  body_quiet (Stmt.While c n x then rest) h = none_after (block_calls x) (block_calls rest) (stmt_quiet (Stmt.While c n x) h.0) (body_quiet rest h.1)
  body_quiet (Stmt.Repeat n x then rest) h = none_after (block_calls x) (block_calls rest) (stmt_quiet (Stmt.Repeat n x) h.0) (body_quiet rest h.1)
  body_quiet (Stmt.Call v place es then rest) h = none_after (stmt_calls (Stmt.Call v place es)) (block_calls rest) (stmt_quiet (Stmt.Call v place es) h.0) (body_quiet rest h.1)
  body_quiet (Stmt.Enter then rest) h = absurd h.0

  -- so its body is fine by itself
  pub alone_fine : IsValid k → AllFine (k ∷ []) 0 k (block_of k.body)
  alone_fine valid = fine_body (k ∷ []) 0 k (block_of k.body) valid.body (subst (AllByRecursion (PlaceFits (k ∷ []) 0 k)) (sym (body_quiet (block_of k.body) valid.body)) tt)

-- ---- a trial from a start

abbrev pub no_counts : ℕ → Counts
no_counts limit = record { taken = 0; steps = 0; limit = limit }

module _ (r : Running) (start : Store) (g : Lcg) (limit : ℕ) where
  begins_at : Stands r (first r.kernel.now start g) (standing (items (block_of r.kernel.now.body) []) [] start) (here start (no_counts limit) g)
  unfolding tried_after tried_through
  begins_at = record { n = 0; leads = refl; steps = refl }

  pub stops_at_once : limit ≡ 0 → Stops (setup_of r) start g limit g
  unfolding tried_after
  stops_at_once none = record { n = 0; words_left = refl; before = λ some. absurd (omega (arith, some)); reached = omega (arith, none) }

  module _ (t : Counts) (t_is : t ≡ no_counts limit) (body : List St) (body_is : body ≡ r.kernel.now.body) where
    module _ (g' : Lcg) (h : Exceeds r (items (block_of body)) (λ st. st) (here start t g) g') where
      ended : Ends r (first r.kernel.now start g) limit g'
      ended =
          let from_start : Exceeds r (items (block_of r.kernel.now.body)) (λ st. st) (here start (no_counts limit) g) g' =
          rw (← t_is) (subst (λ ss. Exceeds r (items (block_of ss)) (λ st. st) (here start t g) g') body_is h) in
          from_start.ends (first r.kernel.now start g) [] [] begins_at

      pub stops : Stops (setup_of r) start g limit g'
      stops = record { n = ended.n; words_left = ended.words; before = λ some. ended.before; reached = ended.reached }

    module _ (s : Store) (u : Counts) (g' : Lcg) (h : Runs r (items (block_of body)) (λ st. st) (λ st. st) (here start t g) (here s u g')) where
      at_end : Stands r (first r.kernel.now start g) (standing [] [] s) (here s u g')
      at_end =
          let from_start : Runs r (items (block_of r.kernel.now.body)) (λ st. st) (λ st. st) (here start (no_counts limit) g) (here s u g') =
          rw (← t_is) (subst (λ ss. Runs r (items (block_of ss)) (λ st. st) (λ st. st) (here start t g) (here s u g')) body_is h) in
          from_start.goes (first r.kernel.now start g) [] [] begins_at

      pub tried_is : Tries (setup_of r) start g (outcome_of s u) g'
      tried_is = record { n = at_end.n; end = standing [] [] s; leads = at_end.leads; over = refl; store = refl; steps = at_end.steps }

-- ---- what its end says

module _ (k : Kernel) (h : Hardware) (t : Setting) (start : Store) (g : Lcg) where
  pub untouched : LeavesWords k h t start g g
  unfolding tried_after
  untouched = record { n = 0; words_left = refl }

  module _ (limit : ℕ) (g' : Lcg) (x : StopsAt k h t start g limit g') where
    pub passes_by : PassesLimit k h t start g limit
    passes_by = record { n = suc x.n; steps = x.reached }

    pub leaves_by : LeavesWords k h t start g g'
    leaves_by = record { n = x.n; words_left = x.words_left }

  module _ (g' : Lcg) (p : Tried) (x : IsTried k h t start g p g') where
    pub leaves_at_end : LeavesWords k h t start g g'
    leaves_at_end = record { n = x.n; words_left = ap (λ (y : Trying). y.words) x.leads }

    pub tried_as : (o : Tried) → o.store ≡ p.store → o.steps ≡ p.steps → o.words ≡ p.words → IsTried k h t start g o g'
    tried_as o store steps words = record {
      n = x.n;
      end = x.end;
      leads = x.leads ∙ ap (λ m. record { config = x.end; words = g'; taken = m }) (sym words);
      over = x.over;
      store = store ∙ x.store;
      steps = steps ∙ x.steps;
    }
