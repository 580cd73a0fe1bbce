-- Where one conjunct covers another, each path of the second is covered by some path of the first.
use Rattle.std.proofs.Common.{◌≡◌, ℕ, zero, suc, Bool, true, false, List, [], ◌∷◌, ◌++◌, flat_map, slice_get, refl, sym, subst, ◌∙◌, inl, inr, true≢false}
use Rattle.std.specs.Option.{option_map_or}
use Rattle.rely_num.specs.declared.conj.Conj.{Conj}
use Rattle.rely_kernel.specs.declared.kernel.Kernel.{Kernel}
use Rattle.rely_kernel.specs.declared.label.Label.TheVariants as label
use Rattle.rely_kernel.specs.Paths.{writes, all_writes, skips, count, forget, use_of, uses_of, turns, rounds, past, paths, all_paths}
use Rattle.rely_kernel.specs.Text.{Stmt, Block, done, ◌then◌}
use Rattle.rely_predicate.proofs.Order.{Covers, Covers-trans}
use Rattle.rely_predicate.proofs.Tops.{in_left, in_right, Cover, Under}
use Rattle.rely_predicate.proofs.Laws.{Under-append, Under-map, Under-flat, Carries, Keeps, map_in, flat_in}
use Rattle.rely_precond.proofs.Grown.{forget_keeps, forget_covers, Free, Free-less, Free-left, Free-right, skips_true, skips_from, count_keeps, count_more, use_keeps, use_more, uses_keeps, uses_more}

under_one : (a b : Conj) → Covers a b → Under (a ∷ []) (b ∷ [])
under_one a b h c (inl e) = record { by = a; member = inl refl; covers = subst (λ (x : Conj). Covers a x) e h }
under_one a b h c (inr k) = absurd k

cover_one : (a b : Conj) → Covers a b → Cover (a ∷ []) b
cover_one a b h = record { by = a; member = inl refl; covers = h }

-- of a list that each member becomes
cover_flat : (f : Conj → List Conj) (xs : List Conj) (b : Conj) (x : Cover xs b) → Cover (f x.by) b → Cover (flat_map f xs) b
cover_flat f xs b x y = record { by = y.by; member = flat_in f xs x.by y.by x.member y.member; covers = y.covers }

-- ---- past what the covered one skips

-- some path of each conjunct that covers b
abbrev pub Stays : (Conj → List Conj) → Conj → Type 0
Stays f b = (a : Conj) → Covers a b → Cover (f a) b

past_stays : (f : Conj → List Conj) (b : Conj) → Stays f b → (t : Bool) (a : Conj) → Covers a b → Cover (past t f a) b
past_stays f b stays true a h = cover_one a b h
past_stays f b stays false a h = stays a h

turns_stay : (f : Conj → List Conj) (b : Conj) → Stays f b → (n : ℕ) → Stays (turns n f) b
turns_stay f b stays zero a h = cover_one a b h
turns_stay f b stays (suc n) a h =
    let x = turns_stay f b stays n a h in
    cover_flat f (turns n f a) b x (stays x.by x.covers)

rounds_stay : (test : Conj → Conj) → ((c : Conj) → Covers (test c) c) → (f : Conj → List Conj) (b : Conj) (n : ℕ) → Stays (rounds n test f) b
rounds_stay test more f b zero a h = cover_one a b h
rounds_stay test more f b (suc n) a h = record {
  by = test a;
  member = map_in test (flat_map f (rounds n test f a) ++ a ∷ []) a (in_right (flat_map f (rounds n test f a)) (a ∷ []) a (inl refl));
  covers = Covers-trans (test a) a b (more a) h;
}

module _ (k : Kernel) where
  -- through a statement, or past it where it is skipped
  abbrev pub through : Stmt → Conj → List Conj
  through s c = past (skips s c) (paths k s) c

  mutual
    stays : (s : Stmt) (b : Conj) → Free (writes s) b → Stays (paths k s) b
    stays (Stmt.Set v e) b free a h =
        let d : Conj = count k (label.Write v) (forget v a) in
        cover_one (use_of k e d) b (Covers-trans (use_of k e d) d b (use_more k e d) (Covers-trans d (forget v a) b (count_more k (label.Write v) (forget v a)) (forget_covers v a b free h)))
    stays (Stmt.SetElem v i e) b free a h =
        let c : Conj = count k (label.Write v) a in
        let d : Conj = use_of k e c in
        cover_one (use_of k i d) b (Covers-trans (use_of k i d) d b (use_more k i d) (Covers-trans d c b (use_more k e c) (Covers-trans c a b (count_more k (label.Write v) a) h)))
    stays (Stmt.If e s t) b free a h =
        let x = all_stay s b (Free-left (all_writes s) (all_writes t) b free) a h in
        record {
          by = use_of k e x.by;
          member = map_in (use_of k e) (all_paths k s a ++ all_paths k t a) x.by (in_left (all_paths k s a) (all_paths k t a) x.by x.member);
          covers = Covers-trans (use_of k e x.by) x.by b (use_more k e x.by) x.covers;
        }
    stays (Stmt.While e n s) b free a h = rounds_stay (use_of k e) (use_more k e) (all_paths k s) b n a h
    stays (Stmt.Repeat n s) b free a h = turns_stay (all_paths k s) b (all_stay s b free) n a h
    stays (Stmt.Result e) b free a h = cover_one (use_of k e (forget 63 a)) b (Covers-trans (use_of k e (forget 63 a)) (forget 63 a) b (use_more k e (forget 63 a)) (forget_covers 63 a b free h))
    stays (Stmt.Call v place es) b free a h =
        let c : Conj = count k (label.Write v) (forget v a) in
        let d : Conj = count k (label.Call place) c in
        let needs : ℕ = option_map_or (λ site. site.needs.bits) (slice_get k.calls place) 0 in
        cover_one (uses_of k needs 0 es d) b (Covers-trans (uses_of k needs 0 es d) d b (uses_more k needs 0 es d)
        (Covers-trans d c b (count_more k (label.Call place) c) (Covers-trans c (forget v a) b (count_more k (label.Write v) (forget v a)) (forget_covers v a b free h))))
    stays Stmt.Enter b free a h = cover_one a b h

    pub all_stay : (x : Block) (b : Conj) → Free (all_writes x) b → Stays (all_paths k x) b
    all_stay done b free a h = cover_one a b h
    all_stay (s then rest) b free a h =
        let x = all_stay rest b (Free-right (writes s) (all_writes rest) b free) a h in
        cover_flat (through s) (all_paths k rest a) b x (past_stays (paths k s) b (stays s b (Free-left (writes s) (all_writes rest) b free)) (skips s x.by) x.by x.covers)

  -- ---- the law

  -- by which of the two skip the statement
  past_carries : (s : Stmt) → Carries (paths k s) → (a b : Conj) → Covers a b → (t u : Bool) → skips s a ≡ t → skips s b ≡ u → Under (past t (paths k s) a) (past u (paths k s) b)
  past_carries s carries a b h t true e f c (inl g) = subst (λ (x : Conj). Cover (past t (paths k s) a) x) g (past_stays (paths k s) b (stays s b (skips_true s b f)) t a h)
  past_carries s carries a b h t true e f c (inr m) = absurd m
  past_carries s carries a b h true false e f c m = absurd (true≢false (sym (skips_from s b (Free-less (writes s) a b h (skips_true s a e))) ∙ f))
  past_carries s carries a b h false false e f c m = carries a b h c m

  pub through_carries : (s : Stmt) → Carries (paths k s) → Carries (through s)
  through_carries s carries a b h = past_carries s carries a b h (skips s a) (skips s b) refl refl

  pub turns_carry : (f : Conj → List Conj) → Carries f → (n : ℕ) → Carries (turns n f)
  turns_carry f carries zero a b h = under_one a b h
  turns_carry f carries (suc n) a b h = Under-flat f carries (turns n f a) (turns n f b) (turns_carry f carries n a b h)

  pub rounds_carry : (test : Conj → Conj) → Keeps test → (f : Conj → List Conj) → Carries f → (n : ℕ) → Carries (rounds n test f)
  rounds_carry test keeps f carries zero a b h = under_one a b h
  rounds_carry test keeps f carries (suc n) a b h =
      Under-map test keeps (flat_map f (rounds n test f a) ++ a ∷ []) (flat_map f (rounds n test f b) ++ b ∷ [])
      (Under-append (flat_map f (rounds n test f a)) (a ∷ []) (flat_map f (rounds n test f b)) (b ∷ [])
      (Under-flat f carries (rounds n test f a) (rounds n test f b) (rounds_carry test keeps f carries n a b h)) (under_one a b h))

  mutual
    -- each path of the covered conjunct is covered
    pub paths_carry : (s : Stmt) → Carries (paths k s)
    paths_carry (Stmt.Set v e) a b h =
        let c : Conj = count k (label.Write v) (forget v a) in
        let d : Conj = count k (label.Write v) (forget v b) in
        under_one (use_of k e c) (use_of k e d) (use_keeps k e c d (count_keeps k (label.Write v) (forget v a) (forget v b) (forget_keeps v a b h)))
    paths_carry (Stmt.SetElem v i e) a b h =
        let c : Conj = count k (label.Write v) a in
        let d : Conj = count k (label.Write v) b in
        under_one (use_of k i (use_of k e c)) (use_of k i (use_of k e d)) (use_keeps k i (use_of k e c) (use_of k e d) (use_keeps k e c d (count_keeps k (label.Write v) a b h)))
    paths_carry (Stmt.If e s t) a b h =
        Under-map (use_of k e) (use_keeps k e) (all_paths k s a ++ all_paths k t a) (all_paths k s b ++ all_paths k t b)
        (Under-append (all_paths k s a) (all_paths k t a) (all_paths k s b) (all_paths k t b) (all_carry s a b h) (all_carry t a b h))
    paths_carry (Stmt.While e n s) a b h = rounds_carry (use_of k e) (use_keeps k e) (all_paths k s) (all_carry s) n a b h
    paths_carry (Stmt.Repeat n s) a b h = turns_carry (all_paths k s) (all_carry s) n a b h
    paths_carry (Stmt.Result e) a b h = under_one (use_of k e (forget 63 a)) (use_of k e (forget 63 b)) (use_keeps k e (forget 63 a) (forget 63 b) (forget_keeps 63 a b h))
    paths_carry (Stmt.Call v place es) a b h =
        let c : Conj = count k (label.Write v) (forget v a) in
        let d : Conj = count k (label.Write v) (forget v b) in
        let needs : ℕ = option_map_or (λ site. site.needs.bits) (slice_get k.calls place) 0 in
        under_one (uses_of k needs 0 es (count k (label.Call place) c)) (uses_of k needs 0 es (count k (label.Call place) d))
        (uses_keeps k needs 0 es (count k (label.Call place) c) (count k (label.Call place) d) (count_keeps k (label.Call place) c d
        (count_keeps k (label.Write v) (forget v a) (forget v b) (forget_keeps v a b h))))
    paths_carry Stmt.Enter a b h = under_one a b h

    pub all_carry : (x : Block) → Carries (all_paths k x)
    all_carry done a b h = under_one a b h
    all_carry (s then rest) a b h = Under-flat (through s) (through_carries s (paths_carry s)) (all_paths k rest a) (all_paths k rest b) (all_carry rest a b h)
