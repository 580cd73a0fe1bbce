-- Kernels that are the same, spans aside, are walked alike: only the places of limits differ.
use Rattle.std.proofs.Common.{◌≡◌, ℕ, zero, suc, ◌+◌, ◌*◌, ◌^◌, Bool, true, false, not, cond, List, [], ◌∷◌, ◌++◌, map, filter, flat_map, length, Option, Some, None, refl, sym, ◌∙◌, subst, nat_lt, if◌then◌else◌}
use Rattle.rely_num.specs.declared.conj.Conj.{Conj}
use Rattle.rely_num.specs.declared.span.Span.{Span}
use Rattle.rely_kernel.specs.Paths.{at_start, claimed, past, skips, use_of}
use Rattle.rely_kernel.specs.Text.{Block, Stmt, done, ◌then◌}
use Rattle.rely_kernel.specs.declared.kernel.Kernel.{Kernel}
use Rattle.rely_kernel.specs.declared.kernel.Slot.{Slot}
use Rattle.rely_loops.specs.Grown.{too_many}
use Rattle.rely_predicate.specs.Shift.{raise, shift, times}
use Rattle.rely_predicate.specs.Top.{top}
use Rattle.rely_precond.specs.Places.{Line, Lines, all_plain, end, line, lines_of, plain}
use Rattle.rely_precond.specs.Walk.{Count, Stands, Stops, Walked, Work, added, all_covered, and_then, changed, go_on, joined, multiply, repeats, settled, stand, touched, untouched, walk, walk_all, walk_claim, whiles, worked}
use Rattle.rely_precond.proofs.LineLemmas.{lines_plain}
use Rattle.chisel_rewrite.specs.Alike.{IsWith}
use Rattle.chisel_rewritten_verdicts.specs.Verdicts.{SameWalks}
use Rattle.chisel_rewritten_verdicts.proofs.SamePaths.{claimed_same, start_is, statement_same, use_same}

-- ---- a text without places

abbrev nowhere : Span
nowhere = record { from = 0; to = 0 }

abbrev mutual
  bare : Stmt → Line
  bare (Stmt.Set v e) = Line.Set v e
  bare (Stmt.SetElem a i e) = Line.SetElem a i e
  bare (Stmt.If c s t) = Line.If c (all_bare s) (all_bare t)
  bare (Stmt.While c n s) = Line.While c n (all_bare s)
  bare (Stmt.Repeat n s) = Line.Repeat n (all_bare s)
  bare (Stmt.Result e) = Line.Result e
  bare (Stmt.Call v place es) = Line.Call v place es
  bare Stmt.Enter = Line.Repeat 0 end

  all_bare : Block → Lines
  all_bare done = end
  all_bare (s then rest) = line nowhere (bare s) (all_bare rest)

mutual
  plain_bare : (s : Line) → plain (bare (plain s)) ≡ plain s
  plain_bare (Line.Set v e) = refl
  plain_bare (Line.SetElem a i e) = refl
  plain_bare (Line.If c s t) = λ j. Stmt.If c (all_plain_bare s j) (all_plain_bare t j)
  plain_bare (Line.While c n s) = λ j. Stmt.While c n (all_plain_bare s j)
  plain_bare (Line.Repeat n s) = λ j. Stmt.Repeat n (all_plain_bare s j)
  plain_bare (Line.Result e) = refl
  plain_bare (Line.Call v place es) = refl

  all_plain_bare : (x : Lines) → all_plain (all_bare (all_plain x)) ≡ all_plain x
  all_plain_bare end = refl
  all_plain_bare (line at s rest) = λ j. plain_bare s j then all_plain_bare rest j

-- ---- walks that differ in places alone

abbrev Alike : Walked → Walked → Type 0
Alike (Stands p work) (Stands q more) = (p ≡ q) × (work ≡ more)
Alike (Stands p work) (Stops limit at) = ⊥
Alike (Stops limit at) (Stands q more) = ⊥
Alike (Stops limit at) (Stops other there) = limit ≡ other

alike_self : (w : Walked) → Alike w w
alike_self (Stands p work) = (refl, refl)
alike_self (Stops limit at) = refl

alike_back : (w v : Walked) → Alike w v → Alike v w
alike_back (Stands p work) (Stands q more) is = (sym is.0, sym is.1)
alike_back (Stands p work) (Stops limit at) is = is
alike_back (Stops limit at) (Stands q more) is = is
alike_back (Stops limit at) (Stops other there) is = sym is

-- steps that go on alike
abbrev AlikeSteps : (List Conj → ℕ → Walked) → (List Conj → ℕ → Walked) → Type 0
AlikeSteps f g = (p : List Conj) (work : ℕ) → Alike (f p work) (g p work)

then_alike : (w v : Walked) (f g : List Conj → ℕ → Walked) → Alike w v → AlikeSteps f g → Alike (and_then w f) (and_then v g)
then_alike (Stands p work) (Stands q more) f g is steps = subst (λ r. Alike (f p work) (g r more)) is.0 (subst (λ n. Alike (f p work) (g p n)) is.1 (steps p work))
then_alike (Stands p work) (Stops limit at) f g is steps = absurd is
then_alike (Stops limit at) (Stands q more) f g is steps = absurd is
then_alike (Stops limit at) (Stops other there) f g is steps = is

module _ (at there : Span) where
  worked_alike : (o : Option (List Conj)) (work : ℕ) → Alike (worked at o work) (worked there o work)
  worked_alike None work = refl
  worked_alike (Some p) work = one (nat_lt (2 ^ 24) (work + length p * length p))
    where
      one : (b : Bool) → Alike (cond b (Stops Work at) (Stands p (work + length p * length p))) (cond b (Stops Work there) (Stands p (work + length p * length p)))
      one true = refl
      one false = (refl, refl)

  stand_alike : (ps : List Conj) (work : ℕ) → Alike (stand at ps work) (stand there ps work)
  stand_alike ps work = one (too_many ps)
    where
      one : (b : Bool) → Alike (cond b (Stops Count at) (worked at (added [] ps) work)) (cond b (Stops Count there) (worked there (added [] ps) work))
      one true = refl
      one false = worked_alike (added [] ps) work

  multiply_alike : (n : ℕ) (by : List ℕ) → AlikeSteps (multiply at n by) (multiply there n by)
  multiply_alike n by p work = one (too_many (map (raise (times n by)) p))
    where
      one : (b : Bool) → Alike (cond b (Stops Count at) (worked at (Some (map (raise (times n by)) p)) work)) (cond b (Stops Count there) (worked there (Some (map (raise (times n by)) p)) work))
      one true = refl
      one false = worked_alike (Some (map (raise (times n by)) p)) work

  go_alike : (left : ℕ) (by : Option (List ℕ)) (f g : List Conj → ℕ → Walked) → AlikeSteps f g → AlikeSteps (go_on at left by f) (go_on there left by g)
  go_alike zero by f g steps p work = steps p work
  go_alike (suc left) None f g steps p work = steps p work
  go_alike (suc left) (Some by) f g steps p work = multiply_alike (suc left) by p work

  repeats_alike : (f g : List Conj → ℕ → Walked) → AlikeSteps f g → (n : ℕ) → AlikeSteps (repeats at f n) (repeats there g n)
  repeats_alike f g steps zero q work = (refl, refl)
  repeats_alike f g steps (suc left) q work =
      then_alike (f q work) (g q work) _ _ (steps q work) (λ b w.
      then_alike (stand at b w) (stand there b w) _ _ (stand_alike b w) (λ r v.
      go_alike left (shift q r) (λ p u. repeats at f left p u) (λ p u. repeats there g left p u) (λ p u. repeats_alike f g steps left p u) r v))

  whiles_alike : (test : Conj → Conj) (f g : List Conj → ℕ → Walked) (ts : List Conj) → AlikeSteps f g → (n : ℕ) → AlikeSteps (whiles at test f ts n) (whiles there test g ts n)
  whiles_alike test f g ts steps zero q work = (refl, refl)
  whiles_alike test f g ts steps (suc left) q work =
      then_alike (f q work) (g q work) _ _ (steps q work) (λ b w.
      then_alike (stand at (map test (b ++ ts)) w) (stand there (map test (b ++ ts)) w) _ _ (stand_alike (map test (b ++ ts)) w) (λ r v.
      go_alike left (settled (all_covered (map test ts) (map test b)) (shift q r)) (λ p u. whiles at test f ts left p u) (λ p u. whiles there test g ts left p u)
      (λ p u. whiles_alike test f g ts steps left p u) r v))

  joined_alike : (us ts : List Conj) (f g : List Conj → ℕ → Walked) → AlikeSteps f g → (work : ℕ) → Alike (joined at us ts (λ ts w. f ts w) work) (joined there us ts (λ ts w. g ts w) work)
  joined_alike us [] f g steps work = stand_alike us work
  joined_alike us (t ∷ ts) f g steps work = then_alike (f (t ∷ ts) work) (g (t ∷ ts) work) _ _ (steps (t ∷ ts) work) (λ q w. stand_alike (us ++ q) w)

module _ (k : Kernel) where
  -- a statement's conjuncts are told by its plain text
  joined_plain : (at : Span) (s u : Line) (f g : List Conj → List Conj → ℕ → Walked) → plain u ≡ plain s → ((ts : List Conj) → AlikeSteps (f ts) (g ts)) → (ps : List Conj) (work : ℕ)
      → Alike (joined at (untouched s ps) (touched s ps) (λ ts w. f ts ts w) work) (joined nowhere (untouched u ps) (touched u ps) (λ ts w. g ts ts w) work)
  joined_plain at s u f g same steps ps work =
      subst (λ x. Alike (joined at (untouched s ps) (touched s ps) (λ ts w. f ts ts w) work) (joined nowhere (filter (skips x) ps) (filter (λ c. not (skips x c)) ps) (λ ts w. g ts ts w) work)) (sym same)
      (joined_alike at nowhere (untouched s ps) (touched s ps) (λ ts w. f ts ts w) (λ ts w. g ts ts w) (λ ts w. steps ts ts w) work)

  mutual
    walk_bare : (at : Span) (s : Line) → AlikeSteps (walk k at s) (walk k nowhere (bare (plain s)))
    walk_bare at (Line.Set v e) ps work = stand_alike at nowhere (changed k (Line.Set v e) ps) work
    walk_bare at (Line.SetElem a i e) ps work = stand_alike at nowhere (changed k (Line.SetElem a i e) ps) work
    walk_bare at (Line.Result e) ps work = stand_alike at nowhere (changed k (Line.Result e) ps) work
    walk_bare at (Line.Call v place es) ps work = stand_alike at nowhere (changed k (Line.Call v place es) ps) work
    walk_bare at (Line.If e s t) ps work =
        joined_plain at (Line.If e s t) (bare (plain (Line.If e s t)))
        (λ _ ts w. and_then (walk_all k s ts w) (λ a v. and_then (walk_all k t ts v) (λ b u. Stands (map (use_of k e) (a ++ b)) u)))
        (λ _ ts w. and_then (walk_all k (all_bare (all_plain s)) ts w) (λ a v. and_then (walk_all k (all_bare (all_plain t)) ts v) (λ b u. Stands (map (use_of k e) (a ++ b)) u)))
        (plain_bare (Line.If e s t))
        (λ _ ts w. then_alike (walk_all k s ts w) (walk_all k (all_bare (all_plain s)) ts w) _ _ (all_walk_bare s ts w)
        (λ a v. then_alike (walk_all k t ts v) (walk_all k (all_bare (all_plain t)) ts v) _ _ (all_walk_bare t ts v) (λ b u. (refl, refl))))
        ps work
    walk_bare at (Line.Repeat n s) ps work =
        joined_plain at (Line.Repeat n s) (bare (plain (Line.Repeat n s)))
        (λ _. repeats at (λ q w. walk_all k s q w) n) (λ _. repeats nowhere (λ q w. walk_all k (all_bare (all_plain s)) q w) n)
        (plain_bare (Line.Repeat n s))
        (λ _. repeats_alike at nowhere (λ q w. walk_all k s q w) (λ q w. walk_all k (all_bare (all_plain s)) q w) (λ q w. all_walk_bare s q w) n) ps work
    walk_bare at (Line.While e zero s) ps work = stand_alike at nowhere ps work
    walk_bare at (Line.While e (suc n) s) ps work =
        joined_plain at (Line.While e (suc n) s) (bare (plain (Line.While e (suc n) s)))
        (λ ts. whiles at (use_of k e) (λ q w. walk_all k s q w) ts (suc n)) (λ ts. whiles nowhere (use_of k e) (λ q w. walk_all k (all_bare (all_plain s)) q w) ts (suc n))
        (plain_bare (Line.While e (suc n) s))
        (λ ts. whiles_alike at nowhere (use_of k e) (λ q w. walk_all k s q w) (λ q w. walk_all k (all_bare (all_plain s)) q w) ts (λ q w. all_walk_bare s q w) (suc n)) ps work

    all_walk_bare : (x : Lines) → AlikeSteps (walk_all k x) (walk_all k (all_bare (all_plain x)))
    all_walk_bare end ps work = (refl, refl)
    all_walk_bare (line at s rest) ps work =
        then_alike (walk_all k rest ps work) (walk_all k (all_bare (all_plain rest)) ps work) _ _ (all_walk_bare rest ps work) (λ p w. walk_bare at s p w)

-- ---- kernels that are the same

module _ (kinds memories : List Slot) (k other : Kernel) (is : IsWith kinds memories k other) where
  changed_same : (s : Line) → changed other s ≡ changed k s
  changed_same s = λ j. λ ps. flat_map (λ c. past (skips (plain s) c) (statement_same kinds memories k other is (plain s) j) c) ps

  mutual
    walk_same : (at : Span) (s : Line) → walk other at s ≡ walk k at s
    walk_same at (Line.Set v e) = λ j. λ ps work. stand at (changed_same (Line.Set v e) j ps) work
    walk_same at (Line.SetElem a i e) = λ j. λ ps work. stand at (changed_same (Line.SetElem a i e) j ps) work
    walk_same at (Line.Result e) = λ j. λ ps work. stand at (changed_same (Line.Result e) j ps) work
    walk_same at (Line.Call v place es) = λ j. λ ps work. stand at (changed_same (Line.Call v place es) j ps) work
    walk_same at (Line.If e s t) = λ j. λ ps work. joined at (untouched (Line.If e s t) ps) (touched (Line.If e s t) ps) (λ ts w.
        and_then (all_same s j ts w) (λ a v.
        and_then (all_same t j ts v) (λ b u.
        Stands (map (use_same kinds memories k other is e j) (a ++ b)) u))) work
    walk_same at (Line.Repeat n s) = λ j. λ ps work. joined at (untouched (Line.Repeat n s) ps) (touched (Line.Repeat n s) ps) (λ ts. repeats at (λ q w. all_same s j q w) n ts) work
    walk_same at (Line.While e zero s) = λ j. λ ps work. stand at ps work
    walk_same at (Line.While e (suc n) s) = λ j. λ ps work. joined at (untouched (Line.While e (suc n) s) ps) (touched (Line.While e (suc n) s) ps)
        (λ ts. whiles at (use_same kinds memories k other is e j) (λ q w. all_same s j q w) ts (suc n) ts) work

    all_same : (x : Lines) → walk_all other x ≡ walk_all k x
    all_same end = λ j. λ ps work. Stands ps work
    all_same (line at s rest) = λ j. λ ps work. and_then (all_same rest j ps work) (λ p w. walk_same at s j p w)

  -- what stands on one stands on the other
  stands_alike : (conjuncts : List Conj) (work : ℕ) (w : Walked) → Alike (Stands conjuncts work) w → w ≡ Stands conjuncts work
  stands_alike conjuncts work (Stands p more) alike = λ j. Stands (sym alike.0 j) (sym alike.1 j)
  stands_alike conjuncts work (Stops limit at) alike = absurd alike

  alike_over : (w v u : Walked) → Alike w v → Alike v u → Alike w u
  alike_over (Stands p a) (Stands q b) (Stands r c) x y = (x.0 ∙ y.0, x.1 ∙ y.1)
  alike_over (Stands p a) (Stands q b) (Stops limit at) x y = y
  alike_over (Stands p a) (Stops limit at) u x y = absurd x
  alike_over (Stops limit at) (Stands q b) u x y = absurd x
  alike_over (Stops limit at) (Stops m there) (Stands r c) x y = y
  alike_over (Stops limit at) (Stops m there) (Stops n here) x y = x ∙ y

  lines_alike : (ps : List Conj) (work : ℕ) → Alike (walk_all k (lines_of k.body) ps work) (walk_all other (lines_of other.body) ps work)
  lines_alike ps work =
      let text : all_plain (lines_of other.body) ≡ all_plain (lines_of k.body) = lines_plain other.body ∙ (is.text ∙ sym (lines_plain k.body)) in
      let old = all_walk_bare k (lines_of k.body) ps work in
      let new = all_walk_bare k (lines_of other.body) ps work in
      let same : Alike (walk_all k (lines_of k.body) ps work) (walk_all k (all_bare (all_plain (lines_of other.body))) ps work) =
      subst (λ x. Alike (walk_all k (lines_of k.body) ps work) (walk_all k (all_bare x) ps work)) (sym text) old in
      subst (λ f. Alike (walk_all k (lines_of k.body) ps work) (f ps work)) (sym (all_same (lines_of other.body)))
      (alike_over _ (walk_all k (all_bare (all_plain (lines_of other.body))) ps work) _ same
      (alike_back (walk_all k (lines_of other.body) ps work) (walk_all k (all_bare (all_plain (lines_of other.body))) ps work) new))

  claim_alike : (target : ℕ) → Alike (walk_claim k target) (walk_claim other target)
  unfolding walk_claim
  claim_alike target =
      subst (λ (c : Conj). Alike (walk_claim k target) (and_then (walk_all other (lines_of other.body) (c ∷ []) 0) (λ p w. Stands (top (map (at_start other) p)) w)))
      (sym (claimed_same kinds memories k other is target))
      (then_alike (walk_all k (lines_of k.body) (claimed k target ∷ []) 0) (walk_all other (lines_of other.body) (claimed k target ∷ []) 0) _ _
      (lines_alike (claimed k target ∷ []) 0) (λ p w. (λ j. top (map (sym (start_is kinds memories k other is) j) p), refl)))

pub same_walks : SameWalks
same_walks kinds memories k other is target work conjuncts e =
    stands_alike kinds memories k other is conjuncts work (walk_claim other target)
    (subst (λ w. Alike w (walk_claim other target)) e (claim_alike kinds memories k other is target))
