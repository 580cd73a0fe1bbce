-- Every trial of a kernel that calls nothing ends: each step takes some weight off what is still to do, right or wrong.
use Rattle.std.proofs.Common.{◌≡◌, ◌≢◌, ℕ, zero, suc, ◌+◌, ◌<◌, ◌≤◌, ℤ, pos, negsuc, List, [], ◌∷◌, Option, Some, None, refl, sym, ap, ◌∙◌, arith}
use Rattle.rely_kernel.specs.declared.kernel.Kernel.{Kernel}
use Rattle.rely_kernel.specs.declared.label.Label.{Label}
use Rattle.rely_kernel.specs.Machine.{Config, Item, IsFinished, Push, Read, Elem, Op, Write, WriteElem, Result, Choose, While, Repeat, Enter, Call, Leave, Frame, Moment, Over, Exact, Chance, act, argument_items, call, callee, chosen, expr_items, items, leave, moment, moment_of, right, stmt_items, top}
use Rattle.rely_kernel.specs.Rates.{right_of}
use Rattle.rely_kernel.specs.Text.{Expr, Stmt, Block, done, ◌then◌, append}
use Rattle.rely_faults.specs.Laws.{HasOutcome}
use Rattle.rely_faults.specs.Trial.{Trying, draw, first, successor, tried, tried_after, tried_by, tried_steps, wrong_by}
use Rattle.rely_faults.proofs.Following.{not_over}

-- ---- weights

abbrev times : ℕ → ℕ → ℕ
times zero m = 0
times (suc n) m = m + times n m

abbrev expr_weight : Expr → ℕ
expr_weight (Expr.Num z) = 1
expr_weight (Expr.Read v) = 1
expr_weight (Expr.Elem a i) = expr_weight i + 1
expr_weight (Expr.Bin site x y) = expr_weight x + (expr_weight y + 1)

abbrev arguments_weight : List Expr → ℕ
arguments_weight [] = 0
arguments_weight (e ∷ es) = expr_weight e + arguments_weight es

-- more than all that a statement and its turns may put before what follows
abbrev mutual
  stmt_weight : Stmt → ℕ
  stmt_weight (Stmt.Set v e) = expr_weight e + 1
  stmt_weight (Stmt.SetElem a i e) = expr_weight i + (expr_weight e + 1)
  stmt_weight (Stmt.If c s t) = expr_weight c + (1 + (block_weight s + block_weight t))
  stmt_weight (Stmt.While c n s) = 1 + times n (expr_weight c + block_weight s + 3)
  stmt_weight (Stmt.Repeat n s) = 1 + times n (block_weight s + 2)
  stmt_weight (Stmt.Result e) = expr_weight e + 1
  stmt_weight (Stmt.Call v place es) = arguments_weight es + 2
  stmt_weight Stmt.Enter = 1

  block_weight : Block → ℕ
  block_weight done = 0
  block_weight (s then rest) = stmt_weight s + block_weight rest

abbrev item_weight : Item → ℕ
item_weight (Choose s t) = 1 + (block_weight s + block_weight t)
item_weight (While c n s) = 1 + times n (expr_weight c + block_weight s + 3)
item_weight (Repeat n s) = 1 + times n (block_weight s + 2)
item_weight _ = 1

abbrev pub weight : List Item → ℕ
weight [] = 0
weight (i ∷ rest) = item_weight i + weight rest

-- ---- what is put before other items adds its weight

expr_adds : (e : Expr) (more : List Item) → weight (expr_items e more) ≡ expr_weight e + weight more
expr_adds (Expr.Num z) more = refl
expr_adds (Expr.Read v) more = refl
expr_adds (Expr.Elem a i) more = let h = expr_adds i (Elem a ∷ more) in omega (arith, h)
expr_adds (Expr.Bin site x y) more =
    let h = expr_adds x (expr_items y (Op site ∷ more)) in let j = expr_adds y (Op site ∷ more) in omega (arith, h, j)

arguments_add : (es : List Expr) (more : List Item) → weight (argument_items es more) ≡ arguments_weight es + weight more
arguments_add [] more = omega arith
arguments_add (e ∷ es) more = let h = expr_adds e (argument_items es more) in let j = arguments_add es more in omega (arith, h, j)

stmt_adds : (x : Stmt) (more : List Item) → weight (stmt_items x more) ≡ stmt_weight x + weight more
stmt_adds (Stmt.Set v e) more = let h = expr_adds e (Write v ∷ more) in omega (arith, h)
stmt_adds (Stmt.SetElem a i e) more =
    let h = expr_adds i (expr_items e (WriteElem a ∷ more)) in let j = expr_adds e (WriteElem a ∷ more) in omega (arith, h, j)
stmt_adds (Stmt.If c s t) more = let h = expr_adds c (Choose s t ∷ more) in omega (arith, h)
stmt_adds (Stmt.While c n s) more = refl
stmt_adds (Stmt.Repeat n s) more = refl
stmt_adds (Stmt.Result e) more = let h = expr_adds e (Result ∷ more) in omega (arith, h)
stmt_adds (Stmt.Call v place es) more = let h = arguments_add es (Call place ∷ Write v ∷ more) in omega (arith, h)
stmt_adds Stmt.Enter more = refl

block_adds : (x : Block) (more : List Item) → weight (items x more) ≡ block_weight x + weight more
block_adds done more = omega arith
block_adds (x then rest) more = let h = stmt_adds x (items rest more) in let j = block_adds rest more in omega (arith, h, j)

append_adds : (x y : Block) → block_weight (append x y) ≡ block_weight x + block_weight y
append_adds done y = omega arith
append_adds (x then rest) y = let h = append_adds rest y in omega (arith, h)

chosen_lighter : (z : ℤ) (x y : Block) → block_weight (chosen z x y) ≤ block_weight x + block_weight y
chosen_lighter (pos zero) x y = omega arith
chosen_lighter (pos (suc n)) x y = omega arith
chosen_lighter (negsuc n) x y = omega arith

-- ---- each step is lighter

module _ (k : Kernel) (none : k.calls ≡ []) where
  abbrev alone : List Kernel
  alone = k ∷ []

  -- nothing is called
  no_callee : (f place : ℕ) → callee alone f place ≡ None
  no_callee zero place = rw none refl
  no_callee (suc f) place = refl

  same_at_call : (o : Option ℕ) (c : Config) → o ≡ None → (call alone o c).items ≡ c.items
  same_at_call o c e = rw e refl

  same_at_leave : (frames : List Frame) (c : Config) → (leave frames c).items ≡ c.items
  same_at_leave [] c = refl
  same_at_leave (frame ∷ frames) c = refl

  act_lighter : (i : Item) (c : Config) → weight (act alone i c).items < item_weight i + weight c.items
  act_lighter (Push z) c = omega arith
  act_lighter (Read v) c = omega arith
  act_lighter (Elem a) c = omega arith
  act_lighter (Op site) c = omega arith
  act_lighter (Write v) c = omega arith
  act_lighter (WriteElem a) c = omega arith
  act_lighter Result c = omega arith
  act_lighter (Choose s t) c =
      let h = block_adds (chosen (top c.stack) s t) c.items in let j = chosen_lighter (top c.stack) s t in omega (arith, h, j)
  act_lighter (While e zero s) c = omega arith
  act_lighter (While e (suc n) s) c =
      let turn : Block = Stmt.Enter then append s (Stmt.While e n s then done) in
      let h = expr_adds e (Choose turn done ∷ c.items) in
      let j = append_adds s (Stmt.While e n s then done) in
      omega (arith, h, j)
  act_lighter (Repeat zero s) c = omega arith
  act_lighter (Repeat (suc n) s) c = let h = block_adds s (Repeat n s ∷ c.items) in omega (arith, h)
  act_lighter Enter c = omega arith
  act_lighter (Call place) c =
      let h = ap weight (same_at_call (callee alone c.function place) c (no_callee c.function place)) in omega (arith, h)
  act_lighter Leave c = let h = ap weight (same_at_leave c.frames c) in omega (arith, h)

  -- a wrong number leaves the same to do
  wrong_items : (is : List Item) (z : ℤ) (c d : Config) → (wrong_by is z c d).items ≡ d.items
  wrong_items [] z c d = refl
  wrong_items (Push n ∷ rest) z c d = refl
  wrong_items (Read v ∷ rest) z c d = refl
  wrong_items (Elem a ∷ rest) z c d = refl
  wrong_items (Op site ∷ rest) z c d = refl
  wrong_items (Write v ∷ rest) z c d = refl
  wrong_items (WriteElem a ∷ rest) z c d = refl
  wrong_items (Result ∷ rest) z c d = refl
  wrong_items (Choose x y ∷ rest) z c d = refl
  wrong_items (While e n x ∷ rest) z c d = refl
  wrong_items (Repeat n x ∷ rest) z c d = refl
  wrong_items (Enter ∷ rest) z c d = refl
  wrong_items (Call place ∷ rest) z c d = refl
  wrong_items (Leave ∷ rest) z c d = refl

  successor_items : (o : Option ℤ) (c : Config) → (successor alone o c).items ≡ (right alone c).items
  successor_items None c = refl
  successor_items (Some z) c = wrong_items c.items z c (right alone c)

  right_lighter_by : (i : Item) (rest is : List Item) (c : Config) → c.items ≡ is → is ≡ i ∷ rest → weight (right alone c).items < weight c.items
  right_lighter_by i rest is c e f = rw (e, f) (act_lighter i (record c { items = rest }))

  -- whatever a step that has something to do draws
  pub successor_lighter : (i : Item) (rest : List Item) (o : Option ℤ) (c : Config) → c.items ≡ i ∷ rest → weight (successor alone o c).items < weight c.items
  successor_lighter i rest o c e =
      let h = right_lighter_by i rest c.items c refl e in let j = ap weight (successor_items o c) in omega (arith, h, j)

  module _ (p : Label → ℕ) where
    tried_lighter_by : (i : Item) (rest : List Item) (x : Trying) → x.config.items ≡ i ∷ rest → (m : Moment) → m ≢ Over → weight (tried_by p alone m x).config.items < weight x.config.items
    tried_lighter_by i rest x e Over some = absurd (some refl)
    tried_lighter_by i rest x e Exact some = successor_lighter i rest None x.config e
    tried_lighter_by i rest x e (Chance f l) some = successor_lighter i rest (draw (p l) x.words).wrong x.config e

    tried_lighter : (i : Item) (rest : List Item) (x : Trying) → x.config.items ≡ i ∷ rest → weight (tried p alone x).config.items < weight x.config.items
    tried_lighter i rest x e = tried_lighter_by i rest x e (moment x.config) (λ over. not_over i rest x.config.function (sym (ap (moment_of x.config.function) e) ∙ over))

    -- ---- so the trial ends

    abbrev HasEnd : Trying → Type 0
    HasEnd x = (n : ℕ) × IsFinished (tried_after p alone n x).config

    ends_at_once : (x : Trying) → x.config.items ≡ [] → HasEnd x
    unfolding tried_after
    ends_at_once x e = (0, e)

    ends_later : (x : Trying) → HasEnd (tried p alone x) → HasEnd x
    unfolding tried_after
    ends_later x h = (suc h.0, h.1)

    ends_by : (fuel : ℕ) (x : Trying) → weight x.config.items < suc fuel → (weight (tried p alone x).config.items < fuel → HasEnd (tried p alone x)) → (is : List Item) → x.config.items ≡ is → HasEnd x
    ends_by fuel x below goes [] e = ends_at_once x e
    ends_by fuel x below goes (i ∷ rest) e = ends_later x (goes (let h = tried_lighter i rest x e in omega (arith, h, below)))

    ends_within : (fuel : ℕ) (x : Trying) → weight x.config.items < fuel → HasEnd x
    ends_within zero x below = absurd (omega (arith, below))
    ends_within (suc fuel) x below = ends_by fuel x below (λ less. ends_within fuel (tried p alone x) less) x.config.items refl

pub has_outcome : HasOutcome
has_outcome k h t start words none =
    let p : Label → ℕ = right_of h k t in
    let x : Trying = first k start words in
    let end = ends_within k none p (suc (weight x.config.items)) x (omega arith) in
    let y : Trying = tried_after p (k ∷ []) end.0 x in (
      record { store = y.config.store; steps = tried_steps p (k ∷ []) end.0 x; words = y.taken },
      y.words,
      record { n = end.0; end = y.config; leads = refl; over = end.1; store = refl; steps = refl },
    )
