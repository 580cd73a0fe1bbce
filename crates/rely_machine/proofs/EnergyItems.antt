-- What is still to do on a run of linked functions: its labels are in range, and its calls are of earlier functions.
use Rattle.std.proofs.Common.{◌≡◌, ℕ, ℤ, pos, negsuc, zero, suc, ◌<◌, false, List, [], ◌∷◌, length, Some, refl, sym, subst, arith}
use Rattle.std.specs.Prelude.{slice_get, filter_map, ◌==◌}
use Rattle.std.specs.List.{AllByRecursion, cons_option}
use Rattle.std.specs.Option.{option_map_or}
use Rattle.std.proofs.lemmas.Bool.{ne_eqb}
use Rattle.std.proofs.lemmas.Option.{slice_get_within}
use Rattle.rely_kernel.specs.declared.kernel.Kernel.{Kernel}
use Rattle.rely_kernel.specs.declared.label.Label.{Label}
use Rattle.rely_kernel.specs.Labels.{InRange}
use Rattle.rely_kernel.specs.Machine.{Config, Frame, Item, Push, Read, Elem, Op, Write, WriteElem, Result, Choose, While, Repeat, Enter, Call, Leave, act, chosen, expr_items, argument_items, items, label_of, leave, moment, moment_of, passed, right, right_by, stmt_items}
use Rattle.rely_kernel.specs.Text.{Expr, Stmt, Block, done, ◌then◌, append, block_of}
use Rattle.rely_kernel.specs.Valid.{ExprFits, AllFit, PlaceFits, AreLinked}
use Rattle.rely_kernel.specs.Running.{AllFine, Fine}
use Rattle.rely_kernel.proofs.Callees.{fine, place_arity}
use Rattle.rely_kernel.proofs.Shape.{scalar_below, array_below}
use Rattle.rely_machine.specs.Run.{called}

-- ---- what is to do

-- what an item of a function needs
abbrev pub ItemFits : List Kernel → ℕ → Kernel → Item → Type 0
ItemFits fs f k (Push z) = Unit {0}
ItemFits fs f k (Read v) = v < length k.vars
ItemFits fs f k (Elem a) = a < length k.vars
ItemFits fs f k (Op site) = site < length k.sites
ItemFits fs f k (Write v) = v < length k.vars
ItemFits fs f k (WriteElem a) = a < length k.vars
ItemFits fs f k Result = Unit {0}
ItemFits fs f k (Choose s t) = AllFine fs f k s × AllFine fs f k t
ItemFits fs f k (While e n s) = ExprFits k e × AllFine fs f k s
ItemFits fs f k (Repeat n s) = AllFine fs f k s
ItemFits fs f k Enter = Unit {0}
ItemFits fs f k (Call place) = (n : ℕ) × PlaceFits fs f k (place, n)
ItemFits fs f k Leave = Unit {0}

pub record Of (fs : List Kernel) (f : ℕ) (i : Item) : Type 0 where
  pub k : Kernel
  pub known : slice_get fs f ≡ Some k
  pub fits : ItemFits fs f k i

-- the function that goes on where a function ends
abbrev pub outer : List Frame → ℕ → ℕ
outer [] f = f
outer (frame ∷ frames) f = frame.function

abbrev pub rest_of : List Frame → List Frame
rest_of [] = []
rest_of (frame ∷ frames) = frames

-- the function that goes on after an item
abbrev pub function_after : Item → List Frame → ℕ → ℕ
function_after Leave frames f = outer frames f
function_after i frames f = f

abbrev pub frames_after : Item → List Frame → List Frame
frames_after Leave frames = rest_of frames
frames_after i frames = frames

-- each item fits the function that it belongs to
abbrev pub Todo : List Kernel → ℕ → List Item → List Frame → Type 0
Todo fs f [] frames = Unit {0}
Todo fs f (i ∷ is) frames = Of fs f i × Todo fs (function_after i frames f) is (frames_after i frames)

abbrev pub Ready : List Kernel → Config → Type 0
Ready fs c = Todo fs c.function c.items c.frames

-- a label in range of its function
pub record LabelFits (fs : List Kernel) (m : ℕ × Label) : Type 0 where
  pub k : Kernel
  pub known : slice_get fs m.0 ≡ Some k
  pub fits : InRange k m.1

-- ---- items of fine blocks

module _ (fs : List Kernel) (f : ℕ) (k : Kernel) (known : slice_get fs f ≡ Some k) where
  of : (i : Item) → ItemFits fs f k i → Of fs f i
  of i h = record { k = k; known = known; fits = h }

  expr_todo : (e : Expr) → ExprFits k e → (is : List Item) (frames : List Frame) → Todo fs f is frames → Todo fs f (expr_items e is) frames
  expr_todo (Expr.Num z) h is frames t = (of (Push z) tt, t)
  expr_todo (Expr.Read v) h is frames t = (of (Read v) (scalar_below k v h), t)
  expr_todo (Expr.Elem a i) h is frames t = expr_todo i h.1 (Elem a ∷ is) frames (of (Elem a) (array_below k a h.0), t)
  expr_todo (Expr.Bin site x y) h is frames t =
      expr_todo x h.1 (expr_items y (Op site ∷ is)) frames (expr_todo y h.2 (Op site ∷ is) frames (of (Op site) h.0, t))

  arguments_todo : (es : List Expr) → AllFit k es → (is : List Item) (frames : List Frame) → Todo fs f is frames → Todo fs f (argument_items es is) frames
  arguments_todo [] h is frames t = t
  arguments_todo (e ∷ es) h is frames t = expr_todo e h.0 (argument_items es is) frames (arguments_todo es h.1 is frames t)

  stmt_todo : (s : Stmt) → Fine fs f k s → (is : List Item) (frames : List Frame) → Todo fs f is frames → Todo fs f (stmt_items s is) frames
  stmt_todo (Stmt.Set v e) h is frames t = expr_todo e h.1 (Write v ∷ is) frames (of (Write v) (scalar_below k v h.0), t)
  stmt_todo (Stmt.SetElem a i e) h is frames t =
      expr_todo i h.1 (expr_items e (WriteElem a ∷ is)) frames
      (expr_todo e h.2 (WriteElem a ∷ is) frames (of (WriteElem a) (array_below k a h.0), t))
  stmt_todo (Stmt.If c x y) h is frames t = expr_todo c h.0 (Choose x y ∷ is) frames (of (Choose x y) (h.1, h.2), t)
  stmt_todo (Stmt.While c n x) h is frames t = (of (While c n x) h, t)
  stmt_todo (Stmt.Repeat n x) h is frames t = (of (Repeat n x) h, t)
  stmt_todo (Stmt.Result e) h is frames t = expr_todo e h (Result ∷ is) frames (of Result tt, t)
  stmt_todo (Stmt.Call v place es) h is frames t =
      arguments_todo es h.2 (Call place ∷ Write v ∷ is) frames
      (of (Call place) (length es, h.1), (of (Write v) (scalar_below k v h.0), t))
  stmt_todo Stmt.Enter h is frames t = (of Enter tt, t)

  items_todo : (x : Block) → AllFine fs f k x → (is : List Item) (frames : List Frame) → Todo fs f is frames → Todo fs f (items x is) frames
  items_todo done h is frames t = t
  items_todo (s then rest) h is frames t = stmt_todo s h.0 (items rest is) frames (items_todo rest h.1 is frames t)

  append_fine : (x y : Block) → AllFine fs f k x → AllFine fs f k y → AllFine fs f k (append x y)
  append_fine done y h j = j
  append_fine (s then rest) y h j = (h.0, append_fine rest y h.1 j)

  chosen_fine : (z : ℤ) (x y : Block) → AllFine fs f k x → AllFine fs f k y → AllFine fs f k (chosen z x y)
  chosen_fine (pos zero) x y h j = j
  chosen_fine (pos (suc n)) x y h j = h
  chosen_fine (negsuc n) x y h j = h

-- ---- right steps

module _ (fs : List Kernel) (linked : AreLinked fs) where
  left : (frames : List Frame) (c : Config) → c.frames ≡ frames → Todo fs (outer frames c.function) c.items (rest_of frames) → Ready fs (leave frames c)
  left [] c e t = subst (λ (frames : List Frame). Todo fs c.function c.items frames) (sym e) t
  left (frame ∷ frames) c e t = t

  acted : (i : Item) (c : Config) → Of fs c.function i → Todo fs (function_after i c.frames c.function) c.items (frames_after i c.frames) → Ready fs (act fs i c)
  acted (Push z) c o t = t
  acted (Read v) c o t = t
  acted (Elem a) c o t = t
  acted (Op site) c o t = t
  acted (Write v) c o t = t
  acted (WriteElem a) c o t = t
  acted Result c o t = t
  acted (Choose x y) c o t = items_todo fs c.function o.k o.known (chosen _ x y) (chosen_fine fs c.function o.k o.known _ x y o.fits.0 o.fits.1) c.items c.frames t
  acted (While e zero s) c o t = t
  acted (While e (suc n) s) c o t =
      let again : Block = Stmt.Enter then append s (Stmt.While e n s then done) in
      let fits : AllFine fs c.function o.k again = (tt, append_fine fs c.function o.k o.known s (Stmt.While e n s then done) o.fits.1 (o.fits, tt)) in
      expr_todo fs c.function o.k o.known e o.fits.0 (Choose again done ∷ c.items) c.frames (of fs c.function o.k o.known (Choose again done) (fits, tt), t)
  acted (Repeat zero s) c o t = t
  acted (Repeat (suc n) s) c o t = (
    of fs c.function o.k o.known Enter tt,
    items_todo fs c.function o.k o.known s o.fits (Repeat n s ∷ c.items) c.frames (of fs c.function o.k o.known (Repeat n s) o.fits, t),
  )
  acted Enter c o t = t
  acted (Call place) c o t =
      let r = place_arity fs c.function o.k o.known place o.fits.0 o.fits.1 in
      let frames : List Frame = record { function = c.function; store = c.store } ∷ c.frames in
      rw (r.callee_is, r.kernel_is)
      (items_todo fs r.g r.k r.kernel_is (block_of r.k.body) (fine fs linked r.g r.k r.kernel_is) (Leave ∷ c.items) frames
      (of fs r.g r.k r.kernel_is Leave tt, t))
  acted Leave c o t = left c.frames c refl t

  -- a right step leaves what fits
  stepped : (is : List Item) (c : Config) → Ready fs c → Todo fs c.function is c.frames → Ready fs (right_by fs is c)
  stepped [] c h t = h
  stepped (i ∷ is) c h t = acted i (record c { items = is }) t.0 t.1

  -- and so do more
  pub all_ready : (n : ℕ) (c : Config) → Ready fs c → AllByRecursion (Ready fs) (passed fs n c)
  unfolding passed
  all_ready zero c h = tt
  all_ready (suc n) c h = (h, all_ready n (right fs c) (stepped c.items c h h))

  -- at the start of a function
  pub begin_ready : (f : ℕ) (k : Kernel) → slice_get fs f ≡ Some k → Todo fs f (items (block_of k.body) []) []
  begin_ready f k known = items_todo fs f k known (block_of k.body) (fine fs linked f k known) [] [] tt

  -- ---- labels and calls

  one_label : (f : ℕ) (is : List Item) (frames : List Frame) → Todo fs f is frames → (ms : List (ℕ × Label)) → AllByRecursion (LabelFits fs) ms
      → AllByRecursion (LabelFits fs) (cons_option (label_of (moment_of f is)) ms)
  one_label f [] frames t ms h = h
  one_label f (Push z ∷ is) frames t ms h = h
  one_label f (Read v ∷ is) frames t ms h = (record { k = t.0.k; known = t.0.known; fits = t.0.fits }, h)
  one_label f (Elem a ∷ is) frames t ms h = (record { k = t.0.k; known = t.0.known; fits = t.0.fits }, h)
  one_label f (Op site ∷ is) frames t ms h = (record { k = t.0.k; known = t.0.known; fits = t.0.fits }, h)
  one_label f (Write v ∷ is) frames t ms h = (record { k = t.0.k; known = t.0.known; fits = t.0.fits }, h)
  one_label f (WriteElem a ∷ is) frames t ms h = (record { k = t.0.k; known = t.0.known; fits = t.0.fits }, h)
  one_label f (Result ∷ is) frames t ms h = h
  one_label f (Choose x y ∷ is) frames t ms h = h
  one_label f (While e n s ∷ is) frames t ms h = h
  one_label f (Repeat n s ∷ is) frames t ms h = h
  one_label f (Enter ∷ is) frames t ms h = h
  one_label f (Call place ∷ is) frames t ms h = h
  one_label f (Leave ∷ is) frames t ms h = h

  -- the labels of the run are in range
  pub all_labels : (cs : List Config) → AllByRecursion (Ready fs) cs → AllByRecursion (LabelFits fs) (filter_map (λ d. label_of (moment d)) cs)
  all_labels [] h = tt
  all_labels (c ∷ cs) h = one_label c.function c.items c.frames h.0 (filter_map (λ d. label_of (moment d)) cs) (all_labels cs h.1)

  -- the last function is never called
  pub last_not_called : (last f : ℕ) (is : List Item) (frames : List Frame) → length fs ≡ suc last → Todo fs f is frames → option_map_or (λ g. g == last) (called fs f is) false ≡ false
  last_not_called last f [] frames e t = refl
  last_not_called last f (Push z ∷ is) frames e t = refl
  last_not_called last f (Read v ∷ is) frames e t = refl
  last_not_called last f (Elem a ∷ is) frames e t = refl
  last_not_called last f (Op site ∷ is) frames e t = refl
  last_not_called last f (Write v ∷ is) frames e t = refl
  last_not_called last f (WriteElem a ∷ is) frames e t = refl
  last_not_called last f (Result ∷ is) frames e t = refl
  last_not_called last f (Choose x y ∷ is) frames e t = refl
  last_not_called last f (While c n s ∷ is) frames e t = refl
  last_not_called last f (Repeat n s ∷ is) frames e t = refl
  last_not_called last f (Enter ∷ is) frames e t = refl
  last_not_called last f (Call place ∷ is) frames e t =
      let o = t.0 in
      let r = place_arity fs f o.k o.known place o.fits.0 o.fits.1 in
      let earlier : r.g < f = o.fits.1.2.earlier in
      let within : f < length fs = slice_get_within fs f o.k o.known in
      rw r.callee_is (ne_eqb r.g last (λ same. absurd (omega (arith, earlier, within, e, same))))
  last_not_called last f (Leave ∷ is) frames e t = refl
