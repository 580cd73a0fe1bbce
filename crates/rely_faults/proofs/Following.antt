-- Each step of a trial is the right one or a wrong one.
use Rattle.std.proofs.Common.{◌≡◌, ◌≢◌, ℕ, zero, suc, ◌+◌, ℤ, List, [], ◌∷◌, length, get_or, drop, Option, Some, None, inl, inr, refl, sym, ap, subst, ◌∙◌, arith}
use Rattle.std.specs.Prelude.{slice_set}
use Rattle.std.proofs.lemmas.List.Elements.{All-from_recursion}
use Rattle.rely_kernel.specs.declared.kernel.Kernel.{Kernel}
use Rattle.rely_kernel.specs.declared.label.Label.{Label}
use Rattle.rely_kernel.specs.declared.setting.Store.{Store}
use Rattle.rely_kernel.specs.Bound.{HasShape, IsStart}
use Rattle.rely_kernel.specs.Machine.{Config, Item, Push, Read, Elem, Op, Write, WriteElem, Result, Choose, While, Repeat, Enter, Call, Leave, Moment, Over, Exact, Chance, begin, cell, moment, moment_of, right, right_by, top, with_cell}
use Rattle.rely_kernel.specs.Meaning.{written_at}
use Rattle.rely_kernel.specs.Rates.{right_of}
use Rattle.rely_kernel.specs.Text.{block_of}
use Rattle.rely_kernel.specs.Valid.{IsValid}
use Rattle.rely_kernel.specs.Wrong.{WrongBy}
use Rattle.rely_kernel.proofs.Fine.{written_fits, written_long}
use Rattle.rely_kernel.proofs.Numbers.{Fits}
use Rattle.rely_kernel.proofs.Shape.{cell_fits}
use Rattle.rely_faults.specs.Laws.{EachStepFollows, Follows}
use Rattle.rely_faults.specs.Trial.{Trying, draw, first, successor, tried, tried_after, tried_by, wrong_by}
use Rattle.rely_faults.proofs.Ending.{alone_fine}
use Rattle.rely_faults.proofs.Keeping.{Sound, block_fine, drawn_fits, fs, right_sound_by, wrong_sound_by}
use Rattle.rely_faults.proofs.Walking.{after_more}

-- ---- cells written twice

set_twice : (rows : List (List ℤ)) (v : ℕ) (xs ys : List ℤ) → slice_set (slice_set rows v xs) v ys ≡ slice_set rows v ys
set_twice [] v xs ys = refl
set_twice (r ∷ rs) zero xs ys = refl
set_twice (r ∷ rs) (suc v) xs ys = ap (λ rows. r ∷ rows) (set_twice rs v xs ys)

cell_twice : (s : Store) (v : ℕ) (xs ys : List ℤ) → with_cell s v ys ≡ with_cell (with_cell s v xs) v ys
cell_twice s v xs ys = ap (λ rows. record s { cells = rows }) (sym (set_twice s.cells v xs ys))

as_long : (rows : List (List ℤ)) (v : ℕ) (xs : List ℤ) → length xs ≡ length (get_or rows v []) → length (get_or (slice_set rows v xs) v []) ≡ length (get_or rows v [])
as_long [] v xs e = refl
as_long (r ∷ rs) zero xs e = e
as_long (r ∷ rs) (suc v) xs e = as_long rs v xs e

-- ---- a wrong number is a wrong step

module _ (k : Kernel) (c : Config) (shape : HasShape k c.store) (z : ℤ) (fits : Fits z) where
  is_wrong_by : (is : List Item) (f g : ℕ) (l : Label) → moment_of f is ≡ Chance g l → WrongBy is (right_by (fs k) is c) (wrong_by is z c (right_by (fs k) is c))
  is_wrong_by [] f g l e = absurd (cc)
  is_wrong_by (Push n ∷ rest) f g l e = absurd (cc)
  is_wrong_by (Read v ∷ rest) f g l e = (z, fits, refl)
  is_wrong_by (Elem a ∷ rest) f g l e = (z, fits, refl)
  is_wrong_by (Op site ∷ rest) f g l e = (z, fits, refl)
  is_wrong_by (Write v ∷ rest) f g l e =
      let d : Config = right_by (fs k) (Write v ∷ rest) c in
      (z, fits, ap (λ (s : Store). record d { store = s }) (cell_twice c.store v (top c.stack ∷ []) (z ∷ [])))
  is_wrong_by (WriteElem a ∷ rest) f g l e =
      let d : Config = right_by (fs k) (WriteElem a ∷ rest) c in
      let old = cell c.store a in
      let i = top (drop 1 c.stack) in
      let kept = written_at old i (top c.stack) in (
        written_at old i z,
        All-from_recursion Fits (written_at old i z) (written_fits old i z (cell_fits k c.store a shape) fits),
        written_long old i z ∙ sym (as_long c.store.cells a kept (written_long old i (top c.stack))),
        ap (λ (s : Store). record d { store = s }) (cell_twice c.store a kept (written_at old i z)),
      )
  is_wrong_by (Result ∷ rest) f g l e = absurd (cc)
  is_wrong_by (Choose x y ∷ rest) f g l e = absurd (cc)
  is_wrong_by (While e2 n x ∷ rest) f g l e = absurd (cc)
  is_wrong_by (Repeat n x ∷ rest) f g l e = absurd (cc)
  is_wrong_by (Enter ∷ rest) f g l e = absurd (cc)
  is_wrong_by (Call place ∷ rest) f g l e = absurd (cc)
  is_wrong_by (Leave ∷ rest) f g l e = absurd (cc)

pub not_over : (i : Item) (rest : List Item) (f : ℕ) → moment_of f (i ∷ rest) ≢ Over
not_over (Push n) rest f e = absurd (cc)
not_over (Read v) rest f e = absurd (cc)
not_over (Elem a) rest f e = absurd (cc)
not_over (Op site) rest f e = absurd (cc)
not_over (Write v) rest f e = absurd (cc)
not_over (WriteElem a) rest f e = absurd (cc)
not_over Result rest f e = absurd (cc)
not_over (Choose x y) rest f e = absurd (cc)
not_over (While e2 n x) rest f e = absurd (cc)
not_over (Repeat n x) rest f e = absurd (cc)
not_over Enter rest f e = absurd (cc)
not_over (Call place) rest f e = absurd (cc)
not_over Leave rest f e = absurd (cc)

-- ---- along a trial

module _ (k : Kernel) (p : Label → ℕ) where
  right_stays_by : (c : Config) (is : List Item) (f : ℕ) → moment_of f is ≡ Over → right_by (fs k) is c ≡ c
  right_stays_by c [] f e = refl
  right_stays_by c (i ∷ rest) f e = absurd (not_over i rest f e)

  module _ (x : Trying) (sound : Sound k x.config) where
    right_sound : Sound k (right (fs k) x.config)
    right_sound = right_sound_by k x.config sound.stack sound.shape x.config.items sound.items sound.items

    drawn_sound : (l : Label) (o : Option ℤ) → (draw (p l) x.words).wrong ≡ o → Sound k (successor (fs k) o x.config)
    drawn_sound l None e = right_sound
    drawn_sound l (Some z) e =
        wrong_sound_by k x.config sound.stack sound.shape z (drawn_fits (p l) x.words z e) x.config.items sound.items (right (fs k) x.config) right_sound

    sound_by : (m : Moment) → Sound k (tried_by p (fs k) m x).config
    sound_by Over = sound
    sound_by Exact = right_sound
    sound_by (Chance f l) = drawn_sound l (draw (p l) x.words).wrong refl

    drawn_follows : (f : ℕ) (l : Label) → moment x.config ≡ Chance f l → (o : Option ℤ) → (draw (p l) x.words).wrong ≡ o → Follows k x.config (successor (fs k) o x.config)
    drawn_follows f l m None e = inl refl
    drawn_follows f l m (Some z) e = inr (is_wrong_by k x.config sound.shape z (drawn_fits (p l) x.words z e) x.config.items x.config.function f l m)

    follows_by : (m : Moment) → moment x.config ≡ m → Follows k x.config (tried_by p (fs k) m x).config
    follows_by Over e = inl (sym (right_stays_by x.config x.config.items x.config.function e))
    follows_by Exact e = inl refl
    follows_by (Chance f l) e = drawn_follows f l e (draw (p l) x.words).wrong refl

    follows : Follows k x.config (tried p (fs k) x).config
    follows = follows_by (moment x.config) refl

  sound_after : (n : ℕ) (x : Trying) → Sound k x.config → Sound k (tried_after p (fs k) n x).config
  unfolding tried_after
  sound_after zero x sound = sound
  sound_after (suc n) x sound = sound_after n (tried p (fs k) x) (sound_by x sound (moment x.config))

  follows_at : (n m : ℕ) → suc n ≡ m → (x : Trying) → Sound k x.config → Follows k (tried_after p (fs k) n x).config (tried_after p (fs k) m x).config
  follows_at n m e x sound =
      subst (λ i. Follows k (tried_after p (fs k) n x).config (tried_after p (fs k) i x).config) e
      (subst (λ (y : Trying). Follows k (tried_after p (fs k) n x).config y.config) (sym (after_more p (fs k) n x))
      (follows (tried_after p (fs k) n x) (sound_after n x sound)))

start_sound : (k : Kernel) (start : Store) → IsValid k → k.calls ≡ [] → IsStart k start → Sound k (begin k 0 start)
start_sound k start valid none begins = record { items = block_fine k (block_of k.body) [] (alone_fine k none valid) tt; stack = tt; shape = begins.shape }

pub each_step_follows : EachStepFollows
each_step_follows k h t start words n valid none begins =
    follows_at k (right_of h k t) n (n + 1) (omega arith) (first k start words) (start_sound k start valid none begins)
