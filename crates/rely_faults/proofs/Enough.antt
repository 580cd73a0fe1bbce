-- Enough words end a trial: each step takes two at most, and some weight off what is still to do.
use Rattle.std.proofs.Common.{◌≡◌, ◌≢◌, ℕ, zero, suc, ◌+◌, ◌%◌, ◌<◌, ◌≤◌, Bool, true, false, List, [], ◌∷◌, length, Some, None, refl, sym, ap, ◌∙◌, arith}
use Rattle.std.specs.Prelude.{nat_lt, option_and_then, option_map, ◌==◌, ◌-◌}
use Rattle.std.specs.Int.{w64, cast_signed}
use Rattle.rely_num.specs.Bounds.{S}
use Rattle.rely_kernel.specs.declared.kernel.Kernel.{Kernel}
use Rattle.rely_kernel.specs.declared.label.Label.{Label}
use Rattle.rely_kernel.specs.Machine.{Item, IsFinished, Moment, Over, Exact, Chance, items, moment, moment_of}
use Rattle.rely_kernel.specs.Rates.{right_of}
use Rattle.rely_kernel.specs.Text.{block_of}
use Rattle.rely_faults.specs.Laws.{EnoughWordsEnd}
use Rattle.rely_faults.specs.Listed.{Chanced, Listed, chanced, goes_on, listed_after, listed_by, listed_first}
use Rattle.rely_faults.proofs.Finishing.{successor_lighter, weight}
use Rattle.rely_faults.proofs.Following.{not_over}

-- ---- two words are enough for a step

pub record Draws (q : ℕ) (words : List ℕ) : Type 0 where
  pub chance : Chanced
  pub is : chanced q words ≡ Some chance
  pub two : length words ≤ 2 + length chance.left
  pub fewer : length chance.left ≤ length words

draws : (q : ℕ) (words : List ℕ) → 2 ≤ length words → Draws q words
draws q [] many = absurd (omega (arith, many))
draws q (w ∷ []) many = absurd (omega (arith, many))
draws q (w ∷ v ∷ words) many = by_tests (q == S) (nat_lt (w % S) q) refl refl
  where
    by_tests : (a b : Bool) → (q == S) ≡ a → nat_lt (w % S) q ≡ b → Draws q (w ∷ v ∷ words)
    by_tests true b e f = record { chance = record { wrong = None; left = w ∷ v ∷ words }; is = rw e refl; two = omega arith; fewer = omega arith }
    by_tests false true e f = record { chance = record { wrong = None; left = v ∷ words }; is = rw (e, f) refl; two = omega arith; fewer = omega arith }
    by_tests false false e f = record { chance = record { wrong = Some (cast_signed w64 v); left = words }; is = rw (e, f) refl; two = omega arith; fewer = omega arith }

module _ (k : Kernel) (none : k.calls ≡ []) (p : Label → ℕ) where
  abbrev alone : List Kernel
  alone = k ∷ []

  -- ---- one step

  record Steps (m : Moment) (x : Listed) : Type 0 where
    next : Listed
    is : listed_by p alone m x ≡ Some next
    lighter : weight next.config.items < weight x.config.items
    two : length x.words ≤ 2 + length next.words
    fewer : length next.words ≤ length x.words

  steps_by : (i : Item) (rest : List Item) (x : Listed) → x.config.items ≡ i ∷ rest → 2 ≤ length x.words → (m : Moment) → m ≢ Over → Steps m x
  steps_by i rest x e many Over some = absurd (some refl)
  steps_by i rest x e many Exact some = record {
    next = goes_on alone x None x.words;
    is = refl;
    lighter = successor_lighter k none i rest None x.config e;
    two = omega arith;
    fewer = omega arith;
  }
  steps_by i rest x e many (Chance f l) some =
      let d = draws (p l) x.words many in
      record {
        next = goes_on alone x d.chance.wrong d.chance.left;
        is = ap (option_map (λ c. goes_on alone x c.wrong c.left)) d.is;
        lighter = successor_lighter k none i rest d.chance.wrong x.config e;
        two = d.two;
        fewer = d.fewer;
      }

  steps : (i : Item) (rest : List Item) (x : Listed) → x.config.items ≡ i ∷ rest → 2 ≤ length x.words → Steps (moment x.config) x
  steps i rest x e many = steps_by i rest x e many (moment x.config) (λ over. not_over i rest x.config.function (sym (ap (moment_of x.config.function) e) ∙ over))

  -- ---- to the end

  pub record HasEnd (x : Listed) : Type 0 where
    pub n : ℕ
    pub end : Listed
    pub leads : listed_after p alone n x ≡ Some end
    pub over : IsFinished end.config
    pub fewer : length end.words ≤ length x.words

  ends_at_once : (x : Listed) → x.config.items ≡ [] → HasEnd x
  unfolding listed_after
  ends_at_once x e = record { n = 0; end = x; leads = refl; over = e; fewer = omega arith }

  ends_later : (x : Listed) (s : Steps (moment x.config) x) → HasEnd s.next → HasEnd x
  unfolding listed_after
  ends_later x s h = record {
    n = suc h.n;
    end = h.end;
    leads = ap (option_and_then (listed_after p alone h.n)) s.is ∙ h.leads;
    over = h.over;
    fewer = let a = h.fewer in let b = s.fewer in omega (arith, a, b);
  }

  ends_by : (fuel : ℕ) (x : Listed) → weight x.config.items < suc fuel → fuel + fuel ≤ length x.words
      → ((y : Listed) → weight y.config.items < fuel → fuel ≤ suc (length y.words) → fuel + fuel ≤ 2 + length y.words → HasEnd y)
      → (is : List Item) → x.config.items ≡ is → HasEnd x
  ends_by fuel x below many goes [] e = ends_at_once x e
  ends_by zero x below many goes (i ∷ rest) e = absurd (let h = successor_lighter k none i rest None x.config e in omega (arith, h, below))
  ends_by (suc fuel) x below many goes (i ∷ rest) e =
      let s = steps i rest x e (omega (arith, many)) in
      let lighter = s.lighter in
      let two = s.two in
      ends_later x s (goes s.next (omega (arith, lighter, below)) (omega (arith, two, many)) (omega (arith, two, many)))

  ends_within : (fuel : ℕ) (x : Listed) → weight x.config.items < suc fuel → fuel + fuel ≤ length x.words → HasEnd x
  ends_within zero x below many = ends_by zero x below many (λ y less a b. absurd (omega (arith, less))) x.config.items refl
  ends_within (suc fuel) x below many =
      ends_by (suc fuel) x below many (λ y less a b. ends_within fuel y less (omega (arith, b))) x.config.items refl

-- as many as the difference, and those that are left
rest_of : (n m : ℕ) → m ≤ n → n ≡ (n - m) + m
rest_of n m h = omega (arith, h)

pub enough_words_end : EnoughWordsEnd
enough_words_end k none =
    let many : ℕ = weight (items (block_of k.body) []) in (
      many + many,
      λ h t start words enough.
          let end = ends_within k none (right_of h k t) many (listed_first k start words) (omega arith) enough in (
            record { store = end.end.config.store; steps = end.end.steps; words = length words - length end.end.words },
            end.end.words,
            record {
              n = end.n;
              end = end.end.config;
              leads = end.leads;
              over = end.over;
              store = refl;
              taken = rest_of (length words) (length end.end.words) end.fewer;
            },
          ),
    )
