-- A trial over a list of words: it is determined by them, and over a generator's next words it is the generator's.
use Rattle.std.proofs.Common.{◌≡◌, ℕ, zero, suc, ◌+◌, ◌%◌, Bool, true, false, List, [], ◌∷◌, ◌++◌, length, Option, Some, None, refl, sym, ap, subst, ◌∙◌, arith}
use Rattle.std.specs.Prelude.{if◌then◌else◌, nat_lt, option_and_then, option_map, ◌==◌}
use Rattle.std.proofs.lemmas.List.{append-nil, length-append}
use Rattle.rand_pcg.specs.Lcg.{Lcg, next}
use Rattle.rand_pcg.specs.Pcg.{pcg64}
use Rattle.rely_num.specs.Bounds.{S}
use Rattle.rely_hard.specs.declared.hardware.Hardware.{Hardware}
use Rattle.rely_kernel.specs.declared.kernel.Kernel.{Kernel}
use Rattle.rely_kernel.specs.declared.label.Label.{Label}
use Rattle.rely_kernel.specs.declared.setting.Setting.{Setting}
use Rattle.rely_kernel.specs.declared.setting.Store.{Store}
use Rattle.rely_kernel.specs.Machine.{Config, Item, IsFinished, Moment, Over, Exact, Chance, cost_of, moment, moment_of}
use Rattle.rely_kernel.specs.Rates.{right_of}
use Rattle.rely_faults.specs.declared.outcome.Tried.{Tried}
use Rattle.rely_faults.specs.Laws.{MoreWordsAreLeft, OneTrial, WordsAreGenerated}
use Rattle.rely_faults.specs.Listed.{Chanced, IsListed, Listed, by_word, chanced, comes_right, comes_wrong, goes_on, listed, listed_after, listed_by, listed_first, words_of}
use Rattle.rely_faults.specs.Trial.{IsTried, Trying, draw, first, no_word, one_word, tried, tried_after, tried_by, tried_steps, tried_through, two_words}
use Rattle.rely_faults.proofs.Determined.{same_fields, steps_each}
use Rattle.rely_faults.proofs.Following.{not_over}
use Rattle.rely_faults.proofs.Taking.{behind, behind_next, behind_none, drawn_behind, words_are_taken}

some_is : {X : Type 0} {x y : X} → Some x ≡ Some y → x ≡ y
some_is e = cc

-- ---- more words behind those that are read

module _ (more : List ℕ) where
  abbrev chanced_too : Chanced → Chanced
  chanced_too d = record d { left = d.left ++ more }

  abbrev too : Listed → Listed
  too x = record x { words = x.words ++ more }

  wrong_too : (words : List ℕ) (d : Chanced) → comes_wrong words ≡ Some d → comes_wrong (words ++ more) ≡ Some (chanced_too d)
  wrong_too [] d e = absurd (cc)
  wrong_too (n ∷ words) d e = ap (option_map chanced_too) e

  read_too : (b : Bool) (words : List ℕ) (d : Chanced) → (if b then comes_right else comes_wrong) words ≡ Some d
      → (if b then comes_right else comes_wrong) (words ++ more) ≡ Some (chanced_too d)
  read_too true words d e = ap (option_map chanced_too) e
  read_too false words d e = wrong_too words d e

  word_too : (p : ℕ) (words : List ℕ) (d : Chanced) → by_word p words ≡ Some d → by_word p (words ++ more) ≡ Some (chanced_too d)
  word_too p [] d e = absurd (cc)
  word_too p (word ∷ words) d e = read_too (nat_lt (word % S) p) words d e

  chanced_by : (b : Bool) (p : ℕ) (words : List ℕ) (d : Chanced) → (if b then comes_right else by_word p) words ≡ Some d
      → (if b then comes_right else by_word p) (words ++ more) ≡ Some (chanced_too d)
  chanced_by true p words d e = ap (option_map chanced_too) e
  chanced_by false p words d e = word_too p words d e

  module _ (p : Label → ℕ) (fs : List Kernel) where
    chance_too : (f : ℕ) (l : Label) (x y : Listed) (o : Option Chanced) → chanced (p l) x.words ≡ o → option_map (λ d. goes_on fs x d.wrong d.left) o ≡ Some y
        → option_map (λ d. goes_on fs (too x) d.wrong d.left) (chanced (p l) (x.words ++ more)) ≡ Some (too y)
    chance_too f l x y None read e = absurd (cc)
    chance_too f l x y (Some d) read e =
        ap (option_map (λ d. goes_on fs (too x) d.wrong d.left)) (chanced_by (p l == S) (p l) x.words d read) ∙ ap (option_map too) e

    step_too : (m : Moment) (x y : Listed) → listed_by p fs m x ≡ Some y → listed_by p fs m (too x) ≡ Some (too y)
    step_too Over x y e = ap (option_map too) e
    step_too Exact x y e = ap (option_map too) e
    step_too (Chance f l) x y e = chance_too f l x y (chanced (p l) x.words) refl e

    after_by : (n : ℕ) (x y : Listed) → ((z : Listed) → listed_after p fs n z ≡ Some y → listed_after p fs n (too z) ≡ Some (too y))
        → (o : Option Listed) → listed p fs x ≡ o → option_and_then (listed_after p fs n) o ≡ Some y → option_and_then (listed_after p fs n) (listed p fs (too x)) ≡ Some (too y)
    after_by n x y next None step e = absurd (cc)
    after_by n x y next (Some z) step e = ap (option_and_then (listed_after p fs n)) (step_too (moment x.config) x z step) ∙ next z e

    pub after_too : (n : ℕ) (x y : Listed) → listed_after p fs n x ≡ Some y → listed_after p fs n (too x) ≡ Some (too y)
    unfolding listed_after
    after_too zero x y e = ap (option_map too) e
    after_too (suc n) x y e = after_by n x y (λ z h. after_too n z y h) (listed p fs x) refl e

long_append : (xs ys : List ℕ) (n m : ℕ) → length xs ≡ n + m → length (xs ++ ys) ≡ n + (m + length ys)
long_append xs ys n m e = let h = length-append xs ys in omega (arith, h, e)

pub more_words_are_left : MoreWordsAreLeft
more_words_are_left k h t start words left more o a = record {
  n = a.n;
  end = a.end;
  leads = after_too more (right_of h k t) (k ∷ []) a.n (listed_first k start words) (record { config = a.end; words = left; steps = o.steps }) a.leads;
  over = a.over;
  store = a.store;
  taken = long_append words more o.words (length left) a.taken ∙ ap (λ n. o.words + n) (sym (length-append left more));
}

-- ---- one outcome

module _ (p : Label → ℕ) (fs : List Kernel) where
  stopped_by : (is : List Item) (f : ℕ) (x : Listed) → is ≡ [] → listed_by p fs (moment_of f is) x ≡ Some x
  stopped_by is f x over = rw over refl

  stays : (n : ℕ) (x : Listed) → IsFinished x.config → listed_after p fs n x ≡ Some x
  unfolding listed_after
  stays zero x over = refl
  stays (suc n) x over = ap (option_and_then (listed_after p fs n)) (stopped_by x.config.items x.config.function x over) ∙ stays n x over

  same_by : (m n : ℕ) (y z : Listed) → ((x : Listed) → listed_after p fs m x ≡ Some y → listed_after p fs n x ≡ Some z → y ≡ z)
      → (o : Option Listed) → option_and_then (listed_after p fs m) o ≡ Some y → option_and_then (listed_after p fs n) o ≡ Some z → y ≡ z
  same_by m n y z next None e f = absurd (cc)
  same_by m n y z next (Some x) e f = next x e f

  same_end : (m n : ℕ) (x y z : Listed) → listed_after p fs m x ≡ Some y → IsFinished y.config → listed_after p fs n x ≡ Some z → IsFinished z.config → y ≡ z
  unfolding listed_after
  same_end zero n x y z e over f also =
      some_is (sym e ∙ (sym (stays n x (subst (λ (w : Listed). IsFinished w.config) (sym (some_is e)) over)) ∙ f))
  same_end (suc m) zero x y z e over f also =
      some_is (sym e ∙ (stays (suc m) x (subst (λ (w : Listed). IsFinished w.config) (sym (some_is f)) also) ∙ f))
  same_end (suc m) (suc n) x y z e over f also = same_by m n y z (λ w g j. same_end m n w y z g over j also) (listed p fs x) e f

abbrev ended : Config → List ℕ → ℕ → Listed
ended c ws n = record { config = c; words = ws; steps = n }

same_sum : (a b c n : ℕ) → n ≡ a + c → n ≡ b + c → a ≡ b
same_sum a b c n e f = omega (arith, e, f)

module _ (k : Kernel) (h : Hardware) (t : Setting) (start : Store) (words left left' : List ℕ) (o o' : Tried) (a : IsListed k h t start words o left) (b : IsListed k h t start words o' left') where
  ends : ended a.end left o.steps ≡ ended b.end left' o'.steps
  ends = same_end (right_of h k t) (k ∷ []) a.n b.n (listed_first k start words) (ended a.end left o.steps) (ended b.end left' o'.steps) a.leads a.over b.leads b.over

  same_left : left ≡ left'
  same_left = ap (λ (x : Listed). x.words) ends

  agree : (o ≡ o') × (left ≡ left')
  agree = (
    same_fields o o'
        (a.store ∙ (ap (λ (x : Listed). x.config.store) ends ∙ sym b.store))
        (ap (λ (x : Listed). x.steps) ends)
        (same_sum o.words o'.words (length left') (length words) (a.taken ∙ ap (λ (ws : List ℕ). o.words + length ws) same_left) b.taken),
    same_left,
  )

pub one_trial : OneTrial
one_trial k h t start words left left' o o' a b = agree k h t start words left left' o o' a b

-- ---- the words of a generator

words_both : (n m : ℕ) (g : Lcg) → words_of (n + m) g ≡ words_of n g ++ words_of m (behind n g)
unfolding words_of
words_both zero m g = (let e : 0 + m ≡ m = omega arith in ap (λ i. words_of i g) e) ∙ ap (words_of m) (sym (behind_none g))
words_both (suc n) m g =
    (let e : suc n + m ≡ suc (n + m) = omega arith in ap (λ i. words_of i g) e)
    ∙ (ap (λ (ws : List ℕ). (pcg64 g).0 ∷ ws) (words_both n m (pcg64 g).1)
    ∙ ap (λ (b : Lcg). words_of (suc n) g ++ words_of m b) (behind_next n g))

words_long : (n : ℕ) (g : Lcg) → length (words_of n g) ≡ n
unfolding words_of
words_long zero g = refl
words_long (suc n) g = ap suc (words_long n (pcg64 g).1)

-- a chance step reads what the generator gives it
drawn_read : (q : ℕ) (g : Lcg) (more : List ℕ) → chanced q (words_of (draw q g).taken g ++ more) ≡ Some (record { wrong = (draw q g).wrong; left = more })
unfolding draw words_of
drawn_read q g more = by_tests (q == S) (nat_lt ((pcg64 g).0 % S) q) refl
  where
    by_tests : (a b : Bool) → nat_lt ((pcg64 g).0 % S) q ≡ b
        → (if a then comes_right else by_word q) (words_of ((if a then no_word else if b then one_word else two_words) g).taken g ++ more)
        ≡ Some (record { wrong = ((if a then no_word else if b then one_word else two_words) g).wrong; left = more })
    by_tests true b e = refl
    by_tests false true e = rw e refl
    by_tests false false e = rw e refl

module _ (p : Label → ℕ) (fs : List Kernel) where
  -- how many words a step takes
  abbrev takes_by : Moment → Trying → ℕ
  takes_by Over x = 0
  takes_by Exact x = 0
  takes_by (Chance f l) x = (draw (p l) x.words).taken

  -- and n steps
  unfoldable takes : ℕ → Trying → ℕ
  takes zero x = 0
  takes (suc n) x = takes_by (moment x.config) x + takes n (tried p fs x)

  adds_words : (m : Moment) (x : Trying) → (tried_by p fs m x).taken ≡ x.taken + takes_by m x
  adds_words Over x = omega arith
  adds_words Exact x = omega arith
  adds_words (Chance f l) x = refl

  taken_is : (n : ℕ) (x : Trying) → (tried_after p fs n x).taken ≡ x.taken + takes n x
  unfolding tried_after takes
  taken_is zero x = omega arith
  taken_is (suc n) x = let h = taken_is n (tried p fs x) in let j = adds_words (moment x.config) x in omega (arith, h, j)

  stands_behind : (m : Moment) (x : Trying) → (tried_by p fs m x).words ≡ behind (takes_by m x) x.words
  stands_behind Over x = sym (behind_none x.words)
  stands_behind Exact x = sym (behind_none x.words)
  stands_behind (Chance f l) x = drawn_behind (p l) x.words

  costless : (is : List Item) (f : ℕ) → moment_of f is ≡ Over → cost_of fs f is ≡ 0
  costless [] f e = refl
  costless (i ∷ rest) f e = absurd (not_over i rest f e)

  abbrev at : Trying → List ℕ → ℕ → Listed
  at x ws s = record { config = x.config; words = ws; steps = s }

  abbrev cost : Trying → ℕ
  cost x = cost_of fs x.config.function x.config.items

  step_reads : (m : Moment) (x : Trying) (more : List ℕ) (s : ℕ) → moment x.config ≡ m
      → listed_by p fs m (at x (words_of (takes_by m x) x.words ++ more) s) ≡ Some (at (tried_by p fs m x) more (s + cost x))
  unfolding words_of
  step_reads Over x more s e =
      let none = costless x.config.items x.config.function e in
      let same : s ≡ s + cost x = omega (arith, none) in
      ap (λ n. Some (at x more n)) same
  step_reads Exact x more s e = refl
  step_reads (Chance f l) x more s e =
      ap (option_map (λ d. goes_on fs (at x (words_of (draw (p l) x.words).taken x.words ++ more) s) d.wrong d.left)) (drawn_read (p l) x.words more)

  append_both : (xs ys zs : List ℕ) → (xs ++ ys) ++ zs ≡ xs ++ (ys ++ zs)
  append_both [] ys zs = refl
  append_both (x ∷ xs) ys zs = ap (λ (ws : List ℕ). x ∷ ws) (append_both xs ys zs)

  reads : (n : ℕ) (x : Trying) (more : List ℕ) (s : ℕ)
      → listed_after p fs n (at x (words_of (takes n x) x.words ++ more) s) ≡ Some (at (tried_after p fs n x) more (s + tried_steps p fs n x))
  unfolding listed_after takes tried_after tried_through words_of
  reads zero x more s = let same : s ≡ s + 0 = omega arith in ap (λ n. Some (at x more n)) same
  reads (suc n) x more s =
      let d : ℕ = takes_by (moment x.config) x in
      let y : Trying = tried p fs x in
      let rest : List ℕ = words_of (takes n y) y.words ++ more in
      let split : words_of (d + takes n y) x.words ++ more ≡ words_of d x.words ++ rest =
      ap (λ (ws : List ℕ). ws ++ more) (words_both d (takes n y) x.words)
      ∙ (append_both (words_of d x.words) (words_of (takes n y) (behind d x.words)) more
      ∙ ap (λ (b : Lcg). words_of d x.words ++ (words_of (takes n y) b ++ more)) (sym (stands_behind (moment x.config) x))) in
      let steps = steps_each p fs n x in
      let sum : s + cost x + tried_steps p fs n y ≡ s + tried_steps p fs (suc n) x = omega (arith, steps) in
      ap (λ (ws : List ℕ). option_and_then (listed_after p fs n) (listed p fs (at x ws s))) split
      ∙ (ap (option_and_then (listed_after p fs n)) (step_reads (moment x.config) x rest s refl)
      ∙ (reads n y more (s + cost x)
      ∙ ap (λ i. Some (at (tried_after p fs n y) more i)) sum))

module _ (k : Kernel) (h : Hardware) (t : Setting) (start : Store) (g left : Lcg) (o : Tried) where
  abbrev rate : Label → ℕ
  rate = right_of h k t

  abbrev alone : List Kernel
  alone = k ∷ []

  abbrev x : Trying
  x = first k start g

  abbrev words_taken : ℕ → ℕ
  words_taken n = takes rate alone n x

  taken_in : (n : ℕ) → (tried_after rate alone n x).taken ≡ words_taken n
  taken_in n = let e = taken_is rate alone n x in omega (arith, e)

  -- over as many words and more, from no steps
  reads_first : (n : ℕ) (more : List ℕ)
      → listed_after rate alone n (listed_first k start (words_of (words_taken n) g ++ more)) ≡ Some (at rate alone (tried_after rate alone n x) more (tried_steps rate alone n x))
  reads_first n more =
      let none : 0 + tried_steps rate alone n x ≡ tried_steps rate alone n x = omega arith in
      reads rate alone n x more 0 ∙ ap (λ s. Some (at rate alone (tried_after rate alone n x) more s)) none

  module _ (a : IsTried k h t start g o left) where
    as_many : words_taken a.n ≡ o.words
    as_many = sym (taken_in a.n) ∙ ap (λ (y : Trying). y.taken) a.leads

    over_words : words_of (words_taken a.n) g ++ [] ≡ words_of o.words g
    over_words = append-nil (words_of (words_taken a.n) g) ∙ ap (λ n. words_of n g) as_many

    is_listed : IsListed k h t start (words_of o.words g) o []
    is_listed = record {
      n = a.n;
      end = a.end;
      leads = ap (λ (ws : List ℕ). listed_after rate alone a.n (listed_first k start ws)) (sym over_words)
          ∙ (reads_first a.n []
          ∙ (ap (λ (y : Trying). Some (at rate alone y [] (tried_steps rate alone a.n x))) a.leads
          ∙ ap (λ s. Some (ended a.end [] s)) (sym a.steps)));
      over = a.over;
      store = a.store;
      taken = words_long o.words g ∙ (let e : o.words ≡ o.words + 0 = omega arith in e);
    }

    stands_left : left ≡ behind o.words g
    stands_left =
        ap (λ (y : Trying). y.words) (sym a.leads)
        ∙ (words_are_taken k h t start g a.n
        ∙ ap (λ (y : Trying). behind y.taken g) a.leads)

  module _ (a : IsListed k h t start (words_of o.words g) o []) (leaves : left ≡ behind o.words g) where
    abbrev T : ℕ
    T = words_taken a.n

    -- over the words of both, in either order
    both : words_of o.words g ++ words_of T (behind o.words g) ≡ words_of T g ++ words_of o.words (behind T g)
    both = sym (words_both o.words T g) ∙ ((let e : o.words + T ≡ T + o.words = omega arith in ap (λ n. words_of n g) e) ∙ words_both T o.words g)

    found : record { config = a.end; words = words_of T (behind o.words g); steps = o.steps } ≡ at rate alone (tried_after rate alone a.n x) (words_of o.words (behind T g)) (tried_steps rate alone a.n x)
    found = some_is (
        sym (after_too (words_of T (behind o.words g)) rate alone a.n (listed_first k start (words_of o.words g)) (record { config = a.end; words = []; steps = o.steps }) a.leads)
        ∙ (ap (λ (ws : List ℕ). listed_after rate alone a.n (listed_first k start ws)) both ∙ reads_first a.n (words_of o.words (behind T g)))
        )

    same_taken : T ≡ o.words
    same_taken =
        sym (words_long T (behind o.words g))
        ∙ (ap (λ (y : Listed). length y.words) found ∙ words_long o.words (behind T g))

    counted : (tried_after rate alone a.n x).taken ≡ o.words
    counted = taken_in a.n ∙ same_taken

    stands : (tried_after rate alone a.n x).words ≡ left
    stands = words_are_taken k h t start g a.n ∙ (ap (λ n. behind n g) counted ∙ sym leaves)

    is_tried : IsTried k h t start g o left
    is_tried = record {
      n = a.n;
      end = a.end;
      leads = ap (λ (c : Config). record { config = c; words = (tried_after rate alone a.n x).words; taken = (tried_after rate alone a.n x).taken }) (sym (ap (λ (y : Listed). y.config) found))
          ∙ (ap (λ (w : Lcg). record { config = a.end; words = w; taken = (tried_after rate alone a.n x).taken }) stands
          ∙ ap (λ n. record { config = a.end; words = left; taken = n }) counted);
      over = a.over;
      store = a.store;
      steps = ap (λ (y : Listed). y.steps) found;
    }

pub words_are_generated : WordsAreGenerated
words_are_generated k h t start g left o = (
  λ a. (is_listed k h t start g left o a, stands_left k h t start g left o a),
  λ a. is_tried k h t start g left o a.0 a.1,
)
