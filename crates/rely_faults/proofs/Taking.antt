-- A trial takes the generator's next words, as many as it counts.
use Rattle.std.proofs.Common.{◌≡◌, ℕ, zero, suc, ◌+◌, ◌%◌, Bool, true, false, List, [], ◌∷◌, sym, ap, ◌∙◌, arith}
use Rattle.std.specs.Prelude.{if◌then◌else◌, nat_lt, ◌==◌}
use Rattle.rand_pcg.specs.Lcg.{Lcg, advance, next}
use Rattle.rand_pcg.specs.Pcg.{multiplier_128, pcg64}
use Rattle.rand_pcg.proofs.LcgLemmas.{advance_more, advance_zero}
use Rattle.rely_num.specs.Bounds.{S}
use Rattle.rely_kernel.specs.declared.kernel.Kernel.{Kernel}
use Rattle.rely_kernel.specs.declared.label.Label.{Label}
use Rattle.rely_kernel.specs.Machine.{Moment, Over, Exact, Chance, moment}
use Rattle.rely_kernel.specs.Rates.{right_of}
use Rattle.rely_faults.specs.Laws.{WordsAreTaken}
use Rattle.rely_faults.specs.Trial.{Trying, draw, first, no_word, one_word, tried, tried_after, tried_by, two_words}

-- the generator after n words
abbrev pub behind : ℕ → Lcg → Lcg
behind n g = advance 128 multiplier_128 n g

pub behind_next : (n : ℕ) (g : Lcg) → behind n (next 128 multiplier_128 g) ≡ behind (suc n) g
behind_next n g = advance_more 128 multiplier_128 n g ∙ (let e : n + 1 ≡ suc n = omega arith in ap (λ m. behind m g) e)

pub behind_none : (g : Lcg) → behind 0 g ≡ g
behind_none g = advance_zero 128 multiplier_128 g

behind_both : (n m : ℕ) (g : Lcg) → behind m (behind n g) ≡ behind (n + m) g
behind_both zero m g = ap (behind m) (behind_none g) ∙ (let e : m ≡ 0 + m = omega arith in ap (λ i. behind i g) e)
behind_both (suc n) m g =
    ap (behind m) (sym (behind_next n g))
    ∙ (behind_both n m (next 128 multiplier_128 g)
    ∙ (behind_next (n + m) g ∙ (let e : suc (n + m) ≡ suc n + m = omega arith in ap (λ i. behind i g) e)))

-- what is drawn stands behind as many
pub drawn_behind : (p : ℕ) (g : Lcg) → (draw p g).words ≡ behind (draw p g).taken g
unfolding draw
drawn_behind p g = by_tests (p == S) (nat_lt ((pcg64 g).0 % S) p)
  where
    one : next 128 multiplier_128 g ≡ behind 1 g
    one = sym (behind_none (next 128 multiplier_128 g)) ∙ behind_next 0 g

    by_tests : (a b : Bool) → ((if a then no_word else if b then one_word else two_words) g).words ≡ behind ((if a then no_word else if b then one_word else two_words) g).taken g
    by_tests true b = sym (behind_none g)
    by_tests false true = one
    by_tests false false =
        sym (behind_none (next 128 multiplier_128 (next 128 multiplier_128 g))) ∙ (behind_next 0 (next 128 multiplier_128 g) ∙ behind_next 1 g)

module _ (p : Label → ℕ) (fs : List Kernel) (g : Lcg) where
  behind_by : (m : Moment) (x : Trying) → x.words ≡ behind x.taken g → (tried_by p fs m x).words ≡ behind (tried_by p fs m x).taken g
  behind_by Over x e = e
  behind_by Exact x e = e
  behind_by (Chance f l) x e =
      drawn_behind (p l) x.words ∙ (ap (behind (draw (p l) x.words).taken) e ∙ behind_both x.taken (draw (p l) x.words).taken g)

  behind_after : (n : ℕ) (x : Trying) → x.words ≡ behind x.taken g → (tried_after p fs n x).words ≡ behind (tried_after p fs n x).taken g
  unfolding tried_after
  behind_after zero x e = e
  behind_after (suc n) x e = behind_after n (tried p fs x) (behind_by (moment x.config) x e)

pub words_are_taken : WordsAreTaken
words_are_taken k h t start words n = behind_after (right_of h k t) (k ∷ []) words n (first k start words) (sym (behind_none words))
