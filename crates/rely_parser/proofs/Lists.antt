-- Laws of the readers of lists with commas.
use Rattle.std.proofs.Common.{◌≡◌, ℕ, zero, suc, ◌+◌, ◌-◌, ◌<◌, List, [], ◌∷◌, ◌++◌, length, map, Ok, Err, refl, ap, arith}
use Rattle.rely_num.specs.Texts.{Bytes}
use Rattle.rely_parser.specs.declared.fault.ParseFault.{ParseFault}
use Rattle.rely_parser.specs.declared.fault.ParseFault.TheVariants as fault
use Rattle.rely_parser.specs.State.{State, Reading, Read, ◌>>=◌, skip_at}
use Rattle.rely_parser.specs.Grammar.{expr_at}
use Rattle.rely_parser.specs.Statements.{more_of, list_of, args_at}

-- the shapes, and then the others
abbrev pub front : {A B : Type 0} → (A → B) → List A → List B → List B
front f [] b = b
front f (x ∷ xs) b = f x ∷ front f xs b

abbrev pub with_front : {A B : Type 0} → (A → B) → List A → Reading (List B × State) → Reading (List B × State)
with_front f xs o = o >>= λ y. Ok (front f xs y.0, y.1)

pub front-ended : {A B : Type 0} (f : A → B) (xs : List A) → front f xs [] ≡ map f xs
front-ended f [] = refl
front-ended f (x ∷ xs) = ap (λ b. f x ∷ b) (front-ended f xs)

pub front-push : {A B : Type 0} (f : A → B) (xs : List A) (x : A) (b : List B) → front f (xs ++ x ∷ []) b ≡ front f xs (f x ∷ b)
front-push f [] x b = refl
front-push f (y ∷ xs) x b = ap (λ z. f y ∷ z) (front-push f xs x b)

pub with_front-push : {A B : Type 0} (f : A → B) (xs : List A) (x : A) (o : Reading (List B × State)) →
    with_front f (xs ++ x ∷ []) o ≡ with_front f xs (o >>= λ y. Ok (f x ∷ y.0, y.1))
with_front-push f xs x (Err e) = refl
with_front-push f xs x (Ok y) = ap (λ b. Ok (b, y.1)) (front-push f xs x y.0)

pub with_front-none : {A B : Type 0} (f : A → B) (o : Reading (List B × State)) → with_front f [] o ≡ o
with_front-none f (Err e) = refl
with_front-none f (Ok y) = refl

pub front-last : {A B : Type 0} (f : A → B) (xs : List A) (x : A) → front f xs (f x ∷ []) ≡ map f (xs ++ x ∷ [])
front-last f [] x = refl
front-last f (y ∷ xs) x = ap (λ b. f y ∷ b) (front-last f xs x)

pub list_of-end : {A : Type 0} (item : Read A) (s e : State) → skip_at 41 s ≡ Ok e → list_of item s ≡ Ok ([], e)
unfolding list_of
list_of-end item s e h = rw h refl

-- an element and what is behind it, where the tokens behind the element say how many may follow
abbrev pub next_of : {A : Type 0} → Read A → (ℕ → ℕ) → Read (List A)
next_of item f s = item s >>= λ x. more_of item (f (length x.1.toks)) x.1 >>= λ y. Ok (x.0 ∷ y.0, y.1)

pub list_of-next : {A : Type 0} (item : Read A) (s : State) (m : ParseFault) → skip_at 41 s ≡ Err m →
    next_of item (λ n. n + 1) s ≡ list_of item s
unfolding list_of
list_of-next item s m h = rw h refl

pub more_of-end : {A : Type 0} (item : Read A) (n : ℕ) (s : State) (m : ParseFault) (e : State) → 0 < n → skip_at 44 s ≡ Err m → skip_at 41 s ≡ Ok e → more_of item n s ≡ Ok ([], e)
unfolding more_of
more_of-end item zero s m e l h i = absurd (omega arith)
more_of-end item (suc n) s m e l h i = rw (more_of, h, i) refl

pub more_of-bad : {A : Type 0} (item : Read A) (n : ℕ) (s : State) (m e : ParseFault) → 0 < n → skip_at 44 s ≡ Err m → skip_at 41 s ≡ Err e → more_of item n s ≡ Err e
unfolding more_of
more_of-bad item zero s m e l h i = absurd (omega arith)
more_of-bad item (suc n) s m e l h i = rw (more_of, h, i) refl

pub more_of-next : {A : Type 0} (item : Read A) (n : ℕ) (s a : State) → 0 < n → skip_at 44 s ≡ Ok a →
    next_of item (λ _. n - 1) a ≡ more_of item n s
unfolding more_of
more_of-next item zero s a l h = absurd (omega arith)
more_of-next item (suc n) s a l h = let m : suc n - 1 ≡ n = omega arith in rw (m, more_of, h) refl

pub next_of-none : {A : Type 0} (item : Read A) (f : ℕ → ℕ) (s : State) (e : ParseFault) → item s ≡ Err e →
    next_of item f s ≡ Err e
next_of-none item f s e i = rw i refl

pub next_of-end : {A : Type 0} (item : Read A) (f : ℕ → ℕ) (s : State) (x : A) (r : State) (m : ParseFault) (e : State) →
    item s ≡ Ok (x, r) → 0 < f (length r.toks) → skip_at 44 r ≡ Err m → skip_at 41 r ≡ Ok e → next_of item f s ≡ Ok (x ∷ [], e)
next_of-end item f s x r m e i l h j = rw (i, more_of-end item (f (length r.toks)) r m e l h j) refl

pub next_of-bad : {A : Type 0} (item : Read A) (f : ℕ → ℕ) (s : State) (x : A) (r : State) (m e : ParseFault) →
    item s ≡ Ok (x, r) → 0 < f (length r.toks) → skip_at 44 r ≡ Err m → skip_at 41 r ≡ Err e → next_of item f s ≡ Err e
next_of-bad item f s x r m e i l h j = rw (i, more_of-bad item (f (length r.toks)) r m e l h j) refl

pub next_of-more : {A : Type 0} (item : Read A) (f : ℕ → ℕ) (s : State) (x : A) (r a : State) →
    item s ≡ Ok (x, r) → 0 < f (length r.toks) → skip_at 44 r ≡ Ok a →
    (next_of item (λ _. f (length r.toks) - 1) a >>= λ y. Ok (x ∷ y.0, y.1)) ≡ next_of item f s
next_of-more item f s x r a i l h = rw i (ap (λ o. o >>= λ y. Ok (x ∷ y.0, y.1)) (more_of-next item (f (length r.toks)) r a l h))

pub args_at-zero : (text : Bytes) (d p : ℕ) (s : State) → d ≡ 0 → args_at text d p s ≡ Err (fault.Deep p)
unfolding args_at
args_at-zero text zero p s h = refl
args_at-zero text (suc d) p s h = absurd (omega arith)

pub args_at-inside : (text : Bytes) (d p : ℕ) (s : State) → 0 < d → args_at text d p s ≡ list_of (expr_at text (d - 1)) s
unfolding args_at
args_at-inside text zero p s h = absurd (omega arith)
args_at-inside text (suc d) p s h = let o : suc d - 1 ≡ d = omega arith in rw o refl

pub ruleset lists = (args_at-zero, args_at-inside)
