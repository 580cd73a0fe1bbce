-- Laws of the readers of items in order.
use Rattle.std.proofs.Common.{◌≡◌, ℕ, zero, suc, ◌+◌, ◌<◌, List, [], ◌∷◌, ◌++◌, Ok, Err, refl, ap, ◌∙◌, arith, append_assoc, append-nil}
use Rattle.chisel_cert.specs.declared.fault.CertFault.{CertFault}
use Rattle.chisel_cert.specs.State.{State, Reading, Read, ◌>>=◌, each_at, behind}

pub behind_none : {A : Type 0} (o : Reading (List A × State)) → behind [] o ≡ o
behind_none (Err e) = refl
behind_none (Ok x) = refl

behind-push : {A : Type 0} (xs : List A) (x : A) (o : Reading (List A × State)) → behind (xs ++ x ∷ []) o ≡ behind xs (o >>= λ y. Ok (x ∷ y.0, y.1))
behind-push xs x (Err e) = refl
behind-push xs x (Ok y) = ap (λ l. Ok (l, y.1)) (append_assoc xs (x ∷ []) y.0)

-- behind the last item
pub each_end : {A : Type 0} (item : Read A) (n : ℕ) (xs : List A) (s : State) → n ≡ 0 → behind xs (each_at item n s) ≡ Ok (xs, s)
unfolding each_at
each_end item zero xs s h = ap (λ l. Ok (l, s)) (append-nil xs)
each_end item (suc n) xs s h = absurd (omega arith)

-- an item that isn't read
pub each_fails : {A : Type 0} (item : Read A) (n : ℕ) (xs : List A) (s : State) (e : CertFault) → 0 < n → item s ≡ Err e → behind xs (each_at item n s) ≡ Err e
unfolding each_at
each_fails item zero xs s e l h = absurd (omega arith)
each_fails item (suc n) xs s e l h = rw h refl

-- one item more
pub each_more : {A : Type 0} (item : Read A) (n m : ℕ) (xs : List A) (x : A) (s r : State) → m + 1 ≡ n → item s ≡ Ok (x, r) →
    behind (xs ++ x ∷ []) (each_at item m r) ≡ behind xs (each_at item n s)
unfolding each_at
each_more item zero m xs x s r l h = absurd (omega arith)
each_more item (suc n) m xs x s r l h =
    let same : m ≡ n = omega arith in
    rw h (behind-push xs x (each_at item m r) ∙ ap (λ k. behind xs (each_at item k r >>= λ y. Ok (x ∷ y.0, y.1))) same)
