-- What holds of what is read, if something is.
use Rattle.std.proofs.Common.{◌≡◌, Bool, true, false, Ok, Err, if◌then◌else◌, refl, subst}
use Rattle.rely_parser.specs.declared.fault.ParseFault.{ParseFault}
use Rattle.rely_parser.specs.State.{Reading, ◌>>=◌, choose}

-- what is read has the property, if something is
pub record On {A : Type 0} (r : Reading A) (P : A → Type 0) : Type 0 where
  pub at : (a : A) → r ≡ Ok a → P a

pub on-ok : {A : Type 0} (P : A → Type 0) (a : A) → P a → On (Ok a) P
on-ok P a p = record { at = λ b e. let same : a ≡ b = cc in subst P same p }

pub on-err : {A : Type 0} (P : A → Type 0) (f : ParseFault) → On (Err f) P
on-err P f = record { at = λ b e. absurd (cc) }

-- one reader behind another
pub on-then : {A B : Type 0} {P : A → Type 0} (r : Reading A) (next : A → Reading B) (Q : B → Type 0) →
    On r P → ((a : A) → P a → On (next a) Q) → On (r >>= next) Q
on-then (Ok a) next Q h k = k a (h.at a refl)
on-then (Err f) next Q h k = on-err Q f

-- one reader, or another
pub on-choose : {A B : Type 0} {P : A → Type 0} (r : Reading A) (read : A → Reading B) (other : Reading B) (Q : B → Type 0) →
    On r P → ((a : A) → P a → On (read a) Q) → On other Q → On (choose r read other) Q
on-choose (Ok a) read other Q h k o = k a (h.at a refl)
on-choose (Err f) read other Q h k o = o

-- what else follows
pub on-map : {A : Type 0} {P : A → Type 0} (r : Reading A) (Q : A → Type 0) → On r P → ((a : A) → P a → Q a) → On r Q
on-map r Q h k = record { at = λ a e. k a (h.at a e) }

-- one of two, by a test
pub on-if : {A : Type 0} (b : Bool) (x y : Reading A) (Q : A → Type 0) → (b ≡ true → On x Q) → (b ≡ false → On y Q) → On (if b then x else y) Q
on-if true x y Q p q = p refl
on-if false x y Q p q = q refl
