-- Work over a shelf, one step after another.
use Rattle.std.proofs.Common.{◌≡◌, ℕ, zero, suc, ◌<◌, ◌≤◌, Bool, true, false, nat_lt, [], ◌∷◌, ◌++◌, length, Option, Some, None, Result, Ok, Err, refl, sym, ap, subst, ◌∙◌, arith, append_assoc, append-nil, Bor, inl, inr}
use Rattle.std.specs.Prelude.{if◌then◌else◌}
use Rattle.std.proofs.lemmas.Bool.{ltb-true, ltb-false}
use Rattle.rely_num.specs.Texts.{Bytes}
use Rattle.chisel_outside.specs.Outside.{Fetches, Log, Told}
use Rattle.chisel_outside.specs.declared.shelf.Fetched.{Fetched}
use Rattle.chisel_outside.specs.declared.shelf.Fetched.TheVariants.{Whole, Longer, Failed, Memory}
use Rattle.chisel_lines.specs.declared.fault.Fault.{Fault}
use Rattle.chisel_lines.specs.declared.fault.Fault.TheVariants as fault
use Rattle.chisel_lines.specs.declared.refusal.Refusal.{Refusal}
use Rattle.chisel_lines.specs.Faults.{Stop, NoForm, TooLong, Refused}
use Rattle.chisel_files.specs.Files.{bytes_of, file, within}
use Rattle.chisel_files.specs.Refused.{fault_on, stopped_by}
use Rattle.chisel_files.specs.Works.{Comes, Content, Did, Done, Open, Work, Works, follow, ◌then◌}

-- ---- one work after another

did_memory : {A : Type 0} (held : Bytes → Option Content) (w : Work A) → Did held w [] (Err fault.Memory)
did_memory held (Done x) = (refl, tt)
did_memory held (Open name next) = inl (refl, refl)

-- over a shelf that holds the same
did_same : {A : Type 0} (held now : Bytes → Option Content) (w : Work A) (p : Log) (r : Result A Fault) → ((n : Bytes) → now n ≡ held n) → Did now w p r → Did held w p r
did_same held now (Done x) p r same d = d
did_same held now (Open name next) p r same (inl m) = inl m
did_same held now (Open name next) p r same (inr (inl f)) = inr (inl f)
did_same held now (Open name next) p r same (inr (inr (bytes, rest, grew, told, d))) =
    inr (inr (bytes, rest, grew, subst (λ o. Told o (λ c. c ≡ Some bytes)) (same name) told, did_same held now (next (Some bytes)) rest r same d))

fault_is : {A B : Type 0} (f g : Fault) → ◌≡◌ {A = Result A Fault} (Err f) (Err g) → ◌≡◌ {A = Result B Fault} (Err f) (Err g)
fault_is f g e = let same : f ≡ g = cc in ap Err same

ok_fails : {A : Type 0} (a : A) (f : Fault) → ◌≡◌ {A = Result A Fault} (Ok a) (Err f) → ⊥
ok_fails a f e = cc

did_then : {A B : Type 0} (held : Bytes → Option Content) (w : Work A) (f : A → Work B) (p q : Log) (a : A) (r : Result B Fault)
    → Did held w p (Ok a) → Did held (f a) q r → Did held (w then f) (p ++ q) r
did_then {A = A} held (Done x) f p q a r d e =
    subst (λ (y : Result A Stop). Did held (follow y f) (p ++ q) r) (sym d.1) (subst (λ (l : Log). Did held (f a) (l ++ q) r) (sym d.0) e)
did_then held (Open name next) f p q a r (inl m) e = absurd (ok_fails a fault.Memory m.1)
did_then held (Open name next) f p q a r (inr (inl m)) e = absurd (ok_fails a (fault.Read m.1.0) m.1.2)
did_then held (Open name next) f p q a r (inr (inr (bytes, rest, grew, told, d))) e =
    inr (inr (bytes, rest ++ q, ap (λ l. l ++ q) grew, told, did_then held (next (Some bytes)) f rest q a r d e))

-- a stop is what follows it too
stop_follows : {A B : Type 0} (held : Bytes → Option Content) (x : Result A Stop) (f : A → Work B) (s : Stop) (r : Result B Fault) → x ≡ Err s → Comes (Err s) r → Did held (follow x f) [] r
stop_follows held x f s r e c = subst (λ y. Did held (follow y f) [] r) (sym e) (refl, c)

done_stop : {A B : Type 0} (held : Bytes → Option Content) (x : Result A Stop) (f : A → Work B) (g : Fault) → Comes {A = A} x (Err g) → Did {A = B} held (follow x f) [] (Err g)
done_stop held x f fault.Words c = stop_follows held x f NoForm (Err fault.Words) c refl
done_stop held x f (fault.Read name) c = absurd c
done_stop held x f (fault.Length name limit) c = stop_follows held x f (TooLong name.now limit) (Err (fault.Length name limit)) c refl
done_stop held x f (fault.Refused r) c = stop_follows held x f (Refused (Some r)) (Err (fault.Refused r)) c refl
done_stop held x f fault.Memory c = did_memory held (follow x f)

did_stop : {A B : Type 0} (held : Bytes → Option Content) (w : Work A) (f : A → Work B) (p : Log) (g : Fault) → Did {A = A} held w p (Err g) → Did {A = B} held (w then f) p (Err g)
did_stop held (Done x) f p g d = subst (λ (l : Log). Did held (follow x f) l (Err g)) (sym d.0) (done_stop held x f g d.1)
did_stop held (Open name next) f p g (inl m) = inl (m.0, fault_is g fault.Memory m.1)
did_stop held (Open name next) f p g (inr (inl m)) = inr (inl (m.0, (m.1.0, m.1.1, fault_is g (fault.Read m.1.0) m.1.2)))
did_stop held (Open name next) f p g (inr (inr (bytes, rest, grew, told, d))) = inr (inr (bytes, rest, grew, told, did_stop held (next (Some bytes)) f rest g d))

-- ---- from one log to another

pub works_same : {A : Type 0} (held now : Bytes → Option Content) (old new : Log) (w : Work A) (r : Result A Fault) → ((n : Bytes) → now n ≡ held n) → Works now old new w r → Works held old new w r
works_same held now old new w r same x = record { pairs = x.pairs; grew = x.grew; did = did_same held now w x.pairs r same x.did }

pub works_done : {A : Type 0} (held : Bytes → Option Content) (log : Log) (x : Result A Stop) (r : Result A Fault) → Comes x r → Works held log log (Done x) r
works_done held log x r c = record { pairs = []; grew = sym (append-nil log); did = (refl, c) }

pub works_then : {A B : Type 0} (held : Bytes → Option Content) (old mid new : Log) (w : Work A) (f : A → Work B) (a : A) (r : Result B Fault)
    → Works held old mid w (Ok a) → Works held mid new (f a) r → Works held old new (w then f) r
works_then held old mid new w f a r x y = record {
  pairs = x.pairs ++ y.pairs;
  grew = y.grew ∙ ap (λ l. l ++ y.pairs) x.grew ∙ append_assoc old x.pairs y.pairs;
  did = did_then held w f x.pairs y.pairs a r x.did y.did;
}

pub works_stop : {A B : Type 0} (held : Bytes → Option Content) (old new : Log) (w : Work A) (f : A → Work B) (g : Fault) → Works {A = A} held old new w (Err g) → Works {A = B} held old new (w then f) (Err g)
works_stop held old new w f g x = record { pairs = x.pairs; grew = x.grew; did = did_stop held w f x.pairs g x.did }

-- a step that fetches nothing and goes on
pub works_goes : {A B : Type 0} (held : Bytes → Option Content) (old new : Log) (x : Result A Stop) (f : A → Work B) (a : A) (r : Result B Fault) → x ≡ Ok a → Works held old new (f a) r → Works held old new (Done x then f) r
works_goes held old new x f a r e w = subst (λ y. Works held old new (follow y f) r) (sym e) w

-- one that ends it
pub works_ends : {A B : Type 0} (held : Bytes → Option Content) (log : Log) (x : Result A Stop) (f : A → Work B) (g : Fault) → Comes {A = A} x (Err g) → Works {A = B} held log log (Done x then f) (Err g)
works_ends held log x f g c = works_stop held log log (Done x) f g (works_done held log x (Err g) c)

-- and the last one, behind a work that is done
pub works_last : {A B : Type 0} (held : Bytes → Option Content) (old new : Log) (w : Work A) (f : A → Work B) (a : A) (y : Result B Stop) (r : Result B Fault) → Works held old new w (Ok a) → f a ≡ Done y → Comes y r → Works held old new (w then f) r
works_last held old new w f a y r x e c = works_then held old new new w f a r x (subst (λ v. Works held new new v r) (sym e) (works_done held new y r c))

-- ---- a fetch

-- a file within its limit
is_within : (name : Bytes) (limit : ℕ) (bytes : Bytes) → length bytes ≤ limit → within name limit (Some bytes) ≡ Ok bytes
is_within name limit bytes h = by_test (nat_lt limit (length bytes)) refl
  where
    by_test : (b : Bool) → nat_lt limit (length bytes) ≡ b → (if b then Err (TooLong name limit) else Ok bytes) ≡ Ok bytes
    by_test false e = refl
    by_test true e = absurd (let f = ltb-true limit (length bytes) e in omega (arith, h, f))

-- and one beyond it
is_beyond : (name : Bytes) (limit : ℕ) (bytes : Bytes) → limit < length bytes → within name limit (Some bytes) ≡ Err (TooLong name limit)
is_beyond name limit bytes h = by_test (nat_lt limit (length bytes)) refl
  where
    by_test : (b : Bool) → nat_lt limit (length bytes) ≡ b → (if b then Err (TooLong name limit) else Ok bytes) ≡ Err (TooLong name limit)
    by_test true e = refl
    by_test false e = absurd (let f = ltb-false limit (length bytes) e in omega (arith, h, f))

abbrev zeros : ℕ → Bytes
zeros zero = []
zeros (suc n) = 0 ∷ zeros n

zeros_long : (n : ℕ) → length (zeros n) ≡ n
zeros_long zero = refl
zeros_long (suc n) = ap suc (zeros_long n)

-- what may be held by a shelf whose file is longer
beyond : (held : Option Content) (limit : ℕ) → Told held (λ h. (bytes : Bytes) × (h ≡ Some bytes) × (limit < length bytes)) → (bytes : Bytes) × Told held (λ h. h ≡ Some bytes) × (limit < length bytes)
beyond None limit t = (zeros (suc limit), tt, let long = zeros_long (suc limit) in omega (arith, long))
beyond (Some h) limit t = t

pub works_fetch : (held : Bytes → Option Content) (name : Bor Bytes) (limit : ℕ) (old new : Log) (given : Fetched) → Fetches (held name.now) name.now limit old new given
    → Works held old new (file name.now limit) (bytes_of name limit given)
works_fetch held name limit old new (Whole bytes) p =
    record { pairs = (name.now, false) ∷ []; grew = p.2; did = inr (inr (bytes, [], refl, p.1, (refl, is_within name.now limit bytes p.0))) }
works_fetch held name limit old new Longer p =
    let h = beyond (held name.now) limit p.0 in
    record { pairs = (name.now, false) ∷ []; grew = p.1; did = inr (inr (h.0, [], refl, h.1, (refl, is_beyond name.now limit h.0 h.2))) }
works_fetch held name limit old new Failed p = record { pairs = (name.now, true) ∷ []; grew = p; did = inr (inl (refl, (name, refl, refl))) }
works_fetch held name limit old new Memory p = record { pairs = []; grew = p ∙ sym (append-nil old); did = inl (refl, refl) }

-- ---- refusals

-- a refusal of a layer below, or its want of memory
pub refused_comes : {A E : Type 0} (refusal : E → Option Refusal) (x : Result A E) (e : E) → x ≡ Err e → Comes {A = A} (stopped_by refusal x) (Err (fault_on (refusal e)))
refused_comes {A = A} refusal x e is = subst (λ y. Comes {A = A} (stopped_by refusal y) (Err (fault_on (refusal e)))) (sym is) (by_line (refusal e))
  where
    by_line : (o : Option Refusal) → Comes {A = A} (Err (Refused o)) (Err (fault_on o))
    by_line (Some r) = refl
    by_line None = tt

pub memory_comes : {A E : Type 0} (refusal : E → Option Refusal) (x : Result A E) (e : E) → refusal e ≡ None → Comes {A = A} (stopped_by refusal x) (Err (fault_on (refusal e)))
memory_comes {A = A} refusal x e is = subst (λ o. Comes {A = A} (stopped_by refusal x) (Err (fault_on o))) (sym is) tt
