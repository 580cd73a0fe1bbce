-- What is read keeps the rules of hardware.
use Rattle.std.proofs.Common.{◌≡◌, ℕ, ◌+◌, ◌≤◌, Bool, true, false, not, ◌||◌, ◌==◌, nat_lt, map, List, [], ◌∷◌, ◌++◌, length, take, codes, IsTrue, Option, Some, None, Result, Ok, Err, if◌then◌else◌, refl, ap, sym, subst, arith}
use Rattle.std.specs.Prelude.{IfOk, option_and_then}
use Rattle.std.specs.List.{AllByRecursion, list_any}
use Rattle.std.specs.Result.{result_ok}
use Rattle.std.proofs.lemmas.Bool.{false≢true, ltb-false}
use Rattle.std.proofs.lemmas.List.{length-append}
use Rattle.serde_json.specs.Data.{Data, Items, no_items, item}
use Rattle.serde_json.specs.Find.{get, as_number, as_u64}
use Rattle.rely_num.specs.AttoTexts.{atto_of, formed, within_one, attos_of, leaves_at}
use Rattle.rely_num.specs.Bounds.{S}
use Rattle.rely_num.specs.Ops.{is_op, op_of}
use Rattle.rely_num.specs.Texts.{Bytes, is_name, is_among, AreDistinct}
use Rattle.rely_num.specs.declared.atto.NumFault.{NumFault}
use Rattle.rely_num.specs.declared.atto.NumFault.TheVariants as num
use Rattle.rely_num.specs.declared.op.Op.{Op as Operator}
use Rattle.rely_hard.specs.declared.fault.HardFault.{HardFault}
use Rattle.rely_hard.specs.declared.fault.HardWhy.{HardWhy}
use Rattle.rely_hard.specs.declared.fault.HardWhy.TheVariants.{Json, Missing, Kind, Range, Repeated, NoExact, Many}
use Rattle.rely_hard.specs.declared.fault.Key.TheVariants.{Root, Base, Operators, Op, Kinds, Memories, Name, Right, Energy, Read, Write, ReadEnergy, WriteEnergy, Hold}
use Rattle.rely_hard.specs.declared.hardware.Hardware.{Hardware}
use Rattle.rely_hard.specs.declared.hardware.KindSpec.{KindSpec}
use Rattle.rely_hard.specs.declared.hardware.MemSpec.{MemSpec}
use Rattle.rely_hard.specs.declared.hardware.OpSpec.{OpSpec}
use Rattle.rely_hard.specs.declared.place.Place.{Place}
use Rattle.rely_hard.specs.Valid.{IsLabel, KindFits, OperatorFits, MemoryFits, AreOnce, IsHardware}
use Rattle.rely_hard.specs.Meaning.{◌>>=◌, reading, place, must, unless, object_at, text_at, atto_at, base_at, energy_at, named_at, name_at, op_at, count_of, list_at, few_at, each_after, kind_at, has_exact_kind, kinds_at, operator_at, operators_at, memory_at, has_exact_memory, memories_at, hardware_from, hardware_of}
use Rattle.rely_hard.proofs.Distinct.{all_push, names_push, once_push, few_operators}
use Rattle.rely_hard.proofs.Lists.{each_after-more}

-- ---- steps

-- what a step gives goes on to the next
pub bind_ok : {A B : Type 0} (Q : A → Type 0) (P : B → Type 0) (r : Result A HardFault) (f : A → Result B HardFault) → IfOk r Q → ((a : A) → Q a → IfOk (f a) P) → IfOk (r >>= f) P
bind_ok Q P (Ok a) f h j = j a h
bind_ok Q P (Err e) f h j = tt

-- a step of which nothing is known
pub skip_ok : {A B : Type 0} (P : B → Type 0) (r : Result A HardFault) (f : A → Result B HardFault) → ((a : A) → IfOk (f a) P) → IfOk (r >>= f) P
skip_ok P (Ok a) f j = j a
skip_ok P (Err e) f j = tt

-- what passes
pub unless_ok : {A : Type 0} (P : A → Type 0) (bad : Bool) (why : HardWhy) (p : Place) (a : A) → (bad ≡ false → P a) → IfOk (unless bad why p a) P
unless_ok P true why p a h = tt
unless_ok P false why p a h = h refl

-- what is there
must_ok : (P : ℕ → Type 0) (why : HardWhy) (p : Place) (r : Result ℕ NumFault) → IfOk r P → IfOk (must why p (result_ok r)) P
must_ok P why p (Ok n) h = h
must_ok P why p (Err e) h = tt

-- two facts of one result
both_ok : {A : Type 0} (P Q : A → Type 0) (r : Result A HardFault) → IfOk r P → IfOk r Q → IfOk r (λ a. P a × Q a)
both_ok P Q (Ok a) h j = (h, j)
both_ok P Q (Err e) h j = tt

-- neither of two tests
left_false : (a b : Bool) → (a || b) ≡ false → a ≡ false
left_false true b h = h
left_false false b h = refl

right_false : (a b : Bool) → (a || b) ≡ false → b ≡ false
right_false true b h = absurd (false≢true (sym h))
right_false false b h = h

-- what isn't untrue
true_from_not : (b : Bool) → not b ≡ false → b ≡ true
true_from_not true h = refl
true_from_not false h = sym h

-- ---- fields

label : (text : Bytes) → (not (is_name text) || nat_lt 32 (length text)) ≡ false → IsLabel text
label text h = record {
  form = true_from_not (is_name text) (left_false (not (is_name text)) (nat_lt 32 (length text)) h);
  short = ltb-false 32 (length text) (right_false (not (is_name text)) (nat_lt 32 (length text)) h);
}

named_ok : (p : Place) (v : Option Data) → IfOk (named_at p v) IsLabel
unfolding named_at
named_ok p v = skip_ok IsLabel (text_at p v) _ (λ text. unless_ok IsLabel (not (is_name text) || nat_lt 32 (length text)) Range p text (label text))

-- a name that is new
abbrev IsNew : List Bytes → Bytes → Type 0
IsNew before name = IsLabel name × IsTrue (not (is_among name before))

name_ok : (before : List Bytes) (p : Place) (v : Option Data) → IfOk (name_at before p v) (IsNew before)
unfolding name_at
name_ok before p v = bind_ok IsLabel (IsNew before) (named_at p v) _ (named_ok p v) (λ name h. unless_ok (IsNew before) (is_among name before) Repeated p name (λ e. (h, ap not e)))

within_ok : (n : ℕ) → IfOk (within_one n) (λ a. a ≤ S)
within_ok n = go (nat_lt S n) refl
  where
    go : (b : Bool) → nat_lt S n ≡ b → IfOk {E = NumFault} (if b then Err num.Above else Ok n) (λ a. a ≤ S)
    go true e = tt
    go false e = ltb-false S n e

formed_ok : (text : Bytes) (o : Option ℕ) → IfOk (formed text o) (λ a. a ≤ S)
formed_ok text (Some n) = tt
formed_ok text None = go (nat_lt 20 (length text))
  where
    go : (b : Bool) → IfOk (if b then Err (num.Decimals 20) else within_one (attos_of text)) (λ a. a ≤ S)
    go true = tt
    go false = within_ok (attos_of text)

-- what a text writes is at most one
atto_of-le : (text : Bytes) → IfOk (atto_of text) (λ a. a ≤ S)
atto_of-le [] = tt
atto_of-le (b ∷ bs) = go (b == 43 || b == 45)
  where
    go : (signed : Bool) → IfOk (if signed then Err num.Sign else formed (b ∷ bs) (leaves_at 0 (take 20 (b ∷ bs)))) (λ a. a ≤ S)
    go true = tt
    go false = formed_ok (b ∷ bs) (leaves_at 0 (take 20 (b ∷ bs)))

atto_ok : (p : Place) (v : Option Data) → IfOk (atto_at p v) (λ a. a ≤ S)
unfolding atto_at
atto_ok p v = skip_ok (λ a. a ≤ S) (text_at p v) _ (λ text. must_ok (λ a. a ≤ S) Range p (atto_of text) (atto_of-le text))

abbrev IsBase : ℕ → Type 0
IsBase b = (500000000000000000 ≤ b) × (b ≤ 999999999000000000)

base_ok : (p : Place) (v : Option Data) → IfOk (base_at p v) IsBase
unfolding base_at
base_ok p v = skip_ok IsBase (atto_at p v) _ (λ b. unless_ok IsBase (nat_lt b 500000000000000000 || nat_lt 999999999000000000 b) Range p b (λ e.
    (ltb-false b 500000000000000000 (left_false (nat_lt b 500000000000000000) (nat_lt 999999999000000000 b) e), ltb-false 999999999000000000 b (right_false (nat_lt b 500000000000000000) (nat_lt 999999999000000000 b) e))))

energy_ok : (p : Place) (v : Option Data) → IfOk (energy_at p v) (λ n. n ≤ 1000000)
unfolding energy_at
energy_ok p v = skip_ok (λ n. n ≤ 1000000) (must Missing p v) _ (λ d. skip_ok (λ n. n ≤ 1000000) (must Kind p (option_and_then as_u64 (as_number d))) _ (λ n. unless_ok (λ n. n ≤ 1000000) (nat_lt 1000000 n) Range p n (ltb-false 1000000 n)))

-- an operator that is new
abbrev IsOther : List OpSpec → Operator → Type 0
IsOther before op = list_any (λ o. is_op op o.op) before ≡ false

op_ok : (before : List OpSpec) (p : Place) (v : Option Data) → IfOk (op_at before p v) (IsOther before)
unfolding op_at
op_ok before p v = skip_ok (IsOther before) (text_at p v) _ (λ text. skip_ok (IsOther before) (must Range p (op_of text)) _ (λ op. unless_ok (IsOther before) (list_any (λ o. is_op op o.op) before) Repeated p op (λ e. e)))

-- ---- lists

few_ok : (p : Place) (v : Option Data) → IfOk (few_at p v) (λ ds. count_of ds ≤ 32)
unfolding few_at
few_ok p v = skip_ok (λ ds. count_of ds ≤ 32) (list_at p v) _ (λ ds. unless_ok (λ ds. count_of ds ≤ 32) (nat_lt 32 (count_of ds)) Many p ds (ltb-false 32 (count_of ds)))

-- what each member keeps, the list keeps
each_ok : {A : Type 0} (P : List A → Type 0) (one : List A → Data → Result A HardFault) → ((before : List A) (d : Data) → P before → IfOk (one before d) (λ a. P (before ++ a ∷ []))) →
    (ds : Items) (before : List A) → P before → IfOk (each_after one before ds) P
each_ok P one step no_items before h = h
each_ok P one step (item d ds) before h = bind_ok (λ a. P (before ++ a ∷ [])) P (one before d) _ (step before d h) (λ a j. each_ok P one step ds (before ++ a ∷ []) j)

-- as many as there are members
each_length : {A : Type 0} (one : List A → Data → Result A HardFault) (ds : Items) (before : List A) → IfOk (each_after one before ds) (λ xs. length xs ≡ length before + count_of ds)
each_length one no_items before = omega arith
each_length {A} one (item d ds) before = skip_ok (λ xs. length xs ≡ length before + count_of (item d ds)) (one before d) _ (λ a. more (each_after one (before ++ a ∷ []) ds) (before ++ a ∷ []) (omega (arith, length-append before (a ∷ []))) (each_length one ds (before ++ a ∷ [])))
  where
    more : (r : Result (List A) HardFault) (next : List A) → length next ≡ length before + 1 → IfOk r (λ xs. length xs ≡ length next + count_of ds) → IfOk r (λ xs. length xs ≡ length before + count_of (item d ds))
    more (Ok xs) next e h = omega arith
    more (Err e) next h j = tt

-- ---- kinds

pub record KindsFit (ks : List KindSpec) : Type 0 where
  pub fit : AllByRecursion KindFits ks
  pub names : AreDistinct (map (λ k. k.name) ks)

kind_ok : (outer : ℕ) (before : List KindSpec) (d : Data) → KindsFit before → IfOk (kind_at outer before d) (λ k. KindsFit (before ++ k ∷ []))
unfolding kind_at
kind_ok outer before d h =
    let Fits : KindSpec → Type 0 = λ k. KindsFit (before ++ k ∷ []) in
    let names : List Bytes = map (λ k. k.name) before in
    skip_ok Fits (object_at (place Kinds outer (length before + 1)) d) _ (λ ms.
    bind_ok (IsNew names) Fits (name_at names (place Name outer (length before + 1)) (get (codes "name") d)) _ (name_ok names (place Name outer (length before + 1)) (get (codes "name") d)) (λ name is_new.
    bind_ok (λ a. a ≤ S) Fits (atto_at (place Right outer (length before + 1)) (get (codes "right") d)) _ (atto_ok (place Right outer (length before + 1)) (get (codes "right") d)) (λ right within.
    bind_ok (λ n. n ≤ 1000000) Fits (energy_at (place Energy outer (length before + 1)) (get (codes "energy") d)) _ (energy_ok (place Energy outer (length before + 1)) (get (codes "energy") d)) (λ energy small.
    let k : KindSpec = record { name = name; right = right; energy = energy } in
    record {
      fit = all_push KindFits before k h.fit (record { name = is_new.0; right = within; energy = small });
      names = names_push (λ k. k.name) before k h.names is_new.1;
    }))))

abbrev AreKinds : List KindSpec → Type 0
AreKinds ks = KindsFit ks × (length ks ≤ 32) × IsTrue (has_exact_kind ks)

kinds_ok : (outer : ℕ) (v : Option Data) → IfOk (kinds_at outer v) AreKinds
unfolding kinds_at
kinds_ok outer v =
    let none : KindsFit [] = record { fit = tt; names = tt } in
    bind_ok (λ ds. count_of ds ≤ 32) AreKinds (few_at (place Kinds outer 0) v) _ (few_ok (place Kinds outer 0) v) (λ ds few.
    bind_ok (λ ks. KindsFit ks × (length ks ≡ 0 + count_of ds)) AreKinds (each_after (kind_at outer) [] ds) _
    (both_ok KindsFit (λ ks. length ks ≡ 0 + count_of ds) (each_after (kind_at outer) [] ds) (each_ok KindsFit (kind_at outer) (kind_ok outer) ds [] none) (each_length (kind_at outer) ds []))
    (λ ks h. unless_ok AreKinds (not (has_exact_kind ks)) NoExact (place Kinds outer 0) ks (λ e. (h.0, omega (arith, few, h.1), true_from_not (has_exact_kind ks) e))))

-- ---- operators

abbrev Fits : List OpSpec → OpSpec → Type 0
Fits before o = OperatorFits o × IsOther before o.op

operator_ok : (before : List OpSpec) (d : Data) → IfOk (operator_at before d) (Fits before)
unfolding operator_at has_exact_kind
operator_ok before d =
    let outer : ℕ = length before + 1 in
    skip_ok (Fits before) (object_at (place Operators outer 0) d) _ (λ ms.
    bind_ok (IsOther before) (Fits before) (op_at before (place Op outer 0) (get (codes "op") d)) _ (op_ok before (place Op outer 0) (get (codes "op") d)) (λ op is_other.
    bind_ok AreKinds (Fits before) (kinds_at outer (get (codes "kinds") d)) _ (kinds_ok outer (get (codes "kinds") d)) (λ ks h.
    (record { few = h.1; kinds = h.0.fit; names = h.0.names; exact = h.2 }, is_other))))

pub record OperatorsFit (os : List OpSpec) : Type 0 where
  pub fit : AllByRecursion OperatorFits os
  pub once : AreOnce os

from_fits : (before : List OpSpec) (o : OpSpec) → OperatorsFit before → Fits before o → OperatorsFit (before ++ o ∷ [])
from_fits before o h j = record { fit = all_push OperatorFits before o h.fit j.0; once = once_push before o h.once j.1 }

operators_ok : (v : Option Data) → IfOk (operators_at v) OperatorsFit
unfolding operators_at
operators_ok v =
    let none : OperatorsFit [] = record { fit = tt; once = tt } in
    skip_ok OperatorsFit (list_at (place Operators 0 0) v) _ (λ ds.
    each_ok OperatorsFit operator_at (λ before d h. weaker_ok (Fits before) (λ o. OperatorsFit (before ++ o ∷ [])) (operator_at before d) (operator_ok before d) (λ o j. from_fits before o h j)) ds [] none)
  where
    weaker_ok : {A : Type 0} (P Q : A → Type 0) (r : Result A HardFault) → IfOk r P → ((a : A) → P a → Q a) → IfOk r Q
    weaker_ok P Q (Ok a) h j = j a h
    weaker_ok P Q (Err e) h j = tt

-- an operator that was read is listed once
pub once_from_read : (before : List OpSpec) (d : Data) (o : OpSpec) → operator_at before d ≡ Ok o → AreOnce before → AreOnce (before ++ o ∷ [])
once_from_read before d o e h =
    let fits : Fits before o = subst (λ (r : Result OpSpec HardFault). IfOk r (Fits before)) e (operator_ok before d) in
    once_push before o h fits.1

-- ---- memories

pub record MemoriesFit (ms : List MemSpec) : Type 0 where
  pub fit : AllByRecursion MemoryFits ms
  pub names : AreDistinct (map (λ m. m.name) ms)

memory_ok : (before : List MemSpec) (d : Data) → MemoriesFit before → IfOk (memory_at before d) (λ m. MemoriesFit (before ++ m ∷ []))
unfolding memory_at
memory_ok before d h =
    let Fits : MemSpec → Type 0 = λ m. MemoriesFit (before ++ m ∷ []) in
    let names : List Bytes = map (λ m. m.name) before in
    let outer : ℕ = length before + 1 in
    skip_ok Fits (object_at (place Memories outer 0) d) _ (λ ms.
    bind_ok (IsNew names) Fits (name_at names (place Name outer 0) (get (codes "name") d)) _ (name_ok names (place Name outer 0) (get (codes "name") d)) (λ name is_new.
    bind_ok (λ a. a ≤ S) Fits (atto_at (place Read outer 0) (get (codes "read") d)) _ (atto_ok (place Read outer 0) (get (codes "read") d)) (λ read read_within.
    bind_ok (λ a. a ≤ S) Fits (atto_at (place Write outer 0) (get (codes "write") d)) _ (atto_ok (place Write outer 0) (get (codes "write") d)) (λ write write_within.
    bind_ok (λ n. n ≤ 1000000) Fits (energy_at (place ReadEnergy outer 0) (get (codes "read_energy") d)) _ (energy_ok (place ReadEnergy outer 0) (get (codes "read_energy") d)) (λ read_energy read_small.
    bind_ok (λ n. n ≤ 1000000) Fits (energy_at (place WriteEnergy outer 0) (get (codes "write_energy") d)) _ (energy_ok (place WriteEnergy outer 0) (get (codes "write_energy") d)) (λ write_energy write_small.
    bind_ok (λ n. n ≤ 1000000) Fits (energy_at (place Hold outer 0) (get (codes "hold") d)) _ (energy_ok (place Hold outer 0) (get (codes "hold") d)) (λ hold hold_small.
    let m : MemSpec = record { name = name; read = read; write = write; read_energy = read_energy; write_energy = write_energy; hold = hold } in
    record {
      fit = all_push MemoryFits before m h.fit (record { name = is_new.0; read = read_within; write = write_within; read_energy = read_small; write_energy = write_small; hold = hold_small });
      names = names_push (λ m. m.name) before m h.names is_new.1;
    })))))))

abbrev AreMemories : List MemSpec → Type 0
AreMemories ms = MemoriesFit ms × (length ms ≤ 32) × IsTrue (has_exact_memory ms)

memories_ok : (v : Option Data) → IfOk (memories_at v) AreMemories
unfolding memories_at
memories_ok v =
    let none : MemoriesFit [] = record { fit = tt; names = tt } in
    bind_ok (λ ds. count_of ds ≤ 32) AreMemories (few_at (place Memories 0 0) v) _ (few_ok (place Memories 0 0) v) (λ ds few.
    bind_ok (λ ms. MemoriesFit ms × (length ms ≡ 0 + count_of ds)) AreMemories (each_after memory_at [] ds) _
    (both_ok MemoriesFit (λ ms. length ms ≡ 0 + count_of ds) (each_after memory_at [] ds) (each_ok MemoriesFit memory_at memory_ok ds [] none) (each_length memory_at ds []))
    (λ ms h. unless_ok AreMemories (not (has_exact_memory ms)) NoExact (place Memories 0 0) ms (λ e. (h.0, omega (arith, few, h.1), true_from_not (has_exact_memory ms) e))))

-- ---- the hardware

hardware_from_ok : (d : Data) → IfOk (hardware_from d) IsHardware
unfolding hardware_from has_exact_memory
hardware_from_ok d =
    skip_ok IsHardware (object_at (place Root 0 0) d) _ (λ ms.
    bind_ok IsBase IsHardware (base_at (place Base 0 0) (get (codes "base") d)) _ (base_ok (place Base 0 0) (get (codes "base") d)) (λ base in_range.
    bind_ok OperatorsFit IsHardware (operators_at (get (codes "operators") d)) _ (operators_ok (get (codes "operators") d)) (λ operators fit.
    bind_ok AreMemories IsHardware (memories_at (get (codes "memories") d)) _ (memories_ok (get (codes "memories") d)) (λ memories are.
    record {
      least = in_range.0;
      most = in_range.1;
      operators = fit.fit;
      once = fit.once;
      few = are.1;
      memories = are.0.fit;
      names = are.0.names;
      exact = are.2;
    }))))

-- the hardware that bytes name is valid
pub IsHardware-from_bytes : (bytes : Bytes) (h : Hardware) → hardware_of bytes ≡ Ok h → IsHardware h
IsHardware-from_bytes bytes h e =
    subst (λ (r : Result Hardware HardFault). IfOk r IsHardware) e (skip_ok IsHardware (must Json (place Root 0 0) (reading bytes)) hardware_from hardware_from_ok)

pub ruleset one_operator_more = (each_after-more, few_operators, once_from_read)

-- what was read of a value is valid
pub valid_from_value : (d : Data) (r : Result Hardware HardFault) → IfOk r (λ h. hardware_from d ≡ Ok h) → IfOk r IsHardware
valid_from_value d (Ok h) e = subst (λ (r : Result Hardware HardFault). IfOk r IsHardware) e (hardware_from_ok d)
valid_from_value d (Err e) h = tt
