-- Each field that is read is that of the member with its key.
use Rattle.std.proofs.Common.{◌≡◌, ℕ, Bool, ◌||◌, not, nat_lt, map, List, [], ◌∷◌, ◌++◌, length, codes, Option, Some, None, Result, Ok, Err, refl, sym, ◌∙◌, subst, append_assoc, append-nil, ◌+◌}
use Rattle.std.specs.Prelude.{IfOk, option_and_then}
use Rattle.std.specs.List.{AllZip, list_any}
use Rattle.std.specs.Result.{result_ok}
use Rattle.serde_json.specs.Data.{Data, Items, no_items, item}
use Rattle.serde_json.specs.Find.{get, as_number, as_u64, as_str, as_array}
use Rattle.rely_num.specs.AttoTexts.{atto_of}
use Rattle.rely_num.specs.Ops.{is_op, op_of}
use Rattle.rely_num.specs.Texts.{Bytes, is_name, is_among}
use Rattle.rely_num.specs.declared.atto.NumFault.{NumFault}
use Rattle.rely_num.specs.declared.op.Op.{Op as Operator}
use Rattle.rely_hard.specs.declared.fault.HardFault.{HardFault}
use Rattle.rely_hard.specs.declared.fault.HardWhy.{HardWhy}
use Rattle.rely_hard.specs.declared.fault.HardWhy.TheVariants.{Json, Missing, Kind, Range, Repeated, NoExact, Many}
use Rattle.rely_hard.specs.declared.fault.Key.TheVariants.{Root, Base, Operators, Op, Kinds, Memories, Name, Right, Energy, Read, Write, ReadEnergy, WriteEnergy, Hold}
use Rattle.rely_hard.specs.declared.hardware.Hardware.{Hardware}
use Rattle.rely_hard.specs.declared.hardware.KindSpec.{KindSpec}
use Rattle.rely_hard.specs.declared.hardware.MemSpec.{MemSpec}
use Rattle.rely_hard.specs.declared.hardware.OpSpec.{OpSpec}
use Rattle.rely_hard.specs.declared.place.Place.{Place}
use Rattle.rely_hard.specs.Meaning.{◌>>=◌, reading, place, must, unless, object_at, text_at, atto_at, base_at, energy_at, named_at, name_at, op_at, count_of, list_at, few_at, each_after, kind_at, has_exact_kind, kinds_at, operator_at, operators_at, memory_at, has_exact_memory, memories_at, hardware_from}
use Rattle.rely_hard.specs.Said.{AreListed, EachIsSaid, FileSays, HardwareSays, IsEnergy, IsOperator, IsProbability, IsText, KindSays, MemorySays, OperatorSays, list_of}
use Rattle.rely_hard.proofs.Kept.{bind_ok, skip_ok, unless_ok}

-- ---- values

must_be : {A : Type 0} (why : HardWhy) (p : Place) (o : Option A) → IfOk (must why p o) (λ a. o ≡ Some a)
must_be why p None = tt
must_be why p (Some a) = refl

-- what passes is what was read
passes : {A : Type 0} (P : A → Type 0) (r : Result A HardFault) (bad : A → Bool) (why : HardWhy) (p : Place) → IfOk r P → IfOk (r >>= λ a. unless (bad a) why p a) P
passes P r bad why p h = bind_ok P P r (λ a. unless (bad a) why p a) h (λ a j. unless_ok P (bad a) why p a (λ _. j))

text_says : (p : Place) (v : Option Data) → IfOk (text_at p v) (IsText v)
unfolding text_at
text_says p v =
    bind_ok (λ d. v ≡ Some d) (IsText v) (must Missing p v) _ (must_be Missing p v) (λ d e.
    subst (λ (o : Option Data). IfOk (must Kind p (as_str d)) (IsText o)) (sym e) (must_be Kind p (as_str d)))

written : {n : ℕ} (r : Result ℕ NumFault) → result_ok r ≡ Some n → r ≡ Ok n
written (Ok m) e = cc
written (Err f) e = absurd (cc)

atto_says : (p : Place) (v : Option Data) → IfOk (atto_at p v) (IsProbability v)
unfolding atto_at
atto_says p v =
    bind_ok (IsText v) (IsProbability v) (text_at p v) _ (text_says p v) (λ text is.
    go text is (must Range p (result_ok (atto_of text))) (must_be Range p (result_ok (atto_of text))))
  where
    go : (text : Bytes) → IsText v text → (r : Result ℕ HardFault) → IfOk r (λ n. result_ok (atto_of text) ≡ Some n) → IfOk r (IsProbability v)
    go text is (Ok n) e = (text, is, written (atto_of text) e)
    go text is (Err f) e = tt

base_says : (p : Place) (v : Option Data) → IfOk (base_at p v) (IsProbability v)
unfolding base_at
base_says p v = passes (IsProbability v) (atto_at p v) (λ b. nat_lt b 500000000000000000 || nat_lt 999999999000000000 b) Range p (atto_says p v)

energy_says : (p : Place) (v : Option Data) → IfOk (energy_at p v) (IsEnergy v)
unfolding energy_at
energy_says p v =
    bind_ok (λ d. v ≡ Some d) (IsEnergy v) (must Missing p v) _ (must_be Missing p v) (λ d e.
    subst (λ (o : Option Data). IfOk (must Kind p (option_and_then as_u64 (as_number d)) >>= λ n. unless (nat_lt 1000000 n) Range p n) (IsEnergy o)) (sym e)
    (passes (λ n. option_and_then as_u64 (as_number d) ≡ Some n) (must Kind p (option_and_then as_u64 (as_number d))) (λ n. nat_lt 1000000 n) Range p
    (must_be Kind p (option_and_then as_u64 (as_number d)))))

named_says : (p : Place) (v : Option Data) → IfOk (named_at p v) (IsText v)
unfolding named_at
named_says p v = passes (IsText v) (text_at p v) (λ text. not (is_name text) || nat_lt 32 (length text)) Range p (text_says p v)

name_says : (before : List Bytes) (p : Place) (v : Option Data) → IfOk (name_at before p v) (IsText v)
unfolding name_at
name_says before p v = passes (IsText v) (named_at p v) (λ name. is_among name before) Repeated p (named_says p v)

op_says : (before : List OpSpec) (p : Place) (v : Option Data) → IfOk (op_at before p v) (IsOperator v)
unfolding op_at
op_says before p v =
    bind_ok (IsText v) (IsOperator v) (text_at p v) _ (text_says p v) (λ text is.
    passes (IsOperator v) (must Range p (op_of text)) (λ op. list_any (λ o. is_op op o.op) before) Repeated p
    (go text is (must Range p (op_of text)) (must_be Range p (op_of text))))
  where
    go : (text : Bytes) → IsText v text → (r : Result Operator HardFault) → IfOk r (λ op. op_of text ≡ Some op) → IfOk r (IsOperator v)
    go text is (Ok op) e = (text, is, e)
    go text is (Err f) e = tt

-- ---- lists

abbrev IsList : Option Data → Items → Type 0
IsList v ds = option_and_then as_array v ≡ Some ds

list_says : (p : Place) (v : Option Data) → IfOk (list_at p v) (IsList v)
unfolding list_at
list_says p v =
    bind_ok (λ d. v ≡ Some d) (IsList v) (must Missing p v) _ (must_be Missing p v) (λ d e.
    subst (λ (o : Option Data). IfOk (must Kind p (as_array d)) (IsList o)) (sym e) (must_be Kind p (as_array d)))

few_says : (p : Place) (v : Option Data) → IfOk (few_at p v) (IsList v)
unfolding few_at
few_says p v = passes (IsList v) (list_at p v) (λ ds. nat_lt 32 (count_of ds)) Many p (list_says p v)

-- what is read after others is said by the members
pub record Zipped {A : Type 0} (Says : Data → A → Type 0) (before : List A) (ds : Items) (xs : List A) : Type 0 where
  pub more : List A
  pub is : xs ≡ before ++ more
  pub zip : AllZip Says (list_of ds) more

module _ {A : Type 0} (Says : Data → A → Type 0) (one : List A → Data → Result A HardFault) (says : (before : List A) (d : Data) → IfOk (one before d) (Says d)) where
  zip_more : (before : List A) (d : Data) (ds : Items) (a : A) → Says d a → (r : Result (List A) HardFault) → IfOk r (Zipped Says (before ++ a ∷ []) ds) → IfOk r (Zipped Says before (item d ds))
  zip_more before d ds a h (Err e) z = tt
  zip_more before d ds a h (Ok xs) z = record { more = a ∷ z.more; is = z.is ∙ append_assoc before (a ∷ []) z.more; zip = (h, z.zip) }

  each_says : (ds : Items) (before : List A) → IfOk (each_after one before ds) (Zipped Says before ds)
  each_says no_items before = record { more = []; is = sym (append-nil before); zip = tt }
  each_says (item d ds) before =
      bind_ok (Says d) (Zipped Says before (item d ds)) (one before d) _ (says before d) (λ a h.
      zip_more before d ds a h (each_after one (before ++ a ∷ []) ds) (each_says ds (before ++ a ∷ [])))

  all_say : (v : Option Data) (ds : Items) → IsList v ds → IfOk (each_after one [] ds) (AreListed Says v)
  all_say v ds e = go (each_after one [] ds) (each_says ds [])
    where
      go : (r : Result (List A) HardFault) → IfOk r (Zipped Says [] ds) → IfOk r (AreListed Says v)
      go (Ok xs) z = (ds, e, subst (λ (ys : List A). AllZip Says (list_of ds) ys) (sym z.is) z.zip)
      go (Err f) z = tt

-- ---- the hardware

kind_says : (outer : ℕ) (before : List KindSpec) (d : Data) → IfOk (kind_at outer before d) (KindSays d)
unfolding kind_at
kind_says outer before d =
    let inner : ℕ = length before + 1 in
    let names : List Bytes = map (λ k. k.name) before in
    skip_ok (KindSays d) (object_at (place Kinds outer inner) d) _ (λ _.
    bind_ok (IsText (get (codes "name") d)) (KindSays d) (name_at names (place Name outer inner) (get (codes "name") d)) _ (name_says names (place Name outer inner) (get (codes "name") d)) (λ name named.
    bind_ok (IsProbability (get (codes "right") d)) (KindSays d) (atto_at (place Right outer inner) (get (codes "right") d)) _ (atto_says (place Right outer inner) (get (codes "right") d)) (λ right is_right.
    bind_ok (IsEnergy (get (codes "energy") d)) (KindSays d) (energy_at (place Energy outer inner) (get (codes "energy") d)) _ (energy_says (place Energy outer inner) (get (codes "energy") d)) (λ energy is_energy.
    record { name = named; right = is_right; energy = is_energy }))))

kinds_say : (outer : ℕ) (v : Option Data) → IfOk (kinds_at outer v) (AreListed KindSays v)
unfolding kinds_at
kinds_say outer v =
    bind_ok (IsList v) (AreListed KindSays v) (few_at (place Kinds outer 0) v) _ (few_says (place Kinds outer 0) v) (λ ds is.
    passes (AreListed KindSays v) (each_after (kind_at outer) [] ds) (λ ks. not (has_exact_kind ks)) NoExact (place Kinds outer 0)
    (all_say KindSays (kind_at outer) (kind_says outer) v ds is))

operator_says : (before : List OpSpec) (d : Data) → IfOk (operator_at before d) (OperatorSays d)
unfolding operator_at
operator_says before d =
    let outer : ℕ = length before + 1 in
    skip_ok (OperatorSays d) (object_at (place Operators outer 0) d) _ (λ _.
    bind_ok (IsOperator (get (codes "op") d)) (OperatorSays d) (op_at before (place Op outer 0) (get (codes "op") d)) _ (op_says before (place Op outer 0) (get (codes "op") d)) (λ op is_op.
    bind_ok (AreListed KindSays (get (codes "kinds") d)) (OperatorSays d) (kinds_at outer (get (codes "kinds") d)) _ (kinds_say outer (get (codes "kinds") d)) (λ kinds are_kinds.
    record { op = is_op; kinds = are_kinds })))

operators_say : (v : Option Data) → IfOk (operators_at v) (AreListed OperatorSays v)
unfolding operators_at
operators_say v =
    bind_ok (IsList v) (AreListed OperatorSays v) (list_at (place Operators 0 0) v) _ (list_says (place Operators 0 0) v) (λ ds is.
    all_say OperatorSays operator_at operator_says v ds is)

memory_says : (before : List MemSpec) (d : Data) → IfOk (memory_at before d) (MemorySays d)
unfolding memory_at
memory_says before d =
    let names : List Bytes = map (λ m. m.name) before in
    let outer : ℕ = length before + 1 in
    skip_ok (MemorySays d) (object_at (place Memories outer 0) d) _ (λ _.
    bind_ok (IsText (get (codes "name") d)) (MemorySays d) (name_at names (place Name outer 0) (get (codes "name") d)) _ (name_says names (place Name outer 0) (get (codes "name") d)) (λ name named.
    bind_ok (IsProbability (get (codes "read") d)) (MemorySays d) (atto_at (place Read outer 0) (get (codes "read") d)) _ (atto_says (place Read outer 0) (get (codes "read") d)) (λ read is_read.
    bind_ok (IsProbability (get (codes "write") d)) (MemorySays d) (atto_at (place Write outer 0) (get (codes "write") d)) _ (atto_says (place Write outer 0) (get (codes "write") d)) (λ write is_write.
    bind_ok (IsEnergy (get (codes "read_energy") d)) (MemorySays d) (energy_at (place ReadEnergy outer 0) (get (codes "read_energy") d)) _ (energy_says (place ReadEnergy outer 0) (get (codes "read_energy") d)) (λ read_energy is_read_energy.
    bind_ok (IsEnergy (get (codes "write_energy") d)) (MemorySays d) (energy_at (place WriteEnergy outer 0) (get (codes "write_energy") d)) _ (energy_says (place WriteEnergy outer 0) (get (codes "write_energy") d)) (λ write_energy is_write_energy.
    bind_ok (IsEnergy (get (codes "hold") d)) (MemorySays d) (energy_at (place Hold outer 0) (get (codes "hold") d)) _ (energy_says (place Hold outer 0) (get (codes "hold") d)) (λ hold is_hold.
    record { name = named; read = is_read; write = is_write; read_energy = is_read_energy; write_energy = is_write_energy; hold = is_hold })))))))

memories_say : (v : Option Data) → IfOk (memories_at v) (AreListed MemorySays v)
unfolding memories_at
memories_say v =
    bind_ok (IsList v) (AreListed MemorySays v) (few_at (place Memories 0 0) v) _ (few_says (place Memories 0 0) v) (λ ds is.
    passes (AreListed MemorySays v) (each_after memory_at [] ds) (λ ms. not (has_exact_memory ms)) NoExact (place Memories 0 0)
    (all_say MemorySays memory_at memory_says v ds is))

hardware_says : (d : Data) → IfOk (hardware_from d) (HardwareSays d)
unfolding hardware_from
hardware_says d =
    skip_ok (HardwareSays d) (object_at (place Root 0 0) d) _ (λ _.
    bind_ok (IsProbability (get (codes "base") d)) (HardwareSays d) (base_at (place Base 0 0) (get (codes "base") d)) _ (base_says (place Base 0 0) (get (codes "base") d)) (λ base is_base.
    bind_ok (AreListed OperatorSays (get (codes "operators") d)) (HardwareSays d) (operators_at (get (codes "operators") d)) _ (operators_say (get (codes "operators") d)) (λ operators are_operators.
    bind_ok (AreListed MemorySays (get (codes "memories") d)) (HardwareSays d) (memories_at (get (codes "memories") d)) _ (memories_say (get (codes "memories") d)) (λ memories are_memories.
    record { base = is_base; operators = are_operators; memories = are_memories }))))

pub members : EachIsSaid
members bytes h e =
    subst (λ (r : Result Hardware HardFault). IfOk r (FileSays bytes)) e
    (bind_ok (λ d. reading bytes ≡ Some d) (FileSays bytes) (must Json (place Root 0 0) (reading bytes)) hardware_from (must_be Json (place Root 0 0) (reading bytes)) (λ d is.
    go d is (hardware_from d) (hardware_says d)))
  where
    go : (d : Data) → reading bytes ≡ Some d → (r : Result Hardware HardFault) → IfOk r (HardwareSays d) → IfOk r (FileSays bytes)
    go d is (Ok hw) says = (d, is, says)
    go d is (Err f) says = tt
