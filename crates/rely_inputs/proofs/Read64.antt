-- A whole number that is read has at most 64 bits.
use Rattle.std.proofs.Common.{◌≡◌, ℕ, zero, suc, ◌^◌, ◌≤◌, Bool, true, false, ◌&&◌, pos, List, Option, Some, None, option_map, option_and_then, Ordering, Less, Equal, Greater, refl, arith}
use Rattle.std.specs.Prelude.{nat_lt, nat_le, slice_index, drop, if◌then◌else◌, ◌==◌}
use Rattle.std.specs.Cmp.Lexicographic.{slice_cmp}
use Rattle.std.specs.Float.{binary64, float_is_finite}
use Rattle.std.specs.List.{AllByRecursion}
use Rattle.std.specs.Ordering.{match_ordering, nat_cmp}
use Rattle.std.proofs.lemmas.Bool.{ltb-true, leb-true}
use Rattle.std.proofs.lemmas.Int.{fits_signed_from_abs}
use Rattle.fast_float.specs.Text.{minus, Parts, scan, digits_of, nearest, with_sign}
use Rattle.json.specs.Json as json
use Rattle.json.specs.Lex.{tokens}
use Rattle.serde_json.specs.Data.{Num, unsigned, negative, float, Data, null, boolean, number, string, array, object, Items, no_items, item, Members, no_members, member, put}
use Rattle.serde_json.specs.Find.{get, get_member, as_number, as_i64, as_array, as_object}
use Rattle.serde_json.specs.Read.{is_integer, float_of, number_from, number_of, of_json, of_items, of_members, max_depth, read}
use Rattle.rely_kernel.proofs.Numbers.{Fits, fits_zero}
use Rattle.rely_inputs.specs.Samples.{list_of}

-- of what is there
abbrev pub On : {A : Type 0} → (A → Type 0) → Option A → Type 0
On P None = Unit {0}
On P (Some a) = P a

on_map : {A B : Type 0} (P : A → Type 0) (Q : B → Type 0) (f : A → B) → ((a : A) → P a → Q (f a)) → (o : Option A) → On P o → On Q (option_map f o)
on_map P Q f h None p = tt
on_map P Q f h (Some a) p = h a p

on_then : {A B : Type 0} (P : A → Type 0) (Q : B → Type 0) (f : A → Option B) → ((a : A) → P a → On Q (f a)) → (o : Option A) → On P o → On Q (option_and_then f o)
on_then P Q f h None p = tt
on_then P Q f h (Some a) p = h a p

-- whatever is there
on_any : {A : Type 0} (o : Option A) → On (λ _. Unit {0}) o
on_any None = tt
on_any (Some a) = tt

on_if : {A : Type 0} (P : A → Type 0) (b : Bool) (o q : Option A) → (b ≡ true → On P o) → On P q → On P (if b then o else q)
on_if P true o q h k = h refl
on_if P false o q h k = k

-- a negative number has 64 bits
abbrev pub IsSmall : Num → Type 0
IsSmall (unsigned n) = Unit {0}
IsSmall (negative z) = Fits z
IsSmall (float x) = Unit {0}

-- each negative number within has
abbrev mutual
  pub AllSmall : Data → Type 0
  AllSmall null = Unit {0}
  AllSmall (boolean b) = Unit {0}
  AllSmall (number n) = IsSmall n
  AllSmall (string s) = Unit {0}
  AllSmall (array ds) = ItemsSmall ds
  AllSmall (object ms) = MembersSmall ms

  pub ItemsSmall : Items → Type 0
  ItemsSmall no_items = Unit {0}
  ItemsSmall (item d ds) = AllSmall d × ItemsSmall ds

  pub MembersSmall : Members → Type 0
  MembersSmall no_members = Unit {0}
  MembersSmall (member k d ms) = AllSmall d × MembersSmall ms

-- ---- what is read

fits_negative : (n : ℕ) → n ≤ 2 ^ 63 → Fits (with_sign true n)
fits_negative zero h = fits_zero
fits_negative (suc n) h = record { sfits = omega (arith, h) }

small_float : (sign : Bool) (p : Parts) → On IsSmall (float_of sign p)
small_float sign p = on_if IsSmall (float_is_finite (nearest binary64 sign p)) (Some (float (nearest binary64 sign p))) None (λ _. tt) tt

last_of : (a b : Bool) → (a && b) ≡ true → b ≡ true
last_of true b h = h
last_of false b h = absurd (cc)

small_from : (sign : Bool) (p : Parts) → On IsSmall (number_from sign p)
small_from false p = on_if IsSmall (is_integer p && nat_lt (digits_of p) (2 ^ 64)) (Some (unsigned (digits_of p))) (float_of false p) (λ _. tt) (small_float false p)
small_from true p =
    on_if IsSmall (is_integer p && nat_lt 0 (digits_of p) && nat_le (digits_of p) (2 ^ 63)) (Some (negative (with_sign true (digits_of p)))) (float_of true p)
    (λ e. fits_negative (digits_of p) (leb-true (digits_of p) (2 ^ 63) (last_of (is_integer p && nat_lt 0 (digits_of p)) (nat_le (digits_of p) (2 ^ 63)) e))) (small_float true p)

small_number : (s : List ℕ) → On IsSmall (number_of s)
unfolding number_of
small_number s = on_if IsSmall (slice_index s 0 == minus) (number_from true (scan (drop 1 s))) (number_from false (scan s)) (λ _. small_from true (scan (drop 1 s))) (small_from false (scan s))

small_ordering : (o : Ordering) (a b c : Members) → MembersSmall a → MembersSmall b → MembersSmall c → MembersSmall (match_ordering o a b c)
small_ordering Less a b c p q r = p
small_ordering Equal a b c p q r = q
small_ordering Greater a b c p q r = r

small_put : (k : List ℕ) (d : Data) (ms : Members) → AllSmall d → MembersSmall ms → MembersSmall (put k d ms)
small_put k d no_members p q = (p, tt)
small_put k d (member l e ms) p q =
    small_ordering (slice_cmp nat_cmp k l) (member k d (member l e ms)) (member l d ms) (member l e (put k d ms)) (p, q) (p, q.1) (q.0, small_put k d ms p q.1)

mutual
  small_json : (j : json.Json) → On AllSmall (of_json j)
  small_json json.null = tt
  small_json (json.boolean b) = tt
  small_json (json.number s) = on_map IsSmall AllSmall number (λ n h. h) (number_of s) (small_number s)
  small_json (json.string s) = tt
  small_json (json.array js) = on_map ItemsSmall AllSmall array (λ ds h. h) (of_items js) (small_items js)
  small_json (json.object ms) = on_map MembersSmall AllSmall object (λ ms h. h) (of_members ms no_members) (small_members ms no_members tt)

  small_items : (js : json.Items) → On ItemsSmall (of_items js)
  small_items json.no_items = tt
  small_items (json.item j js) =
      on_then AllSmall ItemsSmall (λ d. option_map (item d) (of_items js)) (λ d h. on_map ItemsSmall ItemsSmall (item d) (λ ds k. (h, k)) (of_items js) (small_items js)) (of_json j) (small_json j)

  small_members : (ms : json.Members) (found : Members) → MembersSmall found → On MembersSmall (of_members ms found)
  small_members json.no_members found h = h
  small_members (json.member k j ms) found h =
      on_then AllSmall MembersSmall (λ d. of_members ms (put k d found)) (λ d p. small_members ms (put k d found) (small_put k d found p h)) (of_json j) (small_json j)

-- of the value of a text
pub small_read : (text : List ℕ) → On AllSmall (read text)
small_read text =
    let whole : Option json.Json = option_and_then (λ p. json.if_last p.0 p.1) (json.value max_depth (tokens text)) in
    on_then (λ _. Unit {0}) AllSmall of_json (λ j h. small_json j) whole (on_any whole)

-- ---- what is looked up

found_ordering : (o : Ordering) (a b : Option Data) → On AllSmall a → On AllSmall b → On AllSmall (match_ordering o a b a)
found_ordering Less a b p q = p
found_ordering Equal a b p q = q
found_ordering Greater a b p q = p

-- of a member
pub small_member : (k : List ℕ) (ms : Members) → MembersSmall ms → On AllSmall (get_member k ms)
small_member k no_members h = tt
small_member k (member l e ms) h = found_ordering (slice_cmp nat_cmp k l) (get_member k ms) (Some e) (small_member k ms h.1) h.0

-- of a member of an object
pub small_get : (k : List ℕ) (d : Data) → AllSmall d → On AllSmall (get k d)
small_get k null h = tt
small_get k (boolean b) h = tt
small_get k (number n) h = tt
small_get k (string s) h = tt
small_get k (array ds) h = tt
small_get k (object ms) h = small_member k ms h

-- of the members of an object
pub small_object : (d : Data) → AllSmall d → On MembersSmall (as_object d)
small_object null h = tt
small_object (boolean b) h = tt
small_object (number n) h = tt
small_object (string s) h = tt
small_object (array ds) h = tt
small_object (object ms) h = h

-- of the members of a list
pub small_array : (d : Data) → AllSmall d → On ItemsSmall (as_array d)
small_array null h = tt
small_array (boolean b) h = tt
small_array (number n) h = tt
small_array (string s) h = tt
small_array (array ds) h = h
small_array (object ms) h = tt

-- one by one
pub small_list : (ds : Items) → ItemsSmall ds → AllByRecursion AllSmall (list_of ds)
small_list no_items h = tt
small_list (item d ds) h = (h.0, small_list ds h.1)

fits_num : (n : Num) → IsSmall n → On Fits (as_i64 n)
fits_num (unsigned n) h = on_if Fits (nat_lt n (2 ^ 63)) (Some (pos n)) None (λ e. fits_signed_from_abs _ (pos n) (ltb-true n (2 ^ 63) e)) tt
fits_num (negative z) h = h
fits_num (float x) h = tt

-- a whole number of 64 bits has them
pub fits_whole : (d : Data) → AllSmall d → On Fits (option_and_then as_i64 (as_number d))
fits_whole null h = tt
fits_whole (boolean b) h = tt
fits_whole (number n) h = fits_num n h
fits_whole (string s) h = tt
fits_whole (array ds) h = tt
fits_whole (object ms) h = tt
