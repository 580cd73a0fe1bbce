-- Names in a table.
use Rattle.std.proofs.Common.{◌≡◌, ℕ, suc, Bool, true, false, List, [], ◌∷◌, ◌++◌, length, cond, Option, Some, None, is_some, if◌then◌else◌, refl, ap, sym, ◌∙◌, arith, ◌+◌, ◌<◌, map, take, get_or, Bor, add-one, length-take-le}
use Rattle.std.proofs.Math.Seq.{take-suc}
use Rattle.std.proofs.lemmas.List.Quantifiers.{position-Some}
use Rattle.std.proofs.lemmas.List.{length-map, map-append}
use Rattle.indexmap.specs.IndexMap.{IndexMap, get_by}
use Rattle.std.specs.Bool.{Decides, one_answer}
use Rattle.std.specs.Cmp.Lexicographic.{bytes_decides}
use Rattle.std.specs.List.{position_from}
use Rattle.rely_num.specs.Texts.{Bytes, same_text}
use Rattle.rely_tree.specs.Shape.{decl_shape}
use Rattle.rely_tree.specs.declared.unit.Decl.{Decl}
use Rattle.rely_resolve.specs.Names.{names, place_of}
use Rattle.rely_resolve.specs.Table.{Finds}
use Rattle.rely_resolve.proofs.Places.{place_from}

-- two texts are the same whichever is named first
pub same_back : (a b : Bytes) → same_text a b ≡ same_text b a
same_back a b =
    let back : Decides (same_text b a) (a ≡ b) = (λ e. sym ((bytes_decides b a).0 e), λ p. (bytes_decides b a).1 (sym p)) in
    one_answer (same_text a b) (same_text b a) (bytes_decides a b) back

-- a place counted from i, once one more name stands behind
place_from_behind :
    (q : Bytes) (i : ℕ) (ns : List Bytes) (n : Bytes)
    → position_from (λ m. same_text m q) i (ns ++ n ∷ [])
    ≡ (if is_some (position_from (λ m. same_text m q) i ns) then position_from (λ m. same_text m q) i ns else if same_text q n then Some (i + length ns) else None)
place_from_behind q i [] n =
    let none : i ≡ i + 0 = omega arith in
    ap (λ b. cond b (Some i) None) (same_back n q) ∙ ap (λ k. if same_text q n then Some k else None) none
place_from_behind q i (m ∷ ms) n = by_head (same_text m q) (place_from_behind q (i + 1) ms n)
  where
    further : i + 1 + length ms ≡ i + suc (length ms)
    further = omega arith

    by_head :
        (b : Bool)
        → position_from (λ m. same_text m q) (i + 1) (ms ++ n ∷ [])
        ≡ (if is_some (position_from (λ m. same_text m q) (i + 1) ms) then position_from (λ m. same_text m q) (i + 1) ms else if same_text q n then Some (i + 1 + length ms) else None)
        → cond b (Some i) (position_from (λ m. same_text m q) (i + 1) (ms ++ n ∷ []))
        ≡ (if is_some (cond b (Some i) (position_from (λ m. same_text m q) (i + 1) ms)) then cond b (Some i) (position_from (λ m. same_text m q) (i + 1) ms)
        else if same_text q n then Some (i + suc (length ms)) else None)
    by_head true e = refl
    by_head false e = e ∙ ap (λ k. if is_some (position_from (λ m. same_text m q) (i + 1) ms) then position_from (λ m. same_text m q) (i + 1) ms else if same_text q n then Some k else None) further

-- the place of a name once one more stands behind
pub place_behind :
    (q : Bytes) (ns : List Bytes) (n : Bytes)
    → place_of q (ns ++ n ∷ []) ≡ (if is_some (place_of q ns) then place_of q ns else if same_text q n then Some (length ns) else None)
place_behind q ns n =
    let from_zero : 0 + length ns ≡ length ns = omega arith in
    place_from q (ns ++ n ∷ []) ∙ place_from_behind q 0 ns n
    ∙ ap (λ k. if is_some (position_from (λ m. same_text m q) 0 ns) then position_from (λ m. same_text m q) 0 ns else if same_text q n then Some k else None) from_zero
    ∙ ap (λ o. if is_some o then o else if same_text q n then Some (length ns) else None) (sym (place_from q ns))

-- what a table finds once a name that isn't there is put in
pub put_finds :
    (v : ℕ) (found : Option ℕ) (b c : Bool) → b ≡ c → (c ≡ true → found ≡ None)
    → cond b (Some v) found ≡ (if is_some found then found else if c then Some v else None)
put_finds v found true true same absent = ap (λ o. if is_some o then o else Some v) (sym (absent refl))
put_finds v found true false same absent = cc
put_finds v found false true same absent = cc
put_finds v (Some i) false false same absent = refl
put_finds v None false false same absent = refl

-- none is there
pub is_absent : {A : Type 0} (o : Option A) → false ≡ is_some o → o ≡ None
is_absent None e = refl
is_absent (Some x) e = cc

-- the names of one variable more
names_more : (vars : List Decl) (i : ℕ) (d : Decl) → i < length vars → names (map decl_shape (take (i + 1) vars)) ≡ names (map decl_shape (take i vars)) ++ (get_or vars i d).name.text.now ∷ []
names_more vars i d within = rw (add-one, take-suc vars i d within, map-append, map-append) refl

-- a table once the name of one variable more is put in
pub finds_more :
    {S : Type 0} (table new : IndexMap (Bor Bytes) ℕ S) (vars : List Decl) (i : ℕ) (d : Decl) → i < length vars
    → Finds table (names (map decl_shape (take i vars)))
    → ((q : Bytes) → get_by (λ k. same_text q k.now) new
    ≡ (if is_some (get_by (λ k. same_text q k.now) table) then get_by (λ k. same_text q k.now) table else if same_text q (get_or vars i d).name.text.now then Some i else None))
    → Finds new (names (map decl_shape (take (i + 1) vars)))
finds_more table new vars i d within finds put = record {
  places = λ q.
      let name = (get_or vars i d).name.text.now in
      let ns = names (map decl_shape (take i vars)) in
      let count : length ns ≡ i = length-map (map decl_shape (take i vars)) (λ d. d.name.text) ∙ length-map (take i vars) decl_shape ∙ length-take-le i vars (omega arith) in
      put q ∙ ap (λ o. if is_some o then o else if same_text q name then Some i else None) (finds.places q)
      ∙ ap (λ k. if is_some (place_of q ns) then place_of q ns else if same_text q name then Some k else None) (sym count)
      ∙ sym (place_behind q ns name) ∙ ap (place_of q) (sym (names_more vars i d within));
}

-- a place is that of a variable
pub place_within : (name : Bytes) (vars : List Decl) (i : ℕ) → place_of name (names (map decl_shape vars)) ≡ Some i → i < length vars
place_within name vars i e =
    let within : i < length (names (map decl_shape vars)) = (position-Some (λ n. same_text n name) (names (map decl_shape vars)) i [] e).0 in
    omega (arith, within, length-map (map decl_shape vars) (λ d. d.name.text), length-map vars decl_shape)
