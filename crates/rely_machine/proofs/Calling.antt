-- What a call takes.
use Rattle.std.proofs.Common.{◌≡◌, ◌≢◌, ℕ, zero, suc, ◌+◌, ◌<◌, ◌≤◌, ℤ, List, [], ◌∷◌, length, map, get_or, Some, inl, inr, refl, sym, ap, subst, ◌∙◌, arith}
use Rattle.std.specs.Prelude.{option_map, slice_get, slice_set, option_and_then, is_none, IsTrue, ◌⊎◌}
use Rattle.std.specs.List.{AllByRecursion}
use Rattle.std.proofs.lemmas.List.{length-append}
use Rattle.rely_kernel.specs.declared.kernel.Kernel.{Kernel}
use Rattle.rely_kernel.specs.declared.kernel.Linked.{Linked}
use Rattle.rely_kernel.specs.declared.label.Label.TheVariants as label
use Rattle.rely_kernel.specs.declared.setting.Store.{Store}
use Rattle.rely_kernel.specs.Bound.{HasShape}
use Rattle.rely_kernel.specs.Labels.{number, labels_of}
use Rattle.rely_kernel.specs.Machine.{Config, Frame, Item, Call, Leave, Write, functions, right, callee, fresh, numbers_in, parameters, with_cell, argument_items, items, stmt_items}
use Rattle.rely_kernel.specs.Text.{Expr, Stmt, block_of}
use Rattle.rely_kernel.specs.Valid.{IsLinked, IsValid}
use Rattle.rely_kernel.specs.Running.{All-fit, AllFine, Fine, pushed}
use Rattle.rely_kernel.proofs.Balance.{Arity}
use Rattle.rely_kernel.proofs.Callees.{call_right, place_arity, fine}
use Rattle.rely_kernel.proofs.Shape.{fresh_shape, shape_put, scalar_below}
use Rattle.rely_machine.specs.declared.function.Function.{Function}
use Rattle.rely_machine.specs.Going.{Counts, HasRows, IsRunning, Runs, Exceeds, Stands, Takes, standing, one_more, with_use, with_entry}
use Rattle.rely_machine.specs.Table.{body_table, entries}
use Rattle.rely_machine.proofs.Reading.{found_map}
use Rattle.rely_machine.proofs.Sizes.{before, block_size, body_before}
use Rattle.rely_machine.proofs.Steps.{chance, entering, free, too_many, found_below}
use Rattle.rely_machine.proofs.Tables.{table_known}
use Rattle.rely_machine.proofs.Walking.{exceeds_first, exceeds_then, rows_use, set_length}

some_is : {X : Type 0} {x y : X} → Some x ≡ Some y → x ≡ y
some_is e = cc

less_or_more : (a b : ℕ) → (a < b) ⊎ (b ≤ a)
less_or_more a zero = inr (omega arith)
less_or_more zero (suc b) = inl (omega arith)
less_or_more (suc a) (suc b) = next (less_or_more a b)
  where
    next : (a < b) ⊎ (b ≤ a) → (suc a < suc b) ⊎ (suc b ≤ suc a)
    next (inl h) = inl (omega (arith, h))
    next (inr h) = inr (omega (arith, h))

-- one more at one place
more_at : (xs : List ℕ) (i j : ℕ) → get_or (one_more xs i) j 0 ≤ get_or xs j 0 + 1
more_at xs i j = set_at xs i j (get_or xs i 0 + 1) refl
  where
    set_at : (ys : List ℕ) (i j x : ℕ) → x ≡ get_or ys i 0 + 1 → get_or (slice_set ys i x) j 0 ≤ get_or ys j 0 + 1
    set_at [] i j x e = omega arith
    set_at (y ∷ ys) zero zero x e = omega (arith, e)
    set_at (y ∷ ys) zero (suc j) x e = omega arith
    set_at (y ∷ ys) (suc i) zero x e = omega arith
    set_at (y ∷ ys) (suc i) (suc j) x e = set_at ys i j x e

-- and elsewhere as many
elsewhere : (xs : List ℕ) (i j x : ℕ) → j ≢ i → get_or (slice_set xs i x) j 0 ≡ get_or xs j 0
elsewhere [] i j x ne = refl
elsewhere (y ∷ ys) zero zero x ne = absurd (ne refl)
elsewhere (y ∷ ys) zero (suc j) x ne = refl
elsewhere (y ∷ ys) (suc i) zero x ne = refl
elsewhere (y ∷ ys) (suc i) (suc j) x ne = elsewhere ys i j x (λ e. ne (ap suc e))

module _ (r : Function) (s : Store) (t : Counts) (v place : ℕ) (es : List Expr) (known : slice_get (functions r.linked.now) r.at ≡ Some r.kernel.now) (linked : IsLinked r.linked.now)
    (fits : Fine (functions r.linked.now) r.at r.kernel.now (Stmt.Call v place es))
    (q : Function) (same : q.linked.now ≡ r.linked.now) (same_tables : q.tables.now ≡ r.tables.now) (called : callee (functions r.linked.now) r.at place ≡ Some q.at) (earlier : q.at < r.at) (found : slice_get (functions r.linked.now) q.at ≡ Some q.kernel.now) where
  -- the callee is that of the place
  abbrev placed : Arity (functions r.linked.now) r.at place (length es)
  placed = place_arity (functions r.linked.now) r.at r.kernel.now known place (length es) fits.1

  same_place : q.at ≡ placed.g
  same_place = some_is (sym called ∙ placed.callee_is)

  same_kernel : q.kernel.now ≡ placed.k
  same_kernel = some_is (sym found ∙ (ap (slice_get (functions r.linked.now)) same_place ∙ placed.kernel_is))

  pub arity : length (parameters q.kernel.now) ≡ length es
  arity = ap (λ (k : Kernel). length (parameters k)) same_kernel ∙ placed.many

  abbrev its_arity : Arity (functions r.linked.now) r.at place (length es)
  its_arity = record { g = q.at; k = q.kernel.now; callee_is = called; kernel_is = found; many = arity }

  pub callee_valid : IsValid q.kernel.now
  callee_valid = linked.valid q.at q.kernel.now found

  pub callee_known : slice_get (functions q.linked.now) q.at ≡ Some q.kernel.now
  callee_known = ap (λ (l : Linked). slice_get (functions l) q.at) same ∙ found

  pub callee_linked : IsLinked q.linked.now
  callee_linked = subst IsLinked (sym same) linked

  pub callee_tables : map entries r.tables.now ≡ map body_table (functions r.linked.now) → map entries q.tables.now ≡ map body_table (functions q.linked.now)
  callee_tables are = ap (map entries) same_tables ∙ (are ∙ ap (λ (l : Linked). map body_table (functions l)) (sym same))

  pub callee_table : map entries r.tables.now ≡ map body_table (functions r.linked.now) → option_map entries (slice_get q.tables.now q.at) ≡ Some (body_table q.kernel.now)
  callee_table are = table_known q (callee_tables are) callee_known

  pub callee_fine : AllFine (functions q.linked.now) q.at q.kernel.now (block_of q.kernel.now.body)
  callee_fine = fine (functions q.linked.now) callee_linked q.at q.kernel.now callee_known

  -- and its text is before the caller's
  pub call_smaller : before (functions q.linked.now) q.at + block_size (block_of q.kernel.now.body) < before (functions r.linked.now) r.at
  call_smaller =
      let h = body_before (functions r.linked.now) q.at r.at q.kernel.now found earlier in
      let e = ap (λ (l : Linked). before (functions l) q.at) same in
      omega (arith, h, e)

  below_inner : q.at < length r.linked.now.inner
  below_inner =
      let a = found_below (functions r.linked.now) r.at r.kernel.now known in
      let b = length-append r.linked.now.inner (r.linked.now.kernel ∷ []) in
      omega (arith, a, b, earlier)

  pub called_known : HasRows r.linked.now t → q.at < length t.entries
  called_known rows = let e = rows.entries in let b = below_inner in omega (arith, e, b)

  module _ (t1 : Counts) (zs : List ℤ) (long : length zs ≡ length es) (number_fits : All-fit zs) (args : Runs r (argument_items es) (λ st. st) (pushed zs) s t s t1) where
    pub call_known : q.at < length t1.entries
    call_known = let e = args.running.rows.entries in let b = below_inner in omega (arith, e, b)

    pub call_stops_first : Exceeds r (argument_items es) (λ st. st) s t → Exceeds r (stmt_items (Stmt.Call v place es)) (λ st. st) s t
    call_stops_first h = exceeds_first r (λ more. Call place ∷ Write v ∷ more) h

    -- what the call costs
    cost_is : (n : ℕ) → n ≡ numbers_in (Some q.kernel.now) → numbers_in (option_and_then (slice_get (functions r.linked.now)) (callee (functions r.linked.now) r.at place)) ≡ n
    cost_is n e = ap (λ o. numbers_in (option_and_then (slice_get (functions r.linked.now)) o)) called ∙ ap numbers_in found ∙ sym e

    pub call_stops_enter : (n : ℕ) → n ≡ numbers_in (Some q.kernel.now) → t1.limit ≤ t1.steps + n → Exceeds r (stmt_items (Stmt.Call v place es)) (λ st. st) s t
    call_stops_enter n e many = exceeds_then r {b = λ more. Call place ∷ Write v ∷ more} args (record {
      takes = λ c more st fr stands. too_many r.linked.now c (standing r (Call place ∷ Write v ∷ more) (pushed zs st) s fr) t1 stands t1.limit n (cost_is n e) many;
    })

    module _ (n : ℕ) (n_is : n ≡ numbers_in (Some q.kernel.now)) (inner0 : Store) (inner_is : inner0 ≡ fresh q.kernel.now zs) (t2 : Counts) (t2_is : t2 ≡ with_entry t1 q.at n) where
      callee_shape : HasShape q.kernel.now inner0
      callee_shape =
          rw inner_is (fresh_shape q.kernel.now zs callee_valid.in_order (subst (λ (k : Kernel). AllByRecursion (λ x. IsTrue (is_none x.length)) (parameters k)) (sym same_kernel) fits.1.2.scalars) (arity ∙ sym long) number_fits)

      t2_rows : HasRows r.linked.now t2
      t2_rows = rw t2_is (record { rows = args.running.rows.rows; entries = set_length t1.entries q.at (get_or t1.entries q.at 0 + 1) ∙ args.running.rows.entries })

      t2_entries : (g : ℕ) → g < q.at → get_or t2.entries g 0 ≤ t2.steps
      t2_entries g b = rw (t2_is, elsewhere t1.entries q.at g (get_or t1.entries q.at 0 + 1) (λ e. absurd (omega (arith, e, b)))) (let h = args.running.entries g (omega (arith, b, earlier)) in omega (arith, h))

      pub callee_running : IsRunning q inner0 t2
      callee_running = record {
        linked = callee_linked;
        known = callee_known;
        tables = callee_tables args.running.tables;
        shape = callee_shape;
        rows = subst (λ (l : Linked). HasRows l t2) (sym same) t2_rows;
        entries = t2_entries;
      }

      -- the run stands before the callee's body
      enters : (c : Config) (more : List Item) (st : List ℤ) (fr : List Frame) → Stands r.linked.now c (standing r (stmt_items (Stmt.Call v place es) more) st s fr) t
          → Stands q.linked.now c (standing q (items (block_of q.kernel.now.body) (Leave ∷ Write v ∷ more)) st inner0 (record { function = r.at; store = s } ∷ fr)) t2
      enters c more st fr stands =
          let before : Config = standing r (Call place ∷ Write v ∷ more) (pushed zs st) s fr in
          let entered : Stands r.linked.now c (right (functions r.linked.now) before) (with_entry t1 q.at n) =
          entering r.linked.now c before t1 (args.goes c (Call place ∷ Write v ∷ more) st fr stands) q.at n refl called below_inner (cost_is n n_is) in
          rw (inner_is, t2_is, same) (subst (λ (d : Config). Stands r.linked.now c d (with_entry t1 q.at n)) (call_right (functions r.linked.now) r.at place (length es) its_arity zs long (Write v ∷ more) st s fr) entered)

      pub call_stops_body : Exceeds q (items (block_of q.kernel.now.body)) (λ st. st) inner0 t2 → Exceeds r (stmt_items (Stmt.Call v place es)) (λ st. st) s t
      call_stops_body h = record {
        takes = λ c more st fr stands.
            subst (λ (l : Linked). Takes l c t.limit) same (subst (λ m. Takes q.linked.now c m) (ap (λ (u : Counts). u.limit) t2_is ∙ args.keeps.limit)
            (h.takes c (Leave ∷ Write v ∷ more) st (record { function = r.at; store = s } ∷ fr) (enters c more st fr stands)));
      }

      module _ (inner1 : Store) (t3 : Counts) (body : Runs q (items (block_of q.kernel.now.body)) (λ st. st) (λ st. st) inner0 t2 inner1 t3) where
        t3_rows : HasRows r.linked.now t3
        t3_rows = subst (λ (l : Linked). HasRows l t3) same body.running.rows

        label_in : number r.kernel.now (label.Write v) < labels_of r.kernel.now
        label_in = let b = scalar_below r.kernel.now v fits.0 in omega (arith, b)

        pub call_label : (at i : ℕ) → at ≡ r.at → i ≡ number r.kernel.now (label.Write v) → i < get_or (map length t3.uses) at 0
        call_label at i here there = rw (here, there, t3_rows.rows, found_map labels_of (functions r.linked.now) r.at r.kernel.now known) label_in

        pub call_kept : (u : Counts) (at i : ℕ) → u ≡ with_use t3 at i → q.at < length u.entries
        call_kept u at i used = rw used (let e = t3_rows.entries in let b = below_inner in omega (arith, e, b))

        -- the run stands before the write
        leaves : (c : Config) (more : List Item) (st : List ℤ) (fr : List Frame) → Stands r.linked.now c (standing r (stmt_items (Stmt.Call v place es) more) st s fr) t
            → Stands r.linked.now c (standing r (Write v ∷ more) (inner1.result ∷ st) s fr) t3
        leaves c more st fr stands =
            let after_body : Stands q.linked.now c (standing q (Leave ∷ Write v ∷ more) st inner1 (record { function = r.at; store = s } ∷ fr)) t3 =
            body.goes c (Leave ∷ Write v ∷ more) st (record { function = r.at; store = s } ∷ fr) (enters c more st fr stands) in
            free r.linked.now c (standing q (Leave ∷ Write v ∷ more) st inner1 (record { function = r.at; store = s } ∷ fr)) t3
            (subst (λ (l : Linked). Stands l c (standing q (Leave ∷ Write v ∷ more) st inner1 (record { function = r.at; store = s } ∷ fr)) t3) same after_body) refl refl refl

        limits : t3.limit ≡ t.limit
        limits = body.keeps.limit ∙ (ap (λ (u : Counts). u.limit) t2_is ∙ args.keeps.limit)

        pub call_stops_write : t3.limit ≤ t3.steps + 1 → Exceeds r (stmt_items (Stmt.Call v place es)) (λ st. st) s t
        call_stops_write many = record {
          takes = λ c more st fr stands.
              subst (λ m. Takes r.linked.now c m) limits (too_many r.linked.now c (standing r (Write v ∷ more) (inner1.result ∷ st) s fr) t3 (leaves c more st fr stands) t3.limit 1 refl many);
        }

        -- entries of the callee rose by one, and a step was taken since
        entries_at : (g : ℕ) → g < r.at → get_or t3.entries g 0 ≤ t3.steps + 1
        entries_at g b = by_place (less_or_more g q.at)
          where
            by_place : (g < q.at) ⊎ (q.at ≤ g) → get_or t3.entries g 0 ≤ t3.steps + 1
            by_place (inl less) = let h = body.running.entries g less in omega (arith, h)
            by_place (inr more) =
                let a = body.keeps.above g more in
                let e = ap (λ (u : Counts). get_or u.entries g 0) t2_is in
                let m = more_at t1.entries q.at g in
                let h = args.running.entries g b in
                let up = body.keeps.steps in
                let n_up = ap (λ (u : Counts). u.steps) t2_is in
                omega (arith, a, e, m, h, up, n_up)

        above_at : (g : ℕ) → r.at ≤ g → get_or t3.entries g 0 ≡ get_or t.entries g 0
        above_at g b =
            body.keeps.above g (omega (arith, b, earlier))
            ∙ (ap (λ (u : Counts). get_or u.entries g 0) t2_is
            ∙ (elsewhere t1.entries q.at g (get_or t1.entries q.at 0 + 1) (λ e. absurd (omega (arith, e, b, earlier)))
            ∙ args.keeps.above g b))

        steps_up : t.steps ≤ t3.steps
        steps_up = let a = args.keeps.steps in let b = ap (λ (u : Counts). u.steps) t2_is in let d = body.keeps.steps in omega (arith, a, b, d)

        pub call_goes : {s' : Store} {u : Counts} {w : ℤ} (at i : ℕ) → s' ≡ with_cell s v (w ∷ []) → w ≡ inner1.result → u ≡ with_use t3 at i → at ≡ r.at → i ≡ number r.kernel.now (label.Write v)
            → Runs r (stmt_items (Stmt.Call v place es)) (λ st. st) (λ st. st) s t s' u
        call_goes at i wrote number_is used here there = rw (wrote, number_is, used, here, there) (record {
          running = record {
            linked = linked;
            known = known;
            tables = args.running.tables;
            shape = shape_put r.kernel.now s v inner1.result args.running.shape fits.0 body.running.shape.result;
            rows = rows_use r.linked.now t3 r.at (number r.kernel.now (label.Write v)) t3_rows;
            entries = entries_at;
          };
          keeps = record { above = above_at; steps = let a = steps_up in omega (arith, a); limit = limits };
          goes = λ c more st fr stands.
              chance r.linked.now c (standing r (Write v ∷ more) (inner1.result ∷ st) s fr) t3 (leaves c more st fr stands) r.kernel.now (label.Write v) (number r.kernel.now (label.Write v)) known refl refl label_in refl refl;
        })
