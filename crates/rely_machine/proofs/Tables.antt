-- The table of a text: how it is made, and what an entry says of the text that is left.
use Rattle.std.proofs.Common.{◌≡◌, ◌≢◌, ℕ, zero, suc, ◌+◌, ◌-◌, ◌<◌, ◌≤◌, ◌==◌, ◌||◌, Bool, true, false, ℤ, pos, negsuc, List, [], ◌∷◌, ◌++◌, length, map, take, drop, get_or, Some, inl, inr, refl, sym, ap, subst, ◌∙◌, arith}
use Rattle.std.specs.Prelude.{◌⊎◌, if◌then◌else◌, option_map, slice_get, slice_range, slice_set}
use Rattle.std.proofs.lemmas.List.{append_assoc, drop-drop, length-append, length-drop}
use Rattle.std.proofs.lemmas.Option.{slice_get-map}
use Rattle.std.proofs.Math.Seq.{drop-append_seam, take-append_seam}
use Rattle.rely_kernel.specs.declared.kernel.Ex.{Ex}
use Rattle.rely_kernel.specs.declared.kernel.Ex.TheVariants as ex
use Rattle.rely_kernel.specs.declared.kernel.Kernel.{Kernel}
use Rattle.rely_kernel.specs.declared.kernel.St.{St}
use Rattle.rely_kernel.specs.Machine.{functions}
use Rattle.rely_kernel.specs.Text.{Expr, Stmt, Block, done, ◌then◌, append, block_of, expr_of, stmt_of}
use Rattle.rely_kernel.specs.Running.{AllFine, Fine}
use Rattle.rely_kernel.proofs.TextLemmas.{text-Elem, text-Bin}
use Rattle.rely_machine.specs.declared.function.Function.{Function}
use Rattle.rely_machine.specs.declared.live.Live.{Live}
use Rattle.rely_machine.specs.declared.live.Text.{Text}
use Rattle.rely_machine.specs.Table.{Entry, HasTable, body_table, choice, entries, entries_of, entry_of, first_of, is_zero, second_of, table_of, with_blocks}
use Rattle.rely_machine.proofs.Sizes.{block_size, stmt_size}

pub either : (a b : Bool) → (a || b) ≡ true → (a ≡ true) ⊎ (b ≡ true)
either true b is = inl refl
either false b is = inr is

some_is : {X : Type 0} {x y : X} → Some x ≡ Some y → x ≡ y
some_is e = cc

-- ---- what isn't a number

abbrev pub NoNumber : Ex → Type 0
NoNumber e = ((v : ℕ) × (e ≡ ex.Read v)) ⊎ (((v : ℕ) × (i : Ex) × (e ≡ ex.Elem v i)) ⊎ ((site : ℕ) × (x : Ex) × (y : Ex) × (e ≡ ex.Bin site x y)))

-- it chooses no branch
pub no_choice : (e : Ex) (first second met : List Entry) → NoNumber e → choice (expr_of e) first second met ≡ met
no_choice e first second met (inl (v, is)) = rw is refl
no_choice e first second met (inr (inl (v, i, is))) = rw (is, text-Elem) refl
no_choice e first second met (inr (inr (site, x, y, is))) = rw (is, text-Bin) refl

-- and isn't the number 0
pub no_zero : (e : Ex) → NoNumber e → false ≡ is_zero (expr_of e)
no_zero e (inl (v, is)) = rw is refl
no_zero e (inr (inl (v, i, is))) = rw (is, text-Elem) refl
no_zero e (inr (inr (site, x, y, is))) = rw (is, text-Bin) refl

-- ---- how a table grows

pub table_at : (ss : List St) (i : ℕ) (s : St) → slice_get ss i ≡ Some s → table_of (block_of (drop i ss)) ≡ entries_of (stmt_of s.what) ++ table_of (block_of (drop (suc i) ss))
table_at [] i s is = absurd (cc)
table_at (x ∷ ss) zero s is = ap (λ (y : St). entries_of (stmt_of y.what) ++ table_of (block_of ss)) (some_is is)
table_at (x ∷ ss) (suc i) s is = table_at ss i s is

-- what is put for a statement with blocks
pub if_entries : (x : Stmt) (c : Expr) (ss ts us vs : List St) → x ≡ Stmt.If c (block_of ss) (block_of ts) → us ≡ ss → vs ≡ ts
    → choice c (table_of (block_of us)) (table_of (block_of vs)) (with_blocks x (table_of (block_of us)) (table_of (block_of vs))) ≡ entries_of x
if_entries x c ss ts us vs is a b = rw (is, a, b) refl

pub while_entries : (x : Stmt) (c : Expr) (n : ℕ) (ss us : List St) → x ≡ Stmt.While c n (block_of ss) → us ≡ ss → (if n == 0 || is_zero c then [] else with_blocks x (table_of (block_of us)) []) ≡ entries_of x
while_entries x c n ss us is a = rw (is, a) refl

pub repeat_entries : (x : Stmt) (n : ℕ) (ss us : List St) → x ≡ Stmt.Repeat n (block_of ss) → us ≡ ss → (if n == 0 then [] else with_blocks x (table_of (block_of us)) []) ≡ entries_of x
repeat_entries x n ss us is a = rw (is, a) refl

appended : (old : List Entry) (x : Entry) (fs ss : List Entry) → ((old ++ x ∷ []) ++ fs) ++ ss ≡ old ++ x ∷ (fs ++ ss)
appended [] x fs ss = refl
appended (y ∷ old) x fs ss = ap (λ zs. y ∷ zs) (appended old x fs ss)

set_behind : (old : List Entry) (x e : Entry) (rest : List Entry) (at : ℕ) → at ≡ length old → slice_set (old ++ x ∷ rest) at e ≡ old ++ e ∷ rest
set_behind [] x e rest zero is = refl
set_behind [] x e rest (suc at) is = absurd (omega (arith, is))
set_behind (y ∷ old) x e rest zero is = absurd (omega (arith, is))
set_behind (y ∷ old) x e rest (suc at) is = ap (λ zs. y ∷ zs) (set_behind old x e rest at (omega (arith, is)))

entry_put : (es old rest : List Entry) (x y z : Entry) (at : ℕ) → es ≡ old ++ x ∷ rest → at ≡ length old → y ≡ z → slice_set es at y ≡ old ++ z ∷ rest
entry_put es old rest x y z at whole there same = rw (whole, same) (set_behind old x z rest at there)

pub entries_long : (live : List Live) → length (entries live) ≡ length live
entries_long [] = refl
entries_long (l ∷ live) = ap suc (entries_long live)

entries_set : (live : List Live) (at : ℕ) (l : Live) → entries (slice_set live at l) ≡ slice_set (entries live) at (entry_of l)
entries_set [] at l = refl
entries_set (x ∷ live) zero l = refl
entries_set (x ∷ live) (suc at) l = ap (λ es. entry_of x ∷ es) (entries_set live at l)

pub entries_pushed : (live : List Live) (l : Live) → entries (live ++ l ∷ []) ≡ entries live ++ entry_of l ∷ []
entries_pushed [] l = refl
entries_pushed (x ∷ live) l = ap (λ es. entry_of x ∷ es) (entries_pushed live l)

entry_is : (l e : Live) (m n first second : ℕ) → e ≡ record { what = l.what; first = m; second = n } → m ≡ first → n ≡ second → entry_of e ≡ record { what = stmt_of l.what.now; first = first; second = second }
entry_is l e m n first second is a b = rw (is, a, b) refl

-- both blocks behind an entry that is set at last
pub both_put : (old one two three : List Live) (fs ss : List Entry) (l e : Live) (at a b : ℕ) → one ≡ old ++ l ∷ [] → entries two ≡ entries one ++ fs → entries three ≡ entries two ++ ss
    → at ≡ length old → a ≡ length two → b ≡ length three → e ≡ record { what = l.what; first = a - at - 1; second = b - at - 1 - (a - at - 1) }
    → entries (slice_set three at e) ≡ entries old ++ with_blocks (stmt_of l.what.now) fs ss
both_put old one two three fs ss l e at a b h1 h2 h3 is_at is_a is_b is_e =
    let n1 : length (entries one) ≡ length (entries old) + 1 = ap length (ap entries h1 ∙ entries_pushed old l) ∙ length-append (entries old) (entry_of l ∷ []) in
    let n2 : length (entries two) ≡ length (entries one) + length fs = ap length h2 ∙ length-append (entries one) fs in
    let n3 : length (entries three) ≡ length (entries two) + length ss = ap length h3 ∙ length-append (entries two) ss in
    let o = entries_long old in
    let two_is = entries_long two in
    let three_is = entries_long three in
    let there : at ≡ length (entries old) = omega (arith, is_at, o) in
    let first : a - at - 1 ≡ length fs = omega (arith, n1, n2, there, is_a, two_is) in
    let second : b - at - 1 - (a - at - 1) ≡ length ss = omega (arith, n1, n2, n3, there, is_a, is_b, two_is, three_is) in
    let whole : entries three ≡ entries old ++ entry_of l ∷ (fs ++ ss) =
    h3 ∙ (ap (λ es. es ++ ss) (h2 ∙ ap (λ es. es ++ fs) (ap entries h1 ∙ entries_pushed old l)) ∙ appended (entries old) (entry_of l) fs ss) in
    let entry : entry_of e ≡ record { what = stmt_of l.what.now; first = length fs; second = length ss } =
    entry_is l e (a - at - 1) (b - at - 1 - (a - at - 1)) (length fs) (length ss) is_e first second in
    entries_set three at e ∙ entry_put (entries three) (entries old) (fs ++ ss) (entry_of l) (entry_of e) (record { what = stmt_of l.what.now; first = length fs; second = length ss }) at whole there entry

-- ---- what takes no step and changes nothing

-- a block and what is left of it, where a run passes over its front
pub data Passes : Block → Block → Type 0 where
  here : (b : Block) → Passes b b
  no_round : (c : Expr) (n : ℕ) (x rest b : Block) → (n == 0 || is_zero c) ≡ true → Passes rest b → Passes (Stmt.While c n x then rest) b
  no_turn : (n : ℕ) (x rest b : Block) → (n == 0) ≡ true → Passes rest b → Passes (Stmt.Repeat n x then rest) b
  chooses : (z : ℤ) (x y rest b : Block) → z ≢ pos 0 → Passes (append x rest) b → Passes (Stmt.If (Expr.Num z) x y then rest) b
  refuses : (x y rest b : Block) → Passes (append y rest) b → Passes (Stmt.If (Expr.Num (pos 0)) x y then rest) b

append_size : (x y : Block) → block_size (append x y) + 1 ≡ block_size x + block_size y
append_size done y = omega arith
append_size (s then x) y = let h = append_size x y in omega (arith, h)

pub passes_size : (a b : Block) → Passes a b → block_size b ≤ block_size a
passes_size a b (here _) = omega arith
passes_size a b (no_round c n x rest _ is p) = let h = passes_size rest b p in omega (arith, h)
passes_size a b (no_turn n x rest _ is p) = let h = passes_size rest b p in omega (arith, h)
passes_size a b (chooses z x y rest _ ne p) = let h = passes_size (append x rest) b p in let k = append_size x rest in omega (arith, h, k)
passes_size a b (refuses x y rest _ p) = let h = passes_size (append y rest) b p in let k = append_size y rest in omega (arith, h, k)

module _ (fs : List Kernel) (f : ℕ) (k : Kernel) where
  fine_append : (x y : Block) → AllFine fs f k x → AllFine fs f k y → AllFine fs f k (append x y)
  fine_append done y g h = h
  fine_append (s then x) y g h = (g.0, fine_append x y g.1 h)

  pub passes_fine : (a b : Block) → Passes a b → AllFine fs f k a → AllFine fs f k b
  passes_fine a b (here _) h = h
  passes_fine a b (no_round c n x rest _ is p) h = passes_fine rest b p h.1
  passes_fine a b (no_turn n x rest _ is p) h = passes_fine rest b p h.1
  passes_fine a b (chooses z x y rest _ ne p) h = passes_fine (append x rest) b p (fine_append x rest h.0.1 h.1)
  passes_fine a b (refuses x y rest _ p) h = passes_fine (append y rest) b p (fine_append y rest h.0.2 h.1)

-- ---- what a table says of its text

-- what a run meets first, by the table
data Front (b : Block) : List Entry → Type 0 where
  none : Passes b done → Front b []
  some : (x : Stmt) (rest : Block) → Passes b (x then rest) → Front b (with_blocks x (first_of x) (second_of x) ++ table_of rest)

table_append : (x y : Block) → table_of (append x y) ≡ table_of x ++ table_of y
table_append done y = refl
table_append (s then x) y = ap (λ es. entries_of s ++ es) (table_append x y) ∙ sym (append_assoc (entries_of s) (table_of x) (table_of y))

-- the front of what is left is the front of the block
over : (a b : Block) → ((d : Block) → Passes b d → Passes a d) → (es : List Entry) → Front b es → Front a es
over a b by es (none p) = none (by done p)
over a b by es (some x rest p) = some x rest (by (x then rest) p)

-- by what is known of smaller blocks
module _ (n : ℕ) (smaller : (b : Block) → block_size b ≤ n → Front b (table_of b)) where
  -- a block that begins with the branch that a number chose
  front_of : (x rest : Block) → block_size x + block_size rest ≤ n → Front (append x rest) (table_of x ++ table_of rest)
  front_of x rest small = subst (Front (append x rest)) (table_append x rest) (smaller (append x rest) (let k = append_size x rest in omega (arith, k, small)))

  front_if : (c : Expr) (x y rest : Block) → 3 + block_size x + block_size y + block_size rest ≤ n → Front (Stmt.If c x y then rest) (table_of (Stmt.If c x y then rest))
  front_if (Expr.Num (pos zero)) x y rest small = over (Stmt.If (Expr.Num (pos 0)) x y then rest) (append y rest) (λ d p. refuses x y rest d p) (table_of y ++ table_of rest) (front_of y rest (omega (arith, small)))
  front_if (Expr.Num (pos (suc m))) x y rest small = over (Stmt.If (Expr.Num (pos (suc m))) x y then rest) (append x rest) (λ d p. chooses (pos (suc m)) x y rest d (λ e. cc) p) (table_of x ++ table_of rest) (front_of x rest (omega (arith, small)))
  front_if (Expr.Num (negsuc m)) x y rest small = over (Stmt.If (Expr.Num (negsuc m)) x y then rest) (append x rest) (λ d p. chooses (negsuc m) x y rest d (λ e. cc) p) (table_of x ++ table_of rest) (front_of x rest (omega (arith, small)))
  front_if (Expr.Read v) x y rest small = some (Stmt.If (Expr.Read v) x y) rest (here (Stmt.If (Expr.Read v) x y then rest))
  front_if (Expr.Elem a i) x y rest small = some (Stmt.If (Expr.Elem a i) x y) rest (here (Stmt.If (Expr.Elem a i) x y then rest))
  front_if (Expr.Bin site a b) x y rest small = some (Stmt.If (Expr.Bin site a b) x y) rest (here (Stmt.If (Expr.Bin site a b) x y then rest))

  front_while : (c : Expr) (m : ℕ) (x rest : Block) → block_size rest ≤ n → (idle : Bool) → (m == 0 || is_zero c) ≡ idle
      → Front (Stmt.While c m x then rest) ((if idle then [] else with_blocks (Stmt.While c m x) (table_of x) []) ++ table_of rest)
  front_while c m x rest small true is = over (Stmt.While c m x then rest) rest (λ d p. no_round c m x rest d is p) (table_of rest) (smaller rest small)
  front_while c m x rest small false is = some (Stmt.While c m x) rest (here (Stmt.While c m x then rest))

  front_repeat : (m : ℕ) (x rest : Block) → block_size rest ≤ n → (idle : Bool) → (m == 0) ≡ idle → Front (Stmt.Repeat m x then rest) ((if idle then [] else with_blocks (Stmt.Repeat m x) (table_of x) []) ++ table_of rest)
  front_repeat m x rest small true is = over (Stmt.Repeat m x then rest) rest (λ d p. no_turn m x rest d is p) (table_of rest) (smaller rest small)
  front_repeat m x rest small false is = some (Stmt.Repeat m x) rest (here (Stmt.Repeat m x then rest))

  front_next : (s : Stmt) (rest : Block) → stmt_size s + block_size rest ≤ n → Front (s then rest) (table_of (s then rest))
  front_next (Stmt.Set v e) rest small = some (Stmt.Set v e) rest (here (Stmt.Set v e then rest))
  front_next (Stmt.SetElem a i e) rest small = some (Stmt.SetElem a i e) rest (here (Stmt.SetElem a i e then rest))
  front_next (Stmt.If c x y) rest small = front_if c x y rest small
  front_next (Stmt.While c m x) rest small = front_while c m x rest (omega (arith, small)) (m == 0 || is_zero c) refl
  front_next (Stmt.Repeat m x) rest small = front_repeat m x rest (omega (arith, small)) (m == 0) refl
  front_next (Stmt.Result e) rest small = some (Stmt.Result e) rest (here (Stmt.Result e then rest))
  front_next (Stmt.Call v place es) rest small = some (Stmt.Call v place es) rest (here (Stmt.Call v place es then rest))
  front_next Stmt.Enter rest small = some Stmt.Enter rest (here (Stmt.Enter then rest))

-- of a block of no more than that size
front : (n : ℕ) (b : Block) → block_size b ≤ n → Front b (table_of b)
front n done small = none (here done)
front zero (s then rest) small = absurd (omega (arith, small))
front (suc n) (s then rest) small = front_next n (front n) s rest (omega (arith, small))

front_size : (b : Block) → Front b (table_of b)
front_size b = front (block_size b) b (omega arith)

-- where the table has no entry, a run passes over all
pub none_left : (b : Block) → length (table_of b) ≡ 0 → Passes b done
none_left b = by (table_of b) (front_size b)
  where
    by : (es : List Entry) → Front b es → length es ≡ 0 → Passes b done
    by es (none p) is = p
    by es (some x rest p) is = absurd (omega (arith, is))

pub text_passed : (text : Text) → HasTable text → length text.live.now ≡ 0 → Passes (block_of text.statements.now) done
text_passed text h empty = none_left (block_of text.statements.now) (ap length (sym h.live) ∙ (entries_long text.live.now ∙ empty))

-- what a run meets is the statement of the first entry; its blocks' tables follow the entry, and then that of what is left
pub record Next (rest : Block) (e : Live) (inner : List Live) : Type 0 where
  pub behind : Block
  pub passes : Passes rest (stmt_of e.what.now then behind)
  pub first : entries (take e.first inner) ≡ first_of (stmt_of e.what.now)
  pub first_many : e.first ≤ length inner
  pub second : entries (take e.second (drop e.first inner)) ≡ second_of (stmt_of e.what.now)
  pub second_many : e.second ≤ length (drop e.first inner)
  pub table : entries (drop e.second (drop e.first inner)) ≡ table_of behind

entries_take : (n : ℕ) (live : List Live) → entries (take n live) ≡ take n (entries live)
entries_take zero live = refl
entries_take (suc n) [] = refl
entries_take (suc n) (l ∷ live) = ap (λ es. entry_of l ∷ es) (entries_take n live)

entries_drop : (n : ℕ) (live : List Live) → entries (drop n live) ≡ drop n (entries live)
entries_drop zero live = refl
entries_drop (suc n) [] = refl
entries_drop (suc n) (l ∷ live) = entries_drop n live

next_by : (rest : Block) (e : Live) (inner : List Live) (x : Stmt) (behind : Block) → Passes rest (x then behind) → entry_of e ≡ record { what = x; first = length (first_of x); second = length (second_of x) }
    → entries inner ≡ (first_of x ++ second_of x) ++ table_of behind → Next rest e inner
next_by rest e inner x behind p is_e is_inner =
    let fs = first_of x in
    let ss = second_of x in
    let what : stmt_of e.what.now ≡ x = ap (λ (y : Entry). y.what) is_e in
    let one : e.first ≡ length fs = ap (λ (y : Entry). y.first) is_e in
    let two : e.second ≡ length ss = ap (λ (y : Entry). y.second) is_e in
    let all : entries inner ≡ fs ++ (ss ++ table_of behind) = is_inner ∙ append_assoc fs ss (table_of behind) in
    let long : length inner ≡ length fs + length (ss ++ table_of behind) = sym (entries_long inner) ∙ (ap length all ∙ length-append fs (ss ++ table_of behind)) in
    let after : entries (drop e.first inner) ≡ ss ++ table_of behind =
    entries_drop e.first inner ∙ (ap (λ n. drop n (entries inner)) one ∙ (ap (drop (length fs)) all ∙ drop-append_seam fs (ss ++ table_of behind))) in
    let long_after : length (drop e.first inner) ≡ length ss + length (table_of behind) = sym (entries_long (drop e.first inner)) ∙ (ap length after ∙ length-append ss (table_of behind)) in
    record {
      behind = behind;
      passes = subst (λ y. Passes rest (y then behind)) (sym what) p;
      first = entries_take e.first inner ∙ (ap (λ n. take n (entries inner)) one ∙ (ap (take (length fs)) all ∙ (take-append_seam fs (ss ++ table_of behind) ∙ ap first_of (sym what))));
      first_many = omega (arith, one, long);
      second = entries_take e.second (drop e.first inner) ∙ (ap (take e.second) after ∙ (ap (λ n. take n (ss ++ table_of behind)) two ∙ (take-append_seam ss (table_of behind) ∙ ap second_of (sym what))));
      second_many = omega (arith, two, long_after);
      table = entries_drop e.second (drop e.first inner) ∙ (ap (drop e.second) after ∙ (ap (λ n. drop n (ss ++ table_of behind)) two ∙ drop-append_seam ss (table_of behind)));
    }

pub next_of : (rest : Block) (e : Live) (inner : List Live) → entry_of e ∷ entries inner ≡ table_of rest → Next rest e inner
next_of rest e inner = by (table_of rest) (front_size rest)
  where
    heads : {a b : Entry} {us vs : List Entry} → a ∷ us ≡ b ∷ vs → a ≡ b
    heads h = cc

    tails : {a b : Entry} {us vs : List Entry} → a ∷ us ≡ b ∷ vs → us ≡ vs
    tails h = cc

    by : (es : List Entry) → Front rest es → entry_of e ∷ entries inner ≡ es → Next rest e inner
    by es (none p) is = absurd (cc)
    by es (some x behind p) is = next_by rest e inner x behind p (heads is) (tails is)

-- what is left of a block, of which that is the table
pub record Left (text : Block) (live : List Live) : Type 0 where
  pub rest : Block
  pub table : entries live ≡ table_of rest
  pub small : block_size rest ≤ block_size text
  pub fine : (fs : List Kernel) (f : ℕ) (k : Kernel) → AllFine fs f k text → AllFine fs f k rest

abbrev pub left_whole : (text : Block) (live : List Live) → entries live ≡ table_of text → Left text live
left_whole text live is = record { rest = text; table = is; small = omega arith; fine = λ fs f k h. h }

drop_here : (live : List Live) (at : ℕ) (d : Live) → at < length live → drop at live ≡ get_or live at d ∷ drop (suc at) live
drop_here [] at d below = absurd (omega (arith, below))
drop_here (l ∷ live) zero d below = refl
drop_here (l ∷ live) (suc at) d below = drop_here live at d (omega (arith, below))

pub drop_more : (live : List Live) (m n k : ℕ) → m + n ≡ k → drop n (drop m live) ≡ drop k live
drop_more live m n k is = drop-drop n m live ∙ ap (λ i. drop i live) is

-- what the entry at a place of a table says
module _ (text : Block) (live : List Live) (at : ℕ) (d : Live) (below : at < length live) (w : Left text (drop at live)) where
  abbrev pub met : Live
  met = get_or live at d

  pub next_at : Next w.rest met (drop (suc at) live)
  next_at = next_of w.rest met (drop (suc at) live) (sym (ap entries (drop_here live at d below)) ∙ w.table)

  abbrev pub behind_at : Block
  behind_at = next_at.behind

  pub passes_at : Passes w.rest (stmt_of met.what.now then behind_at)
  passes_at = next_at.passes

  -- the entries of its blocks are there
  pub within_at : at + 1 + met.first + met.second ≤ length live
  within_at =
      let a = next_at.first_many in
      let b = next_at.second_many in
      let c = length-drop (suc at) live in
      let d = length-drop met.first (drop (suc at) live) in
      omega (arith, a, b, c, d, below)

  pub first_at : (start end : ℕ) → start ≡ at + 1 → end ≡ at + 1 + met.first → entries (slice_range live start end) ≡ first_of (stmt_of met.what.now)
  first_at start end is_start is_end =
      let many : end - start ≡ met.first = omega (arith, is_start, is_end) in
      let from : start ≡ suc at = omega (arith, is_start) in
      ap entries (ap (λ n. take n (drop start live)) many ∙ ap (λ n. take met.first (drop n live)) from) ∙ next_at.first

  pub second_at : (start end : ℕ) → start ≡ at + 1 + met.first → end ≡ at + 1 + met.first + met.second → entries (slice_range live start end) ≡ second_of (stmt_of met.what.now)
  second_at start end is_start is_end =
      let many : end - start ≡ met.second = omega (arith, is_start, is_end) in
      ap entries (ap (λ n. take n (drop start live)) many ∙ ap (take met.second) (sym (drop_more live (suc at) met.first start (omega (arith, is_start))))) ∙ next_at.second

  -- the statement is smaller than the block, and fits as it does
  pub smaller_at : stmt_size (stmt_of met.what.now) < block_size text
  smaller_at = let p = passes_size w.rest (stmt_of met.what.now then behind_at) passes_at in let h = w.small in omega (arith, p, h)

  pub fits_at : (fs : List Kernel) (f : ℕ) (k : Kernel) → AllFine fs f k text → Fine fs f k (stmt_of met.what.now)
  fits_at fs f k h = (passes_fine fs f k w.rest (stmt_of met.what.now then behind_at) passes_at (w.fine fs f k h)).0

  abbrev pub left_at : (end : ℕ) → end ≡ at + 1 + met.first + met.second → Left text (drop end live)
  left_at end is_end = record {
    rest = behind_at;
    table = ap entries (sym (ap (drop met.second) (drop_more live (suc at) met.first (at + 1 + met.first) (omega arith)) ∙ drop_more live (at + 1 + met.first) met.second end (sym is_end))) ∙ next_at.table;
    small = let p = passes_size w.rest (stmt_of met.what.now then behind_at) passes_at in let h = w.small in omega (arith, p, h);
    fine = λ fs f k h. (passes_fine fs f k w.rest (stmt_of met.what.now then behind_at) passes_at (w.fine fs f k h)).1;
  }

-- ---- tables of functions

pub table_known : (q : Function) → map entries q.tables.now ≡ map body_table (functions q.linked.now) → slice_get (functions q.linked.now) q.at ≡ Some q.kernel.now → option_map entries (slice_get q.tables.now q.at) ≡ Some (body_table q.kernel.now)
table_known q are known =
    sym (slice_get-map entries q.tables.now q.at) ∙ (ap (λ ts. slice_get ts q.at) are ∙ (slice_get-map body_table (functions q.linked.now) q.at ∙ ap (option_map body_table) known))

pub has_table : (text : Text) (k : Kernel) → text.statements.now ≡ k.body → entries text.live.now ≡ body_table k → HasTable text
has_table text k body live = record { live = live ∙ ap (λ ss. table_of (block_of ss)) (sym body) }
