-- The walk backward through the text, with its three limits.
use Rattle.std.specs.Prelude.{ℕ, zero, suc, ◌+◌, ◌*◌, ◌^◌, Bool, true, false, not, ◌||◌, List, [], ◌∷◌, ◌++◌, map, filter, length, flat_map, nat_lt, Option, Some, None, if◌then◌else◌}
use Rattle.std.specs.List.{list_any, list_all}
use Rattle.rely_num.specs.declared.conj.Conj.{Conj}
use Rattle.rely_num.specs.declared.span.Span.{Span}
use Rattle.rely_kernel.specs.declared.kernel.Kernel.{Kernel}
use Rattle.rely_kernel.specs.Paths.{skips, use_of, past, paths, claimed, at_start}
use Rattle.rely_predicate.specs.Top.{covers, top, with_one}
use Rattle.rely_predicate.specs.Shift.{raise, times, shift}
use Rattle.rely_loops.specs.Grown.{too_many}
use Rattle.rely_precond.specs.Places.{Line, Lines, end, line, plain, lines_of}

pub data Limit : Type 0 where
  Wide : Limit
  Count : Limit
  Work : Limit

-- a list and the work so far, or the first limit with its place
pub data Walked : Type 0 where
  Stands : List Conj → ℕ → Walked
  Stops : Limit → Span → Walked

abbrev pub and_then : Walked → (List Conj → ℕ → Walked) → Walked
and_then (Stands p work) next = next p work
and_then (Stops limit at) next = Stops limit at

-- ---- a new list

abbrev pub unless : Bool → (List Conj → Option (List Conj)) → List Conj → Option (List Conj)
unless true next p = None
unless false next p = next p

-- a predicate with conjuncts added one by one, or none where 257 stand after one of them
abbrev pub added : List Conj → List Conj → Option (List Conj)
added p [] = Some p
added p (c ∷ cs) = let q = with_one c p in unless (nat_lt 256 (length q)) (λ r. added r cs) q

-- the work grows by the square of the number of conjuncts
abbrev pub worked : Span → Option (List Conj) → ℕ → Walked
worked at None work = Stops Wide at
worked at (Some p) work = let more = work + length p * length p in if nat_lt (2 ^ 24) more then Stops Work at else Stands p more

-- a list that was walked: Count before Wide, and Wide before Work
abbrev pub stand : Span → List Conj → ℕ → Walked
stand at ps work = if too_many ps then Stops Count at else worked at (added [] ps) work

-- a list n times raised by the vector, which isn't walked
abbrev pub multiply : Span → ℕ → List ℕ → List Conj → ℕ → Walked
multiply at n by p work = let q = map (raise (times n by)) p in if too_many q then Stops Count at else worked at (Some q) work

-- ---- the turns of a loop

-- after a turn: the turns that are left, which one multiplication does where there are any and the turn is settled
abbrev pub go_on : Span → ℕ → Option (List ℕ) → (List Conj → ℕ → Walked) → List Conj → ℕ → Walked
go_on at zero by next = next
go_on at (suc left) None next = next
go_on at (suc left) (Some by) next = multiply at (suc left) by

-- so many turns, each of which is settled where one vector takes the list before it to the list after it
abbrev pub repeats : Span → (List Conj → ℕ → Walked) → ℕ → List Conj → ℕ → Walked
repeats at body zero q work = Stands q work
repeats at body (suc left) q work =
    and_then (body q work) (λ b w.
    and_then (stand at b w) (λ r v.
    go_on at left (shift q r) (λ p u. repeats at body left p u) r v))

-- each of the first is covered by one of the second
abbrev pub all_covered : List Conj → List Conj → Bool
all_covered cs ds = list_all (λ c. list_any (λ d. covers d c) ds) cs

-- the vector, where it is all zeros, or what stands behind the loop is covered
abbrev pub settled : Bool → Option (List ℕ) → Option (List ℕ)
settled covered None = None
settled covered (Some by) = if not (list_any (nat_lt 0) by) || covered then Some by else None

-- the turns of `while`: after each one what stands behind the loop joins, and both have the condition added
abbrev pub whiles : Span → (Conj → Conj) → (List Conj → ℕ → Walked) → List Conj → ℕ → List Conj → ℕ → Walked
whiles at test body ts zero q work = Stands q work
whiles at test body ts (suc left) q work =
    and_then (body q work) (λ b w.
    and_then (stand at (map test (b ++ ts)) w) (λ r v.
    go_on at left (settled (all_covered (map test ts) (map test b)) (shift q r)) (λ p u. whiles at test body ts left p u) r v))

-- ---- statements

-- the conjuncts of which a statement writes nothing, and the others
abbrev pub untouched : Line → List Conj → List Conj
untouched s ps = filter (skips (plain s)) ps

abbrev pub touched : Line → List Conj → List Conj
touched s ps = filter (λ c. not (skips (plain s) c)) ps

-- the first conjuncts as they are, then what the others become; where there are no others nothing is walked
abbrev pub joined : Span → List Conj → List Conj → (List Conj → ℕ → Walked) → ℕ → Walked
joined at us [] become work = stand at us work
joined at us (t ∷ ts) become work = and_then (become (t ∷ ts) work) (λ q w. stand at (us ++ q) w)

-- each conjunct in order, as the table of paths changes it
abbrev pub changed : Kernel → Line → List Conj → List Conj
changed k s ps = flat_map (λ c. past (skips (plain s) c) (paths k (plain s)) c) ps

abbrev mutual
  -- a statement at its place
  pub walk : Kernel → Span → Line → List Conj → ℕ → Walked
  walk k at (Line.Set v e) ps work = stand at (changed k (Line.Set v e) ps) work
  walk k at (Line.SetElem a i e) ps work = stand at (changed k (Line.SetElem a i e) ps) work
  walk k at (Line.Result e) ps work = stand at (changed k (Line.Result e) ps) work
  walk k at (Line.Call v place es) ps work = stand at (changed k (Line.Call v place es) ps) work
  walk k at (Line.If e s t) ps work = joined at (untouched (Line.If e s t) ps) (touched (Line.If e s t) ps) (λ ts w.
      and_then (walk_all k s ts w) (λ a v.
      and_then (walk_all k t ts v) (λ b u.
      Stands (map (use_of k e) (a ++ b)) u))) work
  walk k at (Line.Repeat n s) ps work = joined at (untouched (Line.Repeat n s) ps) (touched (Line.Repeat n s) ps) (λ ts. repeats at (λ q w. walk_all k s q w) n ts) work
  walk k at (Line.While e zero s) ps work = stand at ps work
  walk k at (Line.While e (suc n) s) ps work = joined at (untouched (Line.While e (suc n) s) ps) (touched (Line.While e (suc n) s) ps) (λ ts. whiles at (use_of k e) (λ q w. walk_all k s q w) ts (suc n) ts) work

  -- from the last statement to the first
  pub walk_all : Kernel → Lines → List Conj → ℕ → Walked
  walk_all k end ps work = Stands ps work
  walk_all k (line at s rest) ps work = and_then (walk_all k rest ps work) (λ p w. walk k at s p w)

-- of a claim with that target, from one conjunct that counts nothing; only parameters are kept at the start of the function, which is no work
unfoldable pub walk_claim : Kernel → ℕ → Walked
walk_claim k target = and_then (walk_all k (lines_of k.body) (claimed k target ∷ []) 0) (λ p w. Stands (top (map (at_start k) p)) w)
