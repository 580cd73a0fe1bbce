-- The walk, step by step as the code takes it.
use Rattle.std.proofs.Common.{◌≡◌, ℕ, zero, suc, ◌-◌, ◌<◌, Bool, List, [], ◌∷◌, ◌++◌, map, length, Option, Some, None, refl, sym, ap, subst, ◌∙◌, arith}
use Rattle.rely_num.specs.declared.conj.Conj.{Conj}
use Rattle.rely_num.specs.declared.span.Span.{Span}
use Rattle.rely_predicate.specs.Shift.{shift}
use Rattle.rely_precond.specs.declared.fault.PreFault.{PreFault}
use Rattle.rely_precond.specs.declared.fault.PreFault.TheVariants as fault
use Rattle.rely_precond.specs.Answers.{IsStop}
use Rattle.rely_precond.specs.Walk.{Walked, Stands, and_then, stand, multiply, go_on, repeats, all_covered, settled, whiles, joined}

-- ---- one step and then the next

pub then_goes : (x : Walked) (p : List Conj) (work : ℕ) (next : List Conj → ℕ → Walked) → x ≡ Stands p work → and_then x next ≡ next p work
then_goes x p work next e = ap (λ y. and_then y next) e

pub then_stops : (x : Walked) (f : PreFault) (next : List Conj → ℕ → Walked) → IsStop x f → IsStop (and_then x next) f
then_stops x (fault.Wide at) next h = ap (λ y. and_then y next) h
then_stops x (fault.Count at) next h = ap (λ y. and_then y next) h
then_stops x (fault.Work at) next h = ap (λ y. and_then y next) h
then_stops x fault.Memory next h = tt

pub stop_as : (x y : Walked) (f : PreFault) → x ≡ y → IsStop x f → IsStop y f
stop_as x y f e h = subst (λ (w : Walked). IsStop w f) e h

pub joined_some : (at : Span) (us ts : List Conj) (become : List Conj → ℕ → Walked) (work : ℕ) → 0 < length ts → joined at us ts become work ≡ and_then (become ts work) (λ q w. stand at (us ++ q) w)
joined_some at us [] become work h = absurd (omega (arith, h))
joined_some at us (t ∷ ts) become work h = refl

pub joined_none : (at : Span) (us ts : List Conj) (become : List Conj → ℕ → Walked) (work : ℕ) → length ts ≡ 0 → joined at us ts become work ≡ stand at us work
joined_none at us [] become work h = refl
joined_none at us (t ∷ ts) become work h = absurd (omega (arith, h))

-- ---- what is left after a turn

pub no_more : (at : Span) (left : ℕ) (o : Option (List ℕ)) (next : List Conj → ℕ → Walked) (r : List Conj) (v : ℕ) → left ≡ 0 → go_on at left o next r v ≡ next r v
no_more at zero o next r v e = refl
no_more at (suc left) o next r v e = absurd (omega (arith, e))

pub unsettled : (at : Span) (left : ℕ) (o : Option (List ℕ)) (next : List Conj → ℕ → Walked) (r : List Conj) (v : ℕ) → o ≡ None → go_on at left o next r v ≡ next r v
unsettled at zero o next r v e = refl
unsettled at (suc left) o next r v e = ap (λ x. go_on at (suc left) x next r v) e

pub settles : (at : Span) (left : ℕ) (o : Option (List ℕ)) (by : List ℕ) (next : List Conj → ℕ → Walked) (r : List Conj) (v : ℕ) → 0 < left → o ≡ Some by → go_on at left o next r v ≡ multiply at left by r v
settles at zero o by next r v some e = absurd (omega (arith, some))
settles at (suc left) o by next r v some e = ap (λ x. go_on at (suc left) x next r v) e

-- ---- one turn of `repeat`

module _ (at : Span) (body : List Conj → ℕ → Walked) (left : ℕ) (some : 0 < left) (q : List Conj) (work : ℕ) where
  turn_is : repeats at body left q work
      ≡ and_then (body q work) (λ b w. and_then (stand at b w) (λ r v. go_on at (left - 1) (shift q r) (λ p u. repeats at body (left - 1) p u) r v))
  turn_is = let n : left ≡ suc (left - 1) = omega arith in ap (λ m. repeats at body m q work) n

  pub repeat_body : (f : PreFault) → IsStop (body q work) f → IsStop (repeats at body left q work) f
  repeat_body f h = stop_as (and_then (body q work) _) (repeats at body left q work) f (sym turn_is) (then_stops (body q work) f _ h)

  pub repeat_stand : (b : List Conj) (w : ℕ) (f : PreFault) → body q work ≡ Stands b w → IsStop (stand at b w) f → IsStop (repeats at body left q work) f
  repeat_stand b w f x h =
      stop_as (and_then (stand at b w) _) (repeats at body left q work) f (sym (turn_is ∙ then_goes (body q work) b w _ x)) (then_stops (stand at b w) f _ h)

  pub repeat_turn : (b : List Conj) (w : ℕ) (r : List Conj) (v : ℕ) → body q work ≡ Stands b w → stand at b w ≡ Stands r v
      → repeats at body left q work ≡ go_on at (left - 1) (shift q r) (λ p u. repeats at body (left - 1) p u) r v
  repeat_turn b w r v x y = turn_is ∙ then_goes (body q work) b w _ x ∙ then_goes (stand at b w) r v _ y

-- ---- one turn of `while`

module _ (at : Span) (test : Conj → Conj) (body : List Conj → ℕ → Walked) (ts : List Conj) (left : ℕ) (some : 0 < left) (q : List Conj) (work : ℕ) where
  round_is : whiles at test body ts left q work
      ≡ and_then (body q work) (λ b w. and_then (stand at (map test (b ++ ts)) w) (λ r v.
      go_on at (left - 1) (settled (all_covered (map test ts) (map test b)) (shift q r)) (λ p u. whiles at test body ts (left - 1) p u) r v))
  round_is = let n : left ≡ suc (left - 1) = omega arith in ap (λ m. whiles at test body ts m q work) n

  pub while_body : (f : PreFault) → IsStop (body q work) f → IsStop (whiles at test body ts left q work) f
  while_body f h = stop_as (and_then (body q work) _) (whiles at test body ts left q work) f (sym round_is) (then_stops (body q work) f _ h)

  pub while_stand : (b : List Conj) (w : ℕ) (f : PreFault) → body q work ≡ Stands b w → IsStop (stand at (map test (b ++ ts)) w) f → IsStop (whiles at test body ts left q work) f
  while_stand b w f x h =
      stop_as (and_then (stand at (map test (b ++ ts)) w) _) (whiles at test body ts left q work) f (sym (round_is ∙ then_goes (body q work) b w _ x)) (then_stops (stand at (map test (b ++ ts)) w) f _ h)

  pub while_turn : (b : List Conj) (w : ℕ) (r : List Conj) (v : ℕ) → body q work ≡ Stands b w → stand at (map test (b ++ ts)) w ≡ Stands r v
      → whiles at test body ts left q work ≡ go_on at (left - 1) (settled (all_covered (map test ts) (map test b)) (shift q r)) (λ p u. whiles at test body ts (left - 1) p u) r v
  while_turn b w r v x y = round_is ∙ then_goes (body q work) b w _ x ∙ then_goes (stand at (map test (b ++ ts)) w) r v _ y

-- ---- a turn, as code settles it

module _ (at : Span) (body : List Conj → ℕ → Walked) (left : ℕ) (some : 0 < left) (q : List Conj) (work : ℕ) (b : List Conj) (w : ℕ) (r : List Conj) (v : ℕ)
    (x : body q work ≡ Stands b w) (y : stand at b w ≡ Stands r v) where
  pub repeat_settled : (before : List Conj) (o : Option (List ℕ)) (by bys : List ℕ) → 0 < left - 1 → before ≡ q → o ≡ shift before r → o ≡ Some by → bys ≡ by → multiply at (left - 1) bys r v ≡ repeats at body left q work
  repeat_settled before o by bys more same found is e =
      ap (λ z. multiply at (left - 1) z r v) e
      ∙ sym (settles at (left - 1) (shift q r) by (λ p u. repeats at body (left - 1) p u) r v more (ap (λ p. shift p r) (sym same) ∙ sym found ∙ is))
      ∙ sym (repeat_turn at body left some q work b w r v x y)

  pub repeat_on : (before : List Conj) (o : Option (List ℕ)) → before ≡ q → o ≡ shift before r → o ≡ None → repeats at body (left - 1) r v ≡ repeats at body left q work
  repeat_on before o same found is =
      sym (unsettled at (left - 1) (shift q r) (λ p u. repeats at body (left - 1) p u) r v (ap (λ p. shift p r) (sym same) ∙ sym found ∙ is))
      ∙ sym (repeat_turn at body left some q work b w r v x y)

  pub repeat_last : left - 1 ≡ 0 → repeats at body (left - 1) r v ≡ repeats at body left q work
  repeat_last none = sym (no_more at (left - 1) (shift q r) (λ p u. repeats at body (left - 1) p u) r v none) ∙ sym (repeat_turn at body left some q work b w r v x y)

module _ (at : Span) (test : Conj → Conj) (body : List Conj → ℕ → Walked) (ts : List Conj) (left : ℕ) (some : 0 < left) (q : List Conj) (work : ℕ) (b : List Conj) (w : ℕ) (r : List Conj) (v : ℕ)
    (x : body q work ≡ Stands b w) (y : stand at (map test (b ++ ts)) w ≡ Stands r v) where
  settled_is : (before : List Conj) (g o : Option (List ℕ)) (covered : Bool) → before ≡ q → g ≡ shift before r → covered ≡ all_covered (map test ts) (map test b) → o ≡ settled covered g
      → settled (all_covered (map test ts) (map test b)) (shift q r) ≡ o
  settled_is before g o covered same found over is =
      ap (λ p. settled (all_covered (map test ts) (map test b)) (shift p r)) (sym same) ∙ ap (settled (all_covered (map test ts) (map test b))) (sym found) ∙ ap (λ z. settled z g) (sym over) ∙ sym is

  pub while_settled : (before : List Conj) (g o : Option (List ℕ)) (covered : Bool) (by bys : List ℕ) → 0 < left - 1 → before ≡ q → g ≡ shift before r → covered ≡ all_covered (map test ts) (map test b)
      → o ≡ settled covered g → o ≡ Some by → bys ≡ by → multiply at (left - 1) bys r v ≡ whiles at test body ts left q work
  while_settled before g o covered by bys more same found over exact is e =
      ap (λ z. multiply at (left - 1) z r v) e
      ∙ sym (settles at (left - 1) (settled (all_covered (map test ts) (map test b)) (shift q r)) by (λ p u. whiles at test body ts (left - 1) p u) r v more (settled_is before g o covered same found over exact ∙ is))
      ∙ sym (while_turn at test body ts left some q work b w r v x y)

  pub while_on : (before : List Conj) (g o : Option (List ℕ)) (covered : Bool) → before ≡ q → g ≡ shift before r → covered ≡ all_covered (map test ts) (map test b)
      → o ≡ settled covered g → o ≡ None → whiles at test body ts (left - 1) r v ≡ whiles at test body ts left q work
  while_on before g o covered same found over exact is =
      sym (unsettled at (left - 1) (settled (all_covered (map test ts) (map test b)) (shift q r)) (λ p u. whiles at test body ts (left - 1) p u) r v (settled_is before g o covered same found over exact ∙ is))
      ∙ sym (while_turn at test body ts left some q work b w r v x y)

  pub while_last : left - 1 ≡ 0 → whiles at test body ts (left - 1) r v ≡ whiles at test body ts left q work
  while_last none =
      sym (no_more at (left - 1) (settled (all_covered (map test ts) (map test b)) (shift q r)) (λ p u. whiles at test body ts (left - 1) p u) r v none)
      ∙ sym (while_turn at test body ts left some q work b w r v x y)
