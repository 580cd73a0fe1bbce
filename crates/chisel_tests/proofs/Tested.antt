-- The kernel of the test is valid, and starts where the test starts it.
use Rattle.std.proofs.Common.{◌≡◌, ℕ, Bool, true, false, not, cond, pos, List, [], ◌∷◌, ◌++◌, map, is_none, None, Result, Ok, Err, refl, sym, ap, subst, ◌∙◌, arith, eq-eqb, true≢false, eqb}
use Rattle.std.specs.Option.{option_map_or}
use Rattle.std.specs.Result.{IfOk}
use Rattle.std.specs.Int.{w64}
use Rattle.std.proofs.lemmas.Bool.{or_left}
use Rattle.std.proofs.lemmas.Int.{fits_signed_from_abs}
use Rattle.std.proofs.lemmas.Nat.Bits.{bit_at-zero}
use Rattle.rely_num.specs.Bounds.{S}
use Rattle.rely_num.specs.Sets.{has}
use Rattle.rely_num.specs.declared.span.Span.{Span}
use Rattle.rely_kernel.specs.declared.kernel.CallSite.{CallSite}
use Rattle.rely_kernel.specs.declared.kernel.Claim.{Claim}
use Rattle.rely_kernel.specs.declared.kernel.Ex.{Ex}
use Rattle.rely_kernel.specs.declared.kernel.Ex.TheVariants as ex
use Rattle.rely_kernel.specs.declared.kernel.Kernel.{Kernel}
use Rattle.rely_kernel.specs.declared.kernel.Site.{Site}
use Rattle.rely_kernel.specs.declared.kernel.St.{St}
use Rattle.rely_kernel.specs.declared.kernel.StKind.TheVariants as st
use Rattle.rely_kernel.specs.declared.kernel.Var.{Var}
use Rattle.rely_kernel.specs.declared.setting.Store.{Store}
use Rattle.rely_kernel.specs.Bound.{IsStart}
use Rattle.rely_kernel.specs.Machine.{size}
use Rattle.rely_kernel.specs.Text.{Expr, Stmt, Block, done, ◌then◌, expr_of, block_of}
use Rattle.rely_kernel.specs.Valid.{IsValid, BodyFits, EachOnce, block_sites, block_calls}
use Rattle.rely_kernel.proofs.TextLemmas.{text-Bin}
use Rattle.rely_kernel.proofs.Numbers.{Fits, fits_zero}

abbrev pub sum : Block
sum = Stmt.Result (Expr.Bin 0 (Expr.Read 0) (Expr.Read 1)) then done

abbrev pub inputs : Store
inputs = record { cells = (pos 2 ∷ []) ∷ (pos 3 ∷ []) ∷ []; result = pos 0 }

size_one : (v : Var) → v.length ≡ None → size v ≡ 1
size_one v e = ap (λ o. option_map_or (λ n. n) o 1) e

module _ (name : Span) (p q : Var) (s : Site) (cl : Claim) (body : List St) (first : p.length ≡ None) (second : q.length ≡ None) (param : p.param ≡ true) (other : q.param ≡ true)
    (target : cl.target ≡ 63) (bound : cl.bound ≡ S) (needs : cl.needs.bits ≡ 0) (text : block_of body ≡ sum) where
  abbrev function : Kernel
  function = record { name = name; vars = p ∷ q ∷ []; sites = s ∷ []; calls = []; body = body; claims = cl ∷ [] }

  order : (a b : Bool) → a ≡ true → b ≡ true → p ∷ q ∷ [] ≡ cond a (p ∷ cond b (q ∷ []) []) (cond b (q ∷ []) []) ++ cond (not a) (p ∷ cond (not b) (q ∷ []) []) (cond (not b) (q ∷ []) [])
  order true true e f = refl
  order true false e f = absurd (true≢false (sym f))
  order false b e f = absurd (true≢false (sym e))

  no_needs : (v : ℕ) → has cl.needs.bits v ≡ false
  no_needs v = ap (λ b. has b v) needs ∙ ap (λ b. eqb b 1) (bit_at-zero v)

  is_valid : IsValid function
  is_valid =
      let one = size_one p first in
      let two = size_one q second in
      record {
        few_vars = omega arith;
        few_sites = omega arith;
        few_calls = omega arith;
        few_claims = omega arith;
        claimed = omega arith;
        lengths = ((omega arith, omega arith), ((omega arith, omega arith), tt));
        numbers = omega arith;
        in_order = order p.param q.param param other;
        claims = ((or_left (eqb cl.target 63) _ (eq-eqb cl.target 63 target), λ v h. absurd (true≢false (sym h ∙ no_needs v))), tt);
        bounds = (omega arith, tt);
        call_bounds = tt;
        body = subst (BodyFits function) (sym text) (omega arith, ap is_none first, ap is_none second);
        sites = subst (λ x. EachOnce 1 (block_sites x)) (sym text) (refl, tt);
        calls = subst (λ x. EachOnce 0 (map (λ c. c.0) (block_calls x))) (sym text) tt;
      }

  fits_two : Fits (pos 2)
  fits_two = fits_signed_from_abs w64 (pos 2) (omega arith)

  fits_three : Fits (pos 3)
  fits_three = fits_signed_from_abs w64 (pos 3) (omega arith)

  starts : IsStart function inputs
  starts = record {
    shape = record {
      cells = ((sym (size_one p first), (fits_two, tt)), ((sym (size_one q second), (fits_three, tt)), tt));
      result = fits_zero;
    };
    locals = (λ e. absurd (true≢false (sym param ∙ e)), (λ e. absurd (true≢false (sym other ∙ e)), tt));
    result = refl;
  }

  pub is_ready : IsValid function × IsStart function inputs
  is_ready = (is_valid, starts)

pub ready_parts : (name : Span) (p q : Var) (s : Site) (cl : Claim) (vars : List Var) (sites : List Site) (calls : List CallSite) (body : List St) (claims : List Claim)
    → p.length ≡ None → q.length ≡ None → p.param ≡ true → q.param ≡ true → cl.target ≡ 63 → cl.bound ≡ S → cl.needs.bits ≡ 0 → block_of body ≡ sum
    → vars ≡ p ∷ q ∷ [] → sites ≡ s ∷ [] → calls ≡ [] → claims ≡ cl ∷ []
    → (let k : Kernel = record { name = name; vars = vars; sites = sites; calls = calls; body = body; claims = claims } in IsValid k × IsStart k inputs)
ready_parts name p q s cl vars sites calls body claims a b c d e f g h i j k l =
    let Ready : Kernel → Type 0 = λ kernel. IsValid kernel × IsStart kernel inputs in
    subst (λ (vs : List Var). Ready (record { name = name; vars = vs; sites = sites; calls = calls; body = body; claims = claims })) (sym i)
    (subst (λ (xs : List Site). Ready (record { name = name; vars = p ∷ q ∷ []; sites = xs; calls = calls; body = body; claims = claims })) (sym j)
    (subst (λ (xs : List CallSite). Ready (record { name = name; vars = p ∷ q ∷ []; sites = s ∷ []; calls = xs; body = body; claims = claims })) (sym k)
    (subst (λ (xs : List Claim). Ready (record { name = name; vars = p ∷ q ∷ []; sites = s ∷ []; calls = []; body = body; claims = xs })) (sym l)
    (is_ready name p q s cl body a b c d e f g h))))

pub sum_text : (a : Span) (x y : Ex) → x ≡ ex.Read 0 → y ≡ ex.Read 1 → block_of (record { at = a; what = st.Result (ex.Bin 0 x y) } ∷ []) ≡ sum
sum_text a x y e f =
    ap (λ z. Stmt.Result z then done) (text-Bin 0 x y ∙ (ap (λ z. Expr.Bin 0 (expr_of z) (expr_of y)) e ∙ ap (λ z. Expr.Bin 0 (Expr.Read 0) (expr_of z)) f))

pub if_more : {A E : Type 0} (r : Result A E) (P Q : A → Type 0) → IfOk r P → ((x : A) → P x → Q x) → IfOk r Q
if_more (Ok x) P Q p f = f x p
if_more (Err e) P Q p f = tt
