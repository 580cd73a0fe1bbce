-- Declarations, claims, functions and sources carried over.
use Rattle.std.proofs.Common.{◌≡◌, ℕ, false, List, [], ◌∷◌, ◌++◌, map, flat_map, Option, Some, None, ap, sym, ◌∙◌, subst, refl}
use Rattle.std.specs.Prelude.{IsTrue, option_map}
use Rattle.std.specs.List.{AllByRecursion}
use Rattle.std.proofs.lemmas.Bool.{false≢true}
use Rattle.rely_num.specs.AttoTexts.{atto_of}
use Rattle.rely_num.specs.Texts.{Bytes}
use Rattle.rely_num.specs.declared.span.Span.{Span}
use Rattle.rely_num.specs.declared.word.Word.TheVariants as word
use Rattle.rely_hard.specs.declared.hardware.Hardware.{Hardware}
use Rattle.rely_lexer.specs.declared.token.Token.{Token}
use Rattle.rely_lexer.specs.declared.token.TokenKind.{TokenKind}
use Rattle.rely_lexer.specs.declared.token.TokenKind.TheVariants as kind
use Rattle.rely_tree.specs.Marks.{kind_marks, decls_marks, block_marks}
use Rattle.rely_tree.specs.Tree.{IdentTree, KindTree, NamedTree, DeclTree, SaidTree, FuncTree}
use Rattle.rely_parser.specs.Productions as grammar
use Rattle.rely_parser.specs.Productions.{Spells, done, one, seq, either, other, Array, Bound, Claim, Each, Func, Listed, Local, Memory, Name, OneOrMore, Target, Var, Written, ident_of}
use Rattle.rely_parser.specs.Units.{is_amount}
use Rattle.rely_parser.proofs.Completes.{behind-listed}
use Rattle.rely_parser.proofs.Finds.{Behind, here, later}
use Rattle.rely_parser.proofs.Wholes.{behind-array, behind-claim, behind-each, behind-func, behind-local, behind-name, behind-some, behind-target, behind-var}
use Rattle.rely_resolve.proofs.ValidNames.{each_holds}
use Rattle.chisel_rewrite.specs.declared.naming.Naming.{Naming}
use Rattle.chisel_rewritten_source.specs.Trees.{by_names, named_mark, renamed_block, renamed_decl, renamed_func, renamed_ident, renamed_kind, renamed_said}
use Rattle.chisel_rewritten_source.proofs.Carried.{AllFates, AsKind, AsMemory, Carried, Fate, fates_behind, gives_way, ident_same, is_open, join, kept, named_at, none, pass, says_same, stays, unnamed, within}
use Rattle.chisel_rewritten_source.proofs.CarriedExprs.{each_as, listed_as, mark_is}
use Rattle.chisel_rewritten_source.proofs.CarriedStmts.{body_as}

-- an amount is no mark
amount_other : (k : TokenKind) → IsTrue (is_amount k) → is_open k ≡ false
amount_other (kind.Number n) is = refl
amount_other kind.Decimal is = refl
amount_other (kind.Mark m) is = absurd (false≢true is)
amount_other (kind.Word w) is = absurd (false≢true is)
amount_other (kind.Oper o) is = absurd (false≢true is)
amount_other kind.Name is = absurd (false≢true is)

-- the marks of a function's variables are named as memories, where they are named, and those of its operators as kinds
pub record Fits (ns : List Naming) (f : FuncTree) : Type 0 where
  pub memories : AllByRecursion (AsMemory ns) (decls_marks f.params ++ decls_marks f.locals)
  pub kinds : AllByRecursion (AsKind ns) (block_marks f.body)

module _ (h : Hardware) (ns : List Naming) (old says : Span → Bytes) where
  abbrev Fates : List Token → Type 0
  Fates = AllFates h ns old says

  abbrev Memories : List Span → Type 0
  Memories = AllByRecursion (AsMemory ns)

  -- nothing is asked of marks
  abbrev Nothing : Span → Type 0
  Nothing mark = Unit {0}

  -- ---- names

  name_as : (ts rest : List Token) (i : IdentTree) → Name old ts rest i → Fates ts → Unit {0} → (more : List Token) → Carried h ns (Name says) ts rest more (renamed_ident (by_names h ns) i)
  name_as ts rest i (seq (one {t = t} p) done) f k more = record {
    new = kept h ns t ∷ more;
    becomes = pass (unnamed h ns old says f.0 p refl) none;
    spells = subst (λ i. Name says (kept h ns t ∷ more) more i) (ident_same h ns old says f.0 p) (seq (one p) done);
  }

  no_marks : {A : Type 0} (xs : List A) → AllByRecursion Nothing (flat_map (λ x. []) xs)
  no_marks [] = tt
  no_marks (x ∷ xs) = no_marks xs

  names_as : {ts rest : List Token} {is : List IdentTree} → Listed (Name old) ts rest is → Fates ts → (more : List Token)
      → Carried h ns (Listed (Name says)) ts rest more (map (renamed_ident (by_names h ns)) is)
  names_as {is = is} l f more = listed_as h ns old says Nothing (λ i. []) (renamed_ident (by_names h ns)) name_as (behind-name old) l f (no_marks is) more

  -- ---- variables

  array_as : {ts rest : List Token} {n : Option ℕ} → Array ts rest n → Fates ts → (more : List Token) → Carried h ns Array ts rest more n
  array_as grammar.single f more = record { new = more; becomes = none; spells = grammar.single }
  array_as (grammar.elements {b = b} {t = t} {c = c} p q least most r) f more = record {
    new = kept h ns b ∷ kept h ns t ∷ kept h ns c ∷ more;
    becomes = pass (unnamed h ns old says f.0 p refl) (pass (unnamed h ns old says f.1.0 q refl) (pass (unnamed h ns old says f.1.1.0 r refl) none));
    spells = grammar.elements p q least most r;
  }

  free_memory : (w t : Token) (ts : List Token) → w.kind ≡ kind.Word word.In → t.kind ≡ kind.Mark 63 → Fate h ns old says w → Fate h ns old says t → AsMemory ns t.span → (more : List Token)
      → Carried h ns (Memory says) (w ∷ t ∷ ts) ts more (named_mark h ns t.span)
  free_memory w t ts q p g (stays e s) k more = record {
    new = kept h ns w ∷ kept h ns t ∷ more;
    becomes = pass (unnamed h ns old says g q refl) (pass e none);
    spells = subst (λ kind. Memory says (kept h ns w ∷ kept h ns t ∷ more) more kind) (sym (mark_is h ns t.span None e)) (either (seq (one q) (other (seq (one p) done))));
  }
  free_memory w t ts q p g (gives_way n u e s) k more = record {
    new = kept h ns w ∷ named_at h ns t n ∷ more;
    becomes = within q (unnamed h ns old says g q refl) p (k n e) e none;
    spells = subst (λ kind. Memory says (kept h ns w ∷ named_at h ns t n ∷ more) more kind)
        (ap (λ (w : Bytes). NamedTree (record { text = w; span = (named_at h ns t n).span })) s ∙ sym (mark_is h ns t.span (Some n) e))
        (either (seq (one q) (either (seq (seq (one refl) done) done))));
  }

  memory_as : {ts rest : List Token} {k : KindTree} → Memory old ts rest k → Fates ts → Memories (kind_marks k) → (more : List Token)
      → Carried h ns (Memory says) ts rest more (renamed_kind (by_names h ns) k)
  memory_as (either (seq (one {t = w} p) (either (seq (seq (one {t = t} q) done) done)))) f k more = record {
    new = kept h ns w ∷ kept h ns t ∷ more;
    becomes = pass (unnamed h ns old says f.0 p refl) (pass (unnamed h ns old says f.1.0 q refl) none);
    spells = subst (λ i. Memory says (kept h ns w ∷ kept h ns t ∷ more) more (NamedTree i)) (ident_same h ns old says f.1.0 q)
        (either (seq (one p) (either (seq (seq (one q) done) done))));
  }
  memory_as (either (seq (one {t = w} p) (other (seq (one {t = t} {rest = rest} q) done)))) f k more = free_memory w t rest p q f.0 f.1.0 k.0 more
  memory_as (other done) f k more = record { new = more; becomes = none; spells = other done }

  var_as : (ts rest : List Token) (d : DeclTree) → Var old ts rest d → Fates ts → Memories (kind_marks d.memory) → (more : List Token)
      → Carried h ns (Var says) ts rest more (renamed_decl (by_names h ns) d)
  var_as ts rest d (seq (seq (one {t = t} p) done) (seq {a = l} a (seq {a = m} w done))) f k more =
      let memory = memory_as w (fates_behind h ns old says (behind-array a) f.1) k more in
      let length = array_as a f.1 memory.new in
      record {
        new = kept h ns t ∷ length.new;
        becomes = pass (unnamed h ns old says f.0 p refl) (join h ns length.becomes memory.becomes);
        spells = subst (λ i. Var says (kept h ns t ∷ length.new) more (record { name = i; length = l; memory = renamed_kind (by_names h ns) m })) (ident_same h ns old says f.0 p)
            (seq (seq (one p) done) (seq length.spells (seq memory.spells done)));
      }

  local_as : (ts rest : List Token) (d : DeclTree) → Local old ts rest d → Fates ts → Memories (kind_marks d.memory) → (more : List Token)
      → Carried h ns (Local says) ts rest more (renamed_decl (by_names h ns) d)
  local_as ts rest d (seq {a = v} i (seq (one {t = c} p) done)) f k more =
      let fates = fates_behind h ns old says (behind-var old ts (c ∷ rest) v i) f in
      let inside = var_as ts (c ∷ rest) v i f k (kept h ns c ∷ more) in
      record { new = inside.new; becomes = join h ns inside.becomes (pass (unnamed h ns old says fates.0 p refl) none); spells = seq inside.spells (seq (one p) done) }

  -- ---- claims

  target_as : {ts rest : List Token} {i : Option IdentTree} → Target old ts rest i → Fates ts → (more : List Token)
      → Carried h ns (Target says) ts rest more (option_map (renamed_ident (by_names h ns)) i)
  target_as (either (seq (one {t = t} p) done)) f more = record { new = kept h ns t ∷ more; becomes = pass (unnamed h ns old says f.0 p refl) none; spells = either (seq (one p) done) }
  target_as (other (seq (seq (one {t = t} p) done) done)) f more = record {
    new = kept h ns t ∷ more;
    becomes = pass (unnamed h ns old says f.0 p refl) none;
    spells = subst (λ i. Target says (kept h ns t ∷ more) more (Some i)) (ident_same h ns old says f.0 p) (other (seq (seq (one p) done) done));
  }

  bound_as : {ts rest : List Token} {n : ℕ} → Bound old ts rest n → Fates ts → (more : List Token) → Carried h ns (Bound says) ts rest more n
  bound_as (grammar.amount {t = t} is e) f more =
      let other = amount_other t.kind is in
      record {
        new = kept h ns t ∷ more;
        becomes = pass (unnamed h ns old says f.0 refl other) none;
        spells = grammar.amount is (ap atto_of (says_same h ns old says f.0 refl other) ∙ e);
      }

  behind_bound : {ts rest : List Token} {n : ℕ} → Bound old ts rest n → Behind ts rest
  behind_bound (grammar.amount is e) = later here

  claim_as : (ts rest : List Token) (c : SaidTree) → Claim old ts rest c → Fates ts → Unit {0} → (more : List Token) → Carried h ns (Claim says) ts rest more (renamed_said (by_names h ns) c)
  claim_as ts rest c (seq {a = target} t (seq (one {t = ge} p) (seq {a = amount} b (seq (one {t = mul} q) (seq (one {t = word} u) (seq (one {t = bracket} v) (seq {a = needs} l done))))))) f k more =
      let first = fates_behind h ns old says (behind-target old t) f in
      let second = fates_behind h ns old says (behind_bound b) first.1 in
      let names = names_as l second.1.1.1 more in
      let amount = bound_as b first.1 (kept h ns mul ∷ kept h ns word ∷ kept h ns bracket ∷ names.new) in
      let subject = target_as t f (kept h ns ge ∷ amount.new) in
      record {
        new = subject.new;
        becomes = join h ns subject.becomes (pass (unnamed h ns old says first.0 p refl) (join h ns amount.becomes (pass (unnamed h ns old says second.0 q refl)
            (pass (unnamed h ns old says second.1.0 u refl) (pass (unnamed h ns old says second.1.1.0 v refl) names.becomes)))));
        spells = seq subject.spells (seq (one p) (seq amount.spells (seq (one q) (seq (one u) (seq (one v) (seq names.spells done))))));
      }

  claims_as : {ts rest : List Token} {cs : List SaidTree} → OneOrMore word.Claim (Claim old) ts rest cs → Fates ts → (more : List Token)
      → Carried h ns (OneOrMore word.Claim (Claim says)) ts rest more (map (renamed_said (by_names h ns)) cs)
  claims_as (seq (one {t = t} p) (seq {ts = ts} {mid = mid} {a = c} i (seq {a = cs} e done))) f more =
      let others = each_as h ns old says Nothing (λ c. []) (renamed_said (by_names h ns)) claim_as (behind-claim old) e (fates_behind h ns old says (behind-claim old ts mid c i) f.1) (no_marks cs) more in
      let first = claim_as ts mid c i f.1 tt others.new in
      record {
        new = kept h ns t ∷ first.new;
        becomes = pass (unnamed h ns old says f.0 p refl) (join h ns first.becomes others.becomes);
        spells = seq (one p) (seq first.spells (seq others.spells done));
      }

  -- ---- functions

  func_as : (ts rest : List Token) (g : FuncTree) → Func old ts rest g → Fates ts → Fits ns g → (more : List Token) → Carried h ns (Func says) ts rest more (renamed_func (by_names h ns) g)
  func_as ts rest g (seq (seq (one {t = t} p) done) (seq (one {t = b} q) (seq {a = params} ps (seq {ts = a} {mid = c} {a = claims} cs (seq (one {t = d} r) (seq {a = locals} ls (seq {a = body} l done))))))) f fits more =
      let memories = each_holds (AsMemory ns) (decls_marks params) (decls_marks locals) fits.memories in
      let first = fates_behind h ns old says (behind-listed (behind-var old) ps) f.1.1 in
      let second = fates_behind h ns old says (behind-some word.Claim (Claim old) (behind-claim old) a c claims cs) first in
      let third = fates_behind h ns old says (behind-each (behind-local old) ls) second.1 in
      let lines = body_as h ns old says l third fits.kinds more in
      let inner = each_as h ns old says (AsMemory ns) (λ d. kind_marks d.memory) (renamed_decl (by_names h ns)) local_as (behind-local old) ls second.1 memories.1 lines.new in
      let said = claims_as cs first (kept h ns d ∷ inner.new) in
      let given = listed_as h ns old says (AsMemory ns) (λ d. kind_marks d.memory) (renamed_decl (by_names h ns)) var_as (behind-var old) ps f.1.1 memories.0 said.new in
      record {
        new = kept h ns t ∷ kept h ns b ∷ given.new;
        becomes = pass (unnamed h ns old says f.0 p refl) (pass (unnamed h ns old says f.1.0 q refl) (join h ns given.becomes (join h ns said.becomes
            (pass (unnamed h ns old says second.0 r refl) (join h ns inner.becomes lines.becomes)))));
        spells = subst (λ i. Func says (kept h ns t ∷ kept h ns b ∷ given.new) more (record {
          name = i;
          params = map (renamed_decl (by_names h ns)) params;
          locals = map (renamed_decl (by_names h ns)) locals;
          claims = map (renamed_said (by_names h ns)) claims;
          body = renamed_block (by_names h ns) body;
        }))
            (ident_same h ns old says f.0 p) (seq (seq (one p) done) (seq (one q) (seq given.spells (seq said.spells (seq (one r) (seq inner.spells (seq lines.spells done)))))));
      }

  funcs_as : {ts rest : List Token} {fs : List FuncTree} → Each word.Fn (Func old) ts rest fs → Fates ts → AllByRecursion (Fits ns) fs → (more : List Token)
      → Carried h ns (Each word.Fn (Func says)) ts rest more (map (renamed_func (by_names h ns)) fs)
  funcs_as grammar.none f fits more = record { new = more; becomes = none; spells = grammar.none }
  funcs_as (grammar.another {t = t} {ts = ts} {mid = mid} {x = g} p i e) f fits more =
      let others = funcs_as e (fates_behind h ns old says (behind-func old ts mid g i) f.1) fits.1 more in
      let first = func_as ts mid g i f.1 fits.0 others.new in
      record {
        new = kept h ns t ∷ first.new;
        becomes = pass (unnamed h ns old says f.0 p refl) (join h ns first.becomes others.becomes);
        spells = grammar.another p first.spells others.spells;
      }

  pub unit_as : {ts rest : List Token} {fs : List FuncTree} → OneOrMore word.Fn (Func old) ts rest fs → Fates ts → AllByRecursion (Fits ns) fs → (more : List Token)
      → Carried h ns (OneOrMore word.Fn (Func says)) ts rest more (map (renamed_func (by_names h ns)) fs)
  unit_as (seq (one {t = t} p) (seq {ts = ts} {mid = mid} {a = g} i (seq {a = gs} e done))) f fits more =
      let others = funcs_as e (fates_behind h ns old says (behind-func old ts mid g i) f.1) fits.1 more in
      let first = func_as ts mid g i f.1 fits.0 others.new in
      record {
        new = kept h ns t ∷ first.new;
        becomes = pass (unnamed h ns old says f.0 p refl) (join h ns first.becomes others.becomes);
        spells = seq (one p) (seq first.spells (seq others.spells done));
      }
