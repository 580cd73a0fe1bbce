-- Expressions and lists carried over.
use Rattle.std.proofs.Common.{◌≡◌, ℕ, ◌+◌, List, [], ◌∷◌, ◌++◌, map, flat_map, Option, Some, None, ap, sym, ◌∙◌, subst, refl}
use Rattle.std.specs.List.{AllByRecursion}
use Rattle.std.specs.Option.{option_map_or}
use Rattle.rely_num.specs.Texts.{Bytes}
use Rattle.rely_num.specs.declared.span.Span.{Span}
use Rattle.rely_num.specs.declared.word.Word.{Word}
use Rattle.rely_hard.specs.declared.hardware.Hardware.{Hardware}
use Rattle.rely_lexer.specs.declared.token.Token.{Token}
use Rattle.rely_lexer.specs.declared.token.TokenKind.TheVariants as kind
use Rattle.rely_tree.specs.Marks.{kind_marks, expr_marks}
use Rattle.rely_tree.specs.Tree.{KindTree, NamedTree, FreeTree, ExprTree, NameTree, ElemTree, BinTree}
use Rattle.rely_parser.specs.Productions as grammar
use Rattle.rely_parser.specs.Productions.{Spells, done, one, seq, either, other, Suffix, Step, joined_left, Prim, Level, Operands, Tail, Listed, ident_of}
use Rattle.rely_parser.proofs.Finds.{Behind, behind-level, behind-suffix}
use Rattle.rely_resolve.proofs.ValidNames.{each_holds}
use Rattle.chisel_rewrite.specs.declared.naming.Naming.{Naming}
use Rattle.chisel_rewritten_source.specs.Trees.{added_before, by_names, moved_span, name_at, named_mark, naming_at, renamed_expr, renamed_kind}
use Rattle.chisel_rewritten_source.proofs.Carried.{AllFates, AsKind, Carried, Fate, fates_behind, gives_way, ident_same, join, kept, named_at, none, pass, point, point_at, stays, unnamed}

-- what a mark gives way to
pub mark_is : (h : Hardware) (ns : List Naming) (mark : Span) (o : Option Naming) → naming_at ns mark.from ≡ o
    → named_mark h ns mark ≡ option_map_or (λ n. NamedTree (name_at h (mark.from + added_before h ns mark.from) n)) o (FreeTree (moved_span h ns mark))
mark_is h ns mark o e = ap (λ o. option_map_or (λ n. NamedTree (name_at h (mark.from + added_before h ns mark.from) n)) o (FreeTree (moved_span h ns mark))) e

abbrev AllKinds : List Naming → List Span → Type 0
AllKinds ns = AllByRecursion (AsKind ns)

-- those of operators and their right operands
abbrev StepKinds : List Naming → Step → Type 0
StepKinds ns x = AllKinds ns (kind_marks x.kind) × AllKinds ns (expr_marks x.right)

steps_split : (ns : List Naming) (e : ExprTree) (steps : List Step) → AllKinds ns (expr_marks (joined_left e steps)) → AllKinds ns (expr_marks e) × AllByRecursion (StepKinds ns) steps
steps_split ns e [] all = (all, tt)
steps_split ns e (x ∷ xs) all =
    let rest = steps_split ns (BinTree x.oper x.span x.kind e x.right) xs all in
    let parts = each_holds (AsKind ns) (expr_marks e ++ kind_marks x.kind) (expr_marks x.right) rest.0 in
    let left = each_holds (AsKind ns) (expr_marks e) (kind_marks x.kind) parts.0 in
    (left.0, ((left.1, parts.1), rest.1))

module _ (h : Hardware) (ns : List Naming) (old says : Span → Bytes) where
  abbrev renamed_step : Step → Step
  renamed_step x = record { oper = x.oper; span = moved_span h ns x.span; kind = renamed_kind (by_names h ns) x.kind; right = renamed_expr (by_names h ns) x.right }

  joined_renamed : (e : ExprTree) (steps : List Step) → joined_left (renamed_expr (by_names h ns) e) (map renamed_step steps) ≡ renamed_expr (by_names h ns) (joined_left e steps)
  joined_renamed e [] = refl
  joined_renamed e (x ∷ xs) = joined_renamed (BinTree x.oper x.span x.kind e x.right) xs

  free_suffix : (t : Token) (ts : List Token) → t.kind ≡ kind.Mark 63 → Fate h ns old says t → AsKind ns t.span → (more : List Token)
      → Carried h ns (Suffix says) (t ∷ ts) ts more (named_mark h ns t.span)
  free_suffix t ts p (stays e s) k more = record {
    new = kept h ns t ∷ more;
    becomes = pass e none;
    spells = subst (λ kind. Suffix says (kept h ns t ∷ more) more kind) (sym (mark_is h ns t.span None e)) (other (either (seq (one p) done)));
  }
  free_suffix t ts p (gives_way n q e s) k more = record {
    new = point_at h ns t ∷ named_at h ns t n ∷ more;
    becomes = point p (k n e) e none;
    spells = subst (λ kind. Suffix says (point_at h ns t ∷ named_at h ns t n ∷ more) more kind)
        (ap (λ (w : Bytes). NamedTree (record { text = w; span = (named_at h ns t n).span })) s ∙ sym (mark_is h ns t.span (Some n) e))
        (either (seq (one refl) (seq (seq (one refl) done) done)));
  }

  suffix_as : {ts rest : List Token} {k : KindTree} → Suffix old ts rest k → AllFates h ns old says ts → AllKinds ns (kind_marks k) → (more : List Token)
      → Carried h ns (Suffix says) ts rest more (renamed_kind (by_names h ns) k)
  suffix_as (either (seq (one {t = t} p) (seq (seq (one {t = u} {rest = rest} q) done) done))) f k more = record {
    new = kept h ns t ∷ kept h ns u ∷ more;
    becomes = pass (unnamed h ns old says f.0 p refl) (pass (unnamed h ns old says f.1.0 q refl) none);
    spells = subst (λ i. Suffix says (kept h ns t ∷ kept h ns u ∷ more) more (NamedTree i)) (ident_same h ns old says f.1.0 q) (either (seq (one p) (seq (seq (one q) done) done)));
  }
  suffix_as (other (either (seq (one {t = t} {rest = rest} p) done))) f k more = free_suffix t rest p f.0 k.0 more
  suffix_as (other (other done)) f k more = record { new = more; becomes = none; spells = other (other done) }

  mutual
    prim_as : {ts rest : List Token} {e : ExprTree} → Prim old ts rest e → AllFates h ns old says ts → AllKinds ns (expr_marks e) → (more : List Token)
        → Carried h ns (Prim says) ts rest more (renamed_expr (by_names h ns) e)
    prim_as (grammar.number {t = t} p) f k more = record { new = kept h ns t ∷ more; becomes = pass (unnamed h ns old says f.0 p refl) none; spells = grammar.number p }
    prim_as (grammar.scalar {t = t} p) f k more = record {
      new = kept h ns t ∷ more;
      becomes = pass (unnamed h ns old says f.0 p refl) none;
      spells = subst (λ i. Prim says (kept h ns t ∷ more) more (NameTree i)) (ident_same h ns old says f.0 p) (grammar.scalar p);
    }
    prim_as (grammar.element {t = t} {b = b} {c = c} {i = i} p q l r) f k more =
        let fates = fates_behind h ns old says (behind-level l) f.1.1 in
        let inside = level_as l f.1.1 k (kept h ns c ∷ more) in
        record {
          new = kept h ns t ∷ kept h ns b ∷ inside.new;
          becomes = pass (unnamed h ns old says f.0 p refl) (pass (unnamed h ns old says f.1.0 q refl) (join h ns inside.becomes (pass (unnamed h ns old says fates.0 r refl) none)));
          spells = subst (λ name. Prim says (kept h ns t ∷ kept h ns b ∷ inside.new) more (ElemTree name (renamed_expr (by_names h ns) i))) (ident_same h ns old says f.0 p)
              (grammar.element p q inside.spells r);
        }
    prim_as (grammar.inside {b = b} {c = c} p l r) f k more =
        let fates = fates_behind h ns old says (behind-level l) f.1 in
        let inside = level_as l f.1 k (kept h ns c ∷ more) in
        record {
          new = kept h ns b ∷ inside.new;
          becomes = pass (unnamed h ns old says f.0 p refl) (join h ns inside.becomes (pass (unnamed h ns old says fates.0 r refl) none));
          spells = grammar.inside p inside.spells r;
        }

    pub level_as : {n : ℕ} {ts rest : List Token} {e : ExprTree} → Level old n ts rest e → AllFates h ns old says ts → AllKinds ns (expr_marks e) → (more : List Token)
        → Carried h ns (Level says n) ts rest more (renamed_expr (by_names h ns) e)
    level_as (grammar.operand p) f k more = let inside = prim_as p f k more in record { new = inside.new; becomes = inside.becomes; spells = grammar.operand inside.spells }
    level_as (grammar.joined {e = e} {steps = steps} l o same) f k more =
        let kinds = steps_split ns e steps (subst (λ e. AllKinds ns (expr_marks e)) (sym same) k) in
        let right = operands_as o (fates_behind h ns old says (behind-level l) f) kinds.1 more in
        let left = level_as l f kinds.0 right.new in
        record {
          new = left.new;
          becomes = join h ns left.becomes right.becomes;
          spells = grammar.joined left.spells right.spells (joined_renamed e steps ∙ ap (renamed_expr (by_names h ns)) same);
        }

    operands_as : {n : ℕ} {ts rest : List Token} {steps : List Step} → Operands old n ts rest steps → AllFates h ns old says ts → AllByRecursion (StepKinds ns) steps → (more : List Token)
        → Carried h ns (Operands says n) ts rest more (map renamed_step steps)
    operands_as grammar.last f k more = record { new = more; becomes = none; spells = grammar.last }
    operands_as (grammar.operator {t = t} p q s l o) f k more =
        let behind_suffix = fates_behind h ns old says (behind-suffix old s) f.1 in
        let others = operands_as o (fates_behind h ns old says (behind-level l) behind_suffix) k.1 more in
        let operand = level_as l behind_suffix k.0.1 others.new in
        let suffix = suffix_as s f.1 k.0.0 operand.new in
        record {
          new = kept h ns t ∷ suffix.new;
          becomes = pass (unnamed h ns old says f.0 p refl) (join h ns suffix.becomes (join h ns operand.becomes others.becomes));
          spells = grammar.operator p q suffix.spells operand.spells others.spells;
        }

-- ---- lists

module _ (h : Hardware) (ns : List Naming) (old says : Span → Bytes) (P : Span → Type 0) {A : Type 0} {I J : Spells A} (marks : A → List Span) (change : A → A)
    (item : (ts rest : List Token) (a : A) → I ts rest a → AllFates h ns old says ts → AllByRecursion P (marks a) → (more : List Token) → Carried h ns J ts rest more (change a))
    (behind : (ts rest : List Token) (a : A) → I ts rest a → Behind ts rest) where
  tail_as : {ts rest : List Token} {xs : List A} → Tail I ts rest xs → AllFates h ns old says ts → AllByRecursion P (flat_map marks xs) → (more : List Token)
      → Carried h ns (Tail J) ts rest more (map change xs)
  tail_as (grammar.closed {t = t} p) f k more = record { new = kept h ns t ∷ more; becomes = pass (unnamed h ns old says f.0 p refl) none; spells = grammar.closed p }
  tail_as (grammar.comma {t = t} {ts = ts} {mid = mid} {x = x} {xs = xs} p i j) f k more =
      let parts = each_holds P (marks x) (flat_map marks xs) k in
      let others = tail_as j (fates_behind h ns old says (behind ts mid x i) f.1) parts.1 more in
      let first = item ts mid x i f.1 parts.0 others.new in
      record {
        new = kept h ns t ∷ first.new;
        becomes = pass (unnamed h ns old says f.0 p refl) (join h ns first.becomes others.becomes);
        spells = grammar.comma p first.spells others.spells;
      }

  pub listed_as : {ts rest : List Token} {xs : List A} → Listed I ts rest xs → AllFates h ns old says ts → AllByRecursion P (flat_map marks xs) → (more : List Token)
      → Carried h ns (Listed J) ts rest more (map change xs)
  listed_as (grammar.empty {t = t} p) f k more = record { new = kept h ns t ∷ more; becomes = pass (unnamed h ns old says f.0 p refl) none; spells = grammar.empty p }
  listed_as (grammar.items {ts = ts} {mid = mid} {x = x} {xs = xs} i j) f k more =
      let parts = each_holds P (marks x) (flat_map marks xs) k in
      let others = tail_as j (fates_behind h ns old says (behind ts mid x i) f) parts.1 more in
      let first = item ts mid x i f parts.0 others.new in
      record { new = first.new; becomes = join h ns first.becomes others.becomes; spells = grammar.items first.spells others.spells }

  pub each_as : {w : Word} {ts rest : List Token} {xs : List A} → grammar.Each w I ts rest xs → AllFates h ns old says ts → AllByRecursion P (flat_map marks xs) → (more : List Token)
      → Carried h ns (grammar.Each w J) ts rest more (map change xs)
  each_as grammar.none f k more = record { new = more; becomes = none; spells = grammar.none }
  each_as (grammar.another {t = t} {ts = ts} {mid = mid} {x = x} {xs = xs} p i j) f k more =
      let parts = each_holds P (marks x) (flat_map marks xs) k in
      let others = each_as j (fates_behind h ns old says (behind ts mid x i) f.1) parts.1 more in
      let first = item ts mid x i f.1 parts.0 others.new in
      record {
        new = kept h ns t ∷ first.new;
        becomes = pass (unnamed h ns old says f.0 p refl) (join h ns first.becomes others.becomes);
        spells = grammar.another p first.spells others.spells;
      }
