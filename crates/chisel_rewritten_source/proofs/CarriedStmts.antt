-- Statements carried over.
use Rattle.std.proofs.Common.{ℕ, List, ◌∷◌, ◌++◌, map, subst, refl}
use Rattle.std.specs.List.{AllByRecursion}
use Rattle.std.proofs.lemmas.List.{append-nil}
use Rattle.rely_num.specs.Texts.{Bytes}
use Rattle.rely_num.specs.declared.span.Span.{Span}
use Rattle.rely_hard.specs.declared.hardware.Hardware.{Hardware}
use Rattle.rely_lexer.specs.declared.token.Token.{Token}
use Rattle.rely_tree.specs.Marks.{expr_marks, stmt_marks, block_marks}
use Rattle.rely_tree.specs.Tree.{ExprTree, StmtTree, SetTree, SetElemTree, CallTree, Block}
use Rattle.rely_parser.specs.Productions as grammar
use Rattle.rely_parser.specs.Productions.{Expr, Count, Stmt, Braces, Stmts, Else, Body, ident_of}
use Rattle.rely_parser.proofs.Finds.{behind-level}
use Rattle.rely_parser.proofs.Completes.{behind-braces, behind-count, behind-listed, behind-stmt}
use Rattle.rely_resolve.proofs.ValidNames.{each_holds}
use Rattle.chisel_rewrite.specs.declared.naming.Naming.{Naming}
use Rattle.chisel_rewritten_source.specs.Trees.{by_names, moved_span, renamed_block, renamed_expr, renamed_ident, renamed_stmt}
use Rattle.chisel_rewritten_source.proofs.Carried.{AllFates, AsKind, Carried, fates_behind, ident_same, join, kept, none, pass, unnamed}
use Rattle.chisel_rewritten_source.proofs.CarriedExprs.{level_as, listed_as}

module _ (h : Hardware) (ns : List Naming) (old says : Span → Bytes) where
  abbrev Fates : List Token → Type 0
  Fates = AllFates h ns old says

  abbrev Kinds : List Span → Type 0
  Kinds = AllByRecursion (AsKind ns)

  -- an expression before a token
  closed_as : {ts rest : List Token} {c : Token} {e : ExprTree} → Expr old ts (c ∷ rest) e → Fates ts → Kinds (expr_marks e) → (more : List Token)
      → Carried h ns (Expr says) ts (c ∷ rest) more (renamed_expr (by_names h ns) e)
  closed_as l f k more = level_as h ns old says l f k more

  count_as : {ts rest : List Token} {n : ℕ} → Count ts rest n → Fates ts → (more : List Token) → Carried h ns Count ts rest more n
  count_as (grammar.turns {t = t} p small) f more = record { new = kept h ns t ∷ more; becomes = pass (unnamed h ns old says f.0 p refl) none; spells = grammar.turns p small }

  mutual
    pub stmt_as : {ts rest : List Token} {s : StmtTree} → Stmt old ts rest s → Fates ts → Kinds (stmt_marks s) → (more : List Token)
        → Carried h ns (Stmt says) ts rest more (renamed_stmt (by_names h ns) s)
    stmt_as (grammar.set {t = t} {q = q} {c = c} {rest = rest} {e = e} p r l u) f k more =
        let fates = fates_behind h ns old says (behind-level l) f.1.1 in
        let inside = level_as h ns old says l f.1.1 k (kept h ns c ∷ more) in
        record {
          new = kept h ns t ∷ kept h ns q ∷ inside.new;
          becomes = pass (unnamed h ns old says f.0 p refl) (pass (unnamed h ns old says f.1.0 r refl) (join h ns inside.becomes (pass (unnamed h ns old says fates.0 u refl) none)));
          spells = subst (λ name. Stmt says (kept h ns t ∷ kept h ns q ∷ inside.new) more (SetTree (moved_span h ns t.span) name (renamed_expr (by_names h ns) e)))
              (ident_same h ns old says f.0 p) (grammar.set p r inside.spells u);
        }
    stmt_as (grammar.set_element {t = t} {b = b} {d = d} {q = q} {c = c} {i = i} {e = e} p r x u v l w) f k more =
        let parts = each_holds (AsKind ns) (expr_marks i) (expr_marks e) k in
        let first = fates_behind h ns old says (behind-level x) f.1.1 in
        let second = fates_behind h ns old says (behind-level l) first.1.1 in
        let value = level_as h ns old says l first.1.1 parts.1 (kept h ns c ∷ more) in
        let index = level_as h ns old says x f.1.1 parts.0 (kept h ns d ∷ kept h ns q ∷ value.new) in
        record {
          new = kept h ns t ∷ kept h ns b ∷ index.new;
          becomes = pass (unnamed h ns old says f.0 p refl) (pass (unnamed h ns old says f.1.0 r refl) (join h ns index.becomes
              (pass (unnamed h ns old says first.0 u refl) (pass (unnamed h ns old says first.1.0 v refl) (join h ns value.becomes (pass (unnamed h ns old says second.0 w refl) none))))));
          spells = subst (λ name. Stmt says (kept h ns t ∷ kept h ns b ∷ index.new) more (SetElemTree (moved_span h ns t.span) name (renamed_expr (by_names h ns) i) (renamed_expr (by_names h ns) e)))
              (ident_same h ns old says f.0 p) (grammar.set_element p r index.spells u v value.spells w);
        }
    stmt_as (grammar.call {t = t} {q = q} {w = w} {n = n} {b = b} {c = c} {es = es} p r u v x l y) f k more =
        let behind = fates_behind h ns old says (behind-listed (λ ts rest e d. behind-level d) l) f.1.1.1.1.1 in
        let inside = listed_as h ns old says (AsKind ns) expr_marks (renamed_expr (by_names h ns)) (λ ts rest e d f k more. level_as h ns old says d f k more) (λ ts rest e d. behind-level d) l
        f.1.1.1.1.1 k (kept h ns c ∷ more) in
        let new = kept h ns t ∷ kept h ns q ∷ kept h ns w ∷ kept h ns n ∷ kept h ns b ∷ inside.new in
        let args = map (renamed_expr (by_names h ns)) es in
        record {
          new = new;
          becomes = pass (unnamed h ns old says f.0 p refl) (pass (unnamed h ns old says f.1.0 r refl) (pass (unnamed h ns old says f.1.1.0 u refl) (pass (unnamed h ns old says f.1.1.1.0 v refl)
              (pass (unnamed h ns old says f.1.1.1.1.0 x refl) (join h ns inside.becomes (pass (unnamed h ns old says behind.0 y refl) none))))));
          spells = subst (λ callee. Stmt says new more (CallTree (moved_span h ns t.span) (renamed_ident (by_names h ns) (ident_of old t)) (moved_span h ns w.span) callee args))
              (ident_same h ns old says f.1.1.1.0 v)
              (subst (λ name. Stmt says new more (CallTree (moved_span h ns t.span) name (moved_span h ns w.span) (ident_of says (kept h ns n)) args))
              (ident_same h ns old says f.0 p) (grammar.call p r u v x inside.spells y));
        }
    stmt_as (grammar.choice {w = w} {b = b} {c = c} {e = e} {held = held} {otherwise = other} p q l r s o) f k more =
        let blocks = each_holds (AsKind ns) (expr_marks e ++ block_marks held) (block_marks other) k in
        let parts = each_holds (AsKind ns) (expr_marks e) (block_marks held) blocks.0 in
        let first = fates_behind h ns old says (behind-level l) f.1.1 in
        let second = fates_behind h ns old says (behind-braces s) first.1 in
        let last = else_as o second blocks.1 more in
        let then_block = braces_as s first.1 parts.1 last.new in
        let test = level_as h ns old says l f.1.1 parts.0 (kept h ns c ∷ then_block.new) in
        record {
          new = kept h ns w ∷ kept h ns b ∷ test.new;
          becomes = pass (unnamed h ns old says f.0 p refl) (pass (unnamed h ns old says f.1.0 q refl) (join h ns test.becomes
              (pass (unnamed h ns old says first.0 r refl) (join h ns then_block.becomes last.becomes))));
          spells = grammar.choice p q test.spells r then_block.spells last.spells;
        }
    stmt_as (grammar.loop {w = w} {b = b} {c = c} {m = m} {e = e} {body = body} p q l r u n s) f k more =
        let parts = each_holds (AsKind ns) (expr_marks e) (block_marks body) k in
        let first = fates_behind h ns old says (behind-level l) f.1.1 in
        let second = fates_behind h ns old says (behind-count n) first.1.1 in
        let block = braces_as s second parts.1 more in
        let turns = count_as n first.1.1 block.new in
        let test = level_as h ns old says l f.1.1 parts.0 (kept h ns c ∷ kept h ns m ∷ turns.new) in
        record {
          new = kept h ns w ∷ kept h ns b ∷ test.new;
          becomes = pass (unnamed h ns old says f.0 p refl) (pass (unnamed h ns old says f.1.0 q refl) (join h ns test.becomes
              (pass (unnamed h ns old says first.0 r refl) (pass (unnamed h ns old says first.1.0 u refl) (join h ns turns.becomes block.becomes)))));
          spells = grammar.loop p q test.spells r u turns.spells block.spells;
        }
    stmt_as (grammar.repeat {w = w} p n s) f k more =
        let behind = fates_behind h ns old says (behind-count n) f.1 in
        let block = braces_as s behind k more in
        let turns = count_as n f.1 block.new in
        record {
          new = kept h ns w ∷ turns.new;
          becomes = pass (unnamed h ns old says f.0 p refl) (join h ns turns.becomes block.becomes);
          spells = grammar.repeat p turns.spells block.spells;
        }

    braces_as : {ts rest : List Token} {b : Block} → Braces old ts rest b → Fates ts → Kinds (block_marks b) → (more : List Token)
        → Carried h ns (Braces says) ts rest more (renamed_block (by_names h ns) b)
    braces_as (grammar.braces {b = b} p s) f k more =
        let inside = stmts_as s f.1 k more in
        record { new = kept h ns b ∷ inside.new; becomes = pass (unnamed h ns old says f.0 p refl) inside.becomes; spells = grammar.braces p inside.spells }

    stmts_as : {ts rest : List Token} {b : Block} → Stmts old ts rest b → Fates ts → Kinds (block_marks b) → (more : List Token)
        → Carried h ns (Stmts says) ts rest more (renamed_block (by_names h ns) b)
    stmts_as (grammar.end {c = c} p) f k more = record { new = kept h ns c ∷ more; becomes = pass (unnamed h ns old says f.0 p refl) none; spells = grammar.end p }
    stmts_as (grammar.next {s = s} {b = b} d ds) f k more =
        let parts = each_holds (AsKind ns) (stmt_marks s) (block_marks b) k in
        let others = stmts_as ds (fates_behind h ns old says (behind-stmt d) f) parts.1 more in
        let first = stmt_as d f parts.0 others.new in
        record { new = first.new; becomes = join h ns first.becomes others.becomes; spells = grammar.next first.spells others.spells }

    else_as : {ts rest : List Token} {b : Block} → Else old ts rest b → Fates ts → Kinds (block_marks b) → (more : List Token)
        → Carried h ns (Else says) ts rest more (renamed_block (by_names h ns) b)
    else_as grammar.absent f k more = record { new = more; becomes = none; spells = grammar.absent }
    else_as (grammar.present {w = w} p b) f k more =
        let inside = braces_as b f.1 k more in
        record { new = kept h ns w ∷ inside.new; becomes = pass (unnamed h ns old says f.0 p refl) inside.becomes; spells = grammar.present p inside.spells }

  pub body_as : {ts rest : List Token} {b : Block} → Body old ts rest b → Fates ts → Kinds (block_marks b) → (more : List Token)
      → Carried h ns (Body says) ts rest more (renamed_block (by_names h ns) b)
  body_as (grammar.returns {w = w} {c = c} {d = d} {e = e} p l q r) f k more =
      let fates = fates_behind h ns old says (behind-level l) f.1 in
      let value = level_as h ns old says l f.1 (subst Kinds (append-nil (expr_marks e)) k) (kept h ns c ∷ kept h ns d ∷ more) in
      record {
        new = kept h ns w ∷ value.new;
        becomes = pass (unnamed h ns old says f.0 p refl) (join h ns value.becomes (pass (unnamed h ns old says fates.0 q refl) (pass (unnamed h ns old says fates.1.0 r refl) none)));
        spells = grammar.returns p value.spells q r;
      }
  body_as (grammar.before {s = s} {b = b} d ds) f k more =
      let parts = each_holds (AsKind ns) (stmt_marks s) (block_marks b) k in
      let others = body_as ds (fates_behind h ns old says (behind-stmt d) f) parts.1 more in
      let first = stmt_as d f parts.0 others.new in
      record { new = first.new; becomes = join h ns first.becomes others.becomes; spells = grammar.before first.spells others.spells }
