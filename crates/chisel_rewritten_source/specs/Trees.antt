-- The tree of a source in which open marks are named: the same tree, with its spans moved.
use Rattle.std.specs.Prelude.{◌≡◌, ℕ, ◌+◌, ◌-◌, ◌==◌, ◌≤◌, List, [], ◌∷◌, length, map, find, Option, Ok, option_map, nat_lt, if◌then◌else◌}
use Rattle.std.specs.Option.{option_map_or}
use Rattle.rely_num.specs.Texts.{Bytes}
use Rattle.rely_num.specs.declared.span.Span.{Span}
use Rattle.rely_hard.specs.Valid.{IsHardware}
use Rattle.rely_hard.specs.declared.hardware.Hardware.{Hardware}
use Rattle.rely_kernel.specs.Choice.{IsChoice}
use Rattle.rely_kernel.specs.declared.kernel.Linked.{Linked}
use Rattle.rely_lexer.specs.Readings.{IsReading}
use Rattle.rely_lexer.specs.declared.token.Token.{Token}
use Rattle.rely_tree.specs.Tree.{IdentTree, KindTree, PlainTree, NamedTree, FreeTree, ExprTree, NumTree, NameTree, ElemTree, BinTree, StmtTree, SetTree, SetElemTree, IfTree, WhileTree, RepeatTree, ReturnTree, CallTree, Block, ended, also, DeclTree, SaidTree, FuncTree, UnitTree}
use Rattle.rely_parser.specs.Counts.{nothing, AllWithin}
use Rattle.rely_parser.specs.Productions.{Spelled}
use Rattle.rely_parser.specs.Units.{unit_of}
use Rattle.rely_resolve.specs.Reached.{IsLinkedBy}
use Rattle.chisel_rewrite.specs.Namings.{mark_of, namings}
use Rattle.chisel_rewrite.specs.Texts.{name_of, rewritten, text_of}
use Rattle.chisel_rewrite.specs.declared.naming.Naming.{Naming}
use Rattle.chisel_rewritten_source.specs.Tokens.{named_tokens}

-- ---- places

-- how many bytes more stand before a place of the source once these marks, in rising places, are named
abbrev pub added_before : Hardware → List Naming → ℕ → ℕ
added_before h [] place = 0
added_before h (n ∷ ns) place = if nat_lt (mark_of n).from place then length (text_of h n) - 1 + added_before h ns place else 0

-- a span that begins at a place moves with the place
abbrev pub moved_span : Hardware → List Naming → Span → Span
moved_span h ns span = record { from = span.from + added_before h ns span.from; to = span.to + added_before h ns span.from }

-- ---- marks

-- what the mark at a place is named with, if it is
abbrev pub naming_at : List Naming → ℕ → Option Naming
naming_at ns place = find (λ n. (mark_of n).from == place) ns

-- the name behind the byte in front of it, at a place of the rewritten text
abbrev pub name_at : Hardware → ℕ → Naming → IdentTree
name_at h place n = record { text = name_of h n; span = record { from = place + 1; to = place + 1 + length (name_of h n) } }

-- what a mark gives way to: a name, or the same mark, moved
abbrev pub named_mark : Hardware → List Naming → Span → KindTree
named_mark h ns mark =
    option_map_or (λ n. NamedTree (name_at h (mark.from + added_before h ns mark.from) n)) (naming_at ns mark.from) (FreeTree (moved_span h ns mark))

-- ---- trees

-- where spans move, and what open marks give way to
pub record Renaming : Type 0 where
  pub at : Span → Span
  pub mark : Span → KindTree

abbrev pub renamed_ident : Renaming → IdentTree → IdentTree
renamed_ident r i = record { text = i.text; span = r.at i.span }

abbrev pub renamed_kind : Renaming → KindTree → KindTree
renamed_kind r PlainTree = PlainTree
renamed_kind r (NamedTree i) = NamedTree (renamed_ident r i)
renamed_kind r (FreeTree span) = r.mark span

abbrev pub renamed_expr : Renaming → ExprTree → ExprTree
renamed_expr r (NumTree n) = NumTree n
renamed_expr r (NameTree i) = NameTree (renamed_ident r i)
renamed_expr r (ElemTree i e) = ElemTree (renamed_ident r i) (renamed_expr r e)
renamed_expr r (BinTree op span kind left right) = BinTree op (r.at span) (renamed_kind r kind) (renamed_expr r left) (renamed_expr r right)

abbrev mutual
  pub renamed_stmt : Renaming → StmtTree → StmtTree
  renamed_stmt r (SetTree at i e) = SetTree (r.at at) (renamed_ident r i) (renamed_expr r e)
  renamed_stmt r (SetElemTree at i x e) = SetElemTree (r.at at) (renamed_ident r i) (renamed_expr r x) (renamed_expr r e)
  renamed_stmt r (IfTree at e s t) = IfTree (r.at at) (renamed_expr r e) (renamed_block r s) (renamed_block r t)
  renamed_stmt r (WhileTree at e most s) = WhileTree (r.at at) (renamed_expr r e) most (renamed_block r s)
  renamed_stmt r (RepeatTree at turns s) = RepeatTree (r.at at) turns (renamed_block r s)
  renamed_stmt r (ReturnTree at e) = ReturnTree (r.at at) (renamed_expr r e)
  renamed_stmt r (CallTree at i word callee es) = CallTree (r.at at) (renamed_ident r i) (r.at word) (renamed_ident r callee) (map (renamed_expr r) es)

  pub renamed_block : Renaming → Block → Block
  renamed_block r ended = ended
  renamed_block r (also s rest) = also (renamed_stmt r s) (renamed_block r rest)

abbrev pub renamed_decl : Renaming → DeclTree → DeclTree
renamed_decl r d = record { name = renamed_ident r d.name; length = d.length; memory = renamed_kind r d.memory }

abbrev pub renamed_said : Renaming → SaidTree → SaidTree
renamed_said r c = record { target = option_map (renamed_ident r) c.target; bound = c.bound; needs = map (renamed_ident r) c.needs }

abbrev pub renamed_func : Renaming → FuncTree → FuncTree
renamed_func r f = record {
  name = renamed_ident r f.name;
  params = map (renamed_decl r) f.params;
  locals = map (renamed_decl r) f.locals;
  claims = map (renamed_said r) f.claims;
  body = renamed_block r f.body;
}

abbrev pub renamed_unit : Renaming → UnitTree → UnitTree
renamed_unit r u = record { functions = map (renamed_func r) u.functions }

-- ---- the law

-- spans move behind the names, and the marks that are named give way to these
abbrev pub by_names : Hardware → List Naming → Renaming
by_names h ns = record { at = moved_span h ns; mark = named_mark h ns }

-- that of a kernel's own choice
abbrev pub by_choice : Hardware → Linked → List ℕ → Renaming
by_choice h l choice = by_names h (namings l.kernel choice)

-- the tokens of the rewritten source spell the renamed tree of the source
pub record IsReparsed (text : Bytes) (tokens : List Token) (u : UnitTree) (h : Hardware) (l : Linked) (choice : List ℕ) : Type 0 where
  pub spelled : Spelled (rewritten text l.kernel h choice) (named_tokens h 0 (namings l.kernel choice) tokens) (renamed_unit (by_choice h l choice) u)
  pub within : AllWithin nothing tokens → AllWithin nothing (named_tokens h 0 (namings l.kernel choice) tokens)
  pub parsed :
      unit_of text tokens ≡ Ok u
      → unit_of (rewritten text l.kernel h choice) (named_tokens h 0 (namings l.kernel choice) tokens) ≡ Ok (renamed_unit (by_choice h l choice) u)

abbrev pub KernelReparsedAsNamed : Type 0
KernelReparsedAsNamed =
    (text : Bytes) (tokens : List Token) (u : UnitTree) (h : Hardware) (name : Bytes) (l : Linked) (choice : List ℕ)
    → IsHardware h → IsReading text (Ok tokens) → Spelled text tokens u → IsLinkedBy h u name l → IsChoice l.kernel h choice
    → length (rewritten text l.kernel h choice) ≤ 65536 → IsReparsed text tokens u h l choice
