-- The kernel that a function means: its names as numbers.
use Rattle.std.specs.Prelude.{ℕ, ◌+◌, pos, Bool, true, false, List, [], ◌∷◌, ◌++◌, map, slice_get, Option, option_and_then}
use Rattle.std.specs.Option.{option_map_or}
use Rattle.rely_num.specs.Bounds.{S}
use Rattle.rely_num.specs.Sets.{only, union}
use Rattle.rely_num.specs.Texts.{Bytes}
use Rattle.rely_num.specs.declared.op.Op.{Op}
use Rattle.rely_num.specs.declared.span.Span.{Span}
use Rattle.rely_hard.specs.declared.hardware.Hardware.{Hardware}
use Rattle.rely_hard.specs.Valid.{exact}
use Rattle.rely_kernel.specs.declared.kernel.CallSite.{CallSite}
use Rattle.rely_kernel.specs.declared.kernel.Claim.{Claim}
use Rattle.rely_kernel.specs.declared.kernel.Ex.{Ex}
use Rattle.rely_kernel.specs.declared.kernel.Ex.TheVariants as ex
use Rattle.rely_kernel.specs.declared.kernel.Kernel.{Kernel}
use Rattle.rely_kernel.specs.declared.kernel.Site.{Site}
use Rattle.rely_kernel.specs.declared.kernel.Slot.{Slot}
use Rattle.rely_kernel.specs.declared.kernel.Slot.TheVariants.{Named, Free}
use Rattle.rely_kernel.specs.declared.kernel.St.{St}
use Rattle.rely_kernel.specs.declared.kernel.StKind.{StKind}
use Rattle.rely_kernel.specs.declared.kernel.StKind.TheVariants as st
use Rattle.rely_kernel.specs.declared.kernel.Var.{Var}
use Rattle.rely_kernel.specs.Setting.{kinds_of}
use Rattle.rely_kernel.specs.Valid.{claim_in_use}
use Rattle.rely_tree.specs.Tree.{IdentTree, KindTree, PlainTree, NamedTree, FreeTree, ExprTree, NumTree, NameTree, ElemTree, BinTree, StmtTree, SetTree, SetElemTree, IfTree, WhileTree, RepeatTree, ReturnTree, CallTree, Block, ended, also, DeclTree, SaidTree, FuncTree, variables}
use Rattle.rely_tree.specs.Counts.{expr_operators, stmt_operators, block_operators, stmt_calls, block_calls}
use Rattle.rely_resolve.specs.Names.{number_of, names, function_names, memory_names, kind_names}

-- ---- kinds and memories

-- the span of nothing
abbrev pub nowhere : Span
nowhere = record { from = 0; to = 0 }

-- the one of that name, the one named exact where none is written
abbrev pub slot_of : List Bytes → KindTree → Slot
slot_of listed PlainTree = Named (number_of exact listed)
slot_of listed (NamedTree i) = Named (number_of i.text listed)
slot_of listed (FreeTree span) = Free

-- the `?` where it is open
abbrev pub mark_of : KindTree → Span
mark_of PlainTree = nowhere
mark_of (NamedTree i) = nowhere
mark_of (FreeTree span) = span

abbrev pub site_of : Hardware → Op → KindTree → Site
site_of h op kind = record { op = op; kind = slot_of (kind_names (kinds_of h op)) kind; mark = mark_of kind }

abbrev pub var_of : Hardware → Bool → DeclTree → Var
var_of h param d = record {
  name = d.name.text;
  length = d.length;
  param = param;
  memory = slot_of (memory_names h.memories) d.memory;
  mark = mark_of d.memory;
}

-- ---- expressions

-- an expression whose first operator is the site n; vs are the names of the variables
abbrev pub ex_of : List Bytes → ℕ → ExprTree → Ex
ex_of vs n (NumTree z) = ex.Num (pos z)
ex_of vs n (NameTree i) = ex.Read (number_of i.text vs)
ex_of vs n (ElemTree i e) = ex.Elem (number_of i.text vs) (ex_of vs n e)
ex_of vs n (BinTree op span kind l r) = ex.Bin (n + expr_operators l) (ex_of vs n l) (ex_of vs (n + expr_operators l + 1) r)

abbrev pub exs_of : List Bytes → ℕ → List ExprTree → List Ex
exs_of vs n [] = []
exs_of vs n (e ∷ es) = ex_of vs n e ∷ exs_of vs (n + expr_operators e) es

-- its sites, in order of the operators
abbrev pub expr_sites : Hardware → ExprTree → List Site
expr_sites h (NumTree z) = []
expr_sites h (NameTree i) = []
expr_sites h (ElemTree i e) = expr_sites h e
expr_sites h (BinTree op span kind l r) = expr_sites h l ++ site_of h op kind ∷ expr_sites h r

abbrev pub exprs_sites : Hardware → List ExprTree → List Site
exprs_sites h [] = []
exprs_sites h (e ∷ es) = expr_sites h e ++ exprs_sites h es

-- ---- statements

-- statements whose first operator is the site n, and whose first call is the call place c
abbrev mutual
  pub kind_of : List Bytes → ℕ → ℕ → StmtTree → StKind
  kind_of vs n c (SetTree at i e) = st.Set (number_of i.text vs) (ex_of vs n e)
  kind_of vs n c (SetElemTree at i x e) = st.SetElem (number_of i.text vs) (ex_of vs n x) (ex_of vs (n + expr_operators x) e)
  kind_of vs n c (IfTree at e s t) =
      st.If (ex_of vs n e) (sts_of vs (n + expr_operators e) c s) (sts_of vs (n + expr_operators e + block_operators s) (c + block_calls s) t)
  kind_of vs n c (WhileTree at e most s) = st.While (ex_of vs n e) most (sts_of vs (n + expr_operators e) c s)
  kind_of vs n c (RepeatTree at turns s) = st.Repeat turns (sts_of vs n c s)
  kind_of vs n c (ReturnTree at e) = st.Result (ex_of vs n e)
  kind_of vs n c (CallTree at i word callee es) = st.Call (number_of i.text vs) c (exs_of vs n es)

  pub sts_of : List Bytes → ℕ → ℕ → Block → List St
  sts_of vs n c ended = []
  sts_of vs n c (also s rest) = record { at = start_of s; what = kind_of vs n c s } ∷ sts_of vs (n + stmt_operators s) (c + stmt_calls s) rest

  -- the first token
  pub start_of : StmtTree → Span
  start_of (SetTree at i e) = at
  start_of (SetElemTree at i x e) = at
  start_of (IfTree at e s t) = at
  start_of (WhileTree at e most s) = at
  start_of (RepeatTree at turns s) = at
  start_of (ReturnTree at e) = at
  start_of (CallTree at i word callee es) = at

-- their sites, in order of the operators
abbrev mutual
  pub stmt_sites : Hardware → StmtTree → List Site
  stmt_sites h (SetTree at i e) = expr_sites h e
  stmt_sites h (SetElemTree at i x e) = expr_sites h x ++ expr_sites h e
  stmt_sites h (IfTree at e s t) = expr_sites h e ++ block_sites h s ++ block_sites h t
  stmt_sites h (WhileTree at e most s) = expr_sites h e ++ block_sites h s
  stmt_sites h (RepeatTree at turns s) = block_sites h s
  stmt_sites h (ReturnTree at e) = expr_sites h e
  stmt_sites h (CallTree at i word callee es) = exprs_sites h es

  pub block_sites : Hardware → Block → List Site
  block_sites h ended = []
  block_sites h (also s rest) = stmt_sites h s ++ block_sites h rest

-- ---- calls

-- reached functions in order of the unit: their names, and as many kernels
pub record Done : Type 0 where
  pub names : List Bytes
  pub kernels : List Kernel

abbrev pub done_of : List FuncTree → List Kernel → Done
done_of functions kernels = record { names = function_names functions; kernels = kernels }

-- the call place of a callee: its place, and the bound and the needs of its claim in use
abbrev pub called : ℕ → Span → Option Claim → CallSite
called g word claim = record {
  callee = g;
  bound = option_map_or (λ c. c.bound) claim S;
  needs = option_map_or (λ c. c.needs) claim (record { bits = 0 });
  mark = word;
}

abbrev pub call_site : Done → Span → IdentTree → CallSite
call_site done word callee =
    let g = number_of callee.text done.names in
    called g word (option_and_then claim_in_use (slice_get done.kernels g))

-- the call places, in order of the text
abbrev mutual
  pub stmt_sites_called : Done → StmtTree → List CallSite
  stmt_sites_called done (SetTree at i e) = []
  stmt_sites_called done (SetElemTree at i x e) = []
  stmt_sites_called done (IfTree at e s t) = block_sites_called done s ++ block_sites_called done t
  stmt_sites_called done (WhileTree at e most s) = block_sites_called done s
  stmt_sites_called done (RepeatTree at turns s) = block_sites_called done s
  stmt_sites_called done (ReturnTree at e) = []
  stmt_sites_called done (CallTree at i word callee es) = call_site done word callee ∷ []

  pub block_sites_called : Done → Block → List CallSite
  block_sites_called done ended = []
  block_sites_called done (also s rest) = stmt_sites_called done s ++ block_sites_called done rest

-- ---- claims

-- a set with the named parameters
abbrev pub needs_of : List Bytes → ℕ → List IdentTree → ℕ
needs_of params set [] = set
needs_of params set (i ∷ is) = needs_of params (union set (only (number_of i.text params))) is

-- 63 is the result
abbrev pub claim_of : List Bytes → SaidTree → Claim
claim_of params c = record {
  target = option_map_or (λ i. number_of i.text params) c.target 63;
  bound = c.bound;
  needs = record { bits = needs_of params 0 c.needs };
}

-- ---- functions

-- the kernel of a function that calls some of these
abbrev pub kernel_of : Hardware → Done → FuncTree → Kernel
kernel_of h done f = record {
  name = f.name.span;
  vars = map (var_of h true) f.params ++ map (var_of h false) f.locals;
  sites = block_sites h f.body;
  calls = block_sites_called done f.body;
  body = sts_of (names (variables f)) 0 0 f.body;
  claims = map (claim_of (names f.params)) f.claims;
}
